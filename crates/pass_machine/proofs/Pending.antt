-- What is under way with a row that is settled, behind each step.
use Rattle.std.proofs.Common.{◌≡◌, ◌∙◌, ◌==◌, ◌&&◌, not, ◌+◌, ℕ, Bool, true, false, Option, Some, None, refl, sym, ap, subst, nat_lt, eq-eqb, if◌then◌else◌}
use Rattle.std.specs.Prelude.{is_some}
use Rattle.std.specs.List.{find}
use Rattle.std.specs.BTreeMap.{BTreeMap}
use Rattle.bucket_ids.specs.Buckets.{Low}
use Rattle.cluster_states.specs.Publishing.{serves}
use Rattle.messages.specs.declared.body.Body.{Body}
use Rattle.messages.specs.declared.body.Body.TheVariants as body
use Rattle.messages.specs.declared.decision.Decision.{Decision}
use Rattle.messages.specs.declared.decision.Decision.TheVariants.{ActiveOn, DeleteFrom, DeleteOver as DeleteIsOver}
use Rattle.bucket_db.specs.Changes.{after_delete}
use Rattle.bucket_db.specs.declared.row.Row.{Row}
use Rattle.bucket_db.specs.declared.row.Deleting.{Deleting as Delete}
use Rattle.pass_model.specs.Nodes.{Node}
use Rattle.pass_model.specs.Shapes.{Shape, Same}
use Rattle.pass_model.specs.Rows.{Settings}
use Rattle.pass_model.specs.Passes.{World}
use Rattle.pass_machine.specs.declared.doing.Time.{Time}
use Rattle.pass_machine.specs.declared.doing.Settle.{Settle}
use Rattle.pass_machine.specs.declared.doing.Settle.TheVariants as settle
use Rattle.pass_machine.specs.declared.doing.Doing.{Doing}
use Rattle.pass_machine.specs.declared.doing.UpkeepStep.{UpkeepStep}
use Rattle.pass_machine.specs.declared.doing.UpkeepStep.TheVariants as step
use Rattle.pass_machine.specs.declared.doing.Turn.TheVariants.{Over, Says}
use Rattle.pass_machine.specs.declared.notes.Exact.{Exact}
use Rattle.pass_machine.specs.declared.notes.RowNote.{RowNote}
use Rattle.pass_machine.specs.Settling.{activate_or, tell_active, delete_or, tell_delete, unanswered, next_node, serial_to_lose, serial_among, serial_of, are_enough}
use Rattle.pass_machine.specs.Turns.{View, is_target, settle_turn, answered_row}
use Rattle.pass_machine.specs.Abstract.{shape_in, Pends, IsPlace, answer_of, after_decision}
use Rattle.pass_machine.proofs.Allowing.{less, if-none}
use Rattle.proof_basics.proofs.Options.{if-some}
use Rattle.pass_machine.proofs.SettleTurns.{find-in}

-- ---- what was said

tells-some : (b : Low) (accepted : Bool) (x : Option ℕ) (f : ℕ → Bool) (next : Doing) (y : UpkeepStep) → tell_active b accepted x f next ≡ Says y → is_some x ≡ true
tells-some b accepted None f next y h = absurd (cc)
tells-some b accepted (Some n) f next y h = refl

ends-by-any : (x : Option Delete) (f : ℕ → Bool) (next : Doing) (n : ℕ) (b : Body) → tell_delete x f next ≡ Says (step.Tell n b) → (y : Node) → answer_of b y ≡ true
ends-by-any None f next n b h = absurd (cc)
ends-by-any (Some d) f next n b h = by_test (f d.node) h
  where
    by_test : (t : Bool) → (if t then Says (step.Tell d.node (body.Delete d.bucket d.serial)) else Over next) ≡ Says (step.Tell n b) → (y : Node) → answer_of b y ≡ true
    by_test true e = λ y. let same : body.Delete d.bucket d.serial ≡ b = cc in ap (λ (c : Body). answer_of c y) (sym same)
    by_test false e = absurd (cc)

activates-as : (k : ℕ) (c : Low) (x : Option ℕ) (next : Doing) (at : ℕ) (y : Decision) (marks : ℕ) (r : Row) → activate_or k c x next ≡ Says (step.Decide at y) → (after_decision marks y r).deleting ≡ r.deleting
activates-as k c None next at y marks r h = absurd (cc)
activates-as k c (Some n) next at y marks r h = let same : ActiveOn c n ≡ y = cc in ap (λ (z : Decision). (after_decision marks z r).deleting) (sym same)

module _ (v : View) (s : Settings) (made : BTreeMap ℕ (Unit {0})) (w : World) (t : Time) (at : ℕ) (r : Row) (note : RowNote) (shown : ℕ → Shape) where
  -- behind a message
  pub pends_told : (next : Settle) → IsPlace v s w at r note shown next → (n : ℕ) (b : Body) → settle_turn v made t at r note next ≡ Says (step.Tell n b) → (x : Node) → Pends (serves v.state) (answered_row v at (answer_of b x) next) shown r
  pends_told settle.Beginning p n b h x = p.pends
  pends_told (settle.Aligning m any) p n b h x = p.pends
  pends_told settle.AlignRound p n b h x = p.pends
  pends_told (settle.Readying m ready) p n b h x = p.pends
  pends_told (settle.Deciding ready) p n b h x = p.pends
  pends_told settle.Activating p n b h x = (p.pends, λ yes_taken. tells-some r.bucket r.accepted r.active (serves v.state) _ _ h)
  pends_told (settle.Accepting accepted) p n b h x = p.pends
  pends_told (settle.Deleting m) p n b h x = p.pends
  pends_told (settle.DeleteTold m) p n b h x =
      subst (λ (u : Bool). Pends (serves v.state) (if u then settle.DeleteOver m else settle.Deleting (m + 1)) shown r) (sym (ends-by-any (unanswered r m) (serves v.state) (next_node t at m) n b h x))
      ((p.pends).0, (p.pends).1, (p.pends).4)
  pends_told (settle.DeleteOver m) p n b h x = p.pends

  -- behind a decision
  pub pends_active : (ready : Bool) → IsPlace v s w at r note shown (settle.Deciding ready) → (y : Decision) → settle_turn v made t at r note (settle.Deciding ready) ≡ Says (step.Decide at y) → (marks : ℕ)
      → Pends (serves v.state) settle.Activating shown (after_decision marks y r)
  pends_active ready p y h marks = activates-as at r.bucket _ _ at y marks r h ∙ p.pends

  pub pends_deleted : (n : ℕ) → IsPlace v s w at r note shown (settle.Deleting n) → (y : Decision) → settle_turn v made t at r note (settle.Deleting n) ≡ Says (step.Decide at y) → (marks : ℕ)
      → Pends (serves v.state) (settle.DeleteTold n) shown (after_decision marks y r)
  pends_deleted n p y h marks = by_serial (if nat_lt n 32 then serial_to_lose r note (is_target v r n) (v.rules).acks n else None) refl h
    where
      by_exact : (o : Option Exact) (k : ℕ) → find (λ (z : Exact). z.node == n) note.exact.items ≡ o → serial_of o ≡ Some k → (shown n ≡ Same k) × (serves v.state n ≡ true)
      by_exact None k e f = absurd (cc)
      by_exact (Some z) k e f =
          let same : z.serial ≡ k = cc in
          let x = find-in n note.exact.items z e in
          let serve : serves v.state n ≡ true = subst (λ (m : ℕ). serves v.state m ≡ true) x.1 ((p.parted).exact z x.0).0 in
          ((p.shows) n serve ∙ (ap (λ (o : Option Exact). shape_in o note n) e ∙ ap (λ (m : ℕ). Same m) same), serve)

      by_serial : (x : Option ℕ) → (if nat_lt n 32 then serial_to_lose r note (is_target v r n) (v.rules).acks n else None) ≡ x → delete_or at r.bucket n x (next_node t at n) ≡ Says (step.Decide at y) → Pends (serves v.state) (settle.DeleteTold n) shown (after_decision marks y r)
      by_serial None e f = absurd (cc)
      by_serial (Some k) e f =
          let a = if-some (nat_lt n 32) (serial_to_lose r note (is_target v r n) (v.rules).acks n) k e in
          let b = if-none (is_some r.deleting) (if not (is_target v r n) && are_enough (v.rules).acks r note n then serial_among note.exact.items n else None) k a.1 in
          let c = if-some (not (is_target v r n) && are_enough (v.rules).acks r note n) (serial_among note.exact.items n) k b.1 in
          let x = by_exact (find (λ (z : Exact). z.node == n) note.exact.items) k refl c.1 in
          let same : DeleteFrom r.bucket n k ≡ y = cc in
          subst (λ (z : Decision). Pends (serves v.state) (settle.DeleteTold n) shown (after_decision marks z r)) same (k, refl, x.0, x.1, less n 32 a.0)

  pub pends_over : (n : ℕ) → IsPlace v s w at r note shown (settle.DeleteOver n) → (marks : ℕ) → Pends (serves v.state) (settle.Deleting (n + 1)) shown (after_decision marks (DeleteIsOver r.bucket n) r)
  pends_over n p marks =
      ap (λ (o : Option Delete). after_delete r.bucket n o) (p.pends).1
      ∙ ap (λ (u : Bool). if u then None else Some (record { bucket = r.bucket; node = n; serial = (p.pends).0 })) (test-true (eq-eqb r.bucket.bits r.bucket.bits refl) (eq-eqb r.bucket.low r.bucket.low refl) (eq-eqb n n refl))
    where
      test-true : {a b c : Bool} → a ≡ true → b ≡ true → c ≡ true → ((a && b) && c) ≡ true
      test-true {a} {b} {c} e f g = ap (λ (u : Bool). (u && b) && c) e ∙ (ap (λ (u : Bool). u && c) f ∙ g)
