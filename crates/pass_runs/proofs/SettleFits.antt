-- What a turn of a row that is settled leaves of it: where it goes over, what comes next, and what a decision makes of it.
use Rattle.std.proofs.Common.{◌≡◌, ◌∙◌, ◌&&◌, not, ◌<◌, ◌+◌, ℕ, Bool, true, false, Option, Some, None, ◌⊎◌, inl, inr, refl, sym, ap, subst, nat_lt, slice_get, if◌then◌else◌}
use Rattle.std.specs.Prelude.{is_some}
use Rattle.std.specs.BTreeMap.{BTreeMap}
use Rattle.cluster_states.specs.Publishing.{serves}
use Rattle.messages.specs.declared.body.Body.{Body}
use Rattle.messages.specs.declared.body.Body.TheVariants as body
use Rattle.messages.specs.declared.decision.Decision.TheVariants.{DeleteFrom}
use Rattle.bucket_db.specs.declared.row.Row.{Row}
use Rattle.bucket_db.specs.declared.row.Deleting.{Deleting as Delete}
use Rattle.pass_model.specs.Shapes.{Shape}
use Rattle.pass_model.specs.Rows.{Settings}
use Rattle.pass_model.specs.Passes.{World}
use Rattle.proof_basics.proofs.Numbers.{lt-to}
use Rattle.pass_machine.specs.declared.doing.Time.{Time}
use Rattle.pass_machine.specs.declared.doing.Settle.{Settle}
use Rattle.pass_machine.specs.declared.doing.Settle.TheVariants as settle
use Rattle.pass_machine.specs.declared.doing.Doing.{Doing}
use Rattle.pass_machine.specs.declared.doing.Doing.TheVariants.{Settling}
use Rattle.pass_machine.specs.declared.doing.UpkeepStep.TheVariants as step
use Rattle.pass_machine.specs.declared.doing.Turn.{Turn}
use Rattle.pass_machine.specs.declared.doing.Turn.TheVariants.{Over, Says}
use Rattle.pass_machine.specs.declared.notes.RowNote.{RowNote}
use Rattle.pass_machine.specs.Settling as steps
use Rattle.pass_machine.specs.Settling.{next_row, next_node, alignment_in, tell_or, activate_or, tell_active, delete_or, tell_delete, end_delete, unanswered, serial_to_lose}
use Rattle.pass_machine.specs.Turns.{View, is_due, is_asked, is_target, to_be_active, beginning, decided_row}
use Rattle.pass_machine.specs.Abstract.{Pends, IsPlace, after_decision}
use Rattle.pass_machine.proofs.Pending.{pends_deleted, pends_over}
use Rattle.pass_runs.specs.Steps.{Changes, IsDecidedBy}
use Rattle.pass_runs.proofs.PlaceChanges.{Decided, active_changes, delete_changes, over_changes}

-- a Delete of a node has no answer
is-pending : (r : Row) (n : ℕ) (d : Delete) → r.deleting ≡ Some d → n < 32 → unanswered r n ≡ Some d
is-pending r n d is small = ap (λ (u : Bool). if u then r.deleting else None) (lt-to n 32 small) ∙ is

module _ (v : View) (s : Settings) (made : BTreeMap ℕ (Unit {0})) (w : World) (t : Time) (at : ℕ) (r : Row) (note : RowNote) (shown : ℕ → Shape) where
  -- the same row goes on, or the next row comes, and this one has no Delete
  abbrev pub GoesTo : Doing → Type 0
  GoesTo e = ((next : Settle) × (e ≡ Settling t at next) × Pends (serves v.state) next shown r) ⊎ ((e ≡ next_row t at) × (r.deleting ≡ None))

  abbrev pub Fits : Settle → Turn → Type 0
  Fits next (Over e) = GoesTo e
  Fits next (Says (step.Tell n b)) = Unit {0}
  Fits next (Says (step.Decide k x)) = (k ≡ at) × ((u : View) → Changes v u (IsDecidedBy at x) → Decided v at r u x)
      × ((marks : ℕ) → Pends (serves v.state) (decided_row next) shown (after_decision marks x r)) × ((marks : ℕ) → (after_decision marks x r).bucket ≡ r.bucket)
  Fits next (Says (step.Accept k)) = (k ≡ at) × Pends (serves v.state) (decided_row next) shown (record r { accepted = true })
  Fits next (Says (step.Round k)) = ⊥
  Fits next (Says step.Finished) = Unit {0}

  module _ (idle : r.deleting ≡ None) where
    pub begin_fits : Fits settle.Beginning (Over (beginning made t at r.bucket))
    begin_fits = by_due (is_due made t r.bucket)
      where
        by_due : (x : Bool) → GoesTo (if x then Settling t at (settle.Aligning 0 false) else next_row t at)
        by_due true = inl (settle.Aligning 0 false, refl, idle)
        by_due false = inr (refl, idle)

    pub align_fits : (n : ℕ) (any : Bool) → Fits (settle.Aligning n any) (steps.aligning t at r.bucket note (serves v.state n) n any)
    align_fits n any = by_test (nat_lt n 32)
      where
        by_body : (o : Option Body) → Fits (settle.Aligning n any) (tell_or n o (Settling t at (settle.Aligning (n + 1) any)))
        by_body None = inl (settle.Aligning (n + 1) any, refl, idle)
        by_body (Some b) = tt

        by_any : (x : Bool) → GoesTo (steps.aligned t at x)
        by_any true = inl (settle.AlignRound, refl, idle)
        by_any false = inl (settle.Readying 0 false, refl, idle)

        by_test : (x : Bool) → Fits (settle.Aligning n any) (if x then tell_or n (if serves v.state n then alignment_in r.bucket note n else None) (Settling t at (settle.Aligning (n + 1) any)) else Over (steps.aligned t at any))
        by_test true = by_body (if serves v.state n then alignment_in r.bucket note n else None)
        by_test false = by_any any

    pub ready_fits : (n : ℕ) (ready : Bool) → Fits (settle.Readying n ready) (steps.readying t at r.bucket (is_asked v r n) n ready)
    ready_fits n ready = by_test (nat_lt n 32) (is_asked v r n)
      where
        by_test : (x y : Bool) → Fits (settle.Readying n ready) (if x then (if y then Says (step.Tell n (body.Ready r.bucket)) else Over (Settling t at (settle.Readying (n + 1) ready))) else Over (Settling t at (settle.Deciding ready)))
        by_test true true = tt
        by_test true false = inl (settle.Readying (n + 1) ready, refl, idle)
        by_test false y = inl (settle.Deciding ready, refl, idle)

    pub decide_fits : (ready : Bool) → slice_get v.rows at ≡ Some r → Fits (settle.Deciding ready) (steps.deciding t at r (to_be_active v r) ready)
    decide_fits ready found = by_node (if ready && not (is_some r.active) then to_be_active v r else None)
      where
        by_node : (o : Option ℕ) → Fits (settle.Deciding ready) (activate_or at r.bucket o (Settling t at settle.Activating))
        by_node None = inl (settle.Activating, refl, idle)
        by_node (Some n) = (refl, λ u c. active_changes v at r found r.bucket n u c, λ marks. idle, λ marks. refl)

    pub activate_fits : Fits settle.Activating (steps.activating t at r (serves v.state))
    activate_fits = by_node r.active
      where
        by_node : (o : Option ℕ) → Fits settle.Activating (tell_active r.bucket r.accepted o (serves v.state) (Settling t at (settle.Deleting 0)))
        by_node None = inl (settle.Deleting 0, refl, idle)
        by_node (Some n) = by_test (not r.accepted && serves v.state n)
          where
            by_test : (x : Bool) → Fits settle.Activating (if x then Says (step.Tell n (body.Activate r.bucket)) else Over (Settling t at (settle.Deleting 0)))
            by_test true = tt
            by_test false = inl (settle.Deleting 0, refl, idle)

    pub accept_fits : (accepted : Bool) → Fits (settle.Accepting accepted) (steps.accepting t at accepted)
    accept_fits true = (refl, idle)
    accept_fits false = inl (settle.Deleting 0, refl, idle)

  pub delete_fits : (n : ℕ) → IsPlace v s w at r note shown (settle.Deleting n) → Fits (settle.Deleting n) (steps.deleting t at r.bucket (if nat_lt n 32 then serial_to_lose r note (is_target v r n) (v.rules).acks n else None) n)
  delete_fits n p = by_serial (if nat_lt n 32 then serial_to_lose r note (is_target v r n) (v.rules).acks n else None) refl
    where
      by_node : (x : Bool) → GoesTo (if x then Settling t at (settle.Deleting (n + 1)) else next_row t at)
      by_node true = inl (settle.Deleting (n + 1), refl, p.pends)
      by_node false = inr (refl, p.pends)

      by_serial : (o : Option ℕ) → (if nat_lt n 32 then serial_to_lose r note (is_target v r n) (v.rules).acks n else None) ≡ o → Fits (settle.Deleting n) (delete_or at r.bucket n o (next_node t at n))
      by_serial None e = by_node (nat_lt n 32)
      by_serial (Some k) e = (
        refl,
        λ u c. delete_changes v at r p.found n k u c,
        λ marks. pends_deleted v s made w t at r note shown n p (DeleteFrom r.bucket n k) (ap (λ (o : Option ℕ). delete_or at r.bucket n o (next_node t at n)) e) marks,
        λ marks. refl,
      )

  pub told_fits : (n : ℕ) → IsPlace v s w at r note shown (settle.DeleteTold n) → Fits (settle.DeleteTold n) (steps.delete_told t at r (serves v.state) n)
  told_fits n p =
      let x = p.pends in
      subst (λ (o : Option Delete). Fits (settle.DeleteTold n) (tell_delete o (serves v.state) (next_node t at n))) (sym (is-pending r n (record { bucket = r.bucket; node = n; serial = x.0 }) x.1 x.4))
      (subst (λ (u : Bool). Fits (settle.DeleteTold n) (if u then Says (step.Tell n (body.Delete r.bucket x.0)) else Over (next_node t at n))) (sym x.3) tt)

  pub over_fits : (n : ℕ) → IsPlace v s w at r note shown (settle.DeleteOver n) → ((k : ℕ) (q : Row) → (k ≡ at → ⊥) → slice_get v.rows k ≡ Some q → q.deleting ≡ None) → Fits (settle.DeleteOver n) (steps.delete_over t at r n)
  over_fits n p others =
      let x = p.pends in
      subst (λ (o : Option Delete). Fits (settle.DeleteOver n) (end_delete at o (next_node t at n))) (sym (is-pending r n (record { bucket = r.bucket; node = n; serial = x.0 }) x.1 x.2))
      (refl, λ u c. over_changes v at r p.found others r.bucket n u c, λ marks. pends_over v s made w t at r note shown n p marks, λ marks. refl)
