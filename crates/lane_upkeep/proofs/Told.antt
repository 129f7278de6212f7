-- What is known behind a message: what came back of it.
use Rattle.std.proofs.Common.{◌≡◌, ◌∙◌, ◌+◌, ℕ, Bool, true, false, List, Option, Some, None, refl, sym, ap, subst, slice_get, eqb-true, if◌then◌else◌}
use Rattle.std.specs.Prelude.{IfSome}
use mathlib.Core.Bool.{true≢false}
use Rattle.bucket_ids.specs.Buckets.{Low}
use Rattle.messages.specs.declared.body.Body.{Body}
use Rattle.messages.specs.declared.body.Body.TheVariants as body
use Rattle.messages.specs.declared.reply.Reply.{Reply}
use Rattle.bucket_db.specs.declared.row.Row.{Row}
use Rattle.bucket_db.specs.declared.row.Deleting.{Deleting as Delete}
use Rattle.distributor_part.specs.Targets.{IsToBeActive}
use Rattle.lane_journals.specs.Facts.{AnsweredReady}
use Rattle.lane_journals.specs.Meanings.{history}
use Rattle.lane_rest.specs.Targets.{is_active}
use Rattle.row_keeping.specs.Deciding.{IsDeleteOver}
use Rattle.lane_states.specs.declared.lane_state.LaneState.{LaneState}
use Rattle.lane_states.specs.LaneStates.{journal_of}
use Rattle.pass_machine.specs.declared.doing.Settle.TheVariants as settle
use Rattle.pass_machine.specs.declared.doing.Doing.{Doing}
use Rattle.pass_machine.specs.declared.doing.Doing.TheVariants.{ResendingDelete, ResentDelete, ResendingActivate, JoinTold, SplitTold, Settling}
use Rattle.pass_machine.specs.Turns.{View, to_be_active_in, is_to_be_active, answered}
use Rattle.pass_machine.specs.Going.{IsTellingRow}
use Rattle.pass_machine.proofs.Ideals.{to-be}
use Rattle.lane_upkeep.specs.declared.owner.Owner.{Owner}
use Rattle.lane_upkeep.specs.CameBack.{CameBack, is_taken, is_end}
use Rattle.lane_upkeep.specs.Passing.{PassesOn, rows_in, HasRow}
use Rattle.lane_upkeep.specs.UnderWay.{view_in, AreIdeal, OfRow, IsReadied, IsRowOver, IsRowAccepted, HasBucket, KnowsDoing, is_taken_as}
use Rattle.lane_upkeep.proofs.Accepted.{active_of}
use Rattle.lane_upkeep.proofs.Going.{ready_stays}
use Rattle.lane_upkeep.proofs.Replies.{one_row, ready_of, over_of}
use Rattle.lane_upkeep.proofs.UnderWay.{IsDeleteAt, IsActivateAt, IsReadyAt, TellsOf}

module _ (ideal : Low → List ℕ) (c e : LaneState) (o : Owner) (are : AreIdeal o ideal) (on : PassesOn c e o) (rows : rows_in e o ≡ rows_in c o)
    (n : ℕ) (b : Body) (reply : Option Reply) (came : IfSome reply (λ r. CameBack (journal_of e) o n b r)) (taken : Bool) (is : taken ≡ is_taken_as b reply) where
  abbrev v : View
  v = view_in ideal e o

  -- a row is the one that it was
  row-was : (at : ℕ) (r s : Row) → HasRow c o at r → HasRow e o at s → r ≡ s
  row-was at r s before after = one_row c o at r s before (ap (λ (l : List Row). slice_get l at) (sym rows) ∙ after)

  has-bucket : (q : Low) → HasBucket c o q → HasBucket e o q
  has-bucket q (at, r, found, same) = (at, r, ap (λ (l : List Row). slice_get l at) rows ∙ found, same)

  -- the reply to this message
  came-of : (m : ℕ) (x : Body) → n ≡ m → b ≡ x → IfSome reply (λ r. CameBack (journal_of e) o m x r)
  came-of m x to what = subst (λ (k : ℕ). IfSome reply (λ r. CameBack (journal_of e) o k x r)) to (subst (λ (y : Body). IfSome reply (λ r. CameBack (journal_of e) o n y r)) what came)

  over-then : (at : ℕ) → IsDeleteAt c o at n b → taken ≡ true → OfRow e o at (IsRowOver e o)
  over-then at (r, found, d, deleting, to, what) t s after =
      let ends : is_end reply ≡ true = sym (is ∙ ap (λ (x : Body). is_taken_as x reply) what) ∙ t in
      let over : IsDeleteOver (history (journal_of e)) o.state d = over_of (journal_of e) o d reply ends (came-of d.node (body.Delete d.bucket d.serial) to what) in
      subst (λ (x : Row). IfSome x.deleting (λ y. IsDeleteOver (history (journal_of e)) o.state y)) (row-was at r s found after)
      (subst (λ (x : Option Delete). IfSome x (λ y. IsDeleteOver (history (journal_of e)) o.state y)) (sym deleting) over)

  accepted-then : (at : ℕ) → IsActivateAt c o at n b → taken ≡ true → OfRow e o at (IsRowAccepted e o)
  accepted-then at (r, found, active, what) t s after =
      let took : is_taken reply ≡ true = sym (is ∙ ap (λ (x : Body). is_taken_as x reply) what) ∙ t in
      subst (λ (x : Row). IsRowAccepted e o x) (row-was at r s found after)
      (record { node = n; active = active; keys = active_of (journal_of e) o n r.bucket reply took (came-of n (body.Activate r.bucket) refl what) })

  -- the node that is to be active is just the one that the machine asks for
  to-be-node : (at : ℕ) (s : Row) (m : ℕ) → HasRow e o at s → IsToBeActive o.state s.bucket s.complete s.active m → to_be_active_in v (slice_get v.rows at) ≡ Some m
  to-be-node at s m after h =
      ap (to_be_active_in v) after ∙ to-be s.bucket o.state s.complete (ideal s.bucket) (are s.bucket) s.active m h

  active-same : (x : Option ℕ) (m k : ℕ) → x ≡ Some m → is_active x k ≡ true → k ≡ m
  active-same None m k f h = absurd (true≢false (sym h))
  active-same (Some j) m k f h = let same : j ≡ m = cc in sym (eqb-true j k h) ∙ same

  readied-then : (at m : ℕ) (ready : Bool) → IsReadyAt c o at m n b → (ready ≡ true → OfRow c o at (IsReadied c o)) → (if is_to_be_active v at m then taken else ready) ≡ true → OfRow e o at (IsReadied e o)
  readied-then at m ready (r, found, to, what) before t s after k h = by_test (is_to_be_active v at m) refl t
    where
      same : r ≡ s
      same = row-was at r s found after

      now-ready : m ≡ k → taken ≡ true → AnsweredReady (o.state).version k s.bucket (history (journal_of e))
      now-ready node took-it =
          let took : is_taken reply ≡ true = sym (is ∙ ap (λ (x : Body). is_taken_as x reply) what) ∙ took-it in
          subst (λ (x : Row). AnsweredReady (o.state).version k x.bucket (history (journal_of e))) same
          (ready_of (journal_of e) o k r.bucket reply took (came-of k (body.Ready r.bucket) (to ∙ node) what))

      was-ready : ready ≡ true → AnsweredReady (o.state).version k s.bucket (history (journal_of e))
      was-ready was =
          let q : IsToBeActive o.state r.bucket r.complete r.active k = subst (λ (x : Row). IsToBeActive o.state x.bucket x.complete x.active k) (sym same) h in
          ready_stays o.distributor (o.state).version (journal_of c) (journal_of e) on.grows (o.state).version k s.bucket
          (subst (λ (x : Row). AnsweredReady (o.state).version k x.bucket (history (journal_of c))) same (before was r found k q))

      by_test : (x : Bool) → is_to_be_active v at m ≡ x → (if x then taken else ready) ≡ true → AnsweredReady (o.state).version k s.bucket (history (journal_of e))
      by_test true f g = now-ready (active-same (to_be_active_in v (slice_get v.rows at)) k m (to-be-node at s k after h) f) g
      by_test false f g = was-ready g

  delete-then : (at : ℕ) (more less : Doing) → (taken ≡ true → KnowsDoing e o more) → KnowsDoing e o less → KnowsDoing e o (if taken then more else less)
  delete-then at more less k l = by_test taken refl
    where
      by_test : (x : Bool) → taken ≡ x → KnowsDoing e o (if x then more else less)
      by_test true f = k f
      by_test false f = l

  -- what the machine knows then
  pub told_known : (many : ℕ) (d : Doing) → IsTellingRow many d → KnowsDoing c o d → TellsOf c o d n b → KnowsDoing e o (answered v taken d)
  told_known many (ResendingDelete at) i k of = delete-then at (ResentDelete at) (ResendingDelete (at + 1)) (over-then at of) tt
  told_known many (ResendingActivate at) i k of = accepted-then at of
  told_known many (JoinTold t bits at q m) i k of = has-bucket q k
  told_known many (SplitTold at first second m) i k of = has-bucket first k
  told_known many (Settling t at (settle.Aligning m any)) i k of = tt
  told_known many (Settling t at (settle.Readying m ready)) i k of = readied-then at m ready of k
  told_known many (Settling t at settle.Activating) i k of = accepted-then at of
  told_known many (Settling t at (settle.DeleteTold m)) i k of = by_test taken refl
    where
      by_test : (x : Bool) → taken ≡ x → KnowsDoing e o (Settling t at (if x then settle.DeleteOver m else settle.Deleting (m + 1)))
      by_test true f = over-then at of f
      by_test false f = tt
  told_known many _ i k of = absurd i
