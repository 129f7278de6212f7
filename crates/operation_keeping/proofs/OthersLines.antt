-- What is read of a line stays over others' events, and so does that its operation is under way at its owner.
use Rattle.std.proofs.Common.{◌≡◌, ◌≢◌, ℕ, Bool, true, false, cond, List, ◌∷◌, Option, Some, None, refl, sym, ap, ◌∙◌, eqb}
use mathlib.Core.Bool.{true≢false}
use Rattle.std.proofs.lemmas.Bool.{eqb-true}
use Rattle.bucket_ids.specs.Buckets.{Low}
use Rattle.stamps.specs.declared.stamp.Stamp.{Stamp}
use Rattle.cluster_states.specs.declared.cluster_state.ClusterState.{ClusterState}
use Rattle.messages.specs.declared.operation.Operation.{Operation}
use Rattle.lane_journals.specs.Buckets.{Id}
use Rattle.lane_journals.specs.Readers.{or_else, only_if, began, prepared, wrote, closed, before_line, held}
use Rattle.lane_journals.specs.Meanings.{history}
use Rattle.lane_journals.specs.Places.{Setting, state_in}
use Rattle.lane_journals.specs.KeptJournals.{IsLegalStep}
use Rattle.lane_journals.specs.declared.event.LaneEvent.{LaneEvent}
use Rattle.lane_journals.specs.declared.event.LaneEvent.TheVariants as event
use Rattle.lane_journals.proofs.Basics.{or_else-some}
use Rattle.lane_keeping.specs.Acting.{IsActing}
use Rattle.proof_basics.proofs.Numbers.{apart}
use Rattle.operation_keeping.specs.OperationKeeping.{IsUnderWay, KnowsPreparing}
use Rattle.operation_keeping.specs.Others.{IsAnothers}

-- ---- what is read by line

or_none : {A : Type 0} (o : Option A) → or_else o None ≡ o
or_none None = refl
or_none (Some x) = refl

passed : {A : Type 0} (l line : ℕ) (o : Option A) (x : A) → l ≢ line → or_else o (only_if (eqb l line) x) ≡ o
passed l line o x off = ap (λ t. or_else o (only_if t x)) (apart l line off) ∙ or_none o

unmet : {A : Type 0} (l line : ℕ) (x y : A) → l ≢ line → cond (eqb l line) x y ≡ y
unmet l line x y off = ap (λ t. cond t x y) (apart l line off)

module _ (line : ℕ) (id : Id) (J : List LaneEvent) where
  pub began-passes : (e : LaneEvent) → IsAnothers line id J e → began line (history (e ∷ J)) ≡ began line (history J)
  began-passes (event.Begun l d v i stamp) off = passed l line (began line (history J)) _ off
  began-passes _ off = refl

  pub prepared-passes : (e : LaneEvent) → IsAnothers line id J e → prepared line (history (e ∷ J)) ≡ prepared line (history J)
  prepared-passes (event.Prepared l b set) off = passed l line (prepared line (history J)) _ off
  prepared-passes _ off = refl

  pub wrote-passes : (e : LaneEvent) → IsAnothers line id J e → wrote line (history (e ∷ J)) ≡ wrote line (history J)
  wrote-passes (event.Wrote l entry) off = unmet l line true (wrote line (history J)) off
  wrote-passes _ off = refl

  pub closed-passes : (e : LaneEvent) → IsAnothers line id J e → closed line (history (e ∷ J)) ≡ closed line (history J)
  closed-passes (event.Closed l outcome) off = unmet l line true (closed line (history J)) off
  closed-passes _ off = refl

  pub before-passes : (e : LaneEvent) → IsAnothers line id J e → before_line line (history (e ∷ J)) ≡ before_line line (history J)
  before-passes (event.Begun l d v i stamp) off = unmet l line (history J) (before_line line (history J)) off
  before-passes _ off = refl

  -- ---- the operation is under way

  module _ (e : LaneEvent) (off : IsAnothers line id J e) (lane : Low) (d : ℕ) (s : ClusterState) (o : Operation) (stamp : Option Stamp) where
    -- at the owner, which hears no other state meanwhile
    pub acting-passes : (S : Setting) → IsLegalStep S J e → IsUnderWay lane (history J) d s line o stamp → IsActing lane J d s → IsActing lane (e ∷ J) d s
    acting-passes S step u a = by_event e step
      where
        by_event : (x : LaneEvent) → IsLegalStep S J x → IsActing lane (x ∷ J) d s
        by_event (event.Heard b v) p = by_test (eqb b d) refl
          where
            by_test : (t : Bool) → eqb b d ≡ t → IsActing lane (event.Heard b v ∷ J) d s
            by_test true is = absurd (true≢false (sym (p.permitted.idle line _ u.begun_as (sym (eqb-true b d is))) ∙ u.unclosed))
            by_test false is = record { holds = ap (λ t. cond t (Some v) (held d (history J))) is ∙ a.holds; published = a.published; owner = a.owner }
        by_event (event.Published t) p = record { holds = a.holds; published = or_else-some (state_in s.version J) _ s a.published; owner = a.owner }
        by_event _ p = record { holds = a.holds; published = a.published; owner = a.owner }

    -- and still is to be prepared
    pub under_way-passes : IsUnderWay lane (history J) d s line o stamp → IsUnderWay lane (history (e ∷ J)) d s line o stamp
    under_way-passes u = record { begun_as = began-passes e off ∙ u.begun_as; unclosed = closed-passes e off ∙ u.unclosed; in_lane = u.in_lane }

    pub preparing-passes : KnowsPreparing lane (history J) d s line o stamp → KnowsPreparing lane (history (e ∷ J)) d s line o stamp
    preparing-passes k = record { is_under_way = under_way-passes k.is_under_way; unprepared = prepared-passes e off ∙ k.unprepared; unwritten = wrote-passes e off ∙ k.unwritten }
