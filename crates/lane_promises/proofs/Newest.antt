-- The state that was published last is the newest.
use Rattle.std.proofs.Common.{◌≡◌, ◌==◌, ◌<◌, ◌≤◌, ℕ, Bool, true, false, List, [], ◌∷◌, Option, None, Some, refl, sym, ◌∙◌, subst, arith, if◌then◌else◌}
use Rattle.std.proofs.lemmas.Bool.Decides.{nat_tests}
use Rattle.cluster_states.specs.Publishing.{serves}
use Rattle.cluster_states.specs.declared.cluster_state.ClusterState.{ClusterState}
use Rattle.lane_journals.specs.Readers.{or_else, only_if, published, held}
use Rattle.lane_journals.specs.Legal.{MayPublish}
use Rattle.lane_journals.specs.States.{state_of}
use Rattle.lane_journals.specs.Meanings.{history}
use Rattle.lane_journals.specs.Places.{Setting, state_in}
use Rattle.lane_journals.specs.KeptJournals.{IsLegal}
use Rattle.lane_journals.specs.declared.event.LaneEvent.{LaneEvent}
use Rattle.lane_journals.specs.declared.event.LaneEvent.TheVariants as event
use Rattle.lane_journals.proofs.Meant.{state-published}
use Rattle.lane_keeping.specs.Tidings.{last_state}

-- no state that was published has a greater version, and it is the one of its version
abbrev pub IsNewest : List LaneEvent → ClusterState → Type 0
IsNewest J t = ((w : ℕ) → published w (history J) ≡ true → w ≤ t.version) × (state_in t.version J ≡ Some t)

below_or_own : (v w : ℕ) (old : Bool) → (old ≡ true → w < v) → (if v == w then true else old) ≡ true → w ≤ v
below_or_own v w true below h = let less : w < v = below refl in omega (arith, less)
below_or_own v w false below h = grind (arith, nat_tests)

own_state : (s : ClusterState) (o : Option ClusterState) → o ≡ None → or_else o (only_if (s.version == s.version) s) ≡ Some s
own_state s None h = grind (arith, nat_tests)
own_state s (Some t) h = cc h

none_there : (v : ℕ) (J : List LaneEvent) → (published v (history J) ≡ true → ⊥) → (o : Option ClusterState) → state_in v J ≡ o → state_in v J ≡ None
none_there v J not None is = is
none_there v J not (Some s) is = absurd (not (state-published v J s is))

newest_now : (S : Setting) (J : List LaneEvent) (s : ClusterState) → IsLegal S (event.Published s ∷ J) → IsNewest (event.Published s ∷ J) s
newest_now S J s legal =
    let may : MayPublish S.acks (state_of (history (event.Published s ∷ J))) (history J) s.version (serves s) = legal.1.permitted in
    let new : published s.version (history J) ≡ true → ⊥ = (λ h. let less : s.version < s.version = may.newest s.version h in absurd (omega (arith, less))) in (
      λ w h. below_or_own s.version w (published w (history J)) (may.newest w) h,
      own_state s (state_in s.version J) (none_there s.version J new (state_in s.version J) refl),
    )

same_state : (s t : ClusterState) → Some s ≡ Some t → s ≡ t
same_state s t e = cc

pub newest_is : (S : Setting) (J : List LaneEvent) → IsLegal S J → (t : ClusterState) → last_state J ≡ Some t → IsNewest J t
newest_is S [] legal t h = cc h
newest_is S (e ∷ J) legal t h = by_event e legal (λ old. newest_is S J legal.0 t old) h
  where
    by_event : (e : LaneEvent) → IsLegal S (e ∷ J) → (last_state J ≡ Some t → IsNewest J t) → last_state (e ∷ J) ≡ Some t → IsNewest (e ∷ J) t
    by_event (event.Published s) legal old h = subst (IsNewest (event.Published s ∷ J)) (same_state s t h) (newest_now S J s legal)
    by_event (event.Heard d v) legal old h = old h
    by_event (event.Begun l d v id s) legal old h = old h
    by_event (event.Refused l d x) legal old h = old h
    by_event (event.Opened d v rows) legal old h = old h
    by_event (event.Prepared l b set) legal old h = old h
    by_event (event.Wrote l entry) legal old h = old h
    by_event (event.Sent k v d n b) legal old h = old h
    by_event (event.Delivered k r) legal old h = old h
    by_event (event.Returned k) legal old h = old h
    by_event (event.Closed l x) legal old h = old h
    by_event (event.Decided d v x) legal old h = old h
    by_event (event.Stopped n) legal old h = old h
    by_event (event.Started n) legal old h = old h

-- ---- who holds it

one_version : {a b : ℕ} → Some a ≡ Some b → a ≡ b
one_version e = cc

one_state : (J : List LaneEvent) {v w : ℕ} {s t : ClusterState} → v ≡ w → state_in v J ≡ Some s → state_in w J ≡ Some t → s ≡ t
one_state J is a b = cc

-- the state that a distributor holds is the newest, where it holds that
pub held_newest : (J : List LaneEvent) (d : ℕ) (s t : ClusterState) → IsNewest J t → held d (history J) ≡ Some t.version → held d (history J) ≡ Some s.version → state_in s.version J ≡ Some s → s ≡ t
held_newest J d s t newest is holds there = one_state J (one_version (sym holds ∙ is)) there newest.1
