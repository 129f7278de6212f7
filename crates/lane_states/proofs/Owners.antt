-- Operations: who may begin them, and the marks that a close takes.
use Rattle.std.proofs.Common.{◌≡◌, ◌==◌, ℕ, suc, Bool, true, false, List, [], ◌∷◌, Option, Some, None, IfNone, nat_eq, slice_index_or, if◌then◌else◌, refl, ap, subst, arith}
use Rattle.std.specs.List.{count_by}
use Rattle.cluster_states.specs.MarkTests.{is_up}
use Rattle.cluster_states.specs.Publishing.{distributor_fault}
use Rattle.cluster_states.specs.declared.cluster_state.ClusterState.{ClusterState}
use Rattle.cluster_states.specs.declared.marks.Mark.{Mark}
use Rattle.cluster_states.specs.declared.marks.Mark.TheVariants.{Down}
use Rattle.cluster_states.specs.declared.states.PublishFault.TheVariants.{NoDistributor}
use Rattle.proof_basics.proofs.Lists.{one_if, count_cons}
use Rattle.lane_journals.specs.Readers.{or_else, only_if}
use Rattle.lane_journals.specs.Places.{Setting, state_in}
use Rattle.lane_journals.specs.KeptJournals.{IsLegal}
use Rattle.lane_journals.specs.declared.event.LaneEvent.{LaneEvent}
use Rattle.lane_journals.specs.declared.event.LaneEvent.TheVariants.{Published, Heard, Begun, Refused, Opened, Prepared, Wrote, Sent, Delivered, Returned, Closed, Decided, Stopped, Started}

-- ---- the owner

abbrev HasDistributor : ClusterState → Type 0
HasDistributor s = distributor_fault s ≡ None

-- each state that was published has a distributor that is up
module _ (S : Setting) where
  by_first : (v : ℕ) (s t : ClusterState) (o : Option ClusterState) (b : Bool) → (o ≡ Some t → HasDistributor t) → HasDistributor s → or_else o (only_if b s) ≡ Some t → HasDistributor t
  by_first v s t (Some u) b older now e = older e
  by_first v s t None true older now e = let same : s ≡ t = cc in subst HasDistributor same now
  by_first v s t None false older now e = let none : None ≡ Some t = e in cc

  pub distributor-there : (J : List LaneEvent) → IsLegal S J → (v : ℕ) (t : ClusterState) → state_in v J ≡ Some t → HasDistributor t
  distributor-there [] legal v t e = let none : None ≡ Some t = e in cc
  distributor-there (Published s ∷ J) legal v t e = by_first v s t (state_in v J) (s.version == v) (λ h. distributor-there J legal.0 v t h) legal.1.placed.0 e
  distributor-there (Heard d w ∷ J) legal v t e = distributor-there J legal.0 v t e
  distributor-there (Begun l d w i x ∷ J) legal v t e = distributor-there J legal.0 v t e
  distributor-there (Refused l d x ∷ J) legal v t e = distributor-there J legal.0 v t e
  distributor-there (Opened d w x ∷ J) legal v t e = distributor-there J legal.0 v t e
  distributor-there (Prepared l b x ∷ J) legal v t e = distributor-there J legal.0 v t e
  distributor-there (Wrote l x ∷ J) legal v t e = distributor-there J legal.0 v t e
  distributor-there (Sent k w d n x ∷ J) legal v t e = distributor-there J legal.0 v t e
  distributor-there (Delivered k x ∷ J) legal v t e = distributor-there J legal.0 v t e
  distributor-there (Returned k ∷ J) legal v t e = distributor-there J legal.0 v t e
  distributor-there (Closed l x ∷ J) legal v t e = distributor-there J legal.0 v t e
  distributor-there (Decided d w x ∷ J) legal v t e = distributor-there J legal.0 v t e
  distributor-there (Stopped n ∷ J) legal v t e = distributor-there J legal.0 v t e
  distributor-there (Started n ∷ J) legal v t e = distributor-there J legal.0 v t e

nobody-counts : (ms : List Mark) → ((n : ℕ) → is_up (slice_index_or ms n Down) ≡ false) → count_by is_up ms ≡ 0
nobody-counts [] h = refl
nobody-counts (m ∷ ms) h =
    let first : one_if (is_up m) ≡ 0 = ap one_if (h 0) in
    omega (arith, count_cons is_up m ms, first, nobody-counts ms (λ n. h (suc n)))

-- so it has an owner
pub owner-there : (s : ClusterState) → HasDistributor s → ((n : ℕ) → is_up (slice_index_or s.distributors n Down) ≡ false) → ⊥
owner-there s some nobody =
    let none : count_by is_up s.distributors ≡ 0 = nobody-counts s.distributors nobody in
    by_count (count_by is_up s.distributors) none some
  where
    by_count : (k : ℕ) → k ≡ 0 → (if nat_eq k 0 then Some NoDistributor else None) ≡ None → ⊥
    by_count k z e = let x : Some NoDistributor ≡ None = subst (λ (i : ℕ). (if nat_eq i 0 then Some NoDistributor else None) ≡ None) z e in cc

pub none-up : (P : Type 0) (o : Option ℕ) → o ≡ None → IfNone o P → P
none-up P None e h = h
none-up P (Some n) e h = let none : Some n ≡ None = e in cc
