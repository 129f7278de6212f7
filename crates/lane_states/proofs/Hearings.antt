-- Distributors hear the newest state.
use Rattle.std.proofs.Common.{◌≡◌, ◌≤◌, ◌<◌, ◌+◌, ℕ, zero, suc, Bool, true, false, cond, List, ◌∷◌, Option, Some, None, if◌then◌else◌, refl, ap, ◌∙◌, arith, eqb}
use Rattle.std.proofs.lemmas.Bool.Decides.{nat_tests}
use Rattle.node_sets.specs.Members.{has_node}
use Rattle.cluster_states.specs.declared.cluster_state.ClusterState.{ClusterState}
use Rattle.ideal_nodes.specs.Placement.{IsOwner}
use Rattle.lane_journals.specs.Readers.{held, published, began, closed}
use Rattle.lane_journals.specs.Meanings.{history}
use Rattle.lane_journals.specs.Legal.{Legal}
use Rattle.lane_journals.specs.States.{state_of}
use Rattle.lane_journals.specs.Places.{Setting, state_in}
use Rattle.lane_journals.specs.declared.event.LaneEvent.{LaneEvent}
use Rattle.lane_journals.specs.declared.event.LaneEvent.TheVariants.{Heard}
use Rattle.lane_journals.proofs.Basics.{held-published}
use Rattle.lane_keeping.specs.LaneKeeping.{IsNewest, IsIdle}
use Rattle.lane_keeping.specs.Acting.{IsActing}
use Rattle.lane_keeping.specs.Tidings.{is_older, heard_below}

-- ---- one distributor

pub older-by : (o : Option ℕ) (v : ℕ) → ((w : ℕ) → o ≡ Some w → w < v) → is_older o v ≡ true
older-by None v below = refl
older-by (Some w) v below = let less = below w refl in grind (arith, nat_tests)

newest-held : (o : Option ℕ) (v : ℕ) → is_older o v ≡ false → ((w : ℕ) → o ≡ Some w → w ≤ v) → o ≡ Some v
newest-held None v e low = let none : true ≡ false = e in cc
newest-held (Some w) v e low =
    let le = low w refl in
    let same : w ≡ v = grind (arith, nat_tests) in
    ap Some same

-- an owner that holds no older state than the newest acts under that one
pub acts-still : (S : Setting) (J : List LaneEvent) (d : ℕ) (s : ClusterState) → Legal S.acks (state_of (history J)) (history J) → IsNewest (λ v. state_in v J) (λ v. published v (history J)) (Some s) → is_older (held d (history J)) s.version ≡ false → IsOwner S.lane s d → IsActing S.lane J d s
acts-still S J d s legal newest still own = record {
  holds = newest-held (held d (history J)) s.version still (λ w is. newest.1 w (held-published S.acks (state_of (history J)) (history J) legal d w is));
  published = newest.0;
  owner = own;
}

-- ---- all but the deaf ones

-- what one hearing leaves as it was, all of them do
pub stays-heard : (P : List LaneEvent → Type 0) → ((d v : ℕ) (J : List LaneEvent) → P J → P (Heard d v ∷ J)) → (n deaf : ℕ) (s : ClusterState) (J : List LaneEvent) → P J → P (heard_below n deaf s J)
unfolding heard_below
stays-heard P step zero deaf s J p = p
stays-heard P step (suc n) deaf s J p = by_test (has_node deaf n) (stays-heard P step n deaf s J p)
  where
    by_test : (b : Bool) → P (heard_below n deaf s J) → P (if b then heard_below n deaf s J else Heard n s.version ∷ heard_below n deaf s J)
    by_test true q = q
    by_test false q = step n s.version (heard_below n deaf s J) q

pub heard-none : (deaf : ℕ) (s : ClusterState) (J : List LaneEvent) → heard_below 0 deaf s J ≡ J
unfolding heard_below
heard-none deaf s J = refl

pub heard-more : (d deaf : ℕ) (s : ClusterState) (J : List LaneEvent) → heard_below (d + 1) deaf s J ≡ (if has_node deaf d then heard_below d deaf s J else Heard d s.version ∷ heard_below d deaf s J)
unfolding heard_below
heard-more d deaf s J = let same : d + 1 ≡ suc d = omega arith in ap (λ (n : ℕ). heard_below n deaf s J) same

-- a distributor above heard nothing yet
pub held-above : (n deaf : ℕ) (s : ClusterState) (J : List LaneEvent) (e : ℕ) → n ≤ e → held e (history (heard_below n deaf s J)) ≡ held e (history J)
unfolding heard_below
held-above zero deaf s J e h = refl
held-above (suc n) deaf s J e h = by_test (has_node deaf n) (held-above n deaf s J e (omega (arith, h)))
  where
    other : eqb n e ≡ false
    other = grind (arith, nat_tests)

    by_test : (b : Bool) → held e (history (heard_below n deaf s J)) ≡ held e (history J) → held e (history (if b then heard_below n deaf s J else Heard n s.version ∷ heard_below n deaf s J)) ≡ held e (history J)
    by_test true q = q
    by_test false q = ap (λ (t : Bool). cond t (Some s.version) (held e (history (heard_below n deaf s J)))) other ∙ q

-- each distributor stays idle
pub idle-heard : (n deaf : ℕ) (s : ClusterState) (J : List LaneEvent) (e : ℕ) → IsIdle e (λ line. began line (history J)) (λ line. closed line (history J))
    → IsIdle e (λ line. began line (history (heard_below n deaf s J))) (λ line. closed line (history (heard_below n deaf s J)))
idle-heard n deaf s J e = stays-heard (λ (K : List LaneEvent). IsIdle e (λ line. began line (history K)) (λ line. closed line (history K))) (λ d v K h. h) n deaf s J
