-- The marks that a close takes at its owner's part.
use Rattle.std.proofs.Common.{◌≡◌, ℕ, ◌<◌, true, false, List, length, Option, Some, slice_set, sym, ap, subst, ◌≢◌, ◌≤◌, Bool, None, IsSome, is_some, rules, nat_eq, nat_lt, refl, ◌∙◌, arith}
use Rattle.bucket_ids.specs.Buckets.{Low}
use Rattle.cluster_states.specs.declared.cluster_state.ClusterState.{ClusterState}
use Rattle.bucket_db.specs.Rows.{Rows}
use Rattle.distributor_part.specs.declared.rules.Rules.{Rules}
use Rattle.distributor_part.specs.Parts.{Part, rows_of, new_part}
use Rattle.distributor_part.specs.Steps.{IsClosed}
use Rattle.lane_journals.specs.Readers.{Journal}
use Rattle.lane_keeping.specs.LaneKeeping.{part_in}
use Rattle.lane_states.specs.Accepting.{IsPartAccepted}
use Rattle.lane_keeping.proofs.Parts.{part-own, part-others}
use Rattle.std.proofs.lemmas.List.{get_or_past}
use Rattle.std.proofs.lemmas.Bool.Decides.{nat_tests}
use Rattle.lane_states.specs.LaneStates.{IsResting}
use Rattle.lane_rounds.proofs.Accepting.{accepted-marks}

module _ (H : Journal) (p q : Part) where
  pub accepted-closed : (key answered : ℕ) → IsClosed p q key answered → IsPartAccepted H p → IsPartAccepted H q
  accepted-closed key answered x = accepted-marks H p q x.rows x.at x.marks (ap (λ (z : Part). z.state) x.after) x.opened (ap (λ (z : Part). rows_of z.rows) x.after)

pub closed-part : (lane : Low) (rules : Rules) (parts : List Part) (d : ℕ) (p q : Part) (key answered : ℕ) → d < length parts → part_in lane rules parts d ≡ p → IsClosed p q key answered
    → IsClosed (part_in lane rules parts d) (part_in lane rules (slice_set parts d q) d) key answered
closed-part lane rules parts d p q key answered h is closes =
    subst (λ (y : Part). IsClosed (part_in lane rules parts d) y key answered) (sym (part-own lane rules parts d q h))
    (subst (λ (x : Part). IsClosed x q key answered) (sym is) closes)

-- ---- parts

-- a part that heard a state is there
pub part-there : (lane : Low) (rules : Rules) (parts : List Part) (d : ℕ) (s : ClusterState) → (part_in lane rules parts d).state ≡ Some s → d < length parts
part-there lane rules parts d s e = by_test (nat_lt d (length parts)) refl
  where
    by_test : (b : Bool) → nat_lt d (length parts) ≡ b → d < length parts
    by_test true t = grind (arith, nat_tests)
    by_test false t =
        let past : length parts ≤ d = grind (arith, nat_tests) in
        let none : None ≡ Some s = sym (ap (λ (p : Part). p.state) (get_or_past parts d (new_part d lane rules None) past)) ∙ e in cc

pub some-rows : (o : Option Rows) → true ≡ is_some o → IsSome o
some-rows None e = let none : true ≡ false = e in cc
some-rows (Some x) e = search rules

-- a close leaves a part at rest
pub closed-resting : (lane : Low) (rules : Rules) (parts : List Part) (d : ℕ) (p q : Part) (key answered : ℕ) → d < length parts → part_in lane rules parts d ≡ p → IsClosed p q key answered
    → ((e : ℕ) → IsResting (part_in lane rules parts e)) → (e : ℕ) → IsResting (part_in lane rules (slice_set parts d q) e)
closed-resting lane rules parts d p q key answered h is closes rest e = by_test (nat_eq e d) refl
  where
    own : IsResting q
    own = let r : IsResting p = subst (λ (x : Part). IsResting x) is (rest d) in
        subst (λ (x : Part). IsResting x) (sym closes.after) (record { unasked = r.unasked; told = r.told; no_round = r.no_round })

    by_test : (b : Bool) → nat_eq e d ≡ b → IsResting (part_in lane rules (slice_set parts d q) e)
    by_test true t =
        let same : e ≡ d = grind (arith, nat_tests) in
        subst (λ (n : ℕ). IsResting (part_in lane rules (slice_set parts d q) n)) (sym same) (subst (λ (x : Part). IsResting x) (sym (part-own lane rules parts d q h)) own)
    by_test false t =
        let off : e ≢ d = grind (arith, nat_tests) in
        subst (λ (x : Part). IsResting x) (sym (part-others lane rules parts d q e off)) (rest e)
