-- Lists in which what isn't there yet counts as something: nodes and parts at their places.
use Rattle.std.proofs.Common.{◌≡◌, ℕ, zero, suc, ◌<◌, true, List, [], ◌∷◌, Option, Some, None, length, slice_set, get_or, sym, ap, arith, ◌∙◌}
use Rattle.std.proofs.lemmas.Bool.Decides.{nat_tests}
use Rattle.bucket_ids.specs.Buckets.{Low}
use Rattle.cluster_states.specs.declared.cluster_state.ClusterState.{ClusterState}
use Rattle.distributor_part.specs.declared.rules.Rules.{Rules}
use Rattle.distributor_part.specs.Parts.{Part, new_part}
use Rattle.lane_journals.specs.Readers.{held, asked, opened}
use Rattle.lane_journals.specs.RowLists.{row_with, rows}
use Rattle.lane_journals.specs.Meanings.{history}
use Rattle.lane_journals.specs.Places.{state_in}
use Rattle.lane_journals.specs.declared.event.LaneEvent.{LaneEvent}
use Rattle.lane_keeping.specs.LaneKeeping.{Holds, PartKeeps, part_in}
use Rattle.lane_keeping.specs.Tidings.{is_older, version_held}
use Rattle.lane_keeping.proofs.Parts.{part-own}

pub default-any : {X : Type 0} (xs : List X) (i : ℕ) (x z : X) → i < length xs → x ≡ get_or xs i x → get_or xs i z ≡ x
default-any [] i x z h e = absurd (omega (arith, h))
default-any (y ∷ ys) zero x z h e = sym e
default-any (y ∷ ys) (suc i) x z h e = default-any ys i x z (omega (arith, h)) e

-- ---- what a distributor holds

pub older-below : (o : Option ℕ) (v : ℕ) → is_older o v ≡ true → (w : ℕ) → o ≡ Some w → w < v
older-below None v t w e = cc
older-below (Some u) v t w e = let same : u ≡ w = cc in let less : u < v = grind (arith, nat_tests) in omega (arith, same, less)

module _ (lane : Low) (rules : Rules) where
  pub version-held : (J : List LaneEvent) (d : ℕ) (p : Part) → PartKeeps lane rules J d p → version_held p.state ≡ held d (history J)
  version-held J d p k = by_state p.state k.heard
    where
      by_state : (o : Option ClusterState) → Holds lane d (held d (history J)) (λ v. state_in v J) (λ v n. asked v n (history J)) (λ v. opened v (history J)) (λ v key. row_with key (rows v (history J))) o p
          → version_held o ≡ held d (history J)
      by_state None h = sym h
      by_state (Some t) h = sym h.0

  pub holds-older : (J : List LaneEvent) (d v : ℕ) (p : Part) → PartKeeps lane rules J d p → is_older (version_held p.state) v ≡ is_older (held d (history J)) v
  holds-older J d v p k = ap (λ (o : Option ℕ). is_older o v) (version-held J d p k)

  pub part-at : (parts : List Part) (d : ℕ) (p : Part) → d < length parts → p ≡ get_or parts d p → part_in lane rules parts d ≡ p
  part-at parts d p h e = default-any parts d p (new_part d lane rules None) h e

  pub heard-part : (J : List LaneEvent) (parts : List Part) (d : ℕ) (p q : Part) (s : ClusterState) → d < length parts → part_in lane rules parts d ≡ p → PartKeeps lane rules J d (part_in lane rules parts d)
      → q ≡ new_part p.number p.lane p.rules (Some s) → part_in lane rules (slice_set parts d q) d ≡ new_part d lane rules (Some s)
  heard-part J parts d p q s h is k e =
      let n : p.number ≡ d = sym (ap (λ x. x.number) is) ∙ k.number_is in
      let l : p.lane ≡ lane = sym (ap (λ x. x.lane) is) ∙ k.lane_is in
      let r : p.rules ≡ rules = sym (ap (λ x. x.rules) is) ∙ k.rules_are in
      part-own lane rules parts d q h ∙ e ∙ cc (n, l, r)
