-- The union of the stores, which no step changes.
use Rattle.std.proofs.Common.{◌≡◌, ℕ, true, sym, ap, ◌∙◌, subst, ◌⊎◌, inl, inr, Option}
use Rattle.lane_rest.specs.Sets.{newest_of, held_if, newest_below}
use Rattle.pass_model.specs.Nodes.{Node}
use Rattle.pass_model.specs.Rows.{Settings, united}
use Rattle.pass_model.specs.Resting.{IsUnion}
use Rattle.lane_journals.specs.Stamps.{Stamp, Le}
use Rattle.lane_journals.specs.Buckets.{Id}
use Rattle.lane_journals.specs.Events.{Content}
use Rattle.lane_journals.proofs.Order.{Le-same}
use Rattle.pass_model.proofs.Stamps.{Le-both, newest-most, newest-above, held-most}

module _ (s : Settings) (U : Content) where
  pub united-at : (ns : ℕ → Node) → IsUnion s U ns → (id : Id) → united s ns id ≡ U id
  unfolding newest_of
  united-at ns u id =
      let at = u.somewhere id in
      let f : ℕ → Option Stamp = λ n. held_if (s.serving n) (ns n).store id in
      Le-both (newest_below f 32) (U id)
      (newest-most f 32 (U id) (λ n. held-most (s.serving n) (ns n).store id (U id) (λ h. u.most n h id)))
      (subst (λ m. Le m (newest_below f 32)) (ap (λ t. held_if t (ns at.0).store id) at.2 ∙ at.3) (newest-above f 32 at.0 at.1))

  pub united-is : (ns : ℕ → Node) → IsUnion s U ns → united s ns ≡ U
  united-is ns u = λ i id. united-at ns u id i

  -- where each store stays or grows to the union
  pub union-step : (ns ms : ℕ → Node) → ((n : ℕ) (id : Id) → ((ms n).store id ≡ (ns n).store id) ⊎ ((ms n).store id ≡ U id)) → IsUnion s U ns → IsUnion s U ms
  union-step ns ms f u = record {
    most = λ n h id. most n h id (f n id);
    somewhere = λ id. let at = u.somewhere id in (at.0, at.1, at.2, there id at.0 at.3 (f at.0 id));
  }
    where
      most : (n : ℕ) → s.serving n ≡ true → (id : Id) → ((ms n).store id ≡ (ns n).store id) ⊎ ((ms n).store id ≡ U id) → Le ((ms n).store id) (U id)
      most n h id (inl e) = subst (λ m. Le m (U id)) (sym e) (u.most n h id)
      most n h id (inr e) = Le-same ((ms n).store id) (U id) e

      there : (id : Id) (n : ℕ) → (ns n).store id ≡ U id → ((ms n).store id ≡ (ns n).store id) ⊎ ((ms n).store id ≡ U id) → (ms n).store id ≡ U id
      there id n e (inl d) = d ∙ e
      there id n e (inr d) = d

  pub union-same : (ns ms : ℕ → Node) → ((n : ℕ) (id : Id) → (ms n).store id ≡ (ns n).store id) → IsUnion s U ns → IsUnion s U ms
  union-same ns ms f u = union-step ns ms (λ n id. inl (f n id)) u
