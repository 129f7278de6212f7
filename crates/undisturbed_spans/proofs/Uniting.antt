-- The union of a round in a quiet span is the newest that its readers hold.
use Rattle.std.proofs.Common.{◌≡◌, ◌<◌, ℕ, Bool, true, false, cond, Option, Some, None, refl, sym, ap, ◌∙◌, subst}
use mathlib.Core.Bool.{true≢false}
use Rattle.std.specs.FinMap as fin
use Rattle.bucket_ids.specs.Buckets.{Low, has_key}
use Rattle.entry_maps.specs.EntryCodes.{Entries}
use Rattle.lane_journals.specs.Stamps.{Stamp, Le}
use Rattle.lane_journals.specs.Buckets.{Id, key_of}
use Rattle.lane_journals.specs.Events.{Content}
use Rattle.lane_journals.specs.Readers.{Given, Journal, answer}
use Rattle.lane_keeping.specs.NodeKeeping.{stamp_of}
use Rattle.lane_keeping.specs.Unions.{IsUnion}
use Rattle.lane_journals.proofs.Order.{Le_none}
use Rattle.node_model.specs.Nodes as lane
use Rattle.lane_rest.specs.Sets.{held_if, newest_below, newest_of}
use Rattle.pass_model.proofs.Stamps.{Le-both, newest-most, newest-above, held-most}
use Rattle.undisturbed_spans.specs.Telling.{held_in}
use Rattle.undisturbed_spans.specs.Rounding.{IsGiven, AreAlike}

module _ (v number : ℕ) (H : Journal) (b : Low) (old : ℕ → lane.Node) (readers did : ℕ → Bool) (u : Entries)
    (given : (n : ℕ) (g : Given) → answer v number n H ≡ Some g → IsGiven b (old n) g)
    (union : IsUnion v number H did u) (all : (n : ℕ) → readers n ≡ did n) (few : (n : ℕ) → readers n ≡ true → n < 32)
    (answered : (n : ℕ) (g : Given) → answer v number n H ≡ Some g → did n ≡ true) where
  abbrev held : ℕ → Content
  held n id = stamp_of (fin.get (old n).entries id)

  -- what a reader gave of a document of the bucket
  gave-is : (n : ℕ) (g : Given) (id : Id) → has_key b (key_of id) ≡ true → answer v number n H ≡ Some g → g.content id ≡ held n id
  gave-is n g id inside a = (given n g a).held id ∙ ap (λ t. cond t (held n id) None) inside

  most : (id : Id) → has_key b (key_of id) ≡ true → (n : ℕ) → Le (held_if (readers n) (held n) id) (stamp_of (fin.get u id))
  most id inside n = held-most (readers n) (held n) id (stamp_of (fin.get u id)) (λ r. let c = union.covers n (sym (all n) ∙ r) in subst (λ o. Le o (stamp_of (fin.get u id))) (gave-is n c.0 id inside c.1) (c.2 id))

  least : (id : Id) → has_key b (key_of id) ≡ true → (o : Option Stamp) → stamp_of (fin.get u id) ≡ o → Le o (newest_below (λ n. held_if (readers n) (held n) id) 32)
  least id inside None e = Le_none _
  least id inside (Some s) e =
      let a = union.attained id s e in
      let r : readers a.0 ≡ true = all a.0 ∙ answered a.0 a.1 a.2 in
      subst (λ o. Le o (newest_below (λ n. held_if (readers n) (held n) id) 32)) (ap (λ t. held_if t (held a.0) id) r ∙ sym (gave-is a.0 a.1 id inside a.2) ∙ a.3)
      (newest-above (λ n. held_if (readers n) (held n) id) 32 a.0 (few a.0 r))

  pub unites : AreAlike b u (newest_of readers held)
  unfolding newest_of
  unites id inside = Le-both (stamp_of (fin.get u id)) (newest_below (λ n. held_if (readers n) (held n) id) 32) (least id inside (stamp_of (fin.get u id)) refl) (newest-most (λ n. held_if (readers n) (held n) id) 32 (stamp_of (fin.get u id)) (most id inside))
