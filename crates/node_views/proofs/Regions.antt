-- A region without a common key with others is one more of them.
use Rattle.std.proofs.Common.{◌≡◌, ℕ, ◌||◌, Bool, true, false, cond, eq-eqb, mod-eq_of_lt, not, List, [], ◌∷◌, refl, sym, ap, ◌∙◌}
use mathlib.Core.Bool.{true≢false}
use Rattle.std.specs.List.{list_any}
use Rattle.bucket_ids.specs.Buckets.{Low, IsBucket, has_key, covers}
use Rattle.view_changes.specs.Views.{in_regions}
use Rattle.view_changes.specs.Kept.{AreParted}
use Rattle.view_changes.specs.Shown.{with_region}
use Rattle.view_changes.proofs.RegionLaws.{left, right, covered-key, outer}

own-key : (b : Low) → IsBucket b → has_key b b.low ≡ true
own-key b is = eq-eqb _ _ (mod-eq_of_lt is.fits)

none-covers : (b : Low) → IsBucket b → (rs : List Low) → in_regions rs b.low ≡ false → list_any (λ r. covers r b) rs ≡ false
none-covers b is [] h = refl
none-covers b is (r ∷ rs) h = by_test (covers r b) refl (none-covers b is rs (right (has_key r b.low) (in_regions rs b.low) h))
  where
    by_test : (t : Bool) → covers r b ≡ t → list_any (λ r. covers r b) rs ≡ false → (t || list_any (λ r. covers r b) rs) ≡ false
    by_test true e ih = absurd (true≢false (sym (covered-key r b b.low e (own-key b is)) ∙ left (has_key r b.low) (in_regions rs b.low) h))
    by_test false e ih = ih

none-inside : (b : Low) (rs : List Low) → AreParted rs → ((key : ℕ) → has_key b key ≡ true → in_regions rs key ≡ false) → outer b rs ≡ rs
none-inside b [] p apart = refl
none-inside b (r ∷ rs) p apart = by_test (covers b r) refl (none-inside b rs p.2 (λ key h. right (has_key r key) (in_regions rs key) (apart key h)))
  where
    by_test : (t : Bool) → covers b r ≡ t → outer b rs ≡ rs → cond {A = List Low} (not t) (r ∷ outer b rs) (outer b rs) ≡ r ∷ rs
    by_test true e ih = absurd (true≢false (sym (own-key r p.0) ∙ left (has_key r r.low) (in_regions rs r.low) (apart r.low (covered-key b r r.low e (own-key r p.0)))))
    by_test false e ih = ap (λ (xs : List Low). r ∷ xs) ih

pub region-more : (b : Low) (rs : List Low) → AreParted (b ∷ rs) → with_region b rs ≡ b ∷ rs
region-more b rs p =
    ap (λ t. cond {A = List Low} t rs (b ∷ outer b rs)) (none-covers b p.0 rs (p.1 b.low (own-key b p.0)))
    ∙ ap (λ (xs : List Low). b ∷ xs) (none-inside b rs p.2 p.1)
