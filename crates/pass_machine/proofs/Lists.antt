-- Lists that lose a place, and their images.
use Rattle.std.proofs.Common.{◌≡◌, ◌∙◌, ◌≤◌, ℕ, zero, suc, Bool, true, false, cond, List, [], ◌∷◌, map, refl, sym, ap, ap₂, arith, nat_lt}
use Rattle.std.specs.List.{remove}
use Rattle.bucket_ids.specs.Buckets.{Low}
use Rattle.bucket_ids.specs.Printed.{number_of}
use Rattle.bucket_db.specs.Changes.{with_row}
use Rattle.bucket_db.specs.declared.row.Row.{Row}
use Rattle.pass_model.specs.Rows as rest
use Rattle.pass_model.specs.Sweeps as sweeps

pub two_gone : {X : Type 0} (xs : List X) (i j : ℕ) → i ≤ j → remove (remove xs (suc j)) i ≡ remove (remove xs i) j
two_gone [] zero zero le = refl
two_gone [] zero (suc j) le = refl
two_gone [] (suc i) zero le = refl
two_gone [] (suc i) (suc j) le = refl
two_gone (x ∷ xs) zero j le = refl
two_gone (x ∷ xs) (suc i) zero le = absurd (omega (arith, le))
two_gone (x ∷ xs) (suc i) (suc j) le = let lower : i ≤ j = omega (arith, le) in ap (λ ys. x ∷ ys) (two_gone xs i j lower)

pub image_removed : {X Y : Type 0} (f : X → Y) (xs : List X) (at : ℕ) → map f (remove xs at) ≡ remove (map f xs) at
image_removed f [] zero = refl
image_removed f [] (suc at) = refl
image_removed f (x ∷ xs) zero = refl
image_removed f (x ∷ xs) (suc at) = ap (λ ys. f x ∷ ys) (image_removed f xs at)

pub image_placed : (f : Row → rest.Row) → ((r : Row) → (f r).bucket ≡ r.bucket) → (x : Row) (rows : List Row) → map f (with_row x rows) ≡ sweeps.with_row (f x) (map f rows)
image_placed f same x [] = refl
image_placed f same x (y ∷ ys) =
    by_test (nat_lt (number_of y.bucket) (number_of x.bucket)) (image_placed f same x ys)
    ∙ ap₂ (λ (a b : Low). cond (nat_lt (number_of a) (number_of b)) (f y ∷ sweeps.with_row (f x) (map f ys)) (f x ∷ f y ∷ map f ys)) (sym (same y)) (sym (same x))
  where
    by_test : (t : Bool) → map f (with_row x ys) ≡ sweeps.with_row (f x) (map f ys) → map f (cond t (y ∷ with_row x ys) (x ∷ y ∷ ys)) ≡ cond t (f y ∷ sweeps.with_row (f x) (map f ys)) (f x ∷ f y ∷ map f ys)
    by_test true e = ap (λ zs. f y ∷ zs) e
    by_test false e = refl
