-- Beginnings of one list.
use Rattle.std.proofs.Common.{◌≡◌, Bool, true, false, ℕ, ◌≤◌, List, [], ◌∷◌, length, refl, arith}
use mathlib.Core.List.{IsPrefix}
use Rattle.std.specs.Bool.{OnTrue}
use Rattle.std.proofs.Math.Dec.{leb}
use Rattle.std.proofs.lemmas.Bool.{leb-true}

-- of two beginnings of one list the shorter begins the longer
pub shorter_begins : {A : Type 0} (xs ys zs : List A) → IsPrefix xs zs → IsPrefix ys zs → length xs ≤ length ys → IsPrefix xs ys
shorter_begins [] ys zs p q le = (ys, refl)
shorter_begins (x ∷ xs) [] zs p q le = absurd (omega arith)
shorter_begins (x ∷ xs) (y ∷ ys) [] p q le = absurd (cc (p.1))
shorter_begins (x ∷ xs) (y ∷ ys) (z ∷ zs) p q le =
    let heads : x ≡ y = cc (p.1, q.1) in
    let rest = shorter_begins xs ys zs (p.0, cc (p.1)) (q.0, cc (q.1)) (omega arith) in
    (rest.0, cc (heads, rest.1))

-- a beginning as long as the whole is the whole
pub whole_begins : {A : Type 0} (xs ys : List A) → IsPrefix xs ys → length ys ≤ length xs → xs ≡ ys
whole_begins [] [] p le = refl
whole_begins [] (y ∷ ys) p le = absurd (omega arith)
whole_begins (x ∷ xs) [] p le = absurd (cc (p.1))
whole_begins (x ∷ xs) (y ∷ ys) p le =
    let rest = whole_begins xs ys (p.0, cc (p.1)) (omega arith) in cc (p.1, rest)

on_bool : (b : Bool) (P : Type 0) → (b ≡ true → P) → OnTrue b P
on_bool true P f = f refl
on_bool false P f = tt

-- a test of an order gives the order
pub on_leb : (m n : ℕ) (P : Type 0) → (m ≤ n → P) → OnTrue (leb m n) P
on_leb m n P f = on_bool (leb m n) P (λ e. f (leb-true m n e))
