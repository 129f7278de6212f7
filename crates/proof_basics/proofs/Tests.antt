-- Tests: what holds of and, or and not.
use Rattle.std.proofs.Common.{◌≡◌, Bool, true, false, not, ◌&&◌, ◌||◌, ◌∷◌, refl, sym, ap, ap₂, ◌-◌, inl, inr, ◌⊎◌, ◌↔◌}
use mathlib.Core.Bool.{true≢false}

pub or_none : (a b : Bool) → a ≡ false → b ≡ false → (a || b) ≡ false
or_none true b e f = let g : true ≡ false = e in cc
or_none false b e f = f

pub none_left : (a b : Bool) → (a || b) ≡ false → a ≡ false
none_left true b e = let f : true ≡ false = e in cc
none_left false b e = refl

pub none_right : (a b : Bool) → (a || b) ≡ false → b ≡ false
none_right true b e = let f : true ≡ false = e in cc
none_right false b e = e

pub false_true : false ≡ true → ⊥
false_true e = true≢false (sym e)

pub or_false : (a b : Bool) → a || b ≡ false → (a ≡ false) × (b ≡ false)
or_false true b h = cc
or_false false b h = (refl, h)

pub both : (a b : Bool) → (a && b) ≡ true → (a ≡ true) × (b ≡ true)
both true b h = (refl, h)
both false b h = cc

pub not_answered : (t : Bool) → not t ≡ true → t ≡ false
not_answered false h = refl
not_answered true h = cc

pub or_true : (a b : Bool) → a || b ≡ true → (a ≡ true) ⊎ (b ≡ true)
or_true true b h = inl refl
or_true false b h = inr h

pub or_left : (a b : Bool) → a ≡ true → a || b ≡ true
or_left a b h = ap (λ t. t || b) h

pub or_right : (a b : Bool) → b ≡ true → a || b ≡ true
or_right true b h = refl
or_right false b h = h

pub and_true : (a b : Bool) → a ≡ true → b ≡ true → (a && b) ≡ true
and_true a b p q = ap₂ (λ x y. x && y) p q

pub is_false : (a : Bool) → (a ≡ true → ⊥) → a ≡ false
is_false true h = absurd (h refl)
is_false false h = refl

pub clash : {A : Type 0} {a : Bool} → a ≡ true → a ≡ false → A
clash p q = absurd (cc)

pub not-false : (t : Bool) → not t ≡ false → t ≡ true
not-false true h = refl
not-false false h = cc

-- a flag that is raised by one thing more
pub raised : (a b : Bool) (P Q R : Type 0) → ((a ≡ true) ↔ P) → ((b ≡ true) ↔ Q) → (R → P ⊎ Q) → (P → R) → (Q → R) → ((a || b) ≡ true) ↔ R
raised a b P Q R p q cases old new = (λ h. up (or_true a b h), λ r. down (cases r))
  where
    up : (a ≡ true) ⊎ (b ≡ true) → R
    up (inl h) = old (p.0 h)
    up (inr h) = new (q.0 h)

    down : P ⊎ Q → (a || b) ≡ true
    down (inl x) = ap (λ (t : Bool). t || b) (p.1 x)
    down (inr y) = or_right a b (q.1 y)

pub same-by : (a b : Bool) → (a ≡ true → b ≡ true) → (b ≡ true → a ≡ true) → a ≡ b
same-by true true f g = refl
same-by true false f g = sym (f refl)
same-by false true f g = g refl
same-by false false f g = refl
