-- The order of stamps.
use Rattle.std.proofs.Common.{◌≡◌, ◌⊎◌, ◌<◌, Bool, true, false, cond, Option, Some, None, refl, sym, subst, arith, inl, inr, eqb}
use Rattle.std.proofs.lemmas.Bool.{eqb-true}
use Rattle.std.proofs.lemmas.Bool.Decides.{nat_tests}
use Rattle.lane_journals.specs.Stamps.{Stamp, StampLe, is_older, Le, newer, same_stamp}

pub stamp_refl : (a : Stamp) → StampLe a a
unfolding StampLe
stamp_refl a = inr (refl, omega arith)

pub stamp_trans : (a b c : Stamp) → StampLe a b → StampLe b c → StampLe a c
unfolding StampLe
stamp_trans a b c p q = grind arith

pub older_le : (a b : Stamp) → is_older a b ≡ true → StampLe a b
unfolding StampLe is_older
older_le a b p = grind (arith, nat_tests)

pub not_older_le : (a b : Stamp) → is_older a b ≡ false → StampLe b a
unfolding StampLe is_older
not_older_le a b p = grind (arith, nat_tests)

pub Le_refl : (a : Option Stamp) → Le a a
unfolding Le
Le_refl None = tt
Le_refl (Some a) = stamp_refl a

pub Le_trans : (a b c : Option Stamp) → Le a b → Le b c → Le a c
unfolding Le
Le_trans None b c p q = tt
Le_trans (Some a) None c p q = absurd p
Le_trans (Some a) (Some b) None p q = absurd q
Le_trans (Some a) (Some b) (Some c) p q = stamp_trans a b c p q

left_by : (a b : Stamp) (t : Bool) → is_older a b ≡ t → Le (Some a) (cond t (Some b) (Some a))
unfolding Le
left_by a b true e = older_le a b e
left_by a b false e = stamp_refl a

right_by : (a b : Stamp) (t : Bool) → is_older a b ≡ t → Le (Some b) (cond t (Some b) (Some a))
unfolding Le
right_by a b true e = stamp_refl b
right_by a b false e = not_older_le a b e

pub newer-left : (a b : Option Stamp) → Le a (newer a b)
unfolding Le newer
newer-left None b = tt
newer-left (Some a) None = stamp_refl a
newer-left (Some a) (Some b) = left_by a b (is_older a b) refl

pub newer-right : (a b : Option Stamp) → Le b (newer a b)
unfolding Le newer
newer-right None b = Le_refl b
newer-right (Some a) None = tt
newer-right (Some a) (Some b) = right_by a b (is_older a b) refl

pub Le_none : (a : Option Stamp) → Le None a
unfolding Le
Le_none a = tt

cond_least : (t : Bool) (a b c : Option Stamp) → Le a c → Le b c → Le (cond t b a) c
cond_least true a b c p q = q
cond_least false a b c p q = p

pub newer-least : (a b c : Option Stamp) → Le a c → Le b c → Le (newer a b) c
unfolding newer
newer-least None b c p q = q
newer-least (Some a) None c p q = p
newer-least (Some a) (Some b) c p q = cond_least (is_older a b) (Some a) (Some b) c p q

pub Le_newer : (a b c : Option Stamp) → Le b c → Le (newer a b) (newer a c)
Le_newer a b c h = newer-least _ _ _ (newer-left a c) (Le_trans _ _ _ h (newer-right a c))

pub Le_total : (a b : Option Stamp) → Le a b ⊎ Le b a
unfolding Le
Le_total None b = inl tt
Le_total (Some a) None = inr tt
Le_total (Some a) (Some b) = by_case (is_older a b) refl
  where
    by_case : (t : Bool) → is_older a b ≡ t → StampLe a b ⊎ StampLe b a
    by_case true e = inl (older_le a b e)
    by_case false e = inr (not_older_le a b e)

stamp_cases : (a b : Stamp) → StampLe a b ⊎ (StampLe a b → ⊥)
unfolding StampLe
stamp_cases a b = grind arith

pub Le_cases : (a b : Option Stamp) → Le a b ⊎ (Le a b → ⊥)
unfolding Le
Le_cases None b = inl tt
Le_cases (Some a) None = inr (λ h. h)
Le_cases (Some a) (Some b) = stamp_cases a b

pub Le_nothing : (a : Option Stamp) → Le a None → a ≡ None
unfolding Le
Le_nothing None h = refl
Le_nothing (Some a) h = absurd h

pub Le-at : (a x y : Option Stamp) → y ≡ x → Le a x → Le a y
Le-at a x y e h = subst (λ (z : Option Stamp). Le a z) (sym e) h

pub Le-from : (a b y : Option Stamp) → a ≡ b → Le b y → Le a y
Le-from a b y e h = subst (λ (z : Option Stamp). Le z y) (sym e) h

pub Le-same : (a b : Option Stamp) → a ≡ b → Le a b
Le-same a b e = subst (λ (z : Option Stamp). Le a z) e (Le_refl a)

cond-either : (t : Bool) (a b : Option Stamp) → (cond t a b ≡ a) ⊎ (cond t a b ≡ b)
cond-either true a b = inl refl
cond-either false a b = inr refl

pub newer-either : (a b : Option Stamp) → (newer a b ≡ a) ⊎ (newer a b ≡ b)
unfolding newer
newer-either None b = inr refl
newer-either (Some a) None = inl refl
newer-either (Some a) (Some b) = elim (cond-either (is_older a b) (Some b) (Some a)) [ inl x ↦ inr x | inr x ↦ inl x ]

pub same_stamp-true : (a b : Stamp) → same_stamp a b ≡ true → a ≡ b
unfolding same_stamp
same_stamp-true a b h = by_case (eqb a.version b.version) refl h
  where
    make : a.version ≡ b.version → a.count ≡ b.count → a ≡ b
    make p q = λ i. record { version = p i; count = q i }

    by_case : (t : Bool) → eqb a.version b.version ≡ t → cond t (eqb a.count b.count) false ≡ true → a ≡ b
    by_case true e h = make (eqb-true _ _ e) (eqb-true _ _ h)
    by_case false e h = cc

pub older_stamp : (a b : Stamp) → a.version < b.version → Le (Some a) (Some b)
unfolding Le StampLe
older_stamp a b h = inl h
