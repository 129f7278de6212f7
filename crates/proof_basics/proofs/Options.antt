-- Options.
use Rattle.std.proofs.Common.{◌≡◌, Bool, true, false, ◌∷◌, Option, Some, None, refl, if◌then◌else◌}

pub some_same : {X : Type 0} (a b : X) → Some a ≡ Some b → a ≡ b
some_same a b e = cc

pub none_some : {X : Type 0} (a : X) → ◌≡◌ {A = Option X} None (Some a) → ⊥
none_some a e = cc

pub some-none : {A : Type 0} (o : Option A) → ((x : A) → o ≡ Some x → ⊥) → o ≡ None
some-none None h = refl
some-none (Some x) h = absurd (h x refl)

pub if-some : {A : Type 0} (t : Bool) (x : Option A) (a : A) → (if t then x else None) ≡ Some a → (t ≡ true) × (x ≡ Some a)
if-some true x a h = (refl, h)
if-some false x a h = cc
