-- The order of stamps is strict and total.
use Rattle.std.proofs.Common.{◌≡◌, ◌⊎◌, true, false, inl, inr, arith}
use Rattle.std.proofs.lemmas.Bool.{cases_order}
use Rattle.std.proofs.lemmas.Bool.Decides.{nat_tests}
use Rattle.stamps.specs.declared.stamp.Stamp.{Stamp}
use Rattle.stamps.specs.Order.{IsBefore, is_before}

pub IsBefore-irrefl : (a : Stamp) → IsBefore a a → ⊥
IsBefore-irrefl a h = elim h [ inl v ↦ omega arith | inr c ↦ omega arith ]

pub IsBefore-trans : (a b c : Stamp) → IsBefore a b → IsBefore b c → IsBefore a c
IsBefore-trans a b c p q = elim p [
  | inl v ↦ elim q [ inl w ↦ inl (omega arith) | inr w ↦ inl (omega arith) ]
  | inr v ↦ elim q [ inl w ↦ inl (omega arith) | inr w ↦ inr (omega arith, omega arith) ]
]

same_stamp : (a b : Stamp) → a.version ≡ b.version → a.count ≡ b.count → a ≡ b
same_stamp a b v c = λ i. record { version = v i; count = c i }

pub IsBefore-total : (a b : Stamp) → (a ≡ b) ⊎ (IsBefore a b ⊎ IsBefore b a)
IsBefore-total a b = elim (cases_order a.version b.version) [
  | inl same ↦ elim (cases_order a.count b.count) [
    | inl equal ↦ inl (same_stamp a b same equal)
    | inr c ↦ elim c [ inl less ↦ inr (inl (inr (same, less))) | inr more ↦ inr (inr (inr (omega arith, more))) ]
  ]
  | inr v ↦ elim v [ inl less ↦ inr (inl (inl less)) | inr more ↦ inr (inr (inl more)) ]
]

-- the test tells the fact
pub is_before-tells : (a b : Stamp) → is_before a b ≡ true → IsBefore a b
is_before-tells a b h = grind (arith, nat_tests)

pub is_before-not : (a b : Stamp) → is_before a b ≡ false → IsBefore a b → ⊥
is_before-not a b h p = elim p [ inl v ↦ grind (arith, nat_tests) | inr c ↦ grind (arith, nat_tests) ]
