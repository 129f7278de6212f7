-- Counts of faults over several calls.
use Rattle.std.proofs.Common.{◌≡◌, ℕ, ◌≤◌, ◌∙◌, Option, Some, ap, inl, inr, arith}
use Rattle.std.proofs.lemmas.Bool.{cases_lt}
use Rattle.io_ends.specs.Causes.{HasRisen}

-- a rise after some calls
pub HasRisen-after : (last : Option ℕ) (a b c : ℕ) → a ≤ b → HasRisen last b c → HasRisen last a c
HasRisen-after last a b c h rise = elim rise [
  | inl less ↦ inl (omega arith)
  | inr stands ↦ elim (cases_lt a b) [ inl less ↦ inl (omega (arith, stands.1)) | inr same ↦ let e : b ≡ a = omega arith in inr (stands.0 ∙ ap Some e, stands.1 ∙ e) ]
]

-- a rise before some calls
pub HasRisen-before : (last : Option ℕ) (a b c : ℕ) → HasRisen last a b → b ≤ c → HasRisen last a c
HasRisen-before last a b c rise h = elim rise [
  | inl less ↦ inl (omega arith)
  | inr stands ↦ elim (cases_lt b c) [ inl less ↦ inl (omega (arith, stands.1)) | inr same ↦ let e : c ≡ b = omega arith in inr (stands.0, e ∙ stands.1) ]
]
