-- Numbers and the tests of them.
use Rattle.std.proofs.Common.{◌≡◌, ℕ, ◌+◌, ◌-◌, ◌*◌, ◌/◌, ◌%◌, ◌^◌, ◌<◌, ◌≤◌, ◌⊎◌, true, nat_lt, inl, inr, sym, ap, ◌∙◌, subst, arith, add_comm, pow-suc, add-one, ◌≢◌, false, ◌∷◌, refl, eqb, eq-eqb, nat_le, ◌==◌}
use Rattle.std.proofs.lemmas.Nat.{mod-pow-add, mod_below}
use Rattle.std.proofs.Math.Pow.{mod-mod-pow}
use Rattle.std.proofs.lemmas.Bool.{cases_lt}
use Rattle.std.proofs.lemmas.Bool.Decides.{nat_tests}

pub apart : (a b : ℕ) → a ≢ b → eqb a b ≡ false
apart a b h = grind (arith, nat_tests)

pub twice : (k : ℕ) → 2 ^ (k + 1) ≡ 2 ^ k + 2 ^ k
twice k = rw add-one (rw (pow-suc 2 k) (omega arith))

pub le-of : (m n : ℕ) → nat_le m n ≡ true → m ≤ n
le-of m n h = grind (arith, nat_tests)

pub le-to : (m n : ℕ) → m ≤ n → nat_le m n ≡ true
le-to m n h = grind (arith, nat_tests)

pub same-nat : (n : ℕ) → (n == n) ≡ true
same-nat n = eq-eqb n n refl

pub lt-of : (m n : ℕ) → nat_lt m n ≡ true → m < n
lt-of m n h = grind (arith, nat_tests)

pub ge-of : (m n : ℕ) → nat_lt m n ≡ false → n ≤ m
ge-of m n h = grind (arith, nat_tests)

pub lt-to : (m n : ℕ) → m < n → nat_lt m n ≡ true
lt-to m n h = grind (arith, nat_tests)

pub ge-to : (m n : ℕ) → n ≤ m → nat_lt m n ≡ false
ge-to m n h = grind (arith, nat_tests)
