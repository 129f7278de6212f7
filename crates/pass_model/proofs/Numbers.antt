-- Tests of numbers.
use Rattle.std.proofs.Common.{◌≡◌, ◌==◌, ℕ, suc, true, false, cond, nat_lt, arith}
use Rattle.std.proofs.lemmas.Bool.Decides.{nat_tests}

-- up to the next number
pub lt-suc : (n k : ℕ) → nat_lt n (suc k) ≡ cond (n == k) true (nat_lt n k)
lt-suc n k = grind (arith, nat_tests)

pub lt-same : (n k : ℕ) → (n == k) ≡ true → nat_lt n k ≡ false
lt-same n k h = grind (arith, nat_tests)

pub lt-zero : (n : ℕ) → nat_lt n 0 ≡ false
lt-zero n = grind (arith, nat_tests)

pub same-test : (m n : ℕ) → (m == n) ≡ (n == m)
same-test m n = grind (arith, nat_tests)
