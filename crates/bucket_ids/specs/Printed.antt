-- The text of a bucket: its number, `bits * 2^58 + low`, in 16 lower-case hexadecimal digits.
use Rattle.std.specs.Prelude.{ℕ, zero, suc, ◌+◌, ◌*◌, ◌/◌, ◌%◌, ◌^◌, List, [], ◌∷◌, ◌++◌, nat_lt, if◌then◌else◌}
use Rattle.bucket_ids.specs.Buckets.{Low}

-- the character of a digit: `0` to `9`, then `a` to `f`
abbrev pub hex_digit : ℕ → ℕ
hex_digit d = if nat_lt d 10 then 48 + d else 87 + d

-- the last k hexadecimal digits of n
unfoldable pub hex_digits : ℕ → ℕ → List ℕ
hex_digits zero n = []
hex_digits (suc k) n = hex_digits k (n / 16) ++ hex_digit (n % 16) ∷ []

-- the number of a bucket
abbrev pub number_of : Low → ℕ
number_of b = b.bits * 2 ^ 58 + b.low

-- the text of a bucket
unfoldable pub printed : Low → List ℕ
printed b = hex_digits 16 (number_of b)
