-- A number at the front of bytes is the token there.
use Rattle.std.proofs.Common.{◌≡◌, ℕ, ℤ, ◌-◌, Bool, List, length, take, drop, refl, ap, arith, Option, Some, None, option_map}
use Rattle.std.specs.List.{prefix_len}
use Rattle.std.specs.Char.{is_ascii_digit}
use Rattle.std.proofs.lemmas.List.{take_all, length-drop}
use Rattle.doc_types.specs.Tokens.{Token, integer, number_of, cut_by, digits_at}
use Rattle.doc_types.specs.Reading.{number_size}

pub all_from : (n : ℕ) (text : List ℕ) → take (length text - n) (drop n text) ≡ drop n text
all_from n text = take_all (length text - n) (drop n text) (omega (arith, length-drop n text))

pub number_some : (negative : Bool) (bytes : List ℕ) (z : ℤ) (n : ℕ) → ◌≡◌ {A = Option (ℤ × ℕ)} (Some (z, n)) (number_size negative bytes) → ◌≡◌ {A = Option (Token × List ℕ)} (Some (integer z, drop n bytes)) (digits_at negative bytes)
number_some negative bytes z n is = by (number_of negative (take (prefix_len is_ascii_digit bytes) bytes)) is
  where
    by : (o : Option ℤ) → ◌≡◌ {A = Option (ℤ × ℕ)} (Some (z, n)) (option_map (λ w. (w, prefix_len is_ascii_digit bytes)) o)
        → ◌≡◌ {A = Option (Token × List ℕ)} (Some (integer z, drop n bytes)) (option_map (λ w. cut_by (prefix_len is_ascii_digit bytes) (integer w) bytes) o)
    by None e = ap (option_map (λ p. (integer p.0, drop p.1 bytes))) e
    by (Some w) e = ap (option_map (λ p. (integer p.0, drop p.1 bytes))) e

pub number_none : (negative : Bool) (bytes : List ℕ) → ◌≡◌ {A = Option (ℤ × ℕ)} None (number_size negative bytes) → None ≡ digits_at negative bytes
number_none negative bytes is = by (number_of negative (take (prefix_len is_ascii_digit bytes) bytes)) is
  where
    by : (o : Option ℤ) → ◌≡◌ {A = Option (ℤ × ℕ)} None (option_map (λ w. (w, prefix_len is_ascii_digit bytes)) o)
        → None ≡ option_map (λ w. cut_by (prefix_len is_ascii_digit bytes) (integer w) bytes) o
    by None e = refl
    by (Some w) e = cc
