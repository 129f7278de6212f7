-- The token at the front of a text, and what is behind it.
use Rattle.std.specs.Prelude.{◌==◌, ◌||◌, ℕ, ℤ, pos, neg_ℤ, ◌^◌, Bool, true, false, List, [], ◌∷◌, take, drop, Option, Some, None, option_map, nat_le, nat_lt, if◌then◌else◌}
use Rattle.std.specs.List.{prefix_len}
use Rattle.std.specs.Char.{is_ascii_digit, is_ascii_alphabetic}
use Rattle.std.specs.Str.Parse.{digits_value}
use Rattle.doc_types.specs.declared.symbols.Language.{Language}
use Rattle.doc_types.specs.declared.symbols.Symbol.{Symbol}
use Rattle.doc_types.specs.Symbols.{pair_symbol, single_symbol}

-- a word or a name, a number, a text without its quotes and escapes, or signs
pub data Token : Type 0 where
  word : List ℕ → Token
  integer : ℤ → Token
  quoted : List ℕ → Token
  signs : Symbol → Token

-- space, tab, LF and CR
abbrev pub is_blank : ℕ → Bool
is_blank c = c == 32 || c == 9 || c == 10 || c == 13

-- a letter, a digit or `_`
abbrev pub is_name : ℕ → Bool
is_name c = is_ascii_alphabetic c || is_ascii_digit c || c == 95

-- the text behind its blanks
abbrev pub skip_blanks : List ℕ → List ℕ
skip_blanks text = drop (prefix_len is_blank text) text

-- a text cut behind so many bytes
abbrev pub cut_by : ℕ → Token → List ℕ → Token × List ℕ
cut_by n t bytes = (t, drop n bytes)

-- the longest run of name bytes
abbrev pub word_at : List ℕ → Token × List ℕ
word_at bytes = cut_by (prefix_len is_name bytes) (word (take (prefix_len is_name bytes) bytes)) bytes

-- with its sign in the signed 64-bit range
abbrev pub signed : Bool → ℕ → Option ℤ
signed true v = if nat_le v (2 ^ 63) then Some (neg_ℤ (pos v)) else None
signed false v = if nat_lt v (2 ^ 63) then Some (pos v) else None

-- some digits, without a leading zero but for `0` itself
abbrev pub is_numeral : List ℕ → Bool
is_numeral [] = false
is_numeral (d ∷ []) = true
is_numeral (d ∷ e ∷ ds) = nat_lt 48 d

abbrev pub number_of : Bool → List ℕ → Option ℤ
number_of negative digits = if is_numeral digits then signed negative (digits_value 10 digits) else None

-- a run of digits, and what is behind it
abbrev pub digits_at : Bool → List ℕ → Option (Token × List ℕ)
digits_at negative bytes = option_map (λ z. cut_by (prefix_len is_ascii_digit bytes) (integer z) bytes) (number_of negative (take (prefix_len is_ascii_digit bytes) bytes))

-- what stands before the closing quote, and what is behind it; `\\`, `\"` and `\'` stand for the second character
abbrev pub is_escaped : ℕ → Bool
is_escaped c = c == 92 || c == 34 || c == 39

abbrev pub with_byte : ℕ → Option (List ℕ × List ℕ) → Option (List ℕ × List ℕ)
with_byte c read = option_map (λ p. (c ∷ p.0, p.1)) read

abbrev pub body_at : ℕ → List ℕ → Option (List ℕ × List ℕ)
body_at quote [] = None
body_at quote (c ∷ []) = if c == quote then Some ([], []) else None
body_at quote (c ∷ d ∷ rest) = if c == quote then Some ([], d ∷ rest)
    else (if c == 92 then (if is_escaped d then with_byte d (body_at quote rest) else None) else with_byte c (body_at quote (d ∷ rest)))

abbrev pub literal_at : ℕ → List ℕ → Option (Token × List ℕ)
literal_at quote bytes = option_map (λ p. (quoted p.0, p.1)) (body_at quote bytes)

-- the longer of two symbols
abbrev pub single_at : Language → ℕ → List ℕ → Option (Token × List ℕ)
single_at language a rest = option_map (λ s. (signs s, rest)) (single_symbol language a)

abbrev pub pair_or : Option Symbol → List ℕ → Option (Token × List ℕ) → Option (Token × List ℕ)
pair_or None rest single = single
pair_or (Some s) rest single = Some (signs s, rest)

abbrev pub symbol_at : Language → ℕ → List ℕ → Option (Token × List ℕ)
symbol_at language a [] = single_at language a []
symbol_at language a (b ∷ rest) = pair_or (pair_symbol language a b) rest (single_at language a (b ∷ rest))

abbrev pub is_quote : ℕ → Bool
is_quote c = c == 34 || c == 39

-- by the first byte
abbrev pub token_by : Language → ℕ → List ℕ → Option (Token × List ℕ)
token_by language c rest = if is_ascii_alphabetic c then Some (word_at (c ∷ rest))
    else (if is_ascii_digit c then digits_at false (c ∷ rest)
    else (if c == 45 then digits_at true rest
    else (if is_quote c then literal_at c rest else symbol_at language c rest)))

-- the longest token at the front; none where no token can be read there
abbrev pub token_at : Language → List ℕ → Option (Token × List ℕ)
token_at language [] = None
token_at language (c ∷ rest) = token_by language c rest
