-- What the code reads of a token.
use Rattle.std.specs.Prelude.{ℕ, ◌-◌, ◌<◌, ◌≤◌, ℤ, Bool, List, [], ◌∷◌, take, length, slice_index_or, Option, Some, None, option_map}
use denote.Ref.{Bor}
use Rattle.std.specs.List.{prefix_len}
use Rattle.doc_types.specs.declared.symbols.Language.{Language}
use Rattle.doc_types.specs.declared.symbols.Symbol.{Symbol}
use Rattle.doc_types.specs.declared.tokens.Lexeme.{Lexeme}
use Rattle.doc_types.specs.declared.tokens.Lexeme.TheVariants as lexeme
use Rattle.doc_types.specs.Symbols.{pair_symbol, single_symbol}
use Rattle.std.specs.Char.{is_ascii_digit}
use Rattle.doc_types.specs.Tokens.{Token, word, integer, quoted, signs, number_of}

-- a number, and how many digits it has
abbrev pub number_size : Bool → List ℕ → Option (ℤ × ℕ)
number_size negative bytes = option_map (λ z. (z, prefix_len is_ascii_digit bytes)) (number_of negative (take (prefix_len is_ascii_digit bytes) bytes))

abbrev pub single_size : Language → ℕ → Option (Symbol × ℕ)
single_size language a = option_map (λ s. (s, 1)) (single_symbol language a)

abbrev pub pair_size : Option Symbol → Option (Symbol × ℕ) → Option (Symbol × ℕ)
pair_size None single = single
pair_size (Some s) single = Some (s, 2)

-- a symbol, and how many bytes it has
abbrev pub symbol_size : Language → ℕ → List ℕ → Option (Symbol × ℕ)
symbol_size language a [] = single_size language a
symbol_size language a (b ∷ rest) = pair_size (pair_symbol language a b) (single_size language a)

-- the token of a lexeme
abbrev pub token_of : Lexeme → Token
token_of (lexeme.Word text) = word text.now
token_of (lexeme.Integer z) = integer z
token_of (lexeme.Text body) = quoted body.items
token_of (lexeme.Signs s) = signs s

-- a token that was read and what is behind it
abbrev pub told : Option (Lexeme × Bor (List ℕ)) → Option (Token × List ℕ)
told read = option_map (λ p. (token_of p.0, p.1.now)) read

-- some bytes at the front, the last of them ASCII
pub record EndsInAscii (size : ℕ) (bytes : List ℕ) : Type 0 where
  pub some : 1 ≤ size
  pub within : size ≤ length bytes
  pub ascii : slice_index_or bytes (size - 1) 0 < 128
