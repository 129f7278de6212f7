-- Which words and signs join conditions.
use Rattle.std.specs.Prelude.{ℕ, Bool, true, false, List, codes, if◌then◌else◌}
use Rattle.std.specs.Str.{bytes_eq}
use Rattle.doc_types.specs.declared.symbols.Symbol.{Symbol}
use Rattle.doc_types.specs.declared.symbols.Symbol.TheVariants as symbol
use Rattle.doc_types.specs.Tokens.{Token, word, integer, quoted, signs}
use Rattle.conditions.specs.declared.kinds.Kind.{Kind}
use Rattle.conditions.specs.declared.kinds.Kind.TheVariants as kind
use Rattle.conditions.specs.declared.kinds.Negation.{Negation}
use Rattle.conditions.specs.declared.kinds.Negation.TheVariants as negation

abbrev pub and_word : Token
and_word = word (codes "and")

abbrev pub or_word : Token
or_word = word (codes "or")

abbrev pub true_word : Token
true_word = word (codes "true")

abbrev pub false_word : Token
false_word = word (codes "false")

abbrev pub not_word : Token
not_word = word (codes "not")

abbrev pub not_sign : Token
not_sign = signs symbol.Not

abbrev pub opens : Token
opens = signs symbol.Open

abbrev pub closes : Token
closes = signs symbol.Close

-- `not` negates in one language and `!` in the other
abbrev pub not_kind : Negation → Kind
not_kind negation.Word = kind.Not
not_kind negation.Sign = kind.Other

abbrev pub sign_kind : Negation → Symbol → Kind
sign_kind n symbol.Open = kind.Open
sign_kind n symbol.Close = kind.Close
sign_kind negation.Sign symbol.Not = kind.Not
sign_kind n _ = kind.Other

abbrev pub word_kind : Negation → List ℕ → Kind
word_kind n w = if bytes_eq w (codes "and") then kind.And else (if bytes_eq w (codes "or") then kind.Or
    else (if bytes_eq w (codes "true") then kind.True else (if bytes_eq w (codes "false") then kind.False
    else (if bytes_eq w (codes "not") then not_kind n else kind.Other))))

unfoldable pub kind_of : Negation → Token → Kind
kind_of n (word w) = word_kind n w
kind_of n (integer z) = kind.Other
kind_of n (quoted text) = kind.Other
kind_of n (signs s) = sign_kind n s

-- `and`, `or` and `)` end what stands before them
abbrev pub ends_operand : Kind → Bool
ends_operand kind.And = true
ends_operand kind.Or = true
ends_operand kind.Close = true
ends_operand _ = false

-- a token of an atom, or of none
abbrev pub is_other : Kind → Bool
is_other kind.Other = true
is_other _ = false
