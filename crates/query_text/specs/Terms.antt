-- The terms of queries, as they are written.
use Rattle.std.specs.Prelude.{◌≡◌, ℕ, ℤ, Bool, true, false, List, [], ◌∷◌, codes, Some}
use Rattle.doc_types.specs.declared.symbols.Symbol.TheVariants as symbol
use Rattle.doc_types.specs.declared.values.FieldType.{FieldType}
use Rattle.doc_types.specs.declared.values.FieldType.TheVariants as kind
use Rattle.doc_types.specs.SchemaCodes.{Types}
use Rattle.doc_types.specs.Tokens.{Token, word, integer, quoted, signs}
use Rattle.conditions.specs.Kinds.{kind_of}
use Rattle.conditions.specs.declared.kinds.Kind.TheVariants as part_of
use Rattle.conditions.specs.declared.kinds.Negation.TheVariants as negation
use Rattle.word_index.specs.Tokens.{tokens_of}
use Rattle.query_groups.specs.Outputs.{field_kind}
use Rattle.query_text.specs.declared.terms.Rel.{Rel}
use Rattle.query_text.specs.declared.terms.Rel.TheVariants as rel
use Rattle.query_text.specs.declared.terms.Term.{Term}
use Rattle.query_text.specs.declared.terms.Term.TheVariants as term

abbrev pub rel_token : Rel → Token
rel_token rel.Eq = signs symbol.Is
rel_token rel.Lt = signs symbol.Less
rel_token rel.Le = signs symbol.LessEqual
rel_token rel.Gt = signs symbol.Greater
rel_token rel.Ge = signs symbol.GreaterEqual

abbrev pub contains_word : Token
contains_word = word (codes "contains")

abbrev pub has_numbers : FieldType → Bool
has_numbers kind.Int = true
has_numbers kind.IntArray = true
has_numbers _ = false

abbrev pub has_texts : FieldType → Bool
has_texts kind.Text = true
has_texts kind.TextArray = true
has_texts _ = false

-- a field of the type, whose name is no word of conditions
pub record IsField (types : Types) (name field : List ℕ) (k : FieldType) : Type 0 where
  pub known : field_kind types name field ≡ Some k
  pub plain : kind_of negation.Sign (word field) ≡ part_of.Other

-- a field of numbers compared with one, or a field of texts that contains the tokens of a text
pub data IsTerm (types : Types) (name : List ℕ) : List Token → Term → Type 0 where
  a_relation : (field : List ℕ) (k : FieldType) (r : Rel) (z : ℤ) → IsField types name field k → has_numbers k ≡ true
      → IsTerm types name (word field ∷ rel_token r ∷ integer z ∷ []) (term.Compare field r z)
  a_containment : (field : List ℕ) (k : FieldType) (text : List ℕ) → IsField types name field k → has_texts k ≡ true
      → IsTerm types name (word field ∷ contains_word ∷ quoted text ∷ []) (term.Contains field (tokens_of text))
