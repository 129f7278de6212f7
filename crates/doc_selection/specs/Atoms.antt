-- The terms of selections, as they are written.
use Rattle.std.specs.Prelude.{◌≡◌, ℕ, Bool, true, false, List, [], ◌∷◌, codes, Option, Some, is_some, option_and_then}
use Rattle.std.specs.FinMap as fin
use Rattle.doc_types.specs.declared.symbols.Symbol.TheVariants as symbol
use Rattle.doc_types.specs.declared.values.FieldType.{FieldType}
use Rattle.doc_types.specs.declared.values.FieldType.TheVariants as kind
use Rattle.doc_types.specs.SchemaCodes.{Types}
use Rattle.doc_types.specs.Tokens.{Token, word, integer, quoted, signs}
use Rattle.conditions.specs.Kinds.{kind_of}
use Rattle.conditions.specs.declared.kinds.Kind.TheVariants as part_of
use Rattle.conditions.specs.declared.kinds.Negation.TheVariants as negation
use Rattle.doc_selection.specs.declared.terms.Comparison.{Comparison}
use Rattle.doc_selection.specs.declared.terms.Comparison.TheVariants as op
use Rattle.doc_selection.specs.declared.terms.Literal.{Literal}
use Rattle.doc_selection.specs.declared.terms.Literal.TheVariants as literal
use Rattle.doc_selection.specs.declared.terms.Term.{Term}
use Rattle.doc_selection.specs.declared.terms.Term.TheVariants as term

abbrev pub dot : Token
dot = signs symbol.Dot

abbrev pub comparison_token : Comparison → Token
comparison_token op.Equal = signs symbol.Equal
comparison_token op.NotEqual = signs symbol.NotEqual
comparison_token op.Less = signs symbol.Less
comparison_token op.LessEqual = signs symbol.LessEqual
comparison_token op.Greater = signs symbol.Greater
comparison_token op.GreaterEqual = signs symbol.GreaterEqual

abbrev pub literal_token : Literal → Token
literal_token (literal.Integer z) = integer z
literal_token (literal.Text text) = quoted text
literal_token literal.Null = word (codes "null")

abbrev pub is_equality : Comparison → Bool
is_equality op.Equal = true
is_equality op.NotEqual = true
is_equality _ = false

abbrev pub is_int : FieldType → Bool
is_int kind.Int = true
is_int _ = false

abbrev pub is_text : FieldType → Bool
is_text kind.Text = true
is_text _ = false

-- an int field takes an integer, a text field a text, and every field `null` with `==` or `!=`
abbrev pub takes : FieldType → Comparison → Literal → Bool
takes k c (literal.Integer z) = is_int k
takes k c (literal.Text text) = is_text k
takes k c literal.Null = is_equality c

-- the type is in the schema, and its name is no word of selections
pub record IsType (types : Types) (name : List ℕ) : Type 0 where
  pub known : is_some (fin.get types name) ≡ true
  pub plain : kind_of negation.Word (word name) ≡ part_of.Other

abbrev pub field_kind : Types → List ℕ → List ℕ → Option FieldType
field_kind types name field = option_and_then (λ fields. fin.get fields field) (fin.get types name)

-- a type alone, or a field of it compared with a literal that it takes
pub data IsTerm (types : Types) : List Token → Term → Type 0 where
  a_type : (name : List ℕ) → IsType types name → IsTerm types (word name ∷ []) (term.OfType name)
  a_comparison : (name field : List ℕ) (k : FieldType) (c : Comparison) (l : Literal) → IsType types name → field_kind types name field ≡ Some k → takes k c l ≡ true
      → IsTerm types (word name ∷ dot ∷ word field ∷ comparison_token c ∷ literal_token l ∷ []) (term.Compare name field c l)
