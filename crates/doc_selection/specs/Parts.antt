-- How a term is read token by token.
use Rattle.std.specs.Prelude.{ℕ, ◌||◌, Bool, true, false, List, codes, Option, Some, None, is_some, option_map, option_and_then, if◌then◌else◌}
use Rattle.std.specs.FinMap as fin
use Rattle.std.specs.Str.{bytes_eq}
use Rattle.doc_types.specs.declared.symbols.Symbol.{Symbol}
use Rattle.doc_types.specs.declared.symbols.Symbol.TheVariants as symbol
use Rattle.doc_types.specs.declared.values.FieldType.{FieldType}
use Rattle.doc_types.specs.declared.values.FieldType.TheVariants as kind
use Rattle.doc_types.specs.Known.{has_fields}
use Rattle.doc_types.specs.SchemaCodes.{Types}
use Rattle.doc_types.specs.Tokens.{Token, word, integer, quoted, signs}
use Rattle.conditions.specs.declared.kinds.Negation.TheVariants as negation
use Rattle.conditions.specs.Machine.{Atoms, State, Gap, Place, outside, within, step}
use Rattle.conditions.specs.Views.{stack_of, gap_of}
use Rattle.doc_selection.specs.declared.parts.Part.{Part}
use Rattle.doc_selection.specs.declared.parts.Part.TheVariants as part
use Rattle.doc_selection.specs.declared.reader.Reader.{Reader}
use Rattle.doc_selection.specs.declared.terms.Comparison.{Comparison}
use Rattle.doc_selection.specs.declared.terms.Comparison.TheVariants as op
use Rattle.doc_selection.specs.declared.terms.Literal.{Literal}
use Rattle.doc_selection.specs.declared.terms.Literal.TheVariants as literal
use Rattle.doc_selection.specs.declared.terms.Term.{Term}
use Rattle.doc_selection.specs.declared.terms.Term.TheVariants as term
use Rattle.doc_selection.specs.Atoms.{is_equality, takes, field_kind}

abbrev pub comparison_of : Symbol → Option Comparison
comparison_of symbol.Equal = Some op.Equal
comparison_of symbol.NotEqual = Some op.NotEqual
comparison_of symbol.Less = Some op.Less
comparison_of symbol.LessEqual = Some op.LessEqual
comparison_of symbol.Greater = Some op.Greater
comparison_of symbol.GreaterEqual = Some op.GreaterEqual
comparison_of _ = None

abbrev pub literal_of : Token → Option Literal
literal_of (integer z) = Some (literal.Integer z)
literal_of (quoted text) = Some (literal.Text text)
literal_of (word w) = if bytes_eq w (codes "null") then Some literal.Null else None
literal_of (signs s) = None

-- a field of some kind takes a literal behind a comparison
abbrev pub has_order : FieldType → Bool
has_order kind.Int = true
has_order kind.Text = true
has_order _ = false

abbrev pub may_follow : FieldType → Comparison → Bool
may_follow k c = is_equality c || has_order k

abbrev pub first : Types → Token → Option Part
first types (word w) = if is_some (fin.get types w) then Some (part.Type w) else None
first types _ = None

abbrev pub dot_sign : Types → List ℕ → Symbol → Option Part
dot_sign types name symbol.Dot = if has_fields types name then Some (part.Dot name) else None
dot_sign types name _ = None

abbrev pub type_next : Types → List ℕ → Token → Option Part
type_next types name (signs s) = dot_sign types name s
type_next types name _ = None

abbrev pub dot_next : Types → List ℕ → Token → Option Part
dot_next types name (word field) = option_map (λ k. part.Field name field k) (field_kind types name field)
dot_next types name _ = None

abbrev pub sign_if : List ℕ → List ℕ → FieldType → Comparison → Option Part
sign_if name field k c = if may_follow k c then Some (part.Sign name field k c) else None

abbrev pub field_next : List ℕ → List ℕ → FieldType → Token → Option Part
field_next name field k (signs s) = option_and_then (sign_if name field k) (comparison_of s)
field_next name field k _ = None

abbrev pub whole_if : List ℕ → List ℕ → FieldType → Comparison → Literal → Option Part
whole_if name field k c l = if takes k c l then Some (part.Whole (term.Compare name field c l)) else None

abbrev pub sign_next : List ℕ → List ℕ → FieldType → Comparison → Token → Option Part
sign_next name field k c t = option_and_then (whole_if name field k c) (literal_of t)

abbrev pub next : Types → Part → Token → Option Part
next types (part.Type name) t = type_next types name t
next types (part.Dot name) t = dot_next types name t
next types (part.Field name field k) t = field_next name field k t
next types (part.Sign name field k c) t = sign_next name field k c t
next types (part.Whole x) t = None

abbrev pub says : Part → Option Term
says (part.Type name) = Some (term.OfType name)
says (part.Whole x) = Some x
says _ = None

abbrev pub terms : Types → Atoms Term Part
terms types = record { first = first types; next = next types; says = says }

abbrev pub selection_step : Types → State Term Part → Token → Option (State Term Part)
selection_step types = step negation.Word (terms types)

-- what terms say, without how they go on
abbrev pub endings : Atoms Term Part
endings = record { first = λ t. None; next = λ p t. None; says = says }

-- the place that the code is at
abbrev pub place_of : Option Part → Gap Term → Place Term Part
place_of None g = outside g
place_of (Some p) g = within p

abbrev pub state_of : Reader → State Term Part
state_of r = record { stack = stack_of r.conditions.frames.items; place = place_of r.part (gap_of r.conditions.place) }
