-- How a term is read token by token.
use Rattle.std.specs.Prelude.{ℕ, ◌&&◌, List, codes, Option, Some, None, option_map, option_and_then, if◌then◌else◌}
use Rattle.std.specs.Str.{bytes_eq}
use Rattle.doc_types.specs.declared.symbols.Symbol.{Symbol}
use Rattle.doc_types.specs.declared.symbols.Symbol.TheVariants as symbol
use Rattle.doc_types.specs.declared.values.FieldType.{FieldType}
use Rattle.doc_types.specs.SchemaCodes.{Types}
use Rattle.doc_types.specs.Tokens.{Token, word, integer, quoted, signs}
use Rattle.conditions.specs.declared.kinds.Negation.TheVariants as negation
use Rattle.conditions.specs.Machine.{Atoms, State, Gap, Place, outside, within, step}
use Rattle.conditions.specs.Views.{stack_of, gap_of}
use Rattle.word_index.specs.Tokens.{tokens_of}
use Rattle.query_text.specs.declared.conditioned.Condition.{Condition}
use Rattle.query_text.specs.declared.parts.Part.{Part}
use Rattle.query_text.specs.declared.parts.Part.TheVariants as part
use Rattle.query_text.specs.declared.terms.Rel.{Rel}
use Rattle.query_text.specs.declared.terms.Rel.TheVariants as rel
use Rattle.query_text.specs.declared.terms.Term.{Term}
use Rattle.query_text.specs.declared.terms.Term.TheVariants as term
use Rattle.query_groups.specs.Outputs.{field_kind}
use Rattle.query_text.specs.Terms.{has_numbers, has_texts}

abbrev pub rel_of : Symbol → Option Rel
rel_of symbol.Is = Some rel.Eq
rel_of symbol.Less = Some rel.Lt
rel_of symbol.LessEqual = Some rel.Le
rel_of symbol.Greater = Some rel.Gt
rel_of symbol.GreaterEqual = Some rel.Ge
rel_of _ = None

abbrev pub first : Types → List ℕ → Token → Option Part
first types name (word field) = option_map (λ k. part.Field field k) (field_kind types name field)
first types name _ = None

abbrev pub rel_if : List ℕ → FieldType → Rel → Option Part
rel_if field k r = if has_numbers k then Some (part.Sign field r) else None

abbrev pub contains_if : List ℕ → FieldType → List ℕ → Option Part
contains_if field k w = if bytes_eq w (codes "contains") && has_texts k then Some (part.Contains field) else None

abbrev pub field_next : List ℕ → FieldType → Token → Option Part
field_next field k (signs s) = option_and_then (rel_if field k) (rel_of s)
field_next field k (word w) = contains_if field k w
field_next field k _ = None

abbrev pub contains_next : List ℕ → Token → Option Part
contains_next field (quoted text) = Some (part.Whole (term.Contains field (tokens_of text)))
contains_next field _ = None

abbrev pub sign_next : List ℕ → Rel → Token → Option Part
sign_next field r (integer z) = Some (part.Whole (term.Compare field r z))
sign_next field r _ = None

abbrev pub next : Part → Token → Option Part
next (part.Field field k) t = field_next field k t
next (part.Contains field) t = contains_next field t
next (part.Sign field r) t = sign_next field r t
next (part.Whole x) t = None

abbrev pub says : Part → Option Term
says (part.Whole x) = Some x
says _ = None

abbrev pub terms : Types → List ℕ → Atoms Term Part
terms types name = record { first = first types name; next = next; says = says }

abbrev pub condition_step : Types → List ℕ → State Term Part → Token → Option (State Term Part)
condition_step types name = step negation.Sign (terms types name)

-- how terms go on and what they say, whatever the type
abbrev pub endings : Atoms Term Part
endings = record { first = λ t. None; next = next; says = says }

-- the place that the code is at
abbrev pub place_of : Option Part → Gap Term → Place Term Part
place_of None g = outside g
place_of (Some p) g = within p

abbrev pub state_of : Condition → State Term Part
state_of c = record { stack = stack_of c.conditions.frames.items; place = place_of c.part (gap_of c.conditions.place) }
