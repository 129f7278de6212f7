-- Of which documents a selection is true.
use Rattle.std.specs.Prelude.{ℕ, ℤ, Bool, true, false, not, List, Option, Some, None, is_some, if◌then◌else◌}
use Rattle.std.specs.FinMap as fin
use Rattle.std.specs.Str.{bytes_eq}
use Rattle.std.specs.Ordering.{int_cmp, nat_cmp, is_eq, is_ne, is_lt, is_le, is_gt, is_ge}
use Rattle.std.specs.Cmp.Lexicographic.{slice_cmp}
use Rattle.std.specs.declared.cmp.Ordering.{Ordering}
use Rattle.doc_types.specs.declared.values.FieldValue.{FieldValue}
use Rattle.doc_types.specs.declared.values.FieldValue.TheVariants as value
use Rattle.document_ids.specs.Parts.{type_of}
use Rattle.documents.specs.Fields.{Contents}
use Rattle.conditions.specs.Formulas.{Formula, holds}
use Rattle.doc_selection.specs.declared.terms.Comparison.{Comparison}
use Rattle.doc_selection.specs.declared.terms.Comparison.TheVariants as op
use Rattle.doc_selection.specs.declared.terms.Literal.{Literal}
use Rattle.doc_selection.specs.declared.terms.Literal.TheVariants as literal
use Rattle.doc_selection.specs.declared.terms.Term.{Term}
use Rattle.doc_selection.specs.declared.terms.Term.TheVariants as term

-- a comparison of two values by their order
abbrev pub ordered : Comparison → Ordering → Bool
ordered op.Equal o = is_eq o
ordered op.NotEqual o = is_ne o
ordered op.Less o = is_lt o
ordered op.LessEqual o = is_le o
ordered op.Greater o = is_gt o
ordered op.GreaterEqual o = is_ge o

-- `== null` is true exactly of an absent field, and `!= null` of one that is there
abbrev pub null_compared : Comparison → Bool → Bool
null_compared op.Equal there = not there
null_compared op.NotEqual there = there
null_compared _ there = false

-- numbers compare by size
abbrev pub integer_compared : Comparison → ℤ → Option FieldValue → Bool
integer_compared c z (Some (value.Int y)) = ordered c (int_cmp y z)
integer_compared c z _ = false

-- texts compare by bytes
abbrev pub text_compared : Comparison → List ℕ → Option FieldValue → Bool
text_compared c text (Some (value.Text y)) = ordered c (slice_cmp nat_cmp y text)
text_compared c text _ = false

-- any other comparison with an absent field, or with a value of another kind, is false
abbrev pub compared : Comparison → Literal → Option FieldValue → Bool
compared c literal.Null v = null_compared c (is_some v)
compared c (literal.Integer z) v = integer_compared c z v
compared c (literal.Text text) v = text_compared c text v

-- a field of another type than the document's is absent
abbrev pub value_in : Contents → List ℕ → List ℕ → Option FieldValue
value_in d name field = if bytes_eq (type_of d.id) name then fin.get d.fields field else None

-- a type is true of its documents
abbrev pub term_holds : Contents → Term → Bool
term_holds d (term.OfType name) = bytes_eq (type_of d.id) name
term_holds d (term.Compare name field c l) = compared c l (value_in d name field)

-- a selection is true of a document
abbrev pub selects : Contents → Formula Term → Bool
selects d formula = holds (term_holds d) formula
