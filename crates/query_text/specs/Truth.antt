-- Of which documents a query is true.
use Rattle.std.specs.Prelude.{◌&&◌, ◌==◌, ℕ, ℤ, Bool, false, not, List, [], ◌∷◌, length, map, Option, Some}
use Rattle.std.specs.FinMap as fin
use Rattle.std.specs.List.{list_all, list_any}
use Rattle.std.specs.Str.{bytes_eq}
use Rattle.std.specs.Ordering.{int_cmp, is_eq, is_lt, is_le, is_gt, is_ge}
use Rattle.std.specs.declared.cmp.Ordering.{Ordering}
use Rattle.doc_types.specs.declared.values.FieldValue.{FieldValue}
use Rattle.doc_types.specs.declared.values.FieldValue.TheVariants as value
use Rattle.document_ids.specs.Parts.{type_of}
use Rattle.documents.specs.Fields.{Contents}
use Rattle.conditions.specs.Formulas.{holds}
use Rattle.word_index.specs.Tokens.{tokens_of}
use Rattle.query_text.specs.declared.expr.Expr.{Expr}
use Rattle.query_text.specs.declared.query.Query.{Query}
use Rattle.query_text.specs.declared.terms.Rel.{Rel}
use Rattle.query_text.specs.declared.terms.Rel.TheVariants as rel
use Rattle.query_text.specs.declared.terms.Term.{Term}
use Rattle.query_text.specs.declared.terms.Term.TheVariants as term
use Rattle.query_text.specs.Formulas.{formula_of}

-- an order is one that a relation asks for
abbrev pub is_related : Rel → Ordering → Bool
is_related rel.Eq o = is_eq o
is_related rel.Lt o = is_lt o
is_related rel.Le o = is_le o
is_related rel.Gt o = is_gt o
is_related rel.Ge o = is_ge o

-- a number stands so to another
abbrev pub relates : Rel → ℤ → ℤ → Bool
relates r z y = is_related r (int_cmp y z)

-- an int that relates so, or a list of ints with an item that does
abbrev pub value_relates : Rel → ℤ → Option FieldValue → Bool
value_relates r z (Some (value.Int y)) = relates r z y
value_relates r z (Some (value.Ints ys)) = list_any (relates r z) ys
value_relates r z _ = false

-- the texts of a field; of an absent one none
abbrev pub texts_in : Option FieldValue → List (List ℕ)
texts_in (Some (value.Text text)) = text ∷ []
texts_in (Some (value.Texts texts)) = texts
texts_in _ = []

-- a token of some text of a field
abbrev pub has_token : Option FieldValue → List ℕ → Bool
has_token v token = list_any (λ tokens. list_any (bytes_eq token) tokens) (map tokens_of (texts_in v))

-- there is a token, and each is a token of the field
abbrev pub contains : List (List ℕ) → Option FieldValue → Bool
contains tokens v = not (length tokens == 0) && list_all (has_token v) tokens

-- a term is true of a document; on an absent field it is false
abbrev pub term_holds : Contents → Term → Bool
term_holds d (term.Contains field tokens) = contains tokens (fin.get d.fields field)
term_holds d (term.Compare field r z) = value_relates r z (fin.get d.fields field)

abbrev pub expr_holds : Contents → Expr → Bool
expr_holds d e = holds (term_holds d) (formula_of e)

-- a query is true of documents of its type
abbrev pub matches_document : Query → Contents → Bool
matches_document q d = bytes_eq (type_of d.id) q.type_name && expr_holds d q.expr
