-- What a column has that is lent.
use Rattle.std.proofs.Common.{◌≡◌, ℕ, Bool, true, false, cond, List, refl, sym, ap, subst, ◌∙◌, Option, Some, None, option_map, bytes_eq}
use Rattle.std.specs.Option.{IfSome}
use Rattle.std.specs.FinMap as fin
use Rattle.proof_basics.proofs.Options.{some_same}
use Rattle.doc_types.specs.SchemaCodes.{Types}
use Rattle.doc_types.specs.Values.{kind_of}
use Rattle.doc_types.specs.declared.values.FieldValue.{FieldValue}
use Rattle.document_ids.specs.Parts.{type_of}
use Rattle.documents.specs.Fields.{Contents}
use Rattle.word_index.specs.Index.{Index}
use Rattle.meta_store.specs.Store.{Store}
use Rattle.attribute_columns.specs.Columns.{Held}
use Rattle.field_indexes.specs.Fields.{Fields}
use Rattle.document_indexes.specs.Entering.{cell_of, IsLent}
use Rattle.document_rows.specs.Rows.{Rows, kind_in}
use Rattle.document_rows.specs.Reading.{row_at}
use Rattle.document_rows.proofs.RowLaws.{same_id}
use Rattle.node_rows.specs.Kept.{IsProper, IsKept}
use Rattle.node_rows.proofs.IndexedLaws.{fits_there}
use Rattle.node_rows.proofs.ReadLaws.{cell_there, cell_missing}

-- the value of a document is of the kind that its field has
cell_kind : (types : Types) (name field : List ℕ) (h : Held) (r : Option Contents) → IfSome r (IsProper types) → kind_in (fin.get types name) field ≡ Some h.kind → IfSome (cell_of name field r) (λ v. kind_of v ≡ h.kind)
cell_kind types name field h None p k = tt
cell_kind types name field h (Some d) p k = by_test (bytes_eq (type_of d.id) name) refl
  where
    by_value : bytes_eq (type_of d.id) name ≡ true → (o : Option FieldValue) → fin.get d.fields field ≡ o → IfSome o (λ v. kind_of v ≡ h.kind)
    by_value e None f = tt
    by_value e (Some v) f = some_same (kind_of v) h.kind (sym (fits_there types d p.whole field v f) ∙ ap (λ x. kind_in (fin.get types x) field) (same_id (type_of d.id) name e) ∙ k)

    by_test : (t : Bool) → bytes_eq (type_of d.id) name ≡ t → IfSome (cond t (fin.get d.fields field) None) (λ v. kind_of v ≡ h.kind)
    by_test true e = by_value e (fin.get d.fields field) refl
    by_test false e = tt

pub lent_is : (types : Types) (store : Store) (rows : Rows) (lists : Index) (fields : Fields) (name field : List ℕ) (o : Option Held) → IsKept types store rows lists fields → o ≡ fields name field → IsLent name field (row_at rows) o
lent_is types store rows lists fields name field None is e = cell_missing types (row_at rows) lists fields name field is.indexed (sym e)
lent_is types store rows lists fields name field (Some h) is e = record {
  cells = cell_there types (row_at rows) lists fields name field h is.indexed e;
  kinds = λ n. subst (λ o. IfSome o (λ v. kind_of v ≡ h.kind)) (sym (cell_there types (row_at rows) lists fields name field h is.indexed e n))
      (cell_kind types name field h (row_at rows n) (is.proper n) (subst (λ o. IfSome (option_map (λ (h : Held). h.kind) o) (λ k. kind_in (fin.get types name) field ≡ Some k)) (sym e) (is.indexed.kinds name field)));
}
