-- What a document is: an id, and what each of its fields has.
use Rattle.std.specs.Prelude.{ℕ, List, map, refl}
use Rattle.std.specs.Coded.{Coded, code_by, coded×, coded_ℕ, coded_list}
use Rattle.std.specs.FinMap as fin
use Rattle.doc_types.specs.SchemaCodes.{name_cmp}
use Rattle.doc_types.specs.declared.values.FieldValue.{FieldValue}
use Rattle.doc_types.specs.contracts.values.FieldValue as value
use Rattle.documents.specs.declared.field.Field.{Field}

-- values by the names of their fields
abbrev pub FieldMap : Type 0
FieldMap = fin.FinMap name_cmp FieldValue

abbrev pub fields_code : Coded FieldMap
fields_code = fin.code (coded_list coded_ℕ) value.the_row.coded

pub record Contents : Type 0 where
  pub id : List ℕ
  pub fields : FieldMap

abbrev pub contents_code : Coded Contents
contents_code = code_by (List ℕ × FieldMap) (coded× (coded_list coded_ℕ) fields_code) (λ d. (d.id, d.fields)) (λ p. record { id = p.0; fields = p.1 }) (λ _. refl)

-- the pairs that a list of fields stands for
abbrev pub pairs : List Field → List (List ℕ × FieldValue)
pairs fields = map (λ f. (f.name, f.value)) fields
