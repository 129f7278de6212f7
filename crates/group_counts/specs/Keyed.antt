-- What is said of a group of documents, and the groups of those that have some key.
use Rattle.std.specs.Prelude.{ℕ, ℤ, pos, Bool, false, List, map, filter, length, Option, None, Some}
use Rattle.std.specs.Ordering.{eq_by_cmp}
use Rattle.std.specs.declared.cmp.Ordering.{Ordering}
use Rattle.std.specs.FinMap as fin
use Rattle.doc_types.specs.declared.values.FieldValue.{FieldValue}
use Rattle.doc_types.specs.declared.values.FieldValue.TheVariants.{Int, Text}
use Rattle.doc_types.specs.declared.outputs.OutputKind.{OutputKind}
use Rattle.doc_types.specs.declared.outputs.OutputKind.TheVariants as output
use Rattle.documents.specs.Fields.{Contents}
use Rattle.query_groups.specs.declared.answers.Group.{Group}
use Rattle.group_counts.specs.Numbers.{found, sum_of, least, greatest}

-- ---- values

abbrev pub number_of : Option FieldValue → Option ℤ
number_of (Some (Int z)) = Some z
number_of _ = None

abbrev pub text_of : Option FieldValue → Option (List ℕ)
text_of (Some (Text t)) = Some t
text_of _ = None

-- the number that a document has in a field, and the text; a list is neither
abbrev pub number_in : List ℕ → Contents → Option ℤ
number_in field d = number_of (fin.get d.fields field)

abbrev pub text_in : List ℕ → Contents → Option (List ℕ)
text_in field d = text_of (fin.get d.fields field)

-- ---- what is said of a group

-- the numbers that documents have in a field; those without the field give none
abbrev pub numbers_in : List ℕ → List Contents → List ℤ
numbers_in field docs = found (number_in field) docs

abbrev pub output_over : List Contents → OutputKind → Option ℤ
output_over docs output.Count = Some (pos (length docs))
output_over docs (output.Sum field) = Some (sum_of (numbers_in field docs))
output_over docs (output.Min field) = least (numbers_in field docs)
output_over docs (output.Max field) = greatest (numbers_in field docs)

-- the group of a value and its documents
abbrev pub group_over : List OutputKind → FieldValue → List Contents → Group
group_over kinds v docs = record { value = v; count = length docs; outputs = map (λ kind. record { kind = kind; value = output_over docs kind }) kinds }

-- ---- which groups there are

-- a key is there, and is this one
abbrev pub is_key : {K : Type 0} → (K → K → Ordering) → K → Option K → Bool
is_key R k None = false
is_key R k (Some y) = eq_by_cmp R k y

-- the documents that have a key
abbrev pub with_key : {K : Type 0} → (K → K → Ordering) → (Contents → Option K) → K → List Contents → List Contents
with_key R key k docs = filter (λ d. is_key R k (key d)) docs

-- each key that a document has goes to the group of the documents that have it; keys rise
abbrev pub groups_by : {K : Type 0} (R : K → K → Ordering) → (K → FieldValue) → List OutputKind → (Contents → Option K) → List Contents → fin.FinMap R Group
groups_by R value kinds key docs = fin.from_entries (map (λ k. (k, group_over kinds (value k) (with_key R key k docs))) (found key docs))
