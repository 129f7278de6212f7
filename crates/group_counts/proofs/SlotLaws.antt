-- What is read of columns.
use Rattle.std.proofs.Common.{◌≡◌, ◌≢◌, ℕ, ℤ, zero, suc, ◌+◌, ◌<◌, ◌==◌, ◌++◌, Bool, true, false, cond, List, [], ◌∷◌, length, get_or, Option, None, Some, option_and_then, bytes_eq, refl, sym, ap, subst, ◌∙◌, arith}
use Rattle.std.specs.Prelude.{slice_set}
use Rattle.std.specs.FinMap as fin
use Rattle.std.proofs.lemmas.Bool.Decides.{nat_tests}
use Rattle.proof_basics.proofs.Lists.{set-own, set-other}
use Rattle.proof_basics.proofs.Options.{none_some}
use Rattle.doc_types.specs.declared.values.FieldValue.{FieldValue}
use Rattle.doc_types.specs.declared.outputs.OutputKind.{OutputKind}
use Rattle.doc_types.specs.declared.outputs.OutputKind.TheVariants as output
use Rattle.document_ids.specs.Parts.{type_of}
use Rattle.document_indexes.specs.Entering.{cell_of}
use Rattle.documents.specs.Fields.{Contents}
use Rattle.document_rows.specs.Rows.{Rows}
use Rattle.document_rows.specs.Reading.{row_at, value_at}
use Rattle.group_counts.specs.Keyed.{number_of, number_in}
use Rattle.group_counts.specs.Tallies.{next_value}
use Rattle.group_counts.specs.Figures.{figure_for, with_figure}

-- an output with the number that it takes of a document
pub figure-is : (k : OutputKind) (v : Option ℤ) (d : Contents) → with_figure k v (figure_for k d) ≡ next_value k v d
figure-is output.Count v d = refl
figure-is (output.Sum field) v d = refl
figure-is (output.Min field) v d = refl
figure-is (output.Max field) v d = refl

-- a cell that has a value has that of the document
pub cell-some : (name field : List ℕ) (r : Option Contents) (v : FieldValue) → Some v ≡ cell_of name field r → Some v ≡ option_and_then (λ d. fin.get d.fields field) r
cell-some name field None v e = absurd (none_some v (sym e))
cell-some name field (Some d) v e = by (bytes_eq (type_of d.id) name) e
  where
    by : (t : Bool) → Some v ≡ cond t (fin.get d.fields field) None → Some v ≡ fin.get d.fields field
    by true e = e
    by false e = absurd (none_some v (sym e))

-- the value of a document that is there
pub own-value : (rows : Rows) (n : ℕ) (field : List ℕ) (d : Contents) → row_at rows n ≡ Some d → value_at rows n field ≡ fin.get d.fields field
own-value rows n field d e = ap (option_and_then (λ (d : Contents). fin.get d.fields field)) e

pub no-value : (rows : Rows) (n : ℕ) (field : List ℕ) → row_at rows n ≡ None → value_at rows n field ≡ None
no-value rows n field e = ap (option_and_then (λ (d : Contents). fin.get d.fields field)) e

pub number-read : (rows : Rows) (n : ℕ) (field : List ℕ) (d : Contents) (value : Option FieldValue) (number : Option ℤ) → number ≡ number_of value → value ≡ value_at rows n field → row_at rows n ≡ Some d → number ≡ number_in field d
number-read rows n field d value number e f is = e ∙ ap number_of (f ∙ own-value rows n field d is)

-- ---- what holds of each item of a list, with one item set or one more

module _ {X : Type 0} (P : ℕ → X → Type 0) (xs : List X) (y d : X) where
  pub each-set : (n at : ℕ) → at < length xs → P at y → ((i : ℕ) → i < n → P i (get_or xs i d)) → (i : ℕ) → i < n → P i (get_or (slice_set xs at y) i d)
  each-set n at l p h i m = by (i == at) refl
    where
      by : (t : Bool) → (i == at) ≡ t → P i (get_or (slice_set xs at y) i d)
      by true e = (let same : i ≡ at = grind (arith, nat_tests) in subst (λ j. P j (get_or (slice_set xs at y) j d)) (sym same) (subst (P at) (sym (set-own xs at y d l)) p))
      by false e = (let other : i ≢ at = grind (arith, nat_tests) in subst (P i) (sym (set-other xs at i y d other)) (h i m))

  pub each-more : (at : ℕ) → at < length xs → P at y → ((i : ℕ) → i < at → P i (get_or xs i d)) → (i : ℕ) → i < at + 1 → P i (get_or (slice_set xs at y) i d)
  each-more at l p h i m = by (i == at) refl
    where
      by : (t : Bool) → (i == at) ≡ t → P i (get_or (slice_set xs at y) i d)
      by true e = (let same : i ≡ at = grind (arith, nat_tests) in subst (λ j. P j (get_or (slice_set xs at y) j d)) (sym same) (subst (P at) (sym (set-own xs at y d l)) p))
      by false e = (let other : i ≢ at = grind (arith, nat_tests) in subst (P i) (sym (set-other xs at i y d other)) (h i (omega (arith, m, other))))

pushed-own : {X : Type 0} (xs : List X) (y d : X) → get_or (xs ++ y ∷ []) (length xs) d ≡ y
pushed-own [] y d = refl
pushed-own (x ∷ xs) y d = pushed-own xs y d

pushed-other : {X : Type 0} (xs : List X) (y d : X) (i : ℕ) → i < length xs → get_or (xs ++ y ∷ []) i d ≡ get_or xs i d
pushed-other [] y d i l = absurd (omega (arith, l))
pushed-other (x ∷ xs) y d zero l = refl
pushed-other (x ∷ xs) y d (suc i) l = pushed-other xs y d i (omega (arith, l))

pub each-pushed : {X : Type 0} (P : ℕ → X → Type 0) (xs : List X) (y d : X) (at : ℕ) → length xs ≡ at → P at y → ((i : ℕ) → i < at → P i (get_or xs i d)) → (i : ℕ) → i < at + 1 → P i (get_or (xs ++ y ∷ []) i d)
each-pushed P xs y d at long p h i m = by (i == at) refl
  where
    by : (t : Bool) → (i == at) ≡ t → P i (get_or (xs ++ y ∷ []) i d)
    by true e = (let same : i ≡ length xs = (let s : i ≡ at = grind (arith, nat_tests) in s ∙ sym long) in subst (λ j. P j (get_or (xs ++ y ∷ []) j d)) (sym same) (subst (P (length xs)) (sym (pushed-own xs y d)) (subst (λ j. P j y) (sym long) p)))
    by false e = (let other : i ≢ at = grind (arith, nat_tests) in subst (P i) (sym (pushed-other xs y d i (omega (arith, m, other, long)))) (h i (omega (arith, m, other))))
