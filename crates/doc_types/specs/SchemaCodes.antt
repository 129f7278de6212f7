-- That schemas are data.
use Rattle.std.specs.Prelude.{◌≡◌, ℕ, zero, suc, List, refl}
use Rattle.std.specs.Coded.{Coded, code_by, coded_ℕ, coded_list}
use Rattle.std.specs.Ordering.{nat_cmp}
use Rattle.std.specs.declared.cmp.Ordering.{Ordering}
use Rattle.std.specs.Cmp.Lexicographic.{slice_cmp}
use Rattle.std.specs.FinMap as fin
use Rattle.doc_types.specs.declared.values.FieldType.{FieldType}
use Rattle.doc_types.specs.declared.values.FieldType.TheVariants as kind

-- names in the order of their bytes
abbrev pub name_cmp : List ℕ → List ℕ → Ordering
name_cmp = slice_cmp nat_cmp

-- fields with their kinds, by name
abbrev pub Fields : Type 0
Fields = fin.FinMap name_cmp FieldType

-- types with their fields, by name
abbrev pub Types : Type 0
Types = fin.FinMap name_cmp Fields

-- a kind as a number, and back
abbrev kind_number : FieldType → ℕ
kind_number kind.Int = 0
kind_number kind.Text = 1
kind_number kind.IntArray = 2
kind_number kind.TextArray = 3

abbrev kind_by : ℕ → FieldType
kind_by zero = kind.Int
kind_by (suc zero) = kind.Text
kind_by (suc (suc zero)) = kind.IntArray
kind_by (suc (suc (suc n))) = kind.TextArray

pub kind_back : (k : FieldType) → kind_by (kind_number k) ≡ k
kind_back kind.Int = refl
kind_back kind.Text = refl
kind_back kind.IntArray = refl
kind_back kind.TextArray = refl

abbrev pub kind_code : Coded FieldType
kind_code = code_by ℕ coded_ℕ kind_number kind_by kind_back

abbrev pub fields_code : Coded Fields
fields_code = fin.code (coded_list coded_ℕ) kind_code

abbrev pub types_code : Coded Types
types_code = fin.code (coded_list coded_ℕ) fields_code
