-- How large a document is.
use Rattle.std.specs.Prelude.{ℕ, ◌+◌, ◌-◌, ◌*◌, ◌^◌, min, List, length, map, sum}
use Rattle.std.specs.FinMap as fin
use Rattle.doc_types.specs.declared.values.FieldValue.{FieldValue}
use Rattle.doc_types.specs.declared.values.FieldValue.TheVariants.{Int, Text, Ints, Texts}
use Rattle.documents.specs.Fields.{FieldMap}

-- the largest document that a put or an update may leave
abbrev pub largest : ℕ
largest = 65536

-- 8 for a number and for each item, and the bytes of each text
abbrev pub text_size : List ℕ → ℕ
text_size text = 8 + length text

abbrev pub value_size : FieldValue → ℕ
value_size (Int z) = 8
value_size (Text text) = text_size text
value_size (Ints zs) = 8 + 8 * length zs
value_size (Texts texts) = 8 + sum (map text_size texts)

-- with the bytes of the name
abbrev pub field_size : List ℕ × FieldValue → ℕ
field_size e = length e.0 + value_size e.1

-- a size stops at the greatest number of 64 bits
abbrev pub capped : ℕ → ℕ
capped n = min n (2 ^ 64 - 1)

abbrev pub size_of : FieldMap → ℕ
size_of fields = capped (sum (map field_size (fin.entries fields)))
