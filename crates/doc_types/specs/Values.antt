-- The kinds of values, and the order of those that have one.
use Rattle.std.specs.Prelude.{Option, Some, None}
use Rattle.std.specs.Ordering.{nat_cmp, int_cmp}
use Rattle.std.specs.Cmp.Lexicographic.{slice_cmp}
use Rattle.std.specs.declared.cmp.Ordering.{Ordering}
use Rattle.std.specs.declared.cmp.Ordering.TheVariants.{Less, Greater}
use Rattle.doc_types.specs.declared.values.FieldType.{FieldType}
use Rattle.doc_types.specs.declared.values.FieldType.TheVariants as kind
use Rattle.doc_types.specs.declared.values.FieldValue.{FieldValue}
use Rattle.doc_types.specs.declared.values.FieldValue.TheVariants.{Int, Text, Ints, Texts}

-- the kind of field that has such a value
abbrev pub kind_of : FieldValue → FieldType
kind_of (Int z) = kind.Int
kind_of (Text t) = kind.Text
kind_of (Ints zs) = kind.IntArray
kind_of (Texts ts) = kind.TextArray

-- numbers by size and before all texts, texts by bytes; lists have no order
abbrev pub value_order : FieldValue → FieldValue → Option Ordering
value_order (Int a) (Int b) = Some (int_cmp a b)
value_order (Int a) (Text b) = Some Less
value_order (Text a) (Int b) = Some Greater
value_order (Text a) (Text b) = Some (slice_cmp nat_cmp a b)
value_order (Int a) (Ints b) = None
value_order (Int a) (Texts b) = None
value_order (Text a) (Ints b) = None
value_order (Text a) (Texts b) = None
value_order (Ints a) b = None
value_order (Texts a) b = None
