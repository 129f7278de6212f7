-- The words of values, and the documents whose values pass a test, by local id.
use Rattle.std.specs.Prelude.{ℕ, Bool, false, List, [], filter}
use Rattle.std.specs.List.{list_any, flat_map}
use Rattle.std.specs.Option.{option_map_or}
use Rattle.std.specs.FinMap as fin
use Rattle.std.specs.Str.{bytes_eq}
use Rattle.doc_types.specs.declared.values.FieldValue.{FieldValue}
use Rattle.doc_types.specs.declared.values.FieldValue.TheVariants.{Int, Text, Ints, Texts}
use Rattle.word_index.specs.Tokens.{tokens_of}
use Rattle.attribute_columns.specs.Columns.{ValueMap}

-- the words of a text, or of the items of a list of texts one after the other; of numbers none
abbrev pub words_in : FieldValue → List (List ℕ)
words_in (Int z) = []
words_in (Text text) = tokens_of text
words_in (Ints zs) = []
words_in (Texts texts) = flat_map tokens_of texts

abbrev pub has_word : List ℕ → List (List ℕ) → Bool
has_word word words = list_any (bytes_eq word) words

abbrev pub value_has_word : List ℕ → FieldValue → Bool
value_has_word word value = has_word word (words_in value)

-- the documents whose values pass a test
abbrev pub locals_by : (FieldValue → Bool) → ValueMap → List ℕ
locals_by p values = filter (λ n. option_map_or p (fin.get values n) false) (fin.keys values)

-- the documents that have a word
abbrev pub locals_having : List ℕ → ValueMap → List ℕ
locals_having word values = locals_by (value_has_word word) values
