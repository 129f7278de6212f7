-- How the code keeps which documents have a word.
use Rattle.std.specs.Prelude.{◌≡◌, ℕ, List, option_map}
use Rattle.std.specs.Ordering.{nat_cmp}
use Rattle.std.specs.FinMap as fin
use Rattle.attribute_columns.specs.Columns.{ValueMap}
use Rattle.word_index.specs.Index.{Index, list_of}
use Rattle.field_indexes.specs.Words.{words_in, locals_having}

-- the words of each document
abbrev pub WordMap : Type 0
WordMap = fin.FinMap nat_cmp (List (List ℕ))

-- they are those of its value, and of each word the documents are those that have it
pub record AreWords (values : ValueMap) (kept : WordMap) (words : Index) : Type 0 where
  pub kept_is : (n : ℕ) → fin.get kept n ≡ option_map words_in (fin.get values n)
  pub lists : (word : List ℕ) → list_of word words ≡ locals_having word values
