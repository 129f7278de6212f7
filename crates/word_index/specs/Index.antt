-- Which documents have a word.
use Rattle.std.specs.Prelude.{ℕ, ◌<◌, List, [], ◌∷◌, length, IfSome}
use Rattle.std.specs.Option.{unwrap_or}
use Rattle.std.specs.Ordering.{nat_cmp}
use Rattle.std.specs.Cmp.Lexicographic.{slice_cmp}
use Rattle.std.specs.FinMap as fin
use Rattle.local_ids.specs.Rising.{IsRising, with_local, without_local, moved_local}

-- of each word that a document has the ids of those that have it
abbrev pub Index : Type 0
Index = fin.FinMap (slice_cmp nat_cmp) (List ℕ)

-- ids that rise, of one document at least
abbrev pub IsWordList : List ℕ → Type 0
IsWordList ids = IsRising ids × (0 < length ids)

abbrev pub IsIndex : Index → Type 0
IsIndex index = (word : List ℕ) → IfSome (fin.get index word) IsWordList

-- the ids of the documents that have a word
abbrev pub list_of : List ℕ → Index → List ℕ
list_of word index = unwrap_or (fin.get index word) []

-- a word without documents is no word
abbrev pub with_list : List ℕ → List ℕ → Index → Index
with_list word [] index = fin.remove index word
with_list word (x ∷ xs) index = fin.insert index word (x ∷ xs)

abbrev pub with_word : List ℕ → ℕ → Index → Index
with_word word x index = fin.insert index word (with_local x (list_of word index))

abbrev pub without_word : List ℕ → ℕ → Index → Index
without_word word x index = with_list word (without_local x (list_of word index)) index

-- another id in the place of one that has the word
abbrev pub with_moved : List ℕ → ℕ → ℕ → Index → Index
with_moved word from to index = with_list word (moved_local from to (list_of word index)) index
