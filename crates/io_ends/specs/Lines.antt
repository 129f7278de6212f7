-- The lines of a text.
use Rattle.std.specs.Prelude.{◌≢◌, ◌==◌, ℕ, zero, suc, List, [], ◌∷◌, if◌then◌else◌}

-- no byte is a line feed
abbrev pub NoLineFeed : List ℕ → Type 0
NoLineFeed [] = Unit {0}
NoLineFeed (b ∷ bytes) = (b ≢ 10) × NoLineFeed bytes

-- a byte in front of the first line
abbrev pub onto_first : ℕ → List (List ℕ) → List (List ℕ)
onto_first b [] = (b ∷ []) ∷ []
onto_first b (line ∷ lines) = (b ∷ line) ∷ lines

-- what stands before each line feed, and what stands after the last one where that has a byte
unfoldable pub lines_of : List ℕ → List (List ℕ)
lines_of [] = []
lines_of (b ∷ bytes) = if b == 10 then [] ∷ lines_of bytes else onto_first b (lines_of bytes)

-- how many bytes the first k lines take, with their line feeds
unfoldable pub end_of : ℕ → List ℕ → ℕ
end_of zero bytes = 0
end_of (suc k) [] = 0
end_of (suc k) (b ∷ bytes) = suc (if b == 10 then end_of k bytes else end_of (suc k) bytes)
