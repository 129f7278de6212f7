-- The tokens of a text.
use Rattle.std.specs.Prelude.{ℕ, Bool, true, false, not, List, [], map}
use Rattle.std.specs.Char.{is_ascii_alphanumeric, to_ascii_lowercase}
use Rattle.std.specs.List.{filter, slice_split}

-- all but ASCII letters and digits
abbrev pub separates : ℕ → Bool
separates c = not (is_ascii_alphanumeric c)

abbrev pub has_bytes : List ℕ → Bool
has_bytes [] = false
has_bytes _ = true

-- the longest runs of ASCII letters and digits, in order, with letters lower-cased
abbrev pub tokens_of : List ℕ → List (List ℕ)
tokens_of text = filter has_bytes (map (map to_ascii_lowercase) (slice_split separates text))
