-- How much a session may have, in numbers.
use Rattle.std.specs.Prelude.{ℕ}

abbrev pub most_lines : ℕ
most_lines = 50000

-- the line feeds among them
abbrev pub most_bytes : ℕ
most_bytes = 67108864

-- lines that are read as states
abbrev pub most_states : ℕ
most_states = 64

-- lines that are read as upkeep
abbrev pub most_maintains : ℕ
most_maintains = 64
