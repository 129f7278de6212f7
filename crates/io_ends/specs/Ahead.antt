-- The bytes between a source and the lines.
use Rattle.std.specs.Prelude.{ℕ, List}

-- what lies ahead, and how many bytes of the current line were passed over before
pub record Ahead : Type 0 where
  pub ahead : List ℕ
  pub passed : ℕ
