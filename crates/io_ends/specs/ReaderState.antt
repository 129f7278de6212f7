-- What holds of the fields of every reader of lines.
use Rattle.std.specs.Prelude.{ℕ, ◌+◌, ◌≤◌}
use Rattle.io_ends.specs.Ahead.{Ahead}
use Rattle.io_ends.specs.Filling.{IsLong}
use Rattle.io_ends.specs.Reading.{IsNearEnd}
use Rattle.io_ends.specs.declared.sizes.TheConstants.{PIECE}

pub record IsReader (w : Ahead) (lines given max_lines max_bytes : ℕ) : Type 0 where
  pub long : IsLong w
  pub near : IsNearEnd PIECE w.ahead
  pub few_lines : lines ≤ max_lines
  pub few_bytes : given + w.passed ≤ max_bytes
