-- How far the search for the end of a line is.
use Rattle.std.proofs.Common.{ℕ, ◌≤◌, List, length, take, Option}
use Rattle.io_ends.specs.Ahead.{Ahead}
use Rattle.io_ends.specs.Filling.{HoldsIn, IsLong}
use Rattle.io_ends.specs.Lines.{NoLineFeed}
use Rattle.io_ends.specs.Reading.{IsNearEnd}
use Rattle.io_ends.specs.declared.sizes.TheConstants.{PIECE}

-- so far in the search: what was kept since it began, and that the first `seen` bytes ahead have no line feed; the source's
-- last call gave so many bytes as it began, and so many now
pub record IsSought (first : Ahead) (told : Option (List ℕ)) (now : Ahead) (left : Option (List ℕ)) (room seen gave gives : ℕ) : Type 0 where
  pub seen_lies_ahead : seen ≤ length now.ahead
  pub clear : NoLineFeed (take seen now.ahead)
  pub kept : (bytes : List ℕ) → HoldsIn bytes first told → HoldsIn bytes now left
  pub passed : now.passed ≤ room
  pub long : IsLong now
  pub near : IsNearEnd PIECE now.ahead
  pub last : IsNearEnd gave first.ahead → IsNearEnd gives now.ahead
