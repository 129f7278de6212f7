-- One read of the source into the window.
use Rattle.std.specs.Prelude.{◌≡◌, ℕ, List, ◌≤◌, ◌++◌, length, Option}
use Rattle.std.specs.Io.KnownBytes.{Consumes, IsAtEnd}
use Rattle.io_ends.specs.declared.sizes.TheConstants.{PIECE}
use Rattle.io_ends.specs.Ahead.{Ahead}

-- so many bytes, at most a piece, came from the source and lie behind what lay ahead; none came only at the end
pub record Fetches (old new : Ahead) (before after : Option (List ℕ)) (count : ℕ) : Type 0 where
  pub bytes : List ℕ
  pub size : length bytes ≡ count
  pub few : count ≤ PIECE
  pub ahead : new.ahead ≡ old.ahead ++ bytes
  pub passed : new.passed ≡ old.passed
  pub taken : Consumes before after bytes
  pub ends : count ≡ 0 → IsAtEnd after
