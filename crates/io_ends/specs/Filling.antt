-- How the end of a line is found.
use Rattle.std.specs.Prelude.{◌≡◌, ℕ, ◌+◌, ◌<◌, ◌≤◌, List, [], length, drop, take, slice_index, None, Some, Option, MatchOption, MatchBool, nat_lt}
use Rattle.std.specs.Io.KnownBytes.{IsAtEnd}
use Rattle.io_ends.specs.Lines.{NoLineFeed}
use Rattle.io_ends.specs.Reading.{IsFeedAt, IsSplit, Reading}
use Rattle.io_ends.specs.declared.filling.LineEnd.{LineEnd}
use Rattle.io_ends.specs.declared.filling.LineEnd.TheVariants as line_end
use Rattle.io_ends.specs.declared.next.Next.{Next}
use Rattle.io_ends.specs.declared.next.Next.TheVariants as next
use Rattle.io_ends.specs.declared.next.LimitKind.TheVariants as limit
use Rattle.io_ends.specs.declared.sizes.TheConstants.{LONGEST}
use Rattle.io_ends.specs.Ahead.{Ahead}

-- these bytes are what the window passed over, what lies ahead, and what the source has left
abbrev pub HoldsIn : List ℕ → Ahead → Option (List ℕ) → Type 0
HoldsIn bytes w None = ⊥
HoldsIn bytes w (Some left) = IsSplit bytes w.passed w.ahead left

-- what was passed over is longer than a line that is handed out
abbrev pub IsLong : Ahead → Type 0
IsLong w = 0 < w.passed → LONGEST < w.passed

-- the first line feed, if there is one, of what follows `from` bytes
abbrev pub FindsFeed : List ℕ → ℕ → Option ℕ → Type 0
FindsFeed ahead from found = NoLineFeed (take from ahead) → MatchOption found (NoLineFeed ahead) (IsFeedAt ahead)

-- what was found, where the line may have `room` bytes
abbrev pub Finds : Ahead → ℕ → Option (List ℕ) → LineEnd → Type 0
Finds w room left (line_end.Feed at) = IsFeedAt w.ahead at
Finds w room left line_end.Past = NoLineFeed w.ahead × (room < w.passed + length w.ahead)
Finds w room left line_end.Input = NoLineFeed w.ahead × IsAtEnd left
Finds w room left line_end.Fault = NoLineFeed w.ahead
Finds w room left line_end.Memory = Unit {0}

-- the reader after a line that ends within `taken` bytes of what lies ahead
abbrev pub after_line : Reading → ℕ → Reading
after_line r taken = record {
  ahead = drop taken r.ahead;
  passed = 0;
  lines = r.lines + 1;
  given = r.given + r.passed + taken;
  max_lines = r.max_lines;
  max_bytes = r.max_bytes;
}

-- the line is handed out
pub record GivesLine (old new : Reading) (size taken number : ℕ) (line : List ℕ) : Type 0 where
  pub numbered : number ≡ old.lines + 1
  pub after : new ≡ after_line old taken
  pub within : old.given + old.passed + taken ≤ old.max_bytes
  pub whole : old.passed ≡ 0
  pub short : size ≤ LONGEST
  pub bytes : line ≡ take size old.ahead

-- the line is too long to be handed out
pub record GivesTooLong (old new : Reading) (size taken number : ℕ) : Type 0 where
  pub numbered : number ≡ old.lines + 1
  pub after : new ≡ after_line old taken
  pub within : old.given + old.passed + taken ≤ old.max_bytes
  pub long : LONGEST < old.passed + size

-- what is answered for a line whose last `size` bytes lie ahead, with a line feed or none behind
abbrev pub Gives : Reading → Reading → ℕ → ℕ → Next → List ℕ → Type 0
Gives old new size feed (next.Line number) line = GivesLine old new size (size + feed) number line
Gives old new size feed (next.TooLong number) line = GivesTooLong old new size (size + feed) number
Gives old new size feed next.End line = ⊥
Gives old new size feed (next.Limit limit.Lines) line = ⊥
Gives old new size feed (next.Limit limit.Bytes) line =
    (new ≡ old) × (old.max_bytes < old.given + old.passed + (size + feed))
Gives old new size feed (next.Limit limit.States) line = ⊥
Gives old new size feed (next.Limit limit.Maintains) line = ⊥
Gives old new size feed next.ReadFault line = ⊥
Gives old new size feed next.NoMemory line = new ≡ old

-- what lay ahead is passed over where it is longer than a line that is handed out; so many bytes are left
abbrev pub Passes : Ahead → Ahead → ℕ → ℕ → Type 0
Passes old new size left = MatchBool (nat_lt LONGEST size)
    ((new ≡ record { ahead = []; passed = old.passed + length old.ahead }) × (left ≡ 0))
    ((new ≡ old) × (left ≡ size))

-- the same at the end of the input, where there may be no line
abbrev pub GivesLast : Reading → Reading → Next → List ℕ → Type 0
GivesLast old new (next.Line number) line =
    Gives old new (length old.ahead) 0 (next.Line number) line × (0 < length old.ahead)
GivesLast old new (next.TooLong number) line = Gives old new (length old.ahead) 0 (next.TooLong number) line
GivesLast old new next.End line = (new ≡ old) × ((old.passed ≡ 0) × (old.ahead ≡ []))
GivesLast old new (next.Limit which) line =
    Gives old new (length old.ahead) 0 (next.Limit which) line × (0 < old.passed + length old.ahead)
GivesLast old new next.ReadFault line = ⊥
GivesLast old new next.NoMemory line = new ≡ old
