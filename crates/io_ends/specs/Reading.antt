-- What a reader of lines has read of a text.
use Rattle.std.specs.Prelude.{◌≡◌, ◌⊎◌, ℕ, ◌+◌, ◌<◌, ◌≤◌, List, ◌++◌, length, drop, take, slice_get, slice_index, None, Some, Option}
use Rattle.io_ends.specs.Lines.{NoLineFeed, lines_of, end_of}
use Rattle.io_ends.specs.declared.next.Next.{Next}
use Rattle.io_ends.specs.declared.next.Next.TheVariants as next
use Rattle.io_ends.specs.declared.next.LimitKind.{LimitKind}
use Rattle.io_ends.specs.declared.next.LimitKind.TheVariants as limit
use Rattle.io_ends.specs.declared.sizes.TheConstants.{PIECE}

-- the most bytes of a line, without its line feed
abbrev pub longest_line : ℕ
longest_line = 65536

-- the bytes that were taken from the source and not yet given, without those of the current line that
-- were passed over; how many those are; how many lines and bytes were given; and the limits
pub record Reading : Type 0 where
  pub ahead : List ℕ
  pub passed : ℕ
  pub lines : ℕ
  pub given : ℕ
  pub max_lines : ℕ
  pub max_bytes : ℕ

-- these bytes are what was passed over, then what lies ahead, then what the source has left
pub record IsSplit (bytes : List ℕ) (passed : ℕ) (ahead left : List ℕ) : Type 0 where
  pub front : List ℕ
  pub size : length front ≡ passed
  pub no_feed : NoLineFeed front
  pub whole : bytes ≡ front ++ (ahead ++ left)

-- the reader gave the first lines of the text, and the source has the bytes after those ahead
pub record IsAt (text : List ℕ) (r : Reading) (left : List ℕ) : Type 0 where
  pub rest : List ℕ
  pub after : drop r.given text ≡ rest
  pub split : IsSplit rest r.passed r.ahead left
  pub few : r.lines ≤ length (lines_of text)
  pub lines : drop r.lines (lines_of text) ≡ lines_of rest
  pub given : r.given ≡ end_of r.lines text
  pub ends : (k : ℕ) → end_of (r.lines + k) text ≡ r.given + end_of k rest

-- the same of a source that tells its bytes; of another one nothing is claimed
abbrev pub StandsIn : List ℕ → Reading → Option (List ℕ) → Type 0
StandsIn text r None = ⊥
StandsIn text r (Some left) = IsAt text r left

-- the limits stay, and the lines given grow by so many
pub record Grows (old new : Reading) (more : ℕ) : Type 0 where
  pub lines : new.lines ≡ old.lines + more
  pub max_lines : new.max_lines ≡ old.max_lines
  pub max_bytes : new.max_bytes ≡ old.max_bytes

-- no line is given
pub record Stays (old new : Reading) : Type 0 where
  pub lines : new.lines ≡ old.lines
  pub given : new.given ≡ old.given
  pub max_lines : new.max_lines ≡ old.max_lines
  pub max_bytes : new.max_bytes ≡ old.max_bytes

-- the first line feed ahead
pub record IsFeedAt (ahead : List ℕ) (at : ℕ) : Type 0 where
  pub within : at < length ahead
  pub before : NoLineFeed (take at ahead)
  pub here : slice_index ahead at ≡ 10

-- the first line feed ahead, if there is one, stands among the last so many bytes
abbrev pub IsNearEnd : ℕ → List ℕ → Type 0
IsNearEnd size ahead = (at : ℕ) → IsFeedAt ahead at → length ahead ≤ at + size

-- where a limit is answered, whatever the source tells: that on lines where as many were given as may be, and that on
-- bytes before; the others aren't the reader's
abbrev pub IsAtLimit : LimitKind → Reading → Type 0
IsAtLimit limit.Lines r = r.lines ≡ r.max_lines
IsAtLimit limit.Bytes r = r.lines < r.max_lines
IsAtLimit limit.States r = ⊥
IsAtLimit limit.Maintains r = ⊥

-- what each answer says of the numbers, whatever the source tells
abbrev pub Counts : Reading → Reading → Next → Type 0
Counts old new (next.Line number) = (number ≡ old.lines + 1) × (Grows old new 1 × (new.lines ≤ new.max_lines))
Counts old new (next.TooLong number) = (number ≡ old.lines + 1) × (Grows old new 1 × (new.lines ≤ new.max_lines))
Counts old new next.End = Stays old new
Counts old new (next.Limit which) = Stays old new × IsAtLimit which old
Counts old new next.ReadFault = Stays old new
Counts old new next.NoMemory = Stays old new

-- what was taken from the source and not given is less than a piece
abbrev pub IsLittle : Reading → Type 0
IsLittle r = r.passed + length r.ahead < PIECE

-- where a line is given the source was read no further than the piece in which the line ends
abbrev pub HoldsLittle : Reading → Next → Type 0
HoldsLittle new (next.Line number) = IsLittle new
HoldsLittle new (next.TooLong number) = IsLittle new
HoldsLittle new next.End = Unit {0}
HoldsLittle new (next.Limit which) = Unit {0}
HoldsLittle new next.ReadFault = Unit {0}
HoldsLittle new next.NoMemory = Unit {0}

-- the source's last call gave so many bytes, and with them the last byte of a line and the bytes, so many, that were read
-- behind it; or the line, which begins behind so many bytes of the text, has no line feed
abbrev pub CameLast : ℕ → List ℕ → ℕ → ℕ → Type 0
CameLast gave text begins held = (held < gave) ⊎ NoLineFeed (drop begins text)

-- where a line is given no call of the source came after the one that gave its end
abbrev pub EndsLast : ℕ → List ℕ → Reading → Reading → Next → Type 0
EndsLast gave text old new (next.Line number) = CameLast gave text old.given (new.passed + length new.ahead)
EndsLast gave text old new (next.TooLong number) = CameLast gave text old.given (new.passed + length new.ahead)
EndsLast gave text old new next.End = Unit {0}
EndsLast gave text old new (next.Limit which) = Unit {0}
EndsLast gave text old new next.ReadFault = Unit {0}
EndsLast gave text old new next.NoMemory = Unit {0}

-- there is a further line, and it is past the limit; what lines ask for isn't known here
abbrev pub Reaches : List ℕ → Reading → LimitKind → Type 0
Reaches text r limit.Lines = (r.lines < length (lines_of text)) × (r.lines ≡ r.max_lines)
Reaches text r limit.Bytes =
    (r.lines < length (lines_of text)) × ((r.lines < r.max_lines) × (r.max_bytes < end_of (r.lines + 1) text))
Reaches text r limit.States = ⊥
Reaches text r limit.Maintains = ⊥

-- the next line of the text ends within the limits
pub record IsWithin (text : List ℕ) (r : Reading) : Type 0 where
  pub lines : r.lines < r.max_lines
  pub bytes : end_of (r.lines + 1) text ≤ r.max_bytes

-- what each answer says of the text in which the reader stood; `line` is what was handed out
abbrev pub Tells : List ℕ → Reading → Next → List ℕ → Type 0
Tells text old (next.Line number) line =
    (slice_get (lines_of text) old.lines ≡ Some line) × ((length line ≤ longest_line) × IsWithin text old)
Tells text old (next.TooLong number) line =
    ((bytes : List ℕ) × ((slice_get (lines_of text) old.lines ≡ Some bytes) × (longest_line < length bytes)))
    × IsWithin text old
Tells text old next.End line = length (lines_of text) ≡ old.lines
Tells text old (next.Limit which) line = Reaches text old which
Tells text old next.ReadFault line = Unit {0}
Tells text old next.NoMemory line = Unit {0}
