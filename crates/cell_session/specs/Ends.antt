-- What each status says.
use Rattle.std.specs.Prelude.{◌≡◌, ◌≢◌, ◌⊎◌, ℕ, ◌+◌, ◌-◌, ◌<◌, ◌≤◌, Bool, true, List, [], ◌∷◌, ◌++◌, length, drop, Option, None, Some, slice_get}
use Rattle.std.specs.Io.KnownBytes.{Appends, Keeps}
use Rattle.std.specs.List.{count_by}
use Rattle.io_ends.specs.Causes.{AppendsFront}
use Rattle.io_ends.specs.Lines.{lines_of, end_of, NoLineFeed}
use Rattle.io_ends.specs.Reading.{CameLast}
use Rattle.io_ends.specs.declared.next.LimitKind.{LimitKind}
use Rattle.io_ends.specs.declared.next.LimitKind.TheVariants as limit
use Rattle.io_ends.specs.declared.sizes.TheConstants.{PIECE}
use Rattle.doc_types.specs.SchemaCodes.{Types}
use Rattle.session_cluster.specs.Asking.{IsAsked}
use Rattle.cell_session.specs.Counting.{is_state, is_maintain, state_lines, maintain_lines}
use Rattle.cell_session.specs.Operations.{IsCommandAt}
use Rattle.session_cluster.specs.declared.asked.Asked.{Asked}
use Rattle.reports.specs.ReportText.{usage_text}
use Rattle.session_cluster.specs.Cells.{Cell}
use Rattle.session_cluster.specs.Deeds.{told_of}
use Rattle.session_cluster.specs.Output.{report_in, output_of}
use Rattle.lane_lives.specs.Settings.{lane_count}
use Rattle.lane_lives.specs.declared.setting.Setting.{Setting}
use Rattle.cell_session.specs.Limits.{most_lines, most_bytes, most_states, most_maintains}
use Rattle.cell_session.specs.declared.status.Status.{Status}
use Rattle.cell_session.specs.declared.status.Status.TheVariants as status

-- a fact on bytes, where they are told
abbrev pub IfTold : Option (List ℕ) → (List ℕ → Type 0) → Type 0
IfTold None P = Unit {0}
IfTold (Some bytes) P = P bytes

-- these are what the first lines of a text ask for under a schema in a session of 2^bits lanes; the lines end within
-- the limits, and no more of them are read as states, and as upkeep, than a session may have
pub record AreFirst (types : Types) (bits : ℕ) (text : List ℕ) (commands : List Asked) : Type 0 where
  pub asked : (at : ℕ) (c : Asked) → slice_get commands at ≡ Some c → IsCommandAt types bits (Some text) at c
  pub some : length commands ≤ length (lines_of text)
  pub few : length commands ≤ most_lines
  pub within : end_of (length commands) text ≤ most_bytes
  pub few_states : state_lines commands ≤ most_states
  pub few_maintains : maintain_lines commands ≤ most_maintains

-- the first so many lines ask for commands of which this holds
abbrev pub OfFirst : Types → ℕ → List ℕ → ℕ → (List Asked → Type 0) → Type 0
OfFirst types bits text count P =
    (commands : List Asked) × ((length commands ≡ count) × (AreFirst types bits text commands × P commands))

-- ---- lanes

-- all lanes are there; where memory wanted before the first line, these or none
abbrev pub HasLanes : Status → Setting → Cell → Type 0
HasLanes status.NoMemory s c = ((length c.lanes ≡ 0) × (c.dealt ≡ 0)) ⊎ (length c.lanes ≡ lane_count s)
HasLanes status.Done s c = length c.lanes ≡ lane_count s
HasLanes status.ReadFault s c = length c.lanes ≡ lane_count s
HasLanes status.WriteFault s c = length c.lanes ≡ lane_count s
HasLanes (status.Limit which) s c = length c.lanes ≡ lane_count s
HasLanes status.Usage s c = ⊥

-- ---- which lines were dealt with

-- what was read behind these lines has no line feed: the next line wasn't whole yet
abbrev pub IsReadTo : List ℕ → ℕ → List ℕ → Type 0
IsReadTo text count left = (held : List ℕ) × (NoLineFeed held × (drop (end_of count text) text ≡ held ++ left))

-- what was read behind these lines is less than a piece: a call of the source that came after the one that gave the last
-- line feed, if one did, gave no more than was missing to a piece
abbrev pub IsReadNear : List ℕ → ℕ → List ℕ → Type 0
IsReadNear text count left =
    (held : List ℕ) × ((length held < PIECE) × (drop (end_of count text) text ≡ held ++ left))

-- the source's last call, which gave so many bytes, gave the last byte of these lines, and with it what was read behind
-- them; or the last line has no line feed, and nothing is behind it
abbrev pub IsReadBy : ℕ → List ℕ → ℕ → List ℕ → Type 0
IsReadBy gave text count left =
    (held : List ℕ) × (CameLast gave text (end_of (count - 1) text) (length held) × (drop (end_of count text) text ≡ held ++ left))

-- after so many lines of a text the source was called no more, where it tells what it has left
abbrev pub ReadsNoMore : Option (List ℕ) → Option (List ℕ) → ℕ → ℕ → Type 0
ReadsNoMore text left gave count = IfTold text (λ t. IfTold left (IsReadBy gave t count))

-- there is one line more, which ends within the limits and is of a kind, and as many lines before it were as a session
-- may have
pub record PassesKind (of_kind : Asked → Bool) (most : ℕ) (types : Types) (bits : ℕ) (text : List ℕ) (commands : List Asked) : Type 0 where
  pub bytes : List ℕ
  pub line : slice_get (lines_of text) (length commands) ≡ Some bytes
  pub few : length commands < most_lines
  pub within : end_of (length commands + 1) text ≤ most_bytes
  pub command : Asked
  pub asked : IsAsked types bits bytes command
  pub kind : of_kind command ≡ true
  pub before : count_by of_kind commands ≡ most

-- there is one line more, and it is past the limit
abbrev pub PassesLimit : LimitKind → Types → ℕ → List ℕ → List Asked → Type 0
PassesLimit limit.Lines types bits text commands =
    (length commands < length (lines_of text)) × (length commands ≡ most_lines)
PassesLimit limit.Bytes types bits text commands = (length commands < length (lines_of text))
    × ((length commands < most_lines) × (most_bytes < end_of (length commands + 1) text))
PassesLimit limit.States types bits text commands = PassesKind is_state most_states types bits text commands
PassesLimit limit.Maintains types bits text commands = PassesKind is_maintain most_maintains types bits text commands

-- of a limit that is reached: as many lines were dealt with, or of its kind, as a session may have
abbrev pub IsReached : LimitKind → List Asked → Type 0
IsReached limit.Lines commands = length commands ≡ most_lines
IsReached limit.Bytes commands = Unit {0}
IsReached limit.States commands = state_lines commands ≡ most_states
IsReached limit.Maintains commands = maintain_lines commands ≡ most_maintains

-- where a limit ends the session, it is reached
abbrev pub EndsAtLimit : Status → List Asked → Type 0
EndsAtLimit (status.Limit which) commands = IsReached which commands
EndsAtLimit _ commands = Unit {0}

-- why no line was dealt with behind those that asked for these
abbrev pub StopsAt : Status → Types → ℕ → List ℕ → Option (List ℕ) → List Asked → Type 0
StopsAt status.Done types bits text left commands = length commands ≡ length (lines_of text)
StopsAt status.ReadFault types bits text left commands = IfTold left (IsReadTo text (length commands))
StopsAt status.WriteFault types bits text left commands =
    (0 < length commands) × IfTold left (IsReadNear text (length commands))
StopsAt status.NoMemory types bits text left commands = Unit {0}
StopsAt (status.Limit which) types bits text left commands = PassesLimit which types bits text commands
StopsAt status.Usage types bits text left commands = ⊥

-- so many first lines of the text were dealt with, up to where the session stops
abbrev pub DealsWith : Status → Types → ℕ → List ℕ → ℕ → Option (List ℕ) → Type 0
DealsWith end types bits text count left = OfFirst types bits text count (StopsAt end types bits text left)

-- ---- the bytes written

-- the sink took the reports of all lines but the last, and a front of that one's
pub record TakesFront (s : Setting) (commands : List Asked) (cell : Cell)
    (before now : Option (List ℕ)) : Type 0 where
  pub earlier : List Asked
  pub last : Asked
  pub all : commands ≡ earlier ++ last ∷ []
  pub front : List ℕ
  pub rest : List ℕ
  pub cut : rest ≢ []
  pub report : report_in s (told_of s earlier) (length commands) last cell ≡ front ++ rest
  pub output : Appends before now (output_of s earlier cell ++ front)

-- the sink took the reports of all lines but the last
pub record TakesAllButOne (s : Setting) (commands : List Asked) (cell : Cell)
    (before now : Option (List ℕ)) : Type 0 where
  pub earlier : List Asked
  pub last : Asked
  pub all : commands ≡ earlier ++ last ∷ []
  pub output : Appends before now (output_of s earlier cell)

abbrev pub Writes : Status → Setting → List Asked → Cell → Option (List ℕ) → Option (List ℕ) → Type 0
Writes status.Done s commands cell before now = Appends before now (output_of s commands cell)
Writes status.ReadFault s commands cell before now = Appends before now (output_of s commands cell)
Writes (status.Limit which) s commands cell before now = Appends before now (output_of s commands cell)
Writes status.WriteFault s commands cell before now = TakesFront s commands cell before now
Writes status.NoMemory s commands cell before now =
    Appends before now (output_of s commands cell) ⊎ TakesAllButOne s commands cell before now
Writes status.Usage s commands cell before now = ⊥

-- ---- wrong words

-- how wrong words end: with the usage line, unless the sink fails or memory wants
abbrev pub UsageEnd : Status → Option (List ℕ) → Option (List ℕ) → Type 0
UsageEnd status.Done before now = ⊥
UsageEnd status.ReadFault before now = ⊥
UsageEnd status.Usage before now = Appends before now usage_text
UsageEnd status.WriteFault before now = AppendsFront before now usage_text
UsageEnd status.NoMemory before now = Keeps before now
UsageEnd (status.Limit which) before now = ⊥
