-- The lines of a segment in a lane, in order; each knows the one before it that is of its feeder.
use Rattle.std.specs.Prelude.{◌≡◌, ◌<◌, ◌≤◌, ◌+◌, ℕ, List, map, length, Option, None, Some, IfSome, IsSome, refl, slice_get}
use Rattle.std.specs.Coded.{Coded, code_by, coded×, coded_ℕ, coded_option, coded_list}
use Rattle.bucket_ids.specs.Buckets.{IsIn}
use Rattle.global_ids.specs.Keys as keys
use Rattle.messages.specs.declared.operation.Operation.{Operation}
use Rattle.messages.specs.contracts.operation.Operation as operations
use Rattle.op_machine.specs.Plans.{IsOwn, IsPlainGet}
use Rattle.lane_journals.specs.Buckets.{key_of}
use Rattle.lane_journals.specs.Readers.{held}
use Rattle.lane_journals.specs.Meanings.{history}
use Rattle.lane_keeping.specs.Lines.{IsFresh}
use Rattle.lane_keeping.specs.Tidings.{last_state}
use Rattle.lane_calls.specs.LaneValues.{LaneValue}
use Rattle.lane_calls.specs.Lines.{FeedLine, Lines}
use Rattle.lane_calls.specs.Segments.{feeder_of}
use Rattle.lane_locks.specs.declared.lines.Line.{Line}
use Rattle.lane_locks.specs.declared.lines.Stage.{Stage}
use Rattle.lane_locks.specs.declared.lines.Stage.TheVariants.{Waiting}

abbrev pub line_of : Line → FeedLine
line_of l = record { number = l.number; operation = l.operation; via = l.via }

abbrev pub lines_of : List Line → Lines
lines_of ls = map line_of ls

-- ---- whose they are

abbrev pub feeder_at : ℕ → Line → ℕ
feeder_at feeders l = feeder_of feeders (line_of l)

-- from one place on, in front of another, none is of the feeder
abbrev pub NoneOf : ℕ → List Line → ℕ → ℕ → ℕ → Type 0
NoneOf feeders ls low high f = (i : ℕ) (l : Line) → low ≤ i → i < high → slice_get ls i ≡ Some l → feeder_at feeders l ≡ f → ⊥

-- the one at the place is
abbrev pub IsOf : ℕ → List Line → ℕ → ℕ → Type 0
IsOf feeders ls k f = (l : Line) × (slice_get ls k ≡ Some l) × (feeder_at feeders l ≡ f)

-- the place, if there is one, is that of the feeder's last line among so many
abbrev pub IsLast : ℕ → List Line → ℕ → ℕ → Option ℕ → Type 0
IsLast feeders ls count f None = NoneOf feeders ls 0 count f
IsLast feeders ls count f (Some k) = (k < count) × IsOf feeders ls k f × NoneOf feeders ls (k + 1) count f

-- ---- what they are

-- the line is one that a lane can be asked for
pub record IsWhole (l : Line) : Type 0 where
  pub number : 1 ≤ l.number
  pub key_is : l.key ≡ keys.key_of l.operation.id
  pub own : IsOwn l.operation.id l.operation.kind
  pub plain : IsPlainGet l.operation
  pub via : IfSome l.via (λ d. d < 32)

-- in rising number
pub record AreLines (feeders : ℕ) (ls : List Line) : Type 0 where
  pub some_feeder : 0 < feeders
  pub rising : (a b : ℕ) (l m : Line) → slice_get ls a ≡ Some l → slice_get ls b ≡ Some m → a < b → l.number < m.number
  pub whole : (at : ℕ) (l : Line) → slice_get ls at ≡ Some l → IsWhole l
  pub before : (at : ℕ) (l : Line) → slice_get ls at ≡ Some l → IsLast feeders ls at (feeder_at feeders l) l.before

-- ---- a list of them that is made

-- none of the lines began
pub record AreWaiting (ls : List Line) (stages : List Stage) : Type 0 where
  pub many : length stages ≡ length ls
  pub each : (at : ℕ) (s : Stage) → slice_get stages at ≡ Some s → s ≡ Waiting

-- of each feeder the place of its last line, if it has one
pub record AreLast (feeders : ℕ) (ls : List Line) (last : List (Option ℕ)) : Type 0 where
  pub many : length last ≡ feeders
  pub each : (f : ℕ) (o : Option ℕ) → slice_get last f ≡ Some o → IsLast feeders ls (length ls) f o

-- as its users see it
pub record Listed : Type 0 where
  pub feeders : ℕ
  pub lines : Lines

abbrev pub line_code : Coded FeedLine
line_code = code_by (ℕ × (Operation × Option ℕ)) (coded× coded_ℕ (coded× operations.the_row.coded (coded_option coded_ℕ))) (λ l. (l.number, (l.operation, l.via))) (λ p. record { number = p.0; operation = p.1.0; via = p.1.1 }) (λ _. refl)

abbrev pub listed_code : Coded Listed
listed_code = code_by (ℕ × Lines) (coded× coded_ℕ (coded_list line_code)) (λ l. (l.feeders, l.lines)) (λ p. record { feeders = p.0; lines = p.1 }) (λ _. refl)

-- no feeder has a line
pub record AreEmpty (feeders : ℕ) (last : List (Option ℕ)) : Type 0 where
  pub many : length last ≡ feeders
  pub each : (f : ℕ) (o : Option ℕ) → slice_get last f ≡ Some o → o ≡ None

-- the number is above those of the lines
abbrev pub IsAbove : Lines → ℕ → Type 0
IsAbove lines n = (at : ℕ) (line : FeedLine) → slice_get lines at ≡ Some line → line.number < n

-- ---- in which lane

-- the line is of the lane, and the distributor that it names holds a state there
pub record IsOfLane (v : LaneValue) (line : FeedLine) : Type 0 where
  pub in_lane : IsIn v.lane (key_of line.operation.id)
  pub holds : IfSome line.via (λ d. IsSome (held d (history v.journal)))

-- a state was published there, and each of the lines is of the lane
pub record AreOfLane (v : LaneValue) (lines : Lines) : Type 0 where
  pub published : IsSome (last_state v.journal)
  pub each : (at : ℕ) (line : FeedLine) → slice_get lines at ≡ Some line → IsOfLane v line

-- none of them has an event there
abbrev pub AreFresh : LaneValue → Lines → Type 0
AreFresh v lines = (at : ℕ) (line : FeedLine) → slice_get lines at ≡ Some line → IsFresh (history v.journal) line.number
