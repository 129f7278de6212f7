-- What the lines of a session did.
use Rattle.std.specs.Prelude.{◌≡◌, ℕ, ◌<◌, ◌≤◌, List, length, take, Option, None, Some, slice_get}
use Rattle.io_ends.specs.Lines.{lines_of}
use Rattle.carriers.specs.declared.fate.Fate.{Fate}
use Rattle.doc_types.specs.SchemaCodes.{Types}
use Rattle.lane_journals.specs.Meanings.{history}
use Rattle.lane_carriage.specs.Carriage.{IsCarried}
use Rattle.lane_calls.specs.LaneValues.{LaneValue}
use Rattle.lane_keeping.specs.Lines.{IsFresh}
use Rattle.lane_lives.specs.declared.setting.Setting.{Setting}
use Rattle.lane_lives.specs.Lives as life
use Rattle.lane_lives.specs.Lives.{Deed, IsLife}
use Rattle.lane_calls.specs.Lines.{IsNone}
use Rattle.lane_lives.specs.Serving.{bucket_in}
use Rattle.session_cluster.specs.Asking.{IsAsked}
use Rattle.session_cluster.specs.Deeds.{deeds_of_lane, planned_for}
use Rattle.session_cluster.specs.Cells.{Cell, journals_of}
use Rattle.session_cluster.specs.Lanes.{journal_in}
use Rattle.session_cluster.specs.declared.asked.Asked.{Asked}
use Rattle.cell_session.specs.Counting.{state_lines, maintain_lines}
use Rattle.cell_session.specs.Limits.{most_lines, most_states, most_maintains}

-- ---- what they asked for

-- the line at a place of the text, from 0, asks for this under a schema in a session of 2^bits lanes, where the source
-- tells its text
abbrev pub IsCommandAt : Types → ℕ → Option (List ℕ) → ℕ → Asked → Type 0
IsCommandAt types bits None at c = Unit {0}
IsCommandAt types bits (Some text) at c =
    (bytes : List ℕ) × ((slice_get (lines_of text) at ≡ Some bytes) × IsAsked types bits bytes c)

-- the lines dealt with asked for these, and no more of them than a session may have, nor more that are read as states
-- and as upkeep
pub record WereAsked (types : Types) (bits : ℕ) (text : Option (List ℕ)) (dealt : ℕ) (asked : List Asked) : Type 0 where
  pub count : length asked ≡ dealt
  pub told : (at : ℕ) (c : Asked) → slice_get asked at ≡ Some c → IsCommandAt types bits text at c
  pub few : length asked ≤ most_lines
  pub few_states : state_lines asked ≤ most_states
  pub few_maintains : maintain_lines asked ≤ most_maintains

-- ---- what they did

-- the deeds of the lines in each lane, one after the other: each line dealt with that publishes a state, or stops or starts
-- a node, does so in every lane, and each that asks for an operation runs it in the lane of its key, and each that asks for
-- upkeep makes the passes that its spans tell
abbrev pub deeds_in : Setting → List Asked → Cell → ℕ → List Deed
deeds_in s asked c lane = deeds_of_lane s c.upkeeps lane asked

-- those of the lines before the one at a place
abbrev pub deeds_before : Setting → List Asked → Cell → ℕ → ℕ → List Deed
deeds_before s asked c at = deeds_in s (take at asked) c

-- these deeds were done in each lane, and nothing else happened there
pub record HaveOutcomes (s : Setting) (deeds : ℕ → List Deed) (c : Cell) : Type 0 where
  pub lives : (lane : ℕ) → lane < length c.lanes → IsLife s (bucket_in s lane) (deeds lane) (journal_in lane (journals_of c))
  -- no line but one that asks for an operation has an event in its own name
  pub no_others : (lane line : ℕ) → IsNone line (life.lines_of (deeds lane)) → IsFresh (history (journal_in lane (journals_of c))) line

-- ---- what became of their messages

-- the carrier gave one fate per message, in order of number, and each message had the events of its fate; these fates
-- were planned
pub record HasFates (planned : List Fate) (v : LaneValue) : Type 0 where
  pub carried : IsCarried v.given v.journal
  pub planned_are : v.planned ≡ planned

-- it is so in each lane, for which the fates were planned from the start, and then by lines, if its carrier takes plans
abbrev pub HaveFates : (ℕ → List Fate) → List Asked → List LaneValue → Type 0
HaveFates plans asked vs = (lane : ℕ) (v : LaneValue) → slice_get vs lane ≡ Some v → HasFates (planned_for lane v.takes_plans (plans lane) asked) v
