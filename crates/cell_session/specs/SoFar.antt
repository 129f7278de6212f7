-- What holds between two lines of a session.
use Rattle.std.specs.Prelude.{◌≡◌, ◌≤◌, ℕ, List, [], length, Option}
use Rattle.std.specs.Io.KnownBytes.{Appends}
use Rattle.carriers.specs.declared.fate.Fate.{Fate}
use Rattle.io_ends.specs.Reading.{Reading, StandsIn}
use Rattle.doc_types.specs.SchemaCodes.{Types}
use Rattle.lane_lives.specs.Settings.{IsSetting}
use Rattle.lane_lives.specs.declared.setting.Setting.{Setting}
use Rattle.session_cluster.specs.declared.asked.Asked.{Asked}
use Rattle.cell_session.specs.Limits.{most_lines, most_bytes, most_states, most_maintains}
use Rattle.cell_session.specs.declared.counts.Counts.{Counts}
use Rattle.cell_session.specs.declared.status.Status.TheVariants as status
use Rattle.cell_session.specs.Counting.{state_lines, maintain_lines}
use Rattle.session_cluster.specs.Cells.{Cell}
use Rattle.cell_session.specs.Ends.{IfTold, AreFirst}
use Rattle.session_cluster.specs.Keeping.{IsKept}
use Rattle.session_cluster.specs.Output.{output_of}
use Rattle.cell_session.specs.Operations.{deeds_before}
use Rattle.cell_session.specs.Orders.{GoInOrder}
use Rattle.cell_session.specs.Searches.{AreRead}
use Rattle.cell_session.specs.Upkeep.{AreUpkept}

-- a reader that read nothing yet, within the limits of a session
abbrev pub first_reading : Reading
first_reading = record { ahead = []; passed = 0; lines = 0; given = 0; max_lines = most_lines; max_bytes = most_bytes }

-- the lines are the first ones of the text, and the reader stands behind them
abbrev pub IsBehind : Types → ℕ → Reading → Option (List ℕ) → List Asked → List ℕ → Type 0
IsBehind types bits reader left commands text = AreFirst types bits text commands × StandsIn text reader left

-- no line was dealt with yet, and the carriers have some plans
pub record IsUnserved (s : Setting) (c : Cell) : Type 0 where
  pub setting : IsSetting s
  pub plans : ℕ → List Fate
  pub kept : IsKept s plans [] c
  pub unkept : c.upkeeps ≡ []
  pub unread : c.fronts ≡ []

pub record IsSoFar (s : Setting) (types : Types) (plans : ℕ → List Fate) (text : Option (List ℕ)) (reader : Reading) (left : Option (List ℕ))
    (counts : Counts) (c : Cell) (before now : Option (List ℕ)) : Type 0 where
  pub setting : IsSetting s
  pub commands : List Asked
  pub count : length commands ≡ reader.lines
  pub few : length commands ≤ most_lines
  -- how many lines were read as states, and how many as upkeep
  pub states_are : counts.states ≡ state_lines commands
  pub few_states : counts.states ≤ most_states
  pub maintains_are : counts.maintains ≡ maintain_lines commands
  pub few_maintains : counts.maintains ≤ most_maintains
  pub kept : IsKept s plans commands c
  pub output : Appends before now (output_of s commands c)
  pub upkept : AreUpkept status.Done s (deeds_before s commands c) commands c
  pub gone : GoInOrder s c
  pub read : AreRead s (deeds_before s commands c) commands c
  pub told : IfTold text (IsBehind types s.bits reader left commands)
