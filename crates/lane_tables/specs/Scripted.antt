-- A lane of which calls are made as a script says: how far each of its lines is.
use Rattle.std.specs.Prelude.{◌≡◌, ℕ, List, Some, slice_get, slice_set}
use Rattle.lane_lives.specs.declared.setting.Setting.{Setting}
use Rattle.lane_lives.specs.Settings.{IsSetting}
use Rattle.lane_lives.specs.Serving.{bucket_in}
use Rattle.lane_calls.specs.declared.progress.UnderWay.{UnderWay}
use Rattle.lane_calls.specs.declared.answers.Begin.{Begin}
use Rattle.lane_calls.specs.declared.answers.Begin.TheVariants as begin
use Rattle.lane_calls.specs.declared.answers.Advance.{Advance}
use Rattle.lane_calls.specs.declared.answers.Advance.TheVariants as advance
use Rattle.lane_calls.specs.LaneValues.{LaneValue, MayAdvance, MayClose}
use Rattle.lane_tables.specs.declared.stages.LineStage.{LineStage}
use Rattle.lane_tables.specs.declared.stages.LineStage.TheVariants as stage

-- the line may be asked for what its stage says
abbrev pub OfStage : List UnderWay → ℕ → LineStage → Type 0
OfStage us line stage.Fresh = Unit {0}
OfStage us line stage.Going = MayAdvance line us
OfStage us line stage.Ending = MayClose line us
OfStage us line stage.Closed = Unit {0}

-- so may each line
abbrev pub AreStaged : List UnderWay → List LineStage → Type 0
AreStaged us stages = (line : ℕ) (s : LineStage) → slice_get stages line ≡ Some s → OfStage us line s

-- the lane is that of the setting with the number 0
pub record IsScripted (setting : Setting) (v : LaneValue) (stages : List LineStage) : Type 0 where
  pub is_setting : IsSetting setting
  pub lane_is : v.lane ≡ bucket_in setting 0
  pub rules_are : v.rules ≡ setting.rules
  pub staged : AreStaged v.under_way stages

-- ---- what calls leave

-- the same lane, in which no operation begins, goes on or ends
pub record IsStill (v w : LaneValue) : Type 0 where
  pub lane_is : w.lane ≡ v.lane
  pub rules_are : w.rules ≡ v.rules
  pub under_way_are : w.under_way ≡ v.under_way

abbrev pub stages_begun : ℕ → Begin → List LineStage → List LineStage
stages_begun line begin.Begun stages = slice_set stages line stage.Going
stages_begun line (begin.Refused outcome) stages = slice_set stages line stage.Closed
stages_begun line (begin.Held by) stages = stages
stages_begun line begin.NoMemory stages = stages

abbrev pub stages_gone : ℕ → Advance → List LineStage → List LineStage
stages_gone line advance.More stages = stages
stages_gone line (advance.Waits by) stages = stages
stages_gone line advance.Done stages = slice_set stages line stage.Ending
stages_gone line advance.NoMemory stages = slice_set stages line stage.Ending
