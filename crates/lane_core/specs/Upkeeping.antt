-- What an upkeep makes of a lane's work.
use Rattle.std.specs.Prelude.{◌≡◌, ◌⊎◌, Bool, List, None, length}
use Rattle.carriers.specs.declared.fate.Fate.{Fate}
use Rattle.lane_journals.specs.Readers.{returned}
use Rattle.lane_journals.specs.Meanings.{history}
use Rattle.lane_keeping.specs.LaneKeeping.{setting_of}
use Rattle.lane_states.specs.LaneStates.{journal_of}
use Rattle.lane_rest.specs.Rest.{IsAtRest}
use Rattle.upkeep_spans.specs.Spans.{later}
use Rattle.upkeep_spans.specs.Causes.{first_absent, IsUndisturbed}
use Rattle.lane_core.specs.declared.work.Work.{Work}
use Rattle.lane_core.specs.Works.{value_of, SameValue}
use Rattle.lane_calls.specs.Upkept.{Maintains, HasOpened, HaveRun}

-- the owner made a pass, whatever was planned
abbrev pub MaintainsBy : Work → Work → List Fate → List Fate → Type 0
MaintainsBy old new given now = (planned : List Fate) (takes_plans : Bool) → Maintains (value_of old given planned takes_plans) (value_of new now planned takes_plans)

-- nothing happened, or it did so
abbrev pub MayMaintain : Work → Work → List Fate → List Fate → Type 0
MayMaintain old new given now = (SameValue old new × (now ≡ given)) ⊎ MaintainsBy old new given now

-- where each message of the pass was returned, the newest state is opened, and each node that serves under it ran
abbrev pub OpensBy : Work → Work → Type 0
OpensBy old new = first_absent (λ n. returned n (history (journal_of new.state))) (later (length (journal_of old.state)) (journal_of new.state)) ≡ None → HasOpened (journal_of new.state) × HaveRun (journal_of new.state)

-- where nothing was lost or late, the lane is at rest
abbrev pub RestsBy : Work → Work → List Fate → Type 0
RestsBy old new now = IsUndisturbed now (journal_of old.state) (journal_of new.state)
    → IsAtRest (setting_of new.state.lane new.state.rules) (new.state.rules).searchable (new.state.rules).split_at (journal_of new.state)
