-- Which deeds the lines of a session are in each lane, which states they tell, and which fates they plan.
use Rattle.std.specs.Prelude.{◌==◌, ℕ, suc, Bool, List, [], ◌∷◌, ◌++◌, Option, None, Some, if◌then◌else◌}
use Rattle.carriers.specs.Fates.{planned_with}
use Rattle.carriers.specs.declared.fate.Fate.{Fate}
use Rattle.cluster_states.specs.Publishing.{Told, publish_fault}
use Rattle.cluster_states.specs.declared.cluster_state.ClusterState.{ClusterState}
use Rattle.cluster_states.specs.declared.states.PublishFault.{PublishFault}
use Rattle.messages.specs.declared.operation.Operation.{Operation}
use Rattle.lane_lives.specs.declared.setting.Setting.{Setting}
use Rattle.lane_lives.specs.Lives.{Deed, Announces, Stops, Starts, Runs, Maintains}
use Rattle.session_cluster.specs.Lanes.{lane_of_id}
use Rattle.session_cluster.specs.Spans.{span_in}
use Rattle.session_cluster.specs.declared.cluster.LineSpans.{LineSpans}
use Rattle.session_cluster.specs.declared.asked.Asked.{Asked}
use Rattle.session_cluster.specs.declared.asked.Asked.TheVariants as command

-- ---- the states that are told

-- before the first line
abbrev pub first_told : Setting → Told
first_told s = record { acks = (s.rules).acks; states = s.initial ∷ [] }

-- with one state more, if nothing stands against it
abbrev pub told_with : Option PublishFault → ClusterState → Told → Told
told_with None state told = record { acks = told.acks; states = told.states ++ state ∷ [] }
told_with (Some why) state told = told

-- once a line is dealt with
abbrev pub told_next : Asked → Told → Told
told_next command.Blank told = told
told_next command.TooLong told = told
told_next command.Barrier told = told
told_next (command.Bad why) told = told
told_next (command.Feed op via) told = told
told_next (command.State state deaf) told = told_with (publish_fault told state) state told
told_next (command.BadState offset) told = told
told_next (command.Stop node) told = told
told_next (command.Start node) told = told
told_next (command.Net at fates) told = told
told_next command.Maintain told = told
told_next (command.Search query) told = told
told_next (command.BadQuery offset) told = told

-- once these lines are dealt with, the oldest first
abbrev pub told_by : Told → List Asked → Told
told_by told [] = told
told_by told (c ∷ cs) = told_by (told_next c told) cs

abbrev pub told_of : Setting → List Asked → Told
told_of s cs = told_by (first_told s) cs

-- ---- the deeds of a lane, the newest first

abbrev pub with_operation : Setting → ℕ → ℕ → Operation → Option ℕ → List Deed → List Deed
with_operation s lane line op via deeds = if lane_of_id s.bits op.id == lane then Runs (record { number = line; operation = op; via = via }) ∷ deeds else deeds

abbrev pub with_state : Option PublishFault → ClusterState → ℕ → List Deed → List Deed
with_state None state deaf deeds = Announces state deaf ∷ deeds
with_state (Some why) state deaf deeds = deeds

-- with what this line does there, where these states are told: a state is announced, a node stops or starts and upkeep
-- is made in every lane, as these spans say, and an operation runs in that of its document
abbrev pub with_line : Setting → List LineSpans → ℕ → Told → ℕ → Asked → List Deed → List Deed
with_line s us lane told line command.Blank deeds = deeds
with_line s us lane told line command.TooLong deeds = deeds
with_line s us lane told line command.Barrier deeds = deeds
with_line s us lane told line (command.Bad why) deeds = deeds
with_line s us lane told line (command.Feed op via) deeds = with_operation s lane line op via deeds
with_line s us lane told line (command.State state deaf) deeds = with_state (publish_fault told state) state deaf deeds
with_line s us lane told line (command.BadState offset) deeds = deeds
with_line s us lane told line (command.Stop node) deeds = Stops node ∷ deeds
with_line s us lane told line (command.Start node) deeds = Starts node ∷ deeds
with_line s us lane told line (command.Net at fates) deeds = deeds
with_line s us lane told line command.Maintain deeds = Maintains (span_in lane line us) ∷ deeds
with_line s us lane told line (command.Search query) deeds = deeds
with_line s us lane told line (command.BadQuery offset) deeds = deeds

-- with these lines, the oldest first, of which the first has this number
abbrev pub with_lines : Setting → List LineSpans → ℕ → Told → ℕ → List Asked → List Deed → List Deed
with_lines s us lane told line [] deeds = deeds
with_lines s us lane told line (c ∷ cs) deeds = with_lines s us lane (told_next c told) (suc line) cs (with_line s us lane told line c deeds)

-- those of a session's lines
abbrev pub deeds_of_lane : Setting → List LineSpans → ℕ → List Asked → List Deed
deeds_of_lane s us lane cs = with_lines s us lane (first_told s) 1 cs []

-- ---- the fates that are planned for a lane

-- once a line is dealt with, where its carrier takes plans or doesn't
abbrev pub planned_next : ℕ → Bool → Asked → List Fate → List Fate
planned_next lane takes command.Blank planned = planned
planned_next lane takes command.TooLong planned = planned
planned_next lane takes command.Barrier planned = planned
planned_next lane takes (command.Bad why) planned = planned
planned_next lane takes (command.Feed op via) planned = planned
planned_next lane takes (command.State state deaf) planned = planned
planned_next lane takes (command.BadState offset) planned = planned
planned_next lane takes (command.Stop node) planned = planned
planned_next lane takes (command.Start node) planned = planned
planned_next lane takes (command.Net at fates) planned = if at == lane then planned_with takes planned fates else planned
planned_next lane takes command.Maintain planned = planned
planned_next lane takes (command.Search query) planned = planned
planned_next lane takes (command.BadQuery offset) planned = planned

-- behind these, once lines are dealt with, the oldest first
abbrev pub planned_for : ℕ → Bool → List Fate → List Asked → List Fate
planned_for lane takes planned [] = planned
planned_for lane takes planned (c ∷ cs) = planned_for lane takes (planned_next lane takes c planned) cs
