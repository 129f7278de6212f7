-- That a pass of upkeep goes in the order of its rule, whatever is lost on the way.
use Rattle.std.specs.Prelude.{◌≡◌, List, Some}
use Rattle.bucket_ids.specs.Buckets.{Low}
use Rattle.carriers.specs.declared.fate.Fate.{Fate}
use Rattle.distributor_part.specs.declared.rules.Rules.{Rules}
use Rattle.lane_journals.specs.declared.event.LaneEvent.{LaneEvent}
use Rattle.lane_keeping.specs.Tidings.{heard_next}
use Rattle.lane_calls.specs.LaneValues.{LaneValue}
use Rattle.lane_lives.specs.Upkeep.{IsSpan}
use Rattle.lane_lives.specs.declared.spans.UpkeepSpan.{UpkeepSpan}
use Rattle.lane_states.specs.LaneStates.{journal_of, IsKept}
use Rattle.lane_states.specs.declared.lane_state.LaneState.{LaneState}
use Rattle.lane_upkeep.specs.Taking.{OpensThenPasses}
use Rattle.lane_upkeep.specs.declared.owner.Owner.{Owner}
use Rattle.upkeep_spans.specs.declared.answers.Upkeep.{Upkeep}
use Rattle.upkeep_spans.specs.declared.answers.Upkeep.TheVariants.{Held, NoMemory}
use Rattle.lane_core.specs.declared.work.Work.{Work}

-- a lane whose nodes and distributors are what its journal says, and in which the owner heard the newest state, opens that
-- state, where it isn't opened, and takes all steps of a pass, one after the other; or not all nodes answer its Asks, and that
-- is all. Its journal is then that one, and its carrier gave these fates
pub record MakesPass (lane : Low) (rules : Rules) (J K : List LaneEvent) (now : List Fate) : Type 0 where
  pub before : LaneState
  pub after : LaneState
  pub owner : Owner
  pub kept : IsKept before
  pub lane_is : before.lane ≡ lane
  pub rules_are : before.rules ≡ rules
  pub newest : before.newest ≡ Some owner.state
  pub begins : journal_of before ≡ heard_next owner.distributor (Some owner.state) J
  pub ends : journal_of after ≡ K
  pub passes : OpensThenPasses before after owner now

-- a lane's work does
abbrev pub PassesBy : Work → Work → List Fate → Type 0
PassesBy old new now = MakesPass old.state.lane old.state.rules (journal_of old.state) (journal_of new.state) now

-- an upkeep does that is answered with its cause
abbrev pub HasPassed : LaneValue → LaneValue → Upkeep → Type 0
HasPassed old new (Held by) = Unit {0}
HasPassed old new NoMemory = Unit {0}
HasPassed old new answer = MakesPass old.lane old.rules old.journal new.journal new.given

-- it does, and comes to what its span tells
pub record IsPassed (span : UpkeepSpan) (old new : LaneValue) : Type 0 where
  pub spans : IsSpan span old new
  pub passes : MakesPass old.lane old.rules old.journal new.journal new.given
