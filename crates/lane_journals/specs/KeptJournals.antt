-- Legal journals as they are kept.
use Rattle.std.specs.Prelude.{List, [], ◌∷◌, reverse}
use Rattle.lane_journals.specs.Legal.{Permits}
use Rattle.lane_journals.specs.States.{state_of}
use Rattle.lane_journals.specs.Meanings.{history, meaning}
use Rattle.lane_journals.specs.Naming.{WellNoted}
use Rattle.lane_journals.specs.Places.{Setting, Placed}
use Rattle.lane_journals.specs.Endings.{Ended}
use Rattle.lane_journals.specs.declared.event.LaneEvent.{LaneEvent}

-- the journal of a list of events that is kept oldest first
unfoldable pub past : List LaneEvent → List LaneEvent
past events = reverse events

-- the event may come next in the journal
pub record IsLegalStep (S : Setting) (J : List LaneEvent) (e : LaneEvent) : Type 0 where
  -- what it names is there
  pub noted : WellNoted J e
  -- what it means may come next, under the states that were published
  pub permitted : Permits S.acks (state_of (history (e ∷ J))) (history J) (meaning J e)
  -- it is where the states say
  pub placed : Placed S J e
  -- an outcome is what the journal shows
  pub ended : Ended S J e

abbrev pub IsLegal : Setting → List LaneEvent → Type 0
IsLegal S [] = Unit {0}
IsLegal S (e ∷ J) = IsLegal S J × IsLegalStep S J e
