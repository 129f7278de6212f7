-- How a message is dealt with by its fate, and which late ones wait.
use Rattle.std.specs.Prelude.{ℕ, List}
use Rattle.carriers.specs.declared.fate.Fate.{Fate}
use Rattle.messages.specs.declared.message.Message.{Message}
use Rattle.messages.specs.declared.late.Late.{Late}
use Rattle.lane_carriage.specs.Carriage.{met, AreDelivered, IsCarried}
use Rattle.lane_carriage.specs.Waits.{numbers, AreTaken, IsWaiting}
use Rattle.lane_journals.specs.Readers.{stopped}
use Rattle.lane_journals.specs.Meanings.{history}
use Rattle.lane_journals.specs.declared.event.LaneEvent.{LaneEvent}

-- what becomes of a message by its fate, as its receiver runs or is stopped
abbrev pub met_at : List LaneEvent → Message → Fate → Fate
met_at J m fate = met (stopped m.receiver (history J)) fate

-- some late messages that are due are given out, in their order
pub record DeliversSome (last : ℕ) (late rest : List Late) (J K : List LaneEvent) : Type 0 where
  pub taken : List Late
  pub are_taken : AreTaken last late taken rest
  pub delivered : AreDelivered (numbers taken) J K

-- ---- the carrier

-- each message had the events of the fate that was given, and just those late ones wait that are still to come
pub record AreCarried (given : List Fate) (J : List LaneEvent) (last : ℕ) (late : List Late) : Type 0 where
  pub carried : IsCarried given J
  pub waiting : IsWaiting given last late
