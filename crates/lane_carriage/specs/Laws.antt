-- What the laws say.
use Rattle.std.specs.Prelude.{ℕ, ◌+◌, List}
use Rattle.carriers.specs.declared.fate.Fate.{Fate}
use Rattle.messages.specs.declared.message.Message.{Message}
use Rattle.lane_journals.specs.declared.event.LaneEvent.{LaneEvent}
use Rattle.messages.specs.declared.late.Late.{Late}
use Rattle.messages.specs.Waiting.{NoneIsDue}
use Rattle.lane_carriage.specs.Carriage.{IsCarried}
use Rattle.lane_carriage.specs.Waits.{IsWaiting, kept_by, AreTaken}

-- a law of each journal whose messages have their fates
abbrev pub OfCarried : (List Fate → List LaneEvent → Type 0) → Type 0
OfCarried L = (given : List Fate) (J : List LaneEvent) → IsCarried given J → L given J

-- a law of what waits as one message more is sent: it is kept if it is late, and then those due are taken
abbrev pub OfTaken : (List Fate → ℕ → List Late → Fate → List Late → List Late → Type 0) → Type 0
OfTaken L = (given : List Fate) (last : ℕ) (late : List Late) (f : Fate) (m : Message) (taken rest : List Late)
    → IsWaiting given last late → AreTaken (last + 1) (kept_by f (last + 1) m late) taken rest → NoneIsDue (last + 1) rest
    → L given last late f taken rest
