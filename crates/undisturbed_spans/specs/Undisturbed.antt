-- Spans of a journal in which nothing is lost or late.
use Rattle.std.specs.Prelude.{◌≡◌, ◌++◌, ℕ, List, ◌∷◌, None}
use Rattle.carriers.specs.declared.fate.Fate.{Fate}
use Rattle.messages.specs.declared.message.Message.{Message}
use Rattle.lane_journals.specs.Readers.{sent, first_reply}
use Rattle.lane_journals.specs.Meanings.{history}
use Rattle.lane_journals.specs.declared.event.LaneEvent.{LaneEvent}
use Rattle.lane_journals.specs.declared.event.LaneEvent.TheVariants.{Delivered, Returned}
use Rattle.messages.specs.declared.noted.NotedReply.{NotedReply}
use Rattle.upkeep_spans.specs.Causes.{IsUndisturbed}
use Rattle.pass_model.specs.Lanes.{IsPassBody}
use Rattle.pass_model.specs.Scripts.{Script, takings, Agrees}

-- nothing in the span is lost or late, and the script says which of its messages were taken twice
pub record GoesUndisturbed (d : Script) (given : List Fate) (J K : List LaneEvent) : Type 0 where
  pub quiet : IsUndisturbed given J K
  pub agrees : Agrees d (history J) (history K)

-- fates were given after those that were
abbrev pub Extends : List Fate → List Fate → Type 0
Extends given further = (more : List Fate) × (further ≡ given ++ more)

-- a message that was just sent is taken and its reply returned; and so, and then taken again
abbrev pub IsTakenOnce : ℕ → List LaneEvent → List LaneEvent → Type 0
IsTakenOnce k J K = (r : NotedReply) × (K ≡ Returned k ∷ Delivered k r ∷ J)

abbrev pub IsTakenTwice : ℕ → List LaneEvent → List LaneEvent → Type 0
IsTakenTwice k J K = (r t : NotedReply) × (K ≡ Delivered k t ∷ Returned k ∷ Delivered k r ∷ J)

-- a law of each message of a pass that is sent with a number which is new
abbrev pub OfTold : (Script → List LaneEvent → ℕ → Message → Type 0) → Type 0
OfTold L = (d : Script) (J : List LaneEvent) (k : ℕ) (m : Message) → sent k (history J) ≡ None → first_reply k (history J) ≡ None → takings k (history J) ≡ 0
    → IsPassBody m.body → L d J k m
