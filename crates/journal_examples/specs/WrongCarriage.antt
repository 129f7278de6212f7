-- Journals in which a message has another fate than it was given: beside each stands the right one.
use Rattle.std.specs.Prelude.{ℕ, List, [], ◌∷◌}
use Rattle.carriers.specs.declared.fate.Fate.{Fate}
use Rattle.messages.specs.declared.noted.NotedBody.TheVariants as body
use Rattle.messages.specs.declared.noted.NotedReply.TheVariants as reply
use Rattle.lane_journals.specs.declared.event.LaneEvent.{LaneEvent}
use Rattle.lane_journals.specs.declared.event.LaneEvent.TheVariants.{Sent, Delivered, Returned, Stopped, Started}
use Rattle.lane_carriage.specs.Carriage.{IsCarried}

-- the fates are those of the one journal, and not of the other
abbrev pub IsRefused : List Fate → List LaneEvent → List LaneEvent → Type 0
IsRefused given right wrong = IsCarried given right × (IsCarried given wrong → ⊥)

abbrev pub ask : ℕ → LaneEvent
ask n = Sent n 1 0 0 body.Ask

abbrev pub reply_to : ℕ → LaneEvent
reply_to n = Delivered n reply.NoMemory

-- message 1 is to come behind message 2
abbrev pub in_time : List LaneEvent
in_time = reply_to 1 ∷ Returned 2 ∷ reply_to 2 ∷ ask 2 ∷ ask 1 ∷ []

abbrev pub early : List LaneEvent
early = Returned 2 ∷ reply_to 2 ∷ ask 2 ∷ reply_to 1 ∷ ask 1 ∷ []

abbrev pub once : List LaneEvent
once = Returned 1 ∷ reply_to 1 ∷ ask 1 ∷ []

abbrev pub twice : List LaneEvent
twice = reply_to 1 ∷ once

abbrev pub numbered : List LaneEvent
numbered = ask 2 ∷ ask 1 ∷ []

abbrev pub skipped : List LaneEvent
skipped = ask 3 ∷ ask 1 ∷ []

abbrev pub unanswered : List LaneEvent
unanswered = reply_to 1 ∷ ask 1 ∷ []

abbrev pub answered : List LaneEvent
answered = once

-- ---- node 0, to which all these messages go, is stopped

abbrev pub cut_off : List LaneEvent
cut_off = ask 1 ∷ Stopped 0 ∷ []

abbrev pub reaching_stopped : List LaneEvent
reaching_stopped = Returned 1 ∷ reply_to 1 ∷ cut_off

-- message 1 is to come behind message 2, as the node is stopped
abbrev pub late_cut_off : List LaneEvent
late_cut_off = ask 2 ∷ Stopped 0 ∷ ask 1 ∷ []

abbrev pub late_reaching_stopped : List LaneEvent
late_reaching_stopped = reply_to 1 ∷ late_cut_off

abbrev pub lost_at_started : List LaneEvent
lost_at_started = ask 1 ∷ Started 0 ∷ Stopped 0 ∷ []

abbrev pub started_again : List LaneEvent
started_again = Returned 1 ∷ reply_to 1 ∷ lost_at_started

-- message 1 was sent to the stopped node, and is to come behind message 2, as it runs again
abbrev pub late_lost_at_started : List LaneEvent
late_lost_at_started = ask 2 ∷ Started 0 ∷ ask 1 ∷ Stopped 0 ∷ []

abbrev pub late_started_again : List LaneEvent
late_started_again = reply_to 1 ∷ late_lost_at_started
