-- By which events a journal grows, and what becomes of a message.
use Rattle.std.specs.Prelude.{◌≡◌, ◌↔◌, ◌≤◌, ℕ, Bool, true, false, IsSome, List, ◌∷◌, None, Some}
use Rattle.messages.specs.declared.noted.NotedReply.{NotedReply}
use Rattle.distributor_part.specs.Parts.{Part}
use Rattle.messages.specs.declared.late.Late.{Late}
use Rattle.lane_carriage.specs.Carriage.{IsGivenOut, is_cut_off}
use Rattle.messages.specs.declared.noted.NotedReply.TheVariants as noted
use Rattle.lane_journals.specs.Events as plain
use Rattle.lane_journals.specs.Readers.{Journal, first_reply, returned}
use Rattle.lane_journals.specs.Meanings.{history}
use Rattle.lane_journals.specs.declared.event.LaneEvent.{LaneEvent}

-- ---- messages

abbrev pub is_short : NotedReply → Bool
is_short noted.NoMemory = true
is_short _ = false

-- the message's first reply came back, and says that the node wants memory
abbrev pub CameShort : ℕ → Journal → Type 0
CameShort number H = (returned number H ≡ true) × (first_reply number H ≡ Some plain.NoMemory)

-- it is known whether it did, and will stay so
pub record IsSettled (number : ℕ) (J : List LaneEvent) (short : Bool) : Type 0 where
  pub short_is : (short ≡ true) ↔ CameShort number (history J)
  pub replied : returned number (history J) ≡ true → IsSome (first_reply number (history J))

-- what the part was told changes only what it knows of answers
pub record HasHeard (p q : Part) : Type 0 where
  pub after : q ≡ record p { answered = q.answered; shown = q.shown; awaited = None }

-- the first late message is due, and is given out: delivered, or lost where its receiver is stopped
pub record DeliversOne (last : ℕ) (late rest : List Late) (J K : List LaneEvent) : Type 0 where
  pub first : Late
  pub was_first : late ≡ first ∷ rest
  pub is_due : first.due ≤ last
  pub given_out : IsGivenOut (is_cut_off first.number J) first.number J K
