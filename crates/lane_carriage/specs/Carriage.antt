-- What becomes of each message of a lane: what its own fate adds to the journal right behind it, and which late
-- ones are delivered then; nothing is delivered to a node that is stopped. The first fate is that of message 1, the
-- next that of message 2.
use Rattle.std.specs.Prelude.{◌≡◌, ◌==◌, ℕ, ◌+◌, Bool, true, false, List, [], ◌∷◌, ◌++◌, length, Option, None, Some, if◌then◌else◌}
use Rattle.carriers.specs.declared.fate.Fate.{Fate}
use Rattle.carriers.specs.declared.fate.Fate.TheVariants.{Deliver, LoseRequest, LoseReply, Twice, Late}
use Rattle.messages.specs.declared.noted.NotedBody.{NotedBody}
use Rattle.messages.specs.declared.noted.NotedReply.{NotedReply}
use Rattle.lane_journals.specs.Readers.{Journal, Message as Sending, sent, stopped}
use Rattle.lane_journals.specs.Meanings.{history}
use Rattle.lane_journals.specs.declared.event.LaneEvent.{LaneEvent}
use Rattle.lane_journals.specs.declared.event.LaneEvent.TheVariants.{Sent, Delivered, Returned}

-- what becomes of a message by its fate, where its receiver is stopped or isn't: nothing is delivered to a stopped
-- node, and a late message waits all the same
abbrev pub met : Bool → Fate → Fate
met false f = f
met true (Late k) = Late k
met true _ = LoseRequest

-- what its own fate adds of a message that was sent
abbrev pub IsDealt : Fate → ℕ → List LaneEvent → List LaneEvent → Type 0
IsDealt Deliver n J K = (r : NotedReply) × (K ≡ Returned n ∷ Delivered n r ∷ J)
IsDealt LoseRequest n J K = K ≡ J
IsDealt LoseReply n J K = (r : NotedReply) × (K ≡ Delivered n r ∷ J)
IsDealt Twice n J K = (r t : NotedReply) × (K ≡ Delivered n t ∷ Returned n ∷ Delivered n r ∷ J)
IsDealt (Late k) n J K = K ≡ J

-- the message was sent, and its receiver is stopped
abbrev pub is_stopped : Option Sending → Journal → Bool
is_stopped None H = false
is_stopped (Some m) H = stopped m.receiver H

-- the receiver of the message is stopped
abbrev pub is_cut_off : ℕ → List LaneEvent → Bool
is_cut_off n J = is_stopped (sent n (history J)) (history J)

-- a late message that is due is delivered, or lost where its receiver is stopped
abbrev pub IsGivenOut : Bool → ℕ → List LaneEvent → List LaneEvent → Type 0
IsGivenOut true n J L = L ≡ J
IsGivenOut false n J L = (r : NotedReply) × (L ≡ Delivered n r ∷ J)

-- the messages are given out once each, in this order
abbrev pub AreDelivered : List ℕ → List LaneEvent → List LaneEvent → Type 0
AreDelivered [] J K = K ≡ J
AreDelivered (n ∷ ns) J K = (L : List LaneEvent) × (IsGivenOut (is_cut_off n J) n J L × AreDelivered ns L K)

-- the message is late, and so many further ones were sent as message n was
abbrev pub is_due : ℕ → Fate → ℕ → Bool
is_due j (Late k) n = j + k == n
is_due j _ n = false

-- the same of messages from number j on
abbrev pub due_from : ℕ → List Fate → ℕ → List ℕ
due_from j [] n = []
due_from j (f ∷ fates) n = if is_due j f n then j ∷ due_from (j + 1) fates n else due_from (j + 1) fates n

-- the messages that fall due behind message n, in rising order
abbrev pub due : List Fate → ℕ → List ℕ
due given n = due_from 1 given n

-- the event sends nothing, and delivers and returns nothing
abbrev pub IsOther : LaneEvent → Type 0
IsOther (Sent n v d to body) = ⊥
IsOther (Delivered n r) = ⊥
IsOther (Returned n) = ⊥
IsOther _ = Unit {0}

-- a message is sent with the next number, dealt with by its fate and by whether its receiver runs, and followed by the
-- late ones that are due
pub record IsMessage (given : List Fate) (fate : Fate) (J K : List LaneEvent) : Type 0 where
  pub version : ℕ
  pub sender : ℕ
  pub receiver : ℕ
  pub body : NotedBody
  -- the journal once it is dealt with
  pub after : List LaneEvent
  pub dealt : IsDealt (met (stopped receiver (history J)) fate) (length given + 1) (Sent (length given + 1) version sender receiver body ∷ J) after
  pub late : AreDelivered (due (given ++ fate ∷ []) (length given + 1)) after K

-- the messages of the journal have these fates, one after the other
pub data IsCarried : List Fate → List LaneEvent → Type 0 where
  Nothing : IsCarried [] []
  Other : (given : List Fate) (J : List LaneEvent) (e : LaneEvent) → IsOther e → IsCarried given J → IsCarried given (e ∷ J)
  Message : (given : List Fate) (J : List LaneEvent) (fate : Fate) (K : List LaneEvent) → IsMessage given fate J K → IsCarried given J → IsCarried (given ++ fate ∷ []) K
