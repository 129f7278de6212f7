-- What is read off a journal of each message, and what its fate says of that.
use Rattle.std.specs.Prelude.{◌==◌, ℕ, ◌+◌, Bool, true, false, not, List, [], ◌∷◌, Option, Some, None, nat_le, if◌then◌else◌}
use Rattle.carriers.specs.declared.fate.Fate.{Fate}
use Rattle.carriers.specs.declared.fate.Fate.TheVariants.{Deliver, LoseRequest, LoseReply, Twice, Late}
use Rattle.lane_journals.specs.declared.event.LaneEvent.{LaneEvent}
use Rattle.lane_journals.specs.declared.event.LaneEvent.TheVariants.{Sent, Delivered}
use Rattle.lane_carriage.specs.Carriage.{is_cut_off}

-- how often the number was sent
abbrev pub sendings : ℕ → List LaneEvent → ℕ
sendings k [] = 0
sendings k (Sent n v d to body ∷ J) = if n == k then sendings k J + 1 else sendings k J
sendings k (_ ∷ J) = sendings k J

-- the number that was sent last, 0 before the first
abbrev pub last_sent : List LaneEvent → ℕ
last_sent [] = 0
last_sent (Sent n v d to body ∷ J) = n
last_sent (_ ∷ J) = last_sent J

-- which number was sent last at each delivery of the message, newest first
abbrev pub arrivals : ℕ → List LaneEvent → List ℕ
arrivals k [] = []
arrivals k (Delivered n r ∷ J) = if n == k then last_sent J ∷ arrivals k J else arrivals k J
arrivals k (_ ∷ J) = arrivals k J

-- the receiver of message k ran as message j was sent
abbrev pub receives : ℕ → ℕ → List LaneEvent → Bool
receives k j [] = false
receives k j (Sent n v d to body ∷ J) = if n == j then not (is_cut_off k (Sent n v d to body ∷ J)) else receives k j J
receives k j (_ ∷ J) = receives k j J

-- ---- what a fate says

-- the fate of a number, where the first fate is that of message i
abbrev pub fate_from : ℕ → ℕ → List Fate → Option Fate
fate_from i k [] = None
fate_from i k (f ∷ fates) = if i == k then Some f else fate_from (i + 1) k fates

-- the fate of a number, if it was sent
abbrev pub fate_of : ℕ → List Fate → Option Fate
fate_of k given = fate_from 1 k given

abbrev pub times_sent : Option Fate → ℕ
times_sent None = 0
times_sent (Some f) = 1

-- where its receiver ran, the message was delivered and its reply returned, before the next was sent
abbrev pub is_returned : Option Fate → Bool
is_returned None = false
is_returned (Some Deliver) = true
is_returned (Some LoseRequest) = false
is_returned (Some LoseReply) = false
is_returned (Some Twice) = true
is_returned (Some (Late later)) = false

-- its own fate delivers the message at once
abbrev pub IsPrompt : Fate → Type 0
IsPrompt Deliver = Unit {0}
IsPrompt LoseRequest = ⊥
IsPrompt LoseReply = Unit {0}
IsPrompt Twice = Unit {0}
IsPrompt (Late later) = ⊥

-- it waits before it is delivered
abbrev pub IsLate : Fate → Type 0
IsLate (Late later) = Unit {0}
IsLate _ = ⊥

-- where message k is delivered, of so many that were sent, by whether its receiver ran as each was sent
abbrev pub arrivals_of : ℕ → Option Fate → ℕ → (ℕ → Bool) → List ℕ
arrivals_of k None count ran = []
arrivals_of k (Some Deliver) count ran = if ran k then k ∷ [] else []
arrivals_of k (Some LoseRequest) count ran = []
arrivals_of k (Some LoseReply) count ran = if ran k then k ∷ [] else []
arrivals_of k (Some Twice) count ran = if ran k then k ∷ k ∷ [] else []
arrivals_of k (Some (Late later)) count ran = if nat_le (k + later) count then (if ran (k + later) then (k + later) ∷ [] else []) else []
