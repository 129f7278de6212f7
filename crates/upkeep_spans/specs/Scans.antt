-- What is seen of the events of a span, one after the other.
use Rattle.std.specs.Prelude.{◌≡◌, ◌+◌, ◌≤◌, ℕ, List, [], ◌∷◌, Option, Some, None}
use Rattle.carriers.specs.declared.fate.Fate.{Fate}
use Rattle.carriers.specs.declared.fate.Fate.TheVariants.{Deliver, LoseRequest, LoseReply, Twice, Late}
use Rattle.lane_journals.specs.Readers.{or_else}
use Rattle.lane_journals.specs.declared.event.LaneEvent.{LaneEvent}
use Rattle.lane_journals.specs.declared.event.LaneEvent.TheVariants.{Sent, Delivered, Returned}
use Rattle.lane_carriage.specs.Readers.{last_sent, fate_of}
use Rattle.upkeep_spans.specs.declared.scan.Seen.{Seen}
use Rattle.upkeep_spans.specs.Spans.{later}
use Rattle.upkeep_spans.specs.Causes.{first_late}

-- the receiver of the span's last message, where it isn't returned
abbrev pub awaited_in : List LaneEvent → Option ℕ
awaited_in [] = None
awaited_in (Sent n v d to body ∷ K) = Some to
awaited_in (Returned n ∷ K) = None
awaited_in (_ ∷ K) = awaited_in K

-- the receiver of the first of the messages before it that weren't returned before the next was sent
abbrev pub gone_in : List LaneEvent → Option ℕ
gone_in [] = None
gone_in (Sent n v d to body ∷ K) = or_else (gone_in K) (awaited_in K)
gone_in (_ ∷ K) = gone_in K

-- a message is delivered, as its fate says, when that of number `last` was the last one
abbrev pub ComesAt : Option Fate → ℕ → ℕ → Type 0
ComesAt None n last = ⊥
ComesAt (Some Deliver) n last = n ≡ last
ComesAt (Some LoseRequest) n last = ⊥
ComesAt (Some LoseReply) n last = n ≡ last
ComesAt (Some Twice) n last = n ≡ last
ComesAt (Some (Late k)) n last = n + k ≡ last

-- each message has the next number, comes as its fate says, and is returned before the next is sent
abbrev pub ArePlaced : List Fate → List LaneEvent → Type 0
ArePlaced given [] = Unit {0}
ArePlaced given (Sent n v d to body ∷ J) = (n ≡ last_sent J + 1) × ArePlaced given J
ArePlaced given (Delivered n r ∷ J) = ComesAt (fate_of n given) n (last_sent J) × ArePlaced given J
ArePlaced given (Returned n ∷ J) = (n ≡ last_sent J) × ArePlaced given J
ArePlaced given (_ ∷ J) = ArePlaced given J

-- this was seen of the events behind the first `from`; before them `sent` was the last number, or an earlier one
pub record IsSeen (given : List Fate) (from sent : ℕ) (J : List LaneEvent) (x : Seen) : Type 0 where
  pub last : x.last ≡ last_sent J
  pub behind : sent ≤ x.last
  pub awaited : x.awaited ≡ awaited_in (later from J)
  pub absent : x.absent ≡ gone_in (later from J)
  pub late : x.late ≡ first_late given (later from J)
