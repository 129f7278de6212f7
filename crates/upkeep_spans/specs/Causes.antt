-- What an upkeep comes to, by the events of its span.
use Rattle.std.specs.Prelude.{◌≡◌, ℕ, Bool, true, false, not, List, [], ◌∷◌, length, Option, Some, None}
use Rattle.carriers.specs.declared.fate.Fate.{Fate}
use Rattle.carriers.specs.declared.fate.Fate.TheVariants.{Late}
use Rattle.lane_journals.specs.Readers.{or_else, only_if, returned}
use Rattle.lane_journals.specs.Meanings.{history}
use Rattle.lane_journals.specs.declared.event.LaneEvent.{LaneEvent}
use Rattle.lane_journals.specs.declared.event.LaneEvent.TheVariants.{Sent, Delivered}
use Rattle.lane_carriage.specs.Readers.{fate_of}
use Rattle.upkeep_spans.specs.declared.answers.Upkeep.{Upkeep}
use Rattle.upkeep_spans.specs.declared.answers.Upkeep.TheVariants.{Rested, Blocked, Disturbed}
use Rattle.upkeep_spans.specs.Spans.{later}

-- a message of the fate is late
abbrev pub is_late : Option Fate → Bool
is_late (Some (Late k)) = true
is_late _ = false

-- the first late message that is delivered in the span
abbrev pub first_late : List Fate → List LaneEvent → Option ℕ
first_late given [] = None
first_late given (Delivered n r ∷ K) = or_else (first_late given K) (only_if (is_late (fate_of n given)) n)
first_late given (_ ∷ K) = first_late given K

-- the receiver of the first message that is sent in the span and isn't returned, by a test of those that are
abbrev pub first_absent : (ℕ → Bool) → List LaneEvent → Option ℕ
first_absent is_returned [] = None
first_absent is_returned (Sent n v d to body ∷ K) = or_else (first_absent is_returned K) (only_if (not (is_returned n)) to)
first_absent is_returned (_ ∷ K) = first_absent is_returned K

-- a late message comes before one that wasn't returned
abbrev pub cause_of : Option ℕ → Option ℕ → Upkeep
cause_of (Some n) absent = Disturbed n
cause_of None (Some node) = Blocked node
cause_of None None = Rested

-- the answer is what the events of the journal behind the first so many tell
abbrev pub IsCause : List Fate → ℕ → List LaneEvent → Upkeep → Type 0
IsCause given from J answer = answer ≡ cause_of (first_late given (later from J)) (first_absent (λ n. returned n (history J)) (later from J))

-- behind the first journal no late message was delivered, and each that was sent was returned
pub record IsUndisturbed (given : List Fate) (J K : List LaneEvent) : Type 0 where
  pub unlate : first_late given (later (length J) K) ≡ None
  pub back : first_absent (λ n. returned n (history K)) (later (length J) K) ≡ None
