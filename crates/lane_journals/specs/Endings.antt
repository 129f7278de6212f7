-- What the outcome of an operation says of its journal.
use Rattle.std.specs.Prelude.{◌≡◌, ◌⊎◌, ◌↔◌, ◌<◌, ◌++◌, ℕ, Bool, true, false, List, Option, Some, None, IsSome}
use Rattle.documents.specs.declared.entry.Entry.{Entry}
use Rattle.lane_journals.specs.Sets.{count}
use Rattle.lane_journals.specs.Stamps.{Stamp, Le}
use Rattle.lane_journals.specs.Buckets.{Bucket, key_of}
use Rattle.lane_journals.specs.Events.{Content}
use Rattle.lane_journals.specs.Readers.{Journal, Beginning, Preparing, began, prepared, wrote, row_at, round_of, opened, answer, Given, answered_store, complete, active}
use Rattle.lane_journals.specs.Facts.{AnsweredAsk, AnsweredApply, ReadBack}
use Rattle.lane_journals.specs.Legal.{EnoughRead}
use Rattle.lane_journals.specs.States.{state_of}
use Rattle.lane_journals.specs.Meanings.{entry_at, history, nodes}
use Rattle.lane_journals.specs.Places.{Setting, receivers_of}
use Rattle.messages.specs.declared.outcome.Outcome.{Outcome}
use Rattle.messages.specs.declared.outcome.Outcome.TheVariants.{Acked, Nothing, Found, Missing, ConditionFailed, BadUpdate, TooFew, OwnedElsewhere, NoMemory}
use Rattle.lane_journals.specs.declared.event.LaneEvent.{LaneEvent}
use Rattle.lane_journals.specs.declared.event.LaneEvent.TheVariants.{Closed}

-- ---- what was seen

-- enough recipients answered the line's Reads, and of what they showed this is the newest
pub record HasSeen (acks : ℕ) (J : Journal) (line : ℕ) (b : Beginning) (seen : Option Stamp) : Type 0 where
  pub preparing : Preparing
  pub was_prepared : prepared line J ≡ Some preparing
  pub enough : EnoughRead acks J line b preparing
  pub newest : (n : ℕ) (content : Content) → ReadBack n line b content J → Le (content b.id) seen
  pub shown : (s : Stamp) → seen ≡ Some s → (n : ℕ) × (content : Content) × ReadBack n line b content J × (content b.id ≡ Some s)

-- the entry of the stamp has a document
pub record IsDocument (J : List LaneEvent) (s : Stamp) : Type 0 where
  pub entry : Entry
  pub at : entry_at s J ≡ Some entry
  pub document : IsSome entry.body

-- nothing was seen, or a remove
abbrev pub NoDocument : List LaneEvent → Option Stamp → Type 0
NoDocument J None = Unit {0}
NoDocument J (Some s) = IsDocument J s → ⊥

-- ---- too few

abbrev pub Exactly : ℕ → (ℕ → Type 0) → Type 0
Exactly k P = (set : ℕ → Bool) × (count set ≡ k) × ((n : ℕ) → (set n ≡ true) ↔ P n)

-- so many of those asked answered, and one of those asked didn't
abbrev pub FellShort : (ℕ → Type 0) → (ℕ → Type 0) → ℕ → ℕ → Type 0
FellShort asked answered many absent = Exactly many (λ n. asked n × answered n) × asked absent × (answered absent → ⊥)

-- not all nodes of the version answered an Ask
abbrev pub OpeningFellShort : Journal → ℕ → ℕ → ℕ → ℕ → Type 0
OpeningFellShort J v answered needed absent = (needed ≡ count (λ n. state_of J v n)) × FellShort (λ n. state_of J v n ≡ true) (λ n. AnsweredAsk v n J) answered absent

-- not all of them answered the Read of the round in the row
abbrev pub RoundFellShort : Journal → ℕ → Bucket → ℕ → ℕ → ℕ → Type 0
RoundFellShort J v row answered needed absent =
    (needed ≡ count (λ n. state_of J v n)) × FellShort (λ n. state_of J v n ≡ true) (λ n. (g : Given) × (answer v (round_of v row J) n J ≡ Some g)) answered absent

-- after the round the row has fewer complete members than a write needs
abbrev pub UnionFellShort : Setting → List LaneEvent → ℕ → ℕ → Bucket → ℕ → ℕ → ℕ → Type 0
UnionFellShort S J v key row answered needed absent =
    (needed ≡ S.acks) × (answered < needed) × Exactly answered (λ n. complete v n key (history J) ≡ true)
    × ((set : ℕ) × (receivers_of v row J ≡ Some set) × (nodes set absent ≡ true)) × (AnsweredApply v (round_of v row (history J)) absent row (history J) → ⊥)

-- fewer recipients than that answered the Reads of the document
abbrev pub ReadsFellShort : ℕ → Journal → ℕ → Beginning → Preparing → ℕ → ℕ → ℕ → Type 0
ReadsFellShort acks J line b p answered needed absent =
    (needed ≡ acks) × (answered < needed) × FellShort (λ n. p.recipients n ≡ true) (λ n. (content : Content) × ReadBack n line b content J) answered absent

-- fewer than that answered the Store, or the active node didn't
abbrev pub StoresFellShort : ℕ → Journal → Beginning → Preparing → Stamp → ℕ → ℕ → ℕ → Type 0
StoresFellShort acks J b p s answered needed absent =
    (needed ≡ acks) × ((answered < needed) ⊎ (active b.version (key_of b.id) J ≡ Some absent))
    × FellShort (λ n. p.recipients n ≡ true) (λ n. answered_store b.version b.id s n J ≡ true) answered absent

pub record UnpreparedFellShort (S : Setting) (J : List LaneEvent) (line : ℕ) (b : Beginning) (answered needed absent : ℕ) : Type 0 where
  pub unprepared : prepared line (history J) ≡ None
  pub short : ((opened b.version (history J) ≡ false) × OpeningFellShort (history J) b.version answered needed absent)
      ⊎ ((row : Bucket) × (row_at b.version (key_of b.id) (history J) ≡ Some row)
      × (RoundFellShort (history J) b.version row answered needed absent ⊎ UnionFellShort S J b.version (key_of b.id) row answered needed absent))

-- it did at some moment since it began, and isn't prepared yet; what others do meanwhile may mend the shortage
pub record HasFallenShort (S : Setting) (J : List LaneEvent) (line : ℕ) (b : Beginning) (answered needed absent : ℕ) : Type 0 where
  pub unprepared : prepared line (history J) ≡ None
  -- the journal at that moment, and what came later
  pub moment : List LaneEvent
  pub later : List LaneEvent
  pub whole : J ≡ later ++ moment
  pub begun : began line (history moment) ≡ Some b
  pub short : UnpreparedFellShort S moment line b answered needed absent

pub record PreparedFellShort (acks : ℕ) (J : Journal) (line : ℕ) (b : Beginning) (answered needed absent : ℕ) : Type 0 where
  pub preparing : Preparing
  pub was_prepared : prepared line J ≡ Some preparing
  pub short : ((wrote line J ≡ false) × ReadsFellShort acks J line b preparing answered needed absent)
      ⊎ ((s : Stamp) × (b.stamp ≡ Some s) × (wrote line J ≡ true) × StoresFellShort acks J b preparing s answered needed absent)

-- ---- outcomes

abbrev pub IsUnwritten : Journal → ℕ → Type 0
IsUnwritten J line = wrote line J ≡ false

-- what each outcome of a line says; a get is a line that began without a stamp
abbrev pub MayEnd : Setting → List LaneEvent → ℕ → Beginning → Outcome → Type 0
MayEnd S J line b (Acked stamp) = (b.stamp ≡ Some stamp) × (wrote line (history J) ≡ true)
MayEnd S J line b (Nothing seen) = IsSome b.stamp × IsUnwritten (history J) line × HasSeen S.acks (history J) line b seen × NoDocument J seen
MayEnd S J line b (Found stamp) = (b.stamp ≡ None) × HasSeen S.acks (history J) line b (Some stamp) × IsDocument J stamp
MayEnd S J line b (Missing seen) = (b.stamp ≡ None) × HasSeen S.acks (history J) line b seen × NoDocument J seen
MayEnd S J line b (ConditionFailed seen) = IsSome b.stamp × IsUnwritten (history J) line × HasSeen S.acks (history J) line b seen
MayEnd S J line b (BadUpdate fault) = IsSome b.stamp × IsUnwritten (history J) line × ((seen : Option Stamp) × HasSeen S.acks (history J) line b seen)
MayEnd S J line b (TooFew answered needed absent) = HasFallenShort S J line b answered needed absent ⊎ PreparedFellShort S.acks (history J) line b answered needed absent
MayEnd S J line b (OwnedElsewhere owner version) = ⊥
MayEnd S J line b NoMemory = Unit {0}

-- the outcome is what the journal shows
abbrev pub Ended : Setting → List LaneEvent → LaneEvent → Type 0
Ended S J (Closed line outcome) = (b : Beginning) × (began line (history J) ≡ Some b) × MayEnd S J line b outcome
Ended S J _ = Unit {0}
