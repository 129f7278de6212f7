-- The law on versions, and what it gives operations and searches.
use Rattle.std.specs.Prelude.{◌≡◌, ℕ, ◌<◌, ◌≤◌, Bool, true, ◌⊎◌, List, ◌∷◌, ◌++◌, Option, Some}
use Rattle.lane_journals.specs.Sets.{count, AtLeast, both, outside}
use Rattle.lane_journals.specs.Stamps.{Stamp, Le}
use Rattle.lane_journals.specs.Buckets.{Id, Bucket, key_of}
use Rattle.lane_journals.specs.Events.{Content, Event, Opened, Delivered, Closed, Reply}
use Rattle.lane_journals.specs.Readers.{Journal, published, known, Beginning, Preparing, began, before_line, opened, Message, sent, is_answer, version, store, base, answered_store, Acked}
use Rattle.lane_journals.specs.Facts.{InRegion, IsOpen, ReadAt, TookStore}
use Rattle.lane_journals.specs.Legal.{Legal}
use Rattle.lane_journals.specs.Endings.{HasSeen}
use Rattle.lane_journals.specs.Below.{below}

-- the events of versions below v are a legal journal, and its stores are what each node held as it took v
abbrev pub VersionsStandAlone : ℕ → (ℕ → ℕ → Bool) → Journal → Type 0
VersionsStandAlone acks P J = (v : ℕ) → Legal acks P (below v J) × ((n : ℕ) (id : Id) → store n id (below v J) ≡ base v n id J)

-- what was acknowledged below a published version is held by a node that serves under it, as that node takes it
abbrev pub IsFound : (ℕ → ℕ → Bool) → Journal → Type 0
IsFound P J = (v w : ℕ) (id : Id) (s : Stamp) → w < v → published v J ≡ true → Acked w id s J
    → (m : ℕ) × (P v m ≡ true) × Le (Some s) (base v m id J)

-- what is acknowledged, or something newer, is in enough node stores
abbrev pub IsDurable : ℕ → Journal → Type 0
IsDurable acks J = (w : ℕ) (id : Id) (s : Stamp) → Acked w id s J → AtLeast acks (λ m. Le (Some s) (store m id J))

-- an acknowledged operation begun after another's acknowledgement is newer
abbrev pub LaterIsNewer : Journal → Type 0
LaterIsNewer J = (line : ℕ) (b : Beginning) (t : Stamp) (w : ℕ) (s : Stamp) → began line J ≡ Some b → b.stamp ≡ Some t
    → Acked w b.id s (before_line line J) → Acked b.version b.id t J
    → (s.version < t.version) ⊎ ((s.version ≡ t.version) × (s.count < t.count))

-- each Read of an open operation shows no less than what was acknowledged before it began under no greater version
abbrev pub ReadsAreFresh : Journal → Type 0
ReadsAreFresh J = (v line : ℕ) (b : Beginning) (p : Preparing) → IsOpen v line b p J → (n : ℕ) (content : Content) → ReadAt n line b content J
    → (w : ℕ) (s : Stamp) → Acked w b.id s (before_line line J) → w ≤ v → Le (Some s) (content b.id)

-- and where enough nodes answered there was none under a greater version
abbrev pub EnoughReadsAreCurrent : ℕ → Journal → Type 0
EnoughReadsAreCurrent acks J = (line : ℕ) (b : Beginning) → began line J ≡ Some b → AtLeast acks (λ n. (content : Content) × ReadAt n line b content J)
    → (w : ℕ) (s : Stamp) → Acked w b.id s (before_line line J) → w ≤ b.version

-- so what an operation saw, the newest of enough answers, is no older than what was acknowledged before it began
abbrev pub SeenIsCurrent : ℕ → Journal → Type 0
SeenIsCurrent acks J = (line : ℕ) (b : Beginning) (p : Preparing) (seen : Option Stamp) → IsOpen b.version line b p J → HasSeen acks J line b seen
    → (w : ℕ) (s : Stamp) → Acked w b.id s (before_line line J) → Le (Some s) seen

-- a line that is closed, if it saw something, saw nothing older than what was acknowledged before it began
abbrev pub SawNothingOlder : ℕ → Journal → Type 0
SawNothingOlder acks J = (later run : Journal) (line : ℕ) (ok : Bool) (b : Beginning) (seen : Option Stamp) → J ≡ later ++ Closed line ok ∷ run
    → began line run ≡ Some b → HasSeen acks run line b seen → (w : ℕ) (s : Stamp) → Acked w b.id s (before_line line run) → Le (Some s) seen

-- no key lies in the regions of one version at two nodes
abbrev pub CountedOnce : Journal → Type 0
CountedOnce J = (v n m key : ℕ) → InRegion v n key J → InRegion v m key J → n ≡ m

-- a node at the version of its region holds there all that was acknowledged under that version and smaller ones
abbrev pub SearchIsCurrent : Journal → Type 0
SearchIsCurrent J = (v n : ℕ) (id : Id) → InRegion v n (key_of id) J → version n J ≡ v
    → (w : ℕ) (s : Stamp) → Acked w id s J → w ≤ v → Le (Some s) (store n id J)

-- once v is opened, no node of v accepts a message of a smaller version
abbrev pub LateAreOutside : ℕ → (ℕ → ℕ → Bool) → Journal → Type 0
LateAreOutside acks P J = (e : Event) → Legal acks P (e ∷ J) → (v k : ℕ) (m : Message) (r : Reply) → opened v J ≡ true
    → e ≡ Delivered k r → is_answer r ≡ true → sent k J ≡ Some m → m.version < v → P v m.receiver ≡ true → ⊥

-- and fewer known nodes than a write needs are outside
abbrev pub FewAreOutside : ℕ → (ℕ → ℕ → Bool) → Journal → Type 0
FewAreOutside acks P J = (v : ℕ) → published v J ≡ true → count (both (λ n. known v n J) (outside (P v))) < acks

-- enough nodes took what an operation of version w wrote: those that serve under v before v was opened, and fewer than a
-- write needs are other nodes
pub record TookBefore (acks : ℕ) (P : ℕ → ℕ → Bool) (v w : ℕ) (id : Id) (s : Stamp) (K J : Journal) : Type 0 where
  pub enough : AtLeast acks (λ n. answered_store w id s n J ≡ true)
  pub before : (n : ℕ) → answered_store w id s n J ≡ true → P v n ≡ true → TookStore id s n K
  pub few : count (both (λ n. known v n J) (outside (P v))) < acks

-- once a version is opened, no operation of a smaller one is acknowledged unless enough answers were given before
abbrev pub AnsweredBefore : ℕ → (ℕ → ℕ → Bool) → Journal → Type 0
AnsweredBefore acks P J = (later K : Journal) (d v : ℕ) (rows : List Bucket) → J ≡ later ++ Opened d v rows ∷ K
    → (w : ℕ) (id : Id) (s : Stamp) → w < v → Acked w id s J → TookBefore acks P v w id s K J
