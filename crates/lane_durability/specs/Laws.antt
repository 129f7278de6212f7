-- What holds of every legal journal.
use Rattle.std.specs.Prelude.{◌≡◌, ◌≢◌, ℕ, ◌≤◌, Bool, true, List, ◌⊎◌, Some}
use Rattle.lane_journals.specs.Sets.{AtLeast}
use Rattle.lane_journals.specs.Stamps.{Stamp, Le}
use Rattle.lane_journals.specs.Buckets.{Id, Bucket, contains, key_of}
use Rattle.lane_journals.specs.Readers.{Journal, version, store, acceptable, holds, base, complete, DeletedFrom, Acked}
use Rattle.lane_journals.specs.Facts.{TookStore}
use Rattle.lane_journals.specs.RowLists.{Row, rows, IsIn}
use Rattle.lane_journals.specs.Places.{Setting}
use Rattle.lane_journals.specs.KeptJournals.{IsLegal}
use Rattle.lane_journals.specs.declared.event.LaneEvent.{LaneEvent}

-- a law of all legal journals as they are kept
abbrev pub InAllKept : (Setting → List LaneEvent → Type 0) → Type 0
InAllKept L = (S : Setting) → 1 ≤ S.acks → (J : List LaneEvent) → IsLegal S J → L S J

-- what was stored stays where it was accepted, or enough nodes hold it or something newer
abbrev pub StoresStay : ℕ → (ℕ → ℕ → Bool) → Journal → Type 0
StoresStay acks P J = (id : Id) (s : Stamp) → ((n : ℕ) → TookStore id s n J → Le (Some s) (store n id J))
    ⊎ AtLeast acks (λ m. Le (Some s) (store m id J))

-- what an acceptable Delete would take is held, as new or newer, by enough other nodes of no smaller version
abbrev pub DeletesAreSafe : ℕ → (ℕ → ℕ → Bool) → Journal → Type 0
DeletesAreSafe acks P J = (v : ℕ) (b : Bucket) (n s r : ℕ) → DeletedFrom v b n s r J → acceptable n b s J ≡ true → version n J ≤ v
    → (id : Id) → contains b (key_of id) ≡ true → AtLeast acks (λ m. (m ≢ n) × (v ≤ version m J) × Le (store n id J) (store m id J))

-- two acceptable Deletes of a version have no common key or are one
abbrev pub DeletesAreOne : Journal → Type 0
DeletesAreOne J = (v : ℕ) (b : Bucket) (n s q : ℕ) (c : Bucket) (m t r : ℕ)
    → DeletedFrom v b n s q J → acceptable n b s J ≡ true → DeletedFrom v c m t r J → acceptable m c t J ≡ true
    → (key : ℕ) → contains b key ≡ true → contains c key ≡ true → (b ≡ c) × (n ≡ m) × (s ≡ t)

-- a node holds of a document what each node of the version held as it took it, and all that was acknowledged under it
abbrev pub HoldsAll : (ℕ → ℕ → Bool) → ℕ → ℕ → Id → Journal → Type 0
HoldsAll P v n id J = ((m : ℕ) → P v m ≡ true → Le (base v m id J) (store n id J)) × ((s : Stamp) → Acked v id s J → Le (Some s) (store n id J))

-- so does a complete member of each document of its row, while its version is v
abbrev pub MembersHold : (ℕ → ℕ → Bool) → Journal → Type 0
MembersHold P J = (v n : ℕ) (id : Id) → complete v n (key_of id) J ≡ true → version n J ≡ v → HoldsAll P v n id J

-- the same of the rows as a list
abbrev pub RowsHold : (ℕ → ℕ → Bool) → Journal → Type 0
RowsHold P J = (v n : ℕ) (r : Row) (id : Id) → IsIn r (rows v J) → r.members n ≡ true → version n J ≡ v
    → contains r.bucket (key_of id) ≡ true → HoldsAll P v n id J

-- a complete member has a piece over each key of its row
abbrev pub MembersHavePieces : Journal → Type 0
MembersHavePieces J = (v n key : ℕ) → complete v n key J ≡ true → version n J ≡ v → holds n key J ≡ true
