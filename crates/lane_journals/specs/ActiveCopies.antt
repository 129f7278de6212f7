-- What holds of every legal journal and its active nodes.
use Rattle.std.specs.Prelude.{◌≡◌, ℕ, ◌≤◌, Bool, true, ◌∷◌, Some}
use Rattle.lane_journals.specs.Stamps.{Le}
use Rattle.lane_journals.specs.Buckets.{Id, Bucket, contains, key_of}
use Rattle.lane_journals.specs.Events.{Activate, Event}
use Rattle.lane_journals.specs.Readers.{Journal, Message, sent, version, store, complete, active}
use Rattle.lane_journals.specs.Facts.{InRegion}
use Rattle.lane_journals.specs.Legal.{Legal}

-- a law of all legal journals, whatever nodes serve and however many copies a write needs
abbrev pub InAll : (ℕ → (ℕ → ℕ → Bool) → Journal → Type 0) → Type 0
InAll L = (acks : ℕ) → 1 ≤ acks → (P : ℕ → ℕ → Bool) → (J : Journal) → Legal acks P J → L acks P J

-- the active node of a row is a complete member
abbrev pub ActiveIsComplete : Journal → Type 0
ActiveIsComplete J = (v key n : ℕ) → active v key J ≡ Some n → complete v n key J ≡ true

-- Activates of one version over a common key go to one node
abbrev pub OneGetsActivate : Journal → Type 0
OneGetsActivate J = (k j : ℕ) (m o : Message) (b c : Bucket) (key : ℕ) → sent k J ≡ Some m → sent j J ≡ Some o
    → m.body ≡ Activate b → o.body ≡ Activate c → m.version ≡ o.version → contains b key ≡ true → contains c key ≡ true → m.receiver ≡ o.receiver

-- a node's region of a version is active on it
abbrev pub RegionIsActive : Journal → Type 0
RegionIsActive J = (v n key : ℕ) → InRegion v n key J → active v key J ≡ Some n

-- the documents of a region only get newer while the node's version is v
abbrev pub RegionGetsNewer : ℕ → (ℕ → ℕ → Bool) → Journal → Type 0
RegionGetsNewer acks P J = (e : Event) → Legal acks P (e ∷ J) → (v n : ℕ) (id : Id) → InRegion v n (key_of id) J
    → version n (e ∷ J) ≡ v → Le (store n id J) (store n id (e ∷ J))
