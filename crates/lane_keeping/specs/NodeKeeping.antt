-- That a node is what the journal of its lane says: a record over what readers read, so that an event which the
-- readers pass over leaves it as it is.
use Rattle.std.specs.Prelude.{◌≡◌, ◌≤◌, ◌+◌, ◌==◌, ℕ, Bool, true, false, nat_lt, List, [], ◌∷◌, map, Option, None, Some, if◌then◌else◌}
use Rattle.std.specs.List.{list_any}
use Rattle.std.specs.FinMap as fin
use Rattle.documents.specs.declared.entry.Entry.{Entry}
use Rattle.entry_maps.specs.EntryCodes.{Entries}
use Rattle.pieces.specs.declared.piece.Piece.{Piece}
use Rattle.pieces.specs.Pieces.{is_piece}
use Rattle.replica_store.specs.Replicas.{IsReplica}
use Rattle.view_changes.specs.Shown.{with_region}
use Rattle.node_model.specs.Nodes.{Node, stored}
use Rattle.lane_journals.specs.Stamps.{Stamp}
use Rattle.lane_journals.specs.Buckets.{Bucket, Id}
use Rattle.lane_journals.specs.Events.{Body, Activate, Reply, Answer, Delivered}
use Rattle.lane_journals.specs.Readers.{Journal, Message, sent, version, store, was_named, stands, acceptable, is_read}
use Rattle.lane_journals.specs.Pieces.{NodePiece, pieces}
use Rattle.lane_journals.specs.Meanings.{entry_at, history}
use Rattle.lane_journals.specs.declared.event.LaneEvent.{LaneEvent}

-- ---- three more readers

-- the regions of a node whose version is v, after a message came: a greater version drops them
abbrev pub adopted_regions : ℕ → ℕ → Option Message → List Bucket → List Bucket
adopted_regions n v None rs = rs
adopted_regions n v (Some m) rs = if m.receiver == n then (if nat_lt v m.version then [] else rs) else rs

abbrev pub activated_regions : Body → List Bucket → List Bucket
activated_regions (Activate b) rs = with_region b rs
activated_regions _ rs = rs

abbrev pub regions_after : ℕ → Reply → Option Message → List Bucket → List Bucket
regions_after n (Answer x names) (Some m) rs = if m.receiver == n then activated_regions m.body rs else rs
regions_after n _ _ rs = rs

-- the buckets of the Activates that the node accepted since it took its version
abbrev pub regions : ℕ → Journal → List Bucket
regions n [] = []
regions n (Delivered k r ∷ J) = regions_after n r (sent k J) (adopted_regions n (version n J) (sent k J) (regions n J))
regions n (_ ∷ J) = regions n J

abbrev pub read_by : Body → (Bucket → ℕ → Bool) → Bucket → ℕ → Bool → Bool
read_by x names b s old = if is_read x then (if names b s then true else old) else old

abbrev pub read_after : ℕ → Bucket → ℕ → Reply → Option Message → Bool → Bool
read_after n b s (Answer x names) (Some m) old = if m.receiver == n then read_by m.body names b s old else old
read_after n b s _ _ old = old

-- an answer to the Read of a bucket named the piece with the serial
abbrev pub was_read : ℕ → Bucket → ℕ → Journal → Bool
was_read n b s [] = false
was_read n b s (Delivered k r ∷ J) = read_after n b s r (sent k J) (was_read n b s J)
was_read n b s (_ ∷ J) = was_read n b s J

abbrev pub accepts_after : ℕ → Reply → Option Message → ℕ → ℕ
accepts_after n (Answer x names) (Some m) old = if m.receiver == n then old + 1 else old
accepts_after n _ _ old = old

-- how many messages the node accepted
abbrev pub accepts : ℕ → Journal → ℕ
accepts n [] = 0
accepts n (Delivered k r ∷ J) = accepts_after n r (sent k J) (accepts n J)
accepts n (_ ∷ J) = accepts n J

-- ---- entries and pieces

-- the stamp of an entry that may be there
abbrev pub stamp_of : Option Entry → Option Stamp
stamp_of None = None
stamp_of (Some e) = Some e.stamp

-- each entry stands at its document, and is the one that was written with its stamp
abbrev pub AreWritten : (Stamp → Option Entry) → Entries → Type 0
AreWritten wrote m = (id : Id) (e : Entry) → fin.get m id ≡ Some e → (e.id ≡ id) × (wrote e.stamp ≡ Some e)

-- a piece without its serial
abbrev pub shape : Piece → NodePiece
shape p = record { bucket = p.bucket; ready = p.ready }

-- two lists have the same pieces, in whatever order: a test finds one in the first where it finds one in the second
abbrev pub HaveShapes : List Piece → List NodePiece → Type 0
HaveShapes ps qs = (test : NodePiece → Bool) → list_any test (map shape ps) ≡ list_any test qs

-- each piece that was named with a serial has one that was drawn, and is there just where it still stands
pub record SerialsAre (was stand : Bucket → ℕ → Bool) (ps : List Piece) (last : ℕ) : Type 0 where
  pub low : (b : Bucket) (s : ℕ) → was b s ≡ true → s ≤ last
  pub there : (b : Bucket) (s : ℕ) → was b s ≡ true → list_any (is_piece b s) ps ≡ stand b s

-- ---- a node

-- a node has a version, of each document a stamp, just the entries that were written with these, pieces and regions
pub record IsNodeOf (v : ℕ) (held : Id → Option Stamp) (wrote : Stamp → Option Entry) (ps : List NodePiece) (rs : List Bucket) (was stand was_shown stand_shown : Bucket → ℕ → Bool) (many : ℕ) (x : Node) : Type 0 where
  pub version_is : x.version ≡ v
  pub stamps_are : (id : Id) → stamp_of (fin.get x.entries id) ≡ held id
  pub entries_are : AreWritten wrote x.entries
  pub pieces_are : HaveShapes x.pieces ps
  pub regions_are : x.regions ≡ rs
  -- a serial that an answer of any kind named, and one that the Read of a bucket showed
  pub serials : SerialsAre was stand x.pieces x.serial
  pub read_serials : SerialsAre was_shown stand_shown x.pieces x.serial
  -- each accepted message draws one serial at most
  pub few : x.serial ≤ many
  pub valid : IsReplica (stored x)

-- the node is what the journal says of the node with this number
abbrev pub NodeKeeps : List LaneEvent → ℕ → Node → Type 0
NodeKeeps J n x = IsNodeOf (version n (history J)) (λ id. store n id (history J)) (λ s. entry_at s J) (pieces n (history J)) (regions n (history J))
    (λ b s. was_named n b s (history J)) (λ b s. stands n b s (history J)) (λ b s. was_read n b s (history J)) (λ b s. acceptable n b s (history J)) (accepts n (history J)) x
