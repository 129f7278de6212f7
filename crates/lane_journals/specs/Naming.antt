-- What a kept event names: entries that were written before, by their stamps in rising order; in an answer
-- just what was asked for.
use Rattle.std.specs.Prelude.{◌≡◌, ℕ, Bool, true, List, [], ◌∷◌, Some, Contains}
use Rattle.stamps.specs.Rising.{IsRising}
use Rattle.lane_journals.specs.Stamps.{Stamp}
use Rattle.lane_journals.specs.Buckets.{Id, Bucket, meets, key_of}
use Rattle.lane_journals.specs.Events as plain
use Rattle.lane_journals.specs.Events.{Body}
use Rattle.lane_journals.specs.Readers.{Journal, Beginning, began, Message, sent, store}
use Rattle.lane_journals.specs.Pieces.{NodePiece, IsPieceIn, pieces}
use Rattle.lane_journals.specs.Meanings.{written, pick, history}
use Rattle.pieces.specs.declared.piece.Piece.{Piece}
use Rattle.messages.specs.declared.noted.NotedBody.{NotedBody}
use Rattle.messages.specs.declared.noted.NotedBody.TheVariants.{Read, Store, Apply}
use Rattle.messages.specs.declared.noted.NotedReply.{NotedReply}
use Rattle.messages.specs.declared.noted.NotedReply.TheVariants.{Answer}
use Rattle.lane_journals.specs.declared.event.LaneEvent.{LaneEvent}
use Rattle.lane_journals.specs.declared.event.LaneEvent.TheVariants.{Wrote, Sent, Delivered}

-- the stamp names an entry of the list, the newest of its document there
pub record IsEntry (J : List LaneEvent) (ss : List Stamp) (s : Stamp) : Type 0 where
  pub id : Id
  pub wrote : written s J ≡ Some id
  pub newest : pick J id ss ≡ Some s

-- the stamp names what the node holds
pub record IsHeld (J : List LaneEvent) (n : ℕ) (s : Stamp) : Type 0 where
  pub id : Id
  pub wrote : written s J ≡ Some id
  pub holds : store n id (history J) ≡ Some s

-- the stamp and the document are those that the line began with
pub record IsOwn (J : List LaneEvent) (l : ℕ) (s : Stamp) (i : Id) : Type 0 where
  pub begin : Beginning
  pub begun : began l (history J) ≡ Some begin
  pub stamped : begin.stamp ≡ Some s
  pub same_id : begin.id ≡ i

abbrev pub Each : (Stamp → Type 0) → List Stamp → Type 0
Each P [] = Unit {0}
Each P (s ∷ ss) = P s × Each P ss

-- the bucket of one key
abbrev pub exact_bucket : ℕ → Bucket
exact_bucket key = record { bits = 58; low = key }

abbrev pub NamesSent : List LaneEvent → NotedBody → Type 0
NamesSent J (Store s) = (i : Id) × (written s J ≡ Some i)
NamesSent J (Apply b ss) = IsRising ss × Each (λ s. IsEntry J ss s) ss
NamesSent J (Read b (Some id)) = b ≡ exact_bucket (key_of id)
NamesSent J _ = Unit {0}

-- the pieces are just those of the node that pass a test, each once
pub record ShowsPieces (ps : List Piece) (held : List NodePiece) (asked : Bucket → Bool) : Type 0 where
  pub each : (p : Piece) → Contains ps p → (asked p.bucket ≡ true) × IsPieceIn (record { bucket = p.bucket; ready = p.ready }) held
  pub all : (q : NodePiece) → IsPieceIn q held → asked q.bucket ≡ true → (s : ℕ) × Contains ps (record { bucket = q.bucket; serial = s; ready = q.ready })
  pub once : (p q : Piece) → Contains ps p → Contains ps q → p.bucket ≡ q.bucket → p ≡ q

-- an answer to an Ask shows all pieces, one to the Read of a bucket those that meet it, any other none
abbrev pub PiecesShown : Journal → ℕ → Body → List Piece → Type 0
PiecesShown J n plain.Ask ps = ShowsPieces ps (pieces n J) (λ b. true)
PiecesShown J n (plain.Read b) ps = ShowsPieces ps (pieces n J) (λ c. meets b c)
PiecesShown J n _ ps = ps ≡ []

-- an answer to a Read of one document shows its entry at most, one to a Read of a bucket what is held there, any other none
abbrev pub EntriesShown : List LaneEvent → Body → List Stamp → Type 0
EntriesShown J (plain.Read b) ss = Unit {0}
EntriesShown J (plain.ReadDoc id) ss = Each (λ s. written s J ≡ Some id) ss
EntriesShown J _ ss = ss ≡ []

pub record NamesShown (J : List LaneEvent) (m : Message) (ps : List Piece) (ss : List Stamp) : Type 0 where
  pub rising : IsRising ss
  pub held : Each (λ s. IsHeld J m.receiver s) ss
  pub asked : EntriesShown J m.body ss
  pub shown : PiecesShown (history J) m.receiver m.body ps

abbrev pub NamesReplied : List LaneEvent → ℕ → NotedReply → Type 0
NamesReplied J k (Answer ps ss) = (m : Message) → sent k (history J) ≡ Some m → NamesShown J m ps ss
NamesReplied J k _ = Unit {0}

-- what the event names is there
abbrev pub WellNoted : List LaneEvent → LaneEvent → Type 0
WellNoted J (Wrote l entry) = IsOwn J l entry.stamp entry.id
WellNoted J (Sent k v d n b) = NamesSent J b
WellNoted J (Delivered k r) = NamesReplied J k r
WellNoted J _ = Unit {0}
