-- A node's parts, and its pieces.
use Rattle.std.specs.Prelude.{◌≡◌, ◌&&◌, ℕ, Bool, true, false, List, Option, None, Some, if◌then◌else◌}
use Rattle.std.specs.List.{list_any, find}
use Rattle.std.specs.FinMap as fin
use Rattle.bucket_ids.specs.Buckets.{Low, has_key}
use Rattle.global_ids.specs.Keys.{key_of}
use Rattle.entry_maps.specs.EntryCodes.{Entries}
use Rattle.entry_maps.specs.Entries.{in_bucket}
use Rattle.entry_maps.specs.Joins.{joined}
use Rattle.pieces.specs.declared.piece.Piece.{Piece}
use Rattle.pieces.specs.Pieces.{is_over, is_inside}
use Rattle.sub_databases.specs.Parts.{Parts, place_in, entry_place}
use Rattle.sub_databases.specs.Changes.{is_fresh, made_ready}
use Rattle.replica_store.specs.Replicas.{AreHeld}

-- a ready piece has the key
abbrev pub has_ready : ℕ → Piece → Bool
has_ready key p = p.ready && has_key p.bucket key

-- some ready piece has it
abbrev pub is_ready : ℕ → List Piece → Bool
is_ready key ps = list_any (has_ready key) ps

-- the parts hold these entries, and a document is ready exactly where its piece is
pub record ArePlaced (m : Entries) (ps : List Piece) (p : Parts) : Type 0 where
  pub entries : p.entries ≡ m
  pub places : (id : List ℕ) → place_in p id ≡ entry_place id (fin.get m id) (is_ready (key_of id) ps)

-- ---- what a node's store keeps

-- each document has its key in some piece, and is ready exactly where that is
pub record IsStore (p : Parts) (ps : List Piece) : Type 0 where
  pub held : AreHeld p.entries ps
  pub places : (id : List ℕ) → place_in p id ≡ entry_place id (fin.get p.entries id) (is_ready (key_of id) ps)

-- ---- words for the parts of the code

abbrev pub mark_of : Option Piece → Bool
mark_of None = false
mark_of (Some p) = p.ready

-- the piece that covers a bucket is ready
abbrev pub is_ready_over : Low → List Piece → Bool
is_ready_over b ps = mark_of (find (is_over b) ps)

-- a ready piece lies inside the bucket
abbrev pub is_ready_inside : Low → List Piece → Bool
is_ready_inside b ps = list_any (λ p. is_inside b p && p.ready) ps

-- the entries are joined, and where that is said the other documents of a bucket become ready
pub record IsApplied (b : Low) (es : Entries) (ready readied : Bool) (old new : Parts) : Type 0 where
  pub entries : new.entries ≡ joined old.entries es
  pub places : (id : List ℕ) → place_in new id
      ≡ (if is_fresh (fin.get es id) (fin.get old.entries id) then entry_place id (fin.get es id) ready else made_ready (readied && in_bucket b id) (place_in old id))

-- as the pieces say
abbrev pub applies : Bool → Low → Entries → List Piece → Parts → Parts → Type 0
applies true b es ps old new = IsApplied b es (is_ready_over b ps) false old new
applies false b es ps old new = IsApplied b es (is_ready_inside b ps) (is_ready_inside b ps) old new

abbrev pub AppliesAs : Low → Entries → List Piece → Parts → Parts → Type 0
AppliesAs b es ps old new = applies (list_any (is_over b) ps) b es ps old new
