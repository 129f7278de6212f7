-- What a node stores in one lane, and what each accepted call makes of it.
use Rattle.std.specs.Prelude.{◌≡◌, ◌+◌, ℕ, true, not, List, [], Some, refl}
use Rattle.std.specs.Coded.{Coded, code_by, coded×, coded_ℕ, coded_list}
use Rattle.std.specs.FinMap as fin
use Rattle.bucket_ids.specs.Buckets.{Low}
use Rattle.global_ids.specs.Keys.{key_of}
use Rattle.documents.specs.declared.entry.Entry.{Entry}
use Rattle.entry_maps.specs.Entries.{with_entry, in_bucket}
use Rattle.entry_maps.specs.EntryCodes.{Entries, entries_code}
use Rattle.entry_maps.specs.Joins.{joined}
use Rattle.pieces.specs.declared.piece.Piece.{Piece}
use Rattle.pieces.specs.PieceCodes.{piece_code}
use Rattle.pieces.specs.Pieces.{holds, has_key_of, does_meet, renewed, ready_at, split_at, join_at, apply_at, without}
use Rattle.pieces.specs.Holdings.{IsHolding}

-- the newest entries, the pieces in the order of their runs, and the last serial that was drawn
pub record Replica : Type 0 where
  pub entries : Entries
  pub pieces : List Piece
  pub serial : ℕ

abbrev pub replica_code : Coded Replica
replica_code = code_by (Entries × (List Piece × ℕ)) (coded× entries_code (coded× (coded_list piece_code) coded_ℕ))
    (λ r. (r.entries, (r.pieces, r.serial))) (λ p. record { entries = p.0; pieces = p.1.0; serial = p.1.1 }) (λ _. refl)

abbrev pub no_replica : Replica
no_replica = record { entries = fin.empty; pieces = []; serial = 0 }

-- each entry's document has its key in some piece
abbrev pub AreHeld : Entries → List Piece → Type 0
AreHeld m ps = (id : List ℕ) (e : Entry) → fin.get m id ≡ Some e → holds (key_of id) ps ≡ true

pub record IsReplica (r : Replica) : Type 0 where
  pub holding : IsHolding (record { pieces = r.pieces; serial = r.serial })
  pub held : AreHeld r.entries r.pieces

-- each entry's document has its key in the bucket
abbrev pub LieIn : Low → Entries → Type 0
LieIn b m = (id : List ℕ) (e : Entry) → fin.get m id ≡ Some e → in_bucket b id ≡ true

-- the next serial is drawn, and given to what a change makes
abbrev pub drawn : Entries → (ℕ → List Piece → List Piece) → Replica → Replica
drawn m change r = record { entries = m; pieces = change (r.serial + 1) r.pieces; serial = r.serial + 1 }

-- the entry is kept where it is the newest, and the piece with its key is renewed
abbrev pub after_store : Entry → Replica → Replica
after_store e r = drawn (with_entry r.entries e) (renewed (has_key_of (key_of e.id))) r

-- the bucket is a piece, and of each document the newer entry is kept
abbrev pub after_apply : Low → Entries → Replica → Replica
after_apply b m r = drawn (joined r.entries m) (apply_at b) r

-- the entries stay, each in one of the parts
abbrev pub after_split : Low → Replica → Replica
after_split b r = drawn r.entries (split_at b) r

abbrev pub after_join : Low → Replica → Replica
after_join b r = drawn r.entries (join_at b) r

abbrev pub after_ready : Low → Replica → Replica
after_ready b r = drawn r.entries (ready_at b) r

abbrev pub after_activate : Low → Replica → Replica
after_activate b r = drawn r.entries (renewed (does_meet b)) r

-- the bucket and its entries are gone; a delete draws no serial
abbrev pub after_delete : Low → Replica → Replica
after_delete b r = record { entries = fin.retain_keys r.entries (λ id. not (in_bucket b id)); pieces = without b r.pieces; serial = r.serial }
