-- What a node has in one lane, and what an accepted body makes of it.
use Rattle.std.specs.Prelude.{ℕ, List, [], nat_lt, Option, None, Some, if◌then◌else◌, refl}
use Rattle.std.specs.Coded.{Coded, code_by, coded×, coded_ℕ, coded_list}
use Rattle.std.specs.FinMap as fin
use Rattle.bucket_ids.specs.Buckets.{Low}
use Rattle.documents.specs.declared.entry.Entry.{Entry}
use Rattle.entry_maps.specs.EntryCodes.{Entries, entries_code}
use Rattle.pieces.specs.declared.piece.Piece.{Piece}
use Rattle.pieces.specs.PieceCodes.{low_code, piece_code}
use Rattle.messages.specs.declared.body.Body.{Body}
use Rattle.messages.specs.declared.body.Body.TheVariants as body
use Rattle.view_changes.specs.Shown.{with_region}
use Rattle.replica_store.specs.Replicas.{Replica, after_store, after_apply, after_delete, after_split, after_join, after_ready, after_activate}

-- the greatest version of a message, the newest entries, the pieces in the order of their runs, the active
-- regions, and the last serial that was drawn
pub record Node : Type 0 where
  pub version : ℕ
  pub entries : Entries
  pub pieces : List Piece
  pub regions : List Low
  pub serial : ℕ

abbrev pub node_code : Coded Node
node_code = code_by (ℕ × (Entries × (List Piece × (List Low × ℕ)))) (coded× coded_ℕ (coded× entries_code (coded× (coded_list piece_code) (coded× (coded_list low_code) coded_ℕ))))
    (λ n. (n.version, (n.entries, (n.pieces, (n.regions, n.serial)))))
    (λ p. record { version = p.0; entries = p.1.0; pieces = p.1.1.0; regions = p.1.1.1.0; serial = p.1.1.1.1 }) (λ _. refl)

abbrev pub new_node : Node
new_node = record { version = 0; entries = fin.empty; pieces = []; regions = []; serial = 0 }

-- a node that takes a greater version forgets its regions
abbrev pub adopt : ℕ → Node → Node
adopt v n = if nat_lt n.version v then record { version = v; entries = n.entries; pieces = n.pieces; regions = []; serial = n.serial } else n

-- what the node stores
abbrev pub stored : Node → Replica
stored n = record { entries = n.entries; pieces = n.pieces; serial = n.serial }

-- the node stores what a change makes of what it stored
abbrev pub on_store : (Replica → Replica) → Node → Node
on_store change n = let r = change (stored n) in record { version = n.version; entries = r.entries; pieces = r.pieces; regions = n.regions; serial = r.serial }

-- the piece that covers the bucket has a new serial, and the bucket is a region
abbrev pub activated : Low → Node → Node
activated b n = let r = after_activate b (stored n) in record { version = n.version; entries = r.entries; pieces = r.pieces; regions = with_region b n.regions; serial = r.serial }

-- what an accepted body makes of a node
abbrev pub after_body : Body → Node → Node
after_body body.Ask n = n
after_body (body.Read b only) n = n
after_body (body.Store entry) n = on_store (after_store entry) n
after_body (body.Apply b entries) n = on_store (after_apply b entries) n
after_body (body.Delete b s) n = on_store (after_delete b) n
after_body (body.Split b) n = on_store (after_split b) n
after_body (body.Join b) n = on_store (after_join b) n
after_body (body.Ready b) n = on_store (after_ready b) n
after_body (body.Activate b) n = activated b n

abbrev pub only_entry : Option Entry → Entries
only_entry None = fin.empty
only_entry (Some e) = fin.insert fin.empty e.id e
