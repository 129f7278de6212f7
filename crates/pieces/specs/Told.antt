-- Which calls are accepted, and which are refused for what cause.
use Rattle.std.specs.Prelude.{◌≡◌, Bool, ℕ, List, Option, None, Some, Result, Ok, Err, if◌then◌else◌}
use Rattle.std.specs.List.{list_any, find}
use Rattle.bucket_ids.specs.Buckets.{Low}
use Rattle.pieces.specs.declared.piece.Piece.{Piece}
use Rattle.pieces.specs.Pieces.{holds, is_over, is_inside, is_exactly, is_piece, does_meet}
use Rattle.pieces.specs.declared.fault.StoreFault.{StoreFault}
use Rattle.pieces.specs.declared.fault.StoreFault.TheVariants as fault

pub data Told : Type 0 where
  Accepted : Told
  NoBucket : Told
  Differs : Told

-- each refusal is answered exactly where it is told, and want of memory only where the call is accepted
abbrev pub IsAnsweredAs : {A : Type 0} → Told → Result A StoreFault → Type 0
IsAnsweredAs told (Ok a) = told ≡ Accepted
IsAnsweredAs told (Err fault.NoBucket) = told ≡ NoBucket
IsAnsweredAs told (Err fault.Differs) = told ≡ Differs
IsAnsweredAs told (Err fault.NoMemory) = told ≡ Accepted

-- the same of a call that takes no memory
abbrev pub IsSurelyTold : {A : Type 0} → Told → Result A StoreFault → Type 0
IsSurelyTold told (Ok a) = told ≡ Accepted
IsSurelyTold told (Err fault.NoBucket) = told ≡ NoBucket
IsSurelyTold told (Err fault.Differs) = told ≡ Differs
IsSurelyTold told (Err fault.NoMemory) = ⊥

-- the answer of a refusal
abbrev pub fault_of : Told → StoreFault
fault_of Differs = fault.Differs
fault_of _ = fault.NoBucket

abbrev pub where_some : Bool → Told
where_some test = if test then Accepted else NoBucket

-- to what names a document: some piece has its key
abbrev pub key_told : ℕ → List Piece → Told
key_told key ps = where_some (holds key ps)

-- to a split: some piece covers the bucket
abbrev pub split_told : Low → List Piece → Told
split_told b ps = where_some (list_any (is_over b) ps)

-- to a join: some piece lies inside the bucket or is it
abbrev pub join_told : Low → List Piece → Told
join_told b ps = where_some (list_any (is_inside b) ps)

-- where no piece is the one that is named
abbrev pub unless_met : Low → List Piece → Told
unless_met b ps = if list_any (does_meet b) ps then Differs else NoBucket

-- some piece is the bucket
abbrev pub ready_told : Low → List Piece → Told
ready_told b ps = if list_any (is_exactly b) ps then Accepted else unless_met b ps

-- some piece is the bucket with this serial
abbrev pub delete_told : Low → ℕ → List Piece → Told
delete_told b s ps = if list_any (is_piece b s) ps then Accepted else unless_met b ps

abbrev pub by_mark : Option Piece → Told
by_mark None = NoBucket
by_mark (Some p) = if p.ready then Accepted else Differs

-- some piece covers the bucket, and is ready
abbrev pub activate_told : Low → List Piece → Told
activate_told b ps = by_mark (find (is_over b) ps)
