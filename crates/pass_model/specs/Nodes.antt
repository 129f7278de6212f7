-- A node in one lane, as an undisturbed pass finds it, and what it makes of the messages of the pass. Each
-- message is taken once or twice.
use Rattle.std.specs.Prelude.{◌&&◌, ℕ, ◌+◌, Bool, List, None, if◌then◌else◌}
use Rattle.std.specs.List.{list_any}
use Rattle.bucket_ids.specs.Buckets.{Low, has_key}
use Rattle.pieces.specs.declared.piece.Piece.{Piece}
use Rattle.pieces.specs.Pieces.{is_over, is_inside, is_exactly, does_meet, is_piece, renewed, split_at, join_at, apply_at, ready_at, without}
use Rattle.view_changes.specs.Shown.{with_region}
use Rattle.lane_journals.specs.Stamps.{newer}
use Rattle.lane_journals.specs.Buckets.{key_of}
use Rattle.lane_journals.specs.Events.{Content}

-- its pieces, the last serial that was drawn, of each document the newest stamp, and the active regions
pub record Node : Type 0 where
  pub pieces : List Piece
  pub serial : ℕ
  pub store : Content
  pub regions : List Low
  -- whether the message that comes as this number is taken twice
  pub doubled : ℕ → Bool
  -- how many messages came
  pub came : ℕ

-- the next serial is drawn for changed pieces
abbrev pub with_pieces : List Piece → Node → Node
with_pieces ps x = record { pieces = ps; serial = x.serial + 1; store = x.store; regions = x.regions; doubled = x.doubled; came = x.came }

-- ---- what one taking of a message makes of the node

-- the union comes to what is held in the bucket
abbrev pub taken_in : Low → Content → Content → Content
taken_in b united held id = if has_key b (key_of id) then newer (united id) (held id) else held id

-- nothing is held in the bucket any more
abbrev pub dropped_in : Low → Content → Content
dropped_in b held id = if has_key b (key_of id) then None else held id

abbrev pub apply_once : Low → Content → Node → Node
apply_once b united x = record { pieces = apply_at b (x.serial + 1) x.pieces; serial = x.serial + 1; store = taken_in b united x.store; regions = x.regions; doubled = x.doubled; came = x.came }

abbrev pub split_once : Low → Node → Node
split_once b x = if list_any (is_over b) x.pieces then with_pieces (split_at b (x.serial + 1) x.pieces) x else x

abbrev pub join_once : Low → Node → Node
join_once b x = if list_any (is_inside b) x.pieces then with_pieces (join_at b (x.serial + 1) x.pieces) x else x

-- Ready is answered
abbrev pub can_ready : Low → Node → Bool
can_ready b x = list_any (is_exactly b) x.pieces

abbrev pub ready_once : Low → Node → Node
ready_once b x = if can_ready b x then with_pieces (ready_at b (x.serial + 1) x.pieces) x else x

-- Activate is answered
abbrev pub can_activate : Low → Node → Bool
can_activate b x = list_any (λ p. is_over b p && p.ready) x.pieces

abbrev pub activate_once : Low → Node → Node
activate_once b x =
    if can_activate b x
    then record { pieces = renewed (does_meet b) (x.serial + 1) x.pieces; serial = x.serial + 1; store = x.store; regions = with_region b x.regions; doubled = x.doubled; came = x.came }
    else x

-- Delete is answered
abbrev pub can_delete : Low → ℕ → Node → Bool
can_delete b s x = list_any (is_piece b s) x.pieces

abbrev pub delete_once : Low → ℕ → Node → Node
delete_once b s x = if can_delete b s x then record { pieces = without b x.pieces; serial = x.serial; store = dropped_in b x.store; regions = x.regions; doubled = x.doubled; came = x.came } else x

-- ---- a message that is taken once or twice

abbrev pub counted : Node → Node
counted x = record { pieces = x.pieces; serial = x.serial; store = x.store; regions = x.regions; doubled = x.doubled; came = x.came + 1 }

abbrev pub once_or_twice : Bool → (Node → Node) → Node → Node
once_or_twice t f x = if t then f (f x) else f x

abbrev pub received : (Node → Node) → Node → Node
received f x = counted (once_or_twice (x.doubled x.came) f x)

unfoldable pub apply_node : Low → Content → Node → Node
apply_node b united x = received (apply_once b united) x

unfoldable pub split_node : Low → Node → Node
split_node b x = received (split_once b) x

unfoldable pub join_node : Low → Node → Node
join_node b x = received (join_once b) x

unfoldable pub ready_node : Low → Node → Node
ready_node b x = received (ready_once b) x

unfoldable pub activate_node : Low → Node → Node
activate_node b x = received (activate_once b) x

unfoldable pub delete_node : Low → ℕ → Node → Node
delete_node b s x = received (delete_once b s) x
