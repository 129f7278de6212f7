-- A whole pass that nothing disturbs, from the open state on. Which pair is joined and which row is split next is
-- left open, and so is the order of the rows.
use Rattle.std.specs.Prelude.{◌≡◌, ◌==◌, ◌&&◌, ◌||◌, ℕ, ◌+◌, ◌/◌, ◌≤◌, ◌<◌, ◌⊎◌, Bool, true, false, List, [], ◌∷◌, if◌then◌else◌}
use Rattle.bucket_ids.specs.Buckets.{Low, IsBucket, first_child, second_child}
use Rattle.pieces.specs.Pieces.{same_bucket}
use Rattle.pass_model.specs.Nodes.{Node, split_node, join_node, delete_node}
use Rattle.pass_model.specs.Shapes.{Nothing}
use Rattle.pass_model.specs.Rows.{Settings, Row, round_node, round_row}
use Rattle.pass_model.specs.Settling.{Place, activate_nodes, activate_row, round_at, settle}

-- the nodes and the rows
pub record World : Type 0 where
  pub nodes : ℕ → Node
  pub rows : List Row

-- ---- the rows one after the other

abbrev pub and_then : Place → ((ℕ → Node) → World) → World
and_then x rest = let w = rest x.nodes in record { nodes = w.nodes; rows = x.row ∷ w.rows }

abbrev pub each_row : (Place → Place) → (ℕ → Node) → List Row → World
each_row f ns [] = record { nodes = ns; rows = [] }
each_row f ns (r ∷ rs) = and_then (f (record { nodes = ns; row = r })) (λ ms. each_row f ms rs)

abbrev pub rounds : Settings → World → World
rounds s w = each_row (round_at s) w.nodes w.rows

abbrev pub settle_all : Settings → World → World
settle_all s w = each_row (settle s) w.nodes w.rows

-- ---- rows of a list

abbrev pub AllRows : (Row → Type 0) → List Row → Type 0
AllRows Q [] = Unit {0}
AllRows Q (r ∷ rs) = Q r × AllRows Q rs

abbrev pub In : Row → List Row → Type 0
In r [] = ⊥
In r (q ∷ qs) = (r ≡ q) ⊎ In r qs

-- the second list is the first without one row
abbrev pub Among : Row → List Row → List Row → Type 0
Among r [] rest = ⊥
Among r (q ∷ qs) [] = (r ≡ q) × (qs ≡ [])
Among r (q ∷ qs) (x ∷ rest) = ((r ≡ q) × (qs ≡ x ∷ rest)) ⊎ ((q ≡ x) × Among r qs rest)

-- a message to each node that serves
abbrev pub to_all : Settings → (Node → Node) → (ℕ → Node) → ℕ → Node
to_all s f ns n = if s.serving n then f (ns n) else ns n

-- ---- unanswered Deletes and Activates are sent again, whichever they are

abbrev pub delete_again : ℕ → Low → ℕ → (ℕ → Node) → ℕ → Node
delete_again n b k ns m = if m == n then delete_node b k (ns m) else ns m

pub data Resends (s : Settings) : World → World → Type 0 where
  NoResend : (w : World) → Resends s w w
  DeleteAgain : (ns : ℕ → Node) (rows : List Row) (n k : ℕ) (b : Low) (end : World) → IsBucket b
      → Resends s (record { nodes = delete_again n b k ns; rows = rows }) end → Resends s (record { nodes = ns; rows = rows }) end
  ActivateAgain : (ns : ℕ → Node) (rows rest after : List Row) (r : Row) (end : World) → Among r rows rest → Among (activate_row r ns) after rest
      → Resends s (record { nodes = activate_nodes r ns; rows = after }) end → Resends s (record { nodes = ns; rows = rows }) end

-- ---- joins, each with a Join to all and a round of the parent

abbrev pub merged : Low → Row → Row → Row
merged p a b = record {
  bucket = p;
  complete = λ n. a.complete n && b.complete n;
  active = a.active;
  accepted = a.accepted && b.accepted;
  documents = 0;
  holders = λ n. false;
  shown = λ n. Nothing;
}

-- two rows are halves of one, and small enough together
pub record CanJoin (s : Settings) (p : Low) (a b : Row) : Type 0 where
  pub first : a.bucket ≡ first_child p
  pub second : b.bucket ≡ second_child p
  pub within : s.lane_bits ≤ p.bits
  pub active : a.active ≡ b.active
  pub few : a.documents + b.documents ≤ s.split_at / 2

abbrev pub join_nodes : Settings → Low → Row → Row → (ℕ → Node) → ℕ → Node
join_nodes s p a b ns = round_node s (merged p a b) (to_all s (join_node p) ns)

abbrev pub join_row : Settings → Low → Row → Row → (ℕ → Node) → Row
join_row s p a b ns = round_row s (merged p a b) (to_all s (join_node p) ns)

-- joins one after the other; the buckets that they make are noted
pub data Joins (s : Settings) : World → (Low → Bool) → World → (Low → Bool) → Type 0 where
  NoJoin : (w : World) (left : Low → Bool) → Joins s w left w left
  MoreJoins : (ns : ℕ → Node) (rows some rest after : List Row) (left : Low → Bool) (p : Low) (a b : Row) (end : World) (last : Low → Bool)
      → Among a rows some → Among b some rest → CanJoin s p a b → Among (join_row s p a b ns) after rest
      → Joins s (record { nodes = join_nodes s p a b ns; rows = after }) (λ c. same_bucket c p || left c) end last
      → Joins s (record { nodes = ns; rows = rows }) left end last

-- no pair can be joined
abbrev pub NoPair : Settings → List Row → Type 0
NoPair s rows = (p : Low) (a b : Row) → In a rows → In b rows → CanJoin s p a b → ⊥

-- ---- splits, each with a Split to all and a round of both children

abbrev pub child_row : Low → Row → Row
child_row c r = record {
  bucket = c;
  complete = r.complete;
  active = r.active;
  accepted = r.accepted;
  documents = 0;
  holders = λ n. false;
  shown = λ n. Nothing;
}

abbrev pub split_nodes : Settings → Row → (ℕ → Node) → ℕ → Node
split_nodes s r ns = to_all s (split_node (first_child r.bucket)) ns

abbrev pub first_nodes : Settings → Row → (ℕ → Node) → ℕ → Node
first_nodes s r ns = round_node s (child_row (first_child r.bucket) r) (split_nodes s r ns)

abbrev pub first_row : Settings → Row → (ℕ → Node) → Row
first_row s r ns = round_row s (child_row (first_child r.bucket) r) (split_nodes s r ns)

abbrev pub second_nodes : Settings → Row → (ℕ → Node) → ℕ → Node
second_nodes s r ns = round_node s (child_row (second_child r.bucket) r) (first_nodes s r ns)

abbrev pub second_row : Settings → Row → (ℕ → Node) → Row
second_row s r ns = round_row s (child_row (second_child r.bucket) r) (first_nodes s r ns)

pub data Splits (s : Settings) : World → World → Type 0 where
  NoSplit : (w : World) → Splits s w w
  MoreSplits : (ns : ℕ → Node) (rows rest one two : List Row) (r : Row) (end : World)
      → Among r rows rest → r.bucket.bits < 58 → s.split_at < r.documents
      → Among (first_row s r ns) one rest → Among (second_row s r ns) two one
      → Splits s (record { nodes = second_nodes s r ns; rows = two }) end
      → Splits s (record { nodes = ns; rows = rows }) end

-- the row isn't to be split
abbrev pub NotFull : Settings → Row → Type 0
NotFull s r = r.bucket.bits < 58 → r.documents ≤ s.split_at

-- ---- the pass

abbrev pub settle_if : Settings → (Low → Bool) → Place → Place
settle_if s left x = if left x.row.bucket then settle s x else x

abbrev pub everywhere : Low → Bool
everywhere b = true

abbrev pub nowhere : Low → Bool
nowhere b = false

-- a round of each row, joins, splits, then each row is settled; joins again, and the rows that these leave are settled
pub record Passes (s : Settings) (before after : World) : Type 0 where
  pub joined : World
  pub made : Low → Bool
  pub joins : Joins s (rounds s before) everywhere joined made
  pub no_pair : NoPair s joined.rows
  pub parted : World
  pub splits : Splits s joined parted
  pub not_full : AllRows (NotFull s) parted.rows
  pub again : World
  pub left : Low → Bool
  pub joins_again : Joins s (settle_all s parted) nowhere again left
  pub no_pair_again : NoPair s again.rows
  pub is_last : after ≡ each_row (settle_if s left) again.nodes again.rows
