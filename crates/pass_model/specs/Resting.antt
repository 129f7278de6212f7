-- What holds of nodes and rows at any time, where a pass may begin, and what it brings.
use Rattle.std.specs.Prelude.{◌≡◌, ℕ, ◌+◌, ◌/◌, ◌≤◌, ◌<◌, true, false, List, [], ◌∷◌, None, Some}
use Rattle.std.specs.List.{list_any}
use Rattle.bucket_ids.specs.Buckets.{Low, IsBucket, first_child, second_child}
use Rattle.pieces.specs.Pieces.{meets}
use Rattle.lane_journals.specs.Sets.{count}
use Rattle.lane_journals.specs.Stamps.{Le}
use Rattle.lane_journals.specs.Buckets.{Id}
use Rattle.lane_journals.specs.Events.{Content}
use Rattle.lane_rest.specs.Targets.{is_active}
use Rattle.pass_model.specs.Nodes.{Node}
use Rattle.pass_model.specs.Shapes.{IsSound, IsClear, IsExact, IsReadied, IsActiveOn}
use Rattle.pass_model.specs.Rows.{Settings, Row, is_first, is_target, is_searched}
use Rattle.pass_model.specs.Passes.{World, AllRows, In}

-- the settings can be kept: the first of each ideal order serve, they are enough for an acknowledgement, and the
-- documents of a bucket are those of its halves together
pub record AreSettings (s : Settings) : Type 0 where
  pub few : (n : ℕ) → s.serving n ≡ true → n < 32
  pub serving : (b : Low) (n : ℕ) → is_first s b n ≡ true → s.serving n ≡ true
  pub best : Low → ℕ
  pub best_first : (b : Low) → (rest : List ℕ) × (s.ideal b ≡ best b ∷ rest)
  pub redundant : 1 ≤ s.redundancy
  pub some_bits : 1 ≤ s.lane_bits
  pub enough : (b : Low) → s.acks ≤ count (is_first s b)
  pub halves : (held : Content) (b : Low) → IsBucket b → s.documents held b ≡ s.documents held (first_child b) + s.documents held (second_child b)

-- ---- at any time

-- each node that serves holds at most this, and one holds it
pub record IsUnion (s : Settings) (U : Content) (ns : ℕ → Node) : Type 0 where
  pub most : (n : ℕ) → s.serving n ≡ true → (id : Id) → Le ((ns n).store id) (U id)
  pub somewhere : (id : Id) → (n : ℕ) × (n < 32) × (s.serving n ≡ true) × ((ns n).store id ≡ U id)

-- the active node serves, and has the row in its regions where it is said to have accepted it
pub record IsRow (s : Settings) (ns : ℕ → Node) (r : Row) : Type 0 where
  pub valid : IsBucket r.bucket
  pub serves : (n : ℕ) → is_active r.active n ≡ true → s.serving n ≡ true
  pub accepted : r.accepted ≡ true → (n : ℕ) → is_active r.active n ≡ true → IsActiveOn r.bucket (ns n)
  pub undecided : r.active ≡ None → r.accepted ≡ false

-- no key lies in two rows
abbrev pub AreApart : List Row → Type 0
AreApart [] = Unit {0}
AreApart (r ∷ rs) = (list_any (λ q. meets q.bucket r.bucket) rs ≡ false) × IsBucket r.bucket × AreApart rs

-- all that a pass asks of the nodes and the rows where it begins; marks, shapes and pieces may be any
pub record HasBegun (s : Settings) (w : World) : Type 0 where
  pub good : (n : ℕ) → IsSound (w.nodes n)
  pub rows : AllRows (IsRow s w.nodes) w.rows
  pub apart : AreApart w.rows

-- the same with the union of the nodes
pub record IsSane (s : Settings) (U : Content) (w : World) : Type 0 where
  pub good : (n : ℕ) → IsSound (w.nodes n)
  pub union : IsUnion s U w.nodes
  pub rows : AllRows (IsRow s w.nodes) w.rows
  pub apart : AreApart w.rows

-- ---- at rest

pub record HasActive (r : Row) (ns : ℕ → Node) : Type 0 where
  pub node : ℕ
  pub decided : r.active ≡ Some node
  pub accepted : IsActiveOn r.bucket (ns node)
  pub ready : IsReadied r.bucket (ns node)

-- the row by itself is at rest
pub record IsSettled (s : Settings) (U : Content) (ns : ℕ → Node) (r : Row) : Type 0 where
  pub targets : (n : ℕ) → is_target s r n ≡ true → IsExact r.bucket (ns n)
  pub others : (n : ℕ) → s.serving n ≡ true → is_target s r n ≡ false → IsClear r.bucket (ns n)
  pub complete : (n : ℕ) → is_target s r n ≡ true → r.complete n ≡ true
  pub active : HasActive r ns
  pub ready : (n : ℕ) → is_searched s r n ≡ true → IsReadied r.bucket (ns n)

-- each row is settled, none is to be split, and no two are to be joined
pub record IsResting (s : Settings) (U : Content) (w : World) : Type 0 where
  pub sane : IsSane s U w
  pub settled : AllRows (IsSettled s U w.nodes) w.rows
  pub small : AllRows (λ r. r.bucket.bits < 58 → s.documents U r.bucket ≤ s.split_at) w.rows
  pub no_pair : (p : Low) (a b : Row) → In a w.rows → In b w.rows → a.bucket ≡ first_child p → b.bucket ≡ second_child p → s.lane_bits ≤ p.bits
      → a.active ≡ b.active → s.documents U a.bucket + s.documents U b.bucket ≤ s.split_at / 2 → ⊥
