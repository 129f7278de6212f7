-- How joins and splits go through the rows as they stand, in rising number, and what they leave behind them.
use Rattle.std.specs.Prelude.{◌≡◌, ℕ, zero, suc, ◌≤◌, Bool, nat_lt, List, [], ◌∷◌}
use Rattle.std.specs.List.{count_by, remove}
use Rattle.bucket_ids.specs.Buckets.{Low}
use Rattle.bucket_ids.specs.Printed.{number_of}
use Rattle.bucket_db.specs.Changes.{placed}
use Rattle.pass_model.specs.Rows.{Settings, Row}
use Rattle.pass_model.specs.Passes.{World, In, CanJoin, Joins, join_nodes, join_row, Splits, NotFull, second_nodes, first_row, second_row}

-- the numbers of the rows don't fall, from one on
abbrev pub Rises : ℕ → List Row → Type 0
Rises least [] = Unit {0}
Rises least (r ∷ rs) = (least ≤ number_of r.bucket) × Rises (number_of r.bucket) rs

-- the row comes where its number puts it
abbrev pub with_row : Row → List Row → List Row
with_row = placed (λ r. number_of r.bucket)

-- how many rows have fewer bits: so many stand before those that don't
abbrev pub fewer : ℕ → List Row → ℕ
fewer bits = count_by (λ r. nat_lt r.bucket.bits bits)

-- each row before the place has Q
abbrev pub Before : (Row → Type 0) → ℕ → List Row → Type 0
Before Q zero rows = Unit {0}
Before Q (suc at) [] = Unit {0}
Before Q (suc at) (r ∷ rs) = Q r × Before Q at rs

-- ---- splits

-- the row of the place goes, and its halves come
abbrev pub after_split : Settings → Row → ℕ → World → World
after_split s r at w = record { nodes = second_nodes s r w.nodes; rows = with_row (second_row s r w.nodes) (with_row (first_row s r w.nodes) (remove w.rows at)) }

-- splits came so far, and no row before the place is to be split
pub record AreSplitBefore (s : Settings) (before w : World) (at : ℕ) : Type 0 where
  pub splits : Splits s before w
  pub not_full : Before (NotFull s) at w.rows

-- ---- joins

-- the rows from the place on
abbrev pub from_place : ℕ → List Row → List Row
from_place zero rows = rows
from_place (suc at) [] = []
from_place (suc at) (r ∷ rs) = from_place at rs

-- the row of the place goes, and the one of another place among the rest, and the parent comes
abbrev pub after_join : Settings → Low → Row → Row → ℕ → ℕ → World → World
after_join s p a b at other w = record { nodes = join_nodes s p a b w.nodes; rows = with_row (join_row s p a b w.nodes) (remove (remove w.rows at) other) }

-- no pair of rows of more bits can be joined
abbrev pub NoPairAbove : Settings → ℕ → List Row → Type 0
NoPairAbove s bits rows = (p : Low) (a b : Row) → In a rows → In b rows → CanJoin s p a b → a.bucket.bits ≤ bits

-- the first row of a pair of so many bits stands at the place or behind it
abbrev pub PairsBehind : Settings → ℕ → ℕ → List Row → Type 0
PairsBehind s bits at rows = (p : Low) (a b : Row) → In a rows → In b rows → CanJoin s p a b → a.bucket.bits ≡ bits → In a (from_place at rows)

-- joins came so far
pub record AreJoinedBefore (s : Settings) (before w : World) (made now : Low → Bool) (bits at : ℕ) : Type 0 where
  pub joins : Joins s before made w now
  pub above : NoPairAbove s bits w.rows
  pub behind : PairsBehind s bits at w.rows
