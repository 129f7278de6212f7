-- The places of a list's nodes.
use Rattle.std.proofs.Common.{◌≡◌, ℕ, zero, suc, ◌<◌, List, [], ◌∷◌, length, take, get_or, inl, inr, refl, sym, arith}
use Rattle.ideal_nodes.specs.Scores.{IsRanked, Has}

-- the place of a node
pub record IsAt (nodes : List ℕ) (node : ℕ) : Type 0 where
  pub place : ℕ
  pub within : place < length nodes
  pub is : get_or nodes place 0 ≡ node

pub place_of : (nodes : List ℕ) (node : ℕ) → Has node nodes → IsAt nodes node
place_of [] node has = absurd has
place_of (n ∷ nodes) node (inl e) = record { place = 0; within = omega arith; is = sym e }
place_of (n ∷ nodes) node (inr has) =
    let rest = place_of nodes node has in
    record { place = suc rest.place; within = omega (arith, rest.within); is = rest.is }

pub has_at : (nodes : List ℕ) (place none : ℕ) → place < length nodes → Has (get_or nodes place none) nodes
has_at [] place none lt = absurd (omega arith)
has_at (n ∷ nodes) zero none lt = inl refl
has_at (n ∷ nodes) (suc place) none lt = inr (has_at nodes place none (omega arith))

pub has_taken_at : (nodes : List ℕ) (place end : ℕ) → place < end → place < length nodes → Has (get_or nodes place 0) (take end nodes)
has_taken_at [] place end lt within = absurd (omega arith)
has_taken_at (n ∷ nodes) place zero lt within = absurd (omega arith)
has_taken_at (n ∷ nodes) zero (suc end) lt within = inl refl
has_taken_at (n ∷ nodes) (suc place) (suc end) lt within = inr (has_taken_at nodes place end (omega arith) (omega arith))

-- what stands first in a ranked list goes before what stands behind it
pub ranked_at : (before : ℕ → ℕ → Type 0) (nodes : List ℕ) (first second : ℕ) → IsRanked before nodes → first < second → second < length nodes
    → before (get_or nodes first 0) (get_or nodes second 0)
ranked_at before [] first second r lt within = absurd (omega arith)
ranked_at before (n ∷ nodes) first zero r lt within = absurd (omega arith)
ranked_at before (n ∷ nodes) zero (suc second) r lt within = r.0 _ (has_at nodes second 0 (omega arith))
ranked_at before (n ∷ nodes) (suc first) (suc second) r lt within = ranked_at before nodes first second r.1 (omega arith) (omega arith)

-- the first of a ranked list are a ranked list
pub has_take : (k n : ℕ) (ns : List ℕ) → Has n (take k ns) → Has n ns
has_take zero n ns has = absurd has
has_take (suc k) n [] has = has
has_take (suc k) n (m ∷ ms) has = elim has [ inl e ↦ inl e | inr later ↦ inr (has_take k n ms later) ]

pub ranked_take : (before : ℕ → ℕ → Type 0) (k : ℕ) (ns : List ℕ) → IsRanked before ns → IsRanked before (take k ns)
ranked_take before zero ns r = tt
ranked_take before (suc k) [] r = tt
ranked_take before (suc k) (m ∷ ms) r = (λ n has. r.0 n (has_take k n ms has), ranked_take before k ms r.1)
