-- How the machine goes over places, one behind the other; and that there is what it reads.
use Rattle.std.proofs.Common.{◌≡◌, ◌<◌, ◌≤◌, ◌+◌, ◌-◌, ℕ, zero, suc, Option, Some, None, refl, sym, subst, arith}
use Rattle.std.specs.Prelude.{IsSome}
use mathlib.Core.Bool.{true≢false}
use Rattle.std.specs.BTreeMap.{BTreeMap}
use Rattle.cluster_states.specs.declared.cluster_state.ClusterState.{ClusterState}
use Rattle.distributor_part.specs.Parts.{Part, rows_of}
use Rattle.ideal_nodes.proofs.Listing.{ideal_there}
use Rattle.pass_machine.specs.declared.doing.Doing.{Doing}
use Rattle.pass_machine.specs.declared.doing.Turn.TheVariants.{Over}
use Rattle.pass_machine.specs.declared.notes.RowNote.{RowNote}
use Rattle.pass_machine.specs.Turns.{View, Sees, turn_at}
use Rattle.pass_machine.specs.Going.{GoesOver, Stays, Goes}

module _ (v : View) (made : BTreeMap ℕ (Unit {0})) (notes : BTreeMap ℕ RowNote) where
  pub goes_more : (d e f : Doing) → GoesOver v made notes d e → turn_at v made notes e ≡ Over f → GoesOver v made notes d f
  goes_more d e f (Stays _) h = Goes d f f h (Stays f)
  goes_more d e f (Goes _ c _ x rest) h = Goes d c f x (goes_more c e f rest h)

  pub goes_on : (d e f : Doing) → GoesOver v made notes d e → GoesOver v made notes e f → GoesOver v made notes d f
  goes_on d e f (Stays _) g = g
  goes_on d e f (Goes _ c _ x rest) g = Goes d c f x (goes_on c e f rest g)

  -- past numbers at each of which nothing is said
  goes_past : (f : ℕ → Doing) (many from to : ℕ) → from + many ≡ to → ((n : ℕ) → from ≤ n → n < to → turn_at v made notes (f n) ≡ Over (f (n + 1))) → GoesOver v made notes (f from) (f to)
  goes_past f zero from to e h = let same : from ≡ to = omega (arith, e) in subst (λ (n : ℕ). GoesOver v made notes (f from) (f n)) same (Stays (f from))
  goes_past f (suc many) from to e h =
      Goes (f from) (f (from + 1)) (f to) (h from (omega arith) (omega (arith, e))) (goes_past f many (from + 1) to (omega (arith, e)) (λ n a b. h n (omega (arith, a)) b))

  pub goes_to : (f : ℕ → Doing) (from to : ℕ) → from ≤ to → ((n : ℕ) → from ≤ n → n < to → turn_at v made notes (f n) ≡ Over (f (n + 1))) → GoesOver v made notes (f from) (f to)
  goes_to f from to le h = goes_past f (to - from) from to (omega (arith, le)) h

-- a part that heard a state has a view
pub view_of : (p : Part) → IsSome p.state → (v : View) × Sees p v
view_of p some = by_state p.state refl some
  where
    by_state : (x : Option ClusterState) → p.state ≡ x → IsSome x → (v : View) × Sees p v
    by_state None e h = absurd (true≢false (sym h))
    by_state (Some s) e h = (record { state = s; rules = p.rules; lane = p.lane; rows = rows_of p.rows; ideal = λ b. (ideal_there b s).nodes }, record { heard = e; rules = refl; lane = refl; rows = refl; ideal = λ b. (ideal_there b s).is_ideal })
