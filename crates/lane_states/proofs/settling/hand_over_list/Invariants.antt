use Rattle.std.proofs.Common.{◌≡◌, ℕ, length}
use Rattle.shelves.specs.Shelves.{TakesFirst}
use Rattle.lane_states.proofs.settling.hand_over_list.Given as goal

abbrev pub invariant-loop-first : goal.invariant-loop-first
invariant-loop-first g l = TakesFirst (g.H.Shelf.shows l.initial.shelf) (g.H.Shelf.shows l.shelf) (g.H.Shelf.pending l.initial.shelf) (g.H.Shelf.pending l.shelf) l.initial.left l.left × (g.H.Shelf.name l.shelf ≡ g.H.Shelf.name l.initial.shelf)

abbrev pub decreases-loop-first : goal.decreases-loop-first
decreases-loop-first g l = length l.left
