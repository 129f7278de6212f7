use Rattle.std.proofs.Common.{◌≡◌}
use Rattle.std.specs.VecDeque.{deque_len}
use Rattle.shelves.specs.Shelves.{TakesFirst}
use Rattle.shelves.proofs.settling.hand_over.Given as goal

abbrev pub invariant-loop-change : goal.invariant-loop-change
invariant-loop-change g l = TakesFirst (g.H.Shelf.shows l.initial.shelf) (g.H.Shelf.shows l.shelf) (g.H.Shelf.pending l.initial.shelf) (g.H.Shelf.pending l.shelf) l.initial.kept.items l.kept.items × (g.H.Shelf.name l.shelf ≡ g.H.Shelf.name l.initial.shelf)

abbrev pub decreases-loop-change : goal.decreases-loop-change
decreases-loop-change g l = deque_len l.kept
