use Rattle.std.proofs.Common.{◌≡◌, ◌≤◌, ℕ}
use Rattle.std.specs.VecDeque.{deque_len, deque_capacity}
use Rattle.shelves.specs.Shelves.{TakesFirst}
use Rattle.lane_states.specs.Told.{all_kept}
use Rattle.lane_states.proofs.settling.hand_over_lists.Given as goal

abbrev pub invariant-loop-changes : goal.invariant-loop-changes
invariant-loop-changes g l = record {
  taken : TakesFirst (g.H.Shelf.shows l.initial.shelf) (g.H.Shelf.shows l.shelf) (g.H.Shelf.pending l.initial.shelf) (g.H.Shelf.pending l.shelf) (all_kept l.initial.kept.items) (all_kept l.kept.items);
  name : g.H.Shelf.name l.shelf ≡ g.H.Shelf.name l.initial.shelf;
  lists : deque_len l.kept ≤ deque_len l.initial.kept;
  places : deque_capacity l.kept ≡ deque_capacity l.initial.kept;
}

abbrev pub decreases-loop-changes : goal.decreases-loop-changes
decreases-loop-changes g l = deque_len l.kept
