use Rattle.std.proofs.Common.{◌≡◌, All, drop}
use Rattle.left_right.specs.Sides.{view as view_of}
use Rattle.generation_guard.proofs.places.seats.Given as goal

abbrev pub invariant-loop : goal.invariant-loop
invariant-loop l = (view_of l.writer.desk.place ≡ view_of l.initial.writer.desk.place) × (l.writer.desk.shown ≡ l.initial.writer.desk.shown)
    × (drop l.writer.behind l.writer.log.items ≡ drop l.initial.writer.behind l.initial.writer.log.items)
    × All (λ s. (s.shelf ≡ (view_of l.initial.writer.desk.place).shelf) × (s.seen ≡ l.front.changes)) l.seats.items
