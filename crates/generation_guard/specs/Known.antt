-- What contracts see of seats, guards and shelves.
use Rattle.std.specs.Prelude.{◌≡◌, List, [], refl}
use Rattle.std.specs.Coded.{Coded, code_by, coded×, coded_list}
use mathlib.Core.List.{IsPrefix}
use Rattle.view_changes.specs.declared.change.LaneChange.{LaneChange}
use Rattle.view_changes.specs.contracts.change.LaneChange as change
use Rattle.generation_guard.specs.declared.face.ShelfId.{ShelfId}
use Rattle.generation_guard.specs.contracts.face.ShelfId as shelf_id

-- which shelf a seat is of, and the changes that it has seen or learnt; or a guard, and those that it sees
pub record Known : Type 0 where
  pub shelf : ShelfId
  pub seen : List LaneChange

abbrev pub known_code : Coded Known
known_code = code_by (ShelfId × List LaneChange) (coded× shelf_id.the_row.coded (coded_list change.the_row.coded))
    (λ k. (k.shelf, k.seen)) (λ p. record { shelf = p.0; seen = p.1 }) (λ _. refl)

-- it is of the same shelf, and has seen no less
pub record SeesNoLess (old new : Known) : Type 0 where
  pub shelf : new.shelf ≡ old.shelf
  pub seen : IsPrefix old.seen new.seen

-- which shelf it is, the changes that it shows, and those that it took and doesn't show
pub record Shared : Type 0 where
  pub shelf : ShelfId
  pub shown : List LaneChange
  pub pending : List LaneChange

abbrev pub shared_code : Coded Shared
shared_code = code_by (ShelfId × (List LaneChange × List LaneChange)) (coded× shelf_id.the_row.coded (coded× (coded_list change.the_row.coded) (coded_list change.the_row.coded)))
    (λ s. (s.shelf, (s.shown, s.pending))) (λ p. record { shelf = p.0; shown = p.1.0; pending = p.1.1 }) (λ _. refl)

-- a seat of this shelf that has seen no change
abbrev pub IsFresh : ShelfId → Known → Type 0
IsFresh i k = (k.shelf ≡ i) × (k.seen ≡ [])
