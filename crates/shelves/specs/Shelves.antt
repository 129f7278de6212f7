-- What becomes of the changes of a shelf: they are pending first, and then shown.
use Rattle.std.specs.Prelude.{◌≡◌, ◌↔◌, ◌++◌, List}
use Rattle.view_changes.specs.declared.change.LaneChange.{LaneChange}

-- what was appended is what is shown, and then what is pending
abbrev pub Holds : (List LaneChange → Type 0) → List LaneChange → List LaneChange → Type 0
Holds shows pending all = (cs : List LaneChange) × (shows cs × (cs ++ pending ≡ all))

-- the same changes are shown
abbrev pub ShowsSame : (List LaneChange → Type 0) → (List LaneChange → Type 0) → Type 0
ShowsSame shows shows' = (cs : List LaneChange) → (shows cs) ↔ (shows' cs)

-- the first of the pending changes, perhaps none, are shown after those that were, and the rest is pending still
pub record ShowsFirst (shows shows' : List LaneChange → Type 0) (pending pending' : List LaneChange) : Type 0 where
  pub first : List LaneChange
  pub parted : pending ≡ first ++ pending'
  pub shown : (cs : List LaneChange) → shows cs → shows' (cs ++ first)

-- a shelf took the first of the kept changes, perhaps none, behind those that were pending; the rest is kept still
pub record TakesFirst (shows shows' : List LaneChange → Type 0) (pending pending' kept kept' : List LaneChange) : Type 0 where
  pub gone : List LaneChange
  pub parted : kept ≡ gone ++ kept'
  pub shown : ShowsFirst shows shows' (pending ++ gone) pending'
