-- What a lane keeps of the changes of its view.
use Rattle.std.specs.Prelude.{◌≡◌, ◌≤◌, ◌+◌, ◌-◌, ℕ, min, Bool, true, List, [], ◌∷◌, ◌++◌, length, take}
use Rattle.view_changes.specs.declared.change.LaneChange.{LaneChange}
use Rattle.lane_journals.specs.declared.event.LaneEvent.{LaneEvent}
use Rattle.lane_changes.specs.Changes.{changes_of}

-- how many changes of its view the events give; at 2^64 - 1 so many or more
abbrev pub change_count : List LaneEvent → ℕ
change_count J = min (length (changes_of J)) 18446744073709551615

-- all changes of some lists
abbrev pub all_kept : List (List LaneChange) → List LaneChange
all_kept [] = []
all_kept (cs ∷ css) = cs ++ all_kept css

-- those of a journal's changes that no list has any more
abbrev pub handed_in : List LaneEvent → List (List LaneChange) → List LaneChange
handed_in J kept = take (length (changes_of J) - length (all_kept kept)) (changes_of J)

-- what was shown still is, and perhaps more behind it
abbrev pub ShowsOn : (List LaneChange → Type 0) → (List LaneChange → Type 0) → Type 0
ShowsOn shows shows' = (cs : List LaneChange) → shows cs → (more : List LaneChange) × shows' (cs ++ more)

-- how many changes there were, those that no shelf took, in how many lists, for how many there is a place, and whether
-- one is kept free for a stop or a start
pub record Log : Type 0 where
  pub told : ℕ
  pub kept : List (List LaneChange)
  pub lists : ℕ
  pub places : ℕ
  pub turn_room : Bool

-- these, and those that were handed over to a shelf
pub record Tells : Type 0 where
  pub log : Log
  pub handed : List LaneChange

-- the changes that a journal gives are counted; those that were handed over, and then those that are kept, are just these
-- changes; and the place that is kept free is there
pub record IsTold (J : List LaneEvent) (t : Tells) : Type 0 where
  pub count : (t.log).told ≡ change_count J
  pub whole : t.handed ++ all_kept (t.log).kept ≡ changes_of J
  pub place : (t.log).turn_room ≡ true → (t.log).lists + 1 ≤ (t.log).places
