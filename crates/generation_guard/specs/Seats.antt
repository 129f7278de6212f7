-- Which shelf a face is of, and who knows it.
use Rattle.std.specs.Prelude.{◌≡◌, ℕ, true, false, List, [], ◌++◌}
use Rattle.std.specs.FinMap as fin
use mathlib.Core.Option.{some}
use lib.ListN.{get_elem?}
use Rattle.view_changes.specs.declared.change.LaneChange.{LaneChange}
use Rattle.view_changes.specs.Views.{view_after}
use Rattle.generation_guard.specs.Histories.{Beginning, head_of}
use Rattle.generation_guard.specs.Faces.{changes_in}
use Rattle.generation_guard.specs.declared.face.Face.{Face}
use Rattle.generation_guard.specs.declared.face.FaceStep.{FaceStep}
use Rattle.generation_guard.specs.declared.face.ShelfId.{ShelfId}
use Rattle.generation_guard.specs.declared.rule.Tag.{Tag}

-- the front is one of this shelf
abbrev pub IsOfShelf : ShelfId → Beginning → Type 0
IsOfShelf i front = front.history ≡ i.history

-- a note of this shelf tells of these changes
abbrev pub Tells : ShelfId → Beginning → List LaneChange → Type 0
Tells i note cs = IsOfShelf i note × (note.changes ≡ cs)

-- these changes as a front of this shelf
abbrev pub front_of : ShelfId → List LaneChange → Beginning
front_of i cs = record { history = i.history; changes = cs }

-- the face is of this shelf: its view is the opening one after the changes of its front
abbrev pub IsOf : ShelfId → Face → Type 0
IsOf i f = IsOfShelf i f.front × (f.view ≡ view_after i.opening f.front.changes)

-- ---- who knows it

abbrev pub knows : ShelfId → Tag
knows i = record { known = true; shelf = i }

-- what is known before any shelf is
abbrev pub nothing : Tag
nothing = record {
  known = false;
  shelf = record {
    opening = record { types = fin.empty; nodes = []; generation = 0 };
    history = head_of (record { number = 0; log_name = 0; cells_name = 0 });
  };
}

abbrev pub IsKnown : Tag → Type 0
IsKnown t = t ≡ knows t.shelf

-- all who know a shelf know this one
abbrev pub AllKnow : ShelfId → List Tag → Type 0
AllKnow i tags = (place : ℕ) (t : Tag) → get_elem? tags place ≡ some t → t.known ≡ true → t.shelf ≡ i

-- there is one shelf that the face is of, and all who know one know it
abbrev pub Agrees : Face → List Tag → Type 0
Agrees f tags = (i : ShelfId) × IsOf i f × AllKnow i tags

-- ---- what a step tells

-- who knows a shelf takes a face of it
abbrev pub TakesFace : Tag → Face → Face → Tag → Type 0
TakesFace t f g u = (u ≡ t) × (g ≡ f) × (t.known ≡ true → IsOf t.shelf f)

abbrev pub NamesShelf : Tag → Face → Face → Tag → Type 0
NamesShelf t f g u = IsKnown u × IsOf u.shelf g

abbrev pub KeepsTag : Tag → Face → Face → Tag → Type 0
KeepsTag t f g u = u ≡ t

-- ---- what the writer knows

-- it knows the shelf that the face is of
pub record IsNamed (t : Tag) (f : Face) : Type 0 where
  pub known : IsKnown t
  pub is_of : IsOf t.shelf f

-- the front is of this shelf, and has what the face shows and then the changes among the steps
pub record IsAhead (i : ShelfId) (f : Face) (steps : List FaceStep) (front : Beginning) : Type 0 where
  pub of_shelf : IsOfShelf i front
  pub changes : front.changes ≡ f.front.changes ++ changes_in steps
