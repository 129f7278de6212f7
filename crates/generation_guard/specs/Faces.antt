-- What readers take, and what is done to it.
use Rattle.std.specs.Prelude.{List, [], ◌∷◌}
use Rattle.view_changes.specs.declared.change.LaneChange.{LaneChange}
use Rattle.view_changes.specs.Views.{View, changed}
use Rattle.generation_guard.specs.Histories.{Beginning}
use Rattle.generation_guard.specs.declared.face.Face.{Face}
use Rattle.generation_guard.specs.declared.face.FaceStep.{FaceStep}
use Rattle.generation_guard.specs.declared.face.FaceStep.TheVariants.{Change, Reach}

-- its view and its front
abbrev pub shown_by : Face → View × Beginning
shown_by f = (f.view, f.front)

abbrev pub stepped : View × Beginning → FaceStep → View × Beginning
stepped s (Change c) = (changed s.0 c, s.1)
stepped s (Reach f) = (s.0, f)

-- the changes among some steps
abbrev pub changes_in : List FaceStep → List LaneChange
changes_in [] = []
changes_in (Change c ∷ ss) = c ∷ changes_in ss
changes_in (Reach f ∷ ss) = changes_in ss
