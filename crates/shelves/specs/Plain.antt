-- What a plain shelf is.
use Rattle.std.specs.Prelude.{◌≡◌, ◌++◌, List, refl}
use Rattle.std.specs.Coded.{Coded, code_by, coded×, coded_list}
use Rattle.view_changes.specs.Views.{View, view_after}
use Rattle.lane_views.specs.ViewCodes.{view_code}
use Rattle.view_changes.specs.declared.change.LaneChange.{LaneChange}
use Rattle.view_changes.specs.contracts.change.LaneChange as change

-- the view that it showed at first, the one that it shows, and the changes that this lacks
pub record Plain : Type 0 where
  pub opening : View
  pub view : View
  pub pending : List LaneChange

abbrev pub plain_code : Coded Plain
plain_code = code_by (View × (View × List LaneChange)) (coded× view_code (coded× view_code (coded_list change.the_row.coded)))
    (λ s. (s.opening, (s.view, s.pending))) (λ p. record { opening = p.0; view = p.1.0; pending = p.1.1 }) (λ _. refl)

-- its view is the opening one after these changes
abbrev pub ShowsPlain : Plain → List LaneChange → Type 0
ShowsPlain s cs = s.view ≡ view_after s.opening cs

-- a view took in the first of the pending changes, perhaps none, and the rest is pending still
pub record ShowsPart (view view' : View) (pending pending' : List LaneChange) : Type 0 where
  pub first : List LaneChange
  pub parted : pending ≡ first ++ pending'
  pub shown : view' ≡ view_after view first
