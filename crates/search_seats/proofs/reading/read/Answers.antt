use Rattle.std.proofs.Common.{◌++◌, ◌∷◌, [], refl, sym, ◌∙◌, ap, subst}
use Rattle.view_changes.specs.Views.{View}
use Rattle.search_views.specs.Summed.{IsSummed}
use Rattle.search_seats.specs.Searches.{view_by, front_by}
use Rattle.search_seats.proofs.reading.read.Goals as goal

pub returns-in-Ok-added-clause-read : goal.returns-in-Ok-added-clause-read
returns-in-Ok-added-clause-read c = record {
  known = c.leave.result;
  seat_is = refl;
  front_is = c.front-front.ensures ∙ ap front_by (sym c.leave.ensures);
  added = λ q w vs so. subst (λ (v : View). IsSummed q w (vs ++ v ∷ []) c.add-added.new.self) (c.view.ensures ∙ ap view_by (sym c.leave.ensures)) (c.in-Ok-added.ensures.ok q w vs so);
}
