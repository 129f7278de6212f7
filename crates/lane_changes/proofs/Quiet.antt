-- Events that give no change.
use Rattle.std.proofs.Common.{◌≡◌, ◌++◌, List, [], ◌∷◌, refl, ap, ◌∙◌}
use Rattle.std.proofs.lemmas.List.{append-nil}
use Rattle.lane_journals.specs.declared.event.LaneEvent.{LaneEvent}
use Rattle.lane_journals.specs.declared.event.LaneEvent.TheVariants.{Delivered, Stopped, Started}
use Rattle.lane_changes.specs.Changes.{changes_by, changes_of, TellsNothing}

none-by : (J : List LaneEvent) (e : LaneEvent) → TellsNothing e → changes_by J e ≡ []
none-by J (Delivered k r) h = absurd h
none-by J (Stopped n) h = absurd h
none-by J (Started n) h = absurd h
none-by J _ h = refl

pub changes-quiet : (J : List LaneEvent) (e : LaneEvent) → TellsNothing e → changes_of (e ∷ J) ≡ changes_of J
changes-quiet J e h = ap (λ cs. changes_of J ++ cs) (none-by J e h) ∙ append-nil (changes_of J)
