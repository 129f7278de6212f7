use Rattle.std.proofs.Common.{◌≡◌, ◌+◌, ◌++◌, min, true, false, List, [], ◌∷◌, length, refl, ap, ◌∙◌}
use Rattle.view_changes.specs.declared.change.LaneChange.TheVariants as change
use Rattle.lane_journals.specs.declared.event.LaneEvent.TheVariants as event
use Rattle.lane_keeping.specs.LaneKeeping.{setting_of}
use Rattle.lane_states.specs.LaneStates.{journal_of, tells_of}
use Rattle.lane_states.specs.Told.{all_kept}
use Rattle.view_changes.specs.declared.change.LaneChange.{LaneChange}
use Rattle.lane_states.proofs.Kept.{kept_stop}
use Rattle.lane_states.proofs.Counts.{told-more}
use Rattle.lane_states.proofs.Stops.{start-step, stops-without}
use Rattle.lane_states.proofs.lane_state.LaneState.note_start.Goals as goal

pub returns-clause-keeps : goal.returns-clause-keeps
returns-clause-keeps c =
    let x = c.args.self.now in
    let n = c.args.node in
    let told : c.behind-change.result ≡ change.Start n ∷ [] = c.behind-change.ensures ∙ ap (λ (cs : List LaneChange). change.Start n ∷ cs) c.none.ensures in
    rw c.push_telling.ensures.past
    (kept_stop c.requires.keeps (c.events_are_kept.ensures.quiet _ _ _ _ _ _ _ c.requires.keeps.keeps (event.Started n) tt (start-step (setting_of x.lane x.rules) (journal_of x) n c.requires.stopped))
    (stops-without (journal_of x) x.stopped c.without-self.result n c.without-self.ensures c.requires.keeps.stops_are)
    (told-more (journal_of x) (event.Started n) (change.Start n ∷ []) (tells_of x) _ c.requires.keeps.told_is refl refl (c.push_telling.ensures.told ∙ ap (λ (cs : List LaneChange). min (x.journal.told + length cs) 18446744073709551615) told)
    (c.push_telling.ensures.kept ∙ ap (λ (cs : List LaneChange). all_kept x.journal.kept.items ++ cs) told) (λ room. let wrong : false ≡ true = room in cc)))
