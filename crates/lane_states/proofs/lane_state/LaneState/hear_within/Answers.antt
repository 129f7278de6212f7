use Rattle.std.proofs.Common.{◌∙◌, Some, sym}
use Rattle.lane_journals.specs.Readers.{published}
use Rattle.lane_journals.specs.Meanings.{history}
use Rattle.lane_journals.specs.Places.{state_in}
use Rattle.lane_keeping.specs.LaneKeeping.{setting_of, IsNewest}
use Rattle.lane_states.specs.LaneStates.{journal_of}
use Rattle.lane_states.proofs.Hearings.{acts-still}
use Rattle.lane_states.proofs.lane_state.LaneState.hear_within.Goals as goal

pub returns-else-holds_older-clause-acting : goal.returns-else-holds_older-clause-acting
returns-else-holds_older-clause-acting c =
    let x = c.args.self.now in
    let J = journal_of x in
    let keep = c.requires.keeps.keeps in
    let newest : IsNewest (λ v. state_in v J) (λ v. published v (history J)) (Some c.args.state.now) = rw c.requires.newest at keep.newest_is in
    acts-still (setting_of x.lane x.rules) J c.args.distributor c.args.state.now (c.kept_journals_mean_legal_ones.ensures _ J keep.legal) newest (rw c.version.ensures.value at (sym c.holds_older.ensures ∙ c.if-holds_older.false))
