use Rattle.std.proofs.Common.{◌≡◌, ◌∙◌, List, Some, ap, sym, rules}
use Rattle.lane_journals.specs.Meanings.{history}
use Rattle.lane_journals.specs.Readers.{published}
use Rattle.lane_journals.specs.Places.{Setting, state_in}
use Rattle.lane_journals.specs.KeptJournals.{past, IsLegal}
use Rattle.lane_journals.specs.declared.event.LaneEvent.{LaneEvent}
use Rattle.lane_journals.proofs.Meant.{meant-legal}
use Rattle.lane_keeping.specs.LaneKeeping.{IsNewest, setting_of}
use Rattle.lane_keeping.specs.Tidings.{heard_next}
use Rattle.lane_states.specs.declared.lane_state.LaneState.{LaneState}
use Rattle.lane_states.specs.LaneStates.{journal_of}
use Rattle.lane_states.proofs.Hearings.{acts-still}
use Rattle.stamps.specs.Places.{place_of}
use Rattle.lane_lines.proofs.Entries.{past-past, finds-heard}
use Rattle.lane_lines.proofs.Carrying.{carried-heard}
use Rattle.lane_core.specs.Works.{count_of}
use Rattle.lane_core.proofs.Idling.{idle-free, lines-heard}
use Rattle.lane_core.proofs.Working.{lines-of, work-grown}
use Rattle.lane_core.proofs.work.Work.hear_within.Goals as goal

pub hear_within-requires-clause-idle : goal.hear_within-requires-clause-idle
hear_within-requires-clause-idle c =
    let x = c.args.self.now in
    idle-free x.state.lane x.state.rules (journal_of x.state) x.jobs.items c.args.distributor c.requires.keeps.jobs_are (c.requires.free (sym c.is_behind.ensures ∙ c.if-is_behind.true))

pub returns-then-is_behind-clause-keeps : goal.returns-then-is_behind-clause-keeps
returns-then-is_behind-clause-keeps c =
    let x = c.args.self.now in
    let J : List LaneEvent = journal_of x.state in
    let d = c.args.distributor in
    let s = c.args.state.now in
    let y : LaneState = c.hear_within.new.self in
    let e = c.hear_within.ensures in
    let k = c.requires.keeps in
    let after = e.after in
    let spare : y.spare ≡ x.state.spare = ap (λ (z : LaneState). z.spare) after in
    let K : List LaneEvent = heard_next d (Some s) J in
    let S : Setting = setting_of x.state.lane x.state.rules in
    let legal : IsLegal S K = rw (c.hear_within.ensures.grows, ap (λ (z : LaneState). z.lane) after, ap (λ (z : LaneState). z.rules) after) at c.hear_within.ensures.keeps.keeps.legal in
    work-grown x (record { state = y; schema = x.schema; drawn = x.drawn; places = x.places; has_room = x.has_room; jobs = x.jobs }) K c.requires.keeps (ap (λ (z : LaneState). z.lane) after) (ap (λ (z : LaneState). z.rules) after) c.hear_within.ensures.grows c.hear_within.ensures.keeps
    (e.resting k.resting) (search rules) (spare ∙ k.spare_is) (λ made. rw e.parts (k.parted made)) (λ made. ap (λ (z : LaneState). z.turn_room) after ∙ k.placed made)
    (rw (ap (λ (z : LaneState). z.newest) after) (lines-heard x.state.lane x.state.rules J x.state.newest (count_of x.drawn) x.jobs.items d s legal (lines-of x c.requires.keeps)))
    (finds-heard (place_of x.places) x.state.journal.events.items (past K) d (Some s) (past-past K) c.requires.keeps.finds)

pub returns-then-is_behind-clause-carried : goal.returns-then-is_behind-clause-carried
returns-then-is_behind-clause-carried c =
    let after = c.hear_within.ensures.after in
    carried-heard c.args.self.now.state c.hear_within.new.self c.args.distributor (Some c.args.state.now) c.hear_within.ensures.grows (ap (λ (z : LaneState). z.last) after) (ap (λ (z : LaneState). z.late.late) after)

pub returns-else-is_behind-clause-acting : goal.returns-else-is_behind-clause-acting
returns-else-is_behind-clause-acting c = λ own.
    let x = c.args.self.now.state in
    let J : List LaneEvent = journal_of x in
    let S : Setting = setting_of x.lane x.rules in
    let newest : IsNewest (λ v. state_in v J) (λ v. published v (history J)) (Some c.args.state.now) = rw c.requires.newest at c.requires.keeps.kept.keeps.newest_is in
    acts-still S J c.args.distributor c.args.state.now (meant-legal S J c.requires.keeps.kept.keeps.legal) newest (sym c.is_behind.ensures ∙ c.if-is_behind.false) own
