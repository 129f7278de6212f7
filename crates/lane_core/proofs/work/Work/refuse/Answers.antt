use Rattle.std.proofs.Common.{rules, ◌≡◌, ◌∷◌, ◌∙◌, refl, sym, ap}
use Rattle.messages.specs.declared.outcome.Outcome.TheVariants.{OwnedElsewhere}
use Rattle.lane_journals.specs.KeptJournals.{IsLegal}
use Rattle.lane_journals.specs.declared.event.LaneEvent.TheVariants.{Refused}
use Rattle.lane_keeping.specs.LaneKeeping.{setting_of}
use Rattle.lane_states.specs.declared.lane_state.LaneState.{LaneState}
use Rattle.lane_states.specs.LaneStates.{journal_of}
use Rattle.operation_keeping.specs.Others.{Same, More}
use Rattle.lane_lines.proofs.Carrying.{carried-more}
use Rattle.stamps.specs.Places.{place_of}
use Rattle.lane_lines.proofs.Entries.{finds-noted}
use Rattle.lane_core.proofs.JobLists.{jobs-still}
use Rattle.lane_core.proofs.Working.{off-fresh, work-grown}
use Rattle.lane_core.proofs.work.Work.refuse.Goals as goal

pub returns-clause-keeps : goal.returns-clause-keeps
returns-clause-keeps c =
    let x = c.args.self.now in
    let J = journal_of x.state in
    let y : LaneState = c.note.new.self in
    let k = c.requires.keeps in
    let e = Refused c.args.line c.args.via (OwnedElsewhere c.args.owner c.version-version.result) in
    let after = c.note.ensures.after in
    let lane : y.lane ≡ x.state.lane = ap (λ (z : LaneState). z.lane) after in
    let rules_are : y.rules ≡ x.state.rules = ap (λ (z : LaneState). z.rules) after in
    let newest : y.newest ≡ x.state.newest = ap (λ (z : LaneState). z.newest) after in
    let spare : y.spare ≡ x.state.spare = ap (λ (z : LaneState). z.spare) after in
    let grows : journal_of y ≡ e ∷ J = c.note.ensures.grows ∙ rw c.reserve.ensures.items refl in
    let legal : IsLegal (setting_of x.state.lane x.state.rules) (e ∷ J) = rw (lane, rules_are, grows) at c.note.ensures.keeps.keeps.legal in
    work-grown x (record { state = y; schema = x.schema; drawn = x.drawn; places = x.places; has_room = x.has_room; jobs = x.jobs }) (e ∷ J) k lane rules_are grows c.note.ensures.keeps
    (search rules) (search rules) (spare ∙ k.spare_is) (search rules) (λ made. ap (λ (z : LaneState). z.turn_room) after ∙ k.placed made)
    (rw newest (record {
      newest_is = k.newest_is;
      counts_are = k.counts_are;
      no_round = k.no_round;
      jobs_are = jobs-still x.state.lane x.state.rules J (e ∷ J) x.jobs.items k.jobs_are (k.kept.keeps).legal legal
          (λ b m got. More e J Same (λ same. off-fresh x.state.lane x.state.rules J x.jobs.items k.jobs_are c.args.line c.requires.fresh b m got (sym same)))
          (λ l. refl) (λ l. refl);
    }))
    (finds-noted (place_of x.places) x.state.journal.events.items e refl k.finds)

pub returns-clause-carried : goal.returns-clause-carried
returns-clause-carried c = carried-more c.args.self.now.state c.note.new.self (Refused c.args.line c.args.via (OwnedElsewhere c.args.owner c.version-version.result)) tt (c.note.ensures.grows ∙ rw c.reserve.ensures.items refl) (ap (λ (z : LaneState). z.last) c.note.ensures.after) (ap (λ (z : LaneState). z.late.late) c.note.ensures.after)
