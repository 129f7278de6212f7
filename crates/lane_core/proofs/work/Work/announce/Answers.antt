use Rattle.std.proofs.Common.{◌≡◌, ◌+◌, ◌-◌, ◌∷◌, [], ◌∙◌, Bool, true, false, List, Some, length, refl, sym, ap, subst, arith, rules}
use Rattle.lane_journals.specs.Meanings.{history}
use Rattle.lane_journals.specs.KeptJournals.{IsLegal}
use Rattle.lane_journals.specs.declared.event.LaneEvent.TheVariants.{Published}
use Rattle.lane_keeping.specs.LaneKeeping.{setting_of}
use Rattle.lane_journals.specs.Facts.{AllClosed}
use Rattle.lane_states.specs.declared.lane_state.LaneState.{LaneState}
use Rattle.lane_states.specs.LaneStates.{journal_of}
use Rattle.lane_keeping.specs.Tidings.{announced}
use Rattle.lane_core.specs.Works.{count_of, room_for, AreJobs}
use Rattle.stamps.specs.Places.{place_of}
use Rattle.lane_lines.proofs.Entries.{finds-still}
use Rattle.lane_lines.proofs.Carrying.{carried-like}
use Rattle.lane_core.proofs.Idling.{all-older, idle-all, lines-announced, carried-announced, finds-announced}
use Rattle.lane_core.proofs.Working.{lines-of, KeepsLines, work-grown}
use Rattle.lane_core.proofs.JobLists.{all-closed-of}
use Rattle.lane_core.specs.declared.work.Job.{Job}
use Rattle.lane_core.proofs.work.Work.announce.Goals as goal

pub hear_all-requires-clause-idle : goal.hear_all-requires-clause-idle
hear_all-requires-clause-idle c =
    let x = c.args.self.now in
    let none : AreJobs x.state.lane x.state.rules (journal_of x.state) [] = rw c.requires.idle at c.requires.keeps.jobs_are in
    let closed : AllClosed (history (journal_of x.state)) = all-closed-of x.state.lane x.state.rules (journal_of x.state) none in
    λ d. rw c.publish.ensures.grows (idle-all (Published c.args.state.now ∷ journal_of x.state) d closed)

pub hear_all-requires-clause-older : goal.hear_all-requires-clause-older
hear_all-requires-clause-older c =
    let x = c.args.self.now.state in
    let J = journal_of x in
    let s = c.args.state.now in
    let S = setting_of x.lane x.rules in
    let after = c.publish.ensures.after in
    let legal : IsLegal S (Published s ∷ J) = rw (ap (λ (z : LaneState). z.lane) after, ap (λ (z : LaneState). z.rules) after, c.publish.ensures.grows) at c.publish.ensures.keeps.keeps.legal in
    λ d. rw c.publish.ensures.grows (all-older S J s (c.kept_journals_mean_legal_ones.ensures S J legal.0) legal.1 d)

pub returns-clause-keeps : goal.returns-clause-keeps
returns-clause-keeps c =
    let x = c.args.self.now in
    let J = journal_of x.state in
    let s = c.args.state.now in
    let y : LaneState = c.hear_all.new.self in
    let lines : KeepsLines x.state.lane x.state.rules J x.state.newest (count_of x.drawn) [] = rw c.requires.idle at (lines-of x c.requires.keeps) in
    let grows : journal_of y ≡ announced c.args.deaf s J = c.hear_all.ensures.grows ∙ rw c.publish.ensures.grows refl in
    let newest : y.newest ≡ Some s = ap (λ (z : LaneState). z.newest) c.hear_all.ensures.after ∙ ap (λ (z : LaneState). z.newest) c.publish.ensures.after in
    let spare : y.spare ≡ x.state.spare - 33 = ap (λ (z : LaneState). z.spare) c.hear_all.ensures.after ∙ ap (λ (z : LaneState). z.spare) c.publish.ensures.after in
    let was : x.state.spare ≡ 33 + length x.jobs.items = c.requires.keeps.spare_is ∙ ap (λ (b : Bool). room_for b + length x.jobs.items) c.requires.room in
    work-grown x (record { state = y; schema = x.schema; drawn = x.drawn; places = x.places; has_room = false; jobs = x.jobs }) (announced c.args.deaf s J) c.requires.keeps
    (ap (λ (z : LaneState). z.lane) c.hear_all.ensures.after ∙ ap (λ (z : LaneState). z.lane) c.publish.ensures.after)
    (ap (λ (z : LaneState). z.rules) c.hear_all.ensures.after ∙ ap (λ (z : LaneState). z.rules) c.publish.ensures.after)
    grows c.hear_all.ensures.keeps (search rules) (search rules) (omega (arith, spare, was)) (λ made. let wrong : false ≡ true = made in cc) (λ made. let wrong : false ≡ true = made in cc)
    (subst (λ (js : List Job). KeepsLines x.state.lane x.state.rules (announced c.args.deaf s J) y.newest (count_of x.drawn) js) (sym c.requires.idle)
    (rw newest (lines-announced c.args.deaf s J x.state.lane x.state.rules x.state.newest (count_of x.drawn) lines)))
    (finds-announced c.args.deaf s J (place_of x.places) (finds-still (place_of x.places) x.state.journal.events.items c.requires.keeps.finds))

pub returns-clause-carried : goal.returns-clause-carried
returns-clause-carried c =
    let x = c.args.self.now.state in
    let s = c.args.state.now in
    let e = c.hear_all.ensures in
    carried-like x c.hear_all.new.self (announced c.args.deaf s (journal_of x)) (carried-announced c.args.deaf s (journal_of x)) (e.grows ∙ rw c.publish.ensures.grows refl)
    (ap (λ (z : LaneState). z.last) e.after ∙ ap (λ (z : LaneState). z.last) c.publish.ensures.after) (ap (λ (z : LaneState). z.late.late) e.after ∙ ap (λ (z : LaneState). z.late.late) c.publish.ensures.after)
