use Rattle.std.proofs.Common.{rules, ◌≡◌, ◌+◌, ◌-◌, ◌∷◌, ◌∙◌, Bool, true, false, Some, length, refl, ap, arith}
use Rattle.lane_journals.specs.KeptJournals.{IsLegal}
use Rattle.lane_journals.specs.declared.event.LaneEvent.TheVariants.{Published}
use Rattle.lane_keeping.specs.LaneKeeping.{setting_of}
use Rattle.lane_states.specs.declared.lane_state.LaneState.{LaneState}
use Rattle.lane_states.specs.LaneStates.{journal_of}
use Rattle.lane_core.specs.Works.{room_for}
use Rattle.lane_lines.proofs.Carrying.{carried-more}
use Rattle.stamps.specs.Places.{place_of}
use Rattle.lane_lines.proofs.Entries.{finds-noted}
use Rattle.lane_core.proofs.Idling.{jobs-quiet}
use Rattle.lane_core.proofs.Working.{work-grown}
use Rattle.lane_core.proofs.work.Work.publish.Goals as goal

pub returns-clause-keeps : goal.returns-clause-keeps
returns-clause-keeps c =
    let x = c.args.self.now in
    let J = journal_of x.state in
    let s = c.args.state.now in
    let y : LaneState = c.publish.new.self in
    let k = c.requires.keeps in
    let after = c.publish.ensures.after in
    let lane : y.lane ≡ x.state.lane = ap (λ (z : LaneState). z.lane) after in
    let rules_are : y.rules ≡ x.state.rules = ap (λ (z : LaneState). z.rules) after in
    let newest : y.newest ≡ Some s = ap (λ (z : LaneState). z.newest) after in
    let spare : y.spare ≡ x.state.spare - 33 = ap (λ (z : LaneState). z.spare) after in
    let was : x.state.spare ≡ 33 + length x.jobs.items = k.spare_is ∙ ap (λ (b : Bool). room_for b + length x.jobs.items) c.requires.room in
    let legal : IsLegal (setting_of x.state.lane x.state.rules) (Published s ∷ J) = rw (lane, rules_are, c.publish.ensures.grows) at c.publish.ensures.keeps.keeps.legal in
    work-grown x (record { state = y; schema = x.schema; drawn = x.drawn; places = x.places; has_room = false; jobs = x.jobs }) (Published s ∷ J) k lane rules_are c.publish.ensures.grows c.publish.ensures.keeps
    (search rules) (search rules) (omega (arith, spare, was)) (λ made. let wrong : false ≡ true = made in cc) (λ made. let wrong : false ≡ true = made in cc)
    (rw newest (record { newest_is = refl; counts_are = k.counts_are; no_round = k.no_round; jobs_are = jobs-quiet x.state.lane x.state.rules J x.jobs.items (Published s) legal (λ line id. tt) (λ i. refl) (λ i. refl) k.jobs_are }))
    (finds-noted (place_of x.places) x.state.journal.events.items (Published s) refl k.finds)

pub returns-clause-carried : goal.returns-clause-carried
returns-clause-carried c = carried-more c.args.self.now.state c.publish.new.self _ tt c.publish.ensures.grows (ap (λ (z : LaneState). z.last) c.publish.ensures.after) (ap (λ (z : LaneState). z.late.late) c.publish.ensures.after)
