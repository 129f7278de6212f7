use Rattle.std.proofs.Common.{◌≡◌, ◌+◌, ◌-◌, ◌∙◌, Bool, true, false, length, ap, arith, rules}
use Rattle.lane_journals.specs.KeptJournals.{IsLegal}
use Rattle.lane_keeping.specs.LaneKeeping.{setting_of}
use Rattle.lane_states.specs.declared.lane_state.LaneState.{LaneState}
use Rattle.lane_states.specs.LaneStates.{journal_of}
use Rattle.lane_keeping.specs.Tidings.{started_next}
use Rattle.lane_core.specs.Works.{count_of, room_for}
use Rattle.stamps.specs.Places.{place_of}
use Rattle.lane_lines.proofs.Entries.{finds-still}
use Rattle.lane_lines.proofs.Carrying.{carried-like}
use Rattle.lane_core.proofs.Idling.{lines-started, carried-started, finds-started}
use Rattle.lane_core.proofs.Working.{lines-of, work-grown}
use Rattle.lane_core.proofs.work.Work.start.Goals as goal

pub returns-clause-keeps : goal.returns-clause-keeps
returns-clause-keeps c =
    let x = c.args.self.now in
    let J = journal_of x.state in
    let y : LaneState = c.start.new.self in
    let k = c.requires.keeps in
    let after = c.start.ensures.after in
    let lane : y.lane ≡ x.state.lane = ap (λ (z : LaneState). z.lane) after in
    let rules_are : y.rules ≡ x.state.rules = ap (λ (z : LaneState). z.rules) after in
    let spare : y.spare ≡ x.state.spare - 33 = ap (λ (z : LaneState). z.spare) after in
    let was : x.state.spare ≡ 33 + length x.jobs.items = k.spare_is ∙ ap (λ (b : Bool). room_for b + length x.jobs.items) c.requires.room in
    let legal : IsLegal (setting_of x.state.lane x.state.rules) (started_next c.args.node J) = rw (lane, rules_are, c.start.ensures.grows) at c.start.ensures.keeps.keeps.legal in
    work-grown x (record { state = y; schema = x.schema; drawn = x.drawn; places = x.places; has_room = false; jobs = x.jobs }) (started_next c.args.node J) k lane rules_are c.start.ensures.grows c.start.ensures.keeps
    (search rules) (search rules) (omega (arith, spare, was)) (λ made. let wrong : false ≡ true = made in cc) (λ made. let wrong : false ≡ true = made in cc)
    (rw (ap (λ (z : LaneState). z.newest) after) (lines-started c.args.node J x.state.lane x.state.rules x.state.newest (count_of x.drawn) x.jobs.items legal (lines-of x k)))
    (finds-started c.args.node J (place_of x.places) (finds-still (place_of x.places) x.state.journal.events.items k.finds))

pub returns-clause-carried : goal.returns-clause-carried
returns-clause-carried c =
    let x = c.args.self.now.state in
    let e = c.start.ensures in
    carried-like x c.start.new.self (started_next c.args.node (journal_of x)) (carried-started c.args.node (journal_of x)) e.grows (ap (λ (z : LaneState). z.last) e.after) (ap (λ (z : LaneState). z.late.late) e.after)
