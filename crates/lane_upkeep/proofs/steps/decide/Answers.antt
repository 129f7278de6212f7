use Rattle.std.proofs.Common.{◌≡◌, ◌<◌, ◌≤◌, ℕ, length, sym, subst}
use Rattle.lane_states.specs.LaneStates.{journal_of, part_of}
use Rattle.pass_machine.specs.declared.doing.Doing.{Doing}
use Rattle.pass_machine.specs.Going.{IsDecided, AreLeft, rows_made, left}
use Rattle.lane_upkeep.specs.Passing.{rows_in}
use Rattle.lane_upkeep.specs.UnderWay.{KnowsDoing}
use Rattle.lane_upkeep.proofs.Changed.{are_left, decided_still, decided_known, forgotten_notes}
use Rattle.lane_upkeep.proofs.Going.{notes_stay}
use Rattle.lane_upkeep.proofs.NextSteps.{decision_of_row}
use Rattle.lane_upkeep.proofs.Permitted.{rows_of_part}
use Rattle.lane_upkeep.specs.Quiet.{NodesBecome, StandsOn}
use Rattle.lane_upkeep.proofs.QuietSteps.{does_decided, does_map_in, settings_go_on}
use Rattle.lane_upkeep.proofs.Standings.{stands_decided}
use Rattle.lane_upkeep.proofs.steps.decide.Goals as goal

pub decided-requires : goal.decided-requires
decided-requires c =
    let x = c.args.lane.now in
    let e = c.decide_row.new.lane in
    let o = c.args.owner.now in
    let step = decision_of_row x o c.args.pass.now c.requires.under_way c.args.at c.args.decision c.requires.next in
    let did = c.in_ok-decide_row.ensures.did in
    record {
      decided = subst (λ (n : ℕ). IsDecided n c.args.pass.now.doing c.args.decision) (sym c.row_count-many.ensures)
          (decided_still (part_of x o.distributor) (part_of e o.distributor) c.args.at c.args.decision did.does (rows_of_part x o c.requires.passing c.rows_are_whole.ensures.whole) step.0 c.args.pass.now.doing
          c.requires.decided step.1);
    }

pub returns-clause-under_way : goal.returns-clause-under_way
returns-clause-under_way c =
    let x = c.args.lane.now in
    let e = c.decide_row.new.lane in
    let o = c.args.owner.now in
    let p = c.args.pass.now in
    let q = c.decided.new.self in
    record {
      notes = forgotten_notes (journal_of e) o.state (rows_made p.doing c.args.decision) p.notes.by_number q.notes.by_number c.decided.ensures.forgets
          (notes_stay x e o p.notes.by_number c.decide_row.ensures.known c.requires.under_way.notes);
      doing = subst (λ (d : Doing). KnowsDoing e o d) (sym c.decided.ensures.behind)
          (decided_known x e o (length (rows_in x o)) c.args.at c.args.decision p.doing c.requires.decided c.in_ok-decide_row.ensures.did.does);
    }

pub returns-clause-nearer : goal.returns-clause-nearer
returns-clause-nearer c = λ most few within.
    let x = c.args.lane.now in
    let e = c.decide_row.new.lane in
    let o = c.args.owner.now in
    let p = c.args.pass.now in
    let q = c.decided.new.self in
    let step = decision_of_row x o p c.requires.under_way c.args.at c.args.decision c.requires.next in
    let same : c.row_count-many.result ≡ length (rows_in e o) = c.row_count-many.ensures in
    let are = are_left (part_of x o.distributor) (part_of e o.distributor) c.args.at c.args.decision c.in_ok-decide_row.ensures.did.does (rows_of_part x o c.requires.passing c.rows_are_whole.ensures.whole) step.0 p.doing
    c.requires.decided step.1 in
    subst (λ (n : ℕ). left most n q.doing < left most (length (rows_in x o)) p.doing) same
    (c.decided.ensures.nearer most (length (rows_in x o)) (subst (λ (n : ℕ). n ≤ most) (sym same) within) (subst (λ (n : ℕ). AreLeft (length (rows_in x o)) n p.doing) (sym same) are))

pub returns-clause-quiet : goal.returns-clause-quiet
returns-clause-quiet c = λ given passing.
    let x = c.args.lane.now in
    let e = c.decide_row.new.lane in
    let o = c.args.owner.now in
    let p = c.args.pass.now in
    let q = c.decided.new.self in
    let on = c.decide_row.ensures.on in
    let did = c.in_ok-decide_row.ensures.did in
    does_map_in given given x e o (λ d s. NodesBecome d x e (λ ns. ns)) (λ d s. StandsOn d s x e o p q)
    (λ d s are current goes versions still nodes. stands_decided c.passes_stand.ensures.decided d s x e o given given p q c.args.at c.args.decision passing (c.decide_row.ensures.passing given passing) on are
    (settings_go_on x e o s on are) c.rows_are_whole.ensures.whole c.rows_are_whole-2.ensures.whole c.requires.next did.does nodes c.decided.ensures.behind c.decided.ensures.made c.decided.ensures.forgets)
    (does_decided x e o given c.args.decision did.decides)

pub returns-clause-does : goal.returns-clause-does
returns-clause-does c = record { did = c.in_ok-decide_row.ensures.did; behind = c.decided.ensures.behind; made = c.decided.ensures.made; forgets = c.decided.ensures.forgets }
