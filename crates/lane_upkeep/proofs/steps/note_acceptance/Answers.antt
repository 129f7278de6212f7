use Rattle.std.proofs.Common.{◌≡◌, ◌∙◌, ◌<◌, ℕ, length, sym, subst}
use Rattle.lane_states.specs.declared.lane_state.LaneState.{LaneState}
use Rattle.lane_states.specs.LaneStates.{journal_of, part_of}
use Rattle.pass_machine.specs.declared.doing.Doing.{Doing}
use Rattle.pass_machine.specs.declared.pass.UpkeepPass.{UpkeepPass}
use Rattle.pass_machine.specs.Going.{IsAccepted, left}
use Rattle.lane_upkeep.specs.declared.owner.Owner.{Owner}
use Rattle.lane_upkeep.specs.Deciding.{DidAccept}
use Rattle.lane_upkeep.specs.Noted.{AreNotes}
use Rattle.lane_upkeep.specs.Passing.{rows_in}
use Rattle.lane_upkeep.specs.UnderWay.{KnowsDoing}
use Rattle.lane_upkeep.proofs.Changed.{accepts_count, accepted_known}
use Rattle.lane_upkeep.proofs.Going.{notes_stay}
use Rattle.lane_upkeep.specs.Quiet.{NodesBecome, StandsOn}
use Rattle.lane_upkeep.proofs.QuietSteps.{does_undecided, does_map_in, settings_go_on}
use Rattle.lane_upkeep.proofs.Standings.{stands_accepted}
use Rattle.lane_upkeep.proofs.steps.note_acceptance.Goals as goal

-- there are as many rows as before
as-many : (x e : LaneState) (o : Owner) (at many : ℕ) → many ≡ length (rows_in e o) → DidAccept x e o at → many ≡ length (rows_in x o)
as-many x e o at many is did = is ∙ accepts_count (part_of x o.distributor) (part_of e o.distributor) at did.accepts

pub accepted-requires : goal.accepted-requires
accepted-requires c = record { accepted = subst (λ (n : ℕ). IsAccepted n c.args.pass.now.doing) (sym (as-many c.args.lane.now c.accept.new.lane c.args.owner.now c.args.at c.row_count.result c.row_count.ensures c.accept.ensures.did)) c.requires.accepted }

pub returns-clause-under_way : goal.returns-clause-under_way
returns-clause-under_way c =
    let x = c.args.lane.now in
    let e = c.accept.new.lane in
    let o = c.args.owner.now in
    let p = c.args.pass.now in
    record {
      notes = subst (λ (q : UpkeepPass). AreNotes (journal_of e) o.state q.notes.by_number) (sym c.accepted.ensures.same)
          (notes_stay x e o p.notes.by_number c.accept.ensures.known c.requires.under_way.notes);
      doing = subst (λ (d : Doing). KnowsDoing e o d) (sym c.accepted.ensures.behind) (accepted_known x e o (length (rows_in x o)) p.doing c.requires.accepted);
    }

pub returns-clause-nearer : goal.returns-clause-nearer
returns-clause-nearer c = λ most few within.
    let x = c.args.lane.now in
    let e = c.accept.new.lane in
    let o = c.args.owner.now in
    let p = c.args.pass.now in
    let q = c.accepted.new.self in
    subst (λ (n : ℕ). left most n q.doing < left most (length (rows_in x o)) p.doing) c.row_count.ensures
    (subst (λ (n : ℕ). left most c.row_count.result q.doing < left most n p.doing) (as-many x e o c.args.at c.row_count.result c.row_count.ensures c.accept.ensures.did) (c.accepted.ensures.nearer most))

pub returns-clause-quiet : goal.returns-clause-quiet
returns-clause-quiet c = λ given passing.
    let x = c.args.lane.now in
    let e = c.accept.new.lane in
    let o = c.args.owner.now in
    let p = c.args.pass.now in
    let q = c.accepted.new.self in
    let on = c.accept.ensures.on in
    let did = c.accept.ensures.did in
    does_map_in given given x e o (λ d s. NodesBecome d x e (λ ns. ns)) (λ d s. StandsOn d s x e o p q)
    (λ d s are current goes versions still nodes. stands_accepted c.passes_stand.ensures.accepted d s x e o given given p q c.args.at passing (c.accept.ensures.passing given passing) on are
    (settings_go_on x e o s on are) c.rows_are_whole.ensures.whole c.rows_are_whole-2.ensures.whole c.requires.next did.accepts nodes c.accepted.ensures.behind c.accepted.ensures.same)
    (does_undecided x e o given did.nothing)

pub returns-clause-does : goal.returns-clause-does
returns-clause-does c = record { did = c.accept.ensures.did; behind = c.accepted.ensures.behind; same = c.accepted.ensures.same }
