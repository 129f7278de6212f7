use Rattle.std.proofs.Common.{◌≡◌, ◌∙◌, ◌<◌, ℕ, List, Some, length, slice_get, slice_set, get_or, refl, sym, ap, subst, rules}
use Rattle.std.specs.Vec.{with_item}
use Rattle.carriers.specs.declared.fate.Fate.{Fate}
use Rattle.bucket_db.specs.declared.row.Row.{Row}
use Rattle.distributor_part.specs.Parts.{Part, rows_of, version_of}
use Rattle.distributor_part.specs.Upkeep.{AcceptsAt}
use Rattle.lane_journals.specs.Meanings.{history}
use Rattle.lane_states.specs.declared.lane_state.LaneState.{LaneState}
use Rattle.lane_states.specs.LaneStates.{journal_of}
use Rattle.lane_states.specs.Accepting.{HasAccepted}
use Rattle.lane_upkeep.specs.Passing.{IsPassing}
use Rattle.lane_upkeep.proofs.Decisions.{Writes, writes-accepted, writes-after, writes-len, writes-others, writes-now, part-before, opened-then, resting-then, still-on, still-passes}
use Rattle.lane_upkeep.proofs.Accepted.{accepted_accepted}
use Rattle.lane_upkeep.proofs.deciding.accept.Goals as goal

-- the lane then
abbrev then_is : goal.After-lane-1 → LaneState
then_is c = record c.args.lane.now { parts = with_item c.args.lane.now.parts c.from.result c.accept.new.self }

writes : (c : goal.After-lane-1) → Writes c.args.lane.now c.args.lane.now (then_is c) c.args.owner.now c.index_mut.result.now c.accept.new.self
writes c =
    let a = c.args.lane.now in
    record {
      same = refl;
      told = refl;
      roomy = refl;
      here = subst (λ n. n < length a.parts.items) c.from.ensures (search rules);
      read = subst (λ n. c.index_mut.result.now ≡ get_or a.parts.items n c.index_mut.result.now) c.from.ensures c.index_mut.ensures.value;
      rest = refl;
      items = ap (λ n. slice_set a.parts.items n c.accept.new.self) c.from.ensures;
      len = refl;
    }

-- the row was accepted at the version of the part
now-accepted : (c : goal.After-lane-1) (given : List Fate) → IsPassing c.args.lane.now c.args.owner.now given → (row : Row) → slice_get (rows_of c.index_mut.result.now.rows) c.args.at ≡ Some row
    → HasAccepted (version_of c.index_mut.result.now.state) (history (journal_of c.args.lane.now)) row
now-accepted c given h row found =
    let is = part-before (writes c) in
    subst (λ (v : ℕ). HasAccepted v (history (journal_of c.args.lane.now)) row) (sym (ap (λ (p : Part). version_of p.state) (sym is) ∙ ap version_of h.opened.heard))
    (c.requires.accepted row (ap (λ (p : Part). slice_get (rows_of p.rows) c.args.at) is ∙ found))

pub returns-clause-passing : goal.returns-clause-passing
returns-clause-passing c given h =
    let a = c.args.lane.now in
    let o = c.args.owner.now in
    let w = writes c in
    still-passes a (then_is c) o (writes-after w) (writes-len w) refl (writes-others w) refl given h.spare
    (c.acceptances_are_kept.ensures a.lane a.rules (journal_of a) a.newest a.last a.nodes.items a.parts.items h.keeps.keeps (then_is c).parts.items o.distributor c.args.at
    (writes-now w (λ y z. AcceptsAt y z c.args.at) c.accept.ensures) (writes-others w))
    (writes-accepted w (accepted_accepted (history (journal_of a)) c.index_mut.result.now c.accept.new.self c.args.at c.accept.ensures (now-accepted c given h)) h.keeps)
    _ (opened-then w _ c.accept.ensures.after o.state h.rows h.opened) (resting-then w _ c.accept.ensures.after h.resting) h

pub returns-clause-on : goal.returns-clause-on
returns-clause-on c = let w = writes c in still-on c.args.lane.now (then_is c) c.args.owner.now (writes-after w) (writes-len w) refl (writes-others w)
