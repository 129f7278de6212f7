use Rattle.std.proofs.Common.{◌≡◌, ◌≤◌, List, [], ◌∷◌, ◌++◌, length, refl, sym, ap, ◌∙◌, subst, arith}
use Rattle.std.specs.Vec.Iter.{into_iter_items}
use Rattle.proof_basics.proofs.Results.{err_then}
use Rattle.lane_calls.specs.LaneValues.{LaneValue}
use Rattle.session_cluster.specs.Cells.{ShownCell}
use Rattle.session_cluster.specs.Steps.{EachLane, HasTypes}
use Rattle.session_segments.specs.Sorted.{AreAnsweredSoFar, WasReadSoFar}
use Rattle.session_segments.specs.declared.sorting.Due.{Due}
use Rattle.session_segments.proofs.LaneRuns.{nothing_left}
use Rattle.session_segments.proofs.AnsweredLines.{so_far_next, so_far_read, lanes_on, unread_next}
use Rattle.session_segments.proofs.answering.answer_all.Goals as goal

pub answer_due-requires-clause-few : goal.answer_due-requires-clause-few
answer_due-requires-clause-few g c = subst (λ (vs : List LaneValue). length vs ≤ 64) (sym c.loop-due.invariant.2) c.requires.few

pub answer_due-requires-clause-typed : goal.answer_due-requires-clause-typed
answer_due-requires-clause-typed g c = (c.requires.typed.0, subst (EachLane (HasTypes c.requires.typed.0)) (sym c.loop-due.invariant.2) c.requires.typed.1)

pub answer_due-requires-clause-new : goal.answer_due-requires-clause-new
answer_due-requires-clause-new g c = c.loop-due.invariant.3 c.loop-due.line (omega arith)

pub loop-due-preserved : goal.loop-due-preserved
loop-due-preserved g c =
    let at = c.loop-due in
    let i = at.invariant in
    let steps : into_iter_items at.due-iterator ≡ c.in-Some.due ∷ into_iter_items c.next.new.self = c.in-Some.ensures.steps.0 in
    let short = ap length steps in (
      λ s lines cs may are. so_far_next c.args.first at.line c.args.stages.now (into_iter_items at.due-iterator) c.in-Some.due (into_iter_items c.next.new.self) c.args.dues.items c.args.session.now.cell at.session.cell c.answer_due.new.session.cell
          at.answers.items c.push.new.self.items _ c.in_ok-answer_due.ensures.ok steps i.4 c.requires.unread c.in_ok-push.ensures.items s lines cs may are (i.0 s lines cs may are),
      c.answer_due.ensures.settled,
      lanes_on at.line _ _ c.answer_due.ensures.read ∙ i.2,
      unread_next at.line _ _ c.answer_due.ensures.read i.3,
      omega (arith, i.4, short),
      let gone = c.in-Some.ensures.steps.1 in omega (arith, i.5, short, gone),
    )

pub returns-in_err-answer_due-clause-err : goal.returns-in_err-answer_due-clause-err
returns-in_err-answer_due-clause-err g c =
    err_then c.from_residual-in_err-answer_due.result (λ s lines cs may are.
    subst (λ (x : ShownCell). WasReadSoFar c.args.first cs c.args.session.now.cell x.cell) (sym c.in_err-answer_due.ensures.err) (so_far_read s lines c.args.first cs _ _ _ _ (c.loop-due.invariant.0 s lines cs may are)))

pub returns-in_err-push-clause-err : goal.returns-in_err-push-clause-err
returns-in_err-push-clause-err g c =
    let at = c.loop-due in
    let i = at.invariant in
    err_then c.from_residual-in_err-push.result (λ s lines cs may are. so_far_read s lines c.args.first cs _ _ _ _
    (so_far_next c.args.first at.line c.args.stages.now (into_iter_items at.due-iterator) c.in-Some.due (into_iter_items c.next.new.self) c.args.dues.items c.args.session.now.cell at.session.cell c.answer_due.new.session.cell
    at.answers.items (at.answers.items ++ c.in_ok-answer_due.field-0 ∷ []) c.in_ok-answer_due.field-0 c.in_ok-answer_due.ensures.ok c.in-Some.ensures.steps.0 i.4 c.requires.unread refl s lines cs may are (i.0 s lines cs may are)))

pub returns-clause-ok : goal.returns-clause-ok
returns-clause-ok g c =
    let at = c.loop-due in
    let none = c.in-None.ensures.steps in
    λ s lines cs may are. subst (λ (ds : List Due). AreAnsweredSoFar s lines c.args.first cs ds c.args.session.now.cell at.session.cell at.answers.items) (nothing_left _ (sym at.invariant.5 ∙ none.0)) (at.invariant.0 s lines cs may are)
