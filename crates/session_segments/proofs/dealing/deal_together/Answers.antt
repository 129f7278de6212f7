use Rattle.std.proofs.Common.{◌+◌, ◌-◌, ℕ, List, length, inr, sym, ap, ◌∙◌, subst, arith}
use Rattle.proof_basics.proofs.Results.{err_then, if_ok, on_err}
use Rattle.lane_locks.specs.declared.lines.Stage.{Stage}
use Rattle.session_cluster.proofs.ShelvedLanes.{cell_of, settled_opened}
use Rattle.session_segments.specs.Lanes.{MayAllRun}
use Rattle.session_segments.specs.Sorted.{lane_lines, any_feeds, all_answered, MayBeAnswered}
use Rattle.session_segments.proofs.AnsweredLines.{due_count}
use Rattle.session_segments.proofs.SegmentWhole.{may_all_run, all_hold, none_listed, lanes_few, whole_unread, whole_may, whole_few, whole_fed, whole_read}
use Rattle.session_segments.proofs.dealing.deal_together.Goals as goal

pub feed_any-requires-clause-few : goal.feed_any-requires-clause-few
feed_any-requires-clause-few g c κs lives = lanes_few c.args.setting.now c.args.first c.args.session.now.cell c.requires.ready

pub feed_any-requires-clause-may : goal.feed_any-requires-clause-may
feed_any-requires-clause-may g c κs lives =
    subst (λ (n : ℕ). MayAllRun n c.args.session.now.cell.lanes c.in_ok-lists.field-0.lists.items) (sym (ap length c.deref_mut.ensures.value ∙ c.in_ok-lists.ensures.feeders))
    (may_all_run c.args.setting.now c.args.feeders c.args.first c.args.commands.items c.args.session.now.cell c.in_ok-lists.field-0.lists.items c.requires.ready c.requires.own c.in_ok-lists.ensures.lists)

pub feed_any-requires-clause-holds : goal.feed_any-requires-clause-holds
feed_any-requires-clause-holds g c κs lives = all_hold c.args.setting.now c.args.first c.args.session.now.cell c.requires.ready

pub feed_any-requires-clause-none : goal.feed_any-requires-clause-none
feed_any-requires-clause-none g c κs lives = λ none.
    none_listed c.args.setting.now c.args.feeders c.args.first c.args.commands.items c.in_ok-lists.field-0.lists.items c.in_ok-lists.ensures.lists (sym (c.any_feeds-any.ensures ∙ ap any_feeds c.deref.ensures.value) ∙ none)

pub feed_any-requires-clause-opened : goal.feed_any-requires-clause-opened
feed_any-requires-clause-opened g c κs lives = settled_opened c.args.session.now c.requires.settled

pub returns-in_err-settle_over-clause-err : goal.returns-in_err-settle_over-clause-err
returns-in_err-settle_over-clause-err g c =
    err_then c.from_residual-in_err-settle_over.result (inr (whole_unread c.args.setting.now c.args.feeders (length c.deref_mut.result.now) c.args.first (c.args.first + c.len-count.result - 1) c.args.commands.items c.in_ok-lists.field-0.lists.items c.args.session.now.cell c.feed_any.new.session.cell c.deal_up_to.new.self.cell c.in_ok-stages.stages.items c.requires.ready c.requires.own c.in_ok-lists.ensures.lists (ap length c.deref_mut.ensures.value ∙ c.in_ok-lists.ensures.feeders) c.in_ok-stages.ensures.ran (ap cell_of c.deal_up_to.ensures) (omega (arith, c.len-count.ensures, c.requires.ready.next))
    c.settle_over.new.session.cell c.settle_over.ensures.cell))

pub answer_all-requires-clause-few : goal.answer_all-requires-clause-few
answer_all-requires-clause-few g c =
    whole_few c.args.setting.now c.args.feeders (length c.deref_mut.result.now) c.args.first (c.args.first + c.len-count.result - 1) c.args.commands.items c.in_ok-lists.field-0.lists.items c.args.session.now.cell c.feed_any.new.session.cell c.deal_up_to.new.self.cell c.in_ok-stages.stages.items c.requires.ready c.requires.own c.in_ok-lists.ensures.lists (ap length c.deref_mut.ensures.value ∙ c.in_ok-lists.ensures.feeders) c.in_ok-stages.ensures.ran (ap cell_of c.deal_up_to.ensures) (omega (arith, c.len-count.ensures, c.requires.ready.next))
    c.settle_over.new.session.cell c.settle_over.ensures.cell (lanes_few c.args.setting.now c.args.first c.args.session.now.cell c.requires.ready)

pub answer_all-requires-clause-typed : goal.answer_all-requires-clause-typed
answer_all-requires-clause-typed g c = (
  (c.args.setting.now).schema,
  (whole_may c.args.setting.now c.args.feeders (length c.deref_mut.result.now) c.args.first (c.args.first + c.len-count.result - 1) c.args.commands.items c.in_ok-lists.field-0.lists.items c.args.session.now.cell c.feed_any.new.session.cell c.deal_up_to.new.self.cell c.in_ok-stages.stages.items c.requires.ready c.requires.own c.in_ok-lists.ensures.lists (ap length c.deref_mut.ensures.value ∙ c.in_ok-lists.ensures.feeders) c.in_ok-stages.ensures.ran (ap cell_of c.deal_up_to.ensures) (omega (arith, c.len-count.ensures, c.requires.ready.next))
      c.settle_over.new.session.cell c.settle_over.ensures.cell).typed,
)

pub answer_all-requires-clause-numbers : goal.answer_all-requires-clause-numbers
answer_all-requires-clause-numbers g c =
    let many = due_count c.args.setting.now _ c.args.first c.args.commands.items c.in_ok-lists.field-0.dues.items c.in_ok-lists.ensures.dues in
    omega (arith, many, c.requires.few)

pub returns-clause-ok : goal.returns-clause-ok
returns-clause-ok g c =
    let s = c.args.setting.now in
    let lines = (λ (lane : ℕ). lane_lines s lane c.args.first c.args.commands.items) in
    let may = subst (λ (xs : List (List Stage)). MayBeAnswered s lines xs c.settle_over.new.session.cell) (sym c.deref-3.ensures.value) (whole_may c.args.setting.now c.args.feeders (length c.deref_mut.result.now) c.args.first (c.args.first + c.len-count.result - 1) c.args.commands.items c.in_ok-lists.field-0.lists.items c.args.session.now.cell c.feed_any.new.session.cell c.deal_up_to.new.self.cell c.in_ok-stages.stages.items c.requires.ready c.requires.own c.in_ok-lists.ensures.lists (ap length c.deref_mut.ensures.value ∙ c.in_ok-lists.ensures.feeders) c.in_ok-stages.ensures.ran (ap cell_of c.deal_up_to.ensures) (omega (arith, c.len-count.ensures, c.requires.ready.next))
    c.settle_over.new.session.cell c.settle_over.ensures.cell) in
    if_ok c.answer_all.result (λ got h. whole_fed c.args.setting.now c.args.feeders (length c.deref_mut.result.now) c.args.first (c.args.first + c.len-count.result - 1) c.args.commands.items c.in_ok-lists.field-0.lists.items c.args.session.now.cell c.feed_any.new.session.cell c.deal_up_to.new.self.cell c.in_ok-stages.stages.items c.requires.ready c.requires.own c.in_ok-lists.ensures.lists (ap length c.deref_mut.ensures.value ∙ c.in_ok-lists.ensures.feeders) c.in_ok-stages.ensures.ran (ap cell_of c.deal_up_to.ensures) (omega (arith, c.len-count.ensures, c.requires.ready.next))
    c.settle_over.new.session.cell c.answer_all.new.session.cell got.items c.settle_over.ensures.cell (ap all_answered (sym c.deref-2.ensures.value) ∙ c.in_ok-settle_over.ensures.over) (h s lines c.args.commands.items may c.in_ok-lists.ensures.dues))
    c.answer_all.ensures.ok

pub returns-clause-err : goal.returns-clause-err
returns-clause-err g c =
    let s = c.args.setting.now in
    let lines = (λ (lane : ℕ). lane_lines s lane c.args.first c.args.commands.items) in
    let may = subst (λ (xs : List (List Stage)). MayBeAnswered s lines xs c.settle_over.new.session.cell) (sym c.deref-3.ensures.value) (whole_may c.args.setting.now c.args.feeders (length c.deref_mut.result.now) c.args.first (c.args.first + c.len-count.result - 1) c.args.commands.items c.in_ok-lists.field-0.lists.items c.args.session.now.cell c.feed_any.new.session.cell c.deal_up_to.new.self.cell c.in_ok-stages.stages.items c.requires.ready c.requires.own c.in_ok-lists.ensures.lists (ap length c.deref_mut.ensures.value ∙ c.in_ok-lists.ensures.feeders) c.in_ok-stages.ensures.ran (ap cell_of c.deal_up_to.ensures) (omega (arith, c.len-count.ensures, c.requires.ready.next))
    c.settle_over.new.session.cell c.settle_over.ensures.cell) in
    on_err c.answer_all.result (λ h. inr (whole_read c.args.setting.now c.args.feeders (length c.deref_mut.result.now) c.args.first (c.args.first + c.len-count.result - 1) c.args.commands.items c.in_ok-lists.field-0.lists.items c.args.session.now.cell c.feed_any.new.session.cell c.deal_up_to.new.self.cell c.in_ok-stages.stages.items c.requires.ready c.requires.own c.in_ok-lists.ensures.lists (ap length c.deref_mut.ensures.value ∙ c.in_ok-lists.ensures.feeders) c.in_ok-stages.ensures.ran (ap cell_of c.deal_up_to.ensures) (omega (arith, c.len-count.ensures, c.requires.ready.next))
    c.settle_over.new.session.cell c.answer_all.new.session.cell c.settle_over.ensures.cell (h s lines c.args.commands.items may c.in_ok-lists.ensures.dues)))
    c.answer_all.ensures.err
