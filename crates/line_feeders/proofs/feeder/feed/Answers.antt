use Rattle.std.proofs.Common.{rules, arith, ◌<◌, ℕ, ap, sym, ◌∙◌, subst, length, slice_get}
use Rattle.std.proofs.lemmas.Option.{slice_get_within}
use Rattle.line_feeders.specs.declared.feeder.Errand.{Errand}
use Rattle.line_feeders.specs.Calls.{IsAnswer}
use Rattle.line_feeders.specs.Errands.{RanErrand}
use Rattle.line_feeders.proofs.Feeding.{read_is, done_more}
use Rattle.line_feeders.proofs.feeder.feed.Goals as goal

pub loop-place-init : goal.loop-place-init
loop-place-init g c = (search rules, search rules, omega arith, λ at errand none. absurd (omega arith))

pub loop-place-preserved : goal.loop-place-preserved
loop-place-preserved g c =
    let i = c.loop-place.invariant in
    let within = c.loop-place-test.true in
    let end = c.len-place-end.ensures in
    let same = ap (λ v. length v.items) i.0 in (
      i.0,
      search rules,
      omega arith,
      done_more (RanErrand (IsAnswer g.T.LineTurns.number g.T.LineTurns.does) c.args.locks.now) c.args.feeder.now.errands.items c.loop-place.feeder.errands.items c.loop-place.place c.index-errand.result.now (ap (λ v. v.items) i.0) c.index-errand.ensures c.if-not-run_errand.ensures i.3,
    )

pub returns-then-not-run_errand : goal.returns-then-not-run_errand
returns-then-not-run_errand g c =
    let i = c.loop-place.invariant in
    let within = c.loop-place-test.true in
    let end = c.len-place-end.ensures in record {
      errands = i.0;
      done = omega (arith, i.1, i.2);
      over = λ at errand below. i.3 at errand (subst (λ n. at < n) i.1 below);
      left = λ errand at. read_is (RanErrand (IsAnswer g.T.LineTurns.number g.T.LineTurns.does) c.args.locks.now) c.args.feeder.now.errands.items c.loop-place.feeder.errands.items c.loop-place.place errand c.index-errand.result.now _ (ap (λ v. v.items) i.0) (ap (slice_get c.args.feeder.now.errands.items) (sym i.1) ∙ at) c.index-errand.ensures c.if-not-run_errand.ensures;
    }

pub returns : goal.returns
returns g c =
    let i = c.loop-place.invariant in
    let over = c.loop-place-test.false in
    let end = c.len-place-end.ensures in record {
      errands = i.0;
      done = omega (arith, i.1, i.2);
      over = λ at errand below. i.3 at errand (subst (λ n. at < n) i.1 below);
      left = λ errand at. absurd (let within = slice_get_within c.args.feeder.now.errands.items c.loop-place.feeder.done errand at in omega (arith, i.1));
    }
