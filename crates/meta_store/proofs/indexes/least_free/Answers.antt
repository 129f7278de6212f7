use Rattle.std.proofs.Common.{arith}
use Rattle.meta_store.proofs.PlaceLaws.{taken_below, step_low, step_high, end_free}
use Rattle.meta_store.proofs.indexes.least_free.Goals as goal

pub loop-low-preserved-then-locals-middle : goal.loop-low-preserved-then-locals-middle
loop-low-preserved-then-locals-middle c =
    let i = c.loop-low.invariant in
    step_low c.args.locals.now c.requires.rising c.loop-low.low c.loop-low.high (omega (arith, c.loop-low-test.true)) i c.if-locals-middle.true

pub loop-low-preserved : goal.loop-low-preserved
loop-low-preserved c =
    let i = c.loop-low.invariant in
    step_high c.args.locals.now c.requires.rising c.loop-low.low c.loop-low.high (omega (arith, c.loop-low-test.true)) i c.if-locals-middle.false

pub returns-clause-free : goal.returns-clause-free
returns-clause-free c = end_free c.args.locals.now c.requires.rising c.loop-low.low c.loop-low.high (omega (arith, c.loop-low-test.false)) c.loop-low.invariant

pub returns-clause-below : goal.returns-clause-below
returns-clause-below c = λ k l. taken_below c.args.locals.now c.loop-low.low (let i = c.loop-low.invariant in let a = i.0 in let b = i.1 in omega (arith, a, b)) c.loop-low.invariant.2 k l
