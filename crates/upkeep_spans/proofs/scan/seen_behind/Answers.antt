use Rattle.upkeep_spans.proofs.Seeing.{seen-start, seen-more, seen-all}
use Rattle.upkeep_spans.proofs.scan.seen_behind.Goals as goal

pub loop-i-init : goal.loop-i-init
loop-i-init c = λ before given knows placed. seen-start given c.args.from c.args.sent c.args.journal.now c.seen_first-seen.result c.requires.inside before c.seen_first-seen.ensures

pub loop-i-preserved : goal.loop-i-preserved
loop-i-preserved c = λ before given knows placed. seen-more given c.args.from c.args.sent c.args.journal.now c.loop-i.i c.index-journal-i.result c.loop-i.seen c.seen_next-seen.result
    c.loop-i.auto.i c.loop-i-test.true c.index-journal-i.is placed (c.loop-i.invariant before given knows) (λ J le p s. c.seen_next-seen.ensures given c.args.from c.args.sent J le knows p s)

pub returns : goal.returns
returns c = λ before given knows placed. seen-all given c.args.from c.args.sent c.args.journal.now c.loop-i.i c.loop-i.seen c.loop-i-test.false placed (c.loop-i.invariant before given knows)
