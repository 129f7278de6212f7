use Rattle.upkeep_spans.proofs.AtOnce.{knows-other, knows-pushed-as, knows-later-as}
use Rattle.upkeep_spans.proofs.watching.remember.Goals as goal

pub returns-then-not-comes_at_once : goal.returns-then-not-comes_at_once
returns-then-not-comes_at_once c = λ given next knows. knows-other _ _ given c.args.fate (c.comes_at_once.ensures.no c.if-not-comes_at_once.true) knows

pub returns-in-Ok : goal.returns-in-Ok
returns-in-Ok c = λ given next knows. knows-pushed-as _ c.args.number _ _ given c.args.fate next (c.comes_at_once.ensures.yes c.if-not-comes_at_once.false) c.in-Ok.ensures.items knows

pub returns-in-Err : goal.returns-in-Err
returns-in-Err c = λ given next knows. knows-later-as _ c.args.number _ _ given c.args.fate next c.in-Err.ensures.items knows
