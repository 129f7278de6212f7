use Rattle.std.proofs.Common.{Option, subst}
use Rattle.lane_lines.specs.declared.readying.Shortage.{Shortage}
use Rattle.lane_lines.specs.Readying.{outcome_of}
use Rattle.lane_core.specs.Searching.{WantsShort}
use Rattle.lane_core.specs.Works.{value_of}
use Rattle.lane_core.proofs.Searching.{prepared-so, cut-so, fell-so}
use Rattle.lane_core.proofs.work.Work.come.Goals as goal

pub returns-in-Ok-clause-advances : goal.returns-in-Ok-clause-advances
returns-in-Ok-clause-advances c =
    λ v given planned takes went short. prepared-so c.args.at v _ _ went (c.in-Ok.ensures.ok given planned takes)

pub returns-in-Err-clause-advances : goal.returns-in-Err-clause-advances
returns-in-Err-clause-advances c =
    λ v given planned takes went short. cut-so c.args.at v _ _ went (c.in-Err.ensures.err given planned takes)

pub returns-in-Some-clause-advances : goal.returns-in-Some-clause-advances
returns-in-Some-clause-advances c =
    λ v given planned takes went short.
    fell-so c.args.at v (value_of c.args.self.now given planned takes) _ (outcome_of c.in-Some.shortage) went
    (subst (λ (e : Option Shortage). WantsShort v c.args.at (value_of c.args.self.now given planned takes) e) c.in-Some.is short) (rw c.outcome.ensures at (c.fall_short.ensures.over given planned takes))
