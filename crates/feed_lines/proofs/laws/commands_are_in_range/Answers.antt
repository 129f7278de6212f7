use Rattle.feed_lines.proofs.RangeLaws.{own, plain, via_small, stop_small, start_small, lane_small, fates_right}
use Rattle.feed_lines.proofs.laws.commands_are_in_range.Goals as goal

pub returns-clause-own : goal.returns-clause-own
returns-clause-own c = own

pub returns-clause-plain : goal.returns-clause-plain
returns-clause-plain c = plain

pub returns-clause-via : goal.returns-clause-via
returns-clause-via c = via_small

pub returns-clause-stop : goal.returns-clause-stop
returns-clause-stop c = stop_small

pub returns-clause-start : goal.returns-clause-start
returns-clause-start c = start_small

pub returns-clause-lane : goal.returns-clause-lane
returns-clause-lane c = lane_small

pub returns-clause-fates : goal.returns-clause-fates
returns-clause-fates c = fates_right
