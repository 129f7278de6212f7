use Rattle.std.proofs.Common.{◌≡◌, ◌-◌, ◌≤◌, length}
use Rattle.lane_core.specs.declared.work.Job.{Job}
use Rattle.lane_core.proofs.Firsts.{NoneBefore}
use Rattle.lane_core.proofs.jobs.first_of.Given as goal

-- it is none of those so far
abbrev pub invariant-loop-at : goal.invariant-loop-at
invariant-loop-at l = (l.at ≤ length l.jobs) × NoneBefore (λ (j : Job). j.distributor ≡ l.distributor) l.jobs l.at

abbrev pub decreases-loop-at : goal.decreases-loop-at
decreases-loop-at l = length l.jobs - l.at
