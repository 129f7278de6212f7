-- what is added, and what is still to come, stands behind what was there; there is room for it
use Rattle.std.proofs.Common.{◌≡◌, ◌+◌, ◌^◌, ◌<◌, ◌≤◌, ◌++◌, length, drop, vec_len, vec_capacity}
use Rattle.carriers.specs.Plans.{numbered}
use Rattle.carriers.proofs.planned.add_behind.Given as goal

abbrev pub invariant-loop-fate : goal.invariant-loop-fate
invariant-loop-fate l =
    (l.plans.items ++ numbered l.number (drop l.fate-index l.fates) ≡ l.fn.plans.items ++ numbered l.fn.number l.fates)
    × (l.number + length (drop l.fate-index l.fates) < 2 ^ 64)
    × (vec_len l.plans + length (drop l.fate-index l.fates) ≤ vec_capacity l.plans)
