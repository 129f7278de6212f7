-- How many messages an operation may still send.
use Rattle.std.specs.Prelude.{ℕ, ◌+◌, if◌then◌else◌}
use Rattle.op_machine.specs.declared.plan.Plan.{Plan}
use Rattle.op_machine.specs.declared.machine.Standing.{Standing}
use Rattle.op_machine.specs.Nodes.{count_nodes}
use Rattle.op_machine.specs.Judging.{looks}
use Rattle.op_machine.specs.Outcomes.{Answers, answers_of, waits}

-- the recipients of which nothing was told of a Read, where the operation looks, and those of a Store
abbrev pub left_by : Plan → Answers → Answers → ℕ
left_by p reads stores = (if looks p.operation then count_nodes (waits p reads) else 0) + count_nodes (waits p stores)

abbrev pub messages_left : Standing → ℕ
messages_left t = left_by t.plan (answers_of t.reads) (answers_of t.stores)
