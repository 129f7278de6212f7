use Rattle.line_values.specs.View.{view}
use Rattle.feed_lines.proofs.SettingLaws.{state_is, stop_is, start_is, net_is}
use Rattle.feed_lines.proofs.SearchLaws.{search_is}
use Rattle.feed_lines.proofs.TruthLaws.{maintain_is, barrier_is}
use Rattle.feed_lines.proofs.reading.own_command.Goals as goal

pub returns-in-Search : goal.returns-in-Search
returns-in-Search c = rw c.in-Search.is (rw (search_is c.args.schema.now c.args.bits (view c.args.line.now)) at c.search_command.ensures)

pub returns-in-State : goal.returns-in-State
returns-in-State c = rw c.in-State.is (rw (state_is c.args.schema.now c.args.bits (view c.args.line.now)) at c.state_command.ensures)

pub returns-in-Stop : goal.returns-in-Stop
returns-in-Stop c = rw c.in-Stop.is (rw (stop_is c.args.schema.now c.args.bits (view c.args.line.now)) at c.stop_command.ensures)

pub returns-in-Start : goal.returns-in-Start
returns-in-Start c = rw c.in-Start.is (rw (start_is c.args.schema.now c.args.bits (view c.args.line.now)) at c.start_command.ensures)

pub returns-in-Net : goal.returns-in-Net
returns-in-Net c = rw c.in-Net.is (rw (net_is c.args.schema.now c.args.bits (view c.args.line.now)) at c.net_command.ensures)

pub returns-in-Maintain : goal.returns-in-Maintain
returns-in-Maintain c = rw c.in-Maintain.is (rw (maintain_is c.args.schema.now c.args.bits (view c.args.line.now)) at c.bare_command.ensures)

pub returns-in-Barrier : goal.returns-in-Barrier
returns-in-Barrier c = rw c.in-Barrier.is (rw (barrier_is c.args.schema.now c.args.bits (view c.args.line.now)) at c.bare_command-in-Barrier.ensures)
