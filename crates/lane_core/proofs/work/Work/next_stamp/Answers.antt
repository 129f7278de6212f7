use Rattle.std.proofs.Common.{rules, ◌≤◌, length}
use Rattle.lane_core.proofs.Stamps.{few-stamps}
use Rattle.lane_core.proofs.work.Work.next_stamp.Goals as goal

pub overflow_add-result : goal.overflow_add-result
overflow_add-result c =
    let few : c.count.result ≤ length c.args.self.now.state.journal.events.items = rw c.count.ensures (few-stamps c.args.version c.args.self.now.state.journal.events.items) in
    search rules
