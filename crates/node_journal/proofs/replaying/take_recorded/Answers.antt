use Rattle.std.proofs.Common.{sym, ◌∙◌}
use Rattle.node_journal.proofs.Lives.{takes_after}
use Rattle.node_journal.proofs.replaying.take_recorded.Goals as goal

pub returns : goal.returns
returns c = takes_after c.args.node.now c.take-taken.new.self c.args.message.now c.take-taken.result.reply c.take-taken.ensures.takes (sym c.is_wanting.ensures ∙ c.if-is_wanting.false)
