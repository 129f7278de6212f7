use Rattle.std.proofs.Common.{rules}
use Rattle.words_line.proofs.command.with_option.Goals as goal

pub returns : goal.returns
returns c = search rules
