use Rattle.words_line.proofs.SaidOnce.{said_once}
use Rattle.words_line.proofs.laws.words_say_one.Goals as goal

pub returns : goal.returns
returns c = said_once
