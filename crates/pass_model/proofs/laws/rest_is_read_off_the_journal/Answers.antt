use Rattle.pass_model.proofs.Reading.{rest-said}
use Rattle.pass_model.proofs.laws.rest_is_read_off_the_journal.Goals as goal

pub returns : goal.returns
returns c = λ S first most s J t U w legal newest known set of rest. rest-said S first most s J t w legal set of newest known U rest
