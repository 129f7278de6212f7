use Rattle.undisturbed_spans.proofs.Telling.{told}
use Rattle.undisturbed_spans.proofs.tellings.undisturbed_messages_are_told.Goals as goal

pub returns : goal.returns
returns c = λ d J K old now k m x agrees. told c.runs_are_known.ensures c.upkeep_goes_on.ensures.behind d J K old now k m x agrees
