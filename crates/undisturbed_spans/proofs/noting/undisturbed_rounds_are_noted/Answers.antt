use Rattle.undisturbed_spans.proofs.Noted.{is-noted}
use Rattle.undisturbed_spans.proofs.noting.undisturbed_rounds_are_noted.Goals as goal

pub returns : goal.returns
returns c = λ d s lane distributor J K old now number r x. is-noted d s lane distributor J K old now number r x
