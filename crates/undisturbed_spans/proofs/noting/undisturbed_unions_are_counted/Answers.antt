use Rattle.undisturbed_spans.proofs.Noted.{union-counted}
use Rattle.undisturbed_spans.proofs.noting.undisturbed_unions_are_counted.Goals as goal

pub returns : goal.returns
returns c = λ d s lane distributor J K old now number r S x legal. union-counted d s lane distributor J K old now number r x S legal
