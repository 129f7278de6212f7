use Rattle.undisturbed_spans.proofs.Splitting.{go-parts}
use Rattle.undisturbed_spans.proofs.tellings.spans_of_nodes_part.Goals as goal

pub returns : goal.returns
returns c = λ J K L old now X Y first second h. go-parts c.upkeep_goes_on.ensures.behind J K L old now X Y first second h
