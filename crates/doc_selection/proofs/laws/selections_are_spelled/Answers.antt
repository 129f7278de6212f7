use Rattle.doc_selection.proofs.Saying.{said_of_text, text_of_said, nothing_said}
use Rattle.doc_selection.proofs.laws.selections_are_spelled.Goals as goal

pub returns-clause-spelled : goal.returns-clause-spelled
returns-clause-spelled c = λ types text formula. (text_of_said types text formula, said_of_text types text formula)

pub returns-clause-refused : goal.returns-clause-refused
returns-clause-refused c = nothing_said
