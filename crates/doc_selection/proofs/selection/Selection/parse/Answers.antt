use Rattle.doc_selection.proofs.Saying.{parse_says}
use Rattle.doc_selection.proofs.selection.Selection.parse.Goals as goal

pub returns-clause-said : goal.returns-clause-said
returns-clause-said c = parse_says c.args.schema.now c.args.text.now c.parsed.result c.parsed.ensures
