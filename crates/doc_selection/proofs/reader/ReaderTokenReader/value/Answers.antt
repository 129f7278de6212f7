use Rattle.doc_selection.proofs.Reading.{read_by, none_by}
use Rattle.doc_selection.proofs.reader.ReaderTokenReader.value.Goals as goal

pub returns-clause-read : goal.returns-clause-read
returns-clause-read c = read_by c.args._schema.now c.args.self c.whole.result c.whole.ensures

pub returns-clause-none : goal.returns-clause-none
returns-clause-none c = none_by c.args._schema.now c.args.self c.whole.result c.whole.ensures
