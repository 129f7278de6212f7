use Rattle.query_text.proofs.Reading.{read_by, none_by}
use Rattle.query_text.proofs.reader.ReadingTokenReader.value.Goals as goal

pub returns-clause-read : goal.returns-clause-read
returns-clause-read c = read_by c.args._schema.now c.args.self c.whole.result c.whole.ensures

pub returns-clause-none : goal.returns-clause-none
returns-clause-none c = none_by c.args._schema.now c.args.self c.whole.result c.whole.ensures
