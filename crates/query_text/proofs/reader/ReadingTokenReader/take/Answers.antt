use Rattle.doc_types.specs.Reading.{token_of}
use Rattle.query_text.proofs.Reading.{takes_by, begins_by, stops_by}
use Rattle.query_text.proofs.reader.ReadingTokenReader.take.Goals as goal

pub returns-clause-takes : goal.returns-clause-takes
returns-clause-takes c = takes_by c.args.schema.now c.args.self (token_of c.args.token) c.step.result c.step.ensures

pub returns-clause-begins : goal.returns-clause-begins
returns-clause-begins c = begins_by c.args.schema.now c.args.self (token_of c.args.token) c.step.result c.step.ensures

pub returns-clause-stops : goal.returns-clause-stops
returns-clause-stops c = stops_by c.args.schema.now c.args.self (token_of c.args.token) c.step.result c.step.ensures
