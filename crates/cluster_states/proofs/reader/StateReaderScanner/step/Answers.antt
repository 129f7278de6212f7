use Rattle.cluster_states.proofs.Reaching.{goes_on_if, stops_if}
use Rattle.cluster_states.proofs.reader.StateReaderScanner.step.Goals as goal

pub returns-clause-goes_on : goal.returns-clause-goes_on
returns-clause-goes_on c = goes_on_if c.next.result

pub returns-clause-stops : goal.returns-clause-stops
returns-clause-stops c = stops_if c.args.self c.args.letter c.next.result c.next.ensures
