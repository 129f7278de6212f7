use Rattle.row_keeping.proofs.Serving.{actives, deletes}
use Rattle.row_keeping.proofs.laws.nodes_of_rows_serve.Goals as goal

pub returns-clause-active : goal.returns-clause-active
returns-clause-active c = λ lane rules J newest last nodes parts keep d s rows at row node a has found is. actives lane rules J newest last nodes parts keep d s a rows has at row node found is

pub returns-clause-deleting : goal.returns-clause-deleting
returns-clause-deleting c = λ lane rules J newest last nodes parts keep d s rows delete a has h. deletes lane rules J newest last nodes parts keep d s a rows has delete h
