use Rattle.document_rows.proofs.RowLaws.{replaced-is, put-is, without-is}
use Rattle.document_rows.proofs.laws.rows_keep.Goals as goal

pub returns-clause-replaced : goal.returns-clause-replaced
returns-clause-replaced c = replaced-is

pub returns-clause-put : goal.returns-clause-put
returns-clause-put c = put-is

pub returns-clause-cleared : goal.returns-clause-cleared
returns-clause-cleared c = without-is
