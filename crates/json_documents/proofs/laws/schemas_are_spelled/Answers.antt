use Rattle.json_documents.proofs.SchemaLaws.{schemas}
use Rattle.json_documents.proofs.laws.schemas_are_spelled.Goals as goal

pub returns : goal.returns
returns c = schemas
