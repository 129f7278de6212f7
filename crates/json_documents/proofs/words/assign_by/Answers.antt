use Rattle.std.proofs.Common.{rules}
use Rattle.json_documents.proofs.words.assign_by.Goals as goal

pub returns-then-is_null : goal.returns-then-is_null
returns-then-is_null c = search rules
