use Rattle.std.proofs.Common.{rules}
use Rattle.documents.proofs.document.DocumentTryCopy.copy.Goals as goal

pub returns : goal.returns
returns c = search rules
