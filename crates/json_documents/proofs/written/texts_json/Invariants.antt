use Rattle.std.proofs.Common.{◌≡◌, take, map}
use Rattle.serde_json.specs.Data.{string}
use Rattle.serde_json.specs.View.{view}
use Rattle.json_documents.proofs.written.texts_json.Given as goal

abbrev pub invariant-loop-text : goal.invariant-loop-text
invariant-loop-text l = map view l.list.items ≡ map string (take l.text-index l.texts)
