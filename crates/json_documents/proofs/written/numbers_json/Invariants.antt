use Rattle.std.proofs.Common.{◌≡◌, take, map}
use Rattle.serde_json.specs.View.{view}
use Rattle.json_documents.specs.Json.{number_json}
use Rattle.json_documents.proofs.written.numbers_json.Given as goal

abbrev pub invariant-loop-number : goal.invariant-loop-number
invariant-loop-number l = map view l.list.items ≡ map number_json (take l.number-index l.numbers)
