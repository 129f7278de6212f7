use Rattle.std.proofs.Common.{◌≡◌, pos, get_or, rules}
use Rattle.serde_json.specs.View.{view}
use Rattle.json_documents.specs.Json.{number_json}
use Rattle.json_documents.proofs.Items.{made_more}
use Rattle.json_documents.proofs.written.numbers_json.Goals as goal

pub loop-number-preserved : goal.loop-number-preserved
loop-number-preserved c =
    let shown : view c.from.result ≡ number_json (get_or c.args.numbers.now c.loop-number.number-index (pos 0)) = search rules in
    rw c.in_ok-push.ensures.items (made_more view number_json c.loop-number.list.items c.args.numbers.now c.loop-number.number-index (pos 0) c.from.result c.loop-number-test.true shown c.loop-number.invariant)
