use Rattle.std.proofs.Common.{◌≡◌, Some, rules}
use Rattle.serde_json.specs.Read.{read as read_text}
use Rattle.line_values.specs.View.{view}
use Rattle.line_values.proofs.Rising.{read_has_rising}
use Rattle.line_values.proofs.value_reader.ValueReader.read.Goals as goal

pub returns-clause-rising : goal.returns-clause-rising
returns-clause-rising c =
    let said : read_text c.args.text.now ≡ Some (view c.in_ok-value.value) = search rules in
    read_has_rising c.args.text.now (view c.in_ok-value.value) said
