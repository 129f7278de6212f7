use Rattle.std.proofs.Common.{◌≡◌, ◌<◌, true, get_or, length, rules}
use Rattle.doc_types.specs.Tokens.{is_quote}
use Rattle.doc_types.proofs.TokenReading.{token_quote}
use Rattle.doc_types.proofs.tokens.read_token.Goals as goal

pub returns-then-is_quote : goal.returns-then-is_quote
returns-then-is_quote c =
    let some : 0 < length c.args.text.now = search rules in
    let quote : is_quote (get_or c.args.text.now 0 0) ≡ true = search rules in
    rw (token_quote c.args.language c.args.text.now some quote) c.read_literal.ensures
