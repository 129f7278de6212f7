use Rattle.std.proofs.Common.{◌≡◌, ◌<◌, length, Some, sym, ap, rules, arith}
use Rattle.doc_types.specs.Tokens.{token_at, skip_blanks}
use Rattle.doc_types.specs.Reading.{token_of}
use Rattle.conditions.proofs.Steps.{token_shortens, goes_on, refused_token}
use Rattle.conditions.proofs.token_reading.read.Goals as goal

pub returns-in-Err-Refused : goal.returns-in-Err-Refused
returns-in-Err-Refused g c =
    let token : token_at c.args.language c.reading.rest.now ≡ Some (token_of c.in-Some.token, c.in-Some.behind.now) = sym (rw c.in-Some.is at c.in-Ok.ensures) in
    let stops = rw c.in-Err-Refused.field-0-is at c.in-Err-Refused.ensures.stops in
    refused_token _ _ _ _ _ _ _ _ _ c.reading.invariant.1 c.place_of-in-Err-Refused.ensures token stops

pub reading-smaller : goal.reading-smaller
reading-smaller g c =
    let token : token_at c.args.language c.reading.rest.now ≡ Some (token_of c.in-Some.token, c.in-Some.behind.now) = sym (rw c.in-Some.is at c.in-Ok.ensures) in
    let less : length (skip_blanks c.in-Some.behind.now) < length c.reading.rest.now = token_shortens c.args.language c.reading.rest.now c.in-Some.behind.now (token_of c.in-Some.token) token in
    let same : length c.skip_blanks-rest-in-reading.result.now ≡ length (skip_blanks c.in-Some.behind.now) = ap length c.skip_blanks-rest-in-reading.ensures in
    omega (arith, less, same)

pub reading-preserved : goal.reading-preserved
reading-preserved g c =
    let token : token_at c.args.language c.reading.rest.now ≡ Some (token_of c.in-Some.token, c.in-Some.behind.now) = sym (rw c.in-Some.is at c.in-Ok.ensures) in
    (search rules, goes_on _ _ _ _ _ _ _ _ _ _ c.reading.invariant.1 token c.skip_blanks-rest-in-reading.ensures c.in-Ok-take.ensures.takes c.in-Ok-take.ensures.begins)
