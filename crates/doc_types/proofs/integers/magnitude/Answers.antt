use Rattle.std.proofs.Common.{◌<◌, ◌+◌, arith, length}
use Rattle.std.proofs.lemmas.Str.Parse.{digits_value-take-le}
use Rattle.doc_types.proofs.Runs.{digits_more}
use Rattle.doc_types.proofs.integers.magnitude.Goals as goal

pub returns-then-value : goal.returns-then-value
returns-then-value c =
    let i = c.loop-digit.digit-index in
    let lt : i < length c.args.digits.now = omega arith in
    omega (arith, digits_more c.args.digits.now i c.requires.digits lt, digits_value-take-le 10 c.args.digits.now (i + 1) (omega arith), c.loop-digit.invariant.0, c.from.ensures)

pub loop-digit-preserved : goal.loop-digit-preserved
loop-digit-preserved c =
    let i = c.loop-digit.digit-index in
    let lt : i < length c.args.digits.now = omega arith in
    (omega (arith, digits_more c.args.digits.now i c.requires.digits lt, c.loop-digit.invariant.0, c.from.ensures), omega arith)
