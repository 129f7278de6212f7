use Rattle.std.proofs.Common.{sym}
use Rattle.doc_types.proofs.TokenReading.{number_ends}
use Rattle.doc_types.proofs.Runs.{run_digits}
use Rattle.doc_types.proofs.tokens.number_at.Goals as goal

pub number_of-requires : goal.number_of-requires
number_of-requires c = record { digits = rw c.digit_run-size.ensures.run (run_digits c.args.bytes.now) }

pub returns-in-Some-clause-sized : goal.returns-in-Some-clause-sized
returns-in-Some-clause-sized c = number_ends c.args.negative c.args.bytes.now c.digit_run-size.result c.in-Some.number c.digit_run-size.ensures.run c.digit_run-size.ensures.within (sym c.in-Some.ensures)
