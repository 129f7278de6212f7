use Rattle.std.proofs.Common.{sym, arith}
use Rattle.doc_types.proofs.TokenReading.{symbol_ascii}
use Rattle.doc_types.proofs.tokens.symbol_at.Goals as goal

pub returns-in-Some-single_symbol-clause-sized : goal.returns-in-Some-single_symbol-clause-sized
returns-in-Some-single_symbol-clause-sized c = record { some = omega arith; within = omega arith; ascii = symbol_ascii c.args.language c.args.sign c.in-Some-single_symbol.symbol (sym c.in-Some-single_symbol.ensures) }
