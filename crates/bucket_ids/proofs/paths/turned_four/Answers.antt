use Rattle.std.proofs.Common.{sym, ap}
use Rattle.std.specs.Int.{reverse_bits_onto}
use Rattle.bucket_ids.proofs.paths.turned_four.Goals as goal

pub returns-in-0-clause-turned : goal.returns-in-0-clause-turned
unfolding reverse_bits_onto
returns-in-0-clause-turned c = ap (λ n. reverse_bits_onto 4 n 0) (sym c.in-0.is)

pub returns-in-1-clause-turned : goal.returns-in-1-clause-turned
unfolding reverse_bits_onto
returns-in-1-clause-turned c = ap (λ n. reverse_bits_onto 4 n 0) (sym c.in-1.is)

pub returns-in-2-clause-turned : goal.returns-in-2-clause-turned
unfolding reverse_bits_onto
returns-in-2-clause-turned c = ap (λ n. reverse_bits_onto 4 n 0) (sym c.in-2.is)

pub returns-in-3-clause-turned : goal.returns-in-3-clause-turned
unfolding reverse_bits_onto
returns-in-3-clause-turned c = ap (λ n. reverse_bits_onto 4 n 0) (sym c.in-3.is)

pub returns-in-4-clause-turned : goal.returns-in-4-clause-turned
unfolding reverse_bits_onto
returns-in-4-clause-turned c = ap (λ n. reverse_bits_onto 4 n 0) (sym c.in-4.is)

pub returns-in-5-clause-turned : goal.returns-in-5-clause-turned
unfolding reverse_bits_onto
returns-in-5-clause-turned c = ap (λ n. reverse_bits_onto 4 n 0) (sym c.in-5.is)

pub returns-in-6-clause-turned : goal.returns-in-6-clause-turned
unfolding reverse_bits_onto
returns-in-6-clause-turned c = ap (λ n. reverse_bits_onto 4 n 0) (sym c.in-6.is)

pub returns-in-7-clause-turned : goal.returns-in-7-clause-turned
unfolding reverse_bits_onto
returns-in-7-clause-turned c = ap (λ n. reverse_bits_onto 4 n 0) (sym c.in-7.is)

pub returns-in-8-clause-turned : goal.returns-in-8-clause-turned
unfolding reverse_bits_onto
returns-in-8-clause-turned c = ap (λ n. reverse_bits_onto 4 n 0) (sym c.in-8.is)

pub returns-in-9-clause-turned : goal.returns-in-9-clause-turned
unfolding reverse_bits_onto
returns-in-9-clause-turned c = ap (λ n. reverse_bits_onto 4 n 0) (sym c.in-9.is)

pub returns-in-10-clause-turned : goal.returns-in-10-clause-turned
unfolding reverse_bits_onto
returns-in-10-clause-turned c = ap (λ n. reverse_bits_onto 4 n 0) (sym c.in-10.is)

pub returns-in-11-clause-turned : goal.returns-in-11-clause-turned
unfolding reverse_bits_onto
returns-in-11-clause-turned c = ap (λ n. reverse_bits_onto 4 n 0) (sym c.in-11.is)

pub returns-in-12-clause-turned : goal.returns-in-12-clause-turned
unfolding reverse_bits_onto
returns-in-12-clause-turned c = ap (λ n. reverse_bits_onto 4 n 0) (sym c.in-12.is)

pub returns-in-13-clause-turned : goal.returns-in-13-clause-turned
unfolding reverse_bits_onto
returns-in-13-clause-turned c = ap (λ n. reverse_bits_onto 4 n 0) (sym c.in-13.is)

pub returns-in-14-clause-turned : goal.returns-in-14-clause-turned
unfolding reverse_bits_onto
returns-in-14-clause-turned c = ap (λ n. reverse_bits_onto 4 n 0) (sym c.in-14.is)

pub returns-in-15-clause-turned : goal.returns-in-15-clause-turned
unfolding reverse_bits_onto
returns-in-15-clause-turned c = ap (λ n. reverse_bits_onto 4 n 0) (sym c.in-15.is)
