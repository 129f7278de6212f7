use Rattle.std.proofs.Common.{◌≡◌, true, ◌-◌, length, refl, sym, arith}
use Rattle.std.proofs.lemmas.Option.{slice_get_within}
use Rattle.bucket_ids.specs.Buckets.{has_key}
use Rattle.bucket_db.proofs.RowLists.{exists_row, level_done, one_row, row_bits, some_with}
use Rattle.bucket_db.proofs.search.place_of.Goals as goal

pub loop-bits-init : goal.loop-bits-init
loop-bits-init c k row found has =
    let least = row_bits c.args.rows.now 0 k c.in-Some-Some.first.now row c.requires.valid c.requires.rising (sym c.in-Some-Some.ensures.value) found (omega arith) in
    omega (arith, least, c.bits-bits.ensures.value)

pub returns-then-has_at-clause-only : goal.returns-then-has_at-clause-only
returns-then-has_at-clause-only c at row found has =
    let other = some_with c.args.rows.now c.first_from-at.result (λ r. has_key r.bucket c.args.key ≡ true) (c.if-has_at.ensures.within refl) (c.if-has_at.ensures.yes refl) in
    one_row c.args.rows.now c.args.key at c.first_from-at.result row other.0 (omega (arith, c.requires.one)) found other.1.0 has other.1.1

pub loop-bits-preserved : goal.loop-bits-preserved
loop-bits-preserved c k row found has =
    level_done c.args.rows.now c.args.key c.loop-bits.bits c.number_with.result c.first_from-at.result c.number_with.ensures
    c.requires.valid c.requires.rising c.first_from-at.ensures.before c.first_from-at.ensures.from (c.if-has_at.ensures.no refl) k row found has (c.loop-bits.invariant k row found has)

pub unreachable-requires-2 : goal.unreachable-requires-2
unreachable-requires-2 c =
    let one = exists_row c.args.rows.now c.args.key c.requires.one in
    let least = c.loop-bits.invariant one.0 one.1.0 one.1.1 one.1.2 in
    let inside = slice_get_within c.args.rows.now one.0 one.1.0 one.1.1 in
    let most = row_bits c.args.rows.now one.0 (length c.args.rows.now - 1) one.1.0 c.in-Some-Some.last.now c.requires.valid c.requires.rising one.1.1
    (sym c.in-Some-Some.ensures'.value) (omega (arith, inside)) in
    omega (arith, least, most, c.bits-bits-end.ensures.value)
