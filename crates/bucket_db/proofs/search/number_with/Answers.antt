use Rattle.std.proofs.Common.{◌^◌, arith, pow_pos}
use Rattle.std.proofs.lemmas.Nat.{mod_below}
use Rattle.bucket_db.proofs.Inside.{pow_le}
use Rattle.bucket_db.proofs.search.number_with.Goals as goal

pub overflow_add-result : goal.overflow_add-result
overflow_add-result c =
    let small = mod_below c.args.key (2 ^ c.args.bits) (pow_pos c.args.bits) in
    let most = pow_le c.args.bits 58 c.requires in
    omega (arith, small, most, c.low_bits.ensures)
