use Rattle.std.proofs.Common.{◌≡◌, refl, arith}
use Rattle.bucket_ids.specs.Printed.{number_of}
use Rattle.bucket_db.proofs.Inside.{number_same}
use Rattle.bucket_db.proofs.changes.may_join.Goals as goal

pub returns : goal.returns
returns c =
    let number : number_of c.args.other.now.bucket ≡ number_of c.args.sibling = omega (arith, c.number_of.ensures.value, c.number_of-2.ensures.value, c.if-number_of.false) in
    let same = number_same c.args.other.now.bucket c.args.sibling c.number_of.ensures.valid c.number_of-2.ensures.valid number in
    (λ t. (same, (c.same_active.ensures.0 t, c.if-not-at_most_one.ensures.0 refl)), λ may. c.same_active.ensures.1 may.1.0)
