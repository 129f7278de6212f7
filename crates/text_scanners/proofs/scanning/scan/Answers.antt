use Rattle.std.proofs.Common.{arith, sym}
use Rattle.text_scanners.proofs.Prefixes.{refused_at}
use Rattle.text_scanners.proofs.scanning.scan.Goals as goal

pub returns-in-None-clause-refused : goal.returns-in-None-clause-refused
returns-in-None-clause-refused g c =
    let so = c.loop-offset.invariant in
    refused_at _ _ _ _ (omega (arith, so.0)) (sym c.index-letters-offset.is) so.1.1 (c.in-None.ensures.stops _ so.1.0)
