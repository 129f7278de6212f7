use Rattle.std.proofs.Common.{sym, subst}
use Rattle.entry_maps.specs.Entries.{AreSingle}
use Rattle.entry_maps.specs.Slots.{slots_in}
use Rattle.entry_maps.proofs.KeptLaws.{apart_of}
use Rattle.entry_maps.proofs.RemovalLaws.{pairs_single}
use Rattle.entry_maps.proofs.stored.Stored.listed.Goals as goal

pub returns-clause-single : goal.returns-clause-single
returns-clause-single c =
    let slots = slots_in c.args.self.now in
    let pairs_of = rw c.deref.ensures.value at c.in_ok-list.ensures in
    subst AreSingle (sym pairs_of) (pairs_single slots (apart_of slots c.requires.kept))
