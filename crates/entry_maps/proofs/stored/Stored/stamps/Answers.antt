use Rattle.std.proofs.Common.{◌∙◌, ap}
use Rattle.entry_maps.specs.Slots.{slots_in}
use Rattle.entry_maps.specs.Stamps.{rising_of}
use Rattle.entry_maps.proofs.KeptLaws.{apart_of}
use Rattle.entry_maps.proofs.StampLaws.{stamps-slots}
use Rattle.entry_maps.proofs.stored.Stored.stamps.Goals as goal

pub returns : goal.returns
returns c =
    let slots = slots_in c.args.self.now in
    let listed = rw c.deref.ensures.value at c.in_ok-stamps_in.ensures in
    c.rising.ensures ∙ ap rising_of listed ∙ stamps-slots slots (apart_of slots c.requires.kept)
