use Rattle.std.proofs.Common.{◌∙◌, sym}
use Rattle.entry_maps.specs.Slots.{slots_in}
use Rattle.entry_maps.proofs.AloneLaws.{len_alone}
use Rattle.entry_maps.proofs.CountLaws.{len_all}
use Rattle.entry_maps.proofs.KeptLaws.{apart_of}
use Rattle.entry_maps.proofs.kept.Kept.entries.Goals as goal

pub returns-in-One : goal.returns-in-One
returns-in-One c = rw c.in-One.is (sym (len_alone c.in-One.field-0))

pub returns-in-Rows : goal.returns-in-Rows
returns-in-Rows c =
    let stored = rw c.in-Rows.is at c.requires in
    let slots = slots_in c.in-Rows.stored in
    rw c.in-Rows.is (stored.counted.many ∙ sym (len_all slots (apart_of slots stored.kept)))
