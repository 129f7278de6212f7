use Rattle.std.proofs.Common.{◌∙◌, sym, ap, cond}
use Rattle.entry_maps.specs.Slots.{slots_in}
use Rattle.entry_maps.proofs.AloneLaws.{documents_alone}
use Rattle.entry_maps.proofs.CountLaws.{documents_all}
use Rattle.entry_maps.proofs.KeptLaws.{apart_of}
use Rattle.entry_maps.proofs.kept.Kept.documents.Goals as goal

pub returns-then-has_document : goal.returns-then-has_document
returns-then-has_document c = rw (c.in-One.is) (sym (documents_alone c.in-One.entry ∙ ap (λ b. cond b 1 0) (sym c.has_document.ensures ∙ c.if-has_document.true)))

pub returns-else-has_document : goal.returns-else-has_document
returns-else-has_document c = rw (c.in-One.is) (sym (documents_alone c.in-One.entry ∙ ap (λ b. cond b 1 0) (sym c.has_document.ensures ∙ c.if-has_document.false)))

pub returns-in-Rows : goal.returns-in-Rows
returns-in-Rows c =
    let stored = rw c.in-Rows.is at c.requires in
    let slots = slots_in c.in-Rows.stored in
    rw c.in-Rows.is (stored.counted.documents ∙ sym (documents_all slots (apart_of slots stored.kept)))
