use Rattle.std.proofs.Common.{◌∙◌, sym, arith}
use Rattle.entry_maps.specs.Slots.{slots_in}
use Rattle.entry_maps.proofs.SlotLists.{get-entries_of}
use Rattle.entry_maps.proofs.StoredLaws.{found_first, none_but_first, none_in_none}
use Rattle.entry_maps.proofs.stored.Stored.only.Goals as goal

pub returns-then-is_of : goal.returns-then-is_of
returns-then-is_of c =
    let slots = slots_in c.args.self.now in
    let slot = c.in-Some.slot.now in
    let is = rw c.first.ensures.first at c.in-Some.ensures.slot in
    sym (get-entries_of slots c.args.id.now ∙ found_first slots c.args.id.now slot c.requires.stored.kept (omega (arith, c.in-Some.ensures.within)) is (c.is_of.ensures.its c.if-is_of.true))

pub returns-else-is_of : goal.returns-else-is_of
returns-else-is_of c =
    let slots = slots_in c.args.self.now in
    let slot = c.in-Some.slot.now in
    let is = rw c.first.ensures.first at c.in-Some.ensures.slot in
    sym (get-entries_of slots c.args.id.now ∙ none_but_first slots c.args.id.now slot (omega (arith, c.requires.few, c.requires.stored.counted.many)) (omega (arith, c.in-Some.ensures.within)) is (c.is_of.ensures.other c.if-is_of.false))

pub returns-in-None : goal.returns-in-None
returns-in-None c =
    let slots = slots_in c.args.self.now in
    sym (get-entries_of slots c.args.id.now ∙ none_in_none slots c.args.id.now (omega (arith, c.in-None.ensures.none, c.first.ensures.first)))
