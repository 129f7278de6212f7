use Rattle.std.proofs.Common.{◌∙◌, rules, sym}
use Rattle.entry_rows.specs.Chunks.{place}
use Rattle.entry_maps.specs.Kept.{kept_entries}
use Rattle.entry_maps.specs.Slots.{slots_in}
use Rattle.entry_maps.proofs.NewerLaws.{none_newer, one_newer}
use Rattle.entry_maps.proofs.stored.Stored.has_newer.Goals as goal

pub returns-then-is_newer-clause-some : goal.returns-then-is_newer-clause-some
returns-then-is_newer-clause-some c = λ _.
    one_newer (kept_entries c.args.there.now) (slots_in c.args.self.now) (place c.args.self.now.list c.loop-slot.at) c.in-Some.slot.now c.requires.own.kept c.in-Some.ensures.within c.in-Some.ensures.slot
    (sym c.is_newer.ensures ∙ c.if-is_newer.true)

pub returns-clause-none : goal.returns-clause-none
returns-clause-none c = λ _. none_newer (kept_entries c.args.there.now) (slots_in c.args.self.now) (search rules)
