use Rattle.std.proofs.Common.{◌≡◌, ◌∙◌, ◌++◌, ◌+◌, suc, sym, ap, arith, length, take, drop}
use Rattle.std.proofs.lemmas.List.{length-append, length-take-le, length-drop}
use Rattle.std.specs.List.{filter}
use Rattle.entry_rows.specs.Chunks.{place}
use Rattle.entry_rows.specs.Slots.{has_document}
use Rattle.entry_maps.specs.Slots.{slots_in}
use Rattle.entry_maps.proofs.RunLaws.{IsKept-filter}
use Rattle.entry_maps.proofs.StoredLaws.{one_if}
use Rattle.entry_maps.proofs.RemovalLaws.{is_other, left_is, left_count, removed_entries}
use Rattle.entry_maps.proofs.stored.Stored.take_out.Goals as goal

pub returns-clause-entries : goal.returns-clause-entries
returns-clause-entries c =
    let slots = slots_in c.args.self.now in
    let at = place c.args.self.now.list c.args.seat in
    let past : place c.args.self.now.list c.next-past.result ≡ suc at = omega (arith, c.next-past.ensures.next) in
    let left = c.cut.ensures.slots ∙ ap (λ k. take at slots ++ drop k slots) past ∙ left_is slots c.args.id.now at c.at.result.now c.requires.stored.kept c.requires.there in
    rw left (removed_entries slots c.args.id.now)

pub returns-clause-stored : goal.returns-clause-stored
returns-clause-stored c =
    let slots = slots_in c.args.self.now in
    let at = place c.args.self.now.list c.args.seat in
    let past : place c.args.self.now.list c.next-past.result ≡ suc at = omega (arith, c.next-past.ensures.next) in
    let cut = c.cut.ensures.slots ∙ ap (λ k. take at slots ++ drop k slots) past in
    let left = cut ∙ left_is slots c.args.id.now at c.at.result.now c.requires.stored.kept c.requires.there in
    let old = c.requires.stored.counted in
    let within = c.requires.there.within in
    record {
      kept = rw left (IsKept-filter (is_other c.args.id.now) slots c.requires.stored.kept);
      counted = record {
        some = c.cut.ensures.some;
        many = omega (arith, ap length cut, length-append (take at slots) (drop (suc at) slots), length-take-le at slots (omega (arith, within)), length-drop (suc at) slots, old.many, within);
        few = omega (arith, old.few);
        documents = rw cut (omega (arith, c.counted-self.ensures, ap one_if c.has_document-gone.ensures, ap (λ r. one_if (has_document r)) c.at.ensures, left_count slots c.args.id.now at c.at.result.now c.requires.there, old.documents));
      };
    }
