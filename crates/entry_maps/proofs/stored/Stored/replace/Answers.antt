use Rattle.std.proofs.Common.{ap, arith}
use Rattle.std.proofs.lemmas.List.{length-set}
use Rattle.entry_rows.specs.Slots.{has_document}
use Rattle.entry_maps.specs.Slots.{slots_in}
use Rattle.entry_rows.specs.Chunks.{place}
use Rattle.entry_maps.proofs.StoredLaws.{renewed_entries, renewed_kept, renewed_count, one_if}
use Rattle.entry_maps.proofs.stored.Stored.replace.Goals as goal

pub returns-clause-entries : goal.returns-clause-entries
returns-clause-entries c = rw c.replace.ensures.slots (renewed_entries _ _ c.args.slot c.requires.stored.kept c.requires.there)

pub returns-clause-stored : goal.returns-clause-stored
returns-clause-stored c =
    let slots = slots_in c.args.self.now in
    let at = place c.args.self.now.list c.args.seat in
    let old = c.requires.stored.counted in
    let count = renewed_count slots at c.args.slot c.at.result.now c.requires.there.within in
    record {
      kept = rw c.replace.ensures.slots (renewed_kept slots at c.args.slot c.requires.stored.kept c.requires.placed c.requires.there);
      counted = record {
        some = c.replace.ensures.some;
        many = rw c.replace.ensures.slots (omega (arith, length-set slots at c.args.slot, old.many));
        few = old.few;
        documents = rw c.replace.ensures.slots (omega (arith, c.counted-self.ensures, ap one_if c.has_document-before.ensures, ap (λ r. one_if (has_document r)) c.at.ensures, ap one_if c.has_document-after.ensures, count, old.documents));
      };
    }
