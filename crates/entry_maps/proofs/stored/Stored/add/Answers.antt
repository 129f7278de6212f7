use Rattle.std.proofs.Common.{ap, arith}
use Rattle.std.proofs.lemmas.List.Edits.{length-insert}
use Rattle.entry_maps.specs.Slots.{slots_in}
use Rattle.entry_rows.specs.Chunks.{place}
use Rattle.entry_maps.proofs.StoredLaws.{added_entries, added_kept, added_count, one_if}
use Rattle.entry_maps.proofs.stored.Stored.add.Goals as goal

pub returns-clause-ok : goal.returns-clause-ok
returns-clause-ok c = rw c.in_ok-insert.ensures.ok (added_entries _ _ _ c.requires.none)

pub returns-clause-stored : goal.returns-clause-stored
returns-clause-stored c =
    let slots = slots_in c.args.self.now in
    let at = place c.args.self.now.list c.args.spot in
    let old = c.requires.stored.counted in
    let spot = c.requires.spot in
    record {
      kept = rw c.in_ok-insert.ensures.ok (added_kept slots at c.args.slot c.requires.stored.kept c.requires.placed c.requires.none spot.within spot.before spot.from);
      counted = record {
        some = c.in_ok-insert.ensures.some;
        many = rw c.in_ok-insert.ensures.ok (omega (arith, length-insert slots at c.args.slot spot.within, old.many));
        few = omega (arith, c.if-self.false);
        documents = rw c.in_ok-insert.ensures.ok (omega (arith, c.counted-self.ensures, ap one_if c.has_document-more.ensures, added_count slots at c.args.slot, old.documents));
      };
    }
