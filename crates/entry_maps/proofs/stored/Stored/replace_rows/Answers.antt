use Rattle.std.proofs.Common.{ap, length, arith, count_by}
use Rattle.entry_rows.specs.Chunks.{flat_before, flat_behind, flat_of}
use Rattle.entry_rows.specs.Slots.{has_document}
use Rattle.entry_maps.specs.Slots.{slots_in}
use Rattle.entry_maps.proofs.CountLaws.{length_three, documents_three}
use Rattle.entry_rows.proofs.RowLaws.{in_three}
use Rattle.entry_maps.proofs.stored.Stored.replace_rows.Goals as goal

pub overflow_sub-entries : goal.overflow_sub-entries
overflow_sub-entries c =
    let list = c.args.self.now.list in
    let three = in_three (λ r. r.items) list.rows.items c.args.rows.from c.args.rows.to c.requires.rows.rising in
    omega (arith, ap length three, length_three (flat_before list c.args.rows.from) (flat_of list c.args.rows) (flat_behind list c.args.rows.to), ap length c.requires.part, c.requires.counted.many, c.requires.part_counted.many)

pub overflow_sub-documents : goal.overflow_sub-documents
overflow_sub-documents c =
    let list = c.args.self.now.list in
    let three = in_three (λ r. r.items) list.rows.items c.args.rows.from c.args.rows.to c.requires.rows.rising in
    omega (arith, ap (count_by has_document) three, documents_three (flat_before list c.args.rows.from) (flat_of list c.args.rows) (flat_behind list c.args.rows.to), ap (count_by has_document) c.requires.part, c.requires.counted.documents, c.requires.part_counted.documents)

pub returns-clause-counted : goal.returns-clause-counted
returns-clause-counted c =
    let list = c.args.self.now.list in
    let front = flat_before list c.args.rows.from in
    let mid = flat_of list c.args.rows in
    let back = flat_behind list c.args.rows.to in
    let others = slots_in c.args.others in
    let three = in_three (λ r. r.items) list.rows.items c.args.rows.from c.args.rows.to c.requires.rows.rising in
    record {
      some = c.in_ok-replace_rows.ensures.some;
      many = omega (arith, ap length three, length_three front mid back, ap length c.requires.part, c.requires.counted.many, c.requires.part_counted.many, ap length c.in_ok-replace_rows.ensures.ok, length_three front others back, c.requires.others.many);
      few = omega (arith, c.if-entries.false);
      documents = omega (arith, ap (count_by has_document) three, documents_three front mid back, ap (count_by has_document) c.requires.part, c.requires.counted.documents, c.requires.part_counted.documents, ap (count_by has_document) c.in_ok-replace_rows.ensures.ok, documents_three front others back, c.requires.others.documents);
    }
