use Rattle.std.proofs.Common.{◌∙◌, ap, arith, not, length, take, drop, count_by}
use Rattle.std.proofs.lemmas.List.{length-append, length-take-le, length-drop}
use Rattle.bucket_ids.specs.Paths.{first_path, last_path}
use Rattle.entry_rows.specs.Chunks.{place}
use Rattle.entry_maps.specs.Entries.{in_bucket}
use Rattle.entry_maps.specs.Runs.{IsRun}
use Rattle.entry_rows.specs.Slots.{has_document}
use Rattle.entry_maps.specs.Slots.{lies_in, slots_in}
use Rattle.entry_maps.proofs.RunLaws.{run_law, inside, outside, filtered_entries, IsKept-filter, counts-filter}
use Rattle.entry_maps.proofs.stored.Stored.remove_within.Goals as goal

pub overflow_sub-self-2 : goal.overflow_sub-self-2
overflow_sub-self-2 c =
    let b = c.args.bucket in
    let old = c.args.self.now in
    let run : IsRun old.list (first_path b) (last_path b) c.run-run.result = rw (c.run-first.ensures.first, c.run-first.ensures.last) at c.run-run.ensures in
    let gone = inside (run_law c.buckets_are_runs.ensures.run c.keys_locate.ensures.small) b old.list c.run-run.result c.run-first.ensures.valid c.requires.stored.kept.placed run in
    omega (arith, run.documents, ap (count_by has_document) gone, counts-filter (lies_in b) (slots_in old), c.requires.stored.counted.documents)

pub returns-clause-entries : goal.returns-clause-entries
returns-clause-entries c =
    let b = c.args.bucket in
    let old = c.args.self.now in
    let run : IsRun old.list (first_path b) (last_path b) c.run-run.result = rw (c.run-first.ensures.first, c.run-first.ensures.last) at c.run-run.ensures in
    let left = c.cut.ensures.slots ∙ outside (run_law c.buckets_are_runs.ensures.run c.keys_locate.ensures.small) b old.list c.run-run.result c.run-first.ensures.valid c.requires.stored.kept.placed run in
    rw left (filtered_entries (λ id. not (in_bucket b id)) (slots_in old))

pub returns-clause-stored : goal.returns-clause-stored
returns-clause-stored c =
    let b = c.args.bucket in
    let old = c.args.self.now in
    let slots = slots_in old in
    let law = run_law c.buckets_are_runs.ensures.run c.keys_locate.ensures.small in
    let run : IsRun old.list (first_path b) (last_path b) c.run-run.result = rw (c.run-first.ensures.first, c.run-first.ensures.last) at c.run-run.ensures in
    let gone = inside law b old.list c.run-run.result c.run-first.ensures.valid c.requires.stored.kept.placed run in
    let left = c.cut.ensures.slots ∙ outside law b old.list c.run-run.result c.run-first.ensures.valid c.requires.stored.kept.placed run in
    let i = place old.list c.run-run.result.from in
    let j = place old.list c.run-run.result.to in
    record {
      kept = rw left (IsKept-filter (λ s. not (lies_in b s)) slots c.requires.stored.kept);
      counted = record {
        some = c.cut.ensures.some;
        many = omega (arith, ap length c.cut.ensures.slots, length-append (take i slots) (drop j slots), length-take-le i slots (omega (arith, run.many, run.within)), length-drop j slots, run.many, run.within, c.requires.stored.counted.many);
        few = omega (arith, c.requires.stored.counted.few);
        documents = rw left (omega (arith, run.documents, ap (count_by has_document) gone, counts-filter (lies_in b) slots, c.requires.stored.counted.documents));
      };
    }
