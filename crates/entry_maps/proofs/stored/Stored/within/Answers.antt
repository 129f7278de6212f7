use Rattle.std.proofs.Common.{◌∙◌}
use Rattle.entry_maps.specs.Entries.{in_bucket}
use Rattle.entry_maps.specs.Runs.{IsRun}
use Rattle.bucket_ids.specs.Paths.{first_path, last_path}
use Rattle.entry_maps.specs.Slots.{lies_in, slots_in}
use Rattle.entry_maps.proofs.RunLaws.{run_law, inside, filtered_entries, IsKept-filter}
use Rattle.entry_maps.proofs.stored.Stored.within.Goals as goal

pub returns-clause-stored : goal.returns-clause-stored
returns-clause-stored c =
    let b = c.args.bucket in
    let list = c.args.self.now.list in
    let run : IsRun list (first_path b) (last_path b) c.run.result = rw (c.run-first.ensures.first, c.run-first.ensures.last) at c.run.ensures in
    let slots = c.in_ok-part.ensures.slots ∙ inside (run_law c.buckets_are_runs.ensures.run c.keys_locate.ensures.small) b list c.run.result c.run-first.ensures.valid c.requires.stored.kept.placed run in
    record { kept = rw slots (IsKept-filter (lies_in b) (slots_in c.args.self.now) c.requires.stored.kept); counted = c.in_ok-part.ensures.counted }

pub returns-clause-entries : goal.returns-clause-entries
returns-clause-entries c =
    let b = c.args.bucket in
    let list = c.args.self.now.list in
    let run : IsRun list (first_path b) (last_path b) c.run.result = rw (c.run-first.ensures.first, c.run-first.ensures.last) at c.run.ensures in
    let slots = c.in_ok-part.ensures.slots ∙ inside (run_law c.buckets_are_runs.ensures.run c.keys_locate.ensures.small) b list c.run.result c.run-first.ensures.valid c.requires.stored.kept.placed run in
    rw slots (filtered_entries (in_bucket b) (slots_in c.args.self.now))
