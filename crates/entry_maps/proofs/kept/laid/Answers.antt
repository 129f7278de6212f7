use Rattle.std.proofs.Common.{◌∙◌, ap, ap₂}
use Rattle.entry_maps.specs.Entries.{with_entry}
use Rattle.entry_maps.specs.Slots.{entries_of}
use Rattle.entry_maps.proofs.KeptLaws.{kept_none}
use Rattle.entry_maps.proofs.AloneLaws.{with_alone}
use Rattle.entry_maps.proofs.kept.laid.Goals as goal

pub put-requires-clause-stored : goal.put-requires-clause-stored
put-requires-clause-stored c = record { kept = rw c.new-stored.ensures.slots kept_none; counted = c.new-stored.ensures.counted }

pub returns-clause-entries : goal.returns-clause-entries
returns-clause-entries c =
    c.in_ok-put.ensures.ok ∙ ap₂ with_entry (ap entries_of c.new-stored.ensures.slots) c.in_ok-copy.ensures ∙ with_alone c.args.entry.now
