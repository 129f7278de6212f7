use Rattle.std.specs.Option.{option_copied}
use Rattle.view_changes.specs.Serving.{rows_of}
use Rattle.group_counts.proofs.SlotLaws.{number-read}
use Rattle.group_counts.proofs.slots.read_field.Goals as goal

pub returns-clause-number : goal.returns-clause-number
returns-clause-number g c = λ d is.
    number-read (rows_of c.args.hit.node (g.V.Lists.seen c.args.view.now)) c.args.hit.local c.args.field.now d (option_copied c.value_at.result) c.number_of.result c.number_of.ensures.value
    (c.value_at.ensures c.args.type_name.now c.lend-lent.ensures.column) is
