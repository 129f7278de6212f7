use Rattle.std.proofs.Common.{◌≡◌, List, ◌++◌, take, map}
use Rattle.serde_json.specs.View.{view as owned, members_view as members_owned}
use Rattle.serde_json.proofs.Views.{Entry}
use Rattle.line_values.specs.View.{view, members_view}
use Rattle.line_values.proofs.lending.+lent.Given as goal

abbrev pub invariant-lent_items-loop-item : goal.invariant-lent_items-loop-item
invariant-lent_items-loop-item l = map view l.list.items ≡ map owned (take l.item-index l.item-items)

abbrev pub invariant-lent_members-loop-key : goal.invariant-lent_members-loop-key
invariant-lent_members-loop-key l =
    (done : List Entry) × (l.members.entries ≡ done ++ l.key-iterator) × (members_view l.list.items ≡ members_owned done)
