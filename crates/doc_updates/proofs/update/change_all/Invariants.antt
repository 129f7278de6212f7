use Rattle.std.proofs.Common.{◌≡◌, drop}
use Rattle.doc_updates.specs.Updates.{pairs, all_changed}
use Rattle.doc_updates.proofs.update.change_all.Given as goal

-- what is left makes of the fields so far what all make of those at first
abbrev pub invariant-loop-change : goal.invariant-loop-change
invariant-loop-change l =
    (l.document.id ≡ l.initial.document.id)
    × (all_changed (pairs (drop l.change-index l.changes)) l.document.fields ≡ all_changed (pairs l.changes) l.initial.document.fields)
