use Rattle.std.proofs.Common.{◌≡◌, true, take}
use Rattle.std.specs.List.{list_all}
use Rattle.std.specs.FinMap as fin
use Rattle.documents.specs.Fields.{pairs}
use Rattle.node_rows.specs.Kept.{pair_fits}
use Rattle.node_rows.proofs.fitting.all_fit.Given as goal

abbrev pub invariant-loop-at : goal.invariant-loop-at
invariant-loop-at l = list_all (pair_fits (fin.get l.schema l.type_name)) (take l.at (pairs l.fields)) ≡ true
