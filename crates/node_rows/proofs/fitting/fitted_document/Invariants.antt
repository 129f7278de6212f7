use Rattle.std.proofs.Common.{◌≡◌, List, ℕ, None, take, cond}
use Rattle.std.specs.FinMap as fin
use Rattle.documents.specs.Fields.{pairs}
use Rattle.node_rows.specs.Kept.{is_unfit}
use Rattle.node_rows.proofs.fitting.fitted_document.Given as goal

abbrev pub invariant-loop-at : goal.invariant-loop-at
invariant-loop-at l = (l.copy.id ≡ l.document.id)
    × ((f : List ℕ) → fin.get l.copy.fields f ≡ cond (is_unfit (fin.get l.schema l.name) f (take l.at (pairs l.fields))) None (fin.get l.document.fields f))
