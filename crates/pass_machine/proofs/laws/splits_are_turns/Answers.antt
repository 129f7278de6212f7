use Rattle.pass_machine.proofs.PlaceTurns.{split_row, row_stays}
use Rattle.pass_machine.proofs.laws.splits_are_turns.Goals as goal

pub returns-clause-split : goal.returns-clause-split
returns-clause-split c = λ s split_at list w at row note shown same seen full. split_row s split_at same w at row note shown seen full

pub returns-clause-stays : goal.returns-clause-stays
returns-clause-stays c = λ s split_at list w at row note shown same seen few. row_stays s split_at same w at row note shown seen few
