use Rattle.std.proofs.Common.{◌∙◌, sym, refl}
use Rattle.lane_states.specs.LaneStates.{part_of}
use Rattle.proof_basics.proofs.Results.{if_ok, on_err}
use Rattle.lane_lines.proofs.ClosedParts.{some-rows}
use Rattle.lane_lines.specs.Readying.{search_from}
use Rattle.lane_lines.proofs.RowsFound.{no-rows}
use Rattle.lane_lines.proofs.readying.find_row.Goals as goal

pub fill_row-requires-clause-opened : goal.fill_row-requires-clause-opened
fill_row-requires-clause-opened g c =
    some-rows (part_of c.args.lane.now c.args.distributor).rows (sym c.if-has_rows.true ∙ c.has_rows.ensures)

pub fill_row-requires-clause-free : goal.fill_row-requires-clause-free
fill_row-requires-clause-free g c = c.requires.free (some-rows (part_of c.args.lane.now c.args.distributor).rows (sym c.if-has_rows.true ∙ c.has_rows.ensures))

pub open_row-requires-clause-unopened : goal.open_row-requires-clause-unopened
open_row-requires-clause-unopened g c =
    no-rows (part_of c.args.lane.now c.args.distributor).rows (sym c.if-has_rows.false ∙ c.has_rows.ensures)

pub returns-then-has_rows-clause-goes_on : goal.returns-then-has_rows-clause-goes_on
returns-then-has_rows-clause-goes_on g c =
    if_ok c.fill_row.result (λ end h. λ line o s stamp w e. h line o s stamp w e (search_from c.args.lane.now) (λ k m s. s) (λ b. refl)) c.fill_row.ensures.goes_on

pub returns-then-has_rows-clause-finds : goal.returns-then-has_rows-clause-finds
returns-then-has_rows-clause-finds g c =
    if_ok c.fill_row.result (λ end h. λ line o s stamp w e. h line o s stamp w e (search_from c.args.lane.now) (λ k m s. s) (λ b. refl)) c.fill_row.ensures.finds

pub returns-then-has_rows-clause-cut : goal.returns-then-has_rows-clause-cut
returns-then-has_rows-clause-cut g c =
    on_err c.fill_row.result (λ h. λ line o s stamp w e. h line o s stamp w e (search_from c.args.lane.now) (λ k m s. s) (λ b. refl)) c.fill_row.ensures.cut
