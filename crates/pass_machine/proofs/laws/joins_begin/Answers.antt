use Rattle.std.proofs.Common.{◌∙◌, ℕ, suc, [], Option, sym, ap}
use Rattle.pass_model.specs.Rows as rest
use Rattle.pass_model.specs.Turns as turns
use Rattle.pass_model.specs.Turns.{stand, by_row, round_of}
use Rattle.pass_machine.proofs.Levels.{levels_same}
use Rattle.pass_machine.proofs.laws.joins_begin.Goals as goal

pub returns-clause-levels : goal.returns-clause-levels
returns-clause-levels c = λ lane bits rows rs h are. levels_same lane bits rows rs h are

pub returns-clause-rounded : goal.returns-clause-rounded
returns-clause-rounded c = λ v s list w at h are none.
    ap (λ (o : Option rest.Row). by_row o (turns.begin_joins turns.First w) (λ q. stand (turns.Rounding (suc at)) (round_of s at q w))) none
    ∙ ap (λ (k : ℕ). stand (turns.Joining turns.First 58 k) w) (sym (levels_same v.lane 58 v.rows w.rows h are))

pub returns-clause-settled : goal.returns-clause-settled
returns-clause-settled c = λ v s w at h are none.
    ap (λ (o : Option rest.Row). by_row o (turns.end_settling turns.First w) (turns.settle_next turns.First at w)) none
    ∙ ap (λ (k : ℕ). stand (turns.Joining (turns.Again []) 58 k) w) (sym (levels_same v.lane 58 v.rows w.rows h are))
