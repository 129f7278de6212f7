use Rattle.std.proofs.Common.{Option, sym, ap, subst}
use Rattle.bucket_db.specs.declared.row.Row.{Row}
use Rattle.pass_model.specs.Rows as rest
use Rattle.pass_model.specs.Turns as turns
use Rattle.pass_model.specs.Turns.{stand, by_row, activate_then}
use Rattle.pass_machine.specs.declared.doing.Doing.TheVariants.{ResendingActivate, ResentActivate}
use Rattle.pass_machine.specs.Turns.{resending_activate, resent_activate}
use Rattle.pass_machine.specs.Abstract.{Activates}
use Rattle.pass_machine.proofs.ResentActivates.{sends_active, notes_active}
use Rattle.pass_machine.proofs.laws.activates_are_turns.Goals as goal

pub returns-clause-sent : goal.returns-clause-sent
returns-clause-sent c = λ v s made notes w at row shown found seen serving.
    subst (λ (o : Option Row). Activates v s w row shown (ResendingActivate at) (resending_activate v at o)) (sym found) (sends_active v s w at row shown seen serving)

pub returns-clause-noted : goal.returns-clause-noted
returns-clause-noted c = λ v s made notes w at row shown taken found seen some.
    subst (λ (o : Option Row). Activates v s w row shown (ResentActivate at taken) (resent_activate at taken o)) (sym found) (notes_active v s w at row shown seen taken some)

pub returns-clause-over : goal.returns-clause-over
returns-clause-over c = λ v s made notes w at none gone. (
  ap (resending_activate v at) none,
  ap (λ (o : Option rest.Row). by_row o (stand (turns.Rounding 0) w) (activate_then (turns.ResentActivate at) w)) gone,
)
