use Rattle.std.proofs.Common.{◌<◌, ◌+◌, ◌*◌, ◌-◌, sym, subst}
use Rattle.pass_machine.specs.declared.doing.Doing.{Doing}
use Rattle.pass_machine.specs.Going.{behind_joins, left, AreLeft}
use Rattle.pass_machine.proofs.Numbers.{join_nearer}
use Rattle.pass_machine.proofs.pass.decided_of.Goals as goal

pub returns-in-RowsJoined-clause-nearer : goal.returns-in-RowsJoined-clause-nearer
returns-in-RowsJoined-clause-nearer c = λ most before le h.
    let x = subst (λ (d : Doing). AreLeft before c.args.many d) c.in-Joining.is h in
    subst (λ (d : Doing). behind_joins c.in-Joining.time * (most + 2) + (c.in-Joining.bits * (40 * (most + 2)) + ((c.args.many - c.in-Joining.at) * 40 + 35)) < left most before d) (sym c.in-Joining.is)
    (join_nearer (behind_joins c.in-Joining.time * (most + 2)) (c.in-Joining.bits * (40 * (most + 2))) c.in-Joining.at before c.args.many x.0 x.1)
