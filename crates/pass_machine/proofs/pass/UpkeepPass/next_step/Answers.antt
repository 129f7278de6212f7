use Rattle.std.proofs.Common.{◌≤◌, List, length, sym, subst}
use Rattle.bucket_db.specs.declared.row.Row.{Row}
use Rattle.pass_machine.specs.Going.{Awaits, left}
use Rattle.pass_machine.proofs.Allowing.{says_allowed}
use Rattle.pass_machine.proofs.Nearer.{says_awaits, goes_nearer}
use Rattle.pass_machine.proofs.Overs.{view_of}
use Rattle.pass_machine.proofs.pass.UpkeepPass.next_step.Goals as goal

pub returns-clause-awaits : goal.returns-clause-awaits
returns-clause-awaits c =
    let x = view_of c.args.part.now c.requires.heard in
    subst (λ (rows : List Row). Awaits (length rows) c.next_of.result c.next_of.new.doing) (sym (x.1).rows)
    (says_awaits x.0 c.args.self.now.made c.args.self.now.notes.by_number c.next_of.new.doing c.next_of.result (c.next_of.ensures.says x.0 x.1))

pub returns-clause-allowed : goal.returns-clause-allowed
returns-clause-allowed c = λ v sees.
    says_allowed v c.args.self.now.notes.by_number c.args.self.now.made c.next_of.new.doing c.next_of.result (c.next_of.ensures.says v sees)

pub returns-clause-nearer : goal.returns-clause-nearer
returns-clause-nearer c = λ most few.
    let x = view_of c.args.part.now c.requires.heard in
    subst (λ (rows : List Row). length rows ≤ most → left most (length rows) c.next_of.new.doing ≤ left most (length rows) c.args.self.now.doing) (sym (x.1).rows)
    (λ small. goes_nearer x.0 c.args.self.now.made c.args.self.now.notes.by_number most small c.args.self.now.doing c.next_of.new.doing (c.next_of.ensures.goes x.0 x.1)) few
