use Rattle.std.proofs.Common.{◌∙◌, Option, sym, ap, subst}
use Rattle.bucket_db.specs.declared.row.Row.{Row}
use Rattle.pass_machine.specs.declared.doing.Doing.TheVariants.{Settling}
use Rattle.pass_machine.specs.declared.doing.Turn.{Turn}
use Rattle.pass_machine.specs.declared.notes.RowNote.{RowNote}
use Rattle.pass_machine.specs.Turns.{by_row, by_note}
use Rattle.pass_machine.specs.Abstract.{Refines}
use Rattle.pass_machine.proofs.SettleTurns.{settle_refines}
use Rattle.pass_machine.proofs.laws.settling_is_turns.Goals as goal

pub returns : goal.returns
returns c = λ v s made list notes w t at r note shown next are_made ideals whole p.
    subst (λ (x : Turn). Refines v s list w r note shown (Settling t at next) x)
    (sym (ap (λ (o : Option Row). by_row v made notes t at o next) p.found ∙ ap (λ (o : Option RowNote). by_note v made t at r o next) whole))
    (settle_refines v s made list are_made w t at r note shown ideals next p)
