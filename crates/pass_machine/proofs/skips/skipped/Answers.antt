use Rattle.std.proofs.Common.{◌≡◌, ◌∙◌, Some, List, slice_get, refl, sym, ap, subst}
use Rattle.bucket_db.specs.declared.row.Row.{Row}
use Rattle.distributor_part.proofs.PartLaws.{row_at}
use Rattle.pass_machine.specs.declared.doing.Doing.{Doing}
use Rattle.pass_machine.specs.declared.doing.Doing.TheVariants.{Settling}
use Rattle.pass_machine.specs.Going.{GoesOver, Stays}
use Rattle.pass_machine.specs.Notes.{note_for, whole_in}
use Rattle.pass_machine.proofs.skips.skipped.Goals as goal

pub returns-in_default : goal.returns-in_default
returns-in_default c = λ v sees made. Stays c.args.doing

pub returns-in_default-get : goal.returns-in_default-get
returns-in_default-get c = λ v sees made.
    let here = Settling c.in-Settling.time c.in-Settling.at c.in-Settling.next in
    subst (λ (d : Doing). GoesOver v made c.args.notes.now.by_number d here) (sym c.in-Settling.is) (Stays here)

pub returns-in_default-whole : goal.returns-in_default-whole
returns-in_default-whole c = λ v sees made.
    let here = Settling c.in-Settling.time c.in-Settling.at c.in-Settling.next in
    subst (λ (d : Doing). GoesOver v made c.args.notes.now.by_number d here) (sym c.in-Settling.is) (Stays here)

pub returns : goal.returns
returns c = λ v sees made.
    let has : slice_get v.rows c.in-Settling.at ≡ Some c.in-Some-get.row.now =
    ap (λ (rows : List Row). slice_get rows c.in-Settling.at) (sym (c.rows.ensures.list ∙ sees.rows))
    ∙ row_at c.rows.result.now c.rows.result.now c.in-Settling.at c.in-Some-get.row.now c.in-Some-get.ensures.lookup.3.0 refl c.in-Some-get.ensures.lookup.1 in
    let whole : whole_in (note_for c.in-Some-get.row.now.bucket c.args.notes.now.by_number) ≡ Some c.in-Some-whole.note.now = sym c.in-Some-whole.ensures.exact in
    subst (λ (d : Doing). GoesOver v made c.args.notes.now.by_number d (Settling c.in-Settling.time c.in-Settling.at c.past_silent.result)) (sym c.in-Settling.is)
    (c.past_silent.ensures v sees has made c.args.notes.now.by_number whole c.in-Settling.time)
