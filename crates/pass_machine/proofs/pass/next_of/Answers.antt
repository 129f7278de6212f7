use Rattle.std.proofs.Common.{◌∙◌, ◌<◌, ◌≤◌, ℕ, List, length, sym, subst, arith}
use Rattle.bucket_db.specs.declared.row.Row.{Row}
use Rattle.pass_machine.specs.Going.{left, Stays}
use Rattle.pass_machine.proofs.Nearer.{over_nearer, goes_nearer}
use Rattle.pass_machine.proofs.Overs.{goes_more, goes_on, view_of}
use Rattle.pass_machine.proofs.pass.next_of.Goals as goal

pub loop-next-init : goal.loop-next-init
loop-next-init c = λ v sees. Stays c.args.doing.now

pub loop-next-smaller : goal.loop-next-smaller
loop-next-smaller c =
    let x = view_of c.args.part.now c.requires.heard in
    let many = length (x.0).rows in
    let skip = goes_nearer x.0 c.args.made.now c.args.notes.now.by_number many (omega arith) c.loop-next.doing c.skipped.result (c.skipped.ensures x.0 x.1 c.args.made.now) in
    let over = over_nearer x.0 c.args.made.now c.args.notes.now.by_number many (omega arith) c.skipped.result c.in-Over.next (sym (c.turn.ensures x.0 x.1) ∙ c.in-Over.is) in
    subst (λ (rows : List Row). left (length rows) (length rows) c.in-Over.next < left (length rows) (length rows) c.loop-next.doing) (sym (x.1).rows)
    (nearest (left many many c.in-Over.next) (left many many c.skipped.result) (left many many c.loop-next.doing) over skip)
  where
    nearest : (a b d : ℕ) → a < b → b ≤ d → a < d
    nearest a b d h g = omega (arith, h, g)

pub loop-next-preserved : goal.loop-next-preserved
loop-next-preserved c = λ v sees.
    goes_more v c.args.made.now c.args.notes.now.by_number c.args.doing.now c.skipped.result c.in-Over.next
    (goes_on v c.args.made.now c.args.notes.now.by_number c.args.doing.now c.loop-next.doing c.skipped.result (c.loop-next.invariant v sees) (c.skipped.ensures v sees c.args.made.now))
    (sym (c.turn.ensures v sees) ∙ c.in-Over.is)

pub returns-in-Says-clause-goes : goal.returns-in-Says-clause-goes
returns-in-Says-clause-goes c = λ v sees.
    goes_on v c.args.made.now c.args.notes.now.by_number c.args.doing.now c.loop-next.doing c.skipped.result (c.loop-next.invariant v sees) (c.skipped.ensures v sees c.args.made.now)
