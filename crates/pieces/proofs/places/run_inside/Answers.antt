use Rattle.std.proofs.Common.{rules, ◌∙◌, sym, arith, false}
use Rattle.pieces.specs.declared.piece.Piece.{Piece}
use Rattle.pieces.specs.Pieces.{does_meet, is_inside}
use Rattle.pieces.proofs.Finding.{none_sub}
use Rattle.pieces.proofs.PlaceLaws.{IsRunInside-run, none-inside, none-run, inside_sub}
use Rattle.pieces.proofs.places.run_inside.Goals as goal

pub returns-then-from-to-clause-none : goal.returns-then-from-to-clause-none
returns-then-from-to-clause-none c = none_sub (is_inside c.args.bucket) (does_meet c.args.bucket) (inside_sub c.args.bucket) _ (none-run _ _ _ _ c.run_of-from.ensures.run c.if-from-to.true)

pub returns-then-is_inside_at-clause-some : goal.returns-then-is_inside_at-clause-some
returns-then-is_inside_at-clause-some c = IsRunInside-run c.runs_are_known.ensures c.args.bucket c.run_of-from.ensures.valid _ c.requires _ _ c.run_of-from.ensures.run (let n = c.if-from-to.false in omega arith) (λ d. sym c.if-is_inside_at.true ∙ c.is_inside_at.ensures d)

pub returns-else-is_inside_at-clause-none : goal.returns-else-is_inside_at-clause-none
returns-else-is_inside_at-clause-none c =
    let d : Piece = record { bucket = c.args.bucket; serial = 0; ready = false } in
    none-inside c.runs_are_known.ensures c.args.bucket c.run_of-from.ensures.valid _ c.requires _ _ d c.run_of-from.ensures.run (let n = c.if-from-to.false in omega arith) (sym (c.is_inside_at.ensures d) ∙ search rules)
