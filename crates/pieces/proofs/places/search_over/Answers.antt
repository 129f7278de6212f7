use Rattle.std.proofs.Common.{rules, ◌∙◌, sym, false}
use Rattle.pieces.specs.declared.piece.Piece.{Piece}
use Rattle.pieces.specs.Pieces.{does_meet, is_over}
use Rattle.pieces.proofs.Finding.{none_sub}
use Rattle.pieces.proofs.PlaceLaws.{any-over, over_sub, IsFirstOver-met}
use Rattle.pieces.proofs.places.search_over.Goals as goal

pub returns-then-is_over_at-clause-some : goal.returns-then-is_over_at-clause-some
returns-then-is_over_at-clause-some c = IsFirstOver-met _ _ _ c.in-Some.ensures.some (λ d. sym c.if-is_over_at.true ∙ c.is_over_at.ensures d)

pub returns-else-is_over_at-clause-none : goal.returns-else-is_over_at-clause-none
returns-else-is_over_at-clause-none c =
    let d : Piece = record { bucket = c.args.bucket; serial = 0; ready = false } in
    any-over c.runs_are_known.ensures c.args.bucket c.in-Some.ensures.valid c.args.pieces.now c.requires c.in-Some.at d c.in-Some.ensures.some ∙ sym (c.is_over_at.ensures d) ∙ search rules

pub returns-in_default-clause-none : goal.returns-in_default-clause-none
returns-in_default-clause-none c = none_sub (is_over c.args.bucket) (does_meet c.args.bucket) (over_sub c.args.bucket) _ c.in_default.ensures.none
