use Rattle.std.proofs.Common.{rules, ◌∙◌, sym, false}
use Rattle.pieces.specs.declared.piece.Piece.{Piece}
use Rattle.pieces.specs.Pieces.{does_meet, is_over, is_exactly}
use Rattle.pieces.proofs.Finding.{none_sub}
use Rattle.pieces.proofs.PlaceLaws.{any-exact, exact_sub, over_sub}
use Rattle.pieces.proofs.places.place_of.Goals as goal

pub returns-else-is_at-clause-none : goal.returns-else-is_at-clause-none
returns-else-is_at-clause-none c =
    let d : Piece = record { bucket = c.args.bucket; serial = 0; ready = false } in
    any-exact c.runs_are_known.ensures c.args.bucket c.in-Some.ensures.valid c.args.pieces.now c.requires c.in-Some.at d c.in-Some.ensures.some ∙ sym (c.is_at.ensures d) ∙ search rules

pub returns-in_default-clause-none : goal.returns-in_default-clause-none
returns-in_default-clause-none c = none_sub (is_exactly c.args.bucket) (is_over c.args.bucket) (exact_sub c.args.bucket c.in_default.ensures.valid) _ (none_sub (is_over c.args.bucket) (does_meet c.args.bucket) (over_sub c.args.bucket) _ c.in_default.ensures.none)
