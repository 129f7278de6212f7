use Rattle.std.proofs.Common.{rules, ◌≡◌, ◌∙◌, List, sym, ap}
use Rattle.std.specs.List.{remove}
use Rattle.pieces.specs.declared.piece.Piece.{Piece}
use Rattle.pieces.specs.Pieces.{without}
use Rattle.pieces.specs.Holdings.{Holding}
use Rattle.pieces.proofs.Laid.{IsLaid-filter}
use Rattle.pieces.proofs.Serials.{AreUpTo-filter}
use Rattle.pieces.proofs.ToldLaws.{refused, delete-refused, delete-differs, delete-accepted, without-at}
use Rattle.pieces.specs.Pieces.{holds, is_exactly}
use Rattle.pieces.proofs.PieceLaws.{any_found}
use Rattle.pieces.proofs.KeyLaws.{holds-delete}
use Rattle.pieces.proofs.laid_pieces.LaidPieces.delete.Goals as goal

pub returns-in_default-clause-told : goal.returns-in_default-clause-told
returns-in_default-clause-told c =
    refused _ c.args.bucket c.args.self.now.pieces _ c.unless_met.ensures
    (delete-refused c.args.bucket c.args.serial c.args.self.now.pieces (rw (← c.self.view_is) (rw c.deref.ensures.value at c.in_default.ensures.none)))

pub returns-then-index-serial-clause-told : goal.returns-then-index-serial-clause-told
returns-then-index-serial-clause-told c =
    let some = rw c.deref.ensures.value at c.in-Some.ensures.some in
    rw (← c.self.view_is) (delete-differs c.runs_are_known.ensures c.args.bucket c.in-Some.ensures.valid c.args.serial c.self.inside.pieces.items c.self.invariant.laid c.in-Some.at c.index.result.now some c.index.ensures c.if-index-serial.true)

pub invariant_of-self : goal.invariant_of-self
invariant_of-self c =
    let some = rw c.deref.ensures.value at c.in-Some.ensures.some in
    let same : without c.args.bucket c.self.inside.pieces.items ≡ remove c.self.inside.pieces.items c.in-Some.at
    = without-at c.runs_are_known.ensures c.args.bucket c.in-Some.ensures.valid c.self.inside.pieces.items c.self.invariant.laid c.in-Some.at c.index.result.now some in
    record { laid = rw (c.remove.ensures.items, ← same) (IsLaid-filter _ 0 _ c.self.invariant.laid); up_to = rw (c.remove.ensures.items, ← same) (AreUpTo-filter _ _ _ c.self.invariant.up_to) }

pub returns-clause-ok : goal.returns-clause-ok
returns-clause-ok c =
    let some = rw c.deref.ensures.value at c.in-Some.ensures.some in
    let whole : List Piece → Holding = λ ps. record { pieces = ps; serial = c.self.inside.serial } in
    rw (← c.self.view_is) (ap whole (c.remove.ensures.items ∙ sym (without-at c.runs_are_known.ensures c.args.bucket c.in-Some.ensures.valid c.self.inside.pieces.items c.self.invariant.laid c.in-Some.at c.index.result.now some)))

pub returns-clause-told : goal.returns-clause-told
returns-clause-told c =
    let some = rw c.deref.ensures.value at c.in-Some.ensures.some in
    rw (← c.self.view_is) (delete-accepted c.args.bucket c.args.serial c.self.inside.pieces.items c.in-Some.at c.index.result.now some c.index.ensures (search rules))

pub returns-clause-keys : goal.returns-clause-keys
returns-clause-keys c = λ key small.
    let some = rw c.deref.ensures.value at c.in-Some.ensures.some in
    let laws = c.runs_are_known.ensures in
    let gone = c.remove.ensures.items ∙ sym (without-at laws c.args.bucket c.in-Some.ensures.valid c.self.inside.pieces.items c.self.invariant.laid c.in-Some.at c.index.result.now some) in
    let there = any_found (is_exactly c.args.bucket) c.self.inside.pieces.items c.in-Some.at c.index.result.now some.within (some.exact c.index.result.now) in
    rw (← c.self.view_is) (ap (holds key) gone ∙ holds-delete laws key small c.args.bucket c.in-Some.ensures.valid 0 c.self.inside.pieces.items c.self.invariant.laid there)
