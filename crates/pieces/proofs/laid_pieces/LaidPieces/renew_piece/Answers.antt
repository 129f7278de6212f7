use Rattle.std.proofs.Common.{◌≡◌, ◌∙◌, ◌+◌, List, ap, set}
use Rattle.pieces.specs.declared.piece.Piece.{Piece}
use Rattle.pieces.specs.Pieces.{holds, with_serial, apply_at}
use Rattle.pieces.specs.Holdings.{Holding}
use Rattle.pieces.proofs.PieceLaws.{apply_at-exact, bucket-same}
use Rattle.pieces.proofs.ApplyLaws.{IsLaid-apply, AreUpTo-apply}
use Rattle.pieces.proofs.KeyLaws.{holds-apply}
use Rattle.pieces.proofs.ToldLaws.{first-exact}
use Rattle.pieces.proofs.laid_pieces.LaidPieces.renew_piece.Goals as goal

pub invariant_of-self : goal.invariant_of-self
invariant_of-self c =
    let some = rw c.deref.ensures.value at c.in-Some.ensures.some in
    let x = c.index_mut.result.now in
    let b = c.args.bucket in
    let ps = c.self.inside.pieces.items in
    let first = first-exact c.runs_are_known.ensures b c.in-Some.ensures.valid ps c.self.invariant.laid c.in-Some.place x some in
    let here : x.bucket ≡ b = ap (λ (y : Piece). y.bucket) c.index_mut.ensures.value ∙ bucket-same _ b (some.exact x) in
    let same : set ps c.in-Some.place (with_serial (c.self.inside.serial + 1) x) ≡ apply_at b (c.self.inside.serial + 1) ps = apply_at-exact b (c.self.inside.serial + 1) ps c.in-Some.place x first c.index_mut.ensures.value here in
    record { laid = rw same (IsLaid-apply c.runs_are_known.ensures b c.in-Some.ensures.valid _ _ c.self.invariant.laid); up_to = rw same (AreUpTo-apply b _ _ c.self.invariant.up_to) }

pub returns-clause-made : goal.returns-clause-made
returns-clause-made c =
    let some = rw c.deref.ensures.value at c.in-Some.ensures.some in
    let x = c.index_mut.result.now in
    let b = c.args.bucket in
    let ps = c.self.inside.pieces.items in
    let first = first-exact c.runs_are_known.ensures b c.in-Some.ensures.valid ps c.self.invariant.laid c.in-Some.place x some in
    let here : x.bucket ≡ b = ap (λ (y : Piece). y.bucket) c.index_mut.ensures.value ∙ bucket-same _ b (some.exact x) in
    let same : set ps c.in-Some.place (with_serial (c.self.inside.serial + 1) x) ≡ apply_at b (c.self.inside.serial + 1) ps = apply_at-exact b (c.self.inside.serial + 1) ps c.in-Some.place x first c.index_mut.ensures.value here in
    let whole : List Piece → Holding = λ ps. record { pieces = ps; serial = c.self.inside.serial + 1 } in
    rw (← c.self.view_is) (ap whole same)

pub returns-clause-keys : goal.returns-clause-keys
returns-clause-keys c = λ key small.
    let some = rw c.deref.ensures.value at c.in-Some.ensures.some in
    let x = c.index_mut.result.now in
    let b = c.args.bucket in
    let ps = c.self.inside.pieces.items in
    let first = first-exact c.runs_are_known.ensures b c.in-Some.ensures.valid ps c.self.invariant.laid c.in-Some.place x some in
    let here : x.bucket ≡ b = ap (λ (y : Piece). y.bucket) c.index_mut.ensures.value ∙ bucket-same _ b (some.exact x) in
    let same : set ps c.in-Some.place (with_serial (c.self.inside.serial + 1) x) ≡ apply_at b (c.self.inside.serial + 1) ps = apply_at-exact b (c.self.inside.serial + 1) ps c.in-Some.place x first c.index_mut.ensures.value here in
    rw (← c.self.view_is) (ap (holds key) same ∙ holds-apply c.runs_are_known.ensures key small b c.in-Some.ensures.valid _ _ c.self.invariant.laid)
