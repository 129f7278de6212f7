use Rattle.std.proofs.Common.{◌≡◌, ◌∙◌, ◌++◌, ◌-◌, ◌+◌, ap, ap₂, sym, subst, take, drop, suc, get_or, arith, OnOk}
use Rattle.std.specs.List.{splice}
use Rattle.std.proofs.lemmas.List.{append_assoc}
use Rattle.pieces.specs.declared.piece.Piece.{Piece}
use Rattle.pieces.specs.Pieces.{parts}
use Rattle.pieces.proofs.PlaceLaws.{split_at-parts}
use Rattle.pieces.proofs.changes.split_pieces.Goals as goal

pub returns-clause-ok : goal.returns-clause-ok
returns-clause-ok c =
    let ps = c.args.pieces.now.items in
    let k = c.args.at in
    let x = c.index-piece.result.now in
    let b = c.args.bucket in
    let s = c.args.serial in
    let made : c.push_parts.new.all.items ≡ parts (b.bits - x.bucket.bits) x.bucket b s x.ready = c.in_ok-push_parts.ensures ∙ ap (λ xs. xs ++ parts (b.bits - x.bucket.bits) x.bucket b s x.ready) c.new-parts.ensures.items in
    let here : x ≡ get_or ps k x = c.index-piece.ensures in
    let one : k + 1 ≡ suc k = omega arith in
    subst (λ xs. OnOk c.replace_between.result (c.replace_between.new.pieces.items ≡ xs))
    (ap₂ (λ n xs. splice ps k n xs) one (made ∙ ap (λ (y : Piece). parts (b.bits - y.bucket.bits) y.bucket b s y.ready) here)
    ∙ sym (append_assoc (take k ps) (parts (b.bits - (get_or ps k x).bucket.bits) (get_or ps k x).bucket b s (get_or ps k x).ready) (drop (suc k) ps))
    ∙ split_at-parts b s ps k x c.requires) c.replace_between.ensures.ok
