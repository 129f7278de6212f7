use Rattle.std.proofs.Common.{◌≡◌, ◌∙◌, ◌++◌, ◌∷◌, [], ap, subst, OnOk}
use Rattle.std.specs.List.{splice}
use Rattle.pieces.specs.declared.piece.Piece.{Piece}
use Rattle.pieces.proofs.PlaceLaws.{joined-run}
use Rattle.pieces.proofs.changes.join_pieces.Goals as goal

pub returns-clause-ok : goal.returns-clause-ok
returns-clause-ok c =
    let ps = c.args.pieces.now.items in
    let q : Piece = record { bucket = c.args.bucket; serial = c.args.serial; ready = c.is_any_ready-ready.result } in
    let one : c.push.new.self.items ≡ q ∷ [] = c.in_ok-push.ensures.items ∙ ap (λ xs. xs ++ q ∷ []) c.new-joined.ensures.items in
    subst (λ xs. OnOk c.replace_between.result (c.replace_between.new.pieces.items ≡ xs))
    (ap (splice ps c.args.from c.args.to) one
    ∙ joined-run c.args.bucket c.args.serial ps c.args.from c.args.to c.requires q (ap (λ r. record { bucket = c.args.bucket; serial = c.args.serial; ready = r }) (rw c.deref.ensures.value at c.is_any_ready-ready.ensures)))
    c.replace_between.ensures.ok
