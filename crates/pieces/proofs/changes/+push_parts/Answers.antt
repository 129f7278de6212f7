use Rattle.std.proofs.Common.{◌≡◌, ◌∙◌, ◌<◌, ◌++◌, ◌-◌, ap, sym, [], ◌∷◌, arith, subst, OnOk, true, false}
use Rattle.std.proofs.lemmas.List.{append_assoc}
use Rattle.bucket_ids.specs.Buckets.{first_child, second_child, covers}
use Rattle.pieces.specs.declared.piece.Piece.{Piece}
use Rattle.pieces.specs.Pieces.{parts}
use Rattle.pieces.proofs.PlaceLaws.{parts-first, parts-second}
use Rattle.pieces.proofs.changes.+push_parts.Goals as goal

pub returns-then-covers : goal.returns-then-covers
returns-then-covers n c =
    let a = c.args.from in
    let b = c.args.to in
    let q : Piece = record { bucket = second_child a; serial = c.args.serial; ready = c.args.ready } in
    let less : a.bits < b.bits = (let n = c.if-bits.false in let x = c.bits.ensures.value in let y = c.bits-2.ensures.value in let r = c.requires in omega arith) in
    let over : covers (first_child a) b ≡ true = rw c.children-first.ensures.first at (sym c.covers.ensures.test ∙ c.if-covers.true) in
    let grown : c.push_parts.new.all.items ≡ c.args.all.now.items ++ parts (b.bits - (first_child a).bits) (first_child a) b c.args.serial c.args.ready = rw c.children-first.ensures.first at c.in_ok-push_parts.ensures in
    let more : c.push-then-covers.new.self.items ≡ c.push_parts.new.all.items ++ q ∷ [] = rw c.children-first.ensures.second at c.in_ok-push-2.ensures.items in
    more ∙ ap (λ xs. xs ++ q ∷ []) grown ∙ append_assoc c.args.all.now.items (parts (b.bits - (first_child a).bits) (first_child a) b c.args.serial c.args.ready) (q ∷ [])
    ∙ ap (λ xs. c.args.all.now.items ++ xs) (parts-first a b c.args.serial c.args.ready less over)

pub returns : goal.returns
returns n c =
    let a = c.args.from in
    let b = c.args.to in
    let q : Piece = record { bucket = first_child a; serial = c.args.serial; ready = c.args.ready } in
    let less : a.bits < b.bits = (let n = c.if-bits.false in let x = c.bits.ensures.value in let y = c.bits-2.ensures.value in let r = c.requires in omega arith) in
    let over : covers (first_child a) b ≡ false = rw c.children-first.ensures.first at (sym c.covers.ensures.test ∙ c.if-covers.false) in
    let more : c.push-2.new.self.items ≡ c.args.all.now.items ++ q ∷ [] = rw c.children-first.ensures.first at c.in_ok-push-3.ensures.items in
    let end = rw c.children-first.ensures.second at c.push_parts-2.ensures in
    subst (λ xs. OnOk c.push_parts-2.result (c.push_parts-2.new.all.items ≡ xs))
    (ap (λ xs. xs ++ parts (b.bits - (second_child a).bits) (second_child a) b c.args.serial c.args.ready) more
    ∙ append_assoc c.args.all.now.items (q ∷ []) (parts (b.bits - (second_child a).bits) (second_child a) b c.args.serial c.args.ready)
    ∙ ap (λ xs. c.args.all.now.items ++ xs) (parts-second a b c.args.serial c.args.ready less over)) end
