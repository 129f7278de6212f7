use Rattle.std.proofs.Common.{◌<◌, ◌+◌, ◌++◌, length, get_or, set, insert, ap, ap₂, ◌∙◌, arith}
use Rattle.std.proofs.lemmas.List.{take-append-drop, length-take-le, length-drop}
use Rattle.entry_rows.proofs.ChunkLists.{halved, halves_some}
use Rattle.entry_rows.proofs.chunks.Chunks.halve.Goals as goal

pub returns-clause-slots : goal.returns-clause-slots
returns-clause-slots c =
    let rows = c.args.self.now.rows.items in
    let e = c.index_mut.result.now in
    let is = c.in-Ok-insert.ensures.items ∙ ap (λ l. insert (set l c.args.row c.split_off.new.self) (c.args.row + 1) c.in-Ok-split_off.tail) c.reserve.ensures.items in
    let row = c.index_mut.ensures.value ∙ ap (λ l. get_or l c.args.row e) c.reserve.ensures.items in
    let both = ap₂ (λ a b. a ++ b) c.in-Ok-split_off.ensures.items c.in-Ok-split_off.ensures.tail ∙ take-append-drop 64 e.items ∙ ap (λ r. r.items) row in
    rw is (halved (λ r. r.items) rows c.args.row c.split_off.new.self c.in-Ok-split_off.tail c.requires.row e both)

pub returns-clause-some : goal.returns-clause-some
returns-clause-some c =
    let e = c.index_mut.result.now in
    let is = c.in-Ok-insert.ensures.items ∙ ap (λ l. insert (set l c.args.row c.split_off.new.self) (c.args.row + 1) c.in-Ok-split_off.tail) c.reserve.ensures.items in
    let row = c.index_mut.ensures.value ∙ ap (λ l. get_or l c.args.row e) c.reserve.ensures.items in
    let long : 64 < length e.items = omega (arith, c.requires.long e, ap (λ r. length r.items) row) in
    rw is (halves_some (λ r. r.items) c.args.self.now.rows.items c.args.row c.split_off.new.self c.in-Ok-split_off.tail c.requires.row c.requires.some
    (omega (arith, ap length c.in-Ok-split_off.ensures.items, length-take-le 64 e.items (omega (arith, long))))
    (omega (arith, ap length c.in-Ok-split_off.ensures.tail, length-drop 64 e.items, long)))
