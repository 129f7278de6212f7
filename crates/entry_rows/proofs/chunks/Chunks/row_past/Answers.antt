use Rattle.std.proofs.Common.{◌≡◌, ◌∙◌, ◌+◌, ◌<◌, ◌≤◌, suc, ap, length, get_or, arith}
use Rattle.std.proofs.lemmas.Map.Keys.{Less-from_sorted}
use Rattle.entry_rows.specs.Chunks.{flat, flat_before, place}
use Rattle.entry_rows.specs.Order.{IsLower, slot_cmp}
use Rattle.entry_rows.proofs.ChunkLists.{element, next_row}
use Rattle.entry_rows.proofs.RowLaws.{above_mark, all_behind}
use Rattle.entry_rows.proofs.chunks.Chunks.row_past.Goals as goal

pub returns-then-seat-len-clause-above : goal.returns-then-seat-len-clause-above
returns-then-seat-len-clause-above c =
    let self = c.args.self.now in
    let rows = self.rows.items in
    let seat = c.settled-seat.result in
    let last = c.args.slot.now in
    let id : c.text.result.now ≡ last.entry.id = c.text.ensures.text ∙ ap (λ e. e.id) c.entry.ensures in
    let from = rw id at c.first_from.ensures.from in
    let there : seat.row < length rows = omega arith in
    let row = element rows seat.row there in
    let at = place self c.first_from.result in
    let next : length (flat_before self (seat.row + 1)) ≡ length (flat_before self seat.row) + length (get_or rows seat.row row).items = omega (arith, next_row (λ r. r.items) rows seat.row row there, ap (λ n. length (flat_before self n)) (let e : seat.row + 1 ≡ suc seat.row = omega arith in e)) in
    let within = c.settled-seat.ensures.seat.row there row in
    let past : at + 1 ≤ length (flat_before self (seat.row + 1)) = omega (arith, next, within, c.settled-seat.ensures.same) in
    all_behind (λ r. r.items) rows (λ s. IsLower last s) (seat.row + 1) (at + 1) past
    (λ k d low high. above_mark (get_or (flat self) at d) (get_or (flat self) k d) last (from at d (omega arith) (omega arith)) (Less-from_sorted slot_cmp (flat self) at k d c.requires.rising (omega arith) high))
