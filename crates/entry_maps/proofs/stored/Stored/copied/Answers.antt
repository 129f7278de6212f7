use Rattle.std.proofs.Common.{◌≡◌, ◌+◌, ◌-◌, ◌<◌, ◌++◌, min, length, get_or, take, drop, refl, ap, sym, ◌∙◌, add-one, append_assoc, arith}
use Rattle.std.proofs.lemmas.List.{take_rest, length-drop}
use Rattle.entry_rows.specs.Chunks.{place, flat_before}
use Rattle.entry_maps.specs.Slots.{slots_in}
use Rattle.entry_rows.proofs.ChunkLists.{take_along, next_row, row_within}
use Rattle.entry_rows.proofs.ChunkLaws.{seat_row}
use Rattle.entry_maps.proofs.stored.Stored.copied.Goals as goal

pub loop-left-preserved : goal.loop-left-preserved
loop-left-preserved c =
    let list = c.args.self.now.list in
    let all = slots_in c.args.self.now in
    let rows = list.rows.items in
    let inv = c.loop-left.invariant in
    let i = c.loop-left.seat.row in
    let a = c.loop-left.seat.at in
    let left = c.loop-left.left in
    let many = c.min-many.result in
    let lt : i < length rows = seat_row list c.loop-left.seat inv.1 (omega (arith, inv.2, c.loop-left-test.true)) in
    let d = c.index.result.now in
    let row = (get_or rows i d).items in
    let within : a < length row = inv.1.row lt d in
    let lent = c.deref.result.now in
    let slice : take (length lent - a) (drop a lent) ≡ drop a row = take_rest lent a ∙ ap (drop a) (c.deref.ensures.value ∙ ap (λ r. r.items) c.index.ensures) in
    let few : many ≡ min left (length (drop a row)) = c.min-many.ensures ∙ ap (λ l. min left (length l)) slice in
    let next : length (flat_before list (i + 1)) ≡ length (flat_before list i) + length row = ap (λ k. length (flat_before list k)) (add-one i) ∙ next_row (λ r. r.items) rows i d lt in
    let part = slots_in c.loop-left.part in
    let rest = take (left - many) (drop (place list (record { row = i + 1; at = 0 })) all) in (
      c.in_ok-append_copies.ensures.counted,
      record { within = omega (arith, lt); last = λ _. refl; row = λ lt2 e. c.requires.stored.counted.some (i + 1) e lt2 },
      omega (arith, inv.2, next, few, within, length-drop a row, row_within (λ r. r.items) rows i d lt),
      ap (λ l. l ++ rest) (c.in_ok-append_copies.ensures.ok ∙ ap (λ l. part ++ take many l) slice) ∙ append_assoc part (take many (drop a row)) rest
          ∙ ap (λ l. part ++ l) (sym (take_along (λ r. r.items) rows i a left many (left - many) d lt (omega (arith, within)) (omega (arith, few)) (omega (arith, few)) (λ less. omega (arith, few, less)))) ∙ inv.3,
    )
