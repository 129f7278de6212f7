use Rattle.std.proofs.Common.{◌≡◌, ◌+◌, ◌-◌, ◌<◌, suc, ap, ◌∙◌, length, get_or, take, arith}
use Rattle.std.specs.List.{flat_map}
use Rattle.std.proofs.lemmas.List.{take_all}
use Rattle.entry_rows.specs.Chunks.{flat, flat_before}
use Rattle.entry_rows.proofs.ChunkLists.{next_row}
use Rattle.entry_rows.proofs.RowLaws.{some_rows}
use Rattle.entry_rows.proofs.chunks.Chunks.last.Goals as goal

pub returns : goal.returns
returns c =
    let self = c.args.self.now in
    let rows = self.rows.items in
    let i = c.len-row.result - 1 in
    let row = c.index.result.now in
    let some : 0 < length rows = some_rows (λ r. r.items) rows c.requires.slots in
    let many : c.len-row.result ≡ length rows = omega (arith, self.rows.ok.0) in
    let all : length (flat_map (λ r. r.items) (take (suc i) rows)) ≡ length (flat self) = ap (λ l. length (flat_map (λ r. r.items) l)) (take_all (suc i) rows (omega (arith, many))) in
    let next : length (flat_map (λ r. r.items) (take (suc i) rows)) ≡ length (flat_before self i) + length (get_or rows i row).items = next_row (λ r. r.items) rows i row (omega (arith, many, some)) in
    let here : row ≡ get_or rows i row = c.index.ensures in
    let long : c.len-at.result ≡ length (get_or rows i row).items = omega (arith, row.ok.0, ap (λ r. length r.items) here) in
    let end : length (flat_before self i) + (c.len-at.result - 1) ≡ length (flat self) - 1 = omega (arith, all, next, long, c.requires.some i row (omega (arith, many, some))) in
    let there : c.at.result.now ≡ get_or (flat self) (length (flat_before self i) + (c.len-at.result - 1)) c.at.result.now = c.at.ensures in
    there ∙ ap (λ n. get_or (flat self) n c.at.result.now) end
