use Rattle.std.proofs.Common.{◌≡◌, length, ap, ◌∙◌, arith, rules}
use Rattle.node_rows.specs.Kept.{document_in, documents_in}
use Rattle.node_rows.proofs.PlaceLaws.{shown_set, shown_more}
use Rattle.node_rows.proofs.node_rows.set_row.Goals as goal

pub returns-then-at-len : goal.returns-then-at-len
returns-then-at-len c =
    let n : c.len.result ≡ length c.args.rows.now.items = search rules in
    let t = c.if-at-len.true in
    shown_set document_in c.args.rows.now.items c.args.at c.args.entry (omega (arith, n, t))

pub returns-else-at-len : goal.returns-else-at-len
returns-else-at-len c =
    let n : c.len.result ≡ length c.args.rows.now.items = search rules in
    let t = c.if-at-len.false in
    ap documents_in c.push_reserved.ensures.items ∙ shown_more document_in c.args.rows.now.items c.args.at c.args.entry (omega (arith, n, t))
