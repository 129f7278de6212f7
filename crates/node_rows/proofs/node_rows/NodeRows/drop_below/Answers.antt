use Rattle.std.proofs.Common.{◌≡◌, ◌<◌, suc, ◌+◌, length, ap, ◌∙◌, arith}
use Rattle.document_rows.specs.Reading.{row_at}
use Rattle.node_rows.specs.Kept.{set_at, kept_in, changed_below}
use Rattle.node_rows.specs.TypedRows.{TypedRows, with_rows}
use Rattle.node_rows.proofs.MoreLaws.{changed_more, changed_long, changed_all}
use Rattle.node_rows.proofs.node_rows.NodeRows.drop_below.Goals as goal

pub clear_in-requires : goal.clear_in-requires
clear_in-requires c =
    let n = c.loop-local.local in
    let e : length c.loop-local.self.rows ≡ length c.args.self.now.rows = ap (λ (t : TypedRows). length t.rows) c.loop-local.invariant ∙ changed_long (kept_in c.args.bucket) n c.args.self.now.rows in
    let t = c.loop-local-test.true in
    let s = c.requires in
    omega (arith, e, t, s)

pub loop-local-preserved : goal.loop-local-preserved
loop-local-preserved c =
    let b = c.args.bucket in
    let n = c.loop-local.local in
    let now = c.args.self.now in
    let t = c.loop-local-test.true in
    let s = c.requires in
    let less : n < length now.rows = omega (arith, t, s) in
    let one : suc n ≡ n + 1 = omega arith in
    c.clear_in.ensures ∙ ap (λ (t : TypedRows). with_rows (set_at n (kept_in b (row_at t.rows n)) t.rows) t) c.loop-local.invariant
    ∙ ap (λ rs. with_rows rs now) (changed_more (kept_in b) n now.rows less ∙ ap (λ k. changed_below (kept_in b) k now.rows) one)

pub returns : goal.returns
returns c =
    let b = c.args.bucket in
    let n = c.loop-local.local in
    let now = c.args.self.now in
    let t = c.loop-local-test.false in
    let s = c.requires in
    c.loop-local.invariant ∙ ap (λ rs. with_rows rs now) (changed_all (kept_in b) n now.rows (omega (arith, t, s)))
