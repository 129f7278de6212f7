use Rattle.std.proofs.Common.{◌∷◌, drop, drop-cons, add-one, suc, sym, ap, ◌∙◌}
use Rattle.serde_json.specs.Find.{get_member}
use Rattle.line_values.specs.View.{members_view}
use Rattle.line_values.proofs.Members.{member_here, member_later}
use Rattle.line_values.proofs.line_value.member.Goals as goal

pub returns-then-eq : goal.returns-then-eq
returns-then-eq c =
    let all = c.args.members.now in
    let i = c.loop-entry.entry-index in
    let e = c.entry-item.result in
    let left = ap (λ es. get_member c.args.key.now (members_view es)) (drop-cons all i e c.loop-entry-test.true ∙ ap (λ x. x ∷ drop (suc i) all) (sym c.entry-item.is)) in
    sym (member_here c.args.key.now e (drop (suc i) all) (sym c.eq.ensures ∙ c.if-eq.true)) ∙ sym left ∙ c.loop-entry.invariant

pub loop-entry-preserved : goal.loop-entry-preserved
loop-entry-preserved c =
    let all = c.args.members.now in
    let i = c.loop-entry.entry-index in
    let e = c.entry-item.result in
    let left = ap (λ es. get_member c.args.key.now (members_view es)) (drop-cons all i e c.loop-entry-test.true ∙ ap (λ x. x ∷ drop (suc i) all) (sym c.entry-item.is)) in
    ap (λ n. get_member c.args.key.now (members_view (drop n all))) (add-one i)
    ∙ sym (member_later c.args.key.now e (drop (suc i) all) (sym c.eq.ensures ∙ c.if-eq.false))
    ∙ sym left ∙ c.loop-entry.invariant
