use Rattle.std.proofs.Common.{◌≡◌, ◌++◌, ◌∙◌, sym, ap, length, take, string_bytes, arith}
use Rattle.std.proofs.lemmas.List.{take_all, append_assoc}
use Rattle.cluster_states.specs.StateTexts.{marks_text, mark_text}
use Rattle.cluster_states.specs.declared.marks.Mark.TheVariants.{Down}
use Rattle.cluster_states.proofs.TextSizes.{marks_text-more}
use Rattle.cluster_states.proofs.texts.push_marks.Goals as goal

pub returns : goal.returns
returns c =
    let all : length c.args.marks ≡ c.loop-number.number = omega (arith, c.len-number-end.ensures.value) in
    c.loop-number.invariant ∙ ap (λ l. string_bytes c.args.text.now ++ marks_text c.args.role.now 0 l) (take_all c.loop-number.number c.args.marks (omega (arith, all)))

pub loop-number-preserved : goal.loop-number-preserved
loop-number-preserved c =
    let old = string_bytes c.args.text.now in
    let role = c.args.role.now in
    let n = c.loop-number.number in
    c.in_ok-push_mark.ensures ∙ ap (λ l. l ++ mark_text role n c.at.result) c.loop-number.invariant
    ∙ append_assoc old (marks_text role 0 (take n c.args.marks)) (mark_text role n c.at.result)
    ∙ ap (λ m. old ++ (marks_text role 0 (take n c.args.marks) ++ mark_text role n m)) c.at.ensures
    ∙ ap (λ l. old ++ l) (sym (marks_text-more role c.args.marks n Down (omega (arith, c.len-number-end.ensures.value))))
