use Rattle.std.proofs.Common.{◌≡◌, ◌∷◌, true, false, sym, ap, ◌∙◌}
use Rattle.fast_float.specs.Text.{scan}
use Rattle.serde_json.specs.Read.{number_of, number_from}
use Rattle.line_values.proofs.Texts.{behind_minus, without_minus, of_nothing}
use Rattle.line_values.proofs.numbers.number_of.Goals as goal

pub returns-in_default : goal.returns-in_default
returns-in_default c =
    let text = c.as_bytes-bytes.result.now in
    c.from_zero.ensures ∙ ap (number_from false) c.scan.ensures.parts ∙ sym (of_nothing text c.in_default.ensures.cases) ∙ ap number_of c.as_bytes-bytes.ensures.value

pub returns-then-first-eq45 : goal.returns-then-first-eq45
returns-then-first-eq45 c =
    let behind = c.in-Some.behind.now in
    let text : c.as_bytes-bytes.result.now ≡ 45 ∷ behind = c.in-Some.ensures.cases.0 ∙ ap (λ first. first ∷ behind) c.if-first-eq45.true in
    c.below_zero.ensures ∙ ap (number_from true) c.scan-then-first-eq45.ensures.parts ∙ sym (behind_minus behind) ∙ ap number_of (sym text ∙ c.as_bytes-bytes.ensures.value)

pub returns-else-first-eq45 : goal.returns-else-first-eq45
returns-else-first-eq45 c =
    let text = c.in-Some.ensures.cases.0 in
    c.from_zero-else-first-eq45.ensures
    ∙ ap (number_from false) (c.scan-else-first-eq45.ensures.parts ∙ ap scan text)
    ∙ sym (without_minus c.in-Some.first.now c.in-Some.behind.now c.if-first-eq45.false)
    ∙ ap number_of (sym text ∙ c.as_bytes-bytes.ensures.value)
