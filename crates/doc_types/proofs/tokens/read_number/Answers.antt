use Rattle.std.proofs.Common.{◌≡◌, ◌==◌, ◌∙◌, sym, ap, drop, Some, rules}
use Rattle.std.proofs.lemmas.List.{drop-drop}
use Rattle.doc_types.specs.Tokens.{integer, digits_at}
use Rattle.doc_types.proofs.NumberReading.{all_from, number_some, number_none}
use Rattle.doc_types.proofs.tokens.read_number.Goals as goal

pub returns-in-Some : goal.returns-in-Some
returns-in-Some c =
    let text = c.args.text.now in
    let skip = c.args.skip in
    let is = rw (c.as_bytes.ensures.value, all_from skip text) at c.in-Some.ensures.value in
    let read : Some (integer c.in-Some.number, c.cut.result.1.now) ≡ digits_at (skip == 1) (drop skip text) =
    ap (λ l. Some (integer c.in-Some.number, l)) (c.cut.ensures.rest ∙ sym (drop-drop c.in-Some.size skip text)) ∙ number_some (skip == 1) (drop skip text) c.in-Some.number c.in-Some.size is in
    search (rules, read)

pub returns-in-None : goal.returns-in-None
returns-in-None c = number_none (c.args.skip == 1) (drop c.args.skip c.args.text.now) (rw (c.as_bytes.ensures.value, all_from c.args.skip c.args.text.now) at c.in-None.ensures.value)
