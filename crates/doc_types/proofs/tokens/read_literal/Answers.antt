use Rattle.std.proofs.Common.{◌≡◌, ◌+◌, ◌∙◌, sym, ap, drop, get_or, None, Some, arith}
use Rattle.std.proofs.lemmas.List.{drop-drop}
use Rattle.doc_types.specs.Tokens.{body_at, quoted}
use Rattle.doc_types.specs.Bodies.{BodyIs}
use Rattle.doc_types.proofs.TokenReading.{literal_some, literal_none, all_behind}
use Rattle.doc_types.proofs.tokens.read_literal.Goals as goal

pub returns-in-Some : goal.returns-in-Some
returns-in-Some c =
    let text = c.args.text.now in
    let b : BodyIs (get_or text 0 0) (drop 1 text) (Some (c.in-Some.body, c.in-Some.size)) = rw (c.as_bytes-bytes.ensures.value, all_behind text, c.in-Some.is) at c.in_ok-body.ensures in
    let on : 1 + c.in-Some.size ≡ c.in-Some.size + 1 = omega arith in
    sym (literal_some (get_or text 0 0) (drop 1 text) c.in-Some.body.items (drop c.in-Some.size (drop 1 text)) b.1
    ∙ ap (λ l. Some (quoted c.in-Some.body.items, l)) (drop-drop c.in-Some.size 1 text ∙ ap (λ k. drop k text) on ∙ sym c.cut.ensures.rest))

pub returns-in-None : goal.returns-in-None
returns-in-None c =
    let text = c.args.text.now in
    let none : body_at (get_or text 0 0) (drop 1 text) ≡ None = rw (c.as_bytes-bytes.ensures.value, all_behind text, c.in-None.is) at c.in_ok-body.ensures in
    sym (literal_none (get_or text 0 0) (drop 1 text) none)
