use Rattle.std.proofs.Common.{◌≡◌, ◌<◌, ◌+◌, ◌-◌, suc, ◌∙◌, sym, ap, ap₂, arith, length, drop, get_or, Some}
use Rattle.std.proofs.lemmas.List.{append-nil}
use Rattle.doc_types.specs.Tokens.{body_at, with_byte}
use Rattle.doc_types.proofs.BodyReading.{with_front}
use Rattle.doc_types.proofs.BodyReading.{body_ends, body_meant, meant, front_more}
use Rattle.doc_types.proofs.literals.body_at.Goals as goal

pub returns-then-bytes-at : goal.returns-then-bytes-at
returns-then-bytes-at c =
    let at = c.loop-at.at in
    let bytes = c.args.bytes.now in
    let lt : at < length bytes = omega arith in
    let on : suc at ≡ at + 1 = omega arith in
    let last : at + 1 - 1 ≡ at = omega arith in (
      (omega arith, (omega (arith, lt), ap (λ k. get_or bytes k 0) last ∙ c.if-bytes-at.true)),
      sym c.loop-at.invariant.1 ∙ ap (with_front c.loop-at.body.items) (body_ends bytes at c.args.quote lt c.if-bytes-at.true)
          ∙ ap₂ (λ l k. Some (l, drop k bytes)) (append-nil c.loop-at.body.items) on,
    )

pub loop-at-preserved : goal.loop-at-preserved
loop-at-preserved c =
    let at = c.loop-at.at in
    let bytes = c.args.bytes.now in
    let place = c.in-Some.place in
    let lt : at < length bytes = omega arith in
    let on : suc place ≡ place + 1 = omega arith in
    let front = c.loop-at.body.items in (
      omega (arith, c.in-Some.ensures.within),
      rw c.in_ok-push-in-Some.ensures.items (
          front_more front (get_or bytes place 0) (body_at c.args.quote (drop (place + 1) bytes))
          ∙ ap (λ k. with_front front (with_byte (get_or bytes place 0) (body_at c.args.quote (drop k bytes)))) (sym on)
          ∙ ap (with_front front) (sym (body_meant bytes at c.args.quote lt c.if-bytes-at.false ∙ ap (meant c.args.quote bytes) (sym c.in-Some.ensures.place)))
          ∙ c.loop-at.invariant.1),
    )
