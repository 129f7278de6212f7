use Rattle.std.proofs.Common.{◌≡◌, ◌≢◌, ◌⊎◌, length, get_or, refl, subst}
use Rattle.words_line.proofs.Numerals.{not_plain, read_plain}
use Rattle.words_line.proofs.numbers.plain_number.Goals as goal

pub returns-then-not-has_plain_front : goal.returns-then-not-has_plain_front
returns-then-not-has_plain_front c = not_plain c.args.text.now
    (subst (λ bs. (get_or bs 0 0 ≡ 43) ⊎ ((get_or bs 0 0 ≡ 48) × (length bs ≢ 1))) c.as_bytes.ensures.value (c.if-not-has_plain_front.ensures.odd refl))

pub returns : goal.returns
returns c =
    let front = subst (λ bs. (get_or bs 0 0 ≢ 43) × (get_or bs 0 0 ≡ 48 → length bs ≡ 1)) c.as_bytes.ensures.value (c.if-not-has_plain_front.ensures.plain refl) in
    rw c.ok.ensures.value (read_plain _ c.args.text.now c.parse.result c.parse.ensures.value.0 front.0 front.1)
