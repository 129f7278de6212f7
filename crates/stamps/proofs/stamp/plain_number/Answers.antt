use mathlib.Core.Bool.{true≢false}
use Rattle.std.proofs.Common.{◌≡◌, ◌<◌, ℕ, true, false, List, [], ◌∷◌, get_or, nat_lt, sym, ◌∙◌, subst, arith}
use Rattle.std.proofs.lemmas.Bool.Decides.{nat_tests}
use Rattle.std.proofs.lemmas.Fmt.{decimal_digit}
use Rattle.std.proofs.lemmas.Slice.Eq.{bytes_eq-Decides}
use Rattle.stamps.proofs.TextLaws.{read_plain, none_plain}
use Rattle.stamps.proofs.stamp.plain_number.Goals as goal

lower : (a b : ℕ) → nat_lt a b ≡ true → a < b
lower a b e = grind (arith, nat_tests)

pub returns-then-eq : goal.returns-then-eq
returns-then-eq c = ((bytes_eq-Decides c.args.text.now (48 ∷ [])).0 (sym c.eq.ensures ∙ c.if-eq.true) ∙ sym (decimal_digit 0 (omega arith)), omega arith)

pub returns-then-begins_past_zero : goal.returns-then-begins_past_zero
returns-then-begins_past_zero c =
    let front = subst (λ (t : List ℕ). nat_lt 48 (get_or t 0 0) ≡ true) c.as_bytes.ensures.value (sym c.begins_past_zero.ensures ∙ c.if-begins_past_zero.true) in
    rw c.ok.ensures.value (read_plain _ c.args.text.now c.parse.result c.parse.ensures.value.0 (lower 48 _ front))

pub returns-else-begins_past_zero : goal.returns-else-begins_past_zero
returns-else-begins_past_zero c =
    let front = subst (λ (t : List ℕ). nat_lt 48 (get_or t 0 0) ≡ false) c.as_bytes.ensures.value (sym c.begins_past_zero.ensures ∙ c.if-begins_past_zero.false) in
    none_plain c.args.text.now (λ e. absurd (true≢false (sym ((bytes_eq-Decides c.args.text.now (48 ∷ [])).1 e) ∙ sym c.eq.ensures ∙ c.if-eq.false))) front
