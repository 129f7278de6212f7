use Rattle.std.proofs.Common.{◌≡◌, Result, Ok, Err, sym, arith}
use mathlib.Core.Bool.{true≢false}
use Rattle.std.specs.Result.{IsErr, MatchResult}
use Rattle.words_line.proofs.Numerals.{number_once, other_end}
use Rattle.words_line.proofs.plain.copies_said.Goals as goal

-- what holds where there is an error
failed : {A E : Type 0} (P : A → Type 0) (r : Result A E) (none : Type 0) → IsErr r → none → MatchResult r P (λ _. none)
failed P (Ok x) none e n = absurd (true≢false (sym e))
failed P (Err x) none e n = n

pub returns-in_err-acks : goal.returns-in_err-acks
returns-in_err-acks c = failed _ c.from_residual-in_err-acks.result _ c.from_residual-in_err-acks.ensures.0 (λ k s.
    let same : k.redundancy ≡ c.in_ok-redundancy.redundancy = number_once _ _ _ _ _ _ _ (omega arith) (omega arith) s.redundancy c.in_ok-redundancy.ensures in
    c.in_err-acks.ensures k.acks (other_end same s.acks))

pub returns-in_err-searchable : goal.returns-in_err-searchable
returns-in_err-searchable c = failed _ c.from_residual-in_err-searchable.result _ c.from_residual-in_err-searchable.ensures.0 (λ k s.
    let same : k.redundancy ≡ c.in_ok-redundancy.redundancy = number_once _ _ _ _ _ _ _ (omega arith) (omega arith) s.redundancy c.in_ok-redundancy.ensures in
    c.in_err-searchable.ensures k.searchable (other_end same s.searchable))
