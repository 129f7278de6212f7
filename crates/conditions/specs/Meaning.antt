-- What conditions mean, read off the grammar: `not` binds closer than `and`, and `and` closer than `or`.
use Rattle.std.specs.Prelude.{◌&&◌, ◌||◌, Bool, true, false, not}
use Rattle.conditions.specs.Grammar.{Condition, condition, Ors, no_ors, one_or, Terms, terms, Ands, no_ands, one_and, Factor, always, never, atom, brackets, negated, not_brackets}

abbrev mutual
  pub condition_holds : {A : Type 0} → (A → Bool) → Condition A → Bool
  condition_holds p (condition o t) = some_holds p o || terms_hold p t

  pub some_holds : {A : Type 0} → (A → Bool) → Ors A → Bool
  some_holds p no_ors = false
  some_holds p (one_or o t) = some_holds p o || terms_hold p t

  pub terms_hold : {A : Type 0} → (A → Bool) → Terms A → Bool
  terms_hold p (terms a f) = all_hold p a && factor_holds p f

  pub all_hold : {A : Type 0} → (A → Bool) → Ands A → Bool
  all_hold p no_ands = true
  all_hold p (one_and a f) = all_hold p a && factor_holds p f

  pub factor_holds : {A : Type 0} → (A → Bool) → Factor A → Bool
  factor_holds p always = true
  factor_holds p never = false
  factor_holds p (atom ts a) = p a
  factor_holds p (brackets c) = condition_holds p c
  factor_holds p (negated f) = not (factor_holds p f)
  factor_holds p (not_brackets c) = not (condition_holds p c)
