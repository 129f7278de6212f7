use Rattle.std.proofs.Common.{◌≡◌, ◌∙◌, Some, None, inl, inr, rules}
use Rattle.words_line.proofs.options.options_said.Goals as goal

pub returns-in-Some-Some-clause-usage : goal.returns-in-Some-Some-clause-usage
returns-in-Some-Some-clause-usage c = λ e o s. elim s [
  | inl plain ↦ let none : Some c.in-Some-Some.seed.now ≡ None = c.in-Some-Some.ensures ∙ plain.no_seed in cc
  | inr made ↦ c.generated_options.ensures.usage e o made
]

pub returns-in-None-None-clause-usage : goal.returns-in-None-None-clause-usage
returns-in-None-None-clause-usage c = search rules
