use Rattle.std.proofs.Common.{sym, subst, rules}
use Rattle.doc_types.specs.declared.symbols.Language.TheVariants as language
use Rattle.conditions.specs.Readings.{IsText}
use Rattle.query_text.specs.Grammar.{IsQuery}
use Rattle.query_text.proofs.query.Query.parse.Goals as goal

pub returns-in-Ok : goal.returns-in-Ok
returns-in-Ok c = subst (λ s. IsText language.Query (IsQuery c.args.schema.now) c.args.text.now s) (sym c.query.ensures) c.in-Ok.ensures

pub returns-in-Err-Refused : goal.returns-in-Err-Refused
returns-in-Err-Refused c = search rules
