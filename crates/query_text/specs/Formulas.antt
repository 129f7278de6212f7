-- What an expression says of a document's terms.
use Rattle.conditions.specs.Formulas.{Formula, truth, falsity, claim, opposite, both, either}
use Rattle.query_text.specs.declared.expr.Expr as code
use Rattle.query_text.specs.declared.terms.Term.{Term}
use Rattle.query_text.specs.declared.terms.Term.TheVariants as term

abbrev pub formula_of : code.Expr → Formula Term
formula_of code.True = truth
formula_of code.False = falsity
formula_of (code.Not' p x) = opposite (formula_of x)
formula_of (code.And' p x q y) = both (formula_of x) (formula_of y)
formula_of (code.Or' p x q y) = either (formula_of x) (formula_of y)
formula_of (code.Contains field tokens) = claim (term.Contains field tokens)
formula_of (code.Compare field rel number) = claim (term.Compare field rel number)
