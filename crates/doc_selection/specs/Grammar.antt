-- Which texts are selections under a schema, what each says, and where other texts are refused.
use Rattle.std.specs.Prelude.{ℕ, List, Result, Ok, Err}
use Rattle.doc_types.specs.declared.symbols.Language.TheVariants.{Selection}
use Rattle.doc_types.specs.SchemaCodes.{Types}
use Rattle.doc_types.specs.Tokens.{Token}
use Rattle.conditions.specs.Readings.{IsText, IsRefusedAt}
use Rattle.conditions.specs.declared.kinds.Negation.TheVariants as negation
use Rattle.conditions.specs.Formulas.{Formula}
use Rattle.conditions.specs.Grammar.{IsCondition}
use Rattle.doc_selection.specs.declared.terms.Term.{Term}
use Rattle.doc_selection.specs.declared.selection.SelectionFault.{SelectionFault}
use Rattle.doc_selection.specs.declared.selection.SelectionFault.TheVariants as fault
use Rattle.doc_selection.specs.Atoms.{IsTerm}

-- a condition over terms, in which the word `not` negates
abbrev pub IsSelection : Types → List Token → Formula Term → Type 0
IsSelection types tokens formula = IsCondition negation.Word (IsTerm types) tokens formula

-- what the parse of a text answers
abbrev pub Parses : Types → List ℕ → Result (Formula Term) SelectionFault → Type 0
Parses types text (Ok formula) = IsText Selection (IsSelection types) text formula
Parses types text (Err (fault.BadSelection offset)) = IsRefusedAt Selection (IsSelection types) text offset
Parses types text (Err fault.NoMemory) = Unit {0}
