-- The selection that a text says, as a function of the text; the law of selections ties it to the grammar.
use Rattle.std.specs.Prelude.{◌≡◌, ℕ, zero, suc, List, [], ◌∷◌, length, Option, Some, None, Result, Ok, Err, option_map, option_and_then}
use Rattle.doc_types.specs.declared.symbols.Language.TheVariants.{Selection}
use Rattle.doc_types.specs.SchemaCodes.{Types}
use Rattle.doc_types.specs.Tokens.{Token, skip_blanks, token_at}
use Rattle.conditions.specs.Machines.{run}
use Rattle.conditions.specs.Formulas.{Formula}
use Rattle.conditions.specs.Machine.{start, whole}
use Rattle.doc_selection.specs.declared.selection.SelectionFault.{SelectionFault}
use Rattle.doc_selection.specs.declared.selection.SelectionFault.TheVariants as fault
use Rattle.doc_selection.specs.declared.terms.Term.{Term}
use Rattle.doc_selection.specs.Parts.{terms, selection_step}

-- a token and the tokens behind it
abbrev pub read_on : (List ℕ → Option (List Token)) → Option (Token × List ℕ) → Option (List Token)
read_on more None = None
read_on more (Some p) = option_map (λ ts. p.0 ∷ ts) (more p.1)

-- the tokens of a text that begins with no blank
abbrev pub read_from : (List ℕ → Option (List Token)) → List ℕ → Option (List Token)
read_from more [] = Some []
read_from more (c ∷ rest) = read_on more (token_at Selection (c ∷ rest))

abbrev pub nothing_more : List ℕ → Option (List Token)
nothing_more text = None

-- the tokens of a text that has at most so many and one more, where each can be read
abbrev pub tokens_within : ℕ → List ℕ → Option (List Token)
tokens_within zero text = read_from nothing_more (skip_blanks text)
tokens_within (suc n) text = read_from (tokens_within n) (skip_blanks text)

-- what tokens say
abbrev pub said_by : Types → List Token → Option (Formula Term)
said_by types tokens = option_and_then (whole (terms types)) (run (selection_step types) start tokens)

-- what a text says, where it is a selection; it has no more tokens than bytes
unfoldable pub selection_in : Types → List ℕ → Option (Formula Term)
selection_in types text = option_and_then (said_by types) (tokens_within (length text) text)

-- an answer of the parse gives what the text says
abbrev pub Says : Types → List ℕ → Result (Formula Term) SelectionFault → Type 0
Says types text (Ok formula) = selection_in types text ≡ Some formula
Says types text (Err (fault.BadSelection offset)) = selection_in types text ≡ None
Says types text (Err fault.NoMemory) = Unit {0}
