-- Selections are read exactly.
use Rattle.std.proofs.Common.{◌≡◌, List, [], ◌∷◌, ◌++◌, Option, Some, None, Result, Ok, Err, IfOk}
use Rattle.doc_types.specs.SchemaCodes.{Types}
use Rattle.doc_types.specs.Tokens.{Token}
use Rattle.conditions.specs.declared.reader.Stop.{Stop}
use Rattle.conditions.specs.declared.reader.Stop.TheVariants as stop
use Rattle.conditions.specs.Readings.{Begins, IfRefused}
use Rattle.conditions.specs.Machines.{run, Reads}
use Rattle.conditions.proofs.Steps.{run-push, stops, no_value}
use Rattle.conditions.specs.declared.kinds.Negation.TheVariants as negation
use Rattle.conditions.specs.Formulas.{Formula}
use Rattle.conditions.specs.Machine.{start, whole}
use Rattle.conditions.specs.Views.{Goes}
use Rattle.conditions.proofs.Claims.{conditions_read}
use Rattle.doc_selection.specs.declared.reader.Reader.{Reader}
use Rattle.doc_selection.specs.declared.terms.Term.{Term}
use Rattle.doc_selection.specs.Atoms.{IsTerm}
use Rattle.doc_selection.specs.Grammar.{IsSelection}
use Rattle.doc_selection.specs.Parts.{terms, endings, selection_step, state_of}
use Rattle.doc_selection.proofs.TermReading.{terms_read}

pub reads : (types : Types) → Reads (selection_step types) (whole (terms types)) start (IsSelection types)
reads types = conditions_read negation.Word (terms types) (IsTerm types) (terms_read types)

pub takes_by : (types : Types) (x : Reader) (t : Token) (r : Result Reader Stop) → Goes state_of r (selection_step types (state_of x) t)
    → IfOk r (λ next. (ts : List Token) → run (selection_step types) start ts ≡ Some (state_of x) → run (selection_step types) start (ts ++ t ∷ []) ≡ Some (state_of next))
takes_by types x t (Ok y) g = λ ts e. run-push (selection_step types) start ts (state_of x) t (state_of y) e g
takes_by types x t (Err e) g = tt

pub begins_by : (types : Types) (x : Reader) (t : Token) (r : Result Reader Stop) → Goes state_of r (selection_step types (state_of x) t)
    → IfOk r (λ next. (ts : List Token) → run (selection_step types) start ts ≡ Some (state_of x) → Begins (IsSelection types) (ts ++ t ∷ []))
begins_by types x t (Ok y) g = λ ts e. (reads types).begins ts (state_of x) (state_of y) t e g
begins_by types x t (Err e) g = tt

pub stops_by : (types : Types) (x : Reader) (t : Token) (r : Result Reader Stop) → Goes state_of r (selection_step types (state_of x) t)
    → IfRefused r ((ts : List Token) → run (selection_step types) start ts ≡ Some (state_of x) → Begins (IsSelection types) (ts ++ t ∷ []) → ⊥)
stops_by types x t (Ok y) g = tt
stops_by types x t (Err stop.Refused) g = λ ts e b. stops (selection_step types) (whole (terms types)) start (IsSelection types) (reads types) ts (state_of x) t e g b
stops_by types x t (Err stop.NoMemory) g = tt

pub read_by : (types : Types) (x : Reader) (r : Result (Formula Term) Stop) → Goes (λ s. s) r (whole endings (state_of x))
    → IfOk r (λ value. (ts : List Token) → run (selection_step types) start ts ≡ Some (state_of x) → IsSelection types ts value)
read_by types x (Ok v) g = λ ts e. (reads types).only ts (state_of x) v e g
read_by types x (Err e) g = tt

pub none_by : (types : Types) (x : Reader) (r : Result (Formula Term) Stop) → Goes (λ s. s) r (whole endings (state_of x))
    → IfRefused r ((ts : List Token) (value : Formula Term) → run (selection_step types) start ts ≡ Some (state_of x) → IsSelection types ts value → ⊥)
none_by types x (Ok v) g = tt
none_by types x (Err stop.Refused) g = λ ts v e l. no_value (selection_step types) (whole (terms types)) start (IsSelection types) (reads types) ts (state_of x) v e g l
none_by types x (Err stop.NoMemory) g = tt
