-- Queries are read exactly.
use Rattle.std.proofs.Common.{◌≡◌, List, [], ◌∷◌, ◌++◌, Some, Result, Ok, Err, IfOk}
use Rattle.doc_types.specs.SchemaCodes.{Types}
use Rattle.doc_types.specs.Tokens.{Token}
use Rattle.conditions.specs.declared.reader.Stop.{Stop}
use Rattle.conditions.specs.declared.reader.Stop.TheVariants as stop
use Rattle.conditions.specs.Readings.{Begins, IfRefused}
use Rattle.conditions.specs.Machines.{run}
use Rattle.conditions.proofs.Steps.{run-push, stops, no_value}
use Rattle.conditions.specs.Views.{Goes}
use Rattle.query_text.specs.declared.reader.Reading.{Reading}
use Rattle.query_text.specs.Grammar.{Said, IsQuery}
use Rattle.query_text.specs.Machine.{begin, query_step, query_says, query_of}
use Rattle.query_text.proofs.QueryRuns.{queries_read}

pub takes_by : (types : Types) (x : Reading) (t : Token) (r : Result Reading Stop) → Goes query_of r (query_step types (query_of x) t)
    → IfOk r (λ next. (ts : List Token) → run (query_step types) begin ts ≡ Some (query_of x) → run (query_step types) begin (ts ++ t ∷ []) ≡ Some (query_of next))
takes_by types x t (Ok y) g = λ ts e. run-push (query_step types) begin ts (query_of x) t (query_of y) e g
takes_by types x t (Err e) g = tt

pub begins_by : (types : Types) (x : Reading) (t : Token) (r : Result Reading Stop) → Goes query_of r (query_step types (query_of x) t)
    → IfOk r (λ next. (ts : List Token) → run (query_step types) begin ts ≡ Some (query_of x) → Begins (IsQuery types) (ts ++ t ∷ []))
begins_by types x t (Ok y) g = λ ts e. (queries_read types).begins ts (query_of x) (query_of y) t e g
begins_by types x t (Err e) g = tt

pub stops_by : (types : Types) (x : Reading) (t : Token) (r : Result Reading Stop) → Goes query_of r (query_step types (query_of x) t)
    → IfRefused r ((ts : List Token) → run (query_step types) begin ts ≡ Some (query_of x) → Begins (IsQuery types) (ts ++ t ∷ []) → ⊥)
stops_by types x t (Ok y) g = tt
stops_by types x t (Err stop.Refused) g = λ ts e b. stops (query_step types) query_says begin (IsQuery types) (queries_read types) ts (query_of x) t e g b
stops_by types x t (Err stop.NoMemory) g = tt

pub read_by : (types : Types) (x : Reading) (r : Result Said Stop) → Goes (λ s. s) r (query_says (query_of x))
    → IfOk r (λ value. (ts : List Token) → run (query_step types) begin ts ≡ Some (query_of x) → IsQuery types ts value)
read_by types x (Ok v) g = λ ts e. (queries_read types).only ts (query_of x) v e g
read_by types x (Err e) g = tt

pub none_by : (types : Types) (x : Reading) (r : Result Said Stop) → Goes (λ s. s) r (query_says (query_of x))
    → IfRefused r ((ts : List Token) (value : Said) → run (query_step types) begin ts ≡ Some (query_of x) → IsQuery types ts value → ⊥)
none_by types x (Ok v) g = tt
none_by types x (Err stop.Refused) g = λ ts v e l. no_value (query_step types) query_says begin (IsQuery types) (queries_read types) ts (query_of x) v e g l
none_by types x (Err stop.NoMemory) g = tt
