-- The changes of a shelf as one history, which only grows.
use Rattle.std.specs.Prelude.{ℕ, ◌≡◌, ◌==◌, true, List, [], ◌∷◌, ◌++◌, length, MatchBool, refl}
use Rattle.std.specs.Coded.{Coded, code_by, coded×, coded_list}
use Rattle.logbook.specs.Pages.{Cell, Step, View, Book, Named, named_coded}
use Rattle.view_changes.specs.declared.change.LaneChange.{LaneChange}
use Rattle.view_changes.specs.contracts.change.LaneChange as change

-- a beginning of a history: which history it is, and its changes
pub record Beginning : Type 0 where
  pub history : Named
  pub changes : List LaneChange

abbrev pub beginning_code : Coded Beginning
beginning_code = code_by (Named × List LaneChange) (coded× named_coded (coded_list change.the_row.coded))
    (λ b. (b.history, b.changes)) (λ p. record { history = p.0; changes = p.1 }) (λ _. refl)

-- the word of a history is the first of its book
abbrev pub head_of : Book → Named
head_of b = record { tracked = true; key = 0; book = b }

-- the first word is the length of the history. A book has two words, of which this one leaves the second at 0
pub record IsKept (cells : List Cell) (log : List LaneChange) : Type 0 where
  pub words : cells ≡ (length log, true) ∷ (0, true) ∷ []

-- the change was added to all that had been seen; or the history was longer
abbrev pub Adds : Step LaneChange → View LaneChange ℕ → ℕ → View LaneChange ℕ → Type 0
Adds s v found w = MatchBool (found == s.old) (w.0 ≡ v.0 ++ s.ask ∷ []) (Unit {0})
