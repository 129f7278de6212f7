-- What a reader's steps say of whole texts.
use Rattle.std.proofs.Common.{◌≡◌, ℕ, List, [], ◌∷◌, ◌++◌, subst, Option, Some, None, IfSome, IfNone}
use Rattle.std.proofs.lemmas.List.{append_assoc}
use Rattle.text_scanners.specs.Refusals.{Begins}
use Rattle.cluster_states.specs.StateTexts.{IsStateText}
use Rattle.cluster_states.specs.Scanning.{Scan, IsReached, Moves}
use Rattle.cluster_states.proofs.GoingOn.{goes_on}

on : (letters : List ℕ) (c : ℕ) (more : List ℕ) → (letters ++ c ∷ []) ++ more ≡ letters ++ c ∷ more
on letters c more = append_assoc letters (c ∷ []) more

pub reached_begins : (y : Scan) (letters : List ℕ) → IsReached y letters → Begins IsStateText letters
reached_begins y letters r =
    let g = goes_on y.place y.state r.0 in
    (g.more, (g.state, (r.1 g.more g.state).1 (g.is, g.at)))

pub step_stops : (x : Scan) (c : ℕ) (letters : List ℕ) → Moves x c None → IsReached x letters → Begins IsStateText (letters ++ c ∷ []) → ⊥
step_stops x c letters moves r b = moves b.0 b.1.0 ((r.1 (c ∷ b.0) b.1.0).0 (subst (λ l. IsStateText l b.1.0) (on letters c b.0) b.1.1))

pub goes_on_if : (r : Option Scan) → IfSome r (λ y. (letters : List ℕ) → IsReached y letters → Begins IsStateText letters)
goes_on_if (Some y) = reached_begins y
goes_on_if None = tt

pub stops_if : (x : Scan) (c : ℕ) (r : Option Scan) → Moves x c r → IfNone r ((letters : List ℕ) → IsReached x letters → Begins IsStateText (letters ++ c ∷ []) → ⊥)
stops_if x c (Some y) moves = tt
stops_if x c None moves = λ letters. step_stops x c letters moves
