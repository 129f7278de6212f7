-- The exchange that adds a change keeps the rule of a history.
use Rattle.std.proofs.Common.{◌≡◌, ℕ, ◌+◌, ◌<◌, ◌==◌, Bool, true, false, List, [], ◌∷◌, ◌++◌, length, refl, ap, sym, subst, arith, inl, length-append, None}
use Rattle.std.proofs.lemmas.List.{append-nil}
use Rattle.std.proofs.lemmas.Bool.Decides.{nat_tests}
use mathlib.Core.List.{IsPrefix}
use prog.Atomic.{either}
use Rattle.logbook.specs.Pages.{Cell, cell, keeps, no_nib, step, Moves, Goes}
use Rattle.view_changes.specs.declared.change.LaneChange.{LaneChange}
use Rattle.generation_guard.specs.Histories.{IsKept, Adds}
use Rattle.generation_guard.proofs.Prefixes.{whole_begins}

abbrev pub shown : List LaneChange → List LaneChange
shown log = []

abbrev pub moved : List LaneChange → List LaneChange → ℕ → Type 0
moved xs ys n = Unit {0}

pub adds_goes : (log v : List LaneChange) (c : LaneChange) (old : ℕ) → length v ≡ old → IsPrefix v log
    → (b : Bool) → (length log == old) ≡ b
    → Goes IsKept shown moved 0 (v, (no_nib, None)) (λ n. either (n == old) (old + 1) n) (Adds (step 0 old (old + 1) c) (v, (no_nib, None))) ((length log, true) ∷ (0, true) ∷ []) log
adds_goes log v c old len pre true is =
    let here : length log ≡ old = grind (arith, nat_tests) in
    let same : v ≡ log = whole_begins v log pre (omega arith) in
    let n : either (length log == old) (old + 1) (length log) ≡ length (log ++ c ∷ []) = rw is (omega (arith, length-append log (c ∷ []))) in (
      keeps,
      c ∷ [],
      None,
      tt,
      record { words = ap (λ (k : ℕ). (k, true) ∷ (0, true) ∷ []) n },
      inl (refl, refl),
      rw is (ap (λ w. w ++ c ∷ []) (sym same)),
    )
adds_goes log v c old len pre false is =
    let all : log ++ [] ≡ log = append-nil log in
    let n : either (length log == old) (old + 1) (length log) ≡ length (log ++ []) = rw is (ap length (sym all)) in (
      keeps,
      [],
      None,
      tt,
      record { words = ap (λ (k : ℕ). (k, true) ∷ (0, true) ∷ []) n },
      inl (refl, refl),
      rw is tt,
    )

-- whatever the book is, the exchange adds the change to all that was seen, or finds that the history is longer
pub adds_moves : (v : List LaneChange) (c : LaneChange) (old : ℕ) → length v ≡ old
    → Moves IsKept shown moved 0 (v, (no_nib, None)) (λ n. either (n == old) (old + 1) n) (Adds (step 0 old (old + 1) c) (v, (no_nib, None)))
adds_moves v c old len cs log kept pre away =
    let P : List Cell → Type 0 = λ cs. (0 < length cs) × ((cell cs 0).1 ≡ true) × Goes IsKept shown moved 0 (v, (no_nib, None)) (λ n. either (n == old) (old + 1) n) (Adds (step 0 old (old + 1) c) (v, (no_nib, None))) cs log in
    subst P (sym kept.words) (omega arith, refl, adds_goes log v c old len pre (length log == old) refl)
