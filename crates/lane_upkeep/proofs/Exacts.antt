-- The nodes that showed just the row of a round, as they are found one after the other.
use Rattle.std.proofs.Common.{◌≡◌, ◌<◌, ◌==◌, ◌||◌, ◌+◌, ℕ, Bool, true, false, List, [], ◌∷◌, ◌++◌, None, Some, is_some, Contains, ◌⊎◌, inl, inr, refl, sym, ap, subst, ◌∙◌, arith, eq-eqb}
use Rattle.std.specs.List.{list_any}
use Rattle.std.proofs.lemmas.Bool.{eqb-true, cases_lt}
use Rattle.std.proofs.lemmas.List.Elements.{Contains-push_cases}
use Rattle.std.proofs.lemmas.List.Folds.{list_any-append}
use Rattle.proof_basics.proofs.Lists.{contains-none}
use Rattle.merge_rounds.specs.Rounds.{RoundState, pieces_by}
use Rattle.pass_machine.specs.declared.notes.Exact.{Exact}
use Rattle.lane_upkeep.specs.RoundNotes.{serial_in, AreExactBelow}

other-number : (a b : ℕ) → (a ≡ b → ⊥) → (a == b) ≡ false
other-number a b off = by_test (a == b) refl
  where
    by_test : (t : Bool) → (a == b) ≡ t → (a == b) ≡ false
    by_test true e = absurd (off (eqb-true a b e))
    by_test false e = e

-- the next number or one below
next-or-below : (n k : ℕ) → k < n + 1 → (k ≡ n) ⊎ (k < n)
next-or-below n k less = elim (cases_lt k n) [ inl under ↦ inr under | inr over ↦ inl (omega (arith, less, over)) ]

or-true : (a : Bool) → (a || true) ≡ true
or-true true = refl
or-true false = refl

or-false : (a : Bool) → (a || false) ≡ a
or-false true = refl
or-false false = refl

module _ (r : RoundState) (n : ℕ) (exact : List Exact) (h : AreExactBelow r n exact) where
  -- the next one showed no piece that is just the row
  pub below-none : serial_in r.row (pieces_by n r.shown) ≡ None → AreExactBelow r (n + 1) exact
  below-none e = record {
    each = h.each;
    below = λ k less. by_case k (next-or-below n k less);
    from = λ k more. h.from k (omega (arith, more));
  }
    where
      by_case : (k : ℕ) → (k ≡ n) ⊎ (k < n) → list_any (λ x. x.node == k) exact ≡ is_some (serial_in r.row (pieces_by k r.shown))
      by_case k (inl same) = h.from k (omega (arith, same)) ∙ sym (ap is_some (subst (λ (i : ℕ). serial_in r.row (pieces_by i r.shown) ≡ None) (sym same) e))
      by_case k (inr under) = h.below k under

  -- the next one did
  module _ (serial : ℕ) (e : serial_in r.row (pieces_by n r.shown) ≡ Some serial) where
    abbrev new : Exact
    new = record { node = n; serial = serial }

    abbrev grown : List Exact
    grown = exact ++ new ∷ []

    any-grown : (k : ℕ) → list_any (λ x. x.node == k) grown ≡ (list_any (λ x. x.node == k) exact || (n == k))
    any-grown k = list_any-append (λ x. x.node == k) exact (new ∷ []) ∙ ap (λ (b : Bool). list_any (λ x. x.node == k) exact || b) (or-false (n == k))

    each-grown : (x : Exact) → Contains grown x → serial_in r.row (pieces_by x.node r.shown) ≡ Some x.serial
    each-grown x c = by_case (Contains-push_cases exact new x c)
      where
        by_case : Contains exact x ⊎ (new ≡ x) → serial_in r.row (pieces_by x.node r.shown) ≡ Some x.serial
        by_case (inl old) = h.each x old
        by_case (inr same) = subst (λ (y : Exact). serial_in r.row (pieces_by y.node r.shown) ≡ Some y.serial) same e

    pub below-some : AreExactBelow r (n + 1) grown
    below-some = record {
      each = each-grown;
      below = λ k less. by_case k (next-or-below n k less);
      from = λ k more. any-grown k ∙ ap (λ (b : Bool). list_any (λ x. x.node == k) exact || b) (other-number n k (λ same. absurd (omega (arith, more, same)))) ∙ or-false (list_any (λ x. x.node == k) exact) ∙ h.from k (omega (arith, more));
    }
      where
        by_case : (k : ℕ) → (k ≡ n) ⊎ (k < n) → list_any (λ x. x.node == k) grown ≡ is_some (serial_in r.row (pieces_by k r.shown))
        by_case k (inl same) = any-grown k ∙ ap (λ (b : Bool). list_any (λ x. x.node == k) exact || b) (eq-eqb n k (sym same)) ∙ or-true (list_any (λ x. x.node == k) exact)
            ∙ sym (ap is_some (subst (λ (i : ℕ). serial_in r.row (pieces_by i r.shown) ≡ Some serial) (sym same) e))
        by_case k (inr under) = any-grown k ∙ ap (λ (b : Bool). list_any (λ x. x.node == k) exact || b) (other-number n k (λ same. absurd (omega (arith, under, same)))) ∙ or-false (list_any (λ x. x.node == k) exact) ∙ h.below k under

-- ---- in the words of the code

-- none was looked at
pub below_first : (r : RoundState) → AreExactBelow r 0 []
below_first r = record {
  each = λ x h. absurd (contains-none x h);
  below = λ k less. absurd (omega (arith, less));
  from = λ k more. refl;
}

pub below_none : (r : RoundState) (n : ℕ) (exact : List Exact) → AreExactBelow r n exact → None ≡ serial_in r.row (pieces_by n r.shown) → AreExactBelow r (n + 1) exact
below_none r n exact h e = below-none r n exact h (sym e)

pub below_some : (r : RoundState) (n serial : ℕ) (exact more : List Exact) → AreExactBelow r n exact → Some serial ≡ serial_in r.row (pieces_by n r.shown) → more ≡ exact ++ record { node = n; serial = serial } ∷ [] → AreExactBelow r (n + 1) more
below_some r n serial exact more h e is = subst (λ (xs : List Exact). AreExactBelow r (n + 1) xs) (sym is) (below-some r n exact h serial (sym e))
