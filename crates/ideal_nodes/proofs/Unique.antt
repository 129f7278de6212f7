-- A ranked list is told by its nodes.
use Rattle.std.proofs.Common.{◌≡◌, ◌≢◌, ◌⊎◌, ◌↔◌, ◌==◌, not, ℕ, Bool, true, false, cond, List, [], ◌∷◌, inl, inr, refl, sym, ap₂, ◌∙◌, subst, arith, filter}
use Rattle.std.proofs.lemmas.Bool.Decides.{nat_tests}
use Rattle.ideal_nodes.specs.Scores.{IsRanked, Has}
use Rattle.ideal_nodes.proofs.Orders.{IsOrder}

heads : (before : ℕ → ℕ → Type 0) (o : IsOrder before) (n m : ℕ) (ns ms : List ℕ) → IsRanked before (n ∷ ns) → IsRanked before (m ∷ ms) → (n ≡ m) ⊎ Has n ms → (m ≡ n) ⊎ Has m ns → n ≡ m
heads before o n m ns ms p q (inl same) other = same
heads before o n m ns ms p q (inr later) (inl same) = sym same
heads before o n m ns ms p q (inr later) (inr after) = absurd (o.once n m (p.0 m after) (q.0 n later))

behind : (before : ℕ → ℕ → Type 0) (o : IsOrder before) (n m : ℕ) (ns ms : List ℕ) → IsRanked before (n ∷ ns) → n ≡ m → ((x : ℕ) → Has x (n ∷ ns) → Has x (m ∷ ms)) → (x : ℕ) → Has x ns → Has x ms
behind before o n m ns ms p same all x has = elim (all x (inr has)) [
  | inl here ↦ absurd (o.never n (subst (before n) (here ∙ sym same) (p.0 x has)))
  | inr later ↦ later
]

pub ranked_unique : (before : ℕ → ℕ → Type 0) (o : IsOrder before) (ns ms : List ℕ) → IsRanked before ns → IsRanked before ms → ((n : ℕ) → Has n ns ↔ Has n ms) → ns ≡ ms
ranked_unique before o [] [] p q all = refl
ranked_unique before o [] (m ∷ ms) p q all = absurd ((all m).1 (inl refl))
ranked_unique before o (n ∷ ns) [] p q all = absurd ((all n).0 (inl refl))
ranked_unique before o (n ∷ ns) (m ∷ ms) p q all =
    let same = heads before o n m ns ms p q ((all n).0 (inl refl)) ((all m).1 (inl refl)) in
    ap₂ (λ a b. a ∷ b) same (ranked_unique before o ns ms p.1 q.1 (λ x.
    (behind before o n m ns ms p same (λ y. (all y).0) x, behind before o m n ms ns q (sym same) (λ y. (all y).1) x)))

-- ---- without one node

is_gone : (m gone : ℕ) → (m == gone) ≡ true → m ≡ gone
is_gone m gone h = grind (arith, nat_tests)

is_other : (m gone : ℕ) → (m == gone) ≡ false → m ≢ gone
is_other m gone h e = grind (arith, nat_tests)

-- a list without one node, or with its first
abbrev kept : ℕ → List ℕ → List ℕ
kept gone ns = filter (λ n. not (n == gone)) ns

abbrev front : (t : Bool) (m : ℕ) (rest : List ℕ) → List ℕ
front t m rest = cond (not t) (m ∷ rest) rest

has_front : (t : Bool) (m gone n : ℕ) (ns rest : List ℕ) → (m == gone) ≡ t → (Has n ns → n ≢ gone → Has n rest) → (n ≡ m) ⊎ Has n ns → n ≢ gone → Has n (front t m rest)
has_front true m gone n ns rest test more (inl same) other = absurd (other (same ∙ is_gone m gone test))
has_front true m gone n ns rest test more (inr later) other = more later other
has_front false m gone n ns rest test more (inl same) other = inl same
has_front false m gone n ns rest test more (inr later) other = inr (more later other)

of_front : (t : Bool) (m gone n : ℕ) (ns rest : List ℕ) → (m == gone) ≡ t → (Has n rest → Has n ns × (n ≢ gone)) → Has n (front t m rest) → ((n ≡ m) ⊎ Has n ns) × (n ≢ gone)
of_front true m gone n ns rest test more has = (inr (more has).0, (more has).1)
of_front false m gone n ns rest test more (inl same) = (inl same, subst (λ x. x ≢ gone) (sym same) (is_other m gone test))
of_front false m gone n ns rest test more (inr later) = (inr (more later).0, (more later).1)

has_kept : (gone : ℕ) (ns : List ℕ) (n : ℕ) → Has n ns → n ≢ gone → Has n (kept gone ns)
has_kept gone [] n has other = has
has_kept gone (m ∷ ns) n has other = has_front (m == gone) m gone n ns (kept gone ns) refl (has_kept gone ns n) has other

of_kept : (gone : ℕ) (ns : List ℕ) (n : ℕ) → Has n (kept gone ns) → Has n ns × (n ≢ gone)
of_kept gone [] n has = elim has [ ]
of_kept gone (m ∷ ns) n has = of_front (m == gone) m gone n ns (kept gone ns) refl (of_kept gone ns n) has

ranked_front : (before : ℕ → ℕ → Type 0) (t : Bool) (m : ℕ) (rest : List ℕ) → ((x : ℕ) → Has x rest → before m x) → IsRanked before rest → IsRanked before (front t m rest)
ranked_front before true m rest above ranked = ranked
ranked_front before false m rest above ranked = (above, ranked)

ranked_kept : (before : ℕ → ℕ → Type 0) (gone : ℕ) (ns : List ℕ) → IsRanked before ns → IsRanked before (kept gone ns)
ranked_kept before gone [] ranked = ranked
ranked_kept before gone (m ∷ ns) ranked = ranked_front before (m == gone) m (kept gone ns) (λ x has. ranked.0 x (of_kept gone ns x has).0) (ranked_kept before gone ns ranked.1)

pub ranked_without : (before : ℕ → ℕ → Type 0) (o : IsOrder before) (ns ms : List ℕ) (gone : ℕ) → IsRanked before ns → IsRanked before ms → ((n : ℕ) → Has n ms ↔ (Has n ns × (n ≢ gone))) → ms ≡ filter (λ n. not (n == gone)) ns
ranked_without before o ns ms gone p q same = ranked_unique before o ms (kept gone ns) q (ranked_kept before gone ns p) (λ n.
    (λ has. has_kept gone ns n ((same n).0 has).0 ((same n).0 has).1, λ has. (same n).1 (of_kept gone ns n has)))
