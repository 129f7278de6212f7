-- Orders of nodes: that by score, and that by rank and score.
use Rattle.std.proofs.Common.{◌≡◌, ◌≢◌, ◌⊎◌, ℕ, true, nat_eq, zero, suc, get_or, replicate, codes, refl, inl, inr, sym, arith}
use Rattle.std.proofs.lemmas.Bool.{cases_order}
use Rattle.std.proofs.lemmas.Bool.Decides.{nat_tests}
use Rattle.proof_basics.proofs.Tests.{both, or_true, or_left, or_right, and_true}
use Rattle.proof_basics.proofs.Numbers.{lt-of, lt-to}
use Rattle.bucket_ids.specs.Buckets.{Low}
use Rattle.cluster_states.specs.declared.cluster_state.ClusterState.{ClusterState}
use Rattle.ideal_nodes.specs.Scores.{score_of, Ranks, ranks_before, Comes}
use Rattle.ideal_nodes.specs.Placement.{rank_of, Precedes}
use Rattle.ideal_nodes.specs.Choosing.{comes_before}

-- no node goes before itself, and of two others just one goes before the other
pub record IsOrder (before : ℕ → ℕ → Type 0) : Type 0 where
  pub never : (n : ℕ) → before n n → ⊥
  pub once : (a b : ℕ) → before a b → before b a → ⊥
  pub on : (a b c : ℕ) → before a b → before b c → before a c
  pub either : (a b : ℕ) → a ≢ b → before a b ⊎ before b a

-- ---- by score

module _ (score : ℕ → ℕ) where
  pub ranks_never : (n : ℕ) → Ranks score n n → ⊥
  ranks_never n (inl lower) = omega (arith, lower)
  ranks_never n (inr tie) = omega (arith, tie.1)

  ranks_once : (a b : ℕ) → Ranks score a b → Ranks score b a → ⊥
  ranks_once a b (inl p) (inl q) = omega (arith, p, q)
  ranks_once a b (inl p) (inr q) = omega (arith, p, q.0)
  ranks_once a b (inr p) (inl q) = omega (arith, p.0, q)
  ranks_once a b (inr p) (inr q) = omega (arith, p.1, q.1)

  pub ranks_on : (a b c : ℕ) → Ranks score a b → Ranks score b c → Ranks score a c
  ranks_on a b c (inl p) (inl q) = inl (omega (arith, p, q))
  ranks_on a b c (inl p) (inr q) = inl (omega (arith, p, q.0))
  ranks_on a b c (inr p) (inl q) = inl (omega (arith, p.0, q))
  ranks_on a b c (inr p) (inr q) = inr (omega (arith, p.0, q.0), omega (arith, p.1, q.1))

  ranks_either : (a b : ℕ) → a ≢ b → Ranks score a b ⊎ Ranks score b a
  ranks_either a b other = elim (cases_order (score a) (score b)) [
    | inl tie ↦ elim (cases_order a b) [
      | inl same ↦ absurd (other same)
      | inr apart ↦ elim apart [ inl less ↦ inl (inr (tie, less)) | inr more ↦ inr (inr (sym tie, more)) ]
    ]
    | inr apart ↦ elim apart [ inl worse ↦ inr (inl worse) | inr better ↦ inl (inl better) ]
  ]

  pub ranks_are_order : IsOrder (Ranks score)
  ranks_are_order = record { never = ranks_never; once = ranks_once; on = ranks_on; either = ranks_either }

  -- the test
  pub ranks_test : (a b : ℕ) → ranks_before score a b ≡ true → Ranks score a b
  ranks_test a b h = elim (or_true _ _ h) [
    | inl greater ↦ inl (lt-of (score b) (score a) greater)
    | inr tie ↦ (let t = both _ _ tie in inr (same (score a) (score b) t.0, lt-of a b t.1))
  ]
    where
      same : (x y : ℕ) → nat_eq x y ≡ true → x ≡ y
      same x y e = grind (arith, nat_tests, e)

  pub test_ranks : (a b : ℕ) → Ranks score a b → ranks_before score a b ≡ true
  test_ranks a b (inl greater) = or_left _ _ (lt-to (score b) (score a) greater)
  test_ranks a b (inr tie) = or_right _ _ (and_true _ _ (same (score a) (score b) tie.0) (lt-to a b tie.1))
    where
      same : (x y : ℕ) → x ≡ y → nat_eq x y ≡ true
      same x y e = grind (arith, nat_tests, e)

-- ---- by rank and score

module _ (rank score : ℕ → ℕ) where
  comes_never : (n : ℕ) → Comes rank score n n → ⊥
  comes_never n (inl lower) = omega (arith, lower)
  comes_never n (inr tie) = ranks_never score n tie.1

  comes_once : (a b : ℕ) → Comes rank score a b → Comes rank score b a → ⊥
  comes_once a b (inl p) (inl q) = omega (arith, p, q)
  comes_once a b (inl p) (inr q) = omega (arith, p, q.0)
  comes_once a b (inr p) (inl q) = omega (arith, p.0, q)
  comes_once a b (inr p) (inr q) = ranks_once score a b p.1 q.1

  comes_on : (a b c : ℕ) → Comes rank score a b → Comes rank score b c → Comes rank score a c
  comes_on a b c (inl p) (inl q) = inl (omega (arith, p, q))
  comes_on a b c (inl p) (inr q) = inl (omega (arith, p, q.0))
  comes_on a b c (inr p) (inl q) = inl (omega (arith, p.0, q))
  comes_on a b c (inr p) (inr q) = inr (omega (arith, p.0, q.0), ranks_on score a b c p.1 q.1)

  comes_either : (a b : ℕ) → a ≢ b → Comes rank score a b ⊎ Comes rank score b a
  comes_either a b other = elim (cases_order (rank a) (rank b)) [
    | inl tie ↦ elim (ranks_either score a b other) [ inl first ↦ inl (inr (tie, first)) | inr second ↦ inr (inr (sym tie, second)) ]
    | inr apart ↦ elim apart [ inl less ↦ inl (inl less) | inr more ↦ inr (inl more) ]
  ]

  pub comes_are_order : IsOrder (Comes rank score)
  comes_are_order = record { never = comes_never; once = comes_once; on = comes_on; either = comes_either }

  -- the test
  pub comes_test : (a b : ℕ) → comes_before rank score a b ≡ true → Comes rank score a b
  comes_test a b h = elim (or_true _ _ h) [
    | inl less ↦ inl (lt-of (rank a) (rank b) less)
    | inr tie ↦ (let t = both _ _ tie in inr (same (rank a) (rank b) t.0, ranks_test score a b t.1))
  ]
    where
      same : (x y : ℕ) → nat_eq x y ≡ true → x ≡ y
      same x y e = grind (arith, nat_tests, e)

  pub test_comes : (a b : ℕ) → Comes rank score a b → comes_before rank score a b ≡ true
  test_comes a b (inl less) = or_left _ _ (lt-to (rank a) (rank b) less)
  test_comes a b (inr tie) = or_right _ _ (and_true _ _ (same (rank a) (rank b) tie.0) (test_ranks score a b tie.1))
    where
      same : (x y : ℕ) → x ≡ y → nat_eq x y ≡ true
      same x y e = grind (arith, nat_tests, e)

-- where all have one rank, the score decides
pub score_alone : (score : ℕ → ℕ) (rank : ℕ → ℕ) (a b : ℕ) → rank a ≡ rank b → Comes rank score a b → Ranks score a b
score_alone score rank a b tie (inl less) = absurd (omega (arith, tie, less))
score_alone score rank a b tie (inr ranks) = ranks.1

-- a table of no ranks
pub no_rank : (k n : ℕ) → ◌≡◌ {A = ℕ} (get_or (replicate k 0) n 0) 0
no_rank zero n = refl
no_rank (suc k) zero = refl
no_rank (suc k) (suc n) = no_rank k n

-- the ideal order
pub precedes_are_order : (bucket : Low) (s : ClusterState) → IsOrder (Precedes bucket s)
precedes_are_order bucket s = comes_are_order (rank_of bucket s) (score_of (codes "ideal") bucket)
