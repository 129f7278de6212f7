-- Each bucket has its ideal order under a state.
use Rattle.std.proofs.Common.{◌≡◌, ◌+◌, ◌<◌, ◌≤◌, ◌⊎◌, ◌↔◌, ℕ, zero, suc, Bool, true, false, cond, List, [], ◌∷◌, length, take, get_or, slice_index_or, inl, inr, refl, sym, ap, ◌∙◌, subst, arith}
use Rattle.std.specs.List.{count_by}
use Rattle.std.proofs.lemmas.Bool.{cases_lt}
use Rattle.std.proofs.lemmas.List.{take_all}
use Rattle.std.proofs.lemmas.List.Sums.{count_by_more_no, count_by_more_yes}
use mathlib.Core.Bool.{true≢false}
use Rattle.bucket_ids.specs.Buckets.{Low}
use Rattle.cluster_states.specs.MarkTests.{is_up}
use Rattle.cluster_states.specs.Publishing.{how_many}
use Rattle.cluster_states.specs.declared.cluster_state.ClusterState.{ClusterState}
use Rattle.cluster_states.specs.declared.marks.Mark.{Mark}
use Rattle.cluster_states.specs.declared.marks.Mark.TheVariants.{Down}
use Rattle.ideal_nodes.specs.Placement.{node_up, Precedes, IsIdeal}
use Rattle.ideal_nodes.specs.Scores.{Has, IsRanked}
use Rattle.ideal_nodes.proofs.Counts.{one_if}
use Rattle.ideal_nodes.proofs.Groups.{up_below}
use Rattle.ideal_nodes.proofs.Orders.{IsOrder, precedes_are_order}

module _ (before : ℕ → ℕ → Type 0) (o : IsOrder before) where
  -- a list with one number more
  record With (n : ℕ) (ns : List ℕ) : Type 0 where
    list : List ℕ
    ranked : IsRanked before list
    has : (m : ℕ) → Has m list ↔ ((m ≡ n) ⊎ Has m ns)
    size : length list ≡ suc (length ns)

  with_one : (n : ℕ) (ns : List ℕ) → IsRanked before ns → (Has n ns → ⊥) → With n ns
  with_one n [] r off = record { list = n ∷ []; ranked = (λ m h. absurd h, tt); has = λ m. (λ h. h, λ h. h); size = refl }
  with_one n (x ∷ ns) r off = by_rank (o.either n x (λ e. off (inl e))) (with_one n ns r.1 (λ h. off (inr h)))
    where
      by_rank : before n x ⊎ before x n → With n ns → With n (x ∷ ns)
      by_rank (inl first) w = record {
        list = n ∷ x ∷ ns;
        ranked = (λ m h. behind m h, r);
        has = λ m. (λ h. h, λ h. h);
        size = refl;
      }
        where
          behind : (m : ℕ) → Has m (x ∷ ns) → before n m
          behind m (inl e) = subst (λ i. before n i) (sym e) first
          behind m (inr h) = o.on n x m first (r.0 m h)
      by_rank (inr after) w = record {
        list = x ∷ w.list;
        ranked = (λ m h. behind m ((w.has m).0 h), w.ranked);
        has = λ m. (λ h. forth m h, λ h. back m h);
        size = omega (arith, w.size);
      }
        where
          behind : (m : ℕ) → (m ≡ n) ⊎ Has m ns → before x m
          behind m (inl e) = subst (λ i. before x i) (sym e) after
          behind m (inr h) = r.0 m h

          forth : (m : ℕ) → Has m (x ∷ w.list) → (m ≡ n) ⊎ Has m (x ∷ ns)
          forth m (inl e) = inr (inl e)
          forth m (inr h) = elim ((w.has m).0 h) [ inl e ↦ inl e | inr i ↦ inr (inr i) ]

          back : (m : ℕ) → (m ≡ n) ⊎ Has m (x ∷ ns) → Has m (x ∷ w.list)
          back m (inl e) = inr ((w.has m).1 (inl e))
          back m (inr (inl e)) = inl e
          back m (inr (inr i)) = inr ((w.has m).1 (inr i))

  -- the numbers below one that pass a test
  record Ranked (p : ℕ → Bool) (k : ℕ) : Type 0 where
    list : List ℕ
    ranked : IsRanked before list
    has : (m : ℕ) → Has m list ↔ ((m < k) × (p m ≡ true))
    size : length list ≡ how_many p k

  ranked_below : (p : ℕ → Bool) (k : ℕ) → Ranked p k
  ranked_below p zero = record { list = []; ranked = tt; has = λ m. (λ h. absurd h, λ h. let l = h.0 in absurd (omega (arith, l))); size = refl }
  ranked_below p (suc k) = by_test (p k) refl (ranked_below p k)
    where
      by_test : (t : Bool) → p k ≡ t → Ranked p k → Ranked p (suc k)
      by_test true e r = from (with_one k r.list r.ranked (λ h. let l = ((r.has k).0 h).0 in omega (arith, l)))
        where
          from : With k r.list → Ranked p (suc k)
          from w = record {
            list = w.list;
            ranked = w.ranked;
            has = λ m. (λ h. forth m ((w.has m).0 h), λ h. (w.has m).1 (back m h.0 h.1 (cases_lt m k)));
            size = omega (arith, w.size, r.size, ap one_if e);
          }
            where
              forth : (m : ℕ) → (m ≡ k) ⊎ Has m r.list → (m < suc k) × (p m ≡ true)
              forth m (inl i) = (omega (arith, i), ap p i ∙ e)
              forth m (inr h) = let b = (r.has m).0 h in let l = b.0 in (omega (arith, l), b.1)

              back : (m : ℕ) → m < suc k → p m ≡ true → (m < k) ⊎ (k ≤ m) → (m ≡ k) ⊎ Has m r.list
              back m l q (inl less) = inr ((r.has m).1 (less, q))
              back m l q (inr le) = inl (omega (arith, l, le))
      by_test false e r = record {
        list = r.list;
        ranked = r.ranked;
        has = λ m. (λ h. let b = (r.has m).0 h in let l = b.0 in (omega (arith, l), b.1), λ h. (r.has m).1 (below m h.0 h.1 (cases_lt m k), h.1));
        size = omega (arith, r.size, ap one_if e);
      }
        where
          below : (m : ℕ) → m < suc k → p m ≡ true → (m < k) ⊎ (k ≤ m) → m < k
          below m l q (inl less) = less
          below m l q (inr le) = let i : m ≡ k = omega (arith, l, le) in absurd (true≢false (sym q ∙ ap p i ∙ e))

-- how many are up
ups : (xs : List Mark) (k : ℕ) → k ≤ length xs → how_many (λ n. is_up (slice_index_or xs n Down)) k ≡ count_by is_up (take k xs)
ups xs zero le = refl
ups xs (suc k) le = by_test (is_up (get_or xs k Down)) refl (ups xs k (omega arith))
  where
    on : k + 1 ≡ suc k
    on = omega arith

    by_test : (t : Bool) → is_up (get_or xs k Down) ≡ t → how_many (λ n. is_up (slice_index_or xs n Down)) k ≡ count_by is_up (take k xs)
        → how_many (λ n. is_up (slice_index_or xs n Down)) k + cond (is_up (get_or xs k Down)) 1 0 ≡ count_by is_up (take (suc k) xs)
    by_test true e ih =
        let more = count_by_more_yes is_up xs k Down (omega arith) e in
        let last = ap one_if e in
        omega (arith, ih, more, last, ap (λ j. count_by is_up (take j xs)) on)
    by_test false e ih =
        let more = count_by_more_no is_up xs k Down (omega arith) e in
        let last = ap one_if e in
        omega (arith, ih, more, last, ap (λ j. count_by is_up (take j xs)) on)

-- the ideal list of a bucket has as many nodes as are up
pub record Listed (bucket : Low) (s : ClusterState) : Type 0 where
  pub nodes : List ℕ
  pub is_ideal : IsIdeal bucket s nodes
  pub many : length nodes ≡ count_by is_up s.nodes

pub ideal_there : (bucket : Low) (s : ClusterState) → Listed bucket s
ideal_there bucket s =
    let r = ranked_below (Precedes bucket s) (precedes_are_order bucket s) (node_up s) (length s.nodes) in
    record {
      nodes = r.list;
      is_ideal = record {
        ranked = r.ranked;
        members = λ n. (λ e. (r.has n).1 (up_below s.nodes n e, e), λ h. ((r.has n).0 h).1);
      };
      many = r.size ∙ ups s.nodes (length s.nodes) (omega arith) ∙ ap (count_by is_up) (take_all (length s.nodes) s.nodes (omega arith));
    }
