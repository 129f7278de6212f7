-- Tallies with a document more.
use Rattle.std.proofs.Common.{◌≡◌, ℕ, ◌+◌, ◌≤◌, ◌++◌, Bool, true, false, cond, List, [], ◌∷◌, filter, Option, None, Some, refl, sym, ap, ap₂, subst, ◌∙◌, arith, append-nil, append_assoc}
use Rattle.std.specs.Prelude.{nat_lt, IsSome}
use Rattle.std.proofs.lemmas.Bool.Decides.{nat_tests}
use Rattle.std.specs.Option.{IfSome}
use Rattle.std.specs.Ordering.{eq_by_cmp}
use Rattle.std.specs.declared.cmp.Ordering.{Ordering}
use Rattle.doc_types.specs.declared.outputs.OutputKind.{OutputKind}
use Rattle.documents.specs.Fields.{Contents}
use Rattle.group_counts.specs.Keyed.{is_key, with_key}
use Rattle.proof_basics.proofs.Options.{some_same, none_some}
use Rattle.group_counts.specs.Tallies.{Told, told_of, tally_of, told_with, tally_with, AreTallies, IsKept, AreKept, is_counted, counted, AreTaken}
use Rattle.group_counts.proofs.FigureLaws.{length-more, values-more}

told-more : (ks : List OutputKind) (docs : List Contents) (d : Contents) → told_of ks (docs ++ d ∷ []) ≡ told_with ks d (told_of ks docs)
told-more ks docs d = ap₂ {C = Told} (λ n vs. record { count = n; values = vs }) (length-more docs d) (values-more ks docs d)

tally-more : (ks : List OutputKind) (docs : List Contents) (d : Contents) → tally_of ks (docs ++ d ∷ []) ≡ Some (tally_with ks d (tally_of ks docs))
tally-more ks [] d = ap Some (told-more ks [] d)
tally-more ks (e ∷ docs) d = ap Some (told-more ks (e ∷ docs) d)

filter-more : (p : Contents → Bool) (docs : List Contents) (d : Contents) → filter p (docs ++ d ∷ []) ≡ filter p docs ++ cond (p d) (d ∷ []) []
filter-more p [] d = by (p d)
  where
    by : (t : Bool) → cond t (d ∷ []) [] ≡ cond t (d ∷ []) []
    by t = refl
filter-more p (e ∷ docs) d = by (p e) (filter-more p docs d)
  where
    by : (t : Bool) → filter p (docs ++ d ∷ []) ≡ filter p docs ++ cond (p d) (d ∷ []) [] → cond t (e ∷ filter p (docs ++ d ∷ [])) (filter p (docs ++ d ∷ [])) ≡ cond t (e ∷ filter p docs) (filter p docs) ++ cond (p d) (d ∷ []) []
    by true ih = ap (λ l. e ∷ l) ih
    by false ih = ih

module _ {K : Type 0} (R : K → K → Ordering) where
  -- a document with a key
  pub tallies-with : ((x y : K) → eq_by_cmp R x y ≡ true → x ≡ y) → (ks : List OutputKind) (key : Contents → Option K) (docs : List Contents) (d : Contents) (k : K) (test : K → Bool) (old new : K → Option Told)
      → key d ≡ Some k → ((q : K) → test q ≡ eq_by_cmp R q k) → ((q : K) → new q ≡ cond (test q) (Some (tally_with ks d (old k))) (old q))
      → AreTallies R ks key docs old → AreTallies R ks key (docs ++ d ∷ []) new
  tallies-with same ks key docs d k test old new own tests changed are = λ q.
      changed q ∙ ap (λ t. cond t (Some (tally_with ks d (old k))) (old q)) (tests q)
      ∙ by q (eq_by_cmp R q k) refl
      ∙ ap (λ o. tally_of ks (with_key R key q docs ++ cond (is_key R q o) (d ∷ []) [])) (sym own)
      ∙ ap (tally_of ks) (sym (filter-more (λ e. is_key R q (key e)) docs d))
    where
      by : (q : K) (t : Bool) → eq_by_cmp R q k ≡ t → cond t (Some (tally_with ks d (old k))) (old q) ≡ tally_of ks (with_key R key q docs ++ cond t (d ∷ []) [])
      by q true e = ap (λ o. Some (tally_with ks d o)) (are k ∙ ap (λ x. tally_of ks (with_key R key x docs)) (sym (same q k e))) ∙ sym (tally-more ks (with_key R key q docs) d)
      by q false e = are q ∙ ap (tally_of ks) (sym (append-nil (with_key R key q docs)))

  -- a document without one
  pub tallies-past : (ks : List OutputKind) (key : Contents → Option K) (docs : List Contents) (d : Contents) (old new : K → Option Told)
      → key d ≡ None → ((q : K) → new q ≡ old q) → AreTallies R ks key docs old → AreTallies R ks key (docs ++ d ∷ []) new
  tallies-past ks key docs d old new none still are = λ q.
      still q ∙ are q
      ∙ ap (tally_of ks) (sym (append-nil (with_key R key q docs)))
      ∙ ap (λ o. tally_of ks (with_key R key q docs ++ cond (is_key R q o) (d ∷ []) [])) (sym none)
      ∙ ap (tally_of ks) (sym (filter-more (λ e. is_key R q (key e)) docs d))

-- ---- tallies that count

positive : (n : ℕ) → nat_lt 0 (n + 1) ≡ true
positive n = grind (arith, nat_tests)

none-of : (n : ℕ) → nat_lt 0 n ≡ false → n ≡ 0
none-of n e = grind (arith, nat_tests)

counted-with : (ks : List OutputKind) (d : Contents) (n : ℕ) (o : Option Told) → IfSome o (IsKept ks n) → counted (Some (tally_with ks d o)) ≡ Some (tally_with ks d (counted o))
counted-with ks d n None h = ap (λ b. cond b (Some (tally_with ks d None)) None) (positive 0)
counted-with ks d n (Some t) h = ap (λ b. cond b (Some (told_with ks d t)) None) (positive t.count) ∙ by (is_counted t) refl
  where
    by : (b : Bool) → is_counted t ≡ b → Some (told_with ks d t) ≡ Some (tally_with ks d (cond b (Some t) None))
    by true e = refl
    by false e = ap (λ u. Some (told_with ks d u)) (h.1 (none-of t.count e))

-- ---- how many documents they count

one_more : (n : ℕ) (ks : List OutputKind) (d : Contents) (o : Option Told) → IfSome o (IsKept ks n) → IsKept ks (n + 1) (tally_with ks d o)
one_more n ks d None h = (omega arith, λ e. absurd (omega (arith, e)))
one_more n ks d (Some t) h = (let f : t.count ≤ n = h.0 in omega (arith, f), λ e. absurd (omega (arith, e)))

wide : (ks : List OutputKind) (m n : ℕ) (o : Option Told) → m ≤ n → IfSome o (IsKept ks m) → IfSome o (IsKept ks n)
wide ks m n None l h = tt
wide ks m n (Some t) l h = (let f : t.count ≤ m = h.0 in omega (arith, f, l), h.1)

module _ {K : Type 0} (ks : List OutputKind) where
  pub kept-wide : (m n : ℕ) (tallies : K → Option Told) → m ≤ n → AreKept ks m tallies → AreKept ks n tallies
  kept-wide m n tallies l h = λ q. wide ks m n (tallies q) l (h q)

  -- a tally that is there counts no more
  pub count-kept : (n : ℕ) (tallies : K → Option Told) (k : K) (t : Told) → AreKept ks n tallies → tallies k ≡ Some t → t.count ≤ n
  count-kept n tallies k t h e = by (tallies k) (h k) e
    where
      by : (o : Option Told) → IfSome o (IsKept ks n) → o ≡ Some t → t.count ≤ n
      by None f e = absurd (none_some t e)
      by (Some u) f e = let same : u.count ≡ t.count = ap (λ x. x.count) (some_same u t e) in let l : u.count ≤ n = f.0 in omega (arith, same, l)

-- ---- tallies with documents more

module _ {K : Type 0} (R : K → K → Ordering) (ks : List OutputKind) (key : Contents → Option K) where
  pub taken-none : (old : K → Option Told) → AreTaken R ks key [] 0 old old
  taken-none old = record {
    tallies = λ docs are. subst (λ ds. AreTallies R ks key ds (λ k. counted (old k))) (sym (append-nil docs)) are;
    kept = λ m h. kept-wide ks m (m + 0) old (omega arith) h;
    stay = λ k h. h;
  }

  pub taken-both : (more ds : List Contents) (n m : ℕ) (old now next : K → Option Told) → AreTaken R ks key more n old now → AreTaken R ks key ds m now next → AreTaken R ks key (more ++ ds) (n + m) old next
  taken-both more ds n m old now next a b = record {
    tallies = λ docs are. subst (λ all. AreTallies R ks key all (λ k. counted (next k))) (append_assoc docs more ds) (b.tallies (docs ++ more) (a.tallies docs are));
    kept = λ k h. kept-wide ks (k + n + m) (k + (n + m)) next (omega arith) (b.kept (k + n) (a.kept k h));
    stay = λ k h. b.stay k (a.stay k h);
  }

  -- a document with a key
  pub taken-key : ((x y : K) → eq_by_cmp R x y ≡ true → x ≡ y) → (d : Contents) (k : K) (test : K → Bool) (m : ℕ) (old new : K → Option Told) → key d ≡ Some k → ((q : K) → test q ≡ eq_by_cmp R q k) → AreKept ks m old
      → ((q : K) → new q ≡ cond (test q) (Some (tally_with ks d (old k))) (old q)) → AreTaken R ks key (d ∷ []) 1 old new
  taken-key same d k test m old new own tests held changed = record {
    tallies = λ docs are. tallies-with R same ks key docs d k test (λ q. counted (old q)) (λ q. counted (new q)) own tests (λ q. ap counted (changed q) ∙ shown q (test q)) are;
    kept = λ n h q. subst (λ o. IfSome o (IsKept ks (n + 1))) (sym (changed q)) (small n h q (test q));
    stay = λ q h. subst (λ o. IsSome o) (sym (changed q)) (there q (test q) h);
  }
    where
      shown : (q : K) (t : Bool) → counted (cond t (Some (tally_with ks d (old k))) (old q)) ≡ cond t (Some (tally_with ks d (counted (old k)))) (counted (old q))
      shown q true = counted-with ks d m (old k) (held k)
      shown q false = refl

      small : (n : ℕ) → AreKept ks n old → (q : K) (t : Bool) → IfSome (cond t (Some (tally_with ks d (old k))) (old q)) (IsKept ks (n + 1))
      small n h q true = one_more n ks d (old k) (h k)
      small n h q false = wide ks n (n + 1) (old q) (omega arith) (h q)

      there : (q : K) (t : Bool) → IsSome (old q) → IsSome (cond t (Some (tally_with ks d (old k))) (old q))
      there q true h = refl
      there q false h = h

  -- a document without one
  pub taken-past : (d : Contents) (old : K → Option Told) → key d ≡ None → AreTaken R ks key (d ∷ []) 1 old old
  taken-past d old none = record {
    tallies = λ docs are. tallies-past R ks key docs d (λ q. counted (old q)) (λ q. counted (old q)) none (λ q. refl) are;
    kept = λ m h. kept-wide ks m (m + 1) old (omega arith) h;
    stay = λ k h. h;
  }
