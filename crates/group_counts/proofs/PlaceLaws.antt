-- Places for tallies.
use Rattle.std.proofs.Common.{◌≡◌, ℕ, zero, suc, ◌<◌, ◌++◌, Bool, true, false, cond, List, [], ◌∷◌, length, get_or, Option, None, Some, refl, sym, ap, subst, ◌∙◌, arith}
use Rattle.std.specs.Prelude.{nat_lt, is_some, IsSome}
use Rattle.std.specs.Option.{IfSome}
use Rattle.std.specs.Map.{lookup}
use Rattle.indexmap.specs.IndexMap.{insert_entry}
use Rattle.doc_types.specs.declared.outputs.OutputKind.{OutputKind}
use Rattle.documents.specs.Fields.{Contents}
use Rattle.proof_basics.proofs.Options.{some_same, none_some}
use Rattle.group_counts.specs.Numbers.{onto, found}
use Rattle.group_counts.specs.Tallies.{Told, told_of, IsKept, AreKept, is_counted, counted_of, HasPlace, ArePlaced, ArePlacesMore}

-- ---- a place more

pub no_place : (o : Option Told) → is_some o ≡ false → o ≡ None
no_place None e = refl
no_place (Some t) e = cc

uncounted : (t : Told) → t.count ≡ 0 → is_counted t ≡ false
uncounted t z = ap (nat_lt 0) z

insert-counted : {K : Type 0} (E : K → K → Bool) (es : List (K × Told)) (k : K) (t : Told) → t.count ≡ 0 → lookup (E k) es ≡ None → counted_of (insert_entry E es k t) ≡ counted_of es
insert-counted {K} E [] k t z none = ap (λ b. cond {A = List (K × Told)} b ((k, t) ∷ []) []) (uncounted t z)
insert-counted E (e ∷ es) k t z none = by (E k e.0) none (insert-counted E es k t z)
  where
    by : (b : Bool) → cond b (Some e.1) (lookup (E k) es) ≡ None → (lookup (E k) es ≡ None → counted_of (insert_entry E es k t) ≡ counted_of es)
        → counted_of (cond b ((e.0, t) ∷ es) (e ∷ insert_entry E es k t)) ≡ counted_of (e ∷ es)
    by true n ih = absurd (none_some e.1 (sym n))
    by false n ih = ap (λ l. cond (is_counted e.1) (e ∷ l) l) (ih n)

module _ {K Q : Type 0} (ks : List OutputKind) where
  pub places-same : (es fs : List (K × Told)) (old new : Q → Option Told) → fs ≡ es → ((q : Q) → new q ≡ old q) → ArePlacesMore ks es fs old new
  places-same es fs old new same still = record {
    counted = ap counted_of same;
    kept = λ n h q. subst (λ o. IfSome o (IsKept ks n)) (sym (still q)) (h q);
    stay = λ q h. subst (λ o. IsSome o) (sym (still q)) h;
  }

  pub places-both : (es fs gs : List (K × Told)) (old now next : Q → Option Told) → ArePlacesMore ks es fs old now → ArePlacesMore ks fs gs now next → ArePlacesMore ks es gs old next
  places-both es fs gs old now next a b = record {
    counted = b.counted ∙ a.counted;
    kept = λ n h. b.kept n (a.kept n h);
    stay = λ q h. b.stay q (a.stay q h);
  }

  pub places-put : (E : K → K → Bool) (es fs : List (K × Told)) (k : K) (t : Told) (test : Q → Bool) (old new : Q → Option Told) → lookup (E k) es ≡ None → t ≡ told_of ks [] → fs ≡ insert_entry E es k t
      → ((q : Q) → new q ≡ cond (test q) (Some t) (old q)) → ArePlacesMore ks es fs old new
  places-put E es fs k t test old new none first put changed = record {
    counted = ap counted_of put ∙ insert-counted E es k t zero_count none;
    kept = λ n h q. subst (λ o. IfSome o (IsKept ks n)) (sym (changed q)) (small n h q (test q));
    stay = λ q h. subst (λ o. IsSome o) (sym (changed q)) (there q (test q) h);
  }
    where
      zero_count : t.count ≡ 0
      zero_count = ap (λ u. u.count) first

      small : (n : ℕ) → AreKept ks n old → (q : Q) (b : Bool) → IfSome (cond b (Some t) (old q)) (IsKept ks n)
      small n h q true = (omega (arith, zero_count), λ e. first)
      small n h q false = h q

      there : (q : Q) (b : Bool) → IsSome (old q) → IsSome (cond b (Some t) (old q))
      there q true h = refl
      there q false h = h

-- ---- places of documents

module _ {K : Type 0} where
  pub place-stays : (key : Option K) (old new : K → Option Told) → ((k : K) → IsSome (old k) → IsSome (new k)) → HasPlace key old → HasPlace key new
  place-stays None old new stay h = tt
  place-stays (Some k) old new stay h = stay k h

  pub placed-more : (key : Contents → Option K) (docs : List Contents) (d : Contents) (old new : K → Option Told) → ((k : K) → IsSome (old k) → IsSome (new k)) → ArePlaced key docs old → HasPlace (key d) new → ArePlaced key (docs ++ d ∷ []) new
  placed-more key [] d old new stay h p = (p, tt)
  placed-more key (e ∷ docs) d old new stay h p = (place-stays (key e) old new stay h.0, placed-more key docs d old new stay h.1 p)

  pub placed-still : (key : Contents → Option K) (docs : List Contents) (old new : K → Option Told) → ((k : K) → IsSome (old k) → IsSome (new k)) → ArePlaced key docs old → ArePlaced key docs new
  placed-still key [] old new stay h = tt
  placed-still key (e ∷ docs) old new stay h = (place-stays (key e) old new stay h.0, placed-still key docs old new stay h.1)

  -- the document that is found at a place
  pub placed-found : {A : Type 0} (f : A → Option Contents) (key : Contents → Option K) (tallies : K → Option Told) (xs : List A) (i : ℕ) (x : A) (d : Contents) → i < length xs → Some d ≡ f (get_or xs i x)
      → ArePlaced key (found f xs) tallies → HasPlace (key d) tallies
  placed-found f key tallies [] i x d l e h = absurd (omega (arith, l))
  placed-found f key tallies (y ∷ ys) zero x d l e h = by (f y) e h
    where
      by : (o : Option Contents) → Some d ≡ o → ArePlaced key (onto o (found f ys)) tallies → HasPlace (key d) tallies
      by None e h = absurd (none_some d (sym e))
      by (Some c) e h = subst (λ x. HasPlace (key x) tallies) (sym (some_same d c e)) h.0
  placed-found f key tallies (y ∷ ys) (suc i) x d l e h = placed-found f key tallies ys i x d (omega (arith, l)) e (by (f y) h)
    where
      by : (o : Option Contents) → ArePlaced key (onto o (found f ys)) tallies → ArePlaced key (found f ys) tallies
      by None h = h
      by (Some c) h = h.1
