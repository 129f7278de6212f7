-- Tallies with the documents at hits, one after the other.
use Rattle.std.proofs.Common.{◌≡◌, ℕ, zero, suc, ◌+◌, ◌<◌, ◌++◌, List, [], ◌∷◌, length, take, get_or, Option, None, Some, refl, sym, ap, subst, ◌∙◌, arith, append-nil}
use Rattle.std.specs.Prelude.{IsSome}
use Rattle.std.specs.declared.cmp.Ordering.{Ordering}
use Rattle.doc_types.specs.declared.outputs.OutputKind.{OutputKind}
use Rattle.documents.specs.Fields.{Contents}
use Rattle.document_rows.specs.Reading.{row_at, value_at}
use Rattle.std.specs.FinMap as fin
use Rattle.doc_types.specs.declared.values.FieldValue.{FieldValue}
use Rattle.view_changes.specs.Views.{View}
use Rattle.view_changes.specs.Serving.{rows_of}
use Rattle.match_views.specs.declared.hits.Hit.{Hit}
use Rattle.group_counts.specs.Numbers.{onto}
use Rattle.group_counts.specs.Tallies.{Told, HasPlace, ArePlaced, AreTaken}
use Rattle.group_counts.specs.Gathered.{documents_at}
use Rattle.group_counts.proofs.FigureLaws.{found-more}
use Rattle.group_counts.proofs.TallyLaws.{kept-wide, taken-both}
use Rattle.group_counts.proofs.PlaceLaws.{place-stays, placed-more, placed-still, placed-found}
use Rattle.group_counts.proofs.SlotLaws.{own-value, no-value}

take-more : {A : Type 0} (i : ℕ) (xs : List A) (d : A) → i < length xs → take (suc i) xs ≡ take i xs ++ get_or xs i d ∷ []
take-more i [] d l = absurd (omega (arith, l))
take-more zero (x ∷ xs) d l = refl
take-more (suc i) (x ∷ xs) d l = ap (λ ys. x ∷ ys) (take-more i xs d (omega (arith, l)))

at-more : (v : View) (hits : List Hit) (i : ℕ) (d : Hit) (o : Option Contents) → i < length hits → o ≡ row_at (rows_of (get_or hits i d).node v) (get_or hits i d).local
    → documents_at v (take (i + 1) hits) ≡ documents_at v (take i hits) ++ onto o []
at-more v hits i d o l e =
    ap (λ n. documents_at v (take n hits)) (let n : i + 1 ≡ suc i = omega arith in n)
    ∙ ap (documents_at v) (take-more i hits d l)
    ∙ found-more (λ hit. row_at (rows_of hit.node v) hit.local) (take i hits) (get_or hits i d)
    ∙ ap (λ r. documents_at v (take i hits) ++ onto r []) (sym e)

module _ (v : View) (hits : List Hit) (i : ℕ) (d : Hit) where
  module _ {K : Type 0} (R : K → K → Ordering) (ks : List OutputKind) (key : Contents → Option K) (old now : K → Option Told) where
    pub with-document : (e : Contents) (next : K → Option Told) → i < length hits → Some e ≡ row_at (rows_of (get_or hits i d).node v) (get_or hits i d).local
        → AreTaken R ks key (documents_at v (take i hits)) i old now → AreTaken R ks key (e ∷ []) 1 now next → AreTaken R ks key (documents_at v (take (i + 1) hits)) (i + 1) old next
    with-document e next l is before step =
        subst (λ ds. AreTaken R ks key ds (i + 1) old next) (sym (at-more v hits i d (Some e) l is)) (taken-both R ks key (documents_at v (take i hits)) (e ∷ []) i 1 old now next before step)

    pub without-document : i < length hits → None ≡ row_at (rows_of (get_or hits i d).node v) (get_or hits i d).local
        → AreTaken R ks key (documents_at v (take i hits)) i old now → AreTaken R ks key (documents_at v (take (i + 1) hits)) (i + 1) old now
    without-document l is before =
        let more : AreTaken R ks key (documents_at v (take (i + 1) hits)) i old now = subst (λ ds. AreTaken R ks key ds i old now) (sym (at-more v hits i d None l is ∙ append-nil (documents_at v (take i hits)))) before in
        record {
          tallies = more.tallies;
          kept = λ m h. kept-wide ks (m + i) (m + (i + 1)) now (omega arith) (more.kept m h);
          stay = more.stay;
        }

  module _ {K : Type 0} (key : Contents → Option K) (old now : K → Option Told) where
    pub with-place : (e : Contents) → i < length hits → Some e ≡ row_at (rows_of (get_or hits i d).node v) (get_or hits i d).local → ((k : K) → IsSome (old k) → IsSome (now k))
        → ArePlaced key (documents_at v (take i hits)) old → HasPlace (key e) now → ArePlaced key (documents_at v (take (i + 1) hits)) now
    with-place e l is stay before own =
        subst (λ ds. ArePlaced key ds now) (sym (at-more v hits i d (Some e) l is)) (placed-more key (documents_at v (take i hits)) e old now stay before own)

    pub without-place : i < length hits → None ≡ row_at (rows_of (get_or hits i d).node v) (get_or hits i d).local
        → ArePlaced key (documents_at v (take i hits)) old → ArePlaced key (documents_at v (take (i + 1) hits)) old
    without-place l is before = subst (λ ds. ArePlaced key ds old) (sym (at-more v hits i d None l is ∙ append-nil (documents_at v (take i hits)))) before

    -- what the next document has
    pub place-at : (e : Contents) → i < length hits → Some e ≡ row_at (rows_of (get_or hits i d).node v) (get_or hits i d).local → ArePlaced key (documents_at v hits) old → ((k : K) → IsSome (old k) → IsSome (now k)) → HasPlace (key e) now
    place-at e l is all stay = place-stays (key e) old now stay (placed-found (λ hit. row_at (rows_of hit.node v) hit.local) key old hits i d e l is all)

-- ---- by the value that is read of a hit

module _ (v : View) (hits : List Hit) (i : ℕ) (d : Hit) where
  abbrev row : Option Contents
  row = row_at (rows_of (get_or hits i d).node v) (get_or hits i d).local

  module _ {K : Type 0} (of : Option FieldValue → Option K) (field : List ℕ) (value : Option FieldValue) where
    -- a place for the value, if there is one
    pub place-next : (old now : K → Option Told) → i < length hits → value ≡ value_at (rows_of (get_or hits i d).node v) (get_or hits i d).local field → ((k : K) → IsSome (old k) → IsSome (now k))
        → ArePlaced (λ e. of (fin.get e.fields field)) (documents_at v (take i hits)) old → HasPlace (of value) now → ArePlaced (λ e. of (fin.get e.fields field)) (documents_at v (take (i + 1) hits)) now
    place-next old now l is stay before own = by row refl
      where
        by : (r : Option Contents) → row ≡ r → ArePlaced (λ e. of (fin.get e.fields field)) (documents_at v (take (i + 1) hits)) now
        by None e = without-place v hits i d (λ e. of (fin.get e.fields field)) now now l (sym e) (placed-still (λ e. of (fin.get e.fields field)) (documents_at v (take i hits)) old now stay before)
        by (Some c) e = with-place v hits i d (λ e. of (fin.get e.fields field)) old now c l (sym e) stay before
            (subst (λ o. HasPlace (of o) now) (is ∙ own-value (rows_of (get_or hits i d).node v) (get_or hits i d).local field c e) own)

    -- the value has its place
    pub place-there : (old now : K → Option Told) → of None ≡ None → i < length hits → value ≡ value_at (rows_of (get_or hits i d).node v) (get_or hits i d).local field
        → ArePlaced (λ e. of (fin.get e.fields field)) (documents_at v hits) old → ((k : K) → IsSome (old k) → IsSome (now k)) → HasPlace (of value) now
    place-there old now none l is all stay = by row refl
      where
        by : (r : Option Contents) → row ≡ r → HasPlace (of value) now
        by None e = subst (λ o. HasPlace (of o) now) (sym (is ∙ no-value (rows_of (get_or hits i d).node v) (get_or hits i d).local field e)) (subst (λ o. HasPlace o now) (sym none) tt)
        by (Some c) e = subst (λ o. HasPlace (of o) now) (sym (is ∙ own-value (rows_of (get_or hits i d).node v) (get_or hits i d).local field c e))
            (place-at v hits i d (λ e. of (fin.get e.fields field)) old now c l (sym e) all stay)

    -- the document is taken, if there is one
    pub take-next : (R : K → K → Ordering) (ks : List OutputKind) (old now next : K → Option Told) → i < length hits → value ≡ value_at (rows_of (get_or hits i d).node v) (get_or hits i d).local field
        → AreTaken R ks (λ e. of (fin.get e.fields field)) (documents_at v (take i hits)) i old now
        → ((c : Contents) → row ≡ Some c → fin.get c.fields field ≡ value → AreTaken R ks (λ e. of (fin.get e.fields field)) (c ∷ []) 1 now next)
        → (value ≡ None → next ≡ now) → AreTaken R ks (λ e. of (fin.get e.fields field)) (documents_at v (take (i + 1) hits)) (i + 1) old next
    take-next R ks old now next l is before step still = by row refl
      where
        by : (r : Option Contents) → row ≡ r → AreTaken R ks (λ e. of (fin.get e.fields field)) (documents_at v (take (i + 1) hits)) (i + 1) old next
        by None e = subst (λ t. AreTaken R ks (λ e. of (fin.get e.fields field)) (documents_at v (take (i + 1) hits)) (i + 1) old t)
            (sym (still (is ∙ no-value (rows_of (get_or hits i d).node v) (get_or hits i d).local field e)))
            (without-document v hits i d R ks (λ e. of (fin.get e.fields field)) old now l (sym e) before)
        by (Some c) e = with-document v hits i d R ks (λ e. of (fin.get e.fields field)) old now c next l (sym e) before
            (step c e (sym (is ∙ own-value (rows_of (get_or hits i d).node v) (get_or hits i d).local field c e)))
