-- How many hits a view has.
use Rattle.std.proofs.Common.{◌≡◌, ℕ, zero, suc, ◌+◌, ◌-◌, ◌*◌, ◌<◌, ◌≤◌, ◌++◌, Bool, true, false, cond, List, [], ◌∷◌, map, length, None, Some, refl, ap, subst, arith}
use Rattle.std.specs.List.{AllByRecursion}
use Rattle.documents.specs.Fields.{Contents}
use Rattle.document_rows.specs.Rows.{Rows}
use Rattle.document_rows.specs.Reading.{places_from, places_where}
use Rattle.view_changes.specs.Views.{View}
use Rattle.view_changes.specs.Serving.{serves_at, rows_of}
use Rattle.query_text.specs.declared.query.Query.{Query}
use Rattle.query_text.specs.Truth.{matches_document}
use Rattle.match_views.specs.declared.hits.Hit.{Hit}
use Rattle.match_views.specs.Hits.{found_at, hits_below, hits_of}

abbrev AreBelow : ℕ → List ℕ → Type 0
AreBelow top xs = AllByRecursion (λ x. x < top) xs

abbrev AreLow : List Hit → Type 0
AreLow hits = AllByRecursion (λ hit. hit.local < 4294967296) hits

few-places : (p : Contents → Bool) (m top : ℕ) (rows : Rows) → AreBelow top (places_from p m rows) → length (places_from p m rows) ≤ top - m
few-places p m top [] h = omega arith
few-places p m top (None ∷ rows) h = let ih : length (places_from p (suc m) rows) ≤ top - suc m = few-places p (suc m) top rows h in omega (arith, ih)
few-places p m top (Some d ∷ rows) h = by (p d) h (few-places p (suc m) top rows)
  where
    by : (t : Bool) → AreBelow top (cond t (m ∷ places_from p (suc m) rows) (places_from p (suc m) rows))
        → (AreBelow top (places_from p (suc m) rows) → length (places_from p (suc m) rows) ≤ top - suc m)
        → length (cond t (m ∷ places_from p (suc m) rows) (places_from p (suc m) rows)) ≤ top - m
    by true k ih = let rest : length (places_from p (suc m) rows) ≤ top - suc m = ih k.1 in omega (arith, rest, k.0)
    by false k ih = let rest : length (places_from p (suc m) rows) ≤ top - suc m = ih k in omega (arith, rest)

low-places : (n : ℕ) (xs : List ℕ) → AreLow (map (λ local. record { node = n; local = local }) xs) → AreBelow 4294967296 xs
low-places n [] h = tt
low-places n (x ∷ xs) h = (h.0, low-places n xs h.1)

long-map : {A B : Type 0} (f : A → B) (xs : List A) → length (map f xs) ≡ length xs
long-map f [] = refl
long-map f (x ∷ xs) = let ih : length (map f xs) ≡ length xs = long-map f xs in omega (arith, ih)

few-at : (q : Query) (n : ℕ) (v : View) → AreLow (found_at q n v) → length (found_at q n v) ≤ 4294967296
few-at q n v h =
    let few : length (places_where (matches_document q) (rows_of n v)) ≤ 4294967296 - 0 = few-places (matches_document q) 0 4294967296 (rows_of n v) (low-places n (places_where (matches_document q) (rows_of n v)) h) in
    let long : length (found_at q n v) ≡ length (places_where (matches_document q) (rows_of n v)) = long-map {B = Hit} (λ local. record { node = n; local = local }) (places_where (matches_document q) (rows_of n v)) in
    omega (arith, few, long)

low-first : (xs ys : List Hit) → AreLow (xs ++ ys) → AreLow xs
low-first [] ys h = tt
low-first (x ∷ xs) ys h = (h.0, low-first xs ys h.1)

low-second : (xs ys : List Hit) → AreLow (xs ++ ys) → AreLow ys
low-second [] ys h = h
low-second (x ∷ xs) ys h = low-second xs ys h.1

long-append : (xs ys : List Hit) → length (xs ++ ys) ≡ length xs + length ys
long-append [] ys = omega arith
long-append (x ∷ xs) ys = let ih : length (xs ++ ys) ≡ length xs + length ys = long-append xs ys in omega (arith, ih)

few-below : (q : Query) (w n : ℕ) (v : View) → AreLow (hits_below q w n v) → length (hits_below q w n v) ≤ n * 4294967296
few-below q w zero v h = omega arith
few-below q w (suc n) v h = by (serves_at n w v.nodes) h (few-below q w n v)
  where
    here : Bool → List Hit
    here t = cond t (found_at q n v) []

    by : (t : Bool) → AreLow (hits_below q w n v ++ cond t (found_at q n v) []) → (AreLow (hits_below q w n v) → length (hits_below q w n v) ≤ n * 4294967296)
        → length (hits_below q w n v ++ cond t (found_at q n v) []) ≤ suc n * 4294967296
    by true k ih =
        let rest : length (hits_below q w n v) ≤ n * 4294967296 = ih (low-first (hits_below q w n v) (found_at q n v) k) in
        let own : length (found_at q n v) ≤ 4294967296 = few-at q n v (low-second (hits_below q w n v) (found_at q n v) k) in
        omega (arith, rest, own, long-append (hits_below q w n v) (found_at q n v))
    by false k ih =
        let rest : length (hits_below q w n v) ≤ n * 4294967296 = ih (low-first (hits_below q w n v) [] k) in
        omega (arith, rest, long-append (hits_below q w n v) [])

pub few-hits : (q : Query) (w : ℕ) (v : View) (hits : List Hit) → hits ≡ hits_of q w v → AllByRecursion (λ hit. hit.local < 4294967296) hits → length hits ≤ 137438953472
few-hits q w v hits e h =
    let few : length (hits_of q w v) ≤ 32 * 4294967296 = few-below q w 32 v (subst AreLow e h) in
    let long : length hits ≡ length (hits_of q w v) = ap length e in
    omega (arith, few, long)

-- hits with some more
pub low-both : (xs ys : List Hit) → AreLow xs → AreLow ys → AreLow (xs ++ ys)
low-both [] ys g h = h
low-both (x ∷ xs) ys g h = (g.0, low-both xs ys g.1 h)

pub low-last : (xs : List Hit) (x : Hit) → AreLow xs → x.local < 4294967296 → AreLow (xs ++ x ∷ [])
low-last xs x g l = low-both xs (x ∷ []) g (l, tt)
