-- That the hits of a view are at the documents of which the query is true.
use Rattle.std.proofs.Common.{◌≡◌, ℕ, zero, suc, ◌+◌, ◌≤◌, ◌++◌, Bool, true, false, cond, List, [], ◌∷◌, map, filter, length, take, Option, None, Some, refl, sym, ap, ap₂, ◌∙◌, arith, append-nil, append_assoc}
use Rattle.std.proofs.lemmas.List.{take_all}
use Rattle.documents.specs.Fields.{Contents}
use Rattle.document_rows.specs.Rows.{Rows}
use Rattle.document_rows.specs.Reading.{row_at, places_from, places_where}
use Rattle.view_changes.specs.Views.{NodeView, View, node_at}
use Rattle.view_changes.specs.Serving.{serves, serves_at, rows_of}
use Rattle.query_text.specs.Grammar.{said_of}
use Rattle.query_text.specs.declared.query.Query.{Query}
use Rattle.query_text.specs.Truth.{matches_document}
use Rattle.match_views.specs.declared.hits.Hit.{Hit}
use Rattle.match_views.specs.Hits.{found_at, hits_below, hits_of}
use Rattle.group_counts.specs.Numbers.{onto, found}
use Rattle.group_counts.specs.Gathered.{documents_at}
use Rattle.search_views.specs.Answers.{documents_in, matched}

-- ---- lists

map-map : {A B C : Type 0} (f : B → C) (g : A → B) (xs : List A) → map f (map g xs) ≡ map (λ x. f (g x)) xs
map-map f g [] = refl
map-map f g (x ∷ xs) = ap (λ ys. f (g x) ∷ ys) (map-map f g xs)

map-append : {A B : Type 0} (f : A → B) (xs ys : List A) → map f (xs ++ ys) ≡ map f xs ++ map f ys
map-append f [] ys = refl
map-append f (x ∷ xs) ys = ap (λ zs. f x ∷ zs) (map-append f xs ys)

map-long : {A B : Type 0} (f : A → B) (xs : List A) → length (map f xs) ≡ length xs
map-long f [] = refl
map-long f (x ∷ xs) = ap suc (map-long f xs)

found-map : {A B : Type 0} (f : A → Option B) (xs : List A) → found f xs ≡ found (λ o. o) (map f xs)
found-map f [] = refl
found-map f (x ∷ xs) = ap (onto (f x)) (found-map f xs)

found-somes : {B : Type 0} (ys : List B) → found (λ o. o) (map {B = Option B} Some ys) ≡ ys
found-somes [] = refl
found-somes (y ∷ ys) = ap (λ zs. y ∷ zs) (found-somes ys)

-- ---- one node

shown-places : (p : Contents → Bool) (m : ℕ) (rows whole : Rows) → ((l : ℕ) → row_at whole (m + l) ≡ row_at rows l) → map (row_at whole) (places_from p m rows) ≡ map Some (filter p (documents_in rows))
shown-places p m [] whole h = refl
shown-places p m (None ∷ rows) whole h = shown-places p (suc m) rows whole (λ l. ap (row_at whole) (let e : suc m + l ≡ m + suc l = omega arith in e) ∙ h (suc l))
shown-places p m (Some d ∷ rows) whole h = by (p d) (shown-places p (suc m) rows whole (λ l. ap (row_at whole) (let e : suc m + l ≡ m + suc l = omega arith in e) ∙ h (suc l)))
  where
    own : row_at whole m ≡ Some d
    own = ap (row_at whole) (let e : m ≡ m + 0 = omega arith in e) ∙ h 0

    by : (t : Bool) → map (row_at whole) (places_from p (suc m) rows) ≡ map Some (filter p (documents_in rows))
        → map (row_at whole) (cond t (m ∷ places_from p (suc m) rows) (places_from p (suc m) rows)) ≡ map Some (cond t (d ∷ filter p (documents_in rows)) (filter p (documents_in rows)))
    by true ih = ap₂ (λ o os. o ∷ os) own ih
    by false ih = ih

shown-node : (q : Query) (n : ℕ) (v : View) → map (λ hit. row_at (rows_of hit.node v) hit.local) (found_at q n v) ≡ map Some (filter (matches_document q) (documents_in (rows_of n v)))
shown-node q n v =
    map-map {B = Hit} (λ hit. row_at (rows_of hit.node v) hit.local) (λ local. record { node = n; local = local }) (places_where (matches_document q) (rows_of n v))
    ∙ shown-places (matches_document q) 0 (rows_of n v) (rows_of n v) (λ l. ap (row_at (rows_of n v)) (let e : ◌≡◌ {A = ℕ} (0 + l) l = omega arith in e))

-- ---- all nodes

matched-more : (q : Query) (w n : ℕ) (ns : List NodeView) → matched (said_of q) w (take (suc n) ns) ≡ matched (said_of q) w (take n ns) ++ cond (serves_at n w ns) (filter (matches_document q) (documents_in (node_at n ns).rows)) []
matched-more q w zero [] = refl
matched-more q w (suc n) [] = refl
matched-more q w zero (x ∷ xs) = append-nil (cond (serves w x) (filter (matches_document q) (documents_in x.rows)) [])
matched-more q w (suc n) (x ∷ xs) =
    ap (λ l. cond (serves w x) (filter (matches_document q) (documents_in x.rows)) [] ++ l) (matched-more q w n xs)
    ∙ sym (append_assoc (cond (serves w x) (filter (matches_document q) (documents_in x.rows)) []) (matched (said_of q) w (take n xs)) (cond (serves_at n w xs) (filter (matches_document q) (documents_in (node_at n xs).rows)) []))

shown-below : (q : Query) (w n : ℕ) (v : View) → map (λ hit. row_at (rows_of hit.node v) hit.local) (hits_below q w n v) ≡ map Some (matched (said_of q) w (take n v.nodes))
shown-below q w zero v = refl
shown-below q w (suc n) v =
    map-append (λ hit. row_at (rows_of hit.node v) hit.local) (hits_below q w n v) (cond (serves_at n w v.nodes) (found_at q n v) [])
    ∙ ap₂ (λ a b. a ++ b) (shown-below q w n v) (by (serves_at n w v.nodes))
    ∙ sym (map-append Some (matched (said_of q) w (take n v.nodes)) (cond (serves_at n w v.nodes) (filter (matches_document q) (documents_in (rows_of n v))) []))
    ∙ ap (map Some) (sym (matched-more q w n v.nodes))
  where
    by : (t : Bool) → map (λ hit. row_at (rows_of hit.node v) hit.local) (cond t (found_at q n v) []) ≡ map Some (cond t (filter (matches_document q) (documents_in (rows_of n v))) [])
    by true = shown-node q n v
    by false = refl

shown-hits : (q : Query) (w : ℕ) (v : View) → length v.nodes ≡ 32 → map (λ hit. row_at (rows_of hit.node v) hit.local) (hits_of q w v) ≡ map Some (matched (said_of q) w v.nodes)
shown-hits q w v e = shown-below q w 32 v ∙ ap (λ ns. map Some (matched (said_of q) w ns)) (take_all 32 v.nodes (let l : length v.nodes ≤ 32 = omega (arith, e) in l))

pub documents-matched : (q : Query) (w : ℕ) (v : View) → length v.nodes ≡ 32 → documents_at v (hits_of q w v) ≡ matched (said_of q) w v.nodes
documents-matched q w v e =
    found-map (λ hit. row_at (rows_of hit.node v) hit.local) (hits_of q w v) ∙ ap (found (λ o. o)) (shown-hits q w v e) ∙ found-somes (matched (said_of q) w v.nodes)

pub hits-long : (q : Query) (w : ℕ) (v : View) → length v.nodes ≡ 32 → length (hits_of q w v) ≡ length (matched (said_of q) w v.nodes)
hits-long q w v e =
    sym (map-long (λ hit. row_at (rows_of hit.node v) hit.local) (hits_of q w v)) ∙ ap length (shown-hits q w v e) ∙ map-long {B = Option Contents} Some (matched (said_of q) w v.nodes)
