-- What a stable sort by ids leaves, of each id the first.
use Rattle.std.proofs.Common.{◌≡◌, inl, inr, ℕ, Bool, true, false, cond, not, T, ◌&&◌, ◌||◌, List, [], ◌∷◌, map, length, arith, refl, sym, ap, subst, ◌∙◌, Option, None, Some}
use mathlib.Core.Bool.{true≢false}
use Rattle.std.specs.FinMap as fin
use Rattle.std.specs.FinMap.{IsAntisymmetric, slice_cmp-IsAntisymmetric, nat_cmp-IsAntisymmetric, is_sorted, same_map, get-from_entries, get-from_sorted, entries-from_sorted, entries-insert, entries_sorted, get-entries, len-entries, len-empty}
use Rattle.std.specs.Cmp.{IsTotalOrder}
use Rattle.std.specs.Cmp.Lexicographic.{nat_list_cmp_total}
use Rattle.std.specs.List.{AllByRecursion, filter, dedup, dedup_from}
use Rattle.std.specs.List.Sorted.{IsStrictlySortedBy, IsSorted, IsStable, ties}
use Rattle.std.specs.Ordering.{eq_by_cmp, is_eq, is_lt, ordering_reverse}
use Rattle.std.specs.declared.cmp.Ordering.{Ordering}
use Rattle.std.specs.declared.cmp.Ordering.TheVariants.{Less, Equal, Greater}
use Rattle.std.proofs.lemmas.Cmp.{on_total, alike_right, tied_itself}
use Rattle.std.proofs.lemmas.List.Kept.{IsStrictlySortedBy-dedup}
use Rattle.std.specs.Str.{bytes_eq}
use Rattle.document_rows.specs.Rows.{has_entry}
use Rattle.document_rows.proofs.RowLaws.{same_id}
use Rattle.documents.specs.EntryCodes.{id_cmp}
use Rattle.documents.specs.declared.entry.Entry.{Entry}
use Rattle.entry_maps.specs.Entries.{by_id}
use Rattle.entry_maps.specs.EntryCodes.{Entries}
use Rattle.view_changes.specs.EntryOrder.{entry_cmp, AreApart}
use Rattle.view_changes.proofs.Members.{In, equal, value-get}

pub ids_total : IsTotalOrder id_cmp
ids_total = nat_list_cmp_total

pub entries_total : IsTotalOrder entry_cmp
entries_total = on_total (λ (e : Entry). e.id) nat_list_cmp_total

ids_tied : IsAntisymmetric id_cmp
ids_tied = slice_cmp-IsAntisymmetric nat_cmp-IsAntisymmetric

abbrev pub before : Entry → Entry → Bool
before a b = is_lt (entry_cmp a b)

-- entries that tie have one id
tie : (r s : Ordering) → r ≡ ordering_reverse s → (not (is_lt r) && not (is_lt s)) ≡ is_eq r
tie Less s e = refl
tie Equal Less e = cc
tie Equal Equal e = refl
tie Equal Greater e = cc
tie Greater Less e = refl
tie Greater Equal e = cc
tie Greater Greater e = cc

ties-id : (a b : Entry) → ties before a b ≡ eq_by_cmp id_cmp a.id b.id
ties-id a b = tie (entry_cmp a b) (entry_cmp b a) (entries_total.antisymm a b)

-- the entry of an id is the first of those that tie
find-ties : (x : Entry) (es : List Entry) → fin.find id_cmp x.id (by_id (filter (ties before x) es)) ≡ fin.find id_cmp x.id (by_id es)
find-ties x [] = refl
find-ties x (e ∷ es) = by_test (ties before x e) (eq_by_cmp id_cmp x.id e.id) refl (ties-id x e) (find-ties x es)
  where
    by_test : (s t : Bool) → eq_by_cmp id_cmp x.id e.id ≡ t → s ≡ t → fin.find id_cmp x.id (by_id (filter (ties before x) es)) ≡ fin.find id_cmp x.id (by_id es)
        → fin.find id_cmp x.id (by_id (cond s (e ∷ filter (ties before x) es) (filter (ties before x) es))) ≡ cond t (Some e) (fin.find id_cmp x.id (by_id es))
    by_test true true is same ih = ap (λ t. cond t (Some e) (fin.find id_cmp x.id (by_id (filter (ties before x) es)))) is
    by_test true false is same ih = absurd (true≢false same)
    by_test false true is same ih = absurd (true≢false (sym same))
    by_test false false is same ih = ih

abbrev named : List ℕ → Entry
named id = record { stamp = record { version = 0; count = 0 }; id = id; body = None }

-- a stable sort leaves the first of each id the first
pub find-sorted : (xs ys : List Entry) → IsStable entry_cmp xs ys → (q : List ℕ) → fin.find id_cmp q (by_id ys) ≡ fin.find id_cmp q (by_id xs)
find-sorted xs ys h q = sym (find-ties (named q) ys) ∙ ap (λ es. fin.find id_cmp q (by_id es)) (h (named q)) ∙ find-ties (named q) xs

-- and so does leaving out the others
find-first : (q : List ℕ) (k : Entry) (xs : List Entry) → fin.find id_cmp q (by_id (dedup_from (eq_by_cmp entry_cmp) k xs)) ≡ fin.find id_cmp q (by_id (k ∷ xs))
find-first q k [] = refl
find-first q k (x ∷ xs) = by_test (eq_by_cmp entry_cmp x k) refl (find-first q k xs) (find-first q x xs)
  where
    again : (t u : Bool) → u ≡ t → cond t (Some k) (fin.find id_cmp q (by_id xs)) ≡ cond t (Some k) (cond u (Some x) (fin.find id_cmp q (by_id xs)))
    again true u e = refl
    again false true e = absurd (true≢false e)
    again false false e = refl

    by_test : (t : Bool) → eq_by_cmp entry_cmp x k ≡ t
        → fin.find id_cmp q (by_id (dedup_from (eq_by_cmp entry_cmp) k xs)) ≡ cond (eq_by_cmp id_cmp q k.id) (Some k) (fin.find id_cmp q (by_id xs))
        → fin.find id_cmp q (by_id (dedup_from (eq_by_cmp entry_cmp) x xs)) ≡ cond (eq_by_cmp id_cmp q x.id) (Some x) (fin.find id_cmp q (by_id xs))
        → fin.find id_cmp q (by_id (cond t (dedup_from (eq_by_cmp entry_cmp) k xs) (k ∷ dedup_from (eq_by_cmp entry_cmp) x xs)))
        ≡ cond (eq_by_cmp id_cmp q k.id) (Some k) (cond (eq_by_cmp id_cmp q x.id) (Some x) (fin.find id_cmp q (by_id xs)))
    by_test true is kept other =
        let tied : eq_by_cmp id_cmp q x.id ≡ eq_by_cmp id_cmp q k.id = ap is_eq (alike_right ids_total x.id k.id q (equal (id_cmp x.id k.id) is)) in
        kept ∙ again (eq_by_cmp id_cmp q k.id) (eq_by_cmp id_cmp q x.id) tied
    by_test false is kept other = ap (λ r. cond (eq_by_cmp id_cmp q k.id) (Some k) r) other

pub find-dedup : (q : List ℕ) (xs : List Entry) → fin.find id_cmp q (by_id (dedup (eq_by_cmp entry_cmp) xs)) ≡ fin.find id_cmp q (by_id xs)
find-dedup q [] = refl
find-dedup q (x ∷ xs) = find-first q x xs

-- ---- a list that rises

both : (a b : Bool) → T a → T b → T (a && b)
both true b p q = q
both false b p q = absurd p

below-all : (e : Entry) (es : List Entry) → AllByRecursion (λ y. entry_cmp e y ≡ Less) es → T (fin.Entries.below_all id_cmp e.id (by_id es))
below-all e [] h = tt
below-all e (x ∷ es) h = both _ _ (subst (λ r. T (is_lt r)) (sym h.0) tt) (below-all e es h.1)

rising : (es : List Entry) → IsStrictlySortedBy entry_cmp es → T (is_sorted id_cmp (by_id es))
unfolding IsStrictlySortedBy
rising [] h = tt
rising (e ∷ es) h = both _ _ (below-all e es h.0) (rising es h.1)

seconds : (es : List Entry) → map (λ (p : List ℕ × Entry). p.1) (by_id es) ≡ es
seconds [] = refl
seconds (e ∷ es) = ap (λ l. e ∷ l) (seconds es)

-- a sorted list in which each id has the entry that it has in another are the values of that one's map
values-sorted : (xs zs : List Entry) → T (is_sorted id_cmp (by_id zs)) → ((q : List ℕ) → fin.find id_cmp q (by_id zs) ≡ fin.find id_cmp q (by_id xs)) → fin.values (fin.from_entries {R = id_cmp} (by_id xs)) ≡ zs
values-sorted xs zs rises same =
    let maps : fin.from_entries {R = id_cmp} (by_id xs) ≡ fin.from_sorted {R = id_cmp} (by_id zs) = same_map ids_total ids_tied _ _ (λ q. get-from_entries ids_total (by_id xs) q ∙ sym (get-from_sorted id_cmp (by_id zs) q rises ∙ same q)) in
    ap (λ (m : Entries). fin.values m) maps ∙ ap (λ (es : List (List ℕ × Entry)). map (λ e. e.1) es) (entries-from_sorted id_cmp (by_id zs) rises) ∙ seconds zs

-- each id stands there once
other-id : (e x : Entry) → entry_cmp e x ≡ Less → bytes_eq x.id e.id ≡ false
other-id e x less = by_test (bytes_eq x.id e.id) refl
  where
    by_test : (t : Bool) → bytes_eq x.id e.id ≡ t → t ≡ false
    by_test true is = let tied : Equal ≡ Less = sym (tied_itself ids_total e.id) ∙ ap (id_cmp e.id) (sym (same_id x.id e.id is)) ∙ less in cc
    by_test false is = refl

none-below : (e : Entry) (es : List Entry) → AllByRecursion (λ y. entry_cmp e y ≡ Less) es → has_entry e.id es ≡ false
none-below e [] h = refl
none-below e (x ∷ es) h = ap (λ t. t || has_entry e.id es) (other-id e x h.0) ∙ none-below e es h.1

pub apart-sorted : (es : List Entry) → IsStrictlySortedBy entry_cmp es → AreApart es
unfolding IsStrictlySortedBy
apart-sorted [] h = tt
apart-sorted (e ∷ es) h = (none-below e es h.0, apart-sorted es h.1)

pub apart-in-order : (ys : List Entry) → IsSorted entry_cmp ys → AreApart (dedup (eq_by_cmp entry_cmp) ys)
apart-in-order ys sorted = apart-sorted (dedup (eq_by_cmp entry_cmp) ys) (IsStrictlySortedBy-dedup entries_total (λ x y. refl) ys sorted)

-- what a stable sort and a dedup leave
pub values-in-order : (xs ys : List Entry) → IsStable entry_cmp xs ys → IsSorted entry_cmp ys → dedup (eq_by_cmp entry_cmp) ys ≡ fin.values (fin.from_entries {R = id_cmp} (by_id xs))
values-in-order xs ys stable sorted =
    sym (values-sorted xs (dedup (eq_by_cmp entry_cmp) ys) (rising (dedup (eq_by_cmp entry_cmp) ys) (IsStrictlySortedBy-dedup entries_total (λ x y. refl) ys sorted))
    (λ q. find-dedup q ys ∙ find-sorted xs ys stable q))

-- ---- a test of ids, before that or behind

-- the test answers alike at one id
abbrev pub IsAlike : (Entry → Bool) → Type 0
IsAlike p = (a b : Entry) → a.id ≡ b.id → p a ≡ p b

find-filtered : (p : Entry → Bool) → IsAlike p → (q : List ℕ) (es : List Entry) → fin.find id_cmp q (by_id (filter p es)) ≡ cond (p (named q)) (fin.find id_cmp q (by_id es)) None
find-filtered p alike q [] = none (p (named q))
  where
    none : (t : Bool) → ◌≡◌ {A = Option Entry} None (cond t None None)
    none true = refl
    none false = refl
find-filtered p alike q (e ∷ es) = by_tests (eq_by_cmp id_cmp q e.id) (p e) (p (named q)) refl refl refl (find-filtered p alike q es)
  where
    tied : eq_by_cmp id_cmp q e.id ≡ true → p e ≡ p (named q)
    tied is = alike e (named q) (sym (ids_tied q e.id (equal (id_cmp q e.id) is)))

    by_tests : (s t u : Bool) → eq_by_cmp id_cmp q e.id ≡ s → p e ≡ t → p (named q) ≡ u → fin.find id_cmp q (by_id (filter p es)) ≡ cond u (fin.find id_cmp q (by_id es)) None
        → fin.find id_cmp q (by_id (cond t (e ∷ filter p es) (filter p es))) ≡ cond u (cond s (Some e) (fin.find id_cmp q (by_id es))) None
    by_tests true true true is here own ih = ap (λ t. cond t (Some e) (fin.find id_cmp q (by_id (filter p es)))) is
    by_tests true true false is here own ih = absurd (true≢false (sym here ∙ tied is ∙ own))
    by_tests true false true is here own ih = absurd (true≢false (sym own ∙ sym (tied is) ∙ here))
    by_tests true false false is here own ih = ih
    by_tests false true u is here own ih = ap (λ t. cond t (Some e) (fin.find id_cmp q (by_id (filter p es)))) is ∙ ih
    by_tests false false u is here own ih = ih

first : (a b : Bool) → T (a && b) → T a
first true b h = tt
first false b h = h

second : (a b : Bool) → T (a && b) → T b
second true b h = h
second false b h = absurd h

below-filtered : (p : Entry → Bool) (k : List ℕ) (es : List Entry) → T (fin.Entries.below_all id_cmp k (by_id es)) → T (fin.Entries.below_all id_cmp k (by_id (filter p es)))
below-filtered p k [] h = tt
below-filtered p k (e ∷ es) h = by_test (p e) (below-filtered p k es (second _ _ h))
  where
    by_test : (t : Bool) → T (fin.Entries.below_all id_cmp k (by_id (filter p es))) → T (fin.Entries.below_all id_cmp k (by_id (cond t (e ∷ filter p es) (filter p es))))
    by_test true ih = both _ _ (first _ _ h) ih
    by_test false ih = ih

sorted-filtered : (p : Entry → Bool) (es : List Entry) → T (is_sorted id_cmp (by_id es)) → T (is_sorted id_cmp (by_id (filter p es)))
sorted-filtered p [] h = tt
sorted-filtered p (e ∷ es) h = by_test (p e) (sorted-filtered p es (second _ _ h))
  where
    by_test : (t : Bool) → T (is_sorted id_cmp (by_id (filter p es))) → T (is_sorted id_cmp (by_id (cond t (e ∷ filter p es) (filter p es))))
    by_test true ih = both _ _ (below-filtered p e.id es (first _ _ h)) ih
    by_test false ih = ih

-- each entry stands at its id
abbrev AreOwn : List (List ℕ × Entry) → Type 0
AreOwn es = AllByRecursion (λ (e : List ℕ × Entry). (e.1).id ≡ e.0) es

own-put : (v : Entry) (es : List (List ℕ × Entry)) → AreOwn es → AreOwn (fin.put id_cmp v.id v es)
own-put v [] h = (refl, tt)
own-put v (e ∷ es) h = by_order (id_cmp v.id e.0) refl (own-put v es h.1)
  where
    by_order : (r : Ordering) → id_cmp v.id e.0 ≡ r → AreOwn (fin.put id_cmp v.id v es) → AreOwn (fin.Entries.by_order r ((v.id, v) ∷ e ∷ es) ((e.0, v) ∷ es) (e ∷ fin.put id_cmp v.id v es))
    by_order Less is ih = (refl, h)
    by_order Equal is ih = (ids_tied v.id e.0 is, h.1)
    by_order Greater is ih = (h.0, ih)

no-entries : (es : List (List ℕ × Entry)) → length es ≡ 0 → es ≡ []
no-entries [] h = refl
no-entries (e ∷ es) h = absurd (omega arith)

own-from : (xs : List Entry) → AreOwn (fin.entries (fin.from_entries {R = id_cmp} (by_id xs)))
own-from [] = subst AreOwn (sym (no-entries (fin.entries (fin.empty {X = Entry} {R = id_cmp})) (sym (len-entries _) ∙ len-empty id_cmp Entry))) tt
own-from (x ∷ xs) = subst AreOwn (sym (entries-insert ids_total (fin.from_entries {R = id_cmp} (by_id xs)) x.id x)) (own-put x (fin.entries (fin.from_entries {R = id_cmp} (by_id xs))) (own-from xs))

own-pairs : (es : List (List ℕ × Entry)) → AreOwn es → by_id (map (λ e. e.1) es) ≡ es
own-pairs [] h = refl
own-pairs (e ∷ es) h = ap (λ (k : List ℕ). (k, e.1) ∷ by_id (map (λ e. e.1) es)) h.0 ∙ ap (λ (l : List (List ℕ × Entry)). e ∷ l) (own-pairs es h.1)

-- those of a map's values that pass are the values of the map of those that pass
pub values-filtered : (p : Entry → Bool) → IsAlike p → (xs : List Entry) → fin.values (fin.from_entries {R = id_cmp} (by_id (filter p xs))) ≡ filter p (fin.values (fin.from_entries {R = id_cmp} (by_id xs)))
values-filtered p alike xs =
    let m : Entries = fin.from_entries {R = id_cmp} (by_id xs) in
    let pairs : by_id (fin.values m) ≡ fin.entries m = own-pairs (fin.entries m) (own-from xs) in
    let rises : T (is_sorted id_cmp (by_id (fin.values m))) = subst (λ (es : List (List ℕ × Entry)). T (is_sorted id_cmp es)) (sym pairs) (entries_sorted m) in
    let found : (q : List ℕ) → fin.find id_cmp q (by_id (fin.values m)) ≡ fin.find id_cmp q (by_id xs) = λ q. ap (fin.find id_cmp q) pairs ∙ sym (get-entries m q) ∙ get-from_entries ids_total (by_id xs) q in
    values-sorted (filter p xs) (filter p (fin.values m)) (sorted-filtered p (fin.values m) rises)
    (λ q. find-filtered p alike q (fin.values m) ∙ ap (λ o. cond (p (named q)) o None) (found q) ∙ sym (find-filtered p alike q xs))

none-passes : (p : Entry → Bool) (es : List Entry) → ((e : Entry) → In e es → p e ≡ false) → filter p es ≡ []
none-passes p [] h = refl
none-passes p (e ∷ es) h = ap (λ t. cond t (e ∷ filter p es) (filter p es)) (h e (inl refl)) ∙ none-passes p es (λ x i. h x (inr i))

-- where the entry of no id passes, none of a map's values does
pub no-value-passes : (p : Entry → Bool) (m : Entries) → ((id : List ℕ) (e : Entry) → fin.get m id ≡ Some e → p e ≡ false) → filter p (fin.values m) ≡ []
no-value-passes p m h = none-passes p (fin.values m) (λ e i. let r = value-get ids_total ids_tied m e i in h r.0 e r.1)
