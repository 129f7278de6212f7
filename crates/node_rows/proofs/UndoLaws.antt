-- New documents that leave again.
use Rattle.std.proofs.Common.{◌≡◌, ℕ, zero, suc, ◌+◌, ◌<◌, ◌≤◌, ◌||◌, Bool, true, false, cond, nat_lt, List, [], ◌∷◌, map, fold, length, take, get_or, refl, sym, ap, ap₂, ◌∙◌, arith, Option, Some, None, bytes_eq}
use Rattle.proof_basics.proofs.Tests.{clash}
use Rattle.bucket_ids.specs.Buckets.{Low, has_key}
use Rattle.global_ids.specs.Keys.{key_of}
use Rattle.doc_types.specs.SchemaCodes.{Types}
use Rattle.documents.specs.Fields.{Contents}
use Rattle.documents.specs.declared.entry.Entry.{Entry}
use Rattle.document_rows.specs.Rows.{Rows, is_of, has_row, has_entry, free_place, put_free, replaced, without, with_document, fitted, after_body, taken_into}
use Rattle.document_rows.specs.Reading.{row_at}
use Rattle.document_rows.proofs.RowLaws.{same_id, own_id}
use Rattle.node_rows.specs.TypedRows.{AreNew, all_left, without_in}

-- rows, and what entries made of them: only free places changed, to documents of the entries
abbrev pub IsOver : List Entry → Rows → Rows → Type 0
IsOver es [] [] = Unit {0}
IsOver es [] (None ∷ cur) = IsOver es [] cur
IsOver es [] (Some d ∷ cur) = (has_entry d.id es ≡ true) × IsOver es [] cur
IsOver es (r ∷ rows) [] = ⊥
IsOver es (None ∷ rows) (None ∷ cur) = IsOver es rows cur
IsOver es (None ∷ rows) (Some d ∷ cur) = (has_entry d.id es ≡ true) × IsOver es rows cur
IsOver es (Some c ∷ rows) (None ∷ cur) = ⊥
IsOver es (Some c ∷ rows) (Some d ∷ cur) = (Some c ≡ Some d) × (has_entry d.id es ≡ false) × IsOver es rows cur

no_entry : (es : List Entry) (c : Contents) (rows : Rows) → AreNew (Some c ∷ rows) es → has_entry c.id es ≡ false
no_entry [] c rows h = refl
no_entry (e ∷ es) c rows h = by_test (bytes_eq e.id c.id) refl (bytes_eq c.id e.id) refl h.0 (no_entry es c rows h.2)
  where
    by_test : (t : Bool) → bytes_eq e.id c.id ≡ t → (u : Bool) → bytes_eq c.id e.id ≡ u → (u || has_row e.id rows) ≡ false → has_entry c.id es ≡ false → (t || has_entry c.id es) ≡ false
    by_test true a true b k ih = clash refl k
    by_test true a false b k ih = clash (ap (λ x. bytes_eq x e.id) (sym (same_id e.id c.id a)) ∙ own_id e.id) b
    by_test false a u b k ih = ih

new_rest : (es : List Entry) (r : Option Contents) (rows : Rows) → AreNew (r ∷ rows) es → AreNew rows es
new_rest [] r rows h = tt
new_rest (e ∷ es) r rows h = (behind (is_of e.id r) h.0, h.1, new_rest es r rows h.2)
  where
    behind : (t : Bool) → (t || has_row e.id rows) ≡ false → has_row e.id rows ≡ false
    behind true k = clash refl k
    behind false k = k

pub over_self : (es : List Entry) (rows : Rows) → AreNew rows es → IsOver es rows rows
over_self es [] h = tt
over_self es (None ∷ rows) h = over_self es rows (new_rest es None rows h)
over_self es (Some c ∷ rows) h = (refl, no_entry es c rows h, over_self es rows (new_rest es (Some c) rows h))

-- ---- what an entry leaves

over_without : (es : List Entry) (id : List ℕ) → has_entry id es ≡ true → (rows cur : Rows) → IsOver es rows cur → IsOver es rows (without id cur)
over_without es id own [] [] h = tt
over_without es id own [] (None ∷ cur) h = over_without es id own [] cur h
over_without es id own [] (Some d ∷ cur) h = by_test (bytes_eq d.id id) (over_without es id own [] cur h.1)
  where
    by_test : (t : Bool) → IsOver es [] (without id cur) → IsOver es [] (cond t None (Some d) ∷ without id cur)
    by_test true ih = ih
    by_test false ih = (h.0, ih)
over_without es id own (r ∷ rows) [] h = absurd h
over_without es id own (None ∷ rows) (None ∷ cur) h = over_without es id own rows cur h
over_without es id own (None ∷ rows) (Some d ∷ cur) h = by_test (bytes_eq d.id id) (over_without es id own rows cur h.1)
  where
    by_test : (t : Bool) → IsOver es rows (without id cur) → IsOver es (None ∷ rows) (cond t None (Some d) ∷ without id cur)
    by_test true ih = ih
    by_test false ih = (h.0, ih)
over_without es id own (Some c ∷ rows) (None ∷ cur) h = absurd h
over_without es id own (Some c ∷ rows) (Some d ∷ cur) h = by_test (bytes_eq d.id id) refl (over_without es id own rows cur h.2)
  where
    by_test : (t : Bool) → bytes_eq d.id id ≡ t → IsOver es rows (without id cur) → IsOver es (Some c ∷ rows) (cond t None (Some d) ∷ without id cur)
    by_test true e ih = clash own (ap (λ x. has_entry x es) (sym (same_id d.id id e)) ∙ h.1)
    by_test false e ih = (h.0, h.1, ih)

over_replaced : (es : List Entry) (n : Contents) → has_entry n.id es ≡ true → (rows cur : Rows) → IsOver es rows cur → IsOver es rows (replaced n cur)
over_replaced es n own [] [] h = tt
over_replaced es n own [] (None ∷ cur) h = over_replaced es n own [] cur h
over_replaced es n own [] (Some d ∷ cur) h = by_test (bytes_eq d.id n.id) (over_replaced es n own [] cur h.1)
  where
    by_test : (t : Bool) → IsOver es [] (replaced n cur) → IsOver es [] (cond t (Some n) (Some d) ∷ replaced n cur)
    by_test true ih = (own, ih)
    by_test false ih = (h.0, ih)
over_replaced es n own (r ∷ rows) [] h = absurd h
over_replaced es n own (None ∷ rows) (None ∷ cur) h = over_replaced es n own rows cur h
over_replaced es n own (None ∷ rows) (Some d ∷ cur) h = by_test (bytes_eq d.id n.id) (over_replaced es n own rows cur h.1)
  where
    by_test : (t : Bool) → IsOver es rows (replaced n cur) → IsOver es (None ∷ rows) (cond t (Some n) (Some d) ∷ replaced n cur)
    by_test true ih = (own, ih)
    by_test false ih = (h.0, ih)
over_replaced es n own (Some c ∷ rows) (None ∷ cur) h = absurd h
over_replaced es n own (Some c ∷ rows) (Some d ∷ cur) h = by_test (bytes_eq d.id n.id) refl (over_replaced es n own rows cur h.2)
  where
    by_test : (t : Bool) → bytes_eq d.id n.id ≡ t → IsOver es rows (replaced n cur) → IsOver es (Some c ∷ rows) (cond t (Some n) (Some d) ∷ replaced n cur)
    by_test true e ih = clash own (ap (λ x. has_entry x es) (sym (same_id d.id n.id e)) ∙ h.1)
    by_test false e ih = (h.0, h.1, ih)

over_put : (es : List Entry) (n : Contents) → has_entry n.id es ≡ true → (rows cur : Rows) → IsOver es rows cur → IsOver es rows (put_free n cur)
over_put es n own [] [] h = (own, tt)
over_put es n own [] (None ∷ cur) h = (own, h)
over_put es n own [] (Some d ∷ cur) h = (h.0, over_put es n own [] cur h.1)
over_put es n own (r ∷ rows) [] h = absurd h
over_put es n own (None ∷ rows) (None ∷ cur) h = (own, h)
over_put es n own (None ∷ rows) (Some d ∷ cur) h = (h.0, over_put es n own rows cur h.1)
over_put es n own (Some c ∷ rows) (None ∷ cur) h = absurd h
over_put es n own (Some c ∷ rows) (Some d ∷ cur) h = (h.0, h.1, over_put es n own rows cur h.2)

over_document : (es : List Entry) (n : Contents) → has_entry n.id es ≡ true → (rows cur : Rows) → IsOver es rows cur → IsOver es rows (with_document n cur)
over_document es n own rows cur h = by_tests (has_row n.id cur) (nat_lt (free_place cur) 4294967295)
  where
    by_tests : (t u : Bool) → IsOver es rows (cond t (replaced n cur) (cond u (put_free n cur) cur))
    by_tests true u = over_replaced es n own rows cur h
    by_tests false true = over_put es n own rows cur h
    by_tests false false = h

over_body : (types : Types) (es : List Entry) (id : List ℕ) (body : Option Contents) → has_entry id es ≡ true → (rows cur : Rows) → IsOver es rows cur → IsOver es rows (after_body types id body cur)
over_body types es id None own rows cur h = over_without es id own rows cur h
over_body types es id (Some d) own rows cur h = by_test (bytes_eq d.id id) refl
  where
    by_test : (t : Bool) → bytes_eq d.id id ≡ t → IsOver es rows (cond t (with_document (fitted types d) cur) (without id cur))
    by_test true e = over_document es (fitted types d) (ap (λ x. has_entry x es) (same_id d.id id e) ∙ own) rows cur h
    by_test false e = over_without es id own rows cur h

pub over_taken : (types : Types) (es : List Entry) (e : Entry) (rows cur : Rows) → has_entry e.id es ≡ true → IsOver es rows cur → IsOver es rows (taken_into types cur e)
over_taken types es e rows cur own h = over_body types es e.id e.body own rows cur h

-- ---- their leaving

dropped : List Entry → Option Contents → Option Contents
dropped es None = None
dropped es (Some d) = cond (has_entry d.id es) None (Some d)

none_dropped : (rows : Rows) → rows ≡ map (dropped []) rows
unfolding dropped
none_dropped [] = refl
none_dropped (None ∷ rows) = ap (λ ys. None ∷ ys) (none_dropped rows)
none_dropped (Some d ∷ rows) = ap (λ ys. Some d ∷ ys) (none_dropped rows)

flipped : (a b : List ℕ) (t u : Bool) → bytes_eq a b ≡ t → bytes_eq b a ≡ u → t ≡ u
flipped a b true true e f = refl
flipped a b false false e f = refl
flipped a b true false e f = clash (ap (λ x. bytes_eq x a) (sym (same_id a b e)) ∙ own_id a) f
flipped a b false true e f = clash (ap (λ x. bytes_eq x b) (sym (same_id b a f)) ∙ own_id b) e

one_dropped : (e : Entry) (es : List Entry) (r : Option Contents) → dropped es (cond (is_of e.id r) None r) ≡ dropped (e ∷ es) r
unfolding dropped
one_dropped e es None = refl
one_dropped e es (Some d) = by_test (bytes_eq d.id e.id) (bytes_eq e.id d.id) (flipped d.id e.id (bytes_eq d.id e.id) (bytes_eq e.id d.id) refl refl)
  where
    by_test : (t u : Bool) → t ≡ u → dropped es (cond t None (Some d)) ≡ cond (u || has_entry d.id es) None (Some d)
    by_test true true s = refl
    by_test false false s = refl
    by_test true false s = clash refl s
    by_test false true s = clash s refl

more_dropped : (e : Entry) (es : List Entry) (rows : Rows) → map (dropped es) (without e.id rows) ≡ map (dropped (e ∷ es)) rows
more_dropped e es [] = refl
more_dropped e es (r ∷ rows) = ap₂ (λ y ys. y ∷ ys) (one_dropped e es r) (more_dropped e es rows)

left_is : (es : List Entry) (rows : Rows) → all_left es rows ≡ map (dropped es) rows
left_is [] rows = none_dropped rows
left_is (e ∷ es) rows = left_is es (without e.id rows) ∙ more_dropped e es rows

dropped_back : (es : List Entry) (rows cur : Rows) → IsOver es rows cur → take (length rows) (map (dropped es) cur) ≡ rows
unfolding dropped
dropped_back es [] cur h = refl
dropped_back es (r ∷ rows) [] h = absurd h
dropped_back es (None ∷ rows) (None ∷ cur) h = ap (λ ys. None ∷ ys) (dropped_back es rows cur h)
dropped_back es (None ∷ rows) (Some d ∷ cur) h = ap₂ (λ t ys. cond t None (Some d) ∷ ys) h.0 (dropped_back es rows cur h.1)
dropped_back es (Some c ∷ rows) (None ∷ cur) h = absurd h
dropped_back es (Some c ∷ rows) (Some d ∷ cur) h = ap₂ (λ t ys. cond t None (Some d) ∷ ys) h.1 (dropped_back es rows cur h.2) ∙ ap (λ r. r ∷ rows) (sym h.0)

dropped_rest : (es : List Entry) (rows cur : Rows) → IsOver es rows cur → (k : ℕ) → length rows ≤ k → row_at (map (dropped es) cur) k ≡ None
unfolding dropped
dropped_rest es [] [] h k l = refl
dropped_rest es [] (None ∷ cur) h zero l = refl
dropped_rest es [] (None ∷ cur) h (suc k) l = dropped_rest es [] cur h k (omega arith)
dropped_rest es [] (Some d ∷ cur) h zero l = ap (λ t. cond t None (Some d)) h.0
dropped_rest es [] (Some d ∷ cur) h (suc k) l = dropped_rest es [] cur h.1 k (omega arith)
dropped_rest es (r ∷ rows) [] h k l = absurd h
dropped_rest es (r ∷ rows) (x ∷ cur) h zero l = absurd (omega (arith, l))
dropped_rest es (None ∷ rows) (None ∷ cur) h (suc k) l = dropped_rest es rows cur h k (omega (arith, l))
dropped_rest es (None ∷ rows) (Some d ∷ cur) h (suc k) l = dropped_rest es rows cur h.1 k (omega (arith, l))
dropped_rest es (Some c ∷ rows) (None ∷ cur) h (suc k) l = absurd h
dropped_rest es (Some c ∷ rows) (Some d ∷ cur) h (suc k) l = dropped_rest es rows cur h.2 k (omega (arith, l))

pub left_back : (es : List Entry) (rows cur : Rows) → IsOver es rows cur → take (length rows) (all_left es cur) ≡ rows
left_back es rows cur h = ap (take (length rows)) (left_is es cur) ∙ dropped_back es rows cur h

pub left_rest : (es : List Entry) (rows cur : Rows) → IsOver es rows cur → (k : ℕ) → length rows ≤ k → row_at (all_left es cur) k ≡ None
left_rest es rows cur h k l = ap (λ rs. row_at rs k) (left_is es cur) ∙ dropped_rest es rows cur h k l

-- where the entries are those of a bucket
dropped_in : (b : Low) (es : List Entry) (rows : Rows) → ((q : List ℕ) → has_row q rows ≡ true → has_entry q es ≡ has_key b (key_of q)) → map (dropped es) rows ≡ without_in b rows
unfolding dropped
dropped_in b es [] h = refl
dropped_in b es (None ∷ rows) h = ap (λ ys. None ∷ ys) (dropped_in b es rows h)
dropped_in b es (Some d ∷ rows) h =
    ap₂ (λ t ys. cond t None (Some d) ∷ ys) (h d.id (ap (λ t. t || has_row d.id rows) (own_id d.id))) (dropped_in b es rows (λ q k. h q (later q (bytes_eq d.id q) k)))
  where
    later : (q : List ℕ) (t : Bool) → has_row q rows ≡ true → (t || has_row q rows) ≡ true
    later q true k = refl
    later q false k = k

pub left_in : (b : Low) (es : List Entry) (rows : Rows) → ((q : List ℕ) → has_row q rows ≡ true → has_entry q es ≡ has_key b (key_of q)) → all_left es rows ≡ without_in b rows
left_in b es rows h = left_is es rows ∙ dropped_in b es rows h

-- ---- one entry after the other

pub fold_more : {A B : Type 0} (f : A → B → A) (x : A) (ys : List B) (at : ℕ) (d : B) → at < length ys → fold f x (take (at + 1) ys) ≡ f (fold f x (take at ys)) (get_or ys at d)
fold_more f x ys at d l = (let one : at + 1 ≡ suc at = omega arith in ap (λ n. fold f x (take n ys)) one) ∙ step f x ys at d l
  where
    step : {A B : Type 0} (f : A → B → A) (x : A) (ys : List B) (at : ℕ) (d : B) → at < length ys → fold f x (take (suc at) ys) ≡ f (fold f x (take at ys)) (get_or ys at d)
    step f x [] at d l = absurd (omega (arith, l))
    step f x (y ∷ ys) zero d l = refl
    step f x (y ∷ ys) (suc at) d l = step f (f x y) ys at d (omega (arith, l))

-- rows without places that are free behind the others
pub cut_same : (n : ℕ) (rows : Rows) → ((k : ℕ) → n ≤ k → row_at rows k ≡ None) → (k : ℕ) → row_at (take n rows) k ≡ row_at rows k
cut_same zero rows h k = sym (h k (omega arith))
cut_same (suc n) [] h k = refl
cut_same (suc n) (r ∷ rows) h zero = refl
cut_same (suc n) (r ∷ rows) h (suc k) = cut_same n rows (λ j l. h (suc j) (omega (arith, l))) k

pub cut_few : (n : ℕ) (rows : Rows) → length (take n rows) ≤ length rows
cut_few zero rows = omega arith
cut_few (suc n) [] = omega arith
cut_few (suc n) (r ∷ rows) = (let i = cut_few n rows in omega (arith, i))
