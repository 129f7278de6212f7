-- What a map of words says as an index.
use Rattle.std.proofs.Common.{◌≡◌, ◌≢◌, ◌↔◌, ◌⊎◌, inl, inr, ℕ, ◌<◌, ◌==◌, Bool, true, false, cond, List, [], ◌∷◌, ◌++◌, map, length, refl, sym, ap, ap₂, subst, ◌∙◌, arith, Option, None, Some, option_map, bytes_eq, String}
use Rattle.std.specs.HashMap.{HashMap, UpdatesBy, get_by_text}
use Rattle.std.specs.String.{string_bytes, string_eq}
use Rattle.std.specs.Map.{lookup}
use Rattle.std.specs.List.{Contains}
use Rattle.std.specs.Option.{option_map_or, unwrap_or, IfSome}
use Rattle.std.specs.Ordering.{nat_cmp, eq_by_cmp}
use Rattle.std.specs.Cmp.{eq_by_cmp_equiv}
use Rattle.std.specs.Cmp.Lexicographic.{slice_cmp, nat_list_cmp_total}
use Rattle.std.specs.FinMap as fin
use Rattle.std.specs.FinMap.{get-empty, get-from_entries, get-insert, get-remove, same_map, slice_cmp-IsAntisymmetric, nat_cmp-IsAntisymmetric}
use Rattle.std.proofs.lemmas.Map.Text.{hash_map_updates_text, is_eq-slice_cmp}
use Rattle.std.proofs.lemmas.Slice.Eq.{bytes_eq-Decides}
use Rattle.std.proofs.lemmas.Bool.Decides.{nat_tests}
use Rattle.proof_basics.proofs.Tests.{clash}
use Rattle.local_ids.specs.Rising.{IsRising, with_local, without_local, moved_local}
use Rattle.local_ids.proofs.RisingLaws.{with_rises, without_rises, with_has, without_has}
use Rattle.local_ids.proofs.MoveLaws.{moved_rises}
use Rattle.word_index.specs.Index.{Index, IsWordList, IsIndex, list_of, with_list, with_word, without_word, with_moved}
use Rattle.word_index.specs.Kept.{index_of, if_any}

found : {X Y : Type 0} (items : X → List ℕ) (q : List ℕ) (es : List (String Y × X))
    → fin.find (slice_cmp nat_cmp) q (map (λ e. (string_bytes e.0, items e.1)) es) ≡ option_map items (lookup (λ k. bytes_eq q (string_bytes k)) es)
found items q [] = refl
found {X} items q (e ∷ es) =
    ap (λ t. cond t (Some (items e.1)) (fin.find (slice_cmp nat_cmp) q (map (λ e. (string_bytes e.0, items e.1)) es))) (is_eq-slice_cmp q (string_bytes e.0))
    ∙ by_test (bytes_eq q (string_bytes e.0)) _ _ (found items q es)
  where
    by_test : (t : Bool) (o : Option (List ℕ)) (p : Option X) → o ≡ option_map items p → cond t (Some (items e.1)) o ≡ option_map items (cond t (Some e.1) p)
    by_test true o p h = refl
    by_test false o p h = h

pub get_index : {X Y S : Type 0} (items : X → List ℕ) (lists : HashMap (String Y) X S) (q : List ℕ) → fin.get (index_of items lists) q ≡ option_map items (get_by_text lists q)
get_index items lists q = get-from_entries nat_list_cmp_total _ q ∙ found items q lists.entries

same_test : (word q : List ℕ) → eq_by_cmp (slice_cmp nat_cmp) q word ≡ bytes_eq word q
same_test word q = (eq_by_cmp_equiv nat_list_cmp_total).symm q word ∙ is_eq-slice_cmp word q

same_index : (m n : Index) → ((q : List ℕ) → fin.get m q ≡ fin.get n q) → m ≡ n
same_index m n f = same_map nat_list_cmp_total (slice_cmp-IsAntisymmetric nat_cmp-IsAntisymmetric) m n f

-- ---- a map of words after a change at one

pub updated : {X Y S : Type 0} (items : X → List ℕ) (word : List ℕ) (m n : HashMap (String Y) X S) (o : Option X) → UpdatesBy string_eq (λ k. bytes_eq word (string_bytes k)) m n o
    → (p : Option (List ℕ)) → option_map items o ≡ p → (q : List ℕ) → option_map items (get_by_text n q) ≡ cond (bytes_eq word q) p (option_map items (get_by_text m q))
updated {X} items word m n o u p e q = ap (option_map items) (hash_map_updates_text word m n o u q) ∙ by_test (bytes_eq word q)
  where
    by_test : (t : Bool) → option_map items (cond t o (get_by_text m q)) ≡ cond t p (option_map items (get_by_text m q))
    by_test true = e
    by_test false = refl

-- ---- the index of it

get-with : (word : List ℕ) (list : List ℕ) (m : Index) (q : List ℕ) → fin.get (fin.insert m word list) q ≡ cond (bytes_eq word q) (Some list) (fin.get m q)
get-with word list m q = get-insert nat_list_cmp_total m word list q ∙ ap (λ t. cond t (Some list) (fin.get m q)) (same_test word q)

get-with_list : (word : List ℕ) (list : List ℕ) (m : Index) (q : List ℕ) → fin.get (with_list word list m) q ≡ cond (bytes_eq word q) (if_any (Some list)) (fin.get m q)
get-with_list word [] m q = get-remove nat_list_cmp_total m word q ∙ ap (λ t. cond t None (fin.get m q)) (same_test word q)
get-with_list word (x ∷ xs) m q = get-with word (x ∷ xs) m q

listed : {X : Type 0} (items : X → List ℕ) (o : Option X) → option_map_or items o [] ≡ unwrap_or (option_map items o) []
listed items None = refl
listed items (Some v) = refl

pub list_is : {X Y S : Type 0} (items : X → List ℕ) (lists : HashMap (String Y) X S) (word : List ℕ) → option_map_or items (get_by_text lists word) [] ≡ list_of word (index_of items lists)
list_is items lists word = listed items (get_by_text lists word) ∙ ap (λ o. unwrap_or o []) (sym (get_index items lists word))

pub same_lists : {X Y S : Type 0} (items : X → List ℕ) (old new : HashMap (String Y) X S) → ((q : List ℕ) → option_map items (get_by_text new q) ≡ option_map items (get_by_text old q)) → index_of items new ≡ index_of items old
same_lists items old new f = same_index _ _ (λ q. get_index items new q ∙ f q ∙ sym (get_index items old q))

pub added : {X Y S : Type 0} (items : X → List ℕ) (old new : HashMap (String Y) X S) (word : List ℕ) (x : ℕ)
    → ((q : List ℕ) → option_map items (get_by_text new q) ≡ cond (bytes_eq word q) (Some (with_local x (option_map_or items (get_by_text old word) []))) (option_map items (get_by_text old q)))
    → index_of items new ≡ with_word word x (index_of items old)
added items old new word x f = same_index _ _ (λ q. get_index items new q ∙ f q
    ∙ ap₂ (λ l o. cond (bytes_eq word q) (Some (with_local x l)) o) (list_is items old word) (sym (get_index items old q))
    ∙ sym (get-with word (with_local x (list_of word (index_of items old))) (index_of items old) q))

some_left : {X : Type 0} (items : X → List ℕ) (h : List ℕ → List ℕ) → h [] ≡ [] → (o : Option X) → if_any (option_map (λ v. h (items v)) o) ≡ if_any (Some (h (option_map_or items o [])))
some_left items h none None = sym (ap (λ l. if_any (Some l)) none)
some_left items h none (Some v) = refl

-- a word's list changed, and no empty one kept
pub changed : {X Y S : Type 0} (items : X → List ℕ) (old mid new : HashMap (String Y) X S) (word : List ℕ) (h : List ℕ → List ℕ) → h [] ≡ []
    → ((q : List ℕ) → option_map items (get_by_text mid q) ≡ cond (bytes_eq word q) (option_map (λ v. h (items v)) (get_by_text old word)) (option_map items (get_by_text old q)))
    → ((q : List ℕ) → option_map items (get_by_text new q) ≡ cond (bytes_eq word q) (if_any (option_map items (get_by_text mid word))) (option_map items (get_by_text mid q)))
    → bytes_eq word word ≡ true
    → index_of items new ≡ with_list word (h (list_of word (index_of items old))) (index_of items old)
changed {X} items old mid new word h none f g own = same_index _ _ (λ q. get_index items new q ∙ g q
    ∙ ap₂ (λ a b. cond (bytes_eq word q) (if_any a) b) (f word ∙ ap (λ t. cond t left (option_map items (get_by_text old word))) own) (f q)
    ∙ twice (bytes_eq word q) (if_any left) left (option_map items (get_by_text old q))
    ∙ ap₂ (λ a b. cond (bytes_eq word q) a b) (some_left items h none (get_by_text old word) ∙ ap (λ l. if_any (Some (h l))) (list_is items old word)) (sym (get_index items old q))
    ∙ sym (get-with_list word (h (list_of word (index_of items old))) (index_of items old) q))
  where
    left : Option (List ℕ)
    left = option_map (λ v. h (items v)) (get_by_text old word)

    twice : (t : Bool) (a b o : Option (List ℕ)) → cond t a (cond t b o) ≡ cond t a o
    twice true a b o = refl
    twice false a b o = refl

pub dropped : {X Y S : Type 0} (items : X → List ℕ) (old mid new : HashMap (String Y) X S) (word : List ℕ) (x : ℕ)
    → ((q : List ℕ) → option_map items (get_by_text mid q) ≡ cond (bytes_eq word q) (option_map (λ v. without_local x (items v)) (get_by_text old word)) (option_map items (get_by_text old q)))
    → ((q : List ℕ) → option_map items (get_by_text new q) ≡ cond (bytes_eq word q) (if_any (option_map items (get_by_text mid word))) (option_map items (get_by_text mid q)))
    → bytes_eq word word ≡ true
    → index_of items new ≡ without_word word x (index_of items old)
dropped items old mid new word x f g own = changed items old mid new word (without_local x) refl f g own

-- ---- what an index keeps

if_word : (o : Option (List ℕ)) → IfSome o IsWordList → IsRising (unwrap_or o [])
if_word None h = tt
if_word (Some l) h = h.0

pub list_rises : (word : List ℕ) (m : Index) → IsIndex m → IsRising (list_of word m)
list_rises word m h = if_word (fin.get m word) (h word)

some_behind : (l : List ℕ) (x : ℕ) (r : List ℕ) → 0 < length (l ++ x ∷ r)
some_behind [] x r = omega arith
some_behind (y ∷ l) x r = omega arith

either : (t : Bool) (o p : Option (List ℕ)) → IfSome o IsWordList → IfSome p IsWordList → IfSome (cond t o p) IsWordList
either true o p h k = h
either false o p h k = k

pub with_word_keeps : (word : List ℕ) (x : ℕ) (m : Index) → IsIndex m → IsIndex (with_word word x m)
with_word_keeps word x m h = λ q. subst (λ o. IfSome o IsWordList) (sym (get-with word (with_local x (list_of word m)) m q))
    (either (bytes_eq word q) _ _ (with_rises x (list_of word m) (list_rises word m h), some_behind _ x _) (h q))

any_word : (l : List ℕ) → IsRising l → IfSome (if_any (Some l)) IsWordList
any_word [] r = tt
any_word (x ∷ xs) r = (r, omega arith)

with_list_keeps : (word list : List ℕ) (m : Index) → IsRising list → IsIndex m → IsIndex (with_list word list m)
with_list_keeps word list m r h = λ q. subst (λ o. IfSome o IsWordList) (sym (get-with_list word list m q)) (either (bytes_eq word q) _ _ (any_word list r) (h q))

pub without_word_keeps : (word : List ℕ) (x : ℕ) (m : Index) → IsIndex m → IsIndex (without_word word x m)
without_word_keeps word x m h = with_list_keeps word (without_local x (list_of word m)) m (without_rises x (list_of word m) (list_rises word m h)) h

pub with_moved_keeps : (word : List ℕ) (x z : ℕ) (m : Index) → IsIndex m → IsIndex (with_moved word x z m)
with_moved_keeps word x z m h = with_list_keeps word (moved_local x z (list_of word m)) m (moved_rises x z (list_of word m) (list_rises word m h)) h

pub empty_keeps : IsIndex fin.empty
empty_keeps = λ q. subst (λ o. IfSome o IsWordList) (sym (get-empty (slice_cmp nat_cmp) q)) tt

-- the ids at a word rise
pub rises_at : {X Y S : Type 0} (items : X → List ℕ) (lists : HashMap (String Y) X S) → IsIndex (index_of items lists) → (word : List ℕ) → IfSome (get_by_text lists word) (λ v. IsRising (items v))
rises_at {X} items lists h word = each (get_by_text lists word) (subst (λ o. IfSome o IsWordList) (get_index items lists word) (h word))
  where
    each : (o : Option X) → IfSome (option_map items o) IsWordList → IfSome o (λ v. IsRising (items v))
    each None k = tt
    each (Some v) k = k.0

-- ---- lists that are empty

pub none_any : {X : Type 0} (items : X → List ℕ) (o : Option X) → option_map_or items o [] ≡ [] → ◌≡◌ {A = Option (List ℕ)} None (if_any (option_map items o))
none_any items None e = refl
none_any items (Some v) e = sym (ap (λ l. if_any (Some l)) e)

pub any_same : {X : Type 0} (items : X → List ℕ) (o : Option X) → (option_map_or items o [] ≡ [] → ⊥) → option_map items o ≡ if_any (option_map items o)
any_same items None f = refl
any_same items (Some v) f = by_list (items v) f
  where
    by_list : (l : List ℕ) → (l ≡ [] → ⊥) → Some l ≡ if_any (Some l)
    by_list [] g = absurd (g refl)
    by_list (x ∷ xs) g = refl

pub same_word : (word : List ℕ) → bytes_eq word word ≡ true
same_word word = sym (is_eq-slice_cmp word word) ∙ (eq_by_cmp_equiv nat_list_cmp_total).refl word

pub same_at : {X Y S : Type 0} (items : X → List ℕ) (m : HashMap (String Y) X S) (word q : List ℕ) → cond (bytes_eq word q) (option_map items (get_by_text m word)) (option_map items (get_by_text m q)) ≡ option_map items (get_by_text m q)
same_at items m word q = by_test (bytes_eq word q) refl
  where
    by_test : (t : Bool) → bytes_eq word q ≡ t → cond t (option_map items (get_by_text m word)) (option_map items (get_by_text m q)) ≡ option_map items (get_by_text m q)
    by_test true e = ap (λ w. option_map items (get_by_text m w)) ((bytes_eq-Decides word q).0 e)
    by_test false e = refl

pub no_length : (l : List ℕ) → (length l == 0) ≡ true → l ≡ []
no_length [] e = refl
no_length (x ∷ xs) e = absurd (let none : length (x ∷ xs) ≡ 0 = grind (arith, nat_tests) in omega (arith, none))

-- ---- an index as pairs of a word and an id

of_with : (word : List ℕ) (l : List ℕ) (m : Index) (v : List ℕ) (o : Option (List ℕ)) → fin.get m v ≡ cond (bytes_eq word v) (Some l) o → list_of v m ≡ cond (bytes_eq word v) l (unwrap_or o [])
of_with word l m v o e = ap (λ o. unwrap_or o []) e ∙ by_test (bytes_eq word v)
  where
    by_test : (t : Bool) → unwrap_or (cond t (Some l) o) [] ≡ cond t l (unwrap_or o [])
    by_test true = refl
    by_test false = refl

any_list : (l : List ℕ) → unwrap_or (if_any (Some l)) [] ≡ l
any_list [] = refl
any_list (x ∷ xs) = refl

pub list_with : (word v : List ℕ) (x : ℕ) (m : Index) → list_of v (with_word word x m) ≡ cond (bytes_eq word v) (with_local x (list_of word m)) (list_of v m)
list_with word v x m = of_with word (with_local x (list_of word m)) (with_word word x m) v (fin.get m v) (get-with word (with_local x (list_of word m)) m v)

of_with_list : (word v list : List ℕ) (m : Index) → list_of v (with_list word list m) ≡ cond (bytes_eq word v) list (list_of v m)
of_with_list word v list m = ap (λ o. unwrap_or o []) (get-with_list word list m v) ∙ by_test (bytes_eq word v)
  where
    by_test : (t : Bool) → unwrap_or (cond t (if_any (Some list)) (fin.get m v)) [] ≡ cond t list (list_of v m)
    by_test true = any_list list
    by_test false = refl

pub list_without : (word v : List ℕ) (x : ℕ) (m : Index) → list_of v (without_word word x m) ≡ cond (bytes_eq word v) (without_local x (list_of word m)) (list_of v m)
list_without word v x m = of_with_list word v (without_local x (list_of word m)) m

pub list_moved : (word v : List ℕ) (x z : ℕ) (m : Index) → list_of v (with_moved word x z m) ≡ cond (bytes_eq word v) (moved_local x z (list_of word m)) (list_of v m)
list_moved word v x z m = of_with_list word v (moved_local x z (list_of word m)) m

other_word : (word v : List ℕ) → v ≡ word → bytes_eq word v ≡ false → ⊥
other_word word v f e = clash ((bytes_eq-Decides word v).1 (sym f)) e

pub pairs_with : (m : Index) (word v : List ℕ) (x y : ℕ) → IsIndex m → Contains (list_of v (with_word word x m)) y ↔ (((v ≡ word) × (y ≡ x)) ⊎ Contains (list_of v m) y)
pairs_with m word v x y h = subst (λ l. Contains l y ↔ (((v ≡ word) × (y ≡ x)) ⊎ Contains (list_of v m) y)) (sym (list_with word v x m)) (by_test (bytes_eq word v) refl)
  where
    by_test : (t : Bool) → bytes_eq word v ≡ t → Contains (cond t (with_local x (list_of word m)) (list_of v m)) y ↔ (((v ≡ word) × (y ≡ x)) ⊎ Contains (list_of v m) y)
    by_test true e =
        let same : word ≡ v = (bytes_eq-Decides word v).0 e in
        let has = with_has x y (list_of word m) (list_rises word m h) in (
          λ c. elim (has.0 c) [ inl f ↦ inl (sym same, f) | inr i ↦ inr (subst (λ w. Contains (list_of w m) y) same i) ],
          λ c. elim c [ inl f ↦ has.1 (inl f.1) | inr i ↦ has.1 (inr (subst (λ w. Contains (list_of w m) y) (sym same) i)) ],
        )
    by_test false e =
        (λ c. inr c, λ c. elim c [ inl f ↦ absurd (other_word word v f.0 e) | inr i ↦ i ])

pub pairs_without : (m : Index) (word v : List ℕ) (x y : ℕ) → Contains (list_of v (without_word word x m)) y ↔ (Contains (list_of v m) y × (v ≡ word → y ≢ x))
pairs_without m word v x y = subst (λ l. Contains l y ↔ (Contains (list_of v m) y × (v ≡ word → y ≢ x))) (sym (list_without word v x m)) (by_test (bytes_eq word v) refl)
  where
    by_test : (t : Bool) → bytes_eq word v ≡ t → Contains (cond t (without_local x (list_of word m)) (list_of v m)) y ↔ (Contains (list_of v m) y × (v ≡ word → y ≢ x))
    by_test true e =
        let same : word ≡ v = (bytes_eq-Decides word v).0 e in
        let has = without_has x y (list_of word m) in (
          λ c. (subst (λ w. Contains (list_of w m) y) same (has.0 c).0, λ f. (has.0 c).1),
          λ c. has.1 (subst (λ w. Contains (list_of w m) y) (sym same) c.0, c.1 (sym same)),
        )
    by_test false e =
        (λ c. (c, λ f. absurd (other_word word v f e)), λ c. c.0)
