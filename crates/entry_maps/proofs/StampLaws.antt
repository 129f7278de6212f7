-- The stamps of some entries, each once, in rising order.
use Rattle.std.proofs.Common.{◌≡◌, ℕ, ◌<◌, ◌↔◌, Bool, true, false, cond, T, ◌&&◌, ◌||◌, List, [], ◌∷◌, length, map, refl, sym, ap, ◌∙◌, arith, Option, None, Some, is_some, inl, inr}
use mathlib.Core.Bool.{true≢false}
use Rattle.std.specs.FinMap as fin
use Rattle.std.specs.FinMap.{IsAntisymmetric, nat_cmp-IsAntisymmetric, entries_sorted, entries-insert, get-entries, get-from_entries, contains_key-keys, same_map, len-entries, len-empty}
use Rattle.std.specs.Cmp.{IsTotalOrder}
use Rattle.std.specs.Cmp.Lexicographic.{nat_list_cmp_total}
use Rattle.std.specs.List.{Contains, list_any, dedup, dedup_from}
use Rattle.std.specs.List.Sorted.{IsStrictlySortedBy, IsSorted, IsPermutation}
use Rattle.std.specs.Ordering.{MatchOrdering, nat_cmp, eq_by_cmp, is_eq, is_lt, ordering_then}
use Rattle.std.specs.declared.cmp.Ordering.{Ordering}
use Rattle.std.specs.declared.cmp.Ordering.TheVariants.{Less, Equal, Greater}
use Rattle.std.proofs.lemmas.Cmp.{nat_cmp_total, then_total, on_total, alike_right, ranked, eq_by_cmp_equiv}
use Rattle.std.proofs.lemmas.List.Sorted.{list_any-IsPermutation}
use Rattle.std.proofs.lemmas.List.Kept.{IsStrictlySortedBy-dedup}
use Rattle.std.proofs.lemmas.List.Elements.{All-head}
use Rattle.std.proofs.lemmas.Map.Keys.{sorted_tail}
use Rattle.std.proofs.lemmas.Map.Views.{All-after_first, Contains-from_any, list_any-from_Contains}
use Rattle.stamps.specs.declared.stamp.Stamp.{Stamp}
use Rattle.stamps.specs.Order.{IsBefore}
use Rattle.documents.specs.declared.entry.Entry.{Entry}
use Rattle.entry_rows.specs.declared.slots.Slot.{Slot}
use Rattle.documents.specs.EntryCodes.{id_cmp}
use Rattle.entry_maps.specs.EntryCodes.{Entries}
use Rattle.entry_maps.specs.Slots.{entries_of, Apart}
use Rattle.entry_maps.specs.Stamps.{stamp_cmp, set_of, rising_of, stamp_in, stamps_of}
use Rattle.stamps.specs.Rising.{IsRising}
use Rattle.entry_maps.proofs.SlotLists.{get-entries_of}

-- ---- the keys of a set, in any order

or_swap : (a b c : Bool) → (a || (b || c)) ≡ (b || (a || c))
or_swap true true c = refl
or_swap true false c = refl
or_swap false b c = refl

twice : (b c d : Bool) → b ≡ c → (b || (c || d)) ≡ (b || d)
twice true c d e = refl
twice false true d e = absurd (true≢false (sym e))
twice false false d e = refl

equal_if : (r : Ordering) → is_eq r ≡ true → r ≡ Equal
equal_if Less e = cc
equal_if Equal e = refl
equal_if Greater e = cc

abbrev mark : Bool → Option (Unit {0})
mark b = cond b (Some tt) None

is_some-mark : (b : Bool) → is_some (mark b) ≡ b
is_some-mark true = refl
is_some-mark false = refl

module _ {K : Type 0} {R : K → K → Ordering} (o : IsTotalOrder R) (same : IsAntisymmetric R) where
  abbrev marked : List K → List (K × Unit {0})
  marked ks = map (λ k. (k, tt)) ks

  abbrev set : List K → fin.FinMap R (Unit {0})
  set ks = fin.from_entries (marked ks)

  find-marked : (q : K) (ks : List K) → fin.find R q (marked ks) ≡ cond (list_any (eq_by_cmp R q) ks) (Some tt) None
  find-marked q [] = refl
  find-marked q (k ∷ ks) = elim (eq_by_cmp R q k) as (λ b. cond b (Some tt) (fin.find R q (marked ks)) ≡ cond (b || list_any (eq_by_cmp R q) ks) (Some tt) None) [ true ↦ refl | false ↦ find-marked q ks ]

  -- lists with the same members
  pub keys-alike : (xs ys : List K) → ((q : K) → list_any (eq_by_cmp R q) xs ≡ list_any (eq_by_cmp R q) ys) → fin.keys (set xs) ≡ fin.keys (set ys)
  keys-alike xs ys h = ap (λ m. fin.keys m) (same_map o same (set xs) (set ys) (λ q.
      get-from_entries o (marked xs) q ∙ find-marked q xs ∙ ap (λ b. cond b (Some tt) None) (h q) ∙ sym (get-from_entries o (marked ys) q ∙ find-marked q ys)))

  -- the keys are the members
  pub any-keys : (q : K) (ks : List K) → list_any (eq_by_cmp R q) (fin.keys (set ks)) ≡ list_any (eq_by_cmp R q) ks
  any-keys q ks =
      sym (contains_key-keys (set ks) q) ∙ ap is_some (get-from_entries o (marked ks) q ∙ find-marked q ks) ∙ is_some-mark (list_any (eq_by_cmp R q) ks)

  put-first : (x : K) (xs : List K) → IsStrictlySortedBy R (x ∷ xs) → fin.put R x tt (marked xs) ≡ (x, tt) ∷ marked xs
  put-first x [] sorted = refl
  put-first x (y ∷ ys) sorted = let p : R x y ≡ Less = All-head (λ q. R x q ≡ Less) y ys (All-after_first R x (y ∷ ys) sorted) in rw p refl

  no_pairs : (es : List (K × Unit {0})) → length es ≡ 0 → es ≡ []
  no_pairs [] e = refl
  no_pairs (x ∷ es) e = absurd (omega arith)

  entries-marked : (xs : List K) → IsStrictlySortedBy R xs → fin.entries (set xs) ≡ marked xs
  entries-marked [] sorted = no_pairs (fin.entries (fin.empty {X = Unit {0}} {R = R})) (sym (len-entries _) ∙ len-empty R (Unit {0}))
  entries-marked (x ∷ xs) sorted =
      entries-insert o (set xs) x tt
      ∙ ap (fin.put R x tt) (entries-marked xs (sorted_tail R x xs sorted))
      ∙ put-first x xs sorted

  keys-marked : (xs : List K) → map (λ (e : K × Unit {0}). e.0) (marked xs) ≡ xs
  keys-marked [] = refl
  keys-marked (x ∷ xs) = ap (λ l. x ∷ l) (keys-marked xs)

  -- a list that rises
  pub keys-sorted : (xs : List K) → IsStrictlySortedBy R xs → fin.keys (set xs) ≡ xs
  keys-sorted xs sorted = ap (λ es. map (λ e. e.0) es) (entries-marked xs sorted) ∙ keys-marked xs

  module _ {E : K → K → Bool} (ties : (x y : K) → E x y ≡ eq_by_cmp R x y) where
    any-dedup_from : (q y : K) (xs : List K) → list_any (eq_by_cmp R q) (dedup_from E y xs) ≡ (eq_by_cmp R q y || list_any (eq_by_cmp R q) xs)
    any-dedup_from q y [] = refl
    any-dedup_from q y (x ∷ xs) = by_test (E x y) refl (any-dedup_from q y xs) (any-dedup_from q x xs)
      where
        by_test : (t : Bool) → E x y ≡ t
            → list_any (eq_by_cmp R q) (dedup_from E y xs) ≡ (eq_by_cmp R q y || list_any (eq_by_cmp R q) xs)
            → list_any (eq_by_cmp R q) (dedup_from E x xs) ≡ (eq_by_cmp R q x || list_any (eq_by_cmp R q) xs)
            → list_any (eq_by_cmp R q) (cond t (dedup_from E y xs) (y ∷ dedup_from E x xs)) ≡ (eq_by_cmp R q y || (eq_by_cmp R q x || list_any (eq_by_cmp R q) xs))
        by_test true e kept taken =
            let tied : R x y ≡ Equal = equal_if (R x y) (sym (ties x y) ∙ e) in
            kept ∙ sym (twice (eq_by_cmp R q y) (eq_by_cmp R q x) (list_any (eq_by_cmp R q) xs) (ap is_eq (sym (alike_right o x y q tied))))
        by_test false e kept taken = ap (λ b. eq_by_cmp R q y || b) taken

    any-dedup : (q : K) (xs : List K) → list_any (eq_by_cmp R q) (dedup E xs) ≡ list_any (eq_by_cmp R q) xs
    any-dedup q [] = refl
    any-dedup q (x ∷ xs) = any-dedup_from q x xs

    -- what a sort and a dedup leave
    pub keys-deduped : (xs ys : List K) → IsPermutation xs ys → IsSorted R ys → dedup E ys ≡ fin.keys (set xs)
    keys-deduped xs ys moved sorted =
        sym (keys-sorted (dedup E ys) (IsStrictlySortedBy-dedup o ties ys sorted))
        ∙ keys-alike (dedup E ys) xs (λ q. any-dedup q ys ∙ sym (list_any-IsPermutation (eq_by_cmp R q) xs ys moved))

-- ---- stamps

pub stamps_total : IsTotalOrder stamp_cmp
stamps_total = then_total (on_total (λ s. s.version) nat_cmp_total) (on_total (λ s. s.count) nat_cmp_total)

same_stamp : (a b : Stamp) → a.version ≡ b.version → a.count ≡ b.count → a ≡ b
same_stamp a b v c = λ i. record { version = v i; count = c i }

both_equal : (x y : Ordering) → ordering_then x y ≡ Equal → (x ≡ Equal) × (y ≡ Equal)
both_equal Less y e = cc
both_equal Equal y e = (refl, e)
both_equal Greater y e = cc

pub stamps_same : IsAntisymmetric stamp_cmp
stamps_same a b e =
    let h = both_equal (nat_cmp a.version b.version) (nat_cmp a.count b.count) e in
    same_stamp a b (nat_cmp-IsAntisymmetric a.version b.version h.0) (nat_cmp-IsAntisymmetric a.count b.count h.1)

-- what a sort and a dedup leave of stamps
pub rising-deduped : {E : Stamp → Stamp → Bool} (ties : (x y : Stamp) → E x y ≡ eq_by_cmp stamp_cmp x y) (xs ys : List Stamp) → IsPermutation xs ys → IsSorted stamp_cmp ys → dedup E ys ≡ rising_of xs
rising-deduped ties xs ys moved sorted = keys-deduped stamps_total stamps_same ties xs ys moved sorted

-- ---- the stamps of slots

module _ (p : Entry → Bool) where
  any-put : (es : List (List ℕ × Entry)) (k : List ℕ) (v : Entry) → fin.find id_cmp k es ≡ None → list_any p (map (λ e. e.1) (fin.put id_cmp k v es)) ≡ (p v || list_any p (map (λ e. e.1) es))
  any-put [] k v none = refl
  any-put (e ∷ es) k v none =
      elim (id_cmp k e.0) as (λ r. id_cmp k e.0 ≡ r → list_any p (map (λ x. x.1) (fin.put id_cmp k v (e ∷ es))) ≡ (p v || list_any p (map (λ x. x.1) (e ∷ es)))) [
        | Less ↦ (λ h. rw h refl)
        | Equal ↦ (λ h. absurd (true≢false (ap is_some (rw h at none))))
        | Greater ↦ (λ h. rw h (ap (λ b. p e.1 || b) (any-put es k v (rw h at none)) ∙ or_swap (p e.1) (p v) (list_any p (map (λ x. x.1) es))))
      ] refl

  any-insert : (m : Entries) (k : List ℕ) (v : Entry) → fin.get m k ≡ None → list_any p (fin.values (fin.insert m k v)) ≡ (p v || list_any p (fin.values m))
  any-insert m k v none = ap (λ es. list_any p (map (λ e. e.1) es)) (entries-insert nat_list_cmp_total m k v) ∙ any-put (fin.entries m) k v (sym (get-entries m k) ∙ none)

  no_entries : (es : List (List ℕ × Entry)) → length es ≡ 0 → es ≡ []
  no_entries [] e = refl
  no_entries (x ∷ es) e = absurd (omega arith)

  any-values : (slots : List Slot) → Apart slots → list_any p (fin.values (entries_of slots)) ≡ list_any (λ s. p s.entry) slots
  any-values [] apart = ap (λ es. list_any p (map (λ e. e.1) es)) (no_entries (fin.entries (fin.empty {X = Entry} {R = id_cmp})) (sym (len-entries _) ∙ len-empty id_cmp Entry))
  any-values (s ∷ slots) apart =
      any-insert (entries_of slots) s.entry.id s.entry (get-entries_of slots s.entry.id ∙ apart.0)
      ∙ ap (λ b. p s.entry || b) (any-values slots apart.1)

any-map : {A B : Type 0} (f : A → B) (p : B → Bool) (xs : List A) → list_any p (map f xs) ≡ list_any (λ x. p (f x)) xs
any-map f p [] = refl
any-map f p (x ∷ xs) = ap (λ b. p (f x) || b) (any-map f p xs)

pub stamps-slots : (slots : List Slot) → Apart slots → rising_of (map (λ s. s.entry.stamp) slots) ≡ stamps_of (entries_of slots)
stamps-slots slots apart = keys-alike stamps_total stamps_same _ _ (λ q.
    any-map (λ s. s.entry.stamp) (eq_by_cmp stamp_cmp q) slots
    ∙ sym (any-map stamp_in (eq_by_cmp stamp_cmp q) (fin.values (entries_of slots)) ∙ any-values (λ e. eq_by_cmp stamp_cmp q e.stamp) slots apart))

-- ---- the laws

first : (a b : Bool) → T (a && b) → T a
first true b h = tt
first false b h = h

second : (a b : Bool) → T (a && b) → T b
second true b h = h
second false b h = absurd h

lt_before : (a b : Stamp) → T (is_lt (stamp_cmp a b)) → IsBefore a b
lt_before a b h = by (nat_cmp a.version b.version) (ranked a.version b.version _ refl) (nat_cmp a.count b.count) (ranked a.count b.count _ refl) h
  where
    by : (v : Ordering) → MatchOrdering v (a.version < b.version) (a.version ≡ b.version) (b.version < a.version)
        → (c : Ordering) → MatchOrdering c (a.count < b.count) (a.count ≡ b.count) (b.count < a.count)
        → T (is_lt (ordering_then v c)) → IsBefore a b
    by Less v c k h = inl v
    by Equal v Less k h = inr (v, k)
    by Equal v Equal k h = absurd h
    by Equal v Greater k h = absurd h
    by Greater v c k h = absurd h

rising-sorted : (es : List (Stamp × Unit {0})) → T (fin.is_sorted stamp_cmp es) → IsRising (map (λ e. e.0) es)
rising-sorted [] h = tt
rising-sorted (e ∷ []) h = tt
rising-sorted (e ∷ f ∷ es) h = (lt_before e.0 f.0 (first _ _ (first _ _ h)), rising-sorted (f ∷ es) (second _ _ h))

pub stamps_of-rising : (m : Entries) → IsRising (stamps_of m)
stamps_of-rising m = let s = set_of (map stamp_in (fin.values m)) in rising-sorted (fin.entries s) (entries_sorted s)

tied_is : (a b : Stamp) → eq_by_cmp stamp_cmp a b ≡ true → a ≡ b
tied_is a b e = stamps_same a b (equal_if (stamp_cmp a b) e)

pub stamps_of-members : (m : Entries) (s : Stamp) → Contains (stamps_of m) s ↔ Contains (map stamp_in (fin.values m)) s
stamps_of-members m s =
    let all = map stamp_in (fin.values m) in
    let equiv = eq_by_cmp_equiv stamps_total in (
      λ there. Contains-from_any tied_is s all (sym (any-keys stamps_total stamps_same s all) ∙ list_any-from_Contains equiv s (rising_of all) there),
      λ there. Contains-from_any tied_is s (rising_of all) (any-keys stamps_total stamps_same s all ∙ list_any-from_Contains equiv s all there),
    )
