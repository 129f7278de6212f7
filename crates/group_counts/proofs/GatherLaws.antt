-- Groups of tallies.
use Rattle.std.proofs.Common.{filter, ◌≡◌, ℕ, ℤ, ◌++◌, ◌||◌, ◌&&◌, Bool, true, false, cond, T, List, [], ◌∷◌, map, length, Option, None, Some, option_map, String, refl, sym, ap, ap₂, subst, ◌∙◌}
use Rattle.std.specs.List.{AllByRecursion, list_any}
use Rattle.std.specs.List.{IsDistinct, dedup, dedup_from}
use Rattle.std.specs.List.Sorted.{IsSorted, IsStrictlySortedBy}
use Rattle.std.specs.Ordering.{int_cmp, int_eq, nat_cmp, eq_by_cmp, is_eq, is_lt}
use Rattle.std.specs.declared.cmp.Ordering.{Ordering}
use Rattle.std.specs.declared.cmp.Ordering.TheVariants.{Less, Equal, Greater}
use Rattle.std.specs.Cmp.{IsTotalOrder, int_cmp_total, eq_by_cmp_equiv}
use Rattle.std.specs.Cmp.Lexicographic.{slice_cmp, nat_list_cmp_total}
use Rattle.std.specs.Map.{lookup, keys_of}
use Rattle.indexmap.specs.IndexMap as table
use Rattle.indexmap.specs.IndexMap.{IndexMap, get_by_text}
use Rattle.std.specs.BTreeMap.{is_at}
use Rattle.std.specs.Prelude.{bytes_eq}
use Rattle.std.specs.String.{string_bytes, string_cmp, string_eq, string_cmp_total, string_eq_equiv}
use Rattle.std.proofs.lemmas.List.Kept.{IsStrictlySortedBy-dedup}
use Rattle.std.proofs.lemmas.Map.Keys.{IsDistinct-cons, IsDistinct-head, IsDistinct-tail}
use Rattle.std.proofs.lemmas.Map.Text.{is_eq-slice_cmp}
use Rattle.std.proofs.lemmas.Map.Entries.{option_filter, lookup-filter-values}
use Rattle.std.specs.FinMap as fin
use Rattle.std.specs.FinMap.{IsAntisymmetric, same_map, get-from_entries, get-from_sorted, entries-from_sorted, int_cmp-IsAntisymmetric, nat_cmp-IsAntisymmetric, slice_cmp-IsAntisymmetric}
use Rattle.std.specs.FinMap.Entries.{below_all}
use Rattle.doc_types.specs.declared.values.FieldValue.{FieldValue}
use Rattle.doc_types.specs.declared.values.FieldValue.TheVariants.{Int, Text}
use Rattle.doc_types.specs.declared.outputs.OutputKind.{OutputKind}
use Rattle.documents.specs.Fields.{Contents}
use Rattle.query_groups.specs.declared.groups.GroupBy.{GroupBy}
use Rattle.query_groups.specs.declared.answers.Group.{Group}
use Rattle.group_counts.specs.Numbers.{onto, found}
use Rattle.group_counts.specs.Keyed.{number_in, text_in, is_key, with_key, output_over, group_over, groups_by}
use Rattle.group_counts.specs.Groups.{groups_of}
use Rattle.group_counts.specs.Tallies.{Told, told_of, tally_of, AreTallies, is_counted, counted, counted_of, AreTaken, told_outputs, told_group}
use Rattle.group_counts.specs.Gathered.{Gathered, gathered_as, HasTallies, IsGathered}

-- ---- one group

outputs-told : (ks : List OutputKind) (docs : List Contents) → told_outputs ks (map (output_over docs) ks) ≡ map (λ kind. record { kind = kind; value = output_over docs kind }) ks
outputs-told [] docs = refl
outputs-told (k ∷ ks) docs = ap (λ os. record { kind = k; value = output_over docs k } ∷ os) (outputs-told ks docs)

group-told : (ks : List OutputKind) (v : FieldValue) (docs : List Contents) → told_group ks v (told_of ks docs) ≡ group_over ks v docs
group-told ks v docs = ap {B = Group} (λ os. record { value = v; count = length docs; outputs = os }) (outputs-told ks docs)

abbrev has_any : List Contents → Bool
has_any [] = false
has_any (d ∷ docs) = true

group-of : (ks : List OutputKind) (v : FieldValue) (docs : List Contents) → option_map (told_group ks v) (tally_of ks docs) ≡ cond (has_any docs) (Some (group_over ks v docs)) None
group-of ks v [] = refl
group-of ks v (d ∷ docs) = ap Some (group-told ks v (d ∷ docs))

-- ---- all groups of one kind of key

equal-of : (o : Ordering) → is_eq o ≡ true → o ≡ Equal
equal-of Less e = absurd (subst T (sym e) tt)
equal-of Equal e = refl
equal-of Greater e = absurd (subst T (sym e) tt)

both-hold : (a b : Bool) → T a → T b → T (a && b)
both-hold true b p q = q
both-hold false b p q = p

module _ {K : Type 0} (R : K → K → Ordering) (exact : IsAntisymmetric R) where
  any-found : (key : Contents → Option K) (q : K) (docs : List Contents) → list_any (eq_by_cmp R q) (found key docs) ≡ has_any (with_key R key q docs)
  any-found key q [] = refl
  any-found key q (d ∷ docs) = by (key d) (any-found key q docs)
    where
      rest : List Contents
      rest = with_key R key q docs

      test : (t : Bool) → list_any (eq_by_cmp R q) (found key docs) ≡ has_any rest → (t || list_any (eq_by_cmp R q) (found key docs)) ≡ has_any (cond t (d ∷ rest) rest)
      test true ih = refl
      test false ih = ih

      by : (o : Option K) → list_any (eq_by_cmp R q) (found key docs) ≡ has_any rest → list_any (eq_by_cmp R q) (onto o (found key docs)) ≡ has_any (cond (is_key R q o) (d ∷ rest) rest)
      by None ih = ih
      by (Some k) ih = test (eq_by_cmp R q k) ih

  find-keys : {X : Type 0} (f : K → X) (q : K) (ks : List K) → fin.find R q (map (λ k. (k, f k)) ks) ≡ cond (list_any (eq_by_cmp R q) ks) (Some (f q)) None
  find-keys f q [] = refl
  find-keys {X} f q (k ∷ ks) = by (eq_by_cmp R q k) refl (find-keys f q ks)
    where
      by : (t : Bool) → eq_by_cmp R q k ≡ t → fin.find R q (map (λ k. (k, f k)) ks) ≡ cond (list_any (eq_by_cmp R q) ks) (Some (f q)) None
          → cond t (Some (f k)) (fin.find R q (map (λ k. (k, f k)) ks)) ≡ cond (t || list_any (eq_by_cmp R q) ks) (Some (f q)) None
      by true e ih = ap (λ x. Some (f x)) (sym (exact q k (equal-of (R q k) e)))
      by false e ih = ih

  find-told : {X Y : Type 0} (f : K → X → Y) (q : K) (es : List (K × X)) → fin.find R q (map (λ e. (e.0, f e.0 e.1)) es) ≡ option_map (f q) (lookup (is_at (R q)) es)
  find-told f q [] = refl
  find-told {X} {Y} f q (e ∷ es) = by (eq_by_cmp R q e.0) refl _ _ (find-told f q es)
    where
      by : (t : Bool) → eq_by_cmp R q e.0 ≡ t → (a : Option Y) (b : Option X) → a ≡ option_map (f q) b → cond t (Some (f e.0 e.1)) a ≡ option_map (f q) (cond t (Some e.1) b)
      by true is a b ih = ap (λ x. Some (f x e.1)) (sym (exact q e.0 (equal-of (R q e.0) is)))
      by false is a b ih = ih

  below-told : {X Y : Type 0} (f : K × X → Y) (k : K) (es : List (K × X)) → AllByRecursion (λ y. R k y ≡ Less) (keys_of es) → T (below_all R k (map (λ e. (e.0, f e)) es))
  below-told f k [] h = tt
  below-told f k (e ∷ es) h = both-hold _ _ (subst (λ o. T (is_lt o)) (sym h.0) tt) (below-told f k es h.1)

  sorted-told : {X Y : Type 0} (f : K × X → Y) (es : List (K × X)) → IsStrictlySortedBy R (keys_of es) → T (fin.is_sorted R (map (λ e. (e.0, f e)) es))
  unfolding IsStrictlySortedBy
  sorted-told f [] h = tt
  sorted-told f (e ∷ es) h = both-hold _ _ (below-told f e.0 es h.0) (sorted-told f es h.1)

  values-told : {X Y : Type 0} (f : K → X → Y) (es : List (K × X)) → map (λ e. e.1) (map {B = K × Y} (λ e. (e.0, f e.0 e.1)) es) ≡ map (λ e. f e.0 e.1) es
  values-told f [] = refl
  values-told f (e ∷ es) = ap (λ ys. f e.0 e.1 ∷ ys) (values-told f es)

  pub groups-are : IsTotalOrder R → (value : K → FieldValue) (ks : List OutputKind) (key : Contents → Option K) (docs : List Contents) (es : List (K × Told)) → IsStrictlySortedBy R (keys_of es)
      → AreTallies R ks key docs (λ k. lookup (is_at (R k)) es) → map (λ e. told_group ks (value e.0) e.1) es ≡ fin.values (groups_by R value ks key docs)
  groups-are o value ks key docs es sorted are =
      sym (values-told (λ k t. told_group ks (value k) t) es)
      ∙ ap (map (λ e. e.1)) (sym (entries-from_sorted R own rises))
      ∙ ap fin.values (same_map o exact (fin.from_sorted {R = R} own) (groups_by R value ks key docs) same)
    where
      own : List (K × Group)
      own = map (λ e. (e.0, told_group ks (value e.0) e.1)) es

      rises : T (fin.is_sorted R own)
      rises = sorted-told (λ e. told_group ks (value e.0) e.1) es sorted

      same : (q : K) → fin.get (fin.from_sorted {R = R} own) q ≡ fin.get (groups_by R value ks key docs) q
      same q =
          get-from_sorted R own q rises
          ∙ find-told (λ k t. told_group ks (value k) t) q es
          ∙ ap (option_map (told_group ks (value q))) (are q)
          ∙ group-of ks (value q) (with_key R key q docs)
          ∙ ap (λ t. cond t (Some (group_over ks (value q) (with_key R key q docs))) None) (sym (any-found key q docs))
          ∙ sym (find-keys (λ k. group_over ks (value k) (with_key R key k docs)) q (found key docs))
          ∙ sym (get-from_entries o (map (λ k. (k, group_over ks (value k) (with_key R key k docs))) (found key docs)) q)

-- ---- texts by their bytes

text-lookup : {X Y : Type 0} (t : List ℕ) (es : List (String Y × X)) → lookup (is_at (slice_cmp nat_cmp t)) (map (λ e. (string_bytes e.0, e.1)) es) ≡ lookup (λ k. bytes_eq t (string_bytes k)) es
text-lookup t [] = refl
text-lookup {X} t (e ∷ es) = ap₂ (λ b (o : Option X). cond b (Some e.1) o) (is_eq-slice_cmp t (string_bytes e.0)) (text-lookup t es)

text-apart : {X Y : Type 0} (k : String Y) (es : List (String Y × X)) → AllByRecursion (λ y. string_eq k y ≡ false) (keys_of es)
    → AllByRecursion (λ y. eq_by_cmp (slice_cmp nat_cmp) (string_bytes k) y ≡ false) (keys_of (map {B = List ℕ × X} (λ e. (string_bytes e.0, e.1)) es))
text-apart k [] h = tt
text-apart k (e ∷ es) h = (is_eq-slice_cmp (string_bytes k) (string_bytes e.0) ∙ h.0, text-apart k es h.1)

text-distinct : {X Y : Type 0} (es : List (String Y × X)) → IsDistinct string_eq (keys_of es) → IsDistinct (eq_by_cmp (slice_cmp nat_cmp)) (keys_of (map {B = List ℕ × X} (λ e. (string_bytes e.0, e.1)) es))
unfolding IsDistinct
text-distinct [] h = tt
text-distinct (e ∷ es) h = (text-apart e.0 es h.0, text-distinct es h.1)

text-below : {X Y : Type 0} (k : String Y) (es : List (String Y × X)) → AllByRecursion (λ y. string_cmp k y ≡ Less) (keys_of es)
    → AllByRecursion (λ y. slice_cmp nat_cmp (string_bytes k) y ≡ Less) (keys_of (map {B = List ℕ × X} (λ e. (string_bytes e.0, e.1)) es))
text-below k [] h = tt
text-below k (e ∷ es) h = (h.0, text-below k es h.1)

text-sorted : {X Y : Type 0} (es : List (String Y × X)) → IsStrictlySortedBy string_cmp (keys_of es) → IsStrictlySortedBy (slice_cmp nat_cmp) (keys_of (map {B = List ℕ × X} (λ e. (string_bytes e.0, e.1)) es))
unfolding IsStrictlySortedBy
text-sorted [] h = tt
text-sorted (e ∷ es) h = (text-below e.0 es h.0, text-sorted es h.1)

text-groups : {X Y : Type 0} (f : List ℕ → X → Group) (es : List (String Y × X)) → map (λ e. f e.0 e.1) (map {B = List ℕ × X} (λ e. (string_bytes e.0, e.1)) es) ≡ map (λ e. f (string_bytes e.0) e.1) es
text-groups f [] = refl
text-groups f (e ∷ es) = ap (λ gs. f (string_bytes e.0) e.1 ∷ gs) (text-groups f es)

-- ---- the tallies that count

module _ {K : Type 0} (R : K → K → Ordering) where
  below-counted : (k : K) (es : List (K × Told)) → AllByRecursion (λ y. R k y ≡ Less) (keys_of es) → AllByRecursion (λ y. R k y ≡ Less) (keys_of (counted_of es))
  below-counted k [] h = tt
  below-counted k (e ∷ es) h = by (is_counted e.1) (below-counted k es h.1)
    where
      by : (t : Bool) → AllByRecursion (λ y. R k y ≡ Less) (keys_of (counted_of es)) → AllByRecursion (λ y. R k y ≡ Less) (keys_of (cond t (e ∷ counted_of es) (counted_of es)))
      by true ih = (h.0, ih)
      by false ih = ih

  sorted-counted : (es : List (K × Told)) → IsStrictlySortedBy R (keys_of es) → IsStrictlySortedBy R (keys_of (counted_of es))
  unfolding IsStrictlySortedBy
  sorted-counted [] h = tt
  sorted-counted (e ∷ es) h = by (is_counted e.1) (sorted-counted es h.1)
    where
      by : (t : Bool) → IsStrictlySortedBy R (keys_of (counted_of es)) → IsStrictlySortedBy R (keys_of (cond t (e ∷ counted_of es) (counted_of es)))
      by true ih = (below-counted e.0 es h.0, ih)
      by false ih = ih

  counted-lookup : IsTotalOrder R → (q : K) (es : List (K × Told)) → IsDistinct (eq_by_cmp R) (keys_of es) → lookup (is_at (R q)) (counted_of es) ≡ counted (lookup (is_at (R q)) es)
  counted-lookup o q es apart = lookup-filter-values (eq_by_cmp_equiv o) is_counted q es apart ∙ filtered (lookup (is_at (R q)) es)
    where
      filtered : (x : Option Told) → option_filter is_counted x ≡ counted x
      filtered None = refl
      filtered (Some t) = refl

counted-texts : {Y : Type 0} (es : List (String Y × Told)) → map {B = List ℕ × Told} (λ e. (string_bytes e.0, e.1)) (counted_of es) ≡ counted_of (map {B = List ℕ × Told} (λ e. (string_bytes e.0, e.1)) es)
counted-texts [] = refl
counted-texts (e ∷ es) = by (is_counted e.1) (counted-texts es)
  where
    by : (t : Bool) → map {B = List ℕ × Told} (λ e. (string_bytes e.0, e.1)) (counted_of es) ≡ counted_of (map {B = List ℕ × Told} (λ e. (string_bytes e.0, e.1)) es)
        → map {B = List ℕ × Told} (λ e. (string_bytes e.0, e.1)) (cond t (e ∷ counted_of es) (counted_of es)) ≡ cond t ((string_bytes e.0, e.1) ∷ counted_of (map {B = List ℕ × Told} (λ e. (string_bytes e.0, e.1)) es)) (counted_of (map {B = List ℕ × Told} (λ e. (string_bytes e.0, e.1)) es))
    by true ih = ap (λ l. (string_bytes e.0, e.1) ∷ l) ih
    by false ih = ih

number-shown : {S : Type 0} (numbers : IndexMap ℤ Told S) → table.IsUnique int_eq numbers → (z : ℤ) → lookup (is_at (int_cmp z)) (counted_of numbers.entries) ≡ counted (table.get int_eq numbers z)
number-shown numbers unique z = counted-lookup int_cmp int_cmp_total z numbers.entries unique

text-shown : {Y S : Type 0} (texts : IndexMap (String Y) Told S) → table.IsUnique string_eq texts → (t : List ℕ) → lookup (is_at (slice_cmp nat_cmp t)) (map (λ e. (string_bytes e.0, e.1)) (counted_of texts.entries)) ≡ counted (get_by_text texts t)
text-shown texts unique t =
    ap (lookup (is_at (slice_cmp nat_cmp t))) (counted-texts texts.entries)
    ∙ counted-lookup (slice_cmp nat_cmp) nat_list_cmp_total t (map (λ e. (string_bytes e.0, e.1)) texts.entries) (text-distinct texts.entries unique)
    ∙ ap counted (text-lookup t texts.entries)

-- ---- keys in order

module _ {K : Type 0} (E : K → K → Bool) (flips : (x y : K) → E x y ≡ E y x) where
  dedup-distinct-from : (k : K) (ks : List K) → IsDistinct E (k ∷ ks) → dedup_from E k ks ≡ k ∷ ks
  dedup-distinct-from k [] h = refl
  dedup-distinct-from k (x ∷ xs) h =
      ap (λ t. cond t (dedup_from E k xs) (k ∷ dedup_from E x xs)) (flips x k ∙ (IsDistinct-head E k (x ∷ xs) h).0)
      ∙ ap (λ l. k ∷ l) (dedup-distinct-from x xs (IsDistinct-tail E k (x ∷ xs) h))

  dedup-distinct : (ks : List K) → IsDistinct E ks → dedup E ks ≡ ks
  dedup-distinct [] h = refl
  dedup-distinct (k ∷ ks) h = dedup-distinct-from k ks h

-- keys that don't fall and differ rise
rises : {K : Type 0} (R : K → K → Ordering) → IsTotalOrder R → (E : K → K → Bool) → ((x y : K) → E x y ≡ eq_by_cmp R x y) → (ks : List K) → IsSorted R ks → IsDistinct E ks → IsStrictlySortedBy R ks
rises R o E ties ks sorted apart = subst (IsStrictlySortedBy R) (dedup-distinct E (λ x y. ties x y ∙ (eq_by_cmp_equiv o).symm x y ∙ sym (ties y x)) ks apart) (IsStrictlySortedBy-dedup o ties ks sorted)

numbers-rise : {S : Type 0} (numbers : IndexMap ℤ Told S) → IsSorted int_cmp (table.keys numbers) → table.IsUnique int_eq numbers → IsStrictlySortedBy int_cmp (keys_of numbers.entries)
numbers-rise numbers sorted unique = rises int_cmp int_cmp_total int_eq (λ x y. refl) (keys_of numbers.entries) sorted unique

texts-rise : {Y S : Type 0} (texts : IndexMap (String Y) Told S) → IsSorted string_cmp (table.keys texts) → table.IsUnique string_eq texts → IsStrictlySortedBy string_cmp (keys_of texts.entries)
texts-rise texts sorted unique = rises string_cmp string_cmp_total string_eq (λ x y. sym (is_eq-slice_cmp (string_bytes x) (string_bytes y))) (keys_of texts.entries) sorted unique

-- ---- what is kept

-- no documents
pub gathered-none : {Y S : Type 0} (by : Option GroupBy) (views : ℕ) (numbers : IndexMap ℤ Told S) (texts : IndexMap (String Y) Told S) → numbers.entries ≡ [] → texts.entries ≡ [] → IsGathered [] (gathered_as by views numbers texts)
gathered-none None views numbers texts n t = tt
gathered-none (Some by) views numbers texts n t = record {
  numbers = λ z. ap (λ es. lookup (is_at (int_cmp z)) (counted_of es)) n;
  texts = λ q. ap (λ es. lookup (is_at (slice_cmp nat_cmp q)) (map (λ e. (string_bytes e.0, e.1)) (counted_of es))) t;
}

-- more places
pub gathered-same : {Y S : Type 0} (by : Option GroupBy) (views : ℕ) (numbers next_numbers : IndexMap ℤ Told S) (texts next_texts : IndexMap (String Y) Told S) → counted_of next_numbers.entries ≡ counted_of numbers.entries → counted_of next_texts.entries ≡ counted_of texts.entries
    → gathered_as by views next_numbers next_texts ≡ gathered_as by views numbers texts
gathered-same by views numbers next_numbers texts next_texts n t = ap₂ {C = Gathered} (λ a b. record { by = by; views = views; numbers = a; texts = map (λ e. (string_bytes e.0, e.1)) b }) n t

-- the groups
groups-told : {Y S : Type 0} (numbers : IndexMap ℤ Told S) (texts : IndexMap (String Y) Told S) (by : GroupBy) (docs : List Contents) (views : ℕ) → IsStrictlySortedBy int_cmp (keys_of numbers.entries) → IsStrictlySortedBy string_cmp (keys_of texts.entries) → HasTallies by docs (gathered_as (Some by) views numbers texts)
    → map (λ e. told_group by.outputs (Int e.0) e.1) (counted_of numbers.entries) ++ map (λ e. told_group by.outputs (Text (string_bytes e.0)) e.1) (counted_of texts.entries) ≡ groups_of (Some by) docs
groups-told numbers texts by docs views n t h = ap₂ (λ a b. a ++ b)
    (groups-are int_cmp int_cmp-IsAntisymmetric int_cmp_total Int by.outputs (number_in by.field) docs (counted_of numbers.entries) (sorted-counted int_cmp numbers.entries n) h.numbers)
    (sym (text-groups (λ k v. told_group by.outputs (Text k) v) (counted_of texts.entries))
    ∙ groups-are (slice_cmp nat_cmp) (slice_cmp-IsAntisymmetric nat_cmp-IsAntisymmetric) nat_list_cmp_total Text by.outputs (text_in by.field) docs (map (λ e. (string_bytes e.0, e.1)) (counted_of texts.entries)) (text-sorted (counted_of texts.entries) (sorted-counted string_cmp texts.entries t)) h.texts)

-- what is kept, with places and then documents more
pub gathered-more : {Y S : Type 0} (o : Option GroupBy) (by : GroupBy) (views more : ℕ) (numbers placed_numbers next_numbers : IndexMap ℤ Told S) (texts placed_texts next_texts : IndexMap (String Y) Told S) (g : Gathered) (ds : List Contents) (n : ℕ) → o ≡ Some by
    → gathered_as o views numbers texts ≡ g
    → table.IsUnique int_eq placed_numbers → table.IsUnique string_eq placed_texts → table.IsUnique int_eq next_numbers → table.IsUnique string_eq next_texts
    → counted_of placed_numbers.entries ≡ counted_of numbers.entries → counted_of placed_texts.entries ≡ counted_of texts.entries
    → AreTaken int_cmp by.outputs (number_in by.field) ds n (table.get int_eq placed_numbers) (table.get int_eq next_numbers)
    → AreTaken (slice_cmp nat_cmp) by.outputs (text_in by.field) ds n (get_by_text placed_texts) (get_by_text next_texts)
    → (docs : List Contents) → IsGathered docs g → IsGathered (docs ++ ds) (gathered_as o more next_numbers next_texts)
gathered-more o by views more numbers placed_numbers next_numbers texts placed_texts next_texts g ds n is same pn pt nn nt sn st an at = λ docs h.
    let own : HasTallies by docs (gathered_as (Some by) views placed_numbers placed_texts) =
    subst (HasTallies by docs) (sym (gathered-same (Some by) views numbers placed_numbers texts placed_texts sn st)) (subst (λ p. IsGathered docs (gathered_as p views numbers texts)) is (subst (IsGathered docs) (sym same) h)) in
    let all : HasTallies by (docs ++ ds) (gathered_as (Some by) more next_numbers next_texts) = record {
      numbers = λ z. number-shown next_numbers nn z ∙ an.tallies docs (λ y. sym (number-shown placed_numbers pn y) ∙ own.numbers y) z;
      texts = λ q. text-shown next_texts nt q ∙ at.tallies docs (λ y. sym (text-shown placed_texts pt y) ∙ own.texts y) q;
    } in
    subst (λ p. IsGathered (docs ++ ds) (gathered_as p more next_numbers next_texts)) (sym is) all

-- what is kept, in another order
gathered-sorted : {Y S : Type 0} (by : GroupBy) (views : ℕ) (numbers sorted_numbers : IndexMap ℤ Told S) (texts sorted_texts : IndexMap (String Y) Told S) (docs : List Contents)
    → table.IsUnique int_eq numbers → table.IsUnique string_eq texts → table.IsUnique int_eq sorted_numbers → table.IsUnique string_eq sorted_texts
    → ((z : ℤ) → table.get int_eq sorted_numbers z ≡ table.get int_eq numbers z) → ((t : List ℕ) → get_by_text sorted_texts t ≡ get_by_text texts t)
    → HasTallies by docs (gathered_as (Some by) views numbers texts) → HasTallies by docs (gathered_as (Some by) views sorted_numbers sorted_texts)
gathered-sorted by views numbers sorted_numbers texts sorted_texts docs n t sn st same same_texts h = record {
  numbers = λ z. number-shown sorted_numbers sn z ∙ ap counted (same z) ∙ sym (number-shown numbers n z) ∙ h.numbers z;
  texts = λ q. text-shown sorted_texts st q ∙ ap counted (same_texts q) ∙ sym (text-shown texts t q) ∙ h.texts q;
}

pub groups-none : {Y S : Type 0} (o : Option GroupBy) (views : ℕ) (numbers : IndexMap ℤ Told S) (texts : IndexMap (String Y) Told S) (g : Gathered) (docs : List Contents) → o ≡ None
    → gathered_as o views numbers texts ≡ g → [] ≡ groups_of g.by docs
groups-none o views numbers texts g docs is same = ap (λ p. groups_of p docs) (sym is ∙ ap (λ g. g.by) same)

-- sorted tallies, of which all is kept that is kept of others
pub record AreSorted {Y S : Type 0} (numbers sorted_numbers : IndexMap ℤ Told S) (texts sorted_texts : IndexMap (String Y) Told S) : Type 0 where
  pub apart : table.IsUnique int_eq numbers
  pub texts_apart : table.IsUnique string_eq texts
  pub still_apart : table.IsUnique int_eq sorted_numbers
  pub texts_still_apart : table.IsUnique string_eq sorted_texts
  pub sorted : IsSorted int_cmp (table.keys sorted_numbers)
  pub texts_sorted : IsSorted string_cmp (table.keys sorted_texts)
  pub same : (z : ℤ) → table.get int_eq sorted_numbers z ≡ table.get int_eq numbers z
  pub texts_same : (t : List ℕ) → get_by_text sorted_texts t ≡ get_by_text texts t

-- the groups of what is kept
pub groups-gathered : {Y S : Type 0} (o : Option GroupBy) (by : GroupBy) (views : ℕ) (numbers sorted_numbers : IndexMap ℤ Told S) (texts sorted_texts : IndexMap (String Y) Told S) (g : Gathered) (docs : List Contents) → o ≡ Some by
    → gathered_as o views numbers texts ≡ g → AreSorted numbers sorted_numbers texts sorted_texts → IsGathered docs g
    → map (λ e. told_group by.outputs (Int e.0) e.1) (counted_of sorted_numbers.entries) ++ map (λ e. told_group by.outputs (Text (string_bytes e.0)) e.1) (counted_of sorted_texts.entries) ≡ groups_of g.by docs
groups-gathered o by views numbers sorted_numbers texts sorted_texts g docs is same are h =
    groups-told sorted_numbers sorted_texts by docs views (numbers-rise sorted_numbers are.sorted are.still_apart) (texts-rise sorted_texts are.texts_sorted are.texts_still_apart)
    (gathered-sorted by views numbers sorted_numbers texts sorted_texts docs are.apart are.texts_apart are.still_apart are.texts_still_apart are.same are.texts_same
    (subst (λ p. IsGathered docs (gathered_as p views numbers texts)) is (subst (IsGathered docs) (sym same) h)))
    ∙ ap (λ p. groups_of p docs) (sym is ∙ ap (λ g. g.by) same)

-- the groups of numbers and then of texts, put one behind the other
pub groups-pushed : {Y S : Type 0} (o : Option GroupBy) (by : GroupBy) (views : ℕ) (numbers sorted_numbers : IndexMap ℤ Told S) (texts sorted_texts : IndexMap (String Y) Told S) (g : Gathered) (first second : List OutputKind) (empty one two : List Group) (docs : List Contents)
    → empty ≡ [] → first ≡ by.outputs → second ≡ by.outputs → one ≡ empty ++ map (λ e. told_group first (Int e.0) e.1) (counted_of sorted_numbers.entries) → two ≡ one ++ map (λ e. told_group second (Text (string_bytes e.0)) e.1) (counted_of sorted_texts.entries)
    → o ≡ Some by → gathered_as o views numbers texts ≡ g → AreSorted numbers sorted_numbers texts sorted_texts → IsGathered docs g → two ≡ groups_of g.by docs
groups-pushed o by views numbers sorted_numbers texts sorted_texts g first second empty one two docs none k l n t is same are h =
    t ∙ ap₂ (λ a ks. a ++ map (λ e. told_group ks (Text (string_bytes e.0)) e.1) (counted_of sorted_texts.entries))
    (n ∙ ap₂ (λ a ks. a ++ map (λ e. told_group ks (Int e.0) e.1) (counted_of sorted_numbers.entries)) none k) l
    ∙ groups-gathered o by views numbers sorted_numbers texts sorted_texts g docs is same are h

-- ---- the group of a key

any-filter : (p : Contents → Bool) (docs : List Contents) → list_any p docs ≡ has_any (filter p docs)
any-filter p [] = refl
any-filter p (d ∷ docs) = by (p d) (any-filter p docs)
  where
    by : (t : Bool) → list_any p docs ≡ has_any (filter p docs) → (t || list_any p docs) ≡ has_any (cond t (d ∷ filter p docs) (filter p docs))
    by true ih = refl
    by false ih = ih

key-group : {K : Type 0} (R : K → K → Ordering) → IsAntisymmetric R → IsTotalOrder R → (value : K → FieldValue) (ks : List OutputKind) (key : Contents → Option K) (docs : List Contents) (q : K)
    → fin.get (groups_by R value ks key docs) q ≡ cond (list_any (λ d. is_key R q (key d)) docs) (Some (group_over ks (value q) (with_key R key q docs))) None
key-group R exact o value ks key docs q =
    get-from_entries o (map (λ k. (k, group_over ks (value k) (with_key R key k docs))) (found key docs)) q
    ∙ find-keys R exact (λ k. group_over ks (value k) (with_key R key k docs)) q (found key docs)
    ∙ ap (λ t. cond t (Some (group_over ks (value q) (with_key R key q docs))) None) (any-found R exact key q docs ∙ sym (any-filter (λ d. is_key R q (key d)) docs))

pub number-group : (ks : List OutputKind) (field : List ℕ) (docs : List Contents) (z : ℤ)
    → fin.get (groups_by int_cmp Int ks (number_in field) docs) z ≡ cond (list_any (λ d. is_key int_cmp z (number_in field d)) docs) (Some (group_over ks (Int z) (with_key int_cmp (number_in field) z docs))) None
number-group ks field docs z = key-group int_cmp int_cmp-IsAntisymmetric int_cmp_total Int ks (number_in field) docs z

pub text-group : (ks : List OutputKind) (field : List ℕ) (docs : List Contents) (t : List ℕ)
    → fin.get (groups_by (slice_cmp nat_cmp) Text ks (text_in field) docs) t ≡ cond (list_any (λ d. is_key (slice_cmp nat_cmp) t (text_in field d)) docs) (Some (group_over ks (Text t) (with_key (slice_cmp nat_cmp) (text_in field) t docs))) None
text-group ks field docs t = key-group (slice_cmp nat_cmp) (slice_cmp-IsAntisymmetric nat_cmp-IsAntisymmetric) nat_list_cmp_total Text ks (text_in field) docs t
