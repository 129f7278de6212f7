-- The parts of a bucket are the coarsest partition that no answer divides.
use Rattle.std.proofs.Common.{◌≡◌, ℕ, ◌+◌, ◌^◌, ◌<◌, ◌≤◌, ◌⊎◌, Bool, true, false, ◌||◌, List, [], ◌∷◌, ◌++◌, cond, inl, inr, refl, sym, ap, ap₂, ◌∙◌, subst, arith}
use Rattle.std.specs.List.{AllByRecursion, count_by, filter, list_any}
use Rattle.std.specs.List.Sorted.{IsPermutation}
use Rattle.std.proofs.lemmas.List.Folds.{list_any-append}
use Rattle.std.proofs.lemmas.List.Sorted.{sum_by-IsPermutation, list_any-IsPermutation, All-permutation}
use Rattle.std.proofs.lemmas.List.Elements.{All-from_recursion, recursion_from_All}
use Rattle.bucket_ids.specs.Buckets.{Low, IsBucket, has_key, covers, first_child, second_child}
use Rattle.bucket_db.specs.Answers.{is_inside, divides, NoneDivided, IsFiner, IsCoarsest}
use Rattle.bucket_db.specs.Dividing.{IsDivided}
use Rattle.bucket_db.specs.Rows.{AreBuckets}
use Rattle.proof_basics.proofs.Lists.{count_cons, all_map}
use Rattle.bucket_db.proofs.Counts.{count_append, count_one, or_left, or_right, all_append, any_filter}
use Rattle.proof_basics.proofs.Tests.{or_none, none_left, none_right}
use Rattle.bucket_db.proofs.Inside.{covers_keys, covers_self, covers_trans, covers_first, covers_second, inside_under, halves, child_covers, same_or_inside}

pub divided_leaf : (b : Low) (ans : List Low) → IsBucket b → divides ans b ≡ false → IsDivided b ans (b ∷ [])
divided_leaf b ans ok none = record {
  whole = ok;
  valid = (ok, tt);
  covered = (covers_self b ok, tt);
  partition = λ key lt. count_one (λ r. has_key r key) b;
  undivided = or_none (divides ans b) false none refl;
  coarsest = λ o oko h nd. or_left (covers b o) false h;
}

-- answers outside a part don't divide what lies in it
divides_filter : (c : Low) (ans : List Low) (r : Low) → covers c r ≡ true → divides (filter (is_inside c) ans) r ≡ divides ans r
divides_filter c ans r h = any_filter (is_inside c) (is_inside r) ans (λ a k. inside_under c r a h k)

undivided_more : (c : Low) (ans rs : List Low) → AllByRecursion (λ r. covers c r ≡ true) rs → NoneDivided (filter (is_inside c) ans) rs → NoneDivided ans rs
undivided_more c ans [] h none = refl
undivided_more c ans (r ∷ rs) h none = or_none (divides ans r) (list_any (divides ans) rs)
    (sym (divides_filter c ans r h.0) ∙ none_left (divides (filter (is_inside c) ans) r) (list_any (divides (filter (is_inside c) ans)) rs) none)
    (undivided_more c ans rs h.1 (none_right (divides (filter (is_inside c) ans) r) (list_any (divides (filter (is_inside c) ans)) rs) none))

abbrev part_answers : Low → List Low → List Low
part_answers c ans = filter (is_inside c) ans

pub divided_node : (b : Low) (ans xs ys : List Low) → IsBucket b → b.bits < 58 → divides ans b ≡ true
    → IsDivided (first_child b) (part_answers (first_child b) ans) xs → IsDivided (second_child b) (part_answers (second_child b) ans) ys → IsDivided b ans (xs ++ ys)
divided_node b ans xs ys ok lt divided x y = record {
  whole = ok;
  valid = all_append IsBucket xs ys x.valid y.valid;
  covered = all_append (λ p. covers b p ≡ true) xs ys
      (all_map (λ p. covers (first_child b) p ≡ true) (λ p. covers b p ≡ true) xs (λ p h. covers_trans b (first_child b) p (covers_first b ok) h) x.covered)
      (all_map (λ p. covers (second_child b) p ≡ true) (λ p. covers b p ≡ true) ys (λ p h. covers_trans b (second_child b) p (covers_second b ok) h) y.covered);
  partition = λ key small. count_append (λ r. has_key r key) xs ys ∙ ap₂ (λ m n. m + n) (x.partition key small) (y.partition key small) ∙ halves b ok key;
  undivided = list_any-append (divides ans) xs ys ∙ or_none (list_any (divides ans) xs) (list_any (divides ans) ys)
      (undivided_more (first_child b) ans xs x.covered x.undivided)
      (undivided_more (second_child b) ans ys y.covered y.undivided);
  coarsest = λ o oko h none. list_any-append (λ p. covers p o) xs ys ∙ in_a_child o oko h none (same_or_inside b o oko h);
}
  where
    in_a_child : (o : Low) → IsBucket o → covers b o ≡ true → divides ans o ≡ false → (b ≡ o) ⊎ (b.bits < o.bits)
        → (list_any (λ p. covers p o) xs || list_any (λ p. covers p o) ys) ≡ true
    in_a_child o oko h none (inl same) = let e : true ≡ false = sym divided ∙ ap (divides ans) same ∙ none in cc
    in_a_child o oko h none (inr less) = elim (child_covers b o h less) [
      | inl first ↦ or_left (list_any (λ p. covers p o) xs) (list_any (λ p. covers p o) ys) (x.coarsest o oko first (divides_filter (first_child b) ans o first ∙ none))
      | inr second ↦ or_right (list_any (λ p. covers p o) xs) (list_any (λ p. covers p o) ys) (y.coarsest o oko second (divides_filter (second_child b) ans o second ∙ none))
    ]

-- the same of what was found under other names
pub divided_found : (b : Low) (ans : List Low) → IsBucket b → b.bits < 58 → divides ans b ≡ true
    → (first second : Low) (fs ss xs ys all : List Low) → first ≡ first_child b → second ≡ second_child b
    → fs ≡ filter (is_inside first) ans → ss ≡ filter (is_inside second) ans → IsDivided first fs xs → IsDivided second ss ys → all ≡ xs ++ ys → IsDivided b ans all
divided_found b ans ok lt divided first second fs ss xs ys all first_is second_is fs_is ss_is x y all_is =
    let one : IsDivided (first_child b) (part_answers (first_child b) ans) xs = subst (λ (c : Low). IsDivided c (part_answers c ans) xs) first_is (subst (λ (zs : List Low). IsDivided first zs xs) fs_is x) in
    let two : IsDivided (second_child b) (part_answers (second_child b) ans) ys = subst (λ (c : Low). IsDivided c (part_answers c ans) ys) second_is (subst (λ (zs : List Low). IsDivided second zs ys) ss_is y) in
    subst (λ (zs : List Low). IsDivided b ans zs) (sym all_is) (divided_node b ans xs ys ok lt divided one two)

-- ---- every such partition is finer

at_least_one : (p q : Bool) → cond p 1 0 ≤ cond q 1 0 → p ≡ true → q ≡ true
at_least_one true true h e = refl
at_least_one true false h e = absurd (omega (arith, h))
at_least_one false q h e = let f : false ≡ true = e in cc

inside_lane : (lane o : Low) → IsBucket lane → IsBucket o → ((key : ℕ) → key < 2 ^ 58 → cond (has_key o key) 1 0 ≤ cond (has_key lane key) 1 0) → covers lane o ≡ true
inside_lane lane o ok oko within =
    covers_keys lane o ok oko (λ key small h. at_least_one (has_key o key) (has_key lane key) (within key small) h)

finer : (lane : Low) (ans rows : List Low) → IsBucket lane
    → ((o : Low) → IsBucket o → covers lane o ≡ true → divides ans o ≡ false → list_any (λ p. covers p o) rows ≡ true)
    → (others : List Low) → AreBuckets others → ((key : ℕ) → key < 2 ^ 58 → count_by (λ b. has_key b key) others ≤ cond (has_key lane key) 1 0)
    → NoneDivided ans others → IsFiner others rows
finer lane ans rows ok most [] valid within none = tt
finer lane ans rows ok most (o ∷ os) valid within none = (
  most o valid.0 (inside_lane lane o ok valid.0 (λ key lt. omega (arith, count_cons (λ b. has_key b key) o os, within key lt)))
      (none_left (divides ans o) (list_any (divides ans) os) none),
  finer lane ans rows ok most os valid.1 (λ key lt. omega (arith, count_cons (λ b. has_key b key) o os, within key lt))
      (none_right (divides ans o) (list_any (divides ans) os) none),
)

-- in any order the parts are the coarsest partition
pub coarsest_parts : (lane : Low) (ans parts rows : List Low) → IsBucket lane → IsDivided lane ans parts → IsPermutation parts rows → IsCoarsest lane ans rows
coarsest_parts lane ans parts rows ok d moved = record {
  partition = λ key lt. sum_by-IsPermutation (λ b. cond (has_key b key) 1 0) parts rows moved ∙ d.partition key lt;
  undivided = sym (list_any-IsPermutation (divides ans) parts rows moved) ∙ d.undivided;
  coarsest = λ others valid partition none. finer lane ans rows ok
      (λ o oko h nd. sym (list_any-IsPermutation (λ p. covers p o) parts rows moved) ∙ d.coarsest o oko h nd)
      others valid (λ key lt. omega (arith, partition key lt)) none;
}

pub valid_moved : (parts rows : List Low) → AreBuckets parts → IsPermutation parts rows → AreBuckets rows
valid_moved parts rows h moved = recursion_from_All IsBucket rows (All-permutation IsBucket parts rows moved (All-from_recursion IsBucket parts h))
