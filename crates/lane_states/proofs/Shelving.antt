-- The changes of a lane's view go to a shelf.
use Rattle.std.proofs.Common.{◌≡◌, ◌≤◌, ◌<◌, ◌+◌, ◌-◌, ◌∙◌, ◌++◌, ℕ, min, true, List, [], ◌∷◌, length, take, refl, ap, sym, subst, append_assoc, arith}
use Rattle.std.proofs.lemmas.Bool.Decides.{nat_tests}
use Rattle.std.proofs.lemmas.List.{append-nil, length-append}
use Rattle.view_changes.specs.declared.change.LaneChange.{LaneChange}
use Rattle.shelves.specs.Shelves.{ShowsFirst, TakesFirst}
use Rattle.shelves.proofs.Showing.{shows_on, shows_behind}
use Rattle.lane_journals.specs.declared.event.LaneEvent.{LaneEvent}
use Rattle.lane_changes.specs.Changes.{changes_of}
use Rattle.lane_states.specs.Told.{all_kept, handed_in, Tells, IsTold}

-- a shelf took some of a list, which stood first among those that were left
pub takes-list : (shows shows' shows'' : List LaneChange → Type 0) (before pending pending' all kept list left rest : List LaneChange) → kept ≡ list ++ rest → TakesFirst shows' shows'' pending pending' list left
    → TakesFirst shows shows' before pending all kept → TakesFirst shows shows'' before pending' all (left ++ rest)
takes-list shows shows' shows'' before pending pending' all kept list left rest is u t = record {
  gone = t.gone ++ u.gone;
  parted = t.parted ∙ (ap (λ (xs : List LaneChange). t.gone ++ xs) (is ∙ (ap (λ (xs : List LaneChange). xs ++ rest) u.parted ∙ append_assoc u.gone left rest)) ∙ sym (append_assoc t.gone u.gone (left ++ rest)));
  shown = subst (λ (xs : List LaneChange). ShowsFirst shows shows'' xs pending') (append_assoc before t.gone u.gone)
      (shows_on shows shows' shows'' _ _ _ (shows_behind shows shows' _ _ u.gone t.shown) u.shown);
}

-- ---- which changes were handed over

take-front : (xs ys : List LaneChange) → take (length xs) (xs ++ ys) ≡ xs
take-front [] ys = take-none ys
  where
    take-none : (zs : List LaneChange) → take 0 zs ≡ []
    take-none [] = refl
    take-none (z ∷ zs) = refl
take-front (x ∷ xs) ys = ap (λ (zs : List LaneChange). x ∷ zs) (take-front xs ys)

-- what stands before the last ones
but-last : (xs ys all : List LaneChange) → xs ++ ys ≡ all → take (length all - length ys) all ≡ xs
but-last xs ys all is = subst (λ (zs : List LaneChange). take (length zs - length ys) zs ≡ xs) is (ap (λ n. take n (xs ++ ys)) count ∙ take-front xs ys)
  where
    count : length (xs ++ ys) - length ys ≡ length xs
    count = let many = length-append xs ys in omega (arith, many)

on-whole : (handed gone rest kept all : List LaneChange) → kept ≡ gone ++ rest → handed ++ kept ≡ all → (handed ++ gone) ++ rest ≡ all
on-whole handed gone rest kept all parted whole = append_assoc handed gone rest ∙ (ap (λ (ds : List LaneChange). handed ++ ds) (sym parted) ∙ whole)

-- those of before, and those that a shelf took since
pub handed-so : (J : List LaneEvent) (kept left : List (List LaneChange)) (handed gone : List LaneChange) → all_kept kept ≡ gone ++ all_kept left → handed ++ all_kept kept ≡ changes_of J → handed_in J left ≡ handed ++ gone
handed-so J kept left handed gone parted whole = but-last (handed ++ gone) (all_kept left) (changes_of J) (on-whole handed gone (all_kept left) (all_kept kept) (changes_of J) parted whole)

-- where nothing is kept they are all
pub handed-all : (handed all : List LaneChange) (kept : List (List LaneChange)) → kept ≡ [] → handed ++ all_kept kept ≡ all → handed ≡ all
handed-all handed all kept none whole = sym (append-nil handed) ∙ (ap (λ (ks : List (List LaneChange)). handed ++ all_kept ks) (sym none) ∙ whole)

-- a shelf took the first of those that were kept
pub told-handed : (J : List LaneEvent) (t t2 : Tells) (gone : List LaneChange) → (t2.log).told ≡ (t.log).told → t2.handed ≡ t.handed ++ gone → all_kept (t.log).kept ≡ gone ++ all_kept (t2.log).kept
    → ((t2.log).turn_room ≡ true → (t2.log).lists + 1 ≤ (t2.log).places) → IsTold J t → IsTold J t2
told-handed J t t2 gone told now parted place k = record {
  count = told ∙ k.count;
  whole = ap (λ (ds : List LaneChange). ds ++ all_kept (t2.log).kept) now ∙ on-whole t.handed gone (all_kept (t2.log).kept) (all_kept (t.log).kept) (changes_of J) parted k.whole;
  place = place;
}

-- all of them, where nothing is kept
pub handed-none : (J : List LaneEvent) → handed_in J [] ≡ changes_of J
handed-none J = but-last (changes_of J) [] (changes_of J) (append-nil (changes_of J))

-- those that were kept are dropped
pub told-dropped : (J : List LaneEvent) (t t2 : Tells) → (t2.log).told ≡ (t.log).told → t2.handed ≡ changes_of J → (t2.log).kept ≡ [] → ((t2.log).turn_room ≡ true → (t2.log).lists + 1 ≤ (t2.log).places) → IsTold J t → IsTold J t2
told-dropped J t t2 told now none place k = record {
  count = told ∙ k.count;
  whole = ap (λ (ds : List LaneChange). ds ++ all_kept (t2.log).kept) now ∙ (ap (λ (ks : List (List LaneChange)). changes_of J ++ all_kept ks) none ∙ append-nil (changes_of J));
  place = place;
}

-- the count isn't at its end
pub few-told : (told n : ℕ) → told ≡ min n 18446744073709551615 → (told ≡ 18446744073709551615 → ⊥) → n < 18446744073709551615
few-told told n count more = few-changes n (λ is. more (count ∙ is))
  where
    few-changes : (m : ℕ) → (min m 18446744073709551615 ≡ 18446744073709551615 → ⊥) → m < 18446744073709551615
    few-changes m no_more = grind (arith, nat_tests)

-- one list more
pub kept_push : (kept : List (List LaneChange)) (cs : List LaneChange) → all_kept (kept ++ cs ∷ []) ≡ all_kept kept ++ cs
kept_push [] cs = append-nil cs
kept_push (ds ∷ kept) cs = ap (λ (xs : List LaneChange). ds ++ xs) (kept_push kept cs) ∙ sym (append_assoc ds (all_kept kept) cs)
