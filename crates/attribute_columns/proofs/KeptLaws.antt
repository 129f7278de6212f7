-- A dictionary stays that of its values.
use Rattle.std.proofs.Common.{◌≡◌, ◌≢◌, None, ℕ, ℤ, ◌&&◌, Bool, true, false, cond, not, List, [], Vec, refl, sym, ap, subst, ◌∙◌}
use Rattle.std.specs.List.{Contains}
use Rattle.std.specs.BTreeMap.{BTreeMap}
use Rattle.std.specs.FinMap as fin
use Rattle.proof_basics.proofs.Tests.{clash}
use Rattle.doc_types.specs.declared.values.FieldValue.{FieldValue}
use Rattle.local_ids.specs.Rising.{IsRising, with_local, without_local, moved_local}
use Rattle.local_ids.specs.Places.{moved}
use Rattle.local_ids.proofs.MoveLaws.{moved_missing}
use Rattle.attribute_columns.specs.Columns.{ValueMap, numbers_of, has_number, numbers_at, locals_with}
use Rattle.attribute_columns.specs.Dictionary.{ids_at, HasNoEmpty, IsKept}
use Rattle.attribute_columns.proofs.ColumnLaws.{rising, told, list_with, list_without, list_moved, no_lists}
use Rattle.attribute_columns.proofs.ListLaws.{with_there, without_missing, with_part_rises, undone, set_case}

pub kept_new : {Y : Type 0} (m : ValueMap) (lists : BTreeMap ℤ (Vec ℕ Y)) → m ≡ fin.empty → lists.entries ≡ [] → IsKept m lists
kept_new m lists e f = record { ids = λ q. none q ∙ no_lists q ∙ ap (locals_with q) (sym e); some = λ q. rw f tt }
  where
    none : (q : ℤ) → ids_at lists q ≡ []
    none q = rw f refl

pub rises_of : {Y : Type 0} (m : ValueMap) (lists : BTreeMap ℤ (Vec ℕ Y)) → IsKept m lists → (q : ℤ) → IsRising (ids_at lists q)
rises_of m lists k q = subst IsRising (sym (k.ids q)) (rising q m)

-- a list lacks a document that hasn't its number, and has one that has it
lacks : {Y : Type 0} (m : ValueMap) (lists : BTreeMap ℤ (Vec ℕ Y)) → IsKept m lists → (l : ℕ) (q : ℤ) → has_number q (numbers_at m l) ≡ false → Contains (ids_at lists q) l → ⊥
lacks m lists k l q e h = clash ((told q m l).0 (subst (λ xs. Contains xs l) (k.ids q) h)) e

pub kept_without : {Y : Type 0} (m new : ValueMap) (lists after : BTreeMap ℤ (Vec ℕ Y)) (l : ℕ) (numbers : List ℤ) → IsKept m lists → numbers ≡ numbers_at m l → new ≡ fin.remove m l
    → ((q : ℤ) → ids_at after q ≡ cond (has_number q numbers) (without_local l (ids_at lists q)) (ids_at lists q)) → (HasNoEmpty lists → HasNoEmpty after) → IsKept new after
kept_without m new lists after l numbers k e f g some = record {
  ids = λ q. g q ∙ by_test q (has_number q numbers) refl ∙ ap (without_local l) (k.ids q) ∙ sym (list_without q m l) ∙ ap (locals_with q) (sym f);
  some = some k.some;
}
  where
    by_test : (q : ℤ) (t : Bool) → has_number q numbers ≡ t → cond t (without_local l (ids_at lists q)) (ids_at lists q) ≡ without_local l (ids_at lists q)
    by_test q true h = refl
    by_test q false h = sym (without_missing l (ids_at lists q) (rises_of m lists k q) (lacks m lists k l q (ap (has_number q) (sym e) ∙ h)))

pub kept_moved : {Y : Type 0} (m new : ValueMap) (lists after : BTreeMap ℤ (Vec ℕ Y)) (x z : ℕ) (numbers : List ℤ) → IsKept m lists → numbers ≡ numbers_at m x → fin.get m z ≡ None → z ≢ x
    → new ≡ moved x z m → ((q : ℤ) → ids_at after q ≡ cond (has_number q numbers) (moved_local x z (ids_at lists q)) (ids_at lists q)) → (HasNoEmpty lists → HasNoEmpty after) → IsKept new after
kept_moved m new lists after x z numbers k e free other f g some = record {
  ids = λ q. g q ∙ by_test q (has_number q numbers) refl ∙ ap (moved_local x z) (k.ids q) ∙ sym (list_moved q m x z free other) ∙ ap (locals_with q) (sym f);
  some = some k.some;
}
  where
    by_test : (q : ℤ) (t : Bool) → has_number q numbers ≡ t → cond t (moved_local x z (ids_at lists q)) (ids_at lists q) ≡ moved_local x z (ids_at lists q)
    by_test q true h = refl
    by_test q false h = sym (moved_missing x z (ids_at lists q) (lacks m lists k x q (ap (has_number q) (sym e) ∙ h)))

and_left : (a b : Bool) → (a && not b) ≡ true → b ≡ false
and_left true true h = sym h
and_left true false h = refl
and_left false b h = clash h refl

pub lack_of : {Y : Type 0} (m : ValueMap) (lists : BTreeMap ℤ (Vec ℕ Y)) (l : ℕ) (fresh own before : List ℤ) → IsKept m lists → before ≡ numbers_at m l
    → ((q : ℤ) → has_number q fresh ≡ (has_number q own && not (has_number q before))) → (q : ℤ) → has_number q fresh ≡ true → Contains (ids_at lists q) l → ⊥
lack_of m lists l fresh own before k e f q h c = lacks m lists k l q (ap (has_number q) (sym e) ∙ and_left (has_number q own) (has_number q before) (sym (f q) ∙ h)) c

pub added_rises : {Y : Type 0} (m : ValueMap) (lists mid : BTreeMap ℤ (Vec ℕ Y)) (l : ℕ) (fresh : List ℤ) → IsKept m lists
    → ((q : ℤ) → ids_at mid q ≡ cond (has_number q fresh) (with_local l (ids_at lists q)) (ids_at lists q)) → (q : ℤ) → IsRising (ids_at mid q)
added_rises m lists mid l fresh k g q = with_part_rises l (has_number q fresh) (ids_at lists q) (ids_at mid q) (rises_of m lists k q) (g q)

pub kept_with : {Y : Type 0} (m new : ValueMap) (lists mid after : BTreeMap ℤ (Vec ℕ Y)) (l : ℕ) (v : FieldValue) (fresh gone own before : List ℤ) → IsKept m lists
    → own ≡ numbers_of v → before ≡ numbers_at m l → new ≡ fin.insert m l v
    → ((q : ℤ) → has_number q fresh ≡ (has_number q own && not (has_number q before))) → ((q : ℤ) → has_number q gone ≡ (has_number q before && not (has_number q own)))
    → ((q : ℤ) → ids_at mid q ≡ cond (has_number q fresh) (with_local l (ids_at lists q)) (ids_at lists q)) → ((q : ℤ) → ids_at after q ≡ cond (has_number q gone) (without_local l (ids_at mid q)) (ids_at mid q))
    → HasNoEmpty after → IsKept new after
kept_with m new lists mid after l v fresh gone own before k o b e f g i j some = record {
  ids = λ q. set_case l (ids_at lists q) (ids_at mid q) (ids_at after q) (has_number q own) (has_number q before) (has_number q fresh) (has_number q gone) (f q) (g q)
      (λ h. with_there l (ids_at lists q) (rises_of m lists k q) (subst (λ xs. Contains xs l) (sym (k.ids q)) ((told q m l).1 (ap (has_number q) (sym b) ∙ h))))
      (λ h. without_missing l (ids_at lists q) (rises_of m lists k q) (lacks m lists k l q (ap (has_number q) (sym b) ∙ h)))
      (i q) (j q)
      ∙ ap (λ xs. cond (has_number q own) (with_local l xs) (without_local l xs)) (k.ids q)
      ∙ ap (λ ns. cond (has_number q ns) (with_local l (locals_with q m)) (without_local l (locals_with q m))) o
      ∙ sym (list_with q m l v) ∙ ap (locals_with q) (sym e);
  some = some;
}

pub kept_again : {Y : Type 0} (m : ValueMap) (lists mid after : BTreeMap ℤ (Vec ℕ Y)) (l : ℕ) (fresh own before : List ℤ) → IsKept m lists → before ≡ numbers_at m l
    → ((q : ℤ) → has_number q fresh ≡ (has_number q own && not (has_number q before)))
    → ((q : ℤ) → ids_at mid q ≡ cond (has_number q fresh) (with_local l (ids_at lists q)) (ids_at lists q)) → ((q : ℤ) → ids_at after q ≡ cond (has_number q fresh) (without_local l (ids_at mid q)) (ids_at mid q))
    → HasNoEmpty after → IsKept m after
kept_again m lists mid after l fresh own before k b f i j some = record {
  ids = λ q. undone l (has_number q fresh) (ids_at lists q) (ids_at mid q) (ids_at after q) (rises_of m lists k q) (lack_of m lists l fresh own before k b f q) (i q) (j q) ∙ k.ids q;
  some = some;
}

pub same_kept : {Y : Type 0} (m : ValueMap) (lists after : BTreeMap ℤ (Vec ℕ Y)) → IsKept m lists → ((q : ℤ) → ids_at after q ≡ ids_at lists q) → HasNoEmpty after → IsKept m after
same_kept m lists after k f some = record { ids = λ q. f q ∙ k.ids q; some = some }
