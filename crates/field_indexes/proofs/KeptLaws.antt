-- The words that are kept stay those of the values.
use Rattle.std.proofs.Common.{◌≡◌, ◌≢◌, ℕ, ◌==◌, Bool, true, false, cond, List, [], refl, sym, ap, ap₂, subst, ◌∙◌, arith, Option, Some, None, option_map}
use Rattle.std.specs.List.{Contains}
use Rattle.std.specs.Option.{option_map_or, unwrap_or}
use Rattle.std.specs.Ordering.{nat_cmp}
use Rattle.std.specs.Cmp.Lexicographic.{slice_cmp}
use Rattle.std.specs.FinMap as fin
use Rattle.std.specs.FinMap.{get-empty, same_map, nat_cmp-IsAntisymmetric}
use Rattle.std.proofs.lemmas.Cmp.{nat_cmp_total}
use Rattle.std.proofs.lemmas.Bool.Decides.{nat_tests}
use Rattle.proof_basics.proofs.Numbers.{same-nat}
use Rattle.doc_types.specs.declared.values.FieldValue.{FieldValue}
use Rattle.local_ids.specs.Rising.{IsRising, with_local, without_local, moved_local}
use Rattle.local_ids.specs.Places.{moved}
use Rattle.local_ids.proofs.KeyLaws.{get_with, get_without}
use Rattle.local_ids.proofs.MoveLaws.{get_moved, moved_missing}
use Rattle.attribute_columns.specs.Columns.{ValueMap, Held, with_value, without_value}
use Rattle.word_index.specs.Index.{Index, list_of}
use Rattle.field_indexes.specs.Words.{words_in, has_word, value_has_word, locals_having}
use Rattle.field_indexes.specs.Kept.{WordMap, AreWords}
use Rattle.field_indexes.proofs.WordLaws.{without_missing}
use Rattle.field_indexes.proofs.TestLaws.{passes, rising_by, lacks_by, none_by, by_with, by_without, by_moved}

pub words_new : AreWords fin.empty fin.empty fin.empty
words_new = record {
  kept_is = λ n. get-empty nat_cmp n ∙ sym (ap (option_map words_in) (get-empty nat_cmp n));
  lists = λ w. ap (λ o. unwrap_or o []) (get-empty (slice_cmp nat_cmp) w) ∙ none_by (value_has_word w);
}

pub rises_of : (m : ValueMap) (kept : WordMap) (words : Index) → AreWords m kept words → (w : List ℕ) → IsRising (list_of w words)
rises_of m kept words k w = subst IsRising (sym (k.lists w)) (rising_by (value_has_word w) m)

-- the words of a document
abbrev pub own_words : WordMap → ℕ → List (List ℕ)
own_words kept n = option_map_or (λ words. words) (fin.get kept n) []

pub own_after : (kept : WordMap) (n : ℕ) (own : List (List ℕ)) → own_words (fin.insert kept n own) n ≡ own
own_after kept n own = ap (λ o. option_map_or (λ words. words) o []) (get_with kept n own n ∙ ap (λ t. cond t (Some own) (fin.get kept n)) (same-nat n))

own_test : (m : ValueMap) (kept : WordMap) (words : Index) → AreWords m kept words → (w : List ℕ) (n : ℕ) → has_word w (own_words kept n) ≡ passes (value_has_word w) m n
own_test m kept words k w n = ap (λ o. has_word w (option_map_or (λ words. words) o [])) (k.kept_is n) ∙ by_value (fin.get m n)
  where
    by_value : (o : Option FieldValue) → has_word w (option_map_or (λ words. words) (option_map words_in o) []) ≡ option_map_or (value_has_word w) o false
    by_value None = refl
    by_value (Some v) = refl

-- a list lacks a document that hasn't its word
lacks : (m : ValueMap) (kept : WordMap) (words : Index) → AreWords m kept words → (w : List ℕ) (n : ℕ) → has_word w (own_words kept n) ≡ false → Contains (list_of w words) n → ⊥
lacks m kept words k w n e h = lacks_by (value_has_word w) m n (sym (own_test m kept words k w n) ∙ e) (subst (λ xs. Contains xs n) (k.lists w) h)

pub lack_of : (m : ValueMap) (kept : WordMap) (words : Index) → AreWords m kept words → (n : ℕ) → fin.get m n ≡ None → (w : List ℕ) → Contains (list_of w words) n → ⊥
lack_of m kept words k n free w h = lacks_by (value_has_word w) m n (ap (λ o. option_map_or (value_has_word w) o false) free) (subst (λ xs. Contains xs n) (k.lists w) h)

pub kept_free : (m : ValueMap) (kept : WordMap) (words : Index) → AreWords m kept words → (n : ℕ) → fin.get m n ≡ None → fin.get kept n ≡ None
kept_free m kept words k n free = k.kept_is n ∙ ap (option_map words_in) free

pub words_with : (m new : ValueMap) (kept kept' : WordMap) (words words' : Index) (l : ℕ) (v : FieldValue) (own : List (List ℕ)) → AreWords m kept words → fin.get m l ≡ None → own ≡ words_in v
    → new ≡ fin.insert m l v → kept' ≡ fin.insert kept l own
    → ((w : List ℕ) → list_of w words' ≡ cond (has_word w own) (with_local l (list_of w words)) (list_of w words)) → AreWords new kept' words'
words_with m new kept kept' words words' l v own k free o e f g = record {
  kept_is = λ n. ap (λ x. fin.get x n) f ∙ get_with kept l own n ∙ by_test n (n == l) ∙ sym (ap (option_map words_in) (ap (λ x. fin.get x n) e ∙ get_with m l v n));
  lists = λ w. g w ∙ ap (λ ids. cond (has_word w own) (with_local l ids) ids) (k.lists w)
      ∙ ap (λ words. cond (has_word w words) (with_local l (locals_having w m)) (locals_having w m)) o
      ∙ sym (by_with (value_has_word w) m l v free) ∙ ap (locals_having w) (sym e);
}
  where
    by_test : (n : ℕ) (t : Bool) → cond t (Some own) (fin.get kept n) ≡ option_map words_in (cond t (Some v) (fin.get m n))
    by_test n true = ap Some o
    by_test n false = k.kept_is n

pub words_without : (m new : ValueMap) (kept kept' : WordMap) (words words' : Index) (l : ℕ) (own : List (List ℕ)) → AreWords m kept words → own ≡ own_words kept l
    → new ≡ fin.remove m l → kept' ≡ fin.remove kept l
    → ((w : List ℕ) → list_of w words' ≡ cond (has_word w own) (without_local l (list_of w words)) (list_of w words)) → AreWords new kept' words'
words_without m new kept kept' words words' l own k o e f g = record {
  kept_is = λ n. ap (λ x. fin.get x n) f ∙ get_without kept l n ∙ by_test n (n == l) ∙ sym (ap (option_map words_in) (ap (λ x. fin.get x n) e ∙ get_without m l n));
  lists = λ w. g w ∙ by_word w (has_word w own) refl ∙ ap (without_local l) (k.lists w) ∙ sym (by_without (value_has_word w) m l) ∙ ap (locals_having w) (sym e);
}
  where
    by_test : (n : ℕ) (t : Bool) → cond t None (fin.get kept n) ≡ option_map words_in (cond t None (fin.get m n))
    by_test n true = refl
    by_test n false = k.kept_is n

    by_word : (w : List ℕ) (t : Bool) → has_word w own ≡ t → cond t (without_local l (list_of w words)) (list_of w words) ≡ without_local l (list_of w words)
    by_word w true h = refl
    by_word w false h = sym (without_missing l (list_of w words) (rises_of m kept words k w) (lacks m kept words k w l (ap (has_word w) (sym o) ∙ h)))

pub words_moved : (m new : ValueMap) (kept kept' : WordMap) (words words' : Index) (x z : ℕ) (own : List (List ℕ)) → AreWords m kept words → fin.get m z ≡ None → z ≢ x → own ≡ own_words kept x
    → new ≡ moved x z m → kept' ≡ moved x z kept
    → ((w : List ℕ) → list_of w words' ≡ cond (has_word w own) (moved_local x z (list_of w words)) (list_of w words)) → AreWords new kept' words'
words_moved m new kept kept' words words' x z own k free other o e f g = record {
  kept_is = λ n. ap (λ y. fin.get y n) f ∙ get_moved kept x z n (kept_free m kept words k z free) other ∙ by_test n (n == z) (n == x) ∙ sym (ap (option_map words_in) (ap (λ y. fin.get y n) e ∙ get_moved m x z n free other));
  lists = λ w. g w ∙ by_word w (has_word w own) refl ∙ ap (moved_local x z) (k.lists w) ∙ sym (by_moved (value_has_word w) m x z free other) ∙ ap (locals_having w) (sym e);
}
  where
    by_test : (n : ℕ) (t u : Bool) → cond t (fin.get kept x) (cond u None (fin.get kept n)) ≡ option_map words_in (cond t (fin.get m x) (cond u None (fin.get m n)))
    by_test n true u = k.kept_is x
    by_test n false true = refl
    by_test n false false = k.kept_is n

    by_word : (w : List ℕ) (t : Bool) → has_word w own ≡ t → cond t (moved_local x z (list_of w words)) (list_of w words) ≡ moved_local x z (list_of w words)
    by_word w true h = refl
    by_word w false h = sym (moved_missing x z (list_of w words) (lacks m kept words k w x (ap (has_word w) (sym o) ∙ h)))

pub words_again : (m new : ValueMap) (kept kept' : WordMap) (words words' : Index) → AreWords m kept words → new ≡ m → kept' ≡ kept → ((w : List ℕ) → list_of w words' ≡ list_of w words) → AreWords new kept' words'
words_again m new kept kept' words words' k e f g = record {
  kept_is = λ n. ap (λ x. fin.get x n) f ∙ k.kept_is n ∙ ap (λ x. option_map words_in (fin.get x n)) (sym e);
  lists = λ w. g w ∙ k.lists w ∙ ap (locals_having w) (sym e);
}

-- a place that was free is so again
pub put_back : {X : Type 0} (m : fin.FinMap nat_cmp X) (n : ℕ) (v : X) → fin.get m n ≡ None → fin.remove (fin.insert m n v) n ≡ m
put_back {X} m n v free = same_map nat_cmp_total nat_cmp-IsAntisymmetric _ _ (λ q. get_without (fin.insert m n v) n q ∙ ap (cond (q == n) None) (get_with m n v q) ∙ by_test q (q == n) refl)
  where
    by_test : (q : ℕ) (t : Bool) → (q == n) ≡ t → cond t None (cond t (Some v) (fin.get m q)) ≡ fin.get m q
    by_test q true e = sym free ∙ ap (fin.get m) (sym (let same : q ≡ n = grind (arith, nat_tests) in same))
    by_test q false e = refl

pub column_back : (h : Held) (n : ℕ) (v : FieldValue) → fin.get h.values n ≡ None → without_value n (with_value n v h) ≡ h
column_back h n v free = ap (λ (values : ValueMap). record { kind = h.kind; values = values }) (put_back h.values n v free)
