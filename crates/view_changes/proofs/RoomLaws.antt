-- That there is a free place: the documents before it are of different ids that the node's entries have.
use Rattle.std.proofs.Common.{◌≡◌, ℕ, ◌<◌, ◌≤◌, ◌||◌, Bool, true, false, cond, nat_lt, List, [], ◌∷◌, length, Option, None, Some, is_some, refl, sym, ap, subst, ◌∙◌, arith}
use mathlib.Core.Bool.{true≢false}
use Rattle.std.specs.List.{list_any, IsDistinct, AllByRecursion}
use Rattle.std.specs.Option.{IsSome}
use Rattle.std.specs.Map.{lookup}
use Rattle.std.specs.Str.{bytes_eq}
use Rattle.std.specs.FinMap as fin
use Rattle.std.specs.FinMap.{get-entries, len-entries}
use Rattle.std.specs.Cmp.{IsEquivalence}
use Rattle.std.proofs.lemmas.Bool.Decides.{nat_tests}
use Rattle.std.proofs.lemmas.Map.Text.{is_eq-slice_cmp}
use Rattle.std.proofs.lemmas.Map.Steps.{length-le_from_keys}
use Rattle.std.proofs.lemmas.Cmp.{nat_list_eq_equiv}
use Rattle.documents.specs.Fields.{Contents}
use Rattle.doc_types.specs.SchemaCodes.{Types}
use Rattle.documents.specs.declared.entry.Entry.{Entry}
use Rattle.entry_maps.specs.EntryCodes.{Entries}
use Rattle.documents.specs.EntryCodes.{id_cmp}
use Rattle.document_rows.specs.Rows.{Rows, has_row, free_place, put_free, replaced, without, fitted, with_document, after_body, taken_into, AreDistinct}
use Rattle.view_changes.specs.Shown.{HasRoom}
use Rattle.view_changes.specs.Deeds.{RoomAlong}
use Rattle.document_rows.proofs.RowLaws.{same_id, own_id, as_other, has-replaced, has-without, has-put, distinct-replaced, distinct-without, distinct-put}
use Rattle.view_changes.specs.Room.{AllAt, AllHave}

-- the ids before the first free place
abbrev pub leading : Rows → List (List ℕ)
leading [] = []
leading (None ∷ rows) = []
leading (Some d ∷ rows) = d.id ∷ leading rows

leading-length : (rows : Rows) → length (leading rows) ≡ free_place rows
leading-length [] = refl
leading-length (None ∷ rows) = refl
leading-length (Some d ∷ rows) = let ih = leading-length rows in omega arith

leading-there : (q : List ℕ) (rows : Rows) → list_any (bytes_eq q) (leading rows) ≡ true → has_row q rows ≡ true
leading-there q [] h = h
leading-there q (None ∷ rows) h = absurd (true≢false (sym h))
leading-there q (Some d ∷ rows) h = by_tests (bytes_eq q d.id) (bytes_eq d.id q) refl refl h (leading-there q rows)
  where
    by_tests : (t u : Bool) → bytes_eq q d.id ≡ t → bytes_eq d.id q ≡ u → (t || list_any (bytes_eq q) (leading rows)) ≡ true → (list_any (bytes_eq q) (leading rows) ≡ true → has_row q rows ≡ true) → (u || has_row q rows) ≡ true
    by_tests t true a b k ih = refl
    by_tests true false a b k ih = absurd (true≢false (sym (own_id q) ∙ (ap (λ (x : List ℕ). bytes_eq x q) (same_id q d.id a) ∙ b)))
    by_tests false false a b k ih = ih k

apart-leading : (id : List ℕ) (rows : Rows) → has_row id rows ≡ false → AllByRecursion (λ y. bytes_eq id y ≡ false) (leading rows)
apart-leading id [] h = tt
apart-leading id (None ∷ rows) h = tt
apart-leading id (Some d ∷ rows) h = by_tests (bytes_eq d.id id) (bytes_eq id d.id) refl refl h (apart-leading id rows)
  where
    by_tests : (t u : Bool) → bytes_eq d.id id ≡ t → bytes_eq id d.id ≡ u → (t || has_row id rows) ≡ false → (has_row id rows ≡ false → AllByRecursion (λ y. bytes_eq id y ≡ false) (leading rows))
        → (bytes_eq id d.id ≡ false) × AllByRecursion (λ y. bytes_eq id y ≡ false) (leading rows)
    by_tests true u a b k ih = absurd (true≢false k)
    by_tests false true a b k ih = absurd (true≢false (sym (own_id id) ∙ (ap (λ (x : List ℕ). bytes_eq x id) (same_id id d.id b) ∙ a)))
    by_tests false false a b k ih = (b, ih k)

leading-distinct : (rows : Rows) → AreDistinct rows → IsDistinct bytes_eq (leading rows)
unfolding IsDistinct
leading-distinct [] d = tt
leading-distinct (None ∷ rows) d = tt
leading-distinct (Some e ∷ rows) d = (apart-leading e.id rows d.0, leading-distinct rows d.1)

same-find : (q : List ℕ) (es : List (List ℕ × Entry)) → lookup (bytes_eq q) es ≡ fin.find id_cmp q es
same-find q [] = refl
same-find q (e ∷ es) = ap (λ o. cond (bytes_eq q e.0) (Some e.1) o) (same-find q es) ∙ ap (λ t. cond t (Some e.1) (fin.find id_cmp q es)) (sym (is_eq-slice_cmp q e.0))

-- fewer documents than entries, so a place is free
pub place-low : (laws : IsEquivalence bytes_eq) (m : Entries) (rows : Rows) → AreDistinct rows → AllHave m rows → free_place rows ≤ fin.len m
place-low laws m rows d h =
    let few : length (leading rows) ≤ length (fin.entries m) = length-le_from_keys laws (leading rows) (fin.entries m) (leading-distinct rows d)
    (λ q i. subst IsSome (sym (same-find q (fin.entries m) ∙ sym (get-entries m q))) (h q (leading-there q rows i))) in
    omega (arith, few, leading-length rows, len-entries m)

pub has-room : (laws : IsEquivalence bytes_eq) (m : Entries) (rows : Rows) → AreDistinct rows → AllHave m rows → fin.len m < 4294967295 → HasRoom rows
has-room laws m rows d h few = let low = place-low laws m rows d h in grind (arith, nat_tests)

-- ---- as entries come

none-after : (types : Types) (id : List ℕ) (body : Option Contents) (q : List ℕ) (rows : Rows) → bytes_eq id q ≡ false → has_row q rows ≡ false → has_row q (after_body types id body rows) ≡ false
none-after types id None q rows w h = has-without id q rows h
none-after types id (Some d) q rows w h = by_id (bytes_eq d.id id) refl
  where
    by_row : (t u : Bool) → bytes_eq d.id q ≡ false → has_row q (cond t (replaced (fitted types d) rows) (cond u (put_free (fitted types d) rows) rows)) ≡ false
    by_row true u e = has-replaced (fitted types d) q rows ∙ h
    by_row false true e = has-put (fitted types d) q rows e h
    by_row false false e = h

    by_id : (t : Bool) → bytes_eq d.id id ≡ t → has_row q (cond t (with_document (fitted types d) rows) (without id rows)) ≡ false
    by_id true e = by_row (has_row d.id rows) (nat_lt (free_place rows) 4294967295) (as_other d.id id q e ∙ w)
    by_id false e = has-without id q rows h

have-after : (types : Types) (m : Entries) (e : Entry) (rows : Rows) → is_some (fin.get m e.id) ≡ true → AllHave m rows → AllHave m (taken_into types rows e)
have-after types m e rows k h q there = by_some (is_some (fin.get m q)) refl
  where
    by_some : (t : Bool) → is_some (fin.get m q) ≡ t → t ≡ true
    by_some true a = refl
    by_some false a = absurd (by_tests (has_row q rows) (bytes_eq e.id q) refl refl)
      where
        by_tests : (t u : Bool) → has_row q rows ≡ t → bytes_eq e.id q ≡ u → ⊥
        by_tests true u b c = true≢false (sym (h q b) ∙ a)
        by_tests false true b c = true≢false (sym k ∙ (ap (λ (x : List ℕ). is_some (fin.get m x)) (same_id e.id q c) ∙ a))
        by_tests false false b c = true≢false (sym there ∙ none-after types e.id e.body q rows c b)

distinct-after : (types : Types) (id : List ℕ) (body : Option Contents) (rows : Rows) → AreDistinct rows → AreDistinct (after_body types id body rows)
distinct-after types id None rows d = distinct-without id rows d
distinct-after types id (Some e) rows d = by_id (bytes_eq e.id id)
  where
    by_row : (t u : Bool) → has_row e.id rows ≡ t → AreDistinct (cond t (replaced (fitted types e) rows) (cond u (put_free (fitted types e) rows) rows))
    by_row true u a = distinct-replaced (fitted types e) rows d
    by_row false true a = distinct-put (fitted types e) rows a d
    by_row false false a = d

    by_id : (t : Bool) → AreDistinct (cond t (with_document (fitted types e) rows) (without id rows))
    by_id true = by_row (has_row e.id rows) (nat_lt (free_place rows) 4294967295) refl
    by_id false = distinct-without id rows d

-- entries of a map that has all documents so far find places
pub room-along : (laws : IsEquivalence bytes_eq) (types : Types) (m : Entries) (es : List Entry) → AllAt m es → fin.len m < 4294967295 → (rows : Rows) → AreDistinct rows → AllHave m rows → RoomAlong types es rows
room-along laws types m [] at few rows d h = tt
room-along laws types m (e ∷ es) at few rows d h =
    (has-room laws m rows d h few, room-along laws types m es at.1 few (taken_into types rows e) (distinct-after types e.id e.body rows d) (have-after types m e rows (ap is_some at.0) h))

pub same_ids : IsEquivalence bytes_eq
same_ids = nat_list_eq_equiv
