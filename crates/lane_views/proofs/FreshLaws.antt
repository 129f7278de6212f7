-- That the entries which come with a bucket are of documents that the node lacked.
use Rattle.std.proofs.Common.{◌≡◌, ℕ, Bool, true, false, cond, not, ◌&&◌, ◌||◌, List, [], ◌∷◌, None, Some, refl, sym, ap, subst, ◌∙◌}
use mathlib.Core.Bool.{true≢false}
use Rattle.std.specs.List.{AllByRecursion, filter}
use Rattle.std.specs.Str.{bytes_eq}
use Rattle.bucket_ids.specs.Buckets.{Low, has_key}
use Rattle.global_ids.specs.Keys.{key_of}
use Rattle.documents.specs.declared.entry.Entry.{Entry}
use Rattle.entry_maps.specs.EntryCodes.{Entries}
use Rattle.document_rows.specs.Rows.{Rows, has_row}
use Rattle.document_rows.proofs.RowLaws.{same_id}
use Rattle.node_rows.specs.TypedRows.{AreNew}
use Rattle.view_changes.specs.Views.{in_regions, is_fresh, listed}
use Rattle.view_changes.specs.Kept.{AreInside}
use Rattle.view_changes.specs.EntryOrder.{AreApart}

-- a document outside the regions isn't there
outside-none : (rs : List Low) (id : List ℕ) (rows : Rows) → AreInside rs rows → in_regions rs (key_of id) ≡ false → has_row id rows ≡ false
outside-none rs id [] h out = refl
outside-none rs id (None ∷ rows) h out = outside-none rs id rows h out
outside-none rs id (Some d ∷ rows) h out = by_test (bytes_eq d.id id) refl (outside-none rs id rows h.1 out)
  where
    by_test : (t : Bool) → bytes_eq d.id id ≡ t → has_row id rows ≡ false → (t || has_row id rows) ≡ false
    by_test true is ih = absurd (true≢false (sym h.0 ∙ ap (λ (x : List ℕ). in_regions rs (key_of x)) (same_id d.id id is) ∙ out))
    by_test false is ih = ih

abbrev AreOutside : List Low → List Entry → Type 0
AreOutside rs es = AllByRecursion (λ (e : Entry). in_regions rs (key_of e.id) ≡ false) es

second : (a b : Bool) → (a && not b) ≡ true → b ≡ false
second true true h = absurd (true≢false (sym h))
second true false h = refl
second false b h = absurd (true≢false (sym h))

fresh-outside : (b : Low) (rs : List Low) (es : List Entry) → AreOutside rs (filter (is_fresh b rs) es)
fresh-outside b rs [] = tt
fresh-outside b rs (e ∷ es) = by_test (is_fresh b rs e) refl (fresh-outside b rs es)
  where
    by_test : (t : Bool) → is_fresh b rs e ≡ t → AreOutside rs (filter (is_fresh b rs) es) → AreOutside rs (cond t (e ∷ filter (is_fresh b rs) es) (filter (is_fresh b rs) es))
    by_test true is ih = (second (has_key b (key_of e.id)) (in_regions rs (key_of e.id)) is, ih)
    by_test false is ih = ih

new-outside : (rs : List Low) (rows : Rows) (es : List Entry) → AreInside rs rows → AreOutside rs es → AreApart es → AreNew rows es
new-outside rs rows [] i out apart = tt
new-outside rs rows (e ∷ es) i out apart = (outside-none rs e.id rows i out.0, apart.0, new-outside rs rows es i out.1 apart.1)

pub fresh-new : (b : Low) (rs : List Low) (rows : Rows) (es : List Entry) → AreInside rs rows → AreApart (filter (is_fresh b rs) es) → AreNew rows (filter (is_fresh b rs) es)
fresh-new b rs rows es i apart = new-outside rs rows (filter (is_fresh b rs) es) i (fresh-outside b rs es) apart

-- the same of lists as code has them
pub fresh-made : (b : Low) (rs given : List Low) (rows : Rows) (m : Entries) (list lent : List Entry) → given ≡ rs → AreInside rs rows
    → list ≡ filter (is_fresh b given) (listed m) → AreApart list → lent ≡ list → AreNew rows lent
fresh-made b rs given rows m list lent same inside is apart lent_is =
    let all : list ≡ filter (is_fresh b rs) (listed m) = is ∙ ap (λ (xs : List Low). filter (is_fresh b xs) (listed m)) same in
    subst (AreNew rows) (sym (lent_is ∙ all)) (fresh-new b rs rows (listed m) inside (subst AreApart all apart))
