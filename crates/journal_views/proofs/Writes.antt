-- A node has no more entries than were written.
use Rattle.std.proofs.Common.{◌≡◌, ◌<◌, ◌≤◌, ◌&&◌, ◌||◌, ℕ, Bool, true, false, cond, T, List, [], ◌∷◌, map, length, Option, None, Some, is_some, eqb, inl, inr, refl, sym, ap, ◌∙◌, subst, arith}
use mathlib.Core.Bool.{true≢false}
use Rattle.std.specs.List.{list_any, IsDistinct, AllByRecursion}
use Rattle.std.specs.Map.{lookup}
use Rattle.std.specs.Str.{bytes_eq}
use Rattle.std.specs.Ordering.{eq_by_cmp, is_eq, is_lt}
use Rattle.std.specs.declared.cmp.Ordering.{Ordering}
use Rattle.std.specs.declared.cmp.Ordering.TheVariants.{Less, Equal, Greater}
use Rattle.std.specs.FinMap as fin
use Rattle.std.specs.FinMap.{entries_sorted, len-entries, contains_key-keys, is_sorted}
use Rattle.std.specs.FinMap.Entries.{below_all}
use Rattle.std.proofs.lemmas.Map.Text.{is_eq-slice_cmp}
use Rattle.std.proofs.lemmas.Bool.Decides.{nat_tests}
use Rattle.std.proofs.lemmas.Map.Steps.{length-le_from_keys, length-le_from_distinct_below}
use Rattle.std.proofs.lemmas.Cmp.{nat_list_eq_equiv}
use Rattle.std.proofs.lemmas.Slice.Eq.{bytes_eq-Decides}
use Rattle.documents.specs.declared.entry.Entry.{Entry}
use Rattle.documents.specs.EntryCodes.{id_cmp}
use Rattle.entry_maps.specs.EntryCodes.{Entries}
use Rattle.entry_maps.specs.Entries.{by_id}
use Rattle.lane_journals.specs.Stamps.{Stamp, same_stamp}
use Rattle.lane_journals.specs.Buckets.{Id}
use Rattle.lane_journals.specs.Readers.{wrote}
use Rattle.lane_journals.specs.Meanings.{entry_at, history}
use Rattle.lane_journals.specs.Places.{Setting}
use Rattle.lane_journals.specs.KeptJournals.{IsLegal}
use Rattle.lane_journals.specs.declared.event.LaneEvent.{LaneEvent}
use Rattle.lane_journals.specs.declared.event.LaneEvent.TheVariants.{Wrote}
use Rattle.lane_journals.proofs.Basics.{or_else-cases, only_if-some}
use Rattle.lane_keeping.specs.NodeKeeping.{AreWritten}
use Rattle.journal_views.specs.JournalViews.{written_entries, FindRoom}
use Rattle.journal_views.proofs.Members.{In}

-- ---- keys of a map are apart

first-so : (a b : Bool) → T (a && b) → T a
first-so true b h = tt
first-so false b h = h

second-so : (a b : Bool) → T (a && b) → T b
second-so true b h = h
second-so false b h = absurd h

less-apart : (o : Ordering) → T (is_lt o) → is_eq o ≡ false
less-apart Less p = refl
less-apart Equal p = absurd p
less-apart Greater p = absurd p

abbrev ids_of : List (Id × Entry) → List Id
ids_of es = map (λ e. e.0) es

below-apart : (id : Id) (es : List (Id × Entry)) → T (below_all id_cmp id es) → AllByRecursion (λ y. bytes_eq id y ≡ false) (ids_of es)
below-apart id [] h = tt
below-apart id (e ∷ es) h = (sym (is_eq-slice_cmp id e.0) ∙ less-apart (id_cmp id e.0) (first-so _ _ h), below-apart id es (second-so _ _ h))

sorted-distinct : (es : List (Id × Entry)) → T (is_sorted id_cmp es) → IsDistinct bytes_eq (ids_of es)
unfolding IsDistinct
sorted-distinct [] h = tt
sorted-distinct (e ∷ es) h = (below-apart e.0 es (first-so _ _ h), sorted-distinct es (second-so _ _ h))

-- ---- each is among the written

own-bytes : (id : Id) → bytes_eq id id ≡ true
own-bytes id = (bytes_eq-Decides id id).1 refl

found-more : (id : Id) (x : Entry) (o : Option Entry) → is_some o ≡ true → is_some (cond (bytes_eq id x.id) (Some x) o) ≡ true
found-more id x o h = by_test (bytes_eq id x.id)
  where
    by_test : (t : Bool) → is_some (cond t (Some x) o) ≡ true
    by_test true = refl
    by_test false = h

written-found : (J : List LaneEvent) (s : Stamp) (e : Entry) → entry_at s J ≡ Some e → is_some (lookup (bytes_eq e.id) (by_id (written_entries J))) ≡ true
written-found [] s e h = cc
written-found (Wrote line x ∷ J) s e h = elim (or_else-cases (entry_at s J) _ e h) [
  | inl old ↦ found-more e.id x (lookup (bytes_eq e.id) (by_id (written_entries J))) (written-found J s e old)
  | inr new ↦ (let o = only_if-some (same_stamp x.stamp s) x e new.1 in
      ap (λ t. is_some (cond t (Some x) (lookup (bytes_eq e.id) (by_id (written_entries J))))) (ap (λ (y : Entry). bytes_eq e.id y.id) o.1 ∙ own-bytes e.id))
]
written-found (_ ∷ J) s e h = written-found J s e h

same-tests : (id : Id) → ◌≡◌ {A = Id → Bool} (bytes_eq id) (eq_by_cmp id_cmp id)
same-tests id = λ i y. sym (is_eq-slice_cmp id y) i

written-key : (J : List LaneEvent) (m : Entries) → AreWritten (λ s. entry_at s J) m → (id : Id) → is_some (fin.get m id) ≡ true → is_some (lookup (bytes_eq id) (by_id (written_entries J))) ≡ true
written-key J m w id h = by_get (fin.get m id) refl h
  where
    by_get : (o : Option Entry) → fin.get m id ≡ o → is_some o ≡ true → is_some (lookup (bytes_eq id) (by_id (written_entries J))) ≡ true
    by_get None e g = absurd (true≢false (sym g))
    by_get (Some x) e g = let at = w id x e in subst (λ (i : Id). is_some (lookup (bytes_eq i) (by_id (written_entries J))) ≡ true) at.0 (written-found J x.stamp x at.1)

length-ids : (es : List Entry) → length (by_id es) ≡ length es
length-ids [] = refl
length-ids (e ∷ es) = let ih = length-ids es in omega (arith, ih)

length-keys : (es : List (Id × Entry)) → length (ids_of es) ≡ length es
length-keys [] = refl
length-keys (e ∷ es) = let ih = length-keys es in omega (arith, ih)

pub few-entries : (J : List LaneEvent) (m : Entries) → AreWritten (λ s. entry_at s J) m → fin.len m ≤ length (written_entries J)
few-entries J m w =
    let few : length (ids_of (fin.entries m)) ≤ length (by_id (written_entries J)) = length-le_from_keys nat_list_eq_equiv (ids_of (fin.entries m)) (by_id (written_entries J)) (sorted-distinct (fin.entries m) (entries_sorted m))
    (λ q i. written-key J m w q (contains_key-keys m q ∙ (ap (λ (p : Id → Bool). list_any p (ids_of (fin.entries m))) (sym (same-tests q)) ∙ i))) in
    let a = length-keys (fin.entries m) in let b = length-ids (written_entries J) in let c = len-entries m in
    omega (arith, few, a, b, c)

pub few-written : (J : List LaneEvent) (m : Entries) → AreWritten (λ s. entry_at s J) m → FindRoom J → fin.len m < 4294967295
few-written J m w room = let few = few-entries J m w in omega (arith, few, room)

grows : (J : List LaneEvent) (e : LaneEvent) → length (written_entries J) ≤ length (written_entries (e ∷ J))
grows J (Wrote line x) = omega arith
grows J _ = omega arith

pub room-before : (J : List LaneEvent) (e : LaneEvent) → FindRoom (e ∷ J) → FindRoom J
room-before J e h = let g = grows J e in omega (arith, g, h)

-- ---- each line writes once

writers : List LaneEvent → List ℕ
writers [] = []
writers (Wrote line e ∷ J) = line ∷ writers J
writers (_ ∷ J) = writers J

so-many : (J : List LaneEvent) → length (writers J) ≡ length (written_entries J)
unfolding writers
so-many [] = refl
so-many (Wrote line e ∷ J) = let ih = so-many J in omega (arith, ih)
so-many (_ ∷ J) = so-many J

not_so : (k l : ℕ) (t : Bool) → cond (eqb k l) true t ≡ false → (eqb l k ≡ false) × (t ≡ false)
not_so k l t h = by_test (eqb k l) refl h
  where
    by_test : (u : Bool) → eqb k l ≡ u → cond u true t ≡ false → (eqb l k ≡ false) × (t ≡ false)
    by_test true e g = absurd (true≢false g)
    by_test false e g = (grind (arith, nat_tests), g)

apart-writers : (line : ℕ) (J : List LaneEvent) → wrote line (history J) ≡ false → AllByRecursion (λ y. eqb line y ≡ false) (writers J)
unfolding writers
apart-writers line [] h = tt
apart-writers line (Wrote k e ∷ J) h = let n = not_so k line (wrote line (history J)) h in (n.0, apart-writers line J n.1)
apart-writers line (_ ∷ J) h = apart-writers line J h

distinct-writers : (S : Setting) (J : List LaneEvent) → IsLegal S J → IsDistinct eqb (writers J)
unfolding writers IsDistinct
distinct-writers S [] l = tt
distinct-writers S (Wrote k e ∷ J) l = (apart-writers k J ((l.1).permitted).unwritten, distinct-writers S J l.0)
distinct-writers S (_ ∷ J) l = distinct-writers S J l.0

found-writer : (line : ℕ) (J : List LaneEvent) → list_any (eqb line) (writers J) ≡ true → wrote line (history J) ≡ true
unfolding writers
found-writer line [] h = absurd (true≢false (sym h))
found-writer line (Wrote k e ∷ J) h = by_test (eqb line k) refl h (found-writer line J)
  where
    turned : eqb line k ≡ true → eqb k line ≡ true
    turned e = grind (arith, nat_tests)

    last : (t : Bool) → wrote line (history J) ≡ true → cond t true (wrote line (history J)) ≡ true
    last true g = refl
    last false g = g

    by_test : (t : Bool) → eqb line k ≡ t → (t || list_any (eqb line) (writers J)) ≡ true → (list_any (eqb line) (writers J) ≡ true → wrote line (history J) ≡ true) → cond (eqb k line) true (wrote line (history J)) ≡ true
    by_test true e g ih = ap (λ t. cond t true (wrote line (history J))) (turned e)
    by_test false e g ih = last (eqb k line) (ih g)
found-writer line (_ ∷ J) h = found-writer line J h

pub few-writers : (S : Setting) (J : List LaneEvent) → IsLegal S J → (most : ℕ) → ((line : ℕ) → wrote line (history J) ≡ true → line < most) → length (written_entries J) ≤ most
few-writers S J l most h =
    let few : length (writers J) ≤ most = length-le_from_distinct_below (writers J) most (distinct-writers S J l) (λ q i. h q (found-writer q J i)) in
    let same = so-many J in omega (arith, few, same)

-- ---- what is named was written

pub entry-among : (J : List LaneEvent) (s : Stamp) (e : Entry) → entry_at s J ≡ Some e → In e (written_entries J)
entry-among [] s e h = cc
entry-among (Wrote line x ∷ J) s e h = elim (or_else-cases (entry_at s J) _ e h) [
  | inl old ↦ inr (entry-among J s e old)
  | inr new ↦ inl (only_if-some (same_stamp x.stamp s) x e new.1).1
]
entry-among (_ ∷ J) s e h = entry-among J s e h
