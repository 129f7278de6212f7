-- That a bucket becomes ready: its documents that weren't come to free places, and nothing else changes.
use Rattle.std.proofs.Common.{◌≡◌, ℕ, zero, suc, ◌<◌, Bool, true, false, cond, nat_lt, not, ◌||◌, ◌&&◌, List, [], ◌∷◌, filter, Option, None, Some, is_some, Result, Ok, Err, OnOk, OnErr, refl, sym, ap, ap₂, subst, ◌∙◌}
use mathlib.Core.Bool.{true≢false}
use Rattle.std.specs.Str.{bytes_eq}
use Rattle.std.specs.FinMap as fin
use Rattle.bucket_ids.specs.Buckets.{Low}
use Rattle.doc_types.specs.SchemaCodes.{Types}
use Rattle.documents.specs.Fields.{Contents}
use Rattle.documents.specs.declared.entry.Entry.{Entry}
use Rattle.entry_maps.specs.EntryCodes.{Entries}
use Rattle.entry_maps.specs.Entries.{in_bucket, by_id, AreSingle}
use Rattle.entry_maps.proofs.SlotLists.{same_id, same_id-is}
use Rattle.document_rows.specs.Rows.{Rows, is_of, has_row, has_entry, document_of, fitted, free_place, put_free, replaced, without, with_document, after_body, taken_into, AreDistinct}
use Rattle.document_rows.specs.Reading.{row_at}
use Rattle.document_rows.proofs.RowLaws.{same_id as same_text}
use Rattle.node_rows.specs.TypedRows.{TypedRows, with_rows, AreNew, all_taken}
use Rattle.view_changes.specs.Shown.{HasRoom, shown, body_shown}
use Rattle.view_changes.specs.Room.{AllAt}
use Rattle.view_changes.specs.Deeds.{RoomAlong}
use Rattle.view_changes.proofs.ShownLaws.{body-is, turned}
use Rattle.sub_databases.specs.Parts.{Parts, AreParts, AreShown, entry_place, body_place}
use Rattle.sub_databases.specs.Changes.{with_both, is_waiting, made_ready, MakesReady}
use Rattle.value_lists.specs.declared.no_memory.NoMemory.{NoMemory}
use Rattle.sub_databases.proofs.RowSteps.{not_one, has_some, shown_is}
use Rattle.sub_databases.proofs.ListLaws.{found, other_id, own_entry, none_found, found_within, list_at}
use Rattle.sub_databases.proofs.PartLaws.{FindRoom, parts_of, all_have}

first : (a b : Bool) → a && b ≡ true → a ≡ true
first true b k = refl
first false b k = k

second : (a b : Bool) → a && not b ≡ true → b ≡ false
second true true k = absurd (true≢false (sym k))
second true false k = refl
second false b k = absurd (true≢false (sym k))

-- ---- those of them that wait

module _ (rows : Rows) where
  waiting_at : (m : Entries) (es : List Entry) → AllAt m es → AllAt m (filter (is_waiting rows) es)
  waiting_at m [] h = tt
  waiting_at m (e ∷ es) h = by_test (is_waiting rows e) (waiting_at m es h.1)
    where
      by_test : (t : Bool) → AllAt m (filter (is_waiting rows) es) → AllAt m (cond t (e ∷ filter (is_waiting rows) es) (filter (is_waiting rows) es))
      by_test true ih = (h.0, ih)
      by_test false ih = ih

  none_waiting : (q : List ℕ) (es : List Entry) → has_entry q es ≡ false → has_entry q (filter (is_waiting rows) es) ≡ false
  none_waiting q [] h = refl
  none_waiting q (e ∷ es) h = by_tests (is_waiting rows e) (bytes_eq e.id q) refl h (none_waiting q es)
    where
      by_tests : (w t : Bool) → bytes_eq e.id q ≡ t → (t || has_entry q es) ≡ false → (has_entry q es ≡ false → has_entry q (filter (is_waiting rows) es) ≡ false)
          → has_entry q (cond w (e ∷ filter (is_waiting rows) es) (filter (is_waiting rows) es)) ≡ false
      by_tests w true is k ih = absurd (true≢false k)
      by_tests true false is k ih = ap₂ (λ a b. a || b) is (ih k)
      by_tests false false is k ih = ih k

  waiting_new : (es : List Entry) → AreSingle (by_id es) → AreNew rows (filter (is_waiting rows) es)
  waiting_new [] single = tt
  waiting_new (e ∷ es) single = by_test (is_waiting rows e) refl (waiting_new es single.1)
    where
      by_test : (t : Bool) → is_waiting rows e ≡ t → AreNew rows (filter (is_waiting rows) es) → AreNew rows (cond t (e ∷ filter (is_waiting rows) es) (filter (is_waiting rows) es))
      by_test true is ih = (second (is_of e.id e.body) (has_row e.id rows) is, none_waiting e.id es (none_found e.id es single.0), ih)
      by_test false is ih = ih

  -- whether a document's entry waits
  abbrev waits : List ℕ → Option Entry → Bool
  waits q None = false
  waits q (Some e) = is_of q e.body && not (has_row q rows)

  waiting_is : (q : List ℕ) (es : List Entry) → AreSingle (by_id es) → has_entry q (filter (is_waiting rows) es) ≡ waits q (found q es)
  waiting_is q [] single = refl
  waiting_is q (e ∷ es) single = by_tests (same_id q e.id) (is_waiting rows e) refl refl (waiting_is q es single.1)
    where
      by_tests : (t w : Bool) → same_id q e.id ≡ t → is_waiting rows e ≡ w → has_entry q (filter (is_waiting rows) es) ≡ waits q (found q es)
          → has_entry q (cond w (e ∷ filter (is_waiting rows) es) (filter (is_waiting rows) es)) ≡ waits q (cond t (Some e) (found q es))
      by_tests true true same is ih =
          ap (λ a. a || has_entry q (filter (is_waiting rows) es)) (own_entry q e same)
          ∙ sym (ap (λ i. is_of i e.body && not (has_row i rows)) (same_id-is q e.id same) ∙ is)
      by_tests true false same is ih =
          none_waiting q es (none_found q es (ap (λ i. found i es) (same_id-is q e.id same) ∙ single.0))
          ∙ sym (ap (λ i. is_of i e.body && not (has_row i rows)) (same_id-is q e.id same) ∙ is)
      by_tests false true other is ih = ap (λ a. a || has_entry q (filter (is_waiting rows) es)) (other_id q e other) ∙ ih
      by_tests false false other is ih = ih

-- each has a document of its id
abbrev AreWhole : List Entry → Type 0
AreWhole [] = Unit {0}
AreWhole (e ∷ es) = (is_of e.id e.body ≡ true) × AreWhole es

waiting_whole : (rows : Rows) (es : List Entry) → AreWhole (filter (is_waiting rows) es)
waiting_whole rows [] = tt
waiting_whole rows (e ∷ es) = by_test (is_waiting rows e) refl (waiting_whole rows es)
  where
    by_test : (t : Bool) → is_waiting rows e ≡ t → AreWhole (filter (is_waiting rows) es) → AreWhole (cond t (e ∷ filter (is_waiting rows) es) (filter (is_waiting rows) es))
    by_test true is ih = (first (is_of e.id e.body) (not (has_row e.id rows)) is, ih)
    by_test false is ih = ih

-- ---- one document more

has_taken : (types : Types) (e : Entry) (q : List ℕ) (rows : Rows) → HasRoom rows → is_of e.id e.body ≡ true → has_row q (taken_into types rows e) ≡ (bytes_eq e.id q || has_row q rows)
has_taken types e q rows room whole =
    has_some q (taken_into types rows e) ∙ (ap is_some (body-is types e.id e.body q rows room) ∙ by_test (bytes_eq e.id q))
  where
    by_test : (t : Bool) → is_some (cond t (body_shown types e.id e.body) (document_of q rows)) ≡ (t || has_row q rows)
    by_test true = shown_is types e.id e.body ∙ whole
    by_test false = sym (has_some q rows)

shown_taken : (types : Types) (m : Entries) (e : Entry) (rows : Rows) → HasRoom rows → fin.get m e.id ≡ Some e → AreShown types m rows → AreShown types m (taken_into types rows e)
shown_taken types m e rows room at shows q d is = by_test (bytes_eq e.id q) refl (sym (body-is types e.id e.body q rows room) ∙ is)
  where
    by_test : (t : Bool) → bytes_eq e.id q ≡ t → cond t (body_shown types e.id e.body) (document_of q rows) ≡ Some d → shown types q (fin.get m q) ≡ Some d
    by_test true same k = subst (λ i. shown types i (fin.get m i) ≡ Some d) (same_text e.id q same) (ap (shown types e.id) at ∙ k)
    by_test false other k = shows q d k

put_keeps : (y : Contents) (rows : Rows) (n : ℕ) (d : Contents) → row_at rows n ≡ Some d → row_at (put_free y rows) n ≡ Some d
put_keeps y [] n d is = absurd (not_one d is)
put_keeps y (None ∷ rows) zero d is = absurd (not_one d is)
put_keeps y (None ∷ rows) (suc n) d is = is
put_keeps y (Some e ∷ rows) zero d is = is
put_keeps y (Some e ∷ rows) (suc n) d is = put_keeps y rows n d is

taken_keeps : (types : Types) (e : Entry) (rows : Rows) → is_of e.id e.body ≡ true → has_row e.id rows ≡ false → (n : ℕ) (d : Contents) → row_at rows n ≡ Some d → row_at (taken_into types rows e) n ≡ Some d
taken_keeps types e rows whole new n d is = by_body e.body whole
  where
    by_room : (x : Contents) (t : Bool) → row_at (cond t (put_free (fitted types x) rows) rows) n ≡ Some d
    by_room x true = put_keeps (fitted types x) rows n d is
    by_room x false = is

    by_row : (x : Contents) (t : Bool) → t ≡ false → row_at (cond t (replaced (fitted types x) rows) (cond (nat_lt (free_place rows) 4294967295) (put_free (fitted types x) rows) rows)) n ≡ Some d
    by_row x true k = absurd (true≢false k)
    by_row x false k = by_room x (nat_lt (free_place rows) 4294967295)

    by_id : (x : Contents) (t : Bool) → bytes_eq x.id e.id ≡ t → t ≡ true → row_at (cond t (with_document (fitted types x) rows) (without e.id rows)) n ≡ Some d
    by_id x true same k = by_row x (has_row x.id rows) (ap (λ i. has_row i rows) (same_text x.id e.id same) ∙ new)
    by_id x false same k = absurd (true≢false (sym k))

    by_body : (o : Option Contents) → is_of e.id o ≡ true → row_at (after_body types e.id o rows) n ≡ Some d
    by_body None k = absurd (true≢false (sym k))
    by_body (Some x) k = by_id x (bytes_eq x.id e.id) refl k

-- those behind are new still
new_after : (types : Types) (e : Entry) (rows : Rows) → HasRoom rows → is_of e.id e.body ≡ true → (es : List Entry) → has_entry e.id es ≡ false → AreNew rows es → AreNew (taken_into types rows e) es
new_after types e rows room whole [] other new = tt
new_after types e rows room whole (x ∷ es) other new = by_test (bytes_eq x.id e.id) refl other (new_after types e rows room whole es)
  where
    by_test : (t : Bool) → bytes_eq x.id e.id ≡ t → (t || has_entry e.id es) ≡ false → (has_entry e.id es ≡ false → AreNew rows es → AreNew (taken_into types rows e) es) → AreNew (taken_into types rows e) (x ∷ es)
    by_test true is k ih = absurd (true≢false k)
    by_test false is k ih = (has_taken types e x.id rows room whole ∙ ap₂ (λ a b. a || b) (turned e.id x.id ∙ is) new.0, new.1, ih k new.2)

-- ---- all of them

record IsFilled (types : Types) (m : Entries) (es : List Entry) (rows filled : Rows) : Type 0 where
  shown : AreShown types m filled
  has : (q : List ℕ) → has_row q filled ≡ (has_entry q es || has_row q rows)
  kept : (n : ℕ) (d : Contents) → row_at rows n ≡ Some d → row_at filled n ≡ Some d

swapped : (a b c : Bool) → (a || (b || c)) ≡ ((b || a) || c)
swapped true true c = refl
swapped true false c = refl
swapped false true c = refl
swapped false false c = refl

fills : (types : Types) (m : Entries) (es : List Entry) (rows : Rows) → AllAt m es → AreWhole es → RoomAlong types es rows → AreNew rows es → AreShown types m rows → IsFilled types m es rows (all_taken types es rows)
fills types m [] rows at whole room new shows = record { shown = shows; has = λ q. refl; kept = λ n d is. is }
fills types m (e ∷ es) rows at whole room new shows =
    let ih = fills types m es (taken_into types rows e) at.1 whole.1 room.1 (new_after types e rows room.0 whole.0 es new.1 new.2) (shown_taken types m e rows room.0 at.0 shows) in
    record {
      shown = ih.shown;
      has = λ q. ih.has q ∙ (ap (λ a. has_entry q es || a) (has_taken types e q rows room.0 whole.0) ∙ swapped (has_entry q es) (bytes_eq e.id q) (has_row q rows));
      kept = λ n d is. ih.kept n d (taken_keeps types e rows whole.0 new.0 n d is);
    }

-- ---- a bucket

module _ (p : Parts) (b : Low) (list : List Entry) (h : AreParts p) (listed : fin.from_entries (by_id list) ≡ fin.retain_keys p.entries (in_bucket b)) (single : AreSingle (by_id list)) where
  abbrev pub those : List Entry
  those = filter (is_waiting p.rows) list

  pub those_at : AllAt p.entries those
  those_at = waiting_at p.rows p.entries list (list_at p.entries b list listed single)

  pub those_new : AreNew p.rows those
  those_new = waiting_new p.rows list single

  filled : RoomAlong p.types those p.rows → IsFilled p.types p.entries those p.rows (all_taken p.types those p.rows)
  filled room = fills p.types p.entries those p.rows those_at (waiting_whole p.rows list) room those_new h.shown

  pub parts_ready : RoomAlong p.types those p.rows → AreParts (with_both p.entries (all_taken p.types those p.rows) p)
  parts_ready room = record { shown = (filled room).shown }

  pub makes_ready : RoomAlong p.types those p.rows → MakesReady b p (with_both p.entries (all_taken p.types those p.rows) p)
  makes_ready room = record {
    types = refl;
    entries = refl;
    places = λ q.
        ap (entry_place q (fin.get p.entries q)) ((filled room).has q ∙ ap (λ a. a || has_row q p.rows) (waiting_is p.rows q list single ∙ ap (waits p.rows q) (found_within p.entries b list listed q)))
        ∙ place_of q (in_bucket b q) (fin.get p.entries q);
    kept = (filled room).kept;
  }
    where
      by_marks : (t r : Bool) → body_place t ((t && not r) || r) ≡ made_ready true (body_place t r)
      by_marks true true = refl
      by_marks true false = refl
      by_marks false r = refl

      place_of : (q : List ℕ) (t : Bool) (o : Option Entry) → entry_place q o (waits p.rows q (cond t o None) || has_row q p.rows) ≡ made_ready t (entry_place q o (has_row q p.rows))
      place_of q true None = refl
      place_of q true (Some e) = by_marks (is_of q e.body) (has_row q p.rows)
      place_of q false o = refl

-- ---- the same of a call, be it done or not

-- what the entries of a bucket are that wait, and that they find room
pub record AreAwaited (m : Entries) (t : TypedRows) (b : Low) (list those : List Entry) : Type 0 where
  pub parts : AreParts (parts_of m t)
  pub listed : fin.from_entries (by_id list) ≡ fin.retain_keys m (in_bucket b)
  pub single : AreSingle (by_id list)
  pub waiting : those ≡ filter (is_waiting t.rows) list

pub awaited_new : (m : Entries) (t : TypedRows) (b : Low) (list ws : List Entry) → AreAwaited m t b list ws → AreNew t.rows ws
awaited_new m t b list ws a = subst (AreNew t.rows) (sym a.waiting) (those_new (parts_of m t) b list a.parts a.listed a.single)

room_of : FindRoom → (m : Entries) (t : TypedRows) (b : Low) (list ws : List Entry) → fin.len m < 4294967295 → AreDistinct t.rows → AreAwaited m t b list ws → RoomAlong t.types (filter (is_waiting t.rows) list) t.rows
room_of finds m t b list ws few distinct a =
    finds t.types m (filter (is_waiting t.rows) list) (those_at (parts_of m t) b list a.parts a.listed a.single) few t.rows distinct (all_have (parts_of m t) a.parts)

pub ready_either : FindRoom → (m : Entries) (t : TypedRows) (b : Low) (list ws : List Entry) → fin.len m < 4294967295 → AreDistinct t.rows → AreAwaited m t b list ws
    → (r : Result (Unit {0}) NoMemory) (u : TypedRows) → OnOk r (u ≡ with_rows (all_taken t.types ws t.rows) t) → OnErr r (u ≡ t) → AreParts (parts_of m u)
ready_either finds m t b list ws few distinct a (Ok x) u ok err =
    subst (λ k. AreParts (parts_of m k)) (sym (ok ∙ ap (λ l. with_rows (all_taken t.types l t.rows) t) a.waiting))
    (parts_ready (parts_of m t) b list a.parts a.listed a.single (room_of finds m t b list ws few distinct a))
ready_either finds m t b list ws few distinct a (Err x) u ok err = subst (λ k. AreParts (parts_of m k)) (sym err) a.parts

pub made_either : FindRoom → (m : Entries) (t : TypedRows) (b : Low) (list ws : List Entry) → fin.len m < 4294967295 → AreDistinct t.rows → AreAwaited m t b list ws
    → (r : Result (Unit {0}) NoMemory) (u : TypedRows) → OnOk r (u ≡ with_rows (all_taken t.types ws t.rows) t) → OnOk r (MakesReady b (parts_of m t) (parts_of m u))
made_either finds m t b list ws few distinct a (Ok x) u ok =
    subst (λ k. MakesReady b (parts_of m t) (parts_of m k)) (sym (ok ∙ ap (λ l. with_rows (all_taken t.types l t.rows) t) a.waiting))
    (makes_ready (parts_of m t) b list a.parts a.listed a.single (room_of finds m t b list ws few distinct a))
made_either finds m t b list ws few distinct a (Err x) u ok = tt
