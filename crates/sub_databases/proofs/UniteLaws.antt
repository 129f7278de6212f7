-- What a map of entries that comes leaves of the entries and of the ready part.
use Rattle.std.proofs.Common.{◌≡◌, ℕ, suc, ◌+◌, ◌<◌, ◌≤◌, Bool, true, false, cond, ◌||◌, ◌&&◌, List, [], ◌∷◌, length, filter, Option, None, Some, is_some, Result, Ok, Err, OnOk, arith, refl, sym, ap, ap₂, subst, ◌∙◌}
use mathlib.Core.Bool.{true≢false}
use Rattle.std.specs.List.{list_any}
use Rattle.std.specs.Str.{bytes_eq}
use Rattle.std.specs.Cmp.Lexicographic.{nat_list_cmp_total}
use Rattle.std.specs.FinMap as fin
use Rattle.std.specs.FinMap.{get-from_entries, len-insert, len-entries, same_map, slice_cmp-IsAntisymmetric, nat_cmp-IsAntisymmetric}
use Rattle.doc_types.specs.SchemaCodes.{Types}
use Rattle.documents.specs.Fields.{Contents}
use Rattle.documents.specs.declared.entry.Entry.{Entry}
use Rattle.entry_maps.specs.EntryCodes.{Entries}
use Rattle.entry_maps.specs.Entries.{is_newer, newer_of, by_id, AreSingle, HasNoneNewer}
use Rattle.entry_maps.specs.Joins.{joined, joined_onto, newer_entry}
use Rattle.entry_maps.proofs.JoinLaws.{get-joined, joined-alone}
use Rattle.entry_maps.proofs.SlotLists.{same_id, same_id-is}
use Rattle.document_rows.specs.Rows.{Rows, has_row, has_entry, document_of, without, taken_into, AreDistinct}
use Rattle.document_rows.proofs.RowLaws.{same_id as same_text, without-is}
use Rattle.node_rows.specs.TypedRows.{TypedRows, with_rows, AreNew, all_taken, all_left}
use Rattle.view_changes.specs.Shown.{shown, body_shown}
use Rattle.view_changes.specs.Room.{AllAt, AllHave}
use Rattle.view_changes.specs.Deeds.{RoomAlong}
use Rattle.view_changes.proofs.ShownLaws.{body-is}
use Rattle.value_lists.specs.declared.no_memory.NoMemory.{NoMemory}
use Rattle.sub_databases.specs.Parts.{AreParts, place_in, entry_place}
use Rattle.sub_databases.specs.Changes.{is_fresh, Unites}
use Rattle.sub_databases.specs.Uniting.{IsListOf, AreComing, does_come, does_oust, is_known, without_all, IsUnited, MayUnite}
use Rattle.sub_databases.proofs.RowSteps.{is_one, not_one, has_some}
use Rattle.sub_databases.proofs.ListLaws.{found, other_id, own_entry, none_found, all_found}
use Rattle.sub_databases.proofs.PartLaws.{FindRoom, parts_of, own_place, get_removed}

first : (a b : Bool) → a || b ≡ false → a ≡ false
first true b k = k
first false b k = refl

second : (a b : Bool) → a || b ≡ false → b ≡ false
second true b k = absurd (true≢false k)
second false b k = k

none_is : {A : Type 0} (o : Option A) → is_some o ≡ false → o ≡ None
none_is None k = refl
none_is (Some a) k = absurd (true≢false k)

-- ---- some of a list of entries

abbrev passes : (Entry → Bool) → Option Entry → Bool
passes test None = false
passes test (Some e) = test e

-- each once
abbrev AreOnce : List Entry → Type 0
AreOnce [] = Unit {0}
AreOnce (e ∷ es) = (has_entry e.id es ≡ false) × AreOnce es

module _ (test : Entry → Bool) where
  those_at : (m : Entries) (es : List Entry) → AllAt m es → AllAt m (filter test es)
  those_at m [] h = tt
  those_at m (e ∷ es) h = by_test (test e) (those_at m es h.1)
    where
      by_test : (t : Bool) → AllAt m (filter test es) → AllAt m (cond t (e ∷ filter test es) (filter test es))
      by_test true ih = (h.0, ih)
      by_test false ih = ih

  those_none : (q : List ℕ) (es : List Entry) → has_entry q es ≡ false → has_entry q (filter test es) ≡ false
  those_none q [] h = refl
  those_none q (e ∷ es) h = by_test (test e) (those_none q es (second (bytes_eq e.id q) (has_entry q es) h))
    where
      by_test : (t : Bool) → has_entry q (filter test es) ≡ false → has_entry q (cond t (e ∷ filter test es) (filter test es)) ≡ false
      by_test true ih = ap₂ (λ a b. a || b) (first (bytes_eq e.id q) (has_entry q es) h) ih
      by_test false ih = ih

  those_once : (es : List Entry) → AreSingle (by_id es) → AreOnce (filter test es)
  those_once [] single = tt
  those_once (e ∷ es) single = by_test (test e) (those_once es single.1)
    where
      by_test : (t : Bool) → AreOnce (filter test es) → AreOnce (cond t (e ∷ filter test es) (filter test es))
      by_test true ih = (those_none e.id es (none_found e.id es single.0), ih)
      by_test false ih = ih

  those_are : (q : List ℕ) (es : List Entry) → AreSingle (by_id es) → has_entry q (filter test es) ≡ passes test (found q es)
  those_are q [] single = refl
  those_are q (e ∷ es) single = by_tests (same_id q e.id) (test e) refl refl (those_are q es single.1)
    where
      by_tests : (t w : Bool) → same_id q e.id ≡ t → test e ≡ w → has_entry q (filter test es) ≡ passes test (found q es)
          → has_entry q (cond w (e ∷ filter test es) (filter test es)) ≡ passes test (cond t (Some e) (found q es))
      by_tests true true same is ih = ap (λ a. a || has_entry q (filter test es)) (own_entry q e same) ∙ sym is
      by_tests true false same is ih = those_none q es (none_found q es (ap (λ i. found i es) (same_id-is q e.id same) ∙ single.0)) ∙ sym is
      by_tests false true other is ih = ap (λ a. a || has_entry q (filter test es)) (other_id q e other) ∙ ih
      by_tests false false other is ih = ih

found_own : (q : List ℕ) (e : Entry) (xs : List Entry) → found q xs ≡ Some e → e.id ≡ q
found_own q e [] g = absurd (not_one e g)
found_own q e (x ∷ xs) g = by_test (same_id q x.id) refl g (found_own q e xs)
  where
    by_test : (t : Bool) → same_id q x.id ≡ t → cond t (Some x) (found q xs) ≡ Some e → (found q xs ≡ Some e → e.id ≡ q) → e.id ≡ q
    by_test true same i ih = ap (λ (y : Entry). y.id) (sym (is_one x e i)) ∙ sym (same_id-is q x.id same)
    by_test false other i ih = ih i

-- ---- a list of a map's entries

module _ (es : Entries) (all : List Entry) (h : IsListOf es all) where
  found_is : (q : List ℕ) → found q all ≡ fin.get es q
  found_is q = sym (get-from_entries nat_list_cmp_total (by_id all) q) ∙ ap (λ n. fin.get n q) h.whole

  all_at : AllAt es all
  all_at = all_found es all h.single (λ q x k. sym (found_is q) ∙ k)

  -- each stands at its document
  pub stands : (q : List ℕ) (e : Entry) → fin.get es q ≡ Some e → e.id ≡ q
  stands q e k = found_own q e all (found_is q ∙ k)

  has_those : (test : Entry → Bool) (q : List ℕ) → has_entry q (filter test all) ≡ passes test (fin.get es q)
  has_those test q = those_are test q all h.single ∙ ap (passes test) (found_is q)

  -- those that are newer stand in the join
  come_at : (m : Entries) (xs : List Entry) → AllAt es xs → AllAt (joined m es) (filter (does_come m) xs)
  come_at m [] at = tt
  come_at m (e ∷ xs) at = by_test (does_come m e) refl (come_at m xs at.1)
    where
      by_test : (t : Bool) → does_come m e ≡ t → AllAt (joined m es) (filter (does_come m) xs) → AllAt (joined m es) (cond t (e ∷ filter (does_come m) xs) (filter (does_come m) xs))
      by_test true is ih = (get-joined m es e.id ∙ (ap (newer_of (fin.get m e.id)) at.0 ∙ ap (λ t. cond t (Some e) (fin.get m e.id)) is), ih)
      by_test false is ih = ih

  fresh_is : (m : Entries) (q : List ℕ) → passes (does_come m) (fin.get es q) ≡ is_fresh (fin.get es q) (fin.get m q)
  fresh_is m q = by_entry (fin.get es q) refl
    where
      by_entry : (o : Option Entry) → fin.get es q ≡ o → passes (does_come m) o ≡ is_fresh o (fin.get m q)
      by_entry None is = refl
      by_entry (Some e) is = ap (λ i. is_newer e (fin.get m i)) (stands q e is)

-- ---- what entries leave of the ready part

taken_all : (types : Types) (m : Entries) (q : List ℕ) (es : List Entry) → AllAt m es → (rows : Rows) → RoomAlong types es rows
    → document_of q (all_taken types es rows) ≡ cond (has_entry q es) (shown types q (fin.get m q)) (document_of q rows)
taken_all types m q [] at rows room = refl
taken_all types m q (e ∷ es) at rows room = taken_all types m q es at.1 (taken_into types rows e) room.1 ∙ by_tests (has_entry q es) (bytes_eq e.id q) refl
  where
    own : bytes_eq e.id q ≡ true → body_shown types e.id e.body ≡ shown types q (fin.get m q)
    own is = sym (ap (shown types e.id) at.0) ∙ ap (λ (x : List ℕ). shown types x (fin.get m x)) (same_text e.id q is)

    by_tests : (t u : Bool) → bytes_eq e.id q ≡ u → cond t (shown types q (fin.get m q)) (document_of q (taken_into types rows e)) ≡ cond (u || t) (shown types q (fin.get m q)) (document_of q rows)
    by_tests true true is = refl
    by_tests true false is = refl
    by_tests false true is = body-is types e.id e.body q rows room.0 ∙ rw is (own is)
    by_tests false false is = body-is types e.id e.body q rows room.0 ∙ rw is refl

left_all : (q : List ℕ) (es : List Entry) (rows : Rows) → document_of q (all_left es rows) ≡ cond (has_entry q es) None (document_of q rows)
left_all q [] rows = refl
left_all q (e ∷ es) rows = left_all q es (without e.id rows) ∙ by_tests (has_entry q es) (bytes_eq e.id q) refl
  where
    by_tests : (t u : Bool) → bytes_eq e.id q ≡ u → cond t None (document_of q (without e.id rows)) ≡ cond (u || t) None (document_of q rows)
    by_tests true true is = refl
    by_tests true false is = refl
    by_tests false true is = without-is e.id q rows ∙ rw is refl
    by_tests false false is = without-is e.id q rows ∙ rw is refl

-- ---- that they find places

len_onto : (m : Entries) (ps : List (List ℕ × Entry)) → fin.len (joined_onto m ps) ≤ fin.len m + length ps
len_onto m [] = omega arith
len_onto m (p ∷ ps) =
    let ih = len_onto m ps in
    let n = joined_onto m ps in
    let e = newer_entry (fin.get m p.0) p.1 in
    subst (λ k. k ≤ fin.len m + suc (length ps)) (sym (len-insert nat_list_cmp_total n p.0 e)) (by_some (is_some (fin.get n p.0)) ih)
  where
    by_some : (t : Bool) → fin.len (joined_onto m ps) ≤ fin.len m + length ps → cond t (fin.len (joined_onto m ps)) (fin.len (joined_onto m ps) + 1) ≤ fin.len m + suc (length ps)
    by_some true ih = omega (arith, ih)
    by_some false ih = omega (arith, ih)

len_joined : (m es : Entries) → fin.len (joined m es) ≤ fin.len m + fin.len es
unfolding joined
len_joined m es = subst (λ k. fin.len (joined_onto m (fin.entries es)) ≤ fin.len m + k) (sym (len-entries es)) (len_onto m (fin.entries es))

joined_have : (m es : Entries) (rows : Rows) → AllHave m rows → AllHave (joined m es) rows
joined_have m es rows have q has = ap is_some (get-joined m es q) ∙ by_entries (fin.get m q) (fin.get es q) (have q has)
  where
    by_newer : (o : Option Entry) (e : Entry) (t : Bool) → is_some o ≡ true → is_some (cond t (Some e) o) ≡ true
    by_newer o e true k = refl
    by_newer o e false k = k

    by_entries : (o c : Option Entry) → is_some o ≡ true → is_some (newer_of o c) ≡ true
    by_entries o None k = k
    by_entries o (Some e) k = by_newer o e (is_newer e o) k

-- ---- they come ready

room_united : FindRoom → (es m : Entries) (list : List Entry) (t : TypedRows) → AreComing es m list → fin.len m + fin.len es < 4294967295 → AreDistinct t.rows → AllHave m t.rows → RoomAlong t.types list t.rows
room_united finds es m list t c few distinct have =
    let fits = len_joined m es in
    finds t.types (joined m es) list (subst (AllAt (joined m es)) (sym c.coming) (come_at es c.all c.listed m c.all (all_at es c.all c.listed))) (omega (arith, few, fits)) t.rows distinct (joined_have m es t.rows have)

pub united_ready : FindRoom → (es m : Entries) (list : List Entry) (t : TypedRows) → AreComing es m list → fin.len m + fin.len es < 4294967295 → AreDistinct t.rows → AllHave m t.rows
    → (n : Entries) (u : TypedRows) → n ≡ joined m es → u ≡ with_rows (all_taken t.types list t.rows) t → IsUnited es true m t n u
united_ready finds es m list t c few distinct have n u entries rows = record {
  types = ap (λ (k : TypedRows). k.types) rows;
  entries = entries;
  documents = λ q.
      ap (λ (k : TypedRows). document_of q k.rows) rows
      ∙ taken_all t.types es q list (subst (AllAt es) (sym c.coming) (those_at (does_come m) es c.all (all_at es c.all c.listed))) t.rows (room_united finds es m list t c few distinct have)
      ∙ ap (λ b. cond b (shown t.types q (fin.get es q)) (document_of q t.rows)) (ap (has_entry q) c.coming ∙ has_those es c.all c.listed (does_come m) q ∙ fresh_is es c.all c.listed m q);
}

-- none of them has a row
new_rows : (m : Entries) (rows : Rows) → AllHave m rows → (list : List Entry) → AreOnce list → list_any (is_known m) list ≡ false → AreNew rows list
new_rows m rows have [] once unknown = tt
new_rows m rows have (e ∷ es) once unknown =
    (by_test (has_row e.id rows) refl, once.0, new_rows m rows have es once.1 (second (is_known m e) (list_any (is_known m) es) unknown))
  where
    by_test : (t : Bool) → has_row e.id rows ≡ t → t ≡ false
    by_test true is = sym (have e.id is) ∙ first (is_known m e) (list_any (is_known m) es) unknown
    by_test false is = refl

pub coming_new : (es m : Entries) (list : List Entry) (t : TypedRows) → AreComing es m list → AllHave m t.rows → list_any (is_known m) list ≡ false → AreNew t.rows list
coming_new es m list t c have unknown = new_rows m t.rows have list (subst AreOnce (sym c.coming) (those_once (does_come m) c.all c.listed.single)) unknown

-- ---- the first entries of their documents, taken back

get_without : (es : List Entry) (m : Entries) (q : List ℕ) → fin.get (without_all es m) q ≡ cond (has_entry q es) None (fin.get m q)
get_without [] m q = refl
get_without (e ∷ es) m q = get_without es (fin.remove m e.id) q ∙ by_tests (has_entry q es) (bytes_eq e.id q) refl
  where
    by_tests : (t u : Bool) → bytes_eq e.id q ≡ u → cond t None (fin.get (fin.remove m e.id) q) ≡ cond (u || t) None (fin.get m q)
    by_tests true true is = refl
    by_tests true false is = refl
    by_tests false true is = get_removed m e.id q ∙ rw is refl
    by_tests false false is = get_removed m e.id q ∙ rw is refl

known_of : (m : Entries) (q : List ℕ) (es : List Entry) → has_entry q es ≡ true → list_any (is_known m) es ≡ false → fin.get m q ≡ None
known_of m q [] has unknown = absurd (true≢false (sym has))
known_of m q (e ∷ es) has unknown = by_test (bytes_eq e.id q) refl has (λ k. known_of m q es k (second (is_known m e) (list_any (is_known m) es) unknown))
  where
    by_test : (t : Bool) → bytes_eq e.id q ≡ t → (t || has_entry q es) ≡ true → (has_entry q es ≡ true → fin.get m q ≡ None) → fin.get m q ≡ None
    by_test true is k ih = ap (fin.get m) (sym (same_text e.id q is)) ∙ none_is (fin.get m e.id) (first (is_known m e) (list_any (is_known m) es) unknown)
    by_test false is k ih = ih k

pub taken_back : (es m : Entries) (list : List Entry) → AreComing es m list → list_any (is_known m) list ≡ false → without_all list (joined m es) ≡ m
taken_back es m list c unknown = same_map nat_list_cmp_total (slice_cmp-IsAntisymmetric nat_cmp-IsAntisymmetric) (without_all list (joined m es)) m
    (λ q. get_without list (joined m es) q ∙ by_test q (has_entry q list) refl)
  where
    by_entry : (q : List ℕ) (o : Option Entry) → is_fresh o (fin.get m q) ≡ false → newer_of (fin.get m q) o ≡ fin.get m q
    by_entry q None k = refl
    by_entry q (Some e) k = ap (λ t. cond t (Some e) (fin.get m q)) k

    by_test : (q : List ℕ) (t : Bool) → has_entry q list ≡ t → cond t None (fin.get (joined m es) q) ≡ fin.get m q
    by_test q true has = sym (known_of m q list has unknown)
    by_test q false has =
        get-joined m es q ∙ by_entry q (fin.get es q) (sym (ap (has_entry q) c.coming ∙ has_those es c.all c.listed (does_come m) q ∙ fresh_is es c.all c.listed m q) ∙ has)

-- ---- they come unready

pub united_waiting : (es m : Entries) (all list : List Entry) (t : TypedRows) → IsListOf es all → list ≡ filter (does_oust m t.rows) all
    → (n : Entries) (u : TypedRows) → n ≡ joined m es → u ≡ with_rows (all_left list t.rows) t → IsUnited es false m t n u
united_waiting es m all list t h those n u entries rows = record {
  types = ap (λ (k : TypedRows). k.types) rows;
  entries = entries;
  documents = λ q.
      ap (λ (k : TypedRows). document_of q k.rows) rows
      ∙ left_all q list t.rows ∙ ap (λ b. cond b None (document_of q t.rows)) (ap (has_entry q) those ∙ has_those es all h (does_oust m t.rows) q)
      ∙ by_entry q (fin.get es q) refl;
}
  where
    by_tests : (q : List ℕ) (b n : Bool) → is_some (document_of q t.rows) ≡ b → cond (b && n) None (document_of q t.rows) ≡ cond n None (document_of q t.rows)
    by_tests q true n is = refl
    by_tests q false true is = none_is (document_of q t.rows) is
    by_tests q false false is = refl

    by_entry : (q : List ℕ) (o : Option Entry) → fin.get es q ≡ o → cond (passes (does_oust m t.rows) o) None (document_of q t.rows) ≡ cond (is_fresh o (fin.get m q)) None (document_of q t.rows)
    by_entry q None is = refl
    by_entry q (Some e) is =
        ap (λ i. cond (has_row i t.rows && is_newer e (fin.get m i)) None (document_of q t.rows)) (stands es all h q e is)
        ∙ by_tests q (has_row q t.rows) (is_newer e (fin.get m q)) (sym (has_some q t.rows))

-- where no document ever was ready
pub united_unready : (es m : Entries) (t : TypedRows) → t.rows ≡ [] → (n : Entries) → n ≡ joined m es → IsUnited es false m t n t
united_unready es m t none n entries = record {
  types = refl;
  entries = entries;
  documents = λ q. ap (document_of q) none ∙ (by_test (is_fresh (fin.get es q) (fin.get m q)) ∙ sym (ap (λ rows. cond (is_fresh (fin.get es q) (fin.get m q)) None (document_of q rows)) none));
}
  where
    by_test : (b : Bool) → ◌≡◌ {A = Option Contents} None (cond b None None)
    by_test true = refl
    by_test false = refl

-- ---- none of them is newer

pub united_older : (es m : Entries) (all : List Entry) (ready : Bool) (t : TypedRows) → IsListOf es all → HasNoneNewer es m → IsUnited es ready m t m t
united_older es m all ready t h old = record {
  types = refl;
  entries = joined-alone m es m (λ q. sym (by_entry q (fin.get es q) (stale q)));
  documents = λ q. ap (λ b. cond b (cond ready (shown t.types q (fin.get es q)) None) (document_of q t.rows)) (sym (stale q));
}
  where
    by_own : (q : List ℕ) (o : Option Entry) → fin.get es q ≡ o → is_fresh o (fin.get m q) ≡ false
    by_own q None is = refl
    by_own q (Some e) is = ap (λ i. is_newer e (fin.get m i)) (sym (stands es all h q e is)) ∙ old q e is

    stale : (q : List ℕ) → is_fresh (fin.get es q) (fin.get m q) ≡ false
    stale q = by_own q (fin.get es q) refl

    by_entry : (q : List ℕ) (o : Option Entry) → is_fresh o (fin.get m q) ≡ false → newer_of (fin.get m q) o ≡ fin.get m q
    by_entry q None k = refl
    by_entry q (Some e) k = ap (λ t. cond t (Some e) (fin.get m q)) k

-- ---- the parts then

module _ (es : Entries) (ready : Bool) (m : Entries) (t : TypedRows) (n : Entries) (u : TypedRows) (h : IsUnited es ready m t n u) where
  get_united : (q : List ℕ) → fin.get n q ≡ newer_of (fin.get m q) (fin.get es q)
  get_united q = ap (λ k. fin.get k q) h.entries ∙ get-joined m es q

  pub united_parts : AreParts (parts_of m t) → AreParts (parts_of n u)
  united_parts p = record { shown = λ q d is. ap (λ k. shown k q (fin.get n q)) h.types ∙ ap (shown t.types q) (get_united q) ∙ by_entry q d (fin.get es q) (sym (h.documents q) ∙ is) }
    where
      by_mark : (r : Bool) (o : Option Contents) (d : Contents) → cond r o None ≡ Some d → o ≡ Some d
      by_mark true o d k = k
      by_mark false o d k = absurd (not_one d k)

      by_newer : (q : List ℕ) (d : Contents) (e : Entry) (b : Bool) → cond b (cond ready (body_shown t.types q e.body) None) (document_of q t.rows) ≡ Some d → shown t.types q (cond b (Some e) (fin.get m q)) ≡ Some d
      by_newer q d e true k = by_mark ready (body_shown t.types q e.body) d k
      by_newer q d e false k = p.shown q d k

      by_entry : (q : List ℕ) (d : Contents) (o : Option Entry) → cond (is_fresh o (fin.get m q)) (cond ready (shown t.types q o) None) (document_of q t.rows) ≡ Some d → shown t.types q (newer_of (fin.get m q) o) ≡ Some d
      by_entry q d None k = p.shown q d k
      by_entry q d (Some e) k = by_newer q d e (is_newer e (fin.get m q)) k

  pub united_unites : Unites es ready (parts_of m t) (parts_of n u)
  united_unites = record {
    types = h.types;
    entries = h.entries;
    places = λ q. ap₂ (entry_place q) (get_united q) (has_some q u.rows ∙ ap is_some (h.documents q)) ∙ by_entry q (fin.get es q);
  }
    where
      by_newer : (q : List ℕ) (e : Entry) (b : Bool) → entry_place q (cond b (Some e) (fin.get m q)) (is_some (cond b (cond ready (body_shown t.types q e.body) None) (document_of q t.rows))) ≡ cond b (entry_place q (Some e) ready) (place_in (parts_of m t) q)
      by_newer q e true = own_place t.types q e ready
      by_newer q e false = ap (entry_place q (fin.get m q)) (sym (has_some q t.rows))

      by_entry : (q : List ℕ) (o : Option Entry) → entry_place q (newer_of (fin.get m q) o) (is_some (cond (is_fresh o (fin.get m q)) (cond ready (shown t.types q o) None) (document_of q t.rows)))
          ≡ cond (is_fresh o (fin.get m q)) (entry_place q o ready) (place_in (parts_of m t) q)
      by_entry q None = ap (entry_place q (fin.get m q)) (sym (has_some q t.rows))
      by_entry q (Some e) = by_newer q e (is_newer e (fin.get m q))

-- ---- the same of a call, be it done or not

pub parts_united : (es : Entries) (ready : Bool) (m : Entries) (t : TypedRows) (r : Result (Unit {0}) NoMemory) (n : Entries) (u : TypedRows) → MayUnite es ready m t r n u → AreParts (parts_of m t) → AreParts (parts_of n u)
parts_united es ready m t (Ok x) n u h p = united_parts es ready m t n u h p
parts_united es ready m t (Err x) n u h p = subst (λ k. AreParts (parts_of k u)) (sym h.0) (subst (λ k. AreParts (parts_of m k)) (sym h.1) p)

pub may_unite : (es : Entries) (ready : Bool) (m : Entries) (t : TypedRows) (r : Result (Unit {0}) NoMemory) (n : Entries) (u : TypedRows) → MayUnite es ready m t r n u → OnOk r (Unites es ready (parts_of m t) (parts_of n u))
may_unite es ready m t (Ok x) n u h = united_unites es ready m t n u h
may_unite es ready m t (Err x) n u h = tt

no_rows : (rows : Rows) → length rows ≡ 0 → rows ≡ []
no_rows [] k = refl
no_rows (x ∷ rows) k = absurd (omega (arith, k))

-- where no document ever was ready
pub joined_unready : (es m : Entries) (t : TypedRows) (ready : Bool) (r : Result (Unit {0}) NoMemory) (n : Entries) → ready ≡ false → length t.rows ≡ 0 → OnOk r (n ≡ joined m es) → OnOk r (Unites es ready (parts_of m t) (parts_of n t))
joined_unready es m t ready (Ok x) n mark none h = subst (λ b. Unites es b (parts_of m t) (parts_of n t)) (sym mark) (united_unites es false m t n t (united_unready es m t (no_rows t.rows none) n h))
joined_unready es m t ready (Err x) n mark none h = tt

pub none_ready : (m n : Entries) (t : TypedRows) → length t.rows ≡ 0 → AreParts (parts_of n t)
none_ready m n t none = record { shown = λ q d is. absurd (not_one d (sym (ap (document_of q) (no_rows t.rows none)) ∙ is)) }
