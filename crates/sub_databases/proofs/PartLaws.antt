-- That the parts stay what they are, and where each document then is.
use Rattle.std.proofs.Common.{◌≡◌, ℕ, ◌+◌, ◌<◌, Bool, true, false, cond, not, ◌&&◌, List, [], ◌∷◌, Option, None, Some, is_some, Result, Ok, Err, OnOk, arith, refl, sym, ap, ap₂, subst, ◌∙◌}
use mathlib.Core.Bool.{true≢false}
use Rattle.std.specs.Str.{bytes_eq}
use Rattle.std.specs.Cmp.Lexicographic.{nat_list_cmp_total}
use Rattle.std.specs.FinMap as fin
use Rattle.std.specs.FinMap.{get-insert, len-insert, get-remove, get-retain_keys, same_map, slice_cmp-IsAntisymmetric, nat_cmp-IsAntisymmetric}
use Rattle.std.proofs.lemmas.Map.Text.{is_eq-slice_cmp}
use Rattle.bucket_ids.specs.Buckets.{Low}
use Rattle.stamps.specs.declared.stamp.Stamp.{Stamp}
use Rattle.doc_types.specs.SchemaCodes.{Types}
use Rattle.documents.specs.Fields.{Contents}
use Rattle.documents.specs.declared.entry.Entry.{Entry}
use Rattle.entry_maps.specs.EntryCodes.{Entries}
use Rattle.entry_maps.specs.Entries.{is_newer, with_entry, in_bucket}
use Rattle.document_rows.specs.Rows.{Rows, is_of, has_row, document_of, without, AreDistinct}
use Rattle.document_rows.proofs.RowLaws.{same_id, own_id}
use Rattle.node_rows.specs.TypedRows.{TypedRows, without_in}
use Rattle.view_changes.specs.Shown.{HasRoom, shown, body_shown}
use Rattle.view_changes.specs.Deeds.{RoomAlong}
use Rattle.view_changes.specs.Room.{AllAt, AllHave}
use Rattle.view_changes.proofs.ShownLaws.{turned}
use Rattle.value_lists.specs.declared.no_memory.NoMemory.{NoMemory}
use Rattle.sub_databases.specs.Parts.{Parts, AreParts, AreShown, no_parts, place_in, entry_place, body_place}
use Rattle.sub_databases.specs.declared.place.Place.TheVariants.{Ready, Nowhere}
use Rattle.sub_databases.specs.Changes.{with_both, rows_after, after_take, place_after, after_drop, place_dropped, is_remove_of, place_forgotten, IsTaken}
use Rattle.sub_databases.proofs.RowSteps.{not_one, has_some, shown_is, rows_after-is, without_in-is, without_none}

-- ---- maps of entries

-- what an entry that comes leaves of each document
pub get_inserted : (m : Entries) (e : Entry) (q : List ℕ) → fin.get (fin.insert m e.id e) q ≡ cond (bytes_eq e.id q) (Some e) (fin.get m q)
get_inserted m e q = get-insert nat_list_cmp_total m e.id e q ∙ ap (λ t. cond t (Some e) (fin.get m q)) (is_eq-slice_cmp q e.id ∙ turned q e.id)

-- what a bucket that goes leaves
pub get_retained : (m : Entries) (b : Low) (q : List ℕ) → fin.get (fin.retain_keys m (λ id. not (in_bucket b id))) q ≡ cond (not (in_bucket b q)) (fin.get m q) None
get_retained m b q = get-retain_keys m (λ id. not (in_bucket b id)) q (λ x e. ap (λ id. not (in_bucket b id)) (sym (slice_cmp-IsAntisymmetric nat_cmp-IsAntisymmetric q x e)))

-- what an entry that goes leaves
pub get_removed : (m : Entries) (id q : List ℕ) → fin.get (fin.remove m id) q ≡ cond (bytes_eq id q) None (fin.get m q)
get_removed m id q = get-remove nat_list_cmp_total m id q ∙ ap (λ t. cond t None (fin.get m q)) (is_eq-slice_cmp q id ∙ turned q id)

-- an entry that came first, and goes
pub come_and_gone : (m : Entries) (e : Entry) → fin.get m e.id ≡ None → fin.remove (fin.insert m e.id e) e.id ≡ m
come_and_gone m e none = same_map nat_list_cmp_total (slice_cmp-IsAntisymmetric nat_cmp-IsAntisymmetric) (fin.remove (fin.insert m e.id e) e.id) m
    (λ q. get_removed (fin.insert m e.id e) e.id q ∙ (ap (λ o. cond (bytes_eq e.id q) None o) (get_inserted m e q) ∙ by_test q (bytes_eq e.id q) refl))
  where
    by_test : (q : List ℕ) (t : Bool) → bytes_eq e.id q ≡ t → cond t None (cond t (Some e) (fin.get m q)) ≡ fin.get m q
    by_test q true same = sym (ap (fin.get m) (sym (same_id e.id q same)) ∙ none)
    by_test q false other = refl

pub parts_none : (types : Types) → AreParts (no_parts types)
parts_none types = record { shown = λ id d is. absurd (not_one d is) }

-- ---- a newer entry

shown_after : (types : Types) (m : Entries) (rows : Rows) (e : Entry) (ready : Bool) → (ready ≡ true → HasRoom rows) → AreShown types m rows
    → AreShown types (fin.insert m e.id e) (rows_after types ready rows e)
shown_after types m rows e ready room shows q d is = ap (shown types q) (get_inserted m e q) ∙ by_test (bytes_eq e.id q) refl (sym (rows_after-is types ready e q rows room) ∙ is)
  where
    by_mark : (r : Bool) → cond r (body_shown types e.id e.body) None ≡ Some d → body_shown types e.id e.body ≡ Some d
    by_mark true k = k
    by_mark false k = absurd (not_one d k)

    by_test : (t : Bool) → bytes_eq e.id q ≡ t → cond t (cond ready (body_shown types e.id e.body) None) (document_of q rows) ≡ Some d → shown types q (cond t (Some e) (fin.get m q)) ≡ Some d
    by_test true same k = subst (λ i. body_shown types i e.body ≡ Some d) (same_id e.id q same) (by_mark ready k)
    by_test false other k = shows q d k

pub parts_newer : (p : Parts) (e : Entry) (ready : Bool) → (ready ≡ true → HasRoom p.rows) → AreParts p
    → AreParts (with_both (fin.insert p.entries e.id e) (rows_after p.types ready p.rows e) p)
parts_newer p e ready room h = record { shown = shown_after p.types p.entries p.rows e ready room h.shown }

-- where the document of a newer entry is
pub own_place : (types : Types) (q : List ℕ) (e : Entry) (ready : Bool) → entry_place q (Some e) (is_some (cond ready (body_shown types q e.body) None)) ≡ entry_place q (Some e) ready
own_place types q e true = ap (body_place (is_of q e.body)) (shown_is types q e.body) ∙ on_itself (is_of q e.body)
  where
    on_itself : (t : Bool) → body_place t t ≡ body_place t true
    on_itself true = refl
    on_itself false = refl
own_place types q e false = refl

pub place_newer : (p : Parts) (e : Entry) (ready : Bool) → (ready ≡ true → HasRoom p.rows) → (q : List ℕ)
    → place_in (with_both (fin.insert p.entries e.id e) (rows_after p.types ready p.rows e) p) q ≡ cond (bytes_eq e.id q) (entry_place q (Some e) ready) (place_in p q)
place_newer p e ready room q =
    ap₂ (entry_place q) (get_inserted p.entries e q) (has_some q (rows_after p.types ready p.rows e) ∙ ap is_some (rows_after-is p.types ready e q p.rows room))
    ∙ by_test (bytes_eq e.id q) refl
  where
    by_test : (t : Bool) → bytes_eq e.id q ≡ t
        → entry_place q (cond t (Some e) (fin.get p.entries q)) (is_some (cond t (cond ready (body_shown p.types e.id e.body) None) (document_of q p.rows))) ≡ cond t (entry_place q (Some e) ready) (place_in p q)
    by_test true same =
        ap (λ i. entry_place q (Some e) (is_some (cond ready (body_shown p.types i e.body) None))) (same_id e.id q same) ∙ own_place p.types q e ready
    by_test false other = ap (entry_place q (fin.get p.entries q)) (sym (has_some q p.rows))

-- an entry, be it newer or not
pub after_newer : (p : Parts) (e : Entry) (ready : Bool) → is_newer e (fin.get p.entries e.id) ≡ true → after_take e ready p ≡ with_both (fin.insert p.entries e.id e) (rows_after p.types ready p.rows e) p
after_newer p e ready is = rw is refl

pub after_older : (p : Parts) (e : Entry) (ready : Bool) → is_newer e (fin.get p.entries e.id) ≡ false → after_take e ready p ≡ p
after_older p e ready is = rw is refl

pub place_taken : (p : Parts) (e : Entry) (ready : Bool) → is_newer e (fin.get p.entries e.id) ≡ true → (q : List ℕ) → cond (bytes_eq e.id q) (entry_place q (Some e) ready) (place_in p q) ≡ place_after e ready p q
place_taken p e ready is q = rw is (by_test (bytes_eq e.id q))
  where
    by_test : (t : Bool) → cond t (entry_place q (Some e) ready) (place_in p q) ≡ cond (t && true) (entry_place q (Some e) ready) (place_in p q)
    by_test true = refl
    by_test false = refl

pub place_untaken : (p : Parts) (e : Entry) (ready : Bool) → is_newer e (fin.get p.entries e.id) ≡ false → (q : List ℕ) → place_in p q ≡ place_after e ready p q
place_untaken p e ready is q = rw is (by_test (bytes_eq e.id q))
  where
    by_test : (t : Bool) → place_in p q ≡ cond (t && false) (entry_place q (Some e) ready) (place_in p q)
    by_test true = refl
    by_test false = refl

-- ---- a bucket that goes

shown_dropped : (types : Types) (m : Entries) (rows : Rows) (b : Low) → AreShown types m rows → AreShown types (fin.retain_keys m (λ id. not (in_bucket b id))) (without_in b rows)
shown_dropped types m rows b shows q d is = ap (shown types q) (get_retained m b q) ∙ by_test (in_bucket b q) (sym (without_in-is b q rows) ∙ is)
  where
    by_test : (t : Bool) → cond t None (document_of q rows) ≡ Some d → shown types q (cond (not t) (fin.get m q) None) ≡ Some d
    by_test true k = absurd (not_one d k)
    by_test false k = shows q d k

pub parts_dropped : (p : Parts) (b : Low) → AreParts p → AreParts (after_drop b p)
parts_dropped p b h = record { shown = shown_dropped p.types p.entries p.rows b h.shown }

pub place_gone : (p : Parts) (b : Low) (q : List ℕ) → place_in (after_drop b p) q ≡ place_dropped (in_bucket b q) (place_in p q)
place_gone p b q =
    ap₂ (entry_place q) (get_retained p.entries b q) (has_some q (without_in b p.rows) ∙ ap is_some (without_in-is b q p.rows))
    ∙ by_test (in_bucket b q)
  where
    by_test : (t : Bool) → entry_place q (cond (not t) (fin.get p.entries q) None) (is_some (cond t None (document_of q p.rows))) ≡ place_dropped t (place_in p q)
    by_test true = refl
    by_test false = ap (entry_place q (fin.get p.entries q)) (sym (has_some q p.rows))

-- ---- a remove that is forgotten

no_document : (types : Types) (q : List ℕ) (stamp : Stamp) (o : Option Entry) → is_remove_of stamp o ≡ true → shown types q o ≡ None
no_document types q stamp None is = refl
no_document types q stamp (Some e) is = by_body e.body (first (not (is_some e.body)) _ is)
  where
    first : (a b : Bool) → a && b ≡ true → a ≡ true
    first true b k = refl
    first false b k = k

    by_body : (o : Option Contents) → not (is_some o) ≡ true → body_shown types q o ≡ None
    by_body None k = refl
    by_body (Some d) k = absurd (true≢false (sym k))

shown_left : (types : Types) (m : Entries) (rows : Rows) (id : List ℕ) (stamp : Stamp) → is_remove_of stamp (fin.get m id) ≡ true → AreShown types m rows → AreShown types (fin.remove m id) rows
shown_left types m rows id stamp is shows q d k = ap (shown types q) (get_removed m id q) ∙ by_test (bytes_eq id q) refl
  where
    by_test : (t : Bool) → bytes_eq id q ≡ t → shown types q (cond t None (fin.get m q)) ≡ Some d
    by_test true same = absurd (not_one d (sym (ap (λ i. shown types q (fin.get m i)) (sym (same_id id q same)) ∙ no_document types q stamp (fin.get m id) is) ∙ shows q d k))
    by_test false other = shows q d k

pub parts_left : (p : Parts) (id : List ℕ) (stamp : Stamp) → is_remove_of stamp (fin.get p.entries id) ≡ true → AreParts p → AreParts (with_both (fin.remove p.entries id) p.rows p)
parts_left p id stamp is h = record { shown = shown_left p.types p.entries p.rows id stamp is h.shown }

pub place_left : (p : Parts) (id : List ℕ) (stamp : Stamp) → is_remove_of stamp (fin.get p.entries id) ≡ true → (q : List ℕ) → place_in (with_both (fin.remove p.entries id) p.rows p) q ≡ place_forgotten id stamp p q
place_left p id stamp is q = ap (λ o. entry_place q o (has_row q p.rows)) (get_removed p.entries id q) ∙ rw is (by_test (bytes_eq id q))
  where
    by_test : (t : Bool) → entry_place q (cond t None (fin.get p.entries q)) (has_row q p.rows) ≡ cond (t && true) Nowhere (place_in p q)
    by_test true = refl
    by_test false = refl

pub place_unleft : (p : Parts) (id : List ℕ) (stamp : Stamp) → is_remove_of stamp (fin.get p.entries id) ≡ false → (q : List ℕ) → place_in p q ≡ place_forgotten id stamp p q
place_unleft p id stamp is q = rw is (by_test (bytes_eq id q))
  where
    by_test : (t : Bool) → place_in p q ≡ cond (t && false) Nowhere (place_in p q)
    by_test true = refl
    by_test false = refl

-- ---- the parts together

pub nowhere : (p : Parts) (id : List ℕ) → place_in p id ≡ Nowhere → fin.get p.entries id ≡ None
nowhere p id is = by_entry (fin.get p.entries id) (has_row id p.rows) is
  where
    by_marks : (t r : Bool) → body_place t r ≡ Nowhere → ⊥
    by_marks false r k = cc
    by_marks true true k = cc
    by_marks true false k = cc

    by_entry : (o : Option Entry) (r : Bool) → entry_place id o r ≡ Nowhere → o ≡ None
    by_entry None r k = refl
    by_entry (Some e) r k = absurd (by_marks (is_of id e.body) r k)

pub ready_has : (p : Parts) (id : List ℕ) → place_in p id ≡ Ready → has_row id p.rows ≡ true
ready_has p id is = by_entry (fin.get p.entries id) (has_row id p.rows) is
  where
    by_marks : (t r : Bool) → body_place t r ≡ Ready → r ≡ true
    by_marks false r k = cc
    by_marks true true k = refl
    by_marks true false k = cc

    by_entry : (o : Option Entry) (r : Bool) → entry_place id o r ≡ Ready → r ≡ true
    by_entry None r k = cc
    by_entry (Some e) r k = by_marks (is_of id e.body) r k

pub has_ready : (p : Parts) (id : List ℕ) → AreParts p → has_row id p.rows ≡ true → place_in p id ≡ Ready
has_ready p id h has = ap (entry_place id (fin.get p.entries id)) has ∙ by_document (document_of id p.rows) refl (sym (has_some id p.rows) ∙ has)
  where
    by_entry : (o : Option Entry) (d : Contents) → shown p.types id o ≡ Some d → entry_place id o true ≡ Ready
    by_entry None d k = absurd (not_one d k)
    by_entry (Some e) d k = ap (λ t. body_place t true) (sym (shown_is p.types id e.body) ∙ ap is_some k)

    by_document : (o : Option Contents) → document_of id p.rows ≡ o → is_some o ≡ true → entry_place id (fin.get p.entries id) true ≡ Ready
    by_document None is k = absurd (true≢false (sym k))
    by_document (Some d) is k = by_entry (fin.get p.entries id) d (h.shown id d is)

-- ---- a take, be it done or not

-- what is known of entries of a map: they find free places
abbrev pub FindRoom : Type 0
FindRoom = (types : Types) (m : Entries) (es : List Entry) → AllAt m es → fin.len m < 4294967295 → (rows : Rows) → AreDistinct rows → AllHave m rows → RoomAlong types es rows

abbrev pub parts_of : Entries → TypedRows → Parts
parts_of m t = record { types = t.types; entries = m; rows = t.rows }

-- the ready part's documents have entries
pub all_have : (p : Parts) → AreParts p → AllHave p.entries p.rows
all_have p h q has = by_document (document_of q p.rows) refl (sym (has_some q p.rows) ∙ has)
  where
    by_entry : (o : Option Entry) (d : Contents) → shown p.types q o ≡ Some d → is_some o ≡ true
    by_entry None d k = absurd (not_one d k)
    by_entry (Some e) d k = refl

    by_document : (o : Option Contents) → document_of q p.rows ≡ o → is_some o ≡ true → is_some (fin.get p.entries q) ≡ true
    by_document None is k = absurd (true≢false (sym k))
    by_document (Some d) is k = by_entry (fin.get p.entries q) d (h.shown q d is)

pub take_room : FindRoom → (m : Entries) (t : TypedRows) (e : Entry) → fin.len m + 1 < 4294967295 → AreDistinct t.rows → AreParts (parts_of m t) → HasRoom t.rows
take_room finds m t e few distinct h =
    (finds t.types (fin.insert m e.id e) (e ∷ []) (get_inserted m e e.id ∙ ap (λ x. cond x (Some e) (fin.get m e.id)) (own_id e.id), tt) below t.rows distinct have).0
  where
    by_some : (x : Bool) → cond x (fin.len m) (fin.len m + 1) < 4294967295
    by_some true = omega (arith, few)
    by_some false = few

    below : fin.len (fin.insert m e.id e) < 4294967295
    below = subst (λ n. n < 4294967295) (sym (len-insert nat_list_cmp_total m e.id e)) (by_some (is_some (fin.get m e.id)))

    have : AllHave (fin.insert m e.id e) t.rows
    have q has = ap is_some (get_inserted m e q) ∙ by_test (bytes_eq e.id q)
      where
        by_test : (x : Bool) → is_some (cond x (Some e) (fin.get m q)) ≡ true
        by_test true = refl
        by_test false = all_have (parts_of m t) h q has

pub kept_either : (m : Entries) (t : TypedRows) (e : Entry) (ready : Bool) → (ready ≡ true → HasRoom t.rows) → AreParts (parts_of m t) → (r : Result (Unit {0}) NoMemory) (n : Entries) (u : TypedRows)
    → IsTaken e ready m t r n u → AreParts (parts_of n u)
kept_either m t e ready room h (Ok x) n u is = subst (λ k. AreParts (parts_of k u)) (sym is.0) (subst (λ k. AreParts (parts_of (fin.insert m e.id e) k)) (sym is.1) (parts_newer (parts_of m t) e ready room h))
kept_either m t e ready room h (Err x) n u is = subst (λ k. AreParts (parts_of k u)) (sym is.0) (subst (λ k. AreParts (parts_of m k)) (sym is.1) h)

pub placed_either : (m : Entries) (t : TypedRows) (e : Entry) (ready : Bool) → (ready ≡ true → HasRoom t.rows) → is_newer e (fin.get m e.id) ≡ true → (r : Result (Unit {0}) NoMemory) (n : Entries) (u : TypedRows)
    → IsTaken e ready m t r n u → OnOk r ((q : List ℕ) → place_in (parts_of n u) q ≡ place_after e ready (parts_of m t) q)
placed_either m t e ready room newer (Ok x) n u is = λ q.
    ap₂ (λ k l. place_in (parts_of k l) q) is.0 is.1 ∙ (place_newer (parts_of m t) e ready room q ∙ place_taken (parts_of m t) e ready newer q)
placed_either m t e ready room newer (Err x) n u is = tt

pub newer_first : (m : Entries) (e : Entry) → fin.get m e.id ≡ None → is_newer e (fin.get m e.id) ≡ true
newer_first m e none = ap (is_newer e) none

-- a first entry that came and was taken back
pub undone : (m : Entries) (e : Entry) → fin.get m e.id ≡ None → fin.remove (with_entry m e) e.id ≡ m
undone m e none = ap (λ n. fin.remove n e.id) (ap (λ o. cond (is_newer e o) (fin.insert m e.id e) m) none) ∙ come_and_gone m e none

-- ---- an entry that comes unready, of a document that isn't ready

pub waits : (m : Entries) (t : TypedRows) (e : Entry) → has_row e.id t.rows ≡ false → parts_of (with_entry m e) t ≡ after_take e false (parts_of m t)
waits m t e none = by_test (is_newer e (fin.get m e.id))
  where
    by_test : (b : Bool) → parts_of (cond b (fin.insert m e.id e) m) t ≡ cond b (with_both (fin.insert m e.id e) (without e.id t.rows) (parts_of m t)) (parts_of m t)
    by_test true = ap (λ rs. with_both (fin.insert m e.id e) rs (parts_of m t)) (sym (without_none e.id t.rows none))
    by_test false = refl

pub kept_waiting : (m : Entries) (t : TypedRows) (e : Entry) → has_row e.id t.rows ≡ false → AreParts (parts_of m t) → AreParts (parts_of (with_entry m e) t)
kept_waiting m t e none h = subst AreParts (sym (waits m t e none)) (by_test (is_newer e (fin.get m e.id)))
  where
    by_test : (b : Bool) → AreParts (cond b (with_both (fin.insert m e.id e) (rows_after t.types false t.rows e) (parts_of m t)) (parts_of m t))
    by_test true = parts_newer (parts_of m t) e false (λ r. absurd (true≢false (sym r))) h
    by_test false = h

pub placed_waiting : (m : Entries) (t : TypedRows) (e : Entry) → has_row e.id t.rows ≡ false → (q : List ℕ) → place_in (parts_of (with_entry m e) t) q ≡ place_after e false (parts_of m t) q
placed_waiting m t e none q = ap (λ p. place_in p q) (waits m t e none) ∙ by_test (is_newer e (fin.get m e.id)) refl
  where
    by_test : (b : Bool) → is_newer e (fin.get m e.id) ≡ b → place_in (after_take e false (parts_of m t)) q ≡ place_after e false (parts_of m t) q
    by_test true is =
        ap (λ p. place_in p q) (after_newer (parts_of m t) e false is) ∙ place_newer (parts_of m t) e false (λ r. absurd (true≢false (sym r))) q
        ∙ place_taken (parts_of m t) e false is q
    by_test false is = ap (λ p. place_in p q) (after_older (parts_of m t) e false is) ∙ place_untaken (parts_of m t) e false is q
