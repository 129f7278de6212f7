-- That a deed of a node finds room in its view, where the node then has fewer than 2^32 - 1 entries.
use Rattle.std.proofs.Common.{◌≡◌, ℕ, ◌<◌, ◌||◌, Bool, true, false, cond, List, [], ◌∷◌, filter, Option, None, Some, is_some, refl, sym, ap, ◌∙◌}
use mathlib.Core.Bool.{true≢false}
use Rattle.std.specs.Str.{bytes_eq}
use Rattle.std.specs.FinMap as fin
use Rattle.bucket_ids.specs.Buckets.{Low}
use Rattle.global_ids.specs.Keys.{key_of}
use Rattle.doc_types.specs.SchemaCodes.{Types}
use Rattle.documents.specs.declared.entry.Entry.{Entry}
use Rattle.entry_maps.specs.EntryCodes.{Entries}
use Rattle.entry_maps.specs.Entries.{is_newer, newer_of, in_bucket}
use Rattle.entry_maps.specs.Joins.{joined}
use Rattle.entry_maps.proofs.JoinLaws.{get-joined}
use Rattle.document_rows.specs.Rows.{Rows, has_row, document_of}
use Rattle.view_changes.specs.Views.{NodeView, in_regions, is_fresh, listed}
use Rattle.view_changes.specs.Kept.{IsNode}
use Rattle.view_changes.specs.Shown.{shown, Keeping, ShowsNode, AreOwn}
use Rattle.view_changes.specs.Room.{AllAt, AllHave}
use Rattle.view_changes.specs.Deeds.{RoomAlong, is_seen}
use Rattle.view_changes.proofs.DeedLaws.{first, filter-at, listed-at, get-within, own-within}
use Rattle.view_changes.proofs.RoomLaws.{room-along, same_ids}

there-some : (q : List ℕ) (rows : Rows) → has_row q rows ≡ true → is_some (document_of q rows) ≡ true
there-some q [] h = h
there-some q (None ∷ rows) h = there-some q rows h
there-some q (Some d ∷ rows) h = by_test (bytes_eq d.id q) h (there-some q rows)
  where
    by_test : (t : Bool) → (t || has_row q rows) ≡ true → (has_row q rows ≡ true → is_some (document_of q rows) ≡ true) → is_some (cond t (Some d) (document_of q rows)) ≡ true
    by_test true k ih = refl
    by_test false k ih = ih k

-- what a view shows of a node, its entries have
pub shown-have : (types : Types) (k : Keeping) (s : Bool) (n : NodeView) → ShowsNode types k s n → AllHave k.entries n.rows
shown-have types k s n h q there = by_tests (in_regions k.regions (key_of q)) (fin.get k.entries q) (ap is_some (sym (h.documents_are q)) ∙ there-some q n.rows there)
  where
    by_tests : (t : Bool) (o : Option Entry) → is_some (cond t (shown types q o) None) ≡ true → is_some o ≡ true
    by_tests true None e = e
    by_tests true (Some x) e = refl
    by_tests false o e = absurd (true≢false (sym e))

-- ---- a region more

within-all : (m : Entries) (b : Low) (es : List Entry) → AllAt (fin.retain_keys m (in_bucket b)) es → AllAt m es
within-all m b [] h = tt
within-all m b (e ∷ es) h = (by_test (in_bucket b e.id) (sym (get-within m b e.id) ∙ h.0), within-all m b es h.1)
  where
    by_test : (t : Bool) → cond t (fin.get m e.id) None ≡ Some e → fin.get m e.id ≡ Some e
    by_test true g = g
    by_test false g = let f : None ≡ Some e = g in cc

pub room-activated : (types : Types) (k : Keeping) (s : Bool) (n : NodeView) (b : Low) → AreOwn k.entries → IsNode n → ShowsNode types k s n → fin.len k.entries < 4294967295
    → RoomAlong types (filter (is_fresh b k.regions) (listed (fin.retain_keys k.entries (in_bucket b)))) n.rows
room-activated types k s n b own node h few =
    room-along same_ids types k.entries (filter (is_fresh b k.regions) (listed (fin.retain_keys k.entries (in_bucket b))))
    (within-all k.entries b (filter (is_fresh b k.regions) (listed (fin.retain_keys k.entries (in_bucket b)))) (filter-at (fin.retain_keys k.entries (in_bucket b)) (is_fresh b k.regions) (listed (fin.retain_keys k.entries (in_bucket b))) (listed-at (fin.retain_keys k.entries (in_bucket b)) (own-within k.entries b own))))
    few n.rows node.distinct (shown-have types k s n h)

-- ---- entries that are merged in

seen-joined : (k : Keeping) (es : Entries) (xs : List Entry) → AllAt es xs → AllAt (joined k.entries es) (filter (is_seen k) xs)
seen-joined k es [] h = tt
seen-joined k es (e ∷ xs) h = by_test (is_seen k e) refl (seen-joined k es xs h.1)
  where
    its : is_seen k e ≡ true → fin.get (joined k.entries es) e.id ≡ Some e
    its seen =
        let new : is_newer e (fin.get k.entries e.id) ≡ true = first (is_newer e (fin.get k.entries e.id)) (in_regions k.regions (key_of e.id)) seen in
        get-joined k.entries es e.id ∙ (ap (newer_of (fin.get k.entries e.id)) h.0 ∙ ap (λ t. cond t (Some e) (fin.get k.entries e.id)) new)

    by_test : (t : Bool) → is_seen k e ≡ t → AllAt (joined k.entries es) (filter (is_seen k) xs) → AllAt (joined k.entries es) (cond t (e ∷ filter (is_seen k) xs) (filter (is_seen k) xs))
    by_test true seen ih = (its seen, ih)
    by_test false seen ih = ih

have-joined : (m es : Entries) (rows : Rows) → AllHave m rows → AllHave (joined m es) rows
have-joined m es rows h q there = ap is_some (get-joined m es q) ∙ by_maps (fin.get m q) (fin.get es q) (h q there)
  where
    by_new : (t : Bool) (x e : Entry) → is_some (cond t (Some e) (Some x)) ≡ true
    by_new true x e = refl
    by_new false x e = refl

    by_maps : (a b : Option Entry) → is_some a ≡ true → is_some (newer_of a b) ≡ true
    by_maps a None e = e
    by_maps None (Some y) e = absurd (true≢false (sym e))
    by_maps (Some x) (Some y) e = by_new (is_newer y (Some x)) x y

pub room-united : (types : Types) (k : Keeping) (s : Bool) (n : NodeView) (es : Entries) → AreOwn es → IsNode n → ShowsNode types k s n → fin.len (joined k.entries es) < 4294967295
    → RoomAlong types (filter (is_seen k) (listed es)) n.rows
room-united types k s n es own node h few =
    room-along same_ids types (joined k.entries es) (filter (is_seen k) (listed es)) (seen-joined k es (listed es) (listed-at es own)) few n.rows node.distinct
    (have-joined k.entries es n.rows (shown-have types k s n h))
