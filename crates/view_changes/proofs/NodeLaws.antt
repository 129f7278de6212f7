-- What a change leaves of one node: its regions stay without a common key, its documents inside them, each once.
use Rattle.std.proofs.Common.{◌≡◌, ℕ, ◌&&◌, Bool, true, false, cond, nat_lt, List, [], ◌∷◌, filter, fold, Option, None, Some, refl, sym, subst}
use Rattle.std.specs.List.{list_any}
use Rattle.std.specs.Str.{bytes_eq}
use Rattle.bucket_ids.specs.Buckets.{Low, IsBucket, has_key, covers}
use Rattle.global_ids.specs.Keys.{key_of}
use Rattle.doc_types.specs.SchemaCodes.{Types}
use Rattle.documents.specs.Fields.{Contents}
use Rattle.documents.specs.declared.entry.Entry.{Entry}
use Rattle.entry_maps.specs.EntryCodes.{Entries}
use Rattle.document_rows.specs.Rows.{Rows, has_row, free_place, put_free, replaced, without, fitted, with_document, after_body, taken_into, AreDistinct}
use Rattle.view_changes.specs.Views.{NodeView, in_regions, adopted, stopped_as, taken, is_fresh, listed, rows_with, activated}
use Rattle.view_changes.specs.Kept.{AreInside, IsNode}
use Rattle.document_rows.proofs.RowLaws.{same_id, distinct-replaced, distinct-without, distinct-put}
use Rattle.view_changes.proofs.RegionLaws.{outer, region-stays, parted-more}

-- ---- documents stay inside

inside-without : (rs : List Low) (id : List ℕ) (rows : Rows) → AreInside rs rows → AreInside rs (without id rows)
inside-without rs id [] h = tt
inside-without rs id (None ∷ rows) h = inside-without rs id rows h
inside-without rs id (Some e ∷ rows) h = by_test (bytes_eq e.id id) (inside-without rs id rows h.1)
  where
    by_test : (t : Bool) → AreInside rs (without id rows) → AreInside rs (cond t None (Some e) ∷ without id rows)
    by_test true ih = ih
    by_test false ih = (h.0, ih)

inside-replaced : (rs : List Low) (d : Contents) (rows : Rows) → in_regions rs (key_of d.id) ≡ true → AreInside rs rows → AreInside rs (replaced d rows)
inside-replaced rs d [] k h = tt
inside-replaced rs d (None ∷ rows) k h = inside-replaced rs d rows k h
inside-replaced rs d (Some e ∷ rows) k h = by_test (bytes_eq e.id d.id) (inside-replaced rs d rows k h.1)
  where
    by_test : (t : Bool) → AreInside rs (replaced d rows) → AreInside rs (cond t (Some d) (Some e) ∷ replaced d rows)
    by_test true ih = (k, ih)
    by_test false ih = (h.0, ih)

inside-put : (rs : List Low) (d : Contents) (rows : Rows) → in_regions rs (key_of d.id) ≡ true → AreInside rs rows → AreInside rs (put_free d rows)
inside-put rs d [] k h = (k, tt)
inside-put rs d (None ∷ rows) k h = (k, h)
inside-put rs d (Some e ∷ rows) k h = (h.0, inside-put rs d rows k h.1)

pub record AreSound (rs : List Low) (rows : Rows) : Type 0 where
  pub inside : AreInside rs rows
  pub distinct : AreDistinct rows

-- ---- one entry

sound-with : (rs : List Low) (d : Contents) (rows : Rows) → in_regions rs (key_of d.id) ≡ true → AreSound rs rows → AreSound rs (with_document d rows)
sound-with rs d rows k h = by_tests (has_row d.id rows) (nat_lt (free_place rows) 4294967295) refl
  where
    by_tests : (t u : Bool) → has_row d.id rows ≡ t → AreSound rs (cond t (replaced d rows) (cond u (put_free d rows) rows))
    by_tests true u e = record { inside = inside-replaced rs d rows k h.inside; distinct = distinct-replaced d rows h.distinct }
    by_tests false true e = record { inside = inside-put rs d rows k h.inside; distinct = distinct-put d rows e h.distinct }
    by_tests false false e = h

sound-without : (rs : List Low) (id : List ℕ) (rows : Rows) → AreSound rs rows → AreSound rs (without id rows)
sound-without rs id rows h = record { inside = inside-without rs id rows h.inside; distinct = distinct-without id rows h.distinct }

pub sound-body : (types : Types) (rs : List Low) (id : List ℕ) (body : Option Contents) (rows : Rows) → in_regions rs (key_of id) ≡ true → AreSound rs rows → AreSound rs (after_body types id body rows)
sound-body types rs id None rows k h = sound-without rs id rows h
sound-body types rs id (Some d) rows k h = by_test (bytes_eq d.id id) refl
  where
    by_test : (t : Bool) → bytes_eq d.id id ≡ t → AreSound rs (cond t (with_document (fitted types d) rows) (without id rows))
    by_test true e = sound-with rs (fitted types d) rows (subst (λ x. in_regions rs (key_of x) ≡ true) (sym (same_id d.id id e)) k) h
    by_test false e = sound-without rs id rows h

-- ---- many entries

AllIn : Low → List Entry → Type 0
AllIn b [] = Unit {0}
AllIn b (e ∷ es) = (has_key b (key_of e.id) ≡ true) × AllIn b es

first : (a b : Bool) → (a && b) ≡ true → a ≡ true
first true b h = refl
first false b h = h

fresh-in : (b : Low) (rs : List Low) (es : List Entry) → AllIn b (filter (is_fresh b rs) es)
unfolding AllIn
fresh-in b rs [] = tt
fresh-in b rs (e ∷ es) = by_test (is_fresh b rs e) refl (fresh-in b rs es)
  where
    by_test : (t : Bool) → is_fresh b rs e ≡ t → AllIn b (filter (is_fresh b rs) es) → AllIn b (cond t (e ∷ filter (is_fresh b rs) es) (filter (is_fresh b rs) es))
    by_test true is ih = (first (has_key b (key_of e.id)) _ is, ih)
    by_test false is ih = ih

sound-all : (types : Types) (b : Low) (rs : List Low) (es : List Entry) → AllIn b es → (rows : Rows) → AreSound (b ∷ rs) rows → AreSound (b ∷ rs) (fold (taken_into types) rows es)
unfolding AllIn
sound-all types b rs [] i rows h = h
sound-all types b rs (e ∷ es) i rows h =
    sound-all types b rs es i.1 (taken_into types rows e) (sound-body types (b ∷ rs) e.id e.body rows (rw i.0 refl) h)

inside-more : (b : Low) (rs : List Low) (rows : Rows) → AreInside rs rows → AreInside (b ∷ outer b rs) rows
inside-more b rs [] h = tt
inside-more b rs (None ∷ rows) h = inside-more b rs rows h
inside-more b rs (Some d ∷ rows) h = (region-stays b (key_of d.id) rs h.0, inside-more b rs rows h.1)

-- ---- a node

sound-of : (n : NodeView) → IsNode n → AreSound n.regions n.rows
sound-of n h = record { inside = h.inside; distinct = h.distinct }

pub node-adopted : (w : ℕ) (n : NodeView) → IsNode n → IsNode (adopted w n)
node-adopted w n h = by_test (nat_lt n.version w)
  where
    by_test : (t : Bool) → IsNode (cond t (record { version = w; stopped = n.stopped; regions = []; rows = [] }) n)
    by_test true = record { regions = tt; inside = tt; distinct = tt }
    by_test false = h

pub node-stopped : (s : Bool) (n : NodeView) → IsNode n → IsNode (stopped_as s n)
node-stopped s n h = record { regions = h.regions; inside = h.inside; distinct = h.distinct }

pub node-taken : (types : Types) (e : Entry) (n : NodeView) → IsNode n → IsNode (taken types e n)
node-taken types e n h = by_test (in_regions n.regions (key_of e.id)) refl
  where
    by_test : (t : Bool) → in_regions n.regions (key_of e.id) ≡ t
        → IsNode (cond t (record { version = n.version; stopped = n.stopped; regions = n.regions; rows = after_body types e.id e.body n.rows }) n)
    by_test true is = let s = sound-body types n.regions e.id e.body n.rows is (sound-of n h) in record { regions = h.regions; inside = s.inside; distinct = s.distinct }
    by_test false is = h

pub node-activated : (types : Types) (b : Low) (es : Entries) (n : NodeView) → IsBucket b → IsNode n → IsNode (activated types b es n)
node-activated types b es n is h = by_test (list_any (λ r. covers r b) n.regions) refl
  where
    more : AreSound (b ∷ outer b n.regions) n.rows
    more = record { inside = inside-more b n.regions n.rows h.inside; distinct = h.distinct }

    rows : AreSound (b ∷ outer b n.regions) (rows_with types b es n.regions n.rows)
    rows = sound-all types b (outer b n.regions) (filter (is_fresh b n.regions) (listed es)) (fresh-in b n.regions (listed es)) n.rows more

    by_test : (t : Bool) → list_any (λ r. covers r b) n.regions ≡ t
        → IsNode (cond t n (record { version = n.version; stopped = n.stopped; regions = b ∷ outer b n.regions; rows = rows_with types b es n.regions n.rows }))
    by_test true e = h
    by_test false e = record { regions = parted-more b n.regions is e h.regions; inside = rows.inside; distinct = rows.distinct }
