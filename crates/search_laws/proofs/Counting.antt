-- How often documents are counted, and keys covered.
use Rattle.std.proofs.Common.{◌≡◌, ◌⊎◌, inl, inr, ℕ, zero, suc, ◌+◌, ◌<◌, ◌≤◌, ◌^◌, ◌||◌, ◌++◌, Bool, true, false, cond, List, [], ◌∷◌, None, Some, refl, sym, ap, subst, ◌∙◌, arith}
use mathlib.Core.Bool.{true≢false}
use Rattle.std.specs.List.{AllByRecursion}
use Rattle.std.specs.Str.{bytes_eq}
use Rattle.bucket_ids.specs.Buckets.{Low, IsBucket, has_key}
use Rattle.global_ids.specs.Keys.{key_of}
use Rattle.document_rows.specs.Rows.{Rows, is_of, has_row, AreDistinct}
use Rattle.view_changes.specs.Views.{NodeView, in_regions}
use Rattle.view_changes.specs.Kept.{AreInside, AreNodes}
use Rattle.document_rows.proofs.RowLaws.{same_id}
use Rattle.coverage.specs.Covering.{times}
use Rattle.coverage.proofs.Measures.{bounded, whole}
use Rattle.view_changes.specs.Serving.{serves, node_regions}
use Rattle.view_changes.proofs.CoverLaws.{times-parted, times-append, nodes-once, buckets-append, buckets-nodes}
use Rattle.search_laws.specs.Searches.{Seen, places, node_places, times_counted, serving_regions, covered, LieIn, NoneHas, AreLanes, SomeNode, SomeSeen, EachNode, EachSeen}

one : Bool → ℕ
one t = cond t 1 0

-- ---- one node

pub none-there : (id : List ℕ) (rows : Rows) → has_row id rows ≡ false → places id rows ≡ 0
none-there id [] h = refl
none-there id (r ∷ rows) h = by_test (is_of id r) h (none-there id rows)
  where
    by_test : (t : Bool) → (t || has_row id rows) ≡ false → (has_row id rows ≡ false → places id rows ≡ 0) → cond t 1 0 + places id rows ≡ 0
    by_test true k ih = absurd (true≢false k)
    by_test false k ih = omega (arith, ih k)

-- a document stands there once at most, and only in a region
once-there : (rs : List Low) (id : List ℕ) (rows : Rows) → AreDistinct rows → AreInside rs rows → places id rows ≤ cond (in_regions rs (key_of id)) 1 0
once-there rs id [] d i = at_least (in_regions rs (key_of id))
  where
    at_least : (t : Bool) → 0 ≤ cond t 1 0
    at_least true = omega arith
    at_least false = omega arith
once-there rs id (None ∷ rows) d i = let ih = once-there rs id rows d i in omega arith
once-there rs id (Some e ∷ rows) d i = by_test (bytes_eq e.id id) refl (once-there rs id rows d.1 i.1)
  where
    by_test : (t : Bool) → bytes_eq e.id id ≡ t → places id rows ≤ cond (in_regions rs (key_of id)) 1 0 → cond t 1 0 + places id rows ≤ cond (in_regions rs (key_of id)) 1 0
    by_test true is ih =
        let same : e.id ≡ id = same_id e.id id is in
        let in_region : in_regions rs (key_of id) ≡ true = subst (λ (x : List ℕ). in_regions rs (key_of x) ≡ true) same i.0 in
        let rest : places id rows ≡ 0 = none-there id rows (subst (λ (x : List ℕ). has_row x rows ≡ false) same d.0) in
        let all : ◌≡◌ {A = ℕ} (cond (in_regions rs (key_of id)) 1 0) 1 = ap (λ t. cond t 1 0) in_region in
        omega (arith, rest, all)
    by_test false is ih = omega (arith, ih)

-- ---- the nodes of a lane

-- a document is times_counted no more often than its key is covered
pub nodes-times_counted : (w : ℕ) (id : List ℕ) (ns : List NodeView) → AreNodes ns → node_places w id ns ≤ times (node_regions w ns) (key_of id)
nodes-times_counted w id [] h = omega arith
nodes-times_counted w id (n ∷ ns) h = by_test (serves w n) (nodes-times_counted w id ns h.1)
  where
    by_test : (t : Bool) → node_places w id ns ≤ times (node_regions w ns) (key_of id) → cond t (places id n.rows) 0 + node_places w id ns ≤ times (cond t n.regions [] ++ node_regions w ns) (key_of id)
    by_test true ih =
        let here : places id n.rows ≤ cond (in_regions n.regions (key_of id)) 1 0 = once-there n.regions id n.rows (h.0).distinct (h.0).inside in
        let parted : times n.regions (key_of id) ≡ cond (in_regions n.regions (key_of id)) 1 0 = times-parted n.regions (h.0).regions (key_of id) in
        let sum : times (n.regions ++ node_regions w ns) (key_of id) ≡ times n.regions (key_of id) + times (node_regions w ns) (key_of id) = times-append n.regions (node_regions w ns) (key_of id) in
        omega (arith, ih, here, parted, sum)
    by_test false ih = omega (arith, ih)

-- only keys of the lane are covered
outside-lane : (w key : ℕ) (lane : Low) (ns : List NodeView) → AreNodes ns → LieIn lane ns → has_key lane key ≡ false → times (node_regions w ns) key ≡ 0
outside-lane w key lane [] h i no_lane = refl
outside-lane w key lane (n ∷ ns) h i no_lane = by_test (serves w n) (outside-lane w key lane ns h.1 i.1 no_lane)
  where
    none : (t : Bool) → in_regions n.regions key ≡ t → t ≡ false
    none true e = absurd (true≢false (sym (i.0 key e) ∙ no_lane))
    none false e = refl

    by_test : (t : Bool) → times (node_regions w ns) key ≡ 0 → times (cond t n.regions [] ++ node_regions w ns) key ≡ 0
    by_test true ih =
        let no_key : ◌≡◌ {A = ℕ} (cond (in_regions n.regions key) 1 0) 0 = ap (λ t. cond t 1 0) (none (in_regions n.regions key) refl) in
        omega (arith, ih, no_key, times-parted n.regions (h.0).regions key, times-append n.regions (node_regions w ns) key)
    by_test false ih = ih

-- ---- all lanes

lanes-outside : (w key : ℕ) (ls : List Seen) → AreLanes ls → NoneHas key ls → times (serving_regions w ls) key ≡ 0
lanes-outside w key [] h o = refl
lanes-outside w key (l ∷ ls) h o =
    omega (arith, lanes-outside w key ls h.3 o.1, outside-lane w key l.lane (l.view).nodes (h.0).nodes h.1 o.0, times-append (node_regions w (l.view).nodes) (serving_regions w ls) key)

pub lanes-once : (w key : ℕ) (ls : List Seen) → AreLanes ls → times (serving_regions w ls) key ≤ 1
lanes-once w key [] h = omega arith
lanes-once w key (l ∷ ls) h = by_test (lanes-once w key ls h.3) (has_key l.lane key) refl
  where
    split : times (node_regions w (l.view).nodes ++ serving_regions w ls) key ≡ times (node_regions w (l.view).nodes) key + times (serving_regions w ls) key
    split = times-append (node_regions w (l.view).nodes) (serving_regions w ls) key

    by_test : times (serving_regions w ls) key ≤ 1 → (t : Bool) → has_key l.lane key ≡ t → times (serving_regions w (l ∷ ls)) key ≤ 1
    by_test ih true e = omega (arith, split, nodes-once w key (l.view).nodes (h.0).nodes (h.0).apart, lanes-outside w key ls h.3 (h.2 key e))
    by_test ih false e = omega (arith, split, outside-lane w key l.lane (l.view).nodes (h.0).nodes h.1 e, ih)

pub lanes-times_counted : (w : ℕ) (id : List ℕ) (ls : List Seen) → AreLanes ls → times_counted w id ls ≤ times (serving_regions w ls) (key_of id)
lanes-times_counted w id [] h = omega arith
lanes-times_counted w id (l ∷ ls) h =
    omega (arith, nodes-times_counted w id (l.view).nodes (h.0).nodes, lanes-times_counted w id ls h.3, times-append (node_regions w (l.view).nodes) (serving_regions w ls) (key_of id))

-- each document is times_counted once at most
pub times_counted-once : (w : ℕ) (id : List ℕ) (ls : List Seen) → AreLanes ls → times_counted w id ls ≤ 1
times_counted-once w id ls h = omega (arith, lanes-times_counted w id ls h, lanes-once w (key_of id) ls h)

-- ---- the measures of regions

pub buckets-lanes : (w : ℕ) (ls : List Seen) → AreLanes ls → AllByRecursion IsBucket (serving_regions w ls)
buckets-lanes w [] h = tt
buckets-lanes w (l ∷ ls) h = buckets-append (node_regions w (l.view).nodes) (serving_regions w ls) (buckets-nodes w (l.view).nodes (h.0).nodes) (buckets-lanes w ls h.3)

pub covered-bounded : (w : ℕ) (ls : List Seen) → AreLanes ls → covered w ls ≤ 2 ^ 58
covered-bounded w ls h = bounded (serving_regions w ls) (buckets-lanes w ls h) (λ key l. lanes-once w key ls h)

pub all-covered : (w : ℕ) (ls : List Seen) → AreLanes ls → covered w ls ≡ 2 ^ 58 → (key : ℕ) → key < 2 ^ 58 → times (serving_regions w ls) key ≡ 1
all-covered w ls h full = whole (serving_regions w ls) (buckets-lanes w ls h) (λ key l. lanes-once w key ls h) full

-- ---- who covers a key

covering-node : (w key : ℕ) (P : NodeView → Type 0) (ns : List NodeView) → AreNodes ns → EachNode w P ns → 1 ≤ times (node_regions w ns) key → SomeNode w key P ns
covering-node w key P [] h f c = absurd (omega arith)
covering-node w key P (n ∷ ns) h f c = by_tests (serves w n) (in_regions n.regions key) refl refl c (covering-node w key P ns h.1 f.1)
  where
    by_tests : (s t : Bool) → serves w n ≡ s → in_regions n.regions key ≡ t → 1 ≤ times (cond s n.regions [] ++ node_regions w ns) key → (1 ≤ times (node_regions w ns) key → SomeNode w key P ns)
        → ((serves w n ≡ true) × (in_regions n.regions key ≡ true) × P n) ⊎ SomeNode w key P ns
    by_tests true true s e d ih = inl (s, e, f.0 s)
    by_tests true false s e d ih =
        let here : ◌≡◌ {A = ℕ} (cond (in_regions n.regions key) 1 0) 0 = ap (λ t. cond t 1 0) e in
        inr (ih (omega (arith, d, here, times-parted n.regions (h.0).regions key, times-append n.regions (node_regions w ns) key)))
    by_tests false t s e d ih = inr (ih d)

covering-lane : (w key : ℕ) (P : NodeView → Type 0) (ls : List Seen) → AreLanes ls → EachSeen w P ls → 1 ≤ times (serving_regions w ls) key → SomeSeen w key P ls
covering-lane w key P [] h f c = absurd (omega arith)
covering-lane w key P (l ∷ ls) h f c = by_lane (times (node_regions w (l.view).nodes) key) refl (covering-lane w key P ls h.3 f.1)
  where
    by_lane : (k : ℕ) → times (node_regions w (l.view).nodes) key ≡ k → (1 ≤ times (serving_regions w ls) key → SomeSeen w key P ls) → SomeNode w key P (l.view).nodes ⊎ SomeSeen w key P ls
    by_lane zero e ih = inr (ih (omega (arith, c, times-append (node_regions w (l.view).nodes) (serving_regions w ls) key)))
    by_lane (suc k) e ih = inl (covering-node w key P (l.view).nodes (h.0).nodes f.0 (omega arith))

-- at full coverage each key lies in a region of a node that serves, and what holds of such nodes holds of it
pub found-at-full : (w : ℕ) (P : NodeView → Type 0) (ls : List Seen) → AreLanes ls → EachSeen w P ls → covered w ls ≡ 2 ^ 58 → (key : ℕ) → key < 2 ^ 58 → SomeSeen w key P ls
found-at-full w P ls h f full key low = covering-lane w key P ls h f (omega (arith, all-covered w ls h full key low))
