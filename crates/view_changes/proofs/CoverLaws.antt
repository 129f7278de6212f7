-- How often the nodes of a lane that serve cover a key, and how much.
use Rattle.std.proofs.Common.{◌≡◌, ℕ, zero, suc, ◌+◌, ◌<◌, ◌≤◌, ◌^◌, ◌||◌, ◌&&◌, ◌++◌, ◌==◌, Bool, true, false, cond, not, List, [], ◌∷◌, length, drop, get_or, refl, sym, ap, ◌∙◌, add-one, arith}
use mathlib.Core.Bool.{true≢false}
use Rattle.std.specs.List.{AllByRecursion}
use Rattle.std.proofs.lemmas.Bool.Decides.{nat_tests}
use Rattle.bucket_ids.specs.Buckets.{Low, IsBucket, has_key}
use Rattle.coverage.specs.Covering.{times, measure_of}
use Rattle.coverage.proofs.Measures.{bounded}
use Rattle.view_changes.specs.Views.{NodeView, View, in_regions, node_at}
use Rattle.view_changes.specs.Kept.{AreParted, AreNodes, IsActiveOver, AreNodesApart, IsView}
use Rattle.view_changes.specs.Serving.{serves, node_regions, covered_at}

-- regions without a common key have a key once at most
pub times-parted : (rs : List Low) → AreParted rs → (key : ℕ) → times rs key ≡ cond (in_regions rs key) 1 0
times-parted [] p key = refl
times-parted (r ∷ rs) p key = by_test (has_key r key) refl (times-parted rs p.2 key)
  where
    by_test : (t : Bool) → has_key r key ≡ t → times rs key ≡ cond (in_regions rs key) 1 0 → cond t 1 0 + times rs key ≡ cond (t || in_regions rs key) 1 0
    by_test true e ih = let none : ◌≡◌ {A = ℕ} (cond (in_regions rs key) 1 0) 0 = ap (λ t. cond t 1 0) (p.1 key e) in omega (arith, ih, none)
    by_test false e ih = omega (arith, ih)

pub times-append : (xs ys : List Low) (key : ℕ) → times (xs ++ ys) key ≡ times xs key + times ys key
times-append [] ys key = omega arith
times-append (x ∷ xs) ys key = omega (arith, times-append xs ys key)

serving-version : (w : ℕ) (n : NodeView) → serves w n ≡ true → n.version ≡ w
serving-version w n h = by_test (n.version == w) refl h
  where
    by_test : (t : Bool) → (n.version == w) ≡ t → (t && not n.stopped) ≡ true → n.version ≡ w
    by_test true e g = grind (arith, nat_tests)
    by_test false e g = absurd (true≢false (sym g))

tail-apart : (n : NodeView) (ns : List NodeView) → AreNodesApart (n ∷ ns) → AreNodesApart ns
tail-apart n ns h w key i j li lj oi oj = let e : suc i ≡ suc j = h w key (suc i) (suc j) (omega arith) (omega arith) oi oj in omega arith

-- where no node of the version is over a key, no region has it
uncovered : (w key : ℕ) (ns : List NodeView) → AreNodes ns → ((i : ℕ) → i < length ns → IsActiveOver w key (node_at i ns) → ⊥) → times (node_regions w ns) key ≡ 0
uncovered w key [] h f = refl
uncovered w key (n ∷ ns) h f = by_test (serves w n) refl (uncovered w key ns h.1 (λ i l o. f (suc i) (omega (arith, l)) o))
  where
    none : (t : Bool) → in_regions n.regions key ≡ t → serves w n ≡ true → t ≡ false
    none true e s = absurd (f zero (omega arith) (serving-version w n s, e))
    none false e s = refl

    by_test : (t : Bool) → serves w n ≡ t → times (node_regions w ns) key ≡ 0 → times (cond t n.regions [] ++ node_regions w ns) key ≡ 0
    by_test true s ih =
        let no_key : ◌≡◌ {A = ℕ} (cond (in_regions n.regions key) 1 0) 0 = ap (λ t. cond t 1 0) (none (in_regions n.regions key) refl s) in
        omega (arith, ih, no_key, times-parted n.regions (h.0).regions key, times-append n.regions (node_regions w ns) key)
    by_test false s ih = ih

-- the nodes of one version cover a key once at most
pub nodes-once : (w key : ℕ) (ns : List NodeView) → AreNodes ns → AreNodesApart ns → times (node_regions w ns) key ≤ 1
nodes-once w key [] h a = omega arith
nodes-once w key (n ∷ ns) h a = by_test (serves w n) refl (nodes-once w key ns h.1 (tail-apart n ns a))
  where
    split : times (n.regions ++ node_regions w ns) key ≡ times n.regions key + times (node_regions w ns) key
    split = times-append n.regions (node_regions w ns) key

    by_key : (t : Bool) → in_regions n.regions key ≡ t → serves w n ≡ true → times (node_regions w ns) key ≤ 1 → times (n.regions ++ node_regions w ns) key ≤ 1
    by_key true e s ih =
        let rest : times (node_regions w ns) key ≡ 0 = uncovered w key ns h.1 (λ i l o. let same : zero ≡ suc i = a w key zero (suc i) (omega arith) (omega (arith, l)) (serving-version w n s, e) o in absurd (omega arith)) in
        let here : ◌≡◌ {A = ℕ} (cond (in_regions n.regions key) 1 0) 1 = ap (λ t. cond t 1 0) e in
        omega (arith, split, rest, here, times-parted n.regions (h.0).regions key)
    by_key false e s ih =
        let here : ◌≡◌ {A = ℕ} (cond (in_regions n.regions key) 1 0) 0 = ap (λ t. cond t 1 0) e in
        omega (arith, split, ih, here, times-parted n.regions (h.0).regions key)

    by_test : (t : Bool) → serves w n ≡ t → times (node_regions w ns) key ≤ 1 → times (cond t n.regions [] ++ node_regions w ns) key ≤ 1
    by_test true s ih = by_key (in_regions n.regions key) refl s ih
    by_test false s ih = ih

pub buckets-append : (xs ys : List Low) → AllByRecursion IsBucket xs → AllByRecursion IsBucket ys → AllByRecursion IsBucket (xs ++ ys)
buckets-append [] ys a b = b
buckets-append (x ∷ xs) ys a b = (a.0, buckets-append xs ys a.1 b)

buckets-parted : (rs : List Low) → AreParted rs → AllByRecursion IsBucket rs
buckets-parted [] p = tt
buckets-parted (r ∷ rs) p = (p.0, buckets-parted rs p.2)

pub buckets-nodes : (w : ℕ) (ns : List NodeView) → AreNodes ns → AllByRecursion IsBucket (node_regions w ns)
buckets-nodes w [] h = tt
buckets-nodes w (n ∷ ns) h = by_test (buckets-nodes w ns h.1) (serves w n)
  where
    by_test : AllByRecursion IsBucket (node_regions w ns) → (t : Bool) → AllByRecursion IsBucket (cond t n.regions [] ++ node_regions w ns)
    by_test ih true = buckets-append n.regions (node_regions w ns) (buckets-parted n.regions (h.0).regions) ih
    by_test ih false = ih

-- a view's nodes cover no more than all keys
pub view-bounded : (w : ℕ) (v : View) → IsView v → covered_at w v ≤ 2 ^ 58
view-bounded w v h = bounded (node_regions w v.nodes) (buckets-nodes w v.nodes h.nodes) (λ key l. nodes-once w key v.nodes h.nodes h.apart)

-- ---- measures, one after the other

pub measure-append : (xs ys : List Low) → measure_of (xs ++ ys) ≡ measure_of xs + measure_of ys
measure-append [] ys = omega arith
measure-append (x ∷ xs) ys = omega (arith, measure-append xs ys)
