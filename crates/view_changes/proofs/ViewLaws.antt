-- What a change leaves of all nodes.
use Rattle.std.proofs.Common.{◌≡◌, ◌≢◌, ◌⊎◌, inl, inr, ℕ, zero, suc, ◌<◌, ◌==◌, ◌||◌, Bool, true, false, cond, eqb, nat_lt, List, [], ◌∷◌, length, refl, sym, ap, subst, ◌∙◌, arith}
use mathlib.Core.Bool.{true≢false}
use Rattle.std.specs.List.{list_any}
use Rattle.std.proofs.lemmas.Bool.Decides.{nat_tests}
use Rattle.bucket_ids.specs.Buckets.{Low, has_key, covers}
use Rattle.global_ids.specs.Keys.{key_of}
use Rattle.doc_types.specs.SchemaCodes.{Types}
use Rattle.documents.specs.declared.entry.Entry.{Entry}
use Rattle.entry_maps.specs.EntryCodes.{Entries}
use Rattle.document_rows.specs.Rows.{after_body}
use Rattle.view_changes.specs.Views.{NodeView, View, in_regions, meets, adopted, stopped_as, taken, activated, rows_with, at, node_at, is_in_the_way, is_barred, changed}
use Rattle.view_changes.specs.Kept.{IsNode, AreNodes, IsActiveOver, AreNodesApart, IsView, HasBucket}
use Rattle.view_changes.specs.declared.change.LaneChange.{LaneChange}
use Rattle.view_changes.specs.declared.change.LaneChange.TheVariants.{Adopt, Activate, Take, Stop, Start}
use Rattle.view_changes.proofs.RegionLaws.{left, right, key-meets, outer, region-was}
use Rattle.view_changes.proofs.NodeLaws.{node-adopted, node-stopped, node-taken, node-activated}

-- ---- places

pub length-at : (n : ℕ) (f : NodeView → NodeView) (ns : List NodeView) → length (at n f ns) ≡ length ns
length-at n f [] = refl
length-at zero f (x ∷ xs) = refl
length-at (suc n) f (x ∷ xs) = ap suc (length-at n f xs)

pub node-here : (n : ℕ) (f : NodeView → NodeView) (ns : List NodeView) → n < length ns → node_at n (at n f ns) ≡ f (node_at n ns)
node-here n f [] h = absurd (omega arith)
node-here zero f (x ∷ xs) h = refl
node-here (suc n) f (x ∷ xs) h = node-here n f xs (omega arith)

pub node-other : (m n : ℕ) (f : NodeView → NodeView) (ns : List NodeView) → m ≢ n → node_at m (at n f ns) ≡ node_at m ns
node-other m n f [] h = refl
node-other zero zero f (x ∷ xs) h = absurd (h refl)
node-other zero (suc n) f (x ∷ xs) h = refl
node-other (suc m) zero f (x ∷ xs) h = refl
node-other (suc m) (suc n) f (x ∷ xs) h = node-other m n f xs (λ e. h (ap suc e))

nodes-at : (n : ℕ) (f : NodeView → NodeView) → ((x : NodeView) → IsNode x → IsNode (f x)) → (ns : List NodeView) → AreNodes ns → AreNodes (at n f ns)
nodes-at n f k [] h = tt
nodes-at zero f k (x ∷ xs) h = (k x h.0, h.1)
nodes-at (suc n) f k (x ∷ xs) h = (h.0, nodes-at n f k xs h.1)

-- where one node is what it was, or another
pub by_place : (i n : ℕ) (P : Type 0) → (i ≡ n → P) → (i ≢ n → P) → P
by_place i n P f g = by_test (eqb i n) refl
  where
    by_test : (t : Bool) → eqb i n ≡ t → P
    by_test true e = f (grind (arith, nat_tests))
    by_test false e = g (λ is. let same : eqb i n ≡ true = grind (arith, nat_tests) in true≢false (sym same ∙ e))

-- ---- changes that add no region

over-back : (n : ℕ) (f : NodeView → NodeView) → ((x : NodeView) (w key : ℕ) → IsActiveOver w key (f x) → IsActiveOver w key x) → (ns : List NodeView) (i w key : ℕ) → i < length ns → IsActiveOver w key (node_at i (at n f ns)) → IsActiveOver w key (node_at i ns)
over-back n f k ns i w key l h = by_place i n (IsActiveOver w key (node_at i ns)) here (λ ne. subst (IsActiveOver w key) (node-other i n f ns ne) h)
  where
    here : i ≡ n → IsActiveOver w key (node_at i ns)
    here e =
        let there : node_at i (at n f ns) ≡ f (node_at i ns) = subst (λ (m : ℕ). node_at i (at m f ns) ≡ f (node_at i ns)) e (node-here i f ns l) in
        k (node_at i ns) w key (subst (IsActiveOver w key) there h)

apart-at : (n : ℕ) (f : NodeView → NodeView) → ((x : NodeView) (w key : ℕ) → IsActiveOver w key (f x) → IsActiveOver w key x) → (ns : List NodeView) → AreNodesApart ns → AreNodesApart (at n f ns)
apart-at n f k ns h w key i j li lj oi oj =
    let mi : i < length ns = subst (λ m. i < m) (length-at n f ns) li in
    let mj : j < length ns = subst (λ m. j < m) (length-at n f ns) lj in
    h w key i j mi mj (over-back n f k ns i w key mi oi) (over-back n f k ns j w key mj oj)

over-adopted : (v : ℕ) (x : NodeView) (w key : ℕ) → IsActiveOver w key (adopted v x) → IsActiveOver w key x
over-adopted v x w key = by_test (nat_lt x.version v)
  where
    by_test : (t : Bool) → IsActiveOver w key (cond t (record { version = v; stopped = x.stopped; regions = []; rows = [] }) x) → IsActiveOver w key x
    by_test true h = absurd (true≢false (sym h.1))
    by_test false h = h

over-taken : (types : Types) (e : Entry) (x : NodeView) (w key : ℕ) → IsActiveOver w key (taken types e x) → IsActiveOver w key x
over-taken types e x w key = by_test (in_regions x.regions (key_of e.id))
  where
    by_test : (t : Bool) → IsActiveOver w key (cond t (record { version = x.version; stopped = x.stopped; regions = x.regions; rows = after_body types e.id e.body x.rows }) x) → IsActiveOver w key x
    by_test true h = h
    by_test false h = h

-- ---- a region more

-- a node that is over a key of the bucket at its version is in the way
meeting : (b : Low) (key : ℕ) → has_key b key ≡ true → (rs : List Low) → in_regions rs key ≡ true → list_any (meets b) rs ≡ true
meeting b key h [] k = absurd (true≢false (sym k))
meeting b key h (r ∷ rs) k = by_test (meeting b key h rs) (has_key r key) refl k
  where
    or-last : (a c : Bool) → c ≡ true → (a || c) ≡ true
    or-last true c e = refl
    or-last false c e = e

    by_test : (in_regions rs key ≡ true → list_any (meets b) rs ≡ true) → (t : Bool) → has_key r key ≡ t → (t || in_regions rs key) ≡ true → (meets b r || list_any (meets b) rs) ≡ true
    by_test ih true e g = rw (key-meets b r key h e) refl
    by_test ih false e g = or-last (meets b r) (list_any (meets b) rs) (ih g)

in-the-way : (w key : ℕ) (b : Low) (n : NodeView) → has_key b key ≡ true → IsActiveOver w key n → is_in_the_way w b n ≡ true
in-the-way w key b n h o = let v : (n.version == w) ≡ true = (let e : n.version ≡ w = o.0 in grind (arith, nat_tests)) in rw (v, meeting b key h n.regions o.1) refl

not-barred : (n w : ℕ) (b : Low) (ns : List NodeView) → is_barred n w b ns ≡ false → (m : ℕ) → m ≢ n → m < length ns → is_in_the_way w b (node_at m ns) ≡ false
not-barred n w b [] h m ne l = absurd (omega arith)
not-barred zero w b (x ∷ xs) h zero ne l = absurd (ne refl)
not-barred zero w b (x ∷ xs) h (suc m) ne l = none xs h m (omega arith)
  where
    none : (ys : List NodeView) → list_any (is_in_the_way w b) ys ≡ false → (k : ℕ) → k < length ys → is_in_the_way w b (node_at k ys) ≡ false
    none [] h k l = absurd (omega arith)
    none (y ∷ ys) h zero l = left (is_in_the_way w b y) (list_any (is_in_the_way w b) ys) h
    none (y ∷ ys) h (suc k) l = none ys (right (is_in_the_way w b y) (list_any (is_in_the_way w b) ys) h) k (omega arith)
not-barred (suc n) w b (x ∷ xs) h zero ne l = left (is_in_the_way w b x) (is_barred n w b xs) h
not-barred (suc n) w b (x ∷ xs) h (suc m) ne l = not-barred n w b xs (right (is_in_the_way w b x) (is_barred n w b xs) h) m (λ e. ne (ap suc e)) (omega arith)

-- the node was over the key, or the bucket has it
over-activated : (types : Types) (b : Low) (es : Entries) (x : NodeView) (w key : ℕ) → IsActiveOver w key (activated types b es x) → IsActiveOver w key x ⊎ ((x.version ≡ w) × (has_key b key ≡ true))
over-activated types b es x w key = by_test (list_any (λ r. covers r b) x.regions)
  where
    by_key : (s t : Bool) → has_key b key ≡ s → in_regions x.regions key ≡ t → x.version ≡ w → in_regions (b ∷ outer b x.regions) key ≡ true → IsActiveOver w key x ⊎ ((x.version ≡ w) × (has_key b key ≡ true))
    by_key true t e f v h = inr (v, e)
    by_key false true e f v h = inl (v, f)
    by_key false false e f v h = absurd (true≢false (sym h ∙ region-was b key x.regions e f))

    by_test : (t : Bool) → IsActiveOver w key (cond t x (record { version = x.version; stopped = x.stopped; regions = b ∷ outer b x.regions; rows = rows_with types b es x.regions x.rows })) → IsActiveOver w key x ⊎ ((x.version ≡ w) × (has_key b key ≡ true))
    by_test true h = inl h
    by_test false h = by_key (has_key b key) (in_regions x.regions key) refl refl h.0 h.1

apart-activated : (types : Types) (n : ℕ) (b : Low) (es : Entries) (ns : List NodeView) → is_barred n (node_at n ns).version b ns ≡ false → AreNodesApart ns → AreNodesApart (at n (activated types b es) ns)
apart-activated types n b es ns free h w key i j li lj oi oj =
    let mi : i < length ns = subst (λ m. i < m) (length-at n (activated types b es) ns) li in
    let mj : j < length ns = subst (λ m. j < m) (length-at n (activated types b es) ns) lj in
    both (was i mi oi) (was j mj oj) mi mj
  where
    Was : ℕ → Type 0
    Was k = IsActiveOver w key (node_at k ns) ⊎ ((k ≡ n) × ((node_at n ns).version ≡ w) × (has_key b key ≡ true))

    was : (k : ℕ) → k < length ns → IsActiveOver w key (node_at k (at n (activated types b es) ns)) → IsActiveOver w key (node_at k ns) ⊎ ((k ≡ n) × ((node_at n ns).version ≡ w) × (has_key b key ≡ true))
    was k l o = by_place k n _ here (λ ne. inl (subst (IsActiveOver w key) (node-other k n (activated types b es) ns ne) o))
      where
        turn : k ≡ n → IsActiveOver w key (node_at k ns) ⊎ (((node_at k ns).version ≡ w) × (has_key b key ≡ true)) → IsActiveOver w key (node_at k ns) ⊎ ((k ≡ n) × ((node_at n ns).version ≡ w) × (has_key b key ≡ true))
        turn e (inl p) = inl p
        turn e (inr p) = inr (e, subst (λ (m : ℕ). (node_at m ns).version ≡ w) e p.0, p.1)

        here : k ≡ n → IsActiveOver w key (node_at k ns) ⊎ ((k ≡ n) × ((node_at n ns).version ≡ w) × (has_key b key ≡ true))
        here e =
            let there : node_at k (at n (activated types b es) ns) ≡ activated types b es (node_at k ns) = subst (λ (m : ℕ). node_at k (at m (activated types b es) ns) ≡ activated types b es (node_at k ns)) e (node-here k (activated types b es) ns l) in
            turn e (over-activated types b es (node_at k ns) w key (subst (IsActiveOver w key) there o))

    clash : (k : ℕ) → k < length ns → (node_at n ns).version ≡ w → has_key b key ≡ true → IsActiveOver w key (node_at k ns) → k ≡ n
    clash k l v hk o = by_place k n _ (λ e. e) (λ ne. absurd (true≢false (sym (subst (λ (x : ℕ). is_in_the_way x b (node_at k ns) ≡ true) (sym v) (in-the-way w key b (node_at k ns) hk o)) ∙ not-barred n (node_at n ns).version b ns free k ne l)))

    both : IsActiveOver w key (node_at i ns) ⊎ ((i ≡ n) × ((node_at n ns).version ≡ w) × (has_key b key ≡ true)) → IsActiveOver w key (node_at j ns) ⊎ ((j ≡ n) × ((node_at n ns).version ≡ w) × (has_key b key ≡ true)) → i < length ns → j < length ns → i ≡ j
    both (inl p) (inl q) mi mj = h w key i j mi mj p q
    both (inl p) (inr q) mi mj = clash i mi q.1 q.2 p ∙ sym q.0
    both (inr p) (inl q) mi mj = p.0 ∙ sym (clash j mj p.1 p.2 q)
    both (inr p) (inr q) mi mj = p.0 ∙ sym q.0

-- ---- a change

pub view-changed : (v : View) (c : LaneChange) → HasBucket c → IsView v → IsView (changed v c)
view-changed v (Adopt n w) b h = record { many = length-at n (adopted w) v.nodes ∙ h.many; nodes = nodes-at n (adopted w) (node-adopted w) v.nodes h.nodes; apart = apart-at n (adopted w) (over-adopted w) v.nodes h.apart }
view-changed v (Take n e) b h = record { many = length-at n (taken v.types e) v.nodes ∙ h.many; nodes = nodes-at n (taken v.types e) (node-taken v.types e) v.nodes h.nodes; apart = apart-at n (taken v.types e) (over-taken v.types e) v.nodes h.apart }
view-changed v (Stop n) b h = record { many = length-at n (stopped_as true) v.nodes ∙ h.many; nodes = nodes-at n (stopped_as true) (node-stopped true) v.nodes h.nodes; apart = apart-at n (stopped_as true) (λ x w key o. o) v.nodes h.apart }
view-changed v (Start n) b h = record { many = length-at n (stopped_as false) v.nodes ∙ h.many; nodes = nodes-at n (stopped_as false) (node-stopped false) v.nodes h.nodes; apart = apart-at n (stopped_as false) (λ x w key o. o) v.nodes h.apart }
view-changed v (Activate n b es) is h = by_test (is_barred n (node_at n v.nodes).version b v.nodes) refl
  where
    by_test : (t : Bool) → is_barred n (node_at n v.nodes).version b v.nodes ≡ t
        → IsView (record { types = v.types; nodes = cond t v.nodes (at n (activated v.types b es) v.nodes); generation = (changed v (Activate n b es)).generation })
    by_test true e = record { many = h.many; nodes = h.nodes; apart = h.apart }
    by_test false e = record { many = length-at n (activated v.types b es) v.nodes ∙ h.many; nodes = nodes-at n (activated v.types b es) (λ x k. node-activated v.types b es x is k) v.nodes h.nodes; apart = apart-activated v.types n b es v.nodes e h.apart }
