-- That the view of a lane shows its nodes, step by step.
use Rattle.std.proofs.Common.{◌≡◌, ◌≢◌, ℕ, zero, suc, ◌<◌, ◌^◌, ◌%◌, ◌==◌, ◌||◌, ◌&&◌, Bool, true, false, cond, eqb, not, nat_lt, nat_le, List, [], ◌∷◌, filter, fold, length, Option, None, Some, refl, sym, ap, subst, ◌∙◌, arith}
use mathlib.Core.Bool.{true≢false}
use Rattle.std.specs.List.{list_any}
use Rattle.std.specs.FinMap as fin
use Rattle.std.specs.FinMap.{get-retain_keys, slice_cmp-IsAntisymmetric, nat_cmp-IsAntisymmetric}
use Rattle.std.proofs.lemmas.Bool.Decides.{nat_tests}
use Rattle.std.proofs.Math.Nat.{mod-eq_of_lt}
use Rattle.bucket_ids.specs.Buckets.{Low, IsBucket, has_key, covers}
use Rattle.global_ids.specs.Keys.{key_of}
use Rattle.doc_types.specs.SchemaCodes.{Types}
use Rattle.documents.specs.declared.entry.Entry.{Entry}
use Rattle.entry_maps.specs.Entries.{is_newer, in_bucket}
use Rattle.entry_maps.specs.Joins.{joined}
use Rattle.view_changes.specs.Views.{NodeView, View, in_regions, meets, adopted, taken, activated, listed, at, node_at, is_in_the_way, is_barred, changed, view_after}
use Rattle.view_changes.specs.Kept.{AreParted, IsNode, AreNodes, IsActiveOver, IsView}
use Rattle.view_changes.specs.Shown.{Keeping, ShowsNode, adopt, activate}
use Rattle.view_changes.specs.Deeds.{NodeDeed, Looks, Stores, Unites, Drops, Activates, with_entries, after_deed, is_seen, takes, changes_of, adoption, RoomAlong, MayDo, ViewShows, with_node}
use Rattle.view_changes.specs.declared.change.LaneChange.TheVariants.{Adopt, Activate, Take}
use Rattle.view_changes.proofs.RegionLaws.{either}
use Rattle.view_changes.proofs.ViewLaws.{length-at, node-here, node-other}
use Rattle.view_changes.proofs.ShownLaws.{shows-adopted, shows-taken, shows-outside}
use Rattle.view_changes.proofs.DeedLaws.{second, shows-same, shows-united, shows-activated}

-- ---- one node changes

-- a change of one node that keeps the types
pub one-changed : (n : ℕ) (f : NodeView → NodeView) (ks : ℕ → Keeping) (stopped : ℕ → Bool) (v w : View) (y : Keeping) → w.types ≡ v.types → w.nodes ≡ at n f v.nodes → ViewShows ks stopped v
    → (n < length v.nodes → ShowsNode v.types (ks n) (stopped n) (node_at n v.nodes) → ShowsNode v.types y (stopped n) (f (node_at n v.nodes))) → ViewShows (with_node n y ks) stopped w
one-changed n f ks stopped v w y types nodes h step m l =
    let long : m < length v.nodes = subst (λ (x : ℕ). m < x) (ap length nodes ∙ length-at n f v.nodes) l in
    subst (λ (t : Types). ShowsNode t (with_node n y ks m) (stopped m) (node_at m w.nodes)) (sym types)
    (subst (λ (ns : List NodeView). ShowsNode v.types (with_node n y ks m) (stopped m) (node_at m ns)) (sym nodes) (by_test long (eqb m n) refl))
  where
    by_test : m < length v.nodes → (t : Bool) → eqb m n ≡ t → ShowsNode v.types (cond t y (ks m)) (stopped m) (node_at m (at n f v.nodes))
    by_test long true e =
        let same : m ≡ n = grind (arith, nat_tests) in
        let here : ShowsNode v.types y (stopped n) (node_at n (at n f v.nodes)) = (let short : n < length v.nodes = subst (λ (x : ℕ). x < length v.nodes) same long in subst (λ (x : NodeView). ShowsNode v.types y (stopped n) x) (sym (node-here n f v.nodes short)) (step short (h n short))) in
        subst (λ (x : ℕ). ShowsNode v.types y (stopped x) (node_at x (at n f v.nodes))) (sym same) here
    by_test long false e =
        let apart : m ≢ n = (λ is. let yes_same : eqb m n ≡ true = grind (arith, nat_tests) in true≢false (sym yes_same ∙ e)) in
        subst (λ (x : NodeView). ShowsNode v.types (ks m) (stopped m) x) (sym (node-other m n f v.nodes apart)) (h m long)

-- nothing is told where nothing changes that is seen
quiet : (n : ℕ) (ks : ℕ → Keeping) (stopped : ℕ → Bool) (v : View) (y : Keeping) → ViewShows ks stopped v
    → (n < length v.nodes → ShowsNode v.types (ks n) (stopped n) (node_at n v.nodes) → ShowsNode v.types y (stopped n) (node_at n v.nodes)) → ViewShows (with_node n y ks) stopped v
quiet n ks stopped v y h step m l = by_test (eqb m n) refl
  where
    by_test : (t : Bool) → eqb m n ≡ t → ShowsNode v.types (cond t y (ks m)) (stopped m) (node_at m v.nodes)
    by_test true e =
        let same : m ≡ n = grind (arith, nat_tests) in
        let short : n < length v.nodes = subst (λ (x : ℕ). x < length v.nodes) same l in
        subst (λ (x : ℕ). ShowsNode v.types y (stopped x) (node_at x v.nodes)) (sym same) (step short (h n short))
    by_test false e = h m l

-- ---- entries, one after the other

at-at : (n : ℕ) (f g : NodeView → NodeView) (ns : List NodeView) → at n g (at n f ns) ≡ at n (λ x. g (f x)) ns
at-at n f g [] = refl
at-at zero f g (x ∷ xs) = refl
at-at (suc n) f g (x ∷ xs) = ap (λ ys. x ∷ ys) (at-at n f g xs)

at-same : (n : ℕ) (ns : List NodeView) → at n (λ x. x) ns ≡ ns
at-same n [] = refl
at-same zero (x ∷ xs) = refl
at-same (suc n) (x ∷ xs) = ap (λ ys. x ∷ ys) (at-same n xs)

after-takes-types : (n : ℕ) (es : List Entry) (v : View) → (view_after v (takes n es)).types ≡ v.types
after-takes-types n [] v = refl
after-takes-types n (e ∷ es) v = after-takes-types n es (changed v (Take n e))

after-takes-nodes : (n : ℕ) (es : List Entry) (v : View) → (view_after v (takes n es)).nodes ≡ at n (λ x. fold (λ y e. taken v.types e y) x es) v.nodes
after-takes-nodes n [] v = sym (at-same n v.nodes)
after-takes-nodes n (e ∷ es) v = after-takes-nodes n es (changed v (Take n e)) ∙ at-at n (taken v.types e) (λ x. fold (λ y f. taken v.types f y) x es) v.nodes

-- ---- nobody is in the way

some-key : (a b : Low) → IsBucket a → IsBucket b → meets a b ≡ true → (key : ℕ) × (has_key a key ≡ true) × (has_key b key ≡ true)
some-key a b p q h = either (covers a b) (covers b a) _ (λ e. (b.low, second (nat_le a.bits b.bits) (has_key a b.low) e, own b q)) (λ e. (a.low, own a p, second (nat_le b.bits a.bits) (has_key b a.low) e)) h
  where
    own : (c : Low) → IsBucket c → has_key c c.low ≡ true
    own c is = let fit : c.low < 2 ^ c.bits = is.fits in let low : c.low % 2 ^ c.bits ≡ c.low = mod-eq_of_lt fit in grind (arith, nat_tests)

no-region : (b : Low) → IsBucket b → (rs : List Low) → AreParted rs → ((key : ℕ) → in_regions rs key ≡ true → has_key b key ≡ true → ⊥) → list_any (meets b) rs ≡ false
no-region b is [] p f = refl
no-region b is (r ∷ rs) p f = by_test (meets b r) refl (no-region b is rs p.2 (λ key h k. f key (or-last (has_key r key) (in_regions rs key) h) k))
  where
    or-last : (a c : Bool) → c ≡ true → (a || c) ≡ true
    or-last true c e = refl
    or-last false c e = e

    by_test : (t : Bool) → meets b r ≡ t → list_any (meets b) rs ≡ false → (t || list_any (meets b) rs) ≡ false
    by_test true e ih = absurd (let k = some-key b r is p.0 e in f k.0 (ap (λ t. t || in_regions rs k.0) k.2) k.1)
    by_test false e ih = ih

free-node : (w : ℕ) (b : Low) (x : NodeView) → IsBucket b → IsNode x → ((key : ℕ) → IsActiveOver w key x → has_key b key ≡ true → ⊥) → is_in_the_way w b x ≡ false
free-node w b x is node f = by_test (x.version == w) refl
  where
    by_test : (t : Bool) → (x.version == w) ≡ t → (t && list_any (meets b) x.regions) ≡ false
    by_test true e = no-region b is x.regions node.regions (λ key h k. let v : x.version ≡ w = grind (arith, nat_tests) in f key (v, h) k)
    by_test false e = refl

all-free : (w : ℕ) (b : Low) → IsBucket b → (ns : List NodeView) → AreNodes ns → ((m key : ℕ) → m < length ns → IsActiveOver w key (node_at m ns) → has_key b key ≡ true → ⊥) → list_any (is_in_the_way w b) ns ≡ false
all-free w b is [] nodes f = refl
all-free w b is (x ∷ xs) nodes f =
    let here : is_in_the_way w b x ≡ false = free-node w b x is nodes.0 (λ key o k. f zero key (omega arith) o k) in
    let rest : list_any (is_in_the_way w b) xs ≡ false = all-free w b is xs nodes.1 (λ m key l o k. f (suc m) key (omega (arith, l)) o k) in
    rw (here, rest) refl

unbarred : (n w : ℕ) (b : Low) → IsBucket b → (ns : List NodeView) → AreNodes ns → ((m key : ℕ) → m ≢ n → m < length ns → IsActiveOver w key (node_at m ns) → has_key b key ≡ true → ⊥) → is_barred n w b ns ≡ false
unbarred n w b is [] nodes f = refl
unbarred zero w b is (x ∷ xs) nodes f = all-free w b is xs nodes.1 (λ m key l o k. f (suc m) key (λ e. absurd (omega arith)) (omega (arith, l)) o k)
unbarred (suc n) w b is (x ∷ xs) nodes f =
    let here : is_in_the_way w b x ≡ false = free-node w b x is nodes.0 (λ key o k. f zero key (λ e. absurd (omega arith)) (omega arith) o k) in
    let rest : is_barred n w b xs ≡ false = unbarred n w b is xs nodes.1 (λ m key ne l o k. f (suc m) key (λ e. ne (omega arith)) (omega (arith, l)) o k) in
    rw (here, rest) refl

-- ---- a deed

pub deed-shown : (n : ℕ) (d : NodeDeed) (ks : ℕ → Keeping) (stopped : ℕ → Bool) (v : View) → IsView v → n < length v.nodes → MayDo n (ks n) v d → ViewShows ks stopped v
    → ViewShows (with_node n (after_deed d (ks n)) ks) stopped (view_after v (changes_of n (ks n) d))
deed-shown n Looks ks stopped v is low may h = quiet n ks stopped v (ks n) h (λ l s. s)
deed-shown n (Stores e) ks stopped v is low may h = by_tests (is_newer e (fin.get (ks n).entries e.id)) (in_regions (ks n).regions (key_of e.id)) refl refl may
  where
    by_tests : (s t : Bool) → is_newer e (fin.get (ks n).entries e.id) ≡ s → in_regions (ks n).regions (key_of e.id) ≡ t → RoomAlong v.types (cond (s && t) (e ∷ []) []) (node_at n v.nodes).rows
        → ViewShows (with_node n (with_entries (cond s (fin.insert (ks n).entries e.id e) (ks n).entries) (ks n)) ks) stopped (view_after v (takes n (cond (s && t) (e ∷ []) [])))
    by_tests true true a b room = one-changed n (taken v.types e) ks stopped v (changed v (Take n e)) _ refl refl h (λ l s. shows-taken v.types (ks n) (stopped n) (node_at n v.nodes) e room.0 b s)
    by_tests true false a b room = quiet n ks stopped v _ h (λ l s. shows-outside v.types (ks n) (stopped n) (node_at n v.nodes) e b s)
    by_tests false t a b room = quiet n ks stopped v _ h (λ l s. s)
deed-shown n (Unites es) ks stopped v is low may h =
    one-changed n (λ x. fold (λ y e. taken v.types e y) x (filter (is_seen (ks n)) (listed es))) ks stopped v (view_after v (takes n (filter (is_seen (ks n)) (listed es)))) (with_entries (joined (ks n).entries es) (ks n))
    (after-takes-types n (filter (is_seen (ks n)) (listed es)) v) (after-takes-nodes n (filter (is_seen (ks n)) (listed es)) v) h
    (λ l s. shows-united v.types (ks n) (stopped n) (node_at n v.nodes) es may.0 may.1 s)
deed-shown n (Drops b) ks stopped v is low may h = quiet n ks stopped v _ h (λ l s. shows-same v.types (ks n) (stopped n) (node_at n v.nodes) (fin.retain_keys (ks n).entries (λ id. not (in_bucket b id))) same s)
  where
    kept : (id : List ℕ) → fin.get (fin.retain_keys (ks n).entries (λ x. not (in_bucket b x))) id ≡ cond (not (in_bucket b id)) (fin.get (ks n).entries id) None
    kept id = get-retain_keys (ks n).entries (λ x. not (in_bucket b x)) id (λ x e. ap (λ y. not (in_bucket b y)) (sym (slice_cmp-IsAntisymmetric nat_cmp-IsAntisymmetric id x e)))

    same : (id : List ℕ) → in_regions (ks n).regions (key_of id) ≡ true → fin.get (fin.retain_keys (ks n).entries (λ x. not (in_bucket b x))) id ≡ fin.get (ks n).entries id
    same id r = kept id ∙ by_entry (fin.get (ks n).entries id) refl
      where
        by_entry : (o : Option Entry) → fin.get (ks n).entries id ≡ o → cond (not (in_bucket b id)) o None ≡ o
        by_entry None e = by_test (in_bucket b id)
          where
            by_test : (t : Bool) → ◌≡◌ {A = Option Entry} (cond (not t) None None) None
            by_test true = refl
            by_test false = refl
        by_entry (Some x) e = ap (λ t. cond (not t) (Some x) None) (may id x e r)
deed-shown n (Activates b) ks stopped v is low may h =
    one-changed n (activated v.types b (fin.retain_keys (ks n).entries (in_bucket b))) ks stopped v (changed v (Activate n b (fin.retain_keys (ks n).entries (in_bucket b)))) (activate b (ks n)) refl
    (ap (λ t. cond t v.nodes (at n (activated v.types b (fin.retain_keys (ks n).entries (in_bucket b))) v.nodes)) free) h
    (λ l s. shows-activated v.types (ks n) (stopped n) (node_at n v.nodes) b may.0 may.3 s)
  where
    shown_version : (node_at n v.nodes).version ≡ (ks n).version
    shown_version = (h n low).version_is

    free : is_barred n (node_at n v.nodes).version b v.nodes ≡ false
    free = subst (λ (w : ℕ). is_barred n w b v.nodes ≡ false) (sym shown_version) (unbarred n (ks n).version b may.1 v.nodes is.nodes may.2)

-- a greater version
pub adoption-shown : (n w : ℕ) (ks : ℕ → Keeping) (stopped : ℕ → Bool) (v : View) → ViewShows ks stopped v → ViewShows (with_node n (adopt w (ks n)) ks) stopped (view_after v (adoption n w (ks n)))
adoption-shown n w ks stopped v h = by_test (nat_lt (ks n).version w) refl
  where
    by_test : (t : Bool) → nat_lt (ks n).version w ≡ t → ViewShows (with_node n (cond t (record { version = w; regions = []; entries = (ks n).entries }) (ks n)) ks) stopped (view_after v (cond t (Adopt n w ∷ []) []))
    by_test true e = one-changed n (adopted w) ks stopped v (changed v (Adopt n w)) _ refl refl h
        (λ l s. subst (λ t. ShowsNode v.types (cond t (record { version = w; regions = []; entries = (ks n).entries }) (ks n)) (stopped n) (adopted w (node_at n v.nodes))) e (shows-adopted v.types (ks n) (stopped n) (node_at n v.nodes) w s))
    by_test false e = quiet n ks stopped v (ks n) h (λ l s. s)
