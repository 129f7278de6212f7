-- A view shows nodes as they are told, one after the other, region by region.
use Rattle.std.proofs.Common.{◌≡◌, ◌≢◌, ◌<◌, ◌≤◌, ◌||◌, ℕ, zero, suc, nat_lt, Bool, true, false, cond, eqb, eq-eqb, List, [], ◌∷◌, length, filter, refl, sym, ap, ◌∙◌, subst, arith}
use mathlib.Core.Bool.{true≢false}
use Rattle.std.proofs.lemmas.Bool.Decides.{nat_tests}
use Rattle.std.specs.FinMap as fin
use Rattle.bucket_ids.specs.Buckets.{Low, has_key}
use Rattle.doc_types.specs.SchemaCodes.{Types}
use Rattle.entry_maps.specs.Entries.{in_bucket}
use Rattle.view_changes.specs.Views.{NodeView, View, new_node, in_regions, listed, is_fresh, node_at, changed, view_after}
use Rattle.view_changes.specs.Opening.{opening}
use Rattle.view_changes.specs.Kept.{IsNode, AreParted, IsActiveOver, IsView, HasBucket}
use Rattle.view_changes.specs.Shown.{Keeping, ShowsNode, AreOwn, adopt, activate}
use Rattle.view_changes.specs.Deeds.{NodeDeed, Activates, after_deed, adoption, changes_of, RoomAlong, MayDo, ViewShows, with_node}
use Rattle.view_changes.specs.declared.change.LaneChange.{LaneChange}
use Rattle.view_changes.specs.declared.change.LaneChange.TheVariants.{Adopt, Activate, Stop}
use Rattle.view_changes.proofs.OpeningLaws.{node-new, opening-view}
use Rattle.lane_keeping.proofs.Words.{or-last}
use Rattle.journal_views.proofs.Folds.{ViewsKeep, node-of, switched}
use Rattle.node_views.specs.NodesTold.{with_version, with_regions, with_kept, with_stop, with_nodes}
use Rattle.node_views.proofs.Regions.{region-more}

-- ---- what is known

-- the laws of views
pub record Given : Type 0 where
  pub views : ViewsKeep
  pub room : (types : Types) (k : Keeping) (s : Bool) (n : NodeView) (b : Low) → AreOwn k.entries → IsNode n → ShowsNode types k s n → fin.len k.entries < 4294967295
      → RoomAlong types (filter (is_fresh b k.regions) (listed (fin.retain_keys k.entries (in_bucket b)))) n.rows
  pub deed : (n : ℕ) (d : NodeDeed) (qs : ℕ → Keeping) (stopped : ℕ → Bool) (v : View) → IsView v → n < length v.nodes → MayDo n (qs n) v d → ViewShows qs stopped v
      → ViewShows (with_node n (after_deed d (qs n)) qs) stopped (view_after v (changes_of n (qs n) d))
  pub adoption : (n w : ℕ) (qs : ℕ → Keeping) (stopped : ℕ → Bool) (v : View) → ViewShows qs stopped v → ViewShows (with_node n (adopt w (qs n)) qs) stopped (view_after v (adoption n w (qs n)))

-- what 32 nodes keep: no key lies in two regions of one node, or in regions of two nodes of one version
pub record AreKept (ks : ℕ → Keeping) : Type 0 where
  pub parted : (n : ℕ) → n < 32 → AreParted (ks n).regions
  pub apart : (n m key : ℕ) → n < 32 → m < 32 → (ks n).version ≡ (ks m).version → in_regions (ks n).regions key ≡ true → in_regions (ks m).regions key ≡ true → n ≡ m
  pub own : (n : ℕ) → n < 32 → AreOwn (ks n).entries
  pub few : (n : ℕ) → n < 32 → fin.len (ks n).entries < 4294967295

-- ---- what was told so far

-- nothing of a node, but entries that no region shows
abbrev unheard : Keeping → Keeping
unheard k = record { version = 0; regions = []; entries = k.entries }

-- a node's version and some of its regions
abbrev begun : Keeping → List Low → Keeping
begun k rs = record { version = k.version; regions = rs; entries = k.entries }

-- the nodes below a number
abbrev pub below : (ℕ → Keeping) → ℕ → ℕ → Keeping
below ks i n = cond {A = Keeping} (nat_lt n i) (ks n) (unheard (ks n))

abbrev pub stops_below : (ℕ → Bool) → ℕ → ℕ → Bool
stops_below stops i n = cond (nat_lt n i) (stops n) false

-- a view that shows this
pub record Stage (types : Types) (qs : ℕ → Keeping) (st : ℕ → Bool) (v : View) : Type 0 where
  pub typed : v.types ≡ types
  pub is_view : IsView v
  pub shows : ViewShows qs st v

-- ---- one node of all

here : (i : ℕ) (k : Keeping) (f : ℕ → Keeping) → with_node i k f i ≡ k
here i k f = ap (λ t. cond {A = Keeping} t k (f i)) (eq-eqb i i refl)

other : (i : ℕ) (k : Keeping) (f : ℕ → Keeping) (n : ℕ) → n ≢ i → with_node i k f n ≡ f n
other i k f n ne = by_test (eqb n i) refl
  where
    by_test : (t : Bool) → eqb n i ≡ t → cond {A = Keeping} t k (f n) ≡ f n
    by_test true e = absurd (ne (grind (arith, nat_tests)))
    by_test false e = refl

twice : (i : ℕ) (k q : Keeping) (f : ℕ → Keeping) (n : ℕ) → with_node i k (with_node i q f) n ≡ with_node i k f n
twice i k q f n = by_test (eqb n i)
  where
    by_test : (t : Bool) → cond {A = Keeping} t k (cond {A = Keeping} t q (f n)) ≡ cond {A = Keeping} t k (f n)
    by_test true = refl
    by_test false = refl

lt-more : (n i : ℕ) → n ≢ i → nat_lt n (suc i) ≡ nat_lt n i
lt-more n i ne = by_test (nat_lt n i) refl
  where
    by_test : (t : Bool) → nat_lt n i ≡ t → nat_lt n (suc i) ≡ t
    by_test true e = grind (arith, nat_tests)
    by_test false e = by_more (nat_lt n (suc i)) refl
      where
        by_more : (u : Bool) → nat_lt n (suc i) ≡ u → u ≡ false
        by_more true f = absurd (ne (grind (arith, nat_tests)))
        by_more false f = refl

same-kept : (types : Types) (qs rs : ℕ → Keeping) (st : ℕ → Bool) (v : View) → ((n : ℕ) → qs n ≡ rs n) → Stage types qs st v → Stage types rs st v
same-kept types qs rs st v e s = record { typed = s.typed; is_view = s.is_view; shows = λ n l. subst (λ (q : Keeping). ShowsNode v.types q (st n) (node_at n v.nodes)) (e n) (s.shows n l) }

module _ (g : Given) (types : Types) (ks : ℕ → Keeping) (stops : ℕ → Bool) (a : AreKept ks) where
  -- the nodes below a number, and of the next one this
  abbrev during : ℕ → Keeping → ℕ → Keeping
  during i k = with_node i k (below ks i)

  -- ---- a region

  module _ (i : ℕ) (low : i < 32) (b : Low) (rs : List Low) (p : AreParted (b ∷ rs)) (sub : (key : ℕ) → in_regions (b ∷ rs) key ≡ true → in_regions (ks i).regions key ≡ true)
      (st : ℕ → Bool) (u : View) (s : Stage types (during i (begun (ks i) rs)) st u) where
    abbrev part : Keeping
    part = begun (ks i) rs

    abbrev parts : ℕ → Keeping
    parts = during i part

    at_node : parts i ≡ part
    at_node = here i part (below ks i)

    long : i < length u.nodes
    long = subst (λ (n : ℕ). i < n) (sym (s.is_view).many) low

    shown : ShowsNode u.types part (st i) (node_at i u.nodes)
    shown = subst (λ (q : Keeping). ShowsNode u.types q (st i) (node_at i u.nodes)) at_node (s.shows i long)

    -- no other node of the version is over a key of the region
    alone : (m key : ℕ) → m ≢ i → m < length u.nodes → IsActiveOver part.version key (node_at m u.nodes) → has_key b key ≡ true → ⊥
    alone m key ne lm over h = by_test (nat_lt m i) (subst (λ (q : Keeping). ShowsNode u.types q (st m) (node_at m u.nodes)) (other i part (below ks i) m ne) (s.shows m lm))
      where
        small : m < 32
        small = subst (λ (n : ℕ). m < n) (s.is_view).many lm

        by_test : (t : Bool) → ShowsNode u.types (cond {A = Keeping} t (ks m) (unheard (ks m))) (st m) (node_at m u.nodes) → ⊥
        by_test true its = ne (a.apart m i key small low (sym its.version_is ∙ over.0) (sym (ap (λ (xs : List Low). in_regions xs key) its.regions_are) ∙ over.1) (sub key (ap (λ t. t || in_regions rs key) h)))
        by_test false its = true≢false (sym over.1 ∙ ap (λ (xs : List Low). in_regions xs key) its.regions_are)

    may : MayDo i part u (Activates b)
    may = (a.own i low, p.0, alone, g.room u.types part (st i) (node_at i u.nodes) b (a.own i low) (node-of u.nodes (s.is_view).nodes i long) shown (a.few i low))

    abbrev after : View
    after = changed u (Activate i b (fin.retain_keys (ks i).entries (in_bucket b)))

    done : ViewShows (with_node i (activate b part) parts) st after
    done = subst (λ (q : Keeping). ViewShows (with_node i (after_deed (Activates b) q) parts) st (view_after u (changes_of i q (Activates b)))) at_node
        (g.deed i (Activates b) parts st u s.is_view long (subst (λ (q : Keeping). MayDo i q u (Activates b)) (sym at_node) may) s.shows)

    more : activate b part ≡ begun (ks i) (b ∷ rs)
    more = ap (λ (xs : List Low). begun (ks i) xs) (region-more b rs p)

    region : Stage types (during i (begun (ks i) (b ∷ rs))) st after
    region = same-kept types (with_node i (activate b part) parts) (during i (begun (ks i) (b ∷ rs))) st after (λ n. twice i (activate b part) part (below ks i) n ∙ ap (λ (q : Keeping). with_node i q (below ks i) n) more)
        (record { typed = s.typed; is_view = g.views u (Activate i b (fin.retain_keys (ks i).entries (in_bucket b))) p.0 s.is_view; shows = done })

  regions : (i : ℕ) → i < 32 → (st : ℕ → Bool) (v : View) → Stage types (during i (begun (ks i) [])) st v
      → (rs : List Low) → AreParted rs → ((key : ℕ) → in_regions rs key ≡ true → in_regions (ks i).regions key ≡ true) → Stage types (during i (begun (ks i) rs)) st (with_regions i (ks i).entries rs v)
  regions i low st v s [] p sub = s
  regions i low st v s (b ∷ rs) p sub = region i low b rs p sub st (with_regions i (ks i).entries rs v)
      (regions i low st v s rs p.2 (λ key h. sub key (or-last (has_key b key) (in_regions rs key) h)))

  -- ---- a version

  version : (i : ℕ) (st : ℕ → Bool) (v : View) → Stage types (below ks i) st v → Stage types (during i (begun (ks i) [])) st (with_version i (ks i).version v)
  version i st v s = by_test (nat_lt 0 (ks i).version) refl told_so
    where
      not_below : nat_lt i i ≡ false
      not_below = by_lt (nat_lt i i) refl
        where
          by_lt : (t : Bool) → nat_lt i i ≡ t → t ≡ false
          by_lt true e = absurd (let less : i < i = grind (arith, nat_tests) in omega (arith, less))
          by_lt false e = refl

      at_node : below ks i i ≡ unheard (ks i)
      at_node = ap (λ t. cond {A = Keeping} t (ks i) (unheard (ks i))) not_below

      told_so : ViewShows (with_node i (adopt (ks i).version (unheard (ks i))) (below ks i)) st (view_after v (adoption i (ks i).version (unheard (ks i))))
      told_so = subst (λ (q : Keeping). ViewShows (with_node i (adopt (ks i).version q) (below ks i)) st (view_after v (adoption i (ks i).version q))) at_node (g.adoption i (ks i).version (below ks i) st v s.shows)

      by_test : (t : Bool) → nat_lt 0 (ks i).version ≡ t
          → ViewShows (with_node i (cond {A = Keeping} t (begun (ks i) []) (unheard (ks i))) (below ks i)) st (view_after v (cond {A = List LaneChange} t (Adopt i (ks i).version ∷ []) []))
          → Stage types (during i (begun (ks i) [])) st (cond {A = View} t (changed v (Adopt i (ks i).version)) v)
      by_test true e h = record { typed = s.typed; is_view = g.views v (Adopt i (ks i).version) tt s.is_view; shows = h }
      by_test false e h =
          let none : 0 ≡ (ks i).version = grind (arith, nat_tests) in
          same-kept types (with_node i (unheard (ks i)) (below ks i)) (during i (begun (ks i) [])) st v
          (λ n. ap (λ (x : ℕ). with_node i (record { version = x; regions = []; entries = (ks i).entries }) (below ks i) n) none)
          (record { typed = s.typed; is_view = s.is_view; shows = h })

  -- ---- a stop

  stop : (i : ℕ) (qs : ℕ → Keeping) (v : View) → Stage types qs (stops_below stops i) v → Stage types qs (stops_below stops (suc i)) (with_stop i (stops i) v)
  stop i qs v s = by_test (stops i) refl
    where
      now_here : stops_below stops (suc i) i ≡ stops i
      now_here = let there : nat_lt i (suc i) ≡ true = grind (arith, nat_tests) in ap (λ t. cond t (stops i) false) there

      elsewhere : (n : ℕ) → n ≢ i → stops_below stops (suc i) n ≡ stops_below stops i n
      elsewhere n ne = ap (λ t. cond t (stops n) false) (lt-more n i ne)

      unstopped : stops i ≡ false → (n : ℕ) → stops_below stops i n ≡ stops_below stops (suc i) n
      unstopped runs n = by_place (eqb n i) refl
        where
          so : (t : Bool) → cond t (stops i) false ≡ false
          so true = runs
          so false = refl

          by_place : (t : Bool) → eqb n i ≡ t → stops_below stops i n ≡ stops_below stops (suc i) n
          by_place true e =
              let is : n ≡ i = grind (arith, nat_tests) in
              subst (λ (m : ℕ). stops_below stops i m ≡ stops_below stops (suc i) m) (sym is) (so (nat_lt i i) ∙ sym (so (nat_lt i (suc i))))
          by_place false e = sym (elsewhere n (λ is. true≢false (sym (eq-eqb n i is) ∙ e)))

      by_test : (t : Bool) → stops i ≡ t → Stage types qs (stops_below stops (suc i)) (cond {A = View} t (changed v (Stop i)) v)
      by_test true e = record {
        typed = s.typed;
        is_view = g.views v (Stop i) tt s.is_view;
        shows = switched true i v (changed v (Stop i)) qs (stops_below stops i) (stops_below stops (suc i)) refl refl (now_here ∙ e) elsewhere s.shows;
      }
      by_test false e = record {
        typed = s.typed;
        is_view = s.is_view;
        shows = λ n l. subst (λ (t : Bool). ShowsNode v.types (qs n) t (node_at n v.nodes)) (unstopped e n) (s.shows n l);
      }

  -- ---- a node

  all-begun : (i n : ℕ) → during i (begun (ks i) (ks i).regions) n ≡ below ks (suc i) n
  all-begun i n = by_place (eqb n i) refl
    where
      by_place : (t : Bool) → eqb n i ≡ t → cond {A = Keeping} t (ks i) (below ks i n) ≡ below ks (suc i) n
      by_place true e =
          let is : n ≡ i = grind (arith, nat_tests) in
          let there : nat_lt i (suc i) ≡ true = grind (arith, nat_tests) in
          subst (λ (m : ℕ). ks i ≡ below ks (suc i) m) (sym is) (sym (ap (λ u. cond {A = Keeping} u (ks i) (unheard (ks i))) there))
      by_place false e = sym (ap (λ u. cond {A = Keeping} u (ks n) (unheard (ks n))) (lt-more n i (λ is. true≢false (sym (eq-eqb n i is) ∙ e))))

  node : (i : ℕ) → i < 32 → (v : View) → Stage types (below ks i) (stops_below stops i) v → Stage types (below ks (suc i)) (stops_below stops (suc i)) (with_stop i (stops i) (with_kept i (ks i) v))
  node i low v s = stop i (below ks (suc i)) (with_kept i (ks i) v)
      (same-kept types (during i (begun (ks i) (ks i).regions)) (below ks (suc i)) (stops_below stops i) (with_kept i (ks i) v) (all-begun i)
      (regions i low (stops_below stops i) (with_version i (ks i).version v) (version i (stops_below stops i) v s) (ks i).regions (a.parted i low) (λ key h. h)))

  -- ---- all nodes

  first : Stage types (below ks 0) (stops_below stops 0) (opening types)
  first = record {
    typed = refl;
    is_view = opening-view types;
    shows = λ n l. subst (λ (x : NodeView). ShowsNode types (below ks 0 n) (stops_below stops 0 n) x) (sym (node-new n 32)) (by_test n (nat_lt n 0) (grind (arith, nat_tests)));
  }
    where
      by_test : (n : ℕ) (t : Bool) → t ≡ false → ShowsNode types (cond {A = Keeping} t (ks n) (unheard (ks n))) (cond t (stops n) false) new_node
      by_test n true e = absurd (true≢false e)
      by_test n false e = record { version_is = refl; stopped_is = refl; regions_are = refl; documents_are = λ id. refl }

  stages : (i : ℕ) → i ≤ 32 → Stage types (below ks i) (stops_below stops i) (with_nodes types ks stops i)
  stages zero le = first
  stages (suc i) le = node i (omega (arith, le)) (with_nodes types ks stops i) (stages i (omega (arith, le)))

  abbrev last : View
  last = with_nodes types ks stops 32

  pub last-view : IsView last
  last-view = (stages 32 (omega arith)).is_view

  pub last-shows : (n : ℕ) → n < 32 → ShowsNode types (ks n) (stops n) (node_at n last.nodes)
  last-shows n low =
      let s : Stage types (below ks 32) (stops_below stops 32) last = stages 32 (omega arith) in
      let long : n < length last.nodes = subst (λ (m : ℕ). n < m) (sym (s.is_view).many) low in
      let there : nat_lt n 32 ≡ true = grind (arith, nat_tests) in
      subst (λ (y : Types). ShowsNode y (ks n) (stops n) (node_at n last.nodes)) s.typed
      (subst (λ (t : Bool). ShowsNode last.types (cond {A = Keeping} t (ks n) (unheard (ks n))) (cond t (stops n) false) (node_at n last.nodes)) there (s.shows n long))
