-- The fold of changes.
use Rattle.std.proofs.Common.{◌≡◌, ◌≢◌, ◌<◌, ◌≤◌, ◌+◌, ◌++◌, ℕ, zero, suc, min, nat_lt, Bool, true, false, cond, eqb, List, [], ◌∷◌, length, refl, sym, ap, ◌∙◌, subst, arith}
use mathlib.Core.Bool.{true≢false}
use Rattle.std.proofs.lemmas.Bool.Decides.{nat_tests}
use Rattle.bucket_ids.specs.Buckets.{IsBucket}
use Rattle.doc_types.specs.SchemaCodes.{Types}
use Rattle.documents.specs.declared.entry.Entry.{Entry}
use Rattle.view_changes.specs.Views.{NodeView, View, stopped_as, at, node_at, changed, view_after}
use Rattle.view_changes.specs.Opening.{opening}
use Rattle.view_changes.specs.Kept.{IsNode, AreNodes, IsView, HasBucket}
use Rattle.view_changes.specs.Shown.{Keeping, ShowsNode}
use Rattle.view_changes.specs.Deeds.{NodeDeed, Looks, Stores, Unites, Drops, Activates, takes, adoption, changes_of as changes_told, ViewShows}
use Rattle.view_changes.specs.declared.change.LaneChange.{LaneChange}
use Rattle.view_changes.specs.declared.change.LaneChange.TheVariants.{Adopt}

pub after-append : (v : View) (xs ys : List LaneChange) → view_after v (xs ++ ys) ≡ view_after (view_after v xs) ys
after-append v [] ys = refl
after-append v (x ∷ xs) ys = after-append (changed v x) xs ys

pub types-after : (cs : List LaneChange) (v : View) → (view_after v cs).types ≡ v.types
types-after [] v = refl
types-after (c ∷ cs) v = types-after cs (changed v c)

-- ---- views stay views

abbrev pub AllBuckets : List LaneChange → Type 0
AllBuckets [] = Unit {0}
AllBuckets (c ∷ cs) = HasBucket c × AllBuckets cs

-- a change leaves a view one
abbrev pub ViewsKeep : Type 0
ViewsKeep = (v : View) (c : LaneChange) → HasBucket c → IsView v → IsView (changed v c)

pub view-after : ViewsKeep → (cs : List LaneChange) → AllBuckets cs → (v : View) → IsView v → IsView (view_after v cs)
view-after keep [] b v h = h
view-after keep (c ∷ cs) b v h = view-after keep cs b.1 (changed v c) (keep v c b.0 h)

takes-buckets : (n : ℕ) (es : List Entry) → AllBuckets (takes n es)
takes-buckets n [] = tt
takes-buckets n (e ∷ es) = (tt, takes-buckets n es)

pub adoption-buckets : (n w : ℕ) (k : Keeping) → AllBuckets (adoption n w k)
adoption-buckets n w k = by_test (nat_lt k.version w)
  where
    by_test : (t : Bool) → AllBuckets (cond t (Adopt n w ∷ []) [])
    by_test true = (tt, tt)
    by_test false = tt

abbrev pub NamesBucket : NodeDeed → Type 0
NamesBucket (Activates b) = IsBucket b
NamesBucket _ = Unit {0}

pub told-buckets : (n : ℕ) (k : Keeping) (d : NodeDeed) → NamesBucket d → AllBuckets (changes_told n k d)
told-buckets n k Looks b = tt
told-buckets n k (Stores e) b = takes-buckets n _
told-buckets n k (Unites es) b = takes-buckets n _
told-buckets n k (Drops c) b = tt
told-buckets n k (Activates c) b = (b, tt)

-- ---- changes are counted

counted-from : (cs : List LaneChange) (v : View) → v.generation ≤ 18446744073709551615 → (view_after v cs).generation ≡ min (v.generation + length cs) 18446744073709551615
counted-from [] v low = omega (arith, low)
counted-from (c ∷ cs) v low =
    let most : min (v.generation + 1) 18446744073709551615 ≤ 18446744073709551615 = omega arith in
    let ih = counted-from cs (changed v c) most in
    omega (arith, low, ih)

pub counted : (types : Types) (cs : List LaneChange) → (view_after (opening types) cs).generation ≡ min (length cs) 18446744073709551615
counted types cs = let h = counted-from cs (opening types) (omega arith) in omega (arith, h)

-- ---- one node of all

length-at : (n : ℕ) (f : NodeView → NodeView) (ns : List NodeView) → length (at n f ns) ≡ length ns
length-at n f [] = refl
length-at zero f (x ∷ xs) = refl
length-at (suc n) f (x ∷ xs) = ap suc (length-at n f xs)

node-here : (n : ℕ) (f : NodeView → NodeView) (ns : List NodeView) → n < length ns → node_at n (at n f ns) ≡ f (node_at n ns)
node-here n f [] h = absurd (omega arith)
node-here zero f (x ∷ xs) h = refl
node-here (suc n) f (x ∷ xs) h = node-here n f xs (omega arith)

node-other : (m n : ℕ) (f : NodeView → NodeView) (ns : List NodeView) → m ≢ n → node_at m (at n f ns) ≡ node_at m ns
node-other m n f [] h = refl
node-other zero zero f (x ∷ xs) h = absurd (h refl)
node-other zero (suc n) f (x ∷ xs) h = refl
node-other (suc m) zero f (x ∷ xs) h = refl
node-other (suc m) (suc n) f (x ∷ xs) h = node-other m n f xs (λ e. h (ap suc e))

pub node-of : (ns : List NodeView) → AreNodes ns → (n : ℕ) → n < length ns → IsNode (node_at n ns)
node-of [] h n l = absurd (omega arith)
node-of (x ∷ xs) h zero l = h.0
node-of (x ∷ xs) h (suc n) l = node-of xs h.1 n (omega (arith, l))

pub same-shown : (ks qs : ℕ → Keeping) (stopped : ℕ → Bool) (v : View) → ((i : ℕ) → ks i ≡ qs i) → ViewShows ks stopped v → ViewShows qs stopped v
same-shown ks qs stopped v e h i l = subst (λ (q : Keeping). ShowsNode v.types q (stopped i) (node_at i v.nodes)) (e i) (h i l)

-- a node stops or starts
pub switched : (t : Bool) (n : ℕ) (v w : View) (ks : ℕ → Keeping) (old now : ℕ → Bool) → w.types ≡ v.types → w.nodes ≡ at n (stopped_as t) v.nodes → now n ≡ t → ((i : ℕ) → i ≢ n → now i ≡ old i)
    → ViewShows ks old v → ViewShows ks now w
switched t n v w ks old now types nodes here others h i l =
    let long : i < length v.nodes = subst (λ (x : ℕ). i < x) (ap length nodes ∙ length-at n (stopped_as t) v.nodes) l in
    subst (λ (y : Types). ShowsNode y (ks i) (now i) (node_at i w.nodes)) (sym types)
    (subst (λ (ns : List NodeView). ShowsNode v.types (ks i) (now i) (node_at i ns)) (sym nodes) (by_test long (eqb i n) refl))
  where
    by_test : i < length v.nodes → (u : Bool) → eqb i n ≡ u → ShowsNode v.types (ks i) (now i) (node_at i (at n (stopped_as t) v.nodes))
    by_test long true e =
        let same : i ≡ n = grind (arith, nat_tests) in
        let short : n < length v.nodes = subst (λ (x : ℕ). x < length v.nodes) same long in
        let it : ShowsNode v.types (ks n) t (stopped_as t (node_at n v.nodes)) = (let g : ShowsNode v.types (ks n) (old n) (node_at n v.nodes) = h n short in record { version_is = g.version_is; stopped_is = refl; regions_are = g.regions_are; documents_are = g.documents_are }) in
        let there : ShowsNode v.types (ks n) (now n) (node_at n (at n (stopped_as t) v.nodes)) =
        subst (λ (u : Bool). ShowsNode v.types (ks n) u (node_at n (at n (stopped_as t) v.nodes))) (sym here)
        (subst (λ (x : NodeView). ShowsNode v.types (ks n) t x) (sym (node-here n (stopped_as t) v.nodes short)) it) in
        subst (λ (x : ℕ). ShowsNode v.types (ks x) (now x) (node_at x (at n (stopped_as t) v.nodes))) (sym same) there
    by_test long false e =
        let apart : i ≢ n = (λ is. let yes_same : eqb i n ≡ true = grind (arith, nat_tests) in true≢false (sym yes_same ∙ e)) in
        subst (λ (u : Bool). ShowsNode v.types (ks i) u (node_at i (at n (stopped_as t) v.nodes))) (sym (others i apart))
        (subst (λ (x : NodeView). ShowsNode v.types (ks i) (old i) x) (sym (node-other i n (stopped_as t) v.nodes apart)) (h i long))
