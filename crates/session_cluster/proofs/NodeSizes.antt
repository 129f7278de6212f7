-- How many entries a node holds, lane by lane.
use Rattle.std.proofs.Common.{◌≡◌, ◌<◌, ◌≤◌, ◌+◌, ◌-◌, ◌^◌, ℕ, suc, List, [], ◌∷◌, ◌++◌, refl, sym, ap, ◌∙◌, subst, arith, length, map, take, min, sum_by, slice_index_or}
use Rattle.std.proofs.Math.Seq.{take-suc}
use Rattle.std.proofs.lemmas.List.{map-append, take_all}
use Rattle.std.proofs.lemmas.List.Sums.{sum_by-append}
use Rattle.lane_core.specs.Shelved.{Shelved}
use Rattle.lane_calls.specs.LaneValues.{LaneValue}
use Rattle.lane_keeping.specs.Shown.{HasEntries}
use Rattle.session_cluster.specs.Lanes.{Journal}
use Rattle.session_cluster.specs.Sizes.{AreSizes, HasSize}
use Rattle.session_cluster.specs.Cells.{lanes_in}
use Rattle.session_cluster.proofs.LaneLists.{journal_is}
use Rattle.session_cluster.proofs.ShelvedLanes.{past_lanes}

sizes_more : (node n : ℕ) (J : Journal) (Js : List Journal) (ns : List ℕ) → AreSizes node Js ns → HasEntries J node n → AreSizes node (Js ++ J ∷ []) (ns ++ n ∷ [])
sizes_more node n J [] [] are h = (h, tt)
sizes_more node n J (K ∷ Js) (m ∷ ns) are h = (are.0, sizes_more node n J Js ns are.1 h)
sizes_more node n J [] (m ∷ ns) are h = absurd are
sizes_more node n J (K ∷ Js) [] are h = absurd are

one_sum : (n : ℕ) → sum_by (λ m. m) (n ∷ []) ≡ n
one_sum n = omega arith

sum_more : (ns : List ℕ) (n : ℕ) → sum_by (λ m. m) (ns ++ n ∷ []) ≡ sum_by (λ m. m) ns + n
sum_more ns n = sum_by-append (λ m. m) ns (n ∷ []) ∙ ap (λ k. sum_by (λ m. m) ns + k) (one_sum n)

capped : (a n most : ℕ) → min (min a most + n) most ≡ min (a + n) most
capped a n most = grind arith

pub no_size : (node : ℕ) (vs : List LaneValue) → HasSize node (map journal_is (take 0 vs)) 0
no_size node vs = record { sizes = []; are_sizes = tt; total = refl }

pub size_more : (node n size now k : ℕ) (vs : List LaneValue) (v : LaneValue) → HasSize node (map journal_is (take k vs)) size → k < length vs → v ≡ slice_index_or vs k v → HasEntries v.journal node n → now ≡ min (size + n) (2 ^ 64 - 1)
    → HasSize node (map journal_is (take (k + 1) vs)) now
size_more node n size now k vs v has below value entries is =
    let last : take (suc k) vs ≡ take k vs ++ v ∷ [] = take-suc vs k v below ∙ ap (λ x. take k vs ++ x ∷ []) (sym value) in
    let longer : map journal_is (take (k + 1) vs) ≡ map journal_is (take k vs) ++ v.journal ∷ [] =
    ap (λ m. map journal_is (take m vs)) (next k) ∙ ap (map journal_is) last ∙ map-append journal_is (take k vs) (v ∷ []) in
    subst (λ Js. HasSize node Js now) (sym longer) (record {
      sizes = has.sizes ++ n ∷ [];
      are_sizes = sizes_more node n v.journal (map journal_is (take k vs)) has.sizes has.are_sizes entries;
      total = is ∙ ap (λ m. min (m + n) (2 ^ 64 - 1)) has.total ∙ capped (sum_by (λ m. m) has.sizes) n (2 ^ 64 - 1) ∙ ap (λ m. min m (2 ^ 64 - 1)) (sym (sum_more has.sizes n));
    })
  where
    next : (k : ℕ) → k + 1 ≡ suc k
    next k = omega arith

pub whole_size : (node size k : ℕ) (vs ws : List LaneValue) → HasSize node (map journal_is (take k vs)) size → length vs ≤ k → vs ≡ ws → HasSize node (map journal_is ws) size
whole_size node size k vs ws has past same = subst (λ us. HasSize node (map journal_is us) size) (all_taken vs k past ∙ same) has
  where
    all_taken : (vs : List LaneValue) (k : ℕ) → length vs ≤ k → take k vs ≡ vs
    all_taken vs k h = take_all k vs h

-- of lanes, whatever shelves they have
pub size_of_lanes : {H : Type 0} (node size k : ℕ) (xs : List (Shelved H)) (ws : List LaneValue) → HasSize node (map journal_is (take k (lanes_in xs))) size → length xs ≤ k → lanes_in xs ≡ ws → HasSize node (map journal_is ws) size
size_of_lanes node size k xs ws has past same = whole_size node size k (lanes_in xs) ws has (past_lanes xs k past) same
