-- What a search finds in the lanes as they stand, and what it notes.
use Rattle.std.proofs.Common.{◌≡◌, ◌<◌, ◌≤◌, ◌+◌, ℕ, suc, zero, List, [], ◌∷◌, ◌++◌, None, Some, refl, sym, ap, ap₂, ◌∙◌, subst, arith, length, map, min, take, set, slice_index_or}
use Rattle.std.proofs.Math.Seq.{take-suc, take-length}
use Rattle.std.proofs.lemmas.List.{map-append, take_all}
use Rattle.doc_types.specs.SchemaCodes.{Types}
use Rattle.lane_changes.specs.Changes.{changes_of}
use Rattle.lane_core.specs.Showing.{view_in}
use Rattle.lane_calls.specs.LaneValues.{LaneValue}
use Rattle.query_groups.specs.declared.answers.SearchAnswer.{SearchAnswer}
use Rattle.query_text.specs.Grammar.{Said}
use Rattle.query_text.specs.declared.query.Query.{Query}
use Rattle.reports.specs.declared.answer.Answer.{Answer}
use Rattle.reports.specs.declared.answer.Answer.TheVariants as answer
use Rattle.search_views.specs.Answers.{search_answer}
use Rattle.search_views.specs.Summed.{IsSummed}
use Rattle.search_views.specs.declared.sums.SearchSum.{SearchSum}
use Rattle.session_cluster.specs.Cells.{Cell, ShownLane, lanes_in, journals, journals_of}
use Rattle.session_cluster.specs.Output.{found_answer_of}
use Rattle.session_cluster.specs.Searches.{fronts_of, fronts_now, front_now, view_to, views_to, version_now}
use Rattle.session_cluster.specs.Steps.{EachLane, HasTypes, HasFew, IsSettledLane, IsNoted, IsSearched}
use Rattle.session_cluster.proofs.FrontLists.{fronts_own}
use Rattle.session_cluster.proofs.ShelvedLanes.{below_lanes, past_lanes}
use Rattle.view_changes.specs.Opening.{opening}
use Rattle.view_changes.specs.Views.{View, changed, view_after}
use Rattle.view_changes.specs.declared.change.LaneChange.{LaneChange}

-- ---- in which views

-- a lane as it stands is what its whole journal shows
view_is : (types : Types) (v : LaneValue) → v.types ≡ types → view_in v ≡ view_to types (front_now v) v.journal
view_is types v is = ap (λ t. view_after (opening t) (changes_of v.journal)) is ∙ ap (view_after (opening types)) (sym (take-length (changes_of v.journal)))

pub views_are : (types : Types) (vs : List LaneValue) → EachLane (HasTypes types) vs → map view_in vs ≡ views_to types (fronts_now vs) (journals vs)
views_are types [] typed = refl
views_are types (v ∷ vs) typed = ap₂ (λ x xs. x ∷ xs) (view_is types v (typed zero v refl)) (views_are types vs (λ lane w at. typed (suc lane) w at))

-- the answer is that of the views to which the line read
pub searched : (types : Types) (line : ℕ) (said : Said) (old new : Cell) (a : SearchAnswer) → EachLane (HasTypes types) old.lanes → fronts_of line old.fronts ≡ None → IsNoted line old new
    → a ≡ search_answer said (version_now old.told) (map view_in old.lanes) → Some (answer.Search a) ≡ found_answer_of types old.told said (fronts_of line new.fronts) (journals_of new)
searched types line said old new a typed none now is =
    let noted : fronts_of line new.fronts ≡ Some (fronts_now old.lanes) =
    ap (λ (x : Cell). fronts_of line x.fronts) now ∙ fronts_own line old.fronts (record { line = line; fronts = fronts_now old.lanes }) refl none in
    ap (λ x. Some (answer.Search x)) (is ∙ ap (search_answer said (version_now old.told)) (views_are types old.lanes typed ∙ ap (λ (x : Cell). views_to types (fronts_now old.lanes) (journals x.lanes)) (sym now)))
    ∙ sym (ap (λ o. found_answer_of types old.told said o (journals_of new)) noted)

-- ---- lane by lane

-- one that is as it was
pub set_same : (vs : List LaneValue) (i : ℕ) (v w : LaneValue) → i < length vs → v ≡ slice_index_or vs i v → w ≡ v → set vs i w ≡ vs
set_same [] i v w below is same = refl
set_same (x ∷ vs) zero v w below is same = ap (λ y. y ∷ vs) (same ∙ is)
set_same (x ∷ vs) (suc i) v w below is same = ap (λ ys. x ∷ ys) (set_same vs i v w (omega (arith, below)) is same)

next : (k : ℕ) → k + 1 ≡ suc k
next k = omega arith

last_taken : (vs : List LaneValue) (k : ℕ) (v : LaneValue) → k < length vs → v ≡ slice_index_or vs k v → take (k + 1) vs ≡ take k vs ++ v ∷ []
last_taken vs k v below is = ap (λ m. take m vs) (next k) ∙ take-suc vs k v below ∙ ap (λ x. take k vs ++ x ∷ []) (sym is)

-- the lanes so far were read
pub record ReadSoFar (q : Query) (w k : ℕ) (vs : List LaneValue) (fronts : List ℕ) (sum : SearchSum) : Type 0 where
  pub fronts_are : fronts ≡ fronts_now (take k vs)
  pub summed : IsSummed q w (map view_in (take k vs)) sum

pub none_read : (q : Query) (w : ℕ) (vs : List LaneValue) (fronts : List ℕ) (sum : SearchSum) → fronts ≡ [] → IsSummed q w [] sum → ReadSoFar q w 0 vs fronts sum
none_read q w vs fronts sum none new = record { fronts_are = none; summed = new }

-- how many changes a view took in
generation-after : (v : View) (cs : List LaneChange) → v.generation ≤ 18446744073709551615 → (view_after v cs).generation ≡ min (v.generation + length cs) 18446744073709551615
generation-after v [] few = omega (arith, few)
generation-after v (c ∷ cs) few = generation-after (changed v c) cs (omega arith) ∙ one-more v.generation (length cs) (changed v c).generation refl
  where
    one-more : (g n h : ℕ) → h ≡ min (g + 1) 18446744073709551615 → min (h + n) 18446744073709551615 ≡ min (g + suc n) 18446744073709551615
    one-more g n h is = omega (arith, is)

-- fewer than it can count are counted
counted-all : (v : LaneValue) → HasFew v → (view_in v).generation ≡ front_now v
counted-all v few =
    let counts : (view_in v).generation ≡ min (0 + length (changes_of v.journal)) 18446744073709551615 = generation-after (opening v.types) (changes_of v.journal) (omega arith) in
    omega (arith, counts, few)

pub read_more : (q : Query) (w k : ℕ) (vs : List LaneValue) (v : LaneValue) (fronts more : List ℕ) (front : ℕ) (view : View) (sum added : SearchSum) → ReadSoFar q w k vs fronts sum → k < length vs → v ≡ slice_index_or vs k v
    → view ≡ view_in v → front ≡ view.generation → HasFew v → more ≡ fronts ++ front ∷ []
    → ((us : List View) → IsSummed q w us sum → IsSummed q w (us ++ view ∷ []) added) → ReadSoFar q w (k + 1) vs more added
read_more q w k vs v fronts more front view sum added so below is seen front_is few now adds =
    let taken = last_taken vs k v below is in
    let counted : front ≡ front_now v = front_is ∙ (ap (λ (x : View). x.generation) seen ∙ counted-all v few) in
    record {
      fronts_are = now ∙ ap₂ (λ a n. a ++ n ∷ []) so.fronts_are counted ∙ sym (map-append front_now (take k vs) (v ∷ [])) ∙ ap fronts_now (sym taken);
      summed = subst (λ us. IsSummed q w us added) (ap (λ x. map view_in (take k vs) ++ x ∷ []) seen ∙ sym (map-append view_in (take k vs) (v ∷ [])) ∙ ap (map view_in) (sym taken)) (adds (map view_in (take k vs)) so.summed);
    }

-- each of them shows all of its changes
pub settled_at : (xs : List ShownLane) (k : ℕ) (s : ShownLane) → EachLane IsSettledLane xs → k < length xs → s ≡ slice_index_or xs k s → IsSettledLane s
settled_at [] k s settled below is = absurd (omega (arith, below))
settled_at (x ∷ xs) zero s settled below is = settled zero s (ap Some (sym is))
settled_at (x ∷ xs) (suc k) s settled below is = settled_at xs k s (λ lane u at. settled (suc lane) u at) (omega (arith, below)) is

pub room_for : (q : Query) (w k : ℕ) (vs : List LaneValue) (fronts : List ℕ) (sum : SearchSum) → ReadSoFar q w k vs fronts sum → k < length vs → length vs ≤ 64 → sum.groups.views < 64
room_for q w k vs fronts sum so below few = omega (arith, so.summed.views, few_taken, below, few)
  where
    few_seen : (k : ℕ) (vs : List LaneValue) → length (map view_in (take k vs)) ≤ k
    few_seen zero vs = omega arith
    few_seen (suc k) [] = omega arith
    few_seen (suc k) (v ∷ vs) = let low = few_seen k vs in omega (arith, low)

    few_taken : length (map view_in (take k vs)) ≤ k
    few_taken = few_seen k vs

pub all_summed : (q : Query) (w k : ℕ) (vs : List LaneValue) (fronts : List ℕ) (sum : SearchSum) → ReadSoFar q w k vs fronts sum → length vs ≤ k → IsSummed q w (map view_in vs) sum
all_summed q w k vs fronts sum so past = subst (λ us. IsSummed q w (map view_in us) sum) (take_all k vs past) so.summed

pub all_fronts : (q : Query) (w k : ℕ) (vs : List LaneValue) (fronts : List ℕ) (sum : SearchSum) → ReadSoFar q w k vs fronts sum → length vs ≤ k → fronts ≡ fronts_now vs
all_fronts q w k vs fronts sum so past = so.fronts_are ∙ ap fronts_now (take_all k vs past)

-- ---- of lanes with their shelves

pub room_for_one : (q : Query) (w k : ℕ) (xs : List ShownLane) (fronts : List ℕ) (sum : SearchSum) → ReadSoFar q w k (lanes_in xs) fronts sum → k < length xs → length xs ≤ 64 → sum.groups.views < 64
room_for_one q w k xs fronts sum so below few = room_for q w k (lanes_in xs) fronts sum so (below_lanes xs k below) (past_lanes xs 64 few)

pub lanes_summed : (q : Query) (w k : ℕ) (xs : List ShownLane) (fronts : List ℕ) (sum : SearchSum) → ReadSoFar q w k (lanes_in xs) fronts sum → length xs ≤ k → IsSummed q w (map view_in (lanes_in xs)) sum
lanes_summed q w k xs fronts sum so past = all_summed q w k (lanes_in xs) fronts sum so (past_lanes xs k past)

pub lanes_fronts : (q : Query) (w k : ℕ) (xs : List ShownLane) (fronts : List ℕ) (sum : SearchSum) → ReadSoFar q w k (lanes_in xs) fronts sum → length xs ≤ k → fronts ≡ fronts_now (lanes_in xs)
lanes_fronts q w k xs fronts sum so past = all_fronts q w k (lanes_in xs) fronts sum so (past_lanes xs k past)

-- ---- the line

-- the answer of the line for which it is noted how far its search read
pub noted_whole : (types : Types) (line : ℕ) (said : Said) (old new : Cell) (a : SearchAnswer) (fronts : List ℕ) → EachLane (HasTypes types) old.lanes → fronts_of line old.fronts ≡ None → fronts ≡ fronts_now old.lanes
    → a ≡ search_answer said (version_now old.told) (map view_in old.lanes) → new ≡ record old { fronts = old.fronts ++ record { line = line; fronts = fronts } ∷ [] }
    → IsNoted line old new × (Some (answer.Search a) ≡ found_answer_of types old.told said (fronts_of line new.fronts) (journals_of new))
noted_whole types line said old new a fronts typed none are is after =
    let now : IsNoted line old new = after ∙ ap (λ fs. record old { fronts = old.fronts ++ record { line = line; fronts = fs } ∷ [] }) are in
    (now, searched types line said old new a typed none now is)

-- which was then dealt with
pub searched_whole : (types : Types) (line : ℕ) (said : Said) (old mid new : Cell) (a : Answer) → IsNoted line old mid → Some a ≡ found_answer_of types old.told said (fronts_of line mid.fronts) (journals_of mid) → new ≡ record mid { dealt = line }
    → IsSearched line old new × (Some a ≡ found_answer_of types old.told said (fronts_of line new.fronts) (journals_of new))
searched_whole types line said old mid new a noted told after = (
  after ∙ ap (λ (x : Cell). record x { dealt = line }) noted,
  told ∙ sym (ap (λ (x : Cell). found_answer_of types old.told said (fronts_of line x.fronts) (journals_of x)) after),
)
