-- Lanes with their shelves, and both as a session shows them.
use Rattle.std.proofs.Common.{◌≡◌, ◌<◌, ◌≤◌, ◌++◌, ℕ, zero, suc, List, [], ◌∷◌, None, Some, inl, inr, map, set, length, slice_get, slice_index_or, refl, sym, ap, ap₂, ◌∙◌, subst, arith, append_assoc}
use Rattle.std.proofs.Math.Seq.{map-set_same}
use Rattle.std.proofs.lemmas.List.{map-append, map-set, length-map}
use Rattle.view_changes.specs.Opening.{opening}
use Rattle.view_changes.specs.Views.{View, view_after}
use Rattle.shelves.specs.Plain.{Plain, ShowsPlain}
use Rattle.lane_changes.specs.Changes.{changes_of}
use Rattle.lane_core.specs.Shelved.{Shelved, with_lane, OfLane}
use Rattle.lane_core.specs.Showing.{IsSettled}
use Rattle.lane_calls.specs.LaneValues.{LaneValue}
use Rattle.session_cluster.specs.Cells.{Cell, ShownLane, ShownCell, own_lane, own_shelf, lanes_in, shelves_in}
use Rattle.session_cluster.specs.Steps.{EachLane, HasFew, IsSettledLane, AreSettled, AreOpened, settled_shelf, first_view, unheard}
use Rattle.session_cluster.proofs.Elements.{element_map, element_set, map_there}

-- ---- the lanes among them

pub lanes_many : {H : Type 0} (xs : List (Shelved H)) → length (lanes_in xs) ≡ length xs
lanes_many xs = length-map xs own_lane

pub below_lanes : {H : Type 0} (xs : List (Shelved H)) (k : ℕ) → k < length xs → k < length (lanes_in xs)
below_lanes xs k h = omega (arith, h, length-map xs own_lane)

pub past_lanes : {H : Type 0} (xs : List (Shelved H)) (k : ℕ) → length xs ≤ k → length (lanes_in xs) ≤ k
past_lanes xs k h = omega (arith, h, length-map xs own_lane)

index-lane : {H : Type 0} (xs : List (Shelved H)) (k : ℕ) (d : Shelved H) → own_lane (slice_index_or xs k d) ≡ slice_index_or (lanes_in xs) k (own_lane d)
index-lane [] zero d = refl
index-lane [] (suc k) d = refl
index-lane (x ∷ xs) zero d = refl
index-lane (x ∷ xs) (suc k) d = index-lane xs k d

pub lane_index : {H : Type 0} (xs : List (Shelved H)) (k : ℕ) (s : Shelved H) → s ≡ slice_index_or xs k s → s.lane ≡ slice_index_or (lanes_in xs) k s.lane
lane_index xs k s is = ap own_lane is ∙ index-lane xs k s

pub lane_get : {H : Type 0} (xs : List (Shelved H)) (k : ℕ) (s : Shelved H) → slice_get xs k ≡ Some s → slice_get (lanes_in xs) k ≡ Some s.lane
lane_get xs k s at = map_there own_lane xs k s at

pub lane_none : {H : Type 0} (xs : List (Shelved H)) (k : ℕ) → slice_get xs k ≡ None → slice_get (lanes_in xs) k ≡ None
lane_none [] zero h = refl
lane_none [] (suc k) h = refl
lane_none (x ∷ xs) zero h = cc h
lane_none (x ∷ xs) (suc k) h = lane_none xs k h

pub lanes_pushed : {H : Type 0} (xs ys : List (Shelved H)) (s : Shelved H) → ys ≡ xs ++ s ∷ [] → lanes_in ys ≡ lanes_in xs ++ s.lane ∷ []
lanes_pushed xs ys s is = ap lanes_in is ∙ map-append own_lane xs (s ∷ [])

-- as many of them
pub same_count : {H K : Type 0} (xs : List (Shelved H)) (ys : List (Shelved K)) → lanes_in ys ≡ lanes_in xs → length ys ≡ length xs
same_count xs ys same = sym (length-map ys own_lane) ∙ (ap length same ∙ length-map xs own_lane)

-- one more stands behind the others without its shelf
pub left_more : {H K : Type 0} (done new : List (Shelved K)) (u : Shelved K) (t : Shelved H) (left rest all : List (Shelved H)) → lanes_in done ++ lanes_in left ≡ lanes_in all → left ≡ t ∷ rest → new ≡ done ++ u ∷ [] → u.lane ≡ t.lane → lanes_in new ++ lanes_in rest ≡ lanes_in all
left_more done new u t left rest all so is now same =
    ap (λ vs. vs ++ lanes_in rest) (lanes_pushed done new u now) ∙ append_assoc (lanes_in done) (u.lane ∷ []) (lanes_in rest)
    ∙ ap (λ (v : LaneValue). lanes_in done ++ v ∷ lanes_in rest) same ∙ (ap (λ xs. lanes_in done ++ lanes_in xs) (sym is) ∙ so)

-- ---- one is another

pub lanes_set : (xs : List ShownLane) (k : ℕ) (s : ShownLane) → lanes_in (set xs k s) ≡ set (lanes_in xs) k s.lane
lanes_set xs k s = map-set own_lane xs k s

pub shelves_set : (xs : List ShownLane) (k : ℕ) (s d : ShownLane) → s.shelf ≡ (slice_index_or xs k d).shelf → shelves_in (set xs k s) ≡ shelves_in xs
shelves_set xs k s d same = map-set_same own_shelf xs k s d same

pub openings_set : (xs : List ShownLane) (k : ℕ) (s d : ShownLane) → s.shelf.opening ≡ (slice_index_or xs k d).shelf.opening → map first_view (shelves_in (set xs k s)) ≡ map first_view (shelves_in xs)
openings_set xs k s d same = twice (set xs k s) ∙ (map-set_same (λ (t : ShownLane). t.shelf.opening) xs k s d same ∙ sym (twice xs))
  where
    twice : (ys : List ShownLane) → map first_view (shelves_in ys) ≡ map (λ (t : ShownLane). t.shelf.opening) ys
    twice [] = refl
    twice (y ∷ ys) = ap (λ (vs : List View). y.shelf.opening ∷ vs) (twice ys)

-- ---- each did something, or is such a one

pub lanes_did : (f : LaneValue → LaneValue) (xs ys : List ShownLane) → ys ≡ map (with_lane f) xs → lanes_in ys ≡ map f (lanes_in xs)
lanes_did f xs ys is = ap lanes_in is ∙ each xs
  where
    each : (zs : List ShownLane) → lanes_in (map (with_lane f) zs) ≡ map f (lanes_in zs)
    each [] = refl
    each (z ∷ zs) = ap (λ (vs : List LaneValue). f z.lane ∷ vs) (each zs)

pub shelves_did : (f : LaneValue → LaneValue) (xs ys : List ShownLane) → ys ≡ map (with_lane f) xs → shelves_in ys ≡ shelves_in xs
shelves_did f xs ys is = ap shelves_in is ∙ each xs
  where
    each : (zs : List ShownLane) → shelves_in (map (with_lane f) zs) ≡ shelves_in zs
    each [] = refl
    each (z ∷ zs) = ap (λ (ps : List Plain). z.shelf ∷ ps) (each zs)

-- what is seen of them is the same
pub lanes_seen : (f : LaneValue → LaneValue) (xs ys : List ShownLane) → map (with_lane f) ys ≡ map (with_lane f) xs → map f (lanes_in ys) ≡ map f (lanes_in xs)
lanes_seen f xs ys is = sym (lanes_did f ys (map (with_lane f) ys) refl) ∙ (ap lanes_in is ∙ lanes_did f xs (map (with_lane f) xs) refl)

pub each_with : (P : LaneValue → Type 0) (xs : List ShownLane) → EachLane P (lanes_in xs) → EachLane (OfLane P) xs
each_with P xs all k s at = all k s.lane (lane_get xs k s at)

pub each_of : (P : LaneValue → Type 0) (xs : List ShownLane) → EachLane (OfLane P) xs → EachLane P (lanes_in xs)
each_of P xs all k v at = let x = element_map own_lane xs k v at in subst P (sym x.1.1) (all k x.0 x.1.0)

-- ---- all changes are shown

-- a shelf that was settled, and showed at first the view of its lane
pub settled_is : (s : ShownLane) → first_view s.shelf ≡ unheard s.lane → IsSettled ShowsPlain (λ (p : Plain). p.pending) s → IsSettledLane s
settled_is s opens h = (λ i. record { opening = opens i; view = view i; pending = h.none i }, h.few)
  where
    view : s.shelf.view ≡ view_after (opening s.lane.types) (changes_of s.lane.journal)
    view = h.shown ∙ ap (λ (v : View). view_after v (changes_of s.lane.journal)) opens

shelves_settled : (xs : List ShownLane) → EachLane IsSettledLane xs → shelves_in xs ≡ map settled_shelf (lanes_in xs)
shelves_settled [] all = refl
shelves_settled (x ∷ xs) all = ap₂ (λ (p : Plain) (ps : List Plain). p ∷ ps) (all zero x refl).0 (shelves_settled xs (λ k s at. all (suc k) s at))

-- a session whose lanes are settled
pub are_settled : (xs : List ShownLane) (s : ShownCell) → s.cell.lanes ≡ lanes_in xs → s.shelves ≡ shelves_in xs → EachLane IsSettledLane xs → AreSettled s
are_settled xs s lanes shelves all = record {
  shelves = shelves ∙ (shelves_settled xs all ∙ ap (map settled_shelf) (sym lanes));
  few = subst (EachLane HasFew) (sym lanes) (each_of HasFew xs (λ k t at. (all k t at).1));
}

head-is : {X : Type 0} (a b : X) (xs ys : List X) → ◌≡◌ {A = List X} (a ∷ xs) (b ∷ ys) → a ≡ b
head-is a b xs ys e = cc

tail-is : {X : Type 0} (a b : X) (xs ys : List X) → ◌≡◌ {A = List X} (a ∷ xs) (b ∷ ys) → xs ≡ ys
tail-is a b xs ys e = cc

some-is : {X : Type 0} {a b : X} → Some a ≡ Some b → a ≡ b
some-is e = cc

-- what f sees of the shelves is what g sees of the lanes, so it is so of each
each_seen : {X : Type 0} (f : Plain → X) (g : LaneValue → X) (xs : List ShownLane) (k : ℕ) (s : ShownLane) → map f (shelves_in xs) ≡ map g (lanes_in xs) → slice_get xs k ≡ Some s → f s.shelf ≡ g s.lane
each_seen f g [] zero s is at = cc at
each_seen f g [] (suc k) s is at = cc at
each_seen f g (x ∷ xs) zero s is at = subst (λ (t : ShownLane). f t.shelf ≡ g t.lane) (some-is at) (head-is _ _ _ _ is)
each_seen f g (x ∷ xs) (suc k) s is at = each_seen f g xs k s (tail-is _ _ _ _ is) at

abbrev same_shelf : Plain → Plain
same_shelf p = p

all_same : (ps : List Plain) → map same_shelf ps ≡ ps
all_same [] = refl
all_same (p ∷ ps) = ap (λ (qs : List Plain). p ∷ qs) (all_same ps)

-- and those of a settled session are settled
pub each_settled : (xs : List ShownLane) (s : ShownCell) → s.cell.lanes ≡ lanes_in xs → s.shelves ≡ shelves_in xs → AreSettled s → EachLane IsSettledLane xs
each_settled xs s lanes shelves settled k t at = (
  each_seen same_shelf settled_shelf xs k t (all_same (shelves_in xs) ∙ (sym shelves ∙ (settled.shelves ∙ ap (map settled_shelf) lanes))) at,
  settled.few k t.lane (subst (λ (vs : List LaneValue). slice_get vs k ≡ Some t.lane) (sym lanes) (lane_get xs k t at)),
)

-- a session of which no lane changed
pub dealt_settled : (old inside : ShownCell) (line : ℕ) → inside ≡ old → AreSettled old → AreSettled (record inside { cell = record inside.cell { dealt = line } })
dealt_settled old inside line is settled = let s : AreSettled inside = subst AreSettled (sym is) settled in record { shelves = s.shelves; few = s.few }

-- where one of them is another
pub settled_set : (xs : List ShownLane) (n : ℕ) (t : ShownLane) → EachLane IsSettledLane xs → IsSettledLane t → EachLane IsSettledLane (set xs n t)
settled_set xs n t all is k s at = elim (element_set xs n k t s at) [
  | inl here ↦ subst IsSettledLane here.1 is
  | inr there ↦ all k s there.1
]

-- ---- what the shelves showed at first

-- settled shelves showed the views of their lanes
pub settled_opened : (s : ShownCell) → AreSettled s → AreOpened s.cell.lanes s.shelves
settled_opened s settled = ap (map first_view) settled.shelves ∙ first s.cell.lanes
  where
    first : (vs : List LaneValue) → map first_view (map settled_shelf vs) ≡ map unheard vs
    first [] = refl
    first (v ∷ vs) = ap (λ (ws : List View). unheard v ∷ ws) (first vs)

-- and so they did where no lane has other types
pub still_opened : (old mid : ShownCell) → AreSettled old → mid.shelves ≡ old.shelves → map unheard mid.cell.lanes ≡ map unheard old.cell.lanes → AreOpened mid.cell.lanes mid.shelves
still_opened old mid settled shelves types = ap (map first_view) shelves ∙ (settled_opened old settled ∙ sym types)

-- lanes that were settled then
pub all_settled : (old new : List ShownLane) → lanes_in new ≡ lanes_in old → map first_view (shelves_in new) ≡ map first_view (shelves_in old) → AreOpened (lanes_in old) (shelves_in old)
    → EachLane (IsSettled ShowsPlain (λ (p : Plain). p.pending)) new → EachLane IsSettledLane new
all_settled old new lanes opens opened all k s at = settled_is s (each_seen first_view unheard new k s (opens ∙ (opened ∙ ap (map unheard) (sym lanes))) at) (all k s at)

-- ---- in a cluster

abbrev pub shown_as : Cell → List Plain → ShownCell
shown_as c ps = record { cell = c; shelves = ps }

abbrev pub cell_of : ShownCell → Cell
cell_of s = s.cell

abbrev pub lanes_of : ShownCell → List LaneValue
lanes_of s = s.cell.lanes

abbrev pub shelves_of : ShownCell → List Plain
shelves_of s = s.shelves

-- with other lanes
pub cell-in : (old inside : Cell) (us vs : List LaneValue) (line : ℕ) → inside ≡ old → us ≡ vs → ◌≡◌ {A = Cell} (record inside { lanes = us; dealt = line }) (record old { lanes = vs; dealt = line })
cell-in old inside us vs line is lanes =
    ap (λ (x : Cell). record x { lanes = us; dealt = line }) is ∙ ap (λ (ws : List LaneValue). record old { lanes = ws; dealt = line }) lanes

pub few_lanes_in : (old inside : Cell) (items vs : List ShownLane) → inside ≡ old → inside.lanes ≡ lanes_in items → vs ≡ items → length old.lanes ≤ 64 → length vs ≤ 64
few_lanes_in old inside items vs is lanes same few =
    let all : length inside.lanes ≡ length old.lanes = ap (λ (x : Cell). length x.lanes) is in
    let own : length inside.lanes ≡ length (lanes_in items) = ap length lanes in
    let some : length vs ≡ length items = ap length same in
    omega (arith, all, own, some, few, length-map items own_lane)
