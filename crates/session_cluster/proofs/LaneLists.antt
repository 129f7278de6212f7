-- Lanes and their journals as lists.
use Rattle.std.proofs.Common.{◌≡◌, ◌≢◌, ◌<◌, ◌≤◌, ◌^◌, ℕ, zero, suc, List, [], ◌∷◌, Some, refl, sym, ap, ◌∙◌, arith, length, map, set, slice_get, slice_index_or, get_or-set_same, get_or-set_other}
use Rattle.std.proofs.lemmas.List.{get_or_past, map-set, length-map}
use Rattle.std.proofs.lemmas.Nat.{mod_below, pow_pos}
use Rattle.global_ids.specs.Keys.{key_of, lane_of}
use Rattle.lane_journals.specs.KeptJournals.{past}
use Rattle.lane_calls.specs.LaneValues.{LaneValue}
use Rattle.lane_core.specs.Shelved.{Shelved}
use Rattle.session_cluster.specs.Cells.{own_lane, lanes_in}
use Rattle.session_cluster.specs.Lanes.{Journal, lane_of_id, journal_in}
use Rattle.session_cluster.proofs.Elements.{map_there}

pub lane_small : (bits : ℕ) (id : List ℕ) → lane_of_id bits id < 2 ^ bits
unfolding lane_of_id
lane_small bits id = mod_below (key_of id) (2 ^ bits) (pow_pos bits)

-- ---- journals of lanes

abbrev pub journal_is : LaneValue → Journal
journal_is v = v.journal

pub journal_at : (vs : List LaneValue) (lane : ℕ) (v : LaneValue) → slice_get vs lane ≡ Some v → journal_in lane (map journal_is vs) ≡ v.journal
journal_at [] zero v h = cc h
journal_at [] (suc lane) v h = cc h
journal_at (w ∷ vs) zero v h = ap journal_is (some_is h)
  where
    some_is : {x y : LaneValue} → Some x ≡ Some y → x ≡ y
    some_is e = cc
journal_at (w ∷ vs) (suc lane) v h = journal_at vs lane v h

pub journal_past : (vs : List LaneValue) (lane : ℕ) → length vs ≤ lane → journal_in lane (map journal_is vs) ≡ []
journal_past vs lane h = get_or_past (map journal_is vs) lane [] (omega (arith, length-map vs journal_is, h))

-- the journals where one lane is another
pub journal_set : (vs : List LaneValue) (at : ℕ) (w : LaneValue) → at < length vs → journal_in at (map journal_is (set vs at w)) ≡ w.journal
journal_set vs at w h = ap (journal_in at) (map-set journal_is vs at w) ∙ get_or-set_same (map journal_is vs) at w.journal [] (omega (arith, length-map vs journal_is, h))

pub journal_other : (vs : List LaneValue) (at lane : ℕ) (w : LaneValue) → at ≢ lane → journal_in lane (map journal_is (set vs at w)) ≡ journal_in lane (map journal_is vs)
journal_other vs at lane w h = ap (journal_in lane) (map-set journal_is vs at w) ∙ get_or-set_other (map journal_is vs) at lane w.journal [] (λ e. h (sym e))

-- the lane of a document's key is its lane
pub lane_is : (at key bits : ℕ) (id : List ℕ) → at ≡ lane_of key bits → key ≡ key_of id → at ≡ lane_of_id bits id
unfolding lane_of_id
lane_is at key bits id a b = a ∙ ap (λ k. lane_of k bits) b

past_none : past [] ≡ []
unfolding past
past_none = refl

-- the journal of a lane that isn't there
pub no_journal : (vs shown : List LaneValue) (lane at : ℕ) → shown ≡ vs → at ≡ lane → length shown ≤ at → past [] ≡ journal_in lane (map journal_is vs)
no_journal vs shown lane at same is h = past_none ∙ sym (journal_past vs lane (omega (arith, ap length same, is, h)))

-- ---- of lanes, whatever shelves they have

pub journal_of_lane : {H : Type 0} (xs : List (Shelved H)) (lane : ℕ) (s : Shelved H) → slice_get xs lane ≡ Some s → journal_in lane (map journal_is (lanes_in xs)) ≡ s.lane.journal
journal_of_lane [] zero s h = cc h
journal_of_lane [] (suc lane) s h = cc h
journal_of_lane (x ∷ xs) zero s h = ap (λ t. t.lane.journal) (some_is h)
  where
    some_is : {X : Type 0} {a b : X} → Some a ≡ Some b → a ≡ b
    some_is e = cc
journal_of_lane (x ∷ xs) (suc lane) s h = journal_of_lane xs lane s h

pub journal_past_lanes : {H : Type 0} (xs : List (Shelved H)) (lane : ℕ) → length xs ≤ lane → journal_in lane (map journal_is (lanes_in xs)) ≡ []
journal_past_lanes xs lane h = journal_past (lanes_in xs) lane (omega (arith, length-map xs own_lane, h))

-- the lane that was looked up among them
pub item-at : {X : Type 0} (xs : List X) (i : ℕ) (x : X) → i < length xs → x ≡ slice_index_or xs i x → slice_get xs i ≡ Some x
item-at [] i x h is = absurd (omega (arith, h))
item-at (y ∷ xs) zero x h is = ap Some (sym is)
item-at (y ∷ xs) (suc i) x h is = item-at xs i x (omega (arith, h)) is

pub seen-lane : {H : Type 0} (xs shown : List (Shelved H)) (vs : List LaneValue) (n lane : ℕ) (s : Shelved H) → shown ≡ xs → lanes_in xs ≡ vs → n ≡ lane → n < length shown → s ≡ slice_index_or shown n s → slice_get vs lane ≡ Some s.lane
seen-lane xs shown vs n lane s same seen from below is =
    sym (ap (λ (us : List LaneValue). slice_get us lane) (ap lanes_in same ∙ seen)) ∙ (sym (ap (λ m. slice_get (lanes_in shown) m) from) ∙ map_there own_lane shown n s (item-at shown n s below is))
