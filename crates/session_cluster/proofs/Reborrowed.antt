-- A session of which the lanes were lent out and came back.
use Rattle.std.proofs.Common.{◌≡◌, ◌⊎◌, ℕ, List, Result, Ok, Err, OnOk, OnErr, inl, inr, refl, sym, ap, ap₂, ◌∙◌, subst, length, map}
use Rattle.std.proofs.lemmas.List.{length-map}
use Rattle.lane_calls.specs.LaneValues.{LaneValue}
use Rattle.lane_lives.specs.declared.setting.Setting.{Setting}
use Rattle.lane_core.specs.Shelved.{with_lane}
use Rattle.session_cluster.specs.Cells.{Cell, ShownLane, ShownCell, own_lane, lanes_in, shelves_in, IsShownCluster}
use Rattle.session_cluster.specs.Steps.{IsRoomier, with_room, without_room, IsAfter, IsAllOrNothing}
use Rattle.session_cluster.specs.declared.asked.Asked.{Asked}
use Rattle.session_cluster.proofs.ShelvedLanes.{lanes_did, shelves_did, lanes_seen, shown_as, cell_of, lanes_of, shelves_of}
use Rattle.value_lists.specs.declared.no_memory.NoMemory.{NoMemory}

abbrev lanes_is : Cell → List LaneValue
lanes_is c = c.lanes

-- it is one still where as many came back
pub still_session : {X : Type 0} (bits n : ℕ) (inside ws shown : List ShownLane) (taken : List X) (room : ℕ) → IsShownCluster bits (length inside) taken room → n ≡ length inside → length ws ≡ n → shown ≡ ws → IsShownCluster bits (length shown) taken room
still_session bits n inside ws shown taken room is count many shows = subst (λ m. IsShownCluster bits m taken room) (sym (ap length shows ∙ many ∙ count)) is

-- ---- room was made, in all of them or in some

pub room_many : (r : Result (Unit {0}) NoMemory) (inside vs ws : List ShownLane) (n : ℕ) → n ≡ length inside → vs ≡ inside → OnOk r (ws ≡ map (with_lane with_room) vs) → OnErr r (map (with_lane without_room) ws ≡ map (with_lane without_room) vs) → length ws ≡ n
room_many (Ok u) inside vs ws n count same ok err = ap length ok ∙ length-map vs (with_lane with_room) ∙ ap length same ∙ sym count
room_many (Err e) inside vs ws n count same ok err = sym (length-map ws (with_lane without_room)) ∙ ap length err ∙ length-map vs (with_lane without_room) ∙ ap length same ∙ sym count

-- the cluster with other lanes
room-in : (old inside : Cell) (us vs : List LaneValue) → inside ≡ old → us ≡ vs → ◌≡◌ {A = Cell} (record inside { lanes = us }) (record old { lanes = vs })
room-in old inside us vs is lanes = ap (λ (x : Cell). record x { lanes = us }) is ∙ ap (λ (ws : List LaneValue). record old { lanes = ws }) lanes

pub room_made : (r : Result (Unit {0}) NoMemory) (old inside : ShownCell) (items vs ws shown : List ShownLane) → inside ≡ old → inside.cell.lanes ≡ lanes_in items → inside.shelves ≡ shelves_in items → vs ≡ items → OnOk r (ws ≡ map (with_lane with_room) vs) → shown ≡ ws
    → OnOk r (◌≡◌ {A = ShownCell} (shown_as (record inside.cell { lanes = lanes_in shown }) (shelves_in shown)) (record old { cell = record old.cell { lanes = map with_room old.cell.lanes } }))
room_made (Ok u) old inside items vs ws shown is lanes shelves same ok shows =
    ap₂ shown_as
    (room-in old.cell inside.cell (lanes_in shown) (map with_room old.cell.lanes) (ap cell_of is)
    (lanes_did with_room vs shown (shows ∙ ok) ∙ ap (map with_room) (ap lanes_in same ∙ (sym lanes ∙ ap lanes_of is))))
    (shelves_did with_room vs shown (shows ∙ ok) ∙ (ap shelves_in same ∙ (sym shelves ∙ ap shelves_of is)))
room_made (Err e) old inside items vs ws shown is lanes shelves same ok shows = tt

pub room_wanted : (r : Result (Unit {0}) NoMemory) (old inside : Cell) (items vs ws shown : List ShownLane) → inside ≡ old → inside.lanes ≡ lanes_in items → vs ≡ items → OnErr r (map (with_lane without_room) ws ≡ map (with_lane without_room) vs) → shown ≡ ws
    → OnErr r (IsRoomier old (record inside { lanes = lanes_in shown }))
room_wanted (Ok u) old inside items vs ws shown is lanes same err shows = tt
room_wanted (Err e) old inside items vs ws shown is lanes same err shows = record {
  rest = room-in old inside (lanes_in shown) (lanes_in shown) is refl;
  lanes = ap (λ (xs : List ShownLane). map without_room (lanes_in xs)) shows ∙ (lanes_seen without_room vs ws err ∙ ap (map without_room) (ap lanes_in same ∙ (sym lanes ∙ ap lanes_is is)));
}

-- nothing changed
pub roomier_same : (old new : Cell) → new ≡ old → IsRoomier old new
roomier_same old new same = record {
  rest = same ∙ ap (λ (vs : List LaneValue). record old { lanes = vs }) (sym (ap lanes_is same));
  lanes = ap (λ (c : Cell). map without_room c.lanes) same;
}

pub none_or_all : (s : Setting) (line : ℕ) (c : Asked) (old new : Cell) → (new ≡ old) ⊎ IsAfter s line c old new → IsAllOrNothing s line c old new
none_or_all s line c old new (inl same) = inl (roomier_same old new same)
none_or_all s line c old new (inr after) = inr after

-- ---- more is shown of some of them

pub shown_many : (inside vs ws : List ShownLane) (n : ℕ) → n ≡ length inside → vs ≡ inside → lanes_in ws ≡ lanes_in vs → length ws ≡ n
shown_many inside vs ws n count same after = sym (length-map ws own_lane) ∙ ap length after ∙ length-map vs own_lane ∙ ap length same ∙ sym count

pub same_cell : (old inside : Cell) (items vs ws shown : List ShownLane) → inside ≡ old → inside.lanes ≡ lanes_in items → vs ≡ items → lanes_in ws ≡ lanes_in vs → shown ≡ ws → ◌≡◌ {A = Cell} (record inside { lanes = lanes_in shown }) old
same_cell old inside items vs ws shown is lanes same after shows =
    ap (λ (us : List LaneValue). record inside { lanes = us }) (ap lanes_in shows ∙ (after ∙ (ap lanes_in same ∙ sym lanes))) ∙ is
