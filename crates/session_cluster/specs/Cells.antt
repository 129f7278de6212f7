-- How a cluster is seen, and a session at work.
use Rattle.std.specs.Prelude.{◌≡◌, ◌==◌, ◌&&◌, ◌⊎◌, ℕ, ◌^◌, ◌≤◌, Bool, List, [], length, map, refl}
use Rattle.std.specs.Coded.{Coded, code_by, coded×, coded_ℕ, coded_list}
use Rattle.cluster_states.specs.Publishing.{Told}
use Rattle.cluster_states.specs.declared.cluster_state.ClusterState.{ClusterState}
use Rattle.cluster_states.specs.contracts.cluster_state.ClusterState as states
use Rattle.shelves.specs.Plain.{Plain, plain_code}
use Rattle.lane_core.specs.Shelved.{Shelved}
use Rattle.lane_calls.specs.LaneValues.{LaneValue, lane_code}
use Rattle.lane_journals.specs.declared.event.LaneEvent.{LaneEvent}
use Rattle.session_cluster.specs.declared.cluster.LineSpans.{LineSpans}
use Rattle.session_cluster.specs.contracts.cluster.LineSpans as line_spans
use Rattle.session_cluster.specs.declared.searching.LineFronts.{LineFronts}
use Rattle.session_cluster.specs.contracts.searching.LineFronts as line_fronts

-- ---- lanes, whatever shelves they have

abbrev pub own_lane : {H : Type 0} → Shelved H → LaneValue
own_lane s = s.lane

abbrev pub lanes_in : {H : Type 0} → List (Shelved H) → List LaneValue
lanes_in xs = map own_lane xs

-- how many low bits of a key tell the lanes apart; the states that were published, and how many acknowledgements a
-- write needs; what each lane is; how many lines were dealt with; how the upkeep went that lines asked for; and how far
-- searches read
pub record Cell : Type 0 where
  pub bits : ℕ
  pub told : Told
  pub lanes : List LaneValue
  pub dealt : ℕ
  pub upkeeps : List LineSpans
  pub fronts : List LineFronts

abbrev pub told_code : Coded Told
told_code = code_by (ℕ × List ClusterState) (coded× coded_ℕ (coded_list states.the_row.coded)) (λ t. (t.acks, t.states)) (λ p. record { acks = p.0; states = p.1 }) (λ _. refl)

abbrev pub cell_code : Coded Cell
cell_code = code_by (ℕ × (Told × (List LaneValue × (ℕ × (List LineSpans × List LineFronts)))))
    (coded× coded_ℕ (coded× told_code (coded× (coded_list lane_code) (coded× coded_ℕ (coded× (coded_list line_spans.the_row.coded) (coded_list line_fronts.the_row.coded))))))
    (λ c. (c.bits, (c.told, (c.lanes, (c.dealt, (c.upkeeps, c.fronts))))))
    (λ p. record { bits = p.0; told = p.1.0; lanes = p.1.1.0; dealt = p.1.1.1.0; upkeeps = p.1.1.1.1.0; fronts = p.1.1.1.1.1 })
    (λ _. refl)

-- the journal of each lane, newest event first
abbrev pub journals : List LaneValue → List (List LaneEvent)
journals vs = map (λ (v : LaneValue). v.journal) vs

abbrev pub journals_of : Cell → List (List LaneEvent)
journals_of c = journals c.lanes

-- there is no lane, no line was dealt with, no upkeep was made, and no search
abbrev pub is_empty : Cell → Bool
is_empty c = length c.lanes == 0 && (c.dealt == 0 && (length c.upkeeps == 0 && length c.fronts == 0))

-- a cluster has no lane, or all that its bits tell apart
pub record IsCluster (bits lanes : ℕ) : Type 0 where
  pub some : 1 ≤ bits
  pub most : bits ≤ 6
  pub whole : (lanes ≡ 0) ⊎ (lanes ≡ 2 ^ bits)

-- ---- a session at work

-- a lane with the shelf from which searches read
abbrev pub ShownLane : Type 0
ShownLane = Shelved Plain

abbrev pub own_shelf : ShownLane → Plain
own_shelf s = s.shelf

abbrev pub shelves_in : List ShownLane → List Plain
shelves_in xs = map own_shelf xs

-- the cluster that it would leave, and what the shelf of each lane has
pub record ShownCell : Type 0 where
  pub cell : Cell
  pub shelves : List Plain

abbrev pub shown_cell_code : Coded ShownCell
shown_cell_code = code_by (Cell × List Plain) (coded× cell_code (coded_list plain_code)) (λ s. (s.cell, s.shelves)) (λ p. record { cell = p.0; shelves = p.1 }) (λ _. refl)

-- it has lanes as a cluster has, and room for all that its bits tell apart, without shelves
pub record IsShownCluster {X : Type 0} (bits lanes : ℕ) (taken : List X) (room : ℕ) : Type 0 where
  pub cluster : IsCluster bits lanes
  pub none : taken ≡ []
  pub roomy : 2 ^ bits ≤ room
