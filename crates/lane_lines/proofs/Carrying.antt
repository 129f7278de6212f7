-- Events that send, deliver and return nothing leave what becomes of messages.
use Rattle.std.proofs.Common.{◌≡◌, ℕ, Bool, true, false, List, [], ◌∷◌, Option, None, Some, if◌then◌else◌}
use Rattle.cluster_states.specs.declared.cluster_state.ClusterState.{ClusterState}
use Rattle.carriers.specs.declared.fate.Fate.{Fate}
use Rattle.messages.specs.declared.late.Late.{Late}
use Rattle.lane_journals.specs.Readers.{held}
use Rattle.lane_journals.specs.Meanings.{history}
use Rattle.lane_journals.specs.declared.event.LaneEvent.{LaneEvent}
use Rattle.lane_journals.specs.declared.event.LaneEvent.TheVariants.{Heard}
use Rattle.lane_carriage.specs.Carriage.{IsCarried, IsOther, Nothing, Other}
use Rattle.lane_carriage.specs.Waits.{IsWaiting}
use Rattle.lane_states.specs.declared.lane_state.LaneState.{LaneState}
use Rattle.lane_keeping.specs.Tidings.{is_older, heard_next}
use Rattle.lane_states.specs.LaneStates.{journal_of, IsCarriedBy}
use Rattle.lane_carriage.specs.Carrying.{AreCarried}

carried-by : (given : List Fate) (J K : List LaneEvent) (last other : ℕ) (late rest : List Late) → AreCarried given J last late → K ≡ J → other ≡ last → rest ≡ late → AreCarried given K other rest
carried-by given J K last other late rest h journal same stays = rw (journal, same, stays) h

pub carried-still : (x y : LaneState) → journal_of y ≡ journal_of x → y.last ≡ x.last → y.late.late ≡ x.late.late → (given : List Fate) → IsCarriedBy x given → IsCarriedBy y given
carried-still x y journal last late given h = carried-by given (journal_of x) (journal_of y) x.last y.last x.late.late y.late.late h journal last late

-- the journal grew by what sends, delivers and returns nothing
pub carried-like : (x y : LaneState) (K : List LaneEvent) → ((given : List Fate) → IsCarried given (journal_of x) → IsCarried given K) → journal_of y ≡ K → y.last ≡ x.last → y.late.late ≡ x.late.late → (given : List Fate) → IsCarriedBy x given → IsCarriedBy y given
carried-like x y K on journal last late given h = carried-by given K (journal_of y) x.last y.last x.late.late y.late.late (record { carried = on given h.carried; waiting = h.waiting }) journal last late

pub carried-more : (x y : LaneState) (e : LaneEvent) → IsOther e → journal_of y ≡ e ∷ journal_of x → y.last ≡ x.last → y.late.late ≡ x.late.late → (given : List Fate) → IsCarriedBy x given → IsCarriedBy y given
carried-more x y e other journal last late given h =
    carried-by given (e ∷ journal_of x) (journal_of y) x.last y.last x.late.late y.late.late
    (record { carried = Other given (journal_of x) e other h.carried; waiting = h.waiting }) journal last late

pub carried-heard : (x y : LaneState) (d : ℕ) (o : Option ClusterState) → journal_of y ≡ heard_next d o (journal_of x) → y.last ≡ x.last → y.late.late ≡ x.late.late → (given : List Fate) → IsCarriedBy x given → IsCarriedBy y given
carried-heard x y d None journal last late = carried-still x y journal last late
carried-heard x y d (Some s) journal last late = by_test (is_older (held d (history (journal_of x))) s.version) journal
  where
    by_test : (b : Bool) → journal_of y ≡ (if b then Heard d s.version ∷ journal_of x else journal_of x) → (given : List Fate) → IsCarriedBy x given → IsCarriedBy y given
    by_test true e = carried-more x y (Heard d s.version) tt e last late
    by_test false e = carried-still x y e last late

-- nothing was sent
pub carried-none : (x : LaneState) → journal_of x ≡ [] → x.last ≡ 0 → x.late.late ≡ [] → IsWaiting [] 0 [] → IsCarriedBy x []
carried-none x journal last late waits = carried-by [] [] (journal_of x) 0 x.last [] x.late.late (record { carried = Nothing; waiting = waits }) journal last late
