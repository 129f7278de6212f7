-- Openings and rounds write no entry.
use Rattle.std.proofs.Common.{◌+◌, ℕ, List, ◌∷◌, length, refl, sym, subst}
use Rattle.bucket_ids.specs.Buckets.{Low}
use Rattle.cluster_states.specs.declared.cluster_state.ClusterState.{ClusterState}
use Rattle.carriers.specs.declared.fate.Fate.{Fate}
use Rattle.messages.specs.declared.message.Message.{Message}
use Rattle.messages.specs.declared.late.Late.{Late}
use Rattle.lane_journals.specs.declared.event.LaneEvent.{LaneEvent}
use Rattle.lane_journals.specs.declared.event.LaneEvent.TheVariants.{Opened}
use Rattle.lane_keeping.specs.Replaying.{sending}
use Rattle.lane_carriage.specs.Waits.{numbers}
use Rattle.lane_states.specs.declared.lane_state.LaneState.{LaneState}
use Rattle.round_keeping.specs.declared.round_run.RoundRun.{RoundRun}
use Rattle.round_keeping.specs.declared.round_run.RoundEnd.{RoundEnd}
use Rattle.lane_carriage.specs.Carrying.{met_at}
use Rattle.lane_states.specs.LaneStates.{journal_of}
use Rattle.lane_rounds.specs.Openings.{EndsOpening, StopsOpening}
use Rattle.lane_rounds.specs.declared.opening.OpeningEnd.{OpeningEnd}
use Rattle.round_keeping.specs.RoundRuns.{Sends, IsRoundRun, Nothing, Further, Begins, IsWholeRun, IsCutShort}
use Rattle.lane_states.specs.Written.{AddsNoEntry}
use Rattle.lane_carriage.proofs.Staying.{stays-delivered, stays-dealt}
use Rattle.lane_rounds.proofs.Staying.{stays-ended, stays-stopped}
use Rattle.lane_lines.proofs.Entries.{adds-none, adds-one, adds-of-message}

-- ---- the opening of a state

adds-opened : (J : List LaneEvent) (d v : ℕ) (buckets : List Low) (K : List LaneEvent) → AddsNoEntry J K → AddsNoEntry J (Opened d v buckets ∷ K)
adds-opened J d v buckets K a = adds-one J K (Opened d v buckets) refl a

pub adds-ended : (c e : LaneState) (d : ℕ) (end : OpeningEnd) → EndsOpening c e d end → AddsNoEntry (journal_of c) (journal_of e)
adds-ended c e d end h =
    let J : List LaneEvent = journal_of c in
    stays-ended (λ (K : List LaneEvent). AddsNoEntry J K) (adds-of-message J) (adds-opened J) c d end.missing end.short (journal_of e) h.part h.ends (adds-none J J refl)

pub adds-stopped : (c e : LaneState) (d : ℕ) → StopsOpening c e d → AddsNoEntry (journal_of c) (journal_of e)
adds-stopped c e d h =
    let J : List LaneEvent = journal_of c in
    stays-stopped (λ (K : List LaneEvent). AddsNoEntry J K) (adds-of-message J) (adds-opened J) c d (journal_of e) h.part h.stops (adds-none J J refl)

-- ---- a round

adds-sent : (m : Message) (fate : Fate) (last : ℕ) (late rest : List Late) (J K L : List LaneEvent) → Sends m fate last late K rest L → AddsNoEntry J K → AddsNoEntry J L
adds-sent m fate last late rest J K L h a =
    stays-delivered (λ (M : List LaneEvent). AddsNoEntry J M) (adds-of-message J) (numbers (h.due).taken) h.after L (h.due).delivered
    (stays-dealt (λ (M : List LaneEvent). AddsNoEntry J M) (adds-of-message J) (met_at K m fate) (last + 1) (sending (last + 1) m ∷ K) h.after h.dealt
    (adds-one J K (sending (last + 1) m) refl a))

adds-run : (lane : Low) (d : ℕ) (s : ClusterState) (last : ℕ) (late : List Late) (J : List LaneEvent) (fates : List Fate) (rest : List Late) (K : List LaneEvent) → IsRoundRun lane d s last late J fates rest K → AddsNoEntry J K
adds-run lane d s last late J fates rest K Nothing = adds-none J J refl
adds-run lane d s last late J fates rest K (Further before mid M fate left L run h) =
    adds-sent h.message fate (last + length before) mid left J M L h.sends (adds-run lane d s last late J before mid M run)

pub adds-begun : (lane : Low) (J K : List LaneEvent) (d key : ℕ) (x : RoundRun) → Begins lane J K d key x → AddsNoEntry J K
adds-begun lane J K d key x b = subst (λ (M : List LaneEvent). AddsNoEntry J M) (sym b.grows) (adds-one J J _ refl (adds-none J J refl))

pub adds-whole : (lane : Low) (x : RoundRun) (end : RoundEnd) (given after : List Fate) (last now : ℕ) (late rest : List Late) (J K : List LaneEvent) → IsWholeRun lane x end given after last now late rest J K → AddsNoEntry J K
adds-whole lane x end given after last now late rest J K w =
    subst (λ (M : List LaneEvent). AddsNoEntry J M) (sym w.ended) (adds-one J w.before _ refl (adds-run lane x.distributor x.state last late J (w.on).fates rest w.before (w.on).run))

pub adds-cut : (lane : Low) (x : RoundRun) (given after : List Fate) (last now : ℕ) (late rest : List Late) (J K : List LaneEvent) → IsCutShort lane x given after last now late rest J K → AddsNoEntry J K
adds-cut lane x given after last now late rest J K w =
    subst (λ (M : List LaneEvent). AddsNoEntry J M) (sym w.ended) (adds-one J w.before _ refl (adds-run lane x.distributor x.state last late J (w.on).fates rest w.before (w.on).run))
