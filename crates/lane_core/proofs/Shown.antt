-- What holds of the value of each lane.
use Rattle.std.proofs.Common.{◌≡◌, ◌∙◌, ℕ, Bool, false, List, Option, None, Some, IsSome, slice_get, inl, inr, refl, sym, ap, subst}
use Rattle.carriers.specs.declared.fate.Fate.{Fate}
use Rattle.view_changes.specs.declared.change.LaneChange.{LaneChange}
use Rattle.distributor_part.specs.declared.rules.Rules.{Rules}
use Rattle.bucket_ids.specs.Buckets.{Low}
use Rattle.cluster_states.specs.declared.cluster_state.ClusterState.{ClusterState}
use Rattle.distributor_part.specs.Parts.{Part, rows_of, version_of}
use Rattle.lane_keeping.specs.LaneKeeping.{Holds}
use Rattle.lane_states.specs.Accepting.{AreRowsAccepted}
use Rattle.lane_states.specs.LaneStates.{journal_of, part_of, IsKept}
use Rattle.lane_states.specs.declared.lane_state.LaneState.{LaneState}
use Rattle.lane_journals.specs.Readers.{began, closed, held, asked, opened}
use Rattle.lane_journals.specs.RowLists.{row_with, rows}
use Rattle.lane_journals.specs.Places.{state_in}
use Rattle.lane_journals.specs.Meanings.{history}
use Rattle.lane_journals.specs.declared.event.LaneEvent.{LaneEvent}
use Rattle.lane_calls.specs.LaneValues.{LinesAre, IsLaneValue}
use Rattle.lane_calls.specs.declared.progress.UnderWay.{UnderWay}
use Rattle.lane_core.specs.declared.work.Job.{Job}
use Rattle.lane_core.specs.declared.work.Work.{Work}
use Rattle.lane_core.specs.Works.{AreJobs, under_way_at, under_way_in, value_of}
use Rattle.lane_core.specs.LaneInside.{IsLane}
use Rattle.lane_core.proofs.Places.{get-map, get-map-back}

module _ (lane : Low) (rules : Rules) (J : List LaneEvent) (jobs : List Job) (a : AreJobs lane rules J jobs) where
  -- an operation under way was begun, and isn't closed
  unclosed : (at : ℕ) (u : UnderWay) → slice_get (under_way_in jobs) at ≡ Some u → IsSome (began u.line (history J)) × (closed u.line (history J) ≡ false)
  unclosed at u found =
      let b = get-map-back under_way_at jobs at u found in
      let j = a.each at b.0 b.1 in
      let line : u.line ≡ (b.0).line = ap (λ (x : UnderWay). x.line) b.2 in
      (subst (λ (n : ℕ). IsSome (began n (history J))) (sym line) (subst IsSome (sym (j.under_way).begun_as) refl), subst (λ (n : ℕ). closed n (history J) ≡ false) (sym line) (j.under_way).unclosed)

  lines-are : LinesAre (history J) (under_way_in jobs)
  lines-are = record {
    unclosed = unclosed;
    others = λ line begin begun. elim (a.others line begin begun) [
      | inl closed_is ↦ inl closed_is
      | inr there ↦ inr (there.0, under_way_at there.1, record { found = get-map under_way_at jobs there.0 there.1 there.2; line_is = there.3 })
    ];
  }

pub lane-value : {H : Type 0} (shows : H → List LaneChange → Type 0) (pending : H → List LaneChange) (w : Work) (given planned : List Fate) (takes : Bool) (shelf : H) → IsLane shows pending w given shelf → IsLaneValue (value_of w given planned takes)
lane-value shows pending w given planned takes shelf is = record {
  legal = ((is.works).kept).keeps.legal;
  carried = (is.carried).carried;
  lines = lines-are w.state.lane w.state.rules (journal_of w.state) w.jobs.items (is.works).jobs_are;
}

-- ---- its rows

-- the version that a distributor holds is that of the state that its part heard
module _ (x : LaneState) (d : ℕ) (p : Part) where
  abbrev HeldAs : Option ClusterState → Type 0
  HeldAs o = Holds x.lane d (held d (history (journal_of x))) (λ v. state_in v (journal_of x)) (λ v n. asked v n (history (journal_of x))) (λ v. opened v (history (journal_of x))) (λ v key. row_with key (rows v (history (journal_of x)))) o p

  heard-version : (o : Option ClusterState) → HeldAs o → (v : ℕ) → held d (history (journal_of x)) ≡ Some v → version_of o ≡ v
  heard-version None h v e = absurd (none-is v (sym h ∙ e))
    where
      none-is : (v : ℕ) → ◌≡◌ {A = Option ℕ} None (Some v) → ⊥
      none-is v e = cc
  heard-version (Some s) h v e = some-is s.version v (sym h.0 ∙ e)
    where
      some-is : (a b : ℕ) → ◌≡◌ {A = Option ℕ} (Some a) (Some b) → a ≡ b
      some-is a b e = cc

pub activated-rows : (x : LaneState) (d : ℕ) → IsKept x → (v : ℕ) → held d (history (journal_of x)) ≡ Some v → AreRowsAccepted v (history (journal_of x)) (rows_of (part_of x d).rows)
activated-rows x d kept v holds =
    subst (λ n. AreRowsAccepted n (history (journal_of x)) (rows_of (part_of x d).rows)) (heard-version x d (part_of x d) (part_of x d).state ((kept.keeps.parts_are d).heard) v holds) (kept.accepted d)
