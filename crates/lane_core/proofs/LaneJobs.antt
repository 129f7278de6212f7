-- The operations of a lane's value and the jobs behind them.
use Rattle.std.proofs.Common.{◌≡◌, ℕ, Bool, List, Some, slice_get, sym, ap, ◌∙◌, subst}
use Rattle.bucket_ids.specs.Buckets.{Low}
use Rattle.carriers.specs.declared.fate.Fate.{Fate}
use Rattle.distributor_part.specs.declared.rules.Rules.{Rules}
use Rattle.lane_journals.specs.declared.event.LaneEvent.{LaneEvent}
use Rattle.lane_calls.specs.declared.progress.UnderWay.{UnderWay}
use Rattle.lane_calls.specs.declared.answers.Advance.{Advance}
use Rattle.lane_calls.specs.LaneValues.{LaneValue, WantsMore, WantsEnd, MayAdvance, MayClose}
use Rattle.lane_core.specs.declared.work.Job.{Job}
use Rattle.lane_core.specs.declared.work.Phase.{Phase}
use Rattle.lane_core.specs.declared.work.Phase.TheVariants as phase
use Rattle.lane_core.specs.declared.work.Work.{Work}
use Rattle.lane_core.specs.Advancing.{IsAdvance, AdvancesAt}
use Rattle.lane_core.specs.Works.{value_of, under_way_at, under_way_in, progress_of, AreJobs, HasJob, HasJobToClose, IsToClosePhase}
use Rattle.lane_core.proofs.Places.{get-map, get-map-back, get-one}

module _ (jobs : List Job) (line : ℕ) where
  pub may-advance : MayAdvance line (under_way_in jobs) → HasJob line jobs
  may-advance h =
      let b = get-map-back under_way_at jobs h.0 h.1 (h.2).found in
      (h.0, b.0, record { found = b.1; line_is = ap (λ (u : UnderWay). u.line) (sym b.2) ∙ (h.2).line_is })

  to-close-phase : (p : Phase) → WantsEnd (progress_of p) → IsToClosePhase p
  to-close-phase phase.Begun h = absurd h
  to-close-phase (phase.Prepared m r w) h = absurd h
  to-close-phase (phase.Over o t a) h = tt
  to-close-phase phase.Short h = tt

  pub may-close-job : MayClose line (under_way_in jobs) → HasJobToClose line jobs
  may-close-job h =
      let b = get-map-back under_way_at jobs h.0 h.1 (h.2).found in
      (h.0, b.0, record { found = b.1; line_is = ap (λ (u : UnderWay). u.line) (sym b.2) ∙ (h.2).line_is }, to-close-phase b.0.phase (subst (λ (u : UnderWay). WantsEnd u.progress) b.2 h.3))

  -- that of the line wants more, wherever it is found
  pub more-at : (lane : Low) (rules : Rules) (J : List LaneEvent) → AreJobs lane rules J jobs → MayAdvance line (under_way_in jobs) → (at : ℕ) (j : Job) → slice_get jobs at ≡ Some j → j.line ≡ line → WantsMore (progress_of j.phase)
  more-at lane rules J are h at j found is =
      let b = get-map-back under_way_at jobs h.0 h.1 (h.2).found in
      let same : h.0 ≡ at = are.lines_apart h.0 at b.0 j b.1 found (ap (λ (u : UnderWay). u.line) (sym b.2) ∙ (h.2).line_is ∙ sym is) in
      subst (λ (z : Job). WantsMore (progress_of z.phase)) (get-one jobs at b.0 j (subst (λ (i : ℕ). slice_get jobs i ≡ Some b.0) same b.1) found)
      (subst (λ (u : UnderWay). WantsMore u.progress) b.2 h.3)

-- what was done at the place of the line is its advance
pub advance-at : (w : Work) (given planned : List Fate) (takes : Bool) (b : LaneValue) (line at : ℕ) (j : Job) → slice_get w.jobs.items at ≡ Some j → j.line ≡ line → WantsMore (progress_of j.phase) → (answer : Advance) → AdvancesAt at (value_of w given planned takes) b answer
    → IsAdvance line (value_of w given planned takes) b answer
advance-at w given planned takes b line at j found is wants answer h = record {
  at = at;
  operation = h.0;
  place = record {
    found = h.1;
    line_is = ap (λ (u : UnderWay). u.line) here ∙ is;
  };
  wants = subst (λ (u : UnderWay). WantsMore u.progress) (sym here) wants;
  advances = h.2;
}
  where
    here : h.0 ≡ under_way_at j
    here = get-one (under_way_in w.jobs.items) at h.0 (under_way_at j) h.1 (get-map under_way_at w.jobs.items at j found)
