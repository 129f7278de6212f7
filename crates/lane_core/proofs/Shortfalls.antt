-- An operation that couldn't be prepared is over.
use Rattle.std.proofs.Common.{◌≡◌, ℕ, Bool, true, false, List, Some, length, vec_len, slice_get, slice_set, refl, sym, ap, subst, ◌∙◌}
use Rattle.cluster_states.specs.declared.cluster_state.ClusterState.{ClusterState}
use Rattle.messages.specs.declared.outcome.Outcome.{Outcome}
use Rattle.messages.specs.declared.outcome.Outcome.TheVariants.{Acked, Nothing, Found, Missing, ConditionFailed, BadUpdate, TooFew, OwnedElsewhere, NoMemory}
use Rattle.lane_journals.specs.Readers.{Journal}
use Rattle.lane_journals.specs.Meanings.{is_acked}
use Rattle.lane_core.specs.declared.work.Job.{Job}
use Rattle.lane_core.specs.declared.work.Phase.TheVariants.{Over}
use Rattle.lane_core.specs.declared.work.Work.{Work}
use Rattle.lane_states.specs.LaneStates.{journal_of, IsKept, HasRoom, AreResting}
use Rattle.lane_core.specs.Works.{IsWork, IsJob, AreJobs, MayMark, value_of, under_way_at}
use Rattle.lane_core.specs.Preparations.{FallsShort, OverAt}
use Rattle.stamps.specs.Places.{place_of}
use Rattle.lane_states.specs.Written.{FindsEntries}
use Rattle.lane_states.specs.declared.lane_state.LaneState.{LaneState}
use Rattle.stamps.specs.declared.places.StampPlaces.{StampPlaces}
use Rattle.carriers.specs.declared.fate.Fate.{Fate}
use Rattle.lane_calls.specs.LaneValues.{with_run}
use Rattle.operation_keeping.specs.Others.{Same}
use Rattle.lane_core.proofs.Places.{get-map, set-length}
use Rattle.lane_core.proofs.JobLists.{jobs-set}
use Rattle.lane_core.proofs.Working.{quiet-same, work-set, value-set}
use Rattle.lane_journals.specs.declared.event.LaneEvent.{LaneEvent}

no-marks : (H : Journal) (j : Job) (s : ClusterState) (n : ℕ) (o : Outcome) → is_acked o ≡ false → MayMark H j s n o
no-marks H j s n (Acked t) e = let none : true ≡ false = e in cc
no-marks H j s n (Nothing x) e = tt
no-marks H j s n (Found x) e = tt
no-marks H j s n (Missing x) e = tt
no-marks H j s n (ConditionFailed x) e = tt
no-marks H j s n (BadUpdate x) e = tt
no-marks H j s n (TooFew a b x) e = tt
no-marks H j s n (OwnedElsewhere a b) e = tt
no-marks H j s n NoMemory e = tt

-- the operation of the place is over with the outcome
module _ (x w : Work) (at : ℕ) (o told : Outcome) (n : ℕ) (k : IsWork x) (j : Job) (found : slice_get x.jobs.items at ≡ Some j) (f : FallsShort x.state j o told) (same : w.state ≡ x.state) (drawn : w.drawn ≡ x.drawn) (places : w.places ≡ x.places) (room : w.has_room ≡ x.has_room)
    (schema : w.schema ≡ x.schema) (items : w.jobs.items ≡ slice_set x.jobs.items at (record j { phase = Over o told n })) where
  was : IsJob x.state.lane x.state.rules (journal_of x.state) j
  was = (k.jobs_are).each at j found

  over : IsJob x.state.lane x.state.rules (journal_of x.state) (record j { phase = Over o told n })
  over = record {
    state = (was).state;
    acting = (was).acting;
    under_way = (was).under_way;
    key_is = (was).key_is;
    key_in = (was).key_in;
    own = (was).own;
    plain = (was).plain;
    row_is = (was).row_is;
    phase_is = record { same = f.same; legal = f.legal; marks = no-marks _ _ _ n o f.unacked };
  }

  jobs : AreJobs x.state.lane x.state.rules (journal_of x.state) (slice_set x.jobs.items at (record j { phase = Over o told n }))
  jobs = jobs-set x.state.lane x.state.rules (journal_of x.state) (journal_of x.state) x.jobs.items k.jobs_are ((k.kept).keeps).legal ((k.kept).keeps).legal at j found (record j { phase = Over o told n }) refl refl over tt (λ b m got off. Same) (λ l. refl) (λ l. refl)

  pub work-over : IsWork w
  work-over = work-set x w k (record {
    lane = ap (λ (z : LaneState). z.lane) same;
    rules = ap (λ (z : LaneState). z.rules) same;
    newest = ap (λ (z : LaneState). z.newest) same;
    spare = ap (λ (z : LaneState). z.spare) same;
    parted = ap (λ (z : LaneState). vec_len z.parts) same;
    placed = ap (λ (z : LaneState). z.turn_room) same;
    resting = λ r. subst AreResting (sym same) r;
    quiet = quiet-same (journal_of x.state) (journal_of w.state) (ap journal_of same);
  }) drawn room (subst IsKept (sym same) k.kept) (subst (HasRoom 0) (sym same) k.room)
      (subst (λ (z : LaneState). AreJobs z.lane z.rules (journal_of z) w.jobs.items) (sym same) (subst (λ (js : List Job). AreJobs x.state.lane x.state.rules (journal_of x.state) js) (sym items) jobs))
      (ap length items ∙ set-length x.jobs.items at (record j { phase = Over o told n }))
      (subst (λ (z : LaneState). FindsEntries (place_of w.places) z.journal.events.items) (sym same) (subst (λ (p : StampPlaces). FindsEntries (place_of p) x.state.journal.events.items) (sym places) k.finds))

  pub over-value : (given planned : List Fate) (takes : Bool) → OverAt at o (value_of x given planned takes) (value_of w given planned takes)
  over-value given planned takes = (
    under_way_at j,
    get-map under_way_at x.jobs.items at j found,
    value-set x w given given planned takes at (record j { phase = Over o told n }) (ap (λ (z : LaneState). z.lane) same) (ap (λ (z : LaneState). z.rules) same) schema room items
        ∙ ap (λ (J : List LaneEvent). with_run (value_of x given planned takes) J given at (under_way_at (record j { phase = Over o told n }))) (ap journal_of same),
  )
