-- A lane between two lines: a state is published and heard, a node stops or starts.
use Rattle.std.proofs.Common.{◌≡◌, ℕ, Bool, true, false, List, [], ◌∷◌, Option, Some, if◌then◌else◌, slice_get, inl, inr, refl, sym, ap, ◌∙◌}
use Rattle.bucket_ids.specs.Buckets.{Low}
use Rattle.cluster_states.specs.declared.cluster_state.ClusterState.{ClusterState}
use Rattle.carriers.specs.declared.fate.Fate.{Fate}
use Rattle.distributor_part.specs.declared.rules.Rules.{Rules}
use Rattle.stamps.specs.declared.stamp.Stamp.{Stamp}
use Rattle.lane_journals.specs.Readers.{Beginning, held, began, closed, stopped}
use Rattle.operation_keeping.specs.OperationKeeping.{beginning_of}
use Rattle.proof_basics.proofs.Options.{some_same as some-same}
use Rattle.lane_journals.specs.Meanings.{history}
use Rattle.lane_journals.specs.Legal.{Legal}
use Rattle.lane_journals.specs.States.{state_of}
use Rattle.lane_journals.specs.Places.{Setting}
use Rattle.lane_journals.specs.KeptJournals.{past, IsLegal, IsLegalStep}
use Rattle.lane_journals.specs.Buckets.{Id}
use Rattle.operation_keeping.specs.Others.{IsAnothers, Same, More}
use Rattle.lane_core.specs.declared.work.Job.{Job}
use Rattle.lane_core.specs.Works.{AreJobs}
use Rattle.lane_core.proofs.JobLists.{no-jobs, all-closed-of, jobs-still}
use Rattle.lane_journals.specs.declared.event.LaneEvent.{LaneEvent}
use Rattle.lane_journals.specs.declared.event.LaneEvent.TheVariants.{Published, Heard, Stopped, Started}
use Rattle.lane_journals.proofs.Basics.{held-published}
use Rattle.lane_keeping.specs.LaneKeeping.{IsIdle, setting_of}
use Rattle.lane_keeping.specs.Lines.{IsFresh}
use Rattle.lane_journals.specs.Facts.{AllClosed}
use Rattle.lane_carriage.specs.Carriage.{IsCarried, Other}
use Rattle.lane_keeping.specs.Tidings.{is_older, heard_next, announced, stopped_next, started_next}
use Rattle.lane_states.specs.Written.{FindsEntries, writes_entry}
use Rattle.lane_lines.proofs.Entries.{past-past, finds-pushed}
use Rattle.lane_core.proofs.Working.{KeepsLines}
use Rattle.lane_states.proofs.Hearings.{older-by, stays-heard}

-- ---- one distributor

-- an event that is of no line and sends and returns nothing leaves the operations under way
pub jobs-quiet : (lane : Low) (rules : Rules) (J : List LaneEvent) (jobs : List Job) (e : LaneEvent) → IsLegal (setting_of lane rules) (e ∷ J) → ((line : ℕ) (id : Id) → IsAnothers line id J e) → ((l : ℕ) → began l (history (e ∷ J)) ≡ began l (history J)) → ((l : ℕ) → closed l (history (e ∷ J)) ≡ closed l (history J))
    → AreJobs lane rules J jobs → AreJobs lane rules (e ∷ J) jobs
jobs-quiet lane rules J jobs e legal others begins ends are = jobs-still lane rules J (e ∷ J) jobs are legal.0 legal (λ b m h. More e J Same (others m.line m.operation.id)) begins ends

pub lines-heard : (lane : Low) (rules : Rules) (J : List LaneEvent) (newest : Option ClusterState) (counts : ℕ → ℕ) (jobs : List Job) (d : ℕ) (s : ClusterState) → IsLegal (setting_of lane rules) (heard_next d (Some s) J) → KeepsLines lane rules J newest counts jobs → KeepsLines lane rules (heard_next d (Some s) J) newest counts jobs
lines-heard lane rules J newest counts jobs d s legal k = by_test (is_older (held d (history J)) s.version) legal
  where
    by_test : (b : Bool) → IsLegal (setting_of lane rules) (if b then Heard d s.version ∷ J else J) → KeepsLines lane rules (if b then Heard d s.version ∷ J else J) newest counts jobs
    by_test true l = record { newest_is = k.newest_is; counts_are = k.counts_are; no_round = k.no_round; jobs_are = jobs-quiet lane rules J jobs (Heard d s.version) l (λ line id. tt) (λ i. refl) (λ i. refl) k.jobs_are }
    by_test false l = k

-- a line without events has none still
pub fresh-heard : (J : List LaneEvent) (d : ℕ) (s : ClusterState) (line : ℕ) → IsFresh (history J) line → IsFresh (history (heard_next d (Some s) J)) line
fresh-heard J d s line h = by_test (is_older (held d (history J)) s.version)
  where
    by_test : (b : Bool) → IsFresh (history (if b then Heard d s.version ∷ J else J)) line
    by_test true = h
    by_test false = h

-- nobody holds a state that is just published
pub all-older : (S : Setting) (J : List LaneEvent) (s : ClusterState) → Legal S.acks (state_of (history J)) (history J) → IsLegalStep S J (Published s) → (d : ℕ) → is_older (held d (history (Published s ∷ J))) s.version ≡ true
all-older S J s legal step d = older-by (held d (history J)) s.version (λ w e. (step.permitted).newest w (held-published S.acks (state_of (history J)) (history J) legal d w e))

-- where all is closed, each is idle
pub idle-all : (J : List LaneEvent) (e : ℕ) → AllClosed (history J) → IsIdle e (λ line. began line (history J)) (λ line. closed line (history J))
idle-all J e all = λ line begin is same. all line begin is

-- a distributor of which no operation is under way is idle
pub idle-free : (lane : Low) (rules : Rules) (J : List LaneEvent) (jobs : List Job) (d : ℕ) → AreJobs lane rules J jobs → ((at : ℕ) (j : Job) → slice_get jobs at ≡ Some j → j.distributor ≡ d → ⊥) → IsIdle d (λ line. began line (history J)) (λ line. closed line (history J))
idle-free lane rules J jobs d are none line begin b at_d = elim (are.others line begin b) [
  | inl over ↦ over
  | inr there ↦ (let k = are.each there.0 there.1 there.2 in
      let same : begin ≡ beginning_of there.1.distributor k.state there.1.operation there.1.stamp = some-same _ _ (sym b ∙ ap (λ (l : ℕ). began l (history J)) (sym there.3) ∙ (k.under_way).begun_as) in
      absurd (none there.0 there.1 there.2 (sym (ap (λ (z : Beginning). z.distributor) same) ∙ at_d)))
]

-- ---- a state is published, and heard

finds-more : (place : Stamp → Option ℕ) (e : LaneEvent) (K : List LaneEvent) → writes_entry e ≡ false → FindsEntries place (past K) → FindsEntries place (past (e ∷ K))
finds-more place e K none g = finds-pushed place (past K) (past (e ∷ K)) e none (past-past (e ∷ K) ∙ ap (λ (L : List LaneEvent). e ∷ L) (sym (past-past K))) g

module _ (deaf : ℕ) (s : ClusterState) (J : List LaneEvent) where
  lines-all : (lane : Low) (rules : Rules) (counts : ℕ → ℕ) → KeepsLines lane rules (Published s ∷ J) (Some s) counts [] → KeepsLines lane rules (announced deaf s J) (Some s) counts []
  lines-all lane rules counts k = stays-heard (λ (K : List LaneEvent). KeepsLines lane rules K (Some s) counts []) more 32 deaf s (Published s ∷ J) k
    where
      more : (d v : ℕ) (K : List LaneEvent) → KeepsLines lane rules K (Some s) counts [] → KeepsLines lane rules (Heard d v ∷ K) (Some s) counts []
      more d v K h = record { newest_is = h.newest_is; counts_are = h.counts_are; no_round = h.no_round; jobs_are = no-jobs lane rules (Heard d v ∷ K) (all-closed-of lane rules K h.jobs_are) }

  pub lines-announced : (lane : Low) (rules : Rules) (newest : Option ClusterState) (counts : ℕ → ℕ) → KeepsLines lane rules J newest counts [] → KeepsLines lane rules (announced deaf s J) (Some s) counts []
  lines-announced lane rules newest counts k =
      lines-all lane rules counts (record { newest_is = refl; counts_are = k.counts_are; no_round = k.no_round; jobs_are = no-jobs lane rules (Published s ∷ J) (all-closed-of lane rules J k.jobs_are) })

  pub carried-announced : (given : List Fate) → IsCarried given J → IsCarried given (announced deaf s J)
  carried-announced given h = stays-heard (IsCarried given) (λ d v K k. Other given K (Heard d v) tt k) 32 deaf s (Published s ∷ J) (Other given J (Published s) tt h)

  pub finds-announced : (place : Stamp → Option ℕ) → FindsEntries place (past J) → FindsEntries place (past (announced deaf s J))
  finds-announced place f = stays-heard (λ (K : List LaneEvent). FindsEntries place (past K)) (λ d v K g. finds-more place (Heard d v) K refl g) 32 deaf s (Published s ∷ J) (finds-more place (Published s) J refl f)

-- ---- a node stops or starts

-- what holds of both journals holds of either
either : (P : List LaneEvent → Type 0) (b : Bool) (J K : List LaneEvent) → P J → P K → P (if b then J else K)
either P true J K p q = p
either P false J K p q = q

module _ (n : ℕ) (J : List LaneEvent) where
  module _ (P : List LaneEvent → Type 0) where
    pub stays-stopped : P J → P (Stopped n ∷ J) → P (stopped_next n J)
    stays-stopped p q = either P (stopped n (history J)) J (Stopped n ∷ J) p q

    pub stays-started : P J → P (Started n ∷ J) → P (started_next n J)
    stays-started p q = either P (stopped n (history J)) (Started n ∷ J) J q p

  pub lines-stopped : (lane : Low) (rules : Rules) (newest : Option ClusterState) (counts : ℕ → ℕ) (jobs : List Job) → IsLegal (setting_of lane rules) (stopped_next n J) → KeepsLines lane rules J newest counts jobs → KeepsLines lane rules (stopped_next n J) newest counts jobs
  lines-stopped lane rules newest counts jobs legal k = stays-stopped (λ (K : List LaneEvent). IsLegal (setting_of lane rules) K → KeepsLines lane rules K newest counts jobs) (λ l. k)
      (λ l. record { newest_is = k.newest_is; counts_are = k.counts_are; no_round = k.no_round; jobs_are = jobs-quiet lane rules J jobs (Stopped n) l (λ line id. tt) (λ i. refl) (λ i. refl) k.jobs_are }) legal

  pub lines-started : (lane : Low) (rules : Rules) (newest : Option ClusterState) (counts : ℕ → ℕ) (jobs : List Job) → IsLegal (setting_of lane rules) (started_next n J) → KeepsLines lane rules J newest counts jobs → KeepsLines lane rules (started_next n J) newest counts jobs
  lines-started lane rules newest counts jobs legal k = stays-started (λ (K : List LaneEvent). IsLegal (setting_of lane rules) K → KeepsLines lane rules K newest counts jobs) (λ l. k)
      (λ l. record { newest_is = k.newest_is; counts_are = k.counts_are; no_round = k.no_round; jobs_are = jobs-quiet lane rules J jobs (Started n) l (λ line id. tt) (λ i. refl) (λ i. refl) k.jobs_are }) legal

  pub carried-stopped : (given : List Fate) → IsCarried given J → IsCarried given (stopped_next n J)
  carried-stopped given h = stays-stopped (IsCarried given) h (Other given J (Stopped n) tt h)

  pub carried-started : (given : List Fate) → IsCarried given J → IsCarried given (started_next n J)
  carried-started given h = stays-started (IsCarried given) h (Other given J (Started n) tt h)

  pub finds-stopped : (place : Stamp → Option ℕ) → FindsEntries place (past J) → FindsEntries place (past (stopped_next n J))
  finds-stopped place f = stays-stopped (λ (K : List LaneEvent). FindsEntries place (past K)) f (finds-more place (Stopped n) J refl f)

  pub finds-started : (place : Stamp → Option ℕ) → FindsEntries place (past J) → FindsEntries place (past (started_next n J))
  finds-started place f = stays-started (λ (K : List LaneEvent). FindsEntries place (past K)) f (finds-more place (Started n) J refl f)
