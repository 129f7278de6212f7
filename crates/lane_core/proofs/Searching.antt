-- The work of a lane once the row of an operation that was begun was searched, and what the call comes to.
use Rattle.std.proofs.Common.{◌≡◌, ◌≢◌, ◌≤◌, ◌-◌, ℕ, Bool, true, false, List, ◌∷◌, length, slice_get, slice_set, Option, Some, None, Result, Ok, Err, IfOk, OnErr, nat_eq, vec_len, refl, sym, ap, ◌∙◌, subst, arith, inl, inr}
use Rattle.std.proofs.lemmas.Bool.Decides.{nat_tests}
use Rattle.bucket_ids.specs.Buckets.{Low}
use Rattle.stamps.specs.declared.stamp.Stamp.{Stamp}
use Rattle.cluster_states.specs.declared.cluster_state.ClusterState.{ClusterState}
use Rattle.carriers.specs.declared.fate.Fate.{Fate}
use Rattle.messages.specs.declared.operation.Operation.{Operation}
use Rattle.messages.specs.declared.outcome.Outcome.{Outcome}
use Rattle.distributor_part.specs.declared.rules.Rules.{Rules}
use Rattle.distributor_part.specs.Parts.{Part}
use Rattle.lane_journals.specs.Buckets.{Id, key_of}
use Rattle.lane_journals.specs.Meanings.{history, is_acked}
use Rattle.lane_journals.specs.declared.event.LaneEvent.{LaneEvent}
use Rattle.lane_journals.specs.declared.event.LaneEvent.TheVariants.{Prepared}
use Rattle.lane_keeping.specs.Asking.{OthersStay}
use Rattle.lane_keeping.specs.LaneKeeping.{part_in}
use Rattle.operation_keeping.specs.Wants.{Adds, WantsSince, IsRunSince, Longer, IsCutRunSince, IsEndSince}
use Rattle.lane_states.specs.declared.lane_state.LaneState.{LaneState}
use Rattle.lane_core.specs.declared.work.Job.{Job}
use Rattle.lane_core.specs.declared.work.Phase.{Phase}
use Rattle.lane_core.specs.declared.work.Phase.TheVariants as phase
use Rattle.lane_calls.specs.declared.progress.Progress.{Progress}
use Rattle.lane_calls.specs.declared.progress.Progress.TheVariants as progress
use Rattle.lane_calls.specs.declared.progress.UnderWay.{UnderWay}
use Rattle.lane_calls.specs.declared.answers.Advance.TheVariants as advance
use Rattle.lane_lines.specs.declared.readying.Shortage.{Shortage}
use Rattle.lane_lines.specs.declared.readying.Shortage.TheVariants as shortage
use Rattle.lane_core.specs.declared.work.Work.{Work}
use Rattle.lane_states.specs.LaneStates.{journal_of, IsKept, HasRoom, GivesOn, part_of, IsResting, AreResting}
use Rattle.lane_calls.specs.LaneValues.{LaneValue, WantsMore, with_run, under_way_of}
use Rattle.lane_core.specs.Advancing.{IsFree, AdvancesAt}
use Rattle.lane_core.specs.Works.{value_of, under_way_at, progress_of, IsItsRow, IsUnprepared, PhaseKeeps, PhaseLasts, IsJob, AreJobs, IsWork}
use Rattle.lane_lines.specs.Steps.{IsUneventful}
use Rattle.lane_core.specs.Phases.{IsAtMessages}
use Rattle.lane_core.specs.Preparations.{PreparesOf, PreparesAt, OverAt}
use Rattle.lane_lines.specs.Readying.{outcome_of, IsToPrepare, IsForLine, OfUnprepared, search_from, GoesOnWith, IsCutOffWith, FindsOr}
use Rattle.lane_core.specs.Searching.{is_begun, spent, WentAt, ComesToRow, WantsShort}
use Rattle.lane_core.proofs.Working.{same-key}
use Rattle.stamps.specs.Places.{place_of}
use Rattle.lane_states.specs.Written.{FindsEntries, AddsNoEntry}
use Rattle.lane_lines.proofs.Entries.{finds-grown}
use Rattle.lane_core.proofs.Working.{IsOnward, work-set, value-set}
use Rattle.lane_core.proofs.Places.{get-one, get-set, get-map, set-length, set-twice}
use Rattle.lane_core.proofs.JobLists.{jobs-set, off-line, off-document}
use Rattle.operation_keeping.specs.Others.{AreOthers}
use Rattle.operation_keeping.proofs.Since.{run-begins, run-closes, cut-begins, cut-closes}
use Rattle.operation_keeping.proofs.OthersRuns.{run-others, cut-others}
use Rattle.lane_journals.specs.Readers.{began, closed}
use Rattle.lane_journals.specs.KeptJournals.{IsLegal}
use Rattle.lane_keeping.specs.LaneKeeping.{setting_of}
use Rattle.stamps.specs.declared.places.StampPlaces.{StampPlaces}

not-runs : (p : Progress) → p ≡ progress.Begun → p ≡ progress.Runs → ⊥
not-runs p is runs = let other : progress.Begun ≡ progress.Runs = sym is ∙ runs in cc

pub begun-so : (p : Phase) → is_begun p ≡ true → p ≡ phase.Begun
begun-so phase.Begun e = refl
begun-so (phase.Prepared m r w) e = let none : false ≡ true = e in cc
begun-so (phase.Over o t a) e = let none : false ≡ true = e in cc
begun-so phase.Short e = let none : false ≡ true = e in cc

-- what wants more and wasn't just begun is prepared
pub to-step : (j : Job) → WantsMore (progress_of j.phase) → is_begun j.phase ≡ false → IsAtMessages j.phase
to-step j wants e = by_phase j.phase wants e
  where
    by_phase : (p : Phase) → WantsMore (progress_of p) → is_begun p ≡ false → IsAtMessages p
    by_phase phase.Begun a e = let none : true ≡ false = e in cc
    by_phase (phase.Prepared m r w) a e = tt
    by_phase (phase.Over o t n) a e = absurd a
    by_phase phase.Short a e = absurd a

unacked : (x : Shortage) → is_acked (outcome_of x) ≡ false
unacked shortage.NoMemory = refl
unacked (shortage.TooFew a b c) = refl

-- ---- the lane

-- a call of one distributor's part, which rests again
pub onward-rested : (x y : LaneState) (d : ℕ) → y ≡ record x { journal = y.journal; last = y.last; nodes = y.nodes; parts = y.parts; late = y.late } → IsUneventful (journal_of x) (journal_of y)
    → IsResting (part_of y d) → OthersStay x.lane x.rules x.parts.items y.parts.items d → vec_len y.parts ≡ vec_len x.parts → IsOnward x y
onward-rested x y d e q rests others parted = record {
  lane = lane_is;
  rules = rules_are;
  newest = ap (λ (z : LaneState). z.newest) e;
  spare = ap (λ (z : LaneState). z.spare) e;
  parted = parted;
  placed = ap (λ (z : LaneState). z.turn_room) e;
  resting = λ r n. by_test r n (nat_eq n d) refl;
  quiet = q;
}
  where
    lane_is : y.lane ≡ x.lane
    lane_is = ap (λ (z : LaneState). z.lane) e

    rules_are : y.rules ≡ x.rules
    rules_are = ap (λ (z : LaneState). z.rules) e

    by_test : AreResting x → (n : ℕ) (b : Bool) → nat_eq n d ≡ b → IsResting (part_of y n)
    by_test r n true t = let same : n ≡ d = grind (arith, nat_tests) in subst (λ (k : ℕ). IsResting (part_of y k)) (sym same) rests
    by_test r n false t =
        let off : n ≢ d = grind (arith, nat_tests) in
        subst (λ (s : Rules). IsResting (part_in y.lane s y.parts.items n)) (sym rules_are)
        (subst (λ (l : Low). IsResting (part_in l x.rules y.parts.items n)) (sym lane_is)
        (subst (λ (p : Part). IsResting p) (sym (others n off)) (r n)))

-- ---- the operation that was begun

module _ (x : Work) (at : ℕ) (j : Job) (w : IsWork x) (found : slice_get x.jobs.items at ≡ Some j) (begun : is_begun j.phase ≡ true) where
  abbrev J : List LaneEvent
  J = journal_of x.state

  stage : j.phase ≡ phase.Begun
  stage = begun-so j.phase begun

  pub was-job : IsJob x.state.lane x.state.rules J j
  was-job = (w.jobs_are).each at j found

  pub unprepared : IsUnprepared (history J) j
  unprepared = subst (λ (p : Phase). PhaseKeeps x.state.lane x.state.rules J j (was-job).state p) stage (was-job).phase_is

  calls : j.left ≡ 65
  calls = subst (λ (p : Phase). PhaseLasts j.left p) stage ((w.jobs_are).lasts at j found)

  pub has-call : 1 ≤ j.left
  has-call = let all = calls in omega (arith, all)

  waits : IsToPrepare x.state.lane J j.line j.operation j.distributor (was-job).state j.stamp
  waits = record {
    acting = (was-job).acting;
    knows = record { is_under_way = (was-job).under_way; unprepared = (unprepared).unprepared; unwritten = (unprepared).unwritten };
  }

  pub key-is : j.key ≡ key_of j.operation.id
  key-is = (was-job).key_is ∙ same-key j.operation.id

  pub for-line : IsForLine x.state j.distributor j.key
  for-line = record { line = j.line; operation = j.operation; state = (was-job).state; stamp = j.stamp; waits = waits; key_is = key-is }

  abbrev OfOwn : (ℕ → Operation → ClusterState → Option Stamp → Type 0) → Type 0
  OfOwn L = OfUnprepared x.state j.distributor j.key L

  of-own : (L : ℕ → Operation → ClusterState → Option Stamp → Type 0) → OfOwn L → L j.line j.operation (was-job).state j.stamp
  of-own L h = h j.line j.operation (was-job).state j.stamp waits key-is

  module _ {E : Type 0} (y : LaneState) (r : Result (Option Shortage) E)
      (goes : IfOk r (λ end. OfOwn (λ line o s stamp. GoesOnWith (search_from x.state) x.state y line o j.distributor s stamp)))
      (cuts : OnErr r (OfOwn (λ line o s stamp. IsCutOffWith (search_from x.state) x.state y line o j.distributor s stamp)))
      (on : IsOnward x.state y) (kept : IsKept y) where
    -- what the journal says of all other lines, whether the search came to its end or not
    pub record Searched : Type 0 where
      pub still : IsToPrepare x.state.lane (journal_of y) j.line j.operation j.distributor (was-job).state j.stamp
      pub begins : (l : ℕ) → began l (history (journal_of y)) ≡ began l (history J)
      pub ends : (l : ℕ) → closed l (history (journal_of y)) ≡ closed l (history J)
      pub others : (line : ℕ) (id : Id) → j.line ≢ line → j.operation.id ≢ id → AreOthers line id J (journal_of y)

    searched-of : (q : Result (Option Shortage) E) → IfOk q (λ end. OfOwn (λ line o s stamp. GoesOnWith (search_from x.state) x.state y line o j.distributor s stamp))
        → OnErr q (OfOwn (λ line o s stamp. IsCutOffWith (search_from x.state) x.state y line o j.distributor s stamp)) → Searched
    searched-of (Ok end) g c =
        let h : GoesOnWith (search_from x.state) x.state y j.line j.operation j.distributor (was-job).state j.stamp = of-own (λ line o s stamp. GoesOnWith (search_from x.state) x.state y line o j.distributor s stamp) g in
        record {
          still = h.still;
          begins = run-begins x.state.lane x.state.rules j.line j.operation (history J) J (journal_of y) h.run;
          ends = run-closes x.state.lane x.state.rules j.line j.operation (history J) J (journal_of y) h.run;
          others = λ line id apart off. run-others line id x.state.lane x.state.rules j.line j.operation apart off J (journal_of y) h.run;
        }
    searched-of (Err e) g c =
        let h : IsCutOffWith (search_from x.state) x.state y j.line j.operation j.distributor (was-job).state j.stamp = of-own (λ line o s stamp. IsCutOffWith (search_from x.state) x.state y line o j.distributor s stamp) c in
        record {
          still = h.still;
          begins = cut-begins x.state.lane x.state.rules j.line j.operation (history J) J (journal_of y) h.run;
          ends = cut-closes x.state.lane x.state.rules j.line j.operation (history J) J (journal_of y) h.run;
          others = λ line id apart off. cut-others line id x.state.lane x.state.rules j.line j.operation apart off J (journal_of y) h.run;
        }

    done : Searched
    done = searched-of r goes cuts

    still : IsToPrepare y.lane (journal_of y) j.line j.operation j.distributor (was-job).state j.stamp
    still = subst (λ (l : Low). IsToPrepare l (journal_of y) j.line j.operation j.distributor (was-job).state j.stamp) (sym on.lane) (done).still

    job : IsJob x.state.lane x.state.rules (journal_of y) (spent j)
    job = record {
      state = (was-job).state;
      acting = ((done).still).acting;
      under_way = (((done).still).knows).is_under_way;
      key_is = (was-job).key_is;
      key_in = (was-job).key_in;
      own = (was-job).own;
      plain = (was-job).plain;
      row_is = subst (IsItsRow j.row) (sym (((done).still).knows).unprepared) (subst (IsItsRow j.row) (unprepared).unprepared (was-job).row_is);
      phase_is = tt;
    }

    legal-now : IsLegal (setting_of x.state.lane x.state.rules) (journal_of y)
    legal-now = subst (λ (s : Rules). IsLegal (setting_of x.state.lane s) (journal_of y)) on.rules (subst (λ (l : Low). IsLegal (setting_of l y.rules) (journal_of y)) on.lane (kept.keeps).legal)

    jobs : AreJobs x.state.lane x.state.rules (journal_of y) (slice_set x.jobs.items at (spent j))
    jobs = jobs-set x.state.lane x.state.rules J (journal_of y) x.jobs.items w.jobs_are ((w.kept).keeps).legal legal-now at j found (spent j) refl refl job tt
        (λ b m got off. (done).others m.line m.operation.id
        (off-line x.state.lane x.state.rules J (journal_of y) x.jobs.items w.jobs_are ((w.kept).keeps).legal legal-now at j found b m got off)
        (off-document x.state.lane x.state.rules J (journal_of y) x.jobs.items w.jobs_are ((w.kept).keeps).legal legal-now at j found b m got off))
        (done).begins (done).ends

    module _ (m : Work) (state : m.state ≡ y) (drawn : m.drawn ≡ x.drawn) (places : m.places ≡ x.places) (room : m.has_room ≡ x.has_room) (schema : m.schema ≡ x.schema) (items : m.jobs.items ≡ slice_set x.jobs.items at (spent j)) where
      found-now : slice_get m.jobs.items at ≡ Some (spent j)
      found-now = ap (λ (js : List Job). slice_get js at) items ∙ get-set x.jobs.items at j (spent j) found

      pub keeps-searched : HasRoom 0 y → AddsNoEntry J (journal_of y) → IsWork m
      keeps-searched free adds = work-set x m w (subst (IsOnward x.state) (sym state) on) drawn room (subst IsKept (sym state) kept) (subst (HasRoom 0) (sym state) free)
          (subst (λ (z : LaneState). AreJobs z.lane z.rules (journal_of z) m.jobs.items) (sym state) (subst (λ (js : List Job). AreJobs y.lane y.rules (journal_of y) js) (sym items)
          (subst (λ (l : Low). AreJobs l y.rules (journal_of y) (slice_set x.jobs.items at (spent j))) (sym on.lane) (subst (λ (s : Rules). AreJobs x.state.lane s (journal_of y) (slice_set x.jobs.items at (spent j))) (sym on.rules) jobs))))
          (ap length items ∙ set-length x.jobs.items at (spent j))
          (subst (λ (z : LaneState). FindsEntries (place_of m.places) z.journal.events.items) (sym state) (subst (λ (p : StampPlaces). FindsEntries (place_of p) y.journal.events.items) (sym places)
          (finds-grown (place_of x.places) x.state.journal.events.items y.journal.events.items adds w.finds)))

      -- ---- what it comes to

      comes-to : (end : Option Shortage) → FindsOr (search_from x.state) y j.line j.operation (was-job).state end → ComesToRow (search_from x.state) (record m { state = y }) at end
      comes-to None h = (
        spent j,
        found-now,
        record {
          state = (was-job).state;
          acting = (still).acting;
          unprepared = ((still).knows).unprepared;
          unwritten = ((still).knows).unwritten;
          opened_is = h.opened_is;
          stamped = (unprepared).stamped;
          lasts = let all = calls in omega (arith, all);
          enough = h.enough;
        },
      )
      comes-to (Some e) h = record {
        may = (spent j, found-now, record { same = refl; legal = h.legal; unacked = unacked e });
        wanted = (spent j, found-now, h.wanted);
      }

      pub comes-searched : (end : Option Shortage) → OfOwn (λ line o s stamp. FindsOr (search_from x.state) y line o s end) → ComesToRow (search_from x.state) m at end
      comes-searched end h = subst (λ (z : LaneState). ComesToRow (search_from x.state) (record m { state = z }) at end) (sym state) (comes-to end (of-own (λ line o s stamp. FindsOr (search_from x.state) y line o s end) h))

      module _ (given now planned : List Fate) (takes : Bool) where
        value-is : value_of m now planned takes ≡ with_run (value_of x given planned takes) (journal_of y) now at (under_way_at (spent j))
        value-is = value-set x m given now planned takes at (spent j) (ap (λ (z : LaneState). z.lane) state ∙ on.lane) (ap (λ (z : LaneState). z.rules) state ∙ on.rules) schema room items
            ∙ ap (λ (z : LaneState). with_run (value_of x given planned takes) (journal_of z) now at (under_way_at (spent j))) state

        same-journal : (value_of m now planned takes).journal ≡ journal_of y
        same-journal = ap journal_of state

        pub went-searched : GivesOn given now → IsFree (under_way_at j) (value_of x given planned takes) → OfOwn (λ line o s stamp. GoesOnWith (search_from x.state) x.state y line o j.distributor s stamp) → WentAt at (value_of x given planned takes) (value_of m now planned takes)
        went-searched gives free h = (
          under_way_at j,
          get-map under_way_at x.jobs.items at j found,
          record {
            free = free;
            left = j.left - 1;
            fewer = (let all = calls in omega (arith, all));
            after = subst (λ (K : List LaneEvent). value_of m now planned takes ≡ with_run (value_of x given planned takes) K now at (under_way_at (spent j))) (sym same-journal) value-is;
            gives = gives;
            few = λ runs. absurd (not-runs (under_way_at j).progress (ap progress_of (begun-so j.phase begun)) runs);
            run = subst (λ (K : List LaneEvent). IsRunSince x.state.lane x.state.rules j.line j.operation (history J) J K) (sym same-journal) (of-own (λ line o s stamp. GoesOnWith (search_from x.state) x.state y line o j.distributor s stamp) h).run;
          },
          ap progress_of (begun-so j.phase begun),
        )

        pub cut-searched : GivesOn given now → OfOwn (λ line o s stamp. IsCutOffWith (search_from x.state) x.state y line o j.distributor s stamp) → AdvancesAt at (value_of x given planned takes) (value_of m now planned takes) advance.NoMemory
        cut-searched gives h = (
          under_way_at j,
          get-map under_way_at x.jobs.items at j found,
          record {
            left = j.left - 1;
            after = subst (λ (K : List LaneEvent). value_of m now planned takes ≡ with_run (value_of x given planned takes) K now at (under_way_at (spent j))) (sym same-journal) value-is;
            gives = gives;
            few = λ runs. absurd (not-runs (under_way_at j).progress (ap progress_of (begun-so j.phase begun)) runs);
            run = subst (λ (K : List LaneEvent). IsCutRunSince x.state.lane x.state.rules j.line j.operation (history J) J K) (sym same-journal) (of-own (λ line o s stamp. IsCutOffWith (search_from x.state) x.state y line o j.distributor s stamp) h).run;
          },
        )

-- ---- the whole call

-- what stands at the place after the search
at-place : (a b : LaneValue) (at : ℕ) (h : WentAt at a b) → slice_get b.under_way at ≡ Some (under_way_of h.0.line h.0.operation h.0.distributor progress.Short (h.2).left)
at-place a b at h = ap (λ (v : LaneValue). slice_get v.under_way at) (h.2).after ∙ get-set a.under_way at h.0 (under_way_of h.0.line h.0.operation h.0.distributor progress.Short (h.2).left) h.1

again : (a b c : LaneValue) (at : ℕ) (u w : UnderWay) (J : List LaneEvent) → b ≡ with_run a b.journal b.given at u → c ≡ with_run b J b.given at w → c ≡ with_run a J b.given at w
again a b c at u w J first next = next ∙ ap (λ (v : LaneValue). with_run v J b.given at w) first ∙ ap (λ (us : List UnderWay). record a { journal = J; given = b.given; under_way = us }) (set-twice a.under_way at u w)

settled : (a c : LaneValue) (at : ℕ) (w : UnderWay) (J : List LaneEvent) (given : List Fate) → c ≡ with_run a J given at w → c ≡ with_run a c.journal c.given at w
settled a c at w J given e = e ∙ (λ i. with_run a (sym (ap (λ (v : LaneValue). v.journal) e) i) (sym (ap (λ (v : LaneValue). v.given) e) i) at w)

-- it is prepared in the row
pub prepared-so : (at : ℕ) (a b c : LaneValue) → WentAt at a b → PreparesAt at b c → AdvancesAt at a c advance.More
prepared-so at a b c h p = (
  h.0,
  h.1,
  (
    record {
      free = (h.2).free;
      left = (h.2).left;
      fewer = (h.2).fewer;
      after = settled a c at (under_way_of h.0.line h.0.operation h.0.distributor progress.Runs (h.2).left) _ b.given whole;
      gives = subst (GivesOn a.given) (sym (ap (λ (v : LaneValue). v.given) whole)) (h.2).gives;
      few = λ runs. absurd (not-runs h.0.progress h.3 runs);
      run = subst (λ (K : List LaneEvent). IsRunSince a.lane a.rules h.0.line h.0.operation (history a.journal) a.journal K) (sym grown)
          (Longer (Prepared h.0.line (q).row.bucket (q).row.complete) b.journal (h.2).run (inr wanted));
    },
    (q).there,
    λ was. record { row = (q).row.bucket; recipients = (q).row.complete; before = b.journal; now = grown },
    λ runs. absurd (not-runs h.0.progress h.3 runs),
  ),
)
  where
    short : UnderWay
    short = under_way_of h.0.line h.0.operation h.0.distributor progress.Short (h.2).left

    q : PreparesOf at short b c
    q = subst (λ (u : UnderWay). PreparesOf at u b c) (get-one b.under_way at p.0 short p.1 (at-place a b at h)) p.2

    grown : c.journal ≡ Prepared h.0.line (q).row.bucket (q).row.complete ∷ b.journal
    grown = ap (λ (v : LaneValue). v.journal) (q).after

    whole : c ≡ with_run a (Prepared h.0.line (q).row.bucket (q).row.complete ∷ b.journal) b.given at (under_way_of h.0.line h.0.operation h.0.distributor progress.Runs (h.2).left)
    whole = again a b c at short (under_way_of h.0.line h.0.operation h.0.distributor progress.Runs (h.2).left) _ (h.2).after (q).after

    wanted : WantsSince a.lane a.rules h.0.line h.0.operation (history a.journal) b.journal (Adds (Prepared h.0.line (q).row.bucket (q).row.complete))
    wanted = subst (λ (l : Low). WantsSince l a.rules h.0.line h.0.operation (history a.journal) b.journal (Adds (Prepared h.0.line (q).row.bucket (q).row.complete))) (ap (λ (v : LaneValue). v.lane) (h.2).after)
        (subst (λ (s : Rules). WantsSince b.lane s h.0.line h.0.operation (history a.journal) b.journal (Adds (Prepared h.0.line (q).row.bucket (q).row.complete))) (ap (λ (v : LaneValue). v.rules) (h.2).after) ((q).wanted (history a.journal)))

-- memory was wanted
pub cut-so : (at : ℕ) (a b c : LaneValue) → WentAt at a b → c ≡ b → AdvancesAt at a c advance.NoMemory
cut-so at a b c h e = subst (λ (z : LaneValue). AdvancesAt at a z advance.NoMemory) (sym e) (h.0, h.1, record { left = (h.2).left; after = (h.2).after; gives = (h.2).gives; few = λ runs. absurd (not-runs h.0.progress h.3 runs); run = (b.journal, (h.2).run, inl refl) })

-- it is over
pub fell-so : (at : ℕ) (a b c : LaneValue) (x : Outcome) → WentAt at a b → ((u : UnderWay) → slice_get a.under_way at ≡ Some u → IsEndSince a.lane a.rules u.line u.operation (history a.journal) b.journal x) → OverAt at x b c → AdvancesAt at a c advance.Done
fell-so at a b c x h end o = (
  h.0,
  h.1,
  (
    x,
    record {
      free = (h.2).free;
      left = (h.2).left;
      fewer = (h.2).fewer;
      after = settled a c at (under_way_of h.0.line h.0.operation h.0.distributor (progress.Over x) (h.2).left) b.journal b.given whole;
      gives = subst (GivesOn a.given) (sym (ap (λ (v : LaneValue). v.given) whole)) (h.2).gives;
      few = λ runs. absurd (not-runs h.0.progress h.3 runs);
      run = subst (λ (K : List LaneEvent). IsRunSince a.lane a.rules h.0.line h.0.operation (history a.journal) a.journal K) (sym same) (h.2).run;
    },
    subst (λ (K : List LaneEvent). IsEndSince a.lane a.rules h.0.line h.0.operation (history a.journal) K x) (sym same) (end h.0 h.1),
  ),
)
  where
    short : UnderWay
    short = under_way_of h.0.line h.0.operation h.0.distributor progress.Short (h.2).left

    over : c ≡ with_run b b.journal b.given at (under_way_of short.line short.operation short.distributor (progress.Over x) short.left)
    over = subst (λ (u : UnderWay). c ≡ with_run b b.journal b.given at (under_way_of u.line u.operation u.distributor (progress.Over x) u.left)) (get-one b.under_way at o.0 short o.1 (at-place a b at h)) o.2

    whole : c ≡ with_run a b.journal b.given at (under_way_of h.0.line h.0.operation h.0.distributor (progress.Over x) (h.2).left)
    whole = again a b c at short (under_way_of h.0.line h.0.operation h.0.distributor (progress.Over x) (h.2).left) b.journal (h.2).after over

    same : c.journal ≡ b.journal
    same = ap (λ (v : LaneValue). v.journal) whole

-- what was found, wanted by the operation that was under way
module _ (x y : Work) (at : ℕ) (given now planned : List Fate) (takes : Bool) (went : WentAt at (value_of x given planned takes) (value_of y now planned takes)) where
  abbrev before : LaneValue
  before = value_of x given planned takes

  abbrev later : LaneValue
  later = value_of y now planned takes

  abbrev w : UnderWay
  w = went.0

  abbrev Wants : Low → Rules → UnderWay → Outcome → Type 0
  Wants l r v o = IsEndSince l r v.line v.operation (history before.journal) (journal_of y.state) o

  wanted-end : (e : Shortage) (j : Job) → slice_get y.jobs.items at ≡ Some j → Wants y.state.lane y.state.rules (under_way_at j) (outcome_of e) → (u : UnderWay) → slice_get before.under_way at ≡ Some u → Wants before.lane before.rules u (outcome_of e)
  wanted-end e j there end u got =
      let here : under_way_at j ≡ under_way_of w.line w.operation w.distributor progress.Short (went.2).left
      = get-one later.under_way at (under_way_at j) (under_way_of w.line w.operation w.distributor progress.Short (went.2).left) (get-map under_way_at y.jobs.items at j there) (at-place before later at went) in
      let one : w ≡ u = get-one before.under_way at w u went.1 got in
      subst (λ (v : UnderWay). Wants before.lane before.rules v (outcome_of e)) one
      (subst (λ (l : Low). Wants l before.rules w (outcome_of e)) (ap (λ (v : LaneValue). v.lane) (went.2).after)
      (subst (λ (r : Rules). Wants y.state.lane r w (outcome_of e)) (ap (λ (v : LaneValue). v.rules) (went.2).after)
      (subst (λ (v : UnderWay). Wants y.state.lane y.state.rules v (outcome_of e)) here end)))

  pub wants-short : (end : Option Shortage) → ComesToRow (search_from x.state) y at end → WantsShort before at later end
  wants-short None h = tt
  wants-short (Some e) h = λ u got. wanted-end e (h.wanted).0 (h.wanted).1 (h.wanted).2 u got
