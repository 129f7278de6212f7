-- A lane's work after an upkeep, and its value.
use Rattle.std.proofs.Common.{◌≡◌, ◌≢◌, ◌≤◌, ◌<◌, ℕ, Bool, true, false, not, nat_eq, List, [], ◌∷◌, ◌++◌, length, Option, Some, None, slice_get, inl, inr, if◌then◌else◌, IfSome, refl, sym, ap, subst, ◌∙◌, arith, vec_len, Result, Ok, Err, OnOk, OnErr}
use Rattle.std.proofs.lemmas.Bool.Decides.{nat_tests}
use Rattle.std.proofs.lemmas.List.{append_assoc}
use Rattle.bucket_ids.specs.Buckets.{Low}
use Rattle.cluster_states.specs.Publishing.{serves}
use Rattle.cluster_states.specs.declared.cluster_state.ClusterState.{ClusterState}
use Rattle.carriers.specs.declared.fate.Fate.{Fate}
use Rattle.distributor_part.specs.declared.rules.Rules.{Rules}
use Rattle.distributor_part.specs.Parts.{Part}
use Rattle.ideal_nodes.specs.Placement.{IsOwner}
use Rattle.lane_journals.specs.Facts.{IsOpen, AllClosed}
use Rattle.lane_journals.specs.Readers.{Beginning, Preparing, or_else, only_if, began, closed, stamps_of, held, opened, stopped, returned}
use Rattle.lane_keeping.specs.Acting.{IsActing}
use Rattle.lane_journals.specs.Meanings.{history}
use Rattle.lane_journals.specs.declared.event.LaneEvent.{LaneEvent}
use Rattle.lane_journals.specs.declared.event.LaneEvent.TheVariants as event
use Rattle.lane_keeping.specs.LaneKeeping.{part_in, setting_of}
use Rattle.lane_carriage.specs.Readers.{fate_of}
use Rattle.lane_rest.specs.Rest.{IsAtRest}
use Rattle.lane_states.specs.declared.lane_state.LaneState.{LaneState}
use Rattle.lane_keeping.specs.Tidings.{is_older, heard_next, last_state}
use Rattle.lane_states.specs.LaneStates.{journal_of, part_of, IsKept, IsCarriedBy, GivesOn, IsResting, AreResting, IsSetUp}
use Rattle.lane_states.specs.Written.{writes_entry, AddsNoEntry}
use Rattle.lane_lines.proofs.Entries.{adds-none, adds-one, finds-grown}
use Rattle.upkeep_spans.specs.Spans.{IsUpkeepEvent, AreUpkeep, Nothing, More, OfUpkeep, later}
use Rattle.upkeep_spans.specs.Causes.{is_late, first_late, first_absent, IsUndisturbed}
use Rattle.lane_upkeep.specs.declared.owner.Owner.{Owner}
use Rattle.lane_upkeep.specs.Passing.{PassesOn}
use Rattle.lane_upkeep.specs.Maintaining as maintaining
use Rattle.lane_upkeep.specs.Maintaining.{IsBetween, AreReturned}
use Rattle.lane_calls.specs.LaneValues.{LaneValue}
use Rattle.lane_upkeep.specs.Taking.{OpensThenPasses}
use Rattle.lane_core.specs.Passes.{PassesBy}
use Rattle.lane_core.specs.Upkeeping.{MaintainsBy, OpensBy, RestsBy}
use Rattle.lane_core.specs.declared.work.Work.{Work}
use Rattle.lane_core.specs.declared.work.Job.{Job}
use Rattle.lane_core.specs.Works.{IsWork, AreJobs, value_of}

-- ---- the span

silent : (d v : ℕ) (e : LaneEvent) → IsUpkeepEvent d v e → writes_entry e ≡ false
silent d v (event.Wrote line entry) h = absurd h
silent d v _ h = refl

pub adds-span : (d v : ℕ) (J K : List LaneEvent) → AreUpkeep d v J K → AddsNoEntry J K
adds-span d v J K Nothing = adds-none J J refl
adds-span d v J K (More L e h more) = adds-one J L e (silent d v e h) (adds-span d v J L more)

newest-on : (d v : ℕ) (K : List LaneEvent) (e : LaneEvent) → IsUpkeepEvent d v e → last_state (e ∷ K) ≡ last_state K
newest-on d v K (event.Published s) h = absurd h
newest-on d v K _ h = refl

pub newest-span : (d v : ℕ) (J K : List LaneEvent) → AreUpkeep d v J K → last_state K ≡ last_state J
newest-span d v J K Nothing = refl
newest-span d v J K (More L e h more) = newest-on d v L e h ∙ newest-span d v J L more

pub all-closed : (J K : List LaneEvent) → ((line : ℕ) → began line (history K) ≡ began line (history J)) → ((line : ℕ) → closed line (history K) ≡ closed line (history J)) → AllClosed (history J) → AllClosed (history K)
all-closed J K began-same closed-same all = λ line begin b. closed-same line ∙ all line begin (sym (began-same line) ∙ b)

-- ---- the parts

pub all-rest : (x y : LaneState) (d : ℕ) → y.lane ≡ x.lane → y.rules ≡ x.rules → IsResting (part_of y d) → ((e : ℕ) → e ≢ d → part_in x.lane x.rules y.parts.items e ≡ part_in x.lane x.rules x.parts.items e) → AreResting x → AreResting y
all-rest x y d lane rules rests others r n = by_test (nat_eq n d) refl
  where
    by_test : (b : Bool) → nat_eq n d ≡ b → IsResting (part_of y n)
    by_test true t = let same : n ≡ d = grind (arith, nat_tests) in subst (λ (k : ℕ). IsResting (part_of y k)) (sym same) rests
    by_test false t =
        let off : n ≢ d = grind (arith, nat_tests) in
        subst (λ (s : Rules). IsResting (part_in y.lane s y.parts.items n)) (sym rules)
        (subst (λ (l : Low). IsResting (part_in l x.rules y.parts.items n)) (sym lane)
        (subst (λ (p : Part). IsResting p) (sym (others n off)) (r n)))

-- ---- the work

-- without operations under way each line that was begun is closed
no-item : (at : ℕ) (j : Job) → ◌≡◌ {A = Option Job} (slice_get [] at) (Some j) → ⊥
no-item at j h = cc

jobs-closed : (x : Work) → IsWork x → x.jobs.items ≡ [] → AllClosed (history (journal_of x.state))
jobs-closed x w idle line begin begun = elim ((subst (λ (js : List Job). AreJobs x.state.lane x.state.rules (journal_of x.state) js) idle w.jobs_are).others line begin begun) [
  | inl closed_is ↦ closed_is
  | inr there ↦ absurd (no-item there.0 there.1 there.2)
]

no-jobs : (lane : Low) (rules : Rules) (J : List LaneEvent) → AllClosed (history J) → AreJobs lane rules J []
no-jobs lane rules J all = record {
  each = λ at j h. absurd (no-item at j h);
  lasts = λ at j h. absurd (no-item at j h);
  lines_apart = λ a b j k h. absurd (no-item a j h);
  documents_apart = λ a b j k h. absurd (no-item a j h);
  others = λ line begin begun. inl (all line begin begun);
}

-- what stays of lines over a span
pub record Leaves (J K : List LaneEvent) : Type 0 where
  pub begun : (line : ℕ) → began line (history K) ≡ began line (history J)
  pub ended : (line : ℕ) → closed line (history K) ≡ closed line (history J)
  pub stamps : (v : ℕ) → stamps_of v (history K) ≡ stamps_of v (history J)

pub work-passed : (x : Work) (y : LaneState) (o : Owner) (now : List Fate) → IsWork x → x.jobs.items ≡ [] → Leaves (journal_of x.state) (journal_of y) → IsBetween y o now → PassesOn x.state y o → IsWork (record x { state = y })
work-passed x y o now w idle leaves b on =
    let lane : y.lane ≡ x.state.lane = ap (λ (z : LaneState). z.lane) on.after in
    let rules : y.rules ≡ x.state.rules = ap (λ (z : LaneState). z.rules) on.after in
    let newest : y.newest ≡ x.state.newest = ap (λ (z : LaneState). z.newest) on.after in
    let spare : y.spare ≡ x.state.spare = ap (λ (z : LaneState). z.spare) on.after in
    record {
      set_up = rw (lane, rules) w.set_up;
      kept = b.keeps;
      room = b.spare;
      spare_is = spare ∙ w.spare_is;
      parted = λ made. let all = w.parted made in let same = on.parts in omega (arith, all, same);
      placed = λ made. ap (λ (z : LaneState). z.turn_room) on.after ∙ w.placed made;
      resting = all-rest x.state y o.distributor lane rules b.resting on.others w.resting;
      newest_is = newest ∙ w.newest_is ∙ sym (newest-span o.distributor (o.state).version (journal_of x.state) (journal_of y) on.grows);
      counts_are = λ v. w.counts_are v ∙ sym (leaves.stamps v);
      no_round = b.none_runs;
      jobs_are = subst (λ (js : List Job). AreJobs y.lane y.rules (journal_of y) js) (sym idle)
          (no-jobs y.lane y.rules (journal_of y) (all-closed (journal_of x.state) (journal_of y) leaves.begun leaves.ended (jobs-closed x w idle)));
      finds = finds-grown _ x.state.journal.events.items y.journal.events.items (adds-span o.distributor (o.state).version (journal_of x.state) (journal_of y) on.grows) w.finds;
    }

-- between two lines the owner may make a pass
pub between-work : (x : Work) (o : Owner) (given : List Fate) → IsWork x → x.jobs.items ≡ [] → IsCarriedBy x.state given → o.distributor < vec_len x.state.parts → IsActing x.state.lane (journal_of x.state) o.distributor o.state → IsBetween x.state o given
between-work x o given w idle carried there acting = record {
  keeps = w.kept;
  spare = w.room;
  carried = carried;
  there = there;
  acting = acting;
  resting = w.resting o.distributor;
  none_runs = w.no_round;
  idle = λ v b line begin p is in_row. open-closed line begin p v is;
}
  where
    all : AllClosed (history (journal_of x.state))
    all = jobs-closed x w idle

    open-closed : (line : ℕ) (begin : Beginning) (p : Preparing) (v : ℕ) → IsOpen v line begin p (history (journal_of x.state)) → ⊥
    open-closed line begin p v is = let wrong : true ≡ false = sym (all line begin is.began) ∙ is.unclosed in Prim.cc

-- ---- the value

pub maintains-by : (x h y : Work) (o : Owner) (given now : List Fate) → last_state (journal_of x.state) ≡ Some o.state → IsOwner x.state.lane o.state o.distributor
    → ((g p : List Fate) (t : Bool) → value_of h g p t ≡ record (value_of x g p t) { journal = heard_next o.distributor (Some o.state) (journal_of x.state) })
    → journal_of h.state ≡ heard_next o.distributor (Some o.state) (journal_of x.state)
    → y ≡ record h { state = y.state } → PassesOn h.state y.state o → GivesOn given now → MaintainsBy x y given now
maintains-by x h y o given now newest owner heard grows after on gives = λ planned takes. record {
  state = o.state;
  newest = newest;
  owner = o.distributor;
  owns = owner;
  pass = subst (λ (J : List LaneEvent). AreUpkeep o.distributor (o.state).version J (journal_of y.state)) grows on.grows;
  fates = gives.0;
  gives = gives.1;
  after = value-after planned takes ∙ ap (λ (v : LaneValue). record v { journal = journal_of y.state; given = now }) (heard given planned takes);
}
  where
    value-after : (planned : List Fate) (takes : Bool) → value_of y now planned takes ≡ record (value_of h given planned takes) { journal = journal_of y.state; given = now }
    value-after planned takes =
        ap (λ (w : Work). value_of w now planned takes) after
        ∙ ap (λ (z : LaneState). record (value_of (record h { state = z }) given planned takes) { journal = journal_of y.state; given = now }) on.after

-- ---- the state is opened, and nodes ran

late-end : (given : List Fate) (d v : ℕ) (N : List LaneEvent) → first_late given (N ++ (event.Heard d v ∷ [])) ≡ first_late given N
late-end given d v [] = refl
late-end given d v (event.Delivered n r ∷ N) = ap (λ (o : Option ℕ). or_else o (only_if (is_late (fate_of n given)) n)) (late-end given d v N)
late-end given d v (_ ∷ N) = late-end given d v N

heard-end : (p : ℕ → Bool) (d v : ℕ) (N : List LaneEvent) → first_absent p (N ++ (event.Heard d v ∷ [])) ≡ first_absent p N
heard-end p d v [] = refl
heard-end p d v (event.Sent n w e to b ∷ N) = ap (λ (o : Option ℕ). or_else o (only_if (not (p n)) to)) (heard-end p d v N)
heard-end p d v (_ ∷ N) = heard-end p d v N

module _ (span : OfUpkeep (λ J K. K ≡ later (length J) K ++ J)) (behind : (J N : List LaneEvent) → later (length J) (N ++ J) ≡ N) where
  -- what is read of the whole span is read of what came once the owner heard its state
  none-heard : (R : List LaneEvent → Option ℕ) → ((e w : ℕ) (N : List LaneEvent) → R (N ++ (event.Heard e w ∷ [])) ≡ R N) → (d v : ℕ) (s : ClusterState) (J K : List LaneEvent) → AreUpkeep d v (heard_next d (Some s) J) K → R (later (length J) K) ≡ None → R (later (length (heard_next d (Some s) J)) K) ≡ None
  none-heard R over d v s J K = by_test (is_older (held d (history J)) s.version)
    where
      by_test : (b : Bool) → AreUpkeep d v (if b then event.Heard d s.version ∷ J else J) K → R (later (length J) K) ≡ None → R (later (length (if b then event.Heard d s.version ∷ J else J)) K) ≡ None
      by_test false up none = none
      by_test true up none =
          let N : List LaneEvent = later (length (event.Heard d s.version ∷ J)) K in
          let all : K ≡ (N ++ (event.Heard d s.version ∷ [])) ++ J = span d v (event.Heard d s.version ∷ J) K up ∙ sym (append_assoc N (event.Heard d s.version ∷ []) J) in
          let here : later (length J) K ≡ N ++ (event.Heard d s.version ∷ []) = ap (later (length J)) all ∙ behind J (N ++ (event.Heard d s.version ∷ [])) in
          sym (over d s.version N) ∙ sym (ap R here) ∙ none

  newest-heard : (d : ℕ) (s : ClusterState) (J : List LaneEvent) → last_state (heard_next d (Some s) J) ≡ last_state J
  newest-heard d s J = by_test (is_older (held d (history J)) s.version)
    where
      by_test : (b : Bool) → last_state (if b then event.Heard d s.version ∷ J else J) ≡ last_state J
      by_test true = refl
      by_test false = refl

  pub opens-by : {X E : Type 0} (r : Result X E) (x h y : Work) (o : Owner) → last_state (journal_of x.state) ≡ Some o.state → journal_of h.state ≡ heard_next o.distributor (Some o.state) (journal_of x.state) → PassesOn h.state y.state o
      → OnOk r (AreReturned h.state y.state → maintaining.HasOpened y.state o) → OnOk r (AreReturned h.state y.state → maintaining.HaveRun y.state o) → OnOk r (OpensBy x y)
  opens-by (Err e) x h y o newest grows on f g = tt
  opens-by (Ok a) x h y o newest grows on f g = λ none.
      let J : List LaneEvent = journal_of x.state in
      let K : List LaneEvent = journal_of y.state in
      let p : ℕ → Bool = (λ n. returned n (history K)) in
      let up : AreUpkeep o.distributor (o.state).version (heard_next o.distributor (Some o.state) J) K = subst (λ (L : List LaneEvent). AreUpkeep o.distributor (o.state).version L K) grows on.grows in
      let quiet : first_absent p (later (length (journal_of h.state)) K) ≡ None =
      subst (λ (L : List LaneEvent). first_absent p (later (length L) K) ≡ None) (sym grows) (none-heard (first_absent p) (heard-end p) o.distributor (o.state).version o.state J K up none) in
      let last : last_state K ≡ Some o.state = newest-span o.distributor (o.state).version (heard_next o.distributor (Some o.state) J) K up ∙ newest-heard o.distributor o.state J ∙ newest in (
        subst (λ (z : Option ClusterState). IfSome z (λ (s : ClusterState). opened s.version (history K) ≡ true)) (sym last) (f quiet),
        subst (λ (z : Option ClusterState). IfSome z (λ (s : ClusterState). (n : ℕ) → serves s n ≡ true → stopped n (history K) ≡ false)) (sym last) (g quiet),
      )

  -- where nothing disturbed the whole call nothing disturbed the pass
  pub rests-by : {X E : Type 0} (r : Result X E) (x h y : Work) (o : Owner) (now : List Fate) → journal_of h.state ≡ heard_next o.distributor (Some o.state) (journal_of x.state) → PassesOn h.state y.state o
      → OnOk r (RestsBy h y now) → OnOk r (RestsBy x y now)
  rests-by (Err e) x h y o now grows on f = tt
  rests-by (Ok a) x h y o now grows on f = λ quiet.
      let J : List LaneEvent = journal_of x.state in
      let K : List LaneEvent = journal_of y.state in
      let p : ℕ → Bool = (λ n. returned n (history K)) in
      let up : AreUpkeep o.distributor (o.state).version (heard_next o.distributor (Some o.state) J) K = subst (λ (L : List LaneEvent). AreUpkeep o.distributor (o.state).version L K) grows on.grows in
      f (subst (λ (L : List LaneEvent). IsUndisturbed now L K) (sym grows) (record {
        unlate = none-heard (first_late now) (late-end now) o.distributor (o.state).version o.state J K up quiet.unlate;
        back = none-heard (first_absent p) (heard-end p) o.distributor (o.state).version o.state J K up quiet.back;
      }))

-- what a pass says of the lane's state, said of its work
pub rests-on : {X E : Type 0} (r : Result X E) (x : Work) (y : LaneState) (now : List Fate) → IsSetUp y.lane y.rules
    → OnOk r (IsSetUp y.lane y.rules → (y.rules).searchable ≤ (y.rules).redundancy → IsUndisturbed now (journal_of x.state) (journal_of y) → IsAtRest (setting_of y.lane y.rules) (y.rules).searchable (y.rules).split_at (journal_of y))
    → OnOk r (RestsBy x (record x { state = y }) now)
rests-on (Ok a) x y now set_up f = f set_up set_up.searched
rests-on (Err e) x y now set_up f = tt

-- the pass goes in its order, from where the owner heard its state
pub passes-by : {X E : Type 0} (r : Result X E) (x h y : Work) (o : Owner) (now : List Fate) → IsKept h.state → h.state.lane ≡ x.state.lane → h.state.rules ≡ x.state.rules → h.state.newest ≡ Some o.state
    → journal_of h.state ≡ heard_next o.distributor (Some o.state) (journal_of x.state) → OnOk r (OpensThenPasses h.state y.state o now) → OnOk r (PassesBy x y now)
passes-by (Err e) x h y o now kept lane rules newest grows p = tt
passes-by (Ok a) x h y o now kept lane rules newest grows p = record {
  before = h.state;
  after = y.state;
  owner = o;
  kept = kept;
  lane_is = lane;
  rules_are = rules;
  newest = newest;
  begins = grows;
  ends = refl;
  passes = p;
}

-- ---- what holds whatever the answer

pub on-any-ok : {X E P : Type 0} (r : Result X E) → P → OnOk r P
on-any-ok (Ok x) p = p
on-any-ok (Err e) p = tt

pub on-any-err : {X E P : Type 0} (r : Result X E) → P → OnErr r P
on-any-err (Ok x) p = tt
on-any-err (Err e) p = p
