-- What a lane keeps behind its value, after an event of a line.
use Rattle.std.proofs.Common.{[], ◌≡◌, ◌≢◌, ◌==◌, ◌≤◌, ◌+◌, ◌-◌, ◌%◌, ◌^◌, ℕ, Bool, true, false, List, ◌∷◌, ◌++◌, ◌⊎◌, inl, inr, Option, Some, None, is_some, not, length, slice_get, slice_set, vec_len, vec_capacity, if◌then◌else◌, refl, sym, ap, subst, ◌∙◌, arith, eq-eqb}
use Rattle.std.specs.BTreeMap.{BTreeMap}
use Rattle.std.proofs.lemmas.Bool.Decides.{nat_tests}
use Rattle.bucket_ids.specs.Buckets.{Low, IsIn}
use Rattle.global_ids.specs.Keys as keys
use Rattle.stamps.specs.declared.stamp.Stamp.{Stamp}
use Rattle.cluster_states.specs.declared.cluster_state.ClusterState.{ClusterState}
use Rattle.carriers.specs.declared.fate.Fate.{Fate}
use Rattle.ideal_nodes.specs.Placement.{IsOwner}
use Rattle.messages.specs.declared.operation.Operation.{Operation}
use Rattle.messages.specs.declared.operation.OpKind.{OpKind}
use Rattle.messages.specs.declared.outcome.Outcome.{Outcome}
use Rattle.distributor_part.specs.declared.rules.Rules.{Rules}
use Rattle.distributor_part.specs.Parts.{Part}
use Rattle.op_machine.specs.Plans.{IsOwn, is_get}
use Rattle.lane_journals.specs.Buckets.{Id, contains, key_of}
use Rattle.lane_journals.specs.Readers.{Journal, Beginning, or_else, only_if, began, closed, held, stamps_of, running, asked, opened}
use Rattle.lane_journals.specs.Legal.{IsNextStamp}
use Rattle.lane_journals.specs.RowLists.{row_with, rows}
use Rattle.lane_journals.specs.Meanings.{history}
use Rattle.lane_journals.specs.Places.{state_in}
use Rattle.lane_journals.specs.KeptJournals.{past}
use Rattle.lane_journals.specs.declared.event.LaneEvent.{LaneEvent}
use Rattle.lane_journals.specs.declared.event.LaneEvent.TheVariants.{Begun, Closed}
use Rattle.lane_keeping.specs.LaneKeeping.{Holds, PartKeeps}
use Rattle.lane_keeping.specs.Acting.{IsActing}
use Rattle.lane_keeping.proofs.Acting.{one-owner}
use Rattle.operation_keeping.specs.OperationKeeping.{KnowsPreparing}
use Rattle.op_machine.specs.Plans.{IsPlainGet}
use Rattle.lane_core.specs.declared.work.Job.{Job}
use Rattle.lane_core.specs.declared.work.Work.{Work}
use Rattle.lane_states.specs.LaneStates.{journal_of, IsKept, HasRoom, StaysCarried, AreResting, IsSetUp}
use Rattle.lane_calls.specs.LaneValues.{LaneValue, drawn, with_run}
use Rattle.lane_keeping.specs.Tidings.{last_state}
use Rattle.lane_states.specs.declared.lane_state.LaneState.{LaneState}
use Rattle.stamps.specs.Places.{place_of}
use Rattle.lane_states.specs.Written.{FindsEntries}
use Rattle.lane_lines.proofs.Entries.{past-past, finds-none, finds-noted}
use Rattle.lane_core.specs.Works.{value_of, SameValue, under_way_at, under_way_in, new_job, count_of, count_after, room_for, IsItsRow, IsUnprepared, IsJob, AreJobs, IsWork}
use Rattle.lane_core.proofs.Places.{map-set, remove-length}
use Rattle.lane_core.proofs.JobLists.{no-jobs, jobs-remove, jobs-push, off-line}
use Rattle.std.specs.List.{remove}
use Rattle.operation_keeping.specs.Others.{Same, More}
use Rattle.operation_keeping.specs.Laws.{IsFree}
use Rattle.operation_keeping.specs.OperationKeeping.{beginning_of}
use Rattle.lane_keeping.specs.LaneKeeping.{setting_of}
use Rattle.lane_keeping.specs.Lines.{IsFresh}
use Rattle.lane_journals.specs.KeptJournals.{IsLegal}
use Rattle.proof_basics.proofs.Options.{some_same as some-same}
use Rattle.lane_lines.specs.Steps.{IsUneventful}

-- ---- keys

pub key-in : (b : Low) (key : ℕ) → IsIn b key → contains b key ≡ true
unfolding contains
key-in b key h = eq-eqb (key % 2 ^ b.bits) b.low h.1

pub same-key : (id : Id) → keys.key_of id ≡ key_of id
unfolding key_of
same-key id = refl

-- ---- what a lane keeps, said of an explicit journal

pub record KeepsLines (lane : Low) (rules : Rules) (J : List LaneEvent) (newest : Option ClusterState) (counts : ℕ → ℕ) (jobs : List Job) : Type 0 where
  pub newest_is : newest ≡ last_state J
  pub counts_are : (v : ℕ) → counts v ≡ stamps_of v (history J)
  pub no_round : (v : ℕ) (b : Low) → running v b (history J) ≡ false
  pub jobs_are : AreJobs lane rules J jobs

pub lines-of : (w : Work) → IsWork w → KeepsLines w.state.lane w.state.rules (journal_of w.state) w.state.newest (count_of w.drawn) w.jobs.items
lines-of w k = record { newest_is = k.newest_is; counts_are = k.counts_are; no_round = k.no_round; jobs_are = k.jobs_are }

pub work-by : (w : Work) (J : List LaneEvent) → IsSetUp w.state.lane w.state.rules → IsKept w.state → HasRoom 0 w.state → w.state.spare ≡ room_for w.has_room + length w.jobs.items
    → (w.has_room ≡ true → 32 ≤ vec_len w.state.parts) → (w.has_room ≡ true → w.state.turn_room ≡ true) → AreResting w.state → journal_of w.state ≡ J → KeepsLines w.state.lane w.state.rules J w.state.newest (count_of w.drawn) w.jobs.items → FindsEntries (place_of w.places) (past J) → IsWork w
work-by w J set_up kept room spare parted placed resting is lines finds =
    let k : KeepsLines w.state.lane w.state.rules (journal_of w.state) w.state.newest (count_of w.drawn) w.jobs.items
    = subst (λ (K : List LaneEvent). KeepsLines w.state.lane w.state.rules K w.state.newest (count_of w.drawn) w.jobs.items) (sym is) lines in
    record {
      set_up = set_up;
      kept = kept;
      room = room;
      spare_is = spare;
      parted = parted;
      placed = placed;
      resting = resting;
      newest_is = k.newest_is;
      counts_are = k.counts_are;
      no_round = k.no_round;
      jobs_are = k.jobs_are;
      finds = subst (λ (xs : List LaneEvent). FindsEntries (place_of w.places) xs) (ap past (sym is) ∙ past-past w.state.journal.events.items) finds;
    }

-- the value with another journal and other operations
pub value-by : (a b : Work) (given planned : List Fate) (takes : Bool) (J : List LaneEvent) → b.state.lane ≡ a.state.lane → b.state.rules ≡ a.state.rules → b.schema ≡ a.schema → journal_of b.state ≡ J → b.has_room ≡ a.has_room
    → value_of b given planned takes ≡ record (value_of a given planned takes) { journal = J; under_way = under_way_in b.jobs.items }
value-by a b given planned takes J lane rules schema journal room = rw (lane, rules, schema, journal, room) refl

-- the value where the journal is another, with other fates, and the operation at a place
pub value-set : (a b : Work) (given now planned : List Fate) (takes : Bool) (at : ℕ) (k : Job) → b.state.lane ≡ a.state.lane → b.state.rules ≡ a.state.rules → b.schema ≡ a.schema → b.has_room ≡ a.has_room → b.jobs.items ≡ slice_set a.jobs.items at k
    → value_of b now planned takes ≡ with_run (value_of a given planned takes) (journal_of b.state) now at (under_way_at k)
value-set a b given now planned takes at k lane rules schema room items = rw (lane, rules, schema, room, items, map-set under_way_at a.jobs.items at k) refl

-- that of a state, with these operations
abbrev pub value_as : Work → LaneState → List Fate → List Fate → Bool → List Job → LaneValue
value_as a y now planned takes items = record {
  lane = y.lane;
  rules = y.rules;
  types = a.schema;
  journal = journal_of y;
  given = now;
  planned = planned;
  takes_plans = takes;
  has_room = a.has_room;
  under_way = under_way_in items;
}

pub value-as : (a : Work) (y : LaneState) (given now planned : List Fate) (takes : Bool) (at : ℕ) (k : Job) (items : List Job) → y.lane ≡ a.state.lane → y.rules ≡ a.state.rules → items ≡ slice_set a.jobs.items at k
    → value_as a y now planned takes items ≡ with_run (value_of a given planned takes) (journal_of y) now at (under_way_at k)
value-as a y given now planned takes at k items lane rules put = rw (lane, rules, put, map-set under_way_at a.jobs.items at k) refl

-- ---- who holds a state

module _ (lane : Low) (rules : Rules) (J : List LaneEvent) (d : ℕ) (p : Part) (k : PartKeeps lane rules J d p) where
  pub held-by : (s : ClusterState) → p.state ≡ Some s → (held d (history J) ≡ Some s.version) × (state_in s.version J ≡ Some s)
  held-by s e = by_state p.state e k.heard
    where
      by_state : (o : Option ClusterState) → o ≡ Some s → Holds lane d (held d (history J)) (λ v. state_in v J) (λ v n. asked v n (history J)) (λ v. opened v (history J)) (λ v key. row_with key (rows v (history J))) o p
          → (held d (history J) ≡ Some s.version) × (state_in s.version J ≡ Some s)
      by_state None e h = let none : None ≡ Some s = e in cc
      by_state (Some t) e h =
          let same : t ≡ s = cc in
          subst (λ (x : ClusterState). (held d (history J) ≡ Some x.version) × (state_in x.version J ≡ Some x)) same (h.0, h.1)

  pub holds-none : p.state ≡ None → held d (history J) ≡ None
  holds-none e = by_state p.state e k.heard
    where
      by_state : (o : Option ClusterState) → o ≡ None → Holds lane d (held d (history J)) (λ v. state_in v J) (λ v n. asked v n (history J)) (λ v. opened v (history J)) (λ v key. row_with key (rows v (history J))) o p
          → held d (history J) ≡ None
      by_state None e h = h
      by_state (Some t) e h = let none : Some t ≡ None = e in cc

pub not-owner : (lane : Low) (s : ClusterState) (a b : ℕ) → IsOwner lane s a → a ≢ b → IsOwner lane s b → ⊥
not-owner lane s a b own off other = off (one-owner lane s a b own other)

-- ---- begin

module _ (lane : Low) (rules : Rules) (J : List LaneEvent) (line d : ℕ) (s : ClusterState) (o : Operation) (stamp : Option Stamp) where
  unprepared : is_some stamp ≡ not (is_get o.kind) → KnowsPreparing lane (history (Begun line d s.version o.id stamp ∷ J)) d s line o stamp → IsUnprepared (history (Begun line d s.version o.id stamp ∷ J)) (new_job line o d stamp)
  unprepared stamped k = record { unprepared = k.unprepared; unwritten = k.unwritten; stamped = stamped }

  pub job-begun : IsActing lane J d s → IsIn lane (key_of o.id) → IsOwn o.id o.kind → IsPlainGet o → is_some stamp ≡ not (is_get o.kind) → KnowsPreparing lane (history (Begun line d s.version o.id stamp ∷ J)) d s line o stamp
      → IsJob lane rules (Begun line d s.version o.id stamp ∷ J) (new_job line o d stamp)
  job-begun acting key own plain stamped k = record {
    state = s;
    acting = record { holds = acting.holds; published = acting.published; owner = acting.owner };
    under_way = k.is_under_way;
    key_is = refl;
    key_in = key;
    own = own;
    plain = plain;
    row_is = subst (IsItsRow None) (sym k.unprepared) tt;
    phase_is = unprepared stamped k;
  }

-- the next stamp of the version
pub next-stamp : (kind : OpKind) (v : ℕ) (J : List LaneEvent) → IsNextStamp (history J) v (drawn kind v J)
next-stamp kind v J = by_test (is_get kind)
  where
    by_test : (b : Bool) → IsNextStamp (history J) v (if b then None else Some (record { version = v; count = stamps_of v (history J) + 1 }))
    by_test true = tt
    by_test false = (refl, refl)

-- a get draws none
pub drawn-stamped : (kind : OpKind) (v : ℕ) (J : List LaneEvent) → is_some (drawn kind v J) ≡ not (is_get kind)
drawn-stamped kind v J = by_test (is_get kind)
  where
    by_test : (b : Bool) → is_some {T = Stamp} (if b then None else Some (record { version = v; count = stamps_of v (history J) + 1 })) ≡ not b
    by_test true = refl
    by_test false = refl

-- the counts once it was drawn
pub counts-begun : (J : List LaneEvent) (line d v : ℕ) (id : Id) (stamp : Option Stamp) (old new : ℕ → ℕ) → IsNextStamp (history J) v stamp
    → ((w : ℕ) → old w ≡ stamps_of w (history J)) → ((w : ℕ) → new w ≡ count_after stamp old w) → (w : ℕ) → new w ≡ stamps_of w (history (Begun line d v id stamp ∷ J))
counts-begun J line d v id None old new next is after w = after w ∙ is w
counts-begun J line d v id (Some s) old new next is after w = after w ∙ by_test (v == w) refl
  where
    by_test : (b : Bool) → (v == w) ≡ b → (if s.version == w then s.count else old w) ≡ (if v == w then stamps_of w (history J) + 1 else stamps_of w (history J))
    by_test true e =
        let same : v ≡ w = grind (arith, nat_tests) in
        rw (next.0, e) (next.1 ∙ ap (λ (n : ℕ). stamps_of n (history J) + 1) same)
    by_test false e = rw (next.0, e) (is w)

-- ---- an event that is noted, with room for more of them kept free

-- one is put in place of another, and nothing else but the journal with what belongs to it
pub record IsOnward (x y : LaneState) : Type 0 where
  pub lane : y.lane ≡ x.lane
  pub rules : y.rules ≡ x.rules
  pub newest : y.newest ≡ x.newest
  pub spare : y.spare ≡ x.spare
  pub parted : vec_len y.parts ≡ vec_len x.parts
  pub placed : y.turn_room ≡ x.turn_room
  pub resting : AreResting x → AreResting y
  pub quiet : IsUneventful (journal_of x) (journal_of y)

pub quiet-same : (J K : List LaneEvent) → K ≡ J → IsUneventful J K
quiet-same J K e = subst (λ (X : List LaneEvent). IsUneventful J X) (sym e) (record { newest = refl; counted = λ v. refl; rounds = λ v b. refl })

pub work-set : (x w : Work) → IsWork x → IsOnward x.state w.state → w.drawn ≡ x.drawn → w.has_room ≡ x.has_room → IsKept w.state → HasRoom 0 w.state → AreJobs w.state.lane w.state.rules (journal_of w.state) w.jobs.items
    → length w.jobs.items ≡ length x.jobs.items → FindsEntries (place_of w.places) w.state.journal.events.items → IsWork w
work-set x w k on drawn room kept free jobs many finds = record {
  set_up = rw (on.lane, on.rules) k.set_up;
  kept = kept;
  room = free;
  spare_is = on.spare ∙ k.spare_is ∙ ap (λ (b : Bool). room_for b + length x.jobs.items) (sym room) ∙ ap (λ (n : ℕ). room_for w.has_room + n) (sym many);
  parted = λ made. let all = k.parted (sym room ∙ made) in let same = on.parted in omega (arith, all, same);
  placed = λ made. on.placed ∙ k.placed (sym room ∙ made);
  resting = on.resting k.resting;
  newest_is = on.newest ∙ k.newest_is ∙ sym (on.quiet).newest;
  counts_are = λ v. ap (λ (c : BTreeMap ℕ ℕ). count_of c v) drawn ∙ k.counts_are v ∙ sym ((on.quiet).counted v);
  no_round = λ v b. (on.quiet).rounds v b ∙ k.no_round v b;
  jobs_are = jobs;
  finds = finds;
}

-- events of no line came, or one began: the journal has grown, with other operations under way
pub work-grown : (x w : Work) (J : List LaneEvent) → IsWork x → w.state.lane ≡ x.state.lane → w.state.rules ≡ x.state.rules → journal_of w.state ≡ J → IsKept w.state → AreResting w.state → HasRoom 0 w.state
    → w.state.spare ≡ room_for w.has_room + length w.jobs.items → (w.has_room ≡ true → 32 ≤ vec_len w.state.parts) → (w.has_room ≡ true → w.state.turn_room ≡ true) → KeepsLines x.state.lane x.state.rules J w.state.newest (count_of w.drawn) w.jobs.items → FindsEntries (place_of w.places) (past J)
    → IsWork w
work-grown x w J k lane rules is kept resting free spare parted placed lines finds = work-by w J (rw (lane, rules) k.set_up) kept free spare parted placed resting is (rw (lane, rules) lines) finds

-- ---- the operation at a place is closed

if-true : (b c : Bool) → c ≡ true → (if b then true else c) ≡ true
if-true true c e = refl
if-true false c e = e

pub work-closed : (x w : Work) (at : ℕ) (j : Job) (o : Outcome) → IsWork x → slice_get x.jobs.items at ≡ Some j → w.jobs.items ≡ remove x.jobs.items at → w.drawn ≡ x.drawn → w.places ≡ x.places → w.has_room ≡ x.has_room
    → w.state.lane ≡ x.state.lane → w.state.rules ≡ x.state.rules → w.state.newest ≡ x.state.newest → w.state.spare ≡ x.state.spare - 1 → vec_len w.state.parts ≡ vec_len x.state.parts → w.state.turn_room ≡ x.state.turn_room → IsKept w.state → AreResting w.state
    → journal_of w.state ≡ Closed j.line o ∷ journal_of x.state → vec_len w.state.journal.events ≡ vec_len x.state.journal.events + 1 → vec_capacity x.state.journal.events ≤ vec_capacity w.state.journal.events → IsWork w
work-closed x w at j o k found items drawn places has lane rules newest spare parted placed kept resting grows len cap =
    let K : List LaneEvent = Closed j.line o ∷ journal_of x.state in
    let fewer : length (remove x.jobs.items at) + 1 ≡ length x.jobs.items = remove-length x.jobs.items at j found in
    let many : length w.jobs.items ≡ length (remove x.jobs.items at) = ap length items in
    let all : x.state.spare ≡ room_for x.has_room + length x.jobs.items = k.spare_is in
    let room : vec_len x.state.journal.events + 0 + x.state.spare ≤ vec_capacity x.state.journal.events = k.room in
    let left : w.state.spare ≡ room_for x.has_room + length w.jobs.items = omega (arith, fewer, many, all, spare) in
    let legal : IsLegal (setting_of x.state.lane x.state.rules) K = rw (lane, rules, grows) at kept.keeps.legal in
    work-by w K (rw (lane, rules) k.set_up) kept (omega (arith, all, fewer, room, spare, len, cap))
    (left ∙ ap (λ (b : Bool). room_for b + length w.jobs.items) (sym has)) (λ made. let most = k.parted (sym has ∙ made) in omega (arith, most, parted)) (λ made. placed ∙ k.placed (sym has ∙ made)) resting grows
    (rw (lane, rules, newest, items, drawn) (record {
      newest_is = k.newest_is;
      counts_are = k.counts_are;
      no_round = k.no_round;
      jobs_are = jobs-remove x.state.lane x.state.rules (journal_of x.state) K x.jobs.items k.jobs_are ((k.kept).keeps).legal legal at j found
          (λ b m got off. More (Closed j.line o) (journal_of x.state) Same (off-line x.state.lane x.state.rules (journal_of x.state) K x.jobs.items k.jobs_are ((k.kept).keeps).legal legal at j found b m got off))
          (λ l. refl) (λ l e. if-true (j.line == l) (closed l (history (journal_of x.state))) e)
          (ap (λ (b : Bool). if b then true else closed j.line (history (journal_of x.state))) (eq-eqb j.line j.line refl));
    }))
    (rw places (finds-noted (place_of x.places) x.state.journal.events.items (Closed j.line o) refl k.finds))

-- ---- one begins

began-cases : (H : Journal) (line l d v : ℕ) (id : Id) (stamp : Option Stamp) (begin : Beginning) → or_else (began l H) (only_if (line == l) (record { distributor = d; version = v; id = id; stamp = stamp })) ≡ Some begin → (began l H ≡ Some begin) ⊎ (line ≡ l)
began-cases H line l d v id stamp begin e = by_test (line == l) refl e
  where
    left : (o : Option Beginning) → or_else o None ≡ Some begin → o ≡ Some begin
    left None h = h
    left (Some z) h = h

    by_test : (b : Bool) → (line == l) ≡ b → or_else (began l H) (only_if b (record { distributor = d; version = v; id = id; stamp = stamp })) ≡ Some begin → (began l H ≡ Some begin) ⊎ (line ≡ l)
    by_test true is h = inr (grind (arith, nat_tests))
    by_test false is h = inl (left (began l H) h)

module _ (lane : Low) (rules : Rules) (J : List LaneEvent) (jobs : List Job) (are : AreJobs lane rules J jobs) where
  -- a line without events is of none of them
  pub off-fresh : (line : ℕ) → IsFresh (history J) line → (b : ℕ) (m : Job) → slice_get jobs b ≡ Some m → m.line ≡ line → ⊥
  off-fresh line fresh b m got same =
      let k = are.each b m got in
      let u = (k.under_way).begun_as in
      let none : began m.line (history J) ≡ None = ap (λ (l : ℕ). began l (history J)) same ∙ fresh.unbegun in
      none-begun (sym none ∙ u)
    where
      none-begun : {z : Beginning} → None ≡ Some z → ⊥
      none-begun e = cc

  -- no operation of the document is under way
  pub free-of : (id : Id) → ((b : ℕ) (m : Job) → slice_get jobs b ≡ Some m → m.operation.id ≡ id → ⊥) → IsFree (history J) id
  free-of id none other begin b is = elim (are.others other begin b) [
    | inl over ↦ over
    | inr there ↦ (let k = are.each there.0 there.1 there.2 in
        let same : begin ≡ beginning_of there.1.distributor k.state there.1.operation there.1.stamp = some-same _ _ (sym b ∙ ap (λ (l : ℕ). began l (history J)) (sym there.3) ∙ (k.under_way).begun_as) in
        absurd (none there.0 there.1 there.2 (sym (ap (λ (z : Beginning). z.id) same) ∙ is)))
  ]

  pub jobs-begun : (line d : ℕ) (s : ClusterState) (o : Operation) (stamp : Option Stamp) → IsLegal (setting_of lane rules) (Begun line d s.version o.id stamp ∷ J) → IsFresh (history J) line
      → ((b : ℕ) (m : Job) → slice_get jobs b ≡ Some m → m.operation.id ≡ o.id → ⊥) → IsJob lane rules (Begun line d s.version o.id stamp ∷ J) (new_job line o d stamp)
      → AreJobs lane rules (Begun line d s.version o.id stamp ∷ J) (jobs ++ new_job line o d stamp ∷ [])
  jobs-begun line d s o stamp legal fresh free job = jobs-push lane rules J (Begun line d s.version o.id stamp ∷ J) jobs are legal.0 legal (new_job line o d stamp) job refl
      (λ b m got. More (Begun line d s.version o.id stamp) J Same (λ e. off-fresh line fresh b m got (sym e)))
      (off-fresh line fresh) free (λ l begin h. began-cases (history J) line l d s.version o.id stamp begin h) (λ l e. e)

-- ---- a lane in which nothing happened

pub work-new : (w : Work) → IsSetUp w.state.lane w.state.rules → IsKept w.state → journal_of w.state ≡ [] → w.state.newest ≡ None → w.state.parts.items ≡ [] → w.state.spare ≡ 0 → HasRoom 0 w.state
    → w.has_room ≡ false → w.jobs.items ≡ [] → ((v : ℕ) → count_of w.drawn v ≡ 0) → ((s : Stamp) → place_of w.places s ≡ None) → IsWork w
work-new w set_up kept journal newest parts spare room unmade none counts places = work-by w [] set_up kept room
    (rw (spare, unmade, none) refl)
    (λ made. let wrong : false ≡ true = sym unmade ∙ made in cc)
    (λ made. let wrong : false ≡ true = sym unmade ∙ made in cc)
    (λ d. rw parts (record { unasked = refl; told = refl; no_round = refl }))
    journal
    (rw (none, newest) (record {
      newest_is = refl;
      counts_are = counts;
      no_round = λ v b. refl;
      jobs_are = no-jobs w.state.lane w.state.rules [] (λ line begin e. let no_begin : None ≡ Some begin = e in cc);
    }))
    (finds-none (place_of w.places) places)

-- ---- changes are handed over, or dropped

module _ (x : Work) (y : LaneState) (after : y ≡ record x.state { journal = y.journal; handed = y.handed }) (events : y.journal.events ≡ x.state.journal.events) where
  lane_is : y.lane ≡ x.state.lane
  lane_is = ap (λ (z : LaneState). z.lane) after

  rules_are : y.rules ≡ x.state.rules
  rules_are = ap (λ (z : LaneState). z.rules) after

  pub journal_is : journal_of y ≡ journal_of x.state
  journal_is = ap (λ v. past v.items) events

  pub work-handed : IsWork x → IsKept y → IsWork (record { state = y; schema = x.schema; drawn = x.drawn; places = x.places; has_room = x.has_room; jobs = x.jobs })
  work-handed k kept =
      let newest : y.newest ≡ x.state.newest = ap (λ (z : LaneState). z.newest) after in
      let parts : y.parts ≡ x.state.parts = ap (λ (z : LaneState). z.parts) after in
      let same : y.spare ≡ x.state.spare = ap (λ (z : LaneState). z.spare) after in
      let room : HasRoom 0 x.state = k.room in
      work-by (record { state = y; schema = x.schema; drawn = x.drawn; places = x.places; has_room = x.has_room; jobs = x.jobs }) (journal_of x.state)
      (rw (lane_is, rules_are) k.set_up) kept (rw (events, same) room) (same ∙ k.spare_is)
      (λ made. rw parts (k.parted made))
      (λ made. ap (λ (z : LaneState). z.turn_room) after ∙ k.placed made)
      (λ d. rw (lane_is, rules_are, parts) (k.resting d)) journal_is
      (rw (lane_is, rules_are, newest) (lines-of x k))
      (subst (λ (xs : List LaneEvent). FindsEntries (place_of x.places) xs) (sym (past-past x.state.journal.events.items)) k.finds)

  pub carried-handed : StaysCarried x.state y
  carried-handed given h = rw (journal_is, ap (λ (z : LaneState). z.last) after, ap (λ (z : LaneState). z.late) after) h

  pub value-handed : SameValue x (record { state = y; schema = x.schema; drawn = x.drawn; places = x.places; has_room = x.has_room; jobs = x.jobs })
  value-handed given planned takes = rw (lane_is, rules_are, journal_is) refl
