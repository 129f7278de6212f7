-- What held of a lane before a deed.
use Rattle.std.proofs.Common.{◌≡◌, ◌⊎◌, ℕ, Bool, true, false, List, [], ◌∷◌, ◌++◌, Option, None, Some, inl, inr, refl, sym, ap, ◌∙◌, subst, if◌then◌else◌}
use Rattle.std.proofs.lemmas.List.{append_assoc}
use Rattle.bucket_ids.specs.Buckets.{Low}
use Rattle.carriers.specs.declared.fate.Fate.{Fate}
use Rattle.cluster_states.specs.declared.cluster_state.ClusterState.{ClusterState}
use Rattle.distributor_part.specs.declared.rules.Rules.{Rules}
use Rattle.messages.specs.declared.operation.Operation.{Operation}
use Rattle.ideal_nodes.specs.Placement.{IsOwner}
use Rattle.messages.specs.declared.outcome.Outcome.{Outcome}
use Rattle.lane_journals.specs.Readers.{stopped}
use Rattle.lane_journals.specs.Meanings.{history}
use Rattle.lane_journals.specs.Places as places
use Rattle.lane_journals.specs.KeptJournals.{IsLegal}
use Rattle.lane_journals.specs.declared.event.LaneEvent.{LaneEvent}
use Rattle.lane_journals.specs.declared.event.LaneEvent.TheVariants as event
use Rattle.lane_carriage.specs.Carriage.{IsOther, IsCarried, Other}
use Rattle.lane_completeness.specs.Completeness.{NoneStops}
use Rattle.operation_keeping.specs.Wants.{IsRun, Same, More, IsCutRun}
use Rattle.lane_keeping.specs.Tidings.{heard_next, announced, stopped_next, started_next}
use Rattle.lane_lives.specs.declared.setting.Setting.{Setting}
use Rattle.lane_calls.specs.Lines.{FeedLine, RunsTo, begun_at, IsRunAt, IsRefused, IsCarriedOut}
use Rattle.lane_lives.specs.Lives.{Deed, Announces, Stops, Starts, Runs, Feeds, Maintains, Does}
use Rattle.lane_calls.specs.Upkept.{IsMaintained}
use Rattle.lane_promises.proofs.CarriedBefore.{IsCarriedThen, carried_then}
use Rattle.lane_calls.proofs.Quiet.{AddsFor, wanted_adds, cut_adds}
use Rattle.lane_calls.proofs.Told.{heard_down, next_down}
use Rattle.lane_lives.proofs.Deeds.{pass_or_none}
use Rattle.lane_calls.proofs.Steps.{grown-down}
use Rattle.lane_calls.proofs.Upkept.{upkeep_down}

-- ---- down a run

-- what it adds stops no node and starts none
pub record Adds (J K : List LaneEvent) : Type 0 where
  pub events : List LaneEvent
  pub are : K ≡ events ++ J
  pub none_stops : NoneStops events

adds_event : (line : ℕ) (e : LaneEvent) (M : List LaneEvent) → AddsFor line e → NoneStops M → NoneStops (e ∷ M)
adds_event line (event.Published s) M h none = absurd h
adds_event line (event.Heard d v) M h none = absurd h
adds_event line (event.Begun l d v id s) M h none = absurd h
adds_event line (event.Refused l d x) M h none = absurd h
adds_event line (event.Closed l x) M h none = absurd h
adds_event line (event.Stopped n) M h none = absurd h
adds_event line (event.Started n) M h none = absurd h
adds_event line (event.Prepared l b set) M h none = none
adds_event line (event.Wrote l entry) M h none = none
adds_event line (event.Opened d v rows) M h none = none
adds_event line (event.Sent k v d n b) M h none = none
adds_event line (event.Delivered k r) M h none = none
adds_event line (event.Returned k) M h none = none
adds_event line (event.Decided d v x) M h none = none

one_more : (line : ℕ) (J L : List LaneEvent) (e : LaneEvent) → AddsFor line e → Adds J L → Adds J (e ∷ L)
one_more line J L e h a = record { events = e ∷ a.events; are = ap (λ M. e ∷ M) a.are; none_stops = adds_event line e a.events h a.none_stops }

run_adds : (lane : Low) (rules : Rules) (line : ℕ) (o : Operation) (J K : List LaneEvent) → IsRun lane rules line o J K → Adds J K
run_adds lane rules line o J K Same = record { events = []; are = refl; none_stops = tt }
run_adds lane rules line o J K (More e L run wanted) = one_more line J L e (wanted_adds lane rules line o e L wanted) (run_adds lane rules line o J L run)

cut_run_adds : (lane : Low) (rules : Rules) (line : ℕ) (o : Operation) (J K : List LaneEvent) → IsCutRun lane rules line o J K → Adds J K
cut_run_adds lane rules line o J K h = elim h.2 [
  | inl same ↦ subst (Adds J) (sym same) (run_adds lane rules line o J h.0 h.1)
  | inr cut ↦ let last = cut_adds lane line h.0 K cut in subst (Adds J) (sym last.1.0) (one_more line J h.0 last.0 last.1.1 (run_adds lane rules line o J h.0 h.1))
]

pub runs_add : (lane : Low) (rules : Rules) (line : ℕ) (o : Operation) (J K : List LaneEvent) (x : Outcome) → RunsTo lane rules line o J K x → Adds J K
runs_add lane rules line o J K x (inl h) = run_adds lane rules line o J K h.0
runs_add lane rules line o J K x (inr h) = cut_run_adds lane rules line o J K h.0

-- ---- each event down a run

module _ (lane : Low) (rules : Rules) (line : ℕ) (o : Operation) (P : List LaneEvent → Type 0) (step : (e : LaneEvent) (L : List LaneEvent) → AddsFor line e → P (e ∷ L) → P L) where
  run_down : (J K : List LaneEvent) → IsRun lane rules line o J K → P K → P J
  run_down J K Same p = p
  run_down J K (More e L run wanted) p = run_down J L run (step e L (wanted_adds lane rules line o e L wanted) p)

  cut_down : (J K : List LaneEvent) → IsCutRun lane rules line o J K → P K → P J
  cut_down J K h p = elim h.2 [
    | inl same ↦ run_down J h.0 h.1 (subst P same p)
    | inr cut ↦ let last = cut_adds lane line h.0 K cut in run_down J h.0 h.1 (step last.0 h.0 last.1.1 (subst P last.1.0 p))
  ]

  pub runs_down : (J K : List LaneEvent) (x : Outcome) → RunsTo lane rules line o J K x → P K → P J
  runs_down J K x (inl h) p = run_down J K h.0 p
  runs_down J K x (inr h) p = cut_down J K h.0 p

-- ---- legal

pub legal_tail : (S : places.Setting) (M J : List LaneEvent) → IsLegal S (M ++ J) → IsLegal S J
legal_tail S [] J legal = legal
legal_tail S (e ∷ M) J legal = legal_tail S M J legal.0

pub legal_begun : (S : places.Setting) (lane : Low) (rules : Rules) (line : FeedLine) (d : ℕ) (state : ClusterState) (J K : List LaneEvent) (c : IsRunAt lane rules line d state J K) → IsLegal S K → IsLegal S (begun_at line d state J)
legal_begun S lane rules line d state J K c legal =
    let closing : IsLegal S (event.Closed line.number c.outcome ∷ c.run) = subst (IsLegal S) c.closed legal in
    let a = runs_add lane rules line.number line.operation (begun_at line d state J) c.run c.outcome c.runs in
    legal_tail S a.events (begun_at line d state J) (subst (IsLegal S) a.are closing.0)

-- ---- what holds before each event holds before all of a deed's

module _ (P : List LaneEvent → Type 0) (step : (e : LaneEvent) (L : List LaneEvent) → P (e ∷ L) → P L) where
  before_announced : (deaf : ℕ) (s : ClusterState) (J : List LaneEvent) → P (announced deaf s J) → P J
  before_announced deaf s J p = step (event.Published s) J (heard_down P (λ e v L q. step (event.Heard e v) L q) 32 deaf s (event.Published s ∷ J) p)

  before_stop : (n : ℕ) (J : List LaneEvent) → P (stopped_next n J) → P J
  before_stop n J p = by_test (stopped n (history J)) p
    where
      by_test : (t : Bool) → P (if t then J else event.Stopped n ∷ J) → P J
      by_test true p = p
      by_test false p = step (event.Stopped n) J p

  before_start : (n : ℕ) (J : List LaneEvent) → P (started_next n J) → P J
  before_start n J p = by_test (stopped n (history J)) p
    where
      by_test : (t : Bool) → P (if t then event.Started n ∷ J else J) → P J
      by_test true p = step (event.Started n) J p
      by_test false p = p

  before_next : (d : ℕ) (s : ClusterState) (J : List LaneEvent) → P (heard_next d (Some s) J) → P J
  before_next d s J p = next_down P (λ e v L q. step (event.Heard e v) L q) d s J p

  before_run : (lane : Low) (rules : Rules) (line : FeedLine) (d : ℕ) (state : ClusterState) (J K : List LaneEvent) → IsRunAt lane rules line d state J K → P K → P J
  before_run lane rules line d state J K c p =
      let ran = step (event.Closed line.number c.outcome) c.run (subst P c.closed p) in
      step _ J (runs_down lane rules line.number line.operation P (λ e L adds q. step e L q) (begun_at line d state J) c.run c.outcome c.runs ran)

  pub before_line : (lane : Low) (rules : Rules) (line : FeedLine) (via : Option ℕ) (J K : List LaneEvent) → IsCarriedOut lane rules line via J K → P K → P J
  before_line lane rules line None J K c p = before_next c.owner c.state J (before_run lane rules line c.owner c.state _ K c.run p)
  before_line lane rules line (Some d) J K c p = by_end c.ends
    where
      by_end : (IsOwner lane c.state d × IsRunAt lane rules line d c.state J K) ⊎ IsRefused lane line d c.state J K → P J
      by_end (inl r) = before_run lane rules line d c.state J K r.1 p
      by_end (inr r) = step (event.Refused line.number d _) J (subst P r.refused p)

  before_upkeep : (lane : Low) (J K : List LaneEvent) → (K ≡ J) ⊎ IsMaintained lane J K → P K → P J
  before_upkeep lane J K (inl same) p = subst P same p
  before_upkeep lane J K (inr m) p = before_next m.owner m.state J (upkeep_down P m.owner (m.state).version (λ e L is q. step e L q) _ K m.pass p)

  pub before_deed : (s : Setting) (lane : Low) (deed : Deed) (J K : List LaneEvent) → Does s lane deed J K → P K → P J
  before_deed s lane (Announces state deaf) J K does p = before_announced deaf state J (subst P does p)
  before_deed s lane (Stops n) J K does p = before_stop n J (subst P does p)
  before_deed s lane (Starts n) J K does p = before_start n J (subst P does p)
  before_deed s lane (Runs line) J K does p = before_line lane s.rules line line.via J K does p
  before_deed s lane (Feeds feeders lines left) J K does p = grown-down feeders lines lane s.rules P (λ e L is q. step e L q) J K does.grew p
  before_deed s lane (Maintains noted) J K does p = before_upkeep lane J K (pass_or_none lane noted J K does) p

pub legal_before : (S : places.Setting) (s : Setting) (lane : Low) (deed : Deed) (J K : List LaneEvent) → Does s lane deed J K → IsLegal S K → IsLegal S J
legal_before S = before_deed (IsLegal S) (λ e L legal. legal.0)

-- ---- what it added

-- the whole journal grew from this one
abbrev pub Grown : List LaneEvent → List LaneEvent → Type 0
Grown whole J = (M : List LaneEvent) × (whole ≡ M ++ J)

pub grown_before : (whole : List LaneEvent) (e : LaneEvent) (J : List LaneEvent) → Grown whole (e ∷ J) → Grown whole J
grown_before whole e J h = (h.0 ++ e ∷ [], h.1 ∙ sym (append_assoc h.0 (e ∷ []) J))

pub grown_deed : (whole : List LaneEvent) (s : Setting) (lane : Low) (deed : Deed) (J K : List LaneEvent) → Does s lane deed J K → Grown whole K → Grown whole J
grown_deed whole = before_deed (Grown whole) (grown_before whole)

pub grown_line : (whole : List LaneEvent) (lane : Low) (rules : Rules) (line : FeedLine) (via : Option ℕ) (J K : List LaneEvent) → IsCarriedOut lane rules line via J K → Grown whole K → Grown whole J
grown_line whole = before_line (Grown whole) (grown_before whole)

-- ---- the messages of a line, where the whole journal's were carried

-- those of its run, and those before its beginning
pub run_carried : (given : List Fate) (lane : Low) (rules : Rules) (line : FeedLine) (d : ℕ) (state : ClusterState) (J K : List LaneEvent) (c : IsRunAt lane rules line d state J K) (t : IsCarriedThen given K) → IsCarriedThen t.first c.run
run_carried given lane rules line d state J K c t = carried_then t.first K t.carried [] (event.Closed line.number c.outcome) c.run tt c.closed

pub begun_carried : (given : List Fate) (lane : Low) (rules : Rules) (line : FeedLine) (d : ℕ) (state : ClusterState) (J K : List LaneEvent) (c : IsRunAt lane rules line d state J K) (r : IsCarriedThen given c.run) → IsCarriedThen r.first J
begun_carried given lane rules line d state J K c r =
    let a = runs_add lane rules line.number line.operation (begun_at line d state J) c.run c.outcome c.runs in
    carried_then r.first c.run r.carried a.events _ J tt a.are

-- a journal whose newest event carries nothing
carried_to : (given : List Fate) (whole : List LaneEvent) (e : LaneEvent) (L K : List LaneEvent) → IsOther e → IsCarried given whole → Grown whole K → K ≡ e ∷ L → IsCarriedThen given K
carried_to given whole e L K other carried grown is =
    let t = carried_then given whole carried grown.0 e L other (grown.1 ∙ ap (λ M. grown.0 ++ M) is) in
    record { first = t.first; rest = t.rest; carried = subst (IsCarried t.first) (sym is) (Other t.first L e other t.carried); are = t.are }

-- as the line ended
pub carried_line : (given : List Fate) (whole : List LaneEvent) (lane : Low) (rules : Rules) (line : FeedLine) (via : Option ℕ) (J K : List LaneEvent) → IsCarriedOut lane rules line via J K → IsCarried given whole → Grown whole K → IsCarriedThen given K
carried_line given whole lane rules line None J K c carried grown = carried_to given whole (event.Closed line.number (c.run).outcome) (c.run).run K tt carried grown (c.run).closed
carried_line given whole lane rules line (Some d) J K c carried grown = by_end c.ends
  where
    by_end : (IsOwner lane c.state d × IsRunAt lane rules line d c.state J K) ⊎ IsRefused lane line d c.state J K → IsCarriedThen given K
    by_end (inl r) = carried_to given whole (event.Closed line.number (r.1).outcome) (r.1).run K tt carried grown (r.1).closed
    by_end (inr r) = carried_to given whole (event.Refused line.number d _) J K tt carried grown r.refused
