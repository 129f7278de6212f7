-- A line of which no message is lost comes to what nodes answer.
use Rattle.std.proofs.Common.{◌≡◌, ◌⊎◌, ◌↔◌, ◌<◌, ◌≤◌, ℕ, true, false, not, List, ◌∷◌, ◌++◌, length, Option, None, Some, is_some, inl, inr, refl, sym, ap, ◌∙◌, subst, arith}
use Rattle.std.specs.Option.{IsSome}
use Rattle.std.proofs.lemmas.Bool.{false≢true}
use Rattle.std.proofs.lemmas.Bool.Decides.{nat_tests}
use Rattle.bucket_ids.specs.Buckets.{Low}
use Rattle.stamps.specs.declared.stamp.Stamp.{Stamp}
use Rattle.carriers.specs.declared.fate.Fate.{Fate}
use Rattle.cluster_states.specs.declared.cluster_state.ClusterState.{ClusterState}
use Rattle.ideal_nodes.specs.Placement.{IsOwner}
use Rattle.messages.specs.declared.operation.Operation.{Operation}
use Rattle.messages.specs.declared.outcome.Outcome.{Outcome}
use Rattle.messages.specs.declared.outcome.Outcome.TheVariants.{Acked, Nothing, Found, Missing, ConditionFailed, BadUpdate, TooFew, OwnedElsewhere, NoMemory}
use Rattle.op_machine.specs.Judging.{looks}
use Rattle.distributor_part.specs.declared.rules.Rules.{Rules}
use Rattle.lane_journals.specs.Buckets.{Id}
use Rattle.lane_journals.specs.Endings.{MayEnd}
use Rattle.lane_journals.specs.Events as plain
use Rattle.lane_journals.specs.Readers.{Journal, Beginning, Message, published, stopped, began, sent}
use Rattle.lane_journals.specs.Legal.{MayBegin, MayClose}
use Rattle.lane_journals.specs.Meanings.{history, is_acked}
use Rattle.lane_journals.specs.Places as places
use Rattle.lane_journals.specs.KeptJournals.{IsLegal}
use Rattle.lane_journals.specs.declared.event.LaneEvent.{LaneEvent}
use Rattle.lane_journals.specs.declared.event.LaneEvent.TheVariants.{Closed}
use Rattle.lane_keeping.specs.LaneKeeping.{setting_of}
use Rattle.operation_keeping.specs.Wants.{IsRun, IsEnd}
use Rattle.lane_carriage.specs.Carriage.{IsCarried, Other}
use Rattle.lane_carriage.specs.Readers.{fate_of, is_returned, receives}
use Rattle.lane_completeness.specs.Completeness.{AreAnswered, RunSince, NoneStops, IsUndisturbed, IsUndisturbedLine, IsDecided, EndsWell}
use Rattle.lane_completeness.specs.Causes.{IsHeardLine, ReturnInTurn}
use Rattle.operation_keeping.specs.RuleBounds.{AreRules}
use Rattle.lane_keeping.specs.Tidings.{heard_next, last_state}
use Rattle.lane_calls.specs.LaneValues.{drawn}
use Rattle.lane_calls.specs.Lines.{FeedLine, RunsTo, begun_at, IsRunAt, IsRefused, IsCarriedOut}
use Rattle.lane_calls.specs.Readings.{outcome_in}
use Rattle.lane_promises.specs.Promises.{LacksNothing, IsAcked, IsServed, LosesNone, GoesToOwner, IsNoRefusal}
use Rattle.lane_promises.proofs.Before.{runs_add, legal_begun, run_carried, begun_carried}
use Rattle.lane_promises.proofs.CarriedBefore.{IsCarriedThen, fate_then}
use Rattle.lane_calls.proofs.Leaving.{Leaves, leaves_to}
use Rattle.lane_promises.proofs.Newest.{IsNewest, newest_is, held_newest}
use Rattle.lane_calls.proofs.OneLine.{outcome_own, unended_none}
use Rattle.lane_calls.proofs.Told.{next_keeps}

-- ---- what is known of operations that run undisturbed

abbrev pub AllDecided : Type 0
AllDecided = (lane : Low) (rules : Rules) → AreRules rules → (line d v : ℕ) (o : Operation) (stamp : Option Stamp) (J K : List LaneEvent) (outcome : Outcome)
    → IsUndisturbedLine lane rules line d v o stamp J K outcome → IsDecided (history K) line outcome

abbrev pub WritesEndWell : Type 0
WritesEndWell = (lane : Low) (rules : Rules) → AreRules rules → (line d v : ℕ) (o : Operation) (stamp : Option Stamp) (J K : List LaneEvent) (outcome : Outcome) → looks o ≡ false
    → IsUndisturbedLine lane rules line d v o stamp J K outcome → EndsWell stamp (history K) line outcome

-- and beside others
abbrev pub HeardDecided : Type 0
HeardDecided = (lane : Low) (rules : Rules) → AreRules rules → (line d v : ℕ) (o : Operation) (stamp : Option Stamp) (J K : List LaneEvent) (outcome : Outcome)
    → IsHeardLine lane rules line d v o stamp J K outcome → IsDecided (history K) line outcome

abbrev pub HeardEndWell : Type 0
HeardEndWell = (lane : Low) (rules : Rules) → AreRules rules → (line d v : ℕ) (o : Operation) (stamp : Option Stamp) (J K : List LaneEvent) (outcome : Outcome) → looks o ≡ false
    → IsHeardLine lane rules line d v o stamp J K outcome → EndsWell stamp (history K) line outcome

-- fates that answer what was sent since leave a lane undisturbed, where the receivers ran; and which numbers were sent
pub record Laws : Type 0 where
  pub decided : AllDecided
  pub well : WritesEndWell
  pub heard : HeardDecided
  pub heard_well : HeardEndWell
  pub since : (before given : List Fate) (J K : List LaneEvent) → IsCarried before J → IsCarried given K → AreAnswered (length before) given → RunSince J K → IsUndisturbed J K
  pub running : (J M : List LaneEvent) → NoneStops M → (number : ℕ) (m : Message) → sent number (history (M ++ J)) ≡ Some m → sent number (history J) ≡ None
      → receives number number (M ++ J) ≡ not (stopped m.receiver (history (M ++ J)))
  pub numbers : (given : List Fate) (k : ℕ) → IsSome (fate_of k given) ↔ ((1 ≤ k) × (k ≤ length given))
  pub was_sent : (given : List Fate) (J : List LaneEvent) → IsCarried given J → (k : ℕ) → 1 ≤ k → k ≤ length given → IsSome (sent k (history J))
  pub unsent : (given : List Fate) (J : List LaneEvent) → IsCarried given J → (k : ℕ) → fate_of k given ≡ None → sent k (history J) ≡ None
  pub in_turn : (given : List Fate) (J K : List LaneEvent) → IsCarried given K → ReturnInTurn J K

pub lacks_nothing : (H : Journal) (line : ℕ) (x : Outcome) → IsDecided H line x → LacksNothing x
lacks_nothing H line (Acked t) h = tt
lacks_nothing H line (Nothing t) h = tt
lacks_nothing H line (Found t) h = tt
lacks_nothing H line (Missing t) h = tt
lacks_nothing H line (ConditionFailed t) h = tt
lacks_nothing H line (BadUpdate f) h = tt
lacks_nothing H line (TooFew a n x) h = absurd h
lacks_nothing H line (OwnedElsewhere o v) h = absurd h
lacks_nothing H line NoMemory h = tt

-- a line that was closed wasn't refused
pub no_refusal : (S : places.Setting) (J : List LaneEvent) (line : ℕ) (b : Beginning) (x : Outcome) → MayEnd S J line b x → IsNoRefusal x
no_refusal S J line b (Acked t) h = tt
no_refusal S J line b (Nothing t) h = tt
no_refusal S J line b (Found t) h = tt
no_refusal S J line b (Missing t) h = tt
no_refusal S J line b (ConditionFailed t) h = tt
no_refusal S J line b (BadUpdate f) h = tt
no_refusal S J line b (TooFew a n x) h = tt
no_refusal S J line b (OwnedElsewhere o v) h = absurd h
no_refusal S J line b NoMemory h = tt

pub began_first : (n d v : ℕ) (id : Id) (t : Option Stamp) (H : Journal) → began n H ≡ None → began n (plain.Begun n d v id t ∷ H) ≡ Some (record { distributor = d; version = v; id = id; stamp = t })
began_first n d v id t H h = grind (arith, nat_tests)

pub some_of : {A : Type 0} (o : Option A) → IsSome o → (x : A) × (o ≡ Some x)
some_of None h = absurd (false≢true h)
some_of (Some x) h = (x, refl)

-- ---- one line that ran at a distributor

module _ (lane : Low) (rules : Rules) (line : FeedLine) (d : ℕ) (state : ClusterState) (J K : List LaneEvent) (c : IsRunAt lane rules line d state J K) where
  abbrev S : places.Setting
  S = setting_of lane rules

  abbrev stamp_drawn : Option Stamp
  stamp_drawn = drawn (line.operation).kind state.version J

  abbrev start : List LaneEvent
  start = begun_at line d state J

  left : Leaves line.number start c.run
  left = leaves_to lane rules line.number line.operation start c.run c.outcome c.runs

  module _ (legal : IsLegal S K) where
    closing : IsLegal S (Closed line.number c.outcome ∷ c.run)
    closing = subst (IsLegal S) c.closed legal

    beginning_legal : IsLegal S start
    beginning_legal = legal_begun S lane rules line d state J K c legal

    may_begin : MayBegin (history J) line.number d state.version (line.operation).id stamp_drawn
    may_begin = beginning_legal.1.permitted

    outcome_now : outcome_in line.number K ≡ Some c.outcome
    outcome_now =
        let may : MayClose S.acks (history c.run) line.number (is_acked c.outcome) = closing.1.permitted in
        ap (outcome_in line.number) c.closed
        ∙ outcome_own line.number c.outcome c.run (unended_none line.number c.run may.unclosed (left.refused_is line.number ∙ may_begin.unrefused))

    unrefused : IsNoRefusal c.outcome
    unrefused = let ended = closing.1.ended in no_refusal S c.run line.number ended.0 c.outcome ended.2

    abbrev beginning_now : Beginning
    beginning_now = record { distributor = d; version = state.version; id = (line.operation).id; stamp = stamp_drawn }

    begun_now : began line.number (history K) ≡ Some beginning_now
    begun_now = ap (λ L. began line.number (history L)) c.closed ∙ left.began_is line.number ∙ began_first line.number d state.version (line.operation).id stamp_drawn (history J) may_begin.fresh

    -- ---- its messages

    module _ (laws : Laws) (given : List Fate) (t : IsCarriedThen given K) where
      ran_carried : IsCarriedThen t.first c.run
      ran_carried = run_carried given lane rules line d state J K c t

      before_carried : IsCarriedThen ran_carried.first J
      before_carried = begun_carried t.first lane rules line d state J K c ran_carried

      none_before : (k : ℕ) → length before_carried.first < k → sent k (history J) ≡ None
      none_before k more = laws.unsent before_carried.first J before_carried.carried k (by_fate (fate_of k before_carried.first) refl)
        where
          by_fate : (o : Option Fate) → fate_of k before_carried.first ≡ o → fate_of k before_carried.first ≡ None
          by_fate None e = e
          by_fate (Some f) e = let n = (laws.numbers before_carried.first k).0 (ap is_some e) in absurd (omega (arith, n.1, more))

      module _ (none : LosesNone given J K) where
        answered : AreAnswered (length before_carried.first) ran_carried.first
        answered number more most =
            let low : 1 ≤ number = omega (arith, more) in
            let some = (laws.numbers ran_carried.first number).1 (low, most) in
            let m = some_of (sent number (history c.run)) (laws.was_sent ran_carried.first c.run ran_carried.carried number low most) in
            let same = fate_then number t.first c.run ran_carried some in
            ap is_returned (sym (fate_then number given K t (subst IsSome (sym same) some) ∙ same))
            ∙ (none number m.0 (ap (λ L. sent number (history L)) c.closed ∙ m.1) (none_before number more)).0

        -- no node stops or starts meanwhile
        ran_since : RunSince start c.run
        ran_since number m is was =
            let a = runs_add lane rules line.number line.operation start c.run c.outcome c.runs in
            let runs : stopped m.receiver (history c.run) ≡ false =
            ap (λ L. stopped m.receiver (history L)) (sym c.closed) ∙ (none number m (ap (λ L. sent number (history L)) c.closed ∙ is) was).1 in
            ap (λ L. receives number number L) a.are
            ∙ laws.running start a.events a.none_stops number m (ap (λ L. sent number (history L)) (sym a.are) ∙ is) was
            ∙ ap (λ L. not (stopped m.receiver (history L))) (sym a.are) ∙ ap not runs

        undisturbed : IsUndisturbed start c.run
        undisturbed = laws.since before_carried.first ran_carried.first start c.run (Other before_carried.first J _ tt before_carried.carried) ran_carried.carried answered ran_since

        module _ (newest : (w : ℕ) → published w (history J) ≡ true → w ≤ state.version) where
          ran : IsRun lane rules line.number line.operation start c.run → IsEnd lane rules line.number line.operation c.run c.outcome
              → IsUndisturbedLine lane rules line.number d state.version line.operation stamp_drawn J c.run c.outcome
          ran run end = record {
            legal = closing.0;
            newest = newest;
            run = run;
            undisturbed = undisturbed;
            end = end;
          }

          acked : EndsWell stamp_drawn (history c.run) line.number c.outcome → IsAcked K line.number c.outcome ⊎ (c.outcome ≡ NoMemory)
          acked (inl a) = inl (record { beginning = beginning_now; stamp = a.0; begun = begun_now; drawn = a.1; is = a.2 })
          acked (inr m) = inr m.0

          served_by : AreRules rules → RunsTo lane rules line.number line.operation start c.run c.outcome → IsServed K line
          served_by are (inl r) = record {
            outcome = c.outcome;
            closed = outcome_now;
            answered = lacks_nothing (history c.run) line.number c.outcome (laws.decided lane rules are line.number d state.version line.operation stamp_drawn J c.run c.outcome (ran r.0 r.1));
            acknowledged = λ plain. acked (laws.well lane rules are line.number d state.version line.operation stamp_drawn J c.run c.outcome plain (ran r.0 r.1));
          }
          served_by are (inr r) = record {
            outcome = c.outcome;
            closed = outcome_now;
            answered = subst LacksNothing (sym r.1) tt;
            acknowledged = λ plain. inr r.1;
          }

          served : AreRules rules → IsServed K line
          served are = served_by are c.runs

-- ---- one line that goes to the owner

-- it isn't refused, and is served where no message was lost
pub record RunsWell (given : List Fate) (line : FeedLine) (J K : List LaneEvent) : Type 0 where
  pub outcome : Outcome
  pub ended : outcome_in line.number K ≡ Some outcome
  pub unrefused : IsNoRefusal outcome
  pub served : LosesNone given J K → IsServed K line

module _ (laws : Laws) (lane : Low) (rules : Rules) (are : AreRules rules) (given : List Fate) (line : FeedLine) (J K : List LaneEvent) (legal : IsLegal (setting_of lane rules) K) (t : IsCarriedThen given K) where
  well_at : (d : ℕ) (state : ClusterState) (L : List LaneEvent) → IsRunAt lane rules line d state L K → ((w : ℕ) → published w (history L) ≡ true → w ≤ state.version) → (LosesNone given J K → LosesNone given L K)
      → RunsWell given line J K
  well_at d state L c newest loses = record {
    outcome = c.outcome;
    ended = outcome_now lane rules line d state L K c legal;
    unrefused = unrefused lane rules line d state L K c legal;
    served = λ none. served lane rules line d state L K c legal laws given t (loses none) newest are;
  }

  -- a message that was sent since the owner heard was sent since before
  since_heard : (d : ℕ) (s : ClusterState) → LosesNone given J K → LosesNone given (heard_next d (Some s) J) K
  since_heard d s none number m is was = none number m is (next_keeps (λ L. sent number (history L) ≡ None → sent number (history J) ≡ None) (λ e v L old h. old h) d s J (λ h. h) was)

  pub well_by : (via : Option ℕ) → IsCarriedOut lane rules line via J K → GoesToOwner lane via J → RunsWell given line J K
  well_by None c goes =
      let L = heard_next c.owner (Some c.state) J in
      let begun = legal_begun (setting_of lane rules) lane rules line c.owner c.state L K c.run legal in
      let last : last_state L ≡ Some c.state = next_keeps (λ M. last_state M ≡ Some c.state) (λ e v M is. is) c.owner c.state J c.newest in
      well_at c.owner c.state L c.run (newest_is (setting_of lane rules) L begun.0 c.state last).0 (since_heard c.owner c.state)
  well_by (Some d) c goes = by_end c.ends
    where
      newest_before : IsLegal (setting_of lane rules) J → IsNewest J goes.state
      newest_before before = newest_is (setting_of lane rules) J before goes.state goes.newest

      same : IsLegal (setting_of lane rules) J → c.state ≡ goes.state
      same before = held_newest J d c.state goes.state (newest_before before) goes.holds c.holds c.published

      by_end : (IsOwner lane c.state d × IsRunAt lane rules line d c.state J K) ⊎ IsRefused lane line d c.state J K → RunsWell given line J K
      by_end (inl r) =
          let before = (legal_begun (setting_of lane rules) lane rules line d c.state J K r.1 legal).0 in
          well_at d c.state J r.1 (λ w h. subst (λ (s : ClusterState). w ≤ s.version) (sym (same before)) ((newest_before before).0 w h)) (λ none. none)
      by_end (inr r) =
          let refused = subst (IsLegal (setting_of lane rules)) r.refused legal in
          absurd (r.not_owner (subst (λ (s : ClusterState). IsOwner lane s d) (sym (same refused.0)) goes.owns))
