-- An operation that goes on adds no event of another line.
use Rattle.std.proofs.Common.{◌≡◌, ℕ, List, ◌∷◌, Option, None, Some, inl, inr, refl, sym, subst}
use Rattle.bucket_ids.specs.Buckets.{Low}
use Rattle.cluster_states.specs.declared.cluster_state.ClusterState.{ClusterState}
use Rattle.distributor_part.specs.declared.rules.Rules.{Rules}
use Rattle.distributor_part.specs.Parts.{Part}
use Rattle.documents.specs.declared.entry.Entry.{Entry}
use Rattle.merge_rounds.specs.Rounds.{RoundState}
use Rattle.messages.specs.declared.body.Body.{Body}
use Rattle.messages.specs.declared.body.Body.TheVariants as body
use Rattle.messages.specs.declared.message.Message.{Message}
use Rattle.messages.specs.declared.operation.Operation.{Operation}
use Rattle.messages.specs.declared.step.Step.{Step}
use Rattle.messages.specs.declared.step.Step.TheVariants as step
use Rattle.op_machine.specs.Outcomes.{Next, Asks, Finishes}
use Rattle.lane_journals.specs.Readers.{Journal}
use Rattle.lane_journals.specs.declared.event.LaneEvent.{LaneEvent}
use Rattle.lane_journals.specs.declared.event.LaneEvent.TheVariants as event
use Rattle.operation_keeping.specs.Wants.{Adds, OpeningGives, RoundGives, AfterRound, BodyGives, NextGives, UnpreparedWants, WantsSince, IsCarriage, IsWanted, IsWantedSince, IsCutRound}

-- the event is none that begins or ends something, and if it is of a line, of this one
abbrev pub AddsFor : ℕ → LaneEvent → Type 0
AddsFor line (event.Published s) = ⊥
AddsFor line (event.Heard d v) = ⊥
AddsFor line (event.Begun l d v id s) = ⊥
AddsFor line (event.Refused l d x) = ⊥
AddsFor line (event.Closed l x) = ⊥
AddsFor line (event.Stopped n) = ⊥
AddsFor line (event.Started n) = ⊥
AddsFor line (event.Prepared l b set) = l ≡ line
AddsFor line (event.Wrote l entry) = l ≡ line
AddsFor line (event.Opened d v rows) = Unit {0}
AddsFor line (event.Sent k v d n b) = Unit {0}
AddsFor line (event.Delivered k r) = Unit {0}
AddsFor line (event.Returned k) = Unit {0}
AddsFor line (event.Decided d v x) = Unit {0}

-- and it is nothing that carriers do
abbrev pub IsAdded : ℕ → LaneEvent → Type 0
IsAdded line (event.Delivered k r) = ⊥
IsAdded line (event.Returned k) = ⊥
IsAdded line e = AddsFor line e

added_adds : (line : ℕ) (e : LaneEvent) → IsAdded line e → AddsFor line e
added_adds line (event.Delivered k r) h = absurd h
added_adds line (event.Returned k) h = absurd h
added_adds line _ h = h

adds_is : (line : ℕ) (e f : LaneEvent) → e ≡ f → IsAdded line f → IsAdded line e
adds_is line e f is h = subst (IsAdded line) (sym is) h

added : (e f : LaneEvent) → Adds e ≡ Adds f → e ≡ f
added e f is = cc

-- ---- by what is wanted

by_opening : (J : List LaneEvent) (from : Journal) (line d : ℕ) (s : ClusterState) (p : Part) (t : Step) (e : LaneEvent) → OpeningGives J from d s p t (Adds e) → IsAdded line e
by_opening J from line d s p (step.Send m) e h = adds_is line e _ h.1 tt
by_opening J from line d s p (step.Open buckets) e h = adds_is line e _ h tt
by_opening J from line d s p (step.Decide x) e h = absurd h
by_opening J from line d s p (step.Finished missing) e h = absurd h

by_round : (line d : ℕ) (s : ClusterState) (r : RoundState) (next : Option Message) (e : LaneEvent) → RoundGives d s r next (Adds e) → IsAdded line e
by_round line d s r None e h = adds_is line e _ h tt
by_round line d s r (Some m) e h = adds_is line e _ h.1 tt

by_short : (rules : Rules) (J : List LaneEvent) (from : Journal) (s : ClusterState) (row : _) (r : RoundState) (e : LaneEvent) → AfterRound rules J from s row r (Adds e) → ⊥
by_short rules J from s row r e (inl h) = absurd h.1
by_short rules J from s row r e (inr h) = absurd h.1

by_body : (line : ℕ) (written : Option Entry) (m : Message) (b : Body) (e : LaneEvent) → BodyGives line written m b e → IsAdded line e
by_body line None m (body.Store entry) e h = adds_is line e _ h refl
by_body line None m body.Ask e h = adds_is line e _ h.1 tt
by_body line None m (body.Read b id) e h = adds_is line e _ h.1 tt
by_body line None m (body.Apply b u) e h = adds_is line e _ h.1 tt
by_body line None m (body.Delete b n) e h = adds_is line e _ h.1 tt
by_body line None m (body.Split b) e h = adds_is line e _ h.1 tt
by_body line None m (body.Join b) e h = adds_is line e _ h.1 tt
by_body line None m (body.Ready b) e h = adds_is line e _ h.1 tt
by_body line None m (body.Activate b) e h = adds_is line e _ h.1 tt
by_body line (Some w) m b e h = adds_is line e _ h.1 tt

by_next : (line : ℕ) (written : Option Entry) (next : Next) (e : LaneEvent) → NextGives line written next (Adds e) → IsAdded line e
by_next line written (Asks m) e h = by_body line written m m.body e h
by_next line written (Finishes x) e h = absurd h

by_unprepared : (lane : Low) (rules : Rules) (J : List LaneEvent) (line : ℕ) (from : Journal) (key d : ℕ) (s : ClusterState) (e : LaneEvent) → UnpreparedWants lane rules J line from key d s (Adds e) → IsAdded line e
by_unprepared lane rules J line from key d s e (inl h) = by_opening J from line d s h.part h.step e h.gives
by_unprepared lane rules J line from key d s e (inr (inl h)) = adds_is line e _ (added e _ h.is) tt
by_unprepared lane rules J line from key d s e (inr (inr (inl h))) = by_round line d s h.round h.next e h.gives
by_unprepared lane rules J line from key d s e (inr (inr (inr (inl h)))) = adds_is line e _ (added e _ h.is) refl
by_unprepared lane rules J line from key d s e (inr (inr (inr (inr h)))) = absurd (by_short rules J from s h.row h.round e h.gives)

pub by_carriage : (line : ℕ) (e : LaneEvent) → IsCarriage e → AddsFor line e
by_carriage line (event.Published s) h = absurd h
by_carriage line (event.Heard d v) h = absurd h
by_carriage line (event.Begun l d v id s) h = absurd h
by_carriage line (event.Refused l d x) h = absurd h
by_carriage line (event.Closed l x) h = absurd h
by_carriage line (event.Stopped n) h = absurd h
by_carriage line (event.Started n) h = absurd h
by_carriage line (event.Prepared l b set) h = absurd h
by_carriage line (event.Wrote l entry) h = absurd h
by_carriage line (event.Opened d v rows) h = tt
by_carriage line (event.Sent k v d n b) h = tt
by_carriage line (event.Delivered k r) h = tt
by_carriage line (event.Returned k) h = tt
by_carriage line (event.Decided d v x) h = tt

-- what an operation wants next it adds for its line
pub since_added : (lane : Low) (rules : Rules) (line : ℕ) (o : Operation) (from : Journal) (e : LaneEvent) (J : List LaneEvent) → WantsSince lane rules line o from J (Adds e) → IsAdded line e
since_added lane rules line o from e J h = elim h.wants [
  | inl early ↦ by_unprepared lane rules J line from _ h.distributor h.state e early.1
  | inr late ↦ by_next line late.written _ e late.gives
]

pub since_adds : (lane : Low) (rules : Rules) (line : ℕ) (o : Operation) (from : Journal) (e : LaneEvent) (J : List LaneEvent) → WantsSince lane rules line o from J (Adds e) → AddsFor line e
since_adds lane rules line o from e J h = added_adds line e (since_added lane rules line o from e J h)

pub wanted_adds : (lane : Low) (rules : Rules) (line : ℕ) (o : Operation) (e : LaneEvent) (J : List LaneEvent) → IsWanted lane rules line o e J → AddsFor line e
wanted_adds lane rules line o e J (inl h) = by_carriage line e h
wanted_adds lane rules line o e J (inr h) = since_adds lane rules line o _ e J h

-- and so in a search, or by the messages of an operation
pub search_adds : (lane : Low) (rules : Rules) (line : ℕ) (o : Operation) (from : Journal) (e : LaneEvent) (J : List LaneEvent) → IsWantedSince lane rules line o from e J → AddsFor line e
search_adds lane rules line o from (event.Delivered k r) J (inl h) = tt
search_adds lane rules line o from (event.Returned k) J (inl h) = tt
search_adds lane rules line o from _ J (inl h) = absurd h
search_adds lane rules line o from e J (inr h) = since_adds lane rules line o from e J h

-- what is cut off ends a round
pub cut_adds : (lane : Low) (line : ℕ) (L K : List LaneEvent) → IsCutRound lane L K → (e : LaneEvent) × ((K ≡ e ∷ L) × AddsFor line e)
cut_adds lane line L K h = (_, (h.ended, tt))
