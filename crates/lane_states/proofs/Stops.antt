-- Which nodes are stopped, after one more event.
use Rattle.std.proofs.Common.{◌≡◌, ◌&&◌, ◌||◌, not, ℕ, Bool, true, false, cond, eqb, List, ◌∷◌, refl, arith}
use Rattle.std.proofs.lemmas.Bool.Decides.{nat_tests}
use Rattle.node_sets.specs.Members.{has_node}
use Rattle.carriers.specs.declared.fate.Fate.{Fate}
use Rattle.carriers.specs.declared.fate.Fate.TheVariants.{Deliver, LoseRequest, LoseReply, Twice, Late as LateBy}
use Rattle.messages.specs.declared.message.Message.{Message}
use Rattle.messages.specs.declared.late.Late.{Late}
use Rattle.lane_journals.specs.Readers.{stopped}
use Rattle.lane_journals.specs.Meanings.{history}
use Rattle.lane_journals.specs.Places.{Setting}
use Rattle.lane_journals.specs.KeptJournals.{IsLegalStep}
use Rattle.lane_journals.specs.declared.event.LaneEvent.{LaneEvent}
use Rattle.lane_journals.specs.declared.event.LaneEvent.TheVariants as event
use Rattle.lane_carriage.specs.Carriage.{met}
use Rattle.lane_carriage.specs.Waits.{kept_by}
use Rattle.lane_keeping.specs.Tidings.{IsNoStop}
use Rattle.lane_states.specs.LaneStates.{AreStopped}

-- over an event by which no node stops or starts
pub stops-on : (J : List LaneEvent) (e : LaneEvent) (stops : ℕ) → IsNoStop e → AreStopped (λ n. stopped n (history J)) stops → AreStopped (λ n. stopped n (history (e ∷ J))) stops
stops-on J (event.Published s) stops i h = h
stops-on J (event.Heard d v) stops i h = h
stops-on J (event.Begun line d v id stamp) stops i h = h
stops-on J (event.Refused line d outcome) stops i h = h
stops-on J (event.Opened d v rows) stops i h = h
stops-on J (event.Prepared line row recipients) stops i h = h
stops-on J (event.Wrote line entry) stops i h = h
stops-on J (event.Sent k v d n body) stops i h = h
stops-on J (event.Delivered k r) stops i h = h
stops-on J (event.Returned k) stops i h = h
stops-on J (event.Closed line outcome) stops i h = h
stops-on J (event.Decided d v x) stops i h = h
stops-on J (event.Stopped n) stops i h = absurd i
stops-on J (event.Started n) stops i h = absurd i

-- ---- a node stops, and starts

pub stop-step : (S : Setting) (J : List LaneEvent) (n : ℕ) → stopped n (history J) ≡ false → IsLegalStep S J (event.Stopped n)
stop-step S J n e = record { noted = tt; permitted = e; placed = tt; ended = tt }

pub start-step : (S : Setting) (J : List LaneEvent) (n : ℕ) → stopped n (history J) ≡ true → IsLegalStep S J (event.Started n)
start-step S J n e = record { noted = tt; permitted = e; placed = tt; ended = tt }

-- the test of a number, whichever way round
same-test : (m n : ℕ) → eqb m n ≡ eqb n m
same-test m n = grind (arith, nat_tests)

with-one : (t a b : Bool) → a ≡ b → cond t true a ≡ (b || t)
with-one true true b e = cc
with-one true false b e = cc
with-one false true b e = cc
with-one false false b e = cc

without-one : (t a b : Bool) → a ≡ b → cond t false a ≡ (b && not t)
without-one true true b e = cc
without-one true false b e = cc
without-one false true b e = cc
without-one false false b e = cc

pub stops-with : (J : List LaneEvent) (stops now node : ℕ) → ((n : ℕ) → has_node now n ≡ (has_node stops n || eqb n node)) → AreStopped (λ n. stopped n (history J)) stops → AreStopped (λ n. stopped n (history (event.Stopped node ∷ J))) now
stops-with J stops now node is h n = rw (is n, same-test n node) (with-one (eqb node n) (stopped n (history J)) (has_node stops n) (h n))

pub stops-without : (J : List LaneEvent) (stops now node : ℕ) → ((n : ℕ) → has_node now n ≡ (has_node stops n && not (eqb n node))) → AreStopped (λ n. stopped n (history J)) stops → AreStopped (λ n. stopped n (history (event.Started node ∷ J))) now
stops-without J stops now node is h n = rw (is n, same-test n node) (without-one (eqb node n) (stopped n (history J)) (has_node stops n) (h n))

-- ---- a fate

-- a late message waits all the same
pub kept-met : (stopped : Bool) (f : Fate) (n : ℕ) (m : Message) (late : List Late) → kept_by (met stopped f) n m late ≡ kept_by f n m late
kept-met false f n m late = refl
kept-met true Deliver n m late = refl
kept-met true LoseRequest n m late = refl
kept-met true LoseReply n m late = refl
kept-met true Twice n m late = refl
kept-met true (LateBy k) n m late = refl
