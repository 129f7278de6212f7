-- How a line ends: with its acknowledgement, by what was seen, or short. So an undisturbed operation is decided, and an
-- undisturbed write ends well, and too few answers have their cause.
use Rattle.std.proofs.Common.{◌≡◌, ℕ, List, [], ◌++◌, Option, Some, None, false, inl, inr, refl, sym, ap, ◌∙◌, subst}
use mathlib.Core.Bool.{true≢false}
use Rattle.bucket_ids.specs.Buckets.{Low}
use Rattle.stamps.specs.declared.stamp.Stamp.{Stamp}
use Rattle.cluster_states.specs.declared.cluster_state.ClusterState.{ClusterState}
use Rattle.messages.specs.declared.message.Message.{Message}
use Rattle.messages.specs.declared.operation.Operation.{Operation}
use Rattle.messages.specs.declared.outcome.Outcome.{Outcome}
use Rattle.messages.specs.declared.outcome.Outcome.TheVariants as outcome
use Rattle.op_machine.specs.Judging.{looks}
use Rattle.distributor_part.specs.declared.rules.Rules.{Rules}
use Rattle.merge_rounds.specs.Rounds.{RoundState}
use Rattle.lane_journals.specs.Buckets.{key_of}
use Rattle.lane_journals.specs.Readers.{Journal, Beginning, before_line, prepared}
use Rattle.lane_journals.specs.Meanings.{history}
use Rattle.lane_journals.specs.declared.event.LaneEvent.{LaneEvent}
use Rattle.lane_keeping.specs.LaneKeeping.{setting_of}
use Rattle.lane_keeping.specs.Acting.{IsActing}
use Rattle.operation_keeping.specs.OperationKeeping.{beginning_of}
use Rattle.operation_keeping.specs.Wants.{Adds, Ends, RoundGives, UnpreparedWants, IsRun, Same, More, IsEndSince}
use Rattle.operation_keeping.proofs.Since.{SameStart, wants-from}
use Rattle.operation_keeping.specs.RuleBounds.{AreRules}
use Rattle.lane_completeness.specs.Completeness.{HaveReturned, with_begun, IsUndisturbedLine, WantedMemory, IsDecided, EndsWell}
use Rattle.lane_completeness.specs.Causes.{IsMissing, ReturnInTurn, IsRunLine, IsRunLineSince, IsHeardLine}
use Rattle.lane_completeness.proofs.Turns.{undisturbed-turn}
use Rattle.lane_journals.specs.KeptJournals.{IsLegal}
use Rattle.lane_journals.proofs.Replies.{IsNewest}
use Rattle.lane_completeness.proofs.Additions.{added}
use Rattle.lane_completeness.proofs.Runs.{At, at, Run, Here, Then, searched, newest-on}
use Rattle.lane_completeness.proofs.Missing.{none-missing}
use Rattle.lane_completeness.proofs.Opening.{FallsShort, opening-ends}
use Rattle.lane_completeness.proofs.Since.{since}
use Rattle.lane_completeness.proofs.Short.{short-ends}
use Rattle.lane_completeness.proofs.Operations.{IsJudged, PreparedEnd, EndsAcked, EndsJudged, EndsShort, operation-ends}

no-event : (x : Outcome) (e : LaneEvent) → Ends x ≡ Adds e → ⊥
no-event x e h = cc

no-round : (d : ℕ) (s : ClusterState) (r : RoundState) (m : Option Message) (x : Outcome) → RoundGives d s r m (Ends x) → ⊥
no-round d s r (Some m) x g = g
no-round d s r None x g = g

-- ---- a line that ran until it is over

-- since the journal F
record IsOver (lane : Low) (rules : Rules) (line d v : ℕ) (o : Operation) (stamp : Option Stamp) (J F K : List LaneEvent) (x : Outcome) : Type 0 where
  legal : IsLegal (setting_of lane rules) K
  early : List LaneEvent
  begun : F ≡ early ++ with_begun line d v o stamp J
  run : Run lane rules line d v o stamp J F K
  in_turn : ReturnInTurn F K
  end : IsEndSince lane rules line o (history F) K x

module _ (lane : Low) (rules : Rules) (are : AreRules rules) (line d : ℕ) (o : Operation) (stamp : Option Stamp) (J F K : List LaneEvent) (x : Outcome) (s : ClusterState) (u : IsOver lane rules line d s.version o stamp J F K x) where
  known : At lane rules line d s.version o stamp J F K
  known = at lane rules line d s.version o stamp J F u.early u.begun K u.run u.legal

  unprepared-ends : prepared line (history K) ≡ None → (e : ℕ) → IsActing lane K e s → UnpreparedWants lane rules K line (history F) (key_of o.id) e s (Ends x) → FallsShort K line x
  unprepared-ends none e acting (inl w) = opening-ends lane rules line d o stamp J F K s known (key_of o.id) e acting.owner x w
  unprepared-ends none e acting (inr (inl w)) = absurd (no-event x _ w.is)
  unprepared-ends none e acting (inr (inr (inl w))) = absurd (no-round e s w.round w.next x w.gives)
  unprepared-ends none e acting (inr (inr (inr (inl w)))) = absurd (no-event x _ w.is)
  unprepared-ends none e acting (inr (inr (inr (inr w)))) =
      short-ends lane rules line d o stamp J F K s known u.legal none x w are acting.published
      (since lane rules line d s.version o stamp J F (w.row).bucket u.early u.begun K u.run u.legal u.in_turn)

-- the line as it was begun, under the state that its owner acts under
module _ (lane : Low) (rules : Rules) (are : AreRules rules) (line d v : ℕ) (o : Operation) (stamp : Option Stamp) (J F K : List LaneEvent) (x : Outcome) (u : IsOver lane rules line d v o stamp J F K x) where
  under-state : IsOver lane rules line d (u.end).state.version o stamp J F K x
  under-state =
      let begun = (at lane rules line d v o stamp J F u.early u.begun K u.run u.legal).begun in
      let now = ((u.end).under_way).begun_as in
      let same : record { distributor = d; version = v; id = o.id; stamp = stamp } ≡ beginning_of (u.end).distributor (u.end).state o (u.end).stamp = cc in
      subst (λ (i : ℕ). IsOver lane rules line d i o stamp J F K x) (ap (λ (b : Beginning). b.version) same) u

  line-ends : PreparedEnd stamp o K line x
  line-ends = elim (u.end).wants [
    | inl w ↦ EndsShort (unprepared-ends lane rules are line d o stamp J F K x (u.end).state under-state w.0 (u.end).distributor (u.end).acting w.1)
    | inr w ↦ operation-ends lane rules line d o stamp J F K (u.end).state (known lane rules are line d o stamp J F K x (u.end).state under-state) u.legal are.some (u.end).distributor x w
  ]

-- a search, or what came since it was prepared
over-since : (lane : Low) (rules : Rules) (line d v : ℕ) (o : Operation) (stamp : Option Stamp) (J F K : List LaneEvent) (x : Outcome) → IsRunLineSince lane rules line d v o stamp J F K x → IsOver lane rules line d v o stamp J F K x
over-since lane rules line d v o stamp J F K x u = record { legal = u.legal; early = u.early; begun = u.begun; run = searched lane rules line d v o stamp J F K u.run; in_turn = u.in_turn; end = u.end }

-- a line that ran alone, since it was begun
module _ (lane : Low) (rules : Rules) (line d v : ℕ) (o : Operation) (stamp : Option Stamp) (J : List LaneEvent) where
  abbrev start : List LaneEvent
  start = with_begun line d v o stamp J

  ran-on : (K : List LaneEvent) → IsRun lane rules line o start K → Run lane rules line d v o stamp J start K
  ran-on K Same = Here
  ran-on K (More e L run w) = Then e L (ran-on L run) (elim w [ inl c ↦ inl c | inr a ↦ inr (added lane rules (before_line line (history L)) L line o e a) ])

  -- nothing looks different from where it began
  same-start : (K : List LaneEvent) → At lane rules line d v o stamp J start K → SameStart (before_line line (history K)) (history start)
  same-start K a = subst (λ (B : Journal). SameStart B (history start)) (sym a.before) (record { sents = λ k. refl; rounds = λ w b. refl })

  over-alone : (K : List LaneEvent) (x : Outcome) → IsRunLine lane rules line d v o stamp J K x → IsOver lane rules line d v o stamp J start K x
  over-alone K x u =
      let run = ran-on K u.run in
      let a = at lane rules line d v o stamp J start [] refl K run u.legal in
      record {
        legal = u.legal;
        early = [];
        begun = refl;
        run = run;
        in_turn = u.in_turn;
        end = wants-from lane rules line o (before_line line (history K)) (history start) (same-start K a) K (Ends x) u.end;
      }

-- ---- too few answers

over-cause : (lane : Low) (rules : Rules) → AreRules rules → (line d v : ℕ) (o : Operation) (stamp : Option Stamp) (J F K : List LaneEvent) (answered needed absent : ℕ)
    → IsOver lane rules line d v o stamp J F K (outcome.TooFew answered needed absent) → IsMissing (history K) line absent
over-cause lane rules are line d v o stamp J F K answered needed absent u = by_end (line-ends lane rules are line d v o stamp J F K (outcome.TooFew answered needed absent) u)
  where
    not-acked : (t : Stamp) → outcome.TooFew answered needed absent ≡ outcome.Acked t → ⊥
    not-acked t h = cc

    not-short : outcome.TooFew answered needed absent ≡ outcome.NoMemory → ⊥
    not-short h = cc

    same-node : (k n m : ℕ) → outcome.TooFew answered needed absent ≡ outcome.TooFew k n m → m ≡ absent
    same-node k n m h = cc

    by_end : PreparedEnd stamp o K line (outcome.TooFew answered needed absent) → IsMissing (history K) line absent
    by_end (EndsAcked t stamped is) = absurd (not-acked t is)
    by_end (EndsJudged looking judged) = absurd judged
    by_end (EndsShort (inl short)) = absurd (not-short short.0)
    by_end (EndsShort (inr w)) = subst (λ (n : ℕ). IsMissing (history K) line n) (same-node w.answered w.needed w.absent w.is) w.missing

pub has-cause : (lane : Low) (rules : Rules) → AreRules rules → (line d v : ℕ) (o : Operation) (stamp : Option Stamp) (J K : List LaneEvent) (answered needed absent : ℕ)
    → IsRunLine lane rules line d v o stamp J K (outcome.TooFew answered needed absent) → IsMissing (history K) line absent
has-cause lane rules are line d v o stamp J K answered needed absent u =
    over-cause lane rules are line d v o stamp J (with_begun line d v o stamp J) K answered needed absent (over-alone lane rules line d v o stamp J K (outcome.TooFew answered needed absent) u)

pub has-cause-since : (lane : Low) (rules : Rules) → AreRules rules → (line d v : ℕ) (o : Operation) (stamp : Option Stamp) (J F K : List LaneEvent) (answered needed absent : ℕ)
    → IsRunLineSince lane rules line d v o stamp J F K (outcome.TooFew answered needed absent) → IsMissing (history K) line absent
has-cause-since lane rules are line d v o stamp J F K answered needed absent u =
    over-cause lane rules are line d v o stamp J F K answered needed absent (over-since lane rules line d v o stamp J F K (outcome.TooFew answered needed absent) u)

-- ---- undisturbed lines

judged-decided : (H : Journal) (line : ℕ) (x : Outcome) → IsJudged x → IsDecided H line x
judged-decided H line (outcome.TooFew answered needed absent) j = j
judged-decided H line (outcome.OwnedElsewhere owner version) j = j
judged-decided H line outcome.NoMemory j = absurd j
judged-decided H line _ j = tt

module _ (lane : Low) (rules : Rules) (are : AreRules rules) (line d v : ℕ) (o : Operation) (stamp : Option Stamp) (J F K : List LaneEvent) (x : Outcome) (u : IsOver lane rules line d v o stamp J F K x)
    (low : IsNewest v (history K)) (all : HaveReturned (with_begun line d v o stamp J) K) where
  -- nobody is missing, so only memory can be
  short-of-memory : FallsShort K line x → (x ≡ outcome.NoMemory) × WantedMemory (history K) line
  short-of-memory (inl short) = short
  short-of-memory (inr w) = absurd (none-missing lane rules line d v o stamp J F K (at lane rules line d v o stamp J F u.early u.begun K u.run u.legal) low all w.absent w.missing)

  over-decided : IsDecided (history K) line x
  over-decided = by_end (line-ends lane rules are line d v o stamp J F K x u)
    where
      by_end : PreparedEnd stamp o K line x → IsDecided (history K) line x
      by_end (EndsAcked t stamped is) = subst (λ (y : Outcome). IsDecided (history K) line y) (sym is) tt
      by_end (EndsJudged looking judged) = judged-decided (history K) line x judged
      by_end (EndsShort short) = let z = short-of-memory short in subst (λ (y : Outcome). IsDecided (history K) line y) (sym z.0) z.1

  over-well : looks o ≡ false → EndsWell stamp (history K) line x
  over-well plain = by_end (line-ends lane rules are line d v o stamp J F K x u)
    where
      by_end : PreparedEnd stamp o K line x → EndsWell stamp (history K) line x
      by_end (EndsAcked t stamped is) = inl (t, stamped, is)
      by_end (EndsJudged looking judged) = absurd (true≢false (sym looking ∙ plain))
      by_end (EndsShort short) = inr (short-of-memory short)

-- alone
module _ (lane : Low) (rules : Rules) (are : AreRules rules) (line d v : ℕ) (o : Operation) (stamp : Option Stamp) (J K : List LaneEvent) (x : Outcome) (u : IsUndisturbedLine lane rules line d v o stamp J K x) where
  abbrev begun : List LaneEvent
  begun = with_begun line d v o stamp J

  ran : IsOver lane rules line d v o stamp J begun K x
  ran = over-alone lane rules line d v o stamp J K x (record { legal = u.legal; run = u.run; in_turn = undisturbed-turn begun (setting_of lane rules) K u.legal (u.undisturbed).in_turn; end = u.end })

  low : IsNewest v (history K)
  low = newest-on lane rules line d v o stamp J begun K ran.run u.newest

  pub is-decided : IsDecided (history K) line x
  is-decided = over-decided lane rules are line d v o stamp J begun K x ran low (u.undisturbed).all

  pub ends-well : looks o ≡ false → EndsWell stamp (history K) line x
  ends-well plain = over-well lane rules are line d v o stamp J begun K x ran low (u.undisturbed).all plain

-- beside others
module _ (lane : Low) (rules : Rules) (are : AreRules rules) (line d v : ℕ) (o : Operation) (stamp : Option Stamp) (J K : List LaneEvent) (x : Outcome) (u : IsHeardLine lane rules line d v o stamp J K x) where
  heard : (F : List LaneEvent) × IsOver lane rules line d v o stamp J F K x
  heard = elim u.ran [
    | inl alone ↦ (with_begun line d v o stamp J, over-alone lane rules line d v o stamp J K x alone)
    | inr since ↦ (since.0, over-since lane rules line d v o stamp J since.0 K x since.1)
  ]

  pub is-decided-beside : IsDecided (history K) line x
  is-decided-beside = over-decided lane rules are line d v o stamp J heard.0 K x heard.1 u.newest u.all

  pub ends-well-beside : looks o ≡ false → EndsWell stamp (history K) line x
  ends-well-beside plain = over-well lane rules are line d v o stamp J heard.0 K x heard.1 u.newest u.all plain
