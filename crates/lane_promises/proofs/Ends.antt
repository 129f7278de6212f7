-- The outcome of a line is that of its deed.
use Rattle.std.proofs.Common.{◌≡◌, ◌==◌, ◌⊎◌, ℕ, zero, suc, List, [], ◌∷◌, ◌++◌, Option, None, Some, inl, inr, refl, sym, ap, ◌∙◌, subst, slice_get}
use Rattle.std.proofs.lemmas.Bool.{eqb-true}
use Rattle.bucket_ids.specs.Buckets.{Low}
use Rattle.cluster_states.specs.declared.cluster_state.ClusterState.{ClusterState}
use Rattle.distributor_part.specs.declared.rules.Rules.{Rules}
use Rattle.ideal_nodes.specs.Placement.{IsOwner}
use Rattle.messages.specs.declared.outcome.Outcome.{Outcome}
use Rattle.messages.specs.declared.outcome.Outcome.TheVariants.{OwnedElsewhere}
use Rattle.lane_journals.specs.Readers.{or_else, only_if, held}
use Rattle.lane_journals.specs.Meanings.{history}
use Rattle.lane_journals.specs.Places.{state_in}
use Rattle.lane_journals.specs.declared.event.LaneEvent.{LaneEvent}
use Rattle.lane_journals.specs.declared.event.LaneEvent.TheVariants.{Closed}
use Rattle.lane_keeping.specs.Tidings.{heard_next, announced}
use Rattle.lane_journals.proofs.Basics.{or_else-cases, only_if-some}
use Rattle.lane_lives.specs.declared.setting.Setting.{Setting}
use Rattle.lane_calls.specs.Lines.{FeedLine, Lines, begun_at, IsRunAt, IsRefused, IsCarriedOut}
use Rattle.lane_lives.specs.Lives.{Deed, Announces, Stops, Starts, Runs, Feeds, Maintains, Does, IsLife, lines_of, AreAlone}
use Rattle.lane_calls.specs.Readings.{outcome_in}
use Rattle.lane_promises.proofs.Before.{Grown, grown_before, grown_deed}
use Rattle.proof_basics.proofs.Options.{none_some}
use Rattle.lane_calls.proofs.Quiet.{since_adds, by_carriage}
use Rattle.lane_lives.proofs.Living.{deed_own}
use Rattle.lane_calls.specs.Segments.{IsAmong}
use Rattle.lane_calls.specs.Courses.{HasEnded}
use Rattle.lane_calls.specs.Growth.{IsTurnedAway, IsStep, Hears, Begins, Refuses, Wants, CutsOff, Closes, Carries, Grows, Same, More}
use Rattle.lane_calls.proofs.Steps.{refused-is, ended-is}
use Rattle.lane_calls.proofs.Leaving.{leaves_event, leaves_to}
use Rattle.lane_calls.proofs.OneLine.{Passes, passes_itself, passes_announced, passes_next, passes_stop, passes_start, passes_upkeep}
use Rattle.lane_lives.proofs.Deeds.{pass_or_none}

-- the distributor at which a line that was carried out went, the state there, and the journal as it came to it
pub record Arrival (lane : Low) (rules : Rules) (line : FeedLine) (J K : List LaneEvent) : Type 0 where
  pub distributor : ℕ
  pub state : ClusterState
  pub heard : List LaneEvent
  pub passes : Passes J heard
  pub run : IsRunAt lane rules line distributor state heard K

-- the distributor that a line names, and the state that it held
pub record Refusal (lane : Low) (line : FeedLine) (J K : List LaneEvent) : Type 0 where
  pub via : ℕ
  pub via_is : line.via ≡ Some via
  pub state : ClusterState
  pub holds : held via (history J) ≡ Some state.version
  pub published : state_in state.version J ≡ Some state
  pub refused : IsRefused lane line via state J K

-- a line ran alone, or was refused, or went its course beside others, and this is its outcome
pub data Ending (lane : Low) (rules : Rules) (line : FeedLine) (J K : List LaneEvent) (x : Outcome) : Type 0 where
  Ran : (a : Arrival lane rules line J K) → (a.run).outcome ≡ x → Ending lane rules line J K x
  Was : (r : Refusal lane line J K) → OwnedElsewhere (r.refused).owner (r.state).version ≡ x → Ending lane rules line J K x
  Went : HasEnded lane rules line J x → K ≡ Closed line.number x ∷ J → Ending lane rules line J K x

-- no others were there
abbrev pub WasAlone : (lane : Low) (rules : Rules) (line : FeedLine) (J K : List LaneEvent) (x : Outcome) → Ending lane rules line J K x → Type 0
WasAlone lane rules line J K x (Ran a is) = Unit {0}
WasAlone lane rules line J K x (Was r is) = Unit {0}
WasAlone lane rules line J K x (Went ended is) = ⊥

abbrev EndedAlone : Low → Rules → FeedLine → List LaneEvent → List LaneEvent → Outcome → Type 0
EndedAlone lane rules line J K x = (ending : Ending lane rules line J K x) × WasAlone lane rules line J K x ending

pub record Ends (lane : Low) (rules : Rules) (line : FeedLine) (J K : List LaneEvent) : Type 0 where
  pub outcome : Outcome
  pub ending : Ending lane rules line J K outcome
  pub alone : WasAlone lane rules line J K outcome ending
  pub read : (j : ℕ) → outcome_in j K ≡ or_else (outcome_in j J) (only_if (line.number == j) outcome)

arrived : (lane : Low) (rules : Rules) (line : FeedLine) (J K : List LaneEvent) → Arrival lane rules line J K → Ends lane rules line J K
arrived lane rules line J K a =
    let c = a.run in
    record {
      outcome = c.outcome;
      ending = Ran a refl;
      alone = tt;
      read = λ j. ap (outcome_in j) c.closed
          ∙ ap (λ o. or_else o (only_if (line.number == j) c.outcome)) ((leaves_to lane rules line.number line.operation (begun_at line a.distributor a.state a.heard) c.run c.outcome c.runs).outcome_is j ∙ (a.passes).outcome_is j);
    }

pub ends : (lane : Low) (rules : Rules) (line : FeedLine) (via : Option ℕ) (J K : List LaneEvent) → line.via ≡ via → IsCarriedOut lane rules line via J K → Ends lane rules line J K
ends lane rules line None J K is c = arrived lane rules line J K (record { distributor = c.owner; state = c.state; heard = heard_next c.owner (Some c.state) J; passes = passes_next c.owner c.state J; run = c.run })
ends lane rules line (Some d) J K is c = by_end c.ends
  where
    by_end : (IsOwner lane c.state d × IsRunAt lane rules line d c.state J K) ⊎ IsRefused lane line d c.state J K → Ends lane rules line J K
    by_end (inl r) = arrived lane rules line J K (record { distributor = d; state = c.state; heard = J; passes = passes_itself J; run = r.1 })
    by_end (inr r) = record {
      outcome = OwnedElsewhere r.owner (c.state).version;
      ending = Was (record { via = d; via_is = is; state = c.state; holds = c.holds; published = c.published; refused = r }) refl;
      alone = tt;
      read = λ j. ap (outcome_in j) r.refused;
    }

-- ---- in a segment

-- a line is refused, or closed
pub data EndOf (lane : Low) (rules : Rules) (line : FeedLine) (J : List LaneEvent) (e : LaneEvent) (x : Outcome) : Type 0 where
  AsRefused : (r : IsTurnedAway lane line J e) → OwnedElsewhere (r.refused).owner (r.state).version ≡ x → EndOf lane rules line J e x
  AsClosed : HasEnded lane rules line J x → e ≡ Closed line.number x → EndOf lane rules line J e x

ending_of : (lane : Low) (rules : Rules) (line : FeedLine) (J : List LaneEvent) (e : LaneEvent) (x : Outcome) → EndOf lane rules line J e x → Ending lane rules line J (e ∷ J) x
ending_of lane rules line J e x (AsRefused r is) = Was (record { via = r.distributor; via_is = r.via_is; state = r.state; holds = r.holds; published = r.published; refused = r.refused }) is
ending_of lane rules line J e x (AsClosed ended is) = Went ended (ap (λ (y : LaneEvent). y ∷ J) is)

-- the outcomes are the same behind an event, or it ends a line
pub data StepEnds (lines : Lines) (lane : Low) (rules : Rules) (J : List LaneEvent) (e : LaneEvent) : Type 0 where
  NoEnd : ((j : ℕ) → outcome_in j (e ∷ J) ≡ outcome_in j J) → StepEnds lines lane rules J e
  AnEnd : (line : FeedLine) (outcome : Outcome) → IsAmong lines line → EndOf lane rules line J e outcome → ((j : ℕ) → outcome_in j (e ∷ J) ≡ or_else (outcome_in j J) (only_if (line.number == j) outcome)) → StepEnds lines lane rules J e

module _ (feeders : ℕ) (lines : Lines) (lane : Low) (rules : Rules) (J : List LaneEvent) (e : LaneEvent) where
  by_event : (x : LaneEvent) → e ≡ x → ((j : ℕ) → outcome_in j (x ∷ J) ≡ outcome_in j J) → StepEnds lines lane rules J e
  by_event x is same = NoEnd (λ j. ap (λ (y : LaneEvent). outcome_in j (y ∷ J)) is ∙ same j)

  pub step_ends : IsStep feeders lines lane rules J e → StepEnds lines lane rules J e
  step_ends (Hears h) = by_event _ h.event (λ j. refl)
  step_ends (Begins line next b) = by_event _ b.event (λ j. refl)
  step_ends (Refuses line next r) = AnEnd line (OwnedElsewhere (r.refused).owner (r.state).version) next.among (AsRefused r refl)
      (λ j. ap (λ (y : LaneEvent). outcome_in j (y ∷ J)) (refused-is lane line J e r))
  step_ends (Wants line among w) = NoEnd (leaves_event line.number J e (since_adds lane rules line.number line.operation _ e J w.wants)).outcome_is
  step_ends (CutsOff c) = by_event _ (ended-is lane J e c) (λ j. refl)
  step_ends (Closes line among c) = AnEnd line c.outcome among (AsClosed c.ended c.event) (λ j. ap (λ (y : LaneEvent). outcome_in j (y ∷ J)) c.event)
  step_ends (Carries c) = NoEnd (leaves_event 0 J e (by_carriage 0 e c)).outcome_is

-- ---- among all deeds

-- the outcome is that of a line among these deeds, in a journal that grew to the whole
pub record WasEnded (s : Setting) (lane : Low) (deeds : List Deed) (whole : List LaneEvent) (number : ℕ) (x : Outcome) : Type 0 where
  pub line : FeedLine
  pub place : ℕ
  pub among : slice_get (lines_of deeds) place ≡ Some line
  pub number_is : line.number ≡ number
  pub before : List LaneEvent
  pub after : List LaneEvent
  pub grown : Grown whole after
  pub ending : Ending lane s.rules line before after x
  pub alone : AreAlone deeds → WasAlone lane s.rules line before after x ending

-- a line of these, or of more
among_first : (lines more : Lines) (place : ℕ) (line : FeedLine) → slice_get lines place ≡ Some line → slice_get (lines ++ more) place ≡ Some line
among_first [] more place line h = absurd (none_some line h)
among_first (l ∷ lines) more zero line h = h
among_first (l ∷ lines) more (suc place) line h = among_first lines more place line h

among_then : (lines more : Lines) (place : ℕ) (line : FeedLine) → slice_get more place ≡ Some line → IsAmong (lines ++ more) line
among_then [] more place line h = (place, h)
among_then (l ∷ lines) more place line h = let rest = among_then lines more place line h in (suc rest.0, rest.1)

module _ (s : Setting) (lane : Low) (whole : List LaneEvent) (number : ℕ) (x : Outcome) where
  further : (line : FeedLine) (deeds : List Deed) → WasEnded s lane deeds whole number x → WasEnded s lane (Runs line ∷ deeds) whole number x
  further line deeds w = record { line = w.line; place = suc w.place; among = w.among; number_is = w.number_is; before = w.before; after = w.after; grown = w.grown; ending = w.ending; alone = w.alone }

  by_line : (line : FeedLine) (deeds : List Deed) (J K : List LaneEvent) → Ends lane s.rules line J K → Grown whole K → (outcome_in number J ≡ Some x → WasEnded s lane deeds whole number x) → outcome_in number K ≡ Some x
      → WasEnded s lane (Runs line ∷ deeds) whole number x
  by_line line deeds J K e grown before h = elim (or_else-cases (outcome_in number J) _ x (sym (e.read number) ∙ h)) [
    | inl old ↦ further line deeds (before old)
    | inr now ↦
        let own = only_if-some (line.number == number) e.outcome x now.1 in
        let ended = subst (EndedAlone lane s.rules line J K) own.1 (e.ending, e.alone) in
        record { line = line; place = 0; among = refl; number_is = eqb-true line.number number own.0; before = J; after = K; grown = grown; ending = ended.0; alone = λ alone. ended.1 }
  ]

  -- ---- in a segment

  module _ (feeders : ℕ) (lines left : Lines) (deeds : List Deed) where
    abbrev Here : Type 0
    Here = WasEnded s lane (Feeds feeders lines left ∷ deeds) whole number x

    before_fed : WasEnded s lane deeds whole number x → Here
    before_fed w =
        let at = among_then lines (lines_of deeds) w.place w.line w.among in
        record { line = w.line; place = at.0; among = at.1; number_is = w.number_is; before = w.before; after = w.after; grown = w.grown; ending = w.ending; alone = λ alone. absurd alone }

    by_end : (e : LaneEvent) (L : List LaneEvent) → Grown whole (e ∷ L) → StepEnds lines lane s.rules L e → (outcome_in number L ≡ Some x → Here) → outcome_in number (e ∷ L) ≡ Some x → Here
    by_end e L grown (NoEnd same) old h = old (sym (same number) ∙ h)
    by_end e L grown (AnEnd line outcome among ending read) old h = elim (or_else-cases (outcome_in number L) _ x (sym (read number) ∙ h)) [
      | inl was ↦ old was
      | inr now ↦
          let own = only_if-some (line.number == number) outcome x now.1 in
          record {
            line = line;
            place = among.0;
            among = among_first lines (lines_of deeds) among.0 line among.1;
            number_is = eqb-true line.number number own.0;
            before = L;
            after = e ∷ L;
            grown = grown;
            ending = subst (Ending lane s.rules line L (e ∷ L)) own.1 (ending_of lane s.rules line L e outcome ending);
            alone = λ alone. absurd alone;
          }
    ]

    by_fed : (J K : List LaneEvent) → Grows feeders lines lane s.rules J K → Grown whole K → (outcome_in number J ≡ Some x → WasEnded s lane deeds whole number x) → outcome_in number K ≡ Some x → Here
    by_fed J K Same grown before h = before_fed (before h)
    by_fed J K (More e L grew step) grown before h =
        by_end e L grown (step_ends feeders lines lane s.rules L e step) (λ old. by_fed J L grew (grown_before whole e L grown) before old) h

  -- ---- any deed

  passed : (deed : Deed) (deeds : List Deed) (J K : List LaneEvent) → Passes J K → lines_of (deed ∷ deeds) ≡ lines_of deeds → (outcome_in number J ≡ Some x → WasEnded s lane deeds whole number x) → outcome_in number K ≡ Some x
      → WasEnded s lane (deed ∷ deeds) whole number x
  passed deed deeds J K p same before h =
      let w = before (sym (p.outcome_is number) ∙ h) in
      record { line = w.line; place = w.place; among = ap (λ ls. slice_get ls w.place) same ∙ w.among; number_is = w.number_is; before = w.before; after = w.after; grown = w.grown; ending = w.ending; alone = λ alone. w.alone (deed_own deed deeds alone).1 }

  by_deed : (deed : Deed) (deeds : List Deed) (J K : List LaneEvent) → Grown whole K → Does s lane deed J K → (outcome_in number J ≡ Some x → WasEnded s lane deeds whole number x) → outcome_in number K ≡ Some x
      → WasEnded s lane (deed ∷ deeds) whole number x
  by_deed (Announces state deaf) deeds J K grown does before h = passed (Announces state deaf) deeds J _ (passes_announced deaf state J) refl before (ap (outcome_in number) (sym does) ∙ h)
  by_deed (Stops n) deeds J K grown does before h = passed (Stops n) deeds J _ (passes_stop n J) refl before (ap (outcome_in number) (sym does) ∙ h)
  by_deed (Starts n) deeds J K grown does before h = passed (Starts n) deeds J _ (passes_start n J) refl before (ap (outcome_in number) (sym does) ∙ h)
  by_deed (Maintains noted) deeds J K grown does before h = passed (Maintains noted) deeds J K (passes_upkeep lane J K (pass_or_none lane noted J K does)) refl before h
  by_deed (Feeds feeders lines left) deeds J K grown does before h = by_fed feeders lines left deeds J K does.grew grown before h
  by_deed (Runs line) deeds J K grown does before h = by_line line deeds J K (ends lane s.rules line line.via J K refl does) grown before h

  none_first : outcome_in number (announced 0 s.initial []) ≡ Some x → ⊥
  none_first h = cc (sym ((passes_announced 0 s.initial []).outcome_is number) ∙ h)

  was_ended : (deeds : List Deed) (K : List LaneEvent) → IsLife s lane deeds K → Grown whole K → outcome_in number K ≡ Some x → WasEnded s lane deeds whole number x
  was_ended [] K life grown h = absurd (none_first (ap (outcome_in number) (sym life) ∙ h))
  was_ended (deed ∷ deeds) K life grown h =
      by_deed deed deeds life.0 K grown life.1.1 (λ old. was_ended deeds life.0 life.1.0 (grown_deed whole s lane deed life.0 K life.1.1 grown) old) h

pub ended_by : (s : Setting) (lane : Low) (deeds : List Deed) (J : List LaneEvent) → IsLife s lane deeds J → (number : ℕ) (x : Outcome) → outcome_in number J ≡ Some x → WasEnded s lane deeds J number x
ended_by s lane deeds J life number x h = was_ended s lane J number x deeds J life ([], refl) h
