-- A line that was carried out.
use Rattle.std.proofs.Common.{◌≡◌, ℕ, List, [], ◌∷◌, ◌++◌, Option, None, Some, inl, inr, sym, ap, ◌∙◌}
use Rattle.messages.specs.declared.operation.Operation.{Operation}
use Rattle.messages.specs.declared.outcome.Outcome.{Outcome}
use Rattle.lane_journals.specs.Meanings.{history}
use Rattle.lane_journals.specs.declared.event.LaneEvent.{LaneEvent}
use Rattle.lane_journals.specs.declared.event.LaneEvent.TheVariants.{Refused}
use Rattle.lane_keeping.specs.Lines.{IsFresh}
use Rattle.lane_keeping.specs.Tidings.{heard_next}
use Rattle.lane_states.proofs.Giving.{gives_same}
use Rattle.lane_calls.specs.LaneValues.{LaneValue, IsLaneValue, Begins, BeginsAtOwner, Refuses, IsDocumentHeld, IsOwnerHeld, under_way_of}
use Rattle.lane_calls.specs.declared.progress.Progress.TheVariants as progress
use Rattle.lane_calls.specs.declared.progress.UnderWay.{UnderWay}
use Rattle.lane_calls.specs.Lines.{FeedLine}
use Rattle.lane_calls.specs.Readings.{outcome_in}
use Rattle.lane_core.specs.Runs.{HasAlone, IsFinish, begun_with, IsLineRun}
use Rattle.lane_calls.proofs.OneLine.{fresh_none, outcome_refused, run_outcome, passes_next}
use Rattle.lane_core.proofs.Running.{none-first, begun_alone, HasRun, has_run}

abbrev pub feed_line : ℕ → Operation → Option ℕ → FeedLine
feed_line n o via = record { number = n; operation = o; via = via }

-- where no operation was under way nothing else changed
only_ran : (old new : LaneValue) → old.under_way ≡ [] → new ≡ record old { journal = new.journal; given = new.given; under_way = [] } → new ≡ record old { journal = new.journal; given = new.given }
only_ran old new idle after = after ∙ (λ i. record old { journal = new.journal; given = new.given; under_way = sym idle i })

ran_outcome : (line : FeedLine) (d : ℕ) (state : _) (J : List LaneEvent) (old new : LaneValue) (x : Outcome) → outcome_in line.number J ≡ None → HasRun line d state J old new x → outcome_in line.number new.journal ≡ Some x
ran_outcome line d state J old new x none r = run_outcome old.lane old.rules line d state J new.journal none r.ran ∙ ap Some r.outcome_is

-- ---- at the owner

owner_begun : (n : ℕ) (o : Operation) (old begun : LaneValue) → old.under_way ≡ [] → (b : BeginsAtOwner n o old begun) → begun ≡ begun_with old (feed_line n o None) b.owner b.state (heard_next b.owner (Some b.state) old.journal)
owner_begun n o old begun idle b = b.after
    ∙ ap (λ (us : List UnderWay). record (begun_with old (feed_line n o None) b.owner b.state b.heard) { under_way = us ++ under_way_of n o b.owner progress.Begun 65 ∷ [] }) idle
    ∙ ap (begun_with old (feed_line n o None) b.owner b.state) b.heard_is

pub owner_alone : (n : ℕ) (o : Operation) (old begun : LaneValue) → old.under_way ≡ [] → BeginsAtOwner n o old begun → HasAlone n begun
owner_alone n o old begun idle b =
    (under_way_of n o b.owner progress.Begun 65, begun_alone (feed_line n o None) b.owner b.state (heard_next b.owner (Some b.state) old.journal) old begun (owner_begun n o old begun idle b))

pub never_held_at_owner : (o : Operation) (by : ℕ) (old new : LaneValue) → old.under_way ≡ [] → IsOwnerHeld o by old new → ⊥
never_held_at_owner o by old new idle h = elim h.cause [ inl x ↦ none-first _ old.under_way by idle x.1 | inr x ↦ none-first _ old.under_way by idle x.1 ]

pub at_owner : (n : ℕ) (o : Operation) (old begun new : LaneValue) (x : Outcome) → old.under_way ≡ [] → IsFresh (history old.journal) n → BeginsAtOwner n o old begun → IsFinish n begun new x → IsLaneValue new
    → IsLineRun (feed_line n o None) old new x
at_owner n o old begun new x idle fresh b f holds =
    let J = heard_next b.owner (Some b.state) old.journal in
    let r = has_run (feed_line n o None) b.owner b.state J old begun new x (owner_begun n o old begun idle b) f in
    record {
      done = record { state = b.state; newest = b.newest; owner = b.owner; owns = (b.acting).owner; run = r.ran };
      outcome_is = ran_outcome (feed_line n o None) b.owner b.state J old new x ((passes_next b.owner b.state old.journal).outcome_is n ∙ fresh_none n old.journal fresh) r;
      after = only_ran old new idle r.after;
      gives = r.gives;
      holds = holds;
    }

-- ---- at a distributor

via_begun : (n d : ℕ) (o : Operation) (old begun : LaneValue) → old.under_way ≡ [] → (b : Begins n o d old begun) → begun ≡ begun_with old (feed_line n o (Some d)) d b.state old.journal
via_begun n d o old begun idle b = b.after
    ∙ ap (λ (us : List UnderWay). record (begun_with old (feed_line n o (Some d)) d b.state old.journal) { under_way = us ++ under_way_of n o d progress.Begun 65 ∷ [] }) idle

pub via_alone : (n d : ℕ) (o : Operation) (old begun : LaneValue) → old.under_way ≡ [] → Begins n o d old begun → HasAlone n begun
via_alone n d o old begun idle b = (under_way_of n o d progress.Begun 65, begun_alone (feed_line n o (Some d)) d b.state old.journal old begun (via_begun n d o old begun idle b))

pub never_held_via : (d : ℕ) (o : Operation) (by : ℕ) (old new : LaneValue) → old.under_way ≡ [] → IsDocumentHeld o d by old new → ⊥
never_held_via d o by old new idle h = none-first _ old.under_way by idle h.first

pub at_via : (n d : ℕ) (o : Operation) (old begun new : LaneValue) (x : Outcome) → old.under_way ≡ [] → IsFresh (history old.journal) n → Begins n o d old begun → IsFinish n begun new x → IsLaneValue new
    → IsLineRun (feed_line n o (Some d)) old new x
at_via n d o old begun new x idle fresh b f holds =
    let r = has_run (feed_line n o (Some d)) d b.state old.journal old begun new x (via_begun n d o old begun idle b) f in
    record {
      done = record { state = b.state; holds = (b.acting).holds; published = (b.acting).published; ends = inl ((b.acting).owner, r.ran) };
      outcome_is = ran_outcome (feed_line n o (Some d)) d b.state old.journal old new x (fresh_none n old.journal fresh) r;
      after = only_ran old new idle r.after;
      gives = r.gives;
      holds = holds;
    }

pub refused_via : (n d : ℕ) (o : Operation) (old new : LaneValue) (x : Outcome) → IsFresh (history old.journal) n → Refuses n d x old new → IsLaneValue new → IsLineRun (feed_line n o (Some d)) old new x
refused_via n d o old new x fresh r holds =
    let journal : new.journal ≡ Refused n d x ∷ old.journal = ap (λ (v : LaneValue). v.journal) r.after in
    let given : new.given ≡ old.given = ap (λ (v : LaneValue). v.given) r.after in
    record {
      done = record {
        state = r.state;
        holds = r.holds;
        published = r.published;
        ends = inr (record { not_owner = r.not_owner; owner = r.owner; owns = r.owns; refused = journal ∙ ap (λ y. Refused n d y ∷ old.journal) r.outcome_is });
      };
      outcome_is = ap (outcome_in n) journal ∙ outcome_refused n d x old.journal (fresh_none n old.journal fresh);
      after = r.after ∙ (λ i. record old { journal = sym journal i; given = sym given i });
      gives = gives_same old.given new.given given;
      holds = holds;
    }
