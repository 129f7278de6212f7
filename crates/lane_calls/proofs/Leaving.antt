-- What the events of one line leave as it was.
use Rattle.std.proofs.Common.{◌≡◌, ◌≢◌, ℕ, List, ◌∷◌, Some, inl, inr, refl, sym, ◌∙◌, subst, arith}
use Rattle.std.proofs.lemmas.Bool.Decides.{nat_tests}
use Rattle.bucket_ids.specs.Buckets.{Low}
use Rattle.distributor_part.specs.declared.rules.Rules.{Rules}
use Rattle.documents.specs.declared.entry.Entry.{Entry}
use Rattle.messages.specs.declared.operation.Operation.{Operation}
use Rattle.messages.specs.declared.outcome.Outcome.{Outcome}
use Rattle.stamps.specs.declared.stamp.Stamp.{Stamp}
use Rattle.lane_journals.specs.Readers.{held, began, refused, prepared, wrote, closed, before_line}
use Rattle.lane_journals.specs.Meanings.{history, entry_at}
use Rattle.lane_journals.specs.declared.event.LaneEvent.{LaneEvent}
use Rattle.lane_journals.specs.declared.event.LaneEvent.TheVariants as event
use Rattle.lane_journals.proofs.Basics.{or_else-some}
use Rattle.operation_keeping.specs.Wants.{IsRun, Same, More, IsCutRun}
use Rattle.lane_calls.specs.Lines.{RunsTo}
use Rattle.lane_calls.specs.Readings.{outcome_in, told_events}
use Rattle.lane_calls.proofs.Quiet.{AddsFor, wanted_adds, cut_adds}

-- what is read of states and of lines is the same, but for what the line prepared and wrote
pub record Leaves (line : ℕ) (J K : List LaneEvent) : Type 0 where
  pub held_is : (d : ℕ) → held d (history K) ≡ held d (history J)
  pub told_is : told_events K ≡ told_events J
  pub began_is : (j : ℕ) → began j (history K) ≡ began j (history J)
  pub refused_is : (j : ℕ) → refused j (history K) ≡ refused j (history J)
  pub closed_is : (j : ℕ) → closed j (history K) ≡ closed j (history J)
  pub before_is : (j : ℕ) → before_line j (history K) ≡ before_line j (history J)
  pub outcome_is : (j : ℕ) → outcome_in j K ≡ outcome_in j J
  pub prepared_is : (j : ℕ) → j ≢ line → prepared j (history K) ≡ prepared j (history J)
  pub wrote_is : (j : ℕ) → j ≢ line → wrote j (history K) ≡ wrote j (history J)
  pub entries : (t : Stamp) (e : Entry) → entry_at t J ≡ Some e → entry_at t K ≡ Some e

pub leaves_itself : (line : ℕ) (J : List LaneEvent) → Leaves line J J
leaves_itself line J = record {
  held_is = λ d. refl;
  told_is = refl;
  began_is = λ j. refl;
  refused_is = λ j. refl;
  closed_is = λ j. refl;
  before_is = λ j. refl;
  outcome_is = λ j. refl;
  prepared_is = λ j h. refl;
  wrote_is = λ j h. refl;
  entries = λ t e h. h;
}

pub leaves-trans : (line : ℕ) (I J K : List LaneEvent) → Leaves line I J → Leaves line J K → Leaves line I K
leaves-trans line I J K a b = record {
  held_is = λ d. b.held_is d ∙ a.held_is d;
  told_is = b.told_is ∙ a.told_is;
  began_is = λ j. b.began_is j ∙ a.began_is j;
  refused_is = λ j. b.refused_is j ∙ a.refused_is j;
  closed_is = λ j. b.closed_is j ∙ a.closed_is j;
  before_is = λ j. b.before_is j ∙ a.before_is j;
  outcome_is = λ j. b.outcome_is j ∙ a.outcome_is j;
  prepared_is = λ j h. b.prepared_is j h ∙ a.prepared_is j h;
  wrote_is = λ j h. b.wrote_is j h ∙ a.wrote_is j h;
  entries = λ t e h. b.entries t e (a.entries t e h);
}

passed_over : (line : ℕ) (J : List LaneEvent) (e : LaneEvent) → AddsFor line e → ((t : Stamp) (x : Entry) → entry_at t J ≡ Some x → entry_at t (e ∷ J) ≡ Some x)
passed_over line J e h t x is = grind (arith, or_else-some)

-- an event that a line adds
pub leaves_event : (line : ℕ) (J : List LaneEvent) (e : LaneEvent) → AddsFor line e → Leaves line J (e ∷ J)
leaves_event line J (event.Published s) h = absurd h
leaves_event line J (event.Heard d v) h = absurd h
leaves_event line J (event.Begun l d v id s) h = absurd h
leaves_event line J (event.Refused l d x) h = absurd h
leaves_event line J (event.Closed l x) h = absurd h
leaves_event line J (event.Stopped n) h = absurd h
leaves_event line J (event.Started n) h = absurd h
leaves_event line J (event.Opened d v rows) h = record {
  held_is = λ d. refl;
  told_is = refl;
  began_is = λ j. refl;
  refused_is = λ j. refl;
  closed_is = λ j. refl;
  before_is = λ j. refl;
  outcome_is = λ j. refl;
  prepared_is = λ j other. refl;
  wrote_is = λ j other. refl;
  entries = λ t e is. is;
}
leaves_event line J (event.Sent k v d n b) h = record {
  held_is = λ d. refl;
  told_is = refl;
  began_is = λ j. refl;
  refused_is = λ j. refl;
  closed_is = λ j. refl;
  before_is = λ j. refl;
  outcome_is = λ j. refl;
  prepared_is = λ j other. refl;
  wrote_is = λ j other. refl;
  entries = λ t e is. is;
}
leaves_event line J (event.Delivered k r) h = record {
  held_is = λ d. refl;
  told_is = refl;
  began_is = λ j. refl;
  refused_is = λ j. refl;
  closed_is = λ j. refl;
  before_is = λ j. refl;
  outcome_is = λ j. refl;
  prepared_is = λ j other. refl;
  wrote_is = λ j other. refl;
  entries = λ t e is. is;
}
leaves_event line J (event.Returned k) h = record {
  held_is = λ d. refl;
  told_is = refl;
  began_is = λ j. refl;
  refused_is = λ j. refl;
  closed_is = λ j. refl;
  before_is = λ j. refl;
  outcome_is = λ j. refl;
  prepared_is = λ j other. refl;
  wrote_is = λ j other. refl;
  entries = λ t e is. is;
}
leaves_event line J (event.Decided d v x) h = record {
  held_is = λ d. refl;
  told_is = refl;
  began_is = λ j. refl;
  refused_is = λ j. refl;
  closed_is = λ j. refl;
  before_is = λ j. refl;
  outcome_is = λ j. refl;
  prepared_is = λ j other. refl;
  wrote_is = λ j other. refl;
  entries = λ t e is. is;
}
leaves_event line J (event.Prepared l b set) h = record {
  held_is = λ d. refl;
  told_is = refl;
  began_is = λ j. refl;
  refused_is = λ j. refl;
  closed_is = λ j. refl;
  before_is = λ j. refl;
  outcome_is = λ j. refl;
  prepared_is = λ j other. other_line j other;
  wrote_is = λ j other. refl;
  entries = λ t e is. is;
}
  where
    other_line : (j : ℕ) → j ≢ line → prepared j (history (event.Prepared l b set ∷ J)) ≡ prepared j (history J)
    other_line j other = grind (arith, nat_tests)
leaves_event line J (event.Wrote l entry) h = record {
  held_is = λ d. refl;
  told_is = refl;
  began_is = λ j. refl;
  refused_is = λ j. refl;
  closed_is = λ j. refl;
  before_is = λ j. refl;
  outcome_is = λ j. refl;
  prepared_is = λ j other. refl;
  wrote_is = λ j other. other_line j other;
  entries = λ t x is. passed_over line J (event.Wrote l entry) h t x is;
}
  where
    other_line : (j : ℕ) → j ≢ line → wrote j (history (event.Wrote l entry ∷ J)) ≡ wrote j (history J)
    other_line j other = grind (arith, nat_tests)

pub leaves_run : (lane : Low) (rules : Rules) (line : ℕ) (o : Operation) (J K : List LaneEvent) → IsRun lane rules line o J K → Leaves line J K
leaves_run lane rules line o J K Same = leaves_itself line J
leaves_run lane rules line o J K (More e L run wanted) = leaves-trans line J L (e ∷ L) (leaves_run lane rules line o J L run) (leaves_event line L e (wanted_adds lane rules line o e L wanted))

leaves_cut : (lane : Low) (rules : Rules) (line : ℕ) (o : Operation) (J K : List LaneEvent) → IsCutRun lane rules line o J K → Leaves line J K
leaves_cut lane rules line o J K h = elim h.2 [
  | inl same ↦ subst (Leaves line J) (sym same) (leaves_run lane rules line o J h.0 h.1)
  | inr cut ↦
      let last = cut_adds lane line h.0 K cut in
      subst (Leaves line J) (sym last.1.0) (leaves-trans line J h.0 (last.0 ∷ h.0) (leaves_run lane rules line o J h.0 h.1) (leaves_event line h.0 last.0 last.1.1))
]

pub leaves_to : (lane : Low) (rules : Rules) (line : ℕ) (o : Operation) (J K : List LaneEvent) (x : Outcome) → RunsTo lane rules line o J K x → Leaves line J K
leaves_to lane rules line o J K x (inl h) = leaves_run lane rules line o J K h.0
leaves_to lane rules line o J K x (inr h) = leaves_cut lane rules line o J K h.0
