-- What earlier lines were answered stays, whatever a later part did.
use Rattle.std.proofs.Common.{◌≡◌, ℕ, zero, suc, ◌+◌, ◌≤◌, List, [], ◌∷◌, ◌++◌, Option, None, Some, is_some, inl, inr, refl, sym, ap, ap₂, ◌∙◌, subst, arith, length, take, slice_get}
use Rattle.std.specs.Option.{IsSome}
use Rattle.std.proofs.lemmas.Bool.{cases_lt}
use Rattle.documents.specs.declared.entry.Entry.{Entry}
use Rattle.stamps.specs.declared.stamp.Stamp.{Stamp}
use Rattle.cluster_states.specs.Publishing.{Told}
use Rattle.doc_types.specs.SchemaCodes.{Types}
use Rattle.messages.specs.declared.outcome.Outcome.{Outcome}
use Rattle.journal_views.proofs.Reading.{first-changes}
use Rattle.lane_changes.specs.Changes.{changes_of}
use Rattle.lane_journals.specs.KeptJournals.{IsLegal}
use Rattle.lane_journals.specs.Meanings.{entry_at}
use Rattle.lane_journals.specs.declared.event.LaneEvent.{LaneEvent}
use Rattle.lane_journals.proofs.Basics.{or_else-some}
use Rattle.lane_keeping.specs.LaneKeeping.{setting_of}
use Rattle.lane_calls.specs.LaneValues.{LaneValue}
use Rattle.lane_calls.specs.Readings.{outcome_in}
use Rattle.lane_lives.specs.declared.setting.Setting.{Setting}
use Rattle.lane_lives.specs.Serving.{bucket_in}
use Rattle.lane_promises.proofs.Before.{Grown}
use Rattle.session_cluster.specs.Cells.{Cell, journals, journals_of}
use Rattle.session_cluster.specs.Deeds.{told_next}
use Rattle.session_cluster.specs.Lanes.{Journal, lane_of_id, journal_in, AreLegal}
use Rattle.session_cluster.specs.Output.{closed_answer, plan_answer, upkeep_answer, bytes_of, found_answer_of, report_in, output_from}
use Rattle.session_cluster.specs.Searches.{fronts_of, view_to}
use Rattle.session_cluster.specs.Spans.{spans_of}
use Rattle.session_cluster.specs.declared.asked.Asked.{Asked}
use Rattle.session_cluster.specs.declared.asked.Asked.TheVariants as command
use Rattle.session_cluster.proofs.KeptLanes.{lane_there}
use Rattle.session_cluster.proofs.LaneLists.{journal_at, journal_past}
use Rattle.cell_session.proofs.OutputLaws.{closed_same, found_same}
use Rattle.cell_session.proofs.ReadLaws.{ViewsStay, views_same, few_taken}
use Rattle.view_changes.specs.Opening.{opening}
use Rattle.view_changes.specs.Views.{view_after}

-- ---- what a journal says stays as it grows

outcome_on : (n : ℕ) (x : Outcome) (e : LaneEvent) (J : Journal) → outcome_in n J ≡ Some x → outcome_in n (e ∷ J) ≡ Some x
outcome_on n x e J is = grind (arith, or_else-some)

entry_on : (t : Stamp) (x : Entry) (e : LaneEvent) (J : Journal) → entry_at t J ≡ Some x → entry_at t (e ∷ J) ≡ Some x
entry_on t x e J is = grind (arith, or_else-some)

outcome_behind : (n : ℕ) (x : Outcome) (more J : Journal) → outcome_in n J ≡ Some x → outcome_in n (more ++ J) ≡ Some x
outcome_behind n x [] J is = is
outcome_behind n x (e ∷ more) J is = outcome_on n x e (more ++ J) (outcome_behind n x more J is)

entry_behind : (t : Stamp) (x : Entry) (more J : Journal) → entry_at t J ≡ Some x → entry_at t (more ++ J) ≡ Some x
entry_behind t x [] J is = is
entry_behind t x (e ∷ more) J is = entry_on t x e (more ++ J) (entry_behind t x more J is)

-- a line with an outcome keeps it
pub outcome_grown : (n : ℕ) (x : Outcome) (J K : Journal) → Grown K J → outcome_in n J ≡ Some x → outcome_in n K ≡ Some x
outcome_grown n x J K grown is = ap (outcome_in n) grown.1 ∙ outcome_behind n x grown.0 J is

pub some_grown : (n : ℕ) (J K : Journal) → Grown K J → IsSome (outcome_in n J) → IsSome (outcome_in n K)
some_grown n J K grown some = by_outcome (outcome_in n J) refl some
  where
    by_outcome : (o : Option Outcome) → outcome_in n J ≡ o → IsSome o → IsSome (outcome_in n K)
    by_outcome None is some = absurd cc
    by_outcome (Some x) is some = ap is_some (outcome_grown n x J K grown is)

closed_grown : (s : Setting) (lane n : ℕ) (J K : Journal) → IsLegal (setting_of (bucket_in s lane) s.rules) J → Grown K J → IsSome (outcome_in n J) → closed_answer (outcome_in n K) K ≡ closed_answer (outcome_in n J) J
closed_grown s lane n J K legal grown some = by_outcome (outcome_in n J) refl some
  where
    by_outcome : (o : Option Outcome) → outcome_in n J ≡ o → IsSome o → closed_answer (outcome_in n K) K ≡ closed_answer o J
    by_outcome None is some = absurd cc
    by_outcome (Some x) is some =
        ap (λ p. closed_answer p K) (outcome_grown n x J K grown is)
        ∙ closed_same s lane n J K (Some x) legal (λ t e there. ap (entry_at t) grown.1 ∙ entry_behind t e grown.0 J there) is

-- ---- a later part

-- the journals grew, and what was noted of the lines up to a number, and which carriers take plans, is as it was
pub record GoesOn (n : ℕ) (old new : Cell) : Type 0 where
  pub count : length new.lanes ≡ length old.lanes
  pub each : (lane : ℕ) (w : LaneValue) → slice_get new.lanes lane ≡ Some w → (v : LaneValue) × ((slice_get old.lanes lane ≡ Some v) × Grown w.journal v.journal)
  pub plans : (lane : ℕ) → plan_answer (slice_get new.lanes lane) ≡ plan_answer (slice_get old.lanes lane)
  pub spans : (line : ℕ) → line ≤ n → spans_of line new.upkeeps ≡ spans_of line old.upkeeps
  pub fronts : (line : ℕ) → line ≤ n → fronts_of line new.fronts ≡ fronts_of line old.fronts

pub journals_grow : (n : ℕ) (old new : Cell) → GoesOn n old new → (lane : ℕ) → Grown (journal_in lane (journals_of new)) (journal_in lane (journals_of old))
journals_grow n old new on lane = elim (cases_lt lane (length new.lanes)) [
  | inl there ↦
      let w = lane_there new.lanes lane there in
      let v = on.each lane w.0 w.1 in
      subst (λ (K : Journal). Grown K (journal_in lane (journals_of old))) (sym (journal_at new.lanes lane w.0 w.1))
      (subst (λ (J : Journal). Grown (w.0).journal J) (sym (journal_at old.lanes lane v.0 v.1.0)) v.1.1)
  | inr past ↦
      let none = journal_past new.lanes lane (omega (arith, past)) in
      let was = journal_past old.lanes lane (omega (arith, past, on.count)) in
      ([], none ∙ sym was)
]

-- ---- which lines have their outcomes

-- the line, if it asks for an operation, has its outcome
abbrev pub IsAnswered : Setting → ℕ → Asked → List Journal → Type 0
IsAnswered s line (command.Feed op via) Js = IsSome (outcome_in line (journal_in (lane_of_id s.bits op.id) Js))
IsAnswered s line _ Js = Unit {0}

-- so do these in order, of which the first has this number
abbrev pub AreAnswered : Setting → ℕ → List Asked → List Journal → Type 0
AreAnswered s line [] Js = Unit {0}
AreAnswered s line (c ∷ cs) Js = IsAnswered s line c Js × AreAnswered s (suc line) cs Js

abbrev AllGrow : List Journal → List Journal → Type 0
AllGrow Js Ks = (lane : ℕ) → Grown (journal_in lane Ks) (journal_in lane Js)

answered_on : (s : Setting) (line : ℕ) (c : Asked) (Js Ks : List Journal) → AllGrow Js Ks → IsAnswered s line c Js → IsAnswered s line c Ks
answered_on s line (command.Feed op via) Js Ks grow is = let lane = lane_of_id s.bits op.id in some_grown line (journal_in lane Js) (journal_in lane Ks) (grow lane) is
answered_on s line command.Blank Js Ks grow is = is
answered_on s line command.TooLong Js Ks grow is = is
answered_on s line command.Barrier Js Ks grow is = is
answered_on s line (command.Bad why) Js Ks grow is = is
answered_on s line (command.State state deaf) Js Ks grow is = is
answered_on s line (command.BadState offset) Js Ks grow is = is
answered_on s line (command.Stop node) Js Ks grow is = is
answered_on s line (command.Start node) Js Ks grow is = is
answered_on s line (command.Net lane fates) Js Ks grow is = is
answered_on s line command.Maintain Js Ks grow is = is
answered_on s line (command.Search query) Js Ks grow is = is
answered_on s line (command.BadQuery offset) Js Ks grow is = is

pub all_answered_on : (s : Setting) (line : ℕ) (cs : List Asked) (Js Ks : List Journal) → AllGrow Js Ks → AreAnswered s line cs Js → AreAnswered s line cs Ks
all_answered_on s line [] Js Ks grow is = tt
all_answered_on s line (c ∷ cs) Js Ks grow is = (answered_on s line c Js Ks grow is.0, all_answered_on s (suc line) cs Js Ks grow is.1)

pub answered_append : (s : Setting) (line : ℕ) (cs ds : List Asked) (Js : List Journal) → AreAnswered s line cs Js → AreAnswered s (line + length cs) ds Js → AreAnswered s line (cs ++ ds) Js
answered_append s line [] ds Js is more = subst (λ n. AreAnswered s n ds Js) (omega arith) more
answered_append s line (c ∷ cs) ds Js is more = (is.0, answered_append s (suc line) cs ds Js is.1 (subst (λ n. AreAnswered s n ds Js) (omega arith) more))

-- ---- how far searches read

-- each search read no further than the lanes' journals go
abbrev pub ReadWithin : Cell → Type 0
ReadWithin c = (line : ℕ) (gs : List ℕ) → fronts_of line c.fronts ≡ Some gs → (lane : ℕ) (v : LaneValue) (g : ℕ) → slice_get c.lanes lane ≡ Some v → slice_get gs lane ≡ Some g → g ≤ length (changes_of v.journal)

changes_longer : (J K : Journal) → Grown K J → length (changes_of J) ≤ length (changes_of K)
changes_longer J K grown =
    let first = first-changes grown.0 J in
    let few = few_taken (length (changes_of J)) (changes_of (grown.0 ++ J)) in
    omega (arith, few, ap length first, ap (λ L. length (changes_of L)) grown.1)

pub within_on : (J K : Journal) (g : ℕ) → Grown K J → g ≤ length (changes_of J) → g ≤ length (changes_of K)
within_on J K g grown low = omega (arith, low, changes_longer J K grown)

take_less : {A : Type 0} (g n : ℕ) (xs : List A) → g ≤ n → take g (take n xs) ≡ take g xs
take_less zero n xs low = refl
take_less (suc g) zero xs low = absurd (omega (arith, low))
take_less (suc g) (suc n) [] low = refl
take_less (suc g) (suc n) (x ∷ xs) low = ap (λ l. x ∷ l) (take_less g n xs (omega (arith, low)))

-- what is seen to it stays
view_on : (types : Types) (g : ℕ) (J K : Journal) → g ≤ length (changes_of J) → Grown K J → view_to types g K ≡ view_to types g J
view_on types g J K low grown =
    ap (view_after (opening types)) (ap (λ L. take g (changes_of L)) grown.1 ∙ sym (take_less g (length (changes_of J)) (changes_of (grown.0 ++ J)) low) ∙ ap (take g) (first-changes grown.0 J))

same_item : {A : Type 0} {x y : A} → Some x ≡ Some y → x ≡ y
same_item e = cc

views_on : (n : ℕ) (old new : Cell) → GoesOn n old new → ReadWithin old → (types : Types) → ViewsStay types old new
views_on n old new on within types line gs has =
    views_same types gs old.lanes new.lanes on.count (λ lane v w g was at there.
    let found = on.each lane w at in
    let same : found.0 ≡ v = same_item (sym found.1.0 ∙ was) in
    view_on types g v.journal w.journal (within line gs has lane v g was there) (subst (λ (x : LaneValue). Grown w.journal x.journal) same found.1.1))

-- ---- the reports

module _ (s : Setting) (n : ℕ) (old new : Cell) (on : GoesOn n old new) (legal : AreLegal s (journals_of old)) (within : ReadWithin old) where
  report_on : (told : Told) (line : ℕ) (c : Asked) → line ≤ n → IsAnswered s line c (journals_of old) → report_in s told line c new ≡ report_in s told line c old
  report_on told line command.Blank low is = refl
  report_on told line command.TooLong low is = refl
  report_on told line command.Barrier low is = refl
  report_on told line (command.Bad why) low is = refl
  report_on told line (command.Feed op via) low is =
      let lane = lane_of_id s.bits op.id in
      ap (bytes_of line) (closed_grown s lane line (journal_in lane (journals_of old)) (journal_in lane (journals_of new)) (legal lane) (journals_grow n old new on lane) is)
  report_on told line (command.State state deaf) low is = refl
  report_on told line (command.BadState offset) low is = refl
  report_on told line (command.Stop node) low is = refl
  report_on told line (command.Start node) low is = refl
  report_on told line (command.Net lane fates) low is = ap (bytes_of line) (on.plans lane)
  report_on told line command.Maintain low is = ap (λ o. bytes_of line (upkeep_answer o)) (on.spans line low)
  report_on told line (command.Search q) low is =
      ap (bytes_of line) (ap (λ o. found_answer_of s.schema told q o (journals new.lanes)) (on.fronts line low)
      ∙ found_same s.schema told q line old new (fronts_of line old.fronts) (views_on n old new on within s.schema) refl)
  report_on told line (command.BadQuery offset) low is = refl

  pub output_on : (told : Told) (line : ℕ) (cs : List Asked) → line + length cs ≤ n + 1 → AreAnswered s line cs (journals_of old) → output_from s told line cs new ≡ output_from s told line cs old
  output_on told line [] low is = refl
  output_on told line (c ∷ cs) low is =
      ap₂ (λ a b. a ++ b) (report_on told line c (omega (arith, low)) is.0) (output_on (told_next c told) (suc line) cs (omega (arith, low)) is.1)
