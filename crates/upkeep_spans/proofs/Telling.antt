-- What was seen of a whole span tells its answer.
use Rattle.std.proofs.Common.{◌≡◌, ◌-◌, ℕ, ◌≤◌, List, ◌++◌, length, Option, sym, ap, ◌∙◌, subst}
use Rattle.std.proofs.lemmas.List.{take-append-drop}
use Rattle.carriers.specs.declared.fate.Fate.{Fate}
use Rattle.lane_journals.specs.Readers.{or_else, returned}
use Rattle.lane_journals.specs.Meanings.{history}
use Rattle.lane_journals.specs.declared.event.LaneEvent.{LaneEvent}
use Rattle.lane_carriage.specs.Carriage.{IsCarried}
use Rattle.upkeep_spans.specs.declared.answers.Upkeep.{Upkeep}
use Rattle.upkeep_spans.specs.declared.scan.Seen.{Seen}
use Rattle.upkeep_spans.specs.Spans.{later, earlier}
use Rattle.upkeep_spans.specs.Causes.{first_late, first_absent, cause_of, IsCause}
use Rattle.upkeep_spans.specs.Watches.{KnowsAtOnce}
use Rattle.upkeep_spans.specs.Scans.{awaited_in, gone_in, ArePlaced, IsSeen}
use Rattle.upkeep_spans.proofs.AtOnce.{knows-on}
use Rattle.upkeep_spans.proofs.Placing.{placed}
use Rattle.upkeep_spans.proofs.Absences.{absent}

-- the span and what was before it are the journal
parts : (from : ℕ) (J : List LaneEvent) → later from J ++ earlier from J ≡ J
parts from J = take-append-drop (length J - from) J

absent-in : (given : List Fate) (from : ℕ) (J : List LaneEvent) → ArePlaced given J → first_absent (λ n. returned n (history J)) (later from J) ≡ or_else (gone_in (later from J)) (awaited_in (later from J))
absent-in given from J p =
    subst (λ (L : List LaneEvent). first_absent (λ n. returned n (history L)) (later from J) ≡ or_else (gone_in (later from J)) (awaited_in (later from J))) (parts from J)
    (absent given (earlier from J) (later from J) (subst (λ (L : List LaneEvent). ArePlaced given L) (sym (parts from J)) p))

pub told : (given own : List Fate) (from sent first : ℕ) (at_once : List ℕ) (J : List LaneEvent) (x : Seen) (answer : Upkeep) → given ≡ own → IsCarried given J → KnowsAtOnce first at_once own → first ≤ sent
    → ((fates : List Fate) → KnowsAtOnce sent at_once fates → ArePlaced fates J → IsSeen fates from sent J x) → answer ≡ cause_of x.late (or_else x.absent x.awaited) → IsCause given from J answer
told given own from sent first at_once J x answer same carried knows le seen is =
    let p : ArePlaced given J = placed given J carried in
    let s : IsSeen given from sent J x = seen given (knows-on first sent at_once given le (rw same knows)) p in
    is ∙ ap (λ (o : Option ℕ). cause_of o (or_else x.absent x.awaited)) s.late
    ∙ ap (λ (o : Option ℕ). cause_of (first_late given (later from J)) (or_else o x.awaited)) s.absent
    ∙ ap (λ (o : Option ℕ). cause_of (first_late given (later from J)) (or_else (gone_in (later from J)) o)) s.awaited
    ∙ ap (λ (o : Option ℕ). cause_of (first_late given (later from J)) o) (sym (absent-in given from J p))
