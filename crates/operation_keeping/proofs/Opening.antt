-- An opening that falls short of answers.
use Rattle.std.proofs.Common.{◌≡◌, ◌↔◌, ℕ, true, not, List, Option, is_some, sym, ap, ◌∙◌}
use mathlib.Core.Bool.{true≢false}
use Rattle.std.proofs.lemmas.Bool.{and_parts}
use Rattle.node_sets.specs.Members.{has_node, size_of}
use Rattle.cluster_states.specs.Publishing.{serves}
use Rattle.distributor_part.specs.Parts.{Part}
use Rattle.distributor_part.specs.Steps.{LacksAnswers}
use Rattle.lane_journals.specs.Readers.{Given, opened}
use Rattle.lane_journals.specs.Facts.{AnsweredAsk}
use Rattle.lane_journals.specs.RowLists as listed
use Rattle.lane_journals.specs.States.{state_of}
use Rattle.lane_journals.specs.Meanings.{history}
use Rattle.lane_journals.specs.declared.event.LaneEvent.{LaneEvent}
use Rattle.lane_keeping.specs.LaneKeeping.{KnowsOpening}
use Rattle.operation_keeping.specs.Laws.{MayLackAnswers}
use Rattle.proof_basics.proofs.Tests.{not_answered}
use Rattle.operation_keeping.proofs.Counting.{size_of-is, size_of-by}

-- a part lacks answers that knows its opening: which nodes serve, and who answered
pub lacks-answers : (J : List LaneEvent) (p : Part) (missing all absent : ℕ) (l : LacksAnswers p missing) (answers : ℕ → Option Given) (row_at : ℕ → Option listed.Row)
    → KnowsOpening answers (opened (l.state).version (history J)) row_at l.state p → ((n : ℕ) → state_of (history J) (l.state).version n ≡ serves l.state n)
    → ((n : ℕ) → (has_node p.answered n ≡ true) ↔ AnsweredAsk (l.state).version n (history J)) → ((n : ℕ) → has_node all n ≡ serves l.state n) → has_node missing absent ≡ true
    → MayLackAnswers J (l.state).version (size_of p.answered) (size_of all) absent
lacks-answers J p missing all absent l answers row_at know member told all_serve lacking =
    let parts = and_parts (serves l.state absent) (not (has_node p.answered absent)) (sym (l.are absent) ∙ lacking) in
    record {
      unopened = know.opened_as ∙ ap is_some (l.unopened).unopened;
      short = (
        size_of-by all (λ n. state_of (history J) (l.state).version n) (λ n. all_serve n ∙ sym (member n)),
        (
          ((λ n. has_node p.answered n), sym (size_of-is p.answered), λ n. (λ h. (member n ∙ know.serving n h, (told n).0 h), λ h. (told n).1 h.1)),
          member absent ∙ parts.0,
          λ a. true≢false (sym ((told absent).1 a) ∙ not_answered (has_node p.answered absent) parts.1),
        ),
      );
    }
