-- Which session words choose, and that none was run.
use Rattle.std.proofs.Common.{◌≡◌, ◌≢◌, ◌≤◌, ℕ, zero, suc, IsTrue, List, Option, refl, ap, ◌∙◌, arith}
use Rattle.clap.specs.Walk.{Text}
use Rattle.session_cluster.specs.Cells.{Cell, journals_of, is_empty}
use Rattle.session_cluster.specs.Lanes.{AreLegal}
use Rattle.session_settings.specs.Choices.{Chooses, AreWrong, ChoosesAlone, ChoosesFed}
use Rattle.session_settings.specs.declared.choice.Choice.{Choice}
use Rattle.session_settings.proofs.Choosing.{one_choice, alone_not_fed, fed_not_alone}
use Rattle.cell_session.specs.Ends.{UsageEnd}
use Rattle.cell_session.specs.Programs.{none_planned, IsSessionAlone, IsSessionFed, IsSession}
use Rattle.cell_session.specs.declared.status.Status.{Status}
use Rattle.cell_session.specs.declared.status.Status.TheVariants as status
use Rattle.cell_session.proofs.Clauses.{empty_cell, empty_ends, empty_legal, ends_dealt, ends_written, none_lines}
use Rattle.cell_session.proofs.FedClauses.{fed_unmade, fed_dealt, fed_written, nothing_lines}
use Rattle.cell_session.proofs.Loops.{keeps_same}

at_least_one : (n : ℕ) → n ≢ 0 → 1 ≤ n
at_least_one zero some = absurd (some refl)
at_least_one (suc n) some = omega arith

-- one that runs each line alone
pub alone_session : (words : List Text) (a : Choice) → Chooses words a → a.feeders ≡ 0 → (end : Status) (text left : Option (List ℕ)) (c : Cell) (before now : Option (List ℕ))
    → ((x : Choice) → ChoosesAlone words x → AreLegal x.setting (journals_of c)) → ((x : Choice) → ChoosesAlone words x → IsSessionAlone end x text left c before now) → IsSession end words text left c before now
alone_session words a chosen none end text left c before now legal alone = record {
  legal = λ x p. legal x (record { chooses = p; alone = ap (λ (y : Choice). y.feeders) (one_choice words x a p chosen) ∙ none });
  alone = alone;
  fed = λ x p. absurd (alone_not_fed words a chosen none x p);
  wrong = λ wrong. absurd (wrong a chosen);
}

-- one whose lines feeders run
pub fed_session : (words : List Text) (a : Choice) → Chooses words a → a.feeders ≢ 0 → (end : Status) (text left : Option (List ℕ)) (c : Cell) (before now : Option (List ℕ))
    → ((x : Choice) → ChoosesFed words x → AreLegal x.setting (journals_of c)) → ((x : Choice) → ChoosesFed words x → IsSessionFed end x text left c before now) → IsSession end words text left c before now
fed_session words a chosen some end text left c before now legal fed = record {
  legal = λ x p. legal x (record { chooses = p; some = at_least_one x.feeders (λ none. some (ap (λ (y : Choice). y.feeders) (one_choice words a x chosen p) ∙ none)) });
  alone = λ x p. absurd (fed_not_alone words a chosen some x p);
  fed = fed;
  wrong = λ wrong. absurd (wrong a chosen);
}

-- none, as the words are wrong
pub wrong_session : (words : List Text) → AreWrong words → (end : Status) (text left : Option (List ℕ)) (c : Cell) (before now : Option (List ℕ)) → UsageEnd end before now → IsSession end words text left c before now
wrong_session words wrong end text left c before now ended = record {
  legal = λ x p. absurd (wrong x p);
  alone = λ x p. absurd (wrong x p.chooses);
  fed = λ x p. absurd (wrong x p.chooses);
  wrong = λ w. ended;
}

-- none, as memory wanted
pub no_session : (words : List Text) (text left : Option (List ℕ)) (c : Cell) (before : Option (List ℕ)) → IsTrue (is_empty c) → IsSession status.NoMemory words text left c before before
no_session words text left c before empty =
    let none = empty_cell c empty in
    record {
      legal = λ x p. empty_legal x.setting c empty;
      alone = λ x p.
          let ends = empty_ends x.setting x.setting.schema none_planned text left c before empty in
          record {
            dealt_with = ends_dealt status.NoMemory x.setting x.setting.schema none_planned text left c before before ends;
            lines = none_lines x.setting x.setting.schema none_planned text c none.0 none.1.0 none.1.1.0 none.1.1.1;
            written = ends_written status.NoMemory x.setting x.setting.schema none_planned text left c before before ends;
          };
      fed = λ x p.
          let ends = fed_unmade x.setting x.setting.schema x.feeders none_planned text left c before empty in
          record {
            dealt_with = fed_dealt status.NoMemory x.setting x.setting.schema x.feeders none_planned text left c before before ends;
            lines = nothing_lines status.NoMemory x.setting x.setting.schema x.feeders none_planned text left c before before
                (record { memory = refl; none = none.0; dealt = none.1.0; unkept = none.1.1.0; unread = none.1.1.1; kept = keeps_same before });
            written = fed_written status.NoMemory x.setting x.setting.schema x.feeders none_planned text left c before before ends;
          };
      wrong = λ w. keeps_same before;
    }
