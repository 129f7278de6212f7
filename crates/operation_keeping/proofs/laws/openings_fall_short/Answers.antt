use Rattle.lane_keeping.specs.LaneKeeping.{part_in}
use Rattle.lane_journals.specs.Readers.{asked}
use Rattle.lane_journals.specs.RowLists.{row_with, rows}
use Rattle.lane_journals.specs.Meanings.{history}
use Rattle.operation_keeping.proofs.Opening.{lacks-answers}
use Rattle.operation_keeping.proofs.laws.openings_fall_short.Goals as goal

pub returns : goal.returns
returns c = λ lane rules J newest last nodes parts keep d missing all absent l owner all_serve lacking.
    let law = c.owners_act.ensures in
    let acts = law.acts lane rules J newest last nodes parts keep d l.state (l.unopened).heard owner in
    lacks-answers J (part_in lane rules parts d) missing all absent l (λ n. asked (l.state).version n (history J)) (λ key. row_with key (rows (l.state).version (history J)))
    (law.knows lane rules J newest last nodes parts keep d l.state acts) (law.serving lane rules J newest last nodes parts keep d l.state acts) (law.told lane rules J newest last nodes parts keep d l.state acts) all_serve lacking
