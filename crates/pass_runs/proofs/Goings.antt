-- What is owed of each turn of the machine where a pass stands: it stands behind that too.
use Rattle.std.proofs.Common.{ℕ}
use Rattle.std.specs.BTreeMap.{BTreeMap}
use Rattle.lane_keeping.specs.Flights.{NamesBucket}
use Rattle.distributor_part.specs.Upkeep.{AcceptsAt}
use Rattle.pass_model.specs.Nodes.{Node}
use Rattle.pass_model.specs.Rows.{Settings}
use Rattle.pass_model.specs.Passes.{World}
use Rattle.pass_model.specs.Scripts.{told_node}
use Rattle.pass_machine.specs.declared.doing.Doing.{Doing}
use Rattle.pass_machine.specs.declared.doing.UpkeepStep.TheVariants as step
use Rattle.pass_machine.specs.declared.doing.Turn.{Turn}
use Rattle.pass_machine.specs.declared.doing.Turn.TheVariants.{Over, Says}
use Rattle.pass_machine.specs.declared.notes.RowNote.{RowNote}
use Rattle.pass_machine.specs.Turns.{View, answered, decided, accepted, rounded}
use Rattle.pass_machine.specs.Going.{Forgets, Makes, made_in, rows_made}
use Rattle.pass_machine.specs.Abstract.{answer_of}
use Rattle.pass_runs.specs.Worlds.{IsUnder}
use Rattle.pass_runs.specs.Steps.{Changes, IsDecidedBy, IsRoundAt}
use Rattle.pass_runs.specs.Standing.{Stands}

-- what the machine was doing, and the turn that comes there
abbrev pub GoesOn : Settings → (ℕ → Node) → World → View → BTreeMap ℕ (Unit {0}) → BTreeMap ℕ RowNote → Doing → (ℕ → Node) → Turn → Type 0
GoesOn s still first v made notes d ns (Over e) = Stands s still first v made notes e ns
GoesOn s still first v made notes d ns (Says (step.Tell n b)) = NamesBucket b → Stands s still first v made notes (answered v (answer_of b (ns n)) d) (told_node n b ns)
GoesOn s still first v made notes d ns (Says (step.Decide at x)) = (w : View) (after : BTreeMap ℕ RowNote) → IsUnder s still w ns → Changes v w (IsDecidedBy at x) → Forgets (rows_made d x) notes after
    → Stands s still first w made after (decided d x) ns
GoesOn s still first v made notes d ns (Says (step.Accept at)) = (w : View) → IsUnder s still w ns → Changes v w (λ p q. AcceptsAt p q at) → Stands s still first w made notes (accepted d) ns
GoesOn s still first v made notes d ns (Says (step.Round at)) = (w : View) (now : BTreeMap ℕ (Unit {0})) (after : BTreeMap ℕ RowNote) (ms : ℕ → Node) → IsUnder s still w ms → IsRoundAt s still v w notes after ns ms at
    → Makes (made_in d) made now → Stands s still first w now after (rounded w d) ms
GoesOn s still first v made notes d ns (Says step.Finished) = Unit {0}
