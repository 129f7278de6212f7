-- Where the machine is finished, all of it was a pass of the abstract behind what was sent again.
use Rattle.std.proofs.Common.{ℕ}
use Rattle.std.specs.BTreeMap.{BTreeMap}
use Rattle.pass_model.specs.Nodes.{Node}
use Rattle.pass_model.specs.Rows.{Settings}
use Rattle.pass_model.specs.Passes.{World, Resends, Passes}
use Rattle.pass_model.specs.Resting.{AreSettings}
use Rattle.pass_model.proofs.Resending.{turns-resent}
use Rattle.pass_machine.specs.declared.doing.Doing.TheVariants.{Finished}
use Rattle.pass_machine.specs.declared.notes.RowNote.{RowNote}
use Rattle.pass_machine.specs.Turns.{View}
use Rattle.pass_runs.specs.Worlds.{world_of}
use Rattle.pass_runs.specs.Standing.{Stands}

pub pass_ends : (s : Settings) (still : ℕ → Node) (first : World) (v : View) (made : BTreeMap ℕ (Unit {0})) (notes : BTreeMap ℕ RowNote) (ns : ℕ → Node) → AreSettings s → Stands s still first v made notes Finished ns
    → (resent : World) × Resends s first resent × Passes s resent (world_of still v notes ns)
pass_ends s still first v made notes ns sound x = turns-resent s sound first (world_of still v notes ns) x.sent x.led.0 x.order x.buckets x.led.1
