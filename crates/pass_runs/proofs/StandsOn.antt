-- A pass stands where the machine goes on with something else.
use Rattle.std.proofs.Common.{ℕ}
use Rattle.std.specs.BTreeMap.{BTreeMap}
use Rattle.pass_model.specs.Nodes.{Node}
use Rattle.pass_model.specs.Rows.{Settings}
use Rattle.pass_model.specs.Passes.{World}
use Rattle.pass_machine.specs.declared.doing.Doing.{Doing}
use Rattle.pass_machine.specs.declared.notes.RowNote.{RowNote}
use Rattle.pass_machine.specs.Turns.{View}
use Rattle.pass_runs.specs.Worlds.{world_of}
use Rattle.pass_runs.specs.Standing.{Knows, Led, Stands}

module _ (s : Settings) (still : ℕ → Node) (first : World) (v : View) (made : BTreeMap ℕ (Unit {0})) (notes : BTreeMap ℕ RowNote) (d : Doing) (ns : ℕ → Node) (x : Stands s still first v made notes d ns) where
  -- with the rows that joins made till then
  pub stands_on : (e : Doing) (w : View) (after : BTreeMap ℕ RowNote) (ms : ℕ → Node) → Knows still w after x.list e → Led s first x.list x.sent e (world_of still w after ms) → Stands s still first w made after e ms
  stands_on e w after ms knows led = record { order = x.order; list = x.list; are_made = x.are_made; knows = knows; sent = x.sent; buckets = x.buckets; led = led }
