use Rattle.std.proofs.Common.{◌≤◌, ◌-◌}
use Rattle.disks.specs.Disks.{Rests}
use Rattle.node_journal.specs.Opening.{IsSoFar}
use Rattle.node_journal.proofs.replaying.replay.Given as goal

abbrev pub invariant-records : goal.invariant-records
invariant-records g l = record {
  so_far : IsSoFar l.schema (g.D.Disk.state l.fn.disk).seen l.node l.end;
  rests : Rests (g.D.Disk.state l.fn.disk) (g.D.Disk.state l.disk);
  count : (g.D.Disk.state l.fn.disk).faults ≤ (g.D.Disk.state l.disk).faults;
}

abbrev pub decreases-records : goal.decreases-records
decreases-records g l = l.size - l.end
