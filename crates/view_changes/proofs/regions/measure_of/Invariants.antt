use Rattle.std.proofs.Common.{◌≡◌, ◌+◌, drop}
use Rattle.coverage.specs.Covering.{measure_of}
use Rattle.view_changes.proofs.regions.measure_of.Given as goal

abbrev pub invariant-loop-region : goal.invariant-loop-region
invariant-loop-region l = l.sum + measure_of (drop l.region-index l.regions) ≡ measure_of l.regions
