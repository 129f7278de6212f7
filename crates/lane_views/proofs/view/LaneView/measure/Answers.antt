use Rattle.std.proofs.Common.{arith}
use Rattle.lane_views.specs.Typed.{seen}
use Rattle.view_changes.proofs.CoverLaws.{view-bounded}
use Rattle.lane_views.proofs.view.LaneView.measure.Goals as goal

pub measure_at-requires : goal.measure_at-requires
measure_at-requires c = rw c.deref.ensures.value (omega (arith, view-bounded c.args.version (seen c.self.inside.schema c.self.inside.nodes.items c.self.inside.generation) c.self.invariant.view))

pub returns-clause-most : goal.returns-clause-most
returns-clause-most c = rw (c.measure_at.ensures, c.deref.ensures.value) (view-bounded c.args.version (seen c.self.inside.schema c.self.inside.nodes.items c.self.inside.generation) c.self.invariant.view)
