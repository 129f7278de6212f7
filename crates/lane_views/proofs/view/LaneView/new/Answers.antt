use Rattle.lane_views.proofs.SoundLaws.{sound-opening, seen-opening}
use Rattle.lane_views.proofs.view.LaneView.new.Goals as goal

pub invariant_of-result : goal.invariant_of-result
invariant_of-result c = rw (c.in_ok-copy.ensures, c.in_ok-new_nodes.ensures) (sound-opening c.args.schema.now)

pub returns : goal.returns
returns c = rw (c.in_ok-copy.ensures, c.in_ok-new_nodes.ensures) (seen-opening c.args.schema.now)
