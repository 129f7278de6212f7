use Rattle.lane_lives.proofs.Fed.{fed_serves}
use Rattle.lane_lives.proofs.laws.segments_serve.Goals as goal

pub returns : goal.returns
returns c = let laws = c.segments_grow.ensures in fed_serves laws.grows laws.holds laws.same laws.kept
