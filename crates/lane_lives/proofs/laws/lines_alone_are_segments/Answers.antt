use Rattle.lane_lives.proofs.Alone.{alone_fed}
use Rattle.lane_lives.proofs.laws.lines_alone_are_segments.Goals as goal

pub returns : goal.returns
returns c = alone_fed c.lines_alone_grow.ensures.alone
