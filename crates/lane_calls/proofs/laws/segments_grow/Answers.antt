use Rattle.lane_calls.proofs.Calling.{segment-grows, segment-holds, segment-same, segment-kept, segment-own, segment-goes}
use Rattle.lane_calls.proofs.Giving.{segment-gives}
use Rattle.lane_calls.proofs.laws.segments_grow.Goals as goal

pub returns : goal.returns
returns c = record {
  grows = λ feeders lines first last s. segment-grows feeders lines first last s;
  holds = λ feeders lines first last s. segment-holds feeders lines first last s;
  same = λ feeders lines first last s. segment-same feeders lines first last s;
  kept = λ feeders lines first last s. segment-kept feeders lines first last s;
  gives = segment-gives;
  own = λ feeders lines first last s at u found. segment-own feeders lines first last s at u found;
  goes_on = λ feeders lines first last next s call holds. segment-goes feeders lines first last s next call holds;
}
