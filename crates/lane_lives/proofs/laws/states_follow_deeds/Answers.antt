use Rattle.lane_lives.proofs.Living.{events_told, states_published, newest_published}
use Rattle.lane_lives.proofs.laws.states_follow_deeds.Goals as goal

pub returns : goal.returns
returns c = record { events = events_told; states = states_published; newest = newest_published }
