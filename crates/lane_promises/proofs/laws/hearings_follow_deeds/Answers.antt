use Rattle.lane_promises.proofs.Hearing.{told_hold, all_hear_newest}
use Rattle.lane_promises.proofs.laws.hearings_follow_deeds.Goals as goal

pub returns : goal.returns
returns c = record { hold = told_hold; hear = all_hear_newest }
