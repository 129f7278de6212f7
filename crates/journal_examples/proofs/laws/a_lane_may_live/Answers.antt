use Rattle.journal_examples.proofs.InLane.{even-in}
use Rattle.journal_examples.proofs.LifeTwo.{live_b39, acked_one, acked_two, newest_kept, emptied}
use Rattle.journal_examples.proofs.laws.a_lane_may_live.Goals as goal

pub returns : goal.returns
returns c = record { legal = live_b39; acked_one = acked_one; acked_two = acked_two; kept = newest_kept; emptied = emptied; documents = even-in }
