use Rattle.lane_journals.proofs.Meant.{meant-legal}
use Rattle.lane_journals.proofs.laws.kept_journals_mean_legal_ones.Goals as goal

pub returns : goal.returns
returns c = meant-legal
