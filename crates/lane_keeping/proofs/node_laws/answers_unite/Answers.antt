use Rattle.lane_keeping.proofs.Uniting.{union-begins, union-stays, union-joins, union-lies, union-unites}
use Rattle.lane_keeping.proofs.node_laws.answers_unite.Goals as goal

pub returns : goal.returns
returns c = record { begins = union-begins; stays = union-stays; joins = union-joins; lies = union-lies; unites = union-unites }
