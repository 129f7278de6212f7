use Rattle.lane_durability.proofs.BelowReaders.{view}
use Rattle.lane_durability.proofs.Found.{acked-found}
use Rattle.lane_durability.proofs.KeptLaw.{kept-law, kept-history}
use Rattle.lane_durability.proofs.Law.{legal-below}
use Rattle.lane_durability.proofs.theorem.versions_below.Goals as goal

pub returns : goal.returns
returns c = record {
  law = λ acks some P J l v. (legal-below acks P v J l, λ n id. (view acks P v J l n).stores id);
  found = λ acks some P J l. acked-found acks P some J l;
  kept = kept-law;
  means = kept-history;
}
