use Rattle.round_keeping.proofs.Sending.{next-legal, next-brings, next-whole, next-knows, next-awaited}
use Rattle.round_keeping.proofs.laws.rounds_send.Goals as goal

pub returns : goal.returns
returns c = record {
  legal = next-legal;
  brings = next-brings;
  whole = next-whole;
  knows = next-knows;
  awaited = next-awaited;
}
