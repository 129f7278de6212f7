use Rattle.lane_keeping.proofs.Asking.{ask-sent, keeps-back}
use Rattle.lane_keeping.proofs.laws.asks_are_kept.Goals as goal

pub returns-clause-sent : goal.returns-clause-sent
returns-clause-sent c = λ lane rules J newest last nodes parts keep d m a. ask-sent lane rules J newest last nodes parts keep (c.events_are_kept.ensures.sent lane rules J newest last nodes parts keep) d m a

pub returns-clause-returned : goal.returns-clause-returned
returns-clause-returned c = λ lane rules J newest last nodes parts keep number m r now d after j runs t a told. keeps-back lane rules J newest last nodes parts keep number m r now j.flight t
    (c.events_are_kept.ensures.taken lane rules J newest last nodes parts keep number m r now j.flight runs t) d after a j.unreplied j.unreturned told
