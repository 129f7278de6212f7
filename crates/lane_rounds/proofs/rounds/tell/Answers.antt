use Rattle.lane_rounds.proofs.rounds.tell.Goals as goal

pub returns : goal.returns
returns c = record { read = c.take_reply.ensures.read; applied = c.take_reply.ensures.apply }
