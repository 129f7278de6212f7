use Rattle.lane_keeping.proofs.Events.{keeps-quiet, keeps-going, keeps-taken, returned-next, keeps-answered}
use Rattle.lane_keeping.specs.Replaying.{delivered}
use Rattle.lane_keeping.proofs.laws.events_are_kept.Goals as goal

pub returns-clause-quiet : goal.returns-clause-quiet
returns-clause-quiet c = λ lane rules J newest last nodes parts keep e q step. keeps-quiet lane rules J newest last nodes parts keep c.nodes_wait.ensures.waits e q step

pub returns-clause-sent : goal.returns-clause-sent
returns-clause-sent c = λ lane rules J newest last nodes parts keep m step brings whole. keeps-going lane rules J newest last nodes parts keep c.messages_fly.ensures.sent m step brings whole

pub returns-clause-taken : goal.returns-clause-taken
returns-clause-taken c = λ lane rules J newest last nodes parts keep number m r now flight runs taken. keeps-taken lane rules J newest last nodes parts keep c.nodes_replay.ensures.permitted c.nodes_replay.ensures.keeps c.nodes_wait.ensures.apart number m r now flight runs taken

pub returns-clause-returned : goal.returns-clause-returned
returns-clause-returned c = λ lane rules J newest last nodes parts keep number m flight other there once. returned-next lane rules J newest last nodes parts keep number m flight other there once

pub returns-clause-answered : goal.returns-clause-answered
returns-clause-answered c = λ lane rules J newest last nodes parts keep number m r now just runs other taken. keeps-answered lane rules J newest last nodes parts number m r now
    (keeps-taken lane rules J newest last nodes parts keep c.nodes_replay.ensures.permitted c.nodes_replay.ensures.keeps c.nodes_wait.ensures.apart number m r now just.flight runs taken)
    (c.messages_fly.ensures.stays J (delivered number r) number m just.flight) just other
