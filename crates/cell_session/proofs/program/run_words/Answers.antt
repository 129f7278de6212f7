use Rattle.std.proofs.Common.{◌∙◌, Err, ap}
use Rattle.cell_session.proofs.ProgramLaws.{alone_session, fed_session, wrong_session, no_session}
use Rattle.cell_session.proofs.program.run_words.Goals as goal

pub returns-in-Err-Usage : goal.returns-in-Err-Usage
returns-in-Err-Usage g c = wrong_session _ (c.read_choice.ensures.usage (c.in-Err-Usage.is ∙ ap Err c.in-Err-Usage.field-0-is)) _ _ _ _ _ _ c.refuse_words.ensures.ended

pub returns-in-Err-NoMemory : goal.returns-in-Err-NoMemory
returns-in-Err-NoMemory g c = no_session _ _ _ c.args.cluster.now _ c.requires

pub returns-then-feeders-eq0 : goal.returns-then-feeders-eq0
returns-then-feeders-eq0 g c =
    let run = c.run_one.ensures in
    alone_session _ c.in-Ok.choice c.in-Ok.ensures.chosen c.if-feeders-eq0.true _ _ _ _ _ _ run.legal_lanes
    (λ x p. record { dealt_with = run.dealt_with x p; lines = run.lines x p; written = run.bytes_written x p })

pub returns-else-feeders-eq0 : goal.returns-else-feeders-eq0
returns-else-feeders-eq0 g c =
    let run = c.run_many.ensures in
    fed_session _ c.in-Ok.choice c.in-Ok.ensures.chosen c.if-feeders-eq0.false _ _ _ _ _ _ run.legal_lanes
    (λ x p. record { dealt_with = run.dealt_with x p; lines = run.lines x p; written = run.bytes_written x p })
