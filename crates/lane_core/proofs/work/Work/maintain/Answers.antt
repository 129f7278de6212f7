use Rattle.lane_states.specs.LaneStates.{journal_of}
use Rattle.lane_core.proofs.Upkeeping.{between-work, work-passed, rests-on}
use Rattle.lane_core.proofs.work.Work.maintain.Goals as goal

pub maintain-requires : goal.maintain-requires
maintain-requires g c = record { between = between-work c.args.self.now c.args.owner.now (g.C.Carrier.given c.args.carrier.now) c.requires.keeps c.requires.idle c.requires.carried c.requires.there c.requires.acting; newest = c.requires.newest }

pub returns-clause-keeps : goal.returns-clause-keeps
returns-clause-keeps g c =
    let x = c.args.self.now in
    let y = c.maintain.new.lane in
    let o = c.args.owner.now in
    let span = c.maintain.ensures.on.grows in
    work-passed x y o (g.C.Carrier.given c.maintain.new.carrier) c.requires.keeps c.requires.idle (record {
      begun = c.upkeep_leaves_lines.ensures.began o.distributor (o.state).version (journal_of x.state) (journal_of y) span;
      ended = c.upkeep_leaves_lines.ensures.closed o.distributor (o.state).version (journal_of x.state) (journal_of y) span;
      stamps = c.upkeep_leaves_lines.ensures.stamps o.distributor (o.state).version (journal_of x.state) (journal_of y) span;
    }) c.maintain.ensures.between c.maintain.ensures.on

pub returns-clause-rests : goal.returns-clause-rests
returns-clause-rests g c = rests-on c.maintain.result c.args.self.now c.maintain.new.lane (g.C.Carrier.given c.maintain.new.carrier) (returns-clause-keeps g c).set_up c.maintain.ensures.rests
