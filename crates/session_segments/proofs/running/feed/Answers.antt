use Rattle.std.proofs.Common.{◌^◌, length, sym, ap, ◌∙◌}
use Rattle.proof_basics.proofs.Results.{on_either}
use Rattle.session_cluster.specs.Cells.{ShownCell}
use Rattle.session_cluster.proofs.ShelvedLanes.{cell_of}
use Rattle.session_segments.specs.Lanes.{HaveAllRun}
use Rattle.session_segments.proofs.LaneRuns.{may_each, run_from, taken_many, put_back, put_opened, taken_opened, have_run, still_opened}
use Rattle.session_segments.proofs.running.feed.Goals as goal

pub run_ready-ran-requires-clause-may : goal.run_ready-ran-requires-clause-may
run_ready-ran-requires-clause-may g c κs lives =
    may_each (length c.args.feeders.now) c.ready_lanes.new.ready.items c.take_lanes.result.items c.args.lists.items c.args.session.now.cell c.ready_lanes.ensures.lanes c.ready_lanes.ensures.lists c.take_lanes.ensures.lanes c.requires.may

pub put_lanes-requires : goal.put_lanes-requires
put_lanes-requires g c =
    let many = on_either c.run_ready-ran.result c.run_ready-ran.ensures.ran c.run_ready-ran.ensures.same (λ run. run.count) (λ same. ap length same) in
    record {
      all = many ∙ (ap length c.ready_lanes.ensures.lanes ∙ (taken_many c.take_lanes.result.items c.args.session.now.cell.lanes c.take_lanes.ensures.lanes ∙ (c.requires.all ∙ ap (λ (s : ShownCell). 2 ^ s.cell.bits) (sym c.take_lanes.ensures.rest))));
    }

pub returns-clause-ran : goal.returns-clause-ran
returns-clause-ran g c =
    let feeders = length c.args.feeders.now in
    let olds = c.take_lanes.result.items in
    let news = c.run_ready-ran.new.lanes.items in
    let ran : HaveAllRun feeders olds c.args.lists.items news c.run_ready-ran.new.stages.items
    = run_from feeders c.ready_lanes.new.ready.items olds news c.args.lists.items c.run_ready-ran.new.stages.items c.ready_lanes.ensures.lanes c.ready_lanes.ensures.lists c.in_ok-ran.ensures.ran in
    have_run feeders c.args.lists.items c.args.session.now.cell c.put_lanes.new.self.cell olds news c.run_ready-ran.new.stages.items c.take_lanes.ensures.lanes
    (ap cell_of (put_back c.args.session.now c.take_lanes.new.self c.put_lanes.new.self news c.take_lanes.ensures.rest c.put_lanes.ensures)) c.requires.many ran

pub returns-clause-opened : goal.returns-clause-opened
returns-clause-opened g c =
    let feeders = length c.args.feeders.now in
    let olds = c.take_lanes.result.items in
    let news = c.run_ready-ran.new.lanes.items in
    let back = put_back c.args.session.now c.take_lanes.new.self c.put_lanes.new.self news c.take_lanes.ensures.rest c.put_lanes.ensures in
    let ran : HaveAllRun feeders olds c.args.lists.items news c.run_ready-ran.new.stages.items
    = run_from feeders c.ready_lanes.new.ready.items olds news c.args.lists.items c.run_ready-ran.new.stages.items c.ready_lanes.ensures.lanes c.ready_lanes.ensures.lists c.in_ok-ran.ensures.ran in
    put_opened c.args.session.now c.put_lanes.new.self news back
    (still_opened feeders c.args.lists.items c.args.session.now.cell c.put_lanes.new.self.cell olds news c.run_ready-ran.new.stages.items c.take_lanes.ensures.lanes (ap cell_of back) c.requires.many ran
    (taken_opened c.args.session.now olds c.take_lanes.ensures.lanes c.take_lanes.ensures.shelves c.requires.opened))
