use Rattle.lane_keeping.specs.LaneKeeping.{setting_of}
use Rattle.lane_promises.proofs.laws.lanes_are_durable.Goals as goal

pub returns : goal.returns
returns c lane rules some J legal =
    let k = c.kept_journals_are_durable.ensures in
    record {
      durable = k.durable (setting_of lane rules) some J legal;
      later = k.later (setting_of lane rules) some J legal;
      fresh = k.fresh (setting_of lane rules) some J legal;
      current = k.current (setting_of lane rules) some J legal;
      seen = k.seen (setting_of lane rules) some J legal;
      closed = k.closed (setting_of lane rules) some J legal;
      before = k.before (setting_of lane rules) some J legal;
      apart = k.apart (setting_of lane rules) some J legal;
      held = k.held (setting_of lane rules) some J legal;
    }
