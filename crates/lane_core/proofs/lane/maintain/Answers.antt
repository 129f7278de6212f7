use Rattle.lane_core.proofs.UpkeepSpans.{span_told, pass_told}
use Rattle.lane_core.proofs.lane.maintain.Goals as goal

pub returns-in-Rested : goal.returns-in-Rested
returns-in-Rested g c = record {
  ok = pass_told c.args.lane.now.lane c.upkeep-answer.new.self.lane _ c.upkeep-answer.result c.in-Rested.is c.upkeep-answer.ensures.passes
      (span_told c.args.lane.now.lane c.upkeep-answer.new.self.lane c.journal.result.now c.journal-2.result.now c.journal.ensures.events c.journal-2.ensures.events c.upkeep-answer.result c.in-Rested.is
      (c.undisturbed_upkeeps_rest.ensures c.args.lane.now.lane c.upkeep-answer.new.self.lane c.upkeep-answer.result c.journal.ensures.lane c.journal-2.ensures.lane c.upkeep-answer.ensures.upkept) c.upkeep-answer.ensures.upkept);
  err = tt;
  holds = c.journal-2.ensures.lane;
  shelf = c.upkeep-answer.ensures.shelf;
}
