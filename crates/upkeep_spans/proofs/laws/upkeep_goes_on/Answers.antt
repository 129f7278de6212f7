use Rattle.upkeep_spans.specs.Spans.{Nothing, More}
use Rattle.upkeep_spans.proofs.Leaving as leaving
use Rattle.upkeep_spans.proofs.laws.upkeep_goes_on.Goals as goal

pub returns : goal.returns
returns c = record {
  none = λ d v J. Nothing;
  one_more = λ d v J K e is more. More K e is more;
  further = leaving.further;
  dealt = leaving.dealt;
  delivered = leaving.delivered;
  span = leaving.span;
  behind = leaving.behind;
  before = leaving.before;
}
