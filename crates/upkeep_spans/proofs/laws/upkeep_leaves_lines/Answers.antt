use Rattle.std.proofs.Common.{ap}
use Rattle.lane_journals.specs.Meanings.{id_in}
use Rattle.upkeep_spans.proofs.Leaving as leaving
use Rattle.upkeep_spans.proofs.Kept as kept
use Rattle.upkeep_spans.proofs.laws.upkeep_leaves_lines.Goals as goal

pub returns : goal.returns
returns c = record {
  began = kept.began-stays;
  prepared = kept.prepared-stays;
  wrote = kept.wrote-stays;
  closed = kept.closed-stays;
  refused = kept.refused-stays;
  stamps = kept.stamps_of-stays;
  before = kept.before_line-stays;
  idle = λ d v J K h. leaving.idle d v J K h (kept.began-stays d v J K h) (kept.prepared-stays d v J K h) (kept.closed-stays d v J K h);
  acked = leaving.acked;
  entries = kept.entry-stays;
  documents = λ d v J K h s. ap id_in (kept.entry-stays d v J K h s);
}
