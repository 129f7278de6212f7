use Rattle.std.proofs.Common.{map}
use Rattle.journal_views.specs.Fronts.{seen_at}
use Rattle.journal_views.proofs.Counting.{Laws, are-lanes, counted-as}
use Rattle.journal_views.proofs.Covering.{full-where-read}
use Rattle.journal_views.proofs.laws.fronts_count_once.Goals as goal

pub returns : goal.returns
returns c = record {
  lanes = are-lanes laws;
  once = λ types w id fs h. c.searches_count_once.ensures.once w id (map (seen_at types) fs) (are-lanes laws types fs h);
  current = counted-as laws;
  full = λ types w fs h each. full-where-read laws types w fs h c.searches_count_once.ensures.found each;
}
  where
    laws : Laws
    laws = record {
      shown = c.journals_are_shown.ensures.shown;
      view = c.journals_are_shown.ensures.view;
      lane = c.journals_are_shown.ensures.lane;
      full = c.searches_count_once.ensures.full;
      there = c.searches_count_once.ensures.there;
      absent = c.searches_count_once.ensures.absent;
      held = c.journals_are_read.ensures.held;
      current = c.regions_count_once.ensures.current;
      small = c.keys_locate.ensures.small;
    }
