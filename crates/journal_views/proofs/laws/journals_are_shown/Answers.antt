use Rattle.lane_changes.specs.Changes.{changes_of}
use Rattle.journal_views.proofs.Folds.{counted}
use Rattle.journal_views.proofs.Standing.{Given}
use Rattle.journal_views.proofs.Reading.{reads, views, lies, fronts-read, first-changes}
use Rattle.journal_views.proofs.laws.journals_are_shown.Goals as goal

pub returns : goal.returns
returns c = record {
  shown = λ S some J l types lane room. reads given S some lane types J l room;
  fronts = λ S some J l types lane room. fronts-read given S some J l types lane room;
  view = λ S some J l types lane room. views given S some lane types J l room;
  lane = λ S some J l types lane room. lies given S some lane types J l room;
  counted = λ types J. counted types (changes_of J);
  grows = first-changes;
}
  where
    given : Given
    given = record {
      stamped = c.entries_are_written.ensures.stamped;
      views = c.views_keep.ensures;
      rooms = c.entries_find_room.ensures;
      room_activated = c.deeds_find_room.ensures.activated;
      room_united = c.deeds_find_room.ensures.united;
      deed_shown = c.deeds_are_shown.ensures.deed;
      adoption_shown = c.deeds_are_shown.ensures.adoption;
      once = c.regions_count_once.ensures.apart;
    }
