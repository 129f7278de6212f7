use Rattle.journal_views.proofs.Writes.{few-writers}
use Rattle.journal_views.proofs.Reading.{regions-read, held-read, documents-read}
use Rattle.journal_views.proofs.laws.journals_are_read.Goals as goal

pub returns : goal.returns
returns c = record {
  regions = λ S some J l n key. regions-read S J l n key;
  held = λ S some J l n id s h. held-read c.entries_are_written.ensures.stamped S J l n id s h;
  documents = λ S some J l types fit n id. documents-read c.entries_are_written.ensures.stamped S J l types fit n id;
  few = λ S some J l most h. few-writers S J l most h;
}
