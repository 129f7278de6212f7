-- The entries of a bucket that are held, of all that a journal wrote.
use Rattle.std.specs.Prelude.{◌≡◌, true, List, [], ◌∷◌, Some, None}
use Rattle.std.specs.FinMap as fin
use Rattle.bucket_ids.specs.Buckets.{Low, has_key}
use Rattle.documents.specs.declared.entry.Entry.{Entry}
use Rattle.entry_maps.specs.EntryCodes.{Entries}
use Rattle.lane_journals.specs.Buckets.{Id, key_of}
use Rattle.lane_journals.specs.Events.{Content}
use Rattle.lane_journals.specs.Meanings.{entry_at}
use Rattle.lane_journals.specs.declared.event.LaneEvent.{LaneEvent}
use Rattle.lane_journals.specs.declared.event.LaneEvent.TheVariants.{Wrote}
use Rattle.lane_keeping.specs.NodeKeeping.{stamp_of}

-- no two entries were written with one stamp
abbrev pub AreOnce : List LaneEvent → Type 0
AreOnce [] = Unit {0}
AreOnce (Wrote line entry ∷ J) = (entry_at entry.stamp J ≡ None) × AreOnce J
AreOnce (_ ∷ J) = AreOnce J

-- the entries are written ones, and just those that are held of the bucket
pub record AreHeld (b : Low) (U : Content) (J : List LaneEvent) (u : Entries) : Type 0 where
  pub written : (id : Id) (e : Entry) → fin.get u id ≡ Some e → (e.id ≡ id) × (entry_at e.stamp J ≡ Some e)
  pub lies : (id : Id) (e : Entry) → fin.get u id ≡ Some e → has_key b (key_of id) ≡ true
  pub held : (id : Id) → has_key b (key_of id) ≡ true → stamp_of (fin.get u id) ≡ U id
