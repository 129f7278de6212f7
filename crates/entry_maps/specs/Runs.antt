-- Where the slots lie whose paths are from a first one to a last one.
use Rattle.std.specs.Prelude.{◌≡◌, ℕ, ◌+◌, ◌<◌, ◌≤◌, length, take, drop}
use Rattle.std.specs.List.{AllWithin, count_by}
use Rattle.entry_maps.specs.declared.runs.Run.{Run}
use Rattle.entry_rows.specs.declared.chunks.Chunks.{Chunks}
use Rattle.entry_rows.specs.Chunks.{flat, place, IsSeat}
use Rattle.entry_rows.specs.Slots.{has_document}

-- the run begins at a seat, and its slots are there
pub record IsWhole (c : Chunks) (run : Run) : Type 0 where
  pub from : IsSeat c run.from
  pub within : place c run.from + run.entries ≤ length (flat c)

-- the run has all slots of such paths, and counts them and their documents
pub record IsRun (c : Chunks) (first last : ℕ) (run : Run) : Type 0 where
  pub from : IsSeat c run.from
  pub to : IsSeat c run.to
  pub many : place c run.from + run.entries ≡ place c run.to
  pub within : place c run.to ≤ length (flat c)
  pub documents : run.documents ≡ count_by has_document (take run.entries (drop (place c run.from) (flat c)))
  pub below : AllWithin (λ s. s.path < first) (flat c) 0 (place c run.from)
  pub low : AllWithin (λ s. first ≤ s.path) (flat c) (place c run.from) (length (flat c))
  pub high : AllWithin (λ s. s.path ≤ last) (flat c) (place c run.from) (place c run.to)
  pub past : AllWithin (λ s. last < s.path) (flat c) (place c run.to) (length (flat c))
