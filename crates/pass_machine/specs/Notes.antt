-- What the notes of a pass say of a row.
use Rattle.std.specs.Prelude.{◌==◌, ◌&&◌, ℕ, Option, Some, None, if◌then◌else◌}
use Rattle.std.specs.Ordering.{nat_cmp}
use Rattle.std.specs.BTreeMap.{BTreeMap, get}
use Rattle.bucket_ids.specs.Buckets.{Low}
use Rattle.bucket_ids.specs.Printed.{number_of}
use Rattle.pass_machine.specs.declared.notes.RowNote.{RowNote}

-- the note, where it is of the bucket
abbrev pub of_bucket : Low → Option RowNote → Option RowNote
of_bucket b None = None
of_bucket b (Some note) = if (note.bucket).bits == b.bits && (note.bucket).low == b.low then Some note else None

-- the note of a row: that by the number of its bucket
abbrev pub note_for : Low → BTreeMap ℕ RowNote → Option RowNote
note_for b notes = of_bucket b (get nat_cmp notes (number_of b))

-- the note, where the round had all its answers
abbrev pub whole_in : Option RowNote → Option RowNote
whole_in None = None
whole_in (Some note) = if note.whole then Some note else None

-- how many documents a row has, which is known only where its last round had all its answers
abbrev pub documents_in : Option RowNote → Option ℕ
documents_in None = None
documents_in (Some note) = if note.whole then Some note.documents else None
