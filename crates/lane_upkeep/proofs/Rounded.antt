-- What is known behind a round of a row.
use Rattle.std.proofs.Common.{◌≡◌, ◌≢◌, ◌∙◌, ◌<◌, ℕ, List, Some, Result, Ok, Err, OnOk, length, sym, ap, subst}
use Rattle.std.specs.BTreeMap.{BTreeMap, Updates}
use Rattle.std.specs.Ordering.{nat_cmp}
use Rattle.std.proofs.lemmas.List.{length-map}
use Rattle.bucket_ids.specs.Buckets.{IsBucket}
use Rattle.bucket_ids.specs.Printed.{number_of}
use Rattle.bucket_db.specs.Rows.{AreRows, buckets_of}
use Rattle.bucket_db.specs.declared.row.Row.{Row}
use Rattle.bucket_db.proofs.RowLists.{some_at}
use Rattle.lane_states.specs.declared.lane_state.LaneState.{LaneState}
use Rattle.lane_states.specs.LaneStates.{journal_of}
use Rattle.pass_machine.specs.declared.notes.RowNote.{RowNote}
use Rattle.lane_upkeep.specs.declared.owner.Owner.{Owner}
use Rattle.lane_upkeep.specs.Notes.{KnowsNote}
use Rattle.lane_upkeep.specs.Noted.{AreNotes}
use Rattle.lane_upkeep.specs.Passing.{rows_in, HasRow}
use Rattle.lane_upkeep.proofs.Noting.{noted_next}
use Rattle.lane_upkeep.proofs.Permitted.{row_bucket}

pub on_both : {X E P Q R : Type 0} (r : Result X E) → (P → Q → R) → OnOk r P → OnOk r Q → OnOk r R
on_both (Ok x) f p q = f p q
on_both (Err e) f p q = p

-- rows of the same buckets are as many
pub same_count : (rows others : List Row) → buckets_of others ≡ buckets_of rows → length others ≡ length rows
same_count rows others same = sym (length-map others (λ (r : Row). r.bucket)) ∙ (ap length same ∙ length-map rows (λ (r : Row). r.bucket))

-- the notes with that of the round
pub round_noted : (c e : LaneState) (o : Owner) (at : ℕ) (note : RowNote) (before after : BTreeMap ℕ RowNote) → AreRows c.lane (buckets_of (rows_in c o)) → at < length (rows_in c o)
    → ((row : Row) → HasRow c o at row → note.bucket ≡ row.bucket) → KnowsNote (journal_of e) o.state note
    → ((other : RowNote) → other.bucket ≢ note.bucket → KnowsNote (journal_of c) o.state other → KnowsNote (journal_of e) o.state other)
    → AreNotes (journal_of c) o.state before → Updates nat_cmp before after (number_of note.bucket) (Some note) → AreNotes (journal_of e) o.state after
round_noted c e o at note before after whole place of_row knows stays are kept =
    let row = some_at (rows_in c o) at place in
    let valid : IsBucket note.bucket = subst IsBucket (sym (of_row row.0 row.1)) (row_bucket c.lane (rows_in c o) at row.0 whole row.1) in
    noted_next (journal_of c) (journal_of e) o.state before note are knows stays (number_of note.bucket) (λ i. number_of note.bucket) valid after kept.0
