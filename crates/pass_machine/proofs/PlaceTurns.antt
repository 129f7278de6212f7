-- Rounds of the row of a bucket, and splits, as in the abstract.
use Rattle.std.proofs.Common.{◌≡◌, ◌∙◌, ◌&&◌, not, ℕ, suc, ◌+◌, Bool, true, false, cond, List, [], ◌∷◌, Option, Some, refl, sym, ap, subst, arith, nat_lt, slice_get, if◌then◌else◌}
use Rattle.bucket_ids.specs.Buckets.{Low}
use Rattle.bucket_ids.specs.Printed.{number_of}
use Rattle.bucket_db.specs.declared.row.Row.{Row}
use Rattle.pass_model.specs.Shapes.{Shape}
use Rattle.pass_model.specs.Rows as rest
use Rattle.pass_model.specs.Rows.{Settings}
use Rattle.pass_model.specs.Passes.{World}
use Rattle.pass_model.specs.Turns as turns
use Rattle.pass_model.specs.Turns.{Stand, stand, turn_at, by_row, round_of, round_then, is_full, with_children, place_where}
use Rattle.pass_machine.specs.declared.notes.RowNote.{RowNote}
use Rattle.pass_machine.specs.Places.{place_of, is_full_by}
use Rattle.pass_machine.specs.Abstract.{row_with, AreOfBuckets}
use Rattle.pass_machine.proofs.SettleTurns.{next-one}

-- ---- where the row of a bucket stands

pub place_same : (b : Low) (rows : List Row) (rs : List rest.Row) → AreOfBuckets rows rs → place_of b rows ≡ turns.place_of b rs
place_same b [] [] h = refl
place_same b (x ∷ xs) (r ∷ rs) (same, h) =
    ap (λ (c : Low). cond (nat_lt (number_of c) (number_of b)) (1 + place_of b xs) 0) same ∙ by_test (place_same b xs rs h) (nat_lt (number_of r.bucket) (number_of b))
  where
    by_test : place_of b xs ≡ turns.place_of b rs → (t : Bool) → cond t (1 + place_of b xs) 0 ≡ (if not t then 0 else suc (turns.place_of b rs))
    by_test e true = let one : 1 + place_of b xs ≡ suc (place_of b xs) = omega arith in one ∙ ap suc e
    by_test e false = refl
place_same b [] (r ∷ rs) h = absurd h
place_same b (x ∷ xs) [] h = absurd h

-- ---- rounds

module _ (s : Settings) (w : World) (r : rest.Row) where
  pub rounds_row : (at : ℕ) → slice_get w.rows at ≡ Some r → turn_at s (turns.Rounding at) w ≡ stand (turns.Rounding (at + 1)) (round_of s at r w)
  rounds_row at seen =
      ap (λ (o : Option rest.Row). by_row o (turns.begin_joins turns.First w) (λ q. stand (turns.Rounding (suc at)) (round_of s at q w))) seen
      ∙ ap (λ (k : ℕ). stand (turns.Rounding k) (round_of s at r w)) (next-one at)

  pub rounds_bucket : (b : Low) (next : turns.Doing) (rows : List Row) → AreOfBuckets rows w.rows → slice_get w.rows (place_of b rows) ≡ Some r → round_then s b next w ≡ stand next (round_of s (place_of b rows) r w)
  rounds_bucket b next rows are seen =
      let same = sym (place_same b rows w.rows are) in
      subst (λ (k : ℕ). by_row (slice_get w.rows k) (stand next w) (λ q. stand next (round_of s k q w)) ≡ stand next (round_of s (place_of b rows) r w)) (sym same)
      (ap (λ (o : Option rest.Row). by_row o (stand next w) (λ q. stand next (round_of s (place_of b rows) q w))) seen)

-- ---- splits

module _ (s : Settings) (split_at : ℕ) (same_most : s.split_at ≡ split_at) (w : World) (at : ℕ) (row : Row) (note : RowNote) (shown : ℕ → Shape) (seen : slice_get w.rows at ≡ Some (row_with shown (Some note) row)) where
  abbrev one : rest.Row
  one = row_with shown (Some note) row

  abbrev split-turn : Bool → Stand
  split-turn full = if full then stand (turns.SplitTold at row.bucket 0) (record { nodes = w.nodes; rows = with_children at one w.rows }) else stand (turns.Splitting (suc at)) w

  split-is : turn_at s (turns.Splitting at) w ≡ split-turn (is_full_by split_at row.bucket.bits (Some note.documents))
  split-is =
      ap (λ (o : Option rest.Row). by_row o (stand (turns.Settling turns.First 0) w) (turns.split_at_place s at w)) seen
      ∙ ap (λ (k : ℕ). split-turn (nat_lt row.bucket.bits 58 && nat_lt k note.documents)) same_most

  pub split_row : is_full_by split_at row.bucket.bits (Some note.documents) ≡ true → turn_at s (turns.Splitting at) w ≡ stand (turns.SplitTold at row.bucket 0) (record { nodes = w.nodes; rows = with_children at one w.rows })
  split_row h = split-is ∙ ap split-turn h

  pub row_stays : is_full_by split_at row.bucket.bits (Some note.documents) ≡ false → turn_at s (turns.Splitting at) w ≡ stand (turns.Splitting (at + 1)) w
  row_stays h = split-is ∙ (ap split-turn h ∙ ap (λ (k : ℕ). stand (turns.Splitting k) w) (next-one at))
