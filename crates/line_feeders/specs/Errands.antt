-- What a feeder is after its lines were run.
use Rattle.std.specs.Prelude.{◌≡◌, ◌<◌, ◌≤◌, ℕ, Bool, true, false, List, length, Option, None, Some, slice_get, slice_index_or}
use Rattle.line_feeders.specs.declared.feeder.Errand.{Errand}
use Rattle.line_feeders.specs.declared.feeder.Feeder.{Feeder}
use Rattle.line_feeders.specs.declared.turns.Went.{Went}
use Rattle.line_feeders.specs.Calls.{Call, RanTo}

-- the line was run at its lock, if there is one, and has its outcome or not
abbrev pub RanAt : (ℕ → Call → ℕ → Went → Type 0) → Option ℕ → ℕ → Bool → Type 0
RanAt answers None place over = over ≡ false
RanAt answers (Some lock) place over = RanTo (answers lock) place over

-- a line of a feeder was run, and has its outcome or not
abbrev pub RanErrand : (ℕ → Call → ℕ → Went → Type 0) → List ℕ → Errand → Bool → Type 0
RanErrand answers locks errand over = RanAt answers (slice_get locks errand.lock) errand.place over

-- the same, but how many of its lines are done: each of these was run to its outcome, and the next one, if there is one,
-- was run and has none
pub record WasRun (answers : ℕ → Call → ℕ → Went → Type 0) (locks : List ℕ) (old new : Feeder) : Type 0 where
  pub errands : new.errands ≡ old.errands
  pub done : new.done ≤ length (new.errands).items
  pub over : (at : ℕ) (errand : Errand) → at < new.done → slice_get (old.errands).items at ≡ Some errand → RanErrand answers locks errand true
  pub left : (errand : Errand) → slice_get (old.errands).items new.done ≡ Some errand → RanErrand answers locks errand false

-- all of them were
abbrev pub WereRun : (ℕ → Call → ℕ → Went → Type 0) → List ℕ → List Feeder → List Feeder → Type 0
WereRun answers locks olds news = (at : ℕ) (f : Feeder) → at < length olds → WasRun answers locks (slice_index_or olds at f) (slice_index_or news at f)
