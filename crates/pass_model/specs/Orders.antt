-- What is asked of the rows where the turns of a pass begin, and of the Deletes that are sent again.
use Rattle.std.specs.Prelude.{◌≡◌, ℕ, true, List, [], ◌∷◌}
use Rattle.bucket_ids.specs.Buckets.{IsBucket}
use Rattle.lane_rest.specs.Targets.{is_active}
use Rattle.pass_model.specs.Rows.{Settings, Row}
use Rattle.pass_model.specs.Passes.{AllRows}
use Rattle.pass_model.specs.Resting.{AreApart}
use Rattle.pass_model.specs.Sweeps.{Rises}
use Rattle.pass_model.specs.Turns.{Unanswered}

-- the active node serves, if there is one
abbrev pub ActiveServes : Settings → Row → Type 0
ActiveServes s r = (n : ℕ) → is_active r.active n ≡ true → s.serving n ≡ true

-- no key lies in two rows, they stand in rising number, and each active node serves
pub record AreInOrder (s : Settings) (rows : List Row) : Type 0 where
  pub apart : AreApart rows
  pub rises : Rises 0 rows
  pub serve : AllRows (ActiveServes s) rows

-- each is of a bucket
abbrev pub AreOfBuckets : List Unanswered → Type 0
AreOfBuckets [] = Unit {0}
AreOfBuckets (d ∷ ds) = IsBucket d.bucket × AreOfBuckets ds
