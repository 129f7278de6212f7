-- The two halves of a lane.
use Rattle.std.proofs.Common.{◌≡◌, ℕ, ◌^◌, ◌<◌, Bool, true, false, refl, arith, inl, inr, ◌⊎◌}
use Rattle.bucket_ids.specs.Buckets.{IsBucket}
use Rattle.lane_journals.specs.Buckets.{Bucket, contains, first_child, second_child, across}
use Rattle.lane_journals.proofs.BucketLaws.{second_in, children_apart}
use Rattle.journal_examples.specs.WrongSteps.{whole, half}

pub whole_bucket : IsBucket whole
whole_bucket = record { some = omega arith; most = omega arith; fits = omega arith }

pub first-fits : (first_child whole).low < 2 ^ (first_child whole).bits
unfolding first_child
first-fits = omega arith

pub second_is : ◌≡◌ {A = Bucket} (second_child whole) half
unfolding second_child
second_is = refl

pub half-in : (key : ℕ) → contains half key ≡ true → contains whole key ≡ true
half-in key h = second_in whole key (omega arith) (rw second_is h)

pub half-out : (key : ℕ) → contains half key ≡ true → contains (first_child whole) key ≡ false
half-out key h = flip (contains (first_child whole) key) refl
  where
    flip : (t : Bool) → contains (first_child whole) key ≡ t → t ≡ false
    flip true e = absurd (children_apart whole key e (rw second_is h))
    flip false e = refl

low_out : contains half 1 ≡ false
unfolding contains
low_out = refl

low_in : contains whole 1 ≡ true
unfolding contains
low_in = refl

over : (key : ℕ) → contains (first_child whole) key ≡ false → across whole key ≡ 1
unfolding across
over key e = rw e refl

-- of a key and the one across, one doesn't lie in the second half
pub either-half : (key : ℕ) → (contains half key ≡ false) ⊎ ((contains half (across whole key) ≡ false) × (contains whole (across whole key) ≡ true))
either-half key = by_test (contains (first_child whole) key) refl
  where
    flip : (t : Bool) → contains (first_child whole) key ≡ true → contains half key ≡ t → t ≡ false
    flip true e h = absurd (children_apart whole key e (rw second_is h))
    flip false e h = refl

    by_test : (t : Bool) → contains (first_child whole) key ≡ t → (contains half key ≡ false) ⊎ ((contains half (across whole key) ≡ false) × (contains whole (across whole key) ≡ true))
    by_test true e = inl (flip (contains half key) e refl)
    by_test false e = let x = over key e in inr (rw x low_out, rw x low_in)
