-- Documents whose number is even lie in the lane of even keys.
use Rattle.std.proofs.Common.{◌≡◌, ℕ, ◌%◌, ◌^◌, Option, Some, true, refl, sym, ap, ◌∙◌, arith, eq-eqb}
use Rattle.document_ids.specs.Parts.{number_of, group_of}
use Rattle.global_ids.specs.Keys.{location_by, location_of}
use Rattle.global_ids.specs.Keys as keys
use Rattle.global_ids.proofs.KeyLaws.{key_locates}
use Rattle.lane_journals.specs.Buckets.{Id, contains, key_of}
use Rattle.journal_examples.specs.Lives.{lane}
use Rattle.lane_journals.proofs.BucketLaws.{low_of_low}

location-by : (o : Option ℕ) (g : Option Id) (id : Id) (number : ℕ) → o ≡ Some number → location_by o g id ≡ number % 2 ^ 32
location-by o g id number h = rw h refl

location-is : (id : Id) (number : ℕ) → number_of id ≡ Some number → location_of id ≡ number % 2 ^ 32
unfolding location_of
location-is id number h = location-by (number_of id) (group_of id) id number h

pub even-in : (id : Id) (number : ℕ) → number_of id ≡ Some number → number % 2 ≡ 0 → contains lane (key_of id) ≡ true
unfolding contains key_of
even-in id number h even =
    let at = location-is id number h in
    let key : keys.key_of id % 2 ^ 32 % 2 ^ 1 ≡ number % 2 ^ 32 % 2 ^ 1 = ap (λ (x : ℕ). x % 2 ^ 1) (key_locates id ∙ at) in
    eq-eqb _ _ (sym (low_of_low (keys.key_of id) 1 32 (omega arith)) ∙ key ∙ low_of_low number 1 32 (omega arith) ∙ even)
