use Rattle.std.proofs.Common.{arith, rules}
use Rattle.std.proofs.lemmas.List.Sorted.{IsNonDecreasingBy-from_sort_by_key}
use Rattle.bucket_ids.specs.Printed.{number_of}
use Rattle.bucket_db.proofs.Coarsest.{coarsest_parts, valid_moved}
use Rattle.bucket_db.proofs.RowLists.{are_rows, rises_from}
use Rattle.bucket_db.proofs.answers.buckets_of.Goals as goal

pub returns-clause-coarsest : goal.returns-clause-coarsest
returns-clause-coarsest c = coarsest_parts c.args.lane c.args.answers.now c.in_ok-buckets.buckets.items _ c.in_ok-buckets.ensures.whole c.in_ok-buckets.ensures c.sort_unstable_by_key.ensures.permutation

pub returns-clause-valid : goal.returns-clause-valid
returns-clause-valid c = valid_moved c.in_ok-buckets.buckets.items _ c.in_ok-buckets.ensures.valid c.sort_unstable_by_key.ensures.permutation

pub returns-clause-rising : goal.returns-clause-rising
returns-clause-rising c =
    let parts = c.in_ok-buckets.buckets.items in
    let whole = coarsest_parts c.args.lane c.args.answers.now parts _ c.in_ok-buckets.ensures.whole c.in_ok-buckets.ensures c.sort_unstable_by_key.ensures.permutation in
    let valid = valid_moved parts _ c.in_ok-buckets.ensures.valid c.sort_unstable_by_key.ensures.permutation in
    let rises = rises_from 0 _ (λ j d lt. omega arith) (IsNonDecreasingBy-from_sort_by_key number_of _ c.sort_unstable_by_key.ensures.sorted (λ a r q k. search rules)) in
    (are_rows c.args.lane _ c.in_ok-buckets.ensures.whole valid whole.partition rises).rising
