use Rattle.std.proofs.Common.{◌≡◌, ◌∙◌, ap, sym, subst, map, List}
use Rattle.bucket_ids.specs.Buckets.{Low}
use Rattle.bucket_db.specs.Answers.{IsCoarsest, new_row}
use Rattle.bucket_db.specs.Rows.{AreRows, buckets_of}
use Rattle.bucket_db.proofs.RowLists.{new_buckets}
use Rattle.bucket_db.proofs.bucket_db.BucketDb.of_answers.Goals as goal

pub invariant_of-result : goal.invariant_of-result
invariant_of-result c =
    let rows_are = c.in_ok-rows.ensures ∙ ap (map new_row) c.deref.ensures.value in
    let are : buckets_of c.in_ok-rows.rows.items ≡ c.in_ok-buckets.buckets.items = ap buckets_of rows_are ∙ new_buckets c.in_ok-buckets.buckets.items in
    subst (AreRows c.args.lane) (sym are) (record {
      bucket = c.in_ok-buckets.ensures.lane;
      valid = c.in_ok-buckets.ensures.valid;
      partition = c.in_ok-buckets.ensures.coarsest.partition;
      rising = c.in_ok-buckets.ensures.rising;
    })

pub returns-clause-coarsest : goal.returns-clause-coarsest
returns-clause-coarsest c =
    let rows_are = c.in_ok-rows.ensures ∙ ap (map new_row) c.deref.ensures.value in
    let are : buckets_of c.in_ok-rows.rows.items ≡ c.in_ok-buckets.buckets.items = ap buckets_of rows_are ∙ new_buckets c.in_ok-buckets.buckets.items in
    subst (λ (bs : List Low). IsCoarsest c.args.lane c.args.answers.now bs) (sym are) c.in_ok-buckets.ensures.coarsest

pub returns-clause-unmarked : goal.returns-clause-unmarked
returns-clause-unmarked c =
    let rows_are = c.in_ok-rows.ensures ∙ ap (map new_row) c.deref.ensures.value in
    let are : buckets_of c.in_ok-rows.rows.items ≡ c.in_ok-buckets.buckets.items = ap buckets_of rows_are ∙ new_buckets c.in_ok-buckets.buckets.items in
    rows_are ∙ ap (map new_row) (sym are)
