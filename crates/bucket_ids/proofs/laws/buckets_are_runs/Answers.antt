use Rattle.bucket_ids.proofs.Turned.{bucket_run, run_within, paths_apart}
use Rattle.bucket_ids.proofs.laws.buckets_are_runs.Goals as goal

pub returns : goal.returns
returns c = record { run = bucket_run; within = run_within; apart = paths_apart }
