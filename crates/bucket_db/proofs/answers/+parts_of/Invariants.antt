use Rattle.std.proofs.Common.{◌-◌}
use Rattle.bucket_db.proofs.answers.+parts_of.Given as goal

-- how many bits more a bucket may have
abbrev pub decreases-parts_of : goal.decreases-parts_of
decreases-parts_of l = 58 - l.bucket.bits
