use Rattle.std.proofs.Common.{sym, ◌∙◌, ap}
use Rattle.message_texts.specs.Parts.{bucket_in}
use Rattle.message_texts.proofs.BucketLaws.{printed_bucket, no_bucket}
use Rattle.message_texts.proofs.parts.bucket_in.Goals as goal

pub returns-in-Ok-clause-value : goal.returns-in-Ok-clause-value
returns-in-Ok-clause-value c = sym (ap bucket_in c.in-Ok.ensures.read.1 ∙ printed_bucket c.in-Ok.bucket c.in-Ok.ensures.read.0)

pub returns-in-Err-clause-value : goal.returns-in-Err-clause-value
returns-in-Err-clause-value c = sym (no_bucket c.args.text.now c.in-Err.ensures.refused)
