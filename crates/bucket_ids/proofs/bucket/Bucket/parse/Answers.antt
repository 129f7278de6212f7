use Rattle.std.proofs.Common.{◌∙◌, sym}
use Rattle.std.proofs.lemmas.Result.{IfOk-weaker, on_err_weaker}
use Rattle.bucket_ids.proofs.HexDigits.{reads_as, no_bucket, no_number, read_exactly}
use Rattle.bucket_ids.proofs.bucket.Bucket.parse.Goals as goal

pub returns-in-Some-clause-read : goal.returns-in-Some-clause-read
returns-in-Some-clause-read c =
    IfOk-weaker _ _ _ (reads_as _ _ (sym c.as_bytes.ensures.value ∙ c.in-Some.ensures.1)) c.of_number.ensures.read

pub returns-in-Some-clause-refused : goal.returns-in-Some-clause-refused
returns-in-Some-clause-refused c =
    let e = sym c.as_bytes.ensures.value ∙ c.in-Some.ensures.1 in
    on_err_weaker _ (no_bucket _ _ e c.in-Some.ensures.0) c.of_number.ensures.refused

pub returns-in-Some-clause-exact : goal.returns-in-Some-clause-exact
returns-in-Some-clause-exact c =
    let e = sym c.as_bytes.ensures.value ∙ c.in-Some.ensures.1 in
    read_exactly _ _ (IfOk-weaker _ _ _ (reads_as _ _ e) c.of_number.ensures.read) (on_err_weaker _ (no_bucket _ _ e c.in-Some.ensures.0) c.of_number.ensures.refused)

pub returns-in-None-clause-refused : goal.returns-in-None-clause-refused
returns-in-None-clause-refused c = λ b ok e. no_number _ c.in-None.ensures b (c.as_bytes.ensures.value ∙ e)

pub returns-in-None-clause-exact : goal.returns-in-None-clause-exact
returns-in-None-clause-exact c = λ b ok e. absurd (no_number _ c.in-None.ensures b (c.as_bytes.ensures.value ∙ e))
