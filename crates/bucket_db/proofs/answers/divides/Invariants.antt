use Rattle.std.proofs.Common.{◌≡◌, take, false}
use Rattle.std.specs.List.{list_any}
use Rattle.bucket_db.specs.Answers.{is_inside}
use Rattle.bucket_db.proofs.answers.divides.Given as goal

abbrev pub invariant-loop-answer : goal.invariant-loop-answer
invariant-loop-answer l = list_any (is_inside l.bucket) (take l.answer-index l.answers) ≡ false
