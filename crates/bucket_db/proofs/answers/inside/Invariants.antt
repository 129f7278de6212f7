use Rattle.std.proofs.Common.{◌≡◌, take}
use Rattle.std.specs.List.{filter}
use Rattle.bucket_db.specs.Answers.{is_inside}
use Rattle.bucket_db.proofs.answers.inside.Given as goal

abbrev pub invariant-loop-answer : goal.invariant-loop-answer
invariant-loop-answer l = l.all.items ≡ filter (is_inside l.bucket) (take l.answer-index l.answers)
