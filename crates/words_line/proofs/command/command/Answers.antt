use Rattle.std.proofs.Common.{◌≡◌, ◌∙◌, ap, codes}
use Rattle.std.proofs.lemmas.Result.{IfOk-weaker}
use Rattle.clap.specs.Words.{App, Text, app_of, with_rule}
use Rattle.words_line.specs.Command.{option_rule, the_command}
use Rattle.words_line.proofs.command.command.Goals as goal

-- two more options on a known command
onto : {x a b : App} (one two : Text) → x ≡ with_rule (with_rule a (option_rule one)) (option_rule two) → a ≡ b → x ≡ with_rule (with_rule b (option_rule one)) (option_rule two)
onto one two e f = e ∙ ap (λ app. with_rule (with_rule app (option_rule one)) (option_rule two)) f

pub returns : goal.returns
returns c = IfOk-weaker c.with_two-5.result _ (λ r. app_of r ≡ the_command)
    (λ r e. onto (codes "generate") (codes "count") e
    (onto (codes "schema") (codes "state") c.in_ok-texts.ensures
    (onto (codes "searchable") (codes "split-at") c.in_ok-limits.ensures
    (onto (codes "redundancy") (codes "acks") c.in_ok-copies.ensures
    (onto (codes "feeders") (codes "bits") c.in_ok-lanes.ensures c.bare_command.ensures)))))
    c.with_two-5.ensures
