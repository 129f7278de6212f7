use Rattle.std.proofs.Common.{◌∙◌, ap, sym, map}
use Rattle.std.specs.String.{string_bytes}
use Rattle.clap.specs.Words.{App, fault_of, is_simple, is_simple_and_free, matches_of}
use Rattle.words_line.specs.Said.{matches, refusals}
use Rattle.words_line.proofs.TheCommand.{command_is_simple, command_is_free, other_kind}
use Rattle.words_line.proofs.command.parsed.Goals as goal

pub returns-in-Ok-clause-taken : goal.returns-in-Ok-clause-taken
unfolding refusals
returns-in-Ok-clause-taken c =
    let is = c.in_ok-command.ensures in
    ap (λ (a : App). fault_of a (map string_bytes c.args.words.now)) (sym is) ∙ c.in-Ok.ensures.kinds (ap is_simple_and_free is ∙ command_is_free)

pub returns-in-Ok-clause-rows : goal.returns-in-Ok-clause-rows
unfolding matches
returns-in-Ok-clause-rows c =
    let is = c.in_ok-command.ensures in
    (c.in-Ok.ensures.matches (ap is_simple is ∙ command_is_simple)).0 ∙ ap (λ (a : App). matches_of a (map string_bytes c.args.words.now)) is

pub returns : goal.returns
unfolding refusals
returns c =
    let is = c.in_ok-command.ensures in
    let fails = c.in-Err.ensures.kinds (ap is_simple_and_free is ∙ command_is_free) in
    record {
      taken = tt;
      rows = tt;
      usage = λ _ none. other_kind c.in-Err.error _ fails
          (λ memory. c.in_default.not-OutOfMemory (c.kind.ensures ∙ memory))
          (ap (λ (a : App). fault_of a (map string_bytes c.args.words.now)) is ∙ none);
    }
