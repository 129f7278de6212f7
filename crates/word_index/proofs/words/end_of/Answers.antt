use Rattle.std.proofs.Common.{sym, arith}
use Rattle.std.proofs.lemmas.Grind.{common_steps}
use Rattle.std.proofs.lemmas.List.Sums.{position_or_len_is}
use Rattle.word_index.specs.Tokens.{separates}
use Rattle.word_index.proofs.words.end_of.Goals as goal

pub returns-then-not-is_ascii_alphanumeric : goal.returns-then-not-is_ascii_alphanumeric
returns-then-not-is_ascii_alphanumeric c = sym (position_or_len_is separates c.args.bytes.now c.loop-at.at 0 c.loop-at.invariant.0 c.loop-at.invariant.1
    (λ _. grind (arith, common_steps)))

pub returns : goal.returns
returns c = sym (position_or_len_is separates c.args.bytes.now c.loop-at.at 0 c.loop-at.invariant.0 c.loop-at.invariant.1
    (λ h. absurd (let f = c.loop-at-test.false in omega (arith, h, f))))
