use Rattle.std.proofs.Common.{◌≤◌, ◌++◌, ◌∙◌, sym, ap, subst, length, take, arith}
use Rattle.std.specs.Prelude.{IsAscii}
use Rattle.word_index.specs.Tokens.{tokens_of}
use Rattle.word_index.proofs.Reading.{ascii_first, ascii_end, read_on, read_last}
use Rattle.word_index.proofs.words.tokens_of_bytes.Goals as goal

pub loop-end-init : goal.loop-end-init
loop-end-init c = (ap (λ l. l ++ tokens_of c.args.bytes.now) c.new-tokens.ensures.items, c.end_of-end.ensures)

pub push_token-requires : goal.push_token-requires
push_token-requires c = subst (λ n. IsAscii (take n c.loop-end.rest.now)) (sym c.loop-end.invariant.1) (ascii_first c.loop-end.rest.now)

pub loop-end-preserved : goal.loop-end-preserved
loop-end-preserved c = (
  read_on c.args.bytes.now c.loop-end.rest.now c.behind-rest.result.now c.loop-end.tokens.items c.push_token.new.tokens.items c.loop-end.end
      c.loop-end.invariant.0 c.loop-end.invariant.1 c.loop-end-test.true c.in_ok-push_token.ensures c.behind-rest.ensures,
  c.end_of-end-in-loop-end.ensures,
)

pub push_token-requires-2 : goal.push_token-requires-2
push_token-requires-2 c =
    let more : length c.loop-end.rest.now ≤ c.loop-end.end = (let f = c.loop-end-test.false in omega (arith, f)) in
    ascii_end c.loop-end.rest.now c.loop-end.end c.loop-end.invariant.1 more

pub returns : goal.returns
returns c =
    let more : length c.loop-end.rest.now ≤ c.loop-end.end = (let f = c.loop-end-test.false in omega (arith, f)) in
    c.of.ensures
    ∙ read_last c.args.bytes.now c.loop-end.rest.now c.loop-end.tokens.items c.push_token-2.new.tokens.items c.loop-end.end
    c.loop-end.invariant.0 c.loop-end.invariant.1 more c.in_ok-push_token-2.ensures
