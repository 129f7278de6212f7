use Rattle.std.proofs.Common.{◌≡◌, ◌<◌, ◌+◌, ◌-◌, ◌*◌, ◌/◌, ◌∙◌, sym, ap, arith}
use Rattle.std.specs.Int.{reverse_bits_onto}
use Rattle.bucket_ids.specs.Paths.{path}
use Rattle.bucket_ids.proofs.Turned.{four_more, four_fit, four_within}
use Rattle.bucket_ids.proofs.paths.path_of.Goals as goal

pub overflow_mul-path : goal.overflow_mul-path
overflow_mul-path c =
    let less : c.loop.counter < 16 = omega (arith, c.loop-test.true) in
    omega (arith, four_fit c.loop.counter c.loop.path 0 c.loop.invariant.1 (omega arith), four_within c.loop.counter less)

pub overflow_add-path : goal.overflow_add-path
overflow_add-path c =
    let less : c.loop.counter < 16 = omega (arith, c.loop-test.true) in
    omega (arith, four_fit c.loop.counter c.loop.path c.turned_four.result c.loop.invariant.1 c.turned_four.ensures.small, four_within c.loop.counter less)

pub loop-preserved : goal.loop-preserved
loop-preserved c =
    let less : c.loop.counter < 16 = omega (arith, c.loop-test.true) in
    let j = 4 * (16 - (c.loop.counter + 1)) in
    let more : 4 + j ≡ 4 * (16 - c.loop.counter) = omega (arith, less) in (
      ap (λ t. reverse_bits_onto j (c.loop.left / 16) (c.loop.path * 16 + t)) c.turned_four.ensures.turned
          ∙ sym (four_more j c.loop.left c.loop.path)
          ∙ ap (λ m. reverse_bits_onto m c.loop.left c.loop.path) more
          ∙ c.loop.invariant.0,
      four_fit c.loop.counter c.loop.path c.turned_four.result c.loop.invariant.1 c.turned_four.ensures.small,
    )

pub returns : goal.returns
unfolding path reverse_bits_onto
returns c =
    let none : 4 * (16 - c.loop.counter) ≡ 0 = omega (arith, c.loop-test.false, c.loop.auto.counter-end) in
    sym (ap (λ m. reverse_bits_onto m c.loop.left c.loop.path) none) ∙ c.loop.invariant.0
