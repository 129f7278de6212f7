use Rattle.std.proofs.Common.{◌∙◌, ap, length, get_or, arith, refl}
use Rattle.bucket_ids.proofs.HexDigits.{length-hex_digits, hex_digits_at, number_fits, product_fits, digits_pushed, digits_fit, hex_digits-none}
use Rattle.bucket_ids.proofs.printed.bucket_number.Goals as goal

pub returns-then-bytes-ne16 : goal.returns-then-bytes-ne16
returns-then-bytes-ne16 c = λ n e. omega (arith, length-hex_digits 16 n, ap length e)

pub loop-byte-init : goal.loop-byte-init
loop-byte-init c = rw hex_digits-none (refl, omega arith)

pub returns-in-None : goal.returns-in-None
returns-in-None c = λ n e.
    let i = c.loop-byte.byte-index in
    let at = hex_digits_at 16 n i (omega (arith, length-hex_digits 16 n, ap length e)) in
    c.in-None.ensures at.0 at.1.0 (ap (λ bytes. get_or bytes i 0) e ∙ at.1.1)

pub overflow_mul-number : goal.overflow_mul-number
overflow_mul-number c =
    omega (arith, product_fits c.loop-byte.number c.loop-byte.byte-index c.loop-byte.invariant.1 (omega arith))

pub overflow_add-number : goal.overflow_add-number
overflow_add-number c =
    omega (arith, number_fits c.loop-byte.number c.in-Some.digit c.loop-byte.byte-index c.loop-byte.invariant.1 c.in-Some.ensures.0 (omega arith))

pub loop-byte-preserved : goal.loop-byte-preserved
loop-byte-preserved c = (
  digits_pushed _ _ _ _ (omega arith) c.loop-byte.invariant.0 c.in-Some.ensures.0 c.in-Some.ensures.1,
  digits_fit _ _ _ c.loop-byte.invariant.1 c.in-Some.ensures.0,
)
