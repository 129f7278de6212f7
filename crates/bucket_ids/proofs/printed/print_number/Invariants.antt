use Rattle.std.proofs.Common.{◌≡◌, ◌/◌, ◌-◌, ◌*◌, ◌^◌, string_bytes}
use Rattle.bucket_ids.specs.Printed.{hex_digits}
use Rattle.bucket_ids.proofs.printed.print_number.Given as goal

-- the digits so far are the first ones of the number
abbrev pub invariant-loop-done : goal.invariant-loop-done
invariant-loop-done l = string_bytes l.text ≡ hex_digits l.done (l.number / 2 ^ (64 - 4 * l.done))
