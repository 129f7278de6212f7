use Rattle.std.proofs.Common.{◌≡◌, ◌<◌, ◌^◌, take}
use Rattle.bucket_ids.specs.Printed.{hex_digits}
use Rattle.bucket_ids.proofs.printed.bucket_number.Given as goal

-- the bytes so far are the digits of the number so far
abbrev pub invariant-loop-byte : goal.invariant-loop-byte
invariant-loop-byte l = (take l.byte-index l.bytes ≡ hex_digits l.byte-index l.number) × (l.number < 16 ^ l.byte-index)
