-- A line past the longest is too long.
use Rattle.std.proofs.Common.{ℕ, ◌<◌, List, length, refl, arith}
use Rattle.doc_types.specs.SchemaCodes.{Types}
use Rattle.io_ends.specs.Reading.{longest_line}
use Rattle.session_cluster.specs.Asking.{IsAsked}
use Rattle.session_cluster.specs.declared.asked.Asked.TheVariants as command

pub long_asked : (types : Types) (bits : ℕ) (bytes : List ℕ) → longest_line < length bytes → IsAsked types bits bytes command.TooLong
long_asked types bits bytes long = record { long = λ h. refl; short = λ h. absurd (omega (arith, long, h)) }
