use Rattle.std.proofs.Common.{◌≡◌, ◌-◌, ◌≤◌, drop, length}
use Rattle.doc_types.specs.Tokens.{body_at}
use Rattle.doc_types.proofs.BodyReading.{with_front}
use Rattle.doc_types.proofs.literals.body_at.Given as goal

-- what was read and what the rest gives is what the whole gives
abbrev pub invariant-loop-at : goal.invariant-loop-at
invariant-loop-at l = (l.at ≤ length l.bytes) × (with_front l.body.items (body_at l.quote (drop l.at l.bytes)) ≡ body_at l.quote l.bytes)

abbrev pub decreases-loop-at : goal.decreases-loop-at
decreases-loop-at l = length l.bytes - l.at
