use Rattle.std.proofs.Common.{◌<◌, ◌≤◌, ◌⊎◌, rules}
use Rattle.cluster_states.proofs.Moving.{first_moves, first_stops}
use Rattle.cluster_states.proofs.counts.first_digit.Goals as goal

pub returns-then-is_ascii_digit : goal.returns-then-is_ascii_digit
returns-then-is_ascii_digit c =
    let low : 48 ≤ c.args.letter = search rules in
    let high : c.args.letter < 58 = search rules in
    first_moves _ _ _ _ _ _ low high c.requires.over c.from.ensures c.digits.ensures c.requires.place

pub returns-else-is_ascii_digit : goal.returns-else-is_ascii_digit
returns-else-is_ascii_digit c =
    let out : (c.args.letter < 48) ⊎ (58 ≤ c.args.letter) = search rules in
    first_stops _ _ _ _ out c.requires.over c.requires.place
