-- A new reader stands at the start of its text.
use Rattle.std.proofs.Common.{◌≡◌, ℕ, List, [], refl, sym, ap, ◌∙◌, ◌+◌, arith}
use Rattle.io_ends.specs.Lines.{end_of}
use Rattle.io_ends.specs.Reading.{IsAt}

none_more : (k : ℕ) → 0 + k ≡ k
none_more k = omega arith

pub start_at : (text : List ℕ) (most most_of : ℕ) → IsAt text (record { ahead = []; passed = 0; lines = 0; given = 0; max_lines = most; max_bytes = most_of }) text
unfolding end_of
start_at text most most_of = record {
  rest = text;
  after = refl;
  split = record { front = []; size = refl; no_feed = tt; whole = refl };
  few = omega arith;
  lines = refl;
  given = refl;
  ends = λ k. ap (λ n. end_of n text) (none_more k) ∙ sym (none_more (end_of k text));
}
