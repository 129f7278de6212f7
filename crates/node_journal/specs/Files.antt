-- What a file of records stands for.
use Rattle.std.specs.Prelude.{◌≡◌, ◌+◌, ℕ, zero, suc, List, [], ◌∷◌, ◌++◌, length, take, drop, nat_lt, Option, Some, None, Result, Ok, Err, if◌then◌else◌, ◌==◌}
use Rattle.std.specs.Int.{w32, to_le_bytes, from_le_bytes}

-- the length that a record begins with, as four bytes, the least first
abbrev pub text_len : List ℕ → ℕ
text_len record_on = from_le_bytes w32 (take 4 record_on)

-- the text of a record that is whole, up to its next gate
abbrev pub text_in : List ℕ → Option (List ℕ)
text_in record_on = if nat_lt (4 + text_len record_on) (length record_on) then Some (take (text_len record_on) (drop 4 record_on)) else None

-- the bytes of a record up to its next gate
abbrev pub record_of : List ℕ → List ℕ
record_of text = to_le_bytes w32 (length text) ++ text

module _ {M : Type 0} where
  -- what a text reads as, if there is one
  abbrev pub read_in : (List ℕ → Option M) → Option (List ℕ) → Option M
  read_in reads None = None
  read_in reads (Some text) = reads text

  -- messages in front of what is read
  abbrev pub onto : List M → Result (List M) ℕ → Result (List M) ℕ
  onto ms (Ok ns) = Ok (ms ++ ns)
  onto ms (Err at) = Err at

  -- a message in front of what is read; where it is none, the gate before it stands there
  abbrev pub first_onto : Option M → ℕ → Result (List M) ℕ → Result (List M) ℕ
  first_onto None at rest = Err at
  first_onto (Some m) at rest = onto (m ∷ []) rest

  -- What the records of a file read as, after `skip` bytes of it, which stand at `at`: the messages up to the
  -- first gate that isn't open, or the place of an open gate that has no whole record or one that is no message.
  unfoldable pub reading : (List ℕ → Option M) → ℕ → ℕ → List ℕ → Result (List M) ℕ
  reading reads skip at [] = Ok []
  reading reads zero at (gate ∷ rest) = if gate == 1 then first_onto (read_in reads (text_in rest)) at (reading reads (4 + text_len rest) (at + 1) rest) else Ok []
  reading reads (suc skip) at (byte ∷ rest) = reading reads skip (at + 1) rest

  -- what a file reads as; one of fewer than six bytes is empty
  unfoldable pub journal_in : (List ℕ → Option M) → List ℕ → Result (List M) ℕ
  journal_in reads file = if nat_lt (length file) 6 then Ok [] else reading reads 0 0 file

  -- what is read with messages behind it
  abbrev pub with_last : Result (List M) ℕ → List M → Result (List M) ℕ
  with_last (Ok ms) ns = Ok (ms ++ ns)
  with_last (Err at) ns = Err at

  -- a record without its next gate, whose text is this message
  pub record IsRecord (reads : List ℕ → Option M) (bytes : List ℕ) (m : M) : Type 0 where
    pub size : length bytes ≡ 4 + text_len bytes
    pub text : reads (drop 4 bytes) ≡ Some m

  -- bytes at the front of a file are open records of these messages, whatever gate comes next
  pub record Stands (reads : List ℕ → Option M) (front : List ℕ) (ms : List M) : Type 0 where
    pub before : (gate : ℕ) (rest : List ℕ) → reading reads 0 0 (front ++ gate ∷ rest) ≡ onto ms (reading reads 0 (length front) (gate ∷ rest))
