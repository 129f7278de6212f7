-- What files of records read as.
use Rattle.std.proofs.Common.{◌≡◌, ◌≢◌, ◌<◌, ◌≤◌, ◌+◌, ◌^◌, ℕ, zero, suc, List, [], ◌∷◌, ◌++◌, length, take, drop, nat_lt, cond, Option, Some, None, Result, Ok, Err, refl, sym, ◌∙◌, ap, arith, append_assoc, length-append}
use Rattle.std.specs.Int.{w32, to_le_bytes, from_le_bytes}
use Rattle.std.proofs.lemmas.List.{append-nil, take_at, drop_at, take-append-le, drop-append-le, length-drop}
use Rattle.std.proofs.lemmas.Nat.{from_le_bytes-to_le_bytes_4}
use Rattle.std.proofs.lemmas.Bool.Decides.{nat_tests}
use Rattle.node_journal.specs.Files.{text_len, text_in, record_of, read_in, onto, first_onto, reading, journal_in, IsRecord, Stands}

test_yes : {A : Type 0} (n m : ℕ) (x y : A) → n < m → cond (nat_lt n m) x y ≡ x
test_yes n m x y lt = grind (arith, nat_tests)

test_no : {A : Type 0} (n m : ℕ) (x y : A) → m ≤ n → cond (nat_lt n m) x y ≡ y
test_no n m x y le = grind (arith, nat_tests)

module _ {M : Type 0} where
  pub onto_onto : (ms ns : List M) (r : Result (List M) ℕ) → onto ms (onto ns r) ≡ onto (ms ++ ns) r
  onto_onto ms ns (Ok rest) = let ok : List M → Result (List M) ℕ = λ l. Ok l in ap ok (sym (append_assoc ms ns rest))
  onto_onto ms ns (Err at) = refl

  pub onto_none : (r : Result (List M) ℕ) → onto [] r ≡ r
  onto_none (Ok rest) = refl
  onto_none (Err at) = refl

module _ {M : Type 0} (reads : List ℕ → Option M) where
  -- bytes are passed over
  pub reading_skip : (bytes : List ℕ) (k at : ℕ) → reading reads k at bytes ≡ reading reads 0 (at + k) (drop k bytes)
  unfolding reading
  reading_skip [] zero at = refl
  reading_skip [] (suc k) at = refl
  reading_skip (b ∷ bytes) zero at = ap (λ (n : ℕ). reading reads 0 n (b ∷ bytes)) (omega arith)
  reading_skip (b ∷ bytes) (suc k) at = reading_skip bytes k (at + 1) ∙ ap (λ (n : ℕ). reading reads 0 n (drop k bytes)) (omega arith)

  -- a gate that isn't open ends them
  pub reading_closed : (gate at : ℕ) (rest : List ℕ) → gate ≢ 1 → reading reads 0 at (gate ∷ rest) ≡ Ok []
  unfolding reading
  reading_closed gate at rest shut = grind (arith, nat_tests)

  -- an open gate without a whole record, or before no message
  pub reading_damaged : (at : ℕ) (rest : List ℕ) → read_in reads (text_in rest) ≡ None → reading reads 0 at (1 ∷ rest) ≡ Err at
  unfolding reading
  reading_damaged at rest none = ap (λ (o : Option M). first_onto o at (reading reads (4 + text_len rest) (at + 1) rest)) none

  -- the record at the front of what stands behind a gate
  pub text_len_front : (piece rest : List ℕ) → 4 ≤ length piece → text_len (piece ++ rest) ≡ text_len piece
  text_len_front piece rest le = ap (from_le_bytes w32) (take-append-le 4 piece rest le)

  pub text_in_front : (piece : List ℕ) (gate : ℕ) (rest : List ℕ) → length piece ≡ 4 + text_len piece → text_in (piece ++ gate ∷ rest) ≡ Some (drop 4 piece)
  text_in_front piece gate rest size =
      let n = text_len_front piece (gate ∷ rest) (omega (arith, size)) in
      let long = length-append piece (gate ∷ rest) in
      test_yes (4 + text_len (piece ++ gate ∷ rest)) (length (piece ++ gate ∷ rest)) _ _ (omega (arith, n, size, long))
      ∙ ap (λ (k : ℕ). Some (take k (drop 4 (piece ++ gate ∷ rest)))) n
      ∙ ap (λ (l : List ℕ). Some (take (text_len piece) l)) (drop-append-le 4 piece (gate ∷ rest) (omega (arith, size)))
      ∙ ap (λ (l : List ℕ). Some l) (take_at (drop 4 piece) (gate ∷ rest) (text_len piece) (omega (arith, length-drop 4 piece, size)))

  -- an open gate before a whole record that is a message
  pub reading_open : (piece : List ℕ) (gate at : ℕ) (rest : List ℕ) (m : M) → IsRecord reads piece m
      → reading reads 0 at (1 ∷ (piece ++ gate ∷ rest)) ≡ onto (m ∷ []) (reading reads 0 (at + (1 + length piece)) (gate ∷ rest))
  unfolding reading
  reading_open piece gate at rest m is =
      let behind = piece ++ gate ∷ rest in
      let n = text_len_front piece (gate ∷ rest) (omega (arith, is.size)) in
      let text : read_in reads (text_in behind) ≡ Some m = ap (read_in reads) (text_in_front piece gate rest is.size) ∙ is.text in
      ap (λ (o : Option M). first_onto o at (reading reads (4 + text_len behind) (at + 1) behind)) text
      ∙ ap (onto (m ∷ [])) (reading_skip behind (4 + text_len behind) (at + 1)
      ∙ ap (λ (l : List ℕ). reading reads 0 (at + 1 + (4 + text_len behind)) l) (drop_at piece (gate ∷ rest) (4 + text_len behind) (omega (arith, n, is.size)))
      ∙ ap (λ (k : ℕ). reading reads 0 k (gate ∷ rest)) (omega (arith, n, is.size)))

  pub stands_none : Stands reads [] []
  stands_none = record { before = λ gate rest. sym (onto_none (reading reads 0 0 (gate ∷ rest))) }

  -- one record more
  pub stands_more : (front piece : List ℕ) (ms : List M) (m : M) → Stands reads front ms → IsRecord reads piece m → Stands reads (front ++ 1 ∷ piece) (ms ++ m ∷ [])
  stands_more front piece ms m stands is = record {
    before = λ gate rest.
        ap (reading reads 0 0) (append_assoc front (1 ∷ piece) (gate ∷ rest))
        ∙ stands.before 1 (piece ++ gate ∷ rest)
        ∙ ap (onto ms) (reading_open piece gate (length front) rest m is)
        ∙ onto_onto ms (m ∷ []) (reading reads 0 (length front + (1 + length piece)) (gate ∷ rest))
        ∙ ap (λ (k : ℕ). onto (ms ++ m ∷ []) (reading reads 0 k (gate ∷ rest))) (omega (arith, length-append front (1 ∷ piece)));
  }

  -- before a gate that isn't open they are all there is
  pub stands_closed : (front : List ℕ) (gate : ℕ) (rest : List ℕ) (ms : List M) → Stands reads front ms → gate ≢ 1 → reading reads 0 0 (front ++ gate ∷ rest) ≡ Ok ms
  stands_closed front gate rest ms stands shut =
      let ok : List M → Result (List M) ℕ = λ l. Ok l in
      stands.before gate rest ∙ ap (onto ms) (reading_closed gate (length front) rest shut) ∙ ap ok (append-nil ms)

  -- a text behind its length is a record
  pub record_is : (text : List ℕ) (m : M) → length text < 2 ^ 32 → reads text ≡ Some m → IsRecord reads (record_of text) m
  record_is text m short is =
      let n : text_len (record_of text) ≡ length text = from_le_bytes-to_le_bytes_4 (length text) short in
      record { size = omega (arith, n, length-append (to_le_bytes w32 (length text)) text); text = is }

  -- files of six bytes and more
  pub journal_long : (file : List ℕ) → 6 ≤ length file → journal_in reads file ≡ reading reads 0 0 file
  unfolding journal_in
  journal_long file le = test_no (length file) 6 _ _ le

  pub journal_short : (file : List ℕ) → length file < 6 → journal_in reads file ≡ Ok []
  unfolding journal_in
  journal_short file lt = test_yes (length file) 6 _ _ lt
