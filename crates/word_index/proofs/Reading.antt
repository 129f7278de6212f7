-- Tokens, read part by part.
use Rattle.std.proofs.Common.{◌≡◌, ◌<◌, ◌≤◌, ℕ, Bool, true, false, not, List, [], ◌∷◌, ◌++◌, map, take, drop, length, get_or, append_assoc, ◌+◌, refl, sym, ap, ◌∙◌, subst, arith}
use Rattle.std.specs.Prelude.{IsAscii}
use Rattle.std.specs.Char.{is_ascii_alphanumeric, to_ascii_lowercase}
use Rattle.std.specs.List.{All, filter, slice_split, position_or_len, before_first, after_first}
use Rattle.std.proofs.lemmas.List.Splits.{slice_split_first, slice_split_none}
use Rattle.std.proofs.lemmas.Bool.{ltb-true, ltb-false}
use Rattle.std.proofs.Math.Dec.{ltb}
use Rattle.std.proofs.Math.Seq.{take-length}
use Rattle.std.proofs.lemmas.List.{get_or-take, get_or_past, length-take-le}
use Rattle.std.proofs.lemmas.List.Sums.{fails_before_first, prefix_len-le-length}
use Rattle.word_index.specs.Tokens.{has_bytes, separates, tokens_of}

-- a part as a token, if it has a byte
abbrev pub token_if : List ℕ → List (List ℕ)
token_if part = filter has_bytes (map to_ascii_lowercase part ∷ [])

filter-cons : (w : List ℕ) (ps : List (List ℕ)) → filter has_bytes (w ∷ ps) ≡ filter has_bytes (w ∷ []) ++ filter has_bytes ps
filter-cons [] ps = refl
filter-cons (c ∷ w) ps = refl

-- the part in front of the first byte that separates comes first, then the tokens behind that byte
tokens_of-first : (text : List ℕ) → position_or_len separates text < length text → tokens_of text ≡ token_if (before_first separates text) ++ tokens_of (after_first separates text)
tokens_of-first text h = ap (λ ps. filter has_bytes (map (map to_ascii_lowercase) ps)) (slice_split_first separates text 0 h)
    ∙ filter-cons (map to_ascii_lowercase (before_first separates text)) (map (map to_ascii_lowercase) (slice_split separates (after_first separates text)))

-- where no byte separates, the text is the one part
tokens_of-last : (text : List ℕ) → position_or_len separates text ≡ length text → tokens_of text ≡ token_if text
tokens_of-last text e = ap (λ ps. filter has_bytes (map (map to_ascii_lowercase) ps))
    (slice_split_none separates text (λ k d h. fails_before_first separates text k d (rw e h)))

-- what doesn't separate is ASCII
below_128 : (c : ℕ) → separates c ≡ false → c < 128
below_128 c h = grind arith

-- so is what stands in front of the first byte that separates
pub ascii_first : (text : List ℕ) → IsAscii (take (position_or_len separates text) text)
ascii_first text i = by (ltb i (position_or_len separates text)) refl
  where
    by : (b : Bool) → ltb i (position_or_len separates text) ≡ b → get_or (take (position_or_len separates text) text) i 0 < 128
    by true e =
        let less = ltb-true i (position_or_len separates text) e in
        rw (get_or-take (position_or_len separates text) text i 0 less) (below_128 (get_or text i 0) (fails_before_first separates text i 0 less))
    by false e =
        let more = ltb-false i (position_or_len separates text) e in
        rw (get_or_past (take (position_or_len separates text) text) i 0
        (subst (λ n. n ≤ i) (sym (length-take-le (position_or_len separates text) text (prefix_len-le-length (λ x. not (separates x)) text))) more)) (omega arith)

-- and a text in which no byte separates
ascii_last : (text : List ℕ) → position_or_len separates text ≡ length text → IsAscii text
ascii_last text e = subst IsAscii (ap (λ n. take n text) e ∙ take-length text) (ascii_first text)

-- a part is read, and the byte that ends it
pub read_on : (text rest next : List ℕ) (old new : List (List ℕ)) (end : ℕ) → old ++ tokens_of rest ≡ tokens_of text → end ≡ position_or_len separates rest → end < length rest
    → new ≡ old ++ token_if (take end rest) → next ≡ drop (end + 1) rest → new ++ tokens_of next ≡ tokens_of text
read_on text rest next old new end all at less more behind =
    let first : tokens_of rest ≡ token_if (take end rest) ++ tokens_of next =
    tokens_of-first rest (subst (λ n. n < length rest) at less)
    ∙ sym (ap (λ n. token_if (take n rest) ++ tokens_of (drop (n + 1) rest)) at)
    ∙ sym (ap (λ l. token_if (take end rest) ++ tokens_of l) behind) in
    ap (λ l. l ++ tokens_of next) more ∙ append_assoc old (token_if (take end rest)) (tokens_of next) ∙ ap (λ l. old ++ l) (sym first) ∙ all

-- where no byte separates, the text has no more bytes than stand in front of the first
no_end : (rest : List ℕ) (end : ℕ) → end ≡ position_or_len separates rest → length rest ≤ end → position_or_len separates rest ≡ length rest
no_end rest end at more =
    let most : position_or_len separates rest ≤ length rest = prefix_len-le-length (λ x. not (separates x)) rest in
    omega (arith, at, more, most)

pub read_last : (text rest : List ℕ) (old new : List (List ℕ)) (end : ℕ) → old ++ tokens_of rest ≡ tokens_of text → end ≡ position_or_len separates rest → length rest ≤ end
    → new ≡ old ++ token_if rest → new ≡ tokens_of text
read_last text rest old new end all at more last = last ∙ ap (λ l. old ++ l) (sym (tokens_of-last rest (no_end rest end at more))) ∙ all

pub ascii_end : (rest : List ℕ) (end : ℕ) → end ≡ position_or_len separates rest → length rest ≤ end → IsAscii rest
ascii_end rest end at more = ascii_last rest (no_end rest end at more)
