-- Laws of tokens.
use Rattle.std.proofs.Common.{◌≡◌, ℕ, ℤ, suc, ◌+◌, ◌≤◌, ◌==◌, Bool, true, false, cond, List, [], ◌∷◌, ◌++◌, length, take, drop, refl, sym, ap, subst, arith, Option, Some, None, option_map, is_some}
use mathlib.Core.Bool.{true≢false}
use Rattle.std.specs.Option.{unwrap_or}
use Rattle.std.specs.List.{prefix_len}
use Rattle.std.proofs.lemmas.List.{take-append-drop, length-take}
use Rattle.doc_types.specs.declared.symbols.Language.{Language}
use Rattle.doc_types.specs.declared.symbols.Symbol.{Symbol}
use Rattle.doc_types.specs.Symbols.{single_symbol, pair_symbol}
use Rattle.std.specs.Char.{is_ascii_digit, is_ascii_alphabetic}
use Rattle.doc_types.specs.Tokens.{Token, word, integer, quoted, signs, cut_by, is_name, is_numeral, is_quote, is_escaped, word_at, digits_at, body_at, with_byte, literal_at, pair_or, symbol_at, token_at}
use Rattle.doc_types.specs.Fronts.{IsFront, BeginsNot}
use Rattle.doc_types.proofs.Runs.{some_run, letter_is_name, some_digit}

-- what was read, as a pair
abbrev pub Read : Type 0
Read = Option (Token × List ℕ)

-- a token by its first byte
pub by_first : (language : Language) (c : ℕ) (rest : List ℕ) (P : Read → Type 0) → (is_ascii_alphabetic c ≡ true → P (Some (word_at (c ∷ rest)))) → (is_ascii_digit c ≡ true → P (digits_at false (c ∷ rest)))
    → ((c == 45) ≡ true → P (digits_at true rest)) → P (literal_at c rest) → P (symbol_at language c rest) → P (token_at language (c ∷ rest))
by_first language c rest P letter digit minus quote sign = by (is_ascii_alphabetic c) (is_ascii_digit c) (c == 45) (is_quote c) refl refl refl
  where
    by : (t u v w : Bool) → is_ascii_alphabetic c ≡ t → is_ascii_digit c ≡ u → (c == 45) ≡ v
        → P (cond t (Some (word_at (c ∷ rest))) (cond u (digits_at false (c ∷ rest)) (cond v (digits_at true rest) (cond w (literal_at c rest) (symbol_at language c rest)))))
    by true u v w e f g = letter e
    by false true v w e f g = digit f
    by false false true w e f g = minus g
    by false false false true e f g = quote
    by false false false false e f g = sign

same_read : (a b : Token × List ℕ) → Some a ≡ Some b → a ≡ b
same_read a b e = ap (λ o. unwrap_or o a) e

no_read : (b : Token × List ℕ) → ◌≡◌ {A = Read} None (Some b) → ⊥
no_read b e = true≢false (sym (ap is_some e))

-- behind the longest run the test fails
run_stops : (p : ℕ → Bool) (bs : List ℕ) → BeginsNot p (drop (prefix_len p bs) bs)
run_stops p [] = tt
run_stops p (c ∷ bs) = by (p c) refl (run_stops p bs)
  where
    by : (b : Bool) → p c ≡ b → BeginsNot p (drop (prefix_len p bs) bs) → BeginsNot p (drop (cond b (1 + prefix_len p bs) 0) (c ∷ bs))
    by true e rest = let on : suc (prefix_len p bs) ≡ 1 + prefix_len p bs = omega arith in subst (λ n. BeginsNot p (drop n (c ∷ bs))) on rest
    by false e rest = e

run_front : (n : ℕ) (bs : List ℕ) → 1 ≤ n → n ≤ length bs → IsFront bs (drop n bs)
run_front n bs some within = record { front = take n bs; some = omega (arith, length-take n bs); whole = sym (take-append-drop n bs) }

prefix_within : (p : ℕ → Bool) (bs : List ℕ) → prefix_len p bs ≤ length bs
prefix_within p [] = omega arith
prefix_within p (c ∷ bs) = by (p c) (prefix_within p bs)
  where
    by : (b : Bool) → prefix_len p bs ≤ length bs → cond b (1 + prefix_len p bs) 0 ≤ length (c ∷ bs)
    by true le = omega arith
    by false le = omega arith

-- one byte more in front
more_front : (c : ℕ) (bs rest : List ℕ) → IsFront bs rest → IsFront (c ∷ bs) rest
more_front c bs rest f = record { front = c ∷ f.front; some = omega arith; whole = ap (λ l. c ∷ l) f.whole }

one_front : (c : ℕ) (bs : List ℕ) → IsFront (c ∷ bs) bs
one_front c bs = record { front = c ∷ []; some = omega arith; whole = refl }

-- the body of a text literal
BodyFront : List ℕ → Option (List ℕ × List ℕ) → Type 0
BodyFront bs None = Unit {0}
BodyFront bs (Some p) = IsFront bs p.1

with_front_byte : (c d : ℕ) (bs : List ℕ) (o : Option (List ℕ × List ℕ)) → BodyFront bs o → BodyFront (d ∷ bs) (with_byte c o)
unfolding BodyFront
with_front_byte c d bs None h = tt
with_front_byte c d bs (Some p) h = more_front d bs p.1 h

with_two_bytes : (c d e : ℕ) (bs : List ℕ) (o : Option (List ℕ × List ℕ)) → BodyFront bs o → BodyFront (d ∷ e ∷ bs) (with_byte c o)
unfolding BodyFront
with_two_bytes c d e bs None h = tt
with_two_bytes c d e bs (Some p) h = more_front d (e ∷ bs) p.1 (more_front e bs p.1 h)

body_front : (q : ℕ) (bs : List ℕ) → BodyFront bs (body_at q bs)
unfolding BodyFront
body_front q [] = tt
body_front q (c ∷ []) = elim (c == q) as (λ t. BodyFront (c ∷ []) (cond t (Some ([], [])) None)) [ true ↦ one_front c [] | false ↦ tt ]
body_front q (c ∷ d ∷ rest) =
    elim (c == q) as (λ t. BodyFront (c ∷ d ∷ rest) (cond t (Some ([], d ∷ rest)) (cond (c == 92) (cond (is_escaped d) (with_byte d (body_at q rest)) None) (with_byte c (body_at q (d ∷ rest)))))) [
      | true ↦ one_front c (d ∷ rest)
      | false ↦ elim (c == 92) as (λ t. BodyFront (c ∷ d ∷ rest) (cond t (cond (is_escaped d) (with_byte d (body_at q rest)) None) (with_byte c (body_at q (d ∷ rest))))) [
        | true ↦ elim (is_escaped d) as (λ t. BodyFront (c ∷ d ∷ rest) (cond t (with_byte d (body_at q rest)) None)) [
          | true ↦ with_two_bytes d c d rest (body_at q rest) (body_front q rest)
          | false ↦ tt
        ]
        | false ↦ with_front_byte c c (d ∷ rest) (body_at q (d ∷ rest)) (body_front q (d ∷ rest))
      ]
    ]

-- what each kind of token leaves
Fronted : List ℕ → Read → Type 0
Fronted text None = Unit {0}
Fronted text (Some p) = IsFront text p.1

word_fronted : (c : ℕ) (rest : List ℕ) → is_ascii_alphabetic c ≡ true → Fronted (c ∷ rest) (Some (word_at (c ∷ rest)))
unfolding Fronted
word_fronted c rest e = run_front (prefix_len is_name (c ∷ rest)) (c ∷ rest) (some_run is_name (c ∷ rest) (omega arith) (letter_is_name c e)) (prefix_within is_name (c ∷ rest))

number_fronted : (negative : Bool) (bs : List ℕ) (numeral : Bool) (read : Option ℤ) → is_numeral (take (prefix_len is_ascii_digit bs) bs) ≡ numeral
    → Fronted bs (option_map (λ z. cut_by (prefix_len is_ascii_digit bs) (integer z) bs) (cond numeral read None))
unfolding Fronted
number_fronted negative bs true None e = tt
number_fronted negative bs true (Some z) e = run_front (prefix_len is_ascii_digit bs) bs (some_digit bs e) (prefix_within is_ascii_digit bs)
number_fronted negative bs false read e = tt

behind_sign : (c : ℕ) (bs : List ℕ) (read : Read) → Fronted bs read → Fronted (c ∷ bs) read
unfolding Fronted
behind_sign c bs None h = tt
behind_sign c bs (Some p) h = more_front c bs p.1 h

literal_fronted : (c : ℕ) (rest : List ℕ) (read : Option (List ℕ × List ℕ)) → BodyFront rest read → Fronted (c ∷ rest) (option_map (λ p. (quoted p.0, p.1)) read)
unfolding Fronted BodyFront
literal_fronted c rest None h = tt
literal_fronted c rest (Some p) h = more_front c rest p.1 h

single_fronted : (c : ℕ) (rest : List ℕ) (s : Option Symbol) → Fronted (c ∷ rest) (option_map (λ x. (signs x, rest)) s)
unfolding Fronted
single_fronted c rest None = tt
single_fronted c rest (Some s) = one_front c rest

pair_fronted : (c d : ℕ) (rest : List ℕ) (s single : Option Symbol) → Fronted (c ∷ d ∷ rest) (pair_or s rest (option_map (λ x. (signs x, d ∷ rest)) single))
unfolding Fronted
pair_fronted c d rest None single = single_fronted c (d ∷ rest) single
pair_fronted c d rest (Some s) single = more_front c (d ∷ rest) rest (one_front d rest)

symbol_fronted : (language : Language) (c : ℕ) (rest : List ℕ) → Fronted (c ∷ rest) (symbol_at language c rest)
symbol_fronted language c [] = single_fronted c [] (single_symbol language c)
symbol_fronted language c (d ∷ rest) = pair_fronted c d rest (pair_symbol language c d) (single_symbol language c)

token_fronted : (language : Language) (text : List ℕ) → Fronted text (token_at language text)
unfolding Fronted
token_fronted language [] = tt
token_fronted language (c ∷ rest) = by_first language c rest (Fronted (c ∷ rest))
    (word_fronted c rest)
    (λ e. number_fronted false (c ∷ rest) _ _ refl)
    (λ e. behind_sign c rest (digits_at true rest) (number_fronted true rest _ _ refl))
    (literal_fronted c rest (body_at c rest) (body_front c rest))
    (symbol_fronted language c rest)

pub token_front : (language : Language) (text rest : List ℕ) (t : Token) → token_at language text ≡ Some (t, rest) → IsFront text rest
unfolding Fronted
token_front language text rest t e = subst (Fronted text) e (token_fronted language text)

-- each token is the longest at its place
Longest : List ℕ → Token → List ℕ → Type 0
Longest text (word w) rest = (text ≡ w ++ rest) × BeginsNot is_name rest
Longest text (integer z) rest = BeginsNot is_ascii_digit rest
Longest text (quoted b) rest = Unit {0}
Longest text (signs s) rest = Unit {0}

LongestRead : List ℕ → Read → Type 0
LongestRead text None = Unit {0}
LongestRead text (Some p) = Longest text p.0 p.1

longest_word : (bs : List ℕ) → LongestRead bs (Some (word_at bs))
unfolding LongestRead Longest
longest_word bs = (sym (take-append-drop (prefix_len is_name bs) bs), run_stops is_name bs)

longest_number : (text bs : List ℕ) (read : Option ℤ) → LongestRead text (option_map (λ z. cut_by (prefix_len is_ascii_digit bs) (integer z) bs) read)
unfolding LongestRead Longest
longest_number text bs None = tt
longest_number text bs (Some z) = run_stops is_ascii_digit bs

longest_literal : (text : List ℕ) (read : Option (List ℕ × List ℕ)) → LongestRead text (option_map (λ p. (quoted p.0, p.1)) read)
unfolding LongestRead Longest
longest_literal text None = tt
longest_literal text (Some p) = tt

longest_single : (text rest : List ℕ) (s : Option Symbol) → LongestRead text (option_map (λ x. (signs x, rest)) s)
unfolding LongestRead Longest
longest_single text rest None = tt
longest_single text rest (Some s) = tt

longest_pair : (text rest more : List ℕ) (s single : Option Symbol) → LongestRead text (pair_or s rest (option_map (λ x. (signs x, more)) single))
unfolding LongestRead Longest
longest_pair text rest more None single = longest_single text more single
longest_pair text rest more (Some s) single = tt

longest_symbol : (language : Language) (c : ℕ) (rest : List ℕ) → LongestRead (c ∷ rest) (symbol_at language c rest)
longest_symbol language c [] = longest_single (c ∷ []) [] (single_symbol language c)
longest_symbol language c (d ∷ rest) = longest_pair (c ∷ d ∷ rest) rest (d ∷ rest) (pair_symbol language c d) (single_symbol language c)

longest : (language : Language) (text : List ℕ) → LongestRead text (token_at language text)
unfolding LongestRead
longest language [] = tt
longest language (c ∷ rest) = by_first language c rest (LongestRead (c ∷ rest))
    (λ e. longest_word (c ∷ rest))
    (λ e. longest_number (c ∷ rest) (c ∷ rest) _)
    (λ e. longest_number (c ∷ rest) rest _)
    (longest_literal (c ∷ rest) (body_at c rest))
    (longest_symbol language c rest)

pub word_longest : (language : Language) (text rest w : List ℕ) → token_at language text ≡ Some (word w, rest) → (text ≡ w ++ rest) × BeginsNot is_name rest
unfolding LongestRead Longest
word_longest language text rest w e = subst (LongestRead text) e (longest language text)

pub number_longest : (language : Language) (text rest : List ℕ) (z : ℤ) → token_at language text ≡ Some (integer z, rest) → BeginsNot is_ascii_digit rest
unfolding LongestRead Longest
number_longest language text rest z e = subst (LongestRead text) e (longest language text)
