-- Integers are the numbers that their digits say.
use Rattle.std.proofs.Common.{◌≡◌, ◌↔◌, ℕ, ℤ, pos, neg_ℤ, zero, suc, ◌+◌, ◌^◌, ◌<◌, ◌≤◌, ◌==◌, ◌&&◌, Bool, true, false, cond, nat_lt, nat_le, List, [], ◌∷◌, ◌++◌, length, get_or, take, drop, inl, inr, refl, sym, ap, ap₂, subst, ◌∙◌, arith, Option, Some, None, option_map}
use mathlib.Core.Bool.{true≢false}
use Rattle.std.specs.List.{prefix_len, list_all}
use Rattle.std.specs.Char.{is_ascii_digit, is_ascii_alphabetic}
use Rattle.std.specs.Fmt.{decimal}
use Rattle.std.specs.Str.Parse.{digits_value}
use Rattle.std.proofs.lemmas.Bool.{and_parts}
use Rattle.std.proofs.lemmas.Bool.Decides.{nat_tests}
use Rattle.std.proofs.lemmas.List.{take-append-drop}
use Rattle.std.proofs.lemmas.Fmt.{decimal_nonempty, first_decimal, decimal_digit, digits_decimal, digits_value-decimal, decimal-digits_value}
use Rattle.std.proofs.lemmas.Str.Parse.{IsDigitsTest, IsNumeralModel, numerals_by_value}
use Rattle.doc_types.specs.declared.symbols.Language.{Language}
use Rattle.doc_types.specs.declared.symbols.Symbol.{Symbol}
use Rattle.doc_types.specs.Symbols.{single_symbol, pair_symbol}
use Rattle.doc_types.specs.Tokens.{Token, word, integer, quoted, signs, cut_by, is_numeral, is_quote, signed, number_of, word_at, digits_at, body_at, literal_at, pair_or, symbol_at, token_at}
use Rattle.doc_types.specs.Fronts.{BeginsNot}
use Rattle.doc_types.specs.Spelling.{SaysInteger}
use Rattle.doc_types.proofs.Runs.{run_digits}
use Rattle.doc_types.proofs.TokenLaws.{Read, by_first, number_longest}

-- ---- digits

tells_digits : IsDigitsTest (λ ds. list_all is_ascii_digit ds ≡ true)
tells_digits = record {
  empty = refl;
  parts = λ c cs e. let k = and_parts (is_ascii_digit c) (list_all is_ascii_digit cs) e in (within c k.0, k.1);
  more = λ c cs k e i. is_digit c k i && e i;
}
  where
    within : (c : ℕ) → is_ascii_digit c ≡ true → (48 ≤ c) × (c ≤ 57)
    within c e = (grind (arith, nat_tests, e), grind (arith, nat_tests, e))

    is_digit : (c : ℕ) → (48 ≤ c) × (c ≤ 57) → is_ascii_digit c ≡ true
    is_digit c k = grind (arith, nat_tests, k.0, k.1)

own : IsNumeralModel (λ ds. list_all is_ascii_digit ds ≡ true) (digits_value 10)
own = numerals_by_value _ tells_digits

numeral_some : (ds : List ℕ) → is_numeral ds ≡ true → 0 < length ds
numeral_some [] e = absurd (true≢false (sym e))
numeral_some (d ∷ ds) e = omega arith

numeral_leads : (ds : List ℕ) → is_numeral ds ≡ true → get_or ds 0 0 ≡ 48 → length ds ≡ 1
numeral_leads [] e z = absurd (true≢false (sym e))
numeral_leads (d ∷ []) e z = refl
numeral_leads (d ∷ d' ∷ ds) e z = absurd (omega (arith, above d e, z))
  where
    above : (d : ℕ) → nat_lt 48 d ≡ true → 48 < d
    above d e = grind (arith, nat_tests, e)

-- a numeral is the decimal text of its value
numeral_decimal : (ds : List ℕ) → list_all is_ascii_digit ds ≡ true → is_numeral ds ≡ true → digits_value 10 ds < 2 ^ 64 → decimal (digits_value 10 ds) ≡ ds
numeral_decimal ds digits e small = decimal-digits_value own ds digits (numeral_some ds e) (numeral_leads ds e) small

-- ---- what is read is said so

-- an integer that was read is said by this text
Said : List ℕ → Token → List ℕ → Type 0
Said text (word w) rest = Unit {0}
Said text (integer z) rest = SaysInteger text z rest
Said text (quoted b) rest = Unit {0}
Said text (signs s) rest = Unit {0}

SaidRead : List ℕ → Read → Type 0
SaidRead text None = Unit {0}
SaidRead text (Some p) = Said text p.0 p.1

front_is : (bytes : List ℕ) (n v : ℕ) → decimal v ≡ take n bytes → bytes ≡ decimal v ++ drop n bytes
front_is bytes n v e = sym (take-append-drop n bytes) ∙ ap (λ l. l ++ drop n bytes) (sym e)

positive_said : (bytes : List ℕ) (n v : ℕ) (t : Bool) → nat_lt v (2 ^ 63) ≡ t → (v < 2 ^ 64 → decimal v ≡ take n bytes)
    → SaidRead bytes (option_map (λ z. cut_by n (integer z) bytes) (cond t (Some (pos v)) None))
unfolding SaidRead Said
positive_said bytes n v true e is =
    let small : v < 2 ^ 63 = grind (arith, nat_tests, e) in (v, inl (refl, (small, front_is bytes n v (is (omega (arith, small))))))
positive_said bytes n v false e is = tt

negative_said : (bytes : List ℕ) (n v : ℕ) (t : Bool) → nat_le v (2 ^ 63) ≡ t → (v < 2 ^ 64 → decimal v ≡ take n bytes)
    → SaidRead (45 ∷ bytes) (option_map (λ z. cut_by n (integer z) bytes) (cond t (Some (neg_ℤ (pos v))) None))
unfolding SaidRead Said
negative_said bytes n v true e is =
    let small : v ≤ 2 ^ 63 = grind (arith, nat_tests, e) in (v, inr (refl, (small, ap (λ l. 45 ∷ l) (front_is bytes n v (is (omega (arith, small)))))))
negative_said bytes n v false e is = tt

digits_said : (bytes : List ℕ) (t : Bool) → is_numeral (take (prefix_len is_ascii_digit bytes) bytes) ≡ t
    → SaidRead bytes (option_map (λ z. cut_by (prefix_len is_ascii_digit bytes) (integer z) bytes) (cond t (signed false (digits_value 10 (take (prefix_len is_ascii_digit bytes) bytes))) None))
unfolding SaidRead Said
digits_said bytes true e = positive_said bytes _ _ _ refl (numeral_decimal _ (run_digits bytes) e)
digits_said bytes false e = tt

signed_said : (bytes : List ℕ) (t : Bool) → is_numeral (take (prefix_len is_ascii_digit bytes) bytes) ≡ t
    → SaidRead (45 ∷ bytes) (option_map (λ z. cut_by (prefix_len is_ascii_digit bytes) (integer z) bytes) (cond t (signed true (digits_value 10 (take (prefix_len is_ascii_digit bytes) bytes))) None))
unfolding SaidRead Said
signed_said bytes true e = negative_said bytes _ _ _ refl (numeral_decimal _ (run_digits bytes) e)
signed_said bytes false e = tt

literal_said : (text : List ℕ) (o : Option (List ℕ × List ℕ)) → SaidRead text (option_map (λ p. (quoted p.0, p.1)) o)
unfolding SaidRead Said
literal_said text None = tt
literal_said text (Some p) = tt

single_said : (text rest : List ℕ) (s : Option Symbol) → SaidRead text (option_map (λ x. (signs x, rest)) s)
unfolding SaidRead Said
single_said text rest None = tt
single_said text rest (Some s) = tt

pair_said : (text rest more : List ℕ) (s single : Option Symbol) → SaidRead text (pair_or s rest (option_map (λ x. (signs x, more)) single))
unfolding SaidRead Said
pair_said text rest more None single = single_said text more single
pair_said text rest more (Some s) single = tt

symbol_said : (language : Language) (text : List ℕ) (c : ℕ) (rest : List ℕ) → SaidRead text (symbol_at language c rest)
symbol_said language text c [] = single_said text [] (single_symbol language c)
symbol_said language text c (d ∷ rest) = pair_said text rest (d ∷ rest) (pair_symbol language c d) (single_symbol language c)

said : (language : Language) (text : List ℕ) → SaidRead text (token_at language text)
unfolding SaidRead Said
said language [] = tt
said language (c ∷ rest) = by_first language c rest (SaidRead (c ∷ rest))
    (λ e. tt)
    (λ e. digits_said (c ∷ rest) _ refl)
    (λ e. subst (λ x. SaidRead (x ∷ rest) (digits_at true rest)) (sym (minus c e)) (signed_said rest _ refl))
    (literal_said (c ∷ rest) (body_at c rest))
    (symbol_said language (c ∷ rest) c rest)
  where
    minus : (c : ℕ) → (c == 45) ≡ true → c ≡ 45
    minus c e = grind (arith, nat_tests, e)

-- ---- what is said so is read

-- digits end where no digit follows
run_whole : (ds rest : List ℕ) → list_all is_ascii_digit ds ≡ true → BeginsNot is_ascii_digit rest → prefix_len is_ascii_digit (ds ++ rest) ≡ length ds
run_whole [] [] all ends = refl
run_whole [] (c ∷ rest) all ends = ap (λ t. cond t (1 + prefix_len is_ascii_digit rest) 0) ends
run_whole (d ∷ ds) rest all ends =
    let k = and_parts (is_ascii_digit d) (list_all is_ascii_digit ds) all in
    ap (λ t. cond t (1 + prefix_len is_ascii_digit (ds ++ rest)) 0) k.0 ∙ ap (λ n. 1 + n) (run_whole ds rest k.1 ends) ∙ omega arith

take_whole : (ds rest : List ℕ) → take (length ds) (ds ++ rest) ≡ ds
take_whole [] rest = refl
take_whole (d ∷ ds) rest = ap (λ l. d ∷ l) (take_whole ds rest)

drop_whole : (ds rest : List ℕ) → drop (length ds) (ds ++ rest) ≡ rest
drop_whole [] rest = refl
drop_whole (d ∷ ds) rest = drop_whole ds rest

numeral_of : (ds : List ℕ) → 0 < length ds → (1 < length ds → 48 < get_or ds 0 0) → is_numeral ds ≡ true
numeral_of [] some leads = absurd (omega arith)
numeral_of (d ∷ []) some leads = refl
numeral_of (d ∷ e ∷ ds) some leads = above d (leads (omega arith))
  where
    above : (d : ℕ) → 48 < d → nat_lt 48 d ≡ true
    above d h = grind (arith, nat_tests, h)

decimal_numeral : (n : ℕ) → n < 2 ^ 64 → is_numeral (decimal n) ≡ true
decimal_numeral n small = numeral_of (decimal n) (decimal_nonempty n small) (leads n small)
  where
    leads : (n : ℕ) → n < 2 ^ 64 → 1 < length (decimal n) → 48 < get_or (decimal n) 0 0
    leads zero small two = absurd (omega (arith, two, ap length (decimal_digit 0 (omega arith))))
    leads (suc n) small two = first_decimal (suc n) (omega arith) small

digits_read : (negative : Bool) (n : ℕ) (rest : List ℕ) → n < 2 ^ 64 → BeginsNot is_ascii_digit rest → digits_at negative (decimal n ++ rest) ≡ option_map (λ z. (integer z, rest)) (signed negative n)
digits_read negative n rest small ends =
    let ds = decimal n in
    let bytes = ds ++ rest in
    let run = run_whole ds rest (digits_decimal own n small) ends in
    ap (λ k. option_map (λ z. cut_by k (integer z) bytes) (number_of negative (take k bytes))) run
    ∙ ap₂ (λ l r. option_map (λ z. (integer z, r)) (number_of negative l)) (take_whole ds rest) (drop_whole ds rest)
    ∙ ap (λ t. option_map (λ z. (integer z, rest)) (cond t (signed negative (digits_value 10 ds)) None)) (decimal_numeral n small)
    ∙ ap (λ v. option_map (λ z. (integer z, rest)) (signed negative v)) (digits_value-decimal own n small)

positive_read : (language : Language) (n : ℕ) (ds rest : List ℕ) → ds ≡ decimal n → n < 2 ^ 63 → BeginsNot is_ascii_digit rest → token_at language (ds ++ rest) ≡ Some (integer (pos n), rest)
positive_read language n [] rest is small ends = absurd (omega (arith, ap length is, decimal_nonempty n (omega arith)))
positive_read language n (d ∷ ds) rest is small ends =
    let digit = (and_parts (is_ascii_digit d) (list_all is_ascii_digit ds) (subst (λ l. list_all is_ascii_digit l ≡ true) (sym is) (digits_decimal own n (omega arith)))).0 in
    ap (λ t. cond t (Some (word_at (d ∷ (ds ++ rest)))) (cond (is_ascii_digit d) (digits_at false (d ∷ (ds ++ rest))) (cond (d == 45) (digits_at true (ds ++ rest)) (cond (is_quote d) (literal_at d (ds ++ rest)) (symbol_at language d (ds ++ rest)))))) (no_letter d digit)
    ∙ ap (λ t. cond t (digits_at false (d ∷ (ds ++ rest))) (cond (d == 45) (digits_at true (ds ++ rest)) (cond (is_quote d) (literal_at d (ds ++ rest)) (symbol_at language d (ds ++ rest))))) digit
    ∙ ap (λ l. digits_at false (l ++ rest)) is
    ∙ digits_read false n rest (omega arith) ends
    ∙ ap (λ t. option_map (λ z. (integer z, rest)) (cond t (Some (pos n)) None)) (below n small)
  where
    no_letter : (d : ℕ) → is_ascii_digit d ≡ true → is_ascii_alphabetic d ≡ false
    no_letter d e = grind (arith, nat_tests, e)

    below : (n : ℕ) → n < 2 ^ 63 → nat_lt n (2 ^ 63) ≡ true
    below n h = grind (arith, nat_tests, h)

negative_read : (language : Language) (n : ℕ) (rest : List ℕ) → n ≤ 2 ^ 63 → BeginsNot is_ascii_digit rest → token_at language (45 ∷ (decimal n ++ rest)) ≡ Some (integer (neg_ℤ (pos n)), rest)
negative_read language n rest small ends =
    digits_read true n rest (omega arith) ends ∙ ap (λ t. option_map (λ z. (integer z, rest)) (cond t (Some (neg_ℤ (pos n))) None)) (within n small)
  where
    within : (n : ℕ) → n ≤ 2 ^ 63 → nat_le n (2 ^ 63) ≡ true
    within n h = grind (arith, nat_tests, h)

integer_read : (language : Language) (text rest : List ℕ) (z : ℤ) → SaysInteger text z rest → BeginsNot is_ascii_digit rest → token_at language text ≡ Some (integer z, rest)
integer_read language text rest z (n, inl (is, (small, whole))) ends =
    ap (token_at language) whole ∙ positive_read language n (decimal n) rest refl small ends ∙ ap (λ x. Some (integer x, rest)) (sym is)
integer_read language text rest z (n, inr (is, (small, whole))) ends =
    ap (token_at language) whole ∙ negative_read language n rest small ends ∙ ap (λ x. Some (integer x, rest)) (sym is)

pub integers : (language : Language) (text rest : List ℕ) (z : ℤ) → (token_at language text ≡ Some (integer z, rest)) ↔ (SaysInteger text z rest × BeginsNot is_ascii_digit rest)
unfolding SaidRead Said
integers language text rest z = (
  λ e. (subst (SaidRead text) e (said language text), number_longest language text rest z e),
  λ h. integer_read language text rest z h.0 h.1,
)
