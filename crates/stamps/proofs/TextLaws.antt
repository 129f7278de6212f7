-- Texts of stamps.
use Rattle.std.proofs.Common.{◌≡◌, ◌≢◌, ◌⊎◌, inl, inr, ◌∙◌, ℕ, zero, suc, ◌^◌, ◌<◌, ◌≤◌, ◌+◌, Bool, true, false, cond, ◌&&◌, nat_lt, List, [], ◌∷◌, ◌++◌, length, take, drop, get_or, Some, None, Result, Ok, Err, refl, sym, ap, subst, arith, length-append}
use Rattle.std.specs.Option.{MatchOption}
use Rattle.std.specs.Result.{result_ok}
use Rattle.std.specs.List.{before_first, after_first, position_or_len}
use Rattle.std.specs.Fmt.{decimal}
use Rattle.std.specs.Str.{bytes_eq}
use Rattle.std.specs.Str.Parse.{AllDigits, ParsesUnsigned, digits_value}
use Rattle.std.proofs.lemmas.Bool.Decides.{nat_tests}
use Rattle.std.proofs.lemmas.Bool.{and_parts}
use Rattle.std.proofs.lemmas.Slice.Eq.{bytes_eq-Decides}
use Rattle.std.proofs.lemmas.Str.Parse.{IsNumeralModel, numerals_by_value, tells_digits, parse_plain, not_in_digits}
use Rattle.std.proofs.lemmas.Fmt.{parse-decimal, first_decimal, decimal_digit, decimal_nonempty, decimal-digits_value, digits_value-decimal, digits_decimal, decimal_injective}
use Rattle.std.proofs.lemmas.List.{get_or_append_left}
use Rattle.std.proofs.lemmas.List.Sums.{position_or_len_is, split_at_first, passes_at_first}
use Rattle.std.proofs.Math.Seq.{take-append_seam, get_or-append_seam}
use Rattle.stamps.specs.declared.stamp.Stamp.{Stamp}
use Rattle.stamps.specs.Printed.{printed, IsStamp, is_colon, stamp_by, is_printed, stamp_in}

own : IsNumeralModel (AllDigits 10) (digits_value 10)
own = numerals_by_value _ tells_digits

-- a decimal is `0`, or begins with another digit
pub decimal_front : (n : ℕ) → n < 2 ^ 64 → (decimal n ≡ 48 ∷ []) ⊎ ((48 < get_or (decimal n) 0 0) × (0 < length (decimal n)))
decimal_front zero lt = inl (decimal_digit 0 (omega arith))
decimal_front (suc n) lt = inr (first_decimal (suc n) (omega arith) lt, decimal_nonempty (suc n) lt)

-- what `parse` makes of a text with another digit in front
pub read_plain : (E : Type 0) (text : List ℕ) (r : Result ℕ E) → ParsesUnsigned 64 10 text r → 48 < get_or text 0 0
    → MatchOption (result_ok r) ((n : ℕ) → n < 2 ^ 64 → text ≢ decimal n) (λ n. (text ≡ decimal n) × (n < 2 ^ 64))
read_plain E text (Ok n) h front =
    let p : ((AllDigits 10 text) × (0 < length text) × (digits_value 10 text < 2 ^ 64)) × (n ≡ digits_value 10 text) = parse_plain own {E = E} 64 text (Ok n) h (λ e. absurd (plus (get_or text 0 0) front e)) in
    (sym (decimal-digits_value own text p.0.0 p.0.1 (λ e. absurd (omega (arith, e, front))) p.0.2) ∙ ap decimal (sym p.1), omega (arith, p.0.2, p.1))
  where
    plus : (b : ℕ) → 48 < b → b ≡ 43 → ⊥
    plus b lt e = omega (arith, lt, e)
read_plain E text (Err x) h front = λ n lt e.
    let bad = parse-decimal 64 n text (Err x) lt lt e h in cc

-- no digit is a colon
no_colon : (n : ℕ) → n < 2 ^ 64 → (i : ℕ) → i < length (decimal n) → is_colon (get_or (decimal n) i 0) ≡ false
no_colon n lt i within =
    let other : get_or (decimal n) i 0 ≢ 58 = not_in_digits own (decimal n) 58 (digits_decimal own n lt) (λ r. absurd (omega (arith, r.1))) i within in
    by (get_or (decimal n) i 0) other
  where
    by : (b : ℕ) → b ≢ 58 → is_colon b ≡ false
    by b other = grind (arith, nat_tests)

-- where the colon of a stamp's text stands
colon_place : (ds rest : List ℕ) → ((i : ℕ) → i < length ds → is_colon (get_or ds i 0) ≡ false) → position_or_len is_colon (ds ++ 58 ∷ rest) ≡ length ds
colon_place ds rest none =
    position_or_len_is is_colon (ds ++ 58 ∷ rest) (length ds) 0 (omega (arith, length-append ds (58 ∷ rest)))
    (λ k lt. ap is_colon (get_or_append_left ds (58 ∷ rest) 0 k lt) ∙ none k lt)
    (λ lt. ap is_colon (get_or-append_seam ds 58 rest 0))

-- the parts of a stamp's text
pub record HasParts (text : List ℕ) (s : Stamp) : Type 0 where
  pub there : position_or_len is_colon text < length text
  pub before : before_first is_colon text ≡ decimal s.version
  pub behind : after_first is_colon text ≡ decimal s.count

pub parts_of_printed : (s : Stamp) → IsStamp s → HasParts (printed s) s
unfolding printed
parts_of_printed s is =
    let place = colon_place (decimal s.version) (decimal s.count) (no_colon s.version (omega (arith, is.version))) in
    record {
      there = omega (arith, place, length-append (decimal s.version) (58 ∷ decimal s.count));
      before = ap (λ (k : ℕ). take k (decimal s.version ++ 58 ∷ decimal s.count)) place ∙ take-append_seam (decimal s.version) (58 ∷ decimal s.count);
      behind = ap (λ (k : ℕ). drop (k + 1) (decimal s.version ++ 58 ∷ decimal s.count)) place ∙ drop_past (decimal s.version) (decimal s.count) (length (decimal s.version) + 1) (omega arith);
    }
  where
    drop_past : (ds rest : List ℕ) (n : ℕ) → n ≡ suc (length ds) → drop n (ds ++ 58 ∷ rest) ≡ rest
    drop_past ds rest zero e = absurd (omega (arith, e))
    drop_past [] rest (suc n) e = let none : n ≡ 0 = omega (arith, e) in ap (λ (k : ℕ). drop k rest) none
    drop_past (d ∷ ds) rest (suc n) e = drop_past ds rest n (omega (arith, e))

-- a text with these parts is the stamp's
pub printed_of_parts : (text : List ℕ) (s : Stamp) → HasParts text s → text ≡ printed s
unfolding printed
printed_of_parts text s h =
    split_at_first is_colon text 0 h.there
    ∙ ap (λ (b : List ℕ). b ++ get_or text (position_or_len is_colon text) 0 ∷ after_first is_colon text) h.before
    ∙ ap (λ (c : ℕ). decimal s.version ++ c ∷ after_first is_colon text) (colon (get_or text (position_or_len is_colon text) 0) (passes_at_first is_colon text 0 h.there))
    ∙ ap (λ (b : List ℕ). decimal s.version ++ 58 ∷ b) h.behind
  where
    colon : (b : ℕ) → is_colon b ≡ true → b ≡ 58
    colon b e = grind (arith, nat_tests)

same_stamp : (a b : Stamp) → a.version ≡ b.version → a.count ≡ b.count → a ≡ b
same_stamp a b v c = λ i. record { version = v i; count = c i }

by_parts : (text : List ℕ) (s : Stamp) → IsStamp s → HasParts text s → stamp_by text ≡ s
by_parts text s is h = same_stamp (stamp_by text) s
    (ap (digits_value 10) h.before ∙ digits_value-decimal own s.version (omega (arith, is.version)))
    (ap (digits_value 10) h.behind ∙ digits_value-decimal own s.count is.count)

is_its_own : (s : Stamp) → IsStamp s → is_printed (printed s) s ≡ true
is_its_own s is = whole _ _ _ (below s.version (2 ^ 32) is.version) (below s.count (2 ^ 64) is.count) (same (printed s))
  where
    below : (a b : ℕ) → a < b → nat_lt a b ≡ true
    below a b lt = grind (arith, nat_tests)

    same : (text : List ℕ) → bytes_eq text text ≡ true
    same text = (bytes_eq-Decides text text).1 refl

    whole : (a b c : Bool) → a ≡ true → b ≡ true → c ≡ true → ((a && b) && c) ≡ true
    whole true true true p q r = refl
    whole true true false p q r = cc
    whole true false c p q r = cc
    whole false b c p q r = cc

-- the text of a stamp is that stamp's
pub printed_stamp : (s : Stamp) → IsStamp s → stamp_in (printed s) ≡ Some s
unfolding stamp_in
printed_stamp s is =
    ap (λ (t : Stamp). cond (is_printed (printed s) t) (Some t) None) (by_parts (printed s) s is (parts_of_printed s is))
    ∙ ap (λ (b : Bool). cond b (Some s) None) (is_its_own s is)

lower : (a b : ℕ) → nat_lt a b ≡ true → a < b
lower a b e = grind (arith, nat_tests)

is_its : (text : List ℕ) (s : Stamp) → is_printed text s ≡ true → (text ≡ printed s) × IsStamp s
is_its text s e =
    let h = and_parts (nat_lt s.version (2 ^ 32) && nat_lt s.count (2 ^ 64)) (bytes_eq text (printed s)) e in
    let n = and_parts (nat_lt s.version (2 ^ 32)) (nat_lt s.count (2 ^ 64)) h.0 in
    ((bytes_eq-Decides text (printed s)).0 h.1, record { version = lower s.version (2 ^ 32) n.0; count = lower s.count (2 ^ 64) n.1 })

-- only a stamp's text is one's
pub its_stamp : (text : List ℕ) (s : Stamp) → stamp_in text ≡ Some s → (text ≡ printed s) × IsStamp s
unfolding stamp_in
its_stamp text s is = by (is_printed text (stamp_by text)) refl is
  where
    by : (b : Bool) → is_printed text (stamp_by text) ≡ b → cond b (Some (stamp_by text)) None ≡ Some s → (text ≡ printed s) × IsStamp s
    by false e k = cc
    by true e k = subst (λ (t : Stamp). (text ≡ printed t) × IsStamp t) (some_is (stamp_by text) s k) (is_its text (stamp_by text) e)
      where
        some_is : (a b : Stamp) → Some a ≡ Some b → a ≡ b
        some_is a b k = cc

-- and a text of none is no stamp's
pub no_stamp : (text : List ℕ) → ((s : Stamp) → IsStamp s → text ≢ printed s) → stamp_in text ≡ None
unfolding stamp_in
no_stamp text none = by (is_printed text (stamp_by text)) refl
  where
    by : (b : Bool) → is_printed text (stamp_by text) ≡ b → cond b (Some (stamp_by text)) None ≡ None
    by false e = refl
    by true e = let h = is_its text (stamp_by text) e in absurd (none (stamp_by text) h.1 h.0)

-- ---- what the reader finds

-- without a colon there is no stamp
pub none_without : (text : List ℕ) → position_or_len is_colon text ≡ length text → (s : Stamp) → IsStamp s → text ≢ printed s
none_without text e s is same = omega (arith, e, (subst (λ (t : List ℕ). HasParts t s) (sym same) (parts_of_printed s is)).there)

-- nor with another part in front of it, or behind
pub none_before : (text part : List ℕ) → part ≡ before_first is_colon text → ((n : ℕ) → n < 2 ^ 64 → part ≢ decimal n) → (s : Stamp) → IsStamp s → text ≢ printed s
none_before text part e none s is same =
    none s.version (omega (arith, is.version)) (e ∙ (subst (λ (t : List ℕ). HasParts t s) (sym same) (parts_of_printed s is)).before)

pub none_behind : (text part : List ℕ) → part ≡ after_first is_colon text → ((n : ℕ) → n < 2 ^ 64 → part ≢ decimal n) → (s : Stamp) → IsStamp s → text ≢ printed s
none_behind text part e none s is same =
    none s.count is.count (e ∙ (subst (λ (t : List ℕ). HasParts t s) (sym same) (parts_of_printed s is)).behind)

-- nor where the version is wide
pub none_so_wide : (text part : List ℕ) (n : ℕ) → part ≡ before_first is_colon text → part ≡ decimal n → n < 2 ^ 64 → 2 ^ 32 ≤ n → (s : Stamp) → IsStamp s → text ≢ printed s
none_so_wide text part n e is_n lt wide s is same =
    let one = decimal_injective n s.version lt (omega (arith, is.version)) (sym is_n ∙ e ∙ (subst (λ (t : List ℕ). HasParts t s) (sym same) (parts_of_printed s is)).before) in
    omega (arith, one, wide, is.version)

-- no decimal but that of 0 begins otherwise
pub none_plain : (text : List ℕ) → text ≢ 48 ∷ [] → nat_lt 48 (get_or text 0 0) ≡ false → (n : ℕ) → n < 2 ^ 64 → text ≢ decimal n
none_plain text other front n lt e = elim (decimal_front n lt) [
  | inl lone ↦ other (e ∙ lone)
  | inr past ↦ low (get_or text 0 0) front (subst (λ (t : List ℕ). 48 < get_or t 0 0) (sym e) past.0)
]
  where
    low : (b : ℕ) → nat_lt 48 b ≡ false → 48 < b → ⊥
    low b f lt = grind (arith, nat_tests)
