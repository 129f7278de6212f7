-- Reading on by one token.
use Rattle.std.proofs.Common.{◌≡◌, ◌≢◌, ℕ, ◌+◌, ◌-◌, ◌<◌, ◌≤◌, min, List, [], ◌∷◌, ◌++◌, length, Option, Some, None, refl, sym, ap, subst, ◌∙◌, arith, option_and_then, length-drop, length-append}
use Rattle.std.specs.List.{prefix_len}
use Rattle.doc_types.specs.declared.symbols.Language.{Language}
use Rattle.doc_types.specs.Tokens.{Token, skip_blanks, token_at, is_blank}
use Rattle.doc_types.proofs.TokenLaws.{token_front}
use Rattle.conditions.specs.Readings.{IsReadAs, Begins, IsText, IsRefusedAt, CannotGoOn, ends_early, unreadable, no_such}
use Rattle.conditions.specs.Machines.{run, Reads}

pub read_one_more : (language : Language) (text : List ℕ) (ts : List Token) (rest : List ℕ) (t : Token) (behind : List ℕ)
    → IsReadAs language text ts rest → token_at language (skip_blanks rest) ≡ Some (t, behind) → IsReadAs language text (ts ++ t ∷ []) behind
read_one_more language text [] rest t behind read token = (behind, (subst (λ r. token_at language (skip_blanks r) ≡ Some (t, behind)) (sym read) token, refl))
read_one_more language text (u ∷ us) rest t behind read token = (read.0, (read.1.0, read_one_more language read.0 us rest t behind read.1.1 token))

pub blanks_behind : (text : List ℕ) → length (skip_blanks text) ≤ length text
blanks_behind text = omega (arith, length-drop (prefix_len is_blank text) text)

-- the text behind a token is shorter
pub token_shortens : (language : Language) (text rest : List ℕ) (t : Token) → token_at language text ≡ Some (t, rest) → length (skip_blanks rest) < length text
token_shortens language text rest t e =
    let f = token_front language text rest t e in
    omega (arith, blanks_behind rest, f.some, ap length f.whole, length-append f.front rest)

-- what was read so far
pub record ReadSoFar {X V : Type 0} (language : Language) (L : List Token → V → Type 0) (R : X → List Token → Type 0) (text rest : List ℕ) (reader : X) : Type 0 where
  pub tokens : List Token
  pub before : List ℕ
  pub read : IsReadAs language text tokens before
  pub blanks : skip_blanks before ≡ rest
  pub reached : R reader tokens
  pub begins : tokens ≢ [] → Begins L tokens
  pub within : length rest ≤ length text

pub starts : {X V : Type 0} (language : Language) (L : List Token → V → Type 0) (R : X → List Token → Type 0) (text rest : List ℕ) (reader : X) → rest ≡ skip_blanks text → R reader [] → ReadSoFar language L R text rest reader
starts language L R text rest reader e r = record {
  tokens = [];
  before = text;
  read = refl;
  blanks = sym e;
  reached = r;
  begins = λ other. absurd (other refl);
  within = omega (arith, ap length e, blanks_behind text);
}

pub goes_on : {X V : Type 0} (language : Language) (L : List Token → V → Type 0) (R : X → List Token → Type 0) (text rest : List ℕ) (reader next : X) (t : Token) (behind new : List ℕ)
    → ReadSoFar language L R text rest reader → token_at language rest ≡ Some (t, behind) → new ≡ skip_blanks behind
    → ((ts : List Token) → R reader ts → R next (ts ++ t ∷ [])) → ((ts : List Token) → R reader ts → Begins L (ts ++ t ∷ []))
    → ReadSoFar language L R text new next
goes_on language L R text rest reader next t behind new s token e takes begins = record {
  tokens = s.tokens ++ t ∷ [];
  before = behind;
  read = read_one_more language text s.tokens s.before t behind s.read (subst (λ r. token_at language r ≡ Some (t, behind)) (sym s.blanks) token);
  blanks = sym e;
  reached = takes s.tokens s.reached;
  begins = λ some. begins s.tokens s.reached;
  within = omega (arith, s.within, ap length e, token_shortens language rest behind t token);
}

place_so : {X V : Type 0} (language : Language) (L : List Token → V → Type 0) (R : X → List Token → Type 0) (text rest : List ℕ) (reader : X) (offset : ℕ) (s : ReadSoFar language L R text rest reader)
    → offset ≡ min (length text - length rest) 4294967295 → CannotGoOn language L s.tokens rest → IsRefusedAt language L text offset
place_so language L R text rest reader offset s place cause = record {
  tokens = s.tokens;
  rest = s.before;
  read = s.read;
  begins = s.begins;
  place = place ∙ ap (λ r. min (length text - length r) 4294967295) (sym s.blanks);
  cause = subst (λ r. CannotGoOn language L s.tokens r) (sym s.blanks) cause;
}

pub refused_unreadable : {X V : Type 0} (language : Language) (L : List Token → V → Type 0) (R : X → List Token → Type 0) (text rest : List ℕ) (reader : X) (offset : ℕ) → ReadSoFar language L R text rest reader
    → offset ≡ min (length text - length rest) 4294967295 → rest ≢ [] → token_at language rest ≡ None → IsRefusedAt language L text offset
refused_unreadable language L R text rest reader offset s place some none = place_so language L R text rest reader offset s place (unreadable some none)

pub refused_token : {X V : Type 0} (language : Language) (L : List Token → V → Type 0) (R : X → List Token → Type 0) (text rest : List ℕ) (reader : X) (offset : ℕ) (t : Token) (behind : List ℕ) → ReadSoFar language L R text rest reader
    → offset ≡ min (length text - length rest) 4294967295 → token_at language rest ≡ Some (t, behind) → ((ts : List Token) → R reader ts → Begins L (ts ++ t ∷ []) → ⊥) → IsRefusedAt language L text offset
refused_token language L R text rest reader offset t behind s place token stops = place_so language L R text rest reader offset s place (no_such t behind token (stops s.tokens s.reached))

pub refused_end : {X V : Type 0} (language : Language) (L : List Token → V → Type 0) (R : X → List Token → Type 0) (text rest : List ℕ) (reader : X) (offset : ℕ) → ReadSoFar language L R text rest reader
    → offset ≡ min (length text - length rest) 4294967295 → rest ≡ [] → ((ts : List Token) (v : V) → R reader ts → L ts v → ⊥) → IsRefusedAt language L text offset
refused_end language L R text rest reader offset s place none stops = place_so language L R text rest reader offset s place (ends_early none (λ v l. stops s.tokens v s.reached l))

pub read_whole : {X V : Type 0} (language : Language) (L : List Token → V → Type 0) (R : X → List Token → Type 0) (text rest : List ℕ) (reader : X) (v : V) → ReadSoFar language L R text rest reader
    → rest ≡ [] → ((ts : List Token) → R reader ts → L ts v) → IsText language L text v
read_whole language L R text rest reader v s none says = record { tokens = s.tokens; rest = s.before; read = s.read; ends = s.blanks ∙ none; says = says s.tokens s.reached }

-- a machine's step
pub run-push : {X : Type 0} (step : X → Token → Option X) (x : X) (ts : List Token) (y : X) (t : Token) (z : X) → run step x ts ≡ Some y → step y t ≡ Some z → run step x (ts ++ t ∷ []) ≡ Some z
run-push step x [] y t z r s = let e : x ≡ y = cc in rw e (rw s refl)
run-push step x (u ∷ us) y t z r s = elim (step x u) as (λ o. option_and_then (λ w. run step w us) o ≡ Some y → option_and_then (λ w. run step w (us ++ t ∷ [])) o ≡ Some z) [
  | None ↦ λ e. absurd (cc)
  | Some w ↦ λ e. run-push step w us y t z e s
] r

-- no text goes on with a token that the machine refuses
pub run_stops : {X : Type 0} (step : X → Token → Option X) (x : X) (ts : List Token) (y : X) (t : Token) (more : List Token) (z : X) → run step x ts ≡ Some y → step y t ≡ None → run step x ((ts ++ t ∷ []) ++ more) ≡ Some z → ⊥
run_stops step x [] y t more z r s h = let e : x ≡ y = cc in let n : step x t ≡ None = rw e s in let k = rw n at h in cc
run_stops step x (u ∷ us) y t more z r s h = elim (step x u) as (λ o. option_and_then (λ w. run step w us) o ≡ Some y → option_and_then (λ w. run step w ((us ++ t ∷ []) ++ more)) o ≡ Some z → ⊥) [
  | None ↦ λ e k. cc
  | Some w ↦ λ e k. run_stops step w us y t more z e s k
] r h

pub stops : {X V : Type 0} (step : X → Token → Option X) (whole : X → Option V) (start : X) (L : List Token → V → Type 0) → Reads step whole start L
    → (ts : List Token) (x : X) (t : Token) → run step start ts ≡ Some x → step x t ≡ None → Begins L (ts ++ t ∷ []) → ⊥
stops step whole start L r ts x t at none b = let a = r.accepts ((ts ++ t ∷ []) ++ b.0) b.1.0 b.1.1 in run_stops step start ts x t b.0 a.0 at none a.1.0

-- where the machine has no value the tokens are no text
pub no_value : {X V : Type 0} (step : X → Token → Option X) (whole : X → Option V) (start : X) (L : List Token → V → Type 0) → Reads step whole start L
    → (ts : List Token) (x : X) (v : V) → run step start ts ≡ Some x → whole x ≡ None → L ts v → ⊥
no_value step whole start L r ts x v at none l =
    let a = r.accepts ts v l in
    let e : a.0 ≡ x = cc (a.1.0, at) in
    let w : whole x ≡ Some v = subst (λ y. whole y ≡ Some v) e a.1.1 in
    cc (w, none)
