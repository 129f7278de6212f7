-- Runs, kinds and room.
use Rattle.std.proofs.Common.{◌≡◌, ℕ, suc, ◌<◌, Bool, true, false, cond, List, [], ◌∷◌, ◌++◌, codes, bytes_eq, nat_lt, Option, Some, None, refl, sym, ap, subst, arith, option_and_then}
use mathlib.Core.Bool.{true≢false}
use Rattle.std.specs.Cmp.Lexicographic.{same_text}
use Rattle.std.proofs.lemmas.Bool.Decides.{nat_tests}
use Rattle.doc_types.specs.declared.symbols.Symbol.{Symbol}
use Rattle.doc_types.specs.declared.symbols.Symbol.TheVariants as symbol
use Rattle.doc_types.specs.Tokens.{Token, word, integer, quoted, signs}
use Rattle.conditions.specs.Machines.{run}
use Rattle.conditions.specs.declared.kinds.Kind.{Kind}
use Rattle.conditions.specs.declared.kinds.Kind.TheVariants as kind
use Rattle.conditions.specs.declared.kinds.Negation.{Negation}
use Rattle.conditions.specs.declared.kinds.Negation.TheVariants as negation
use Rattle.conditions.specs.Kinds.{kind_of, word_kind, sign_kind, not_kind, and_word, or_word, true_word, false_word, not_word, not_sign, opens, closes}
use Rattle.proof_basics.proofs.Options.{some_same, none_some}

pub run-one : {X : Type 0} (f : X → Token → Option X) (x : X) (t : Token) (y : X) → f x t ≡ Some y → run f x (t ∷ []) ≡ Some y
run-one f x t y e = rw e refl

pub run-cons : {X : Type 0} (f : X → Token → Option X) (x : X) (t : Token) (y : X) (ts : List Token) (z : X) → f x t ≡ Some y → run f y ts ≡ Some z → run f x (t ∷ ts) ≡ Some z
run-cons f x t y ts z e r = rw e r

pub run-append : {X : Type 0} (f : X → Token → Option X) (x : X) (ts : List Token) (y : X) (us : List Token) (z : X) → run f x ts ≡ Some y → run f y us ≡ Some z → run f x (ts ++ us) ≡ Some z
run-append f x [] y us z r s = let e : x ≡ y = some_same x y r in rw e s
run-append f x (t ∷ ts) y us z r s = elim (f x t) as (λ o. option_and_then (λ w. run f w ts) o ≡ Some y → option_and_then (λ w. run f w (ts ++ us)) o ≡ Some z) [
  | None ↦ λ e. absurd (none_some y e)
  | Some w ↦ λ e. run-append f w ts y us z e s
] r

pub room : (k : ℕ) → k < 64 → nat_lt (suc k) 65 ≡ true
room k h = grind (arith, nat_tests, h)

pub no_more_room : (k : ℕ) → nat_lt k 65 ≡ true → k < 65
no_more_room k h = grind (arith, nat_tests, h)

pub and_kind : (n : Negation) → kind_of n and_word ≡ kind.And
unfolding kind_of
and_kind n = refl

pub or_kind : (n : Negation) → kind_of n or_word ≡ kind.Or
unfolding kind_of
or_kind n = refl

pub true_kind : (n : Negation) → kind_of n true_word ≡ kind.True
unfolding kind_of
true_kind n = refl

pub false_kind : (n : Negation) → kind_of n false_word ≡ kind.False
unfolding kind_of
false_kind n = refl

pub opens_kind : (n : Negation) → kind_of n opens ≡ kind.Open
unfolding kind_of
opens_kind n = refl

pub closes_kind : (n : Negation) → kind_of n closes ≡ kind.Close
unfolding kind_of
closes_kind n = refl

pub not_word_kind : (n : Negation) → n ≡ negation.Word → kind_of n not_word ≡ kind.Not
unfolding kind_of
not_word_kind n e = ap not_kind e

pub not_sign_kind : (n : Negation) → n ≡ negation.Sign → kind_of n not_sign ≡ kind.Not
unfolding kind_of
not_sign_kind n e = ap (λ m. sign_kind m symbol.Not) e

-- the token of a kind
pub TokenOf : Negation → Kind → Token → Type 0
TokenOf n kind.And t = t ≡ and_word
TokenOf n kind.Or t = t ≡ or_word
TokenOf n kind.True t = t ≡ true_word
TokenOf n kind.False t = t ≡ false_word
TokenOf n kind.Open t = t ≡ opens
TokenOf n kind.Close t = t ≡ closes
TokenOf negation.Word kind.Not t = t ≡ not_word
TokenOf negation.Sign kind.Not t = t ≡ not_sign
TokenOf n kind.Other t = Unit {0}

same_word : (w : List ℕ) (c : List ℕ) → bytes_eq w c ≡ true → word w ≡ word c
same_word w c e = ap word (same_text w c (sym e))

not_token : (n : Negation) (w : List ℕ) → bytes_eq w (codes "not") ≡ true → TokenOf n (not_kind n) (word w)
unfolding TokenOf
not_token negation.Word w e = same_word w (codes "not") e
not_token negation.Sign w e = tt

word_token : (n : Negation) (w : List ℕ) → TokenOf n (word_kind n w) (word w)
unfolding TokenOf
word_token n w = by-and (bytes_eq w (codes "and")) refl
  where
    by-not : (b : Bool) → bytes_eq w (codes "not") ≡ b → TokenOf n (cond b (not_kind n) kind.Other) (word w)
    by-not true e = not_token n w e
    by-not false e = tt

    by-false : (b : Bool) → bytes_eq w (codes "false") ≡ b → TokenOf n (cond b kind.False (cond (bytes_eq w (codes "not")) (not_kind n) kind.Other)) (word w)
    by-false true e = same_word w (codes "false") e
    by-false false e = by-not (bytes_eq w (codes "not")) refl

    by-true : (b : Bool) → bytes_eq w (codes "true") ≡ b → TokenOf n (cond b kind.True (cond (bytes_eq w (codes "false")) kind.False (cond (bytes_eq w (codes "not")) (not_kind n) kind.Other))) (word w)
    by-true true e = same_word w (codes "true") e
    by-true false e = by-false (bytes_eq w (codes "false")) refl

    by-or : (b : Bool) → bytes_eq w (codes "or") ≡ b → TokenOf n (cond b kind.Or (cond (bytes_eq w (codes "true")) kind.True (cond (bytes_eq w (codes "false")) kind.False (cond (bytes_eq w (codes "not")) (not_kind n) kind.Other)))) (word w)
    by-or true e = same_word w (codes "or") e
    by-or false e = by-true (bytes_eq w (codes "true")) refl

    by-and : (b : Bool) → bytes_eq w (codes "and") ≡ b → TokenOf n (cond b kind.And (cond (bytes_eq w (codes "or")) kind.Or (cond (bytes_eq w (codes "true")) kind.True (cond (bytes_eq w (codes "false")) kind.False (cond (bytes_eq w (codes "not")) (not_kind n) kind.Other))))) (word w)
    by-and true e = same_word w (codes "and") e
    by-and false e = by-or (bytes_eq w (codes "or")) refl

sign_token : (n : Negation) (s : Symbol) → TokenOf n (sign_kind n s) (signs s)
unfolding TokenOf
sign_token n symbol.Open = refl
sign_token n symbol.Close = refl
sign_token negation.Sign symbol.Not = refl
sign_token negation.Word symbol.Not = tt
sign_token negation.Word _ = tt
sign_token negation.Sign _ = tt

pub kind_token : (n : Negation) (t : Token) → TokenOf n (kind_of n t) t
unfolding TokenOf kind_of
kind_token n (word w) = word_token n w
kind_token n (integer z) = tt
kind_token n (quoted text) = tt
kind_token n (signs s) = sign_token n s

pub token_is : (n : Negation) (t : Token) (k : Kind) → kind_of n t ≡ k → TokenOf n k t
token_is n t k e = subst (λ j. TokenOf n j t) e (kind_token n t)

pub and_token : (n : Negation) (t : Token) → kind_of n t ≡ kind.And → t ≡ and_word
unfolding TokenOf
and_token n t e = token_is n t kind.And e

pub or_token : (n : Negation) (t : Token) → kind_of n t ≡ kind.Or → t ≡ or_word
unfolding TokenOf
or_token n t e = token_is n t kind.Or e

pub true_token : (n : Negation) (t : Token) → kind_of n t ≡ kind.True → t ≡ true_word
unfolding TokenOf
true_token n t e = token_is n t kind.True e

pub false_token : (n : Negation) (t : Token) → kind_of n t ≡ kind.False → t ≡ false_word
unfolding TokenOf
false_token n t e = token_is n t kind.False e

pub open_token : (n : Negation) (t : Token) → kind_of n t ≡ kind.Open → t ≡ opens
unfolding TokenOf
open_token n t e = token_is n t kind.Open e

pub close_token : (n : Negation) (t : Token) → kind_of n t ≡ kind.Close → t ≡ closes
unfolding TokenOf
close_token n t e = token_is n t kind.Close e

pub not_word_token : (t : Token) → kind_of negation.Word t ≡ kind.Not → t ≡ not_word
unfolding TokenOf
not_word_token t e = token_is negation.Word t kind.Not e

pub not_sign_token : (t : Token) → kind_of negation.Sign t ≡ kind.Not → t ≡ not_sign
unfolding TokenOf
not_sign_token t e = token_is negation.Sign t kind.Not e
