-- Tokens by their first bytes.
use Rattle.std.proofs.Common.{◌≡◌, ℕ, ℤ, ◌-◌, ◌<◌, ◌≤◌, ◌==◌, Bool, true, false, cond, List, [], ◌∷◌, length, get_or, take, drop, refl, sym, ap, ◌∙◌, arith, Option, Some, None, is_some, inl, inr}
use mathlib.Core.Bool.{true≢false}
use Rattle.std.specs.List.{prefix_len}
use Rattle.std.proofs.lemmas.Bool.{cases_lt}
use Rattle.std.proofs.lemmas.Bool.Decides.{nat_tests}
use Rattle.std.proofs.lemmas.List.{take_all, length-drop}
use Rattle.doc_types.specs.declared.symbols.Language.{Language}
use Rattle.doc_types.specs.declared.symbols.Language.TheVariants.{Selection, Query}
use Rattle.doc_types.specs.declared.symbols.Symbol.{Symbol}
use Rattle.doc_types.specs.Symbols.{single_symbol, shared_symbol}
use Rattle.std.specs.Char.{is_ascii_digit, is_ascii_alphabetic}
use Rattle.doc_types.specs.Tokens.{quoted, body_at, is_numeral, is_quote, number_of, literal_at, token_at}
use Rattle.doc_types.specs.Reading.{EndsInAscii}
use Rattle.doc_types.proofs.Runs.{run_ascii, digit_ascii, some_digit}

some_by : (b : Bool) (o : Option ℤ) (z : ℤ) → cond b o None ≡ Some z → b ≡ true
some_by true o z e = refl
some_by false o z e = absurd (true≢false (sym (ap is_some e)))

pub number_ends : (negative : Bool) (bytes : List ℕ) (size : ℕ) (z : ℤ) → size ≡ prefix_len is_ascii_digit bytes → size ≤ length bytes → number_of negative (take size bytes) ≡ Some z → EndsInAscii size bytes
number_ends negative bytes size z run within e =
    let numeral : is_numeral (take (prefix_len is_ascii_digit bytes) bytes) ≡ true = ap (λ n. is_numeral (take n bytes)) (sym run) ∙ some_by _ _ z e in
    let some = some_digit bytes numeral in
    record { some = omega (arith, some, run); within = within; ascii = rw run (run_ascii is_ascii_digit bytes digit_ascii some) }

-- no symbol has a byte past ASCII
no_test : (a k : ℕ) → k < 128 → 128 ≤ a → (a == k) ≡ false
no_test a k lt le = grind (arith, nat_tests)

none_shared : (a : ℕ) (other : Option Symbol) → 128 ≤ a → other ≡ None → shared_symbol a other ≡ None
none_shared a other le e = rw (no_test a 40 (omega arith) le, no_test a 41 (omega arith) le, no_test a 60 (omega arith) le, no_test a 62 (omega arith) le) e

none_past : (language : Language) (a : ℕ) → 128 ≤ a → single_symbol language a ≡ None
none_past Selection a le = none_shared a _ le (rw (no_test a 46 (omega arith) le) refl)
none_past Query a le = none_shared a _ le (rw (no_test a 44 (omega arith) le, no_test a 42 (omega arith) le, no_test a 124 (omega arith) le, no_test a 59 (omega arith) le, no_test a 33 (omega arith) le, no_test a 61 (omega arith) le) refl)

pub symbol_ascii : (language : Language) (a : ℕ) (s : Symbol) → single_symbol language a ≡ Some s → a < 128
symbol_ascii language a s e = elim (cases_lt a 128) [
  | inl below ↦ below
  | inr past ↦ absurd (true≢false (sym (ap is_some e) ∙ ap is_some (none_past language a (omega (arith, past)))))
]

-- a quote begins a literal
quote_is : (c : ℕ) → is_quote c ≡ true → (is_ascii_alphabetic c ≡ false) × ((is_ascii_digit c ≡ false) × ((c == 45) ≡ false))
quote_is c e = (grind (arith, nat_tests, e), (grind (arith, nat_tests, e), grind (arith, nat_tests, e)))

pub token_quote : (language : Language) (text : List ℕ) → 0 < length text → is_quote (get_or text 0 0) ≡ true → token_at language text ≡ literal_at (get_or text 0 0) (drop 1 text)
token_quote language [] some e = absurd (omega arith)
token_quote language (c ∷ rest) some e = let q = quote_is c e in rw (q.0, q.1.0, q.1.1, e) refl

pub literal_some : (quote : ℕ) (bytes body rest : List ℕ) → body_at quote bytes ≡ Some (body, rest) → literal_at quote bytes ≡ Some (quoted body, rest)
literal_some quote bytes body rest e = rw e refl

pub literal_none : (quote : ℕ) (bytes : List ℕ) → body_at quote bytes ≡ None → literal_at quote bytes ≡ None
literal_none quote bytes e = rw e refl

pub all_behind : (text : List ℕ) → take (length text - 1) (drop 1 text) ≡ drop 1 text
all_behind text = take_all (length text - 1) (drop 1 text) (omega (arith, length-drop 1 text))
