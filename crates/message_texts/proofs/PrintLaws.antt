-- The text of a value is read as that value.
use Rattle.std.proofs.Common.{◌≡◌, ◌∙◌, ◌≤◌, ◌<◌, ◌^◌, ◌==◌, ℕ, suc, pos, negsuc, max, Bool, false, cond, List, [], ◌∷◌, length, drop, Some, option_map, option_and_then, decimal, refl, sym, ap, arith, append-nil, ne_eqb}
use Rattle.std.specs.Char.{digit_value}
use Rattle.std.specs.Str.Parse.{AllDigits}
use Rattle.std.proofs.lemmas.Fmt.{decimal_is_IsNumeral, decimal_nonempty}
use Rattle.json.specs.Word.{head, after_whole, after_fraction, after_exponent, after_number}
use Rattle.json.specs.Print.{IsNumber}
use Rattle.json.specs.Lex.{tokens}
use Rattle.json.specs.Json as json
use Rattle.json.specs.Tree as tree
use Rattle.json.proofs.Printed.Decimals.{IsNumber-decimal}
use Rattle.json.proofs.Printed.Tokens.{tokens-print}
use Rattle.json.proofs.Printed.Trees.{value-json_tokens, ArePrintable-json_tokens}
use Rattle.serde_json.specs.Data.{Num, unsigned, negative, float, Data, null, boolean, number, string, array, object, Items, no_items, item, Members, no_members, member, put, depth, items_depth, members_depth}
use Rattle.serde_json.specs.Read.{number_of, of_json, of_items, of_members, read, max_depth}
use Rattle.serde_json.specs.Written.{number_text, outline, items_outline, members_outline, compact_text}
use Rattle.serde_json.proofs.Numbers.{number_of-decimal, number_of-negative}
use Rattle.serde_json.proofs.Texts.{print-outline}

-- ---- which values

-- an integer of 64 bits
abbrev pub IsInteger : Num → Type 0
IsInteger (unsigned n) = n < 2 ^ 64
IsInteger (negative (pos n)) = ⊥
IsInteger (negative (negsuc n)) = n < 2 ^ 63
IsInteger (float x) = ⊥

-- members that go in one after another
abbrev pub put_all : Members → Members → Members
put_all no_members found = found
put_all (member k d ms) found = put_all ms (put k d found)

-- each number is such an integer, and members stand where they go in
abbrev mutual
  pub IsPlain : Data → Type 0
  IsPlain null = Unit {0}
  IsPlain (boolean b) = Unit {0}
  IsPlain (number n) = IsInteger n
  IsPlain (string s) = Unit {0}
  IsPlain (array ds) = ArePlain ds
  IsPlain (object ms) = (put_all ms no_members ≡ ms) × MembersArePlain ms

  pub ArePlain : Items → Type 0
  ArePlain no_items = Unit {0}
  ArePlain (item d ds) = IsPlain d × ArePlain ds

  pub MembersArePlain : Members → Type 0
  MembersArePlain no_members = Unit {0}
  MembersArePlain (member k d ms) = IsPlain d × MembersArePlain ms

-- ---- their numbers

no_minus : (ds : List ℕ) → AllDigits 10 ds → 0 < length ds → (head ds == 45) ≡ false
no_minus [] h some = absurd (omega arith)
no_minus (d ∷ ds) h some = ne_eqb d 45 (λ e. let digit : digit_value d < 10 = h.0 in grind arith)

with_minus : (s : List ℕ) → (head s == 45) ≡ false → IsNumber s → IsNumber (45 ∷ s)
unfolding after_number
with_minus s other is = ap (λ (b : Bool). option_and_then after_exponent (option_and_then after_fraction (after_whole (cond b (drop 1 s) s)))) (sym other) ∙ is

number_has_text : (n : Num) → IsInteger n → IsNumber (number_text n)
number_has_text (unsigned n) h = IsNumber-decimal n h
number_has_text (negative (pos n)) h = absurd h
number_has_text (negative (negsuc n)) h =
    let few : suc n < 2 ^ 64 = omega (arith, h) in
    with_minus (decimal (suc n)) (no_minus _ (decimal_is_IsNumeral (suc n) few).0.1 (decimal_nonempty (suc n) few)) (IsNumber-decimal (suc n) few)
number_has_text (float x) h = absurd h

number_back : (n : Num) → IsInteger n → number_of (number_text n) ≡ Some n
number_back (unsigned n) h = number_of-decimal n h
number_back (negative (pos n)) h = absurd h
number_back (negative (negsuc n)) h = number_of-negative n h
number_back (float x) h = absurd h

mutual
  has_numbers : (d : Data) → IsPlain d → tree.HasNumbers (outline d)
  has_numbers null h = tt
  has_numbers (boolean b) h = tt
  has_numbers (number n) h = number_has_text n h
  has_numbers (string s) h = tt
  has_numbers (array ds) h = items_have_numbers ds h
  has_numbers (object ms) h = members_have_numbers ms h.1

  items_have_numbers : (ds : Items) → ArePlain ds → tree.ItemsHaveNumbers (items_outline ds)
  items_have_numbers no_items h = tt
  items_have_numbers (item d ds) h = (has_numbers d h.0, items_have_numbers ds h.1)

  members_have_numbers : (ms : Members) → MembersArePlain ms → tree.MembersHaveNumbers (members_outline ms)
  members_have_numbers no_members h = tt
  members_have_numbers (member k d ms) h = (has_numbers d h.0, members_have_numbers ms h.1)

-- ---- as deep

mutual
  same_depth : (d : Data) → tree.depth (outline d) ≡ depth d
  same_depth null = refl
  same_depth (boolean b) = refl
  same_depth (number n) = refl
  same_depth (string s) = refl
  same_depth (array ds) = ap suc (same_items_depth ds)
  same_depth (object ms) = ap suc (same_members_depth ms)

  same_items_depth : (ds : Items) → tree.items_depth (items_outline ds) ≡ items_depth ds
  same_items_depth no_items = refl
  same_items_depth (item d ds) = λ i. max (same_depth d i) (same_items_depth ds i)

  same_members_depth : (ms : Members) → tree.members_depth (members_outline ms) ≡ members_depth ms
  same_members_depth no_members = refl
  same_members_depth (member k d ms) = λ i. max (same_depth d i) (same_members_depth ms i)

-- ---- read again

mutual
  value_back : (d : Data) → IsPlain d → of_json (outline d) ≡ Some d
  value_back null h = refl
  value_back (boolean b) h = refl
  value_back (number n) h = ap (option_map number) (number_back n h)
  value_back (string s) h = refl
  value_back (array ds) h = ap (option_map array) (items_back ds h)
  value_back (object ms) h = ap (option_map object) (members_back ms no_members h.1) ∙ ap (λ (l : Members). Some (object l)) h.0

  items_back : (ds : Items) → ArePlain ds → of_items (items_outline ds) ≡ Some ds
  items_back no_items h = refl
  items_back (item d ds) h = ap (option_and_then (λ (e : Data). option_map (item e) (of_items (items_outline ds)))) (value_back d h.0) ∙ ap (option_map (item d)) (items_back ds h.1)

  members_back : (ms found : Members) → MembersArePlain ms → of_members (members_outline ms) found ≡ Some (put_all ms found)
  members_back no_members found h = refl
  members_back (member k d ms) found h =
      ap (option_and_then (λ (e : Data). of_members (members_outline ms) (put k e found))) (value_back d h.0) ∙ members_back ms (put k d found) h.1

-- the text of such a value is read as that value
pub text_back : (d : Data) → IsPlain d → depth d ≤ max_depth → read (compact_text d) ≡ Some d
text_back d plain shallow =
    let j = outline d in
    ap (λ o. option_and_then of_json (option_and_then (λ p. json.if_last p.0 p.1) o))
    (ap (json.value max_depth) (ap tokens (sym (print-outline d)) ∙ tokens-print (tree.json_tokens j) (ArePrintable-json_tokens j (has_numbers d plain)) ∙ sym (append-nil (tree.json_tokens j)))
    ∙ value-json_tokens j max_depth [] (omega (arith, shallow, same_depth d)))
    ∙ value_back d plain
