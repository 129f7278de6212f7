-- A text has the leftmost fault that its reading answers, and no other.
use Rattle.std.proofs.Common.{◌≡◌, ◌≢◌, ◌==◌, ◌↔◌, ℕ, suc, ◌+◌, ◌<◌, Bool, true, false, not, cond, nat_lt, List, [], ◌∷◌, ◌++◌, length, take, codes, Option, Some, None, Ok, Err, Result, refl, sym, ap, ◌∙◌, subst, arith, get_or, count_by, chars, inl, inr, ltb-true, ltb-false, eqb-true}
use Rattle.std.specs.List.{before_first, after_first, position_or_len}
use Rattle.std.specs.Char.{is_control}
use Rattle.std.proofs.lemmas.Bool.Decides.{nat_tests}
use Rattle.document_ids.specs.Grammar.{is_name, IsName, IsNumber, IsPairs, IsUser, Parts}
use Rattle.document_ids.specs.Parts.{◌>>=◌, is_colon, cut, after, guard, found, name_of, named_at, number_at, Said, group_said, number_said, said_by, pairs_at, user_of, parts_of}
use Rattle.document_ids.specs.Faults.{is_clear, BeginsWith, IsBehindScheme, IsBehindNamespace, IsBehindType, IsBehindPairs, IsNoName, IsLongName, IsNoPair, AreNoPairs, IsNoNumber, IsLongGroup, IsNoUser, IsLongUser, HasBadPart, HasLongPart, HasFault}
use Rattle.document_ids.specs.declared.fault.IdFault.{IdFault}
use Rattle.document_ids.specs.declared.fault.IdFault.TheVariants as id_fault
use Rattle.document_ids.proofs.Spelling.{some_is, cut_some, cut_spelled, after_some, after_spelled, name_clear, named_at_spelled, number_at_spelled, number_at_ok, pairs_clear, pairs_at_spelled, no_bytes}

-- ---- the part before the first colon

one_more : (x : ℕ) (xs : List ℕ) (n : ℕ) → is_colon x ≡ false → is_clear (take n xs) ≡ true → is_clear (take (1 + n) (x ∷ xs)) ≡ true
one_more x xs n e rest = let m : 1 + n ≡ suc n = omega arith in rw m (rw e rest)

before_clear : (xs : List ℕ) → is_clear (before_first is_colon xs) ≡ true
before_clear [] = refl
before_clear (x ∷ xs) = by_test (is_colon x) refl (before_clear xs)
  where
    by_test : (b : Bool) → is_colon x ≡ b → is_clear (before_first is_colon xs) ≡ true → is_clear (before_first is_colon (x ∷ xs)) ≡ true
    by_test true e rest = rw e refl
    by_test false e rest = rw e (one_more x xs (position_or_len is_colon xs) e rest)

cut_clear : (rest : List ℕ) (pieces : List ℕ × List ℕ) → cut rest ≡ Some pieces → is_clear pieces.0 ≡ true
unfolding cut
cut_clear rest pieces e = by_test (nat_lt (position_or_len is_colon rest) (length rest)) e
  where
    by_test : (b : Bool) → cond b (Some (before_first is_colon rest, after_first is_colon rest)) None ≡ Some pieces → is_clear pieces.0 ≡ true
    by_test true is = subst (λ (x : List ℕ × List ℕ). is_clear x.0 ≡ true) (some_is _ pieces is) (before_clear rest)
    by_test false is = cc

cut_begins : (rest : List ℕ) (pieces : List ℕ × List ℕ) → cut rest ≡ Some pieces → BeginsWith rest pieces.0 pieces.1
cut_begins rest pieces e = record { spelling = cut_some rest pieces e; clear = cut_clear rest pieces e }

begins_cut : (rest part behind : List ℕ) → BeginsWith rest part behind → cut rest ≡ Some (part, behind)
begins_cut rest part behind b = ap cut b.spelling ∙ cut_spelled part behind b.clear

no_some : {A : Type 0} (o : Option A) (x : A) → o ≡ None → o ≡ Some x → ⊥
no_some None x e is = cc
no_some (Some y) x e is = cc

not_both : (b : Bool) → b ≡ true → b ≡ false → ⊥
not_both true p q = cc
not_both false p q = cc

-- what begins a text is one
part_is : (rest a b c d : List ℕ) → BeginsWith rest a b → BeginsWith rest c d → ◌≡◌ {A = List ℕ × List ℕ} (a, b) (c, d)
part_is rest a b c d p q = some_is (a, b) (c, d) (sym (begins_cut rest a b p) ∙ begins_cut rest c d q)

begins_name : (rest part behind : List ℕ) → rest ≡ part ++ 58 ∷ behind → IsName part → BeginsWith rest part behind
begins_name rest part behind e n = record { spelling = e; clear = name_clear part n }

-- ---- what the reader of a name answers, and why

abbrev NamedAs : ℕ → List ℕ → Result (List ℕ × List ℕ) IdFault → Type 0
NamedAs part rest (Ok pieces) = (rest ≡ pieces.0 ++ 58 ∷ pieces.1) × IsName pieces.0
NamedAs part rest (Err (id_fault.BadPart p)) = (p ≡ part) × IsNoName rest
NamedAs part rest (Err (id_fault.TooLong p)) = (p ≡ part) × IsLongName rest
NamedAs part rest (Err fault) = ⊥

named_tested : (part : ℕ) (rest : List ℕ) (pieces : List ℕ × List ℕ) → cut rest ≡ Some pieces → (b c : Bool) → is_name pieces.0 ≡ b → nat_lt 64 (length pieces.0) ≡ c
    → NamedAs part rest ((guard b (id_fault.BadPart part) >>= (λ right. guard (not c) (id_fault.TooLong part) >>= (λ short. Ok pieces.0))) >>= (λ name. Ok (name, pieces.1)))
named_tested part rest pieces e false c name long =
    (refl, λ p behind begins. ap (λ (x : List ℕ × List ℕ). is_name x.0) (part_is rest p behind pieces.0 pieces.1 begins (cut_begins rest pieces e)) ∙ name)
named_tested part rest pieces e true true name long =
    (refl, record { part = pieces.0; behind = pieces.1; begins = cut_begins rest pieces e; name = name; long = ltb-true _ _ long })
named_tested part rest pieces e true false name long = (cut_some rest pieces e, record { name = name; short = ltb-false 64 (length pieces.0) long })

named_cut : (part : ℕ) (rest : List ℕ) (o : Option (List ℕ × List ℕ)) → cut rest ≡ o → NamedAs part rest (found o (id_fault.BadPart part) >>= (λ pieces. name_of part pieces.0 >>= (λ name. Ok (name, pieces.1))))
unfolding name_of
named_cut part rest None e = (refl, λ p behind begins. absurd (no_some (cut rest) _ e (begins_cut rest p behind begins)))
named_cut part rest (Some pieces) e = named_tested part rest pieces e (is_name pieces.0) (nat_lt 64 (length pieces.0)) refl refl

named_as : (part : ℕ) (rest : List ℕ) → NamedAs part rest (named_at part rest)
unfolding named_at
named_as part rest = named_cut part rest (cut rest) refl

named_bad : (part : ℕ) (rest : List ℕ) → IsNoName rest → (r : Result (List ℕ × List ℕ) IdFault) → NamedAs part rest r → r ≡ Err (id_fault.BadPart part)
named_bad part rest fails (Ok pieces) why = absurd (not_both (is_name pieces.0) why.1.name (fails pieces.0 pieces.1 (begins_name rest pieces.0 pieces.1 why.0 why.1)))
named_bad part rest fails (Err (id_fault.BadPart p)) why = ap (λ q. Err (id_fault.BadPart q)) why.0
named_bad part rest fails (Err (id_fault.TooLong p)) why = let l = why.1 in absurd (not_both (is_name l.part) l.name (fails l.part l.behind l.begins))
named_bad part rest fails (Err id_fault.BadScheme) why = absurd why
named_bad part rest fails (Err id_fault.BadNumber) why = absurd why
named_bad part rest fails (Err id_fault.NoMemory) why = absurd why

named_long : (part : ℕ) (rest : List ℕ) → IsLongName rest → (r : Result (List ℕ × List ℕ) IdFault) → NamedAs part rest r → r ≡ Err (id_fault.TooLong part)
named_long part rest l (Ok pieces) why =
    let same = part_is rest l.part l.behind pieces.0 pieces.1 l.begins (begins_name rest pieces.0 pieces.1 why.0 why.1) in
    absurd (omega (arith, ap (λ (x : List ℕ × List ℕ). length x.0) same, l.long, why.1.short))
named_long part rest l (Err (id_fault.BadPart p)) why = absurd (not_both (is_name l.part) l.name (why.1 l.part l.behind l.begins))
named_long part rest l (Err (id_fault.TooLong p)) why = ap (λ q. Err (id_fault.TooLong q)) why.0
named_long part rest l (Err id_fault.BadScheme) why = absurd why
named_long part rest l (Err id_fault.BadNumber) why = absurd why
named_long part rest l (Err id_fault.NoMemory) why = absurd why

-- ---- what the reader of the third part answers, and why

abbrev SaidAs : List ℕ → Result Said IdFault → Type 0
SaidAs part (Ok said) = IsPairs part said.0 said.1
SaidAs part (Err (id_fault.BadPart p)) = (p ≡ 3) × IsNoPair part
SaidAs part (Err id_fault.BadNumber) = (digits : List ℕ) × ((part ≡ codes "n=" ++ digits) × ((number : ℕ) → IsNumber digits number → ⊥))
SaidAs part (Err (id_fault.TooLong p)) = (p ≡ 3) × ((group : List ℕ) × ((part ≡ codes "g=" ++ group) × ((is_name group ≡ true) × (64 < length group))))
SaidAs part (Err fault) = ⊥

group_tested : (part group : List ℕ) → part ≢ [] → ((digits : List ℕ) → part ≢ codes "n=" ++ digits) → after (codes "g=") part ≡ Some group → (b c : Bool) → is_name group ≡ b → nat_lt 64 (length group) ≡ c
    → SaidAs part ((guard b (id_fault.BadPart 3) >>= (λ right. guard (not c) (id_fault.TooLong 3) >>= (λ short. Ok group))) >>= (λ name. Ok (None, Some name)))
group_tested part group some number e false c name long =
    (refl, record { some = some; number = number; group = λ g is. ap is_name (some_is g group (sym (ap (after (codes "g=")) is ∙ after_spelled (codes "g=") g) ∙ e)) ∙ name })
group_tested part group some number e true true name long = (refl, (group, (after_some (codes "g=") part group e, (name, ltb-true _ _ long))))
group_tested part group some number e true false name long = (after_some (codes "g=") part group e, record { name = name; short = ltb-false 64 (length group) long })

group_as : (part : List ℕ) → part ≢ [] → ((digits : List ℕ) → part ≢ codes "n=" ++ digits) → (o : Option (List ℕ)) → after (codes "g=") part ≡ o → SaidAs part (group_said o)
unfolding name_of
group_as part some number None e =
    (refl, record { some = some; number = number; group = λ g is. absurd (no_some (after (codes "g=") part) g e (ap (after (codes "g=")) is ∙ after_spelled (codes "g=") g)) })
group_as part some number (Some group) e = group_tested part group some number e (is_name group) (nat_lt 64 (length group)) refl refl

ok_err : {A : Type 0} (r : Result A IdFault) (x : A) (fault : IdFault) → r ≡ Ok x → r ≡ Err fault → ⊥
ok_err (Ok y) x fault e is = cc
ok_err (Err f) x fault e is = cc

number_tested : (part digits : List ℕ) → part ≡ codes "n=" ++ digits → (b : Bool) (o : Option ℕ) → number_at digits ≡ (guard b id_fault.BadNumber >>= (λ right. found o id_fault.BadNumber))
    → SaidAs part ((guard b id_fault.BadNumber >>= (λ right. found o id_fault.BadNumber)) >>= (λ number. Ok (Some number, None)))
number_tested part digits is false o e = (digits, (is, λ number n. ok_err (number_at digits) number id_fault.BadNumber (number_at_spelled digits number n) e))
number_tested part digits is true None e = (digits, (is, λ number n. ok_err (number_at digits) number id_fault.BadNumber (number_at_spelled digits number n) e))
number_tested part digits is true (Some number) e = (digits, (is, number_at_ok digits number e))

number_as : (part : List ℕ) (other : Result Said IdFault) → (((digits : List ℕ) → part ≢ codes "n=" ++ digits) → SaidAs part other) → (o : Option (List ℕ)) → after (codes "n=") part ≡ o → SaidAs part (number_said o other)
unfolding number_at
number_as part other why None e = why (λ digits is. no_some (after (codes "n=") part) digits e (ap (after (codes "n=")) is ∙ after_spelled (codes "n=") digits))
number_as part other why (Some digits) e = number_tested part digits (after_some (codes "n=") part digits e) _ _ refl

empty_len : (xs : List ℕ) → xs ≡ [] → (length xs == 0) ≡ true
empty_len xs e = rw e refl

said_tested : (part : List ℕ) (b : Bool) → (length part == 0) ≡ b → SaidAs part (cond b (Ok (None, None)) (number_said (after (codes "n=") part) (group_said (after (codes "g=") part))))
said_tested part true e = no_bytes part (eqb-true (length part) 0 e)
said_tested part false e =
    number_as part (group_said (after (codes "g=") part)) (λ number. group_as part (λ none. not_both _ (empty_len part none) e) number (after (codes "g=") part) refl) (after (codes "n=") part) refl

said_as : (part : List ℕ) → SaidAs part (said_by part)
unfolding said_by
said_as part = said_tested part (length part == 0) refl

abbrev PairsAs : List ℕ → Result (Said × List ℕ) IdFault → Type 0
PairsAs rest (Ok read) = (part : List ℕ) × ((rest ≡ part ++ 58 ∷ read.1) × IsPairs part read.0.0 read.0.1)
PairsAs rest (Err (id_fault.BadPart p)) = (p ≡ 3) × AreNoPairs rest
PairsAs rest (Err id_fault.BadNumber) = IsNoNumber rest
PairsAs rest (Err (id_fault.TooLong p)) = (p ≡ 3) × IsLongGroup rest
PairsAs rest (Err fault) = ⊥

pairs_said : (rest : List ℕ) (pieces : List ℕ × List ℕ) → cut rest ≡ Some pieces → (r : Result Said IdFault) → SaidAs pieces.0 r → PairsAs rest (r >>= (λ said. Ok (said, pieces.1)))
pairs_said rest pieces e (Ok said) why = (pieces.0, (cut_some rest pieces e, why))
pairs_said rest pieces e (Err (id_fault.BadPart p)) why =
    (why.0, λ part behind begins. subst (λ (x : List ℕ × List ℕ). IsNoPair x.0) (part_is rest pieces.0 pieces.1 part behind (cut_begins rest pieces e) begins) why.1)
pairs_said rest pieces e (Err id_fault.BadNumber) why =
    record { digits = why.0; behind = pieces.1; begins = subst (λ p. BeginsWith rest p pieces.1) why.1.0 (cut_begins rest pieces e); wrong = why.1.1 }
pairs_said rest pieces e (Err (id_fault.TooLong p)) why = (
  why.0,
  record { group = why.1.0; behind = pieces.1; begins = subst (λ p. BeginsWith rest p pieces.1) why.1.1.0 (cut_begins rest pieces e); name = why.1.1.1.0; long = why.1.1.1.1 },
)
pairs_said rest pieces e (Err id_fault.BadScheme) why = why
pairs_said rest pieces e (Err id_fault.NoMemory) why = why

pairs_cut : (rest : List ℕ) (o : Option (List ℕ × List ℕ)) → cut rest ≡ o → PairsAs rest (found o (id_fault.BadPart 3) >>= (λ pieces. said_by pieces.0 >>= (λ said. Ok (said, pieces.1))))
pairs_cut rest None e = (refl, λ part behind begins. absurd (no_some (cut rest) _ e (begins_cut rest part behind begins)))
pairs_cut rest (Some pieces) e = pairs_said rest pieces e (said_by pieces.0) (said_as pieces.0)

pairs_as : (rest : List ℕ) → PairsAs rest (pairs_at rest)
unfolding pairs_at
pairs_as rest = pairs_cut rest (cut rest) refl

no_pair : (part : List ℕ) (number : Option ℕ) (group : Option (List ℕ)) → IsPairs part number group → IsNoPair part → ⊥
no_pair part None None is fails = fails.some is
no_pair part (Some number) None is fails = fails.number is.0 is.1.0
no_pair part None (Some group) is fails = not_both (is_name group) is.1.name (fails.group group is.0)
no_pair part (Some number) (Some group) is fails = is

begins_pairs : (rest part behind : List ℕ) (number : Option ℕ) (group : Option (List ℕ)) → rest ≡ part ++ 58 ∷ behind → IsPairs part number group → BeginsWith rest part behind
begins_pairs rest part behind number group e is = record { spelling = e; clear = pairs_clear part number group is }

pairs_bad : (rest : List ℕ) → AreNoPairs rest → (r : Result (Said × List ℕ) IdFault) → PairsAs rest r → r ≡ Err (id_fault.BadPart 3)
pairs_bad rest fails (Ok read) why =
    absurd (no_pair why.0 read.0.0 read.0.1 why.1.1 (fails why.0 read.1 (begins_pairs rest why.0 read.1 read.0.0 read.0.1 why.1.0 why.1.1)))
pairs_bad rest fails (Err (id_fault.BadPart p)) why = ap (λ q. Err (id_fault.BadPart q)) why.0
pairs_bad rest fails (Err id_fault.BadNumber) why = absurd ((fails _ _ why.begins).number why.digits refl)
pairs_bad rest fails (Err (id_fault.TooLong p)) why = let l = why.1 in absurd (not_both (is_name l.group) l.name ((fails _ _ l.begins).group l.group refl))
pairs_bad rest fails (Err id_fault.BadScheme) why = absurd why
pairs_bad rest fails (Err id_fault.NoMemory) why = absurd why

-- the third part that begins with `n=` is a number or wrong, and one with `g=` a group or wrong
same_tail : (a b : ℕ) (xs ys : List ℕ) → a ∷ b ∷ xs ≡ a ∷ b ∷ ys → xs ≡ ys
same_tail a b xs ys e = cc

signs_differ : (a b : List ℕ) → codes "n=" ++ a ≡ codes "g=" ++ b → ⊥
signs_differ a b e = omega (arith, ap (λ l. get_or l 0 0) e)

no_number : (part digits : List ℕ) (number : Option ℕ) (group : Option (List ℕ)) → part ≡ codes "n=" ++ digits → IsPairs part number group → ((n : ℕ) → IsNumber digits n → ⊥) → ⊥
no_number part digits None None e is wrong = let f : [] ≡ codes "n=" ++ digits = sym is ∙ e in cc
no_number part digits (Some n) None e is wrong = wrong n (subst (λ d. IsNumber d n) (same_tail 110 61 is.0 digits (sym is.1.0 ∙ e)) is.1.1)
no_number part digits None (Some group) e is wrong = signs_differ digits group (sym e ∙ is.0)
no_number part digits (Some n) (Some group) e is wrong = is

no_long : (part group : List ℕ) (number : Option ℕ) (own : Option (List ℕ)) → part ≡ codes "g=" ++ group → IsPairs part number own → 64 < length group → ⊥
no_long part group None None e is long = let f : [] ≡ codes "g=" ++ group = sym is ∙ e in cc
no_long part group (Some n) None e is long = signs_differ is.0 group (sym is.1.0 ∙ e)
no_long part group None (Some own) e is long = omega (arith, is.1.short, long, ap length (same_tail 103 61 own group (sym is.0 ∙ e)))
no_long part group (Some n) (Some own) e is long = is

first_of : (a b c d : List ℕ) → ◌≡◌ {A = List ℕ × List ℕ} (a, b) (c, d) → a ≡ c
first_of a b c d e = ap (λ (x : List ℕ × List ℕ). x.0) e

pairs_number : (rest : List ℕ) → IsNoNumber rest → (r : Result (Said × List ℕ) IdFault) → PairsAs rest r → r ≡ Err id_fault.BadNumber
pairs_number rest fails (Ok read) why =
    let same = first_of why.0 read.1 _ _ (part_is rest why.0 read.1 _ _ (begins_pairs rest why.0 read.1 read.0.0 read.0.1 why.1.0 why.1.1) fails.begins) in
    absurd (no_number why.0 fails.digits read.0.0 read.0.1 same why.1.1 fails.wrong)
pairs_number rest fails (Err (id_fault.BadPart p)) why = absurd ((why.1 _ _ fails.begins).number fails.digits refl)
pairs_number rest fails (Err id_fault.BadNumber) why = refl
pairs_number rest fails (Err (id_fault.TooLong p)) why = absurd (signs_differ fails.digits why.1.group (first_of _ _ _ _ (part_is rest _ _ _ _ fails.begins why.1.begins)))
pairs_number rest fails (Err id_fault.BadScheme) why = absurd why
pairs_number rest fails (Err id_fault.NoMemory) why = absurd why

pairs_long : (rest : List ℕ) → IsLongGroup rest → (r : Result (Said × List ℕ) IdFault) → PairsAs rest r → r ≡ Err (id_fault.TooLong 3)
pairs_long rest l (Ok read) why =
    let same = first_of why.0 read.1 _ _ (part_is rest why.0 read.1 _ _ (begins_pairs rest why.0 read.1 read.0.0 read.0.1 why.1.0 why.1.1) l.begins) in
    absurd (no_long why.0 l.group read.0.0 read.0.1 same why.1.1 l.long)
pairs_long rest l (Err (id_fault.BadPart p)) why = absurd (not_both (is_name l.group) l.name ((why.1 _ _ l.begins).group l.group refl))
pairs_long rest l (Err id_fault.BadNumber) why = absurd (signs_differ why.digits l.group (first_of _ _ _ _ (part_is rest _ _ _ _ why.begins l.begins)))
pairs_long rest l (Err (id_fault.TooLong p)) why = ap (λ q. Err (id_fault.TooLong q)) why.0
pairs_long rest l (Err id_fault.BadScheme) why = absurd why
pairs_long rest l (Err id_fault.NoMemory) why = absurd why

-- ---- what the reader of the last part answers, and why

abbrev UserAs : List ℕ → Result (List ℕ) IdFault → Type 0
UserAs user (Ok read) = IsUser user
UserAs user (Err (id_fault.BadPart p)) = (p ≡ 4) × IsNoUser user
UserAs user (Err (id_fault.TooLong p)) = (p ≡ 4) × IsLongUser user
UserAs user (Err fault) = ⊥

some_count : (n : ℕ) → (n == 0) ≡ false → 0 < n
some_count n e = grind (arith, nat_tests)

user_tested : (user : List ℕ) (a b c : Bool) → nat_lt 0 (length user) ≡ a → (count_by is_control (chars user) == 0) ≡ b → nat_lt 1024 (length user) ≡ c
    → UserAs user (guard a (id_fault.BadPart 4) >>= (λ some. guard b (id_fault.BadPart 4) >>= (λ clear. guard (not c) (id_fault.TooLong 4) >>= (λ short. Ok user))))
user_tested user false b c some clear long = (refl, inl (no_bytes user (omega (arith, ltb-false 0 (length user) some))))
user_tested user true false c some clear long = (refl, inr (some_count _ clear))
user_tested user true true true some clear long = (refl, record { clear = eqb-true _ _ clear; long = ltb-true _ _ long })
user_tested user true true false some clear long = record { some = ltb-true _ _ some; clear = eqb-true _ _ clear; short = ltb-false 1024 (length user) long }

user_as : (user : List ℕ) → UserAs user (user_of user)
unfolding user_of
user_as user = user_tested user (nat_lt 0 (length user)) (count_by is_control (chars user) == 0) (nat_lt 1024 (length user)) refl refl refl

no_user : (user : List ℕ) → IsNoUser user → 0 < length user → count_by is_control (chars user) ≡ 0 → ⊥
no_user user (inl none) some clear = omega (arith, some, ap length none)
no_user user (inr controls) some clear = omega (arith, controls, clear)

user_bad : (user : List ℕ) → IsNoUser user → (r : Result (List ℕ) IdFault) → UserAs user r → r ≡ Err (id_fault.BadPart 4)
user_bad user fails (Ok read) why = absurd (no_user user fails why.some why.clear)
user_bad user fails (Err (id_fault.BadPart p)) why = ap (λ q. Err (id_fault.BadPart q)) why.0
user_bad user fails (Err (id_fault.TooLong p)) why = absurd (no_user user fails (omega (arith, why.1.long)) why.1.clear)
user_bad user fails (Err id_fault.BadScheme) why = absurd why
user_bad user fails (Err id_fault.BadNumber) why = absurd why
user_bad user fails (Err id_fault.NoMemory) why = absurd why

user_long : (user : List ℕ) → IsLongUser user → (r : Result (List ℕ) IdFault) → UserAs user r → r ≡ Err (id_fault.TooLong 4)
user_long user l (Ok read) why = absurd (omega (arith, why.short, l.long))
user_long user l (Err (id_fault.BadPart p)) why = absurd (no_user user why.1 (omega (arith, l.long)) l.clear)
user_long user l (Err (id_fault.TooLong p)) why = ap (λ q. Err (id_fault.TooLong q)) why.0
user_long user l (Err id_fault.BadScheme) why = absurd why
user_long user l (Err id_fault.BadNumber) why = absurd why
user_long user l (Err id_fault.NoMemory) why = absurd why

-- ---- the whole text

abbrev WholeAs : List ℕ → Result Parts IdFault → Type 0
WholeAs text (Ok p) = Unit {0}
WholeAs text (Err fault) = HasFault text fault

bind_as : {A : Type 0} (text : List ℕ) (r : Result A IdFault) (next : A → Result Parts IdFault) → ((x : A) → r ≡ Ok x → WholeAs text (next x)) → ((fault : IdFault) → r ≡ Err fault → HasFault text fault)
    → WholeAs text (r >>= next)
bind_as text (Ok x) next goes stops = goes x refl
bind_as text (Err fault) next goes stops = stops fault refl

scheme_fault : (text : List ℕ) (o : Option (List ℕ)) → after (codes "id:") text ≡ o → (fault : IdFault) → found o id_fault.BadScheme ≡ Err fault → HasFault text fault
scheme_fault text None e fault is =
    subst (HasFault text) (err_is _ fault is) (λ rest spelled. no_some (after (codes "id:") text) rest e (ap (after (codes "id:")) spelled ∙ after_spelled (codes "id:") rest))
  where
    err_is : (a b : IdFault) → found {A = List ℕ} None a ≡ Err b → a ≡ b
    err_is a b h = cc
scheme_fault text (Some rest) e fault is = cc

found_is : {A : Type 0} (o : Option A) (fault : IdFault) (x : A) → found o fault ≡ Ok x → o ≡ Some x
found_is None fault x h = cc
found_is (Some y) fault x h = cc

namespace_fault : (text rest : List ℕ) → IsBehindScheme text rest → (fault : IdFault) → NamedAs 1 rest (Err fault) → HasFault text fault
namespace_fault text rest h (id_fault.BadPart p) why = inl (why.0, (rest, (h, why.1)))
namespace_fault text rest h (id_fault.TooLong p) why = inl (why.0, (rest, (h, why.1)))
namespace_fault text rest h id_fault.BadScheme why = absurd why
namespace_fault text rest h id_fault.BadNumber why = absurd why
namespace_fault text rest h id_fault.NoMemory why = absurd why

type_fault : (text rest : List ℕ) → IsBehindNamespace text rest → (fault : IdFault) → NamedAs 2 rest (Err fault) → HasFault text fault
type_fault text rest h (id_fault.BadPart p) why = inr (inl (why.0, (rest, (h, why.1))))
type_fault text rest h (id_fault.TooLong p) why = inr (inl (why.0, (rest, (h, why.1))))
type_fault text rest h id_fault.BadScheme why = absurd why
type_fault text rest h id_fault.BadNumber why = absurd why
type_fault text rest h id_fault.NoMemory why = absurd why

pairs_fault : (text rest : List ℕ) → IsBehindType text rest → (fault : IdFault) → PairsAs rest (Err fault) → HasFault text fault
pairs_fault text rest h (id_fault.BadPart p) why = inr (inr (inl (why.0, (rest, (h, why.1)))))
pairs_fault text rest h (id_fault.TooLong p) why = inr (inr (inl (why.0, (rest, (h, why.1)))))
pairs_fault text rest h id_fault.BadNumber why = (rest, (h, why))
pairs_fault text rest h id_fault.BadScheme why = absurd why
pairs_fault text rest h id_fault.NoMemory why = absurd why

user_fault : (text rest : List ℕ) → IsBehindPairs text rest → (fault : IdFault) → UserAs rest (Err fault) → HasFault text fault
user_fault text rest h (id_fault.BadPart p) why = inr (inr (inr (why.0, (rest, (h, why.1)))))
user_fault text rest h (id_fault.TooLong p) why = inr (inr (inr (why.0, (rest, (h, why.1)))))
user_fault text rest h id_fault.BadScheme why = absurd why
user_fault text rest h id_fault.BadNumber why = absurd why
user_fault text rest h id_fault.NoMemory why = absurd why

whole_as : (text : List ℕ) → WholeAs text (parts_of text)
unfolding parts_of
whole_as text =
    bind_as text (found (after (codes "id:") text) id_fault.BadScheme) _ (λ rest is.
    let scheme : IsBehindScheme text rest = after_some (codes "id:") text rest (found_is _ _ rest is) in
    bind_as text (named_at 1 rest) _ (λ first is.
    let why = subst (NamedAs 1 rest) is (named_as 1 rest) in
    let namespace : IsBehindNamespace text first.1 = (first.0, (scheme ∙ ap (λ r. codes "id:" ++ r) why.0, why.1)) in
    bind_as text (named_at 2 first.1) _ (λ second is.
    let why = subst (NamedAs 2 first.1) is (named_as 2 first.1) in
    let kind : IsBehindType text second.1 = (second.0, (subst (IsBehindNamespace text) why.0 namespace, why.1)) in
    bind_as text (pairs_at second.1) _ (λ third is.
    let why = subst (PairsAs second.1) is (pairs_as second.1) in
    let pairs : IsBehindPairs text third.1 = (why.0, (subst (IsBehindType text) why.1.0 kind, (third.0.0, (third.0.1, why.1.1)))) in
    bind_as text (user_of third.1) _ (λ user is. tt)
    (λ fault is. user_fault text third.1 pairs fault (subst (UserAs third.1) is (user_as third.1))))
    (λ fault is. pairs_fault text second.1 kind fault (subst (PairsAs second.1) is (pairs_as second.1))))
    (λ fault is. type_fault text first.1 namespace fault (subst (NamedAs 2 first.1) is (named_as 2 first.1))))
    (λ fault is. namespace_fault text rest scheme fault (subst (NamedAs 1 rest) is (named_as 1 rest))))
    (λ fault is. scheme_fault text (after (codes "id:") text) refl fault is)

fault_told : (text : List ℕ) (fault : IdFault) → parts_of text ≡ Err fault → HasFault text fault
fault_told text fault e = subst (WholeAs text) e (whole_as text)

-- ---- a text with a fault is read why that fault

behind_scheme : (text rest : List ℕ) (fault : IdFault) → IsBehindScheme text rest → named_at 1 rest ≡ Err fault → parts_of text ≡ Err fault
unfolding parts_of
behind_scheme text rest fault h e = rw (h, after_spelled (codes "id:") rest, e) refl

behind_namespace : (text rest : List ℕ) (fault : IdFault) → IsBehindNamespace text rest → named_at 2 rest ≡ Err fault → parts_of text ≡ Err fault
unfolding parts_of
behind_namespace text rest fault h e = rw (h.1.0, after_spelled (codes "id:") (h.0 ++ 58 ∷ rest), named_at_spelled 1 h.0 rest h.1.1, e) refl

behind_type : (text rest : List ℕ) (fault : IdFault) → IsBehindType text rest → pairs_at rest ≡ Err fault → parts_of text ≡ Err fault
unfolding parts_of
behind_type text rest fault h e =
    let n = h.1.0 in
    rw (n.1.0, after_spelled (codes "id:") (n.0 ++ 58 ∷ (h.0 ++ 58 ∷ rest)), named_at_spelled 1 n.0 (h.0 ++ 58 ∷ rest) n.1.1, named_at_spelled 2 h.0 rest h.1.1, e) refl

behind_pairs : (text rest : List ℕ) (fault : IdFault) → IsBehindPairs text rest → user_of rest ≡ Err fault → parts_of text ≡ Err fault
unfolding parts_of
behind_pairs text rest fault h e =
    let k = h.1.0 in
    let n = k.1.0 in
    rw (
      n.1.0,
      after_spelled (codes "id:") (n.0 ++ 58 ∷ (k.0 ++ 58 ∷ (h.0 ++ 58 ∷ rest))),
      named_at_spelled 1 n.0 (k.0 ++ 58 ∷ (h.0 ++ 58 ∷ rest)) n.1.1,
      named_at_spelled 2 k.0 (h.0 ++ 58 ∷ rest) k.1.1,
      pairs_at_spelled h.0 rest h.1.1.0 h.1.1.1.0 h.1.1.1.1,
      e,
    ) refl

no_scheme : (text : List ℕ) → ((rest : List ℕ) → text ≢ codes "id:" ++ rest) → (o : Option (List ℕ)) → after (codes "id:") text ≡ o → o ≡ None
no_scheme text fails None e = refl
no_scheme text fails (Some rest) e = absurd (fails rest (after_some (codes "id:") text rest e))

scheme_told : (text : List ℕ) → ((rest : List ℕ) → text ≢ codes "id:" ++ rest) → parts_of text ≡ Err id_fault.BadScheme
unfolding parts_of
scheme_told text fails = rw (no_scheme text fails (after (codes "id:") text) refl) refl

bad_told : (text : List ℕ) (part : ℕ) → HasBadPart text part → parts_of text ≡ Err (id_fault.BadPart part)
bad_told text part (inl h) = behind_scheme text h.1.0 _ h.1.1.0 (named_bad 1 h.1.0 h.1.1.1 (named_at 1 h.1.0) (named_as 1 h.1.0)) ∙ ap (λ p. Err (id_fault.BadPart p)) (sym h.0)
bad_told text part (inr (inl h)) = behind_namespace text h.1.0 _ h.1.1.0 (named_bad 2 h.1.0 h.1.1.1 (named_at 2 h.1.0) (named_as 2 h.1.0)) ∙ ap (λ p. Err (id_fault.BadPart p)) (sym h.0)
bad_told text part (inr (inr (inl h))) = behind_type text h.1.0 _ h.1.1.0 (pairs_bad h.1.0 h.1.1.1 (pairs_at h.1.0) (pairs_as h.1.0)) ∙ ap (λ p. Err (id_fault.BadPart p)) (sym h.0)
bad_told text part (inr (inr (inr h))) = behind_pairs text h.1.0 _ h.1.1.0 (user_bad h.1.0 h.1.1.1 (user_of h.1.0) (user_as h.1.0)) ∙ ap (λ p. Err (id_fault.BadPart p)) (sym h.0)

long_told : (text : List ℕ) (part : ℕ) → HasLongPart text part → parts_of text ≡ Err (id_fault.TooLong part)
long_told text part (inl h) = behind_scheme text h.1.0 _ h.1.1.0 (named_long 1 h.1.0 h.1.1.1 (named_at 1 h.1.0) (named_as 1 h.1.0)) ∙ ap (λ p. Err (id_fault.TooLong p)) (sym h.0)
long_told text part (inr (inl h)) = behind_namespace text h.1.0 _ h.1.1.0 (named_long 2 h.1.0 h.1.1.1 (named_at 2 h.1.0) (named_as 2 h.1.0)) ∙ ap (λ p. Err (id_fault.TooLong p)) (sym h.0)
long_told text part (inr (inr (inl h))) = behind_type text h.1.0 _ h.1.1.0 (pairs_long h.1.0 h.1.1.1 (pairs_at h.1.0) (pairs_as h.1.0)) ∙ ap (λ p. Err (id_fault.TooLong p)) (sym h.0)
long_told text part (inr (inr (inr h))) = behind_pairs text h.1.0 _ h.1.1.0 (user_long h.1.0 h.1.1.1 (user_of h.1.0) (user_as h.1.0)) ∙ ap (λ p. Err (id_fault.TooLong p)) (sym h.0)

told : (text : List ℕ) (fault : IdFault) → HasFault text fault → parts_of text ≡ Err fault
told text id_fault.BadScheme h = scheme_told text h
told text (id_fault.BadPart part) h = bad_told text part h
told text id_fault.BadNumber h = behind_type text h.0 _ h.1.0 (pairs_number h.0 h.1.1 (pairs_at h.0) (pairs_as h.0))
told text (id_fault.TooLong part) h = long_told text part h
told text id_fault.NoMemory h = absurd h

pub faults_told : (text : List ℕ) (fault : IdFault) → (parts_of text ≡ Err fault) ↔ HasFault text fault
faults_told text fault = (fault_told text fault, told text fault)
