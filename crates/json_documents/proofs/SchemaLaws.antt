-- A JSON value is a schema exactly where no fault is found.
use Rattle.std.proofs.Common.{◌≡◌, ◌≢◌, ◌↔◌, ◌⊎◌, ℕ, suc, ◌<◌, ◌≤◌, ◌&&◌, ◌||◌, not, Bool, true, false, cond, nat_lt, List, [], ◌∷◌, length, codes, inl, inr, refl, sym, ap, ap₂, subst, ◌∙◌, arith, Option, Some, None, is_some}
use mathlib.Core.Bool.{true≢false}
use Rattle.std.specs.Prelude.{option_and_then}
use Rattle.std.specs.Option.{option_or}
use Rattle.std.specs.List.{list_all, AllByRecursion}
use Rattle.std.specs.Str.{bytes_eq}
use Rattle.std.specs.Char.{is_ascii_alphabetic}
use Rattle.std.proofs.lemmas.Bool.{and_parts}
use Rattle.std.proofs.lemmas.Bool.Decides.{nat_tests}
use Rattle.std.proofs.lemmas.Slice.Eq.{bytes_eq-Decides}
use Rattle.serde_json.specs.Data.{Data, Members, no_members, member}
use Rattle.serde_json.specs.Events.{members_len}
use Rattle.serde_json.specs.Find.{as_object, as_str}
use Rattle.doc_types.specs.Tokens as tokens
use Rattle.json_documents.specs.Schemas.{is_identifier, is_name, is_selection_word, is_query_word, kind_named, kind_in, is_object, next_place, name_fault, fields_fault, members_in, field_fault, has_many_fields, size_fault, members_fault, object_fault, schema_fault}
use Rattle.json_documents.specs.SchemaTexts.{reserved, IsName, kind_word, IsKindWord, HasMember, AreTypes, IsSchema}
use Rattle.doc_types.specs.declared.values.FieldType.{FieldType}
use Rattle.doc_types.specs.declared.values.FieldType.TheVariants as kind
use Rattle.json_documents.specs.declared.schema_faults.SchemaFault.{SchemaFault}
use Rattle.json_documents.specs.declared.schema_faults.SchemaFault.TheVariants.{NotObject, BadName, BadField, TooMany}
use Rattle.doc_types.proofs.Runs.{letter_is_name}

-- ---- names

all_letters : (p : ℕ → Bool) (xs : List ℕ) → list_all p xs ≡ true → AllByRecursion (λ c. p c ≡ true) xs
all_letters p [] e = tt
all_letters p (c ∷ cs) e = let k = and_parts (p c) (list_all p cs) e in (k.0, all_letters p cs k.1)

letters_all : (p : ℕ → Bool) (xs : List ℕ) → AllByRecursion (λ c. p c ≡ true) xs → list_all p xs ≡ true
letters_all p [] h = refl
letters_all p (c ∷ cs) h = ap₂ (λ a b. a && b) h.0 (letters_all p cs h.1)

other_word : (name w : List ℕ) → bytes_eq name w ≡ false → name ≢ w
other_word name w e is = true≢false (sym ((bytes_eq-Decides name w).1 is) ∙ e)

no_word : (name w : List ℕ) → name ≢ w → bytes_eq name w ≡ false
no_word name w other = by (bytes_eq name w) refl
  where
    by : (t : Bool) → bytes_eq name w ≡ t → t ≡ false
    by true e = absurd (other ((bytes_eq-Decides name w).0 e))
    by false e = refl

not_true : (b : Bool) → not b ≡ true → b ≡ false
not_true true e = absurd (true≢false (sym e))
not_true false e = refl

five : (a b c d e : Bool) → (a || b || c || d || e) ≡ false → (a ≡ false) × ((b ≡ false) × ((c ≡ false) × ((d ≡ false) × (e ≡ false))))
five true b c d e h = absurd (true≢false h)
five false true c d e h = absurd (true≢false h)
five false false true d e h = absurd (true≢false h)
five false false false true e h = absurd (true≢false h)
five false false false false true h = absurd (true≢false h)
five false false false false false h = (refl, (refl, (refl, (refl, refl))))

six : (a b c d e f : Bool) → (a || b || c || d || e || f) ≡ false → (a ≡ false) × ((b || c || d || e || f) ≡ false)
six true b c d e f h = absurd (true≢false h)
six false b c d e f h = (refl, h)

eight : (a b c d e f g h : Bool) → (a || b || c || d || e || f || g || h) ≡ false → (a ≡ false) × ((b ≡ false) × ((c ≡ false) × ((d || e || f || g || h) ≡ false)))
eight true b c d e f g h i = absurd (true≢false i)
eight false true c d e f g h i = absurd (true≢false i)
eight false false true d e f g h i = absurd (true≢false i)
eight false false false d e f g h i = (refl, (refl, (refl, i)))

-- no word of either language
free_of : (name : List ℕ) → is_selection_word name ≡ false → is_query_word name ≡ false → AllByRecursion (λ w. name ≢ w) reserved
free_of name p q =
    let s = six _ _ _ _ _ _ p in
    let t = five _ _ _ _ _ s.1 in
    let u = eight _ _ _ _ _ _ _ _ q in
    let v = five _ _ _ _ _ u.1.1.1 in
    let w = five _ _ _ _ _ v.1.1.1.1 in
    (other_word name _ s.0, (other_word name _ t.0, (other_word name _ t.1.0, (other_word name _ t.1.1.0, (other_word name _ t.1.1.1.0, (other_word name _ t.1.1.1.1, (other_word name _ u.0, (other_word name _ u.1.0, (other_word name _ u.1.1.0, (other_word name _ v.0, (other_word name _ v.1.0, (other_word name _ v.1.1.0, (other_word name _ v.1.1.1.0, (other_word name _ w.0, (other_word name _ w.1.0, (other_word name _ w.1.1.0, (other_word name _ w.1.1.1.0, (other_word name _ w.1.1.1.1, tt))))))))))))))))))

selection_free : (name : List ℕ) → AllByRecursion (λ w. name ≢ w) reserved → is_selection_word name ≡ false
selection_free name h = rw (no_word name _ h.0, no_word name _ h.1.0, no_word name _ h.1.1.0, no_word name _ h.1.1.1.0, no_word name _ h.1.1.1.1.0, no_word name _ h.1.1.1.1.1.0) refl

query_free : (name : List ℕ) → AllByRecursion (λ w. name ≢ w) reserved → is_query_word name ≡ false
query_free name h = rw (no_word name _ h.1.1.1.1.1.1.0, no_word name _ h.1.1.1.1.1.1.1.0, no_word name _ h.1.1.1.1.1.1.1.1.0, no_word name _ h.1.1.1.1.1.1.1.1.1.0, no_word name _ h.1.1.1.1.1.1.1.1.1.1.0, no_word name _ h.1.1.1.1.1.1.1.1.1.1.1.0, no_word name _ h.1.1.1.1.1.1.1.1.1.1.1.1.0, no_word name _ h.1.1.1.1.1.1.1.1.1.1.1.1.1.0, no_word name _ h.1.1.1.1.1.1.1.1.1.1.1.1.1.1.0, no_word name _ h.1.1.1.1.1.1.1.1.1.1.1.1.1.1.1.0, no_word name _ h.1.1.1.1.1.1.1.1.1.1.1.1.1.1.1.1.0, no_word name _ h.1.1.1.1.1.1.1.1.1.1.1.1.1.1.1.1.1.0) refl

identifier_is : (name : List ℕ) → is_identifier name ≡ true → AllByRecursion (λ w. name ≢ w) reserved → IsName name
unfolding is_identifier
identifier_is [] e free = absurd (true≢false (sym e))
identifier_is (c ∷ cs) e free =
    let k = and_parts (is_ascii_alphabetic c) (nat_lt (length cs) 64 && list_all tokens.is_name cs) e in
    let m = and_parts (nat_lt (length cs) 64) (list_all tokens.is_name cs) k.1 in
    record { first = k.0; short = below (length cs) m.0; letters = (letter_is_name c k.0, all_letters tokens.is_name cs m.1); free = free }
  where
    below : (n : ℕ) → nat_lt n 64 ≡ true → suc n ≤ 64
    below n e = let lt : n < 64 = grind (arith, nat_tests, e) in omega arith

is_identifier-of : (name : List ℕ) → IsName name → is_identifier name ≡ true
unfolding is_identifier
is_identifier-of [] h = absurd (true≢false (sym h.first))
is_identifier-of (c ∷ cs) h = ap₂ (λ a b. a && b) h.first (ap₂ (λ a b. a && b) (below (length cs) h.short) (letters_all tokens.is_name cs h.letters.1))
  where
    below : (n : ℕ) → suc n ≤ 64 → nat_lt n 64 ≡ true
    below n le = let lt : n < 64 = omega arith in grind (arith, nat_tests, lt)

name_is : (name : List ℕ) → is_name name ≡ true → IsName name
unfolding is_name
name_is name e =
    let k = and_parts (is_identifier name) (not (is_selection_word name) && not (is_query_word name)) e in
    let m = and_parts (not (is_selection_word name)) (not (is_query_word name)) k.1 in
    identifier_is name k.0 (free_of name (not_true _ m.0) (not_true _ m.1))

is_name-of : (name : List ℕ) → IsName name → is_name name ≡ true
unfolding is_name
is_name-of name h =
    ap₂ (λ a b. a && b) (is_identifier-of name h) (ap₂ (λ a b. not a && not b) (selection_free name h.free) (query_free name h.free))

-- ---- kinds

kind_is : (text : List ℕ) → is_some (kind_named text) ≡ true → (k : FieldType) × (text ≡ kind_word k)
kind_is text = by (bytes_eq text (codes "int")) (bytes_eq text (codes "text")) (bytes_eq text (codes "ints")) (bytes_eq text (codes "texts")) refl refl refl refl
  where
    by : (a b c d : Bool) → bytes_eq text (codes "int") ≡ a → bytes_eq text (codes "text") ≡ b → bytes_eq text (codes "ints") ≡ c → bytes_eq text (codes "texts") ≡ d
        → is_some (cond a (Some kind.Int) (cond b (Some kind.Text) (cond c (Some kind.IntArray) (cond d (Some kind.TextArray) None)))) ≡ true → (k : FieldType) × (text ≡ kind_word k)
    by true b c d e f g h i = (kind.Int, (bytes_eq-Decides text (codes "int")).0 e)
    by false true c d e f g h i = (kind.Text, (bytes_eq-Decides text (codes "text")).0 f)
    by false false true d e f g h i = (kind.IntArray, (bytes_eq-Decides text (codes "ints")).0 g)
    by false false false true e f g h i = (kind.TextArray, (bytes_eq-Decides text (codes "texts")).0 h)
    by false false false false e f g h i = absurd (true≢false (sym i))

kind_of_word : (k : FieldType) → is_some (kind_named (kind_word k)) ≡ true
kind_of_word kind.Int = refl
kind_of_word kind.Text = refl
kind_of_word kind.IntArray = refl
kind_of_word kind.TextArray = refl

word_in : (o : Option (List ℕ)) → is_some (option_and_then kind_named o) ≡ true → (k : FieldType) × (o ≡ Some (kind_word k))
word_in None e = absurd (true≢false (sym e))
word_in (Some text) e = let k = kind_is text e in (k.0, ap Some k.1)

is_kind-of : (d : Data) → IsKindWord d → is_some (kind_in d) ≡ true
is_kind-of d (k, e) = ap (λ o. is_some (option_and_then kind_named o)) e ∙ kind_of_word k

-- ---- members

no_fault : (f : SchemaFault) → ◌≡◌ {A = Option SchemaFault} (Some f) None → ⊥
no_fault f e = true≢false (ap is_some e)

both_none : (a b : Option SchemaFault) → option_or a b ≡ None → (a ≡ None) × (b ≡ None)
both_none None b e = (refl, e)
both_none (Some f) b e = absurd (no_fault f e)

fields_each : (type_at place : ℕ) (ms : Members) → fields_fault type_at place ms ≡ None → (name : List ℕ) (d : Data) → HasMember ms name d → IsName name × IsKindWord d
fields_each type_at place no_members e name d h = absurd h
fields_each type_at place (member n x ms) e name d h =
    by (is_name n && is_some (kind_in x)) refl e h (λ e'. fields_each type_at (next_place place) ms e' name d)
  where
    by : (t : Bool) → (is_name n && is_some (kind_in x)) ≡ t → cond t (fields_fault type_at (next_place place) ms) (Some (BadField type_at place)) ≡ None
        → ((n ≡ name) × (x ≡ d)) ⊎ HasMember ms name d → (fields_fault type_at (next_place place) ms ≡ None → HasMember ms name d → IsName name × IsKindWord d) → IsName name × IsKindWord d
    by true t e (inl same) more =
        let k = and_parts (is_name n) (is_some (kind_in x)) t in
        (subst IsName same.0 (name_is n k.0), subst IsKindWord same.1 (word_in (as_str x) k.1))
    by true t e (inr later) more = more e later
    by false t e h more = absurd (no_fault _ e)

fields_fit : (type_at place : ℕ) (ms : Members) → ((name : List ℕ) (d : Data) → HasMember ms name d → IsName name × IsKindWord d) → fields_fault type_at place ms ≡ None
fields_fit type_at place no_members each = refl
fields_fit type_at place (member n x ms) each =
    let here = each n x (inl (refl, refl)) in
    ap (λ t. cond t (fields_fault type_at (next_place place) ms) (Some (BadField type_at place))) (ap₂ (λ a b. a && b) (is_name-of n here.0) (is_kind-of x here.1))
    ∙ fields_fit type_at (next_place place) ms (λ name d h. each name d (inr h))

names_each : (place : ℕ) (ms : Members) → name_fault place ms ≡ None → (name : List ℕ) (d : Data) → HasMember ms name d → IsName name × (is_object d ≡ true)
names_each place no_members e name d h = absurd h
names_each place (member n x ms) e name d h = by (is_name n && is_object x) refl e h (λ e'. names_each (next_place place) ms e' name d)
  where
    by : (t : Bool) → (is_name n && is_object x) ≡ t → cond t (name_fault (next_place place) ms) (Some (BadName place)) ≡ None
        → ((n ≡ name) × (x ≡ d)) ⊎ HasMember ms name d → (name_fault (next_place place) ms ≡ None → HasMember ms name d → IsName name × (is_object d ≡ true)) → IsName name × (is_object d ≡ true)
    by true t e (inl same) more =
        let k = and_parts (is_name n) (is_object x) t in
        (subst IsName same.0 (name_is n k.0), subst (λ y. is_object y ≡ true) same.1 k.1)
    by true t e (inr later) more = more e later
    by false t e h more = absurd (no_fault _ e)

names_fit : (place : ℕ) (ms : Members) → ((name : List ℕ) (d : Data) → HasMember ms name d → IsName name × (is_object d ≡ true)) → name_fault place ms ≡ None
names_fit place no_members each = refl
names_fit place (member n x ms) each =
    let here = each n x (inl (refl, refl)) in
    ap (λ t. cond t (name_fault (next_place place) ms) (Some (BadName place))) (ap₂ (λ a b. a && b) (is_name-of n here.0) here.1)
    ∙ names_fit (next_place place) ms (λ name d h. each name d (inr h))

types_each : (place : ℕ) (ms : Members) → field_fault place ms ≡ None → (name : List ℕ) (d : Data) → HasMember ms name d → (at : ℕ) × (fields_fault at 0 (members_in (as_object d)) ≡ None)
types_each place no_members e name d h = absurd h
types_each place (member n x ms) e name d (inl same) =
    (place, subst (λ y. fields_fault place 0 (members_in (as_object y)) ≡ None) same.1 (both_none (fields_fault place 0 (members_in (as_object x))) (field_fault (next_place place) ms) e).0)
types_each place (member n x ms) e name d (inr later) =
    types_each (next_place place) ms (both_none (fields_fault place 0 (members_in (as_object x))) (field_fault (next_place place) ms) e).1 name d later

types_fit : (place : ℕ) (ms : Members) → ((name : List ℕ) (d : Data) (at : ℕ) → HasMember ms name d → fields_fault at 0 (members_in (as_object d)) ≡ None) → field_fault place ms ≡ None
types_fit place no_members each = refl
types_fit place (member n x ms) each =
    ap (λ o. option_or o (field_fault (next_place place) ms)) (each n x place (inl (refl, refl)))
    ∙ types_fit (next_place place) ms (λ name d at h. each name d at (inr h))

or_none : (a b : Bool) → (a || b) ≡ false → (a ≡ false) × (b ≡ false)
or_none true b e = absurd (true≢false e)
or_none false b e = (refl, e)

few_each : (ms : Members) → has_many_fields ms ≡ false → (name : List ℕ) (d : Data) → HasMember ms name d → nat_lt 32 (members_len (members_in (as_object d))) ≡ false
few_each no_members e name d h = absurd h
few_each (member n x ms) e name d (inl same) =
    subst (λ y. nat_lt 32 (members_len (members_in (as_object y))) ≡ false) same.1 (or_none (nat_lt 32 (members_len (members_in (as_object x)))) (has_many_fields ms) e).0
few_each (member n x ms) e name d (inr later) = few_each ms (or_none (nat_lt 32 (members_len (members_in (as_object x)))) (has_many_fields ms) e).1 name d later

few_fit : (ms : Members) → ((name : List ℕ) (d : Data) → HasMember ms name d → nat_lt 32 (members_len (members_in (as_object d))) ≡ false) → has_many_fields ms ≡ false
few_fit no_members each = refl
few_fit (member n x ms) each = ap₂ (λ a b. a || b) (each n x (inl (refl, refl))) (few_fit ms (λ name d h. each name d (inr h)))

-- ---- types

object_of : (o : Option Members) → is_some o ≡ true → (fields : Members) × (o ≡ Some fields)
object_of None e = absurd (true≢false (sym e))
object_of (Some fields) e = (fields, refl)

at_most : (most n : ℕ) → nat_lt most n ≡ false → n ≤ most
at_most most n e = grind (arith, nat_tests, e)

not_more : (most n : ℕ) → n ≤ most → nat_lt most n ≡ false
not_more most n le = grind (arith, nat_tests, le)

sized : (ms : Members) (t : Bool) → cond {A = Option SchemaFault} t (Some TooMany) None ≡ None → t ≡ false
sized ms true e = absurd (no_fault TooMany e)
sized ms false e = refl

types_are : (ms : Members) → members_fault ms ≡ None → AreTypes ms
types_are ms e =
    let p = both_none (name_fault 0 ms) (option_or (field_fault 0 ms) (size_fault ms)) e in
    let q = both_none (field_fault 0 ms) (size_fault ms) p.1 in
    let r = or_none (nat_lt 16 (members_len ms)) (has_many_fields ms) (sized ms _ q.1) in
    record {
      few = at_most 16 (members_len ms) r.0;
      each = λ name d h.
          let n = names_each 0 ms p.0 name d h in
          let o = object_of (as_object d) n.1 in
          let f = types_each 0 ms q.0 name d h in (
            n.0,
            (
              o.0,
              (
                o.1,
                record {
                  few = at_most 32 (members_len o.0) (ap (λ x. nat_lt 32 (members_len (members_in x))) (sym o.1) ∙ few_each ms r.1 name d h);
                  each = fields_each f.0 0 o.0 (ap (λ x. fields_fault f.0 0 (members_in x)) (sym o.1) ∙ f.1);
                },
              ),
            ),
          );
    }

types_have_none : (ms : Members) → AreTypes ms → members_fault ms ≡ None
types_have_none ms h =
    ap (λ o. option_or o (option_or (field_fault 0 ms) (size_fault ms)))
    (names_fit 0 ms (λ name d m. let k = h.each name d m in (k.0, ap is_some k.1.1.0)))
    ∙ ap (λ o. option_or o (size_fault ms))
    (types_fit 0 ms (λ name d at m. let k = (h.each name d m).1 in ap (λ x. fields_fault at 0 (members_in x)) k.1.0 ∙ fields_fit at 0 k.0 k.1.1.each))
    ∙ ap₂ (λ a b. cond (a || b) (Some TooMany) None) (not_more 16 (members_len ms) h.few)
    (few_fit ms (λ name d m. let k = (h.each name d m).1 in ap (λ x. nat_lt 32 (members_len (members_in x))) k.1.0 ∙ not_more 32 (members_len k.0) k.1.1.few))

object_is : (o : Option Members) → object_fault o ≡ None → (types : Members) × ((o ≡ Some types) × AreTypes types)
object_is None e = absurd (no_fault NotObject e)
object_is (Some ms) e = (ms, (refl, types_are ms e))

pub schemas : (d : Data) → (schema_fault (Some d) ≡ None) ↔ IsSchema d
schemas d = (λ e. object_is (as_object d) e, λ s. ap object_fault s.1.0 ∙ types_have_none s.0 s.1.1)
