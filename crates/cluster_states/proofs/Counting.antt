-- A digit more of a number, and the end of one.
use Rattle.std.proofs.Common.{◌≡◌, ◌⊎◌, ℕ, zero, suc, ◌+◌, ◌-◌, ◌*◌, ◌^◌, ◌<◌, ◌≤◌, ◌&&◌, ◌||◌, Bool, true, false, cond, nat_eq, codes, List, [], ◌∷◌, ◌++◌, length, take, drop, get_or, nat_le, nat_lt, inl, inr, refl, sym, ap, subst, ◌∙◌, arith}
use Rattle.std.proofs.lemmas.Bool.{cases_lt}
use Rattle.std.proofs.lemmas.Bool.Decides.{nat_tests}
use Rattle.std.proofs.lemmas.List.{length-append, length-take, append-nil}
use Rattle.std.proofs.lemmas.Fmt.{decimal_digit}
use Rattle.std.specs.Prelude.{⊤}
use Rattle.std.specs.Fmt.{decimal}
use Rattle.cluster_states.specs.ClusterStates.{State, IsState}
use Rattle.cluster_states.specs.declared.marks.Mark.{Mark}
use Rattle.cluster_states.specs.declared.marks.Mark.TheVariants.{Up, Down, Retired}
use Rattle.cluster_states.specs.declared.places.Number.{Number}
use Rattle.cluster_states.specs.declared.places.Number.TheVariants.{Version, Distributors, Nodes, Groups, Marked}
use Rattle.cluster_states.specs.declared.places.Role.{Role}
use Rattle.cluster_states.specs.declared.places.Role.TheVariants.{Distributor, Storage}
use Rattle.cluster_states.specs.StateTexts.{after_counts, after_groups, marks_text}
use Rattle.cluster_states.specs.Scanning.{value_from, Continues, can_begin, least_of, end_of, marks_of, role_word, TakesNumber, Numbered, Counting, Signed, IsKnown, IsWithin}
use Rattle.cluster_states.proofs.Numerals.{starts, continued, value_from-le}

-- bounds that one more digit can decide
abbrev pub IsNarrow : ℕ → ℕ → Type 0
IsNarrow least end = (least ≤ 1) ⊎ (end ≤ 100)

pub narrow : (number : Number) (known : State) → IsKnown number known → IsNarrow (least_of number) (end_of number known)
narrow Version known k = inl (omega arith)
narrow Distributors known k = inl (omega arith)
narrow Nodes known k = inl (omega arith)
narrow Groups known k = inr (omega arith)
narrow (Marked Distributor least) known k = inr (let few = k.1.state.few_distributors in omega arith)
narrow (Marked Storage least) known k = inr (let few = k.1.state.few_nodes in omega arith)

pub few_numbers : (number : Number) (known : State) → IsKnown number known → end_of number known ≤ 2 ^ 32
few_numbers Version known k = omega arith
few_numbers Distributors known k = omega arith
few_numbers Nodes known k = omega arith
few_numbers Groups known k = omega arith
few_numbers (Marked Distributor least) known k = let few = k.1.state.few_distributors in omega arith
few_numbers (Marked Storage least) known k = let few = k.1.state.few_nodes in omega arith

-- what stands in the bounds, or can come to stand there
begins_within : (least end value : ℕ) → least ≤ value → value < end → can_begin least end value ≡ true
begins_within least end value low high = grind (arith, nat_tests)

begins_before : (least end value : ℕ) → 1 ≤ value → 10 * value < end → least ≤ 10 * value + 9 → can_begin least end value ≡ true
begins_before least end value some high low = grind (arith, nat_tests)

some_value : (value : ℕ) (cs : List ℕ) (c : ℕ) (v : ℕ) → Continues value (c ∷ cs) v → 1 ≤ value
some_value zero cs c v h = absurd (omega (arith, ap length (h.no_zero refl)))
some_value (suc value) cs c v h = omega arith

pub can_reach : (least end value : ℕ) (cs : List ℕ) (v : ℕ) → IsNarrow least end → Continues value cs v → least ≤ v → v < end → can_begin least end value ≡ true
can_reach least end value [] v narrow h low high = begins_within least end value (omega (arith, h.value)) (omega (arith, h.value))
can_reach least end value (c ∷ []) v narrow h low high =
    begins_before least end value (some_value value [] c v h) (omega (arith, h.value)) (omega (arith, h.value, h.digits.0, h.digits.1.0))
can_reach least end value (c ∷ d ∷ cs) v narrow h low high =
    let some = some_value value (d ∷ cs) c v h in
    let great : 100 * value ≤ v = omega (arith, h.value, value_from-le (10 * (10 * value + (c - 48)) + (d - 48)) cs) in
    elim narrow [
      | inl small ↦ begins_within least end value (omega arith) (omega arith)
      | inr short ↦ absurd (omega arith)
    ]

-- a number of the bounds that begins so
pub record Reached (least end value : ℕ) : Type 0 where
  pub whole : ℕ
  pub digits : List ℕ
  pub continues : Continues value digits whole
  pub low : least ≤ whole
  pub high : whole < end

abbrev within_or_before : (a b : Bool) → (a || b) ≡ true → (a ≡ true) ⊎ (b ≡ true)
within_or_before true b e = inl refl
within_or_before false b e = inr e

one_more : (least end value v : ℕ) → 1 ≤ value → 10 * value ≤ v → v ≤ 10 * value + 9 → least ≤ v → v < end → Reached least end value
one_more least end value v some front back low high = record {
  whole = v;
  digits = (48 + (v - 10 * value)) ∷ [];
  continues = record { digits = (omega arith, (omega arith, tt)); value = omega arith; no_zero = λ e. absurd (omega (arith, e)) };
  low = low;
  high = high;
}

pub reached : (least end value : ℕ) → least < end → can_begin least end value ≡ true → Reached least end value
reached least end value some can = elim (within_or_before (nat_le least value && nat_lt value end) _ can) [
  | inl within ↦ record {
    whole = value;
    digits = [];
    continues = record { digits = tt; value = refl; no_zero = λ e. refl };
    low = grind (arith, nat_tests, within);
    high = grind (arith, nat_tests, within);
  }
  | inr before ↦
      let positive : 1 ≤ value = grind (arith, nat_tests, before) in
      let front : 10 * value < end = grind (arith, nat_tests, before) in
      let back : least ≤ 10 * value + 9 = grind (arith, nat_tests, before) in
      elim (cases_lt (10 * value) least) [
        | inl less ↦ one_more least end value least positive (omega (arith, less)) back (omega arith) some
        | inr past ↦ one_more least end value (10 * value) positive (omega arith) (omega arith) (omega (arith, past)) front
      ]
]

pub signed_within : (role : Role) (n : ℕ) (known : State) (more : List ℕ) (s : State) → Signed role n known more s → n < length (marks_of role known)
signed_within role n known more s g =
    omega (arith, g.size, ap length g.marks, length-append (take n (marks_of role known)) (g.mark ∷ g.rest), length-take n (marks_of role known))

-- a number that is taken stands in its bounds
pub takes_within : (number : Number) (known : State) (n : ℕ) (after : List ℕ) (s : State) → IsState s → TakesNumber number known n after s → IsWithin number known n
takes_within Version known n after s state h = (omega arith, omega (arith, state.version, h.0))
takes_within Distributors known n after s state h = (omega (arith, state.some_distributors, h.1.0), omega (arith, state.few_distributors, h.1.0))
takes_within Nodes known n after s state h = (omega (arith, state.some_nodes, h.1.1.0), omega (arith, state.few_nodes, h.1.1.0))
takes_within Groups known n after s state h = (h.1.0, omega (arith, state.few_groups, h.1.1.0))
takes_within (Marked role least) known n after s state h = (h.0, signed_within role n known h.1.0 s h.1.1.1)

-- what is behind a number doesn't begin with a digit
abbrev pub NoDigit : List ℕ → Type 0
NoDigit [] = ⊤
NoDigit (c ∷ cs) = (c < 48) ⊎ (58 ≤ c)

marks_no_digit : (role : Role) (n : ℕ) (ms : List Mark) (tail : List ℕ) → NoDigit tail → NoDigit (marks_text (role_word role) n ms ++ tail)
marks_no_digit role n [] tail h = h
marks_no_digit role n (Up ∷ ms) tail h = marks_no_digit role (n + 1) ms tail h
marks_no_digit Distributor n (Down ∷ ms) tail h = inl (omega arith)
marks_no_digit Storage n (Down ∷ ms) tail h = inl (omega arith)
marks_no_digit Distributor n (Retired ∷ ms) tail h = inl (omega arith)
marks_no_digit Storage n (Retired ∷ ms) tail h = inl (omega arith)

pub groups_no_digit : (s : State) → NoDigit (after_groups s)
groups_no_digit s = marks_no_digit Distributor 0 s.distributors _ (subst NoDigit (append-nil _) (marks_no_digit Storage 0 s.nodes [] tt))

pub counts_no_digit : (s : State) → NoDigit (after_counts s)
counts_no_digit s = behind (nat_eq s.groups 1) s.groups (after_groups s) (groups_no_digit s)
  where
    behind : (b : Bool) (groups : ℕ) (tail : List ℕ) → NoDigit tail → NoDigit (cond b [] (codes " groups:" ++ decimal groups) ++ tail)
    behind true groups tail h = h
    behind false groups tail h = inl (omega arith)

pub takes_no_digit : (number : Number) (known : State) (n : ℕ) (after : List ℕ) (s : State) → TakesNumber number known n after s → NoDigit after
takes_no_digit Version known n after s h = subst NoDigit (sym h.1) (inl (omega arith))
takes_no_digit Distributors known n after s h = subst NoDigit (sym h.1.1) (inl (omega arith))
takes_no_digit Nodes known n after s h = subst NoDigit (sym h.1.1.1) (counts_no_digit s)
takes_no_digit Groups known n after s h = subst NoDigit (sym h.1.1.1) (groups_no_digit s)
takes_no_digit (Marked role least) known n after s h = subst NoDigit (sym h.1.1.0) (inl (omega arith))

pub head_same : (a b : ℕ) (xs ys : List ℕ) → a ∷ xs ≡ b ∷ ys → a ≡ b
head_same a b xs ys e = ap (λ l. get_or l 0 0) e

pub tail_same : (a b : ℕ) (xs ys : List ℕ) → a ∷ xs ≡ b ∷ ys → xs ≡ ys
tail_same a b xs ys e = ap (drop 1) e

-- a digit goes on with the number
pub record Goes (value letter : ℕ) (more : List ℕ) (whole : ℕ) (after : List ℕ) : Type 0 where
  pub digits : List ℕ
  pub continues : Continues (10 * value + (letter - 48)) digits whole
  pub text : more ≡ digits ++ after

digit_goes_on : (value letter : ℕ) (more cs after : List ℕ) (v : ℕ) → 48 ≤ letter → letter < 58 → NoDigit after → Continues value cs v → letter ∷ more ≡ cs ++ after → (1 ≤ value) × Goes value letter more v after
digit_goes_on value letter more [] [] v low high none h e = absurd (omega (arith, ap length e))
digit_goes_on value letter more [] (a ∷ after) v low high none h e =
    let same = head_same letter a more after e in
    elim none [ inl below ↦ absurd (omega (arith, same, below)) | inr past ↦ absurd (omega (arith, same, past)) ]
digit_goes_on value letter more (c ∷ cs) after v low high none h e =
    let same : letter ≡ c = head_same letter c more (cs ++ after) e in
    let some = some_value value cs c v h in (
      some,
      record {
        digits = cs;
        continues = record { digits = h.digits.1.1; value = h.value ∙ ap (λ k. value_from (10 * value + (k - 48)) cs) (sym same); no_zero = λ z. absurd (omega (arith, some, z)) };
        text = tail_same letter c more (cs ++ after) e;
      },
    )

goes_back : (value letter : ℕ) (digits : List ℕ) (v : ℕ) → 48 ≤ letter → letter < 58 → 1 ≤ value → Continues (10 * value + (letter - 48)) digits v → Continues value (letter ∷ digits) v
goes_back value letter digits v low high some h = record { digits = (low, (high, h.digits)); value = h.value; no_zero = λ z. absurd (omega (arith, some, z)) }

pub counting_digit : (number : Number) (value letter : ℕ) (known : State) (more : List ℕ) (s : State) → 48 ≤ letter → letter < 58
    → Counting number value known (letter ∷ more) s → (1 ≤ value) × Counting number (10 * value + (letter - 48)) known more s
counting_digit number value letter known more s low high h =
    let g = digit_goes_on value letter more h.digits h.after h.whole low high (takes_no_digit number known h.whole h.after s h.takes) h.continues h.text in
    (g.0, record { whole = h.whole; digits = g.1.digits; after = h.after; continues = g.1.continues; text = g.1.text; takes = h.takes })

pub digit_counting : (number : Number) (value letter : ℕ) (known : State) (more : List ℕ) (s : State) → 48 ≤ letter → letter < 58 → 1 ≤ value
    → Counting number (10 * value + (letter - 48)) known more s → Counting number value known (letter ∷ more) s
digit_counting number value letter known more s low high some h = record {
  whole = h.whole;
  digits = letter ∷ h.digits;
  after = h.after;
  continues = goes_back value letter h.digits h.whole low high some h.continues;
  text = ap (λ l. letter ∷ l) h.text;
  takes = h.takes;
}

-- what can't begin a number of the bounds has nothing behind it
pub counting_begins : (number : Number) (value : ℕ) (known : State) (more : List ℕ) (s : State) → IsKnown number known → IsState s → Counting number value known more s
    → can_begin (least_of number) (end_of number known) value ≡ true
counting_begins number value known more s k state h =
    let within = takes_within number known h.whole h.after s state h.takes in
    can_reach (least_of number) (end_of number known) value h.digits h.whole (narrow number known k) h.continues within.0 within.1

-- a letter that is no digit ends a number
ends_there : (value letter : ℕ) (more cs after : List ℕ) (v : ℕ) → (letter < 48) ⊎ (58 ≤ letter) → Continues value cs v → letter ∷ more ≡ cs ++ after → (v ≡ value) × (letter ∷ more ≡ after)
ends_there value letter more [] after v out h e = (h.value, e)
ends_there value letter more (c ∷ cs) after v out h e =
    let same = head_same letter c more (cs ++ after) e in
    elim out [ inl below ↦ absurd (omega (arith, same, below, h.digits.0)) | inr past ↦ absurd (omega (arith, same, past, h.digits.1.0)) ]

pub counting_ends : (number : Number) (value letter : ℕ) (known : State) (more : List ℕ) (s : State) → (letter < 48) ⊎ (58 ≤ letter)
    → Counting number value known (letter ∷ more) s → TakesNumber number known value (letter ∷ more) s
counting_ends number value letter known more s out h =
    let g = ends_there value letter more h.digits h.after h.whole out h.continues h.text in
    subst (λ v. TakesNumber number known v (letter ∷ more) s) g.0 (subst (λ l. TakesNumber number known h.whole l s) (sym g.1) h.takes)

ends_empty : (value : ℕ) (cs after : List ℕ) (v : ℕ) → Continues value cs v → [] ≡ cs ++ after → (v ≡ value) × ([] ≡ after)
ends_empty value [] after v h e = (h.value, e)
ends_empty value (c ∷ cs) after v h e = absurd (omega (arith, ap length e))

pub counting_over : (number : Number) (value : ℕ) (known : State) (s : State) → Counting number value known [] s → TakesNumber number known value [] s
counting_over number value known s h =
    let g = ends_empty value h.digits h.after h.whole h.continues h.text in
    subst (λ v. TakesNumber number known v [] s) g.0 (subst (λ l. TakesNumber number known h.whole l s) (sym g.1) h.takes)

pub takes_counting : (number : Number) (value : ℕ) (known : State) (more : List ℕ) (s : State) → TakesNumber number known value more s → Counting number value known more s
takes_counting number value known more s h = record {
  whole = value;
  digits = [];
  after = more;
  continues = record { digits = tt; value = refl; no_zero = λ e. refl };
  text = refl;
  takes = h;
}

-- the first digit of a number
pub numbered_digit : (number : Number) (letter : ℕ) (known : State) (more : List ℕ) (s : State) → IsKnown number known → IsState s → Numbered number known (letter ∷ more) s
    → (48 ≤ letter) × ((letter < 58) × Counting number (letter - 48) known more s)
numbered_digit number letter known more s k state h =
    let within = takes_within number known h.value h.after s state h.takes in
    let ds = starts h.value (omega (arith, within.1, few_numbers number known k)) in
    let e : letter ∷ more ≡ ds.first ∷ (ds.others ++ h.after) = h.text ∙ ap (λ l. l ++ h.after) ds.is in
    let same : ds.first ≡ letter = sym (head_same letter ds.first more (ds.others ++ h.after) e) in (
      omega (arith, same, ds.low),
      (
        omega (arith, same, ds.high),
        record {
          whole = h.value;
          digits = ds.others;
          after = h.after;
          continues = subst (λ c. Continues (c - 48) ds.others h.value) same ds.rest;
          text = tail_same letter ds.first more (ds.others ++ h.after) e;
          takes = h.takes;
        },
      ),
    )

pub digit_numbered : (number : Number) (letter : ℕ) (known : State) (more : List ℕ) (s : State) → IsKnown number known → IsState s → 48 ≤ letter → letter < 58
    → Counting number (letter - 48) known more s → Numbered number known (letter ∷ more) s
digit_numbered number letter known more s k state low high h =
    let within = takes_within number known h.whole h.after s state h.takes in
    let d : decimal (letter - 48) ≡ letter ∷ [] = decimal_digit (letter - 48) (omega arith) ∙ ap (λ c. c ∷ []) (omega arith) in
    let e : decimal h.whole ≡ letter ∷ h.digits = continued (letter - 48) h.digits h.whole h.continues (omega (arith, within.1, few_numbers number known k)) ∙ ap (λ l. l ++ h.digits) d in
    record { value = h.whole; after = h.after; text = ap (λ l. letter ∷ l) h.text ∙ ap (λ l. l ++ h.after) (sym e); takes = h.takes }
