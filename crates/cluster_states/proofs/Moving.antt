-- How a letter moves a scan on.
use Rattle.std.proofs.Common.{◌≡◌, ◌⊎◌, ℕ, ◌+◌, ◌-◌, ◌*◌, ◌<◌, ◌≤◌, ◌&&◌, Bool, true, false, List, [], ◌∷◌, ◌++◌, length, drop, nat_le, nat_lt, inl, inr, refl, sym, ap, subst, ◌∙◌, arith, cond, Option, Some, None}
use mathlib.Core.Bool.{true≢false}
use Rattle.std.proofs.lemmas.Bool.Decides.{nat_tests}
use Rattle.std.proofs.lemmas.List.{drop_all}
use Rattle.cluster_states.specs.ClusterStates.{State, IsState}
use Rattle.cluster_states.specs.declared.places.Role.{Role}
use Rattle.cluster_states.specs.declared.places.Role.TheVariants.{Distributor, Storage}
use Rattle.cluster_states.specs.declared.places.Number.{Number}
use Rattle.cluster_states.specs.declared.places.Place.{Place}
use Rattle.cluster_states.specs.declared.places.Place.TheVariants.{Word, Digits}
use Rattle.cluster_states.specs.Scanning.{marks_of, Scan, can_begin, least_of, end_of, word_of, digits_of, Numbered, IsPlace, IsScan, IsWithin, IsBehind, is_within, Moves, Ends}
use Rattle.cluster_states.proofs.Counting.{counting_digit, digit_counting, counting_begins, counting_ends, counting_over, takes_counting, numbered_digit, digit_numbered, takes_within}

abbrev pub scan_at : Place → State → Scan
scan_at place known = record { place = place; state = known }

-- no role has more than 32 numbers
pub few_marks : (role : Role) (known : State) → IsState known → length (marks_of role known) ≤ 32
few_marks Distributor known h = h.few_distributors
few_marks Storage known h = h.few_nodes

over : (number : Number) (at : ℕ) (rest more : List ℕ) → length (word_of number) ≤ at → more ≡ drop at (word_of number) ++ rest → more ≡ rest
over number at rest more le e = e ∙ ap (λ l. l ++ rest) (drop_all at (word_of number) le)

-- the first digit of a number
first_by : (number : Number) (at : ℕ) (known : State) (letter : ℕ) (b : Bool) → 48 ≤ letter → letter < 58 → length (word_of number) ≤ at
    → can_begin (least_of number) (end_of number known) (letter - 48) ≡ b → IsPlace (Word number at) known
    → Moves (scan_at (Word number at) known) letter (cond b (Some (scan_at (Digits number (letter - 48)) known)) None)
first_by number at known letter true low high le can k = (
  (k.0, can),
  λ more s. (
    (λ h. (h.0, (numbered_digit number letter known more s k.0 h.0 (subst (λ l. Numbered number known l s) (sym (over number at h.1.0 (letter ∷ more) le h.1.1.0)) h.1.1.1)).1.1)),
    (λ h. (h.0, (letter ∷ more, (sym (ap (λ l. l ++ letter ∷ more) (drop_all at (word_of number) le)), digit_numbered number letter known more s k.0 h.0 low high h.1)))),
  ),
)
first_by number at known letter false low high le can k = λ more s h.
    let d = numbered_digit number letter known more s k.0 h.0 (subst (λ l. Numbered number known l s) (sym (over number at h.1.0 (letter ∷ more) le h.1.1.0)) h.1.1.1) in
    true≢false (sym (counting_begins number (letter - 48) known more s k.0 h.0 d.1.1) ∙ can)

pub first_moves : (number : Number) (at : ℕ) (known : State) (letter value : ℕ) (r : Option Scan) → 48 ≤ letter → letter < 58 → length (word_of number) ≤ at → value ≡ letter - 48
    → r ≡ digits_of number known value → IsPlace (Word number at) known → Moves (scan_at (Word number at) known) letter r
first_moves number at known letter value r low high le v e k =
    subst (Moves (scan_at (Word number at) known) letter) (sym (e ∙ ap (digits_of number known) v)) (first_by number at known letter _ low high le refl k)

-- another letter there
pub first_stops : (number : Number) (at : ℕ) (known : State) (letter : ℕ) → (letter < 48) ⊎ (58 ≤ letter) → length (word_of number) ≤ at → IsPlace (Word number at) known
    → Moves (scan_at (Word number at) known) letter None
first_stops number at known letter out le k = λ more s h.
    let d = numbered_digit number letter known more s k.0 h.0 (subst (λ l. Numbered number known l s) (sym (over number at h.1.0 (letter ∷ more) le h.1.1.0)) h.1.1.1) in
    elim out [ inl below ↦ absurd (omega (arith, below, d.0)) | inr past ↦ absurd (omega (arith, past, d.1.0)) ]

-- a digit more
next_by : (number : Number) (known : State) (value letter : ℕ) (b : Bool) → 48 ≤ letter → letter < 58 → 1 ≤ value
    → can_begin (least_of number) (end_of number known) (10 * value + (letter - 48)) ≡ b → IsPlace (Digits number value) known
    → Moves (scan_at (Digits number value) known) letter (cond b (Some (scan_at (Digits number (10 * value + (letter - 48))) known)) None)
next_by number known value letter true low high some can k = (
  (k.0, can),
  λ more s. (
    (λ h. (h.0, (counting_digit number value letter known more s low high h.1).1)),
    (λ h. (h.0, digit_counting number value letter known more s low high some h.1)),
  ),
)
next_by number known value letter false low high some can k = λ more s h.
    true≢false (sym (counting_begins number (10 * value + (letter - 48)) known more s k.0 h.0 (counting_digit number value letter known more s low high h.1).1) ∙ can)

pub next_moves : (number : Number) (known : State) (value letter next : ℕ) (r : Option Scan) → 48 ≤ letter → letter < 58 → 1 ≤ value → next ≡ 10 * value + (letter - 48)
    → r ≡ digits_of number known next → IsPlace (Digits number value) known → Moves (scan_at (Digits number value) known) letter r
next_moves number known value letter next r low high some v e k =
    subst (Moves (scan_at (Digits number value) known) letter) (sym (e ∙ ap (digits_of number known) v)) (next_by number known value letter _ low high some refl k)

-- what is behind a number
pub behind_moves : (number : Number) (known : State) (value letter : ℕ) (y : Scan) (r : Option Scan) → (letter < 48) ⊎ (58 ≤ letter) → IsBehind number known value y → Moves y letter r
    → Moves (scan_at (Digits number value) known) letter r
behind_moves number known value letter y (Some z) out b m = (
  m.0,
  λ more s. (
    (λ h. (m.1 more s).0 ((b.1.1 (letter ∷ more) s).0 (h.0, counting_ends number value letter known more s out h.1))),
    (λ h. let g = (b.1.1 (letter ∷ more) s).1 ((m.1 more s).1 h) in (g.0, takes_counting number value known (letter ∷ more) s g.1)),
  ),
)
behind_moves number known value letter y None out b m = λ more s h. m more s ((b.1.1 (letter ∷ more) s).0 (h.0, counting_ends number value letter known more s out h.1))

not_within : (number : Number) (known : State) (value : ℕ) → is_within number known value ≡ false → IsWithin number known value → ⊥
not_within number known value e w = true≢false (sym (inside (least_of number) (end_of number known) value w.0 w.1) ∙ e)
  where
    inside : (least end v : ℕ) → least ≤ v → v < end → (nat_le least v && nat_lt v end) ≡ true
    inside least end v low high = grind (arith, nat_tests)

pub behind_stops : (number : Number) (known : State) (value letter : ℕ) → (letter < 48) ⊎ (58 ≤ letter) → is_within number known value ≡ false → Moves (scan_at (Digits number value) known) letter None
behind_stops number known value letter out w = λ more s h.
    not_within number known value w (takes_within number known value (letter ∷ more) s h.0 (counting_ends number value letter known more s out h.1))

-- a text that ends with a number
pub over_ends : (number : Number) (known : State) (value : ℕ) (y : Scan) (r : Option State) → IsBehind number known value y → Ends y r → Ends (scan_at (Digits number value) known) r
over_ends number known value y (Some t) b m = let g = (b.1.1 [] t).1 m in (g.0, takes_counting number value known [] t g.1)
over_ends number known value y None b m = λ s h. m s ((b.1.1 [] s).0 (h.0, counting_over number value known s h.1))

pub over_stops : (number : Number) (known : State) (value : ℕ) → is_within number known value ≡ false → Ends (scan_at (Digits number value) known) None
over_stops number known value w = λ s h. not_within number known value w (takes_within number known value [] s h.0 (counting_over number value known s h.1))

-- a scan is told by its place
pub ends_at : (x : Scan) (place : Place) (r : Option State) → x.place ≡ place → Ends (scan_at place x.state) r → Ends x r
ends_at x place r e m = subst (λ p. Ends (scan_at p x.state) r) (sym e) m

pub place_at : (x : Scan) (place : Place) → x.place ≡ place → IsScan x → IsPlace place x.state
place_at x place e k = subst (λ p. IsPlace p x.state) e k
