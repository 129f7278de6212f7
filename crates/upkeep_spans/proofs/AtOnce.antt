-- Which messages are remembered, and which of those that are delivered were late.
use Rattle.std.proofs.Common.{◌≡◌, ◌≢◌, ◌==◌, ◌↔◌, ◌⊎◌, inl, inr, ℕ, ◌+◌, ◌-◌, ◌<◌, ◌≤◌, Bool, true, false, List, [], ◌∷◌, ◌++◌, length, Option, Some, None, if◌then◌else◌, refl, sym, ap, subst, ◌∙◌, arith, get_or, length-append}
use Rattle.std.specs.Option.{is_some}
use Rattle.std.specs.List.{Contains}
use Rattle.std.specs.List.Sorted.{IsNonDecreasing}
use Rattle.std.proofs.lemmas.Bool.Decides.{nat_tests}
use Rattle.std.proofs.lemmas.List.Sorted.{IsNonDecreasingBy-push}
use Rattle.std.proofs.lemmas.List.Elements.{Contains-get_or, Contains-push, Contains-append_left, Contains-append_cases}
use Rattle.carriers.specs.declared.fate.Fate.{Fate}
use Rattle.carriers.specs.declared.fate.Fate.TheVariants.{Deliver, LoseRequest, LoseReply, Twice, Late}
use Rattle.lane_carriage.specs.Readers.{fate_of}
use Rattle.lane_carriage.proofs.Fates.{fate-append, fate-within}
use Rattle.upkeep_spans.specs.Causes.{is_late}
use Rattle.upkeep_spans.specs.Watches.{KnowsAtOnce}
use Rattle.upkeep_spans.specs.Scans.{ComesAt}

-- ---- fates by number

pub fate-next : (given : List Fate) (f : Fate) (n : ℕ) → fate_of n (given ++ f ∷ []) ≡ (if n == length given + 1 then Some f else fate_of n given)
fate-next given f n = let same : 1 + length given ≡ length given + 1 = omega arith in fate-append 1 n given f ∙ ap (λ (k : ℕ). if n == k then Some f else fate_of n given) same

pub fate-at : (given : List Fate) (f : Fate) (n : ℕ) → n ≡ length given + 1 → fate_of n (given ++ f ∷ []) ≡ Some f
fate-at given f n e = fate-next given f n ∙ at (n == length given + 1) (grind (arith, nat_tests))
  where
    at : (t : Bool) → t ≡ true → (if t then Some f else fate_of n given) ≡ Some f
    at true h = refl
    at false h = Prim.cc

pub fate-before : (given : List Fate) (f : Fate) (n : ℕ) → n ≢ length given + 1 → fate_of n (given ++ f ∷ []) ≡ fate_of n given
fate-before given f n e = fate-next given f n ∙ at (n == length given + 1) (grind (arith, nat_tests))
  where
    at : (t : Bool) → t ≡ false → (if t then Some f else fate_of n given) ≡ fate_of n given
    at true h = Prim.cc
    at false h = refl

none-of : {A : Type 0} (o : Option A) → is_some o ≡ false → o ≡ None
none-of None h = refl
none-of (Some a) h = Prim.cc

pub fate-behind : (given : List Fate) (n : ℕ) → length given < n → fate_of n given ≡ None
fate-behind given n lt = none-of (fate_of n given) (fate-within 1 n given ∙ grind (arith, nat_tests))

-- ---- what is remembered

-- a message that isn't late, or comes later
pub knows-other : (first : ℕ) (at_once : List ℕ) (given : List Fate) (f : Fate) → f ≢ Late 0 → KnowsAtOnce first at_once given → KnowsAtOnce first at_once (given ++ f ∷ [])
knows-other first at_once given f other k = record {
  rising = k.rising;
  sent = λ n c. more n (k.sent n c);
  just = λ n h. by_place n h (n == length given + 1) refl;
}
  where
    some-same : (a b : Fate) → Some a ≡ Some b → a ≡ b
    some-same a b e = Prim.cc

    more : (n : ℕ) → n ≤ length given → n ≤ length (given ++ f ∷ [])
    more n le = rw (length-append given (f ∷ [])) (omega arith)

    by_place : (n : ℕ) → first ≤ n → (t : Bool) → (n == length given + 1) ≡ t → Contains at_once n ↔ (fate_of n (given ++ f ∷ []) ≡ Some (Late 0))
    by_place n h true e =
        let at : n ≡ length given + 1 = grind (arith, nat_tests) in (
          (λ c. let le : n ≤ length given = k.sent n c in absurd (omega arith)),
          (λ is. absurd (other (some-same f (Late 0) (sym (fate-at given f n at) ∙ is)))),
        )
    by_place n h false e =
        let apart : n ≢ length given + 1 = grind (arith, nat_tests) in
        rw (fate-before given f n apart) (k.just n h)

-- one that comes at once
pub knows-pushed : (first number : ℕ) (at_once : List ℕ) (given : List Fate) → number ≡ length given + 1 → KnowsAtOnce first at_once given → KnowsAtOnce first (at_once ++ number ∷ []) (given ++ Late 0 ∷ [])
knows-pushed first number at_once given next k = record {
  rising = IsNonDecreasingBy-push (λ x. x) at_once number k.rising below;
  sent = λ n c. sent n (Contains-append_cases at_once (number ∷ []) n c);
  just = λ n h. by_place n h (n == length given + 1) refl;
}
  where
    size : length (given ++ Late 0 ∷ []) ≡ length given + 1
    size = length-append given (Late 0 ∷ [])

    below : (d : ℕ) → 0 < length at_once → get_or at_once (length at_once - 1) d ≤ number
    below d some = let le : get_or at_once (length at_once - 1) d ≤ length given = k.sent _ (Contains-get_or at_once (length at_once - 1) d (omega arith)) in omega arith

    one : (n : ℕ) → Contains (number ∷ []) n → n ≡ number
    one n c = grind arith

    sent : (n : ℕ) → Contains at_once n ⊎ Contains (number ∷ []) n → n ≤ length (given ++ Late 0 ∷ [])
    sent n (inl c) = let le : n ≤ length given = k.sent n c in rw size (omega arith)
    sent n (inr c) = let same : n ≡ number = one n c in rw size (omega arith)

    fewer : (n : ℕ) → n ≢ number → Contains at_once n ⊎ Contains (number ∷ []) n → Contains at_once n
    fewer n apart (inl c) = c
    fewer n apart (inr c) = absurd (apart (one n c))

    by_place : (n : ℕ) → first ≤ n → (t : Bool) → (n == length given + 1) ≡ t → Contains (at_once ++ number ∷ []) n ↔ (fate_of n (given ++ Late 0 ∷ []) ≡ Some (Late 0))
    by_place n h true e =
        let at : n ≡ length given + 1 = grind (arith, nat_tests) in
        let same : number ≡ n = omega arith in
        ((λ c. fate-at given (Late 0) n at), (λ is. subst (λ (m : ℕ). Contains (at_once ++ number ∷ []) m) same (Contains-push at_once number)))
    by_place n h false e =
        let apart : n ≢ length given + 1 = grind (arith, nat_tests) in
        let other : n ≢ number = λ q. apart (q ∙ next) in (
          (λ c. fate-before given (Late 0) n apart ∙ (k.just n h).0 (fewer n other (Contains-append_cases at_once (number ∷ []) n c))),
          (λ is. Contains-append_left at_once (number ∷ []) n ((k.just n h).1 (sym (fate-before given (Late 0) n apart) ∙ is))),
        )

-- it isn't known of the messages up to this one
pub knows-later : (first number : ℕ) (at_once : List ℕ) (given : List Fate) (f : Fate) → number ≡ length given + 1 → KnowsAtOnce first at_once given → KnowsAtOnce (number + 1) at_once (given ++ f ∷ [])
knows-later first number at_once given f next k = record {
  rising = k.rising;
  sent = λ n c. let le : n ≤ length given = k.sent n c in rw size (omega arith);
  just = λ n h. ((λ c. let le : n ≤ length given = k.sent n c in absurd (omega arith)), (λ is. absurd (none n h is)));
}
  where
    size : length (given ++ f ∷ []) ≡ length given + 1
    size = length-append given (f ∷ [])

    none : (n : ℕ) → number + 1 ≤ n → fate_of n (given ++ f ∷ []) ≡ Some (Late 0) → ⊥
    none n h is = let lt : length (given ++ f ∷ []) < n = rw size (omega arith) in let gone : fate_of n (given ++ f ∷ []) ≡ None = fate-behind (given ++ f ∷ []) n lt in Prim.cc

pub knows-pushed-as : (first number : ℕ) (before after : List ℕ) (given : List Fate) (f : Fate) → number ≡ length given + 1 → f ≡ Late 0 → after ≡ before ++ number ∷ [] → KnowsAtOnce first before given → KnowsAtOnce first after (given ++ f ∷ [])
knows-pushed-as first number before after given f next late pushed k = rw (pushed, late) (knows-pushed first number before given next k)

pub knows-later-as : (first number : ℕ) (before after : List ℕ) (given : List Fate) (f : Fate) → number ≡ length given + 1 → after ≡ before → KnowsAtOnce first before given → KnowsAtOnce (number + 1) after (given ++ f ∷ [])
knows-later-as first number before after given f next same k = rw same (knows-later first number before given f next k)

pub knows-on : (first more : ℕ) (at_once : List ℕ) (given : List Fate) → first ≤ more → KnowsAtOnce first at_once given → KnowsAtOnce more at_once given
knows-on first more at_once given le k = record { rising = k.rising; sent = k.sent; just = λ n h. k.just n (omega arith) }

pub knows-none : KnowsAtOnce 0 [] []
knows-none = record {
  rising = λ i j d le lt. absurd (omega arith);
  sent = λ n c. absurd (none n c);
  just = λ n h. ((λ c. absurd (none n c)), (λ is. Prim.cc));
}
  where
    none : (n : ℕ) → Contains [] n → ⊥
    none n c = let lt : c.0 < 0 = c.1 in omega arith

-- ---- which were late

pub late-other : (o : Option Fate) (n last : ℕ) → ComesAt o n last → n ≢ last → is_late o ≡ true
late-other None n last c apart = absurd c
late-other (Some Deliver) n last c apart = absurd (apart c)
late-other (Some LoseRequest) n last c apart = absurd c
late-other (Some LoseReply) n last c apart = absurd (apart c)
late-other (Some Twice) n last c apart = absurd (apart c)
late-other (Some (Late k)) n last c apart = refl

not-found : (found : Bool) → (found ≡ true → ⊥) → found ≡ false
not-found true h = absurd (h refl)
not-found false h = refl

pub late-at-once : (o : Option Fate) (n last : ℕ) → ComesAt o n last → n ≡ last → (found : Bool) → (found ≡ true) ↔ (o ≡ Some (Late 0)) → found ≡ is_late o
late-at-once None n last c same found h = absurd c
late-at-once (Some Deliver) n last c same found h = not-found found (λ e. let z = h.0 e in Prim.cc)
late-at-once (Some LoseRequest) n last c same found h = absurd c
late-at-once (Some LoseReply) n last c same found h = not-found found (λ e. let z = h.0 e in Prim.cc)
late-at-once (Some Twice) n last c same found h = not-found found (λ e. let z = h.0 e in Prim.cc)
late-at-once (Some (Late k)) n last c same found h = let zero : k ≡ 0 = omega arith in h.1 (ap (λ (i : ℕ). Some (Late i)) zero)
