-- What that says of each message in turn.
use Rattle.std.proofs.Common.{◌≡◌, ◌+◌, ◌≤◌, ◌<◌, ◌↔◌, ℕ, Bool, true, false, List, [], ◌∷◌, length, nat_lt, nat_le, Option, Some, None, if◌then◌else◌, refl, sym, ap, ◌∙◌, arith}
use Rattle.std.specs.Option.{is_some, IsSome}
use Rattle.std.proofs.lemmas.Bool.Decides.{nat_tests}
use Rattle.carriers.specs.declared.fate.Fate.{Fate}
use Rattle.carriers.specs.declared.fate.Fate.TheVariants.{Deliver, LoseRequest, LoseReply, Twice, Late}
use Rattle.lane_journals.specs.Readers.{sent, first_reply}
use Rattle.lane_journals.specs.Meanings.{history}
use Rattle.lane_journals.specs.declared.event.LaneEvent.{LaneEvent}
use Rattle.lane_carriage.specs.Carriage.{IsCarried}
use Rattle.lane_carriage.specs.Readers.{receives, fate_of, times_sent, IsPrompt, IsLate, arrivals_of}
use Rattle.lane_carriage.proofs.Fates.{fate-within}
use Rattle.lane_carriage.proofs.Carried.{none-of, sent-if, reply-if, has_any, says}

pub numbers : (given : List Fate) (k : ℕ) → IsSome (fate_of k given) ↔ ((1 ≤ k) × (k ≤ length given))
numbers given k = (
  λ h. (let in_it = sym (fate-within 1 k given) ∙ h in grind (arith, nat_tests)),
  λ h. (let low = h.0 in let high = h.1 in fate-within 1 k given ∙ (grind (arith, nat_tests))),
)

times-some : (o : Option Fate) → IsSome o → nat_lt 0 (times_sent o) ≡ true
times-some None h = cc
times-some (Some f) h = refl

pub was-sent : (given : List Fate) (J : List LaneEvent) → IsCarried given J → (k : ℕ) → 1 ≤ k → k ≤ length given → IsSome (sent k (history J))
was-sent given J c k low high =
    (sent-if k J ∙ ap (λ (n : ℕ). nat_lt 0 n) ((says given J c).once k) ∙ times-some (fate_of k given) ((numbers given k).1 (low, high)))

pub unsent : (given : List Fate) (J : List LaneEvent) → IsCarried given J → (k : ℕ) → fate_of k given ≡ None → sent k (history J) ≡ None
unsent given J c k none =
    none-of (sent k (history J)) (sent-if k J ∙ ap (λ (n : ℕ). nat_lt 0 n) ((says given J c).once k) ∙ ap (λ (o : Option Fate). nat_lt 0 (times_sent o)) none)

-- whether the message of a fate arrived, by whether its receiver ran
arrived-by : (given : List Fate) (J : List LaneEvent) → IsCarried given J → (k : ℕ) (f : Fate) → fate_of k given ≡ Some f
    → is_some (first_reply k (history J)) ≡ has_any (arrivals_of k (Some f) (length given) (λ j. receives k j J))
arrived-by given J c k f e =
    reply-if k J ∙ ap (λ (A : List ℕ). has_any A) ((says given J c).arrived k ∙ ap (λ (o : Option Fate). arrivals_of k o (length given) (λ j. receives k j J)) e)

pub lost : (given : List Fate) (J : List LaneEvent) → IsCarried given J → (k : ℕ) → fate_of k given ≡ Some LoseRequest → first_reply k (history J) ≡ None
lost given J c k e = none-of (first_reply k (history J)) (arrived-by given J c k LoseRequest e)

-- one or two come where the receiver ran, and none where it didn't
arrive : (b t : Bool) (xs : List ℕ) → has_any xs ≡ true → b ≡ t → has_any (if b then xs else []) ≡ t
arrive true true xs some e = some
arrive true false xs some e = cc
arrive false true xs some e = cc
arrive false false xs some e = refl

pub arrived : (given : List Fate) (J : List LaneEvent) → IsCarried given J → (k : ℕ) (f : Fate) → fate_of k given ≡ Some f → IsPrompt f → receives k k J ≡ true
    → IsSome (first_reply k (history J))
arrived given J c k Deliver e p ran = arrived-by given J c k Deliver e ∙ arrive (receives k k J) true (k ∷ []) refl ran
arrived given J c k LoseRequest e p ran = absurd p
arrived given J c k LoseReply e p ran = arrived-by given J c k LoseReply e ∙ arrive (receives k k J) true (k ∷ []) refl ran
arrived given J c k Twice e p ran = arrived-by given J c k Twice e ∙ arrive (receives k k J) true (k ∷ k ∷ []) refl ran
arrived given J c k (Late j) e p ran = absurd p

pub cut_off : (given : List Fate) (J : List LaneEvent) → IsCarried given J → (k : ℕ) (f : Fate) → fate_of k given ≡ Some f → (IsLate f → ⊥) → receives k k J ≡ false
    → first_reply k (history J) ≡ None
cut_off given J c k Deliver e p cut = none-of (first_reply k (history J)) (arrived-by given J c k Deliver e ∙ arrive (receives k k J) false (k ∷ []) refl cut)
cut_off given J c k LoseRequest e p cut = lost given J c k e
cut_off given J c k LoseReply e p cut = none-of (first_reply k (history J)) (arrived-by given J c k LoseReply e ∙ arrive (receives k k J) false (k ∷ []) refl cut)
cut_off given J c k Twice e p cut = none-of (first_reply k (history J)) (arrived-by given J c k Twice e ∙ arrive (receives k k J) false (k ∷ k ∷ []) refl cut)
cut_off given J c k (Late j) e p cut = absurd (p tt)

pub late : (given : List Fate) (J : List LaneEvent) → IsCarried given J → (k j : ℕ) → fate_of k given ≡ Some (Late j) → k + j ≤ length given → receives k (k + j) J ≡ true
    → IsSome (first_reply k (history J))
late given J c k j e le ran =
    let yes : nat_le (k + j) (length given) ≡ true = grind (arith, nat_tests) in
    arrived-by given J c k (Late j) e
    ∙ ap (λ (t : Bool). has_any (if t then (if receives k (k + j) J then (k + j) ∷ [] else []) else [])) yes
    ∙ arrive (receives k (k + j) J) true ((k + j) ∷ []) refl ran

pub late_cut_off : (given : List Fate) (J : List LaneEvent) → IsCarried given J → (k j : ℕ) → fate_of k given ≡ Some (Late j) → receives k (k + j) J ≡ false
    → first_reply k (history J) ≡ None
late_cut_off given J c k j e cut =
    none-of (first_reply k (history J)) (arrived-by given J c k (Late j) e ∙ by (nat_le (k + j) (length given)))
  where
    by : (t : Bool) → has_any (if t then (if receives k (k + j) J then (k + j) ∷ [] else []) else []) ≡ false
    by true = arrive (receives k (k + j) J) false ((k + j) ∷ []) refl cut
    by false = refl

pub not_yet : (given : List Fate) (J : List LaneEvent) → IsCarried given J → (k j : ℕ) → fate_of k given ≡ Some (Late j) → length given < k + j → first_reply k (history J) ≡ None
not_yet given J c k j e lt =
    let no : nat_le (k + j) (length given) ≡ false = grind (arith, nat_tests) in
    none-of (first_reply k (history J)) (arrived-by given J c k (Late j) e ∙ rw no refl)
