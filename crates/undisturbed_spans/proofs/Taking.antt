-- A message of a quiet span.
use Rattle.std.proofs.Common.{◌≡◌, ◌&&◌, ◌++◌, ◌+◌, ◌≤◌, ◌⊎◌, ◌↔◌, ℕ, suc, Bool, true, false, not, List, [], ◌∷◌, length, Option, Some, None, IsSome, Contains, inl, inr, refl, sym, ap, ◌∙◌, subst, arith}
use Rattle.std.proofs.lemmas.List.{append_assoc}
use Rattle.carriers.specs.declared.fate.Fate.{Fate}
use Rattle.carriers.specs.declared.fate.Fate.TheVariants.{Deliver, LoseRequest, LoseReply, Twice, Late}
use Rattle.lane_journals.specs.Readers.{returned, stopped}
use Rattle.lane_journals.specs.Meanings.{history}
use Rattle.lane_journals.specs.declared.event.LaneEvent.TheVariants.{Sent, Delivered, Returned}
use Rattle.lane_carriage.specs.Carriage.{met, IsDealt, is_cut_off, IsGivenOut, AreDelivered, due, IsMessage, IsCarried}
use Rattle.lane_carriage.specs.Readers.{receives, fate_of, is_returned}
use Rattle.lane_carriage.specs.Laws.{OfCarried}
use Rattle.upkeep_spans.specs.Spans.{later}
use Rattle.upkeep_spans.specs.Causes.{is_late, first_late, first_absent, IsUndisturbed}
use Rattle.proof_basics.proofs.Tests.{clash, not-false}
use Rattle.undisturbed_spans.specs.Undisturbed.{IsTakenOnce, IsTakenTwice}
use Rattle.undisturbed_spans.proofs.Parting.{Events, else-second, if-none, late-earlier, absent-earlier}

-- ---- messages that are given out

given-span : (ns : List ℕ) (A K : Events) → AreDelivered ns A K → (X : Events) × (K ≡ X ++ A)
given-span [] A K h = ([], h)
given-span (n ∷ ns) A K h = by_test (is_cut_off n A) h.1.0 (given-span ns h.0 K h.1.1)
  where
    by_test : (t : Bool) → IsGivenOut t n A h.0 → (X : Events) × (K ≡ X ++ h.0) → (X : Events) × (K ≡ X ++ A)
    by_test true e x = (x.0, x.1 ∙ ap (λ (E : Events). x.0 ++ E) e)
    by_test false e x = (x.0 ++ (Delivered n e.0 ∷ []), x.1 ∙ ap (λ (E : Events). x.0 ++ E) e.1 ∙ sym (append_assoc x.0 (Delivered n e.0 ∷ []) A))

contains-here : (n : ℕ) (ns : List ℕ) → Contains (n ∷ ns) n
contains-here n ns = (0, omega arith, refl)

contains-more : (n j : ℕ) (ns : List ℕ) → Contains ns j → Contains (n ∷ ns) j
contains-more n j ns k = let l = k.1 in (suc k.0, omega (arith, l), k.2)

-- their deliveries return nothing
given-back : (k : ℕ) (ns : List ℕ) (A K : Events) → AreDelivered ns A K → returned k (history K) ≡ returned k (history A)
given-back k [] A K h = ap (λ (E : Events). returned k (history E)) h
given-back k (n ∷ ns) A K h = given-back k ns h.0 K h.1.1 ∙ by_test (is_cut_off n A) h.1.0
  where
    by_test : (t : Bool) → IsGivenOut t n A h.0 → returned k (history h.0) ≡ returned k (history A)
    by_test true e = ap (λ (E : Events). returned k (history E)) e
    by_test false e = ap (λ (E : Events). returned k (history E)) e.1

module _ (behind : (J N : Events) → later (length J) (N ++ J) ≡ N) (g : List Fate) (J : Events) where
  -- where none that is late is delivered, none is
  given-none : (ns : List ℕ) → ((j : ℕ) → Contains ns j → is_late (fate_of j g) ≡ true) → (A K Y : Events) → A ≡ Y ++ J → AreDelivered ns A K → first_late g (later (length J) K) ≡ None → K ≡ A
  given-none [] are A K Y s h q = h
  given-none (n ∷ ns) are A K Y s h q = by_test (is_cut_off n A) h.1.0 (λ i. given-none ns (λ j k. are j (contains-more n j ns k)) h.0 K Y i h.1.1 q)
    where
      by_test : (t : Bool) → IsGivenOut t n A h.0 → (h.0 ≡ Y ++ J → K ≡ h.0) → K ≡ A
      by_test true e ih = ih (e ∙ s) ∙ e
      by_test false e ih =
          let x = given-span ns h.0 K h.1.1 in
          let all : K ≡ (x.0 ++ (Delivered n e.0 ∷ Y)) ++ J = x.1 ∙ ap (λ (E : Events). x.0 ++ E) (e.1 ∙ ap (λ (E : Events). Delivered n e.0 ∷ E) s) ∙ sym (append_assoc x.0 (Delivered n e.0 ∷ Y) J) in
          let here : later (length J) K ≡ x.0 ++ (Delivered n e.0 ∷ Y) = ap (later (length J)) all ∙ behind J (x.0 ++ (Delivered n e.0 ∷ Y)) in
          let none = late-earlier g x.0 (Delivered n e.0 ∷ Y) (sym (ap (first_late g) here) ∙ q) in
          clash (are n (contains-here n ns)) (if-none (is_late (fate_of n g)) n (else-second (first_late g Y) _ none))

-- ---- the message

module _ (numbers : (given : List Fate) (k : ℕ) → IsSome (fate_of k given) ↔ ((1 ≤ k) × (k ≤ length given)))
    (back : OfCarried (λ given J. (k : ℕ) → returned k (history J) ≡ (is_returned (fate_of k given) && receives k k J)))
    (just : (given : List Fate) (n j : ℕ) → Contains (due given n) j ↔ ((k : ℕ) × (fate_of j given ≡ Some (Late k)) × (j + k ≡ n)))
    (behind : (J N : Events) → later (length J) (N ++ J) ≡ N) where
  -- no fate past the last
  no-fate : (g : List Fate) → fate_of (length g + 1) g ≡ None
  no-fate g = by_fate (fate_of (length g + 1) g) refl
    where
      by_fate : (o : Option Fate) → fate_of (length g + 1) g ≡ o → o ≡ None
      by_fate None e = refl
      by_fate (Some f) e = let b = ((numbers g (length g + 1)).0 (subst (λ p. IsSome p) (sym e) refl)).1 in absurd (omega (arith, b))

  not-yet : (g : List Fate) (J : Events) → IsCarried g J → returned (length g + 1) (history J) ≡ false
  not-yet g J c = back g J c (length g + 1) ∙ ap (λ o. is_returned o && receives (length g + 1) (length g + 1) J) (no-fate g)

  -- what its own fate adds lies behind the journal
  dealt-span : (f : Fate) (k : ℕ) (S A : Events) → IsDealt f k S A → (Z : Events) × (A ≡ Z ++ S)
  dealt-span Deliver k S A h = (Returned k ∷ Delivered k h.0 ∷ [], h.1)
  dealt-span LoseRequest k S A h = ([], h)
  dealt-span LoseReply k S A h = (Delivered k h.0 ∷ [], h.1)
  dealt-span Twice k S A h = (Delivered k h.1 ∷ Returned k ∷ Delivered k h.0 ∷ [], h.2)
  dealt-span (Late i) k S A h = ([], h)

  by-kind : (f : Fate) (k : ℕ) (S A : Events) → IsDealt f k S A → returned k (history S) ≡ false → returned k (history A) ≡ true → IsTakenOnce k S A ⊎ IsTakenTwice k S A
  by-kind Deliver k S A h none back_now = inl h
  by-kind LoseRequest k S A h none back_now = clash back_now (ap (λ (E : Events). returned k (history E)) h ∙ none)
  by-kind LoseReply k S A h none back_now = clash back_now (ap (λ (E : Events). returned k (history E)) h.1 ∙ none)
  by-kind Twice k S A h none back_now = inr h
  by-kind (Late i) k S A h none back_now = clash back_now (ap (λ (E : Events). returned k (history E)) h ∙ none)

  pub taken : (given : List Fate) (f : Fate) (J K : Events) (x : IsMessage given f J K) → IsCarried given J → IsUndisturbed (given ++ f ∷ []) J K
      → IsTakenOnce (length given + 1) (Sent (length given + 1) x.version x.sender x.receiver x.body ∷ J) K ⊎ IsTakenTwice (length given + 1) (Sent (length given + 1) x.version x.sender x.receiver x.body ∷ J) K
  taken given f J K x carried quiet =
      let k : ℕ = length given + 1 in
      let S : Events = Sent (length given + 1) x.version x.sender x.receiver x.body ∷ J in
      let z = dealt-span (met (stopped x.receiver (history J)) f) (length given + 1) S x.after x.dealt in
      let behind_all : x.after ≡ (z.0 ++ (Sent (length given + 1) x.version x.sender x.receiver x.body ∷ [])) ++ J = z.1 ∙ sym (append_assoc z.0 (Sent (length given + 1) x.version x.sender x.receiver x.body ∷ []) J) in
      let same = given-none behind (given ++ f ∷ []) J (due (given ++ f ∷ []) (length given + 1)) late x.after K (z.0 ++ (Sent (length given + 1) x.version x.sender x.receiver x.body ∷ [])) behind_all x.late quiet.unlate in
      let here : later (length J) K ≡ z.0 ++ (Sent (length given + 1) x.version x.sender x.receiver x.body ∷ []) = ap (later (length J)) (same ∙ behind_all) ∙ behind J (z.0 ++ (Sent (length given + 1) x.version x.sender x.receiver x.body ∷ [])) in
      let none = absent-earlier (λ n. returned n (history K)) z.0 (Sent (length given + 1) x.version x.sender x.receiver x.body ∷ []) (sym (ap (first_absent (λ n. returned n (history K))) here) ∙ quiet.back) in
      let back_now : returned (length given + 1) (history K) ≡ true = not-false (returned (length given + 1) (history K)) (if-none (not (returned (length given + 1) (history K))) x.receiver none) in
      subst (λ (E : Events). IsTakenOnce (length given + 1) S E ⊎ IsTakenTwice (length given + 1) S E) (sym same)
      (by-kind (met (stopped x.receiver (history J)) f) (length given + 1) S x.after x.dealt (not-yet given J carried) (sym (ap (λ (E : Events). returned (length given + 1) (history E)) same) ∙ back_now))
    where
      late : (j : ℕ) → Contains (due (given ++ f ∷ []) (length given + 1)) j → is_late (fate_of j (given ++ f ∷ [])) ≡ true
      late j i = let w = (just (given ++ f ∷ []) (length given + 1) j).0 i in ap is_late w.1
