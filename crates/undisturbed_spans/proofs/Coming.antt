-- Each message of a quiet span came.
use Rattle.std.proofs.Common.{◌≡◌, ◌==◌, ◌++◌, ◌⊎◌, ℕ, Bool, true, false, not, List, [], ◌∷◌, length, Option, Some, None, is_some, inl, inr, refl, sym, ap, ◌∙◌, subst, eqb-true}
use mathlib.Core.Bool.{true≢false}
use Rattle.carriers.specs.declared.fate.Fate.{Fate}
use Rattle.lane_journals.specs.Readers.{Journal, Message, or_else, only_if, sent, first_reply, returned}
use Rattle.lane_journals.specs.Legal.{Legal}
use Rattle.lane_journals.specs.Meanings.{history}
use Rattle.lane_journals.specs.declared.event.LaneEvent.{LaneEvent}
use Rattle.lane_journals.specs.declared.event.LaneEvent.TheVariants.{Sent}
use Rattle.lane_journals.proofs.Basics.{or_else-cases, only_if-some, returned-replied}
use Rattle.upkeep_spans.specs.Spans.{later, AreUpkeep, OfUpkeep}
use Rattle.upkeep_spans.specs.Causes.{first_absent, IsUndisturbed}
use Rattle.pass_model.specs.Scripts.{Script}
use Rattle.undisturbed_spans.specs.Undisturbed.{GoesUndisturbed}
use Rattle.undisturbed_spans.proofs.Parting.{else-second, if-none}
use Rattle.proof_basics.proofs.Tests.{not-false}
use Rattle.undisturbed_spans.proofs.Scripts.{agrees}

-- the first of two is none where either is
else-first : {A : Type 0} (o p : Option A) → or_else o p ≡ None → o ≡ None
else-first None p e = refl
else-first (Some a) p e = cc

none-some : {A : Type 0} (o : Option A) (a : A) → o ≡ None → o ≡ Some a → ⊥
none-some None a e f = cc
none-some (Some b) a e f = cc

came-back : (test : ℕ → Bool) (k : ℕ) (m : Message) (J N : List LaneEvent) → first_absent test N ≡ None → sent k (history J) ≡ None → sent k (history (N ++ J)) ≡ Some m → test k ≡ true
came-back test k m J [] none unsent is = absurd (none-some (sent k (history J)) m unsent is)
came-back test k m J (Sent a v d to b ∷ N) none unsent is = by_case _ (or_else-cases (sent k (history (N ++ J))) _ m is) (λ old. came-back test k m J N (else-first (first_absent test N) _ none) unsent old)
  where
    by_case : (x : Message) → (sent k (history (N ++ J)) ≡ Some m) ⊎ ((sent k (history (N ++ J)) ≡ None) × (only_if (a == k) x ≡ Some m)) → (sent k (history (N ++ J)) ≡ Some m → test k ≡ true) → test k ≡ true
    by_case x (inl old) ih = ih old
    by_case x (inr new) ih = subst (λ (i : ℕ). test i ≡ true) (eqb-true a k (only_if-some (a == k) x m new.1).0) (not-false (test a) (if-none (not (test a)) to (else-second (first_absent test N) _ none)))
came-back test k m J (_ ∷ N) none unsent is = came-back test k m J N none unsent is

module _ (acks : ℕ) (P : ℕ → ℕ → Bool) (span : OfUpkeep (λ J K. K ≡ later (length J) K ++ J)) where
  pub scripted : (e v : ℕ) (given : List Fate) (J K : List LaneEvent) → Legal acks P (history K) → AreUpkeep e v J K → IsUndisturbed given J K → (d : Script) × GoesUndisturbed d given J K
  scripted e v given J K l on quiet =
      let d = agrees acks P (history J) (history K) l (λ k m unsent is telling.
      let back : returned k (history K) ≡ true = came-back (λ n. returned n (history K)) k m J (later (length J) K) quiet.back unsent (subst (λ (E : List LaneEvent). sent k (history E) ≡ Some m) (span e v J K on) is) in
      let r = returned-replied acks P (history K) l k back in ap is_some r.1) in
      (d.0, record { quiet = quiet; agrees = d.1 })
