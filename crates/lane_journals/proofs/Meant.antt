-- Journals as they are kept mean legal journals.
use Rattle.std.proofs.Common.{◌≡◌, ℕ, ◌<◌, Bool, true, false, List, [], ◌∷◌, Some, refl, sym, ap, ◌∙◌, arith, inl, inr, eqb}
use Rattle.std.proofs.lemmas.Bool.Decides.{nat_tests}
use Rattle.cluster_states.specs.declared.cluster_state.ClusterState.{ClusterState}
use Rattle.cluster_states.specs.Publishing.{serves}
use Rattle.lane_journals.specs.Readers.{published}
use Rattle.lane_journals.specs.Legal.{Legal}
use Rattle.lane_journals.specs.States.{state_of, LegalByStates}
use Rattle.lane_journals.specs.Meanings.{history, meaning}
use Rattle.lane_journals.specs.Places.{Setting, state_in}
use Rattle.lane_journals.specs.KeptJournals.{IsLegalStep, IsLegal}
use Rattle.lane_journals.specs.declared.event.LaneEvent.{LaneEvent}
use Rattle.lane_journals.specs.declared.event.LaneEvent.TheVariants.{Published}
use Rattle.lane_journals.proofs.Basics.{or_else-cases, only_if-some, published-stays}
use Rattle.lane_journals.proofs.States.{permits-agree, state-stays}

-- under any states that say of the published versions what was published
pub meant-with : (S : Setting) (J : List LaneEvent) → IsLegal S J → (Q : ℕ → ℕ → Bool) → ((v n : ℕ) → published v (history J) ≡ true → state_of (history J) v n ≡ Q v n) → Legal S.acks Q (history J)
meant-with S [] l Q same = tt
meant-with S (e ∷ J) l Q same =
    let P = state_of (history (e ∷ J)) in
    let ih = meant-with S J l.0 Q (λ v n h. sym (state-stays S.acks P (history J) (meaning J e) (l.1).permitted v n h) ∙ same v n (published-stays v (history J) (meaning J e) h)) in
    (ih, permits-agree S.acks P Q (history J) (meaning J e) ih same (l.1).permitted)

pub meant-legal : (S : Setting) (J : List LaneEvent) → IsLegal S J → Legal S.acks (state_of (history J)) (history J)
meant-legal S J l = meant-with S J l (state_of (history J)) (λ v n h. refl)

pub state-published : (v : ℕ) (J : List LaneEvent) (s : ClusterState) → state_in v J ≡ Some s → published v (history J) ≡ true
state-published v [] s h = cc
state-published v (e ∷ J) s h = by_event e h (state-published v J s)
  where
    by_event : (e : LaneEvent) → state_in v (e ∷ J) ≡ Some s → (state_in v J ≡ Some s → published v (history J) ≡ true) → published v (history (e ∷ J)) ≡ true
    by_event (Published t) h ih = elim (or_else-cases (state_in v J) _ s h) [
      | inl old ↦ published-stays v (history J) (meaning J (Published t)) (ih old)
      | inr new ↦ rw (only_if-some _ _ s new.1).0 refl
    ]
    by_event e h ih = ih h

-- the nodes of a version are those that serve under its state
pub state-serves : (S : Setting) (J : List LaneEvent) → IsLegal S J → (v n : ℕ) (s : ClusterState) → state_in v J ≡ Some s → state_of (history J) v n ≡ serves s n
state-serves S [] l v n s h = cc
state-serves S (e ∷ J) l v n s h = by_event e l.1 h (state-serves S J l.0 v n s)
  where
    other : (w : ℕ) → v < w → eqb w v ≡ false
    other w lt = grind (arith, nat_tests)

    by_event : (e : LaneEvent) → IsLegalStep S J e → state_in v (e ∷ J) ≡ Some s → (state_in v J ≡ Some s → state_of (history J) v n ≡ serves s n) → state_of (history (e ∷ J)) v n ≡ serves s n
    by_event (Published t) p h ih = elim (or_else-cases (state_in v J) _ s h) [
      | inl old ↦ (let lt = (p.permitted).newest v (state-published v J s old) in rw (other t.version lt) (ih old))
      | inr new ↦ (let o = only_if-some _ _ s new.1 in rw o.0 (ap (λ (x : ClusterState). serves x n) o.1))
    ]
    by_event e p h ih = ih h

-- the steps alone
pub by-states : (S : Setting) (J : List LaneEvent) → IsLegal S J → LegalByStates S.acks (history J)
by-states S [] l = tt
by-states S (e ∷ J) l = (by-states S J l.0, (l.1).permitted)
