-- What a line whose replies come back in turn does with a row: its newest round is an old one, is under way, or is spent.
use Rattle.std.proofs.Common.{◌≡◌, ℕ, ◌+◌, ◌<◌, Bool, true, false, cond, List, ◌∷◌, ◌++◌, Option, Some, None, inl, inr, refl, sym, ap, ◌∙◌, subst, arith, eqb}
use mathlib.Core.Bool.{true≢false}
use Rattle.std.proofs.lemmas.Bool.{eqb-true}
use Rattle.bucket_ids.specs.Buckets.{Low}
use Rattle.stamps.specs.declared.stamp.Stamp.{Stamp}
use Rattle.cluster_states.specs.declared.cluster_state.ClusterState.{ClusterState}
use Rattle.messages.specs.declared.decision.Decision.TheVariants as choice
use Rattle.messages.specs.declared.operation.Operation.{Operation}
use Rattle.distributor_part.specs.declared.rules.Rules.{Rules}
use Rattle.merge_rounds.specs.Rounds.{RoundState}
use Rattle.lane_journals.specs.Buckets.{contains, same_bucket}
use Rattle.lane_journals.specs.Events as plain
use Rattle.lane_journals.specs.Readers.{Message, sent, rounds, round_of, running, complete}
use Rattle.lane_journals.specs.States.{state_of}
use Rattle.lane_journals.specs.Meanings.{history, nodes, meaning}
use Rattle.lane_journals.specs.Places.{Setting}
use Rattle.lane_journals.specs.KeptJournals.{IsLegal}
use Rattle.lane_journals.specs.declared.event.LaneEvent.{LaneEvent}
use Rattle.lane_journals.specs.declared.event.LaneEvent.TheVariants as event
use Rattle.lane_journals.proofs.BucketLaws.{same_bucket-true}
use Rattle.lane_journals.proofs.Meant.{meant-legal}
use Rattle.lane_keeping.specs.LaneKeeping.{setting_of}
use Rattle.operation_keeping.specs.Wants.{IsCarriage}
use Rattle.lane_completeness.specs.Causes.{just_sent, ReturnInTurn}
use Rattle.lane_completeness.proofs.Turns.{turn-before}
use Rattle.lane_completeness.proofs.Additions.{Ending, Added, ASending, AnOpening, APreparing, AWriting, ARound, AnEnd}
use Rattle.lane_completeness.proofs.Runs.{At, at, start, Run, Here, Then, later-round}
use Rattle.lane_completeness.proofs.Spent.{Passes, IsSpent, spent-stays, ended}

pub data RoundSince (v : ℕ) (J : List LaneEvent) (b : Low) (L : List LaneEvent) : Type 0 where
  NotBegun : round_of v b (history L) ≡ round_of v b (history J) → RoundSince v J b L
  UnderWay : rounds v (history J) < round_of v b (history L) → running v b (history L) ≡ true → RoundSince v J b L
  Over : IsSpent v J (round_of v b (history L)) b L → RoundSince v J b L

-- ---- events that pass

-- another row's round, or another version's
passes-begun : (v d w : ℕ) (b c : Low) (set : ℕ) (L : List LaneEvent) → (eqb w v ≡ true → same_bucket c b ≡ true → ⊥) → Passes v b L (event.Decided d w (choice.RoundBegun c set))
passes-begun v d w b c set L other = by_tests (eqb w v) (same_bucket c b) refl refl
  where
    by_tests : (t u : Bool) → eqb w v ≡ t → same_bucket c b ≡ u → Passes v b L (event.Decided d w (choice.RoundBegun c set))
    by_tests true true e f = absurd (other e f)
    by_tests true false e f = record { state = refl; round = rw (e, f) refl; run = rw (e, f) refl; receivers = rw (e, f) refl; marks = λ n key h. h }
    by_tests false u e f = record { state = refl; round = rw e refl; run = rw e refl; receivers = rw e refl; marks = λ n key h. h }

marks-grow : (v w n key : ℕ) (c : Low) (set : ℕ) (L : List LaneEvent) → complete v n key (history L) ≡ true → cond (eqb w v) (cond (contains c key) (cond (nodes set n) true (complete v n key (history L))) (complete v n key (history L))) (complete v n key (history L)) ≡ true
marks-grow v w n key c set L h = by_tests (eqb w v) (contains c key) (nodes set n)
  where
    by_tests : (t u x : Bool) → cond t (cond u (cond x true (complete v n key (history L))) (complete v n key (history L))) (complete v n key (history L)) ≡ true
    by_tests true true true = refl
    by_tests true true false = h
    by_tests true false x = h
    by_tests false u x = h

passes-ended : (v d w : ℕ) (b c : Low) (set : ℕ) (L : List LaneEvent) → (eqb w v ≡ true → same_bucket c b ≡ true → ⊥) → Passes v b L (event.Decided d w (choice.RoundEnded c set))
passes-ended v d w b c set L other = by_tests (eqb w v) (same_bucket c b) refl refl
  where
    by_tests : (t u : Bool) → eqb w v ≡ t → same_bucket c b ≡ u → Passes v b L (event.Decided d w (choice.RoundEnded c set))
    by_tests true true e f = absurd (other e f)
    by_tests true false e f = record { state = refl; round = refl; run = rw (e, f) refl; receivers = refl; marks = λ n key h. marks-grow v w n key c set L h }
    by_tests false u e f = record { state = refl; round = refl; run = rw e refl; receivers = refl; marks = λ n key h. marks-grow v w n key c set L h }

module _ (lane : Low) (rules : Rules) (line d v : ℕ) (o : Operation) (stamp : Option Stamp) (J F : List LaneEvent) (b : Low) where
  abbrev S : Setting
  S = setting_of lane rules

  module _ (L : List LaneEvent) (a : At lane rules line d v o stamp J F L) (ih : RoundSince v F b L) where
    -- a reply to a message of a round that was begun since comes back in turn
    returns : (e : LaneEvent) → ReturnInTurn F (e ∷ L) → (r : ℕ) → rounds v (history F) < r
        → (k : ℕ) (m : Message) → meaning L e ≡ plain.Returned k → sent k (history L) ≡ Some m → m.version ≡ v → m.round ≡ r → just_sent L ≡ Some k
    returns (event.Returned n) t r lt k m is was at of =
        let same : n ≡ k = cc in
        let late = later-round lane rules line d v o stamp J F L a k m was at (subst (λ (i : ℕ). rounds v (history F) < i) (sym of) lt) in
        t.1 (ap (λ (x : ℕ). sent x (history F)) same ∙ late) ∙ ap (λ (x : ℕ). Some x) same
    returns _ t r lt k m is was at of = absurd (cc)

    passes : (e : LaneEvent) → IsLegal S (e ∷ L) → ReturnInTurn F (e ∷ L) → Passes v b L e → RoundSince v F b (e ∷ L)
    passes e l t p = by_round ih
      where
        by_round : RoundSince v F b L → RoundSince v F b (e ∷ L)
        by_round (NotBegun h) = NotBegun (p.round ∙ h)
        by_round (UnderWay lt run) = UnderWay (subst (λ (i : ℕ). rounds v (history F) < i) (sym p.round) lt) (p.run ∙ run)
        by_round (Over sp) = Over (subst (λ (i : ℕ). IsSpent v F i b (e ∷ L)) (sym p.round)
            (spent-stays S.acks (state_of (history (e ∷ L))) v F (round_of v b (history L)) b L e (meant-legal S (e ∷ L) l) sp (returns e t (round_of v b (history L)) sp.later) p))

    -- a round begins in the row
    begins : (e w : ℕ) (c : Low) (set : ℕ) → IsLegal S (event.Decided e w (choice.RoundBegun c set) ∷ L) → ReturnInTurn F L → RoundSince v F b (event.Decided e w (choice.RoundBegun c set) ∷ L)
    begins e w c set l t = by_tests (eqb w v) (same_bucket c b) refl refl
      where
        number : eqb w v ≡ true → same_bucket c b ≡ true → round_of v b (history (event.Decided e w (choice.RoundBegun c set) ∷ L)) ≡ rounds v (history L) + 1
        number f g = rw (f, g) refl

        under-way : eqb w v ≡ true → same_bucket c b ≡ true → running v b (history (event.Decided e w (choice.RoundBegun c set) ∷ L)) ≡ true
        under-way f g = rw (f, g) refl

        by_tests : (t u : Bool) → eqb w v ≡ t → same_bucket c b ≡ u → RoundSince v F b (event.Decided e w (choice.RoundBegun c set) ∷ L)
        by_tests true true f g = UnderWay (let m = a.more in let z = number f g in omega (arith, m, z)) (under-way f g)
        by_tests true false f g = passes _ l t (passes-begun v e w b c set L (λ x y. true≢false (sym y ∙ g)))
        by_tests false u f g = passes _ l t (passes-begun v e w b c set L (λ x y. true≢false (sym x ∙ f)))

    -- one ends
    ends : ReturnInTurn F L → (e : ℕ) (s : ClusterState) (r : RoundState) → Ending lane L line o s r → IsLegal S (event.Decided e s.version (choice.RoundEnded r.row r.holders) ∷ L)
        → RoundSince v F b (event.Decided e s.version (choice.RoundEnded r.row r.holders) ∷ L)
    ends t e s r ending l = by_tests (eqb s.version v) (same_bucket r.row b) refl refl
      where
        after : List LaneEvent
        after = event.Decided e s.version (choice.RoundEnded r.row r.holders) ∷ L

        late : s.version ≡ v → (k : ℕ) (m : Message) → sent k (history L) ≡ Some m → m.version ≡ s.version → rounds s.version (history F) < m.round → sent k (history F) ≡ None
        late under k m was at lt = later-round lane rules line d v o stamp J F L a k m was (at ∙ under) (subst (λ (w : ℕ). rounds w (history F) < m.round) under lt)

        spent : s.version ≡ v → r.row ≡ b → rounds v (history F) < round_of v b (history L) → IsSpent v F (round_of v b (history L)) b (event.Decided e s.version (choice.RoundEnded r.row r.holders) ∷ L)
        spent under row lt =
            let since : rounds s.version (history F) < round_of s.version r.row (history L) = subst (λ (w : ℕ). rounds w (history F) < round_of w r.row (history L)) (sym under) (subst (λ (c : Low). rounds v (history F) < round_of v c (history L)) (sym row) lt) in
            let x = ended rules.acks (state_of (history L)) lane line o F L a.legal s r ending since (late under) e in
            subst (λ (c : Low). IsSpent v F (round_of v c (history L)) c (event.Decided e s.version (choice.RoundEnded r.row r.holders) ∷ L)) row
            (subst (λ (w : ℕ). IsSpent w F (round_of w r.row (history L)) r.row (event.Decided e s.version (choice.RoundEnded r.row r.holders) ∷ L)) under x)

        here : s.version ≡ v → r.row ≡ b → RoundSince v F b L → RoundSince v F b (event.Decided e s.version (choice.RoundEnded r.row r.holders) ∷ L)
        here under row (NotBegun h) = NotBegun h
        here under row (UnderWay lt run) = Over (spent under row lt)
        here under row (Over sp) = absurd (true≢false (sym (subst (λ (c : Low). running v c (history L) ≡ true) row (subst (λ (w : ℕ). running w r.row (history L) ≡ true) under (ending.knows).under_way)) ∙ sp.over))

        by_tests : (t u : Bool) → eqb s.version v ≡ t → same_bucket r.row b ≡ u → RoundSince v F b (event.Decided e s.version (choice.RoundEnded r.row r.holders) ∷ L)
        by_tests true true f g = here (eqb-true s.version v f) (same_bucket-true r.row b g) ih
        by_tests true false f g = passes _ l t (passes-ended v e s.version b r.row r.holders L (λ x y. true≢false (sym y ∙ g)))
        by_tests false u f g = passes _ l t (passes-ended v e s.version b r.row r.holders L (λ x y. true≢false (sym x ∙ f)))

    -- the row's round after one more event
    abbrev StaysBy : LaneEvent → Type 0
    StaysBy e = ReturnInTurn F (e ∷ L) → IsLegal S (e ∷ L) → RoundSince v F b (e ∷ L)

    wants-on : (e : LaneEvent) → Added lane L line o e → StaysBy e
    wants-on e (ASending number m) t l = passes _ l t (record { state = refl; round = refl; run = refl; receivers = refl; marks = λ n key h. h })
    wants-on e (AnOpening x w rows) t l = passes _ l t (record { state = refl; round = refl; run = refl; receivers = refl; marks = λ n key h. h })
    wants-on e (APreparing x row set) t l = passes _ l t (record { state = refl; round = refl; run = refl; receivers = refl; marks = λ n key h. h })
    wants-on e (AWriting x entry) t l = passes _ l t (record { state = refl; round = refl; run = refl; receivers = refl; marks = λ n key h. h })
    wants-on e (ARound x w row set) t l = begins x w row set l t
    wants-on e (AnEnd x s r ending) t l = ends t x s r ending l

    carried-on : (e : LaneEvent) → IsCarriage e → StaysBy e
    carried-on (event.Delivered n y) c t l = passes _ l t (record { state = refl; round = refl; run = refl; receivers = refl; marks = λ n key h. h })
    carried-on (event.Returned n) c t l = passes _ l t (record { state = refl; round = refl; run = refl; receivers = refl; marks = λ n key h. h })
    carried-on _ c t l = absurd c

  pub since : (early : List LaneEvent) → F ≡ early ++ start lane rules line d v o stamp J → (L : List LaneEvent) → Run lane rules line d v o stamp J F L → IsLegal S L → ReturnInTurn F L → RoundSince v F b L
  since early is L Here l t = NotBegun refl
  since early is L (Then e K run w) l t = next (at lane rules line d v o stamp J F early is K run l.0) (since early is K run l.0 (turn-before F e K t))
    where
      next : At lane rules line d v o stamp J F K → RoundSince v F b K → RoundSince v F b (e ∷ K)
      next a ih = elim w [ inl c ↦ carried-on K a ih e c t l | inr x ↦ wants-on K a ih e x t l ]
