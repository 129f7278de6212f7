-- What stays over a run of a line, whose search for a row began with an earlier journal: its journal is legal, no newer state
-- is published, what was sent before it stays.
use Rattle.std.proofs.Common.{◌≡◌, ℕ, ◌⊎◌, ◌<◌, ◌≤◌, true, List, [], ◌∷◌, ◌++◌, Option, Some, None, inl, inr, refl, sym, ap, ◌∙◌, subst, arith, eqb, eq-eqb}
use Rattle.bucket_ids.specs.Buckets.{Low}
use Rattle.stamps.specs.declared.stamp.Stamp.{Stamp}
use Rattle.messages.specs.declared.decision.Decision.TheVariants as choice
use Rattle.messages.specs.declared.operation.Operation.{Operation}
use Rattle.distributor_part.specs.declared.rules.Rules.{Rules}
use Rattle.lane_journals.specs.Events as plain
use Rattle.lane_journals.specs.Readers.{Journal, Beginning, or_else, only_if, published, began, before_line, Message, sent, rounds, round_of, round_in}
use Rattle.lane_journals.specs.Legal.{Legal}
use Rattle.lane_journals.specs.States.{state_of}
use Rattle.lane_journals.specs.Meanings.{history, meaning}
use Rattle.lane_journals.specs.Places.{Setting}
use Rattle.lane_journals.specs.KeptJournals.{IsLegal}
use Rattle.lane_journals.specs.declared.event.LaneEvent.{LaneEvent}
use Rattle.lane_journals.specs.declared.event.LaneEvent.TheVariants as event
use Rattle.lane_journals.proofs.Basics.{sent-stays, sent-cases, began-stays, rounds-grow}
use Rattle.lane_journals.proofs.Beginnings.{before-now, before-same}
use Rattle.lane_journals.proofs.Meant.{meant-legal}
use Rattle.lane_keeping.specs.LaneKeeping.{setting_of}
use Rattle.operation_keeping.specs.Wants.{IsCarriage, IsCarriageSince, IsRunSince, Still, Longer}
use Rattle.lane_completeness.specs.Completeness.{with_begun}
use Rattle.lane_journals.proofs.Replies.{IsNewest}
use Rattle.lane_completeness.proofs.Additions.{Added, ASending, AnOpening, APreparing, AWriting, ARound, AnEnd, added}

-- ---- the events of a run

abbrev pub IsOfRun : LaneEvent → Type 0
IsOfRun (event.Sent n v d to b) = Unit {0}
IsOfRun (event.Delivered n r) = Unit {0}
IsOfRun (event.Returned n) = Unit {0}
IsOfRun (event.Opened d v rows) = Unit {0}
IsOfRun (event.Prepared l row set) = Unit {0}
IsOfRun (event.Wrote l entry) = Unit {0}
IsOfRun (event.Decided d v (choice.RoundBegun row set)) = Unit {0}
IsOfRun (event.Decided d v (choice.RoundEnded row set)) = Unit {0}
IsOfRun _ = ⊥

carriage-of : (e : LaneEvent) → IsCarriage e → IsOfRun e
carriage-of (event.Delivered n r) c = tt
carriage-of (event.Returned n) c = tt
carriage-of _ c = absurd c

added-of : (lane : Low) (L : List LaneEvent) (line : ℕ) (o : Operation) (e : LaneEvent) → Added lane L line o e → IsOfRun e
added-of lane L line o e (ASending number m) = tt
added-of lane L line o e (AnOpening d v rows) = tt
added-of lane L line o e (APreparing l row set) = tt
added-of lane L line o e (AWriting l entry) = tt
added-of lane L line o e (ARound d v row set) = tt
added-of lane L line o e (AnEnd d s r ending) = tt

published-same : (e : LaneEvent) (L : List LaneEvent) (w : ℕ) → IsOfRun e → published w (history (e ∷ L)) ≡ true → published w (history L) ≡ true
published-same (event.Published s) L w of h = absurd of
published-same _ L w of h = h

-- ---- rounds

pub round-bound : (v : ℕ) (b : Low) (H : Journal) → round_of v b H ≤ rounds v H
round-bound v b [] = omega arith
round-bound v b (e ∷ H) = by_event e (round-bound v b H) (rounds-grow v H e)
  where
    by_event : (e : plain.Event) → round_of v b H ≤ rounds v H → rounds v H ≤ rounds v (e ∷ H) → round_of v b (e ∷ H) ≤ rounds v (e ∷ H)
    by_event e ih more = grind arith

round-in-bound : (v : ℕ) (b : plain.Body) (H : Journal) → round_in v b H ≤ rounds v H
round-in-bound v (plain.Read b) H = round-bound v b H
round-in-bound v (plain.Apply b u) H = round-bound v b H
round-in-bound v _ H = omega arith

-- a message is of no later round than those that were begun
pub sent-bound : (k : ℕ) (m : Message) (H : Journal) → sent k H ≡ Some m → m.round ≤ rounds m.version H
sent-bound k m [] s = cc
sent-bound k m (e ∷ H) s = let more = rounds-grow m.version H e in elim (sent-cases k H e m s) [
  | inl old ↦ (let i = sent-bound k m H old in omega arith)
  | inr new ↦ (let i = round-in-bound m.version m.body H in let z = new.round in omega arith)
]

-- ---- the run

module _ (lane : Low) (rules : Rules) (line d v : ℕ) (o : Operation) (stamp : Option Stamp) (J : List LaneEvent) where
  abbrev pub S : Setting
  S = setting_of lane rules

  abbrev pub first : Beginning
  first = record { distributor = d; version = v; id = o.id; stamp = stamp }

  abbrev pub start : List LaneEvent
  start = with_begun line d v o stamp J

  -- once the line was begun
  record Since (L : List LaneEvent) : Type 0 where
    legal : Legal rules.acks (state_of (history L)) (history L)
    begun : began line (history L) ≡ Some first
    before : before_line line (history L) ≡ history J
    legal_before : Legal rules.acks (state_of (history J)) (history J)
    fresh : began line (history J) ≡ None
    began_before : (k : ℕ) (b : Beginning) → began k (history J) ≡ Some b → began k (history L) ≡ Some b
    sent_before : (k : ℕ) (m : Message) → sent k (history J) ≡ Some m → sent k (history L) ≡ Some m

  since-more : (e : LaneEvent) (K : List LaneEvent) → IsLegal S (e ∷ K) → Since K → Since (e ∷ K)
  since-more e K l a = record {
    legal = meant-legal S (e ∷ K) l;
    begun = began-stays line (history K) first (meaning K e) a.begun;
    before = before-same rules.acks (state_of (history (e ∷ K))) (history K) (meaning K e) (meant-legal S (e ∷ K) l) line first a.begun ∙ a.before;
    legal_before = a.legal_before;
    fresh = a.fresh;
    began_before = λ k b h. began-stays k (history K) b (meaning K e) (a.began_before k b h);
    sent_before = λ k m h. sent-stays k (history K) m (meaning K e) (a.sent_before k m h);
  }

  since : (more : List LaneEvent) → IsLegal S (more ++ start) → Since (more ++ start)
  since [] l = record {
    legal = meant-legal S start l;
    begun = now (began line (history J)) (l.1.permitted).fresh;
    before = before-now (history J) line d v o.id stamp;
    legal_before = meant-legal S J l.0;
    fresh = (l.1.permitted).fresh;
    began_before = λ k b h. began-stays k (history J) b (meaning J (event.Begun line d v o.id stamp)) h;
    sent_before = λ k m h. h;
  }
    where
      now : (x : Option Beginning) → x ≡ None → or_else x (only_if (eqb line line) first) ≡ Some first
      now None h = rw (eq-eqb line line refl) refl
      now (Some y) h = cc
  since (e ∷ more) l = since-more e (more ++ start) l (since more l.0)

  -- from the journal F on, with which its search began
  module _ (F : List LaneEvent) where
    pub data Run : List LaneEvent → Type 0 where
      Here : Run F
      Then : (e : LaneEvent) (K : List LaneEvent) → Run K → IsCarriage e ⊎ Added lane K line o e → Run (e ∷ K)

    -- what its operation wanted since, and what carriers did
    pub searched : (K : List LaneEvent) → IsRunSince lane rules line o (history F) F K → Run K
    searched K Still = Here
    searched K (Longer e L run w) = Then e L (searched L run) (elim w [ inl c ↦ inl (carriage-on e c) | inr x ↦ inr (added lane rules (history F) L line o e x) ])
      where
        carriage-on : (e : LaneEvent) → IsCarriageSince (history F) e → IsCarriage e
        carriage-on (event.Delivered n r) c = tt
        carriage-on (event.Returned n) c = tt
        carriage-on _ c = absurd c

    pub record At (L : List LaneEvent) : Type 0 where
      pub legal : Legal rules.acks (state_of (history L)) (history L)
      pub begun : began line (history L) ≡ Some first
      pub before : before_line line (history L) ≡ history J
      pub legal_before : Legal rules.acks (state_of (history J)) (history J)
      pub fresh : began line (history J) ≡ None
      pub began_before : (k : ℕ) (b : Beginning) → began k (history J) ≡ Some b → began k (history L) ≡ Some b
      pub sent_before : (k : ℕ) (m : Message) → sent k (history J) ≡ Some m → sent k (history L) ≡ Some m
      -- what was sent before the line began was sent before the search
      pub sent_earlier : (k : ℕ) (m : Message) → sent k (history J) ≡ Some m → sent k (history F) ≡ Some m
      pub sent_from : (k : ℕ) (m : Message) → sent k (history F) ≡ Some m → sent k (history L) ≡ Some m
      pub more : rounds v (history F) ≤ rounds v (history L)

    pub at : (early : List LaneEvent) → F ≡ early ++ start → (L : List LaneEvent) → Run L → IsLegal S L → At L
    at early is L Here l = let a = subst Since (sym is) (since early (subst (IsLegal S) is l)) in record {
      legal = a.legal;
      begun = a.begun;
      before = a.before;
      legal_before = a.legal_before;
      fresh = a.fresh;
      began_before = a.began_before;
      sent_before = a.sent_before;
      sent_earlier = a.sent_before;
      sent_from = λ k m h. h;
      more = omega arith;
    }
    at early is L (Then e K run w) l = next (at early is K run l.0)
      where
        next : At K → At (e ∷ K)
        next a = record {
          legal = meant-legal S (e ∷ K) l;
          begun = began-stays line (history K) first (meaning K e) a.begun;
          before = before-same rules.acks (state_of (history (e ∷ K))) (history K) (meaning K e) (meant-legal S (e ∷ K) l) line first a.begun ∙ a.before;
          legal_before = a.legal_before;
          fresh = a.fresh;
          began_before = λ k b h. began-stays k (history K) b (meaning K e) (a.began_before k b h);
          sent_before = λ k m h. sent-stays k (history K) m (meaning K e) (a.sent_before k m h);
          sent_earlier = a.sent_earlier;
          sent_from = λ k m h. sent-stays k (history K) m (meaning K e) (a.sent_from k m h);
          more = (let g = rounds-grow v (history K) (meaning K e) in let z = a.more in omega arith);
        }

    -- the newest state stays the newest
    pub newest-on : (L : List LaneEvent) → Run L → IsNewest v (history F) → IsNewest v (history L)
    newest-on L Here low = low
    newest-on L (Then e K run w) low = λ x h. newest-on K run low x (published-same e K x (elim w [ inl c ↦ carriage-of e c | inr a ↦ added-of lane K line o e a ]) h)

    -- what wasn't sent before the line began wasn't sent before
    pub not-sent : (L : List LaneEvent) → At L → (k : ℕ) → sent k (before_line line (history L)) ≡ None → sent k (history J) ≡ None
    not-sent L a k h = ap (λ (y : Journal). sent k y) (sym a.before) ∙ h

    pub sent-since : (L : List LaneEvent) → At L → (k : ℕ) → sent k (history J) ≡ None → sent k (before_line line (history L)) ≡ None
    sent-since L a k h = ap (λ (y : Journal). sent k y) a.before ∙ h

    -- what wasn't sent before the search wasn't sent before the line began
    pub sent-later : (L : List LaneEvent) → At L → (k : ℕ) → sent k (history F) ≡ None → sent k (before_line line (history L)) ≡ None
    sent-later L a k h = sent-since L a k (by_sent (sent k (history J)) refl)
      where
        by_sent : (x : Option Message) → sent k (history J) ≡ x → sent k (history J) ≡ None
        by_sent None f = f
        by_sent (Some m) f = let z = a.sent_earlier k m f in let q : ◌≡◌ {A = Option Message} None (Some m) = sym h ∙ z in absurd (cc)

    -- a message of a later round than those of then
    pub later-round : (L : List LaneEvent) → At L → (k : ℕ) (m : Message) → sent k (history L) ≡ Some m → m.version ≡ v → rounds v (history F) < m.round → sent k (history F) ≡ None
    later-round L a k m s at lt = by_sent (sent k (history F)) refl
      where
        by_sent : (x : Option Message) → sent k (history F) ≡ x → sent k (history F) ≡ None
        by_sent None f = f
        by_sent (Some y) f =
            let z = a.sent_from k y f in
            let same : y ≡ m = cc in
            let bound = sent-bound k y (history F) f in
            let low : m.round ≤ rounds v (history F) = subst (λ (w : ℕ). m.round ≤ rounds w (history F)) at (subst (λ (x : Message). x.round ≤ rounds x.version (history F)) same bound) in
            absurd (omega (arith, low, lt))
