-- There is one outcome.
use Rattle.std.proofs.Common.{◌≡◌, ℕ, true, List, Option, Some, None, inl, inr, refl, sym, ap, ◌∙◌, subst, arith}
use mathlib.Core.Bool.{true≢false}
use Rattle.bucket_ids.specs.Buckets.{Low}
use Rattle.stamps.specs.declared.stamp.Stamp.{Stamp}
use Rattle.cluster_states.specs.declared.cluster_state.ClusterState.{ClusterState}
use Rattle.documents.specs.declared.entry.Entry.{Entry}
use Rattle.messages.specs.declared.operation.Operation.{Operation}
use Rattle.messages.specs.declared.outcome.Outcome.{Outcome}
use Rattle.messages.specs.declared.outcome.Outcome.TheVariants.{Acked}
use Rattle.op_machine.specs.declared.verdict.Verdict.TheVariants.{Ends}
use Rattle.op_machine.specs.Judging.{judged}
use Rattle.cluster_states.specs.Publishing.{serves}
use Rattle.lane_journals.specs.Sets.{count}
use Rattle.lane_journals.specs.Stamps.{Le, StampLe}
use Rattle.lane_journals.specs.Buckets.{key_of}
use Rattle.lane_journals.specs.Readers.{Journal, Beginning, Preparing, prepared, active, round_of, complete, answered_store}
use Rattle.lane_journals.specs.Meanings.{history, entry_at}
use Rattle.lane_journals.specs.declared.event.LaneEvent.{LaneEvent}
use Rattle.lane_journals.specs.Places.{state_in}
use Rattle.operation_keeping.specs.OperationKeeping.{beginning_of, IsStoreOf, WasShort, WasShortSince}
use Rattle.operation_keeping.specs.Wants.{is_round_read, is_round_apply}
use Rattle.line_outcomes.specs.Shortages.{IsTooFewOf}
use Rattle.line_outcomes.specs.Outcomes.{IsAfterRound, HasShown, HaveAllShown, LacksUnion, HasLooked, HasStored, IsAcknowledged, EndsUnopened, EndsUnread, EndsUnited, EndsUnseen, IsSeen, EndsJudged, EndsStored, EndsUnstored, EndsWith, IsOutcome}
use Rattle.line_outcomes.proofs.Shortages.{some-same, not-enough, few-same}

-- ---- what was seen is one entry

stamp-both : (a b : Stamp) → StampLe a b → StampLe b a → a ≡ b
unfolding StampLe
stamp-both a b (inl less) (inl more) = absurd (omega (arith, less, more))
stamp-both a b (inl less) (inr more) = let e = more.0 in absurd (omega (arith, less, e))
stamp-both a b (inr less) (inl more) = let e = less.0 in absurd (omega (arith, more, e))
stamp-both a b (inr less) (inr more) = make less.0 (let x = less.1 in let y = more.1 in omega (arith, x, y))
  where
    make : a.version ≡ b.version → a.count ≡ b.count → a ≡ b
    make p q = λ i. record { version = p i; count = q i }

le-both : (a b : Stamp) → Le (Some a) (Some b) → Le (Some b) (Some a) → a ≡ b
unfolding Le
le-both a b p q = stamp-both a b p q

le-none : (a : Stamp) → Le (Some a) None → ⊥
unfolding Le
le-none a h = h

module _ (J : List LaneEvent) (line : ℕ) (b : Beginning) where
  none-shown : (e : Entry) → IsSeen J line b None → IsSeen J line b (Some e) → ⊥
  none-shown e n s = let x = s.shown e.stamp refl in le-none e.stamp (subst (λ (z : Option Stamp). Le z None) x.3 (n.newest x.0 x.1 x.2))

  seen-same : (x y : Option Entry) → IsSeen J line b x → IsSeen J line b y → x ≡ y
  seen-same None None p q = refl
  seen-same None (Some e) p q = absurd (none-shown e p q)
  seen-same (Some e) None p q = absurd (none-shown e q p)
  seen-same (Some e) (Some f) p q =
      let x = p.shown e.stamp refl in
      let y = q.shown f.stamp refl in
      let same = le-both e.stamp f.stamp (subst (λ (z : Option Stamp). Le z (Some f.stamp)) x.3 (q.newest x.0 x.1 x.2)) (subst (λ (z : Option Stamp). Le z (Some e.stamp)) y.3 (p.newest y.0 y.1 y.2)) in
      sym (p.written e refl) ∙ ap (λ (z : Stamp). entry_at z J) same ∙ q.written f refl

-- ---- one outcome

module _ (acks : ℕ) (J : List LaneEvent) (line : ℕ) (o : Operation) (from : Journal) (s : ClusterState) (b : Beginning) where
  abbrev H : Journal
  H = history J

  unopened-same : (x y : Outcome) → EndsUnopened J from s x → EndsUnopened J from s y → x ≡ y
  unopened-same x y a c = few-same _ _ _ _ _ x y a.few c.few

  not-both : (row : Low) (key : ℕ) (x : Outcome) → EndsUnopened J from s x → IsAfterRound acks J from key s.version row → ⊥
  not-both row key x a c = true≢false (sym c.opened_is ∙ a.unopened)

  module _ (key : ℕ) where
    one-row : (r t : Low) → IsAfterRound acks J from key s.version r → IsAfterRound acks J from key s.version t → r ≡ t
    one-row r t a c = some-same r t (sym a.at ∙ c.at)

    unread-same : (x y : Outcome) → EndsUnread acks J from key s x → EndsUnread acks J from key s y → x ≡ y
    unread-same x y a c = few-same _ _ _ _ _ x y a.few (subst (Few y) (one-row c.row a.row c.after a.after) c.few)
      where
        Few : Outcome → Low → Type 0
        Few z row = IsTooFewOf (WasShortSince from H (is_round_read s.version row (round_of s.version row H)))
            (λ n. (serves s n ≡ true) × HasShown J s.version row n) (count (serves s))
            (λ n. (serves s n ≡ true) × (HasShown J s.version row n → ⊥)) (active s.version key H) z

    united-same : (x y : Outcome) → EndsUnited acks J from key s x → EndsUnited acks J from key s y → x ≡ y
    united-same x y a c = few-same _ _ _ _ _ x y a.few (subst (Few y) (one-row c.row a.row c.after a.after) c.few)
      where
        Few : Outcome → Low → Type 0
        Few z row = IsTooFewOf (WasShortSince from H (is_round_apply s.version row (round_of s.version row H)))
            (λ n. complete s.version n key H ≡ true) acks (LacksUnion J s.version row) (active s.version key H) z

    not-read : (x y : Outcome) → EndsUnread acks J from key s x → EndsUnited acks J from key s y → ⊥
    not-read x y a c = a.unread (subst (HaveAllShown J s) (one-row c.row a.row c.after a.after) c.read)

  -- ---- once it is prepared

  module _ (p : Preparing) where
    unseen-same : (x y : Outcome) → EndsUnseen acks J line o b p x → EndsUnseen acks J line o b p y → x ≡ y
    unseen-same x y a c = few-same _ _ _ _ _ x y a.few c.few

    ends-same : (x y : Outcome) → Ends x ≡ Ends y → x ≡ y
    ends-same x y e = cc

    judged-same : (x y : Outcome) → EndsJudged acks J line o b p x → EndsJudged acks J line o b p y → x ≡ y
    judged-same x y a c = ends-same x y (sym a.judged_so ∙ ap (λ (z : Option Entry). judged o b.stamp z) (seen-same J line b a.seen c.seen a.is_seen c.is_seen) ∙ c.judged_so)

    one-stamp : (t u : Stamp) → HasStored J line b p t → HasStored J line b p u → t ≡ u
    one-stamp t u a c = some-same t u (sym a.stamped ∙ c.stamped)

    stored-same : (x y : Outcome) → EndsStored acks J line b p x → EndsStored acks J line b p y → x ≡ y
    stored-same x y a c = a.is ∙ ap Acked (one-stamp a.stamp c.stamp a.stored c.stored) ∙ sym c.is

    unstored-same : (x y : Outcome) → EndsUnstored acks J line b p x → EndsUnstored acks J line b p y → x ≡ y
    unstored-same x y a c = few-same _ _ _ _ _ x y a.few (subst (Few y) (one-stamp c.stamp a.stamp c.stored a.stored) c.few)
      where
        Few : Outcome → Stamp → Type 0
        Few z stamp = IsTooFewOf (WasShort H line (IsStoreOf b))
            (λ n. (p.recipients n ≡ true) × (answered_store b.version b.id stamp n H ≡ true)) acks
            (λ n. (p.recipients n ≡ true) × (answered_store b.version b.id stamp n H ≡ true → ⊥)) (active b.version (key_of b.id) H) z

    -- what was written wasn't unwritten
    not-written : (stamp : Stamp) → HasLooked J line o b p → HasStored J line b p stamp → ⊥
    not-written stamp a c = true≢false (sym c.written ∙ a.unwritten)

    not-acked : (x y : Outcome) → EndsStored acks J line b p x → EndsUnstored acks J line b p y → ⊥
    not-acked x y a c = c.unacknowledged (subst (IsAcknowledged acks H b p) (one-stamp a.stamp c.stamp a.stored c.stored) a.acknowledged)

  with-same : (p : Option Preparing) (x y : Outcome) → EndsWith acks J line o from s b p x → EndsWith acks J line o from s b p y → x ≡ y
  with-same None x y (inl a) (inl c) = unopened-same x y a c
  with-same None x y (inl a) (inr (inl c)) = absurd (not-both c.row (key_of o.id) x a c.after)
  with-same None x y (inl a) (inr (inr c)) = absurd (not-both c.row (key_of o.id) x a c.after)
  with-same None x y (inr (inl a)) (inl c) = absurd (not-both a.row (key_of o.id) y c a.after)
  with-same None x y (inr (inl a)) (inr (inl c)) = unread-same (key_of o.id) x y a c
  with-same None x y (inr (inl a)) (inr (inr c)) = absurd (not-read (key_of o.id) x y a c)
  with-same None x y (inr (inr a)) (inl c) = absurd (not-both a.row (key_of o.id) y c a.after)
  with-same None x y (inr (inr a)) (inr (inl c)) = absurd (not-read (key_of o.id) y x c a)
  with-same None x y (inr (inr a)) (inr (inr c)) = united-same (key_of o.id) x y a c
  with-same (Some p) x y (inl a) (inl c) = unseen-same p x y a c
  with-same (Some p) x y (inl a) (inr (inl c)) = absurd (not-enough _ acks a.fewer c.enough)
  with-same (Some p) x y (inl a) (inr (inr (inl c))) = absurd (not-written p c.stamp a.looked c.stored)
  with-same (Some p) x y (inl a) (inr (inr (inr c))) = absurd (not-written p c.stamp a.looked c.stored)
  with-same (Some p) x y (inr (inl a)) (inl c) = absurd (not-enough _ acks c.fewer a.enough)
  with-same (Some p) x y (inr (inl a)) (inr (inl c)) = judged-same p x y a c
  with-same (Some p) x y (inr (inl a)) (inr (inr (inl c))) = absurd (not-written p c.stamp a.looked c.stored)
  with-same (Some p) x y (inr (inl a)) (inr (inr (inr c))) = absurd (not-written p c.stamp a.looked c.stored)
  with-same (Some p) x y (inr (inr (inl a))) (inl c) = absurd (not-written p a.stamp c.looked a.stored)
  with-same (Some p) x y (inr (inr (inl a))) (inr (inl c)) = absurd (not-written p a.stamp c.looked a.stored)
  with-same (Some p) x y (inr (inr (inl a))) (inr (inr (inl c))) = stored-same p x y a c
  with-same (Some p) x y (inr (inr (inl a))) (inr (inr (inr c))) = absurd (not-acked p x y a c)
  with-same (Some p) x y (inr (inr (inr a))) (inl c) = absurd (not-written p a.stamp c.looked a.stored)
  with-same (Some p) x y (inr (inr (inr a))) (inr (inl c)) = absurd (not-written p a.stamp c.looked a.stored)
  with-same (Some p) x y (inr (inr (inr a))) (inr (inr (inl c))) = absurd (not-acked p y x c a)
  with-same (Some p) x y (inr (inr (inr a))) (inr (inr (inr c))) = unstored-same p x y a c

beginnings-same : (d e : ℕ) (s t : ClusterState) (o : Operation) (a b : Option Stamp) → beginning_of d s o a ≡ beginning_of e t o b → (d ≡ e) × (s.version ≡ t.version) × (a ≡ b)
beginnings-same d e s t o a b h = (ap (λ (x : Beginning). x.distributor) h, ap (λ (x : Beginning). x.version) h, ap (λ (x : Beginning). x.stamp) h)

pub outcome-same : (acks line : ℕ) (o : Operation) (from : Journal) (J : List LaneEvent) (x y : Outcome) → IsOutcome acks line o from J x → IsOutcome acks line o from J y → x ≡ y
outcome-same acks line o from J x y a c = with-same acks J line o from a.state first (prepared line (history J)) x y a.ends
    (subst (λ (t : ClusterState). EndsWith acks J line o from t first (prepared line (history J)) y) states
    (subst (λ (b : Beginning). EndsWith acks J line o from c.state b (prepared line (history J)) y) beginnings c.ends))
  where
    first : Beginning
    first = beginning_of a.distributor a.state o a.stamp

    beginnings : beginning_of c.distributor c.state o c.stamp ≡ first
    beginnings = some-same _ _ (sym c.begun ∙ a.begun)

    states : c.state ≡ a.state
    states = some-same c.state a.state (sym c.published ∙ ap (λ (v : ℕ). state_in v J) (beginnings-same c.distributor a.distributor c.state a.state o c.stamp a.stamp beginnings).1 ∙ a.published)
