-- With what a line wants to end that isn't prepared.
use Rattle.std.proofs.Common.{◌≡◌, ◌⊎◌, ◌↔◌, ℕ, ◌<◌, Bool, true, false, not, ◌&&◌, List, Option, Some, None, is_some, IsSome, inl, inr, refl, sym, ap, ◌∙◌, subst}
use mathlib.Core.Bool.{true≢false}
use Rattle.std.proofs.lemmas.Bool.{and_parts, and_from}
use Rattle.bucket_ids.specs.Buckets.{Low}
use Rattle.node_sets.specs.Members.{has_node, size_of}
use Rattle.cluster_states.specs.declared.cluster_state.ClusterState.{ClusterState}
use Rattle.cluster_states.specs.Publishing.{serves}
use Rattle.messages.specs.declared.message.Message.{Message}
use Rattle.messages.specs.declared.outcome.Outcome.{Outcome}
use Rattle.messages.specs.declared.outcome.Outcome.TheVariants.{TooFew}
use Rattle.messages.specs.declared.step.Step.{Step}
use Rattle.messages.specs.declared.step.Step.TheVariants.{Send, Open, Decide, Finished}
use Rattle.distributor_part.specs.declared.rules.Rules.{Rules}
use Rattle.distributor_part.specs.Steps.{LacksAnswers, Finishes, IsStep}
use Rattle.merge_rounds.specs.Rounds as rounds
use Rattle.merge_rounds.specs.Rounds.{RoundState, did_show}
use Rattle.op_machine.specs.Nodes.{count_nodes}
use Rattle.op_machine.specs.Outcomes.{absent_of}
use Rattle.op_machine.proofs.NodeLaws.{size_of-count}
use Rattle.lane_journals.specs.Sets.{count}
use Rattle.lane_journals.specs.Readers.{Journal, opened, row_at, round_of, asked, complete, active}
use Rattle.lane_journals.specs.RowLists.{row_with, rows}
use Rattle.lane_journals.specs.Meanings.{history}
use Rattle.lane_journals.specs.declared.event.LaneEvent.{LaneEvent}
use Rattle.lane_keeping.specs.LaneKeeping.{KnowsOpening}
use Rattle.lane_keeping.specs.Acting.{IsActing, IsKnownRow}
use Rattle.lane_keeping.specs.RoundKeeping.{AreAnswers}
use Rattle.lane_keeping.proofs.Acting.{HoldsAt}
use Rattle.proof_basics.proofs.Tests.{not_answered}
use Rattle.operation_keeping.specs.OperationKeeping.{WasShortSince}
use Rattle.operation_keeping.specs.Wants.{Ends, EndsUnless, OpeningGives, OpeningWants, RoundGives, ShortWants, UnpreparedWants, is_ask, is_round_read, is_round_apply, reads_short, union_short}
use Rattle.operation_keeping.proofs.Counting.{small, size_of-is, count_nodes-is}
use Rattle.line_outcomes.specs.Shortages.{IsTooFewOf}
use Rattle.line_outcomes.specs.Outcomes.{EndsUnopened, IsAfterRound, HasShown, HaveAllShown, IsReceiver, LacksUnion, EndsUnread, EndsUnited}
use Rattle.line_outcomes.proofs.Shortages.{some-same, some-node, few-by}

-- ---- tests of two parts

-- both hold
pub both : (t u : Bool) (A : Type 0) → (u ≡ true) ↔ A → ((t && u) ≡ true) ↔ ((t ≡ true) × A)
both t u A same = (λ h. (let x = and_parts t u h in (x.0, same.0 x.1)), λ x. and_from t u x.0 (same.1 x.1))

not-true : (u : Bool) → (u ≡ true → ⊥) → not u ≡ true
not-true true h = absurd (h refl)
not-true false h = refl

-- the first holds and the second doesn't
pub but : (t u : Bool) (A : Type 0) → (u ≡ true) ↔ A → ((t && not u) ≡ true) ↔ ((t ≡ true) × (A → ⊥))
but t u A same = (λ h. (let x = and_parts t (not u) h in (x.0, λ y. true≢false (sym (same.1 y) ∙ not_answered u x.1))), λ x. and_from t (not u) x.0 (not-true u (λ h. x.1 (same.0 h))))

pub equal : (t u : Bool) → t ≡ u → (t ≡ true) ↔ (u ≡ true)
equal t u e = (λ h. sym e ∙ h, λ h. e ∙ h)

-- where the second doesn't hold wherever the first does, some node fails it
some-but : (p q : ℕ → Bool) → (((n : ℕ) → p n ≡ true → q n ≡ true) → ⊥) → ((n : ℕ) → p n ≡ true → n < 32) → (n : ℕ) × ((p n && not (q n)) ≡ true)
some-but p q none low = some-node (λ n. p n && not (q n)) (λ all. none (λ n h. by_test n (q n) refl h (all n (low n h))))
  where
    by_test : (n : ℕ) (t : Bool) → q n ≡ t → p n ≡ true → (p n && not (q n)) ≡ false → q n ≡ true
    by_test n true e h fails = e
    by_test n false e h fails = absurd (true≢false (sym (and_from (p n) (not (q n)) h (ap not e)) ∙ fails))

module _ (lane : Low) (rules : Rules) (J : List LaneEvent) (from : Journal) (d : ℕ) (s : ClusterState) (acting : IsActing lane J d s) where
  abbrev H : Journal
  H = history J

  -- ---- the opening

  module _ (key : ℕ) (x : Outcome) (w : OpeningWants lane rules J from key d s (Ends x)) where
    opening : KnowsOpening (λ n. asked s.version n H) (opened s.version H) (λ k. row_with k (rows s.version H)) s w.part
    opening = (subst (λ (o : Option ClusterState). HoldsAt lane J d o w.part) w.heard (w.keeps).heard).2 acting.owner

    lacking : (missing : ℕ) → Finishes w.part w.after key missing → LacksAnswers w.part missing
    lacking missing f = elim f.cause [
      | inl l ↦ l
      | inr (inl enough) ↦ (let e = enough.opened in let u = w.unopened in absurd (cc))
      | inr (inr ended) ↦ (let u = w.no_round in absurd (cc))
    ]

    by-step : (step : Step) → IsStep w.part key step w.after → OpeningGives J from d s w.part step (Ends x) → EndsUnopened J from s x
    by-step (Send m) i g = absurd g
    by-step (Open buckets) i g = absurd g
    by-step (Decide y) i g = absurd g
    by-step (Finished missing) i g = record {
      unopened = opening.opened_as ∙ ap is_some w.unopened;
      few = subst (λ (k : ℕ). IsTooFewOf (WasShortSince from H (is_ask s.version)) Counted k Missing None x) (count_nodes-is (serves s))
          (few-by (WasShortSince from H (is_ask s.version)) (λ n. serves s n && has_node (w.part).answered n) (has_node missing) Counted Missing
          (λ n. both (serves s n) (has_node (w.part).answered n) (IsSome (asked s.version n H)) (equal _ _ (opening.answered_are n)))
          (λ n. (
            λ h. (but (serves s n) (has_node (w.part).answered n) (IsSome (asked s.version n H)) (equal _ _ (opening.answered_are n))).0 (sym (are n) ∙ h),
            λ h. are n ∙ (but (serves s n) (has_node (w.part).answered n) (IsSome (asked s.version n H)) (equal _ _ (opening.answered_are n))).1 h,
          ))
          (small missing) some (count_nodes (serves s)) None x g);
    }
      where
        Counted : ℕ → Type 0
        Counted n = (serves s n ≡ true) × IsSome (asked s.version n H)

        Missing : ℕ → Type 0
        Missing n = (serves s n ≡ true) × (IsSome (asked s.version n H) → ⊥)

        l : LacksAnswers w.part missing
        l = lacking missing i

        states : l.state ≡ s
        states = some-same l.state s (sym (l.unopened).heard ∙ w.heard)

        are : (n : ℕ) → has_node missing n ≡ (serves s n && not (has_node (w.part).answered n))
        are n = l.are n ∙ ap (λ (y : ClusterState). serves y n && not (has_node (w.part).answered n)) states

        some : (n : ℕ) × (has_node missing n ≡ true)
        some = some-node (has_node missing) (λ none. l.some (λ n up. answers n (has_node (w.part).answered n) refl (subst (λ (y : ClusterState). serves y n ≡ true) states up) none))
          where
            answers : (n : ℕ) (t : Bool) → has_node (w.part).answered n ≡ t → serves s n ≡ true → ((m : ℕ) → m < 32 → has_node missing m ≡ false) → has_node (w.part).answered n ≡ true
            answers n true e up none = e
            answers n false e up none = let here = are n ∙ and_from (serves s n) (not (has_node (w.part).answered n)) up (ap not e) in absurd (true≢false (sym here ∙ none n (small missing n here)))

    pub ends-unopened : EndsUnopened J from s x
    ends-unopened = by-step w.step w.is_step w.gives

  -- ---- after a round

  module _ (key : ℕ) (x : Outcome) (w : ShortWants rules J from key s (Ends x)) where
    abbrev r : RoundState
    r = w.round

    abbrev b : Low
    b = (w.row).bucket

    known : IsKnownRow s.version H w.row
    known = (w.has_row).known

    answers : AreAnswers (round_of s.version b H) J s b r.readers r.receivers r.shown r.union r.holders
    answers = subst (λ (c : Low). AreAnswers (round_of s.version c H) J s c r.readers r.receivers r.shown r.union r.holders) w.same_row w.knows

    pub after : IsAfterRound rules.acks J from key s.version b
    after = record {
      opened_is = (known.is_row).opened;
      at = (known.is_row).row key (w.has_row).inside;
      had_round = w.since;
      over = (w.has_row).no_round;
      fewer = (size_of (w.row).complete, ((λ n. has_node (w.row).complete n), sym (size_of-is (w.row).complete), λ n. equal _ _ (sym (known.members n key (w.has_row).inside))), w.few);
    }

    active-same : active s.version key H ≡ (w.row).active
    active-same = known.active_is key (w.has_row).inside

    showed : (n : ℕ) → (did_show n r.shown ≡ true) ↔ HasShown J s.version b n
    showed n = equal _ _ (answers.shown_are n)

    low : (n : ℕ) → serves s n ≡ true → n < 32
    low n up = small r.readers n (answers.readers_are n ∙ up)

    pub ends-unread : (rounds.HaveAllShown r.readers r.shown → ⊥) → EndsUnless (WasShortSince from H (is_round_read s.version b (round_of s.version b H))) (reads_short s w.row r) (Ends x) → EndsUnread rules.acks J from key s x
    ends-unread unread g = record {
      row = b;
      after = after;
      unread = λ all. unread (λ n reader. (showed n).1 (all n (sym (answers.readers_are n) ∙ reader)));
      few = subst (λ (o : Option ℕ). IsTooFewOf (WasShortSince from H (is_round_read s.version b (round_of s.version b H))) Counted (count (serves s)) Missing o x) (sym active-same)
          (subst (λ (k : ℕ). IsTooFewOf (WasShortSince from H (is_round_read s.version b (round_of s.version b H))) Counted k Missing (w.row).active x) (count_nodes-is (serves s))
          (few-by (WasShortSince from H (is_round_read s.version b (round_of s.version b H))) (λ n. serves s n && did_show n r.shown) (λ n. serves s n && not (did_show n r.shown)) Counted Missing
          (λ n. both (serves s n) (did_show n r.shown) (HasShown J s.version b n) (showed n)) (λ n. but (serves s n) (did_show n r.shown) (HasShown J s.version b n) (showed n))
          (λ n h. low n (and_parts (serves s n) (not (did_show n r.shown)) h).0)
          (some-but (serves s) (λ n. did_show n r.shown) (λ all. unread (λ n reader. all n (sym (answers.readers_are n) ∙ reader))) low)
          (count_nodes (serves s)) (w.row).active x g));
    }
      where
        Counted : ℕ → Type 0
        Counted n = (serves s n ≡ true) × HasShown J s.version b n

        Missing : ℕ → Type 0
        Missing n = (serves s n ≡ true) × (HasShown J s.version b n → ⊥)

    receives : (n : ℕ) → (has_node r.receivers n ≡ true) ↔ IsReceiver J s.version b n
    receives n = (λ h. (r.receivers, answers.receivers_are, h), λ x. subst (λ (set : ℕ). has_node set n ≡ true) (some-same x.0 r.receivers (sym x.1 ∙ answers.receivers_are)) x.2)

    lacks-union : (n : ℕ) → ((has_node r.receivers n && not (has_node r.holders n)) ≡ true) ↔ LacksUnion J s.version b n
    lacks-union n = (
      λ h. (let y = (but (has_node r.receivers n) (has_node r.holders n) _ (answers.holders_are n)).0 h in ((receives n).0 y.0, y.1)),
      λ y. (but (has_node r.receivers n) (has_node r.holders n) _ (answers.holders_are n)).1 ((receives n).1 y.0, y.1),
    )

    -- some receiver didn't answer the union, where too few are told of
    pub ends-united : ((answered needed absent : ℕ) → x ≡ TooFew answered needed absent → (n : ℕ) × LacksUnion J s.version b n) → rounds.HaveAllShown r.readers r.shown
        → EndsUnless (WasShortSince from H (is_round_apply s.version b (round_of s.version b H))) (union_short rules w.row r) (Ends x) → EndsUnited rules.acks J from key s x
    ends-united some all g = record {
      row = b;
      after = after;
      read = λ n up. (showed n).0 (all n (answers.readers_are n ∙ up));
      few = subst (λ (o : Option ℕ). IsTooFewOf (WasShortSince from H (is_round_apply s.version b (round_of s.version b H))) (λ n. complete s.version n key H ≡ true) rules.acks (LacksUnion J s.version b) o x) (sym active-same) (elim g [
        | inl short ↦ inl short
        | inr few ↦ few-united (some _ _ _ few.1) few
      ]);
    }
      where
        W : Type 0
        W = WasShortSince from H (is_round_apply s.version b (round_of s.version b H))

        Complete : ℕ → Type 0
        Complete n = complete s.version n key H ≡ true

        few-united : (n : ℕ) × LacksUnion J s.version b n → (W → ⊥) × (x ≡ union_short rules w.row r) → IsTooFewOf W Complete rules.acks (LacksUnion J s.version b) (w.row).active x
        few-united some few = few-by W (λ n. has_node (w.row).complete n) (λ n. has_node r.receivers n && not (has_node r.holders n)) Complete (LacksUnion J s.version b)
            (λ n. equal _ _ (sym (known.members n key (w.has_row).inside))) lacks-union (λ n h. small r.receivers n (and_parts (has_node r.receivers n) (not (has_node r.holders n)) h).0)
            (some.0, (lacks-union some.0).1 some.1) rules.acks (w.row).active x
            (inr (few.0, few.1 ∙ ap (λ (k : ℕ). TooFew k rules.acks (absent_of (w.row).active (λ n. has_node r.receivers n && not (has_node r.holders n)))) (size_of-count (w.row).complete (λ n. has_node (w.row).complete n) (λ n. refl))))

  -- ---- what wants to end so

  module _ (line : ℕ) (key : ℕ) (x : Outcome) (united : (row : Low) → row_at s.version key H ≡ Some row → opened s.version H ≡ true → HaveAllShown J s row → (answered needed absent : ℕ) → x ≡ TooFew answered needed absent
      → (n : ℕ) × LacksUnion J s.version row n) where
    short-ends : ShortWants rules J from key s (Ends x) → EndsUnread rules.acks J from key s x ⊎ EndsUnited rules.acks J from key s x
    short-ends w = elim w.gives [
      | inl reads ↦ inl (ends-unread key x w reads.0 reads.1)
      | inr union ↦ inr (ends-united key x w (λ answered needed absent is. some answered needed absent is union.0) union.0 union.1)
    ]
      where
        some : (answered needed absent : ℕ) → x ≡ TooFew answered needed absent → rounds.HaveAllShown (w.round).readers (w.round).shown
            → (n : ℕ) × LacksUnion J s.version (w.row).bucket n
        some answered needed absent is all = united (w.row).bucket (after key x w).at (after key x w).opened_is (λ n up. (showed key x w n).0 (all n ((answers key x w).readers_are n ∙ up))) answered needed absent is

    pub unprepared-end : UnpreparedWants lane rules J line from key d s (Ends x) → EndsUnopened J from s x ⊎ (EndsUnread rules.acks J from key s x ⊎ EndsUnited rules.acks J from key s x)
    unprepared-end (inl w) = inl (ends-unopened key x w)
    unprepared-end (inr (inl w)) = let is = w.is in absurd (cc)
    unprepared-end (inr (inr (inl w))) = absurd (no-end w.next w.gives)
      where
        no-end : (next : Option Message) → RoundGives d s w.round next (Ends x) → ⊥
        no-end None g = g
        no-end (Some m) g = g
    unprepared-end (inr (inr (inr (inl w)))) = let is = w.is in absurd (cc)
    unprepared-end (inr (inr (inr (inr w)))) = inr (short-ends w)
