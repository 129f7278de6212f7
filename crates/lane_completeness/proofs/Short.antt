-- How an operation ends whose row has too few complete members after a round: a node wanted memory, or nothing was heard of
-- one to which the round sent.
use Rattle.std.proofs.Common.{◌≡◌, ℕ, ◌<◌, Bool, true, false, not, ◌&&◌, List, Option, None, Some, is_some, inl, inr, refl, sym, ap, ◌∙◌, subst, arith}
use mathlib.Core.Bool.{true≢false}
use Rattle.bucket_ids.specs.Buckets.{Low}
use Rattle.node_sets.specs.Members.{has_node}
use Rattle.stamps.specs.declared.stamp.Stamp.{Stamp}
use Rattle.cluster_states.specs.declared.cluster_state.ClusterState.{ClusterState}
use Rattle.cluster_states.specs.Publishing.{serves}
use Rattle.messages.specs.declared.operation.Operation.{Operation}
use Rattle.messages.specs.declared.outcome.Outcome.{Outcome}
use Rattle.distributor_part.specs.declared.rules.Rules.{Rules}
use Rattle.ideal_nodes.proofs.Firsts.{member_small}
use Rattle.op_machine.specs.Outcomes.{absent_of}
use Rattle.merge_rounds.specs.Rounds.{did_show, HaveAllShown}
use Rattle.lane_journals.specs.Buckets.{key_of}
use Rattle.lane_journals.specs.Events.{Body}
use Rattle.lane_journals.specs.Readers.{Message, prepared, round_of, answer}
use Rattle.lane_journals.specs.Facts.{AnsweredApply}
use Rattle.lane_journals.specs.States.{state_of}
use Rattle.lane_journals.specs.Meanings.{history}
use Rattle.lane_journals.specs.Places.{state_in, receivers_of}
use Rattle.lane_journals.specs.KeptJournals.{IsLegal}
use Rattle.lane_journals.specs.declared.event.LaneEvent.{LaneEvent}
use Rattle.lane_journals.proofs.Meant.{state-serves}
use Rattle.lane_keeping.specs.LaneKeeping.{setting_of}
use Rattle.operation_keeping.specs.OperationKeeping.{WasShortSince}
use Rattle.operation_keeping.specs.Wants.{Ends, is_round_read, is_round_apply, ShortWants}
use Rattle.operation_keeping.specs.RuleBounds.{AreRules}
use Rattle.lane_completeness.specs.Causes.{IsOfRound, IsOfPhase, OfReading, OfUnion, IsMissing}
use Rattle.lane_journals.proofs.Replies.{IsOwed}
use Rattle.lane_completeness.proofs.Runs.{At, first, sent-later}
use Rattle.lane_journals.proofs.Hearing.{answer-counts}
use Rattle.lane_completeness.proofs.Missing.{Back, owed-came, missing}
use Rattle.lane_completeness.proofs.Opening.{absent-passes, FallsShort, falls-short}
use Rattle.operation_keeping.proofs.Receivers.{complete-enough}
use Rattle.lane_completeness.proofs.Spent.{IsSentIn, is_union, IsSpent}
use Rattle.lane_completeness.proofs.Since.{RoundSince, NotBegun, UnderWay, Over}

-- of two the one that isn't there, the other is
but-not : (t u : Bool) → (t && not u) ≡ true → (t ≡ true) × (u ≡ false)
but-not true true h = cc
but-not true false h = (refl, refl)
but-not false u h = cc

module _ (lane : Low) (rules : Rules) (line d : ℕ) (o : Operation) (stamp : Option Stamp) (J F L : List LaneEvent) (s : ClusterState)
    (a : At lane rules line d s.version o stamp J F L) (legal : IsLegal (setting_of lane rules) L) (unprepared : prepared line (history L) ≡ None) (x : Outcome) (w : ShortWants rules L (history F) (key_of o.id) s (Ends x)) where
  abbrev b : Low
  b = (w.row).bucket

  abbrev number : ℕ
  number = round_of s.version (w.row).bucket (history L)

  shown : (n : ℕ) → is_some (answer s.version number n (history L)) ≡ is_some (answer s.version (round_of s.version (w.round).row (history L)) n (history L))
  shown n = ap (λ (c : Low). is_some (answer s.version (round_of s.version c (history L)) n (history L))) (sym w.same_row)

  module _ (sp : IsSpent s.version F number b L) (at : state_in s.version L ≡ Some s) where
    -- to whom the round sent a message, and who didn't answer it
    round-missing : {body : Body → Type 0} (test : Message → Type 0) (n : ℕ) (r : IsSentIn s.version number n F L body) → IsOwed r.message.body → test r.message
        → IsOfPhase (history L) line (first lane rules line d s.version o stamp J) r.message → (Back (history L) r.number → ⊥) → (WasShortSince (history F) (history L) test → ⊥) → IsMissing (history L) line n
    round-missing test n r owed holds phase counts =
        let later = sent-later lane rules line d s.version o stamp J F L a r.number r.late in
        missing lane rules line d s.version o stamp J F L a (history F) test r.number r.message n later r.was_sent r.version r.receiver phase
        (owed-came lane rules line d s.version o stamp J F L a (history F) test r.number r.message r.late r.was_sent holds owed) counts

    of-round : {body : Body → Type 0} (n : ℕ) (r : IsSentIn s.version number n F L body) → IsOfRound (history L) line (first lane rules line d s.version o stamp J) b r.message
    of-round n r = record { unprepared = unprepared; row_is = ((w.has_row).known).is_row.row (key_of o.id) (w.has_row).inside; round_is = r.round }

    -- ---- Reads

    abbrev unread : ℕ → Bool
    unread n = serves s n && not (did_show n (w.round).shown)

    unread-missing : (WasShortSince (history F) (history L) (is_round_read s.version b number) → ⊥) → (n : ℕ) → unread n ≡ true → IsMissing (history L) line n
    unread-missing none n h =
        let z = but-not (serves s n) (did_show n (w.round).shown) h in
        let r = sp.reads s at n z.0 in
        round-missing (is_round_read s.version b number) n r (subst IsOwed (sym r.body) tt) (r.version, r.round, r.body)
        (OfReading b (of-round n r) (λ all. true≢false (sym (all n (state-serves (setting_of lane rules) L legal s.version n s at ∙ z.0)) ∙ shown n ∙ sym ((w.knows).shown_are n) ∙ z.1)) r.body)
        (λ back. true≢false (sym (answer-counts rules.acks (state_of (history L)) s.version number n r.number r.message back.given b r.version r.round r.receiver r.body (history L) a.legal back.back r.was_sent back.reply)
        ∙ shown n ∙ sym ((w.knows).shown_are n) ∙ z.1))
        none

    some-unread : (HaveAllShown (w.round).readers (w.round).shown → ⊥) → unread (absent_of (w.row).active unread) ≡ true
    some-unread lacks = absent-passes (w.row).active unread (λ none. lacks (λ n reader. by_shown none n reader (did_show n (w.round).shown) refl))
      where
        by_shown : ((n : ℕ) → n < 32 → unread n ≡ false) → (n : ℕ) → has_node (w.round).readers n ≡ true → (t : Bool) → did_show n (w.round).shown ≡ t → did_show n (w.round).shown ≡ true
        by_shown none n reader true f = f
        by_shown none n reader false f =
            let serving = sym ((w.knows).readers_are n) ∙ reader in
            let is : unread n ≡ true = ap (λ (t : Bool). t && not (did_show n (w.round).shown)) serving ∙ ap (λ (t : Bool). not t) f in
            absurd (true≢false (sym is ∙ none n (member_small (w.round).readers n reader)))

    -- ---- Applies

    module _ (read : HaveAllShown (w.round).readers (w.round).shown) where
      all-answered : (n : ℕ) → serves s n ≡ true → is_some (answer s.version number n (history L)) ≡ true
      all-answered n serving = shown n ∙ sym ((w.knows).shown_are n) ∙ read n ((w.knows).readers_are n ∙ serving)

      -- the round of the row's bucket is that of the round's row
      holders-are : (n : ℕ) → AnsweredApply s.version number n b (history L) → has_node (w.round).holders n ≡ true
      holders-are n y = ((w.knows).holders_are n).1 (subst (λ (c : Low). AnsweredApply s.version (round_of s.version c (history L)) n c (history L)) (sym w.same_row) y)

      are-holders : (n : ℕ) → has_node (w.round).holders n ≡ true → AnsweredApply s.version number n b (history L)
      are-holders n h = subst (λ (c : Low). AnsweredApply s.version (round_of s.version c (history L)) n c (history L)) w.same_row (((w.knows).holders_are n).0 h)

      was-told : (n : ℕ) → has_node (w.round).receivers n ≡ true → IsSentIn s.version number n F L (is_union b)
      was-told n has = sp.applies s at all-answered (w.round).receivers (subst (λ (c : Low). receivers_of s.version c L ≡ Some (w.round).receivers) w.same_row (w.knows).receivers_are) n has

      has-union : (n : ℕ) (r : IsSentIn s.version number n F L (is_union b)) → Back (history L) r.number → has_node (w.round).holders n ≡ true
      has-union n r back = holders-are n (record {
        number = r.number;
        message = r.message;
        union = r.body.0;
        content = (back.given).content;
        names = (back.given).names;
        was_sent = r.was_sent;
        receiver = r.receiver;
        version = r.version;
        round = r.round;
        body = r.body.1;
        reply = back.reply;
        back = back.back;
      })

      abbrev unapplied : ℕ → Bool
      unapplied n = has_node (w.round).receivers n && not (has_node (w.round).holders n)

      unapplied-missing : (WasShortSince (history F) (history L) (is_round_apply s.version b number) → ⊥) → (n : ℕ) → unapplied n ≡ true → IsMissing (history L) line n
      unapplied-missing none n h =
          let z = but-not (has_node (w.round).receivers n) (has_node (w.round).holders n) h in
          let r = was-told n z.0 in
          round-missing (is_round_apply s.version b number) n r (subst IsOwed (sym r.body.1) tt) (r.version, r.round, r.body)
          (OfUnion b (of-round n r) (λ m serving. all-answered m (sym (state-serves (setting_of lane rules) L legal s.version m s at) ∙ serving)) r.body.0 r.body.1)
          (λ back. true≢false (sym (has-union n r back) ∙ z.1)) none

      is-complete : ((n : ℕ) → has_node (w.round).receivers n ≡ true → has_node (w.round).holders n ≡ true) → (n : ℕ) → has_node (w.round).receivers n ≡ true → has_node (w.row).complete n ≡ true
      is-complete all n has = sym (((w.has_row).known).members n (key_of o.id) (w.has_row).inside) ∙ sp.marks n (key_of o.id) (are-holders n (all n has)) (w.has_row).inside

      -- where all receivers had the union the row had enough complete members
      not-few : AreRules rules → ((n : ℕ) → has_node (w.round).receivers n ≡ true → has_node (w.round).holders n ≡ true) → ⊥
      not-few are all =
          let enough = complete-enough lane rules are L legal s.version (w.round).row (w.round).receivers (w.row).complete (w.knows).receivers_are (is-complete all) in
          let few = w.few in
          omega (arith, enough, few)

      some-unapplied : AreRules rules → unapplied (absent_of (w.row).active unapplied) ≡ true
      some-unapplied are = absent-passes (w.row).active unapplied (λ none. not-few are (λ n has. by_held none n has (has_node (w.round).holders n) refl))
        where
          by_held : ((n : ℕ) → n < 32 → unapplied n ≡ false) → (n : ℕ) → has_node (w.round).receivers n ≡ true → (t : Bool) → has_node (w.round).holders n ≡ t → has_node (w.round).holders n ≡ true
          by_held none n has true f = f
          by_held none n has false f =
              let is : unapplied n ≡ true = ap (λ (t : Bool). t && not (has_node (w.round).holders n)) has ∙ ap (λ (t : Bool). not t) f in
              absurd (true≢false (sym is ∙ none n (member_small (w.round).receivers n has)))

  pub short-ends : AreRules rules → state_in s.version L ≡ Some s → RoundSince s.version F b L → FallsShort L line x
  short-ends are at (NotBegun h) = absurd (w.since h)
  short-ends are at (UnderWay lt run) = absurd (true≢false (sym run ∙ (w.has_row).no_round))
  short-ends are at (Over sp) = elim w.gives [
    | inl reads ↦ falls-short L line (history F) (sent-later lane rules line d s.version o stamp J F L a) (is_round_read s.version b number) _ _ _ x reads.1 (λ none. unread-missing sp at none _ (some-unread sp at reads.0))
    | inr applies ↦ falls-short L line (history F) (sent-later lane rules line d s.version o stamp J F L a) (is_round_apply s.version b number) _ _ _ x applies.1 (λ none. unapplied-missing sp at applies.0 none _ (some-unapplied sp at applies.0 are))
  ]
