-- The end of a round, and what is known after it.
use Rattle.std.proofs.Common.{◌≡◌, ℕ, Bool, true, false, cond, List, ◌∷◌, refl, sym, ap, ◌∙◌, subst, eq-eqb}
use mathlib.Core.Bool.{true≢false}
use Rattle.bucket_ids.specs.Buckets.{Low}
use Rattle.node_sets.specs.Members.{has_node}
use Rattle.cluster_states.specs.declared.cluster_state.ClusterState.{ClusterState}
use Rattle.messages.specs.declared.decision.Decision.TheVariants as choice
use Rattle.merge_rounds.specs.Rounds.{RoundState}
use Rattle.lane_journals.specs.Buckets.{contains, same_bucket}
use Rattle.lane_journals.specs.Events as plain
use Rattle.lane_journals.specs.Readers.{Journal, round_of, running}
use Rattle.lane_journals.specs.Facts.{AnsweredApply, Idle}
use Rattle.lane_journals.specs.States.{state_of}
use Rattle.lane_journals.specs.Meanings.{nodes, history}
use Rattle.lane_journals.specs.Places.{Setting}
use Rattle.lane_journals.specs.KeptJournals.{IsLegal, IsLegalStep}
use Rattle.lane_journals.specs.declared.event.LaneEvent.{LaneEvent}
use Rattle.lane_journals.specs.declared.event.LaneEvent.TheVariants as event
use Rattle.lane_journals.proofs.BucketLaws.{same_bucket-refl, own-low}
use Rattle.lane_journals.proofs.Rows.{running-idle}
use Rattle.lane_journals.proofs.Meant.{meant-legal}
use Rattle.lane_keeping.proofs.Uniting.{union-stays}
use Rattle.lane_keeping.specs.Acting.{IsActing}
use Rattle.lane_keeping.specs.RoundKeeping.{KnowsAnswers, KnowsRound, NoRound}
use Rattle.round_keeping.proofs.Waiting.{answered-in, answered-stays}

module _ (S : Setting) (J : List LaneEvent) (l : IsLegal S J) (d : ℕ) (s : ClusterState) (r : RoundState) (act : IsActing S.lane J d s) (know : KnowsRound S.lane J d s r) where
  abbrev H : Journal
  H = history J

  abbrev v : ℕ
  v = s.version

  idle : Idle v r.row H
  idle line begin p o is =
      let own = own-low r.row (know.valid).fits in
      running-idle S.acks (state_of H) H (meant-legal S J l) v line begin p r.row (r.row).low know.under_way o own (subst (λ (b : Low). contains b (r.row).low ≡ true) (sym is) own)

  module _ (complete : ℕ) where
    abbrev K : List LaneEvent
    K = event.Decided d v (choice.RoundEnded r.row complete) ∷ J

    pub ends : ((n : ℕ) → has_node complete n ≡ has_node r.holders n) → IsLegalStep S J (event.Decided d v (choice.RoundEnded r.row complete))
    ends same = record {
      noted = tt;
      permitted = (
        act.holds,
        record {
          under_way = know.under_way;
          idle = idle;
          answered = λ n h. ((know.answers).holders_are n).0 (sym (same n) ∙ h);
          whole = λ n a. same n ∙ ((know.answers).holders_are n).1 a;
        },
      );
      placed = (record { state = s; published = act.published; owner = act.owner }, tt);
      ended = tt;
    }

    pub over : NoRound K s
    over b = ap (λ (t : Bool). cond t (cond (same_bucket r.row b) false (running v b H)) (running v b H)) (eq-eqb v v refl) ∙ by (same_bucket r.row b) refl
      where
        other : (t : Bool) → running v b H ≡ t → same_bucket r.row b ≡ false → t ≡ false
        other false h e = refl
        other true h e = absurd (true≢false (sym (ap (same_bucket r.row) (know.only b h) ∙ same_bucket-refl r.row) ∙ e))

        by : (t : Bool) → same_bucket r.row b ≡ t → cond t false (running v b H) ≡ false
        by true e = refl
        by false e = other (running v b H) refl e

    back : (number n : ℕ) → AnsweredApply v number n r.row (history K) → AnsweredApply v number n r.row H
    back number n a = answered-in v number n r.row (history K) H a a.was_sent a.reply a.back

    pub still-known : KnowsAnswers K s r
    still-known = let a = know.answers in record {
      readers_are = a.readers_are;
      receivers_are = a.receivers_are;
      shown_are = a.shown_are;
      pieces_are = a.pieces_are;
      reading = a.reading;
      union_is = union-stays v (round_of v r.row H) H (plain.Decided d v (plain.RoundEnded r.row (nodes complete))) _ r.union a.union_is;
      written = a.written;
      lies = a.lies;
      holders_are = λ n. (λ h. answered-stays v (round_of v r.row H) n r.row H (plain.Decided d v (plain.RoundEnded r.row (nodes complete))) ((a.holders_are n).0 h), λ h. (a.holders_are n).1 (back (round_of v r.row H) n h));
    }
