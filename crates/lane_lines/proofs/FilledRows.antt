-- What the row of a line comes to after its round: enough complete members, or why the operation ends.
use Rattle.std.proofs.Common.{◌≡◌, ◌⊎◌, ◌↔◌, ◌≤◌, ◌<◌, ◌+◌, ◌&&◌, not, ℕ, Bool, true, false, cond, List, ◌∷◌, Option, Some, None, inl, inr, refl, sym, ap, subst, ◌∙◌, arith, eq-eqb}
use mathlib.Core.Bool.{true≢false}
use mathlib.Core.Path.{fun_ext}
use Rattle.std.proofs.lemmas.Bool.{and_parts}
use Rattle.bucket_ids.specs.Buckets.{Low}
use Rattle.node_sets.specs.Members.{has_node, size_of, Within}
use Rattle.stamps.specs.declared.stamp.Stamp.{Stamp}
use Rattle.cluster_states.specs.declared.cluster_state.ClusterState.{ClusterState}
use Rattle.cluster_states.specs.Publishing.{serves}
use Rattle.carriers.specs.declared.fate.Fate.{Fate}
use Rattle.messages.specs.declared.late.Late.{Late}
use Rattle.messages.specs.declared.operation.Operation.{Operation}
use Rattle.messages.specs.declared.outcome.Outcome.{Outcome}
use Rattle.messages.specs.declared.outcome.Outcome.TheVariants.{TooFew, NoMemory}
use Rattle.bucket_db.specs.declared.row.Row.{Row}
use Rattle.distributor_part.specs.declared.rules.Rules.{Rules}
use Rattle.distributor_part.specs.Steps.{HasEnough}
use Rattle.merge_rounds.specs.Rounds.{RoundState, did_show, HaveAllShown}
use Rattle.op_machine.specs.Nodes.{first_node, count_nodes}
use Rattle.op_machine.specs.Outcomes.{node_or_zero, absent_of}
use Rattle.op_machine.proofs.NodeLaws.{none_is, first_node-least, first_node-all, size_of-count, size_of-zero}
use Rattle.lane_journals.specs.Buckets.{contains, key_of}
use Rattle.lane_journals.specs.Events as plain
use Rattle.lane_journals.specs.Sets.{count}
use Rattle.lane_journals.specs.Readers.{Journal, Message, complete, sent, rounds, round_of, row_at}
use Rattle.lane_journals.specs.Endings.{RoundFellShort, UnionFellShort}
use Rattle.lane_journals.specs.Meanings.{history, nodes}
use Rattle.lane_journals.specs.Places.{receivers_of}
use Rattle.lane_journals.specs.KeptJournals.{IsLegalStep}
use Rattle.lane_journals.specs.declared.event.LaneEvent.{LaneEvent}
use Rattle.lane_journals.specs.declared.event.LaneEvent.TheVariants.{Closed}
use Rattle.lane_keeping.specs.LaneKeeping.{setting_of, PartKeeps}
use Rattle.lane_keeping.specs.Acting.{IsKnownRow}
use Rattle.round_keeping.specs.Laws.{OfAnswers, HasTooFew}
use Rattle.operation_keeping.specs.Laws.{OfPreparing, OfUnderWay}
use Rattle.operation_keeping.specs.OperationKeeping.{WasShortSince}
use Rattle.operation_keeping.proofs.Counting.{small, count_nodes-is}
use Rattle.proof_basics.proofs.Tests.{not_answered}
use Rattle.operation_keeping.specs.Wants.{Ends, EndsUnless, NoRoundSince, reads_short, union_short, is_round_read, is_round_apply, AfterRound, ShortWants}
use Rattle.lane_states.specs.declared.lane_state.LaneState.{LaneState}
use Rattle.round_keeping.specs.declared.round_run.RoundRun.{RoundRun}
use Rattle.round_keeping.specs.declared.round_run.RoundEnd.{RoundEnd}
use Rattle.lane_states.specs.LaneStates.{journal_of, part_of, IsKept}
use Rattle.round_keeping.specs.RoundRuns.{WasRefused, is_read_in, is_apply_in, NoneRuns, are_missing, is_short, EndsWith, IsEnd, IsWholeRun}
use Rattle.lane_lines.specs.declared.readying.Shortage.{Shortage}
use Rattle.lane_lines.specs.declared.readying.Shortage.TheVariants as shortage
use Rattle.lane_lines.specs.Readying.{outcome_of, IsToPrepare, BeganNoRound, HasSent, EndsShort, HasRowFor, FindsOr}
use Rattle.lane_lines.specs.FilledRows.{shortage_by, shortage_after, IsFound}
use Rattle.lane_lines.proofs.RoundLines.{Follows, round-since, sent-since, state-is}
use Rattle.lane_lines.proofs.RowRounds.{HasBegun, follows-now}

-- ---- enough complete members

-- rows of one key have as many
same-size : (v : ℕ) (H : Journal) (key : ℕ) (row other : Row) → IsKnownRow v H row → IsKnownRow v H other → contains row.bucket key ≡ true → contains other.bucket key ≡ true → size_of other.complete ≡ size_of row.complete
same-size v H key row other k l i j =
    size_of-count other.complete (has_node row.complete) (λ n. sym (l.members n key j) ∙ k.members n key i) ∙ sym (size_of-count row.complete (has_node row.complete) (λ n. refl))

pub row-for : (c : LaneState) (v key : ℕ) (row : Row) → IsKnownRow v (history (journal_of c)) row → contains row.bucket key ≡ true → c.rules.acks ≤ size_of row.complete → HasRowFor c v key
row-for c v key row known inside enough = record {
  opened_is = (known.is_row).opened;
  enough = λ other k i. subst (λ (n : ℕ). c.rules.acks ≤ n) (sym (same-size v (history (journal_of c)) key row other known k inside i)) enough;
}

-- without a round
pub row-fit : (c e : LaneState) (d v key missing : ℕ) → e.rules ≡ c.rules → journal_of e ≡ journal_of c → PartKeeps c.lane c.rules (journal_of c) d (part_of c d) → (h : HasEnough (part_of c d) key missing)
    → IsKnownRow v (history (journal_of c)) h.row → contains (h.row).bucket key ≡ true → HasRowFor e v key
row-fit c e d v key missing rules same kept h known inside =
    row-for e v key h.row (subst (λ (J : List LaneEvent). IsKnownRow v (history J) h.row) (sym same) known) inside
    (subst (λ (r : Rules). r.acks ≤ size_of (h.row).complete) (kept.rules_are ∙ sym rules) h.enough)

-- what the row comes to
pub finds-by : (from : Journal) (c : LaneState) (line : ℕ) (o : Operation) (s : ClusterState) (e : RoundEnd) (serving : ℕ) → IsKnownRow s.version (history (journal_of c)) e.row → contains (e.row).bucket (key_of o.id) ≡ true
    → (x : Option Shortage) → IsFound e serving c.rules.acks x → (size_of (e.row).complete < c.rules.acks → EndsShort from c line o (shortage_after e serving c.rules.acks)) → FindsOr from c line o s x
finds-by from c line o s e serving known inside None found short = row-for c s.version (key_of o.id) e.row known inside found
finds-by from c line o s e serving known inside (Some x) found short = subst (λ (z : Shortage). EndsShort from c line o z) (sym found.1) (short found.0)

-- where not all readers were shown, those are counted that serve and aren't missing
pub short-of-reads : (e : RoundEnd) (serving acks shown answered needed absent : ℕ) → e.short ≡ false → e.whole ≡ false → ((n : ℕ) → has_node shown n ≡ (has_node serving n && not (has_node e.missing n)))
    → answered ≡ size_of shown → needed ≡ size_of serving → absent ≡ absent_of (e.row).active (has_node e.missing) → shortage.TooFew answered needed absent ≡ shortage_after e serving acks
short-of-reads e serving acks shown answered needed absent short whole are a b c =
    ap (λ (k : ℕ). shortage.TooFew k needed absent) (a ∙ size_of-count shown (λ n. has_node serving n && not (has_node e.missing n)) are)
    ∙ ap (λ (k : ℕ). shortage.TooFew (count_nodes (λ n. has_node serving n && not (has_node e.missing n))) k absent) b
    ∙ ap (λ (k : ℕ). shortage.TooFew (count_nodes (λ n. has_node serving n && not (has_node e.missing n))) (size_of serving) k) c
    ∙ sym (ap (λ (t : Bool). shortage_by t e.whole e serving acks) short ∙ ap (λ (t : Bool). shortage_by false t e serving acks) whole)

-- ---- who is absent

-- one that is missing, where not nobody is
absent-missing : (active : Option ℕ) (p : ℕ → Bool) → (((n : ℕ) → n < 32 → p n ≡ false) → ⊥) → p (absent_of active p) ≡ true
absent-missing active p some = by_active active
  where
    by_first : (o : Option ℕ) → first_node p ≡ o → p (node_or_zero o) ≡ true
    by_first (Some n) e = (first_node-least p n e).here
    by_first None e = absurd (some (first_node-all p e))

    by_test : (n : ℕ) (t : Bool) → p n ≡ t → p (cond t n (node_or_zero (first_node p))) ≡ true
    by_test n true e = e
    by_test n false e = by_first (first_node p) refl

    by_active : (o : Option ℕ) → p (absent_of o p) ≡ true
    by_active None = by_first (first_node p) refl
    by_active (Some n) = by_test n (p n) refl

-- ---- too few

-- who serves and isn't missing was shown
unmissed : (a w : Bool) → (a && not (a && not w)) ≡ (a && w)
unmissed true true = refl
unmissed true false = refl
unmissed false w = refl

shown-by : (a w : Bool) → a ≡ true → (a && not w) ≡ false → w ≡ true
shown-by true true h e = refl
shown-by true false h e = absurd (true≢false e)
shown-by false w h e = absurd (true≢false (sym h))

module _ (from : Journal) (c : LaneState) (J : List LaneEvent) (line : ℕ) (o : Operation) (d : ℕ) (stamp : Option Stamp) (y : RoundRun) (e : RoundEnd) (end : IsEnd (journal_of c) y e)
    (f : Follows c.lane J (journal_of c) line o d y.state stamp (y.round).row (rounds (y.state).version (history J) + 1)) (serving : ℕ) (serving_are : (n : ℕ) → has_node serving n ≡ serves y.state n) where
  abbrev H : Journal
  H = history (journal_of c)

  abbrev number : ℕ
  number = round_of (y.state).version (y.round).row (history (journal_of c))

  abbrev outcome : Outcome
  outcome = outcome_of (shortage_after e serving c.rules.acks)

  -- ---- who is missing

  abbrev unread : ℕ → Bool
  unread n = serves y.state n && not (did_show n (y.round).shown)

  abbrev unapplied : ℕ → Bool
  unapplied n = has_node (y.round).receivers n && not (has_node (y.round).holders n)

  missing-read : e.whole ≡ false → has_node e.missing ≡ unread
  missing-read w = fun_ext (λ n. end.missing_are n ∙ ap (λ (t : Bool). are_missing (y.round) t n) w ∙ ap (λ (t : Bool). t && not (did_show n (y.round).shown)) ((end.answers).readers_are n))

  missing-applied : e.whole ≡ true → has_node e.missing ≡ unapplied
  missing-applied w = fun_ext (λ n. end.missing_are n ∙ ap (λ (t : Bool). are_missing (y.round) t n) w)

  not-whole : e.whole ≡ false → HaveAllShown (y.round).readers (y.round).shown → ⊥
  not-whole w all = true≢false (sym (end.whole_is.1 all) ∙ w)

  -- ---- the outcome

  is-memory : e.short ≡ true → outcome ≡ NoMemory
  is-memory t = ap (λ (b : Bool). outcome_of (shortage_by b e.whole e serving c.rules.acks)) t

  served : ◌≡◌ {A = ℕ → Bool} (λ n. has_node serving n && not (unread n)) (λ n. serves y.state n && did_show n (y.round).shown)
  served = fun_ext (λ n. ap (λ (t : Bool). t && not (unread n)) (serving_are n) ∙ unmissed (serves y.state n) (did_show n (y.round).shown))

  is-read : e.short ≡ false → e.whole ≡ false → outcome ≡ reads_short y.state e.row y.round
  is-read t w =
      ap (λ (b : Bool). outcome_of (shortage_by b e.whole e serving c.rules.acks)) t
      ∙ ap (λ (b : Bool). outcome_of (shortage_by false b e serving c.rules.acks)) w
      ∙ ap (λ (m : ℕ → Bool). TooFew (count_nodes (λ n. has_node serving n && not (m n))) (size_of serving) (absent_of (e.row).active m)) (missing-read w)
      ∙ ap (λ (p : ℕ → Bool). TooFew (count_nodes p) (size_of serving) (absent_of (e.row).active unread)) served
      ∙ ap (λ (k : ℕ). TooFew (count_nodes (λ n. serves y.state n && did_show n (y.round).shown)) k (absent_of (e.row).active unread)) (size_of-count serving (serves y.state) serving_are)

  is-applied : e.short ≡ false → e.whole ≡ true → outcome ≡ union_short c.rules e.row y.round
  is-applied t w =
      ap (λ (b : Bool). outcome_of (shortage_by b e.whole e serving c.rules.acks)) t
      ∙ ap (λ (b : Bool). outcome_of (shortage_by false b e serving c.rules.acks)) w
      ∙ ap (λ (m : ℕ → Bool). TooFew (size_of (e.row).complete) c.rules.acks (absent_of (e.row).active m)) (missing-applied w)

  -- ---- what the line wants

  module _ (later : (k : ℕ) (m : Message) → sent k H ≡ Some m → m.version ≡ (y.state).version → m.round ≡ rounds (y.state).version (history J) + 1 → sent k from ≡ None) where
    -- whom the round asked, the line did
    was-short : (test : Message → Type 0) → ((m : Message) → test m → (m.version ≡ (y.state).version) × (m.round ≡ number)) → WasRefused H test → WasShortSince from H test
    was-short test of w = record {
      number = w.number;
      message = w.message;
      was_sent = w.was_sent;
      later = later w.number w.message w.was_sent (of w.message w.tested).0 ((of w.message w.tested).1 ∙ f.round_is);
      tested = w.tested;
      reply = w.reply;
      back = w.back;
    }

    was-refused : (test : Message → Type 0) → WasShortSince from H test → WasRefused H test
    was-refused test w = record { number = w.number; message = w.message; was_sent = w.was_sent; tested = w.tested; reply = w.reply; back = w.back }

    ends-unless : (flag : Bool) (test : Message → Type 0) (otherwise : Outcome) → ((m : Message) → test m → (m.version ≡ (y.state).version) × (m.round ≡ number)) → ((flag ≡ true) ↔ WasRefused H test)
        → (flag ≡ true → outcome ≡ NoMemory) → (flag ≡ false → outcome ≡ otherwise) → EndsUnless (WasShortSince from H test) otherwise (Ends outcome)
    ends-unless flag test otherwise of is short long = by_flag flag refl
      where
        by_flag : (t : Bool) → flag ≡ t → EndsUnless (WasShortSince from H test) otherwise (Ends outcome)
        by_flag true t = inl (was-short test of (is.0 t), short t)
        by_flag false t = inr (λ w. true≢false (sym (is.1 (was-refused test w)) ∙ t), long t)

    read-gives : e.whole ≡ false → EndsUnless (WasShortSince from H (is_round_read (y.state).version (y.round).row number)) (reads_short y.state e.row y.round) (Ends outcome)
    read-gives w =
        let same : e.short ≡ y.unread = end.short_is ∙ ap (λ (t : Bool). is_short y t) w in
        ends-unless y.unread (is_read_in (y.state).version (y.round).row number) (reads_short y.state e.row y.round) (λ m t. (t.0, t.1)) (end.refusals).unread_is (λ t. is-memory (same ∙ t)) (λ t. is-read (same ∙ t) w)

    applied-gives : e.whole ≡ true → EndsUnless (WasShortSince from H (is_round_apply (y.state).version (y.round).row number)) (union_short c.rules e.row y.round) (Ends outcome)
    applied-gives w =
        let same : e.short ≡ y.unapplied = end.short_is ∙ ap (λ (t : Bool). is_short y t) w in
        ends-unless y.unapplied (is_apply_in (y.state).version (y.round).row number) (union_short c.rules e.row y.round) (λ m t. (t.0, t.1)) (end.refusals).unapplied_is (λ t. is-memory (same ∙ t)) (λ t. is-applied (same ∙ t) w)

    after-round : AfterRound c.rules (journal_of c) from y.state e.row y.round (Ends outcome)
    after-round = by_whole e.whole refl
      where
        by_whole : (t : Bool) → e.whole ≡ t → AfterRound c.rules (journal_of c) from y.state e.row y.round (Ends outcome)
        by_whole false w = inl (not-whole w, subst (λ (b : Low). EndsUnless (WasShortSince from H (is_round_read (y.state).version b (round_of (y.state).version b H))) (reads_short y.state e.row y.round) (Ends outcome)) end.same_row (read-gives w))
        by_whole true w = inr (end.whole_is.0 w, subst (λ (b : Low). EndsUnless (WasShortSince from H (is_round_apply (y.state).version b (round_of (y.state).version b H))) (union_short c.rules e.row y.round) (Ends outcome)) end.same_row (applied-gives w))

    module _ (key_is : y.key ≡ key_of o.id) (none : NoneRuns (journal_of c)) (began_none : NoRoundSince J from (y.state).version (y.round).row) (few : size_of (e.row).complete < c.rules.acks) where
      inside : contains (e.row).bucket (key_of o.id) ≡ true
      inside = subst (λ (k : ℕ). contains (e.row).bucket k ≡ true) key_is end.inside

      short-wants : ShortWants c.rules (journal_of c) from (key_of o.id) y.state (Ends outcome)
      short-wants = record {
        row = e.row;
        has_row = record { known = end.known; inside = inside; no_round = none (y.state).version (e.row).bucket };
        few = few;
        round = y.round;
        same_row = end.same_row;
        since = λ h. round-since c.lane J (journal_of c) line o d y.state stamp (y.round).row f from began_none (subst (λ (b : Low). NoRoundSince (journal_of c) from (y.state).version b) (sym end.same_row) h);
        knows = end.answers;
        gives = after-round;
      }

      -- ---- it may end so

      module _ (gives_up : IsLegalStep (setting_of c.lane c.rules) (journal_of c) (Closed line NoMemory))
          (ends : (row : Low) (answered needed absent : ℕ) → row_at (y.state).version (key_of o.id) H ≡ Some row
          → RoundFellShort H (y.state).version row answered needed absent ⊎ UnionFellShort (setting_of c.lane c.rules) (journal_of c) (y.state).version (key_of o.id) row answered needed absent
          → IsLegalStep (setting_of c.lane c.rules) (journal_of c) (Closed line (TooFew answered needed absent)))
          (reads : (absent : ℕ) → serves y.state absent ≡ true → did_show absent (y.round).shown ≡ false
          → RoundFellShort H (y.state).version (y.round).row (count (λ n. serves y.state n && did_show n (y.round).shown)) (count (serves y.state)) absent)
          (applies : (key absent : ℕ) (row : Row) → HasTooFew c.rules.acks (journal_of c) y.state y.round key row absent
          → UnionFellShort (setting_of c.lane c.rules) (journal_of c) (y.state).version key (y.round).row (size_of row.complete) c.rules.acks absent) where
        abbrev MayClose : Outcome → Type 0
        MayClose x = IsLegalStep (setting_of c.lane c.rules) (journal_of c) (Closed line x)

        row-at : row_at (y.state).version (key_of o.id) H ≡ Some (y.round).row
        row-at = ((end.known).is_row).row (key_of o.id) inside ∙ ap (λ (b : Low). Some b) (sym end.same_row)

        all-shown : ((n : ℕ) → n < 32 → unread n ≡ false) → HaveAllShown (y.round).readers (y.round).shown
        all-shown all n h = shown-by (serves y.state n) (did_show n (y.round).shown) (sym ((end.answers).readers_are n) ∙ h) (all n (small (y.round).readers n h))

        read-legal : e.whole ≡ false → MayClose (reads_short y.state e.row y.round)
        read-legal w =
            let at : unread (absent_of (e.row).active unread) ≡ true = absent-missing (e.row).active unread (λ all. not-whole w (all-shown all)) in
            let a = absent_of (e.row).active unread in
            let parts = and_parts (serves y.state a) (not (did_show a (y.round).shown)) at in
            subst MayClose (ap (λ (k : ℕ). TooFew k (count (serves y.state)) a) (sym (count_nodes-is (λ n. serves y.state n && did_show n (y.round).shown)))
            ∙ ap (λ (k : ℕ). TooFew (count_nodes (λ n. serves y.state n && did_show n (y.round).shown)) k a) (sym (count_nodes-is (serves y.state))))
            (ends (y.round).row _ _ a row-at (inl (reads a parts.0 (not_answered (did_show a (y.round).shown) parts.1))))

        none-missing : e.whole ≡ true → ((n : ℕ) → n < 32 → unapplied n ≡ false) → size_of e.missing ≡ 0
        none-missing w all = size_of-zero e.missing (λ n less. ap (λ (p : ℕ → Bool). p n) (missing-applied w) ∙ all n less)

        applied-legal : e.whole ≡ true → (size_of e.missing ≡ 0 → ⊥) → MayClose (union_short c.rules e.row y.round)
        applied-legal w some =
            let at : unapplied (absent_of (e.row).active unapplied) ≡ true = absent-missing (e.row).active unapplied (λ all. some (none-missing w all)) in
            let a = absent_of (e.row).active unapplied in
            let parts = and_parts (has_node (y.round).receivers a) (not (has_node (y.round).holders a)) at in
            ends (y.round).row _ _ a row-at (inr (applies (key_of o.id) a e.row (record {
              known = end.known;
              same_bucket = sym end.same_row;
              inside = subst (λ (b : Low). contains b (key_of o.id) ≡ true) (sym end.same_row) inside;
              few = few;
              receiver = parts.0;
              no_holder = not_answered (has_node (y.round).holders a) parts.1;
            })))

        may-end : (e.short ≡ false → e.whole ≡ true → size_of e.missing ≡ 0 → ⊥) → MayClose outcome
        may-end some = by_test e.short e.whole refl refl
          where
            by_test : (t w : Bool) → e.short ≡ t → e.whole ≡ w → MayClose outcome
            by_test true w p q = subst MayClose (sym (is-memory p)) gives_up
            by_test false false p q = subst MayClose (sym (is-read p q)) (read-legal q)
            by_test false true p q = subst MayClose (sym (is-applied p q)) (applied-legal q (some p q))

        pub ends-short : (e.short ≡ false → e.whole ≡ true → size_of e.missing ≡ 0 → ⊥) → EndsShort from c line o (shortage_after e serving c.rules.acks)
        ends-short some = record {
          wanted = record {
            distributor = d;
            state = y.state;
            stamp = stamp;
            acting = (f.waits).acting;
            under_way = ((f.waits).knows).is_under_way;
            wants = inl (((f.waits).knows).unprepared, inr (inr (inr (inr short-wants))));
          };
          legal = may-end some;
        }

-- ---- somebody is absent

-- who took the union of a round is a complete member after it
ended-complete : (d v n key : ℕ) (b : Low) (holders : ℕ) (G : Journal) → contains b key ≡ true → has_node holders n ≡ true → complete v n key (plain.Decided d v (plain.RoundEnded b (nodes holders)) ∷ G) ≡ true
ended-complete d v n key b holders G inside has = rw (eq-eqb v v refl, inside, has) refl

module _ (J K : List LaneEvent) (y : RoundRun) (e : RoundEnd) (ended : EndsWith y J K) (end : IsEnd K y e) where
  is-complete : Within (y.round).holders (e.row).complete
  is-complete n has =
      sym ((end.known).members n y.key end.inside)
      ∙ ap (λ (L : List LaneEvent). complete (y.state).version n y.key (history L)) ended
      ∙ ended-complete y.distributor (y.state).version n y.key (y.round).row (y.round).holders (history J) (subst (λ (b : Low). contains b y.key ≡ true) (sym end.same_row) end.inside) has

  -- where nobody lacks the union, each receiver is
  all-complete : e.whole ≡ true → size_of e.missing ≡ 0 → Within (y.round).receivers (e.row).complete
  all-complete whole zero n has =
      is-complete n (shown-by (has_node (y.round).receivers n) (has_node (y.round).holders n) has
      (sym (end.missing_are n ∙ ap (λ (t : Bool). are_missing (y.round) t n) whole) ∙ first_node-all (has_node e.missing) (none_is e.missing zero) n (small (y.round).receivers n has)))

  -- and those are enough
  pub somebody-lacks : (acks : ℕ) → ((receivers full : ℕ) → receivers_of (y.state).version (y.round).row K ≡ Some receivers → Within receivers full → acks ≤ size_of full) → size_of (e.row).complete < acks → e.whole ≡ true → size_of e.missing ≡ 0 → ⊥
  somebody-lacks acks enough few whole zero =
      let many = enough (y.round).receivers (e.row).complete (end.answers).receivers_are (all-complete whole zero) in
      absurd (omega (arith, many, few))

-- ---- in a lane

module _ (gives_up : OfUnderWay (λ lane rules J d s line o stamp. IsLegalStep (setting_of lane rules) J (Closed line NoMemory)))
    (ends : OfPreparing (λ lane rules J d s line o stamp. (row : Low) (answered needed absent : ℕ) → row_at s.version (key_of o.id) (history J) ≡ Some row
    → RoundFellShort (history J) s.version row answered needed absent ⊎ UnionFellShort (setting_of lane rules) J s.version (key_of o.id) row answered needed absent
    → IsLegalStep (setting_of lane rules) J (Closed line (TooFew answered needed absent))))
    (reads : OfAnswers (λ lane rules J s r. (absent : ℕ) → serves s absent ≡ true → did_show absent r.shown ≡ false
    → RoundFellShort (history J) s.version r.row (count (λ n. serves s n && did_show n r.shown)) (count (serves s)) absent))
    (applies : OfAnswers (λ lane rules J s r. (key absent : ℕ) (row : Row) → HasTooFew rules.acks J s r key row absent
    → UnionFellShort (setting_of lane rules) J s.version key r.row (size_of row.complete) rules.acks absent))
    (x m n : LaneState) (d key : ℕ) (run : RoundRun) (h : HasBegun x m n d key run) (line : ℕ) (o : Operation) (s : ClusterState) (stamp : Option Stamp) (w : IsToPrepare x.lane (journal_of x) line o d s stamp)
    (same : key ≡ key_of o.id) (from : Journal) (has : HasSent from (journal_of x)) (none : BeganNoRound (journal_of x) from s.version) (lane_now : n.lane ≡ x.lane) (kept : IsKept x) (now : IsKept n) (none_runs : NoneRuns (journal_of n))
    (e : RoundEnd) (given after : List Fate) (last then : ℕ) (late rest : List Late) (whole : IsWholeRun m.lane run e given after last then late rest (journal_of m) (journal_of n)) where
  abbrev y : RoundRun
  y = whole.run

  state-then : (whole.run).state ≡ s
  state-then = ap (λ (z : RoundRun). z.state) (whole.same).run_is ∙ state-is x.lane (journal_of x) (journal_of m) d key run h.begins line o s stamp w

  key-then : (whole.run).key ≡ key_of o.id
  key-then = ap (λ (z : RoundRun). z.key) (whole.same).run_is ∙ (h.begins).key_is ∙ same

  follows : Follows n.lane (journal_of x) (journal_of n) line o d y.state stamp (y.round).row (rounds (y.state).version (history (journal_of x)) + 1)
  follows =
      subst (λ (b : Low). Follows n.lane (journal_of x) (journal_of n) line o d y.state stamp b (rounds (y.state).version (history (journal_of x)) + 1)) (sym (ap (λ (z : RoundState). z.row) (whole.same).round_is))
      (subst (λ (t : ClusterState). Follows n.lane (journal_of x) (journal_of n) line o d t stamp (run.round).row (rounds t.version (history (journal_of x)) + 1)) (sym state-then)
      (subst (λ (l : Low). Follows l (journal_of x) (journal_of n) line o d s stamp (run.round).row (rounds s.version (history (journal_of x)) + 1)) (sym lane_now)
      (follows-now x m n d key run h line o s stamp w e given after last then late rest whole)))

  later : (k : ℕ) (z : Message) → sent k (history (journal_of n)) ≡ Some z → z.version ≡ (y.state).version → z.round ≡ rounds (y.state).version (history (journal_of x)) + 1 → sent k from ≡ None
  later = sent-since n.lane (journal_of x) (journal_of n) line o d y.state stamp (y.round).row follows from has

  -- the row has enough complete members, or the operation may end as it wants
  pub finds-after : (serving : ℕ) → ((k : ℕ) → has_node serving k ≡ serves run.state k) → (found : Option Shortage) → IsFound e serving n.rules.acks found
      → (size_of (e.row).complete < n.rules.acks → e.whole ≡ true → size_of e.missing ≡ 0 → ⊥) → FindsOr from n line o s found
  finds-after serving are found is some =
      subst (λ (t : ClusterState). FindsOr from n line o t found) state-then
      (finds-by from n line o y.state e serving (whole.end).known (subst (λ (k : ℕ). contains (e.row).bucket k ≡ true) key-then (whole.end).inside) found is
      (λ few. ends-short from n (journal_of x) line o d stamp y e whole.end follows serving (λ k. are k ∙ ap (λ (t : ClusterState). serves t k) (sym (ap (λ (z : RoundRun). z.state) (whole.same).run_is))) later key-then none_runs
      (subst (λ (t : ClusterState). BeganNoRound (journal_of x) from t.version) (sym state-then) none (y.round).row) few
      (gives_up _ _ _ _ _ _ _ now.keeps d y.state line o stamp ((follows.waits).knows).is_under_way)
      (ends _ _ _ _ _ _ _ now.keeps d y.state line o stamp (follows.waits).knows)
      (reads _ _ _ _ _ _ _ now.keeps d y.state y.round (follows.waits).acting (whole.end).answers)
      (applies _ _ _ _ _ _ _ now.keeps d y.state y.round (follows.waits).acting (whole.end).answers)
      (λ long w z. some few w z)))
