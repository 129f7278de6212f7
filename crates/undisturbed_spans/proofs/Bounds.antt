-- The beginning of a round, before anything was sent, and its end, where all that it was told is known.
use Rattle.std.proofs.Common.{◌≡◌, ◌<◌, ◌&&◌, ℕ, Bool, true, false, nat_lt, List, ◌∷◌, Option, Some, None, is_some, refl, sym, ap, subst, ◌∙◌, arith}
use Rattle.std.proofs.lemmas.Bool.Decides.{nat_tests}
use mathlib.Core.Bool.{true≢false}
use Rattle.bucket_ids.specs.Buckets.{Low}
use Rattle.node_sets.specs.Members.{has_node, size_below}
use Rattle.cluster_states.specs.declared.cluster_state.ClusterState.{ClusterState}
use Rattle.cluster_states.specs.Publishing.{serves}
use Rattle.carriers.specs.declared.fate.Fate.{Fate}
use Rattle.messages.specs.declared.late.Late.{Late}
use Rattle.entry_maps.specs.EntryCodes.{Entries}
use Rattle.messages.specs.declared.step.NodePieces.{NodePieces}
use Rattle.messages.specs.declared.decision.Decision.TheVariants.{RoundBegun, RoundEnded}
use Rattle.merge_rounds.specs.Rounds.{RoundState, did_show, IsOver}
use Rattle.lane_journals.specs.Readers.{Journal, Message, answer, version, round_of}
use Rattle.lane_journals.specs.Facts.{AnsweredApply}
use Rattle.lane_journals.specs.Meanings.{history}
use Rattle.lane_journals.specs.declared.event.LaneEvent.{LaneEvent}
use Rattle.lane_journals.specs.declared.event.LaneEvent.TheVariants.{Sent, Delivered, Returned, Decided}
use Rattle.lane_keeping.specs.RoundKeeping.{is_among_first, AreAnswers, KnowsAnswersOf, KnowsAnswers, KnowsRoundOf, KnowsRound}
use Rattle.round_keeping.specs.declared.round_run.RoundRun.{RoundRun}
use Rattle.round_keeping.specs.declared.round_run.RoundEnd.{RoundEnd}
use Rattle.lane_carriage.specs.Carrying.{AreCarried}
use Rattle.round_keeping.specs.RoundRuns.{WasRefused, is_read_in, is_apply_in, KnowsRefusals, GoesOn, Begins, IsEnd, IsWholeRun}
use Rattle.round_keeping.proofs.Runs.{carried-decided}
use Rattle.round_keeping.proofs.Staying.{stays-round}
use Rattle.lane_carriage.proofs.Staying.{IsOfMessage}
use Rattle.undisturbed_spans.specs.Rounding.{IsUnsent}
use Rattle.undisturbed_spans.specs.Running.{NoneWants, IsStarted}

-- ---- its beginning

no-some : {X : Type 0} (o : Option X) → is_some o ≡ false → o ≡ None
no-some None h = refl
no-some (Some x) h = absurd (true≢false h)

none-first : (t : Bool) (i : ℕ) → (t && nat_lt i 0) ≡ false
none-first t i = grind (arith, nat_tests)

module _ (lane : Low) (key : ℕ) (J J1 : List LaneEvent) (x : RoundRun) (b : Begins lane J J1 x.distributor key x) where
  knows : KnowsRound lane J1 x.distributor x.state x.round
  knows = (b.runs).knows

  unsent : IsUnsent J1 (x.state).version (round_of (x.state).version (x.round).row (history J1))
  unsent = record {
    told = λ n. knows.applies_are n ∙ (ap (λ (i : ℕ). is_among_first (x.round).receivers i n) (ap (λ (z : RoundRun). (z.round).applies) (b.new).is) ∙ none-first (has_node (x.round).receivers n) (size_below (x.round).receivers n));
    asked = λ n. knows.reads_are n ∙ (ap (λ (i : ℕ). is_among_first (x.round).readers i n) (ap (λ (z : RoundRun). (z.round).reads) (b.new).is) ∙ none-first (has_node (x.round).readers n) (size_below (x.round).readers n));
    answers = λ n. no-some (answer (x.state).version (round_of (x.state).version (x.round).row (history J1)) n (history J1))
        (sym ((knows.answers).shown_are n) ∙ ap (did_show n) (ap (λ (z : RoundRun). (z.round).shown) (b.new).is));
  }

  -- nothing was sent or answered yet
  pub started : (given : List Fate) (last : ℕ) (late : List Late) → AreCarried given J last late → ((n : ℕ) → serves x.state n ≡ true → version n (history J) ≡ (x.state).version) → ((n : ℕ) → serves x.state n ≡ true → n < 32)
      → IsStarted x.state given last late J1 (round_of (x.state).version (x.round).row (history J1)) (x.round).row
  started given last late c current few = record {
    carried = subst (λ (L : List LaneEvent). AreCarried given L last late) (sym b.grows) (carried-decided given J last late x.distributor (x.state).version (RoundBegun (x.round).row (x.round).receivers) c);
    unsent = unsent;
    round_is = refl;
    under_way = knows.under_way;
    current = λ n h. ap (λ (L : List LaneEvent). version n (history L)) b.grows ∙ current n h;
    few = few;
  }

-- ---- its end

module _ (J : List LaneEvent) (d w : ℕ) (b : Low) (set : ℕ) where
  abbrev H : Journal
  H = history (Decided d w (RoundEnded b set) ∷ J)

  applied-before : (v r n : ℕ) (c : Low) → AnsweredApply v r n c H → AnsweredApply v r n c (history J)
  applied-before v r n c a = record {
    number = a.number;
    message = a.message;
    union = a.union;
    content = a.content;
    names = a.names;
    was_sent = a.was_sent;
    receiver = a.receiver;
    version = a.version;
    round = a.round;
    body = a.body;
    reply = a.reply;
    back = a.back;
  }

  applied-behind : (v r n : ℕ) (c : Low) → AnsweredApply v r n c (history J) → AnsweredApply v r n c H
  applied-behind v r n c a = record {
    number = a.number;
    message = a.message;
    union = a.union;
    content = a.content;
    names = a.names;
    was_sent = a.was_sent;
    receiver = a.receiver;
    version = a.version;
    round = a.round;
    body = a.body;
    reply = a.reply;
    back = a.back;
  }

  refused-behind : (test : Message → Type 0) → WasRefused (history J) test → WasRefused H test
  refused-behind test f = record { number = f.number; message = f.message; was_sent = f.was_sent; tested = f.tested; reply = f.reply; back = f.back }

  -- the answers were the same before
  pub answers-before : (i : ℕ) (s : ClusterState) (row : Low) (readers receivers : ℕ) (shown : List NodePieces) (union : Entries) (holders : ℕ)
      → AreAnswers i (Decided d w (RoundEnded b set) ∷ J) s row readers receivers shown union holders → AreAnswers i J s row readers receivers shown union holders
  answers-before i s row readers receivers shown union holders a = record {
    readers_are = a.readers_are;
    receivers_are = a.receivers_are;
    shown_are = a.shown_are;
    pieces_are = a.pieces_are;
    reading = a.reading;
    union_is = record { covers = (a.union_is).covers; attained = (a.union_is).attained };
    written = a.written;
    lies = a.lies;
    holders_are = λ n. (λ h. applied-before s.version i n row ((a.holders_are n).0 h), λ h. (a.holders_are n).1 (applied-behind s.version i n row h));
  }

  -- and no node wanted memory before
  pub none-wanted : (v i : ℕ) (row : Low) (unread unapplied : Bool) → KnowsRefusals H v i row unread unapplied → unread ≡ false → unapplied ≡ false → NoneWants J v i row
  none-wanted v i row unread unapplied k u p = record {
    reads = λ h. true≢false (sym ((k.unread_is).1 (refused-behind (is_read_in v row i) h)) ∙ u);
    applies = λ h. true≢false (sym ((k.unapplied_is).1 (refused-behind (is_apply_in v row i) h)) ∙ p);
  }

number-stays : (v number : ℕ) (row : Low) (e : LaneEvent) (L : List LaneEvent) → IsOfMessage e → round_of v row (history L) ≡ number → round_of v row (history (e ∷ L)) ≡ number
number-stays v number row (Sent n w d to body) L i h = h
number-stays v number row (Delivered n r) L i h = h
number-stays v number row (Returned n) L i h = h
number-stays v number row _ L i h = absurd i

module _ (lane : Low) (J1 K : List LaneEvent) (x y : RoundRun) (e : RoundEnd) (given after : List Fate) (last until : ℕ) (late rest : List Late)
    (w : IsWholeRun lane x e given after last until late rest J1 K) (go : GoesOn x y) (ie : IsEnd K y e) where
  abbrev z : RoundRun
  z = w.run

  abbrev v : ℕ
  v = (x.state).version

  abbrev row : Low
  row = (x.round).row

  -- the event of its end
  abbrev pub over : LaneEvent
  over = Decided z.distributor (z.state).version (RoundEnded (z.round).row (z.round).holders)

  abbrev pub number : ℕ
  number = round_of v row (history J1)

  pub number-same : round_of v row (history w.before) ≡ number
  number-same = stays-round (λ (L : List LaneEvent). round_of v row (history L) ≡ number) (number-stays v number row) lane x.distributor x.state last late J1 (w.on).fates rest w.before (w.on).run refl

  -- the round as it was sent, and as it was told
  abbrev as-sent : RoundState
  as-sent = record x.round { reads = (z.round).reads; applies = (z.round).applies; awaited = (z.round).awaited; shown = (z.round).shown; union = (z.round).union; holders = (z.round).holders }

  abbrev pub as-told : RoundState
  as-told = record x.round { reads = (y.round).reads; applies = (y.round).applies; awaited = (y.round).awaited; shown = (y.round).shown; union = (y.round).union; holders = (y.round).holders }

  abbrev pub whole-round : RoundState
  whole-round = record x.round { reads = (z.round).reads; applies = (z.round).applies; awaited = None; shown = (y.round).shown; union = (y.round).union; holders = (y.round).holders }

  known : KnowsRoundOf number lane w.before x.distributor x.state as-sent
  known = subst (λ (i : ℕ). KnowsRoundOf i lane w.before x.distributor x.state as-sent) number-same (subst (λ (q : RoundState). KnowsRound lane w.before x.distributor x.state q) (w.same).round_is w.knows)

  state-same : y.state ≡ x.state
  state-same = ap (λ (q : RoundRun). q.state) go.run_is

  told-behind : KnowsAnswers (over ∷ w.before) x.state as-told
  told-behind = subst (λ (L : List LaneEvent). KnowsAnswers L x.state as-told) w.ended (subst (λ (q : RoundState). KnowsAnswers K x.state q) go.round_is (subst (λ (t : ClusterState). KnowsAnswers K t y.round) state-same ie.answers))

  answers : KnowsAnswersOf number w.before x.state as-told
  answers = answers-before w.before z.distributor (z.state).version (z.round).row (z.round).holders number x.state row (x.round).readers (x.round).receivers (y.round).shown (y.round).union (y.round).holders
      (subst (λ (i : ℕ). KnowsAnswersOf i (over ∷ w.before) x.state as-told) number-same told-behind)

  abbrev Refusals : ClusterState → RoundState → List LaneEvent → Type 0
  Refusals t q L = KnowsRefusals (history L) t.version (round_of t.version q.row (history L)) q.row y.unread y.unapplied

  refusals : KnowsRefusals (history (over ∷ w.before)) v number row y.unread y.unapplied
  refusals = subst (λ (i : ℕ). KnowsRefusals (history (over ∷ w.before)) v i row y.unread y.unapplied) number-same
      (subst (λ (L : List LaneEvent). Refusals x.state as-told L) w.ended (subst (λ (q : RoundState). Refusals x.state q K) go.round_is (subst (λ (t : ClusterState). Refusals t y.round K) state-same ie.refusals)))

  pub fine : y.unread ≡ false → y.unapplied ≡ false → NoneWants w.before v number row
  fine = none-wanted w.before z.distributor (z.state).version (z.round).row (z.round).holders v number row y.unread y.unapplied refusals

  no-node : (n : ℕ) → ◌≡◌ {A = Option ℕ} None (Some n) → ⊥
  no-node n h = cc

  pub knows-whole : KnowsRoundOf number lane w.before x.distributor x.state whole-round
  knows-whole = record {
    valid = known.valid;
    origin_is = known.origin_is;
    under_way = known.under_way;
    only = known.only;
    reads_are = known.reads_are;
    applies_are = known.applies_are;
    order = known.order;
    reading = λ n none h. absurd (no-node n h);
    receivers_serve = known.receivers_serve;
    answers = answers;
  }

  sent-over : IsOver as-sent
  sent-over = subst IsOver (w.same).round_is w.over

  pub whole-over : IsOver whole-round
  whole-over = record {
    read = sent-over.read;
    applied = λ all. sent-over.applied (λ n h. (known.answers).shown_are n ∙ (sym (answers.shown_are n) ∙ all n h));
  }
