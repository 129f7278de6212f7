-- A pass sends a message to each node that serves: so where each of them was returned, each of these runs.
use Rattle.std.proofs.Common.{◌≡◌, ◌<◌, ◌≤◌, ◌+◌, ◌-◌, ◌%◌, ◌^◌, ◌++◌, ◌&&◌, ℕ, zero, suc, Bool, true, false, cond, List, [], ◌∷◌, length, Option, Some, None, if◌then◌else◌, slice_get, inl, inr, refl, sym, ap, ◌∙◌, subst, arith, eq-eqb, eqb, mod-eq_of_lt, pow_mono}
use mathlib.Core.Bool.{true≢false}
use Rattle.std.proofs.lemmas.Bool.Decides.{nat_tests}
use Rattle.std.proofs.lemmas.Bool.{and_from, lt-ltb, eqb-true}
use Rattle.std.specs.BTreeMap.{BTreeMap}
use Rattle.proof_basics.proofs.Options.{some-none}
use Rattle.bucket_ids.specs.Buckets.{Low, has_key}
use Rattle.node_sets.specs.Members.{has_node, size_of, size_below}
use Rattle.node_sets.proofs.Bits.{size_next, size_whole}
use Rattle.cluster_states.specs.declared.cluster_state.ClusterState.{ClusterState}
use Rattle.cluster_states.specs.Publishing.{serves}
use Rattle.carriers.specs.declared.fate.Fate.{Fate}
use Rattle.messages.specs.declared.decision.Decision.{Decision}
use Rattle.bucket_db.specs.Rows.{AreRows, buckets_of}
use Rattle.bucket_db.specs.declared.row.Row.{Row}
use Rattle.bucket_db.specs.declared.row.Deleting.{Deleting}
use Rattle.ideal_nodes.specs.Placement.{IsIdeal}
use Rattle.merge_rounds.specs.Rounds.{RoundState}
use Rattle.lane_journals.specs.Events as plain
use Rattle.lane_journals.specs.Readers.{Journal, Message, or_else, only_if, round_in, sent, first_reply, returned, stopped, is_read, round_of}
use Rattle.lane_journals.specs.Legal.{MayDeliver, Permits, Legal}
use Rattle.lane_journals.specs.Meanings.{history, meaning}
use Rattle.lane_journals.specs.Places.{Setting}
use Rattle.lane_journals.specs.KeptJournals.{IsLegal}
use Rattle.lane_journals.specs.States.{state_of}
use Rattle.lane_journals.specs.declared.event.LaneEvent.{LaneEvent}
use Rattle.lane_journals.specs.declared.event.LaneEvent.TheVariants.{Sent, Delivered, Returned}
use Rattle.lane_journals.proofs.Basics.{sent-stays, sent_before, replied-sent, returned-replied, first_reply-cases, number-fresh}
use Rattle.lane_journals.proofs.Meant.{meant-legal}
use Rattle.lane_keeping.specs.RoundKeeping.{was_sent, is_of, is_among_first, KnowsRound}
use Rattle.lane_keeping.specs.LaneKeeping.{setting_of}
use Rattle.lane_carriage.proofs.Staying.{IsOfMessage}
use Rattle.lane_states.specs.declared.lane_state.LaneState.{LaneState}
use Rattle.lane_states.specs.LaneStates.{journal_of}
use Rattle.round_keeping.specs.declared.round_run.RoundRun.{RoundRun}
use Rattle.round_keeping.specs.RoundRuns.{Begins, IsWholeRun}
use Rattle.round_keeping.proofs.Staying.{stays-round}
use Rattle.round_keeping.proofs.Sent.{among-none}
use Rattle.upkeep_spans.specs.Spans.{AreUpkeep, Nothing, More, OfUpkeep, later}
use Rattle.pass_machine.specs.declared.doing.Doing.{Doing}
use Rattle.pass_machine.specs.declared.doing.Doing.TheVariants as doing
use Rattle.pass_machine.specs.declared.doing.UpkeepStep.{UpkeepStep}
use Rattle.pass_machine.specs.declared.doing.UpkeepStep.TheVariants.{Tell, Decide, Accept, Round, Finished}
use Rattle.pass_machine.specs.declared.doing.Turn.TheVariants.{Over, Says}
use Rattle.pass_machine.specs.declared.notes.RowNote.{RowNote}
use Rattle.pass_machine.specs.declared.pass.UpkeepPass.{UpkeepPass}
use Rattle.pass_machine.specs.Going as going
use Rattle.pass_machine.specs.Going.{GoesOver}
use Rattle.pass_machine.specs.Settling.{end_delete, tell_active}
use Rattle.pass_machine.specs.Turns.{View, turn_at, answered, decided, accepted, resend_delete, resending_delete, resent_delete, resending_activate, resent_activate, round_or, begin_joins}
use Rattle.pass_machine.specs.declared.doing.Time.TheVariants.{First}
use Rattle.lane_upkeep.specs.declared.owner.Owner.{Owner}
use Rattle.lane_upkeep.specs.Maintaining.{AreReturned, HaveRun}
use Rattle.lane_upkeep.specs.Passing.{PassesOn, rows_in}
use Rattle.lane_upkeep.specs.RoundNotes.{NotesRun}
use Rattle.lane_upkeep.specs.Taking.{TakesStep, GoesOneOn, Runs, NoStep, MoreSteps, IsPass}
use Rattle.lane_upkeep.specs.UnderWay.{view_in, AreIdeal, is_taken_as}
use Rattle.lane_upkeep.proofs.Upkept.{upkeep-run, upkeep-begun, upkeep-then}
use Rattle.lane_upkeep.proofs.QuietOpenings.{back-of}

-- ---- messages between two journals

module _ (d v : ℕ) where
  unsent-before : (J K : List LaneEvent) → AreUpkeep d v J K → (k : ℕ) → sent k (history K) ≡ None → sent k (history J) ≡ None
  unsent-before J K Nothing k none = none
  unsent-before J K (More M e is more) k none = unsent-before J M more k (some-none (sent k (history M)) (λ m h. let wrong : None ≡ Some m = sym none ∙ sent-stays k (history M) m (meaning M e) h in cc))

  sent-after : (J K : List LaneEvent) → AreUpkeep d v J K → (k : ℕ) (m : Message) → sent k (history J) ≡ Some m → sent k (history K) ≡ Some m
  sent-after J K Nothing k m h = h
  sent-after J K (More M e is more) k m h = sent-stays k (history M) m (meaning M e) (sent-after J M more k m h)

-- a message that passes a test was sent behind the first journal
record IsSentIn (J K : List LaneEvent) (test : Message → Type 0) : Type 0 where
  number : ℕ
  message : Message
  unsent : sent number (history J) ≡ None
  was : sent number (history K) ≡ Some message
  passes : test message

widen : (d v : ℕ) (I J K L : List LaneEvent) (test : Message → Type 0) → AreUpkeep d v I J → AreUpkeep d v K L → IsSentIn J K test → IsSentIn I L test
widen d v I J K L test a b x = record { number = x.number; message = x.message; unsent = unsent-before d v I J a x.number x.unsent; was = sent-after d v K L b x.number x.message x.was; passes = x.passes }

-- what isn't read of the first journal and is read of the other was sent between
module _ (acks : ℕ) (P : ℕ → ℕ → Bool) (d v : ℕ) (test : Message → Bool) where
  sent-now : (k w e n : ℕ) (x : plain.Body) (H : Journal) → Permits acks P H (plain.Sent k w e n x) → sent k (plain.Sent k w e n x ∷ H) ≡ Some (record { version = w; receiver = n; body = x; round = round_in w x H })
  sent-now k w e n x H p = ap (λ (y : Option Message). or_else y (only_if (eqb k k) m)) (number-fresh P H k w e n x p) ∙ ap (λ (t : Bool). only_if t m) (eq-eqb k k refl)
    where
      m : Message
      m = record { version = w; receiver = n; body = x; round = round_in w x H }

  sent-between : (J K : List LaneEvent) → AreUpkeep d v J K → Legal acks P (history K) → was_sent test (history J) ≡ false → was_sent test (history K) ≡ true → IsSentIn J K (λ m. test m ≡ true)
  sent-between J K Nothing l none some = absurd (true≢false (sym some ∙ none))
  sent-between J K (More M e is more) l none some = by_event (meaning M e) refl l.1 some
      (λ h. let x = sent-between J M more l.0 none h in record { number = x.number; message = x.message; unsent = x.unsent; was = sent-stays x.number (history M) x.message (meaning M e) x.was; passes = x.passes })
    where
      by_event : (y : plain.Event) → meaning M e ≡ y → Permits acks P (history M) y → was_sent test (y ∷ history M) ≡ true → (was_sent test (history M) ≡ true → IsSentIn J (e ∷ M) (λ m. test m ≡ true)) → IsSentIn J (e ∷ M) (λ m. test m ≡ true)
      by_event (plain.Sent k w f n x) same p h ih = by_test (test m) refl h
        where
          m : Message
          m = record { version = w; receiver = n; body = x; round = round_in w x (history M) }

          by_test : (t : Bool) → test m ≡ t → cond t true (was_sent test (history M)) ≡ true → IsSentIn J (e ∷ M) (λ m. test m ≡ true)
          by_test true g h = record {
            number = k;
            message = m;
            unsent = unsent-before d v J M more k (number-fresh P (history M) k w f n x p);
            was = ap (λ (y : plain.Event). sent k (y ∷ history M)) same ∙ sent-now k w f n x (history M) p;
            passes = g;
          }
          by_test false g h = ih h
      by_event y same p h ih = ih h

-- ---- who replied ran

module _ (stays : OfUpkeep (λ J K. (n : ℕ) → stopped n (history K) ≡ stopped n (history J))) (acks : ℕ) (P : ℕ → ℕ → Bool) (d v : ℕ) where
  replied-runs : (J K : List LaneEvent) → AreUpkeep d v J K → Legal acks P (history K) → (k : ℕ) (m : Message) (r : plain.Reply) → sent k (history J) ≡ None → sent k (history K) ≡ Some m → first_reply k (history K) ≡ Some r → stopped m.receiver (history K) ≡ false
  replied-runs J K Nothing l k m r none was replied = let wrong : None ≡ Some m = sym none ∙ was in cc
  replied-runs J K (More M e is more) l k m r none was replied = stays d v M (e ∷ M) (More M e is Nothing) m.receiver ∙ elim (first_reply-cases k (history M) (meaning M e) r replied) [
    | inl old ↦ replied-runs J M more l.0 k m r none (sent_before acks P (history M) k (meaning M e) m (replied-sent acks P (history M) l.0 k r old) was) old
    | inr new ↦ (
        let p : MayDeliver (history M) k r = subst (λ (y : plain.Event). Permits acks P (history M) y) new.0 l.1 in
        let before : sent k (history M) ≡ Some m = sent_before acks P (history M) k (meaning M e) m (p.message, p.was_sent) was in
        let same : p.message ≡ m = (let a = sym p.was_sent ∙ before in cc) in
        subst (λ (x : Message). stopped x.receiver (history M) ≡ false) same p.runs)
  ]

-- ---- a round

below-less : (set n : ℕ) → has_node set n ≡ true → n < 32 → size_below set n < size_of set
below-less set n member small =
    let e : (n + 1) + (31 - n) ≡ 32 = omega (arith, small) in
    omega (arith, more (n + 1) (31 - n), ap (size_below set) e, size_next set n ∙ ap (λ (t : Bool). size_below set n + cond t 1 0) member, size_whole set)
  where
    at_least : (t : Bool) (k : ℕ) → k ≤ k + cond t 1 0
    at_least true k = omega arith
    at_least false k = omega arith

    more : (k j : ℕ) → size_below set k ≤ size_below set (k + j)
    more k zero = let e : k + 0 ≡ k = omega arith in omega (arith, ap (size_below set) e)
    more k (suc j) =
        let e : k + suc j ≡ (k + j) + 1 = omega arith in
        omega (arith, more k j, ap (size_below set) e, size_next set (k + j), at_least (has_node set (k + j)) (size_below set (k + j)))

number-stays : (v number : ℕ) (row : Low) (e : LaneEvent) (L : List LaneEvent) → IsOfMessage e → round_of v row (history L) ≡ number → round_of v row (history (e ∷ L)) ≡ number
number-stays v number row (Sent n w d to body) L i h = h
number-stays v number row (Delivered n r) L i h = h
number-stays v number row (Returned n) L i h = h
number-stays v number row _ L i h = absurd i

receiver-of : (kind : plain.Body → Bool) (v number n : ℕ) (m : Message) → is_of kind v number n m ≡ true → m.receiver ≡ n
receiver-of kind v number n m h = by_tests (kind m.body) (eqb m.version v) (eqb m.round number) (eqb m.receiver n) refl h
  where
    by_tests : (a b c e : Bool) → eqb m.receiver n ≡ e → (a && b && c && e) ≡ true → m.receiver ≡ n
    by_tests a b c true g k = eqb-true _ _ g
    by_tests true true true false g k = absurd (true≢false (sym k))
    by_tests true true false false g k = absurd (true≢false (sym k))
    by_tests true false c false g k = absurd (true≢false (sym k))
    by_tests false b c false g k = absurd (true≢false (sym k))

-- it sends a Read to each node that serves
module _ (S : Setting) (c e : LaneState) (o : Owner) (at : ℕ) (given now : List Fate) (note : RowNote) (r : NotesRun c e o at given now note) (legal : IsLegal S (journal_of e)) (few : (n : ℕ) → serves o.state n ≡ true → n < 32) where
  abbrev x : RoundRun
  x = (r.ran).begun

  abbrev J1 : List LaneEvent
  J1 = (r.ran).journal

  begins : Begins c.lane (journal_of c) J1 o.distributor x.key x
  begins = (r.ran).begins

  abbrev w : IsWholeRun c.lane x (r.ran).end given now c.last e.last c.late.late e.late.late J1 (journal_of e)
  w = (r.ran).whole

  abbrev y : RoundRun
  y = w.run

  legal-before : IsLegal S w.before
  legal-before = (subst (IsLegal S) w.ended legal).0

  on : AreUpkeep x.distributor (x.state).version J1 w.before
  on = upkeep-run c.lane x.distributor x.state c.last c.late.late J1 (w.on).fates e.late.late w.before (w.on).run

  row-same : (y.round).row ≡ (x.round).row
  row-same = ap (λ (z : RoundState). z.row) (w.same).round_is

  number-same : round_of (x.state).version (y.round).row (history w.before) ≡ round_of (x.state).version (x.round).row (history J1)
  number-same = ap (λ (b : Low). round_of (x.state).version b (history w.before)) row-same
      ∙ stays-round (λ (L : List LaneEvent). round_of (x.state).version (x.round).row (history L) ≡ round_of (x.state).version (x.round).row (history J1)) (number-stays (x.state).version (round_of (x.state).version (x.round).row (history J1)) (x.round).row) c.lane x.distributor x.state c.last c.late.late J1 (w.on).fates e.late.late w.before (w.on).run refl

  round-asks : (n : ℕ) → serves o.state n ≡ true → IsSentIn (journal_of c) (journal_of e) (λ m. m.receiver ≡ n)
  round-asks n serving =
      let test : Message → Bool = is_of is_read (x.state).version (round_of (x.state).version (x.round).row (history J1)) n in
      let here : serves x.state n ≡ true = ap (λ (s : ClusterState). serves s n) (r.ran).state_is ∙ serving in
      let knows : KnowsRound c.lane w.before x.distributor x.state y.round = w.knows in
      let reader : has_node (y.round).readers n ≡ true = (knows.answers).readers_are n ∙ here in
      let none : was_sent test (history J1) ≡ false = ((begins.runs).knows).reads_are n ∙ ap (λ (i : ℕ). is_among_first (x.round).readers i n) (ap (λ (z : RoundRun). (z.round).reads) (begins.new).is) ∙ among-none (x.round).readers n in
      let less = below-less (y.round).readers n reader (few n serving) in
      let some : was_sent test (history w.before) ≡ true =
      ap (λ (i : ℕ). was_sent (is_of is_read (x.state).version i n) (history w.before)) (sym number-same) ∙ knows.reads_are n ∙ and_from (has_node (y.round).readers n) _ reader (lt-ltb _ (y.round).reads (omega (arith, less, (w.over).read))) in
      let read = sent-between S.acks (state_of (history w.before)) x.distributor (x.state).version test J1 w.before on (meant-legal S w.before legal-before) none some in
      let mine : IsSentIn J1 w.before (λ m. m.receiver ≡ n) = record { number = read.number; message = read.message; unsent = read.unsent; was = read.was; passes = receiver-of is_read (x.state).version _ n read.message read.passes } in
      let wide : IsSentIn (journal_of c) w.before (λ m. m.receiver ≡ n) = widen o.distributor (x.state).version (journal_of c) J1 w.before w.before (λ m. m.receiver ≡ n) (upkeep-begun c.lane (journal_of c) J1 o.distributor x.key x begins) Nothing mine in
      subst (λ (L : List LaneEvent). IsSentIn (journal_of c) L (λ m. m.receiver ≡ n)) (sym w.ended)
      (record { number = wide.number; message = wide.message; unsent = wide.unsent; was = wide.was; passes = wide.passes })

-- ---- where the machine stands

-- behind its first round
abbrev has_rounded : Doing → Bool
has_rounded (doing.ResendingDelete at) = false
has_rounded (doing.ResentDelete at) = false
has_rounded (doing.ResendingActivate at) = false
has_rounded (doing.ResentActivate at taken) = false
has_rounded (doing.Rounding zero) = false
has_rounded _ = true

either-none : (t : Bool) (a b : Doing) → has_rounded a ≡ false → has_rounded b ≡ false → has_rounded (if t then a else b) ≡ false
either-none true a b f g = f
either-none false a b f g = g

-- nothing but a round brings it there
answered-still : (v : View) (t : Bool) (d : Doing) → has_rounded d ≡ false → has_rounded (answered v t d) ≡ false
answered-still v t (doing.ResendingDelete at) h = either-none t (doing.ResentDelete at) (doing.ResendingDelete (at + 1)) refl refl
answered-still v t (doing.ResentDelete at) h = refl
answered-still v t (doing.ResendingActivate at) h = refl
answered-still v t (doing.ResentActivate at taken) h = refl
answered-still v t (doing.Rounding zero) h = refl
answered-still v t (doing.Rounding (suc at)) h = absurd (true≢false h)
answered-still v t _ h = absurd (true≢false h)

decided-still : (d : Doing) (x : Decision) → has_rounded d ≡ false → has_rounded (decided d x) ≡ false
decided-still (doing.ResendingDelete at) x h = refl
decided-still (doing.ResentDelete at) x h = refl
decided-still (doing.ResendingActivate at) x h = refl
decided-still (doing.ResentActivate at taken) x h = refl
decided-still (doing.Rounding zero) x h = refl
decided-still (doing.Rounding (suc at)) x h = absurd (true≢false h)
decided-still _ x h = absurd (true≢false h)

accepted-still : (d : Doing) → has_rounded d ≡ false → has_rounded (accepted d) ≡ false
accepted-still (doing.ResendingDelete at) h = refl
accepted-still (doing.ResentDelete at) h = refl
accepted-still (doing.ResendingActivate at) h = refl
accepted-still (doing.ResentActivate at taken) h = refl
accepted-still (doing.Rounding zero) h = refl
accepted-still (doing.Rounding (suc at)) h = absurd (true≢false h)
accepted-still _ h = absurd (true≢false h)

goes-to : (d e : Doing) → Over d ≡ Over e → has_rounded d ≡ false → has_rounded e ≡ false
goes-to d e same h = let is : d ≡ e = cc in subst (λ (x : Doing). has_rounded x ≡ false) is h

no-step : {A : Type 0} (x : UpkeepStep) (e : Doing) → Says x ≡ Over e → A
no-step x e h = cc

says-or : (t : Bool) (x : UpkeepStep) (d e : Doing) → (if t then Says x else Over d) ≡ Over e → has_rounded d ≡ false → has_rounded e ≡ false
says-or true x d e h f = no-step x e h
says-or false x d e h f = goes-to d e h f

-- where there is a row it doesn't go over the rounds
module _ (v : View) (made : BTreeMap ℕ (Unit {0})) (notes : BTreeMap ℕ RowNote) (row : Row) (first : slice_get v.rows 0 ≡ Some row) where
  over-delete : (at : ℕ) (x : Option Deleting) (e : Doing) → resend_delete v at x ≡ Over e → has_rounded e ≡ false
  over-delete at None e h = goes-to (doing.ResendingDelete (at + 1)) e h refl
  over-delete at (Some x) e h = says-or _ _ (doing.ResendingDelete (at + 1)) e h refl

  over-ended : (at : ℕ) (x : Option Deleting) (next e : Doing) → has_rounded next ≡ false → end_delete at x next ≡ Over e → has_rounded e ≡ false
  over-ended at None next e f h = goes-to next e h f
  over-ended at (Some x) next e f h = no-step _ e h

  over-active : (b : Low) (done : Bool) (n : Option ℕ) (is : ℕ → Bool) (next e : Doing) → has_rounded next ≡ false → tell_active b done n is next ≡ Over e → has_rounded e ≡ false
  over-active b done None is next e f h = goes-to next e h f
  over-active b done (Some n) is next e f h = says-or _ _ next e h f

  over-resending : (at : ℕ) (o : Option Row) (e : Doing) → resending_delete v at o ≡ Over e → has_rounded e ≡ false
  over-resending at None e h = goes-to (doing.ResendingActivate 0) e h refl
  over-resending at (Some r) e h = over-delete at r.deleting e h

  over-resent : (at : ℕ) (o : Option Row) (e : Doing) → resent_delete v at o ≡ Over e → has_rounded e ≡ false
  over-resent at None e h = goes-to (doing.ResendingActivate 0) e h refl
  over-resent at (Some r) e h = over-ended at r.deleting (doing.ResendingDelete (at + 1)) e refl h

  over-activating : (at : ℕ) (o : Option Row) (e : Doing) → resending_activate v at o ≡ Over e → has_rounded e ≡ false
  over-activating at None e h = goes-to (doing.Rounding 0) e h refl
  over-activating at (Some r) e h = over-active r.bucket r.accepted r.active (serves v.state) (doing.ResendingActivate (at + 1)) e refl h

  over-activated : (at : ℕ) (taken : Bool) (o : Option Row) (e : Doing) → resent_activate at taken o ≡ Over e → has_rounded e ≡ false
  over-activated at taken None e h = goes-to (doing.Rounding 0) e h refl
  over-activated at taken (Some r) e h = says-or taken (Accept at) (doing.ResendingActivate (at + 1)) e h refl

  over-still : (d e : Doing) → turn_at v made notes d ≡ Over e → has_rounded d ≡ false → has_rounded e ≡ false
  over-still (doing.ResendingDelete at) e h f = over-resending at (slice_get v.rows at) e h
  over-still (doing.ResentDelete at) e h f = over-resent at (slice_get v.rows at) e h
  over-still (doing.ResendingActivate at) e h f = over-activating at (slice_get v.rows at) e h
  over-still (doing.ResentActivate at taken) e h f = over-activated at taken (slice_get v.rows at) e h
  over-still (doing.Rounding zero) e h f = no-step (Round 0) e (sym (ap (λ (o : Option Row). round_or 0 o (begin_joins v First)) first) ∙ h)
  over-still (doing.Rounding (suc at)) e h f = absurd (true≢false f)
  over-still _ e h f = absurd (true≢false f)

  all-over : (d e : Doing) → GoesOver v made notes d e → has_rounded d ≡ false → has_rounded e ≡ false
  all-over d e (going.Stays _) f = f
  all-over d e (going.Goes _ x _ turn rest) f = all-over x e rest (over-still d x turn f)

-- ---- all steps

legal-tail : (S : Setting) (d v : ℕ) (J K : List LaneEvent) → AreUpkeep d v J K → IsLegal S K → IsLegal S J
legal-tail S d v J K Nothing l = l
legal-tail S d v J K (More M e is more) l = legal-tail S d v J M more l.0

-- a lane has a row
first-row : (lane : Low) (rows : List Row) → AreRows lane (buckets_of rows) → (row : Row) × (slice_get rows 0 ≡ Some row)
first-row lane (row ∷ rows) are = (row, refl)
first-row lane [] are = absurd (none (has_key lane lane.low) own ((are.partition) lane.low low))
  where
    low : lane.low < 2 ^ 58
    low = let fits = (are.bucket).fits in omega (arith, fits, pow_mono {i = lane.bits} {j = 58} (are.bucket).most)

    own : has_key lane lane.low ≡ true
    own = let same : lane.low % 2 ^ lane.bits ≡ lane.low = mod-eq_of_lt (are.bucket).fits in grind (arith, nat_tests)

    none : (t : Bool) → t ≡ true → ◌≡◌ {A = ℕ} 0 (cond t 1 0) → ⊥
    none true e h = omega (arith, h)
    none false e h = absurd (true≢false (sym e))

module _ (o : Owner) (ideal : Low → List ℕ) (are : AreIdeal o ideal) (few : (n : ℕ) → serves o.state n ≡ true → n < 32) where
  -- each node that serves was sent a message between
  abbrev AskedAll : List LaneEvent → List LaneEvent → Type 0
  AskedAll J K = (n : ℕ) → serves o.state n ≡ true → IsSentIn J K (λ m. m.receiver ≡ n)

  grown : (c e : LaneState) (p q : UpkeepPass) (given now : List Fate) → Runs o c p given e q now → AreUpkeep o.distributor (o.state).version (journal_of c) (journal_of e)
  grown _ _ _ _ _ _ (NoStep c p given) = Nothing
  grown _ _ _ _ _ _ (MoreSteps c m e p q r given mid now runs step) = upkeep-then o.distributor (o.state).version (journal_of c) (journal_of m) (journal_of e) (grown c m p q given mid runs) (step.on).grows

  -- a step before the first round that brings the machine behind one is that round
  step-asks : (S : Setting) (c e : LaneState) (p q : UpkeepPass) (given now : List Fate) → GoesOneOn c e o p q given now true → IsLegal S (journal_of e) → has_rounded p.doing ≡ false → has_rounded q.doing ≡ true → AskedAll (journal_of c) (journal_of e)
  step-asks S c e p q given now step legal before behind = by_step step.step step.does
    where
      still : has_rounded (step.next).doing ≡ false
      still = let r = first-row c.lane (rows_in c o) step.whole in
          all-over (view_in ideal c o) p.made p.notes.by_number r.0 r.1 p.doing (step.next).doing ((step.comes).goes ideal are) before

      no : (d : Doing) → q.doing ≡ d → has_rounded d ≡ false → AskedAll (journal_of c) (journal_of e)
      no d is f = absurd (true≢false (sym behind ∙ ap has_rounded is ∙ f))

      by_step : (x : UpkeepStep) → TakesStep x c e o step.next q given now → AskedAll (journal_of c) (journal_of e)
      by_step (Tell n b) h = no (answered (view_in ideal e o) (is_taken_as b h.reply) (step.next).doing) (h.behind ideal are) (answered-still (view_in ideal e o) (is_taken_as b h.reply) (step.next).doing still)
      by_step (Decide at y) h = no (decided (step.next).doing y) (h.1).behind (decided-still (step.next).doing y still)
      by_step (Accept at) h = no (accepted (step.next).doing) (h.1).behind (accepted-still (step.next).doing still)
      by_step (Round at) h = round-asks S c e o at given now h.note h.ran legal few
      by_step Finished h = absurd h

  -- so steps that bring it there asked all
  runs-ask : (S : Setting) (c e : LaneState) (p q : UpkeepPass) (given now : List Fate) → Runs o c p given e q now → IsLegal S (journal_of e) → has_rounded p.doing ≡ false → has_rounded q.doing ≡ true → AskedAll (journal_of c) (journal_of e)
  runs-ask S _ _ _ _ _ _ (NoStep c p given) legal before behind = absurd (true≢false (sym behind ∙ before))
  runs-ask S _ _ _ _ _ _ (MoreSteps c m e p q r given mid now runs step) legal before behind =
      by_test (has_rounded q.doing) refl (runs-ask S c m p q given mid runs (legal-tail S d v (journal_of m) (journal_of e) (step.on).grows legal) before)
    where
      d : ℕ
      d = o.distributor

      v : ℕ
      v = (o.state).version

      by_test : (t : Bool) → has_rounded q.doing ≡ t → (has_rounded q.doing ≡ true → AskedAll (journal_of c) (journal_of m)) → AskedAll (journal_of c) (journal_of e)
      by_test true is ih = λ n h. widen d v (journal_of c) (journal_of c) (journal_of m) (journal_of e) (λ x. x.receiver ≡ n) Nothing (step.on).grows (ih is n h)
      by_test false is ih = λ n h. widen d v (journal_of c) (journal_of m) (journal_of e) (journal_of e) (λ x. x.receiver ≡ n) (grown c m p q given mid runs) Nothing (step-asks S m e q r mid now step legal is behind n h)

  -- a pass asks all
  pass-asks : (S : Setting) (c e : LaneState) (given now : List Fate) → IsPass c e o given now → IsLegal S (journal_of e) → AskedAll (journal_of c) (journal_of e)
  pass-asks S c e given now pass legal =
      let run = pass.run in
      runs-ask S c e run.first pass.last given now run.runs legal (ap has_rounded (run.new).begins) (by_test (has_rounded (pass.last).doing) refl)
    where
      by_test : (t : Bool) → has_rounded (pass.last).doing ≡ t → has_rounded (pass.last).doing ≡ true
      by_test true is = is
      by_test false is =
          let r = first-row e.lane (rows_in e o) pass.whole in
          absurd (true≢false (sym (ap has_rounded pass.finished) ∙ all-over (view_in ideal e o) (pass.last).made (pass.last).notes.by_number r.0 r.1 (pass.last).doing (pass.over).doing ((pass.ends).goes ideal are) is))

-- ---- the whole upkeep

-- settings have an ideal order of each bucket
abbrev pub AreOrdered : Type 0
AreOrdered = (s : ClusterState) (b : Low) → (nodes : List ℕ) × IsIdeal b s nodes

pub passes-reach : AreOrdered → OfUpkeep (λ J K. K ≡ later (length J) K ++ J) → OfUpkeep (λ J K. (n : ℕ) → stopped n (history K) ≡ stopped n (history J)) → (c m e : LaneState) (o : Owner) (given now : List Fate)
    → ((n : ℕ) → serves o.state n ≡ true → n < 32) → IsLegal (setting_of e.lane e.rules) (journal_of e) → PassesOn c m o → PassesOn m e o → IsPass m e o given now → AreReturned c e → HaveRun e o
passes-reach ordered span stays c m e o given now few legal opening on pass back n serving =
    let d = o.distributor in
    let v = (o.state).version in
    let ideal : Low → List ℕ = (λ b. (ordered o.state b).0) in
    let S = setting_of e.lane e.rules in
    let all = upkeep-then d v (journal_of c) (journal_of m) (journal_of e) opening.grows on.grows in
    let lawful = meant-legal S (journal_of e) legal in
    let x = widen d v (journal_of c) (journal_of m) (journal_of e) (journal_of e) (λ z. z.receiver ≡ n) opening.grows Nothing (pass-asks o ideal (λ b. (ordered o.state b).1) few S m e given now pass legal n serving) in
    let came = back-of (λ k. returned k (history (journal_of e))) x.number x.message (journal_of c) x.unsent (later (length (journal_of c)) (journal_of e)) (subst (λ (L : List LaneEvent). sent x.number (history L) ≡ Some x.message) (span d v (journal_of c) (journal_of e) all) x.was) back in
    let reply = returned-replied S.acks (state_of (history (journal_of e))) (history (journal_of e)) lawful x.number came in
    subst (λ (k : ℕ). stopped k (history (journal_of e)) ≡ false) x.passes
    (replied-runs stays S.acks (state_of (history (journal_of e))) d v (journal_of c) (journal_of e) all lawful x.number x.message reply.0 x.unsent x.was reply.1)
