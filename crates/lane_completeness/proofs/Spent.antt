-- A round that was begun since and is over: no reply to what was sent in it comes back any more.
use Rattle.std.proofs.Common.{◌≡◌, ◌⊎◌, ℕ, ◌<◌, ◌≤◌, Bool, true, false, cond, ◌&&◌, List, [], ◌∷◌, Option, Some, None, is_some, inl, inr, refl, sym, ap, ◌∙◌, subst, arith, eqb, eq-eqb}
use mathlib.Core.Bool.{true≢false}
use Rattle.std.proofs.lemmas.Bool.{eqb-true, and_from, lt-ltb}
use Rattle.bucket_ids.specs.Buckets.{Low}
use Rattle.node_sets.specs.Members.{has_node, size_of}
use Rattle.cluster_states.specs.declared.cluster_state.ClusterState.{ClusterState}
use Rattle.cluster_states.specs.Publishing.{serves}
use Rattle.messages.specs.declared.decision.Decision.TheVariants as choice
use Rattle.messages.specs.declared.operation.Operation.{Operation}
use Rattle.merge_rounds.specs.Rounds.{RoundState, HaveAllShown}
use Rattle.lane_journals.specs.Buckets.{contains, same_bucket}
use Rattle.lane_journals.specs.Events.{Content, Body, Ask, Read, ReadDoc, Store, Apply, Delete, Split, Join, Ready, Activate, Event, Sent, Returned}
use Rattle.lane_journals.specs.Readers.{Journal, Given, or_else, only_if, Message, sent, first_reply, is_read, round_in, rounds, round_of, running, answer, answer_of, complete}
use Rattle.lane_journals.specs.Facts.{AnsweredApply}
use Rattle.lane_journals.specs.Legal.{MaySend, MayCarry, Permits, Legal}
use Rattle.lane_journals.specs.Meanings.{history, meaning}
use Rattle.lane_journals.specs.Places.{state_in, receivers_of}
use Rattle.lane_journals.specs.declared.event.LaneEvent.{LaneEvent}
use Rattle.lane_journals.specs.declared.event.LaneEvent.TheVariants as event
use Rattle.lane_journals.proofs.BucketLaws.{same_bucket-refl}
use Rattle.lane_journals.proofs.Basics.{sent-stays, sent-cases, sent_before, returned-cases, returned-replied, replied-sent, first_reply-stays, number-fresh}
use Rattle.lane_journals.proofs.Rows.{IsRound, IsRound-stays, isround-one, running-round, sent-round}
use Rattle.lane_journals.proofs.Serials.{answer_of-parts}
use Rattle.lane_keeping.specs.RoundKeeping.{was_sent, is_apply, is_of, is_among_first}
use Rattle.lane_completeness.specs.Causes.{just_sent}
use Rattle.operation_keeping.proofs.Sizes.{member-place}
use Rattle.lane_completeness.proofs.Additions.{Ending}

-- ---- a message that passes a test

record SentAs (H : Journal) (test : Message → Bool) : Type 0 where
  number : ℕ
  message : Message
  was_sent : sent number H ≡ Some message
  passes : test message ≡ true

sent-as : (acks : ℕ) (P : ℕ → ℕ → Bool) (H : Journal) → Legal acks P H → (test : Message → Bool) → was_sent test H ≡ true → SentAs H test
sent-as acks P [] l test h = cc
sent-as acks P (e ∷ H) l test h = by_event e l.1 h (sent-as acks P H l.0 test)
  where
    later : (e : Event) → SentAs H test → SentAs (e ∷ H) test
    later e x = record { number = x.number; message = x.message; was_sent = sent-stays x.number H x.message e x.was_sent; passes = x.passes }

    by_event : (e : Event) → Permits acks P H e → was_sent test (e ∷ H) ≡ true → (was_sent test H ≡ true → SentAs H test) → SentAs (e ∷ H) test
    by_event (Sent k v d n x) p h ih = by_test (test m) refl h
      where
        m : Message
        m = record { version = v; receiver = n; body = x; round = round_in v x H }

        there : sent k (Sent k v d n x ∷ H) ≡ Some m
        there = ap (λ (y : Option Message). or_else y (only_if (eqb k k) m)) (number-fresh P H k v d n x p) ∙ ap (λ (t : Bool). only_if t m) (eq-eqb k k refl)

        by_test : (t : Bool) → test m ≡ t → cond t true (was_sent test H) ≡ true → SentAs (Sent k v d n x ∷ H) test
        by_test true f h = record { number = k; message = m; was_sent = there; passes = f }
        by_test false f h = later (Sent k v d n x) (ih h)
    by_event e p h ih = later e (ih h)

record OfParts (kind : Body → Bool) (v number n : ℕ) (m : Message) : Type 0 where
  body : kind m.body ≡ true
  version : m.version ≡ v
  round : m.round ≡ number
  receiver : m.receiver ≡ n

of-parts : (kind : Body → Bool) (v number n : ℕ) (m : Message) → is_of kind v number n m ≡ true → OfParts kind v number n m
of-parts kind v number n m h = by_tests (kind m.body) (eqb m.version v) (eqb m.round number) (eqb m.receiver n) refl refl refl refl h
  where
    by_tests : (a b c e : Bool) → kind m.body ≡ a → eqb m.version v ≡ b → eqb m.round number ≡ c → eqb m.receiver n ≡ e → (a && b && c && e) ≡ true → OfParts kind v number n m
    by_tests true true true true f g i j h = record { body = f; version = eqb-true _ _ g; round = eqb-true _ _ i; receiver = eqb-true _ _ j }
    by_tests true true true false f g i j h = cc
    by_tests true true false e f g i j h = cc
    by_tests true false c e f g i j h = cc
    by_tests false b c e f g i j h = cc

reading : (b : Body) → is_read b ≡ true → (c : Low) × (b ≡ Read c)
reading (Read c) h = (c, refl)
reading _ h = cc

applying : (b : Body) → is_apply b ≡ true → (c : Low) × (u : Content) × (b ≡ Apply c u)
applying (Apply c u) h = (c, u, refl)
applying _ h = cc

-- once all were sent each member is among the first
all-first : (set many n : ℕ) → has_node set n ≡ true → size_of set ≤ many → is_among_first set many n ≡ true
all-first set many n h most = and_from (has_node set n) _ h (lt-ltb _ many (let z = member-place set n h in omega arith))

-- ---- the round

-- in the round a message was sent to the node since the journal was J
pub record IsSentIn (v r n : ℕ) (J L : List LaneEvent) (test : Body → Type 0) : Type 0 where
  pub number : ℕ
  pub message : Message
  pub was_sent : sent number (history L) ≡ Some message
  pub late : sent number (history J) ≡ None
  pub version : message.version ≡ v
  pub round : message.round ≡ r
  pub receiver : message.receiver ≡ n
  pub body : test message.body

abbrev pub is_union : Low → Body → Type 0
is_union b x = (u : Content) × (x ≡ Apply b u)

pub record IsSpent (v : ℕ) (J : List LaneEvent) (r : ℕ) (b : Low) (L : List LaneEvent) : Type 0 where
  pub is_round : IsRound v r b (history L)
  pub later : rounds v (history J) < r
  pub over : running v b (history L) ≡ false
  -- none of its messages is one whose reply may still come back
  pub spent : (k : ℕ) (m : Message) → sent k (history L) ≡ Some m → m.version ≡ v → m.round ≡ r → just_sent L ≡ Some k → ⊥
  -- each node that serves was asked
  pub reads : (s : ClusterState) → state_in v L ≡ Some s → (n : ℕ) → serves s n ≡ true → IsSentIn v r n J L (λ x. x ≡ Read b)
  -- and once all answered each receiver was told
  pub applies : (s : ClusterState) → state_in v L ≡ Some s → ((n : ℕ) → serves s n ≡ true → is_some (answer v r n (history L)) ≡ true) → (set : ℕ) → receivers_of v b L ≡ Some set → (n : ℕ) → has_node set n ≡ true
      → IsSentIn v r n J L (is_union b)
  -- whoever answered that is complete
  pub marks : (n key : ℕ) → AnsweredApply v r n b (history L) → contains b key ≡ true → complete v n key (history L) ≡ true

sent-in-stays : (v r n : ℕ) (J L : List LaneEvent) (test : Body → Type 0) (e : LaneEvent) → IsSentIn v r n J L test → IsSentIn v r n J (e ∷ L) test
sent-in-stays v r n J L test e x = record { number = x.number; message = x.message; was_sent = sent-stays x.number (history L) x.message (meaning L e) x.was_sent; late = x.late; version = x.version; round = x.round; receiver = x.receiver; body = x.body }

-- ---- it stays

-- what was sent before the event and may still come back might come back before it
just-before : (acks : ℕ) (P : ℕ → ℕ → Bool) (L : List LaneEvent) (e : LaneEvent) → Legal acks P (history (e ∷ L)) → (k : ℕ) (m : Message) → sent k (history L) ≡ Some m → just_sent (e ∷ L) ≡ Some k → just_sent L ≡ Some k
just-before acks P L (event.Sent n v d to b) l k m s just =
    let same : n ≡ k = cc in
    let fresh = number-fresh P (history L) n v d to _ l.1 in
    let both : ◌≡◌ {A = Option Message} (Some m) None = sym s ∙ ap (λ (x : ℕ). sent x (history L)) (sym same) ∙ fresh in
    absurd (cc)
just-before acks P L (event.Delivered n r) l k m s just = just
just-before acks P L (event.Returned n) l k m s just = just
just-before acks P L _ l k m s just = absurd (cc)

-- the event leaves the row's round, and no complete member loses its mark
pub record Passes (v : ℕ) (b : Low) (L : List LaneEvent) (e : LaneEvent) : Type 0 where
  pub state : state_in v (e ∷ L) ≡ state_in v L
  pub round : round_of v b (history (e ∷ L)) ≡ round_of v b (history L)
  pub run : running v b (history (e ∷ L)) ≡ running v b (history L)
  pub receivers : receivers_of v b (e ∷ L) ≡ receivers_of v b L
  pub marks : (n key : ℕ) → complete v n key (history L) ≡ true → complete v n key (history (e ∷ L)) ≡ true

module _ (acks : ℕ) (P : ℕ → ℕ → Bool) (v : ℕ) (J : List LaneEvent) (r : ℕ) (b : Low) (L : List LaneEvent) (e : LaneEvent) (l : Legal acks P (history (e ∷ L))) (sp : IsSpent v J r b L)
    (in_turn : (k : ℕ) (m : Message) → meaning L e ≡ Returned k → sent k (history L) ≡ Some m → m.version ≡ v → m.round ≡ r → just_sent L ≡ Some k) where
  -- no message of it is sent any more
  no-other : (c : Low) → running v c (history L) ≡ true → round_of v c (history L) ≡ r → ⊥
  no-other c run of =
      let x : IsRound v r c (history L) = subst (λ (i : ℕ). IsRound v i c (history L)) of (running-round (history L) v c run) in
      let same = isround-one v r c b (history L) x sp.is_round in
      true≢false (sym (subst (λ (y : Low). running v y (history L) ≡ true) same run) ∙ sp.over)

  zero-round : r ≡ 0 → ⊥
  zero-round h = let z = sp.later in omega (arith, z, h)

  no-more : (n : ℕ) (x : Body) → MayCarry P (history L) v n x → round_in v x (history L) ≡ r → ⊥
  no-more n (Read c) may of = no-other c may.under_way of
  no-more n (Apply c u) may of = no-other c may.under_way of
  no-more n Ask may of = zero-round (sym of)
  no-more n (ReadDoc id) may of = zero-round (sym of)
  no-more n (Store id s) may of = zero-round (sym of)
  no-more n (Delete c s) may of = zero-round (sym of)
  no-more n (Split c) may of = zero-round (sym of)
  no-more n (Join c) may of = zero-round (sym of)
  no-more n (Ready c) may of = zero-round (sym of)
  no-more n (Activate c) may of = zero-round (sym of)

  spent-now : (k : ℕ) (m : Message) → sent k (history (e ∷ L)) ≡ Some m → m.version ≡ v → m.round ≡ r → just_sent (e ∷ L) ≡ Some k → ⊥
  spent-now k m s at of just = elim (sent-cases k (history L) (meaning L e) m s) [
    | inl old ↦ sp.spent k m old at of (just-before acks P L e l k m old just)
    | inr new ↦ (let p : MaySend P (history L) k m.version new.sender m.receiver m.body = subst (λ (x : Event). Permits acks P (history L) x) new.is l.1 in
        absurd (no-more m.receiver m.body (subst (λ (w : ℕ). MayCarry P (history L) w m.receiver m.body) at p.carries)
        (subst (λ (w : ℕ). round_in w m.body (history L) ≡ r) at (sym new.round ∙ of))))
  ]

  -- nor does one come back
  not-again : (k : ℕ) (m : Message) → meaning L e ≡ Returned k → sent k (history L) ≡ Some m → m.version ≡ v → m.round ≡ r → ⊥
  not-again k m is s at of =
      sp.spent k m s at of (in_turn k m is s at of)

  answer-before : (n : ℕ) → is_some (answer v r n (history (e ∷ L))) ≡ true → is_some (answer v r n (history L)) ≡ true
  answer-before n h = by_event (meaning L e) refl h
    where
      by_new : (k : ℕ) → meaning L e ≡ Returned k → (x : Option Given) → answer_of v r n (sent k (history L)) (first_reply k (history L)) ≡ x → is_some x ≡ true → ⊥
      by_new k is None f h = cc
      by_new k is (Some g) f h = let p = answer_of-parts v r n (sent k (history L)) (first_reply k (history L)) g f in not-again k p.message is p.is_message p.version p.round

      by_old : (k : ℕ) → meaning L e ≡ Returned k → (x : Option Given) → answer v r n (history L) ≡ x → is_some (or_else x (answer_of v r n (sent k (history L)) (first_reply k (history L)))) ≡ true → is_some x ≡ true
      by_old k is (Some g) f h = refl
      by_old k is None f h = absurd (by_new k is (answer_of v r n (sent k (history L)) (first_reply k (history L))) refl h)

      by_event : (x : Event) → meaning L e ≡ x → is_some (answer v r n (x ∷ history L)) ≡ true → is_some (answer v r n (history L)) ≡ true
      by_event (Returned k) is h = by_old k is (answer v r n (history L)) refl h
      by_event _ is h = h

  applied-before : (n : ℕ) → AnsweredApply v r n b (history (e ∷ L)) → AnsweredApply v r n b (history L)
  applied-before n a = elim (returned-cases a.number (history L) (meaning L e) a.back) [
    | inl old ↦ (let y = returned-replied acks P (history L) l.0 a.number old in
        let x = replied-sent acks P (history L) l.0 a.number y.0 y.1 in
        let z = first_reply-stays a.number (history L) y.0 (meaning L e) y.1 in
        record {
          number = a.number;
          message = a.message;
          union = a.union;
          content = a.content;
          names = a.names;
          was_sent = sent_before acks P (history L) a.number (meaning L e) a.message x a.was_sent;
          receiver = a.receiver;
          version = a.version;
          round = a.round;
          body = a.body;
          reply = y.1 ∙ sym z ∙ a.reply;
          back = old;
        })
    | inr new ↦ absurd (not-again a.number a.message new (subst (λ (x : Event). sent a.number (x ∷ history L) ≡ Some a.message) new a.was_sent) a.version a.round)
  ]

  pub spent-stays : Passes v b L e → IsSpent v J r b (e ∷ L)
  spent-stays p = record {
    is_round = IsRound-stays v r b (history L) (meaning L e) sp.is_round;
    later = sp.later;
    over = p.run ∙ sp.over;
    spent = spent-now;
    reads = λ s at n serving. sent-in-stays v r n J L (λ x. x ≡ Read b) e (sp.reads s (sym p.state ∙ at) n serving);
    applies = λ s at all set is n has. sent-in-stays v r n J L (is_union b) e (sp.applies s (sym p.state ∙ at) (λ m serving. answer-before m (all m serving)) set (sym p.receivers ∙ is) n has);
    marks = λ n key a inside. p.marks n key (sp.marks n key (applied-before n a) inside);
  }

-- ---- it ends

module _ (acks : ℕ) (P : ℕ → ℕ → Bool) (lane : Low) (line : ℕ) (o : Operation) (J L : List LaneEvent) (l : Legal acks P (history L)) (s : ClusterState) (r : RoundState) (ending : Ending lane L line o s r) where
  abbrev number : ℕ
  number = round_of s.version r.row (history L)

  module _ (began_since : rounds s.version (history J) < number)
      (late : (k : ℕ) (m : Message) → sent k (history L) ≡ Some m → m.version ≡ s.version → rounds s.version (history J) < m.round → sent k (history J) ≡ None) where
    same-state : (t : ClusterState) → state_in s.version L ≡ Some t → t ≡ s
    same-state t h = let z : Some t ≡ Some s = sym h ∙ ending.published in cc

    is-round : IsRound s.version number r.row (history L)
    is-round = running-round (history L) s.version r.row (ending.knows).under_way

    -- what belongs to the round is of its row, and was sent since
    same-row : (k : ℕ) (m : Message) (c : Low) → sent k (history L) ≡ Some m → m.version ≡ s.version → m.round ≡ number → (m.body ≡ Read c) ⊎ ((u : Content) × (m.body ≡ Apply c u)) → c ≡ r.row
    same-row k m c was at of is =
        let x = sent-round acks P (history L) l k m c was is in
        let y : IsRound s.version m.round c (history L) = subst (λ (w : ℕ). IsRound w m.round c (history L)) at x in
        isround-one s.version number c r.row (history L) (subst (λ (i : ℕ). IsRound s.version i c (history L)) of y) is-round

    since-then : (k : ℕ) (m : Message) → sent k (history L) ≡ Some m → m.version ≡ s.version → m.round ≡ number → sent k (history J) ≡ None
    since-then k m was at of = late k m was at (subst (λ (i : ℕ). rounds s.version (history J) < i) (sym of) began_since)

    was-read : (n : ℕ) → serves s n ≡ true → IsSentIn s.version number n J L (λ x. x ≡ Read r.row)
    was-read n serving =
        let reader = ((ending.knows).answers).readers_are n ∙ serving in
        let first = all-first r.readers r.reads n reader (ending.over).read in
        let x = sent-as acks P (history L) l (is_of is_read s.version number n) ((ending.knows).reads_are n ∙ first) in
        let p = of-parts is_read s.version number n x.message x.passes in
        let c = reading (x.message).body p.body in
        record {
          number = x.number;
          message = x.message;
          was_sent = x.was_sent;
          late = since-then x.number x.message x.was_sent p.version p.round;
          version = p.version;
          round = p.round;
          receiver = p.receiver;
          body = c.1 ∙ ap Read (same-row x.number x.message c.0 x.was_sent p.version p.round (inl c.1));
        }

    all-shown : ((n : ℕ) → serves s n ≡ true → is_some (answer s.version number n (history L)) ≡ true) → HaveAllShown r.readers r.shown
    all-shown answered n reader = ((ending.knows).answers).shown_are n ∙ answered n (sym (((ending.knows).answers).readers_are n) ∙ reader)

    was-told : ((n : ℕ) → serves s n ≡ true → is_some (answer s.version number n (history L)) ≡ true) → (n : ℕ) → has_node r.receivers n ≡ true → IsSentIn s.version number n J L (is_union r.row)
    was-told answered n has =
        let first = all-first r.receivers r.applies n has ((ending.over).applied (all-shown answered)) in
        let x = sent-as acks P (history L) l (is_of is_apply s.version number n) ((ending.knows).applies_are n ∙ first) in
        let p = of-parts is_apply s.version number n x.message x.passes in
        let c = applying (x.message).body p.body in
        let row = same-row x.number x.message c.0 x.was_sent p.version p.round (inr (c.1, c.2)) in
        record {
          number = x.number;
          message = x.message;
          was_sent = x.was_sent;
          late = since-then x.number x.message x.was_sent p.version p.round;
          version = p.version;
          round = p.round;
          receiver = p.receiver;
          body = (c.1, c.2 ∙ ap (λ (y : Low). Apply y c.1) row);
        }

    module _ (d : ℕ) where
      abbrev after : List LaneEvent
      after = event.Decided d s.version (choice.RoundEnded r.row r.holders) ∷ L

      sent-then : (n : ℕ) (test : Body → Type 0) → IsSentIn s.version number n J L test → IsSentIn s.version number n J after test
      sent-then n test x = record { number = x.number; message = x.message; was_sent = x.was_sent; late = x.late; version = x.version; round = x.round; receiver = x.receiver; body = x.body }

      applied-then : (n : ℕ) → AnsweredApply s.version number n r.row (history after) → AnsweredApply s.version number n r.row (history L)
      applied-then n a = record { number = a.number; message = a.message; union = a.union; content = a.content; names = a.names; was_sent = a.was_sent; receiver = a.receiver; version = a.version; round = a.round; body = a.body; reply = a.reply; back = a.back }

      told-then : ((n : ℕ) → serves s n ≡ true → is_some (answer s.version number n (history L)) ≡ true) → (set : ℕ) → receivers_of s.version r.row L ≡ Some set → (n : ℕ) → has_node set n ≡ true
          → IsSentIn s.version number n J after (is_union r.row)
      told-then answered set is n has =
          let same : set ≡ r.receivers = (let z : Some set ≡ Some r.receivers = sym is ∙ ((ending.knows).answers).receivers_are in cc) in
          sent-then n (is_union r.row) (was-told answered n (subst (λ (x : ℕ). has_node x n ≡ true) same has))

      holder-complete : (n key : ℕ) → has_node r.holders n ≡ true → contains r.row key ≡ true → complete s.version n key (history after) ≡ true
      holder-complete n key has inside = ap (λ (t : Bool). cond t (cond (contains r.row key) (cond (has_node r.holders n) true (complete s.version n key (history L))) (complete s.version n key (history L))) (complete s.version n key (history L))) (eq-eqb s.version s.version refl)
          ∙ ap (λ (t : Bool). cond t (cond (has_node r.holders n) true (complete s.version n key (history L))) (complete s.version n key (history L))) inside
          ∙ ap (λ (t : Bool). cond t true (complete s.version n key (history L))) has

      not-some : (k : ℕ) → ◌≡◌ {A = Option ℕ} None (Some k) → ⊥
      not-some k h = cc

      pub ended : IsSpent s.version J number r.row after
      ended = record {
        is_round = is-round;
        later = began_since;
        over = ap (λ (t : Bool). cond t (cond (same_bucket r.row r.row) false (running s.version r.row (history L))) (running s.version r.row (history L))) (eq-eqb s.version s.version refl)
            ∙ ap (λ (t : Bool). cond t false (running s.version r.row (history L))) (same_bucket-refl r.row);
        spent = λ k m was at of just. not-some k just;
        reads = λ t at n serving. sent-then n (λ x. x ≡ Read r.row) (was-read n (subst (λ (x : ClusterState). serves x n ≡ true) (same-state t at) serving));
        applies = λ t at answered set is n has. told-then (λ m serving. answered m (subst (λ (x : ClusterState). serves x m ≡ true) (sym (same-state t at)) serving)) set is n has;
        marks = λ n key a inside. holder-complete n key ((((ending.knows).answers).holders_are n).1 (applied-then n a)) inside;
      }
