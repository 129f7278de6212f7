-- The message that comes next in a round may be sent, and what is known then.
use Rattle.std.proofs.Common.{◌≡◌, ◌&&◌, ℕ, zero, suc, ◌+◌, ◌<◌, ◌≤◌, Bool, true, false, nat_lt, cond, List, ◌∷◌, Option, Some, None, is_some, inl, inr, refl, sym, ap, ◌∙◌, subst, arith, eqb, eq-eqb}
use mathlib.Core.Bool.{true≢false}
use Rattle.std.proofs.lemmas.Bool.Decides.{nat_tests}
use Rattle.bucket_ids.specs.Buckets.{Low}
use Rattle.node_sets.specs.Members.{has_node, size_of}
use Rattle.cluster_states.specs.declared.cluster_state.ClusterState.{ClusterState}
use Rattle.cluster_states.specs.Publishing.{serves}
use Rattle.messages.specs.Noting.{message_of, noted_body}
use Rattle.messages.specs.declared.message.Message.{Message as Letter}
use Rattle.messages.specs.declared.message.Origin.{Origin}
use Rattle.messages.specs.declared.body.Body.{Body as LetterBody}
use Rattle.messages.specs.declared.body.Body.TheVariants as body
use Rattle.node_model.specs.Nodes.{Node}
use Rattle.distributor_part.specs.declared.rules.Rules.{Rules}
use Rattle.distributor_part.specs.Parts.{Part}
use Rattle.merge_rounds.specs.Rounds.{RoundState, did_show, HaveAllShown, IsNth, IsRead, IsApply, IsNext, after_send}
use Rattle.lane_journals.specs.Events as plain
use Rattle.lane_journals.specs.Readers.{Journal, Message, Given, or_else, only_if, sent, first_reply, returned, is_read, answer, round_in, round_of}
use Rattle.lane_journals.specs.Legal.{Legal}
use Rattle.lane_journals.specs.States.{state_of}
use Rattle.lane_journals.specs.Meanings.{entry_at, meaning_body, history}
use Rattle.lane_journals.specs.Places.{Setting, Owns}
use Rattle.lane_journals.specs.KeptJournals.{IsLegalStep}
use Rattle.lane_journals.specs.declared.event.LaneEvent.{LaneEvent}
use Rattle.lane_journals.proofs.Basics.{replied-sent, returned-replied}
use Rattle.lane_journals.proofs.Rows.{running-row}
use Rattle.lane_journals.proofs.Meant.{meant-legal, state-serves}
use Rattle.lane_keeping.specs.Flights.{Brings, IsWhole}
use Rattle.lane_keeping.specs.Replaying.{sending}
use Rattle.lane_keeping.proofs.Flying.{flight-sent}
use Rattle.lane_keeping.proofs.Sending.{may-send}
use Rattle.lane_keeping.proofs.Uniting.{union-unites}
use Rattle.lane_keeping.specs.LaneKeeping.{setting_of, Keeps}
use Rattle.lane_keeping.specs.Asking.{IsJustSent}
use Rattle.lane_keeping.specs.Acting.{IsActing}
use Rattle.lane_keeping.specs.RoundKeeping.{was_sent, is_apply, is_of, is_among_first, origin_in, IsReading, KnowsRound, IsAwaited}
use Rattle.round_keeping.proofs.Sent.{among-none, among-next, among-turn, answered-read, applied-sent}
use Rattle.round_keeping.proofs.Waiting.{answers-sent}

module _ (lane : Low) (rules : Rules) (J : List LaneEvent) (newest : Option ClusterState) (last : ℕ) (nodes : List Node) (parts : List Part) (keep : Keeps lane rules J newest last nodes parts)
    (d : ℕ) (s : ClusterState) (r : RoundState) (act : IsActing lane J d s) (know : KnowsRound lane J d s r) where
  abbrev S : Setting
  S = setting_of lane rules

  abbrev H : Journal
  H = history J

  abbrev P : ℕ → ℕ → Bool
  P = state_of (history J)

  abbrev v : ℕ
  v = s.version

  abbrev number : ℕ
  number = round_of s.version r.row (history J)

  abbrev k : ℕ
  k = last + 1

  abbrev origin : Origin
  origin = origin_in lane d s

  abbrev read : LetterBody
  read = body.Read r.row None

  abbrev union : LetterBody
  union = body.Apply r.row r.union

  legal : Legal S.acks P H
  legal = meant-legal S J keep.legal

  serving : (n : ℕ) → P v n ≡ serves s n
  serving n = state-serves S J keep.legal v n s act.published

  owns : Owns S J d v
  owns = record { state = s; published = act.published; owner = act.owner }

  greater : (j : ℕ) (x : Message) → sent j H ≡ Some x → j < k
  greater j x h = let le = keep.numbered j x h in omega (arith, le)

  fresh : sent k H ≡ None
  fresh = by (sent k H) refl
    where
      by : (o : Option Message) → sent k H ≡ o → o ≡ None
      by None e = refl
      by (Some x) e = let less = greater k x e in absurd (omega (arith, less))

  unreplied : first_reply k H ≡ None
  unreplied = by (first_reply k H) refl
    where
      by : (o : Option plain.Reply) → first_reply k H ≡ o → o ≡ None
      by None e = refl
      by (Some y) e = let z = replied-sent S.acks P H legal k y e in let w = z.1 in let both = sym fresh ∙ w in cc

  unreturned : returned k H ≡ false
  unreturned = by (returned k H) refl
    where
      by : (t : Bool) → returned k H ≡ t → t ≡ false
      by false e = refl
      by true e = let z = returned-replied S.acks P H legal k e in let w = z.1 in let both = sym unreplied ∙ w in cc

  -- ---- what may be sent

  unapplied : r.reads < size_of r.readers → r.applies ≡ 0
  unapplied less = by r.applies know.order
    where
      by : (a : ℕ) → (0 < a → size_of r.readers ≤ r.reads) → a ≡ 0
      by zero h = refl
      by (suc a) h = let le = h (omega arith) in absurd (omega arith)

  none-applied : r.applies ≡ 0 → (n : ℕ) → was_sent (is_of is_apply v number n) H ≡ false
  none-applied e n = know.applies_are n ∙ ap (λ (a : ℕ). is_among_first r.receivers a n) e ∙ among-none r.receivers n

  legal-read : (n : ℕ) → r.reads < size_of r.readers → IsNth r.readers r.reads n → IsLegalStep S J (sending k (message_of origin n read))
  legal-read n less nth = may-send S J k (message_of origin n read) tt tt (record {
    greater = greater;
    holder = act.holds;
    member = serving n ∙ sym ((know.answers).readers_are n) ∙ nth.member;
    timing = inr (running-row S.acks P H legal v r.row know.under_way).opened;
    carries = record { under_way = know.under_way; first = λ i u a. true≢false (sym (applied-sent v number i r.row u H a) ∙ none-applied (unapplied less) i) };
  }) owns tt

  legal-apply : (n : ℕ) → HaveAllShown r.readers r.shown → has_node r.receivers n ≡ true → IsLegalStep S J (sending k (message_of origin n union))
  legal-apply n whole member = may-send S J k (message_of origin n union) (know.answers).written tt (record {
    greater = greater;
    holder = act.holds;
    member = serving n ∙ know.receivers_serve n member;
    timing = inr (running-row S.acks P H legal v r.row know.under_way).opened;
    carries = union-unites P H v r.row (λ i. did_show i r.shown) r.union know.under_way (know.answers).union_is (λ i h. whole i ((know.answers).readers_are i ∙ sym (serving i) ∙ h));
  }) owns (r.receivers, (know.answers).receivers_are, member)

  whole-read : IsWhole read
  whole-read = record { bucket = tt; inside = tt }

  whole-union : IsWhole union
  whole-union = record { bucket = know.valid; inside = (know.answers).lies }

  -- ---- what is known then

  module _ (n : ℕ) (b : LetterBody) where
    abbrev m : Letter
    m = message_of origin n b

    abbrev e : plain.Event
    e = plain.Sent k v d n (meaning_body J (noted_body b))

    just : IsLegalStep S J (sending k m) → Brings (λ t. entry_at t J) b → IsWhole b → IsJustSent (sending k m ∷ J) k m
    just step brings whole = record { flight = flight-sent S J k m step brings whole; unreplied = unreplied; unreturned = unreturned }

    abbrev new : Message
    new = record { version = v; receiver = n; body = meaning_body J (noted_body b); round = round_in v (meaning_body J (noted_body b)) H }

    of_round : round_in v (meaning_body J (noted_body b)) H ≡ number → (x : Message) → sent k (e ∷ H) ≡ Some x → x.round ≡ number
    of_round is x h =
        let now : sent k (e ∷ H) ≡ Some new = ap (λ (o : Option Message). or_else o (only_if (eqb k k) new)) fresh ∙ ap (λ (t : Bool). only_if t new) (eq-eqb k k refl) in
        let same : new ≡ x = (let both = sym now ∙ h in cc) in
        sym (ap (λ (z : Message). z.round) same) ∙ is

  -- the message passes the test of those to its receiver
  passes : (n i : ℕ) (t : Bool) → t ≡ true → (((t && eqb v v) && eqb number number) && eqb n i) ≡ eqb n i
  passes n i t h = rw (h, eq-eqb v v refl, eq-eqb number number refl) refl

  module _ (n : ℕ) (less : r.reads < size_of r.readers) (nth : IsNth r.readers r.reads n) where
    abbrev R : RoundState
    R = record r { reads = r.reads + 1; awaited = Some n }

    after-read : after_send r (Some (message_of origin n read)) ≡ R
    after-read = ap (λ (t : Bool). cond t R (record r { applies = r.applies + 1; awaited = Some n })) (lt r.reads (size_of r.readers) less)
      where
        lt : (a b : ℕ) → a < b → nat_lt a b ≡ true
        lt a b h = grind (arith, nat_tests)

    unshown : did_show n r.shown ≡ false
    unshown = (know.answers).shown_are n ∙ by (answer v number n H) refl
      where
        by : (o : Option Given) → answer v number n H ≡ o → is_some o ≡ false
        by None h = refl
        by (Some g) h = absurd (true≢false (sym (answered-read v number n H g h) ∙ know.reads_are n ∙ among-turn r.readers r.reads n nth))

    knows-read : KnowsRound lane (sending k (message_of origin n read) ∷ J) d s (after_send r (Some (message_of origin n read)))
    knows-read = subst (λ (x : RoundState). KnowsRound lane (sending k (message_of origin n read) ∷ J) d s x) (sym after-read) (record {
      valid = know.valid;
      origin_is = know.origin_is;
      under_way = know.under_way;
      only = know.only;
      reads_are = λ i. ap (λ (t : Bool). cond t true (was_sent (is_of is_read v number i) H)) (passes n i true refl) ∙ ap (cond (eqb n i) true) (know.reads_are i) ∙ sym (among-next r.readers r.reads n i nth);
      applies_are = know.applies_are;
      order = λ h. let le = know.order h in omega arith;
      reading = λ i h f. let same : n ≡ i = cc in subst (IsReading R) same (record { reader = nth.member; unshown = unshown });
      receivers_serve = know.receivers_serve;
      answers = answers-sent S J keep.legal s r number k (message_of origin n read) know.answers;
    })

    awaited-read : IsAwaited (sending k (message_of origin n read) ∷ J) (after_send r (Some (message_of origin n read))) k (message_of origin n read)
    awaited-read = subst (λ (x : RoundState). IsAwaited (sending k (message_of origin n read) ∷ J) x k (message_of origin n read)) (sym after-read) (record {
      awaited = refl;
      is = ap (λ (o : Origin). message_of o n read) (sym know.origin_is) ∙ ap (λ (b : LetterBody). message_of r.origin n b) (sym (ap (λ (a : ℕ). cond (eqb a 0) read union) (unapplied less)));
      just = just n read (legal-read n less nth) tt whole-read;
      of_round = of_round n read refl;
    })

  module _ (n : ℕ) (read-all : size_of r.readers ≤ r.reads) (whole : HaveAllShown r.readers r.shown) (nth : IsNth r.receivers r.applies n) where
    abbrev A : RoundState
    A = record r { applies = r.applies + 1; awaited = Some n }

    after-apply : after_send r (Some (message_of origin n union)) ≡ A
    after-apply = ap (λ (t : Bool). cond t (record r { reads = r.reads + 1; awaited = Some n }) A) (ge r.reads (size_of r.readers) read-all)
      where
        ge : (a b : ℕ) → b ≤ a → nat_lt a b ≡ false
        ge a b h = grind (arith, nat_tests)

    knows-apply : KnowsRound lane (sending k (message_of origin n union) ∷ J) d s (after_send r (Some (message_of origin n union)))
    knows-apply = subst (λ (x : RoundState). KnowsRound lane (sending k (message_of origin n union) ∷ J) d s x) (sym after-apply) (record {
      valid = know.valid;
      origin_is = know.origin_is;
      under_way = know.under_way;
      only = know.only;
      reads_are = know.reads_are;
      applies_are = λ i. ap (λ (t : Bool). cond t true (was_sent (is_of is_apply v number i) H)) (passes n i true refl) ∙ ap (cond (eqb n i) true) (know.applies_are i) ∙ sym (among-next r.receivers r.applies n i nth);
      order = λ h. read-all;
      reading = λ i h f. absurd (omega (arith, h));
      receivers_serve = know.receivers_serve;
      answers = answers-sent S J keep.legal s r number k (message_of origin n union) know.answers;
    })

    awaited-apply : IsAwaited (sending k (message_of origin n union) ∷ J) (after_send r (Some (message_of origin n union))) k (message_of origin n union)
    awaited-apply = subst (λ (x : RoundState). IsAwaited (sending k (message_of origin n union) ∷ J) x k (message_of origin n union)) (sym after-apply) (record {
      awaited = refl;
      is = ap (λ (o : Origin). message_of o n union) (sym know.origin_is) ∙ ap (λ (b : LetterBody). message_of r.origin n b) (sym (ap (λ (t : Bool). cond t read union) (more r.applies)));
      just = just n union (legal-apply n whole nth.member) (know.answers).written whole-union;
      of_round = of_round n union refl;
    })
      where
        more : (a : ℕ) → eqb (a + 1) 0 ≡ false
        more a = grind (arith, nat_tests)

  -- ---- the message that comes next

  module _ (m : Letter) where
    as-read : IsRead r m → m ≡ message_of origin m.receiver read
    as-read t = t.is ∙ ap (λ (o : Origin). message_of o m.receiver read) know.origin_is

    as-apply : IsApply r m → m ≡ message_of origin m.receiver union
    as-apply t = t.is ∙ ap (λ (o : Origin). message_of o m.receiver union) know.origin_is

    pub next-legal : IsNext r (Some m) → IsLegalStep S J (sending k m)
    next-legal (inl t) = subst (λ (x : Letter). IsLegalStep S J (sending k x)) (sym (as-read t)) (legal-read m.receiver t.turn t.to)
    next-legal (inr t) = subst (λ (x : Letter). IsLegalStep S J (sending k x)) (sym (as-apply t)) (legal-apply m.receiver t.whole (t.to).member)

    pub next-brings : IsNext r (Some m) → Brings (λ t. entry_at t J) m.body
    next-brings (inl t) = subst (λ (x : Letter). Brings (λ t. entry_at t J) x.body) (sym (as-read t)) tt
    next-brings (inr t) = subst (λ (x : Letter). Brings (λ t. entry_at t J) x.body) (sym (as-apply t)) (know.answers).written

    pub next-whole : IsNext r (Some m) → IsWhole m.body
    next-whole (inl t) = subst (λ (x : Letter). IsWhole x.body) (sym (as-read t)) whole-read
    next-whole (inr t) = subst (λ (x : Letter). IsWhole x.body) (sym (as-apply t)) whole-union

    pub next-knows : IsNext r (Some m) → KnowsRound lane (sending k m ∷ J) d s (after_send r (Some m))
    next-knows (inl t) = subst (λ (x : Letter). KnowsRound lane (sending k x ∷ J) d s (after_send r (Some x))) (sym (as-read t)) (knows-read m.receiver t.turn t.to)
    next-knows (inr t) = subst (λ (x : Letter). KnowsRound lane (sending k x ∷ J) d s (after_send r (Some x))) (sym (as-apply t)) (knows-apply m.receiver t.read t.whole t.to)

    pub next-awaited : IsNext r (Some m) → IsAwaited (sending k m ∷ J) (after_send r (Some m)) k m
    next-awaited (inl t) = subst (λ (x : Letter). IsAwaited (sending k x ∷ J) (after_send r (Some x)) k x) (sym (as-read t)) (awaited-read m.receiver t.turn t.to)
    next-awaited (inr t) = subst (λ (x : Letter). IsAwaited (sending k x ∷ J) (after_send r (Some x)) k x) (sym (as-apply t)) (awaited-apply m.receiver t.read t.whole t.to)
