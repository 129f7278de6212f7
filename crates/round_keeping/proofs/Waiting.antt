-- What stays known of a round while other messages come.
use Rattle.std.proofs.Common.{◌≡◌, ◌≢◌, ◌&&◌, ℕ, Bool, true, false, cond, List, ◌∷◌, Option, Some, None, is_some, refl, sym, ap, ◌∙◌, arith, eqb, subst}
use Rattle.std.proofs.lemmas.Bool.{eqb-true}
use Rattle.std.proofs.lemmas.Bool.Decides.{nat_tests}
use Rattle.bucket_ids.specs.Buckets.{Low}
use Rattle.cluster_states.specs.declared.cluster_state.ClusterState.{ClusterState}
use Rattle.messages.specs.declared.message.Message.{Message as Letter}
use Rattle.messages.specs.declared.body.Body.{Body as LetterBody}
use Rattle.messages.specs.declared.body.Body.TheVariants as body
use Rattle.messages.specs.declared.noted.NotedReply.{NotedReply}
use Rattle.pieces.specs.declared.piece.Piece.{Piece}
use Rattle.messages.specs.Noting.{noted_body}
use Rattle.merge_rounds.specs.Rounds.{RoundState}
use Rattle.lane_journals.specs.Buckets.{Bucket}
use Rattle.lane_journals.specs.Events.{Body, Read, Apply, Content, Reply, Answer, Event, Sent, Delivered, Returned}
use Rattle.lane_journals.specs.Readers.{Journal, Message, Given, or_else, only_if, sent, first_reply, returned, round_in, is_read, answer, answer_of}
use Rattle.lane_journals.specs.Facts.{AnsweredApply}
use Rattle.lane_journals.specs.Legal.{Legal}
use Rattle.lane_journals.specs.States.{state_of}
use Rattle.lane_journals.specs.Meanings.{history, meaning_body, meaning_reply}
use Rattle.lane_journals.specs.Places.{Setting}
use Rattle.lane_journals.specs.KeptJournals.{IsLegal}
use Rattle.lane_journals.specs.declared.event.LaneEvent.{LaneEvent}
use Rattle.lane_journals.specs.declared.event.LaneEvent.TheVariants as event
use Rattle.lane_journals.proofs.Basics.{sent-stays, first_reply-stays, returned-stays, replied-sent, returned-replied, sent_before}
use Rattle.lane_journals.proofs.Serials.{answer_of-parts}
use Rattle.lane_journals.proofs.Meant.{meant-legal}
use Rattle.lane_keeping.specs.Replaying.{sending}
use Rattle.lane_keeping.proofs.Flying.{flight-stays}
use Rattle.lane_keeping.proofs.Uniting.{union-stays}
use Rattle.lane_keeping.specs.RoundKeeping.{was_sent, is_apply, is_of, IsNamed, KnowsAnswersOf, KnowsRoundOf, IsAwaited}
use Rattle.round_keeping.specs.Laws.{IsOfNoRound}

-- ---- who answered the Apply

-- an answer is one in each journal with the same message, reply and return
pub answered-in : (v r n : ℕ) (b : Bucket) (H K : Journal) (a : AnsweredApply v r n b H) → sent a.number K ≡ Some a.message → first_reply a.number K ≡ Some (Answer a.content a.names) → returned a.number K ≡ true → AnsweredApply v r n b K
answered-in v r n b H K a was_sent reply back = record {
  number = a.number;
  message = a.message;
  union = a.union;
  content = a.content;
  names = a.names;
  was_sent = was_sent;
  receiver = a.receiver;
  version = a.version;
  round = a.round;
  body = a.body;
  reply = reply;
  back = back;
}

pub answered-stays : (v r n : ℕ) (b : Bucket) (H : Journal) (e : Event) → AnsweredApply v r n b H → AnsweredApply v r n b (e ∷ H)
answered-stays v r n b H e a = answered-in v r n b H (e ∷ H) a (sent-stays a.number H a.message e a.was_sent) (first_reply-stays a.number H (Answer a.content a.names) e a.reply) (returned-stays a.number H e a.back)

-- a delivery makes no answer
pub delivered-back : (acks : ℕ) (P : ℕ → ℕ → Bool) (H : Journal) → Legal acks P H → (v r n : ℕ) (b : Bucket) (k : ℕ) (y : Reply) → AnsweredApply v r n b (Delivered k y ∷ H) → AnsweredApply v r n b H
delivered-back acks P H l v r n b k y a =
    let z = returned-replied acks P H l a.number a.back in
    let first = first_reply-stays a.number H z.0 (Delivered k y) z.1 in
    answered-in v r n b (Delivered k y ∷ H) H a a.was_sent (z.1 ∙ sym first ∙ a.reply) a.back

-- the message isn't an Apply of the round
abbrev pub NoApply : Journal → ℕ → ℕ → ℕ → Bucket → Type 0
NoApply H k v r b = (x : Message) → sent k H ≡ Some x → x.version ≡ v → x.round ≡ r → (u : Content) → x.body ≡ Apply b u → ⊥

-- nor does the return of another message
pub returned-back : (v r n : ℕ) (b : Bucket) (H : Journal) (k : ℕ) → NoApply H k v r b → AnsweredApply v r n b (Returned k ∷ H) → AnsweredApply v r n b H
returned-back v r n b H k other a = by (eqb k a.number) refl a.back
  where
    by : (t : Bool) → eqb k a.number ≡ t → cond t true (returned a.number H) ≡ true → AnsweredApply v r n b H
    by true e h = absurd (other a.message (ap (λ (i : ℕ). sent i H) (eqb-true k a.number e) ∙ a.was_sent) a.version a.round a.union a.body)
    by false e h = answered-in v r n b (Returned k ∷ H) H a a.was_sent a.reply h

-- nor is what is sent answered
pub sent-back : (acks : ℕ) (P : ℕ → ℕ → Bool) (H : Journal) → Legal acks P H → (v r n : ℕ) (b : Bucket) (k w d to : ℕ) (x : Body) → AnsweredApply v r n b (Sent k w d to x ∷ H) → AnsweredApply v r n b H
sent-back acks P H l v r n b k w d to x a = answered-in v r n b (Sent k w d to x ∷ H) H a
    (sent_before acks P H a.number (Sent k w d to x) a.message (replied-sent acks P H l a.number (Answer a.content a.names) a.reply) a.was_sent) a.reply a.back

-- ---- who answered the Read

-- the message isn't a Read of the round
abbrev pub NoRead : Journal → ℕ → ℕ → ℕ → Type 0
NoRead H k v r = (x : Message) → sent k H ≡ Some x → x.version ≡ v → x.round ≡ r → (c : Bucket) → x.body ≡ Read c → ⊥

pub answer-other : (v r n : ℕ) (H : Journal) (k : ℕ) → NoRead H k v r → answer v r n (Returned k ∷ H) ≡ answer v r n H
answer-other v r n H k other = ap (or_else (answer v r n H)) (none (answer_of v r n (sent k H) (first_reply k H)) refl) ∙ first (answer v r n H)
  where
    none : (o : Option Given) → answer_of v r n (sent k H) (first_reply k H) ≡ o → o ≡ None
    none None e = refl
    none (Some g) e = let p = answer_of-parts v r n (sent k H) (first_reply k H) g e in absurd (other p.message p.is_message p.version p.round p.bucket p.body)

    first : (o : Option Given) → or_else o None ≡ o
    first None = refl
    first (Some g) = refl

-- ---- messages of no round

no-read : (J : List LaneEvent) (x : LetterBody) → IsOfNoRound x → is_read (meaning_body J (noted_body x)) ≡ false
no-read J body.Ask h = refl
no-read J (body.Read b None) h = absurd h
no-read J (body.Read b (Some id)) h = refl
no-read J (body.Store e) h = refl
no-read J (body.Apply b m) h = absurd h
no-read J (body.Delete b s) h = refl
no-read J (body.Split b) h = refl
no-read J (body.Join b) h = refl
no-read J (body.Ready b) h = refl
no-read J (body.Activate b) h = refl

no-apply : (J : List LaneEvent) (x : LetterBody) → IsOfNoRound x → is_apply (meaning_body J (noted_body x)) ≡ false
no-apply J body.Ask h = refl
no-apply J (body.Read b None) h = absurd h
no-apply J (body.Read b (Some id)) h = refl
no-apply J (body.Store e) h = refl
no-apply J (body.Apply b m) h = absurd h
no-apply J (body.Delete b s) h = refl
no-apply J (body.Split b) h = refl
no-apply J (body.Join b) h = refl
no-apply J (body.Ready b) h = refl
no-apply J (body.Activate b) h = refl

unsent : (kind : Body → Bool) (v r n : ℕ) (H : Journal) (k w d to : ℕ) (x : Body) → kind x ≡ false → was_sent (is_of kind v r n) (Sent k w d to x ∷ H) ≡ was_sent (is_of kind v r n) H
unsent kind v r n H k w d to x f = ap (λ (t : Bool). cond (((t && eqb w v) && eqb (round_in w x H) r) && eqb to n) true (was_sent (is_of kind v r n) H)) f

-- the same answer names the same pieces
pub named-still : {a b : Option Given} {ps : List Piece} → a ≡ b → IsNamed a ps → IsNamed b ps
named-still {a} {b} {ps} e n = subst (λ (o : Option Given). IsNamed o ps) e n

-- ---- what is known stays

module _ (S : Setting) (J : List LaneEvent) (l : IsLegal S J) (s : ClusterState) (r : RoundState) (number : ℕ) where
  pub answers-delivered : (k : ℕ) (y : NotedReply) → KnowsAnswersOf number J s r → KnowsAnswersOf number (event.Delivered k y ∷ J) s r
  answers-delivered k y a = record {
    readers_are = a.readers_are;
    receivers_are = a.receivers_are;
    shown_are = a.shown_are;
    pieces_are = a.pieces_are;
    reading = a.reading;
    union_is = union-stays s.version number (history J) (Delivered k (meaning_reply J y)) _ r.union a.union_is;
    written = a.written;
    lies = a.lies;
    holders_are = λ n. (
      λ h. answered-stays s.version number n r.row (history J) (Delivered k (meaning_reply J y)) ((a.holders_are n).0 h),
      λ h. (a.holders_are n).1 (delivered-back S.acks (state_of (history J)) (history J) (meant-legal S J l) s.version number n r.row k (meaning_reply J y) h),
    );
  }

  pub answers-returned : (k : ℕ) → NoRead (history J) k s.version number → NoApply (history J) k s.version number r.row → KnowsAnswersOf number J s r → KnowsAnswersOf number (event.Returned k ∷ J) s r
  answers-returned k no_read no_apply a = record {
    readers_are = a.readers_are;
    receivers_are = a.receivers_are;
    shown_are = λ n. a.shown_are n ∙ ap is_some (sym (answer-other s.version number n (history J) k no_read));
    pieces_are = λ x h. named-still (sym (answer-other s.version number x.node (history J) k no_read)) (a.pieces_are x h);
    reading = a.reading;
    union_is = union-stays s.version number (history J) (Returned k) _ r.union a.union_is;
    written = a.written;
    lies = a.lies;
    holders_are = λ n. (
      λ h. answered-stays s.version number n r.row (history J) (Returned k) ((a.holders_are n).0 h),
      λ h. (a.holders_are n).1 (returned-back s.version number n r.row (history J) k no_apply h),
    );
  }

  pub answers-sent : (k : ℕ) (m : Letter) → KnowsAnswersOf number J s r → KnowsAnswersOf number (sending k m ∷ J) s r
  answers-sent k m a = let x = meaning_body J (noted_body m.body) in record {
    readers_are = a.readers_are;
    receivers_are = a.receivers_are;
    shown_are = a.shown_are;
    pieces_are = a.pieces_are;
    reading = a.reading;
    union_is = union-stays s.version number (history J) (Sent k m.version m.sender m.receiver x) _ r.union a.union_is;
    written = a.written;
    lies = a.lies;
    holders_are = λ n. (
      λ h. answered-stays s.version number n r.row (history J) (Sent k m.version m.sender m.receiver x) ((a.holders_are n).0 h),
      λ h. (a.holders_are n).1 (sent-back S.acks (state_of (history J)) (history J) (meant-legal S J l) s.version number n r.row k m.version m.sender m.receiver x h),
    );
  }

  module _ (lane : Low) (d : ℕ) where
    pub knows-sent : (k : ℕ) (m : Letter) → IsOfNoRound m.body → KnowsRoundOf number lane J d s r → KnowsRoundOf number lane (sending k m ∷ J) d s r
    knows-sent k m other w = record {
      valid = w.valid;
      origin_is = w.origin_is;
      under_way = w.under_way;
      only = w.only;
      reads_are = λ n. unsent is_read s.version number n (history J) k m.version m.sender m.receiver (meaning_body J (noted_body m.body)) (no-read J m.body other) ∙ w.reads_are n;
      applies_are = λ n. unsent is_apply s.version number n (history J) k m.version m.sender m.receiver (meaning_body J (noted_body m.body)) (no-apply J m.body other) ∙ w.applies_are n;
      order = w.order;
      reading = w.reading;
      receivers_serve = w.receivers_serve;
      answers = answers-sent k m w.answers;
    }

    pub knows-delivered : (k : ℕ) (y : NotedReply) → KnowsRoundOf number lane J d s r → KnowsRoundOf number lane (event.Delivered k y ∷ J) d s r
    knows-delivered k y w = record {
      valid = w.valid;
      origin_is = w.origin_is;
      under_way = w.under_way;
      only = w.only;
      reads_are = w.reads_are;
      applies_are = w.applies_are;
      order = w.order;
      reading = w.reading;
      receivers_serve = w.receivers_serve;
      answers = answers-delivered k y w.answers;
    }

    pub knows-returned : (k : ℕ) → NoRead (history J) k s.version number → NoApply (history J) k s.version number r.row → KnowsRoundOf number lane J d s r → KnowsRoundOf number lane (event.Returned k ∷ J) d s r
    knows-returned k no_read no_apply w = record {
      valid = w.valid;
      origin_is = w.origin_is;
      under_way = w.under_way;
      only = w.only;
      reads_are = w.reads_are;
      applies_are = w.applies_are;
      order = w.order;
      reading = w.reading;
      receivers_serve = w.receivers_serve;
      answers = answers-returned k no_read no_apply w.answers;
    }

-- ---- the message that is waited for

pub awaited-delivered : (J : List LaneEvent) (r : RoundState) (number other : ℕ) (m : Letter) (y : NotedReply) → other ≢ number → IsAwaited J r number m → IsAwaited (event.Delivered other y ∷ J) r number m
awaited-delivered J r number other m y ne a = record {
  awaited = a.awaited;
  is = a.is;
  just = record {
    flight = flight-stays J (event.Delivered other y) number m (a.just).flight;
    unreplied = ap (λ (o : Option Reply). or_else o (only_if (eqb other number) (meaning_reply J y))) (a.just).unreplied ∙ ap (λ (t : Bool). only_if t (meaning_reply J y)) (apart other number ne);
    unreturned = (a.just).unreturned;
  };
  of_round = a.of_round;
}
  where
    apart : (a b : ℕ) → a ≢ b → eqb a b ≡ false
    apart a b h = grind (arith, nat_tests)
