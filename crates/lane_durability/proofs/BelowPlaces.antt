-- What the journal below a version says of states, answers to Asks, and what a line read.
use Rattle.std.proofs.Common.{◌≡◌, ℕ, ◌<◌, ◌≤◌, Bool, true, false, cond, [], ◌∷◌, Option, Some, None, refl, sym, ap, ◌∙◌, subst, arith, inl, inr}
use Rattle.std.proofs.lemmas.Bool.Decides.{nat_tests}
use Rattle.lane_journals.specs.Stamps.{Stamp}
use Rattle.lane_journals.specs.Buckets.{Bucket, Id}
use Rattle.lane_journals.specs.Events.{Content, ReadDoc, Reply, Answer, Event, Returned}
use Rattle.lane_journals.specs.Readers.{Journal, or_else, Beginning, began, Message, sent, first_reply, Given, asked_of, asked}
use Rattle.lane_journals.specs.Facts.{AnsweredAsk, AnsweredReady, ReadAt, ReadBack}
use Rattle.lane_journals.specs.Legal.{MayDeliver, MayAnswer, Legal}
use Rattle.lane_journals.specs.States.{state_of}
use Rattle.lane_journals.specs.Below.{keeps_return, kept, below}
use Rattle.lane_journals.proofs.Basics.{first_reply-cases, sent_before, replied-sent}
use Rattle.proof_basics.proofs.Options.{some-none}
use Rattle.lane_journals.proofs.Serials.{asked-parts}
use Rattle.lane_durability.proofs.Below.{lt-true, same_below}
use Rattle.lane_durability.proofs.BelowLines.{sent-back, sent-below}
use Rattle.lane_durability.proofs.BelowReaders.{returned-back, returned-below}
use Rattle.lane_durability.proofs.Bounds.{bounds}
use Rattle.lane_durability.proofs.Law.{first-back, first-below, later-back}

module _ (v w : ℕ) (lt : w < v) where
  state-congr : (e : Event) (J K : Journal) → ((n : ℕ) → state_of J w n ≡ state_of K w n) → (n : ℕ) → state_of (e ∷ J) w n ≡ state_of (e ∷ K) w n
  state-congr e J K h n = let x = h n in grind arith

  state-skip : (e : Event) (J : Journal) → kept v J e ≡ false → (n : ℕ) → state_of (e ∷ J) w n ≡ state_of J w n
  state-skip e J k n = grind (arith, nat_tests)

  -- the nodes of a version
  pub state-below : (J : Journal) (n : ℕ) → state_of (below v J) w n ≡ state_of J w n
  state-below = same_below v (λ J n. state_of J w n) state-congr state-skip

module _ (acks : ℕ) (P : ℕ → ℕ → Bool) (v : ℕ) where
  -- ---- answers to Asks

  told-asked : (J : Journal) → Legal acks P J → (w n k : ℕ) → w < v → asked_of w n (sent k (below v J)) (first_reply k (below v J)) ≡ asked_of w n (sent k J) (first_reply k J)
  told-asked J l w n k lt = by_found (asked_of w n (sent k J) (first_reply k J)) (asked_of w n (sent k (below v J)) (first_reply k (below v J))) refl refl
    where
      forth : (g : Given) → asked_of w n (sent k J) (first_reply k J) ≡ Some g → asked_of w n (sent k (below v J)) (first_reply k (below v J)) ≡ Some g
      forth g h =
          let p = asked-parts w n (sent k J) (first_reply k J) g h in
          let low : (p.0).version < v = (let z = p.2 in omega arith) in
          let s = sent-below acks P v J l k p.0 p.1 low in
          let r = first-below acks P v J l k p.0 (Answer g.content g.names) p.1 low p.3 refl in
          rw (s, r) (sym (ap (λ (o : Option Message). asked_of w n o (Some (Answer g.content g.names))) p.1) ∙ ap (λ (y : Option Reply). asked_of w n (sent k J) y) (sym p.3) ∙ h)

      backward : (g : Given) → asked_of w n (sent k (below v J)) (first_reply k (below v J)) ≡ Some g → asked_of w n (sent k J) (first_reply k J) ≡ Some g
      backward g h =
          let p = asked-parts w n (sent k (below v J)) (first_reply k (below v J)) g h in
          let s = sent-back acks P v J l k p.0 p.1 in
          let r = first-back acks P v J l k p.0 (Answer g.content g.names) s.0 s.1 p.3 in
          rw (s.0, r) (sym (ap (λ (o : Option Message). asked_of w n o (Some (Answer g.content g.names))) p.1) ∙ ap (λ (y : Option Reply). asked_of w n (sent k (below v J)) y) (sym p.3) ∙ h)

      by_found : (a b : Option Given) → asked_of w n (sent k J) (first_reply k J) ≡ a → asked_of w n (sent k (below v J)) (first_reply k (below v J)) ≡ b → b ≡ a
      by_found None None p q = refl
      by_found None (Some g) p q = let x = backward g q in let z : ◌≡◌ {A = Option Given} None (Some g) = sym p ∙ x in sym z
      by_found (Some g) b p q = sym q ∙ forth g p

  dropped-asked : (J : Journal) (w n k : ℕ) → w < v → keeps_return v (first_reply k J) (sent k J) ≡ false → asked_of w n (sent k J) (first_reply k J) ≡ None
  dropped-asked J w n k lt d = some-none _ (λ g e.
      let p = asked-parts w n (sent k J) (first_reply k J) g e in
      let z : keeps_return v (first_reply k J) (sent k J) ≡ true = rw (p.3, p.1, lt-true (p.0).version v (let y = p.2 in omega arith)) refl in absurd (let q : true ≡ false = sym z ∙ d in cc))

  -- a node's answer to the Asks of a version
  pub asked-below : (J : Journal) → Legal acks P J → (w n : ℕ) → w < v → asked w n (below v J) ≡ asked w n J
  asked-below [] l w n lt = refl
  asked-below (e ∷ J) l w n lt = plain e (asked-below J l.0 w n lt)
    where
      left : (o : Option Given) → o ≡ or_else o None
      left None = refl
      left (Some x) = refl

      keep : (e : Event) → ((K : Journal) → asked w n (e ∷ K) ≡ asked w n K) → (t : Bool) → asked w n (below v J) ≡ asked w n J → asked w n (cond t (e ∷ below v J) (below v J)) ≡ asked w n (e ∷ J)
      keep e f true ih = f (below v J) ∙ ih ∙ sym (f J)
      keep e f false ih = ih ∙ sym (f J)

      plain : (e : Event) → asked w n (below v J) ≡ asked w n J → asked w n (cond (kept v J e) (e ∷ below v J) (below v J)) ≡ asked w n (e ∷ J)
      plain (Returned k) ih = by_case (keeps_return v (first_reply k J) (sent k J)) refl
        where
          by_case : (t : Bool) → keeps_return v (first_reply k J) (sent k J) ≡ t → asked w n (cond t (Returned k ∷ below v J) (below v J)) ≡ asked w n (Returned k ∷ J)
          by_case true d = rw (told-asked J l.0 w n k lt, ih) refl
          by_case false d = rw (dropped-asked J w n k lt d, ih) (left (asked w n J))
      plain e ih = keep e (λ K. refl) (kept v J e) ih

  pub ask-back : (J : Journal) → Legal acks P J → (w n : ℕ) → AnsweredAsk w n (below v J) → AnsweredAsk w n J
  ask-back J l w n a =
      let s = sent-back acks P v J l a.number a.message a.was_sent in
      record {
        number = a.number;
        message = a.message;
        content = a.content;
        names = a.names;
        was_sent = s.0;
        receiver = a.receiver;
        version = a.version;
        body = a.body;
        reply = first-back acks P v J l a.number a.message (Answer a.content a.names) s.0 s.1 a.reply;
        back = returned-back v a.number J a.back;
      }

  pub ready-below : (J : Journal) → Legal acks P J → (w n : ℕ) (b : Bucket) → w < v → AnsweredReady w n b J → AnsweredReady w n b (below v J)
  ready-below J l w n b lt a =
      let low : (a.message).version < v = (let z = a.version in omega arith) in
      record {
        number = a.number;
        message = a.message;
        content = a.content;
        names = a.names;
        was_sent = sent-below acks P v J l a.number a.message a.was_sent low;
        receiver = a.receiver;
        version = a.version;
        body = a.body;
        reply = first-below acks P v J l a.number a.message (Answer a.content a.names) a.was_sent low a.reply refl;
        back = returned-below acks P v J l a.number a.message (Answer a.content a.names) a.was_sent low a.reply refl a.back;
      }

  -- what a line read
  pub read-back : (J : Journal) → Legal acks P J → (n k : ℕ) (b : Beginning) (content : Content) → began k J ≡ Some b → b.version < v → ReadBack n k b content (below v J) → ReadBack n k b content J
  read-back J l n k b content f lt a =
      let r : ReadAt n k b content (below v J) = a.read in
      let s = sent-back acks P v J l r.number r.message r.was_sent in
      record {
        read = record {
          number = r.number;
          message = r.message;
          names = r.names;
          was_sent = s.0;
          later = later-back acks P v J l k r.number b r.message f lt s.0 s.1 r.later;
          receiver = r.receiver;
          version = r.version;
          body = r.body;
          reply = first-back acks P v J l r.number r.message (Answer content r.names) s.0 s.1 r.reply;
        };
        back = returned-back v r.number J a.back;
      }

  -- what a Read of a document shows is of no greater version than the message
  pub look-bound : (J : Journal) → Legal acks P J → (k : ℕ) (m : Message) (id : Id) (x : Content) (names : Bucket → ℕ → Bool) (s : Stamp) → sent k J ≡ Some m → m.body ≡ ReadDoc id → first_reply k J ≡ Some (Answer x names) → x id ≡ Some s → s.version ≤ m.version
  look-bound [] l k m id x names s h is f c = cc
  look-bound (e ∷ J) l k m id x names s h is f c = elim (first_reply-cases k J e (Answer x names) f) [
    | inl old ↦ look-bound J l.0 k m id x names s (sent_before acks P J k e m (replied-sent acks P J l.0 k (Answer x names) old) h) is old c
    | inr new ↦ (let d : MayDeliver J k (Answer x names) = rw new.0 at l.1 in
        let s' = sent_before acks P J k e m (d.message, d.was_sent) h in
        now d (let y = d.was_sent in cc))
  ]
    where
      now : (d : MayDeliver J k (Answer x names)) → d.message ≡ m → s.version ≤ m.version
      now d same =
          let a : MayAnswer J m (record { content = x; names = names }) = subst (λ (y : Message). MayAnswer J y (record { content = x; names = names })) same d.reply in
          let z = (bounds acks P J l.0).stores m.receiver id s (sym (a.show_one id is) ∙ c) in
          let low = a.low in omega arith
