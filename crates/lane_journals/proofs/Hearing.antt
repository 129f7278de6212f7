-- Which answers count once they came back.
use Rattle.std.proofs.Common.{◌≡◌, ℕ, Bool, true, cond, [], ◌∷◌, Option, Some, None, is_some, inl, inr, refl, sym, ap, ◌∙◌, subst, arith, eqb, eq-eqb}
use Rattle.bucket_ids.specs.Buckets.{Low}
use Rattle.lane_journals.specs.Events.{Body, Ask, Read, Reply, Answer, Event, Returned}
use Rattle.lane_journals.specs.Readers.{Journal, Given, or_else, Message, sent, first_reply, returned, is_answer, is_read, is_ask, answer, answer_of, asked, asked_of}
use Rattle.lane_journals.specs.Legal.{MayReturn, Legal}
use Rattle.lane_journals.proofs.Basics.{or_else-some, sent_before, first_reply-stays, replied-sent, returned-cases, returned-replied}

pub answer-given : (r : Reply) → is_answer r ≡ true → (g : Given) × (r ≡ Answer g.content g.names)
answer-given (Answer x names) h = (record { content = x; names = names }, refl)
answer-given _ h = cc

-- ---- answers count

-- what holds as the reply comes back, and stays, holds once it came back
module _ (acks : ℕ) (P : ℕ → ℕ → Bool) (Counts : Journal → Type 0) (k : ℕ) (m : Message) (r : Reply) (now : (H : Journal) → sent k H ≡ Some m → first_reply k H ≡ Some r → Counts (Returned k ∷ H))
    (still : (H : Journal) (e : Event) → Counts H → Counts (e ∷ H)) where
  same-reply : (H : Journal) (e : Event) (y : Reply) → first_reply k H ≡ Some y → first_reply k (e ∷ H) ≡ Some r → first_reply k H ≡ Some r
  same-reply H e y h f = let s = first_reply-stays k H y e h in let same : y ≡ r = cc in h ∙ ap (λ (x : Reply). Some x) same

  pub counts : (H : Journal) → Legal acks P H → returned k H ≡ true → sent k H ≡ Some m → first_reply k H ≡ Some r → Counts H
  counts [] l back was replied = cc
  counts (e ∷ H) l back was replied = elim (returned-cases k H e back) [
    | inl old ↦ (let y = returned-replied acks P H l.0 k old in
        still H e (counts H l.0 old (sent_before acks P H k e m (replied-sent acks P H l.0 k y.0 y.1) was) (same-reply H e y.0 y.1 replied)))
    | inr new ↦ (let may : MayReturn H k = rw new at l.1 in
        subst (λ (x : Event). Counts (x ∷ H)) (sym new) (now H (sent_before acks P H k e m (replied-sent acks P H l.0 k may.reply may.replied) was) (same-reply H e may.reply may.replied replied)))
  ]

-- the first answer that is read off a journal
module _ (read : Option Message → Option Reply → Option Given) (found : Journal → Option Given) (k : ℕ) (m : Message) (r : Reply) (g : Given) (reads : read (Some m) (Some r) ≡ Some g) where
  either : (o : Option Given) → is_some (or_else o (Some g)) ≡ true
  either None = refl
  either (Some x) = refl

  counts-now : ((H : Journal) → found (Returned k ∷ H) ≡ or_else (found H) (read (sent k H) (first_reply k H))) → (H : Journal) → sent k H ≡ Some m → first_reply k H ≡ Some r → is_some (found (Returned k ∷ H)) ≡ true
  counts-now returns H was replied = ap is_some (returns H) ∙ ap (λ (x : Option Message). is_some (or_else (found H) (read x (first_reply k H)))) was ∙ ap (λ (x : Option Reply). is_some (or_else (found H) (read (Some m) x))) replied
      ∙ ap (λ (x : Option Given). is_some (or_else (found H) x)) reads ∙ either (found H)

  counts-still : ((H : Journal) (e : Event) (x : Given) → found H ≡ Some x → found (e ∷ H) ≡ Some x) → (H : Journal) (e : Event) → is_some (found H) ≡ true → is_some (found (e ∷ H)) ≡ true
  counts-still stays H e h = by_found (found H) refl h
    where
      by_found : (o : Option Given) → found H ≡ o → is_some o ≡ true → is_some (found (e ∷ H)) ≡ true
      by_found None f h = cc
      by_found (Some x) f h = ap is_some (stays H e x f)

  pub first-counts : ((H : Journal) → found (Returned k ∷ H) ≡ or_else (found H) (read (sent k H) (first_reply k H))) → ((H : Journal) (e : Event) (x : Given) → found H ≡ Some x → found (e ∷ H) ≡ Some x)
      → (acks : ℕ) (P : ℕ → ℕ → Bool) (H : Journal) → Legal acks P H → returned k H ≡ true → sent k H ≡ Some m → first_reply k H ≡ Some r → is_some (found H) ≡ true
  first-counts returns stays acks P = counts acks P (λ H. is_some (found H) ≡ true) k m r (counts-now returns) (counts-still stays)

-- the answer to the Read of a round is one that was shown
pub answer-counts : (acks : ℕ) (P : ℕ → ℕ → Bool) (v r n k : ℕ) (m : Message) (g : Given) (b : Low) → m.version ≡ v → m.round ≡ r → m.receiver ≡ n → m.body ≡ Read b
    → (H : Journal) → Legal acks P H → returned k H ≡ true → sent k H ≡ Some m → first_reply k H ≡ Some (Answer g.content g.names) → is_some (answer v r n H) ≡ true
answer-counts acks P v r n k m g b under of to is = first-counts (answer_of v r n) (answer v r n) k m (Answer g.content g.names) g reads (λ H. refl) stays acks P
  where
    stays : (H : Journal) (e : Event) (x : Given) → answer v r n H ≡ Some x → answer v r n (e ∷ H) ≡ Some x
    stays H e x h = grind (arith, or_else-some)

    reads : answer_of v r n (Some m) (Some (Answer g.content g.names)) ≡ Some g
    reads = ap (λ (x : Body). cond (is_read x) (cond (eqb m.version v) (cond (eqb m.round r) (cond (eqb m.receiver n) (Some g) None) None) None) None) is
        ∙ ap (λ (t : Bool). cond t (cond (eqb m.round r) (cond (eqb m.receiver n) (Some g) None) None) None) (eq-eqb m.version v under)
        ∙ ap (λ (t : Bool). cond t (cond (eqb m.receiver n) (Some g) None) None) (eq-eqb m.round r of)
        ∙ ap (λ (t : Bool). cond t (Some g) None) (eq-eqb m.receiver n to)

-- and so is the answer to an Ask
pub ask-counts : (acks : ℕ) (P : ℕ → ℕ → Bool) (v n k : ℕ) (m : Message) (g : Given) → m.version ≡ v → m.receiver ≡ n → m.body ≡ Ask
    → (H : Journal) → Legal acks P H → returned k H ≡ true → sent k H ≡ Some m → first_reply k H ≡ Some (Answer g.content g.names) → is_some (asked v n H) ≡ true
ask-counts acks P v n k m g under to is = first-counts (asked_of v n) (asked v n) k m (Answer g.content g.names) g reads (λ H. refl) stays acks P
  where
    stays : (H : Journal) (e : Event) (x : Given) → asked v n H ≡ Some x → asked v n (e ∷ H) ≡ Some x
    stays H e x h = grind (arith, or_else-some)

    reads : asked_of v n (Some m) (Some (Answer g.content g.names)) ≡ Some g
    reads = ap (λ (x : Body). cond (is_ask x) (cond (eqb m.version v) (cond (eqb m.receiver n) (Some g) None) None) None) is
        ∙ ap (λ (t : Bool). cond t (cond (eqb m.receiver n) (Some g) None) None) (eq-eqb m.version v under)
        ∙ ap (λ (t : Bool). cond t (Some g) None) (eq-eqb m.receiver n to)
