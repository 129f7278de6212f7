-- Versions of what nodes accepted, told and were asked under.
use Rattle.std.proofs.Common.{◌≡◌, ℕ, ◌≤◌, Bool, true, [], ◌∷◌, Some, refl, ap, subst, subst₂, arith, inl, inr}
use Rattle.lane_journals.specs.Events.{Answer, Event, Delivered, Newer}
use Rattle.lane_journals.specs.Readers.{Journal, published, opened, Message, sent, Accepted, version, first_reply}
use Rattle.lane_journals.specs.Facts.{AnsweredAsk}
use Rattle.lane_journals.specs.Legal.{MayOpen, MaySend, MayDeliver, Permits, Legal}
use Rattle.lane_journals.proofs.Basics.{sent_before, accepted-cases, accepted-sent, replied-accepted, version-grows, opened-cases, published-stays, sent-cases, replied-sent, first_reply-cases, held-published}
use Rattle.lane_journals.proofs.Marks.{now-accepts}

module _ (acks : ℕ) (P : ℕ → ℕ → Bool) (some : 1 ≤ acks) where
  pub accepted-version : (J : Journal) → Legal acks P J → (k : ℕ) (m : Message) → Accepted k J → sent k J ≡ Some m → m.version ≤ version m.receiver J
  accepted-version [] l k m a s = cc
  accepted-version (e ∷ J) l k m a s = elim (accepted-cases k J e a) [
    | inl old ↦ (let i = accepted-version J l.0 k m old (sent_before acks P J k e m (accepted-sent acks P J l.0 k old) s) in let g = version-grows m.receiver J e in omega arith)
    | inr new ↦ (let d : MayDeliver J k new.0 = rw new.1 at l.1 in
        let x = now-accepts acks P J e l.1 k m.receiver m new.0 new.1 new.2 (sent_before acks P J k e m (d.message, d.was_sent) s) refl in
        let r = (x.0).raises in let z : (x.0).message.version ≡ m.version = ap (λ (y : Message). y.version) x.1 in omega arith)
  ]

  pub opened-version : (J : Journal) → Legal acks P J → (v n : ℕ) → opened v J ≡ true → P v n ≡ true → v ≤ version n J
  opened-version [] l v n o p = cc
  opened-version (e ∷ J) l v n o p =
      let g = version-grows n J e in
      elim (opened-cases v J e o) [
        | inl old ↦ let i = opened-version J l.0 v n old p in omega arith
        | inr new ↦ (let q : MayOpen P J new.0 v new.1 = rw new.2 at l.1 in let i = asked (q.all n p) in omega arith)
      ]
    where
      asked : AnsweredAsk v n J → v ≤ version n J
      asked a = subst₂ (λ (x y : ℕ). x ≤ version y J) a.version a.receiver (accepted-version J l.0 a.number a.message (replied-accepted acks P J a.number (Answer a.content a.names) a.reply refl) a.was_sent)

module _ (acks : ℕ) (P : ℕ → ℕ → Bool) (v : ℕ) where
  -- a node that told of a version has it
  pub told-version : (J : Journal) → Legal acks P J → (k w : ℕ) (m : Message) → sent k J ≡ Some m → first_reply k J ≡ Some (Newer w) → w ≤ version m.receiver J
  told-version [] l k w m s f = cc
  told-version (e ∷ J) l k w m s f =
      let g = version-grows m.receiver J e in
      elim (first_reply-cases k J e (Newer w) f) [
        | inl old ↦ (let i = told-version J l.0 k w m (sent_before acks P J k e m (replied-sent acks P J l.0 k (Newer w) old) s) old in omega arith)
        | inr new ↦ (let i = now e new.0 l.1 s in omega arith)
      ]
    where
      now : (e : Event) → e ≡ Delivered k (Newer w) → Permits acks P J e → sent k (e ∷ J) ≡ Some m → w ≤ version m.receiver J
      now e is p s =
          let d : MayDeliver J k (Newer w) = rw is at p in
          let s' : sent k J ≡ Some m = rw is at s in
          let same : d.message ≡ m = let a = d.was_sent in cc in
          let q : w ≡ version m.receiver J = subst (λ (y : Message). w ≡ version y.receiver J) same d.reply.1 in omega arith

module _ (acks : ℕ) (P : ℕ → ℕ → Bool) where
  pub sent-published : (J : Journal) → Legal acks P J → (k : ℕ) (m : Message) → sent k J ≡ Some m → published m.version J ≡ true
  sent-published [] l k m h = cc
  sent-published (e ∷ J) l k m h = published-stays m.version J e (elim (sent-cases k J e m h) [
    | inl old ↦ sent-published J l.0 k m old
    | inr new ↦ (let p : MaySend P J k m.version new.sender m.receiver m.body = rw new.is at l.1 in held-published acks P J l.0 new.sender m.version p.holder)
  ])
