-- What a node took it holds, while nothing named it since.
use Rattle.std.proofs.Common.{◌≡◌, ℕ, ◌≤◌, Bool, true, [], ◌∷◌, Option, Some, refl, ap, ◌∙◌, arith, inl, inr}
use Rattle.lane_journals.specs.Stamps.{Stamp, newer}
use Rattle.lane_journals.specs.Buckets.{Bucket, contains, Id, key_of}
use Rattle.lane_journals.specs.Events.{Content, Body, Prepared, Sent}
use Rattle.lane_journals.specs.Readers.{Within, Journal, Beginning, Preparing, Message, version, after_body, store, Named}
use Rattle.lane_journals.specs.Facts.{Took, Gives, IsOpen}
use Rattle.lane_journals.specs.Legal.{MayDeliver, Legal}
use Rattle.lane_journals.proofs.Ids.{same_id-refl}
use Rattle.lane_journals.proofs.Spent.{within, within-at, within-stays, within-moves}
use Rattle.lane_journals.proofs.Order.{newer-left, Le-at}
use Rattle.lane_journals.proofs.Basics.{took-applied, sent-cases, sent_before, accepted-cases, accepted-sent, version-grows, Named-stays}
use Rattle.lane_journals.proofs.Rows.{PreparedNow, open-cases, prepared-permits}
use Rattle.lane_journals.proofs.Marks.{took-cases, now-accepts, recipient-holds}
use Rattle.lane_journals.proofs.Losses.{DeletesAt, classify, by-node, not_taker}
use Rattle.lane_durability.proofs.Copies.{takes-applied, took-stores}
use Rattle.lane_durability.proofs.Rounds.{Gives-back}
use Rattle.lane_journals.proofs.Kept.{TookOp, stamp-line, store-line, store-kept}

some-same : {A : Type 0} {x y : A} → ◌≡◌ {A = Option A} (Some x) (Some y) → x ≡ y
some-same h = cc

module _ (acks : ℕ) (P : ℕ → ℕ → Bool) (some : 1 ≤ acks) where
  -- ---- who took a union, isn't named since and isn't above the version

  pub took-held : (J : Journal) → Legal acks P J → (v r m : ℕ) (b : Bucket) (u : Content) (id : Id) → Took v r m b u J → contains b (key_of id) ≡ true → (Named v m (key_of id) r J → ⊥) → version m J ≤ v → (x : Option Stamp) → Gives v r m b u id x J → Within id J x (store m id J)
  took-held [] l v r m b u id t i free low x gives = absurd t.accepted
  took-held (e ∷ J) l v r m b u id t i free low y gives =
      let g = version-grows m J e in
      let free' : Named v m (key_of id) r J → ⊥ = λ h. free (Named-stays v m (key_of id) r J e h) in
      elim (took-cases acks P J e l v r m b u t) [
        | inl old ↦ (let has = took-held J l.0 v r m b u id old i free' (omega arith) y (Gives-back acks P J l.0 v r m b u id y e (took-applied v r m b u J old) gives) in elim (classify acks P J e l.0 l.1 id) [
          | inl up ↦ within-moves id J e _ _ _ has (up m)
          | inr x ↦ within-at id (e ∷ J) _ _ _ (x.others m (λ same. not_taker acks P some J e id l.0 x v r (below x same) m b u old i free' same)) (within-stays id J e _ _ has)
        ])
        | inr new ↦ within id (e ∷ J) _ _ (took-stores acks P some J e l v r m b u new id i y (Gives-back acks P J l.0 v r m b u id y e (takes-applied acks P some J e v r m b u new) gives))
      ]
    where
      below : (x : DeletesAt J e id) → m ≡ x.node → (x.accepts.message).version ≤ v
      below x same = let q = (x.accepts).raises in let p = by-node m x.node (e ∷ J) same in omega arith

  -- ---- the Store of an open operation

  pub stored-held : (J : Journal) → Legal acks P J → (v n line : ℕ) (b : Beginning) (p : Preparing) (s : Stamp) → IsOpen v line b p J → b.stamp ≡ Some s → contains p.row (key_of b.id) ≡ true → p.recipients n ≡ true → TookOp v n b.id s J → version n J ≤ v → Within b.id J (Some s) (store n b.id J)
  stored-held [] l v n line b p s o st inside r t low = absurd t.accepted
  stored-held (e ∷ J) l v n line b p s o st inside r t low =
      elim (open-cases acks P J e l v line b p o) [
        | inr new ↦ absurd (too_early new)
        | inl old ↦ elim (accepted-cases t.number J e t.accepted) [
          | inl before ↦
              (let sent' = sent_before acks P J t.number e t.message (accepted-sent acks P J l.0 t.number before) t.was_sent in
              let g = version-grows n J e in
              let i = stored-held J l.0 v n line b p s old st inside r (record { number = t.number; message = t.message; was_sent = sent'; receiver = t.receiver; version = t.version; body = t.body; accepted = before }) (omega arith) in
              within-moves b.id J e _ _ _ i (store-kept acks P some J e l v n b.id (recipient-holds acks P J l.0 v n line b p (key_of b.id) old r inside) low))
          | inr now ↦ (let d : MayDeliver J t.number now.0 = rw now.1 at l.1 in
              let a = now-accepts acks P J e l.1 t.number n t.message now.0 now.1 now.2 (sent_before acks P J t.number e t.message (d.message, d.was_sent) t.was_sent) t.receiver in
              let h : store n b.id (e ∷ J) ≡ newer (Some s) (store n b.id J) = (a.0).stores b.id ∙ ap (λ (y : Body). after_body b.id y (store n b.id J)) (ap (λ (y : Message). y.body) a.1 ∙ t.body) ∙ rw (same_id-refl b.id) refl in
              within b.id (e ∷ J) _ _ (Le-at _ _ _ h (newer-left _ _)))
        ]
      ]
    where
      -- the Store of an operation that is prepared by this event was not sent yet
      too_early : PreparedNow acks P v line b p J e → ⊥
      too_early new = elim (sent-cases t.number J e t.message t.was_sent) [
        | inl old ↦ (let x = store-line acks P J l.0 t.number t.message b.id s old t.body in
            let same = stamp-line acks P J l.0 x.line line x.begin b s x.begun new.begun x.stamped st in
            let q = prepared-permits acks P J e l.1 v line b p new in
            let y = x.was_prepared in let y' = rw same at y in let z = (q.0).fresh in cc)
        | inr sends ↦ apart new.is sends.is
      ]
        where
          apart : {k w d n : ℕ} {y : Body} → e ≡ Prepared line p.row p.recipients → e ≡ Sent k w d n y → ⊥
          apart a b = cc
