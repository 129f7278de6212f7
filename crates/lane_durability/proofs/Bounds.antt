-- Nothing is of a greater version than who has it or says it.
use Rattle.std.proofs.Common.{◌≡◌, ℕ, ◌≤◌, Bool, true, false, cond, [], ◌∷◌, Option, Some, None, refl, sym, ap, ◌∙◌, subst, arith, inl, inr}
use Rattle.lane_journals.specs.Stamps.{Stamp, newer}
use Rattle.lane_journals.specs.Buckets.{Bucket, contains, Id, same_id, key_of}
use Rattle.lane_journals.specs.Events.{Content, Body, Read, Store, Apply, Delete, Event}
use Rattle.lane_journals.specs.Readers.{Journal, round_of, Message, sent, version, after_body, store, Given}
use Rattle.lane_journals.specs.Facts.{Shown}
use Rattle.lane_journals.specs.Legal.{MayUnite, MayCarry, MaySend, MayShow, Legal}
use Rattle.lane_journals.proofs.Order.{newer-either}
use Rattle.lane_journals.proofs.Basics.{sent-cases, version-grows}
use Rattle.lane_journals.proofs.Serials.{Accepts, effect, ShownNow, shown-cases, shown-now, answer-shown}
use Rattle.lane_journals.proofs.Kept.{store-line, stamp-bound}

module _ (acks : ℕ) (P : ℕ → ℕ → Bool) where
  pub record Bounds (J : Journal) : Type 0 where
    -- a node's entries are of no greater version than the node's
    pub stores : (n : ℕ) (id : Id) (s : Stamp) → store n id J ≡ Some s → s.version ≤ version n J
    -- nor is what a Read of a row shows than the message's
    pub shows : (v r n : ℕ) (b : Bucket) (g : Given) (id : Id) (s : Stamp) → Shown v r n b g J → g.content id ≡ Some s → s.version ≤ v
    -- nor is what a message carries
    pub carries : (k : ℕ) (m : Message) (b : Bucket) (u : Content) (id : Id) (s : Stamp) → sent k J ≡ Some m → m.body ≡ Apply b u → u id ≡ Some s → s.version ≤ m.version

  store-version : (J : Journal) → Legal acks P J → (k : ℕ) (m : Message) (id : Id) (s : Stamp) → sent k J ≡ Some m → m.body ≡ Store id s → s.version ≡ m.version
  store-version J l k m id s h is = let x = store-line acks P J l k m id s h is in (stamp-bound acks P J l x.line x.begin s x.begun x.stamped).0 ∙ x.version

  shows-step : (J : Journal) (e : Event) → Legal acks P (e ∷ J) → Bounds J → (v r n : ℕ) (b : Bucket) (g : Given) (id : Id) (s : Stamp) → Shown v r n b g (e ∷ J) → g.content id ≡ Some s → s.version ≤ v
  shows-step J e l f v r n b g id s h c = elim (shown-cases acks P J e l v r n b g h) [
    | inl old ↦ f.shows v r n b g id s old c
    | inr new ↦ now new.0 new.1
  ]
    where
      now : (q : ShownNow n b g J e) → q.message.version ≡ v → s.version ≤ v
      now q vs =
          let x = shown-now acks P J e l.1 n b g q in
          let body : (x.0).message.body ≡ Read b = ap (λ (m : Message). m.body) x.1 ∙ q.body in
          let at : (x.0).message.version ≡ v = ap (λ (m : Message). m.version) x.1 ∙ vs in
          let same : (x.0).given.content id ≡ Some s = ap (λ (y : Given). y.content id) x.2 ∙ c in
          let low = (x.0).low in
          let show = (x.0).show b body in
          by_key (contains b (key_of id)) refl show same (omega arith)
        where
          by_key : (t : Bool) → contains b (key_of id) ≡ t → {y : Given} → MayShow J n b y → y.content id ≡ Some s → version n J ≤ v → s.version ≤ v
          by_key true i show same low = let z = f.stores n id s (sym (show.content id i) ∙ same) in omega arith
          by_key false i show same low = let z : ◌≡◌ {A = Option Stamp} None (Some s) = sym (show.only id i) ∙ same in cc

  carries-step : (J : Journal) (e : Event) → Legal acks P (e ∷ J) → Bounds J → (k : ℕ) (m : Message) (b : Bucket) (u : Content) (id : Id) (s : Stamp) → sent k (e ∷ J) ≡ Some m → m.body ≡ Apply b u → u id ≡ Some s → s.version ≤ m.version
  carries-step J e l f k m b u id s h is c = elim (sent-cases k J e m h) [
    | inl old ↦ f.carries k m b u id s old is c
    | inr new ↦ (let p : MaySend P J k m.version new.sender m.receiver m.body = rw new.is at l.1 in
        let w : MayUnite P J m.version b u = subst (λ (y : Body). MayCarry P J m.version m.receiver y) is p.carries in
        let a = w.attained id s c in
        let shown = answer-shown m.version (round_of m.version b J) a.0 J a.1 a.2 in
        f.shows m.version (round_of m.version b J) a.0 shown.0 a.1 id s shown.1 a.3)
  ]

  stores-step : (J : Journal) (e : Event) → Legal acks P (e ∷ J) → Bounds J → (n : ℕ) (id : Id) (s : Stamp) → store n id (e ∷ J) ≡ Some s → s.version ≤ version n (e ∷ J)
  stores-step J e l f n id s h = elim (effect J e acks P l.1 n) [
    | inl leaves ↦ (let z = f.stores n id s (sym (leaves.stores id) ∙ h) in let g = version-grows n J e in omega arith)
    | inr a ↦ (let g = version-grows n J e in let r = a.raises in
        by_body a (a.message).body refl (store n id J) (λ h. let z = f.stores n id s h in omega arith) (sym (a.stores id) ∙ h))
  ]
    where
      by_body : (a : Accepts J e n) (b : Body) → (a.message).body ≡ b → (had : Option Stamp) → (had ≡ Some s → s.version ≤ version n (e ∷ J)) → after_body id (a.message).body had ≡ Some s → s.version ≤ version n (e ∷ J)
      by_body a b is had old h = go b is (sym (ap (λ (y : Body). after_body id y had) is) ∙ h)
        where
          go : (b : Body) → (a.message).body ≡ b → after_body id b had ≡ Some s → s.version ≤ version n (e ∷ J)
          go (Store i t) is h = by_id (same_id i id) h
            where
              mine : Some t ≡ Some s → s.version ≤ version n (e ∷ J)
              mine e = let same : t ≡ s = cc in let z = store-version J l.0 a.number a.message i t a.was_sent is in let r = a.raises in let w : s.version ≡ (a.message).version = sym (ap (λ (y : Stamp). y.version) same) ∙ z in omega arith

              by_id : (x : Bool) → cond x (newer (Some t) had) had ≡ Some s → s.version ≤ version n (e ∷ J)
              by_id true h = elim (newer-either (Some t) had) [ inl x ↦ mine (sym x ∙ h) | inr x ↦ old (sym x ∙ h) ]
              by_id false h = old h
          go (Apply c u) is h = by_key (contains c (key_of id)) h
            where
              by_key : (x : Bool) → cond x (newer (u id) had) had ≡ Some s → s.version ≤ version n (e ∷ J)
              by_key true h = elim (newer-either (u id) had) [
                | inl x ↦ (let z = f.carries a.number a.message c u id s a.was_sent is (sym x ∙ h) in let r = a.raises in omega arith)
                | inr x ↦ old (sym x ∙ h)
              ]
              by_key false h = old h
          go (Delete c t) is h = by_key (contains c (key_of id)) h
            where
              by_key : (x : Bool) → cond x None had ≡ Some s → s.version ≤ version n (e ∷ J)
              by_key true h = cc
              by_key false h = old h
          go _ is h = old h

  pub bounds : (J : Journal) → Legal acks P J → Bounds J
  bounds [] l = record { stores = λ n id s h. cc; shows = λ v r n b g id s h c. (let z = h.reply in cc); carries = λ k m b u id s h is c. cc }
  bounds (e ∷ J) l = let f = bounds J l.0 in record { stores = stores-step J e l f; shows = shows-step J e l f; carries = carries-step J e l f }
