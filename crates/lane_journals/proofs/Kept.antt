-- What a version finds and acknowledges isn't lost.
use Rattle.std.proofs.Common.{◌≡◌, ℕ, ◌≤◌, Bool, true, false, [], ◌∷◌, Option, Some, None, refl, sym, ap, ◌∙◌, subst, arith, inl, inr, ◌⊎◌, eqb, eq-eqb, cond}
use Rattle.std.proofs.lemmas.Bool.{eqb-true}
use Rattle.std.proofs.lemmas.Bool.Decides.{nat_tests}
use Rattle.lane_journals.specs.Stamps.{Stamp, same_stamp}
use Rattle.lane_journals.specs.Buckets.{Bucket, contains, Id, same_id, key_of}
use Rattle.lane_journals.specs.Events.{Content, Body, Apply, Reply, Event, Begun, Store, Delete, Join, Returned}
use Rattle.lane_journals.specs.Readers.{Within, Journal, Beginning, began, Preparing, prepared, closed, Message, sent, Accepted, version, store, answered_store, complete, stamps_of, first_reply, is_answer, has_piece, holds, is_store, answers, stored_by, Named}
use Rattle.lane_journals.specs.Facts.{Took}
use Rattle.lane_journals.specs.Legal.{MayBegin, MaySend, Permits, Legal, IsNextStamp, Carries, MayCarry}
use Rattle.lane_journals.proofs.Ids.{same_id-true}
use Rattle.lane_journals.proofs.Spent.{within}
use Rattle.lane_journals.proofs.Order.{Le-same, same_stamp-true}
use Rattle.lane_journals.proofs.Basics.{replied-accepted, version-grows, began-cases, closed-before, sent-stays, sent-cases, Accepted-stays, Named-stays, began-stays, prepared-stays}
use Rattle.lane_journals.proofs.Serials.{effect}
use Rattle.lane_journals.proofs.Marks.{Holds, complete-took, took-cases, takes-accepts}
use Rattle.lane_journals.proofs.Losses.{DeletesAt, classify, by-node, not-deletable, not_taker}

module _ (acks : ℕ) (P : ℕ → ℕ → Bool) (some : 1 ≤ acks) where
  pub one-open : (J : Journal) → Legal acks P J → (k j : ℕ) (b c : Beginning) → began k J ≡ Some b → began j J ≡ Some c → b.id ≡ c.id → closed k J ≡ false → closed j J ≡ false → k ≡ j
  one-open [] l k j b c f g same x y = cc
  one-open (e ∷ J) l k j b c f g same x y = elim (began-cases k J e b f) [
    | inl old ↦ elim (began-cases j J e c g) [
      | inl old' ↦ one-open J l.0 k j b c old old' same (closed-before k J e x) (closed-before j J e y)
      | inr new' ↦ (let q : MayBegin J j new'.0 c.version c.id c.stamp = rw new'.1 at l.1 in let z = q.alone k b old same in let w = closed-before k J e x in cc)
    ]
    | inr new ↦ elim (began-cases j J e c g) [
      | inl old' ↦ (let q : MayBegin J k new.0 b.version b.id b.stamp = rw new.1 at l.1 in let z = q.alone j c old' (sym same) in let w = closed-before j J e y in cc)
      | inr new' ↦ lines new.1 new'.1
    ]
  ]
    where
      lines : {d d' v v' : ℕ} {i i' : Id} {s s' : Option Stamp} → e ≡ Begun k d v i s → e ≡ Begun j d' v' i' s' → k ≡ j
      lines p q = cc

-- a message with the Store of an entry was accepted
pub record TookOp (v n : ℕ) (id : Id) (s : Stamp) (J : Journal) : Type 0 where
  pub number : ℕ
  pub message : Message
  pub was_sent : sent number J ≡ Some message
  pub receiver : message.receiver ≡ n
  pub version : message.version ≡ v
  pub body : message.body ≡ Store id s
  pub accepted : Accepted number J

pub stored_by-parts : (v : ℕ) (id : Id) (s : Stamp) (n : ℕ) (m : Message) (y : Option Reply) → stored_by v id s n (Some m) y ≡ true → (m.version ≡ v) × (m.receiver ≡ n) × (m.body ≡ Store id s) × ((r : Reply) × (y ≡ Some r) × (is_answer r ≡ true))
stored_by-parts v id s n m y h = by_case (eqb m.version v) (eqb m.receiver n) refl refl h
  where
    storing : (b : Body) → is_store id s b ≡ true → b ≡ Store id s
    storing (Store i t) h = by_id (same_id i id) refl h
      where
        by_id : (u : Bool) → same_id i id ≡ u → cond u (same_stamp t s) false ≡ true → Store i t ≡ Store id s
        by_id true e h = let x = same_id-true i id e in let y = same_stamp-true t s h in cc
        by_id false e h = cc
    storing _ h = cc

    answering : (y : Option Reply) → answers y ≡ true → (r : Reply) × (y ≡ Some r) × (is_answer r ≡ true)
    answering None h = cc
    answering (Some r) h = (r, refl, h)

    last : m.version ≡ v → m.receiver ≡ n → (b : Bool) → is_store id s m.body ≡ b → cond b (answers y) false ≡ true → (m.version ≡ v) × (m.receiver ≡ n) × (m.body ≡ Store id s) × ((r : Reply) × (y ≡ Some r) × (is_answer r ≡ true))
    last e f true g h = (e, f, storing m.body g, answering y h)
    last e f false g h = cc

    by_case : (a b : Bool) → eqb m.version v ≡ a → eqb m.receiver n ≡ b → cond a (cond b (cond (is_store id s m.body) (answers y) false) false) false ≡ true → (m.version ≡ v) × (m.receiver ≡ n) × (m.body ≡ Store id s) × ((r : Reply) × (y ≡ Some r) × (is_answer r ≡ true))
    by_case true true e f h = last (eqb-true _ _ e) (eqb-true _ _ f) (is_store id s m.body) refl h
    by_case true false e f h = cc
    by_case false b e f h = cc

answered-cases : (v : ℕ) (id : Id) (s : Stamp) (n : ℕ) (J : Journal) (e : Event) → answered_store v id s n (e ∷ J) ≡ true → (answered_store v id s n J ≡ true) ⊎ ((k : ℕ) × (e ≡ Returned k) × (stored_by v id s n (sent k J) (first_reply k J) ≡ true))
answered-cases v id s n J e h = grind (arith, nat_tests)

TookOp-stays : (v n : ℕ) (id : Id) (s : Stamp) (J : Journal) (e : Event) → TookOp v n id s J → TookOp v n id s (e ∷ J)
TookOp-stays v n id s J e t = record { number = t.number; message = t.message; was_sent = sent-stays t.number J t.message e t.was_sent; receiver = t.receiver; version = t.version; body = t.body; accepted = Accepted-stays t.number J e t.accepted }

pub answered-took-op : (J : Journal) (v : ℕ) (id : Id) (s : Stamp) (n : ℕ) → answered_store v id s n J ≡ true → TookOp v n id s J
answered-took-op [] v id s n h = cc
answered-took-op (e ∷ J) v id s n h = TookOp-stays v n id s J e (elim (answered-cases v id s n J e h) [
  | inl old ↦ answered-took-op J v id s n old
  | inr new ↦ by_sent new.0 (sent new.0 J) refl new.2
])
  where
    by_sent : (k : ℕ) (m : Option Message) → sent k J ≡ m → stored_by v id s n m (first_reply k J) ≡ true → TookOp v n id s J
    by_sent k None f h = cc
    by_sent k (Some m) f h = let p = stored_by-parts v id s n m (first_reply k J) h in
        record { number = k; message = m; was_sent = f; receiver = p.1; version = p.0; body = p.2; accepted = replied-accepted 0 (λ i j. true) J k (p.3).0 (p.3).1 (p.3).2 }

module _ (acks : ℕ) (P : ℕ → ℕ → Bool) where
  -- ---- stamps

  stamps-grow : (v : ℕ) (J : Journal) (e : Event) → stamps_of v J ≤ stamps_of v (e ∷ J)
  stamps-grow v J e = grind arith

  pub stamp-bound : (J : Journal) → Legal acks P J → (k : ℕ) (b : Beginning) (s : Stamp) → began k J ≡ Some b → b.stamp ≡ Some s → (s.version ≡ b.version) × (s.count ≤ stamps_of b.version J)
  stamp-bound [] l k b s f st = cc
  stamp-bound (e ∷ J) l k b s f st = elim (began-cases k J e b f) [
    | inl old ↦ (let i = stamp-bound J l.0 k b s old st in let g = stamps-grow b.version J e in (i.0, let z = i.1 in omega arith))
    | inr new ↦ now e new.0 new.1 l.1
  ]
    where
      now : (e : Event) (d : ℕ) → e ≡ Begun k d b.version b.id b.stamp → Permits acks P J e → (s.version ≡ b.version) × (s.count ≤ stamps_of b.version (e ∷ J))
      now e d is p = rw is (let q : MayBegin J k d b.version b.id b.stamp = rw is at p in
          let n : IsNextStamp J b.version (Some s) = subst (λ (x : Option Stamp). IsNextStamp J b.version x) st q.stamp in
          (n.0, subst (λ (x : Option Stamp). s.count ≤ stamps_of b.version (Begun k d b.version b.id x ∷ J)) (sym st) (rw (eq-eqb b.version b.version refl) (let z = n.1 in omega arith))))

  pub stamp-line : (J : Journal) → Legal acks P J → (k j : ℕ) (b c : Beginning) (s : Stamp) → began k J ≡ Some b → began j J ≡ Some c → b.stamp ≡ Some s → c.stamp ≡ Some s → k ≡ j
  stamp-line [] l k j b c s f g x y = cc
  stamp-line (e ∷ J) l k j b c s f g x y = elim (began-cases k J e b f) [
    | inl old ↦ elim (began-cases j J e c g) [
      | inl old' ↦ stamp-line J l.0 k j b c s old old' x y
      | inr new' ↦ absurd (later j c k b new'.0 new'.1 y old x)
    ]
    | inr new ↦ elim (began-cases j J e c g) [
      | inl old' ↦ absurd (later k b j c new.0 new.1 x old' y)
      | inr new' ↦ lines new.1 new'.1
    ]
  ]
    where
      lines : {d d' v v' : ℕ} {i i' : Id} {s s' : Option Stamp} → e ≡ Begun k d v i s → e ≡ Begun j d' v' i' s' → k ≡ j
      lines p q = cc

      later : (k : ℕ) (b : Beginning) (j : ℕ) (c : Beginning) (d : ℕ) → e ≡ Begun k d b.version b.id b.stamp → b.stamp ≡ Some s → began j J ≡ Some c → c.stamp ≡ Some s → ⊥
      later k b j c d is st old st' =
          let q : MayBegin J k d b.version b.id b.stamp = rw is at l.1 in
          let n : IsNextStamp J b.version (Some s) = subst (λ (x : Option Stamp). IsNextStamp J b.version x) st q.stamp in
          let i = stamp-bound J l.0 j c s old st' in
          let z : c.version ≡ b.version = sym i.0 ∙ n.0 in
          let w : s.count ≤ stamps_of b.version J = subst (λ (x : ℕ). s.count ≤ stamps_of x J) z i.1 in
          let u = n.1 in omega arith

  -- ---- whose Store it was

  pub record StoreLine (m : Message) (id : Id) (s : Stamp) (J : Journal) : Type 0 where
    pub line : ℕ
    pub begin : Beginning
    pub preparing : Preparing
    pub begun : began line J ≡ Some begin
    pub was_prepared : prepared line J ≡ Some preparing
    pub version : begin.version ≡ m.version
    pub same_id : begin.id ≡ id
    pub stamped : begin.stamp ≡ Some s
    pub recipient : preparing.recipients m.receiver ≡ true

  pub store-line : (J : Journal) → Legal acks P J → (k : ℕ) (m : Message) (id : Id) (s : Stamp) → sent k J ≡ Some m → m.body ≡ Store id s → StoreLine m id s J
  store-line [] l k m id s h is = cc
  store-line (e ∷ J) l k m id s h is = later (elim (sent-cases k J e m h) [
    | inl old ↦ store-line J l.0 k m id s old is
    | inr new ↦ (let p : MaySend P J k m.version new.sender m.receiver m.body = rw new.is at l.1 in
        now (subst (λ (y : Body). MayCarry P J m.version m.receiver y) is p.carries))
  ])
    where
      now : Carries J m.version m.receiver id s → StoreLine m id s J
      now c = let b = c.belongs in let o = b.is_open in record { line = b.line; begin = b.begin; preparing = b.preparing; begun = o.began; was_prepared = o.prepared; version = o.version; same_id = b.same_id; stamped = c.stamped; recipient = b.recipient }

      later : StoreLine m id s J → StoreLine m id s (e ∷ J)
      later x = record { line = x.line; begin = x.begin; preparing = x.preparing; begun = began-stays x.line J x.begin e x.begun; was_prepared = prepared-stays x.line J x.preparing e x.was_prepared; version = x.version; same_id = x.same_id; stamped = x.stamped; recipient = x.recipient }

module _ (acks : ℕ) (P : ℕ → ℕ → Bool) (some : 1 ≤ acks) where
  -- it has a piece over each key of the union's bucket
  pub took-piece : (J : Journal) → Legal acks P J → (v r m : ℕ) (b : Bucket) (u : Content) (key : ℕ) → Took v r m b u J → contains b key ≡ true → (Named v m key r J → ⊥) → version m J ≤ v → holds m key J ≡ true
  took-piece [] l v r m b u key t i free low = absurd t.accepted
  took-piece (e ∷ J) l v r m b u key t i free low =
      let g = version-grows m J e in
      let free' : Named v m key r J → ⊥ = λ h. free (Named-stays v m key r J e h) in
      elim (took-cases acks P J e l v r m b u t) [
        | inl old ↦ (let has = took-piece J l.0 v r m b u key old i free' (omega arith) in elim (effect J e acks P l.1 m) [
          | inl leaves ↦ leaves.pieces key ∙ has
          | inr a ↦ a.pieces key ∙ keeps (a.message).body (holds m key J) has (λ c s is j. not-deletable acks P some J e m l.0 a c s is v r (let q = a.raises in omega arith) b u old key i j free')
        ])
        | inr new ↦ (let a = takes-accepts acks P J e l.1 v r m b u new in (a.0).pieces key ∙ ap (λ (y : Body). has_piece key y (holds m key J)) a.1 ∙ rw i refl)
      ]
    where
      keeps : (y : Body) (had : Bool) → had ≡ true → ((c : Bucket) (s : ℕ) → y ≡ Delete c s → contains c key ≡ true → ⊥) → has_piece key y had ≡ true
      keeps (Apply c w) had h f = by_case (contains c key)
        where
          by_case : (t : Bool) → cond t true had ≡ true
          by_case true = refl
          by_case false = h
      keeps (Join c) had h f = by_case (contains c key)
        where
          by_case : (t : Bool) → cond t true had ≡ true
          by_case true = refl
          by_case false = h
      keeps (Delete c s) had h f = by_case (contains c key) refl
        where
          by_case : (t : Bool) → contains c key ≡ t → cond t false had ≡ true
          by_case true e = absurd (f c s refl e)
          by_case false e = h
      keeps _ had h f = h

  pub store-kept : (J : Journal) (e : Event) → Legal acks P (e ∷ J) → (v n : ℕ) (id : Id) → Holds acks P v n (key_of id) J → version n (e ∷ J) ≤ v → Within id (e ∷ J) (store n id J) (store n id (e ∷ J))
  store-kept J e l v n id h low = elim (classify acks P J e l.0 l.1 id) [
    | inl up ↦ up n
    | inr x ↦ within id (e ∷ J) _ _ (Le-same _ _ (sym (x.others n (λ same. not_taker acks P some J e id l.0 x v h.round (below x same) n h.bucket h.union h.took h.inside h.free same))))
  ]
    where
      below : (x : DeletesAt J e id) → n ≡ x.node → (x.accepts.message).version ≤ v
      below x same = let q = (x.accepts).raises in let p = by-node n x.node (e ∷ J) same in omega arith

  -- the active node's store only gets newer while its version is v
  pub active-kept : (J : Journal) (e : Event) → Legal acks P (e ∷ J) → (v n : ℕ) (id : Id) → complete v n (key_of id) J ≡ true → version n (e ∷ J) ≤ v → Within id (e ∷ J) (store n id J) (store n id (e ∷ J))
  active-kept J e l v n id c low = store-kept J e l v n id (complete-took acks P J l.0 v n (key_of id) c) low
