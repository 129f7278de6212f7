-- There are always enough copies.
use Rattle.std.proofs.Common.{◌≡◌, ◌≢◌, ℕ, ◌<◌, ◌≤◌, Bool, true, [], ◌∷◌, Option, Some, refl, sym, ap, ◌∙◌, subst, arith, inl, inr, ◌⊎◌}
use Rattle.std.proofs.lemmas.Bool.{cases_lt}
use Rattle.lane_journals.specs.Sets.{AtLeast}
use Rattle.lane_journals.specs.Stamps.{Stamp, Le, newer}
use Rattle.lane_journals.specs.Buckets.{Bucket, contains, Id, key_of}
use Rattle.lane_journals.specs.Events.{Content, Body, Store, Event}
use Rattle.lane_journals.specs.Readers.{Within, Journal, Message, version, after_body, store, acceptable, Named, DeletedFrom}
use Rattle.lane_journals.specs.Facts.{Took, Applied, Gives, TookStore}
use Rattle.lane_journals.specs.Legal.{MayDeliver, Legal}
use Rattle.lane_journals.proofs.Ids.{same_id-refl}
use Rattle.lane_journals.proofs.Spent.{within, within-trans, within-at, within-from, within-stays, within-moves, within?}
use Rattle.lane_journals.proofs.Order.{Le_trans, newer-left, Le-at, Le-same}
use Rattle.lane_journals.proofs.Counts.{AtLeast-map, AtLeast-choose}
use Rattle.lane_journals.proofs.Basics.{Gives-le, sent_before, accepted-cases, accepted-sent, version-grows, Applied-stays, Named-stays}
use Rattle.lane_journals.proofs.Serials.{Accepts, named-shows}
use Rattle.lane_journals.proofs.Deletes.{delete-sent}
use Rattle.lane_journals.proofs.Marks.{TakesNow, took-cases, takes-accepts, now-accepts, took-version}
use Rattle.lane_durability.proofs.Rounds.{Gives-back, apply-covers, Backs, standing}
use Rattle.lane_journals.proofs.Losses.{DeletesAt, classify, by-node, not_taker}

module _ (acks : ℕ) (P : ℕ → ℕ → Bool) (some : 1 ≤ acks) where
  -- what is to be deleted is held by enough others
  abbrev pub Safe : Journal → Type 0
  Safe J = (v : ℕ) (b : Bucket) (n s r : ℕ) → DeletedFrom v b n s r J → acceptable n b s J ≡ true → version n J ≤ v → (id : Id) → contains b (key_of id) ≡ true →
      AtLeast acks (λ m. (m ≢ n) × (v ≤ version m J) × Within id J (store n id J) (store m id J))

  abbrev pub Above : ℕ → Id → Option Stamp → Journal → Type 0
  Above v id x J = AtLeast acks (λ m. (v < version m J) × Within id J x (store m id J))

  abbrev pub Offers : ℕ → ℕ → Id → Option Stamp → Journal → Type 0
  Offers v r id x J = (n : ℕ) (b : Bucket) (u : Content) → Applied v r n b u J → Gives v r n b u id x J

  abbrev pub Takers : ℕ → ℕ → Id → Option Stamp → Journal → Type 0
  Takers v r id x J = (m : ℕ) (b : Bucket) (u : Content) → Took v r m b u J → contains b (key_of id) ≡ true → (Named v m (key_of id) r J → ⊥) → Within id J x (store m id J)

  -- what a round offers stays with those who took it, or enough nodes of a greater version have it
  abbrev pub UnionStays : Journal → Type 0
  UnionStays J = (v r : ℕ) (id : Id) (x : Option Stamp) → Offers v r id x J → Takers v r id x J ⊎ Above v id x J

  pub safe : (J : Journal) → Legal acks P J → UnionStays J → Safe J
  safe J l stays v b n s r d a low id i =
      let g = standing acks P some J l v b n s r d a in
      let x = (g.given).content id in
      let shows : store n id J ≡ x = named-shows acks P J l v g.round n b g.given b s g.shown g.named a id i i in
      let each = AtLeast-map (λ m k. (by_keeper x shows m k.0 k.1)) (g.keepers id i) in
      elim (AtLeast-choose acks _ _ each) [
        | inl all ↦ all
        | inr above ↦ AtLeast-map (λ m k. (λ e. (let z = by-node m n J e in let y = k.0 in omega arith), (let y = k.0 in omega arith), within-from id J _ _ _ shows k.1)) above
      ]
    where
      by_keeper : (x : Option Stamp) → store n id J ≡ x → (m : ℕ) → m ≢ n → Backs acks P v m id x J → ((m ≢ n) × (v ≤ version m J) × Within id J (store n id J) (store m id J)) ⊎ Above v id x J
      by_keeper x shows m ne k = elim (stays v k.round id x (λ i c u ap. Gives-le v k.round i c u id _ _ J k.enough (apply-covers acks P J l v k.round i k.reader c u k.given ap k.read id))) [
        | inl all ↦ inl (ne, took-version acks P J l v k.round m k.bucket k.union k.took, within-from id J _ _ _ shows (all m k.bucket k.union k.took k.inside k.free))
        | inr above ↦ inr above
      ]

  -- ---- one step

  pub record FromDelete (J : Journal) (e : Event) (id : Id) (x : DeletesAt J e id) : Type 0 where
    pub round : ℕ
    pub from : DeletedFrom (x.accepts.message).version x.bucket x.node x.serial round J
    pub ok : acceptable x.node x.bucket x.serial J ≡ true

  pub from-delete : (J : Journal) (e : Event) (id : Id) → Legal acks P J → (x : DeletesAt J e id) → FromDelete J e id x
  from-delete J e id l x =
      let a = x.accepts in
      let d = delete-sent acks P J l a.number a.message a.was_sent x.bucket x.serial x.body in
      record { round = d.0; from = subst (λ (y : ℕ). DeletedFrom (a.message).version x.bucket y x.serial d.0 J) a.receiver d.1; ok = a.may_delete x.bucket x.serial x.body }

  -- who accepts a Delete is safe to lose its store
  losing : (J : Journal) (e : Event) (id : Id) → Legal acks P J → Safe J → (x : DeletesAt J e id) → AtLeast acks (λ m. (m ≢ x.node) × ((x.accepts.message).version ≤ version m J) × Within id J (store x.node id J) (store m id J))
  losing J e id l is_safe x = let d = from-delete J e id l x in is_safe (x.accepts.message).version x.bucket x.node x.serial d.round d.from d.ok (x.accepts).low id x.inside

  not_loser : (J : Journal) (e : Event) (id : Id) (x : DeletesAt J e id) (v : ℕ) (u : Option Stamp) (m : ℕ) → v < version m J → Within id J u (store m id J) → ((x.accepts.message).version ≤ v) ⊎ (Within id J u (store x.node id J) → ⊥) → m ≢ x.node
  not_loser J e id x v u m a b c same =
      let p = by-node m x.node J same in
      let low = (x.accepts).low in
      elim c [ inl below ↦ absurd (omega arith) | inr less ↦ less (subst (λ (i : ℕ). Within id J u (store i id J)) same b) ]

  above-others : (J : Journal) (e : Event) (id : Id) (x : DeletesAt J e id) (v : ℕ) (u : Option Stamp) → ((x.accepts.message).version ≤ v) ⊎ (Within id J u (store x.node id J) → ⊥) → Above v id u J → Above v id u (e ∷ J)
  above-others J e id x v u c have = AtLeast-map (λ m k. (let g = version-grows m J e in let a = k.0 in omega arith, within-at id (e ∷ J) _ _ _ (x.others m (not_loser J e id x v u m k.0 k.1 c)) (within-stays id J e _ _ k.1))) have

  above-lost : (J : Journal) (e : Event) (id : Id) → Legal acks P J → Safe J → (x : DeletesAt J e id) (v : ℕ) (u : Option Stamp) → v < (x.accepts.message).version → Within id J u (store x.node id J) → Above v id u (e ∷ J)
  above-lost J e id l is_safe x v u a b = AtLeast-map (λ m k. (let g = version-grows m J e in let p = k.1 in omega arith, within-at id (e ∷ J) _ _ _ (x.others m k.0) (within-stays id J e _ _ (within-trans id J _ _ _ b k.2)))) (losing J e id l is_safe x)

  -- where enough nodes above a version hold something, there still are enough
  pub above-stays : (J : Journal) (e : Event) → Legal acks P (e ∷ J) → Safe J → (v : ℕ) (id : Id) (u : Option Stamp) → Above v id u J → Above v id u (e ∷ J)
  above-stays J e l is_safe v id u have =
      elim (classify acks P J e l.0 l.1 id) [
        | inl up ↦ AtLeast-map (λ m k. (let a = k.0 in let g = version-grows m J e in omega arith, within-moves id J e _ _ _ k.1 (up m))) have
        | inr x ↦ elim (cases_lt v (x.accepts.message).version) [
          | inl above ↦ elim (within? id J u (store x.node id J)) [ inr less ↦ above-others J e id x v u (inr less) have | inl had ↦ above-lost J e id l.0 is_safe x v u above had ]
          | inr below ↦ above-others J e id x v u (inl below) have
        ]
      ]

  offers-before : (J : Journal) (e : Event) → Legal acks P J → (v r : ℕ) (id : Id) (x : Option Stamp) → Offers v r id x (e ∷ J) → Offers v r id x J
  offers-before J e l v r id x f n b u a = Gives-back acks P J l v r n b u id x e a (f n b u (Applied-stays v r n b u J e a))

  pub takes-applied : (J : Journal) (e : Event) (v r m : ℕ) (b : Bucket) (u : Content) → TakesNow v r m b u J e → Applied v r m b u J
  takes-applied J e v r m b u new = record { number = new.number; message = new.message; was_sent = new.was_sent; receiver = new.receiver; version = new.version; round = new.round; body = new.body }

  -- who takes an Apply holds what it brings
  pub took-stores : (J : Journal) (e : Event) → Legal acks P (e ∷ J) → (v r m : ℕ) (b : Bucket) (u : Content) → TakesNow v r m b u J e → (id : Id) → contains b (key_of id) ≡ true → (x : Option Stamp) → Gives v r m b u id x J → Le x (store m id (e ∷ J))
  took-stores J e l v r m b u new id i x gives =
      let a = takes-accepts acks P J e l.1 v r m b u new in
      let s : store m id (e ∷ J) ≡ newer (u id) (store m id J) = (a.0).stores id ∙ ap (λ (y : Body). after_body id y (store m id J)) a.1 ∙ rw i refl in
      Le-at _ _ _ s (Le_trans _ _ _ gives (newer-left _ _))

  takers-kept : (J : Journal) (e : Event) → Legal acks P (e ∷ J) → (v r : ℕ) (id : Id) (x : Option Stamp) → Offers v r id x J → Takers v r id x J →
      ((m : ℕ) (b : Bucket) (u : Content) → Took v r m b u J → contains b (key_of id) ≡ true → (Named v m (key_of id) r J → ⊥) → Within id J x (store m id J) → Within id (e ∷ J) (store m id J) (store m id (e ∷ J))) → Takers v r id x (e ∷ J)
  takers-kept J e l v r id x offers all keeps m b u t i free =
      elim (took-cases acks P J e l v r m b u t) [
        | inl old ↦ (let free' : Named v m (key_of id) r J → ⊥ = λ h. free (Named-stays v m (key_of id) r J e h) in let has = all m b u old i free' in within-moves id J e _ _ _ has (keeps m b u old i free' has))
        | inr new ↦ within id (e ∷ J) _ _ (took-stores J e l v r m b u new id i x (offers m b u (takes-applied J e v r m b u new)))
      ]

  union-step : (J : Journal) (e : Event) → Legal acks P (e ∷ J) → UnionStays J → UnionStays (e ∷ J)
  union-step J e l stays v r id u offers' =
      let is_safe = safe J l.0 stays in
      let offers = offers-before J e l.0 v r id u offers' in
      elim (stays v r id u offers) [
        | inl all ↦ elim (classify acks P J e l.0 l.1 id) [
          | inl up ↦ inl (takers-kept J e l v r id u offers all (λ m b w t i f h. up m))
          | inr x ↦ elim (cases_lt v (x.accepts.message).version) [
            | inl above ↦ elim (within? id J u (store x.node id J)) [
              | inr less ↦ inl (takers-kept J e l v r id u offers all (λ m b w t i f h. within id (e ∷ J) _ _ (Le-same _ _ (sym (x.others m (λ same. less (subst (λ (j : ℕ). Within id J u (store j id J)) same h)))))))
              | inl had ↦ inr (above-lost J e id l.0 is_safe x v u above had)
            ]
            | inr below ↦ inl (takers-kept J e l v r id u offers all (λ m b w t i f h. within id (e ∷ J) _ _ (Le-same _ _ (sym (x.others m (not_taker acks P some J e id l.0 x v r below m b w t i f))))))
          ]
        ]
        | inr have ↦ inr (above-stays J e l is_safe v id u have)
      ]

  pub union-stays : (J : Journal) → Legal acks P J → UnionStays J
  union-stays [] l = λ v r id x o. inl (λ m b u t i free. absurd t.accepted)
  union-stays (e ∷ J) l = union-step J e l (union-stays J l.0)

  -- safe delete
  pub all-safe : (J : Journal) → Legal acks P J → Safe J
  all-safe J l = safe J l (union-stays J l)

  -- ---- where a Store was accepted it is held, or enough nodes hold it or a newer one

  record StoresNow (id : Id) (s : Stamp) (n : ℕ) (J : Journal) (e : Event) : Type 0 where
    accepts : Accepts J e n
    body : (accepts.message).body ≡ Store id s

  stored-cases : (J : Journal) (e : Event) → Legal acks P (e ∷ J) → (id : Id) (s : Stamp) (n : ℕ) → TookStore id s n (e ∷ J) → TookStore id s n J ⊎ StoresNow id s n J e
  stored-cases J e l id s n t =
      elim (accepted-cases t.number J e t.accepted) [
        | inl old ↦ inl (record { number = t.number; message = t.message; was_sent = sent_before acks P J t.number e t.message (accepted-sent acks P J l.0 t.number old) t.was_sent; receiver = t.receiver; body = t.body; accepted = old })
        | inr new ↦ inr (let d : MayDeliver J t.number new.0 = rw new.1 at l.1 in
            let a = now-accepts acks P J e l.1 t.number n t.message new.0 new.1 new.2 (sent_before acks P J t.number e t.message (d.message, d.was_sent) t.was_sent) t.receiver in
            record { accepts = a.0; body = ap (λ (y : Message). y.body) a.1 ∙ t.body })
      ]

  stores-now : (J : Journal) (e : Event) (id : Id) (s : Stamp) (n : ℕ) → StoresNow id s n J e → Le (Some s) (store n id (e ∷ J))
  stores-now J e id s n new =
      let h : store n id (e ∷ J) ≡ newer (Some s) (store n id J) = (new.accepts).stores id ∙ ap (λ (y : Body). after_body id y (store n id J)) new.body ∙ rw (same_id-refl id) refl in
      Le-at _ _ _ h (newer-left _ _)

  abbrev pub Stays : Id → Stamp → Journal → Type 0
  Stays id s J = ((n : ℕ) → TookStore id s n J → Within id J (Some s) (store n id J)) ⊎ AtLeast acks (λ m. Within id J (Some s) (store m id J))

  stays-step : (J : Journal) (e : Event) → Legal acks P (e ∷ J) → (id : Id) (s : Stamp) → Stays id s J → Stays id s (e ∷ J)
  stays-step J e l id s have = elim (classify acks P J e l.0 l.1 id) [
    | inl up ↦ elim have [
      | inl all ↦ inl (λ n t. elim (stored-cases J e l id s n t) [ inl old ↦ within-moves id J e _ _ _ (all n old) (up n) | inr new ↦ within id (e ∷ J) _ _ (stores-now J e id s n new) ])
      | inr enough ↦ inr (AtLeast-map (λ m k. within-moves id J e _ _ _ k (up m)) enough)
    ]
    | inr x ↦ elim (within? id J (Some s) (store x.node id J)) [
      | inl had ↦ inr (AtLeast-map (λ m k. within-at id (e ∷ J) _ _ _ (x.others m k.0) (within-stays id J e _ _ (within-trans id J _ _ _ had k.2))) (losing J e id l.0 (all-safe J l.0) x))
      | inr less ↦ elim have [
        | inl all ↦ inl (λ n t. elim (stored-cases J e l id s n t) [
          | inl old ↦ (let has = all n old in within-at id (e ∷ J) _ _ _ (x.others n (λ same. less (subst (λ (j : ℕ). Within id J (Some s) (store j id J)) same has))) (within-stays id J e _ _ has))
          | inr new ↦ within id (e ∷ J) _ _ (stores-now J e id s n new)
        ])
        | inr enough ↦ inr (AtLeast-map (λ m k. within-at id (e ∷ J) _ _ _ (x.others m (λ same. less (subst (λ (j : ℕ). Within id J (Some s) (store j id J)) same k))) (within-stays id J e _ _ k)) enough)
      ]
    ]
  ]

  pub stored-stays : (J : Journal) → Legal acks P J → (id : Id) (s : Stamp) → Stays id s J
  stored-stays [] l id s = inl (λ n t. absurd t.accepted)
  stored-stays (e ∷ J) l id s = stays-step J e l id s (stored-stays J l.0 id s)
