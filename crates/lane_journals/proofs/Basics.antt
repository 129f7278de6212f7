-- What stands stays, and which event made it so.
use Rattle.std.proofs.Common.{◌≡◌, ℕ, ◌≤◌, Bool, true, false, List, [], ◌∷◌, Option, Some, None, refl, ap, subst, arith, inl, inr, ◌⊎◌}
use Rattle.std.proofs.lemmas.Bool.{eqb-true}
use Rattle.std.proofs.lemmas.Bool.Decides.{nat_tests}
use Rattle.lane_journals.specs.Stamps.{Stamp, Le}
use Rattle.lane_journals.specs.Buckets.{Bucket, contains, Id}
use Rattle.lane_journals.proofs.Order.{Le_trans}
use Rattle.lane_journals.specs.Events.{Content, Body, Ask, Reply, Answer, DeleteFrom, Event, Published, Heard, Begun, Opened, Prepared, Sent, Delivered, Returned, Decided}
use Rattle.lane_journals.specs.Readers.{Journal, or_else, only_if, published, held, Beginning, began, Preparing, prepared, closed, opened, rounds, Message, round_in, sent, first_reply, returned, is_answer, Accepted, raised, version, Given, answer, Named, DeletedFrom}
use Rattle.lane_journals.specs.Facts.{Shown, Took, Applied, Gives, AnsweredApply}
use Rattle.lane_journals.specs.Legal.{MayHear, MaySend, MayDeliver, MayReturn, Legal}

pub or_else-some : {A : Type 0} (a b : Option A) (x : A) → a ≡ Some x → or_else a b ≡ Some x
or_else-some None b x h = cc
or_else-some (Some y) b x h = h

pub or_else-cases : {A : Type 0} (a b : Option A) (x : A) → or_else a b ≡ Some x → (a ≡ Some x) ⊎ ((a ≡ None) × (b ≡ Some x))
or_else-cases None b x h = inr (refl, h)
or_else-cases (Some y) b x h = inl h

pub only_if-some : {A : Type 0} (t : Bool) (a x : A) → only_if t a ≡ Some x → (t ≡ true) × (a ≡ x)
only_if-some true a x h = (refl, cc)
only_if-some false a x h = cc

-- ---- stays

pub sent-stays : (k : ℕ) (J : Journal) (m : Message) (e : Event) → sent k J ≡ Some m → sent k (e ∷ J) ≡ Some m
sent-stays k J m e h = grind (arith, or_else-some)

pub first_reply-stays : (k : ℕ) (J : Journal) (r : Reply) (e : Event) → first_reply k J ≡ Some r → first_reply k (e ∷ J) ≡ Some r
first_reply-stays k J r e h = grind (arith, or_else-some)

pub began-stays : (k : ℕ) (J : Journal) (b : Beginning) (e : Event) → began k J ≡ Some b → began k (e ∷ J) ≡ Some b
began-stays k J b e h = grind (arith, or_else-some)

pub prepared-stays : (k : ℕ) (J : Journal) (p : Preparing) (e : Event) → prepared k J ≡ Some p → prepared k (e ∷ J) ≡ Some p
prepared-stays k J p e h = grind (arith, or_else-some)

pub answer-stays : (v r n : ℕ) (J : Journal) (g : Given) (e : Event) → answer v r n J ≡ Some g → answer v r n (e ∷ J) ≡ Some g
answer-stays v r n J g e h = grind (arith, or_else-some)

pub returned-stays : (k : ℕ) (J : Journal) (e : Event) → returned k J ≡ true → returned k (e ∷ J) ≡ true
returned-stays k J e h = grind (arith, nat_tests)

pub published-stays : (v : ℕ) (J : Journal) (e : Event) → published v J ≡ true → published v (e ∷ J) ≡ true
published-stays v J e h = grind (arith, nat_tests)

pub opened-stays : (v : ℕ) (J : Journal) (e : Event) → opened v J ≡ true → opened v (e ∷ J) ≡ true
opened-stays v J e h = grind (arith, nat_tests)

pub Accepted-stays : (k : ℕ) (J : Journal) (e : Event) → Accepted k J → Accepted k (e ∷ J)
Accepted-stays k J e h = grind arith

raised-grows : (n : ℕ) (m : Option Message) (old : ℕ) → old ≤ raised n m old
raised-grows n m old = grind arith

pub version-grows : (n : ℕ) (J : Journal) (e : Event) → version n J ≤ version n (e ∷ J)
version-grows n J e = grind (arith, raised-grows)

pub rounds-grow : (v : ℕ) (J : Journal) (e : Event) → rounds v J ≤ rounds v (e ∷ J)
rounds-grow v J e = grind arith

pub Named-stays : (v n key r : ℕ) (J : Journal) (e : Event) → Named v n key r J → Named v n key r (e ∷ J)
Named-stays v n key r J e h = grind arith

pub DeletedFrom-stays : (v : ℕ) (b : Bucket) (n s r : ℕ) (J : Journal) (e : Event) → DeletedFrom v b n s r J → DeletedFrom v b n s r (e ∷ J)
DeletedFrom-stays v b n s r J e h = grind arith

-- ---- cases

pub first_reply-cases : (k : ℕ) (J : Journal) (e : Event) (r : Reply) → first_reply k (e ∷ J) ≡ Some r → (first_reply k J ≡ Some r) ⊎ ((e ≡ Delivered k r) × (first_reply k J ≡ None))
first_reply-cases k J e r h = grind (arith, nat_tests, or_else-cases, only_if-some)

pub accepted-cases : (k : ℕ) (J : Journal) (e : Event) → Accepted k (e ∷ J) → Accepted k J ⊎ ((r : Reply) × (e ≡ Delivered k r) × (is_answer r ≡ true))
accepted-cases k J e h = grind (arith, nat_tests)

pub returned-cases : (k : ℕ) (J : Journal) (e : Event) → returned k (e ∷ J) ≡ true → (returned k J ≡ true) ⊎ (e ≡ Returned k)
returned-cases k J e h = grind (arith, nat_tests)

pub opened-cases : (v : ℕ) (J : Journal) (e : Event) → opened v (e ∷ J) ≡ true → (opened v J ≡ true) ⊎ ((d : ℕ) × (rows : List Bucket) × (e ≡ Opened d v rows))
opened-cases v J e h = grind (arith, nat_tests)

pub published-cases : (v : ℕ) (J : Journal) (e : Event) → published v (e ∷ J) ≡ true → (published v J ≡ true) ⊎ ((set : ℕ → Bool) × (e ≡ Published v set))
published-cases v J e h = grind (arith, nat_tests)

pub named-cases : (v n key r : ℕ) (J : Journal) (e : Event) → Named v n key r (e ∷ J) → Named v n key r J ⊎ ((d : ℕ) × (b : Bucket) × (s : ℕ) × (e ≡ Decided d v (DeleteFrom b n s)) × (contains b key ≡ true) × (r ≤ rounds v J))
named-cases v n key r J e h = grind (arith, nat_tests)

pub deleted-cases : (v : ℕ) (b : Bucket) (n s r : ℕ) (J : Journal) (e : Event) → DeletedFrom v b n s r (e ∷ J) → DeletedFrom v b n s r J ⊎ ((d : ℕ) × (e ≡ Decided d v (DeleteFrom b n s)) × (r ≡ rounds v J))
deleted-cases v b n s r J e h = grind (arith, nat_tests)

pub record SentNow (k : ℕ) (J : Journal) (e : Event) (m : Message) : Type 0 where
  pub sender : ℕ
  pub is : e ≡ Sent k m.version sender m.receiver m.body
  pub round : m.round ≡ round_in m.version m.body J

pub sent-cases : (k : ℕ) (J : Journal) (e : Event) (m : Message) → sent k (e ∷ J) ≡ Some m → (sent k J ≡ Some m) ⊎ SentNow k J e m
sent-cases k J (Sent n v d to body) m h = elim (or_else-cases _ _ m h) [ inl old ↦ inl old | inr new ↦ inr (let o = only_if-some _ _ m new.1 in now (eqb-true n k o.0) o.1) ]
  where
    now : n ≡ k → record { version = v; receiver = to; body = body; round = round_in v body J } ≡ m → SentNow k J (Sent n v d to body) m
    now e f = subst (λ (x : Message). SentNow k J (Sent n v d to body) x) f (record { sender = d; is = ap (λ (x : ℕ). Sent x v d to body) e; round = refl })
sent-cases k J _ m h = inl h

pub began-cases : (k : ℕ) (J : Journal) (e : Event) (b : Beginning) → began k (e ∷ J) ≡ Some b → (began k J ≡ Some b) ⊎ ((d : ℕ) × (e ≡ Begun k d b.version b.id b.stamp) × (began k J ≡ None) × (d ≡ b.distributor))
began-cases k J (Begun l d v id s) b h = elim (or_else-cases _ _ b h) [ inl old ↦ inl old | inr new ↦ inr (let o = only_if-some _ _ b new.1 in now (eqb-true l k o.0) o.1 new.0) ]
  where
    now : l ≡ k → record { distributor = d; version = v; id = id; stamp = s } ≡ b → began k J ≡ None → (d' : ℕ) × (Begun l d v id s ≡ Begun k d' b.version b.id b.stamp) × (began k J ≡ None) × (d' ≡ b.distributor)
    now e f g = subst (λ (x : Beginning). (d' : ℕ) × (Begun l d v id s ≡ Begun k d' x.version x.id x.stamp) × (began k J ≡ None) × (d' ≡ x.distributor)) f (d, ap (λ (x : ℕ). Begun x d v id s) e, g, refl)
began-cases k J _ b h = inl h

pub prepared-cases : (k : ℕ) (J : Journal) (e : Event) (p : Preparing) → prepared k (e ∷ J) ≡ Some p → (prepared k J ≡ Some p) ⊎ ((e ≡ Prepared k p.row p.recipients) × (prepared k J ≡ None))
prepared-cases k J (Prepared l c set) p h = elim (or_else-cases _ _ p h) [ inl old ↦ inl old | inr new ↦ inr (let o = only_if-some _ _ p new.1 in now (eqb-true l k o.0) o.1 new.0) ]
  where
    now : l ≡ k → record { row = c; recipients = set } ≡ p → prepared k J ≡ None → (Prepared l c set ≡ Prepared k p.row p.recipients) × (prepared k J ≡ None)
    now e f g = subst (λ (x : Preparing). (Prepared l c set ≡ Prepared k x.row x.recipients) × (prepared k J ≡ None)) f (ap (λ (x : ℕ). Prepared x c set) e, g)
prepared-cases k J _ p h = inl h

pub closed-stays : (k : ℕ) (J : Journal) (e : Event) → closed k J ≡ true → closed k (e ∷ J) ≡ true
closed-stays k J e h = grind (arith, nat_tests)

pub closed-before : (k : ℕ) (J : Journal) (e : Event) → closed k (e ∷ J) ≡ false → closed k J ≡ false
closed-before k J e h = grind (arith, nat_tests)

pub opened-before : (v : ℕ) (J : Journal) (e : Event) → opened v (e ∷ J) ≡ false → opened v J ≡ false
opened-before v J e h = grind (arith, nat_tests)

module _ (acks : ℕ) (P : ℕ → ℕ → Bool) where
  pub accepted-sent : (J : Journal) → Legal acks P J → (k : ℕ) → Accepted k J → (m : Message) × (sent k J ≡ Some m)
  accepted-sent [] l k h = absurd h
  accepted-sent (e ∷ J) l k h =
      elim (accepted-cases k J e h) [
        | inl old ↦ let a = accepted-sent J l.0 k old in (a.0, sent-stays k J a.0 e a.1)
        | inr new ↦ let d : MayDeliver J k new.0 = rw new.1 at l.1 in (d.message, sent-stays k J d.message e d.was_sent)
      ]

  pub replied-sent : (J : Journal) → Legal acks P J → (k : ℕ) (r : Reply) → first_reply k J ≡ Some r → (m : Message) × (sent k J ≡ Some m)
  replied-sent [] l k r h = cc
  replied-sent (e ∷ J) l k r h =
      elim (first_reply-cases k J e r h) [
        | inl old ↦ let a = replied-sent J l.0 k r old in (a.0, sent-stays k J a.0 e a.1)
        | inr new ↦ let d : MayDeliver J k r = rw new.0 at l.1 in (d.message, sent-stays k J d.message e d.was_sent)
      ]

  pub returned-replied : (J : Journal) → Legal acks P J → (k : ℕ) → returned k J ≡ true → (r : Reply) × (first_reply k J ≡ Some r)
  returned-replied [] l k h = cc
  returned-replied (e ∷ J) l k h =
      elim (returned-cases k J e h) [
        | inl old ↦ let a = returned-replied J l.0 k old in (a.0, first_reply-stays k J a.0 e a.1)
        | inr new ↦ let d : MayReturn J k = rw new at l.1 in (d.reply, first_reply-stays k J d.reply e d.replied)
      ]

  pub sent_before : (J : Journal) (k : ℕ) (e : Event) (m : Message) → (n : Message) × (sent k J ≡ Some n) → sent k (e ∷ J) ≡ Some m → sent k J ≡ Some m
  sent_before J k e m a s = let g = sent-stays k J a.0 e a.1 in let same : a.0 ≡ m = cc in rw same at a.1

  pub replied-accepted : (J : Journal) → (k : ℕ) (r : Reply) → first_reply k J ≡ Some r → is_answer r ≡ true → Accepted k J
  replied-accepted [] k r h a = cc
  replied-accepted (e ∷ J) k r h a =
      elim (first_reply-cases k J e r h) [
        | inl old ↦ Accepted-stays k J e (replied-accepted J k r old a)
        | inr new ↦ rw new.0 (inl (refl, a))
      ]

  pub sent-member : (J : Journal) → Legal acks P J → (k : ℕ) (m : Message) → sent k J ≡ Some m → P m.version m.receiver ≡ true
  sent-member [] l k m h = cc
  sent-member (e ∷ J) l k m h = elim (sent-cases k J e m h) [
    | inl old ↦ sent-member J l.0 k m old
    | inr new ↦ let p : MaySend P J k m.version new.sender m.receiver m.body = rw new.is at l.1 in p.member
  ]

  -- a message sent before its version was opened is an Ask
  pub sent-early : (J : Journal) → Legal acks P J → (k : ℕ) (m : Message) → sent k J ≡ Some m → (m.body ≡ Ask) ⊎ (opened m.version J ≡ true)
  sent-early [] l k m h = cc
  sent-early (e ∷ J) l k m h = later (elim (sent-cases k J e m h) [
    | inl old ↦ sent-early J l.0 k m old
    | inr new ↦ let p : MaySend P J k m.version new.sender m.receiver m.body = rw new.is at l.1 in p.timing
  ])
    where
      later : (m.body ≡ Ask) ⊎ (opened m.version J ≡ true) → (m.body ≡ Ask) ⊎ (opened m.version (e ∷ J) ≡ true)
      later (inl a) = inl a
      later (inr o) = inr (opened-stays m.version J e o)

-- a number that is greater than all before is fresh
pub number-fresh : (P : ℕ → ℕ → Bool) (J : Journal) (k v d n : ℕ) (b : Body) → MaySend P J k v d n b → sent k J ≡ None
number-fresh P J k v d n b p = by_sent (sent k J) refl
  where
    by_sent : (o : Option Message) → sent k J ≡ o → o ≡ None
    by_sent None f = refl
    by_sent (Some m) f = let z = p.greater k m f in absurd (omega arith)

-- ---- records stay

pub Shown-stays : (v r n : ℕ) (b : Bucket) (g : Given) (J : Journal) (e : Event) → Shown v r n b g J → Shown v r n b g (e ∷ J)
Shown-stays v r n b g J e h = record { number = h.number; message = h.message; was_sent = sent-stays h.number J h.message e h.was_sent; receiver = h.receiver; version = h.version; round = h.round; body = h.body; reply = first_reply-stays h.number J (Answer g.content g.names) e h.reply }

pub Took-stays : (v r n : ℕ) (b : Bucket) (u : Content) (J : Journal) (e : Event) → Took v r n b u J → Took v r n b u (e ∷ J)
Took-stays v r n b u J e h = record { number = h.number; message = h.message; was_sent = sent-stays h.number J h.message e h.was_sent; receiver = h.receiver; version = h.version; round = h.round; body = h.body; accepted = Accepted-stays h.number J e h.accepted }

pub Applied-stays : (v r n : ℕ) (b : Bucket) (u : Content) (J : Journal) (e : Event) → Applied v r n b u J → Applied v r n b u (e ∷ J)
Applied-stays v r n b u J e h = record { number = h.number; message = h.message; was_sent = sent-stays h.number J h.message e h.was_sent; receiver = h.receiver; version = h.version; round = h.round; body = h.body }

pub Gives-stays : (v r n : ℕ) (b : Bucket) (u : Content) (id : Id) (x : Option Stamp) (J : Journal) (e : Event) → Gives v r n b u id x J → Gives v r n b u id x (e ∷ J)
Gives-stays v r n b u id x J e h = h

pub Gives-le : (v r n : ℕ) (b : Bucket) (u : Content) (id : Id) (x y : Option Stamp) (J : Journal) → Le y x → Gives v r n b u id x J → Gives v r n b u id y J
Gives-le v r n b u id x y J le h = Le_trans _ _ _ le h

pub took-applied : (v r n : ℕ) (b : Bucket) (u : Content) (J : Journal) → Took v r n b u J → Applied v r n b u J
took-applied v r n b u J t = record { number = t.number; message = t.message; was_sent = t.was_sent; receiver = t.receiver; version = t.version; round = t.round; body = t.body }

pub answered-took : (v r n : ℕ) (b : Bucket) (J : Journal) → (a : AnsweredApply v r n b J) → Took v r n b a.union J
answered-took v r n b J a = record { number = a.number; message = a.message; was_sent = a.was_sent; receiver = a.receiver; version = a.version; round = a.round; body = a.body; accepted = replied-accepted 0 (λ i j. true) J a.number (Answer a.content a.names) a.reply refl }

-- a version that a distributor holds was published
pub held-published : (acks : ℕ) (P : ℕ → ℕ → Bool) (J : Journal) → Legal acks P J → (d v : ℕ) → held d J ≡ Some v → published v J ≡ true
held-published acks P [] l d v h = cc
held-published acks P (e ∷ J) l d v h = elim (held-cases d v J e h) [
  | inl old ↦ published-stays v J e (held-published acks P J l.0 d v old)
  | inr new ↦ (let q : MayHear J d v = rw new at l.1 in published-stays v J e q.state)
]
  where
    held-cases : (d v : ℕ) (J : Journal) (e : Event) → held d (e ∷ J) ≡ Some v → (held d J ≡ Some v) ⊎ (e ≡ Heard d v)
    held-cases d v J e h = grind (arith, nat_tests)
