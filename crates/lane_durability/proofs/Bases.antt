-- What a version finds and acknowledges isn't lost.
use Rattle.std.proofs.Common.{◌≡◌, ◌≢◌, ℕ, zero, suc, ◌+◌, ◌<◌, ◌≤◌, Bool, true, false, List, [], ◌∷◌, Option, Some, None, refl, sym, ap, ◌∙◌, subst, subst₂, arith, inl, inr, ◌⊎◌, eqb, ltb, eq-eqb}
use Rattle.std.proofs.lemmas.Bool.{eqb-true, cases_lt, cases_eq}
use Rattle.std.proofs.lemmas.Bool.Decides.{nat_tests}
use Rattle.lane_journals.specs.Sets.{AtLeast}
use Rattle.lane_journals.specs.Stamps.{Stamp, Le}
use Rattle.lane_journals.specs.Buckets.{Bucket, contains, Id, same_id, key_of}
use Rattle.lane_journals.specs.Events.{Content, Body, Read, Apply, Reply, Answer, RoundBegun, RoundEnded, DeleteFrom, Event, Opened, Prepared, Sent, Delivered, Closed, Decided}
use Rattle.lane_journals.specs.Readers.{Within, Journal, published, Beginning, began, Preparing, prepared, closed, opened, rounds, round_of, running, Message, version, after_body, store, acceptable, base, Given, answer, answered_store, complete, DeletedFrom, AckedBy, Acked}
use Rattle.lane_journals.specs.Facts.{Shown, Applied, Gives, IsOpen}
use Rattle.lane_journals.specs.Legal.{MayPublish, MayOpen, MayPrepare, MaySend, MayClose, Permits, Legal}
use Rattle.lane_journals.proofs.Ids.{same_id-eq, same_id-true}
use Rattle.lane_journals.proofs.Spent.{within, within-refl, within-trans, within-le, within-at, within-from, within-stays, within-moves}
use Rattle.lane_journals.proofs.Order.{Le_refl, Le_trans, Le_total, Le-same}
use Rattle.lane_journals.proofs.Counts.{AtLeast-map, AtLeast-some}
use Rattle.lane_journals.proofs.BucketLaws.{same_bucket-refl}
use Rattle.lane_journals.proofs.Basics.{Gives-stays, sent-member, sent-early, replied-accepted, version-grows, opened-stays, opened-cases, opened-before, published-stays, published-cases, closed-before, answer-stays, took-applied, answered-took, deleted-cases}
use Rattle.lane_journals.proofs.Rows.{SameRound, running-cases, IsRound, IsRound-stays, isround-bound, isround-one, running-round, running-row, quiet-running, running-idle, was-prepared, open-cases, prepared-permits}
use Rattle.lane_journals.proofs.Serials.{effect, shown-cases, shown-now, named-shows, answer-cases, answer-shown}
use Rattle.lane_durability.proofs.TwoDeletes.{alive-back, two_deletes}
use Rattle.lane_journals.proofs.Marks.{Holds, complete-took, recipient-holds, complete-before, complete-closed, running-unnamed}
use Rattle.lane_durability.proofs.Rounds.{unite-gives, applied-cases, applied-answers, apply-covers, shown-isround, Backs, standing}
use Rattle.lane_journals.proofs.Losses.{DeletesAt, classify}
use Rattle.lane_durability.proofs.Copies.{from-delete}
use Rattle.lane_journals.proofs.Kept.{answered-took-op, store-line, stamp-line, store-kept, one-open}
use Rattle.lane_durability.proofs.Held.{took-held, stored-held}
use Rattle.lane_journals.proofs.Versions.{accepted-version, opened-version}

-- the greatest of a function over a set
record Best (f : ℕ → Option Stamp) (p : ℕ → Bool) (k : ℕ) : Type 0 where
  at : ℕ
  below : at < k
  here : p at ≡ true
  best : (m : ℕ) → m < k → p m ≡ true → Le (f m) (f at)

greatest : (f : ℕ → Option Stamp) (p : ℕ → Bool) (k : ℕ) → Best f p k ⊎ ((n : ℕ) → n < k → p n ≡ false)
greatest f p zero = inr (λ n h. absurd (omega arith))
greatest f p (suc k) = step (p k) refl (greatest f p k)
  where
    last : (m : ℕ) → m < suc k → (m ≡ k) ⊎ (m < k)
    last m h = grind arith

    at_k : (x : Option Stamp) (m : ℕ) → m ≡ k → Le (f k) x → Le (f m) x
    at_k x m is h = subst (λ (i : ℕ). Le (f i) x) (sym is) h

    step : (t : Bool) → p k ≡ t → Best f p k ⊎ ((n : ℕ) → n < k → p n ≡ false) → Best f p (suc k) ⊎ ((n : ℕ) → n < suc k → p n ≡ false)
    step true e (inl b) = elim (Le_total (f b.at) (f k)) [
      | inl less ↦ inl (record { at = k; below = omega arith; here = e; best = λ m h q. elim (last m h) [ inl is ↦ at_k _ m is (Le_refl _) | inr under ↦ Le_trans _ _ _ (b.best m under q) less ] })
      | inr more ↦ inl (record { at = b.at; below = (let z = b.below in omega arith); here = b.here; best = λ m h q. elim (last m h) [ inl is ↦ at_k _ m is more | inr under ↦ b.best m under q ] })
    ]
    step true e (inr none) = inl (record { at = k; below = omega arith; here = e; best = λ m h q. elim (last m h) [ inl is ↦ at_k _ m is (Le_refl _) | inr under ↦ (let z = none m under in absurd (let w : true ≡ false = cc in cc)) ] })
    step false e (inl b) = inl (record { at = b.at; below = (let z = b.below in omega arith); here = b.here; best = λ m h q. elim (last m h) [ inl is ↦ absurd (let z : p k ≡ true = subst (λ (i : ℕ). p i ≡ true) is q in cc) | inr under ↦ b.best m under q ] })
    step false e (inr none) = inr (λ m h. elim (last m h) [ inl is ↦ subst (λ (i : ℕ). p i ≡ false) (sym is) e | inr under ↦ none m under ])

module _ (acks : ℕ) (P : ℕ → ℕ → Bool) (some : 1 ≤ acks) where
  -- ---- states and openings

  pub record State (v : ℕ) : Type 0 where
    pub small : (n : ℕ) → P v n ≡ true → n < 32
    pub node : ℕ
    pub inhabited : P v node ≡ true

  pub published-state : (J : Journal) → Legal acks P J → (v : ℕ) → published v J ≡ true → State v
  published-state [] l v h = cc
  published-state (e ∷ J) l v h = elim (published-cases v J e h) [
    | inl old ↦ published-state J l.0 v old
    | inr new ↦ (let q : MayPublish acks P J v new.0 = rw new.1 at l.1 in record { small = λ n h. q.small n (q.nodes n ∙ h); node = (q.inhabited).0; inhabited = sym (q.nodes (q.inhabited).0) ∙ (q.inhabited).1 })
  ]

  pub opened-published : (J : Journal) → Legal acks P J → (v : ℕ) → opened v J ≡ true → published v J ≡ true
  opened-published [] l v h = cc
  opened-published (e ∷ J) l v h = published-stays v J e (elim (opened-cases v J e h) [
    | inl old ↦ opened-published J l.0 v old
    | inr new ↦ (let q : MayOpen P J new.0 v new.1 = rw new.2 at l.1 in q.state)
  ])

  -- ---- what a node held as it took a version

  pub base-at : (v n : ℕ) (id : Id) (J : Journal) (e : Event) → v ≤ version n (e ∷ J) → base v n id (e ∷ J) ≡ base v n id J
  base-at v n id J e h = rw not_below refl
    where
      not_below : ltb (version n (e ∷ J)) v ≡ false
      not_below = grind (arith, nat_tests)

  pub base-low : (v n : ℕ) (id : Id) (J : Journal) → version n J < v → base v n id J ≡ store n id J
  base-low v n id [] h = refl
  base-low v n id (e ∷ J) h = rw below refl
    where
      below : ltb (version n (e ∷ J)) v ≡ true
      below = grind (arith, nat_tests)

  -- before a version is opened, a node at it holds what it held as it took it
  pub early-base : (J : Journal) → Legal acks P J → (v n : ℕ) (id : Id) → opened v J ≡ false → version n J ≤ v → base v n id J ≡ store n id J
  early-base [] l v n id o low = refl
  early-base (e ∷ J) l v n id o low = elim (cases_lt (version n (e ∷ J)) v) [ inl below ↦ base-low v n id (e ∷ J) below | inr at ↦ base-at v n id J e at ∙ early-base J l.0 v n id (opened-before v J e o) (let g = version-grows n J e in omega arith) ∙ sym (same at) ]
    where
      same : v ≤ version n (e ∷ J) → store n id (e ∷ J) ≡ store n id J
      same at = elim (effect J e acks P l.1 n) [
        | inl leaves ↦ leaves.stores id
        | inr a ↦ elim (sent-early acks P J l.0 a.number a.message a.was_sent) [
          | inl ask ↦ a.stores id ∙ ap (λ (b : Body). after_body id b (store n id J)) ask
          | inr later ↦ (let q = a.raises in let is_v : (a.message).version ≡ v = omega arith in let o' = opened-before v J e o in let z : opened v J ≡ true = subst (λ (x : ℕ). opened x J ≡ true) is_v later in cc)
        ]
      ]

  -- ---- what a version must not lose

  pub record Covers (v : ℕ) (id : Id) (J : Journal) (x : Option Stamp) : Type 0 where
    pub bases : (n : ℕ) → P v n ≡ true → Within id J (base v n id J) x
    pub acked : (s : Stamp) → Acked v id s J → Within id J (Some s) x

  pub Covers-le : (v : ℕ) (id : Id) (J : Journal) (x y : Option Stamp) → Covers v id J x → Within id J x y → Covers v id J y
  Covers-le v id J x y c h = record { bases = λ n p. within-trans id J _ _ _ (c.bases n p) h; acked = λ s a. within-trans id J _ _ _ (c.acked s a) h }

  pub acked-cases : (v : ℕ) (id : Id) (s : Stamp) (J : Journal) (e : Event) → Acked v id s (e ∷ J) → Acked v id s J ⊎ ((line : ℕ) × (e ≡ Closed line true) × AckedBy v id s (began line J))
  acked-cases v id s J (Closed line true) (inl h) = inr (line, refl, h)
  acked-cases v id s J (Closed line true) (inr h) = inl h
  acked-cases v id s J (Closed line false) h = inl h
  acked-cases v id s J _ h = inl h

  pub record ClosesNow (v : ℕ) (id : Id) (J : Journal) (e : Event) : Type 0 where
    pub line : ℕ
    pub begin : Beginning
    pub is : e ≡ Closed line true
    pub begun : began line J ≡ Some begin
    pub version : begin.version ≡ v
    pub same_id : begin.id ≡ id

  abbrev NotClosed : ℕ → Id → Journal → Event → Type 0
  NotClosed v id J e = (line : ℕ) → e ≡ Closed line true → (s : Stamp) → AckedBy v id s (began line J) → ⊥

  closed-cases : (v : ℕ) (id : Id) (J : Journal) (e : Event) → ClosesNow v id J e ⊎ NotClosed v id J e
  closed-cases v id J (Closed line true) = by_begin (began line J) refl
    where
      line-is : {l : ℕ} → Closed line true ≡ Closed l true → l ≡ line
      line-is p = cc

      by_begin : (b : Option Beginning) → began line J ≡ b → ClosesNow v id J (Closed line true) ⊎ NotClosed v id J (Closed line true)
      by_begin None f = inr (λ l is s a. let z : AckedBy v id s None = subst (λ (y : Option Beginning). AckedBy v id s y) f (subst (λ (y : ℕ). AckedBy v id s (began y J)) (line-is is) a) in z)
      by_begin (Some b) f = by_case (eqb b.version v) (same_id b.id id) refl refl
        where
          by_case : (t u : Bool) → eqb b.version v ≡ t → same_id b.id id ≡ u → ClosesNow v id J (Closed line true) ⊎ NotClosed v id J (Closed line true)
          by_case true true e g = inl (record { line = line; begin = b; is = refl; begun = f; version = eqb-true _ _ e; same_id = same_id-true _ _ g })
          by_case true false e g = inr (λ l is s a. let z : AckedBy v id s (Some b) = subst (λ (y : Option Beginning). AckedBy v id s y) f (subst (λ (y : ℕ). AckedBy v id s (began y J)) (line-is is) a) in let w = same_id-eq _ _ z.1 in cc)
          by_case false u e g = inr (λ l is s a. let z : AckedBy v id s (Some b) = subst (λ (y : Option Beginning). AckedBy v id s y) f (subst (λ (y : ℕ). AckedBy v id s (began y J)) (line-is is) a) in let w = eq-eqb _ _ z.0 in cc)
  closed-cases v id J (Closed line false) = inr (λ l is s a. cc)
  closed-cases v id J _ = inr (λ l is s a. cc)

  Covers-stays : (J : Journal) (e : Event) → Legal acks P J → (v : ℕ) (id : Id) (x : Option Stamp) → opened v J ≡ true → NotClosed v id J e → Covers v id J x → Covers v id (e ∷ J) x
  Covers-stays J e l v id x o not c = record {
    bases = λ n p. within-from id (e ∷ J) _ _ _ (base-at v n id J e (let i = opened-version acks P some J l v n o p in let g = version-grows n J e in omega arith)) (within-stays id J e _ _ (c.bases n p));
    acked = λ s a. elim (acked-cases v id s J e a) [ inl old ↦ within-stays id J e _ _ (c.acked s old) | inr new ↦ absurd (not new.0 new.1 s new.2) ];
  }

  -- an event that is no acknowledgement
  calm : (J : Journal) (v : ℕ) (id : Id) (e : Event) → ((line : ℕ) → e ≡ Closed line true → ⊥) → NotClosed v id J e
  calm J v id e h line is s a = h line is

  pub acked-opened : (J : Journal) → Legal acks P J → (v : ℕ) (id : Id) (s : Stamp) → Acked v id s J → opened v J ≡ true
  acked-opened [] l v id s a = absurd a
  acked-opened (e ∷ J) l v id s a = opened-stays v J e (elim (acked-cases v id s J e a) [
    | inl old ↦ acked-opened J l.0 v id s old
    | inr new ↦ (let q : MayClose acks J new.0 true = rw new.1 at l.1 in now new.0 q (subst (λ (y : Option Beginning). AckedBy v id s y) q.begun new.2))
  ])
    where
      now : (line : ℕ) (q : MayClose acks J line true) → AckedBy v id s (Some q.begin) → opened v J ≡ true
      now line q a =
          let w = was-prepared acks P J l.0 line (q.acked refl).preparing (q.acked refl).was_prepared in
          let same : w.begin ≡ q.begin = let x = w.begun in let y = q.begun in cc in
          subst (λ (y : ℕ). opened y J ≡ true) (ap (λ (z : Beginning). z.version) same ∙ a.0) w.opened

  -- ---- operations

  -- the open operation of a document
  pub record Recipient (v n : ℕ) (id : Id) (J : Journal) : Type 0 where
    pub line : ℕ
    pub begin : Beginning
    pub preparing : Preparing
    pub is_open : IsOpen v line begin preparing J
    pub same_id : begin.id ≡ id
    pub recipient : preparing.recipients n ≡ true

  -- who answered the Store of an open operation holds it
  answered-holds : (J : Journal) → Legal acks P J → (v n line : ℕ) (b : Beginning) (p : Preparing) (s : Stamp) → IsOpen v line b p J → b.stamp ≡ Some s → answered_store v b.id s n J ≡ true → version n J ≤ v → Within b.id J (Some s) (store n b.id J) × P v n ≡ true × (p.recipients n ≡ true)
  answered-holds J l v n line b p s o st h low =
      let t = answered-took-op J v b.id s n h in
      let x = store-line acks P J l t.number t.message b.id s t.was_sent t.body in
      let same = stamp-line acks P J l x.line line x.begin b s x.begun o.began x.stamped st in
      let w = was-prepared acks P J l line p o.prepared in
      let same_b : w.begin ≡ b = let y = w.begun in let z = o.began in cc in
      let inside : contains p.row (key_of b.id) ≡ true = ap (λ (y : Beginning). contains p.row (key_of y.id)) (sym same_b) ∙ w.inside in
      let prep : prepared line J ≡ Some x.preparing = subst (λ (y : ℕ). prepared y J ≡ Some x.preparing) same x.was_prepared in
      let same_p : x.preparing ≡ p = let y = o.prepared in cc in
      let rec : p.recipients n ≡ true = sym (ap (λ (y : Preparing). y.recipients n) same_p) ∙ subst (λ (y : ℕ). (x.preparing).recipients y ≡ true) t.receiver x.recipient in (
        stored-held acks P some J l v n line b p s o st inside rec t low,
        subst₂ (λ (y z : ℕ). P y z ≡ true) t.version t.receiver (sent-member acks P J l t.number t.message t.was_sent),
        rec,
      )

  -- ---- the facts that go together

  abbrev pub Mark : ℕ → ℕ → Id → Journal → Type 0
  Mark v n id J = (complete v n (key_of id) J ≡ true) ⊎ Recipient v n id J

  abbrev pub InFlight : ℕ → ℕ → ℕ → Journal → Type 0
  InFlight v r n J = (b : Bucket) × (g : Given) × Shown v r n b g J

  -- who has still to answer isn't above the version, or has an answer in flight
  abbrev pub Waiting : ℕ → ℕ → Journal → Type 0
  Waiting v r J = (n : ℕ) → P v n ≡ true → answer v r n J ≡ None → (version n J ≤ v) ⊎ InFlight v r n J

  -- the node's answer shows x; while it has still to answer, it holds x or is above v, and each of its answers in flight shows x
  pub record Carrier (v r n : ℕ) (id : Id) (x : Option Stamp) (J : Journal) : Type 0 where
    pub member : P v n ≡ true
    pub given : (g : Given) → answer v r n J ≡ Some g → Within id J x (g.content id)
    pub flying : answer v r n J ≡ None → (b : Bucket) (g : Given) → Shown v r n b g J → Within id J x (g.content id)
    pub had : answer v r n J ≡ None → Within id J x (store n id J) ⊎ (v < version n J)

  pub record Facts (J : Journal) : Type 0 where
    pub marked : (v n : ℕ) (id : Id) → Mark v n id J → version n J ≤ v → Covers v id J (store n id J)
    pub somewhere : (v : ℕ) (id : Id) → opened v J ≡ true → ((n : ℕ) → P v n ≡ true → version n J ≤ v) → (n : ℕ) × (P v n ≡ true) × Covers v id J (store n id J)
    pub round : (v : ℕ) (b : Bucket) (id : Id) → running v b J ≡ true → contains b (key_of id) ≡ true → Waiting v (round_of v b J) J → (x : Option Stamp) × Covers v id J x × ((n : ℕ) × Carrier v (round_of v b J) n id x J)
    pub delete : (v : ℕ) (b : Bucket) (id : Id) (n : ℕ) (c : Bucket) (t q : ℕ) → running v b J ≡ true → contains b (key_of id) ≡ true → contains c (key_of id) ≡ true → Waiting v (round_of v b J) J → P v n ≡ true → answer v (round_of v b J) n J ≡ None →
        DeletedFrom v c n t q J → acceptable n c t J ≡ true → (m : ℕ) × (m ≢ n) × Carrier v (round_of v b J) m id (store n id J) J
    pub applied : (v n : ℕ) (b : Bucket) (u : Content) (id : Id) → running v b J ≡ true → contains b (key_of id) ≡ true → Applied v (round_of v b J) n b u J → (x : Option Stamp) × Covers v id J x × Gives v (round_of v b J) n b u id x J

  -- ---- who is about to lose its store

  loser-safe : (J : Journal) → Legal acks P J → (v : ℕ) (c : Bucket) (n t q : ℕ) (id : Id) → ((m : ℕ) → P v m ≡ true → version m J ≤ v) → DeletedFrom v c n t q J → acceptable n c t J ≡ true → contains c (key_of id) ≡ true → (m : ℕ) × (P v m ≡ true) × (m ≢ n) × Within id J (store n id J) (store m id J)
  loser-safe J l v c n t q id all d a i =
      let g = standing acks P some J l v c n t q d a in
      let k = AtLeast-some acks (λ m. (m ≢ n) × Backs acks P v m id ((g.given).content id) J) some (g.keepers id i) in
      let w = k.1.1 in
      let took = w.took in
      let member : P v k.0 ≡ true = subst₂ (λ (x y : ℕ). P x y ≡ true) took.version took.receiver (sent-member acks P J l took.number took.message took.was_sent) in
      let covers = apply-covers acks P J l v w.round k.0 w.reader w.bucket w.union w.given (took-applied v w.round k.0 w.bucket w.union J took) w.read id in
      let has = took-held acks P some J l v w.round k.0 w.bucket w.union id took w.inside w.free (all k.0 member) _ covers in
      let is = named-shows acks P J l v g.round n c g.given c t g.shown g.named a id i i in
      (k.0, member, k.1.0, within-from id J _ _ _ is (within-le id J _ _ _ w.enough has))

  pub record DeleteAt (v : ℕ) (J : Journal) (e : Event) (id : Id) (x : DeletesAt J e id) : Type 0 where
    pub round : ℕ
    pub from : DeletedFrom v x.bucket x.node x.serial round J
    pub ok : acceptable x.node x.bucket x.serial J ≡ true

  delete-at : (J : Journal) (e : Event) (id : Id) → Legal acks P J → (x : DeletesAt J e id) (v : ℕ) → v ≤ version x.node J → version x.node (e ∷ J) ≤ v → DeleteAt v J e id x
  delete-at J e id l x v high low =
      let a = x.accepts in
      let d = from-delete acks P some J e id l x in
      let is_v : (a.message).version ≡ v = let p = a.raises in let q = a.low in omega arith in
      record { round = d.round; from = subst (λ (i : ℕ). DeletedFrom i x.bucket x.node x.serial d.round J) is_v d.from; ok = d.ok }

  -- ---- somewhere among the nodes of v

  covers-close : (J : Journal) (v : ℕ) (id : Id) (line : ℕ) (x : Option Stamp) → Legal acks P J → opened v J ≡ true → Covers v id J x → (b : Beginning) (s : Stamp) → began line J ≡ Some b → b.stamp ≡ Some s → Within id J (Some s) x → Covers v id (Closed line true ∷ J) x
  covers-close J v id line x l o c b s f st le = record {
    bases = λ n p. within-from id J _ _ _ (base-at v n id J (Closed line true) (opened-version acks P some J l v n o p)) (c.bases n p);
    acked = λ t a. elim (acked-cases v id t J (Closed line true) a) [
      | inl old ↦ c.acked t old
      | inr new ↦ (let y : AckedBy v id t (Some b) = subst (λ (z : Option Beginning). AckedBy v id t z) f (subst (λ (z : ℕ). AckedBy v id t (began z J)) (same new.1) new.2) in
          let z : ◌≡◌ {A = Option Stamp} (Some t) (Some s) = sym y.2 ∙ st in within-from id J _ _ _ z le)
    ];
  }
    where
      same : {k : ℕ} → Closed line true ≡ Closed k true → k ≡ line
      same p = cc

  -- at an acknowledgement
  pub record Acking (v : ℕ) (id : Id) (J : Journal) (e : Event) : Type 0 where
    pub line : ℕ
    pub begin : Beginning
    pub preparing : Preparing
    pub stamp : Stamp
    pub is : e ≡ Closed line true
    pub is_open : IsOpen v line begin preparing J
    pub same_id : begin.id ≡ id
    pub stamped : begin.stamp ≡ Some stamp
    pub inside : contains preparing.row (key_of id) ≡ true
    pub enough : AtLeast acks (λ n. answered_store v begin.id stamp n J ≡ true)
    pub opened : opened v J ≡ true

  acking : (J : Journal) (e : Event) → Legal acks P (e ∷ J) → (v : ℕ) (id : Id) → ClosesNow v id J e → Acking v id J e
  acking J e l v id c =
      let q : MayClose acks J c.line true = rw c.is at l.1 in
      let a = q.acked refl in
      let same : q.begin ≡ c.begin = let x = q.begun in let y = c.begun in cc in
      let vs : (q.begin).version ≡ v = ap (λ (z : Beginning). z.version) same ∙ c.version in
      let w = was-prepared acks P J l.0 c.line a.preparing a.was_prepared in
      let same' : w.begin ≡ c.begin = let x = w.begun in let y = c.begun in cc in
      record {
        line = c.line;
        begin = c.begin;
        preparing = a.preparing;
        stamp = a.stamp;
        is = c.is;
        is_open = record { began = c.begun; version = c.version; prepared = a.was_prepared; unclosed = q.unclosed };
        same_id = c.same_id;
        stamped = sym (ap (λ (z : Beginning). z.stamp) same) ∙ a.stamped;
        inside = subst (λ (y : Id). contains (a.preparing).row (key_of y) ≡ true) (ap (λ (z : Beginning). z.id) same' ∙ c.same_id) w.inside;
        enough = AtLeast-map (λ n k. sym (same_answer (ap (λ (z : Beginning). z.id) same) vs a.stamp n) ∙ k.1) a.enough;
        opened = subst (λ (y : ℕ). opened y J ≡ true) (ap (λ (z : Beginning). z.version) same' ∙ c.version) w.opened;
      }
    where
      same_answer : {i j : Id} {k m : ℕ} → i ≡ j → k ≡ m → (s : Stamp) (n : ℕ) → answered_store k i s n J ≡ answered_store m j s n J
      same_answer p q s n = λ x. answered_store (q x) (p x) s n J

  -- who answered the Store holds what the acknowledgement adds
  acked-holds : (J : Journal) (e : Event) → Legal acks P J → Facts J → (v : ℕ) (id : Id) (n : ℕ) → (a : Acking v id J e) → answered_store v (a.begin).id a.stamp n J ≡ true → version n J ≤ v → Covers v id (Closed a.line true ∷ J) (store n id J) × (P v n ≡ true)
  acked-holds J e l f v id n a h low =
      let x = answered-holds J l v n a.line a.begin a.preparing a.stamp a.is_open a.stamped h low in
      let c = f.marked v n id (inr (record { line = a.line; begin = a.begin; preparing = a.preparing; is_open = a.is_open; same_id = a.same_id; recipient = x.2 })) low in
      (covers-close J v id a.line (store n id J) l a.opened c a.begin a.stamp (a.is_open).began a.stamped (subst (λ (y : Id). Within y J (Some a.stamp) (store n y J)) a.same_id x.0), x.1)

  somewhere-step : (J : Journal) (e : Event) → Legal acks P (e ∷ J) → Facts J → (v : ℕ) (id : Id) → opened v (e ∷ J) ≡ true → ((n : ℕ) → P v n ≡ true → version n (e ∷ J) ≤ v) → (n : ℕ) × (P v n ≡ true) × Covers v id (e ∷ J) (store n id (e ∷ J))
  somewhere-step J e l f v id o all =
      elim (opened-cases v J e o) [
        | inr new ↦ opening e new.0 new.1 new.2 l.1
        | inl old ↦ elim (closed-cases v id J e) [
          | inl shut ↦ closing e (acking J e l v id shut)
          | inr not ↦ moving old not (f.somewhere v id old low) (classify acks P J e l.0 l.1 id)
        ]
      ]
    where
      low : (n : ℕ) → P v n ≡ true → version n J ≤ v
      low n p = let a = all n p in let g = version-grows n J e in omega arith

      opening : (e : Event) (d : ℕ) (rows : List Bucket) → e ≡ Opened d v rows → Permits acks P J e → (n : ℕ) × (P v n ≡ true) × Covers v id (e ∷ J) (store n id (e ∷ J))
      opening e d rows is p = rw is (let q : MayOpen P J d v rows = rw is at p in found q (published-state J l.0 v q.state) (greatest (λ n. store n id J) (P v) 32))
        where
          found : MayOpen P J d v rows → State v → Best (λ n. store n id J) (P v) 32 ⊎ ((n : ℕ) → n < 32 → P v n ≡ false) → (n : ℕ) × (P v n ≡ true) × Covers v id (Opened d v rows ∷ J) (store n id J)
          found q s (inr none) = let z = none s.node (s.small s.node s.inhabited) in let y = s.inhabited in cc
          found q s (inl b) = (
            b.at,
            b.here,
            record {
              bases = λ n p. within-from id J _ _ _ (base-at v n id J (Opened d v rows) (asked n p) ∙ early-base J l.0 v n id q.once (low n p)) (within id J _ _ (b.best n (s.small n p) p));
              acked = λ t a. (let z = acked-opened J l.0 v id t a in let y = q.once in absurd (let w : true ≡ false = cc in cc));
            },
          )
            where
              asked : (n : ℕ) → P v n ≡ true → v ≤ version n J
              asked n p = let a = q.all n p in subst₂ (λ (x y : ℕ). x ≤ version y J) a.version a.receiver (accepted-version acks P some J l.0 a.number a.message (replied-accepted acks P J a.number (Answer a.content a.names) a.reply refl) a.was_sent)

      closing : (e : Event) → Acking v id J e → (n : ℕ) × (P v n ≡ true) × Covers v id (e ∷ J) (store n id (e ∷ J))
      closing e a = rw a.is (
          let n = AtLeast-some acks (λ n. answered_store v (a.begin).id a.stamp n J ≡ true) some a.enough in
          let t = answered-took-op J v (a.begin).id a.stamp n.0 n.1 in
          let member : P v n.0 ≡ true = subst₂ (λ (x y : ℕ). P x y ≡ true) t.version t.receiver (sent-member acks P J l.0 t.number t.message t.was_sent) in
          let h = acked-holds J e l.0 f v id n.0 a n.1 (low n.0 member) in
          (n.0, member, h.0))

      moving : opened v J ≡ true → NotClosed v id J e → (n : ℕ) × (P v n ≡ true) × Covers v id J (store n id J) → ((m : ℕ) → Within id (e ∷ J) (store m id J) (store m id (e ∷ J))) ⊎ DeletesAt J e id → (n : ℕ) × (P v n ≡ true) × Covers v id (e ∷ J) (store n id (e ∷ J))
      moving o not c (inl up) = (c.0, c.1, Covers-le v id (e ∷ J) _ _ (Covers-stays J e l.0 v id _ o not c.2) (up c.0))
      moving o not c (inr x) = elim (cases_eq c.0 x.node) [
        | inl same ↦
            (let member : P v x.node ≡ true = subst (λ (i : ℕ). P v i ≡ true) same c.1 in
            let d = delete-at J e id l.0 x v (opened-version acks P some J l.0 v x.node o member) (all x.node member) in
            let m = loser-safe J l.0 v x.bucket x.node x.serial d.round id low d.from d.ok x.inside in
            let had : Covers v id J (store x.node id J) = subst (λ (i : ℕ). Covers v id J (store i id J)) same c.2 in
            (m.0, m.1, Covers-le v id (e ∷ J) _ _ (Covers-stays J e l.0 v id _ o not had) (within-at id (e ∷ J) _ _ _ (x.others m.0 m.2) (within-stays id J e _ _ m.3))))
        | inr ne ↦ (c.0, c.1, Covers-le v id (e ∷ J) _ _ (Covers-stays J e l.0 v id _ o not c.2) (within id (e ∷ J) _ _ (Le-same _ _ (sym (x.others c.0 ne)))))
      ]

  -- ---- marks

  holds-opened : (J : Journal) → Legal acks P J → (v n key : ℕ) → Holds acks P v n key J → opened v J ≡ true
  holds-opened J l v n key h = elim (sent-early acks P J l h.took.number h.took.message h.took.was_sent) [
    | inl ask ↦ (let b = h.took.body in cc)
    | inr o ↦ subst (λ (x : ℕ). opened x J ≡ true) h.took.version o
  ]

  recipient-inside : (J : Journal) → Legal acks P J → (v n : ℕ) (id : Id) → (r : Recipient v n id J) → contains (r.preparing).row (key_of id) ≡ true
  recipient-inside J l v n id r =
      let w = was-prepared acks P J l r.line r.preparing (r.is_open).prepared in
      let same : w.begin ≡ r.begin = let x = w.begun in let y = (r.is_open).began in cc in
      subst (λ (y : Id). contains (r.preparing).row (key_of y) ≡ true) (ap (λ (z : Beginning). z.id) same ∙ r.same_id) w.inside

  marked-step : (J : Journal) (e : Event) → Legal acks P (e ∷ J) → Facts J → (v n : ℕ) (id : Id) → Mark v n id (e ∷ J) → version n (e ∷ J) ≤ v → Covers v id (e ∷ J) (store n id (e ∷ J))
  marked-step J e l f v n id (inl c) low =
      elim (complete-before v n (key_of id) J e c) [
        | inl old ↦ stays (complete-took acks P J l.0 v n (key_of id) old) (f.marked v n id (inl old) before) (closed-cases v id J e)
        | inr ended ↦ joins ended.0 ended.1 ended.2 e ended.3 ended.4 ended.5 l.1
      ]
    where
      before : version n J ≤ v
      before = let g = version-grows n J e in omega arith

      closing : Covers v id J (store n id J) → (e : Event) → (a : Acking v id J e) → complete v n (key_of id) (e ∷ J) ≡ true → Covers v id (e ∷ J) (store n id (e ∷ J))
      closing c e a h = rw a.is (
          let h' : complete v n (key_of id) (Closed a.line true ∷ J) ≡ true = rw a.is at h in
          let ans = complete-closed v n (key_of id) a.line J a.begin a.preparing a.stamp h' (a.is_open).began (a.is_open).prepared (a.is_open).version a.inside a.stamped in
          (acked-holds J e l.0 f v id n a ans before).0)

      stays : Holds acks P v n (key_of id) J → Covers v id J (store n id J) → ClosesNow v id J e ⊎ NotClosed v id J e → Covers v id (e ∷ J) (store n id (e ∷ J))
      stays h x (inl shut) = closing x e (acking J e l v id shut) c
      stays h x (inr not) = Covers-le v id (e ∷ J) _ _ (Covers-stays J e l.0 v id _ (holds-opened J l.0 v n (key_of id) h) not x) (store-kept acks P some J e l v n id h low)

      joins : (d : ℕ) (b : Bucket) (set : ℕ → Bool) (e : Event) → e ≡ Decided d v (RoundEnded b set) → contains b (key_of id) ≡ true → set n ≡ true → Permits acks P J e → Covers v id (e ∷ J) (store n id (e ∷ J))
      joins d b set e is i here p = rw is (let q : Permits acks P J (Decided d v (RoundEnded b set)) = rw is at p in
          let t = (q.1).answered n here in
          let took = answered-took v (round_of v b J) n b J t in
          let c = f.applied v n b t.union id (q.1).under_way i (took-applied v (round_of v b J) n b t.union J took) in
          let h = took-held acks P some J l.0 v (round_of v b J) n b t.union id took i (running-unnamed acks P J l.0 v n b (key_of id) (q.1).under_way i) before c.0 c.2 in
          Covers-le v id (Decided d v (RoundEnded b set) ∷ J) _ _ (Covers-stays J (Decided d v (RoundEnded b set)) l.0 v id _ (running-row acks P J l.0 v b (q.1).under_way).opened (calm J v id _ (λ line z. cc)) c.1) h)
  marked-step J e l f v n id (inr r) low =
      elim (open-cases acks P J e l v r.line r.begin r.preparing r.is_open) [
        | inl old ↦ (let r' : Recipient v n id J = record { line = r.line; begin = r.begin; preparing = r.preparing; is_open = old; same_id = r.same_id; recipient = r.recipient } in
            stays r' (r.is_open).unclosed (recipient-holds acks P J l.0 v n r.line r.begin r.preparing (key_of id) old r.recipient (recipient-inside J l.0 v n id r')) (f.marked v n id (inr r') before) (closed-cases v id J e))
        | inr new ↦ prepared' e new.is (prepared-permits acks P J e l.1 v r.line r.begin r.preparing new) new.version
      ]
    where
      before : version n J ≤ v
      before = let g = version-grows n J e in omega arith

      stays : (r' : Recipient v n id J) → closed r'.line (e ∷ J) ≡ false → Holds acks P v n (key_of id) J → Covers v id J (store n id J) → ClosesNow v id J e ⊎ NotClosed v id J e → Covers v id (e ∷ J) (store n id (e ∷ J))
      stays r' u h x (inr not) = Covers-le v id (e ∷ J) _ _ (Covers-stays J e l.0 v id _ (holds-opened J l.0 v n (key_of id) h) not x) (store-kept acks P some J e l v n id h low)
      stays r' u h x (inl shut) = absurd (closed-now e (acking J e l v id shut) u)
        where
          closed-now : (e : Event) (a : Acking v id J e) → closed r'.line (e ∷ J) ≡ false → ⊥
          closed-now e a u =
              let u' : closed r'.line J ≡ false = closed-before r'.line J e u in
              let same = one-open acks P some J l.0 a.line r'.line a.begin r'.begin (a.is_open).began (r'.is_open).began (a.same_id ∙ sym r'.same_id) (a.is_open).unclosed u' in
              let z : closed r'.line (Closed a.line true ∷ J) ≡ false = rw a.is at u in
              let y : closed r'.line (Closed a.line true ∷ J) ≡ true = rw (eq-eqb a.line r'.line same) refl in cc

      prepared' : (e : Event) → e ≡ Prepared r.line (r.preparing).row (r.preparing).recipients → (q : MayPrepare acks J r.line (r.preparing).row (r.preparing).recipients) × (q.begin ≡ r.begin) → (r.begin).version ≡ v → Covers v id (e ∷ J) (store n id (e ∷ J))
      prepared' e is q vs = rw is (
          let same = ap (λ (x : Beginning). x.version) q.1 ∙ vs in
          let i : contains (r.preparing).row (key_of id) ≡ true = subst (λ (y : Id). contains (r.preparing).row (key_of y) ≡ true) (ap (λ (x : Beginning). x.id) q.1 ∙ r.same_id) (q.0).inside in
          let c : complete v n (key_of id) J ≡ true = subst (λ (x : ℕ). complete x n (key_of id) J ≡ true) same (sym ((q.0).recipients n (key_of id) i) ∙ r.recipient) in
          Covers-stays J (Prepared r.line (r.preparing).row (r.preparing).recipients) l.0 v id _ (subst (λ (x : ℕ). opened x J ≡ true) same ((q.0).row).opened) (calm J v id _ (λ line z. cc)) (f.marked v n id (inl c) before))

  -- ---- rounds

  answer-before : (v r n : ℕ) (J : Journal) (e : Event) → answer v r n (e ∷ J) ≡ None → answer v r n J ≡ None
  answer-before v r n J e h = by_case (answer v r n J) refl
    where
      by_case : (o : Option Given) → answer v r n J ≡ o → o ≡ None
      by_case None f = refl
      by_case (Some g) f = let z = answer-stays v r n J g e f in cc

  -- at a round's beginning nobody has answered
  nobody_shows : (J : Journal) (d v n : ℕ) (b c : Bucket) (g : Given) → Legal acks P (Decided d v (RoundBegun b) ∷ J) → Shown v (round_of v b (Decided d v (RoundBegun b) ∷ J)) n c g (Decided d v (RoundBegun b) ∷ J) → ⊥
  nobody_shows J d v n b c g l h =
      let r : round_of v b (Decided d v (RoundBegun b) ∷ J) ≡ rounds v J + 1 = rw (eq-eqb v v refl, same_bucket-refl b) refl in
      elim (shown-cases acks P J _ l v _ n c g h) [
        | inl old ↦ (let i = isround-bound v _ c J (shown-isround acks P J l.0 v _ n c g old) in absurd (omega arith))
        | inr new ↦ absurd (apart (new.0).is)
      ]
    where
      apart : {k : ℕ} {y : Reply} → Decided d v (RoundBegun b) ≡ Delivered k y → ⊥
      apart p = cc

  nobody_answers : (J : Journal) (d v n : ℕ) (b : Bucket) (g : Given) → Legal acks P (Decided d v (RoundBegun b) ∷ J) → answer v (round_of v b (Decided d v (RoundBegun b) ∷ J)) n (Decided d v (RoundBegun b) ∷ J) ≡ Some g → ⊥
  nobody_answers J d v n b g l h = let a = answer-shown v _ n _ g h in nobody_shows J d v n b a.0 g l a.1

  waiting-low : (J : Journal) (d v : ℕ) (b : Bucket) → Legal acks P (Decided d v (RoundBegun b) ∷ J) → Waiting v (round_of v b (Decided d v (RoundBegun b) ∷ J)) (Decided d v (RoundBegun b) ∷ J) → (n : ℕ) → P v n ≡ true → version n J ≤ v
  waiting-low J d v b l w n p = by_case (answer v (round_of v b (Decided d v (RoundBegun b) ∷ J)) n (Decided d v (RoundBegun b) ∷ J)) refl
    where
      by_case : (o : Option Given) → answer v (round_of v b (Decided d v (RoundBegun b) ∷ J)) n (Decided d v (RoundBegun b) ∷ J) ≡ o → version n J ≤ v
      by_case (Some g) f = absurd (nobody_answers J d v n b g l f)
      by_case None f = elim (w n p f) [ inl low ↦ low | inr fly ↦ absurd (nobody_shows J d v n b fly.0 fly.1 l fly.2) ]

  was_waiting : (J : Journal) (e : Event) → Legal acks P (e ∷ J) → (v r : ℕ) → Waiting v r (e ∷ J) → Waiting v r J
  was_waiting J e l v r w n p none = by_case (answer v r n (e ∷ J)) refl
    where
      by_case : (o : Option Given) → answer v r n (e ∷ J) ≡ o → (version n J ≤ v) ⊎ InFlight v r n J
      by_case (Some g) f = elim (answer-cases v r n J e g f) [ inl old ↦ (let z : None ≡ Some g = sym none ∙ old in cc) | inr new ↦ inr (new.bucket, g, new.shown) ]
      by_case None f = elim (w n p f) [
        | inl low ↦ inl (let g = version-grows n J e in omega arith)
        | inr fly ↦ elim (shown-cases acks P J e l v r n fly.0 fly.1 fly.2) [
          | inl old ↦ inr (fly.0, fly.1, old)
          | inr new ↦ inl (let x = shown-now acks P J e l.1 n fly.0 fly.1 new.0 in let y = (x.0).low in let z : (x.0).message.version ≡ v = ap (λ (m : Message). m.version) x.1 ∙ new.1 in omega arith)
        ]
      ]

  -- a carrier after one event that lets it keep its store or raises it above v
  carrier-stays : (J : Journal) (e : Event) → Legal acks P (e ∷ J) → (v r n : ℕ) (id : Id) (b : Bucket) (x : Option Stamp) → IsRound v r b J → contains b (key_of id) ≡ true → Carrier v r n id x J →
      (answer v r n (e ∷ J) ≡ None → Within id (e ∷ J) (store n id J) (store n id (e ∷ J)) ⊎ (v < version n (e ∷ J))) → Carrier v r n id x (e ∷ J)
  carrier-stays J e l v r n id b x is i c up = record {
    member = c.member;
    given = λ g h. within-stays id J e _ _ (elim (answer-cases v r n J e g h) [ inl old ↦ c.given g old | inr new ↦ c.flying new.first new.bucket g new.shown ]);
    flying = λ h d g s. let none = answer-before v r n J e h in elim (shown-cases acks P J e l v r n d g s) [
      | inl old ↦ within-stays id J e _ _ (c.flying none d g old)
      | inr new ↦ (let y = shown-now acks P J e l.1 n d g new.0 in
          let body : (y.0).message.body ≡ Read d = ap (λ (m : Message). m.body) y.1 ∙ (new.0).body in
          let vs : (y.0).message.version ≡ v = ap (λ (m : Message). m.version) y.1 ∙ new.1 in
          let same : d ≡ b = isround-one v r d b (e ∷ J) (shown-isround acks P (e ∷ J) l v r n d g s) (IsRound-stays v r b J e is) in
          let shows : (y.0).given.content id ≡ store n id J = ((y.0).show d body).content id (subst (λ (z : Bucket). contains z (key_of id) ≡ true) (sym same) i) in
          let shows' : g.content id ≡ store n id J = sym (ap (λ (z : Given). z.content id) y.2) ∙ shows in
          elim (c.had none) [
            | inl le ↦ within-at id (e ∷ J) _ _ _ shows' (within-stays id J e _ _ le)
            | inr above ↦ absurd (let z = (y.0).low in omega arith)
          ])
    ];
    had = λ h. elim (c.had (answer-before v r n J e h)) [
      | inr above ↦ inr (let g = version-grows n J e in omega arith)
      | inl le ↦ elim (up h) [ inl more ↦ inl (within-moves id J e _ _ _ le more) | inr above ↦ inr above ]
    ];
  }

  -- the node of a Delete of v that has still to answer
  pub record Deletable (v r : ℕ) (id : Id) (J : Journal) (e : Event) (x : DeletesAt J e id) : Type 0 where
    pub round : ℕ
    pub from : DeletedFrom v x.bucket x.node x.serial round J
    pub ok : acceptable x.node x.bucket x.serial J ≡ true
    pub none : answer v r x.node J ≡ None
    pub member : P v x.node ≡ true

  -- what happens to a carrier's store
  carrier-fate : (J : Journal) (e : Event) → Legal acks P (e ∷ J) → (v r n : ℕ) (id : Id) → opened v J ≡ true → P v n ≡ true →
      (answer v r n (e ∷ J) ≡ None → Within id (e ∷ J) (store n id J) (store n id (e ∷ J)) ⊎ (v < version n (e ∷ J))) ⊎ ((x : DeletesAt J e id) × (n ≡ x.node) × Deletable v r id J e x)
  carrier-fate J e l v r n id o p = elim (classify acks P J e l.0 l.1 id) [
    | inl up ↦ inl (λ h. inl (up n))
    | inr x ↦ elim (cases_eq n x.node) [
      | inr ne ↦ inl (λ h. inl (within id (e ∷ J) _ _ (Le-same _ _ (sym (x.others n ne)))))
      | inl is ↦ elim (cases_lt v (version n (e ∷ J))) [
        | inl above ↦ inl (λ h. inr above)
        | inr low ↦ by_answer x is low (answer v r n (e ∷ J)) refl
      ]
    ]
  ]
    where
      by_answer : (x : DeletesAt J e id) → n ≡ x.node → version n (e ∷ J) ≤ v → (a : Option Given) → answer v r n (e ∷ J) ≡ a → (answer v r n (e ∷ J) ≡ None → Within id (e ∷ J) (store n id J) (store n id (e ∷ J)) ⊎ (v < version n (e ∷ J))) ⊎ ((x : DeletesAt J e id) × (n ≡ x.node) × Deletable v r id J e x)
      by_answer x is low (Some g) f = inl (λ h. let z : None ≡ Some g = sym h ∙ f in absurd (let w : None ≡ Some g = z in cc))
      by_answer x is low None f =
          let member : P v x.node ≡ true = subst (λ (i : ℕ). P v i ≡ true) is p in
          let low' : version x.node (e ∷ J) ≤ v = subst (λ (i : ℕ). version i (e ∷ J) ≤ v) is low in
          let d = delete-at J e id l.0 x v (opened-version acks P some J l.0 v x.node o member) low' in
          inr (x, is, record { round = d.round; from = d.from; ok = d.ok; member = member; none = subst (λ (i : ℕ). answer v r i J ≡ None) is (answer-before v r n J e f) })

  round-step : (J : Journal) (e : Event) → Legal acks P (e ∷ J) → Facts J → (v : ℕ) (b : Bucket) (id : Id) → running v b (e ∷ J) ≡ true → contains b (key_of id) ≡ true → Waiting v (round_of v b (e ∷ J)) (e ∷ J) → (x : Option Stamp) × Covers v id (e ∷ J) x × ((n : ℕ) × Carrier v (round_of v b (e ∷ J)) n id x (e ∷ J))
  round-step J e l f v b id u i w =
      elim (running-cases v b J e u) [
        | inl new ↦ subst (λ (e : Event). Legal acks P (e ∷ J) → Waiting v (round_of v b (e ∷ J)) (e ∷ J) → (x : Option Stamp) × Covers v id (e ∷ J) x × ((n : ℕ) × Carrier v (round_of v b (e ∷ J)) n id x (e ∷ J))) (sym new.1) (began' new.0) l w
        | inr same ↦ going same
      ]
    where
      began' : (d : ℕ) → Legal acks P (Decided d v (RoundBegun b) ∷ J) → Waiting v (round_of v b (Decided d v (RoundBegun b) ∷ J)) (Decided d v (RoundBegun b) ∷ J) → (x : Option Stamp) × Covers v id (Decided d v (RoundBegun b) ∷ J) x × ((n : ℕ) × Carrier v (round_of v b (Decided d v (RoundBegun b) ∷ J)) n id x (Decided d v (RoundBegun b) ∷ J))
      began' d l' w' =
          let o = ((l'.1.1).row).opened in
          let s = f.somewhere v id o (waiting-low J d v b l' w') in (
            store s.0 id J,
            Covers-stays J (Decided d v (RoundBegun b)) l'.0 v id _ o (calm J v id _ (λ line z. cc)) s.2,
            (s.0, record { member = s.1; given = λ g h. absurd (nobody_answers J d v s.0 b g l' h); flying = λ h c g k. absurd (nobody_shows J d v s.0 b c g l' k); had = λ h. inl (within-refl id (Decided d v (RoundBegun b) ∷ J) _) }),
          )

      going : SameRound v b J e → (x : Option Stamp) × Covers v id (e ∷ J) x × ((n : ℕ) × Carrier v (round_of v b (e ∷ J)) n id x (e ∷ J))
      going same =
          let w' : Waiting v (round_of v b J) (e ∷ J) = subst (λ (r : ℕ). Waiting v r (e ∷ J)) same.round w in
          let wj = was_waiting J e l v (round_of v b J) w' in
          let c = f.round v b id same.under i wj in
          let row = running-row acks P J l.0 v b same.under in
          let not : NotClosed v id J e = not_closed same (closed-cases v id J e) in
          (c.0, Covers-stays J e l.0 v id c.0 row.opened not c.1, subst (λ (r : ℕ). (n : ℕ) × Carrier v r n id c.0 (e ∷ J)) (sym same.round) (moves same wj c.0 c.2.0 c.2.1 row.opened (carrier-fate J e l v (round_of v b J) c.2.0 id row.opened (c.2.1).member)))
        where
          not_closed : SameRound v b J e → ClosesNow v id J e ⊎ NotClosed v id J e → NotClosed v id J e
          not_closed same (inr n) = n
          not_closed same (inl shut) = let a = acking J e l v id shut in absurd (running-idle acks P J l.0 v a.line a.begin a.preparing b (key_of id) same.under a.is_open i a.inside)

          moves : SameRound v b J e → Waiting v (round_of v b J) J → (x : Option Stamp) (n : ℕ) → Carrier v (round_of v b J) n id x J → opened v J ≡ true →
              (answer v (round_of v b J) n (e ∷ J) ≡ None → Within id (e ∷ J) (store n id J) (store n id (e ∷ J)) ⊎ (v < version n (e ∷ J))) ⊎ ((x : DeletesAt J e id) × (n ≡ x.node) × Deletable v (round_of v b J) id J e x) → (n : ℕ) × Carrier v (round_of v b J) n id x (e ∷ J)
          moves same wj x n c o (inl up) = (n, carrier-stays J e l v (round_of v b J) n id b x (running-round J v b same.under) i c up)
          moves same wj x n c o (inr lost) =
              let d = lost.2 in let at = lost.0 in
              let m = f.delete v b id at.node at.bucket at.serial d.round same.under i at.inside wj d.member d.none d.from d.ok in
              let none : answer v (round_of v b J) n J ≡ None = subst (λ (j : ℕ). answer v (round_of v b J) j J ≡ None) (sym lost.1) d.none in
              elim (c.had none) [
                | inr above ↦ (n, carrier-stays J e l v (round_of v b J) n id b x (running-round J v b same.under) i c (λ h. inr (let g = version-grows n J e in omega arith)))
                | inl le ↦ (
                  m.0,
                  carrier-stays J e l v (round_of v b J) m.0 id b x (running-round J v b same.under) i
                      (carrier-le J v (round_of v b J) m.0 id _ x m.2 (subst (λ (j : ℕ). Within id J x (store j id J)) lost.1 le)) (λ h. inl (within id (e ∷ J) _ _ (Le-same _ _ (sym (at.others m.0 m.1))))),
                )
              ]
            where
              carrier-le : (J : Journal) (v r n : ℕ) (id : Id) (x y : Option Stamp) → Carrier v r n id x J → Within id J y x → Carrier v r n id y J
              carrier-le J v r n id x y c h = record { member = c.member; given = λ g k. within-trans id J _ _ _ h (c.given g k); flying = λ k b g s. within-trans id J _ _ _ h (c.flying k b g s); had = λ k. elim (c.had k) [ inl le ↦ inl (within-trans id J _ _ _ h le) | inr above ↦ inr above ] }

  delete-step : (J : Journal) (e : Event) → Legal acks P (e ∷ J) → Facts J → (v : ℕ) (b : Bucket) (id : Id) (n : ℕ) (c : Bucket) (t q : ℕ) → running v b (e ∷ J) ≡ true → contains b (key_of id) ≡ true → contains c (key_of id) ≡ true → Waiting v (round_of v b (e ∷ J)) (e ∷ J) → P v n ≡ true → answer v (round_of v b (e ∷ J)) n (e ∷ J) ≡ None →
      DeletedFrom v c n t q (e ∷ J) → acceptable n c t (e ∷ J) ≡ true → (m : ℕ) × (m ≢ n) × Carrier v (round_of v b (e ∷ J)) m id (store n id (e ∷ J)) (e ∷ J)
  delete-step J e l f v b id n c t q u i j w p none d ok =
      elim (deleted-cases v c n t q J e d) [
        | inr new ↦ absurd (not_now new.0 new.1 (running-cases v b J e u))
        | inl old ↦
            (let back = alive-back acks P J e l v c n t q old ok in
            let same_store = back.1 id j in
            subst (λ (y : Option Stamp). (m : ℕ) × (m ≢ n) × Carrier v (round_of v b (e ∷ J)) m id y (e ∷ J)) (sym same_store) (elim (running-cases v b J e u) [
              | inl new ↦ subst (λ (e : Event). Legal acks P (e ∷ J) → Waiting v (round_of v b (e ∷ J)) (e ∷ J) → (m : ℕ) × (m ≢ n) × Carrier v (round_of v b (e ∷ J)) m id (store n id J) (e ∷ J)) (sym new.1) (λ l w. began' new.0 l w old back.0) l w
              | inr same ↦ going same old back.0
            ]))
      ]
    where
      not_now : (d : ℕ) → e ≡ Decided d v (DeleteFrom c n t) → ((d : ℕ) × (e ≡ Decided d v (RoundBegun b))) ⊎ SameRound v b J e → ⊥
      not_now d is (inl new) = let a = new.1 in cc
      not_now d is (inr same) = let q : Permits acks P J (Decided d v (DeleteFrom c n t)) = rw is at l.1 in quiet-running acks P J l.0 v b c (key_of id) (q.1).quiet same.under i j

      began' : (d : ℕ) → Legal acks P (Decided d v (RoundBegun b) ∷ J) → Waiting v (round_of v b (Decided d v (RoundBegun b) ∷ J)) (Decided d v (RoundBegun b) ∷ J) → DeletedFrom v c n t q J → acceptable n c t J ≡ true → (m : ℕ) × (m ≢ n) × Carrier v (round_of v b (Decided d v (RoundBegun b) ∷ J)) m id (store n id J) (Decided d v (RoundBegun b) ∷ J)
      began' d l' w' old ok =
          let m = loser-safe J l'.0 v c n t q id (waiting-low J d v b l' w') old ok j in
          (m.0, m.2, record { member = m.1; given = λ g h. absurd (nobody_answers J d v m.0 b g l' h); flying = λ h c g k. absurd (nobody_shows J d v m.0 b c g l' k); had = λ h. inl m.3 })

      going : SameRound v b J e → DeletedFrom v c n t q J → acceptable n c t J ≡ true → (m : ℕ) × (m ≢ n) × Carrier v (round_of v b (e ∷ J)) m id (store n id J) (e ∷ J)
      going same old ok' =
          let w' : Waiting v (round_of v b J) (e ∷ J) = subst (λ (r : ℕ). Waiting v r (e ∷ J)) same.round w in
          let wj = was_waiting J e l v (round_of v b J) w' in
          let none' : answer v (round_of v b J) n J ≡ None = answer-before v (round_of v b J) n J e (subst (λ (r : ℕ). answer v r n (e ∷ J) ≡ None) same.round none) in
          let m = f.delete v b id n c t q same.under i j wj p none' old ok' in
          let row = running-row acks P J l.0 v b same.under in
          subst (λ (r : ℕ). (k : ℕ) × (k ≢ n) × Carrier v r k id (store n id J) (e ∷ J)) (sym same.round) (elim (carrier-fate J e l v (round_of v b J) m.0 id row.opened (m.2).member) [
            | inl up ↦ (m.0, m.1, carrier-stays J e l v (round_of v b J) m.0 id b _ (running-round J v b same.under) i m.2 up)
            | inr lost ↦ absurd (m.1 (lost.1 ∙ (two_deletes acks P J l.0 v (lost.0).bucket (lost.0).node (lost.0).serial (lost.2).round c n t q (lost.2).from (lost.2).ok old ok' (key_of id) (lost.0).inside j).1))
          ])

  -- ---- the union

  applied-step : (J : Journal) (e : Event) → Legal acks P (e ∷ J) → Facts J → (v n : ℕ) (b : Bucket) (u : Content) (id : Id) → running v b (e ∷ J) ≡ true → contains b (key_of id) ≡ true → Applied v (round_of v b (e ∷ J)) n b u (e ∷ J) → (x : Option Stamp) × Covers v id (e ∷ J) x × Gives v (round_of v b (e ∷ J)) n b u id x (e ∷ J)
  applied-step J e l f v n b u id h i a =
      elim (running-cases v b J e h) [
        | inl new ↦ absurd (too_early e new.0 new.1 l a)
        | inr same ↦ (let row = running-row acks P J l.0 v b same.under in
            let c : (x : Option Stamp) × Covers v id J x × Gives v (round_of v b J) n b u id x J = elim (applied-cases v (round_of v b J) n b u J e (subst (λ (r : ℕ). Applied v r n b u (e ∷ J)) same.round a)) [
              | inl old ↦ f.applied v n b u id same.under i old
              | inr new ↦ sends new.0 new.1 e new.2 l.1 same.under
            ] in
            (c.0, Covers-stays J e l.0 v id c.0 row.opened (not_closed same (closed-cases v id J e)) c.1, subst (λ (r : ℕ). Gives v r n b u id c.0 (e ∷ J)) (sym same.round) (Gives-stays v (round_of v b J) n b u id c.0 J e c.2)))
      ]
    where
      not_closed : SameRound v b J e → ClosesNow v id J e ⊎ NotClosed v id J e → NotClosed v id J e
      not_closed same (inr n) = n
      not_closed same (inl shut) = let a = acking J e l v id shut in absurd (running-idle acks P J l.0 v a.line a.begin a.preparing b (key_of id) same.under a.is_open i a.inside)

      too_early : (e : Event) (d : ℕ) → e ≡ Decided d v (RoundBegun b) → Legal acks P (e ∷ J) → Applied v (round_of v b (e ∷ J)) n b u (e ∷ J) → ⊥
      too_early e d is l a =
          let l' : Legal acks P (Decided d v (RoundBegun b) ∷ J) = rw is at l in
          let a' : Applied v (round_of v b (Decided d v (RoundBegun b) ∷ J)) n b u (Decided d v (RoundBegun b) ∷ J) = rw is at a in
          let s = applied-answers acks P (Decided d v (RoundBegun b) ∷ J) l' v _ n b u a' in
          let st = published-state J l'.0 v (opened-published J l'.0 v ((l'.1.1).row).opened) in
          let g = s st.node st.inhabited in nobody_answers J d v st.node b g.0 l' g.1

      sends : (k d : ℕ) (e : Event) → e ≡ Sent k v d n (Apply b u) → Permits acks P J e → running v b J ≡ true → (x : Option Stamp) × Covers v id J x × Gives v (round_of v b J) n b u id x J
      sends k d e is p under =
          let q : MaySend P J k v d n (Apply b u) = rw is at p in
          let c = q.carries.covers in
          let x = f.round v b id under i (λ m w none. let y = c m w in let z = y.1 in absurd (let k : None ≡ Some y.0 = sym none ∙ z in cc)) in
          let g = c x.2.0 (x.2.1).member in
          let shown = (x.2.1).given g.0 g.1 in
          ((g.0).content id, Covers-le v id J _ _ x.1 shown, unite-gives P J v n b u q.carries id _ (g.2 id))

  -- ---- all of it

  pub facts : (J : Journal) → Legal acks P J → Facts J
  facts [] l = record {
    marked = λ v n id m low. elim m [ inl c ↦ cc | inr r ↦ (let z = (r.is_open).prepared in cc) ];
    somewhere = λ v id o all. cc;
    round = λ v b id u i w. cc;
    delete = λ v b id n c t q u i j w p x d a. cc;
    applied = λ v n b u id h i a. cc;
  }
  facts (e ∷ J) l =
      let f = facts J l.0 in
      record {
        marked = marked-step J e l f;
        somewhere = somewhere-step J e l f;
        round = round-step J e l f;
        delete = delete-step J e l f;
        applied = applied-step J e l f;
      }
