-- Marks, who took unions, and the active node.
use Rattle.std.proofs.Common.{◌≡◌, ℕ, ◌+◌, ◌<◌, ◌≤◌, Bool, true, false, cond, [], ◌∷◌, Option, Some, None, refl, sym, ap, ◌∙◌, subst, subst₂, arith, inl, inr, ◌⊎◌, eqb, eq-eqb}
use Rattle.std.proofs.lemmas.Bool.{eqb-true}
use Rattle.std.proofs.lemmas.Bool.Decides.{nat_tests}
use Rattle.lane_journals.specs.Stamps.{Stamp}
use Rattle.lane_journals.specs.Buckets.{Bucket, contains, across, Id}
use Rattle.lane_journals.specs.Events.{Content, Body, Apply, Activate, Reply, Answer, RoundBegun, RoundEnded, RowSplit, RowsJoined, ActiveOn, DeleteFrom, DeleteOver, Event, Prepared, Delivered, Closed, Decided}
use Rattle.lane_journals.specs.Readers.{Journal, Beginning, began, Preparing, prepared, rounds, round_of, running, Message, sent, is_answer, version, still, acceptable, answered_store, lacks, takes_mark, complete, active, Named, DeletedFrom}
use Rattle.lane_journals.specs.Facts.{Took, IsOpen}
use Rattle.lane_journals.specs.Legal.{MayCarry, MaySend, MayDeliver, MayClose, MayActivate, Permits, Legal}
use Rattle.lane_journals.proofs.BucketLaws.{same_bucket-refl, meets-by}
use Rattle.lane_journals.proofs.Basics.{sent-cases, sent_before, accepted-cases, accepted-sent, version-grows, rounds-grow, Took-stays, answered-took, Named-stays, named-cases, deleted-cases}
use Rattle.lane_journals.proofs.Rows.{running-cases, IsRound, isround-bound, quiet-running, sent-round, open-cases, quiet-open, prepared-permits}
use Rattle.lane_journals.proofs.Serials.{Accepts, accepts-at}
use Rattle.lane_journals.proofs.Deletes.{dead-step}

-- ---- a message taken

pub record TakesNow (v r n : ℕ) (b : Bucket) (u : Content) (J : Journal) (e : Event) : Type 0 where
  pub number : ℕ
  pub message : Message
  pub reply : Reply
  pub is : e ≡ Delivered number reply
  pub answer : is_answer reply ≡ true
  pub was_sent : sent number J ≡ Some message
  pub receiver : message.receiver ≡ n
  pub version : message.version ≡ v
  pub round : message.round ≡ r
  pub body : message.body ≡ Apply b u

pub took-cases : (acks : ℕ) (P : ℕ → ℕ → Bool) (J : Journal) (e : Event) → Legal acks P (e ∷ J) → (v r n : ℕ) (b : Bucket) (u : Content) → Took v r n b u (e ∷ J) → Took v r n b u J ⊎ TakesNow v r n b u J e
took-cases acks P J e l v r n b u t =
    elim (accepted-cases t.number J e t.accepted) [
      | inl old ↦ inl (record { number = t.number; message = t.message; was_sent = sent_before acks P J t.number e t.message (accepted-sent acks P J l.0 t.number old) t.was_sent; receiver = t.receiver; version = t.version; round = t.round; body = t.body; accepted = old })
      | inr new ↦ inr (let d : MayDeliver J t.number new.0 = rw new.1 at l.1 in record { number = t.number; message = t.message; reply = new.0; is = new.1; answer = new.2; was_sent = sent_before acks P J t.number e t.message (d.message, d.was_sent) t.was_sent; receiver = t.receiver; version = t.version; round = t.round; body = t.body })
    ]

-- an answered message is accepted in this event
pub now-accepts : (acks : ℕ) (P : ℕ → ℕ → Bool) (J : Journal) (e : Event) → Permits acks P J e → (k n : ℕ) (m : Message) (y : Reply) → e ≡ Delivered k y → is_answer y ≡ true → sent k J ≡ Some m → m.receiver ≡ n → (a : Accepts J e n) × (a.message ≡ m)
now-accepts acks P J e p k n m y is ans s to = by_reply y is ans
  where
    at : (x : Content) (t : Bucket → ℕ → Bool) → MayDeliver J k (Answer x t) → (a : Accepts J (Delivered k (Answer x t)) n) × (a.message ≡ m)
    at x t d = let a = accepts-at J k (record { content = x; names = t }) m n d s to in (a.0, a.1)

    by_reply : (y : Reply) → e ≡ Delivered k y → is_answer y ≡ true → (a : Accepts J e n) × (a.message ≡ m)
    by_reply (Answer x t) is ans = rw is (at x t (rw is at p))
    by_reply _ is ans = cc

pub takes-accepts : (acks : ℕ) (P : ℕ → ℕ → Bool) (J : Journal) (e : Event) → Permits acks P J e → (v r n : ℕ) (b : Bucket) (u : Content) → TakesNow v r n b u J e → (a : Accepts J e n) × ((a.message).body ≡ Apply b u) × ((a.message).version ≡ v)
takes-accepts acks P J e p v r n b u t = let a = now-accepts acks P J e p t.number n t.message t.reply t.is t.answer t.was_sent t.receiver in
    (a.0, ap (λ (y : Message). y.body) a.1 ∙ t.body, ap (λ (y : Message). y.version) a.1 ∙ t.version)

-- ---- marks, by event

pub complete-before : (v n key : ℕ) (J : Journal) (e : Event) → complete v n key (e ∷ J) ≡ true → (complete v n key J ≡ true) ⊎ ((d : ℕ) × (b : Bucket) × (set : ℕ → Bool) × (e ≡ Decided d v (RoundEnded b set)) × (contains b key ≡ true) × (set n ≡ true))
complete-before v n key J e h = grind (arith, nat_tests)

pub complete-not_from : (v n key : ℕ) (J : Journal) (e : Event) (d : ℕ) (b : Bucket) (s : ℕ) → complete v n key (e ∷ J) ≡ true → e ≡ Decided d v (DeleteFrom b n s) → contains b key ≡ true → ⊥
complete-not_from v n key J e d b s h is i = grind (arith, nat_tests)

pub record TakesMark (v n key line : ℕ) (J : Journal) : Type 0 where
  pub begin : Beginning
  pub preparing : Preparing
  pub stamp : Stamp
  pub begun : began line J ≡ Some begin
  pub was_prepared : prepared line J ≡ Some preparing
  pub version : begin.version ≡ v
  pub inside : contains preparing.row key ≡ true
  pub stamped : begin.stamp ≡ Some stamp
  pub unanswered : answered_store v begin.id stamp n J ≡ false

pub takes_mark-true : (v n key line : ℕ) (J : Journal) → takes_mark v n key (began line J) (prepared line J) J ≡ true → TakesMark v n key line J
takes_mark-true v n key line J h = by_begin (began line J) (prepared line J) refl refl h
  where
    by_stamp : (b : Beginning) (p : Preparing) → began line J ≡ Some b → prepared line J ≡ Some p → b.version ≡ v → contains p.row key ≡ true → (s : Option Stamp) → b.stamp ≡ s → lacks v b.id n J s ≡ true → TakesMark v n key line J
    by_stamp b p f g e i None st h = cc
    by_stamp b p f g e i (Some s) st h = record { begin = b; preparing = p; stamp = s; begun = f; was_prepared = g; version = e; inside = i; stamped = st; unanswered = flip (answered_store v b.id s n J) h }
      where
        flip : (t : Bool) → cond t false true ≡ true → t ≡ false
        flip true h = cc
        flip false h = refl

    by_case : (b : Beginning) (p : Preparing) → began line J ≡ Some b → prepared line J ≡ Some p → (t u : Bool) → eqb b.version v ≡ t → contains p.row key ≡ u → cond t (cond u (lacks v b.id n J b.stamp) false) false ≡ true → TakesMark v n key line J
    by_case b p f g true true e i h = by_stamp b p f g (eqb-true _ _ e) i b.stamp refl h
    by_case b p f g true false e i h = cc
    by_case b p f g false u e i h = cc

    by_begin : (b : Option Beginning) (p : Option Preparing) → began line J ≡ b → prepared line J ≡ p → takes_mark v n key b p J ≡ true → TakesMark v n key line J
    by_begin None p f g h = cc
    by_begin (Some b) None f g h = cc
    by_begin (Some b) (Some p) f g h = by_case b p f g (eqb b.version v) (contains p.row key) refl refl h

-- a node that keeps its mark at an acknowledgement answered the Store
pub complete-closed : (v n key line : ℕ) (J : Journal) (b : Beginning) (p : Preparing) (s : Stamp) → complete v n key (Closed line true ∷ J) ≡ true → began line J ≡ Some b → prepared line J ≡ Some p → b.version ≡ v → contains p.row key ≡ true → b.stamp ≡ Some s → answered_store v b.id s n J ≡ true
complete-closed v n key line J b p s h f g e i st =
    let t : takes_mark v n key (began line J) (prepared line J) J ≡ cond (answered_store v b.id s n J) false true = rw (f, g, eq-eqb b.version v e, i, st) refl in
    by_case (answered_store v b.id s n J) (kept (takes_mark v n key (began line J) (prepared line J) J) h) t
  where
    kept : (t : Bool) → cond t false (complete v n key J) ≡ true → t ≡ false
    kept true h = cc
    kept false h = refl

    by_case : (x : Bool) {y : Bool} → y ≡ false → y ≡ cond x false true → x ≡ true
    by_case true a b = refl
    by_case false a b = cc

module _ (acks : ℕ) (P : ℕ → ℕ → Bool) where
  pub took-version : (J : Journal) → Legal acks P J → (v r n : ℕ) (b : Bucket) (u : Content) → Took v r n b u J → v ≤ version n J
  took-version [] l v r n b u t = absurd t.accepted
  took-version (e ∷ J) l v r n b u t =
      elim (took-cases acks P J e l v r n b u t) [
        | inl old ↦ let i = took-version J l.0 v r n b u old in let g = version-grows n J e in omega arith
        | inr new ↦ let a = takes-accepts acks P J e l.1 v r n b u new in let i = (a.0).raises in let j = a.2 in omega arith
      ]

  pub took-isround : (J : Journal) → Legal acks P J → (v r n : ℕ) (b : Bucket) (u : Content) → Took v r n b u J → IsRound v r b J
  took-isround J l v r n b u t = subst₂ (λ (x y : ℕ). IsRound x y b J) t.version t.round (sent-round acks P J l t.number t.message b t.was_sent (inr (u, t.body)))

  -- a DeleteFrom of an earlier round isn't acceptable where a later union was taken
  pub taken-dead : (J : Journal) → Legal acks P J → (v r n : ℕ) (c : Bucket) (u : Content) (b : Bucket) (t q key : ℕ) → Took v r n c u J → DeletedFrom v b n t q J → q < r → contains c key ≡ true → contains b key ≡ true → acceptable n b t J ≡ false
  taken-dead [] l v r n c u b t q key k d lt i j = refl
  taken-dead (e ∷ J) l v r n c u b t q key k d lt i j =
      elim (deleted-cases v b n t q J e d) [
        | inl old ↦ elim (took-cases acks P J e l v r n c u k) [
          | inl before ↦ dead-step acks P J e l v b n t q old (taken-dead J l.0 v r n c u b t q key before old lt i j)
          | inr now ↦ (let a = takes-accepts acks P J e l.1 v r n c u now in (a.0).serials b t ∙ ap (λ (y : Body). still y (a.0).given.names b t (acceptable n b t J)) a.1 ∙ rw (meets-by c b key i j) refl)
        ]
        | inr new ↦ elim (took-cases acks P J e l v r n c u k) [
          | inl before ↦ (let i = isround-bound v r c J (took-isround J l.0 v r n c u before) in let y = new.2 in absurd (omega arith))
          | inr now ↦ absurd (apart new.1 now.is)
        ]
      ]
    where
      apart : {d k : ℕ} {y : Reply} → e ≡ Decided d v (DeleteFrom b n t) → e ≡ Delivered k y → ⊥
      apart a b = cc

  -- ---- names

  named-round : (J : Journal) (v n key r : ℕ) → Named v n key r J → r ≤ rounds v J
  named-round [] v n key r h = absurd h
  named-round (e ∷ J) v n key r h = let g = rounds-grow v J e in elim (named-cases v n key r J e h) [
    | inl old ↦ let i = named-round J v n key r old in omega arith
    | inr new ↦ let i = new.5 in omega arith
  ]

  pub deleted-named : (v : ℕ) (b : Bucket) (n s q r key : ℕ) (J : Journal) → DeletedFrom v b n s q J → r ≤ q → contains b key ≡ true → Named v n key r J
  deleted-named v b n s q r key [] h le i = absurd h
  deleted-named v b n s q r key (e ∷ J) h le i = elim (deleted-cases v b n s q J e h) [
    | inl old ↦ Named-stays v n key r J e (deleted-named v b n s q r key J old le i)
    | inr new ↦ subst (λ (y : Event). Named v n key r (y ∷ J)) (sym new.1) (inl (refl, refl, i, subst (λ (x : ℕ). r ≤ x) new.2 le))
  ]

  -- in a round under way nobody was named since it began
  pub running-unnamed : (J : Journal) → Legal acks P J → (v n : ℕ) (b : Bucket) (key : ℕ) → running v b J ≡ true → contains b key ≡ true → Named v n key (round_of v b J) J → ⊥
  running-unnamed [] l v n b key u i h = h
  running-unnamed (e ∷ J) l v n b key u i h = elim (running-cases v b J e u) [
    | inl new ↦ elim (named-cases v n key (round_of v b (e ∷ J)) J e h) [
      | inl old ↦ (let g = named-round J v n key _ old in let z = begun e new.0 new.1 in absurd (omega arith))
      | inr now ↦ apart new.1 now.3
    ]
    | inr same ↦ elim (named-cases v n key (round_of v b (e ∷ J)) J e h) [
      | inl old ↦ running-unnamed J l.0 v n b key same.under i (subst (λ (r : ℕ). Named v n key r J) same.round old)
      | inr now ↦ (let q : Permits acks P J (Decided now.0 v (DeleteFrom now.1 n now.2)) = rw now.3 at l.1 in quiet-running acks P J l.0 v b now.1 key (q.1).quiet same.under i now.4)
    ]
  ]
    where
      begun : (e : Event) (d : ℕ) → e ≡ Decided d v (RoundBegun b) → round_of v b (e ∷ J) ≡ rounds v J + 1
      begun e d is = rw is (rw (eq-eqb v v refl, same_bucket-refl b) refl)

      apart : {d d' s : ℕ} {c : Bucket} → e ≡ Decided d v (RoundBegun b) → e ≡ Decided d' v (DeleteFrom c n s) → ⊥
      apart a b = cc

  -- ---- marks rest on a union that was taken

  pub record Holds (v n key : ℕ) (J : Journal) : Type 0 where
    pub round : ℕ
    pub bucket : Bucket
    pub union : Content
    pub took : Took v round n bucket union J
    pub inside : contains bucket key ≡ true
    pub free : Named v n key round J → ⊥

  pub Holds-stays : (v n key : ℕ) (J : Journal) (e : Event) → ((d : ℕ) (b : Bucket) (s : ℕ) → e ≡ Decided d v (DeleteFrom b n s) → contains b key ≡ true → ⊥) → Holds v n key J → Holds v n key (e ∷ J)
  Holds-stays v n key J e none_from h = record {
    round = h.round;
    bucket = h.bucket;
    union = h.union;
    took = Took-stays v h.round n h.bucket h.union J e h.took;
    inside = h.inside;
    free = λ x. elim (named-cases v n key h.round J e x) [ inl old ↦ h.free old | inr new ↦ none_from new.0 new.1 new.2 new.3 new.4 ];
  }

  pub complete-took : (J : Journal) → Legal acks P J → (v n key : ℕ) → complete v n key J ≡ true → Holds v n key J
  complete-took [] l v n key c = cc
  complete-took (e ∷ J) l v n key c =
      elim (complete-before v n key J e c) [
        | inl before ↦ Holds-stays v n key J e (λ d b s is i. complete-not_from v n key J e d b s c is i) (complete-took J l.0 v n key before)
        | inr ended ↦ now ended.0 ended.1 ended.2 e ended.3 ended.4 ended.5 l.1
      ]
    where
      now : (d : ℕ) (b : Bucket) (set : ℕ → Bool) (e : Event) → e ≡ Decided d v (RoundEnded b set) → contains b key ≡ true → set n ≡ true → Permits acks P J e → Holds v n key (e ∷ J)
      now d b set e is i here p = rw is (let m : Permits acks P J (Decided d v (RoundEnded b set)) = rw is at p in let a = (m.1).answered n here in
          Holds-stays v n key J (Decided d v (RoundEnded b set)) (λ d' b' s z. cc) (record { round = round_of v b J; bucket = b; union = a.union; took = answered-took v (round_of v b J) n b J a; inside = i; free = running-unnamed J l.0 v n b key (m.1).under_way i }))

  -- recipients of an open operation too
  pub recipient-holds : (J : Journal) → Legal acks P J → (v n line : ℕ) (b : Beginning) (p : Preparing) (key : ℕ) → IsOpen v line b p J → p.recipients n ≡ true → contains p.row key ≡ true → Holds v n key J
  recipient-holds [] l v n line b p key o h i = let z = o.prepared in cc
  recipient-holds (e ∷ J) l v n line b p key o h i = elim (open-cases acks P J e l v line b p o) [
    | inl old ↦ Holds-stays v n key J e (not_from old) (recipient-holds J l.0 v n line b p key old h i)
    | inr new ↦ (let q = prepared-permits acks P J e l.1 v line b p new in
        let vs = ap (λ (x : Beginning). x.version) q.1 ∙ new.version in
        Holds-stays v n key J e (λ d c s z. apart z new.is) (complete-took J l.0 v n key (subst (λ (x : ℕ). complete x n key J ≡ true) vs (sym ((q.0).recipients n key i) ∙ h))))
  ]
    where
      apart : {d s : ℕ} {c : Bucket} → e ≡ Decided d v (DeleteFrom c n s) → e ≡ Prepared line p.row p.recipients → contains c key ≡ true → ⊥
      apart a b = cc

      not_from : IsOpen v line b p J → (d : ℕ) (c : Bucket) (s : ℕ) → e ≡ Decided d v (DeleteFrom c n s) → contains c key ≡ true → ⊥
      not_from old d c s is j = let q : Permits acks P J (Decided d v (DeleteFrom c n s)) = rw is at l.1 in quiet-open acks P J l.0 v line b p c key (q.1).quiet old i j

  -- ---- the active node

  pub active-cases : (v key n : ℕ) (J : Journal) (e : Event) → active v key (e ∷ J) ≡ Some n → (active v key J ≡ Some n) ⊎ ((d : ℕ) × (b : Bucket) × (e ≡ Decided d v (ActiveOn b n)) × (contains b key ≡ true))
  active-cases v key n J e h = grind (arith, nat_tests)

  pub active-stays : (v key n : ℕ) (J : Journal) (e : Event) → Permits acks P J e → active v key J ≡ Some n → active v key (e ∷ J) ≡ Some n
  active-stays v key n J (Decided d w (ActiveOn b m)) p h = by_case (eqb w v) (contains b key) refl refl
    where
      by_case : (t u : Bool) → eqb w v ≡ t → contains b key ≡ u → cond t (cond u (Some m) (active v key J)) (active v key J) ≡ Some n
      by_case true true e f = let q : MayActivate J v b m = subst (λ (x : ℕ). MayActivate J x b m) (eqb-true w v e) p.1 in let z = q.undecided key f in cc
      by_case true false e f = h
      by_case false u e f = h
  active-stays v key n J (Decided d w (RoundBegun b)) p h = h
  active-stays v key n J (Decided d w (RoundEnded b set)) p h = h
  active-stays v key n J (Decided d w (RowSplit b)) p h = h
  active-stays v key n J (Decided d w (RowsJoined b)) p h = h
  active-stays v key n J (Decided d w (DeleteFrom b m s)) p h = h
  active-stays v key n J (Decided d w (DeleteOver b m)) p h = h
  active-stays v key n J _ p h = h

  complete-stays : (v n key : ℕ) (J : Journal) (e : Event) → complete v n key J ≡ true →
      ((d : ℕ) (q : Bucket) → e ≡ Decided d v (RowsJoined q) → contains q key ≡ true → complete v n (across q key) J ≡ true) →
      ((d : ℕ) (b : Bucket) (s : ℕ) → e ≡ Decided d v (DeleteFrom b n s) → contains b key ≡ true → ⊥) →
      ((line : ℕ) → e ≡ Closed line true → takes_mark v n key (began line J) (prepared line J) J ≡ true → ⊥) → complete v n key (e ∷ J) ≡ true
  complete-stays v n key J (Decided d w (RoundEnded b set)) h joins from closes = by_case (eqb w v) (contains b key) (set n)
    where
      by_case : (t u x : Bool) → cond t (cond u (cond x true (complete v n key J)) (complete v n key J)) (complete v n key J) ≡ true
      by_case true true true = refl
      by_case true true false = h
      by_case true false x = h
      by_case false u x = h
  complete-stays v n key J (Decided d w (RowsJoined q)) h joins from closes = by_case (eqb w v) (contains q key) refl refl
    where
      by_case : (t u : Bool) → eqb w v ≡ t → contains q key ≡ u → cond t (cond u (cond (complete v n key J) (complete v n (across q key) J) false) (complete v n key J)) (complete v n key J) ≡ true
      by_case true true e f = rw h (joins d q (ap (λ (x : ℕ). Decided d x (RowsJoined q)) (eqb-true w v e)) f)
      by_case true false e f = h
      by_case false u e f = h
  complete-stays v n key J (Decided d w (DeleteFrom b m s)) h joins from closes = by_case (eqb w v) (contains b key) (eqb m n) refl refl refl
    where
      by_case : (t u x : Bool) → eqb w v ≡ t → contains b key ≡ u → eqb m n ≡ x → cond t (cond u (cond x false (complete v n key J)) (complete v n key J)) (complete v n key J) ≡ true
      by_case true true true e f g = absurd (from d b s (let i = eqb-true w v e in let j = eqb-true m n g in cc) f)
      by_case true true false e f g = h
      by_case true false x e f g = h
      by_case false u x e f g = h
  complete-stays v n key J (Closed line true) h joins from closes = by_case (takes_mark v n key (began line J) (prepared line J) J) refl
    where
      by_case : (t : Bool) → takes_mark v n key (began line J) (prepared line J) J ≡ t → cond t false (complete v n key J) ≡ true
      by_case true e = absurd (closes line refl e)
      by_case false e = h
  complete-stays v n key J (Closed line false) h joins from closes = h
  complete-stays v n key J (Decided d w (RoundBegun b)) h joins from closes = h
  complete-stays v n key J (Decided d w (RowSplit b)) h joins from closes = h
  complete-stays v n key J (Decided d w (ActiveOn b m)) h joins from closes = h
  complete-stays v n key J (Decided d w (DeleteOver b m)) h joins from closes = h
  complete-stays v n key J _ h joins from closes = h

  -- a row's active node is complete
  pub active-complete : (J : Journal) → Legal acks P J → (v key n : ℕ) → active v key J ≡ Some n → complete v n key J ≡ true
  active-complete [] l v key n h = cc
  active-complete (e ∷ J) l v key n h = elim (active-cases v key n J e h) [
    | inl old ↦ complete-stays v n key J e (active-complete J l.0 v key n old)
        (λ d q is i. let p : Permits acks P J (Decided d v (RowsJoined q)) = rw is at l.1 in active-complete J l.0 v (across q key) n (sym ((p.1).same_active key i) ∙ old))
        (λ d b s is i. let p : Permits acks P J (Decided d v (DeleteFrom b n s)) = rw is at l.1 in (p.1).inactive key i old)
        (λ line is t. closes old line is (takes_mark-true v n key line J t))
    | inr new ↦ (let p : Permits acks P J (Decided new.0 v (ActiveOn new.1 n)) = rw new.2 at l.1 in
        complete-stays v n key J e ((p.1).member key new.3) (λ d q is i. apart new.2 is) (λ d b s is i. apart' new.2 is) (λ line is t. apart'' new.2 is))
  ]
    where
      apart : {d d' : ℕ} {b q : Bucket} {A : Type 0} → e ≡ Decided d v (ActiveOn b n) → e ≡ Decided d' v (RowsJoined q) → A
      apart a b = cc

      apart' : {d d' s : ℕ} {b q : Bucket} → e ≡ Decided d v (ActiveOn b n) → e ≡ Decided d' v (DeleteFrom q n s) → ⊥
      apart' a b = cc

      apart'' : {d line : ℕ} {b : Bucket} → e ≡ Decided d v (ActiveOn b n) → e ≡ Closed line true → ⊥
      apart'' a b = cc

      closes : active v key J ≡ Some n → (line : ℕ) → e ≡ Closed line true → TakesMark v n key line J → ⊥
      closes old line is t =
          let p : MayClose acks J line true = rw is at l.1 in
          let a = p.acked refl in
          let same : p.begin ≡ t.begin = let x = p.begun in let y = t.begun in cc in
          let same' : a.preparing ≡ t.preparing = let x = a.was_prepared in let y = t.was_prepared in cc in
          let st : a.stamp ≡ t.stamp = let x = a.stamped in let y = t.stamped in let z : (p.begin).stamp ≡ (t.begin).stamp = ap (λ (i : Beginning). i.stamp) same in some-same (sym x ∙ z ∙ y) in
          let vs : (p.begin).version ≡ v = ap (λ (i : Beginning). i.version) same ∙ t.version in
          let i' : contains (a.preparing).row key ≡ true = ap (λ (x : Preparing). contains x.row key) same' ∙ t.inside in
          let ans = a.active n key i' (subst (λ (x : ℕ). active x key J ≡ Some n) (sym vs) old) in
          let ans' : answered_store v (t.begin).id t.stamp n J ≡ true = sym (same4 vs (ap (λ (i : Beginning). i.id) same) st) ∙ ans in
          let z = t.unanswered in cc
        where
          some-same : {x y : Stamp} → ◌≡◌ {A = Option Stamp} (Some x) (Some y) → x ≡ y
          some-same h = cc

          same4 : {a b : ℕ} {c d : Id} {x y : Stamp} → a ≡ b → c ≡ d → x ≡ y → answered_store a c x n J ≡ answered_store b d y n J
          same4 p q r = λ i. answered_store (p i) (q i) (r i) n J

  -- an Activate was sent to the active node of its keys
  pub sent-active : (J : Journal) → Legal acks P J → (k : ℕ) (m : Message) (b : Bucket) → sent k J ≡ Some m → m.body ≡ Activate b → (key : ℕ) → contains b key ≡ true → active m.version key J ≡ Some m.receiver
  sent-active [] l k m b h is key i = cc
  sent-active (e ∷ J) l k m b h is key i = active-stays m.version key m.receiver J e l.1 (elim (sent-cases k J e m h) [
    | inl old ↦ sent-active J l.0 k m b old is key i
    | inr new ↦ (let p : MaySend P J k m.version new.sender m.receiver m.body = rw new.is at l.1 in
        let c : MayCarry P J m.version m.receiver (Activate b) = subst (λ (y : Body). MayCarry P J m.version m.receiver y) is p.carries in c.1 key i)
  ])

  -- for each key at most one node gets an Activate of a version
  pub one_active : (J : Journal) → Legal acks P J → (k j : ℕ) (m o : Message) (b c : Bucket) (key : ℕ) → sent k J ≡ Some m → sent j J ≡ Some o → m.body ≡ Activate b → o.body ≡ Activate c → m.version ≡ o.version → contains b key ≡ true → contains c key ≡ true → m.receiver ≡ o.receiver
  one_active J l k j m o b c key s t x y v i i' =
      let p = sent-active J l k m b s x key i in let q = sent-active J l j o c t y key i' in
      let q' : active m.version key J ≡ Some o.receiver = subst (λ (z : ℕ). active z key J ≡ Some o.receiver) (sym v) q in cc
