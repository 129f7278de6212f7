-- Rows, and the rounds and operations in them.
use Rattle.std.proofs.Common.{◌≡◌, ℕ, ◌+◌, ◌<◌, ◌≤◌, Bool, true, false, List, [], ◌∷◌, Some, refl, sym, ap, ◌∙◌, subst, arith, inl, inr, ◌⊎◌, eqb, eq-eqb}
use Rattle.std.proofs.lemmas.Bool.{eqb-true}
use Rattle.std.proofs.lemmas.Bool.Decides.{nat_tests}
use Rattle.lane_journals.specs.Buckets.{Bucket, contains, same_bucket, first_child, second_child, key_of}
use Rattle.lane_journals.specs.Events.{Content, Body, Read, Apply, Decision, RoundBegun, RoundEnded, RowSplit, RowsJoined, ActiveOn, DeleteFrom, DeleteOver, Event, Opened, Prepared, Decided}
use Rattle.lane_journals.specs.Readers.{Journal, Beginning, began, Preparing, prepared, opened, row_at, rounds, round_of, running, Message, round_in, sent}
use Rattle.lane_journals.specs.Facts.{IsRow, IsOpen}
use Rattle.lane_journals.specs.Legal.{MayOpen, MayPrepare, MayCarry, MaySend, IsIdleRow, Permits, Legal}
use Rattle.lane_journals.proofs.BucketLaws.{same_bucket-refl, same_bucket-true, child_of}
use Rattle.lane_journals.proofs.Basics.{began-stays, prepared-cases, closed-before, opened-stays, sent-cases, rounds-grow}

-- ---- rows

row_at-cases : (v key : ℕ) (J : Journal) (e : Event) → (row_at v key (e ∷ J) ≡ row_at v key J) ⊎ (((d : ℕ) × (rows : List Bucket) × (e ≡ Opened d v rows)) ⊎
    (((d : ℕ) × (c : Bucket) × (e ≡ Decided d v (RowSplit c)) × (contains c key ≡ true)) ⊎ ((d : ℕ) × (p : Bucket) × (e ≡ Decided d v (RowsJoined p)) × (contains p key ≡ true))))
row_at-cases v key J e = grind (arith, nat_tests)

pub same-row : (v : ℕ) (b c : Bucket) (J : Journal) (key : ℕ) → IsRow v b J → IsRow v c J → contains b key ≡ true → contains c key ≡ true → b ≡ c
same-row v b c J key p q x y = let a = p.row key x in let d = q.row key y in cc

-- the event changes no row that meets the bucket
pub record Apart (v : ℕ) (b : Bucket) (e : Event) : Type 0 where
  pub split : (d : ℕ) (c : Bucket) → e ≡ Decided d v (RowSplit c) → (key : ℕ) → contains b key ≡ true → contains c key ≡ true → ⊥
  pub joined : (d : ℕ) (c : Bucket) → e ≡ Decided d v (RowsJoined c) → (key : ℕ) → contains b key ≡ true → contains c key ≡ true → ⊥

pub record SameRound (v : ℕ) (b : Bucket) (J : Journal) (e : Event) : Type 0 where
  pub under : running v b J ≡ true
  pub round : round_of v b (e ∷ J) ≡ round_of v b J
  pub not_ended : (d : ℕ) (set : ℕ → Bool) → e ≡ Decided d v (RoundEnded b set) → ⊥

pub running-cases : (v : ℕ) (b : Bucket) (J : Journal) (e : Event) → running v b (e ∷ J) ≡ true → ((d : ℕ) × (e ≡ Decided d v (RoundBegun b))) ⊎ SameRound v b J e
running-cases v b J (Decided d w (RoundBegun c)) h = by_case (eqb w v) (same_bucket c b) refl refl
  where
    by_case : (t u : Bool) → eqb w v ≡ t → same_bucket c b ≡ u → ((d' : ℕ) × (Decided d w (RoundBegun c) ≡ Decided d' v (RoundBegun b))) ⊎ SameRound v b J (Decided d w (RoundBegun c))
    by_case true true e f = inl (d, let x = eqb-true w v e in let y = same_bucket-true c b f in cc)
    by_case true false e f = inr (record { under = rw (e, f) at h; round = rw (e, f) refl; not_ended = λ d' s is. cc })
    by_case false u e f = inr (record { under = rw e at h; round = rw e refl; not_ended = λ d' s is. cc })
running-cases v b J (Decided d w (RoundEnded c set)) h = by_case (eqb w v) (same_bucket c b) refl refl
  where
    fst : (d' : ℕ) (s : ℕ → Bool) → Decided d w (RoundEnded c set) ≡ Decided d' v (RoundEnded b s) → w ≡ v
    fst d' s is = cc

    snd : (d' : ℕ) (s : ℕ → Bool) → Decided d w (RoundEnded c set) ≡ Decided d' v (RoundEnded b s) → c ≡ b
    snd d' s is = cc

    by_case : (t u : Bool) → eqb w v ≡ t → same_bucket c b ≡ u → ((d' : ℕ) × (Decided d w (RoundEnded c set) ≡ Decided d' v (RoundBegun b))) ⊎ SameRound v b J (Decided d w (RoundEnded c set))
    by_case true true e f = let z : false ≡ true = rw (e, f) at h in cc
    by_case true false e f = inr (record { under = rw (e, f) at h; round = refl; not_ended = λ d' s is. let z = snd d' s is in let y = same_bucket-refl b in let x : same_bucket c b ≡ true = rw z y in cc })
    by_case false u e f = inr (record { under = rw e at h; round = refl; not_ended = λ d' s is. let z = eq-eqb w v (fst d' s is) in cc })
running-cases v b J (Decided d w (RowSplit c)) h = inr (record { under = h; round = refl; not_ended = λ d' s is. cc })
running-cases v b J (Decided d w (RowsJoined c)) h = inr (record { under = h; round = refl; not_ended = λ d' s is. cc })
running-cases v b J (Decided d w (ActiveOn c n)) h = inr (record { under = h; round = refl; not_ended = λ d' s is. cc })
running-cases v b J (Decided d w (DeleteFrom c n s)) h = inr (record { under = h; round = refl; not_ended = λ d' t is. cc })
running-cases v b J (Decided d w (DeleteOver c n)) h = inr (record { under = h; round = refl; not_ended = λ d' s is. cc })
running-cases v b J _ h = inr (record { under = h; round = refl; not_ended = λ d' s is. cc })

-- ---- the rounds that were begun

abbrev pub IsRound : ℕ → ℕ → Bucket → Journal → Type 0
IsRound v r c [] = ⊥
IsRound v r c (Decided d w (RoundBegun x) ∷ J) = ((w ≡ v) × (x ≡ c) × (r ≡ rounds v J + 1)) ⊎ IsRound v r c J
IsRound v r c (_ ∷ J) = IsRound v r c J

pub IsRound-stays : (v r : ℕ) (c : Bucket) (J : Journal) (e : Event) → IsRound v r c J → IsRound v r c (e ∷ J)
IsRound-stays v r c J e h = grind arith

pub isround-cases : (v r : ℕ) (c : Bucket) (J : Journal) (e : Event) → IsRound v r c (e ∷ J) → IsRound v r c J ⊎ ((d : ℕ) × (e ≡ Decided d v (RoundBegun c)) × (r ≡ rounds v J + 1))
isround-cases v r c J e h = grind (arith, nat_tests)

pub isround-bound : (v r : ℕ) (c : Bucket) (J : Journal) → IsRound v r c J → r ≤ rounds v J
isround-bound v r c [] h = absurd h
isround-bound v r c (e ∷ J) h = let g = rounds-grow v J e in elim (isround-cases v r c J e h) [
  | inl old ↦ let i = isround-bound v r c J old in omega arith
  | inr new ↦ rw new.1 (let z : rounds v (Decided new.0 v (RoundBegun c) ∷ J) ≡ rounds v J + 1 = rw (eq-eqb v v refl) refl in let y = new.2 in omega arith)
]

pub isround-one : (v r : ℕ) (b c : Bucket) (J : Journal) → IsRound v r b J → IsRound v r c J → b ≡ c
isround-one v r b c [] h g = absurd h
isround-one v r b c (e ∷ J) h g = elim (isround-cases v r b J e h) [
  | inl old ↦ elim (isround-cases v r c J e g) [
    | inl old' ↦ isround-one v r b c J old old'
    | inr new' ↦ (let i = isround-bound v r b J old in let z = new'.2 in absurd (omega arith))
  ]
  | inr new ↦ elim (isround-cases v r c J e g) [
    | inl old' ↦ (let i = isround-bound v r c J old' in let z = new.2 in absurd (omega arith))
    | inr new' ↦ same new.0 new'.0 new.1 new'.1
  ]
]
  where
    same : (d d' : ℕ) → e ≡ Decided d v (RoundBegun b) → e ≡ Decided d' v (RoundBegun c) → b ≡ c
    same d d' p q = cc

pub running-round : (J : Journal) → (v : ℕ) (b : Bucket) → running v b J ≡ true → IsRound v (round_of v b J) b J
running-round [] v b h = cc
running-round (e ∷ J) v b h = elim (running-cases v b J e h) [
  | inl new ↦ subst (λ (x : Event). IsRound v (round_of v b (x ∷ J)) b (x ∷ J)) (sym new.1) (inl (refl, refl, rw (eq-eqb v v refl, same_bucket-refl b) refl))
  | inr same ↦ IsRound-stays v _ b J e (subst (λ (r : ℕ). IsRound v r b J) (sym same.round) (running-round J v b same.under))
]

module _ (acks : ℕ) (P : ℕ → ℕ → Bool) where
  pub IsRow-stays : (v : ℕ) (b : Bucket) (J : Journal) (e : Event) → Permits acks P J e → Apart v b e → IsRow v b J → IsRow v b (e ∷ J)
  IsRow-stays v b J e p far r = record {
    fits = r.fits;
    opened = opened-stays v J e r.opened;
    row = λ key h. elim (row_at-cases v key J e) [
      | inl same ↦ same ∙ r.row key h
      | inr (inl o) ↦ absurd (again o.0 o.1 o.2)
      | inr (inr (inl s)) ↦ absurd (far.split s.0 s.1 s.2 key h s.3)
      | inr (inr (inr s)) ↦ absurd (far.joined s.0 s.1 s.2 key h s.3)
    ];
  }
    where
      again : (d : ℕ) (rows : List Bucket) → e ≡ Opened d v rows → ⊥
      again d rows is = let q : MayOpen P J d v rows = rw is at p in let z = q.once in let y = r.opened in cc

  -- a quiet row isn't one with a round under way
  quiet-apart : (v : ℕ) (b c : Bucket) (J : Journal) (key : ℕ) → IsIdleRow v c J → IsRow v b J → contains b key ≡ true → contains c key ≡ true → running v b J ≡ true → ⊥
  quiet-apart v b c J key q r x y h = let same = same-row v b c J key r q.row x y in let z : running v c J ≡ true = subst (λ (i : Bucket). running v i J ≡ true) same h in let n = q.no_round in cc

  idle-apart : (v line : ℕ) (begin : Beginning) (p : Preparing) (c : Bucket) (J : Journal) (key : ℕ) → IsIdleRow v c J → IsRow v p.row J → contains p.row key ≡ true → contains c key ≡ true → IsOpen v line begin p J → ⊥
  idle-apart v line begin p c J key q r x y o = q.idle line begin p o (same-row v p.row c J key r q.row x y)

  -- ---- rounds under way

  pub running-row : (J : Journal) → Legal acks P J → (v : ℕ) (b : Bucket) → running v b J ≡ true → IsRow v b J
  running-row [] l v b h = cc
  running-row (e ∷ J) l v b h =
      elim (running-cases v b J e h) [
        | inl new ↦ begun e new.0 new.1 l.1
        | inr same ↦ let r = running-row J l.0 v b same.under in IsRow-stays v b J e l.1 (far same.under r) r
      ]
    where
      begun : (e : Event) (d : ℕ) → e ≡ Decided d v (RoundBegun b) → Permits acks P J e → IsRow v b (e ∷ J)
      begun e d is p = rw is (let q : Permits acks P J (Decided d v (RoundBegun b)) = rw is at p in
          IsRow-stays v b J (Decided d v (RoundBegun b)) q (record { split = λ d' c z. cc; joined = λ d' c z. cc }) (q.1).row)

      far : running v b J ≡ true → IsRow v b J → Apart v b e
      far u r = record {
        split = λ d c is key x y. let q : Permits acks P J (Decided d v (RowSplit c)) = rw is at l.1 in quiet-apart v b c J key (q.1.1) r x y u;
        joined = λ d c is key x y. let q : Permits acks P J (Decided d v (RowsJoined c)) = rw is at l.1 in elim (child_of c key y) [
          | inl z ↦ quiet-apart v b (first_child c) J key (q.1).first r x z u
          | inr z ↦ quiet-apart v b (second_child c) J key (q.1).second r x z u
        ];
      }

  -- a quiet row has no common key with a row in which a round is under way
  pub quiet-running : (J : Journal) → Legal acks P J → (v : ℕ) (b c : Bucket) (key : ℕ) → IsIdleRow v c J → running v b J ≡ true → contains b key ≡ true → contains c key ≡ true → ⊥
  quiet-running J l v b c key q u x y = quiet-apart v b c J key q (running-row J l v b u) x y u

  -- while a round is under way no later one has a key of it
  pub newest-round : (J : Journal) → Legal acks P J → (v q : ℕ) (b c : Bucket) (key : ℕ) → running v b J ≡ true → IsRound v q c J → round_of v b J < q → contains b key ≡ true → contains c key ≡ true → ⊥
  newest-round [] l v q b c key h i lt x y = i
  newest-round (e ∷ J) l v q b c key h i lt x y = elim (running-cases v b J e h) [
    | inl new ↦ latest e new.0 new.1 i lt
    | inr same ↦ elim (isround-cases v q c J e i) [
      | inl old ↦ newest-round J l.0 v q b c key same.under old (let z = same.round in omega arith) x y
      | inr new ↦ (let p : Permits acks P J (Decided new.0 v (RoundBegun c)) = rw new.1 at l.1 in quiet-running J l.0 v b c key p.1 same.under x y)
    ]
  ]
    where
      latest : (e : Event) (d : ℕ) → e ≡ Decided d v (RoundBegun b) → IsRound v q c (e ∷ J) → round_of v b (e ∷ J) < q → ⊥
      latest e d is i lt =
          let g = isround-bound v q c (e ∷ J) i in
          let z : round_of v b (e ∷ J) ≡ rounds v (e ∷ J) = rw is (rw (eq-eqb v v refl, same_bucket-refl b) refl) in omega arith

  -- ---- operations

  pub record WasPrepared (line : ℕ) (p : Preparing) (J : Journal) : Type 0 where
    pub begin : Beginning
    pub begun : began line J ≡ Some begin
    pub inside : contains p.row (key_of begin.id) ≡ true
    pub opened : opened begin.version J ≡ true

  pub was-prepared : (J : Journal) → Legal acks P J → (line : ℕ) (p : Preparing) → prepared line J ≡ Some p → WasPrepared line p J
  was-prepared [] l line p h = cc
  was-prepared (e ∷ J) l line p h = elim (prepared-cases line J e p h) [
    | inl old ↦ later (was-prepared J l.0 line p old)
    | inr new ↦ (let q : MayPrepare acks J line p.row p.recipients = rw new.0 at l.1 in later (record { begin = q.begin; begun = q.begun; inside = q.inside; opened = (q.row).opened }))
  ]
    where
      later : WasPrepared line p J → WasPrepared line p (e ∷ J)
      later w = record { begin = w.begin; begun = began-stays line J w.begin e w.begun; inside = w.inside; opened = opened-stays (w.begin).version J e w.opened }

  began_before : (J : Journal) (line : ℕ) (e : Event) (b : Beginning) → (c : Beginning) × (began line J ≡ Some c) → began line (e ∷ J) ≡ Some b → began line J ≡ Some b
  began_before J line e b a s = let g = began-stays line J a.0 e a.1 in let same : a.0 ≡ b = cc in rw same at a.1

  pub record PreparedNow (v line : ℕ) (b : Beginning) (p : Preparing) (J : Journal) (e : Event) : Type 0 where
    pub is : e ≡ Prepared line p.row p.recipients
    pub begun : began line J ≡ Some b
    pub version : b.version ≡ v

  pub open-cases : (J : Journal) (e : Event) → Legal acks P (e ∷ J) → (v line : ℕ) (b : Beginning) (p : Preparing) → IsOpen v line b p (e ∷ J) → IsOpen v line b p J ⊎ PreparedNow v line b p J e
  open-cases J e l v line b p o = elim (prepared-cases line J e p o.prepared) [
    | inl old ↦ (let w = was-prepared J l.0 line p old in inl (record { began = began_before J line e b (w.begin, w.begun) o.began; version = o.version; prepared = old; unclosed = closed-before line J e o.unclosed }))
    | inr new ↦ (let q : MayPrepare acks J line p.row p.recipients = rw new.0 at l.1 in inr (record { is = new.0; begun = began_before J line e b (q.begin, q.begun) o.began; version = o.version }))
  ]

  pub prepared-permits : (J : Journal) (e : Event) → Permits acks P J e → (v line : ℕ) (b : Beginning) (p : Preparing) → PreparedNow v line b p J e → (q : MayPrepare acks J line p.row p.recipients) × (q.begin ≡ b)
  prepared-permits J e may v line b p n = let q : MayPrepare acks J line p.row p.recipients = rw n.is at may in (q, let x = q.begun in let y = n.begun in cc)

  pub open-row : (J : Journal) → Legal acks P J → (v line : ℕ) (b : Beginning) (p : Preparing) → IsOpen v line b p J → IsRow v p.row J
  open-row [] l v line b p o = let z = o.prepared in cc
  open-row (e ∷ J) l v line b p o = elim (open-cases J e l v line b p o) [
    | inl old ↦ (let r = open-row J l.0 v line b p old in IsRow-stays v p.row J e l.1 (far old r) r)
    | inr new ↦ (let q = prepared-permits J e l.1 v line b p new in
        IsRow-stays v p.row J e l.1 (record { split = λ d c z key x y. apart z new.is; joined = λ d c z key x y. apart z new.is })
        (subst (λ (i : ℕ). IsRow i p.row J) (ap (λ (x : Beginning). x.version) q.1 ∙ new.version) (q.0).row))
  ]
    where
      apart : {d : ℕ} {x : Decision} → e ≡ Decided d v x → e ≡ Prepared line p.row p.recipients → ⊥
      apart a c = cc

      far : IsOpen v line b p J → IsRow v p.row J → Apart v p.row e
      far u r = record {
        split = λ d c is key x y. let q : Permits acks P J (Decided d v (RowSplit c)) = rw is at l.1 in idle-apart v line b p c J key (q.1.1) r x y u;
        joined = λ d c is key x y. let q : Permits acks P J (Decided d v (RowsJoined c)) = rw is at l.1 in elim (child_of c key y) [
          | inl z ↦ idle-apart v line b p (first_child c) J key (q.1).first r x z u
          | inr z ↦ idle-apart v line b p (second_child c) J key (q.1).second r x z u
        ];
      }

  -- a quiet row has no common key with that of an open operation
  pub quiet-open : (J : Journal) → Legal acks P J → (v line : ℕ) (b : Beginning) (p : Preparing) (c : Bucket) (key : ℕ) → IsIdleRow v c J → IsOpen v line b p J → contains p.row key ≡ true → contains c key ≡ true → ⊥
  quiet-open J l v line b p c key q o x y = idle-apart v line b p c J key q (open-row J l v line b p o) x y o

  -- no operation is open in a row with a round under way
  pub running-idle : (J : Journal) → Legal acks P J → (v line : ℕ) (begin : Beginning) (p : Preparing) (b : Bucket) (key : ℕ) → running v b J ≡ true → IsOpen v line begin p J → contains b key ≡ true → contains p.row key ≡ true → ⊥
  running-idle [] l v line begin p b key u o x y = cc
  running-idle (e ∷ J) l v line begin p b key u o x y = elim (running-cases v b J e u) [
    | inl new ↦ elim (open-cases J e l v line begin p o) [
      | inl old ↦ (let q : Permits acks P J (Decided new.0 v (RoundBegun b)) = rw new.1 at l.1 in quiet-open J l.0 v line begin p b key q.1 old y x)
      | inr now ↦ apart new.0 new.1 now.is
    ]
    | inr same ↦ elim (open-cases J e l v line begin p o) [
      | inl old ↦ running-idle J l.0 v line begin p b key same.under old x y
      | inr now ↦ (let q = prepared-permits J e l.1 v line begin p now in
          let vs = ap (λ (z : Beginning). z.version) q.1 ∙ now.version in
          clash same.under (subst (λ (i : ℕ). IsRow i p.row J) vs (q.0).row) (subst (λ (i : ℕ). running i p.row J ≡ false) vs (q.0).no_round))
    ]
  ]
    where
      apart : (d : ℕ) → e ≡ Decided d v (RoundBegun b) → e ≡ Prepared line p.row p.recipients → ⊥
      apart d a c = cc

      clash : running v b J ≡ true → IsRow v p.row J → running v p.row J ≡ false → ⊥
      clash h r f = let same = same-row v b p.row J key (running-row J l.0 v b h) r x y in let z : running v p.row J ≡ true = subst (λ (i : Bucket). running v i J ≡ true) same h in cc

  -- ---- messages of rounds

  pub sent-round : (J : Journal) → Legal acks P J → (k : ℕ) (m : Message) (b : Bucket) → sent k J ≡ Some m → (m.body ≡ Read b) ⊎ ((u : Content) × (m.body ≡ Apply b u)) → IsRound m.version m.round b J
  sent-round [] l k m b h is = cc
  sent-round (e ∷ J) l k m b h is = IsRound-stays m.version m.round b J e (elim (sent-cases k J e m h) [
    | inl old ↦ sent-round J l.0 k m b old is
    | inr new ↦ (let p : MaySend P J k m.version new.sender m.receiver m.body = rw new.is at l.1 in now new.round p.carries is)
  ])
    where
      now : m.round ≡ round_in m.version m.body J → MayCarry P J m.version m.receiver m.body → (m.body ≡ Read b) ⊎ ((u : Content) × (m.body ≡ Apply b u)) → IsRound m.version m.round b J
      now r c (inl x) =
          let c' : MayCarry P J m.version m.receiver (Read b) = rw x at c in
          let r' : m.round ≡ round_of m.version b J = r ∙ ap (λ (y : Body). round_in m.version y J) x in
          subst (λ (i : ℕ). IsRound m.version i b J) (sym r') (running-round J m.version b c'.under_way)
      now r c (inr x) =
          let c' : MayCarry P J m.version m.receiver (Apply b x.0) = rw x.1 at c in
          let r' : m.round ≡ round_of m.version b J = r ∙ ap (λ (y : Body). round_in m.version y J) x.1 in
          subst (λ (i : ℕ). IsRound m.version i b J) (sym r') (running-round J m.version b c'.under_way)
