-- What a DeleteFrom rests on, and the unanswered Delete.
use Rattle.std.proofs.Common.{◌≡◌, ℕ, Bool, true, false, cond, [], ◌∷◌, Option, Some, None, refl, sym, ap, ◌∙◌, subst, inl, inr, ◌⊎◌, eqb, eq-eqb}
use Rattle.std.proofs.lemmas.Bool.{eqb-true}
use Rattle.lane_journals.specs.Buckets.{Bucket, contains, same_bucket, across}
use Rattle.lane_journals.specs.Events.{Body, Delete, RoundBegun, RoundEnded, RowSplit, RowsJoined, ActiveOn, DeleteFrom, DeleteOver, Event, Decided}
use Rattle.lane_journals.specs.Readers.{Journal, rounds, round_of, Message, sent, acceptable, Given, Deleting, ends, deleting, DeletedFrom}
use Rattle.lane_journals.specs.Facts.{Shown}
use Rattle.lane_journals.specs.Legal.{MayCarry, MaySend, MayDelete, Permits, Legal}
use Rattle.lane_journals.proofs.BucketLaws.{same_bucket-refl}
use Rattle.lane_journals.proofs.Basics.{or_else-cases, sent-cases, Shown-stays, deleted-cases, DeletedFrom-stays}
use Rattle.lane_journals.proofs.Serials.{dead-stays, answer-shown}

module _ (acks : ℕ) (P : ℕ → ℕ → Bool) where
  -- what a DeleteFrom was decided on: the node named the piece with the serial
  pub record Grounds (v : ℕ) (b : Bucket) (n s : ℕ) (J : Journal) : Type 0 where
    pub round : ℕ
    pub read : Bucket
    pub given : Given
    pub shown : Shown v round n read given J
    pub named : given.names b s ≡ true

  Grounds-stays : (v : ℕ) (b : Bucket) (n s : ℕ) (J : Journal) (e : Event) → Grounds v b n s J → Grounds v b n s (e ∷ J)
  Grounds-stays v b n s J e g = record { round = g.round; read = g.read; given = g.given; shown = Shown-stays v g.round n g.read g.given J e g.shown; named = g.named }

  pub grounds : (J : Journal) → Legal acks P J → (v : ℕ) (b : Bucket) (n s r : ℕ) → DeletedFrom v b n s r J → Grounds v b n s J
  grounds [] l v b n s r h = absurd h
  grounds (e ∷ J) l v b n s r h = Grounds-stays v b n s J e (elim (deleted-cases v b n s r J e h) [
    | inl old ↦ grounds J l.0 v b n s r old
    | inr new ↦ (let p : Permits acks P J (Decided new.0 v (DeleteFrom b n s)) = rw new.1 at l.1 in let q : MayDelete acks J v b n s = p.1 in
        let a = answer-shown v (round_of v b J) n J q.given q.read in
        record { round = round_of v b J; read = a.0; given = q.given; shown = a.1; named = q.named })
  ])

  pub dead-step : (J : Journal) (e : Event) → Legal acks P (e ∷ J) → (v : ℕ) (b : Bucket) (n s r : ℕ) → DeletedFrom v b n s r J → acceptable n b s J ≡ false → acceptable n b s (e ∷ J) ≡ false
  dead-step J e l v b n s r d dead = let g = grounds J l.0 v b n s r d in dead-stays acks P J e l.1 v g.round n g.read g.given b s g.shown g.named dead

  -- ---- the unanswered Delete

  pub record Kept (v key : ℕ) (x : Deleting) (J : Journal) (e : Event) : Type 0 where
    pub had : deleting v key J ≡ Some x
    pub not_over : (d : ℕ) → e ≡ Decided d v (DeleteOver x.bucket x.node) → ⊥

  pub record Came (v key : ℕ) (x : Deleting) (e : Event) : Type 0 where
    pub distributor : ℕ
    pub is : e ≡ Decided distributor v (DeleteFrom x.bucket x.node x.serial)
    pub inside : contains x.bucket key ≡ true

  pub record Inherited (v key : ℕ) (x : Deleting) (J : Journal) (e : Event) : Type 0 where
    pub distributor : ℕ
    pub parent : Bucket
    pub is : e ≡ Decided distributor v (RowsJoined parent)
    pub had : deleting v (across parent key) J ≡ Some x

  ends-cases : (b : Bucket) (n : ℕ) (o : Option Deleting) (x : Deleting) → ends b n o ≡ Some x → (o ≡ Some x) × (x.bucket ≡ b → x.node ≡ n → ⊥)
  ends-cases b n None x h = cc
  ends-cases b n (Some d) x h = by_case (same_bucket d.bucket b) (eqb d.node n) refl refl h
    where
      by_case : (t u : Bool) → same_bucket d.bucket b ≡ t → eqb d.node n ≡ u → cond t (cond u None (Some d)) (Some d) ≡ Some x → (◌≡◌ {A = Option Deleting} (Some d) (Some x)) × (x.bucket ≡ b → x.node ≡ n → ⊥)
      by_case true true e f h = cc
      by_case true false e f h = (h, λ p q. let same : d ≡ x = cc in let z : d.node ≡ n = ap (λ (y : Deleting). y.node) same ∙ q in let w = eq-eqb d.node n z in cc)
      by_case false u e f h = (h, λ p q. let same : d ≡ x = cc in let z : d.bucket ≡ b = ap (λ (y : Deleting). y.bucket) same ∙ p in let w : same_bucket d.bucket b ≡ true = rw z (same_bucket-refl b) in cc)

  pub deleting-cases : (v key : ℕ) (J : Journal) (e : Event) (x : Deleting) → deleting v key (e ∷ J) ≡ Some x → Kept v key x J e ⊎ (Came v key x e ⊎ Inherited v key x J e)
  deleting-cases v key J (Decided d w (DeleteFrom b n s)) x h = by_case (eqb w v) (contains b key) refl refl
    where
      old : deleting v key J ≡ Some x → Kept v key x J (Decided d w (DeleteFrom b n s)) ⊎ (Came v key x (Decided d w (DeleteFrom b n s)) ⊎ Inherited v key x J (Decided d w (DeleteFrom b n s)))
      old h = inl (record { had = h; not_over = λ d is. cc })

      by_case : (t u : Bool) → eqb w v ≡ t → contains b key ≡ u → Kept v key x J (Decided d w (DeleteFrom b n s)) ⊎ (Came v key x (Decided d w (DeleteFrom b n s)) ⊎ Inherited v key x J (Decided d w (DeleteFrom b n s)))
      by_case true true e f =
          let h' : ◌≡◌ {A = Option Deleting} (Some (record { bucket = b; node = n; serial = s })) (Some x) = rw (e, f) at h in
          let same : record { bucket = b; node = n; serial = s } ≡ x = cc in
          inr (inl (subst (λ (y : Deleting). Came v key y (Decided d w (DeleteFrom b n s))) same (record { distributor = d; is = ap (λ (i : ℕ). Decided d i (DeleteFrom b n s)) (eqb-true w v e); inside = f })))
      by_case true false e f = old (rw (e, f) at h)
      by_case false u e f = old (rw e at h)
  deleting-cases v key J (Decided d w (RowsJoined p)) x h = by_case (eqb w v) (contains p key) refl refl
    where
      old : deleting v key J ≡ Some x → Kept v key x J (Decided d w (RowsJoined p)) ⊎ (Came v key x (Decided d w (RowsJoined p)) ⊎ Inherited v key x J (Decided d w (RowsJoined p)))
      old h = inl (record { had = h; not_over = λ d is. cc })

      by_case : (t u : Bool) → eqb w v ≡ t → contains p key ≡ u → Kept v key x J (Decided d w (RowsJoined p)) ⊎ (Came v key x (Decided d w (RowsJoined p)) ⊎ Inherited v key x J (Decided d w (RowsJoined p)))
      by_case true true e f =
          let h' = rw (e, f) at h in
          elim (or_else-cases (deleting v key J) (deleting v (across p key) J) x h') [
            | inl had ↦ old had
            | inr had ↦ inr (inr (record { distributor = d; parent = p; is = ap (λ (i : ℕ). Decided d i (RowsJoined p)) (eqb-true w v e); had = had.1 }))
          ]
      by_case true false e f = old (rw (e, f) at h)
      by_case false u e f = old (rw e at h)
  deleting-cases v key J (Decided d w (DeleteOver b n)) x h = by_case (eqb w v) refl
    where
      fst : (d' : ℕ) → Decided d w (DeleteOver b n) ≡ Decided d' v (DeleteOver x.bucket x.node) → x.bucket ≡ b
      fst d' is = cc

      snd : (d' : ℕ) → Decided d w (DeleteOver b n) ≡ Decided d' v (DeleteOver x.bucket x.node) → x.node ≡ n
      snd d' is = cc

      third : (d' : ℕ) → Decided d w (DeleteOver b n) ≡ Decided d' v (DeleteOver x.bucket x.node) → w ≡ v
      third d' is = cc

      by_case : (t : Bool) → eqb w v ≡ t → Kept v key x J (Decided d w (DeleteOver b n)) ⊎ (Came v key x (Decided d w (DeleteOver b n)) ⊎ Inherited v key x J (Decided d w (DeleteOver b n)))
      by_case true e = let h' = rw e at h in let c = ends-cases b n (deleting v key J) x h' in inl (record { had = c.0; not_over = λ d' is. c.1 (fst d' is) (snd d' is) })
      by_case false e = inl (record { had = rw e at h; not_over = λ d' is. let z = eq-eqb w v (third d' is) in cc })
  deleting-cases v key J (Decided d w (RoundBegun b)) x h = inl (record { had = h; not_over = λ d is. cc })
  deleting-cases v key J (Decided d w (RoundEnded b set)) x h = inl (record { had = h; not_over = λ d is. cc })
  deleting-cases v key J (Decided d w (RowSplit b)) x h = inl (record { had = h; not_over = λ d is. cc })
  deleting-cases v key J (Decided d w (ActiveOn b n)) x h = inl (record { had = h; not_over = λ d is. cc })
  deleting-cases v key J _ x h = inl (record { had = h; not_over = λ d is. cc })

  pub deleting-from : (v key : ℕ) (J : Journal) (x : Deleting) → deleting v key J ≡ Some x → (r : ℕ) × DeletedFrom v x.bucket x.node x.serial r J
  deleting-from v key [] x h = cc
  deleting-from v key (e ∷ J) x h = elim (deleting-cases v key J e x h) [
    | inl kept ↦ (let i = deleting-from v key J x kept.had in (i.0, DeletedFrom-stays v x.bucket x.node x.serial i.0 J e i.1))
    | inr (inl came) ↦ (rounds v J, subst (λ (y : Event). DeletedFrom v x.bucket x.node x.serial (rounds v J) (y ∷ J)) (sym came.is) (inl (refl, refl, refl, refl, refl)))
    | inr (inr from) ↦ (let i = deleting-from v (across from.parent key) J x from.had in (i.0, DeletedFrom-stays v x.bucket x.node x.serial i.0 J e i.1))
  ]

  pub delete-sent : (J : Journal) → Legal acks P J → (k : ℕ) (m : Message) → sent k J ≡ Some m → (b : Bucket) (s : ℕ) → m.body ≡ Delete b s → (r : ℕ) × DeletedFrom m.version b m.receiver s r J
  delete-sent [] l k m h b s is = cc
  delete-sent (e ∷ J) l k m h b s is =
      let old : (r : ℕ) × DeletedFrom m.version b m.receiver s r J = elim (sent-cases k J e m h) [
        | inl old ↦ delete-sent J l.0 k m old b s is
        | inr new ↦ (let p : MaySend P J k m.version new.sender m.receiver m.body = rw new.is at l.1 in
            let c : MayCarry P J m.version m.receiver (Delete b s) = subst (λ (y : Body). MayCarry P J m.version m.receiver y) is p.carries in
            deleting-from m.version c.0 J _ c.1)
      ] in (old.0, DeletedFrom-stays m.version b m.receiver s old.0 J e old.1)
