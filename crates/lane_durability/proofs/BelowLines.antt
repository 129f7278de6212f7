-- Lines and messages below a version.
use Rattle.std.proofs.Common.{◌≡◌, ℕ, ◌<◌, ◌≤◌, Bool, true, false, cond, [], ◌∷◌, Option, Some, None, refl, sym, ap, ◌∙◌, subst, arith, inl, inr, ◌⊎◌, eqb, ltb, eq-eqb}
use Rattle.std.proofs.lemmas.Bool.{eqb-true}
use Rattle.std.proofs.lemmas.Bool.Decides.{nat_tests}
use Rattle.lane_journals.specs.Events.{Body, Reply, Answer, Newer, NoBucket, Differs, NoMemory, Event, Begun, Prepared, Wrote, Sent, Delivered, Closed}
use Rattle.lane_journals.specs.Readers.{Journal, or_else, only_if, Beginning, began, Preparing, prepared, wrote, closed, Message, round_in, sent, first_reply, version}
use Rattle.lane_journals.specs.Legal.{MayBegin, MaySend, Replies, MayDeliver, Permits, Legal}
use Rattle.lane_journals.specs.Below.{tells, keeps_line, kept, below}
use Rattle.lane_journals.proofs.Basics.{number-fresh, began-stays, began-cases, sent-stays, sent-cases, SentNow}
use Rattle.lane_durability.proofs.Below.{lt-true, true-lt, round_in-below}
use Rattle.lane_journals.proofs.Versions.{told-version}
use Rattle.proof_basics.proofs.Options.{some-none}

module _ (acks : ℕ) (P : ℕ → ℕ → Bool) (v : ℕ) where
  -- a reader that goes by kept events alone
  pub same_kept : {A : Type 0} (R : Journal → A) (H : Journal → Type 0) → ((e : Event) (J : Journal) → H (e ∷ J) → H J) → ((e : Event) (J K : Journal) → R J ≡ R K → R (e ∷ J) ≡ R (e ∷ K)) →
      ((e : Event) (J : Journal) → Permits acks P J e → H J → kept v J e ≡ false → R (e ∷ J) ≡ R J) → (J : Journal) → Legal acks P J → H J → R (below v J) ≡ R J
  same_kept R H back congr skip [] l h = refl
  same_kept R H back congr skip (e ∷ J) l h = by_case (kept v J e) refl (same_kept R H back congr skip J l.0 (back e J h))
    where
      by_case : (t : Bool) → kept v J e ≡ t → R (below v J) ≡ R J → R (cond t (e ∷ below v J) (below v J)) ≡ R (e ∷ J)
      by_case true k ih = congr e (below v J) J ih
      by_case false k ih = ih ∙ sym (skip e J l.1 (back e J h) k)

  -- ---- lines

  -- if the line is begun, then at a version below v
  abbrev pub Low : ℕ → Journal → Type 0
  Low k J = (b : Beginning) → began k J ≡ Some b → b.version < v

  Low-back : (k : ℕ) (e : Event) (J : Journal) → Low k (e ∷ J) → Low k J
  Low-back k e J h b f = h b (began-stays k J b e f)

  pub low-line : (k : ℕ) (J : Journal) (b : Beginning) → began k J ≡ Some b → b.version < v → Low k J
  low-line k J b f lt c g = let same : b ≡ c = cc in subst (λ (x : Beginning). x.version < v) same lt

  dropped-line : (k : ℕ) (J : Journal) (b : Beginning) → began k J ≡ Some b → Low k J → keeps_line v (began k J) ≡ false → ⊥
  dropped-line k J b f h d = let z : ltb b.version v ≡ false = rw f at d in let y = lt-true b.version v (h b f) in cc

  pub prepared-below : (k : ℕ) (J : Journal) → Legal acks P J → Low k J → prepared k (below v J) ≡ prepared k J
  prepared-below k = same_kept (λ J. prepared k J) (λ J. Low k J) (Low-back k) congr skip
    where
      congr : (e : Event) (J K : Journal) → prepared k J ≡ prepared k K → prepared k (e ∷ J) ≡ prepared k (e ∷ K)
      congr e J K h = grind arith

      skip : (e : Event) (J : Journal) → Permits acks P J e → Low k J → kept v J e ≡ false → prepared k (e ∷ J) ≡ prepared k J
      skip (Prepared l b set) J p h d = by_case (eqb l k) refl
        where
          left : (o : Option Preparing) → or_else o None ≡ o
          left None = refl
          left (Some x) = refl

          by_case : (t : Bool) → eqb l k ≡ t → or_else (prepared k J) (only_if t (record { row = b; recipients = set })) ≡ prepared k J
          by_case true e = let same = eqb-true l k e in absurd (dropped-line k J p.begin (subst (λ (x : ℕ). began x J ≡ Some p.begin) same p.begun) h (subst (λ (x : ℕ). keeps_line v (began x J) ≡ false) same d))
          by_case false e = left _
      skip _ J p h d = refl

  pub wrote-below : (k : ℕ) (J : Journal) → Legal acks P J → Low k J → wrote k (below v J) ≡ wrote k J
  wrote-below k = same_kept (λ J. wrote k J) (λ J. Low k J) (Low-back k) congr skip
    where
      congr : (e : Event) (J K : Journal) → wrote k J ≡ wrote k K → wrote k (e ∷ J) ≡ wrote k (e ∷ K)
      congr e J K h = grind arith

      skip : (e : Event) (J : Journal) → Permits acks P J e → Low k J → kept v J e ≡ false → wrote k (e ∷ J) ≡ wrote k J
      skip (Wrote l kind) J p h d = by_case (eqb l k) refl
        where
          by_case : (t : Bool) → eqb l k ≡ t → cond t true (wrote k J) ≡ wrote k J
          by_case true e = let same = eqb-true l k e in absurd (dropped-line k J p.begin (subst (λ (x : ℕ). began x J ≡ Some p.begin) same p.begun) h (subst (λ (x : ℕ). keeps_line v (began x J) ≡ false) same d))
          by_case false e = refl
      skip _ J p h d = refl

  pub closed-below : (k : ℕ) (J : Journal) → Legal acks P J → Low k J → closed k (below v J) ≡ closed k J
  closed-below k = same_kept (λ J. closed k J) (λ J. Low k J) (Low-back k) congr skip
    where
      congr : (e : Event) (J K : Journal) → closed k J ≡ closed k K → closed k (e ∷ J) ≡ closed k (e ∷ K)
      congr e J K h = grind arith

      skip : (e : Event) (J : Journal) → Permits acks P J e → Low k J → kept v J e ≡ false → closed k (e ∷ J) ≡ closed k J
      skip (Closed l ok) J p h d = by_case (eqb l k) refl
        where
          by_case : (t : Bool) → eqb l k ≡ t → cond t true (closed k J) ≡ closed k J
          by_case true e = let same = eqb-true l k e in absurd (dropped-line k J p.begin (subst (λ (x : ℕ). began x J ≡ Some p.begin) same p.begun) h (subst (λ (x : ℕ). keeps_line v (began x J) ≡ false) same d))
          by_case false e = refl
      skip _ J p h d = refl

  began-now : (k : ℕ) (J : Journal) (d : ℕ) (b : Beginning) → d ≡ b.distributor → began k J ≡ None → began k (Begun k d b.version b.id b.stamp ∷ J) ≡ Some b
  began-now k J d b is h = subst (λ (x : ℕ). began k (Begun k x b.version b.id b.stamp ∷ J) ≡ Some b) (sym is) (rw (h, eq-eqb k k refl) refl)

  pub began-back : (J : Journal) → Legal acks P J → (k : ℕ) (b : Beginning) → began k (below v J) ≡ Some b → (began k J ≡ Some b) × (b.version < v)
  began-back [] l k b h = cc
  began-back (e ∷ J) l k b h = by_case (kept v J e) refl h (began-back J l.0 k b)
    where
      now : (e : Event) (d : ℕ) → d ≡ b.distributor → e ≡ Begun k d b.version b.id b.stamp → kept v J e ≡ true → Permits acks P J e → (began k (e ∷ J) ≡ Some b) × (b.version < v)
      now e d ds is t p =
          let q : MayBegin J k d b.version b.id b.stamp = rw is at p in
          (rw is (began-now k J d b ds q.fresh), true-lt b.version v (let z : kept v J (Begun k d b.version b.id b.stamp) ≡ true = rw is at t in z))

      by_case : (t : Bool) → kept v J e ≡ t → began k (cond t (e ∷ below v J) (below v J)) ≡ Some b → (began k (below v J) ≡ Some b → (began k J ≡ Some b) × (b.version < v)) → (began k (e ∷ J) ≡ Some b) × (b.version < v)
      by_case true t h ih = elim (began-cases k (below v J) e b h) [ inl old ↦ (let a = ih old in (began-stays k J b e a.0, a.1)) | inr q ↦ now e q.0 q.3 q.1 t l.1 ]
      by_case false t h ih = let a = ih h in (began-stays k J b e a.0, a.1)

  pub began-below : (J : Journal) → Legal acks P J → (k : ℕ) (b : Beginning) → began k J ≡ Some b → b.version < v → began k (below v J) ≡ Some b
  began-below [] l k b h lt = cc
  began-below (e ∷ J) l k b h lt = elim (began-cases k J e b h) [
    | inl old ↦ keep (kept v J e) (began-below J l.0 k b old lt)
    | inr new ↦ now e new.0 new.3 new.1 l.1
  ]
    where
      keep : (t : Bool) → began k (below v J) ≡ Some b → began k (cond t (e ∷ below v J) (below v J)) ≡ Some b
      keep true h = began-stays k (below v J) b e h
      keep false h = h

      now : (e : Event) (d : ℕ) → d ≡ b.distributor → e ≡ Begun k d b.version b.id b.stamp → Permits acks P J e → began k (cond (kept v J e) (e ∷ below v J) (below v J)) ≡ Some b
      now e d ds is p =
          let q : MayBegin J k d b.version b.id b.stamp = rw is at p in
          let none : began k (below v J) ≡ None = some-none _ (λ x h. let a = (began-back J l.0 k x h).0 in let b = q.fresh in cc) in
          rw (is, lt-true b.version v lt) (began-now k (below v J) d b ds none)

  -- ---- messages

  sent-now : (k : ℕ) (J : Journal) (w d n : ℕ) (b : Body) → sent k J ≡ None → sent k (Sent k w d n b ∷ J) ≡ Some (record { version = w; receiver = n; body = b; round = round_in w b J })
  sent-now k J w d n b h = rw (h, eq-eqb k k refl) refl

  pub sent-back : (J : Journal) → Legal acks P J → (k : ℕ) (m : Message) → sent k (below v J) ≡ Some m → (sent k J ≡ Some m) × (m.version < v)
  sent-back [] l k m h = cc
  sent-back (e ∷ J) l k m h = by_case (kept v J e) refl h (sent-back J l.0 k m)
    where
      now : (e : Event) → SentNow k (below v J) e m → kept v J e ≡ true → Permits acks P J e → (sent k (e ∷ J) ≡ Some m) × (m.version < v)
      now e q t p =
          let s : MaySend P J k m.version q.sender m.receiver m.body = rw q.is at p in
          let lt : m.version < v = true-lt m.version v (let z : kept v J (Sent k m.version q.sender m.receiver m.body) ≡ true = rw q.is at t in z) in
          (rw q.is (sent-now k J m.version q.sender m.receiver m.body (number-fresh P J k m.version q.sender m.receiver m.body s) ∙ same lt q.round), lt)
        where
          same : m.version < v → m.round ≡ round_in m.version m.body (below v J) → ◌≡◌ {A = Option Message} (Some (record { version = m.version; receiver = m.receiver; body = m.body; round = round_in m.version m.body J })) (Some m)
          same lt r = let z : m.round ≡ round_in m.version m.body J = r ∙ round_in-below v m.version lt m.body J in λ i. Some (record { version = m.version; receiver = m.receiver; body = m.body; round = sym z i })

      by_case : (t : Bool) → kept v J e ≡ t → sent k (cond t (e ∷ below v J) (below v J)) ≡ Some m → (sent k (below v J) ≡ Some m → (sent k J ≡ Some m) × (m.version < v)) → (sent k (e ∷ J) ≡ Some m) × (m.version < v)
      by_case true t h ih = elim (sent-cases k (below v J) e m h) [ inl old ↦ (let a = ih old in (sent-stays k J m e a.0, a.1)) | inr q ↦ now e q t l.1 ]
      by_case false t h ih = let a = ih h in (sent-stays k J m e a.0, a.1)

  pub sent-below : (J : Journal) → Legal acks P J → (k : ℕ) (m : Message) → sent k J ≡ Some m → m.version < v → sent k (below v J) ≡ Some m
  sent-below [] l k m h lt = cc
  sent-below (e ∷ J) l k m h lt = elim (sent-cases k J e m h) [
    | inl old ↦ keep (kept v J e) (sent-below J l.0 k m old lt)
    | inr q ↦ now e q l.1
  ]
    where
      keep : (t : Bool) → sent k (below v J) ≡ Some m → sent k (cond t (e ∷ below v J) (below v J)) ≡ Some m
      keep true h = sent-stays k (below v J) m e h
      keep false h = h

      now : (e : Event) → SentNow k J e m → Permits acks P J e → sent k (cond (kept v J e) (e ∷ below v J) (below v J)) ≡ Some m
      now e q p =
          let s : MaySend P J k m.version q.sender m.receiver m.body = rw q.is at p in
          let none : sent k (below v J) ≡ None = some-none _ (λ x h. let a = (sent-back J l.0 k x h).0 in let b = number-fresh P J k m.version q.sender m.receiver m.body s in cc) in
          rw (q.is, lt-true m.version v lt) (sent-now k (below v J) m.version q.sender m.receiver m.body none ∙ same (round_in-below v m.version lt m.body J) q.round)
        where
          same : round_in m.version m.body (below v J) ≡ round_in m.version m.body J → m.round ≡ round_in m.version m.body J → ◌≡◌ {A = Option Message} (Some (record { version = m.version; receiver = m.receiver; body = m.body; round = round_in m.version m.body (below v J) })) (Some m)
          same a b = let z = a ∙ sym b in λ i. Some (record { version = m.version; receiver = m.receiver; body = m.body; round = z i })

  -- ---- replies

  -- a reply that is kept
  abbrev pub told : Option Reply → Option Reply
  told None = None
  told (Some r) = cond (tells v r) (Some r) None

  -- a reply that tells nothing is one of a node at v
  pub untold : (r : Reply) → tells v r ≡ false → (w : ℕ) × (r ≡ Newer w) × (v ≤ w)
  untold (Newer w) h = (w, refl, grind (arith, nat_tests))
  untold (Answer x n) h = cc
  untold NoBucket h = cc
  untold Differs h = cc
  untold NoMemory h = cc

  -- who is at v tells nothing to a message below it
  pub high-untold : (J : Journal) (m : Message) (r : Reply) → Replies J m r → m.version < v → v ≤ version m.receiver J → tells v r ≡ false
  high-untold J m (Newer w) p lt high = let z = p.1 in grind (arith, nat_tests)
  high-untold J m (Answer x n) p lt high = let z = p.low in absurd (omega arith)
  high-untold J m NoBucket p lt high = let z = p.0 in absurd (omega arith)
  high-untold J m Differs p lt high = let z = p.0 in absurd (omega arith)
  high-untold J m NoMemory p lt high = absurd (omega arith)

  first_reply-other : (k : ℕ) (e : Event) (J K : Journal) → ((r : Reply) → e ≡ Delivered k r → ⊥) → first_reply k (e ∷ J) ≡ first_reply k J
  first_reply-other k (Delivered n r) J K h = by_case (eqb n k) refl (first_reply k J)
    where
      by_case : (t : Bool) → eqb n k ≡ t → (o : Option Reply) → or_else o (only_if t r) ≡ o
      by_case true e o = absurd (h r (ap (λ (x : ℕ). Delivered x r) (eqb-true n k e)))
      by_case false e None = refl
      by_case false e (Some x) = refl
  first_reply-other k _ J K h = refl

  delivers : (k : ℕ) (e : Event) → ((r : Reply) × (e ≡ Delivered k r)) ⊎ ((r : Reply) → e ≡ Delivered k r → ⊥)
  delivers k (Delivered n r) = by_case (eqb n k) refl
    where
      fst : (q : Reply) → Delivered n r ≡ Delivered k q → n ≡ k
      fst q is = cc

      by_case : (t : Bool) → eqb n k ≡ t → ((q : Reply) × (Delivered n r ≡ Delivered k q)) ⊎ ((q : Reply) → Delivered n r ≡ Delivered k q → ⊥)
      by_case true e = inl (r, ap (λ (x : ℕ). Delivered x r) (eqb-true n k e))
      by_case false e = inr (λ q is. let z = eq-eqb n k (fst q is) in cc)
  delivers k _ = inr (λ r is. cc)

  after-old : (J : Journal) → Legal acks P J → (k : ℕ) (r : Reply) → MayDeliver J k r → ((m : Message) → sent k J ≡ Some m → m.version < v) → first_reply k (below v J) ≡ told (first_reply k J) → (o : Option Reply) → first_reply k J ≡ o → (t : Bool) → tells v r ≡ t →
      first_reply k (cond t (Delivered k r ∷ below v J) (below v J)) ≡ told (first_reply k (Delivered k r ∷ J))
  after-old J l k r d low ih None f true h = rw (ih, f, eq-eqb k k refl, h) refl
  after-old J l k r d low ih None f false h = rw (ih, f, eq-eqb k k refl, h) refl
  after-old J l k r d low ih (Some q) f false h = rw (ih, f) refl
  after-old J l k r d low ih (Some q) f true h = rw (ih, f) (by_tells (tells v q) refl)
    where
      by_tells : (u : Bool) → tells v q ≡ u → or_else (cond u (Some q) None) (only_if (eqb k k) r) ≡ cond u (Some q) None
      by_tells true g = refl
      by_tells false g =
          let x = untold q g in
          let w = told-version acks P v J l k x.0 d.message d.was_sent (f ∙ ap (λ (y : Reply). Some y) x.1) in
          let z = high-untold J d.message r d.reply (low d.message d.was_sent) (let y = x.2 in omega arith) in cc

  pub reply-below : (J : Journal) → Legal acks P J → (k : ℕ) → ((m : Message) → sent k J ≡ Some m → m.version < v) → first_reply k (below v J) ≡ told (first_reply k J)
  reply-below [] l k low = refl
  reply-below (e ∷ J) l k low =
      let low' : (m : Message) → sent k J ≡ Some m → m.version < v = λ m h. low m (sent-stays k J m e h) in
      let ih = reply-below J l.0 k low' in
      elim (delivers k e) [
        | inr none ↦ plain (kept v J e) none ih
        | inl some ↦ now some.0 e some.1 l.1 low' ih
      ]
    where
      plain : (t : Bool) → ((r : Reply) → e ≡ Delivered k r → ⊥) → first_reply k (below v J) ≡ told (first_reply k J) → first_reply k (cond t (e ∷ below v J) (below v J)) ≡ told (first_reply k (e ∷ J))
      plain true none ih = first_reply-other k e (below v J) J none ∙ ih ∙ sym (ap told (first_reply-other k e J J none))
      plain false none ih = ih ∙ sym (ap told (first_reply-other k e J J none))

      now : (r : Reply) (e : Event) → e ≡ Delivered k r → Permits acks P J e → ((m : Message) → sent k J ≡ Some m → m.version < v) → first_reply k (below v J) ≡ told (first_reply k J) → first_reply k (cond (kept v J e) (e ∷ below v J) (below v J)) ≡ told (first_reply k (e ∷ J))
      now r e is p low' ih = rw is (let d : MayDeliver J k r = rw is at p in
          let kp : kept v J (Delivered k r) ≡ tells v r = rw d.was_sent (keeps-is (tells v r) (lt-true (d.message).version v (low' d.message d.was_sent))) in
          subst (λ (t : Bool). first_reply k (cond t (Delivered k r ∷ below v J) (below v J)) ≡ told (first_reply k (Delivered k r ∷ J))) (sym kp)
          (after-old J l.0 k r d low' ih (first_reply k J) refl (tells v r) refl))
        where
          keeps-is : (t : Bool) {u : Bool} → u ≡ true → cond t u false ≡ t
          keeps-is true e = e
          keeps-is false e = refl
