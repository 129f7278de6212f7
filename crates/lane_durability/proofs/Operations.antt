-- What follows: newer, fresh, found.
use Rattle.std.proofs.Common.{◌≡◌, ◌≢◌, ℕ, ◌<◌, ◌≤◌, Bool, true, false, List, [], ◌∷◌, ◌++◌, Option, Some, None, refl, sym, ap, ◌∙◌, subst, arith, inl, inr, ◌⊎◌}
use Rattle.std.proofs.lemmas.Bool.{cases_lt, cases_eq}
use Rattle.std.proofs.lemmas.Bool.Decides.{nat_tests}
use Rattle.lane_journals.specs.Sets.{AtLeast}
use Rattle.lane_journals.specs.Stamps.{Stamp, Le}
use Rattle.lane_journals.specs.Buckets.{Id, Bucket, key_of}
use Rattle.lane_journals.specs.Events.{Content, Body, ReadDoc, Store, Reply, Answer, Event, Begun, Opened, Prepared, Sent, Delivered, Closed}
use Rattle.lane_journals.specs.Readers.{Journal, known, Beginning, began, stamps_of, Preparing, prepared, closed, before_line, opened, Message, sent, is_answer, Accepted, version, store, Given, answered_store, AckedBy, Acked}
use Rattle.lane_journals.specs.Facts.{InRegion, ReadAt, IsOpen, TookStore}
use Rattle.lane_journals.specs.Legal.{IsNextStamp, MayBegin, MayPrepare, Belongs, MayCarry, MaySend, MayDeliver, MayClose, Legal}
use Rattle.lane_journals.specs.Endings.{HasSeen}
use Rattle.lane_durability.specs.Durability.{TookBefore}
use Rattle.lane_journals.proofs.Order.{Le_trans, Le-at}
use Rattle.lane_journals.proofs.Counts.{AtLeast-some, AtLeast-map, one_inside}
use Rattle.lane_journals.proofs.Basics.{sent-stays, sent-cases, SentNow, sent_before, sent-member, sent-early, replied-sent, replied-accepted, first_reply-cases, accepted-cases, accepted-sent, began-cases, began-stays, prepared-stays, closed-before, opened-stays}
use Rattle.lane_journals.proofs.Beginnings.{before-same, before-now, lasting, before-legal}
use Rattle.lane_journals.proofs.Rows.{PreparedNow, open-cases}
use Rattle.lane_journals.proofs.Serials.{Accepts, accepts-at}
use Rattle.lane_journals.proofs.Marks.{now-accepts, active-complete}
use Rattle.lane_journals.proofs.Kept.{TookOp, answered-took-op, store-line, stamp-line, stamp-bound, one-open}
use Rattle.lane_durability.proofs.Bases.{facts, acked-cases, acked-opened, opened-published}
use Rattle.lane_journals.proofs.Versions.{opened-version, sent-published}
use Rattle.lane_journals.proofs.Regions.{region-active}
use Rattle.lane_durability.proofs.Members.{members-hold}
use Rattle.lane_durability.proofs.Found.{published-known, state-few, acked-answered, acked-found}

module _ (acks : ℕ) (P : ℕ → ℕ → Bool) (some : 1 ≤ acks) where
  Acked-stays : (w : ℕ) (id : Id) (s : Stamp) (e : Event) (J : Journal) → Acked w id s J → Acked w id s (e ∷ J)
  Acked-stays w id s e J h = grind arith

  -- ---- no node of an opened version takes what is sent under a smaller one

  -- answers after Opened(w) are of nodes outside P(w)
  pub late-outside : (J : Journal) (e : Event) → Legal acks P (e ∷ J) → (w n : ℕ) → opened w J ≡ true → (a : Accepts J e n) → (a.message).version < w → P w n ≡ true → ⊥
  late-outside J e l w n o a lt p = let v = opened-version acks P some J l.0 w n o p in let low = a.low in omega arith

  none-later : (J : Journal) → Legal acks P J → (k w : ℕ) (b : Beginning) → began k J ≡ Some b → opened w (before_line k J) ≡ true → (j : ℕ) (m : Message) → sent j J ≡ Some m → sent j (before_line k J) ≡ None → m.version < w → P w m.receiver ≡ true → Accepted j J → ⊥
  none-later [] l k w b f o j m s late lt p a = a
  none-later (e ∷ J) l k w b f o j m s late lt p a = elim (began-cases k J e b f) [
    | inl old ↦ elim (accepted-cases j J e a) [
      | inl before ↦ (let same = before-same acks P J e l k b old in
          none-later J l.0 k w b old (subst (λ (y : Journal). opened w y ≡ true) same o) j m (sent_before acks P J j e m (accepted-sent acks P J l.0 j before) s) (subst (λ (y : Journal). sent j y ≡ None) same late) lt p before)
      | inr now ↦ (let same = before-same acks P J e l k b old in
          let d : MayDeliver J j now.0 = rw now.1 at l.1 in
          let s' = sent_before acks P J j e m (d.message, d.was_sent) s in
          let x = now-accepts acks P J e l.1 j m.receiver m now.0 now.1 now.2 s' refl in
          let oj = lasting acks P (λ y. opened w y ≡ true) (λ e y h. opened-stays w y e h) J l.0 k b old (subst (λ (y : Journal). opened w y ≡ true) same o) in
          late-outside J e l w m.receiver oj x.0 (let z : (x.0).message.version ≡ m.version = ap (λ (y : Message). y.version) x.1 in omega arith) p)
    ]
    | inr new ↦ elim (accepted-cases j J e a) [
      | inl before ↦ (let y = accepted-sent acks P J l.0 j before in
          let at_begin : before_line k (e ∷ J) ≡ J = ap (λ (z : Event). before_line k (z ∷ J)) new.1 ∙ before-now J k new.0 b.version b.id b.stamp in
          let none : sent j J ≡ None = subst (λ (z : Journal). sent j z ≡ None) at_begin late in
          let z = y.1 in absurd (let q : None ≡ Some y.0 = sym none ∙ z in cc))
      | inr now ↦ apart new.1 now.1
    ]
  ]
    where
      apart : {d v : ℕ} {id : Id} {t : Option Stamp} {r : Reply} → e ≡ Begun k d v id t → e ≡ Delivered j r → ⊥
      apart p q = cc

  -- ---- newer

  acked-began : (J : Journal) → Legal acks P J → (w : ℕ) (id : Id) (s : Stamp) → Acked w id s J → (line : ℕ) × (b : Beginning) × (began line J ≡ Some b) × (b.version ≡ w) × (b.stamp ≡ Some s)
  acked-began [] l w id s a = absurd a
  acked-began (e ∷ J) l w id s a = elim (acked-cases acks P some w id s J e a) [
    | inl old ↦ (let x = acked-began J l.0 w id s old in (x.0, x.1, began-stays x.0 J x.1 e x.2, x.3, x.4))
    | inr new ↦ (let q : MayClose acks J new.0 true = rw new.1 at l.1 in
        let b : AckedBy w id s (Some q.begin) = subst (λ (y : Option Beginning). AckedBy w id s y) q.begun new.2 in
        (new.0, q.begin, began-stays new.0 J q.begin e q.begun, b.0, b.2))
  ]

  next-stamp : (J : Journal) → Legal acks P J → (k : ℕ) (b : Beginning) → began k J ≡ Some b → IsNextStamp (before_line k J) b.version b.stamp
  next-stamp [] l k b f = cc
  next-stamp (e ∷ J) l k b f = elim (began-cases k J e b f) [
    | inl old ↦ subst (λ (y : Journal). IsNextStamp y b.version b.stamp) (sym (before-same acks P J e l k b old)) (next-stamp J l.0 k b old)
    | inr new ↦ (let q : MayBegin J k new.0 b.version b.id b.stamp = rw new.1 at l.1 in
        subst (λ (y : Journal). IsNextStamp y b.version b.stamp) (sym (ap (λ (z : Event). before_line k (z ∷ J)) new.1 ∙ before-now J k new.0 b.version b.id b.stamp)) q.stamp)
  ]

  -- the line isn't begun as it begins
  not-begun : (J : Journal) → Legal acks P J → (k : ℕ) (b : Beginning) → began k J ≡ Some b → began k (before_line k J) ≡ None
  not-begun [] l k b f = cc
  not-begun (e ∷ J) l k b f = elim (began-cases k J e b f) [
    | inl old ↦ subst (λ (y : Journal). began k y ≡ None) (sym (before-same acks P J e l k b old)) (not-begun J l.0 k b old)
    | inr new ↦ subst (λ (y : Journal). began k y ≡ None) (sym (ap (λ (z : Event). before_line k (z ∷ J)) new.1 ∙ before-now J k new.0 b.version b.id b.stamp)) new.2
  ]

  -- a Store of the line's entry is sent after the line began
  store-later : (J : Journal) → Legal acks P J → (k j : ℕ) (b : Beginning) (t : Stamp) (m : Message) (id : Id) → began k J ≡ Some b → b.stamp ≡ Some t → sent j J ≡ Some m → m.body ≡ Store id t → sent j (before_line k J) ≡ None
  store-later J l k j b t m id f st s is = by_sent (sent j (before_line k J)) refl
    where
      by_sent : (o : Option Message) → sent j (before_line k J) ≡ o → sent j (before_line k J) ≡ None
      by_sent None g = g
      by_sent (Some x) g =
          let s' = lasting acks P (λ y. sent j y ≡ Some x) (λ e y h. sent-stays j y x e h) J l k b f g in
          let same : x ≡ m = (let z : Some x ≡ Some m = sym s' ∙ s in cc) in
          let line = store-line acks P (before_line k J) (before-legal acks P J l k) j x id t g (ap (λ (y : Message). y.body) same ∙ is) in
          let bl = lasting acks P (λ y. began line.line y ≡ Some line.begin) (λ e y h. began-stays line.line y line.begin e h) J l k b f line.begun in
          let one = stamp-line acks P J l line.line k line.begin b t bl f line.stamped st in
          let z : began k (before_line k J) ≡ Some line.begin = subst (λ (i : ℕ). began i (before_line k J) ≡ Some line.begin) one line.begun in
          let y = not-begun J l k b f in absurd (let q : None ≡ Some line.begin = sym y ∙ z in cc)

  -- an operation that answers enough isn't of a smaller version than what was opened before it began
  not-smaller : (J : Journal) → Legal acks P J → (k w : ℕ) (b : Beginning) → began k J ≡ Some b → opened w (before_line k J) ≡ true → b.version < w →
      AtLeast acks (λ n. (j : ℕ) × (m : Message) × (sent j J ≡ Some m) × (sent j (before_line k J) ≡ None) × (m.version ≡ b.version) × (m.receiver ≡ n) × Accepted j J) → ⊥
  not-smaller J l k w b f o lt enough =
      let oj = lasting acks P (λ y. opened w y ≡ true) (λ e y h. opened-stays w y e h) J l k b f o in
      let few = state-few acks P J l w (opened-published acks P some J l w oj) in
      let x = one_inside acks (λ n. known w n J) (P w) _ few enough (λ n h.
      published-known acks P J l w (h.1).version n (sent-published acks P J l h.0 h.1 h.2) (let z = h.4 in omega arith) (subst (λ (i : ℕ). P (h.1).version i ≡ true) h.5 (sent-member acks P J l h.0 h.1 h.2))) in
      let h = x.2 in
      none-later J l k w b f o h.0 h.1 h.2 h.3 (let z = h.4 in omega arith) (subst (λ (i : ℕ). P w i ≡ true) (sym h.5) x.1) h.6

  -- an acknowledged operation begun after another's acknowledgement is newer
  pub newer-later : (J : Journal) → Legal acks P J → (k : ℕ) (b : Beginning) (t : Stamp) (w : ℕ) (s : Stamp) → began k J ≡ Some b → b.stamp ≡ Some t → Acked w b.id s (before_line k J) → Acked b.version b.id t J →
      (s.version < t.version) ⊎ ((s.version ≡ t.version) × (s.count < t.count))
  newer-later J l k b t w s f st a a' =
      let J0 = before_line k J in
      let l0 = before-legal acks P J l k in
      let x = acked-began J0 l0 w b.id s a in
      let bound = stamp-bound acks P J0 l0 x.0 x.1 s x.2 x.4 in
      let next : IsNextStamp J0 b.version (Some t) = subst (λ (y : Option Stamp). IsNextStamp J0 b.version y) st (next-stamp J l k b f) in
      let xv = x.3 in
      elim (cases_lt w b.version) [
        | inl less ↦ inl (let p = bound.0 in let q = next.0 in omega arith)
        | inr more ↦ elim (cases_eq w b.version) [
          | inl same ↦ inr ((let p = bound.0 in let q = next.0 in omega arith), (let e : (x.1).version ≡ b.version = x.3 ∙ same in let p : s.count ≤ stamps_of b.version J0 = subst (λ (i : ℕ). s.count ≤ stamps_of i J0) e bound.1 in let q = next.1 in omega arith))
          | inr ne ↦ absurd (not-smaller J l k w b f (acked-opened acks P some J0 l0 w b.id s a) (less_of w b.version more ne)
              (AtLeast-map (λ n h. let y = answered-took-op J b.version b.id t n h in (y.number, y.message, y.was_sent, store-later J l k y.number b t y.message b.id f st y.was_sent y.body, y.version, y.receiver, y.accepted)) (acked-answered acks P some J l b.version b.id t a')))
        ]
      ]
    where
      less_of : (w v : ℕ) → v ≤ w → w ≢ v → v < w
      less_of w v h ne = grind arith

  -- ---- fresh

  -- a Read that was sent after its line began belongs to it while it is open
  read-line : (J : Journal) → Legal acks P J → (k j : ℕ) (b : Beginning) (m : Message) → began k J ≡ Some b → closed k J ≡ false → sent j J ≡ Some m → sent j (before_line k J) ≡ None → m.body ≡ ReadDoc b.id → (p : Preparing) × (prepared k J ≡ Some p) × (p.recipients m.receiver ≡ true)
  read-line [] l k j b m f c s late is = cc
  read-line (e ∷ J) l k j b m f c s late is = elim (sent-cases j J e m s) [
    | inl old ↦ elim (began-cases k J e b f) [
      | inl old_b ↦ (let x = read-line J l.0 k j b m old_b (closed-before k J e c) old (subst (λ (y : Journal). sent j y ≡ None) (before-same acks P J e l k b old_b) late) is in (x.0, prepared-stays k J x.0 e x.1, x.2))
      | inr new ↦ (let at_begin : before_line k (e ∷ J) ≡ J = ap (λ (z : Event). before_line k (z ∷ J)) new.1 ∙ before-now J k new.0 b.version b.id b.stamp in
          let none : sent j J ≡ None = subst (λ (z : Journal). sent j z ≡ None) at_begin late in absurd (let q : None ≡ Some m = sym none ∙ old in cc))
    ]
    | inr new ↦ (let p : MaySend P J j m.version new.sender m.receiver m.body = rw new.is at l.1 in
        let bel : Belongs J m.version m.receiver b.id = subst (λ (y : Body). MayCarry P J m.version m.receiver y) is p.carries in
        let fj = began-of new in
        let same = one-open acks P some J l.0 bel.line k bel.begin b (bel.is_open).began fj bel.same_id (bel.is_open).unclosed (closed-before k J e c) in
        (bel.preparing, prepared-stays k J bel.preparing e (subst (λ (i : ℕ). prepared i J ≡ Some bel.preparing) same (bel.is_open).prepared), bel.recipient))
  ]
    where
      began-of : SentNow j J e m → began k J ≡ Some b
      began-of new = elim (began-cases k J e b f) [ inl old ↦ old | inr now ↦ apart new.is now.1 ]
        where
          apart : {x v d n y : ℕ} {i : Id} {c : Body} {t : Option Stamp} {A : Type 0} → e ≡ Sent j v d n c → e ≡ Begun k y x i t → A
          apart p q = cc

  -- a Read of an open operation shows no less than what was acknowledged, under no greater version, before it began
  pub fresh : (J : Journal) → Legal acks P J → (v k : ℕ) (b : Beginning) (p : Preparing) → IsOpen v k b p J → (n : ℕ) (content : Content) → ReadAt n k b content J → (w : ℕ) (s : Stamp) → Acked w b.id s (before_line k J) → w ≤ v → Le (Some s) (content b.id)
  fresh [] l v k b p o n content r w s a le = absurd a
  fresh (e ∷ J) l v k b p o n content r w s a le = elim (open-cases acks P J e l v k b p o) [
    | inl old ↦ elim (first_reply-cases r.number J e (Answer content r.names) r.reply) [
      | inl before ↦ (let same = before-same acks P J e l k b old.began in
          let s' = sent_before acks P J r.number e r.message (replied-sent acks P J l.0 r.number (Answer content r.names) before) r.was_sent in
          fresh J l.0 v k b p old n content (record { number = r.number; message = r.message; names = r.names; was_sent = s'; later = subst (λ (y : Journal). sent r.number y ≡ None) same r.later; receiver = r.receiver; version = r.version; body = r.body; reply = before }) w s (subst (λ (y : Journal). Acked w b.id s y) same a) le)
      | inr now ↦ (let same = before-same acks P J e l k b old.began in
          let d : MayDeliver J r.number (Answer content r.names) = rw now.0 at l.1 in
          let s' = sent_before acks P J r.number e r.message (d.message, d.was_sent) r.was_sent in
          let at = accepts-at J r.number (record { content = content; names = r.names }) r.message n d s' r.receiver in
          let body : (at.0).message.body ≡ ReadDoc b.id = ap (λ (y : Message). y.body) at.1 ∙ r.body in
          let vs : (at.0).message.version ≡ v = ap (λ (y : Message). y.version) at.1 ∙ r.version ∙ o.version in
          let shows : content b.id ≡ store n b.id J = sym (ap (λ (y : Given). y.content b.id) at.2) ∙ (at.0).show_one b.id body in
          let late : sent r.number (before_line k J) ≡ None = subst (λ (y : Journal). sent r.number y ≡ None) same r.later in
          let x = read-line J l.0 k r.number b r.message old.began old.unclosed s' late r.body in
          let same_p : x.0 ≡ p = (let y = x.1 in let z = old.prepared in cc) in
          let rec : p.recipients n ≡ true = sym (ap (λ (y : Preparing). y.recipients n) same_p) ∙ subst (λ (i : ℕ). (x.0).recipients i ≡ true) r.receiver x.2 in
          let covers = (facts acks P some J l.0).marked v n b.id (inr (record { line = k; begin = b; preparing = p; is_open = old; same_id = refl; recipient = rec })) (let y = (at.0).low in omega arith) in
          let acked : Acked w b.id s J = lasting acks P (λ y. Acked w b.id s y) (λ e y h. Acked-stays w b.id s e y h) J l.0 k b old.began (subst (λ (y : Journal). Acked w b.id s y) same a) in
          Le-at _ _ _ shows (elim (cases_eq w v) [
            | inl is ↦ covers.acked s (subst (λ (i : ℕ). Acked i b.id s J) is acked)
            | inr ne ↦ (let opened-v : opened v J ≡ true = subst (λ (i : ℕ). opened i J ≡ true) (r.version ∙ o.version) (elim (sent-early acks P J l.0 r.number r.message s') [ inl ask ↦ (let q = r.body in cc) | inr after ↦ after ]) in
                let y = acked-found acks P some J l.0 v w b.id s (less_of w v le ne) (opened-published acks P some J l.0 v opened-v) acked in Le_trans _ _ _ y.2 (covers.bases y.0 y.1))
          ]))
    ]
    | inr new ↦ absurd (too_early new)
  ]
    where
      less_of : (w v : ℕ) → w ≤ v → w ≢ v → w < v
      less_of w v h ne = grind arith

      too_early : PreparedNow acks P v k b p J e → ⊥
      too_early new =
          let same = before-same acks P J e l k b new.begun in
          let s' : sent r.number J ≡ Some r.message = plain new.is r.was_sent in
          let q : MayPrepare acks J k p.row p.recipients = rw new.is at l.1 in
          let x = read-line J l.0 k r.number b r.message new.begun q.unclosed s' (subst (λ (y : Journal). sent r.number y ≡ None) same r.later) r.body in
          let z = q.fresh in let y = x.1 in absurd (let w : None ≡ Some x.0 = sym z ∙ y in cc)
        where
          plain : e ≡ Prepared k p.row p.recipients → sent r.number (e ∷ J) ≡ Some r.message → sent r.number J ≡ Some r.message
          plain is h = rw is at h

  -- an operation that read at enough nodes isn't of a smaller version than what was acknowledged before it began
  pub read-version : (J : Journal) → Legal acks P J → (k : ℕ) (b : Beginning) → began k J ≡ Some b → AtLeast acks (λ n. (content : Content) × ReadAt n k b content J) → (w : ℕ) (s : Stamp) → Acked w b.id s (before_line k J) → w ≤ b.version
  read-version J l k b f enough w s a = elim (cases_lt b.version w) [
    | inl less ↦ absurd (not-smaller J l k w b f (acked-opened acks P some (before_line k J) (before-legal acks P J l k) w b.id s a) less
        (AtLeast-map (λ n h. let r = h.1 in (r.number, r.message, r.was_sent, r.later, r.version, r.receiver, replied-accepted acks P J r.number (Answer h.0 r.names) r.reply refl)) enough))
    | inr more ↦ more
  ]

  -- what an operation saw is no older than what was acknowledged before it began
  pub seen-current : (J : Journal) → Legal acks P J → (k : ℕ) (b : Beginning) (p : Preparing) (seen : Option Stamp) → IsOpen b.version k b p J → HasSeen acks J k b seen → (w : ℕ) (s : Stamp) → Acked w b.id s (before_line k J) → Le (Some s) seen
  seen-current J l k b p seen o h w s a =
      let one = AtLeast-some acks _ some h.enough in
      let low = read-version J l k b o.began (AtLeast-map (λ n r. (r.1.0, (r.1.1).read)) h.enough) w s a in
      Le_trans _ _ _ (fresh J l b.version k b p o one.0 one.1.1.0 (one.1.1.1).read w s a low) (h.newest one.0 one.1.1.0 one.1.1.1)

  -- ---- search

  pub counted-once : (J : Journal) → Legal acks P J → (v n m key : ℕ) → InRegion v n key J → InRegion v m key J → n ≡ m
  counted-once J l v n m key a b = let x = region-active acks P some J l v n key a in let y = region-active acks P some J l v m key b in some-same (sym x ∙ y)
    where
      some-same : {x y : ℕ} → ◌≡◌ {A = Option ℕ} (Some x) (Some y) → x ≡ y
      some-same h = cc

  -- what is found in a region of v at a node at v is no older than what was acknowledged at v or below
  pub found-newest : (J : Journal) → Legal acks P J → (v n : ℕ) (id : Id) → InRegion v n (key_of id) J → version n J ≡ v → (w : ℕ) (s : Stamp) → Acked w id s J → w ≤ v → Le (Some s) (store n id J)
  found-newest J l v n id r at w s a le =
      let c = active-complete acks P J l v (key_of id) n (region-active acks P some J l v n (key_of id) r) in
      let h = members-hold acks P some J l v n id c at in
      elim (cases_eq w v) [
        | inl is ↦ h.1 s (subst (λ (i : ℕ). Acked i id s J) is a)
        | inr ne ↦ (let opened-v : opened v J ≡ true = subst (λ (i : ℕ). opened i J ≡ true) r.version (elim (sent-early acks P J l r.number r.message r.was_sent) [ inl ask ↦ (let q = r.body in cc) | inr after ↦ after ]) in
            let y = acked-found acks P some J l v w id s (less_of w v le ne) (opened-published acks P some J l v opened-v) a in Le_trans _ _ _ y.2 (h.0 y.0 y.1))
      ]
    where
      less_of : (w v : ℕ) → w ≤ v → w ≢ v → w < v
      less_of w v h ne = grind arith

  pub late-message : (J : Journal) → Legal acks P J → (e : Event) → Legal acks P (e ∷ J) → (v k : ℕ) (m : Message) (r : Reply) → opened v J ≡ true → e ≡ Delivered k r → is_answer r ≡ true → sent k J ≡ Some m → m.version < v → P v m.receiver ≡ true → ⊥
  late-message J l' e l v k m r o is ans s lt p = let x = now-accepts acks P J e l.1 k m.receiver m r is ans s refl in late-outside J e l v m.receiver o x.0 (let z : (x.0).message.version ≡ m.version = ap (λ (y : Message). y.version) x.1 in omega arith) p

  -- ---- at each close, and once a version is opened

  legal-front : (later J : Journal) → Legal acks P (later ++ J) → Legal acks P J
  legal-front [] J l = l
  legal-front (e ∷ later) J l = legal-front later J l.0

  -- a line that is closed was open until then
  pub saw-nothing-older : (J : Journal) → Legal acks P J → (later run : Journal) (k : ℕ) (ok : Bool) (b : Beginning) (seen : Option Stamp) → J ≡ later ++ Closed k ok ∷ run → began k run ≡ Some b → HasSeen acks run k b seen → (w : ℕ) (s : Stamp) → Acked w b.id s (before_line k run) → Le (Some s) seen
  saw-nothing-older J l later run k ok b seen is f h w s a =
      let closing : Legal acks P (Closed k ok ∷ run) = legal-front later (Closed k ok ∷ run) (subst (Legal acks P) is l) in
      let may : MayClose acks run k ok = closing.1 in
      seen-current run closing.0 k b h.preparing seen (record { began = f; version = refl; prepared = h.was_prepared; unclosed = may.unclosed }) h w s a

  opened-since : (later K : Journal) (d v : ℕ) (rows : List Bucket) → opened v (later ++ Opened d v rows ∷ K) ≡ true
  opened-since [] K d v rows = grind (arith, nat_tests)
  opened-since (e ∷ later) K d v rows = opened-stays v (later ++ Opened d v rows ∷ K) e (opened-since later K d v rows)

  -- what a node of an opened version took of a smaller one, it took before
  took-before : (later K : Journal) (d v : ℕ) (rows : List Bucket) → Legal acks P (later ++ Opened d v rows ∷ K) → (j : ℕ) (m : Message) → sent j (later ++ Opened d v rows ∷ K) ≡ Some m → Accepted j (later ++ Opened d v rows ∷ K) → m.version < v → P v m.receiver ≡ true → (sent j K ≡ Some m) × Accepted j K
  took-before [] K d v rows l j m s a lt p = elim (accepted-cases j K (Opened d v rows) a) [
    | inl before ↦ (sent_before acks P K j (Opened d v rows) m (accepted-sent acks P K l.0 j before) s, before)
    | inr now ↦ other now.1
  ]
    where
      other : {r : Reply} {A : Type 0} → Opened d v rows ≡ Delivered j r → A
      other h = cc h
  took-before (e ∷ later) K d v rows l j m s a lt p =
      let J : Journal = later ++ Opened d v rows ∷ K in
      elim (accepted-cases j J e a) [
        | inl before ↦ took-before later K d v rows l.0 j m (sent_before acks P J j e m (accepted-sent acks P J l.0 j before) s) before lt p
        | inr now ↦ (let q : MayDeliver J j now.0 = rw now.1 at l.1 in
            let s' = sent_before acks P J j e m (q.message, q.was_sent) s in
            absurd (late-message J l.0 e l v j m now.0 (opened-since later K d v rows) now.1 now.2 s' lt p))
      ]

  -- once a version is opened, no operation of a smaller one is acknowledged unless enough nodes took its entry before
  pub answered-before : (J : Journal) → Legal acks P J → (later K : Journal) (d v : ℕ) (rows : List Bucket) → J ≡ later ++ Opened d v rows ∷ K → (w : ℕ) (id : Id) (s : Stamp) → w < v → Acked w id s J → TookBefore acks P v w id s K J
  answered-before J l later K d v rows is w id s lt a = record {
    enough = acked-answered acks P some J l w id s a;
    before = λ n h p. took n h p (answered-took-op J w id s n h);
    few = state-few acks P J l v (opened-published acks P some J l v (subst (λ (y : Journal). opened v y ≡ true) (sym is) (opened-since later K d v rows)));
  }
    where
      took : (n : ℕ) → answered_store w id s n J ≡ true → P v n ≡ true → TookOp w n id s J → TookStore id s n K
      took n h p t =
          let x = took-before later K d v rows (subst (Legal acks P) is l) t.number t.message (subst (λ (y : Journal). sent t.number y ≡ Some t.message) is t.was_sent) (subst (λ (y : Journal). Accepted t.number y) is t.accepted) (let z = t.version in omega arith) (subst (λ (i : ℕ). P v i ≡ true) (sym t.receiver) p) in
          record { number = t.number; message = t.message; was_sent = x.0; receiver = t.receiver; body = t.body; accepted = x.1 }
