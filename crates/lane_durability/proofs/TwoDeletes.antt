-- What a DeleteFrom rests on, and the unanswered Delete.
use Rattle.std.proofs.Common.{◌≡◌, ℕ, Bool, true, false, cond, [], ◌∷◌, Some, None, refl, sym, ap, subst, subst₂, inl, inr, eqb, eq-eqb}
use Rattle.std.proofs.lemmas.Bool.{eqb-true}
use Rattle.lane_journals.specs.Buckets.{Bucket, contains, same_bucket, across, Id, key_of}
use Rattle.lane_journals.specs.Events.{Delete, Reply, Answer, Newer, NoBucket, Differs, NoMemory, RoundBegun, RoundEnded, RowSplit, RowsJoined, ActiveOn, DeleteFrom, DeleteOver, Event, Delivered, Decided}
use Rattle.lane_journals.specs.Readers.{Journal, or_else, Message, sent, first_reply, store, acceptable, Deleting, ends, deleting, DeletedFrom}
use Rattle.lane_journals.specs.Legal.{NotAcceptable, Replies, MayDeliver, MayDelete, is_ending, MayForget, Permits, Legal}
use Rattle.lane_journals.proofs.BucketLaws.{same_bucket-true, meets-by}
use Rattle.lane_journals.proofs.Basics.{or_else-some, first_reply-cases, replied-sent, sent_before, deleted-cases}
use Rattle.lane_journals.proofs.Serials.{acceptable-back}
use Rattle.lane_journals.proofs.Deletes.{grounds, dead-step, deleting-cases, delete-sent}

module _ (acks : ℕ) (P : ℕ → ℕ → Bool) where
  pub alive-back : (J : Journal) (e : Event) → Legal acks P (e ∷ J) → (v : ℕ) (b : Bucket) (n s r : ℕ) → DeletedFrom v b n s r J → acceptable n b s (e ∷ J) ≡ true →
      (acceptable n b s J ≡ true) × ((id : Id) → contains b (key_of id) ≡ true → store n id (e ∷ J) ≡ store n id J)
  alive-back J e l v b n s r d a = let g = grounds acks P J l.0 v b n s r d in acceptable-back acks P J e l.1 v g.round n g.read g.given b s g.shown g.named a

  deleting-stays : (v key : ℕ) (J : Journal) (e : Event) (x : Deleting) → deleting v key J ≡ Some x → Permits acks P J e → ((d : ℕ) → e ≡ Decided d v (DeleteOver x.bucket x.node) → ⊥) → deleting v key (e ∷ J) ≡ Some x
  deleting-stays v key J (Decided d w (DeleteFrom b n s)) x h p over = by_case (eqb w v) (contains b key) refl refl
    where
      by_case : (t u : Bool) → eqb w v ≡ t → contains b key ≡ u → cond t (cond u (Some (record { bucket = b; node = n; serial = s })) (deleting v key J)) (deleting v key J) ≡ Some x
      by_case true true e f = let q : MayDelete acks J v b n s = subst (λ (i : ℕ). MayDelete acks J i b n s) (eqb-true w v e) p.1 in let z = q.none key f in cc
      by_case true false e f = h
      by_case false u e f = h
  deleting-stays v key J (Decided d w (RowsJoined b)) x h p over = by_case (eqb w v) (contains b key)
    where
      by_case : (t u : Bool) → cond t (cond u (or_else (deleting v key J) (deleting v (across b key) J)) (deleting v key J)) (deleting v key J) ≡ Some x
      by_case true true = or_else-some _ _ x h
      by_case true false = h
      by_case false u = h
  deleting-stays v key J (Decided d w (DeleteOver b n)) x h p over = by_case (eqb w v) refl
    where
      by_case : (t : Bool) → eqb w v ≡ t → cond t (ends b n (deleting v key J)) (deleting v key J) ≡ Some x
      by_case true e = rw h (keep (same_bucket x.bucket b) (eqb x.node n) refl refl)
        where
          keep : (t u : Bool) → same_bucket x.bucket b ≡ t → eqb x.node n ≡ u → cond t (cond u None (Some x)) (Some x) ≡ Some x
          keep true true f g = absurd (over d (let i = eqb-true w v e in let j = same_bucket-true x.bucket b f in let k = eqb-true x.node n g in cc))
          keep true false f g = refl
          keep false u f g = refl
      by_case false e = h
  deleting-stays v key J (Decided d w (RoundBegun b)) x h p over = h
  deleting-stays v key J (Decided d w (RoundEnded b set)) x h p over = h
  deleting-stays v key J (Decided d w (RowSplit b)) x h p over = h
  deleting-stays v key J (Decided d w (ActiveOn b n)) x h p over = h
  deleting-stays v key J _ x h p over = h

  -- each key of its bucket has the Delete
  pub spread : (J : Journal) → Legal acks P J → (v key : ℕ) (x : Deleting) → deleting v key J ≡ Some x → (other : ℕ) → contains x.bucket other ≡ true → deleting v other J ≡ Some x
  spread [] l v key x h other i = cc
  spread (e ∷ J) l v key x h other i = elim (deleting-cases acks P v key J e x h) [
    | inl kept ↦ deleting-stays v other J e x (spread J l.0 v key x kept.had other i) l.1 kept.not_over
    | inr (inl came) ↦ subst (λ (y : Event). deleting v other (y ∷ J) ≡ Some x) (sym came.is) (rw (eq-eqb v v refl, i) refl)
    | inr (inr from) ↦ deleting-stays v other J e x (spread J l.0 v (across from.parent key) x from.had other i) l.1 (λ d is. apart from.is is)
  ]
    where
      apart : {d d' : ℕ} {p b : Bucket} {n : ℕ} → e ≡ Decided d v (RowsJoined p) → e ≡ Decided d' v (DeleteOver b n) → ⊥
      apart a b = cc

  -- a Delete that was replied to is acceptable no more
  pub replied-dead : (J : Journal) → Legal acks P J → (k : ℕ) (m : Message) → sent k J ≡ Some m → (b : Bucket) (s : ℕ) → m.body ≡ Delete b s → (r : Reply) → first_reply k J ≡ Some r → is_ending r ≡ true → (key : ℕ) → contains b key ≡ true → acceptable m.receiver b s J ≡ false
  replied-dead [] l k m h b s is r f ending key inside = refl
  replied-dead (e ∷ J) l k m h b s is r f ending key inside =
      elim (first_reply-cases k J e r f) [
        | inl old ↦ (let before = sent_before acks P J k e m (replied-sent acks P J l.0 k r old) h in
            let d = delete-sent acks P J l.0 k m before b s is in
            dead-step acks P J e l m.version b m.receiver s d.0 d.1 (replied-dead J l.0 k m before b s is r old ending key inside))
        | inr new ↦ now r e new.0 l.1 h ending
      ]
    where
      refused : (r : Reply) → MayDeliver J k r → sent k J ≡ Some m → ((x : Message) → Replies J x r → NotAcceptable J x) → acceptable m.receiver b s J ≡ false
      refused r q h f = let same : q.message ≡ m = let w = q.was_sent in cc in f m (subst (λ (y : Message). Replies J y r) same q.reply) b s is

      now : (r : Reply) (e : Event) → e ≡ Delivered k r → Permits acks P J e → sent k (e ∷ J) ≡ Some m → is_ending r ≡ true → acceptable m.receiver b s (e ∷ J) ≡ false
      now (Answer x names) e eq p h ending =
          let h' : sent k J ≡ Some m = rw eq at h in
          rw eq (rw (h', eq-eqb m.receiver m.receiver refl, is, meets-by b b key inside inside) refl)
      now (Newer w) e eq p h ending = cc
      now NoBucket e eq p h ending = let h' : sent k J ≡ Some m = rw eq at h in rw eq (refused NoBucket (rw eq at p) h' (λ x q. q.1))
      now Differs e eq p h ending = let h' : sent k J ≡ Some m = rw eq at h in rw eq (refused Differs (rw eq at p) h' (λ x q. q.1))
      now NoMemory e eq p h ending = cc

  -- while a DeleteFrom's Delete is acceptable it is unanswered
  pub pending : (J : Journal) → Legal acks P J → (v : ℕ) (b : Bucket) (n s r : ℕ) → DeletedFrom v b n s r J → acceptable n b s J ≡ true → (key : ℕ) → contains b key ≡ true → deleting v key J ≡ Some (record { bucket = b; node = n; serial = s })
  pending [] l v b n s r h a key i = absurd h
  pending (e ∷ J) l v b n s r h a key i =
      elim (deleted-cases v b n s r J e h) [
        | inl old ↦
            (let back = alive-back J e l v b n s r old a in
            let d = pending J l.0 v b n s r old back.0 key i in
            deleting-stays v key J e _ d l.1 (λ x is. over x is d back.0))
        | inr new ↦ subst (λ (y : Event). deleting v key (y ∷ J) ≡ Some (record { bucket = b; node = n; serial = s })) (sym new.1) (rw (eq-eqb v v refl, i) refl)
      ]
    where
      over : (x : ℕ) → e ≡ Decided x v (DeleteOver b n) → deleting v key J ≡ Some (record { bucket = b; node = n; serial = s }) → acceptable n b s J ≡ true → ⊥
      over x is d ok =
          let p : Permits acks P J (Decided x v (DeleteOver b n)) = rw is at l.1 in
          let q : MayForget J v b n = p.1 in
          let there : deleting v key J ≡ Some q.delete = spread J l.0 v q.key q.delete q.pending key (subst (λ (y : Bucket). contains y key ≡ true) (sym q.bucket) i) in
          let same : record { bucket = b; node = n; serial = s } ≡ q.delete = cc in
          let serial : s ≡ (q.delete).serial = ap (λ (y : Deleting). y.serial) same in
          let dead = replied-dead J l.0 q.number q.message q.was_sent b (q.delete).serial q.body q.reply q.replied q.ending key i in
          let dead' : acceptable n b s J ≡ false = subst₂ (λ (y z : ℕ). acceptable y b z J ≡ false) q.receiver (sym serial) dead in cc

  -- two acceptable Deletes of one version have no common key, or are one
  pub two_deletes : (J : Journal) → Legal acks P J → (v : ℕ) (b : Bucket) (n s q : ℕ) (c : Bucket) (m t r : ℕ) → DeletedFrom v b n s q J → acceptable n b s J ≡ true → DeletedFrom v c m t r J → acceptable m c t J ≡ true →
      (key : ℕ) → contains b key ≡ true → contains c key ≡ true → (b ≡ c) × (n ≡ m) × (s ≡ t)
  two_deletes J l v b n s q c m t r f a g d key i j =
      let x = pending J l v b n s q f a key i in let y = pending J l v c m t r g d key j in
      let same : ◌≡◌ {A = Deleting} (record { bucket = b; node = n; serial = s }) (record { bucket = c; node = m; serial = t }) = cc in
      (ap (λ (z : Deleting). z.bucket) same, ap (λ (z : Deleting). z.node) same, ap (λ (z : Deleting). z.serial) same)
