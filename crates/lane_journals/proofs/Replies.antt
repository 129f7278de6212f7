-- Which replies there are wherever a node can't lack the piece: an answer, NoMemory, or that the node took a newer version;
-- and not that under the newest version.
use Rattle.std.proofs.Common.{◌≡◌, ◌⊎◌, ℕ, ◌≤◌, Bool, true, [], ◌∷◌, Option, Some, None, inl, inr, refl, sym, subst, arith}
use Rattle.lane_journals.specs.Events.{Body, Ask, Read, Apply, Reply, Answer, Newer, NoBucket, Differs, NoMemory, Event, Delivered}
use Rattle.lane_journals.specs.Readers.{Journal, published, Message, sent, first_reply, is_answer, version, raised}
use Rattle.lane_journals.specs.Legal.{Lacks, Differ, Replies, MayDeliver, Legal}
use Rattle.lane_journals.proofs.Basics.{sent-stays, sent_before, replied-sent, first_reply-cases, published-stays}
use Rattle.lane_journals.proofs.Versions.{sent-published}

-- no version above this one was published
abbrev pub IsNewest : ℕ → Journal → Type 0
IsNewest v J = (w : ℕ) → published w J ≡ true → w ≤ v

raised-below : (n v old : ℕ) (m : Message) → m.version ≤ v → old ≤ v → raised n (Some m) old ≤ v
raised-below n v old m a b = grind arith

-- an answer, or that memory is wanted
abbrev pub IsHeard : Reply → Type 0
IsHeard r = (is_answer r ≡ true) ⊎ (r ≡ NoMemory)

-- the node took a newer version
abbrev pub IsFenced : Reply → Type 0
IsFenced r = (w : ℕ) × (r ≡ Newer w)

-- the node has what the message asks of it
abbrev pub HasAll : Journal → Message → Type 0
HasAll J m = (Lacks J m.receiver m.body → ⊥) × (Differ J m.receiver m.body → ⊥)

reply-known : (J : Journal) (m : Message) (r : Reply) → (version m.receiver J ≤ m.version → HasAll J m) → Replies J m r → IsHeard r ⊎ IsFenced r
reply-known J m (Answer x names) has h = inl (inl refl)
reply-known J m (Newer w) has h = inr (w, refl)
reply-known J m NoBucket has h = absurd ((has h.0).0 h.2)
reply-known J m Differs has h = absurd ((has h.0).1 h.2)
reply-known J m NoMemory has h = inl (inr refl)

reply-newest : (J : Journal) (m : Message) (r : Reply) → version m.receiver J ≤ m.version → Replies J m r → IsFenced r → ⊥
reply-newest J m (Newer w) low h f = let x = h.0 in let y = h.1 in omega (arith, low, x, y)
reply-newest J m (Answer x names) low h f = let e = f.1 in cc
reply-newest J m NoBucket low h f = let e = f.1 in cc
reply-newest J m Differs low h f = let e = f.1 in cc
reply-newest J m NoMemory low h f = let e = f.1 in cc

-- what openings and rounds send
abbrev pub IsOwed : Body → Type 0
IsOwed Ask = Unit {0}
IsOwed (Read b) = Unit {0}
IsOwed (Apply b u) = Unit {0}
IsOwed _ = ⊥

owed-lacks : (J : Journal) (n : ℕ) (b : Body) → IsOwed b → Lacks J n b → ⊥
owed-lacks J n Ask o h = h
owed-lacks J n (Read b) o h = h
owed-lacks J n (Apply b u) o h = h
owed-lacks J n _ o h = absurd o

owed-differs : (J : Journal) (n : ℕ) (b : Body) → IsOwed b → Differ J n b → ⊥
owed-differs J n Ask o h = h
owed-differs J n (Read b) o h = h
owed-differs J n (Apply b u) o h = h
owed-differs J n _ o h = absurd o

module _ (acks : ℕ) (P : ℕ → ℕ → Bool) where
  -- no node has a version above it
  pub version-below : (J : Journal) → Legal acks P J → (v : ℕ) → IsNewest v J → (n : ℕ) → version n J ≤ v
  version-below [] l v low n = omega arith
  version-below (e ∷ J) l v low n = by_event e (version-below J l.0 v (λ w h. low w (published-stays w J e h)) n)
    where
      by_sent : (k : ℕ) (o : Option Message) → sent k J ≡ o → version n J ≤ v → raised n o (version n J) ≤ v
      by_sent k None f ih = ih
      by_sent k (Some m) f ih = raised-below n v (version n J) m (low m.version (published-stays m.version J e (sent-published acks P J l.0 k m f))) ih

      by_event : (e : Event) → version n J ≤ v → version n (e ∷ J) ≤ v
      by_event (Delivered k r) ih = by_sent k (sent k J) refl ih
      by_event _ ih = ih

  same-message : (J : Journal) (e : Event) (k : ℕ) (x m : Message) → sent k J ≡ Some x → sent k (e ∷ J) ≡ Some m → x ≡ m
  same-message J e k x m f g = let z = sent-stays k J x e f in cc

  module _ (v : ℕ) (k : ℕ) (m : Message) (r : Reply) (at : m.version ≡ v) where
    -- what is known before each event as it is after it, and what a reply says then
    module _ (Known : Journal → Type 0) (Says : Reply → Type 0) (before : (J : Journal) (e : Event) → Legal acks P (e ∷ J) → sent k J ≡ Some m → Known (e ∷ J) → Known J)
        (says : (J : Journal) → Legal acks P J → Known J → sent k J ≡ Some m → Replies J m r → Says r) where
      replied : (J : Journal) → Legal acks P J → Known J → sent k J ≡ Some m → first_reply k J ≡ Some r → Says r
      replied [] l known s f = cc
      replied (e ∷ J) l known s f = elim (first_reply-cases k J e r f) [
        | inl old ↦ (let was = sent_before acks P J k e m (replied-sent acks P J l.0 k r old) s in replied J l.0 (before J e l was known) was old)
        | inr new ↦ (let d : MayDeliver J k r = rw new.0 at l.1 in
            let same = same-message J e k d.message m d.was_sent s in
            let was : sent k J ≡ Some m = subst (λ (x : Message). sent k J ≡ Some x) same d.was_sent in
            says J l.0 (before J e l was known) was (subst (λ (x : Message). Replies J x r) same d.reply))
      ]

    -- what is known so, and under which the node has what the message asks of it
    module _ (Known : Journal → Type 0) (before : (J : Journal) (e : Event) → Legal acks P (e ∷ J) → sent k J ≡ Some m → Known (e ∷ J) → Known J)
        (has : (J : Journal) → Legal acks P J → version m.receiver J ≤ v → Known J → sent k J ≡ Some m → HasAll J m) where
      pub known-reply : (J : Journal) → Legal acks P J → Known J → sent k J ≡ Some m → first_reply k J ≡ Some r → IsHeard r ⊎ IsFenced r
      known-reply = replied Known (λ y. IsHeard y ⊎ IsFenced y) before (λ J l known was h. reply-known J m r (λ low. has J l (subst (λ (w : ℕ). version m.receiver J ≤ w) at low) known was) h)

    -- under the newest version no node took a newer one
    pub not-fenced : (J : Journal) → Legal acks P J → IsNewest v J → sent k J ≡ Some m → first_reply k J ≡ Some r → IsFenced r → ⊥
    not-fenced = replied (IsNewest v) (λ y. IsFenced y → ⊥) (λ J e l was low w h. low w (published-stays w J e h))
        (λ J l low was h. reply-newest J m r (subst (λ (w : ℕ). version m.receiver J ≤ w) (sym at) (version-below J l v low m.receiver)) h)

    -- the reply to what an opening or a round sends
    pub known-owed : (J : Journal) → Legal acks P J → IsOwed m.body → sent k J ≡ Some m → first_reply k J ≡ Some r → IsHeard r ⊎ IsFenced r
    known-owed J l owed s f = known-reply (λ y. Unit {0}) (λ y e h was known. tt) (λ y h low known was. (owed-lacks y m.receiver m.body owed, owed-differs y m.receiver m.body owed)) J l tt s f
