-- What was acknowledged below a version is found by it.
use Rattle.std.proofs.Common.{◌≡◌, ℕ, ◌<◌, ◌≤◌, Bool, true, false, cond, [], ◌∷◌, Option, Some, refl, sym, ◌∙◌, subst, arith, inl, inr, leb}
use Rattle.std.proofs.lemmas.Bool.Decides.{nat_tests}
use Rattle.lane_journals.specs.Sets.{count, AtLeast, both, outside}
use Rattle.lane_journals.specs.Stamps.{Stamp, Le}
use Rattle.lane_journals.specs.Buckets.{Id}
use Rattle.lane_journals.specs.Events.{Event, Published}
use Rattle.lane_journals.specs.Readers.{Journal, published, known, Beginning, Message, sent, store, base, answered_store, AckedBy, Acked}
use Rattle.lane_journals.specs.Facts.{TookStore}
use Rattle.lane_journals.specs.Legal.{MayPublish, MayClose, Permits, Legal}
use Rattle.lane_journals.specs.Below.{below}
use Rattle.lane_journals.proofs.Order.{Le-at, Le_nothing}
use Rattle.lane_journals.proofs.Counts.{AtLeast-map, count-subset, both-map, one_inside}
use Rattle.lane_durability.proofs.BelowLines.{sent-back}
use Rattle.lane_durability.proofs.BelowReaders.{view, answered_store-below}
use Rattle.lane_durability.proofs.Law.{legal-below}
use Rattle.lane_journals.proofs.Basics.{sent-stays, sent-member, published-cases}
use Rattle.lane_journals.proofs.Serials.{effect}
use Rattle.lane_durability.proofs.Copies.{stored-stays}
use Rattle.lane_journals.proofs.Kept.{answered-took-op}
use Rattle.lane_durability.proofs.Bases.{acked-cases}
use Rattle.lane_journals.proofs.Versions.{sent-published}

module _ (acks : ℕ) (P : ℕ → ℕ → Bool) where
  known-stays : (v n : ℕ) (J : Journal) (e : Event) → known v n J ≡ true → known v n (e ∷ J) ≡ true
  known-stays v n J e h = grind (arith, nat_tests)

  known-now : (v w n : ℕ) (set : ℕ → Bool) (J : Journal) → w ≤ v → set n ≡ true → known v n (Published w set ∷ J) ≡ true
  known-now v w n set J le h = grind (arith, nat_tests)

  pub published-known : (J : Journal) → Legal acks P J → (v w n : ℕ) → published w J ≡ true → w ≤ v → P w n ≡ true → known v n J ≡ true
  published-known [] l v w n h le p = cc
  published-known (e ∷ J) l v w n h le p = elim (published-cases w J e h) [
    | inl old ↦ known-stays v n J e (published-known J l.0 v w n old le p)
    | inr new ↦ (let q : MayPublish acks P J w new.0 = rw new.1 at l.1 in
        subst (λ (y : Event). known v n (y ∷ J) ≡ true) (sym new.1) (known-now v w n new.0 J le (q.nodes n ∙ p)))
  ]

  -- fewer than acks known nodes are outside the nodes of v
  pub state-few : (J : Journal) → Legal acks P J → (v : ℕ) → published v J ≡ true → count (both (λ n. known v n J) (outside (P v))) < acks
  state-few [] l v h = cc
  state-few (e ∷ J) l v h = elim (published-cases v J e h) [
    | inl old ↦ later e l.1 old (state-few J l.0 v old)
    | inr new ↦ now new.0 e new.1 l.1
  ]
    where
      same-outside : (set : ℕ → Bool) (n : ℕ) (t : Bool) → set n ≡ P v n → cond t (outside (P v) n) false ≡ true → cond t (outside set n) false ≡ true
      same-outside set n true e h = rw e h
      same-outside set n false e h = h

      now : (set : ℕ → Bool) (e : Event) → e ≡ Published v set → Permits acks P J e → count (both (λ n. known v n (e ∷ J)) (outside (P v))) < acks
      now set e is p = rw is (let q : MayPublish acks P J v set = rw is at p in
          let le = count-subset (both (λ n. known v n (Published v set ∷ J)) (outside (P v))) (both (λ n. known v n (Published v set ∷ J)) (outside set)) (λ n h. same-outside set n (known v n (Published v set ∷ J)) (q.nodes n) h) in
          let few = q.few in omega arith)

      later : (e : Event) → Permits acks P J e → published v J ≡ true → count (both (λ n. known v n J) (outside (P v))) < acks → count (both (λ n. known v n (e ∷ J)) (outside (P v))) < acks
      later (Published w set) p old ih =
          let lt = p.newest v old in
          let le = both-map (λ n. known v n (Published w set ∷ J)) (λ n. known v n J) (outside (P v)) (λ n. rw (greater w lt) refl) in omega arith
        where
          greater : (w : ℕ) → v < w → leb w v ≡ false
          greater w h = grind (arith, nat_tests)
      later e p old ih = ih

  -- who holds something was sent something
  holder-sent : (J : Journal) → Legal acks P J → (n : ℕ) (id : Id) (s : Stamp) → Le (Some s) (store n id J) → (k : ℕ) × (m : Message) × (sent k J ≡ Some m) × (m.receiver ≡ n)
  holder-sent [] l n id s h = let z = Le_nothing (Some s) h in cc
  holder-sent (e ∷ J) l n id s h = elim (effect J e acks P l.1 n) [
    | inl leaves ↦ (let i = holder-sent J l.0 n id s (Le-at _ _ _ (sym (leaves.stores id)) h) in (i.0, i.1, sent-stays i.0 J i.1 e i.2, i.3))
    | inr a ↦ (a.number, a.message, sent-stays a.number J a.message e a.was_sent, a.receiver)
  ]

  -- ---- acknowledgements

  answered_store-stays : (v : ℕ) (id : Id) (s : Stamp) (n : ℕ) (J : Journal) (e : Event) → answered_store v id s n J ≡ true → answered_store v id s n (e ∷ J) ≡ true
  answered_store-stays v id s n J e h = grind (arith, nat_tests)

module _ (acks : ℕ) (P : ℕ → ℕ → Bool) (some : 1 ≤ acks) where
  -- at least acks nodes answered the Store of an acknowledged operation
  pub acked-answered : (J : Journal) → Legal acks P J → (w : ℕ) (id : Id) (s : Stamp) → Acked w id s J → AtLeast acks (λ n. answered_store w id s n J ≡ true)
  acked-answered [] l w id s a = absurd a
  acked-answered (e ∷ J) l w id s a = AtLeast-map (λ n k. answered_store-stays acks P w id s n J e k) (elim (acked-cases acks P some w id s J e a) [
    | inl old ↦ acked-answered J l.0 w id s old
    | inr new ↦ (let q : MayClose acks J new.0 true = rw new.1 at l.1 in now new.0 q (subst (λ (y : Option Beginning). AckedBy w id s y) q.begun new.2))
  ])
    where
      now : (line : ℕ) (q : MayClose acks J line true) → AckedBy w id s (Some q.begin) → AtLeast acks (λ n. answered_store w id s n J ≡ true)
      now line q b =
          let a = q.acked refl in
          let st : a.stamp ≡ s = (let z : Some a.stamp ≡ Some s = sym a.stamped ∙ b.2 in cc) in
          AtLeast-map (λ n k. sym (same n b.0 b.1 st) ∙ k.1) a.enough
        where
          same : (n : ℕ) {i j : ℕ} {k m : Id} {x y : Stamp} → i ≡ j → k ≡ m → x ≡ y → answered_store i k x n J ≡ answered_store j m y n J
          same n p q r = λ t. answered_store (p t) (q t) (r t) n J

  took-store : (J : Journal) (w : ℕ) (id : Id) (s : Stamp) (n : ℕ) → answered_store w id s n J ≡ true → TookStore id s n J
  took-store J w id s n h = let t = answered-took-op J w id s n h in record { number = t.number; message = t.message; was_sent = t.was_sent; receiver = t.receiver; body = t.body; accepted = t.accepted }

  -- an acknowledged operation, or a newer one, is in at least acks stores
  pub durable : (J : Journal) → Legal acks P J → (w : ℕ) (id : Id) (s : Stamp) → Acked w id s J → AtLeast acks (λ m. Le (Some s) (store m id J))
  durable J l w id s a = elim (stored-stays acks P some J l id s) [
    | inl all ↦ AtLeast-map (λ n k. all n (took-store J w id s n k)) (acked-answered J l w id s a)
    | inr enough ↦ enough
  ]

  -- what was acknowledged below an opened version is found by it at one of its nodes, as that took it
  pub acked-found : (J : Journal) → Legal acks P J → (v w : ℕ) (id : Id) (s : Stamp) → w < v → published v J ≡ true → Acked w id s J → (m : ℕ) × (P v m ≡ true) × Le (Some s) (base v m id J)
  acked-found J l v w id s lt pub-v a =
      let L = below v J in
      let lL = legal-below acks P v J l in
      let answered = AtLeast-map (λ n k. answered_store-below acks P v J l w id s n lt ∙ k) (acked-answered J l w id s a) in
      let held = elim (stored-stays acks P some L lL id s) as (λ z. AtLeast acks (λ m. Le (Some s) (store m id L))) [
        | inl all ↦ AtLeast-map (λ n k. all n (took-store L w id s n k)) answered
        | inr enough ↦ enough
      ] in
      let x = one_inside acks (λ n. known v n J) (P v) (λ m. Le (Some s) (store m id L)) (state-few acks P J l v pub-v) held (λ m h. is_known m h) in
      (x.0, x.1, Le-at _ _ _ (sym ((view acks P v J l x.0).stores id)) x.2)
    where
      is_known : (m : ℕ) → Le (Some s) (store m id (below v J)) → known v m J ≡ true
      is_known m h =
          let k = holder-sent acks P (below v J) (legal-below acks P v J l) m id s h in
          let b = sent-back acks P v J l k.0 k.1 k.2 in
          published-known acks P J l v (k.1).version m (sent-published acks P J l k.0 k.1 b.0) (let z = b.1 in omega arith) (subst (λ (i : ℕ). P (k.1).version i ≡ true) k.3 (sent-member acks P J l k.0 k.1 b.0))
