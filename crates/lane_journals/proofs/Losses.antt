-- Which event takes an entry from a store, and where none may.
use Rattle.std.proofs.Common.{◌≡◌, ◌≢◌, ℕ, ◌≤◌, Bool, true, false, cond, ◌∷◌, Option, Some, refl, sym, ap, ◌∙◌, subst, subst₂, arith, inl, inr, ◌⊎◌, eqb}
use Rattle.std.proofs.lemmas.Bool.{cases_lt}
use Rattle.std.proofs.lemmas.Bool.Decides.{nat_tests}
use Rattle.lane_journals.specs.Stamps.{Stamp, newer}
use Rattle.lane_journals.specs.Buckets.{Bucket, contains, Id, same_id, key_of}
use Rattle.lane_journals.specs.Events.{Content, Body, Ask, Read, ReadDoc, Store, Apply, Delete, Split, Join, Ready, Activate, Answer, Newer, NoBucket, Differs, NoMemory, Event, Delivered}
use Rattle.lane_journals.specs.Readers.{Within, Journal, Message, version, after_body, store, Named, DeletedFrom}
use Rattle.lane_journals.specs.Facts.{Took}
use Rattle.lane_journals.specs.Legal.{Permits, Legal}
use Rattle.lane_journals.proofs.Spent.{within, within-refl}
use Rattle.lane_journals.proofs.Order.{newer-right}
use Rattle.lane_journals.proofs.Serials.{Accepts, accepts-at}
use Rattle.lane_journals.proofs.Deletes.{delete-sent}
use Rattle.lane_journals.proofs.Marks.{took-version, taken-dead, deleted-named}

-- ---- what an event does to all nodes, for a document

-- a Delete is accepted at a node, of a bucket with the document's key
pub record DeletesAt (J : Journal) (e : Event) (id : Id) : Type 0 where
  pub node : ℕ
  pub accepts : Accepts J e node
  pub bucket : Bucket
  pub serial : ℕ
  pub body : (accepts.message).body ≡ Delete bucket serial
  pub inside : contains bucket (key_of id) ≡ true
  pub others : (m : ℕ) → m ≢ node → store m id (e ∷ J) ≡ store m id J

after-grows : (id : Id) (J : Journal) (b : Body) (had : Option Stamp) → ((c : Bucket) (s : ℕ) → b ≡ Delete c s → contains c (key_of id) ≡ false) → Within id J had (after_body id b had)
after-grows id J (Store i s) had f = by_case (same_id i id)
  where
    by_case : (t : Bool) → Within id J had (cond t (newer (Some s) had) had)
    by_case true = within id J _ _ (newer-right _ _)
    by_case false = within-refl id J _
after-grows id J (Apply c u) had f = by_case (contains c (key_of id))
  where
    by_case : (t : Bool) → Within id J had (cond t (newer (u id) had) had)
    by_case true = within id J _ _ (newer-right _ _)
    by_case false = within-refl id J _
after-grows id J (Delete c s) had f = rw (f c s refl) (within-refl id J _)
after-grows id J _ had f = within-refl id J _

pub classify : (acks : ℕ) (P : ℕ → ℕ → Bool) (J : Journal) (e : Event) → Legal acks P J → Permits acks P J e → (id : Id) → ((m : ℕ) → Within id (e ∷ J) (store m id J) (store m id (e ∷ J))) ⊎ DeletesAt J e id
classify acks P J (Delivered k (Answer x s)) l p id = by_body (p.message).body refl
  where
    keeps : (b : Body) → (p.message).body ≡ b → ((c : Bucket) (s : ℕ) → b ≡ Delete c s → contains c (key_of id) ≡ false) → (n : ℕ) → Within id J (store n id J) (store n id (Delivered k (Answer x s) ∷ J))
    keeps b is f n = rw p.was_sent (by_case (eqb (p.message).receiver n))
      where
        by_case : (t : Bool) → Within id J (store n id J) (cond t (after_body id (p.message).body (store n id J)) (store n id J))
        by_case true = rw is (after-grows id J b (store n id J) f)
        by_case false = within-refl id J _

    by_key : (c : Bucket) (t : ℕ) → (p.message).body ≡ Delete c t → (u : Bool) → contains c (key_of id) ≡ u → ((n : ℕ) → Within id J (store n id J) (store n id (Delivered k (Answer x s) ∷ J))) ⊎ DeletesAt J (Delivered k (Answer x s)) id
    by_key c t is false i = inl (keeps (Delete c t) is (λ d q z. let same : c ≡ d = cc in rw (← same) i))
    by_key c t is true i = let a = accepts-at J k (record { content = x; names = s }) p.message (p.message).receiver p p.was_sent refl in inr (record {
      node = (p.message).receiver;
      accepts = a.0;
      bucket = c;
      serial = t;
      body = ap (λ (y : Message). y.body) a.1 ∙ is;
      inside = i;
      others = λ n ne. rw (p.was_sent, apart n ne) refl;
    })
      where
        apart : (n : ℕ) → n ≢ (p.message).receiver → eqb (p.message).receiver n ≡ false
        apart n ne = grind (arith, nat_tests)

    by_body : (b : Body) → (p.message).body ≡ b → ((n : ℕ) → Within id J (store n id J) (store n id (Delivered k (Answer x s) ∷ J))) ⊎ DeletesAt J (Delivered k (Answer x s)) id
    by_body (Delete c t) is = by_key c t is (contains c (key_of id)) refl
    by_body Ask is = inl (keeps Ask is (λ c q z. cc))
    by_body (Read b) is = inl (keeps (Read b) is (λ c q z. cc))
    by_body (ReadDoc i) is = inl (keeps (ReadDoc i) is (λ c q z. cc))
    by_body (Store i t) is = inl (keeps (Store i t) is (λ c q z. cc))
    by_body (Apply b u) is = inl (keeps (Apply b u) is (λ c q z. cc))
    by_body (Split b) is = inl (keeps (Split b) is (λ c q z. cc))
    by_body (Join b) is = inl (keeps (Join b) is (λ c q z. cc))
    by_body (Ready b) is = inl (keeps (Ready b) is (λ c q z. cc))
    by_body (Activate b) is = inl (keeps (Activate b) is (λ c q z. cc))
classify acks P J (Delivered k (Newer w)) l p id = inl (λ n. within-refl id J _)
classify acks P J (Delivered k NoBucket) l p id = inl (λ n. within-refl id J _)
classify acks P J (Delivered k Differs) l p id = inl (λ n. within-refl id J _)
classify acks P J (Delivered k NoMemory) l p id = inl (λ n. within-refl id J _)
classify acks P J e l p id = inl (λ n. within-refl id (e ∷ J) _)

pub by-node : (m n : ℕ) (J : Journal) → m ≡ n → version m J ≡ version n J
by-node m n J e = ap (λ (i : ℕ). version i J) e

module _ (acks : ℕ) (P : ℕ → ℕ → Bool) (some : 1 ≤ acks) where
  -- ---- the union's holders, after one event

  -- a Delete of v or below isn't accepted at a taker that was not named since
  pub not-deletable : (J : Journal) (e : Event) (n : ℕ) → Legal acks P J → (a : Accepts J e n) (c : Bucket) (s : ℕ) → (a.message).body ≡ Delete c s → (v r : ℕ) → (a.message).version ≤ v → (b : Bucket) (u : Content) → Took v r n b u J → (key : ℕ) → contains b key ≡ true → contains c key ≡ true → (Named v n key r J → ⊥) → ⊥
  not-deletable J e n l a c s body v r below b u t key i j free =
      let d = delete-sent acks P J l a.number a.message a.was_sent c s body in
      let low = took-version acks P J l v r n b u t in
      let is_v : (a.message).version ≡ v = let q = a.low in omega arith in
      let from : DeletedFrom v c n s d.0 J = subst₂ (λ (i j : ℕ). DeletedFrom i c j s d.0 J) is_v a.receiver d.1 in
      let ok = a.may_delete c s body in
      elim (cases_lt d.0 r) [
        | inl earlier ↦ (let dead = taken-dead acks P J l v r n b u c s d.0 key t from earlier i j in cc)
        | inr later ↦ free (deleted-named acks P v c n s d.0 r key J from later j)
      ]

  pub not_taker : (J : Journal) (e : Event) (id : Id) → Legal acks P J → (x : DeletesAt J e id) → (v r : ℕ) → (x.accepts.message).version ≤ v → (m : ℕ) (b : Bucket) (u : Content) → Took v r m b u J → contains b (key_of id) ≡ true → (Named v m (key_of id) r J → ⊥) → m ≢ x.node
  not_taker J e id l x v r below m b u t i free same =
      not-deletable J e x.node l x.accepts x.bucket x.serial x.body v r below b u (subst (λ (j : ℕ). Took v r j b u J) same t) (key_of id) i x.inside (λ h. free (subst (λ (j : ℕ). Named v j (key_of id) r J) (sym same) h))
