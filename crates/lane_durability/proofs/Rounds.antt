-- Answers, unions, and who stands for an unanswered Delete.
use Rattle.std.proofs.Common.{◌≡◌, ◌≢◌, ℕ, ◌<◌, ◌≤◌, Bool, true, [], ◌∷◌, Option, Some, refl, sym, ap, ◌∙◌, subst, subst₂, arith, inl, inr, ◌⊎◌}
use Rattle.std.proofs.lemmas.Bool.{cases_lt}
use Rattle.lane_journals.specs.Sets.{AtLeast}
use Rattle.lane_journals.specs.Stamps.{Stamp, Le}
use Rattle.lane_journals.specs.Buckets.{Bucket, contains, Id, key_of}
use Rattle.lane_journals.specs.Events.{Content, Body, Read, Apply, DeleteFrom, Event, Sent, Decided}
use Rattle.lane_journals.specs.Readers.{Journal, round_of, Message, round_in, after_body, store, acceptable, Given, answer, deleting, Named, DeletedFrom}
use Rattle.lane_journals.specs.Facts.{Shown, Took, Applied, Gives, AnsweredApply}
use Rattle.lane_journals.specs.Legal.{MayUnite, MaySend, Keeper, MayDelete, Permits, Legal}
use Rattle.lane_journals.proofs.Order.{Le_refl, Le-same}
use Rattle.lane_journals.proofs.Counts.{AtLeast-map, AtLeast-some}
use Rattle.lane_journals.proofs.Basics.{Gives-stays, Gives-le, sent-cases, SentNow, sent-member, Took-stays, took-applied, answered-took, Shown-stays, answer-stays, named-cases, deleted-cases}
use Rattle.lane_journals.proofs.Rows.{IsRound, isround-one, newest-round, sent-round}
use Rattle.lane_journals.proofs.Serials.{shown-cases, shown-now, acceptable-back, named-shows, answer-cases, answer-shown}
use Rattle.lane_durability.proofs.TwoDeletes.{alive-back, pending}
use Rattle.lane_journals.proofs.Marks.{took-isround, Holds, complete-took}

-- ---- the union covers the answers

pub applied-cases : (v r n : ℕ) (b : Bucket) (u : Content) (J : Journal) (e : Event) → Applied v r n b u (e ∷ J) → Applied v r n b u J ⊎ ((k d : ℕ) × (e ≡ Sent k v d n (Apply b u)) × (r ≡ round_of v b J))
applied-cases v r n b u J e a = elim (sent-cases a.number J e a.message a.was_sent) [
  | inl old ↦ inl (record { number = a.number; message = a.message; was_sent = old; receiver = a.receiver; version = a.version; round = a.round; body = a.body })
  | inr new ↦ inr (now new)
]
  where
    now : SentNow a.number J e a.message → (k d : ℕ) × (e ≡ Sent k v d n (Apply b u)) × (r ≡ round_of v b J)
    now q = (a.number, q.sender, q.is ∙ same (a.message).version (a.message).receiver (a.message).body a.version a.receiver a.body, sym a.round ∙ q.round ∙ same_round (a.message).version (a.message).body a.version a.body)
      where
        same : (x i : ℕ) (y : Body) → x ≡ v → i ≡ n → y ≡ Apply b u → Sent a.number x q.sender i y ≡ Sent a.number v q.sender n (Apply b u)
        same x i y p o q = cc

        same_round : (x : ℕ) (y : Body) → x ≡ v → y ≡ Apply b u → round_in x y J ≡ round_of v b J
        same_round x y p q = rw (p, q) refl

-- an Apply brings what is in the union
pub unite-gives : (P : ℕ → ℕ → Bool) (J : Journal) (v n : ℕ) (b : Bucket) (u : Content) (c : MayUnite P J v b u) → (id : Id) (x : Option Stamp) → Le x (u id) → Gives v (round_of v b J) n b u id x J
unite-gives P J v n b u c id x le = le

module _ (acks : ℕ) (P : ℕ → ℕ → Bool) where
  -- before a union was sent all nodes of v answered, and it covers their answers
  pub applied-answers : (J : Journal) → Legal acks P J → (v r n : ℕ) (b : Bucket) (u : Content) → Applied v r n b u J → (m : ℕ) → P v m ≡ true → (g : Given) × (answer v r m J ≡ Some g) × ((id : Id) → Gives v r n b u id (g.content id) J)
  applied-answers [] l v r n b u a m h = let z = a.was_sent in cc
  applied-answers (e ∷ J) l v r n b u a m h = elim (applied-cases v r n b u J e a) [
    | inl old ↦ (let i = applied-answers J l.0 v r n b u old m h in (i.0, answer-stays v r m J i.0 e i.1, λ id. Gives-stays v r n b u id _ J e (i.2 id)))
    | inr new ↦ (let p : MaySend P J new.0 v new.1 n (Apply b u) = rw new.2 at l.1 in let c = p.carries.covers m h in (
      c.0,
      answer-stays v r m J c.0 e (subst (λ (x : ℕ). answer v x m J ≡ Some c.0) (sym new.3) c.1),
      λ id. Gives-stays v r n b u id _ J e (subst (λ (x : ℕ). Gives v x n b u id (c.0.content id) J) (sym new.3) (unite-gives P J v n b u p.carries id _ (c.2 id))),
    ))
  ]

  pub applied-member : (J : Journal) → Legal acks P J → (v r n : ℕ) (b : Bucket) (u : Content) → Applied v r n b u J → P v n ≡ true
  applied-member J l v r n b u a = subst₂ (λ (x y : ℕ). P x y ≡ true) a.version a.receiver (sent-member acks P J l a.number a.message a.was_sent)

  -- once it was sent the answers stand
  pub Gives-back : (J : Journal) → Legal acks P J → (v r n : ℕ) (b : Bucket) (u : Content) (id : Id) (x : Option Stamp) (e : Event) → Applied v r n b u J → Gives v r n b u id x (e ∷ J) → Gives v r n b u id x J
  Gives-back J l v r n b u id x e a h = h

  pub shown-member : (J : Journal) → Legal acks P J → (v r n : ℕ) (b : Bucket) (g : Given) → Shown v r n b g J → P v n ≡ true
  shown-member J l v r n b g h = subst₂ (λ (x y : ℕ). P x y ≡ true) h.version h.receiver (sent-member acks P J l h.number h.message h.was_sent)

  pub answer-member : (J : Journal) → Legal acks P J → (v r n : ℕ) (g : Given) → answer v r n J ≡ Some g → P v n ≡ true
  answer-member J l v r n g h = let a = answer-shown v r n J g h in shown-member J l v r n a.0 g a.1

  pub apply-covers : (J : Journal) → Legal acks P J → (v r k n : ℕ) (b : Bucket) (u : Content) (g : Given) → Applied v r k b u J → answer v r n J ≡ Some g → (id : Id) → Gives v r k b u id (g.content id) J
  apply-covers J l v r k n b u g a h id =
      let i = applied-answers J l v r k b u a n (answer-member J l v r n g h) in
      let same : g ≡ i.0 = let z = i.1 in cc in
      Gives-le v r k b u id _ _ J (Le-same _ _ (ap (λ (x : Given). x.content id) same)) (i.2 id)

  pub shown-isround : (J : Journal) → Legal acks P J → (v r n : ℕ) (b : Bucket) (g : Given) → Shown v r n b g J → IsRound v r b J
  shown-isround J l v r n b g h = subst₂ (λ (x y : ℕ). IsRound x y b J) h.version h.round (sent-round acks P J l h.number h.message b h.was_sent (inl h.body))

  -- a node whose serial is still acceptable shows the same in a later round
  pub later-shows : (J : Journal) → Legal acks P J → (v r q k n : ℕ) (b c : Bucket) (u : Content) (g h : Given) (s : ℕ) → Applied v r k b u J → r < q → answer v r n J ≡ Some g → g.names b s ≡ true → acceptable n b s J ≡ true → Shown v q n c h J →
      (id : Id) → contains b (key_of id) ≡ true → contains c (key_of id) ≡ true → store n id J ≡ h.content id
  later-shows [] l v r q k n b c u g h s a lt ans named ok shown id i j = let z = a.was_sent in cc
  later-shows (e ∷ J) l v r q k n b c u g h s a lt ans named ok shown id i j =
      elim (shown-cases acks P J e l v q n c h shown) [
        | inr new ↦ (let x = shown-now acks P J e l.1 n c h new.0 in
            let body : (x.0).message.body ≡ Read c = ap (λ (m : Message). m.body) x.1 ∙ (new.0).body in
            (x.0).stores id ∙ ap (λ (y : Body). after_body id y (store n id J)) body ∙ sym (((x.0).show c body).content id j) ∙ ap (λ (y : Given). y.content id) x.2)
        | inl old ↦ elim (applied-cases v r k b u J e a) [
          | inr new ↦ (let p : MaySend P J new.0 v new.1 k (Apply b u) = rw new.2 at l.1 in
              absurd (newest-round acks P J l.0 v q b c (key_of id) p.carries.under_way (shown-isround J l.0 v q n c h old) (let z = new.3 in omega arith) i j))
          | inl before ↦ elim (answer-cases v r n J e g ans) [
            | inl had ↦ (let f = answer-shown v r n J g had in
                let x = acceptable-back acks P J e l.1 v r n f.0 g b s f.1 named ok in
                x.1 id i ∙ later-shows J l.0 v r q k n b c u g h s before lt had named x.0 old id i j)
            | inr first ↦ (let y = applied-answers J l.0 v r k b u before n (shown-member (e ∷ J) l v q n c h shown) in let z = first.first in let w = y.1 in cc)
          ]
        ]
      ]

  -- ---- who stands for an unanswered Delete

  named-weaken : (v n key r q : ℕ) (J : Journal) → q ≤ r → Named v n key r J → Named v n key q J
  named-weaken v n key r q [] le h = absurd h
  named-weaken v n key r q (e ∷ J) le h = elim (named-cases v n key r J e h) [
    | inl old ↦ named-stays' (named-weaken v n key r q J le old)
    | inr new ↦ subst (λ (y : Event). Named v n key q (y ∷ J)) (sym new.3) (inl (refl, refl, new.4, (let z = new.5 in omega arith)))
  ]
    where
      named-stays' : Named v n key q J → Named v n key q (e ∷ J)
      named-stays' h = grind arith

  -- the node took a union that covers an answer with x, and wasn't named since
  pub record Backs (v n : ℕ) (id : Id) (x : Option Stamp) (J : Journal) : Type 0 where
    pub round : ℕ
    pub bucket : Bucket
    pub union : Content
    pub took : Took v round n bucket union J
    pub inside : contains bucket (key_of id) ≡ true
    pub free : Named v n (key_of id) round J → ⊥
    pub reader : ℕ
    pub given : Given
    pub read : answer v round reader J ≡ Some given
    pub enough : Le x (given.content id)

  Backs-stays : (v n : ℕ) (id : Id) (x : Option Stamp) (J : Journal) (e : Event) → ((d : ℕ) (b : Bucket) (s : ℕ) → e ≡ Decided d v (DeleteFrom b n s) → contains b (key_of id) ≡ true → ⊥) → Backs v n id x J → Backs v n id x (e ∷ J)
  Backs-stays v n id x J e none_from h = record {
    round = h.round;
    bucket = h.bucket;
    union = h.union;
    took = Took-stays v h.round n h.bucket h.union J e h.took;
    inside = h.inside;
    free = λ y. elim (named-cases v n (key_of id) h.round J e y) [ inl old ↦ h.free old | inr new ↦ none_from new.0 new.1 new.2 new.3 new.4 ];
    reader = h.reader;
    given = h.given;
    read = answer-stays v h.round h.reader J h.given e h.read;
    enough = h.enough;
  }

  pub record Standing (v : ℕ) (b : Bucket) (n s : ℕ) (J : Journal) : Type 0 where
    pub round : ℕ
    pub given : Given
    pub shown : Shown v round n b given J
    pub named : given.names b s ≡ true
    pub keepers : (id : Id) → contains b (key_of id) ≡ true → AtLeast acks (λ m. (m ≢ n) × Backs v m id (given.content id) J)

  -- at the decision a counted member backs what the node showed
  keeper-backs : 1 ≤ acks → (J : Journal) → Legal acks P J → (v : ℕ) (b : Bucket) (n s : ℕ) (p : MayDelete acks J v b n s) → acceptable n b s J ≡ true → (id : Id) → contains b (key_of id) ≡ true → (m : ℕ) → Keeper v (round_of v b J) n m b J → Shown v (round_of v b J) n b (p.given) J → Backs v m id ((p.given).content id) J
  keeper-backs some J l v b n s p ok id i m k shown = elim (cases_lt r h.round) [
    | inl later ↦ (let x = applied-answers J l v h.round m h.bucket h.union (took-applied v h.round m h.bucket h.union J h.took) n (shown-member J l v r n b p.given shown) in
        let y = answer-shown v h.round n J x.0 x.1 in
        let same : y.0 ≡ h.bucket = isround-one v h.round y.0 h.bucket J (shown-isround J l v h.round n y.0 x.0 y.1) (took-isround acks P J l v h.round m h.bucket h.union h.took) in
        let shown' : Shown v h.round n h.bucket x.0 J = subst (λ (z : Bucket). Shown v h.round n z x.0 J) same y.1 in
        record {
          round = h.round;
          bucket = h.bucket;
          union = h.union;
          took = h.took;
          inside = h.inside;
          free = h.free;
          reader = n;
          given = x.0;
          read = x.1;
          enough = Le-same _ _ (sym (named-shows acks P J l v r n b p.given b s shown p.named ok id i i) ∙ later-shows J l v r h.round m n b h.bucket (k.answered).union p.given x.0 s (took-applied v r m b (k.answered).union J took) later p.read p.named ok shown' id i h.inside);
        })
    | inr before ↦ record { round = r; bucket = b; union = (k.answered).union; took = took; inside = i; free = λ z. h.free (named-weaken v m (key_of id) r h.round J before z); reader = n; given = p.given; read = p.read; enough = Le_refl _ }
  ]
    where
      r : ℕ
      r = round_of v b J

      h : Holds acks P v m (key_of id) J
      h = complete-took acks P J l v m (key_of id) (k.member (key_of id) i)

      took : Took v r m b (k.answered).union J
      took = answered-took v r m b J k.answered

  -- the answer's Read was of the bucket
  read-bucket : (J : Journal) → Legal acks P J → (v r n m : ℕ) (b : Bucket) (g : Given) → answer v r n J ≡ Some g → AnsweredApply v r m b J → Shown v r n b g J
  read-bucket J l v r n m b g h a =
      let y = answer-shown v r n J g h in
      subst (λ (z : Bucket). Shown v r n z g J) (isround-one v r y.0 b J (shown-isround J l v r n y.0 g y.1) (took-isround acks P J l v r m b a.union (answered-took v r m b J a))) y.1

  pub standing : 1 ≤ acks → (J : Journal) → Legal acks P J → (v : ℕ) (b : Bucket) (n s r : ℕ) → DeletedFrom v b n s r J → acceptable n b s J ≡ true → Standing v b n s J
  standing some [] l v b n s r h a = absurd h
  standing some (e ∷ J) l v b n s r h a = elim (deleted-cases v b n s r J e h) [
    | inl old ↦ (let back = alive-back acks P J e l v b n s r old a in stays (standing some J l.0 v b n s r old back.0) (pending acks P J l.0 v b n s r old back.0))
    | inr new ↦ now e new.0 new.1 l.1 a
  ]
    where
      stays : Standing v b n s J → ((key : ℕ) → contains b key ≡ true → deleting v key J ≡ Some (record { bucket = b; node = n; serial = s })) → Standing v b n s (e ∷ J)
      stays g pend = record {
        round = g.round;
        given = g.given;
        shown = Shown-stays v g.round n b g.given J e g.shown;
        named = g.named;
        keepers = λ id i. AtLeast-map (λ m k. (k.0, Backs-stays v m id (g.given.content id) J e (λ d c t is j. unnamed d c m t is (key_of id) i j) k.1)) (g.keepers id i);
      }
        where
          unnamed : (d : ℕ) (c : Bucket) (m t : ℕ) → e ≡ Decided d v (DeleteFrom c m t) → (key : ℕ) → contains b key ≡ true → contains c key ≡ true → ⊥
          unnamed d c m t is key i j = let p : Permits acks P J (Decided d v (DeleteFrom c m t)) = rw is at l.1 in let x = (p.1).none key j in let y = pend key i in cc

      now : (e : Event) (d : ℕ) → e ≡ Decided d v (DeleteFrom b n s) → Permits acks P J e → acceptable n b s (e ∷ J) ≡ true → Standing v b n s (e ∷ J)
      now e d is may ok = rw is (
          let q : Permits acks P J (Decided d v (DeleteFrom b n s)) = rw is at may in
          let p : MayDelete acks J v b n s = q.1 in
          let ok' : acceptable n b s J ≡ true = rw is at ok in
          let k = AtLeast-some acks (λ m. Keeper v (round_of v b J) n m b J) some p.keepers in
          let shown = read-bucket J l.0 v (round_of v b J) n k.0 b p.given p.read (k.1).answered in
          record {
            round = round_of v b J;
            given = p.given;
            shown = Shown-stays v (round_of v b J) n b p.given J (Decided d v (DeleteFrom b n s)) shown;
            named = p.named;
            keepers = λ id i. AtLeast-map (λ m k. (k.other, Backs-stays v m id (p.given.content id) J (Decided d v (DeleteFrom b n s)) (λ d' c t z j. k.other (same d' c m t z)) (keeper-backs some J l.0 v b n s p ok' id i m k shown))) p.keepers;
          })
        where
          same : (d' : ℕ) (c : Bucket) (m t : ℕ) → Decided d v (DeleteFrom b n s) ≡ Decided d' v (DeleteFrom c m t) → m ≡ n
          same d' c m t z = cc
