-- A serial that was named stands for what was shown.
use Rattle.std.proofs.Common.{◌≡◌, ℕ, ◌≤◌, Bool, true, false, cond, [], ◌∷◌, Option, Some, None, refl, sym, ap, ◌∙◌, subst, arith, inl, inr, ◌⊎◌, eqb, eq-eqb}
use Rattle.std.proofs.lemmas.Bool.{eqb-true}
use Rattle.std.proofs.lemmas.Bool.Decides.{nat_tests}
use Rattle.lane_journals.specs.Stamps.{Stamp, newer}
use Rattle.lane_journals.specs.Buckets.{Bucket, contains, Id, same_id, key_of}
use Rattle.lane_journals.specs.Events.{Body, Ask, Read, ReadDoc, Store, Apply, Delete, Reply, Answer, Newer, NoBucket, Differs, NoMemory, Event, Delivered, Returned}
use Rattle.lane_journals.specs.Readers.{Journal, Message, sent, first_reply, version, after_body, store, still, acceptable, has_piece, holds, Given, is_read, is_ask, given_by, asked_of, answer_of, answer}
use Rattle.lane_journals.specs.Facts.{Shown}
use Rattle.lane_journals.specs.Legal.{MayShow, MayAnswer, MayDeliver, Permits, Legal}
use Rattle.lane_journals.specs.Pieces.{pieces_after, MayTake}
use Rattle.lane_journals.specs.Pieces.{pieces as pieces_of}
use Rattle.lane_journals.proofs.Ids.{same_id-true}
use Rattle.lane_journals.proofs.BucketLaws.{meets-by}
use Rattle.lane_journals.proofs.Basics.{or_else-cases, first_reply-cases, replied-sent, sent_before, Shown-stays}

-- ---- what an event does to a node

-- the event accepts a message at the node
pub record Accepts (J : Journal) (e : Event) (n : ℕ) : Type 0 where
  pub number : ℕ
  pub message : Message
  pub given : Given
  pub is : e ≡ Delivered number (Answer given.content given.names)
  pub was_sent : sent number J ≡ Some message
  pub receiver : message.receiver ≡ n
  pub low : version n J ≤ message.version
  pub raises : version n (e ∷ J) ≡ message.version
  pub show : (b : Bucket) → message.body ≡ Read b → MayShow J n b given
  pub show_one : (id : Id) → message.body ≡ ReadDoc id → given.content id ≡ store n id J
  pub may_delete : (b : Bucket) (s : ℕ) → message.body ≡ Delete b s → acceptable n b s J ≡ true
  pub stores : (id : Id) → store n id (e ∷ J) ≡ after_body id message.body (store n id J)
  pub serials : (b : Bucket) (s : ℕ) → acceptable n b s (e ∷ J) ≡ still message.body given.names b s (acceptable n b s J)
  pub pieces : (key : ℕ) → holds n key (e ∷ J) ≡ has_piece key message.body (holds n key J)
  pub takes : MayTake (pieces_of n J) message.body
  pub shapes : pieces_of n (e ∷ J) ≡ pieces_after message.body (pieces_of n J)

pub record Leaves (J : Journal) (e : Event) (n : ℕ) : Type 0 where
  pub stores : (id : Id) → store n id (e ∷ J) ≡ store n id J
  pub serials : (b : Bucket) (s : ℕ) → acceptable n b s (e ∷ J) ≡ acceptable n b s J
  pub pieces : (key : ℕ) → holds n key (e ∷ J) ≡ holds n key J
  pub shapes : pieces_of n (e ∷ J) ≡ pieces_of n J

-- an answered message is accepted at its receiver
pub accepts-at : (J : Journal) (k : ℕ) (g : Given) (m : Message) (n : ℕ) → MayDeliver J k (Answer g.content g.names) → sent k J ≡ Some m → m.receiver ≡ n → (a : Accepts J (Delivered k (Answer g.content g.names)) n) × (a.message ≡ m) × (a.given ≡ g)
accepts-at J k g m n p s to = (
  record {
    number = k;
    message = m;
    given = g;
    is = refl;
    was_sent = s;
    receiver = to;
    low = low;
    raises = rw (s, here) (let q : version n J ≤ m.version = low in omega arith);
    show = λ b h. subst (λ (i : ℕ). MayShow J i b g) to (replies.show b h);
    show_one = λ id h. replies.show_one id h ∙ ap (λ (i : ℕ). store i id J) to;
    may_delete = λ b d h. subst (λ (i : ℕ). acceptable i b d J ≡ true) to (replies.may_delete b d h);
    stores = λ id. rw (s, here) refl;
    serials = λ b d. rw (s, here) refl;
    pieces = λ key. rw (s, here) refl;
    takes = subst (λ (i : ℕ). MayTake (pieces_of i J) m.body) to replies.takes;
    shapes = rw (s, here) refl;
  },
  refl,
  refl,
)
  where
    same : p.message ≡ m
    same = let w = p.was_sent in cc

    replies : MayAnswer J m g
    replies = subst (λ (y : Message). MayAnswer J y g) same p.reply

    here : eqb m.receiver n ≡ true
    here = eq-eqb m.receiver n to

    low : version n J ≤ m.version
    low = subst (λ (i : ℕ). version i J ≤ m.version) to replies.low

pub effect : (J : Journal) (e : Event) (acks : ℕ) (P : ℕ → ℕ → Bool) → Permits acks P J e → (n : ℕ) → Leaves J e n ⊎ Accepts J e n
effect J (Delivered k (Answer x t)) acks P p n = by_case (eqb (p.message).receiver n) refl
  where
    by_case : (b : Bool) → eqb (p.message).receiver n ≡ b → Leaves J (Delivered k (Answer x t)) n ⊎ Accepts J (Delivered k (Answer x t)) n
    by_case true e = inr (accepts-at J k (record { content = x; names = t }) p.message n p p.was_sent (eqb-true (p.message).receiver n e)).0
    by_case false e = inl (record { stores = λ id. rw (p.was_sent, e) refl; serials = λ b s. rw (p.was_sent, e) refl; pieces = λ key. rw (p.was_sent, e) refl; shapes = rw (p.was_sent, e) refl })
effect J (Delivered k (Newer w)) acks P p n = inl (record { stores = λ id. refl; serials = λ b s. refl; pieces = λ key. refl; shapes = refl })
effect J (Delivered k NoBucket) acks P p n = inl (record { stores = λ id. refl; serials = λ b s. refl; pieces = λ key. refl; shapes = refl })
effect J (Delivered k Differs) acks P p n = inl (record { stores = λ id. refl; serials = λ b s. refl; pieces = λ key. refl; shapes = refl })
effect J (Delivered k NoMemory) acks P p n = inl (record { stores = λ id. refl; serials = λ b s. refl; pieces = λ key. refl; shapes = refl })
effect J _ acks P p n = inl (record { stores = λ id. refl; serials = λ b s. refl; pieces = λ key. refl; shapes = refl })

-- a Read answered in this event
pub record ShownNow (n : ℕ) (b : Bucket) (g : Given) (J : Journal) (e : Event) : Type 0 where
  pub number : ℕ
  pub message : Message
  pub is : e ≡ Delivered number (Answer g.content g.names)
  pub was_sent : sent number J ≡ Some message
  pub receiver : message.receiver ≡ n
  pub body : message.body ≡ Read b
  pub first : first_reply number J ≡ None

pub shown-cases : (acks : ℕ) (P : ℕ → ℕ → Bool) (J : Journal) (e : Event) → Legal acks P (e ∷ J) → (v r n : ℕ) (b : Bucket) (g : Given) → Shown v r n b g (e ∷ J) → Shown v r n b g J ⊎ ((q : ShownNow n b g J e) × (q.message.version ≡ v) × (q.message.round ≡ r))
shown-cases acks P J e l v r n b g h =
    elim (first_reply-cases h.number J e (Answer g.content g.names) h.reply) [
      | inl old ↦ inl (record { number = h.number; message = h.message; was_sent = sent_before acks P J h.number e h.message (replied-sent acks P J l.0 h.number (Answer g.content g.names) old) h.was_sent; receiver = h.receiver; version = h.version; round = h.round; body = h.body; reply = old })
      | inr new ↦ inr (let d : MayDeliver J h.number (Answer g.content g.names) = rw new.0 at l.1 in (record { number = h.number; message = h.message; is = new.0; was_sent = sent_before acks P J h.number e h.message (d.message, d.was_sent) h.was_sent; receiver = h.receiver; body = h.body; first = new.1 }, h.version, h.round))
    ]

-- a node that answers a Read now has these in its Permits
pub shown-now : (acks : ℕ) (P : ℕ → ℕ → Bool) (J : Journal) (e : Event) → Permits acks P J e → (n : ℕ) (b : Bucket) (g : Given) → (q : ShownNow n b g J e) → (a : Accepts J e n) × (a.message ≡ q.message) × (a.given ≡ g)
shown-now acks P J e p n b g q = elim_is e q.is p
  where
    elim_is : (e : Event) → e ≡ Delivered q.number (Answer g.content g.names) → Permits acks P J e → (a : Accepts J e n) × (a.message ≡ q.message) × (a.given ≡ g)
    elim_is e is p = rw is (let d : MayDeliver J q.number (Answer g.content g.names) = rw is at p in accepts-at J q.number g q.message n d q.was_sent q.receiver)

-- ---- what leaves a serial acceptable

still-cases : (x : Body) (names : Bucket → ℕ → Bool) (c : Bucket) (s : ℕ) (old : Bool) → still x names c s old ≡ true → ((b : Bucket) × (x ≡ Read b) × (names c s ≡ true)) ⊎ (old ≡ true)
still-cases (Read b) names c s old h = by_case (names c s) refl h
  where
    by_case : (t : Bool) → names c s ≡ t → cond t true old ≡ true → ((d : Bucket) × (Read b ≡ Read d) × (names c s ≡ true)) ⊎ (old ≡ true)
    by_case true e h = inl (b, refl, e)
    by_case false e h = inr h
still-cases Ask names c s old h = inr h
still-cases (ReadDoc i) names c s old h = inr h
still-cases x names c s old h = grind (arith, nat_tests)

still-store : (x : Body) (names : Bucket → ℕ → Bool) (c : Bucket) (s : ℕ) (old : Bool) (id : Id) (had : Option Stamp) → still x names c s old ≡ true → contains c (key_of id) ≡ true → after_body id x had ≡ had
still-store (Store i t) names c s old id had h k = by_case (same_id i id) refl
  where
    by_case : (t' : Bool) → same_id i id ≡ t' → cond t' (newer (Some t) had) had ≡ had
    by_case true e = let x = same_id-true i id e in let z : contains c (key_of i) ≡ true = rw x k in let y : false ≡ true = rw z at h in cc
    by_case false e = refl
still-store (Apply b u) names c s old id had h k = by_case (contains b (key_of id)) refl
  where
    by_case : (t : Bool) → contains b (key_of id) ≡ t → cond t (newer (u id) had) had ≡ had
    by_case true e = let z = meets-by b c (key_of id) e k in let y : false ≡ true = rw z at h in cc
    by_case false e = refl
still-store (Delete b t) names c s old id had h k = by_case (contains b (key_of id)) refl
  where
    by_case : (t : Bool) → contains b (key_of id) ≡ t → cond t None had ≡ had
    by_case true e = let z = meets-by b c (key_of id) e k in let y : false ≡ true = rw z at h in cc
    by_case false e = refl
still-store _ names c s old id had h k = refl

-- if a serial is acceptable, it was acceptable before
pub acceptable-back : (acks : ℕ) (P : ℕ → ℕ → Bool) (J : Journal) (e : Event) → Permits acks P J e → (v r n : ℕ) (b : Bucket) (g : Given) (c : Bucket) (s : ℕ) → Shown v r n b g J → g.names c s ≡ true → acceptable n c s (e ∷ J) ≡ true →
    (acceptable n c s J ≡ true) × ((id : Id) → contains c (key_of id) ≡ true → store n id (e ∷ J) ≡ store n id J)
acceptable-back acks P J e p v r n b g c s h named a =
    elim (effect J e acks P p n) [
      | inl leaves ↦ (sym (leaves.serials c s) ∙ a, λ id k. leaves.stores id)
      | inr acts ↦ (
        elim (still-cases (acts.message).body (acts.given).names c s (acceptable n c s J) (sym (acts.serials c s) ∙ a)) [
          | inl read ↦ (acts.show read.0 read.1).serial c s read.2 v r b g h named
          | inr old ↦ old
        ],
        λ id k. acts.stores id ∙ still-store (acts.message).body (acts.given).names c s (acceptable n c s J) id (store n id J) (sym (acts.serials c s) ∙ a) k,
      )
    ]

-- what is not acceptable any more is never acceptable again
pub dead-stays : (acks : ℕ) (P : ℕ → ℕ → Bool) (J : Journal) (e : Event) → Permits acks P J e → (v r n : ℕ) (b : Bucket) (g : Given) (c : Bucket) (s : ℕ) → Shown v r n b g J → g.names c s ≡ true → acceptable n c s J ≡ false → acceptable n c s (e ∷ J) ≡ false
dead-stays acks P J e p v r n b g c s h named d = by_case (acceptable n c s (e ∷ J)) refl
  where
    by_case : (t : Bool) → acceptable n c s (e ∷ J) ≡ t → t ≡ false
    by_case true a = let x = (acceptable-back acks P J e p v r n b g c s h named a).0 in cc
    by_case false a = refl

-- while the serial is acceptable the node holds what was shown
pub named-shows : (acks : ℕ) (P : ℕ → ℕ → Bool) (J : Journal) → Legal acks P J → (v r n : ℕ) (b : Bucket) (g : Given) (c : Bucket) (s : ℕ) → Shown v r n b g J → g.names c s ≡ true → acceptable n c s J ≡ true →
    (id : Id) → contains b (key_of id) ≡ true → contains c (key_of id) ≡ true → store n id J ≡ g.content id
named-shows acks P [] l v r n b g c s h named a id i j = let f = h.reply in cc
named-shows acks P (e ∷ J) l v r n b g c s h named a id i j =
    elim (shown-cases acks P J e l v r n b g h) [
      | inl old ↦ let x = acceptable-back acks P J e l.1 v r n b g c s old named a in x.1 id j ∙ named-shows acks P J l.0 v r n b g c s old named x.0 id i j
      | inr new ↦ (let x = shown-now acks P J e l.1 n b g new.0 in
          let body : (x.0).message.body ≡ Read b = ap (λ (m : Message). m.body) x.1 ∙ (new.0).body in
          (x.0).stores id ∙ ap (λ (y : Body). after_body id y (store n id J)) body ∙ sym (((x.0).show b body).content id i) ∙ ap (λ (y : Given). y.content id) x.2)
    ]

-- ---- answers that were returned

pub record Parts (v r n : ℕ) (m : Option Message) (y : Option Reply) (g : Given) : Type 0 where
  pub message : Message
  pub is_message : m ≡ Some message
  pub version : message.version ≡ v
  pub round : message.round ≡ r
  pub receiver : message.receiver ≡ n
  pub bucket : Bucket
  pub body : message.body ≡ Read bucket
  pub reply : y ≡ Some (Answer g.content g.names)

giving : (g : Given) (y : Reply) → given_by y ≡ Some g → y ≡ Answer g.content g.names
giving g (Answer x names) f = let same : record { content = x; names = names } ≡ g = cc in ap (λ (z : Given). Answer z.content z.names) same
giving g _ f = cc

-- an answer to an Ask of the version
pub asked-parts : (v n : ℕ) (m : Option Message) (y : Option Reply) (g : Given) → asked_of v n m y ≡ Some g → (x : Message) × (m ≡ Some x) × (x.version ≡ v) × (y ≡ Some (Answer g.content g.names))
asked-parts v n None y g h = cc
asked-parts v n (Some m) None g h = cc
asked-parts v n (Some m) (Some y) g h = by_tests (is_ask m.body) (eqb m.version v) (eqb m.receiver n) refl h
  where
    by_tests : (a b c : Bool) → eqb m.version v ≡ b → cond a (cond b (cond c (given_by y) None) None) None ≡ Some g → (x : Message) × (◌≡◌ {A = Option Message} (Some m) (Some x)) × (x.version ≡ v) × (◌≡◌ {A = Option Reply} (Some y) (Some (Answer g.content g.names)))
    by_tests true true true e h = (m, refl, eqb-true m.version v e, ap (λ (z : Reply). Some z) (giving g y h))
    by_tests true true false e h = cc
    by_tests true false c e h = cc
    by_tests false b c e h = cc

pub answer_of-parts : (v r n : ℕ) (m : Option Message) (y : Option Reply) (g : Given) → answer_of v r n m y ≡ Some g → Parts v r n m y g
answer_of-parts v r n None y g h = cc
answer_of-parts v r n (Some m) None g h = cc
answer_of-parts v r n (Some m) (Some y) g h = by_case (is_read m.body) (eqb m.version v) (eqb m.round r) (eqb m.receiver n) refl refl refl refl h
  where
    reading : (b : Body) → is_read b ≡ true → (c : Bucket) × (b ≡ Read c)
    reading (Read c) e = (c, refl)
    reading _ e = cc

    by_case : (t a b c : Bool) → is_read m.body ≡ t → eqb m.version v ≡ a → eqb m.round r ≡ b → eqb m.receiver n ≡ c → cond t (cond a (cond b (cond c (given_by y) None) None) None) None ≡ Some g → Parts v r n (Some m) (Some y) g
    by_case true true true true e f i j h = record { message = m; is_message = refl; version = eqb-true _ _ f; round = eqb-true _ _ i; receiver = eqb-true _ _ j; bucket = (reading m.body e).0; body = (reading m.body e).1; reply = ap (λ (z : Reply). Some z) (giving g y h) }
    by_case true true true false e f i j h = cc
    by_case true true false c e f i j h = cc
    by_case true false b c e f i j h = cc
    by_case false a b c e f i j h = cc

pub record AnsweredNow (v r n : ℕ) (g : Given) (J : Journal) (e : Event) : Type 0 where
  pub number : ℕ
  pub is : e ≡ Returned number
  pub first : answer v r n J ≡ None
  pub bucket : Bucket
  pub shown : Shown v r n bucket g J

pub answer-cases : (v r n : ℕ) (J : Journal) (e : Event) (g : Given) → answer v r n (e ∷ J) ≡ Some g → (answer v r n J ≡ Some g) ⊎ AnsweredNow v r n g J e
answer-cases v r n J (Returned k) g h = elim (or_else-cases _ _ g h) [
  | inl old ↦ inl old
  | inr new ↦ inr (let p = answer_of-parts v r n (sent k J) (first_reply k J) g new.1 in record { number = k; is = refl; first = new.0; bucket = p.bucket; shown = record { number = k; message = p.message; was_sent = p.is_message; receiver = p.receiver; version = p.version; round = p.round; body = p.body; reply = p.reply } })
]
answer-cases v r n J _ g h = inl h

pub answer-shown : (v r n : ℕ) (J : Journal) (g : Given) → answer v r n J ≡ Some g → (b : Bucket) × Shown v r n b g J
answer-shown v r n [] g h = cc
answer-shown v r n (e ∷ J) g h = elim (answer-cases v r n J e g h) [
  | inl old ↦ let a = answer-shown v r n J g old in (a.0, Shown-stays v r n a.0 g J e a.1)
  | inr new ↦ (new.bucket, Shown-stays v r n new.bucket g J e new.shown)
]
