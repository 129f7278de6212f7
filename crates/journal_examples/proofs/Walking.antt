-- What holds of each message and each reply of a journal that is written out.
use Rattle.std.proofs.Common.{◌≡◌, ℕ, ◌<◌, Bool, true, false, cond, [], ◌∷◌, Option, Some, None, refl, sym, ap, ◌∙◌, subst, arith, inl, inr, ◌⊎◌, eqb, eq-eqb}
use Rattle.std.proofs.lemmas.Bool.{eqb-true}
use Rattle.lane_journals.specs.Stamps.{Stamp}
use Rattle.lane_journals.specs.Buckets.{Id, Bucket}
use Rattle.lane_journals.specs.Events.{Content, Body, Read, ReadDoc, Apply, Reply, Answer, Begun, Sent, Delivered, Returned}
use Rattle.lane_journals.specs.Readers.{Journal, Beginning, began, closed, Message, round_in, sent, first_reply, is_read, Given, asked, is_store, answers, stored_by, answered_store}
use Rattle.lane_journals.specs.Facts.{Shown, Applied, AnsweredApply, Idle, WasAsked}
use Rattle.lane_journals.proofs.Serials.{asked-parts}
use Rattle.lane_journals.proofs.Basics.{or_else-cases, only_if-some}

-- what an answer without entries shows
abbrev pub no_content : Content
no_content i = None

-- ---- each message

abbrev pub EachSent : (Message → Type 0) → Journal → Type 0
EachSent Q [] = Unit {0}
EachSent Q (Sent k v d n b ∷ J) = Q (record { version = v; receiver = n; body = b; round = round_in v b J }) × EachSent Q J
EachSent Q (_ ∷ J) = EachSent Q J

pub each-sent : (Q : Message → Type 0) (J : Journal) → EachSent Q J → (k : ℕ) (m : Message) → sent k J ≡ Some m → Q m
each-sent Q [] q k m h = cc
each-sent Q (Sent n v d to b ∷ J) q k m h = elim (or_else-cases _ _ m h) [
  | inl old ↦ each-sent Q J q.1 k m old
  | inr new ↦ subst Q (only_if-some _ _ m new.1).1 q.0
]
each-sent Q (_ ∷ J) q k m h = each-sent Q J q k m h

-- each message has a smaller number
abbrev pub NumbersBelow : ℕ → Journal → Type 0
NumbersBelow k [] = Unit {0}
NumbersBelow k (Sent n v d to body ∷ J) = (n < k) × NumbersBelow k J
NumbersBelow k (_ ∷ J) = NumbersBelow k J

pub numbers : (J : Journal) (k : ℕ) → NumbersBelow k J → (j : ℕ) (m : Message) → sent j J ≡ Some m → j < k
numbers [] k t j m h = cc
numbers (Sent n v d to body ∷ J) k t j m h = elim (or_else-cases _ _ m h) [
  | inl old ↦ numbers J k t.1 j m old
  | inr new ↦ (let o = only_if-some _ _ m new.1 in let x = eqb-true n j o.0 in let y = t.0 in omega arith)
]
numbers (_ ∷ J) k t j m h = numbers J k t j m h

-- no Apply of a round
abbrev pub NotOf : ℕ → ℕ → Message → Type 0
NotOf v r m = (b : Bucket) (u : Content) → m.body ≡ Apply b u → m.version ≡ v → m.round ≡ r → ⊥

pub unapplied : (J : Journal) (v r : ℕ) → EachSent (NotOf v r) J → (n : ℕ) (b : Bucket) (u : Content) → Applied v r n b u J → ⊥
unapplied J v r q n b u a = each-sent (NotOf v r) J q a.number a.message a.was_sent b u a.body a.version a.round

-- each Apply of a round goes to one of a set
abbrev pub GoesTo : ℕ → ℕ → (ℕ → Bool) → Message → Type 0
GoesTo v r set m = (b : Bucket) (u : Content) → m.body ≡ Apply b u → m.version ≡ v → m.round ≡ r → set m.receiver ≡ true

pub applied-to : (J : Journal) (v r : ℕ) (set : ℕ → Bool) → EachSent (GoesTo v r set) J → (n : ℕ) (b : Bucket) → AnsweredApply v r n b J → set n ≡ true
applied-to J v r set q n b a = subst (λ (i : ℕ). set i ≡ true) a.receiver (each-sent (GoesTo v r set) J q a.number a.message a.was_sent b a.union a.body a.version a.round)

-- no Read of a document
abbrev pub NotLook : Message → Type 0
NotLook m = (id : Id) → m.body ≡ ReadDoc id → ⊥

pub unasked : (J : Journal) → EachSent NotLook J → (line : ℕ) (b : Beginning) → WasAsked line b J → ⊥
unasked J q line b a = each-sent NotLook J q a.number a.message a.was_sent b.id a.body

-- no Store of an entry to a node
abbrev pub NotStore : Id → Stamp → ℕ → Message → Type 0
NotStore id s n m = (m.receiver ≡ n) → is_store id s m.body ≡ false

pub unstored : (J W : Journal) (v : ℕ) (id : Id) (s : Stamp) (n : ℕ) → EachSent (NotStore id s n) J → answered_store v id s n J ≡ true → ⊥
unstored [] W v id s n q h = cc
unstored (Returned k ∷ J) W v id s n q h = by_case (stored_by v id s n (sent k J) (first_reply k J)) refl h (unstored J W v id s n q)
  where
    stored : (o : Option Message) (y : Option Reply) → sent k J ≡ o → stored_by v id s n o y ≡ true → ⊥
    stored None y f e = cc
    stored (Some m) y f e = by_tests (eqb m.version v) (eqb m.receiver n) (is_store id s m.body) refl refl e
      where
        by_tests : (a b c : Bool) → eqb m.receiver n ≡ b → is_store id s m.body ≡ c → cond a (cond b (cond c (answers y) false) false) false ≡ true → ⊥
        by_tests true true true p r e = let x = each-sent (NotStore id s n) J q k m f (eqb-true m.receiver n p) in let z : true ≡ false = sym r ∙ x in cc
        by_tests true true false p r e = cc
        by_tests true false c p r e = cc
        by_tests false b c p r e = cc

    by_case : (t : Bool) → stored_by v id s n (sent k J) (first_reply k J) ≡ t → cond t true (answered_store v id s n J) ≡ true → (answered_store v id s n J ≡ true → ⊥) → ⊥
    by_case true e h ih = stored (sent k J) (first_reply k J) refl e
    by_case false e h ih = ih h
unstored (Sent k w d m b ∷ J) W v id s n q h = unstored J W v id s n q.1 h
unstored (_ ∷ J) W v id s n q h = unstored J W v id s n q h

-- ---- each line

-- each line that was begun is closed
abbrev pub LinesDone : Journal → Journal → Type 0
LinesDone W [] = Unit {0}
LinesDone W (Begun l d v id s ∷ J) = (closed l W ≡ true) × LinesDone W J
LinesDone W (_ ∷ J) = LinesDone W J

pub line-done : (W J : Journal) → LinesDone W J → (line : ℕ) (b : Beginning) → began line J ≡ Some b → closed line W ≡ true
line-done W [] q line b h = cc
line-done W (Begun l d v id s ∷ J) q line b h = elim (or_else-cases _ _ b h) [
  | inl old ↦ line-done W J q.1 line b old
  | inr new ↦ subst (λ (i : ℕ). closed i W ≡ true) (eqb-true l line (only_if-some _ _ b new.1).0) q.0
]
line-done W (_ ∷ J) q line b h = line-done W J q line b h

pub idle-done : (J : Journal) → LinesDone J J → (v : ℕ) (b : Bucket) → Idle v b J
idle-done J q v b line begin p o is = let c = line-done J J q line begin o.began in let u = o.unclosed in absurd (let z : true ≡ false = sym c ∙ u in cc)

-- ---- each answer

abbrev pub EachReply : (ℕ → Reply → Type 0) → Journal → Type 0
EachReply Q [] = Unit {0}
EachReply Q (Delivered k r ∷ J) = Q k r × EachReply Q J
EachReply Q (_ ∷ J) = EachReply Q J

pub each-reply : (Q : ℕ → Reply → Type 0) (J : Journal) → EachReply Q J → (k : ℕ) (r : Reply) → first_reply k J ≡ Some r → Q k r
each-reply Q [] q k r h = cc
each-reply Q (Delivered n y ∷ J) q k r h = elim (or_else-cases (first_reply k J) _ r h) [
  | inl old ↦ each-reply Q J q.1 k r old
  | inr new ↦ (let o = only_if-some _ _ r new.1 in subst (λ (z : Reply). Q k z) o.1 (subst (λ (i : ℕ). Q i y) (eqb-true n k o.0) q.0))
]
each-reply Q (_ ∷ J) q k r h = each-reply Q J q k r h

-- the reply names nothing, or isn't to a Read at the node
abbrev pub NotNamed : Journal → ℕ → ℕ → Reply → Type 0
NotNamed W n k (Answer x names) = ((c : Bucket) (s : ℕ) → names c s ≡ false) ⊎ ((m : Message) × (sent k W ≡ Some m) × ((is_read m.body ≡ false) ⊎ (eqb m.receiver n ≡ false)))
NotNamed W n k _ = Unit {0}

pub unnamed-yet : (J : Journal) (n : ℕ) → EachReply (NotNamed J n) J → (v r : ℕ) (d : Bucket) (g : Given) (c : Bucket) (s : ℕ) → Shown v r n d g J → g.names c s ≡ true → ⊥
unnamed-yet J n q v r d g c s h named = elim (each-reply (NotNamed J n) J q h.number (Answer g.content g.names) h.reply) [
  | inl none ↦ (let x = none c s in let z : false ≡ true = sym x ∙ named in cc)
  | inr other ↦ (let same : other.0 ≡ h.message = (let a = other.1 in let b = h.was_sent in cc) in elim other.2 [
    | inl x ↦ (let y : is_read (Read d) ≡ false = subst (λ (b : Body). is_read b ≡ false) (ap (λ (m : Message). m.body) same ∙ h.body) x in cc)
    | inr x ↦ (let y : other.0.receiver ≡ n = ap (λ (m : Message). m.receiver) same ∙ h.receiver in let z = eq-eqb (other.0).receiver n y in let w : true ≡ false = sym z ∙ x in cc)
  ])
]

-- an answer names one bucket at most
abbrev pub NamesOnly : Bucket → ℕ → Reply → Type 0
NamesOnly b k (Answer x names) = (c : Bucket) (s : ℕ) → names c s ≡ true → c ≡ b
NamesOnly b k _ = Unit {0}

-- so does what a node answered to an Ask
pub asked-only : (b : Bucket) (v n : ℕ) (J : Journal) → EachReply (NamesOnly b) J → (g : Given) → asked v n J ≡ Some g → (c : Bucket) (s : ℕ) → g.names c s ≡ true → c ≡ b
asked-only b v n [] q g h c s named = cc
asked-only b v n (Returned k ∷ J) q g h c s named = elim (or_else-cases (asked v n J) _ g h) [
  | inl old ↦ asked-only b v n J q g old c s named
  | inr new ↦ each-reply (NamesOnly b) J q k (Answer g.content g.names) (asked-parts v n (sent k J) (first_reply k J) g new.1).3 c s named
]
asked-only b v n (Delivered k r ∷ J) q g h c s named = asked-only b v n J q.1 g h c s named
asked-only b v n (_ ∷ J) q g h c s named = asked-only b v n J q g h c s named
