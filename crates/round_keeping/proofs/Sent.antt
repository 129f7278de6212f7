-- Which messages of a round were sent.
use Rattle.std.proofs.Common.{◌≡◌, ◌≢◌, ◌&&◌, ℕ, zero, suc, ◌+◌, ◌<◌, ◌≤◌, Bool, true, false, nat_lt, cond, [], ◌∷◌, Some, refl, sym, ap, ◌∙◌, subst, arith, inl, inr, eqb, eq-eqb}
use Rattle.std.proofs.lemmas.Bool.{eqb-true, cases_eq, cases_order}
use Rattle.std.proofs.lemmas.Bool.Decides.{nat_tests}
use Rattle.node_sets.specs.Members.{has_node, size_below}
use Rattle.merge_rounds.specs.Rounds.{IsNth}
use Rattle.lane_journals.specs.Buckets.{Bucket}
use Rattle.lane_journals.specs.Events.{Body, Read, Apply, Content, Event, Sent}
use Rattle.lane_journals.specs.Readers.{Journal, Message, Given, sent, is_read, answer, round_in, round_of, rounds}
use Rattle.lane_journals.specs.Facts.{Applied}
use Rattle.lane_journals.proofs.Basics.{or_else-cases, only_if-some, rounds-grow}
use Rattle.lane_journals.proofs.Serials.{answer-shown}
use Rattle.lane_keeping.specs.RoundKeeping.{was_sent, is_apply, is_of, is_among_first}

-- ---- the first members of a set

size-grows : (set a b : ℕ) → a ≤ b → size_below set a ≤ size_below set b
unfolding size_below
size-grows set a zero h = let z : a ≡ 0 = omega arith in subst (λ (i : ℕ). size_below set i ≤ 0) (sym z) (omega arith)
size-grows set a (suc b) h = elim (cases_eq a (suc b)) [
  | inl same ↦ (let e = ap (size_below set) same in omega arith)
  | inr other ↦ (let i = size-grows set a b (omega (arith, h, other)) in omega arith)
]

size-member : (set a : ℕ) → has_node set a ≡ true → size_below set (suc a) ≡ size_below set a + 1
unfolding size_below
size-member set a h = ap (λ (t : Bool). size_below set a + cond t 1 0) h

size-strict : (set a b : ℕ) → has_node set a ≡ true → a < b → size_below set a < size_below set b
size-strict set a b h less = let i = size-grows set (suc a) b (omega arith) in let e = size-member set a h in omega arith

-- two members before which there are as many are one
same-place : (set a b : ℕ) → has_node set a ≡ true → has_node set b ≡ true → size_below set a ≡ size_below set b → a ≡ b
same-place set a b p q e = elim (cases_order a b) [
  | inl same ↦ same
  | inr other ↦ elim other [
    | inl less ↦ (let i = size-strict set a b p less in absurd (omega arith))
    | inr more ↦ (let i = size-strict set b a q more in absurd (omega arith))
  ]
]

pub among-none : (set n : ℕ) → is_among_first set 0 n ≡ false
among-none set n = by (has_node set n) (size_below set n)
  where
    by : (t : Bool) (k : ℕ) → (t && nat_lt k 0) ≡ false
    by true k = grind (arith, nat_tests)
    by false k = refl

pub among-next : (set many m n : ℕ) → IsNth set many m → is_among_first set (many + 1) n ≡ cond (eqb m n) true (is_among_first set many n)
among-next set many m n nth = by (eqb m n) refl
  where
    here : (set n many : ℕ) → has_node set n ≡ true → size_below set n ≡ many → is_among_first set (many + 1) n ≡ true
    here set n many h e = rw (h, e) (grind (arith, nat_tests))

    apart : (k many : ℕ) → k ≢ many → nat_lt k (many + 1) ≡ nat_lt k many
    apart k many h = grind (arith, nat_tests)

    off : (t : Bool) → has_node set n ≡ t → eqb m n ≡ false → (t && nat_lt (size_below set n) (many + 1)) ≡ (t && nat_lt (size_below set n) many)
    off false e f = refl
    off true e f = apart (size_below set n) many (λ is. let same = same-place set m n nth.member e (nth.place ∙ sym is) in let g = eq-eqb m n same in let z : true ≡ false = sym g ∙ f in cc)

    by : (t : Bool) → eqb m n ≡ t → is_among_first set (many + 1) n ≡ cond t true (is_among_first set many n)
    by true e = let same = eqb-true m n e in here set n many (ap (has_node set) (sym same) ∙ nth.member) (ap (size_below set) (sym same) ∙ nth.place)
    by false e = off (has_node set n) refl e

-- the one whose turn it is isn't among them yet
pub among-turn : (set many m : ℕ) → IsNth set many m → is_among_first set many m ≡ false
among-turn set many m nth = rw (nth.member, nth.place) (same many)
  where
    same : (k : ℕ) → nat_lt k k ≡ false
    same k = grind (arith, nat_tests)

-- ---- messages

pub sent-passes : (test : Message → Bool) (H : Journal) (k : ℕ) (m : Message) → sent k H ≡ Some m → test m ≡ true → was_sent test H ≡ true
sent-passes test [] k m h t = cc
sent-passes test (Sent n v d to b ∷ H) k m h t = elim (or_else-cases _ _ m h) [
  | inl old ↦ by (test (record { version = v; receiver = to; body = b; round = round_in v b H })) (sent-passes test H k m old t)
  | inr new ↦ (let is = only_if-some _ _ m new.1 in ap (λ (x : Bool). cond x true (was_sent test H)) (ap test is.1 ∙ t))
]
  where
    by : (x : Bool) → was_sent test H ≡ true → cond x true (was_sent test H) ≡ true
    by true i = refl
    by false i = i
sent-passes test (_ ∷ H) k m h t = sent-passes test H k m h t

pub passes : (kind : Body → Bool) (v number n : ℕ) (m : Message) → kind m.body ≡ true → m.version ≡ v → m.round ≡ number → m.receiver ≡ n → is_of kind v number n m ≡ true
passes kind v number n m k e f g = rw (k, eq-eqb m.version v e, eq-eqb m.round number f, eq-eqb m.receiver n g) refl

-- an answer to a Read of the round comes of one that was sent
pub answered-read : (v number n : ℕ) (H : Journal) (g : Given) → answer v number n H ≡ Some g → was_sent (is_of is_read v number n) H ≡ true
answered-read v number n H g h =
    let a = answer-shown v number n H g h in
    let s = a.1 in
    sent-passes (is_of is_read v number n) H s.number s.message s.was_sent (passes is_read v number n s.message (ap is_read s.body) s.version s.round s.receiver)

pub applied-sent : (v number n : ℕ) (b : Bucket) (u : Content) (H : Journal) → Applied v number n b u H → was_sent (is_of is_apply v number n) H ≡ true
applied-sent v number n b u H a = sent-passes (is_of is_apply v number n) H a.number a.message a.was_sent (passes is_apply v number n a.message (ap is_apply a.body) a.version a.round a.receiver)

-- ---- nothing was sent in a round that is to begin

round_of-low : (v : ℕ) (b : Bucket) (H : Journal) → round_of v b H ≤ rounds v H
round_of-low v b [] = omega arith
round_of-low v b (e ∷ H) = one e (round_of-low v b H)
  where
    one : (e : Event) → round_of v b H ≤ rounds v H → round_of v b (e ∷ H) ≤ rounds v (e ∷ H)
    one e h = grind arith

round_in-low : (v : ℕ) (x : Body) (H : Journal) → round_in v x H ≤ rounds v H
round_in-low v (Read b) H = round_of-low v b H
round_in-low v (Apply b u) H = round_of-low v b H
round_in-low v _ H = omega arith

pub unsent-yet : (kind : Body → Bool) (v number n : ℕ) (H : Journal) → rounds v H < number → was_sent (is_of kind v number n) H ≡ false
unsent-yet kind v number n [] h = refl
unsent-yet kind v number n (Sent k w d to x ∷ H) h = rw (later (kind x) (eqb w v) refl) (unsent-yet kind v number n H h)
  where
    other : (i : ℕ) → i < number → eqb i number ≡ false
    other i l = grind (arith, nat_tests)

    later : (a b : Bool) → eqb w v ≡ b → (((a && b) && eqb (round_in w x H) number) && eqb to n) ≡ false
    later false b e = refl
    later true false e = refl
    later true true e = rw (other (round_in w x H) (let same = eqb-true w v e in let low = round_in-low w x H in let is = ap (λ (i : ℕ). rounds i H) same in omega arith)) refl
unsent-yet kind v number n (e ∷ H) h = unsent-yet kind v number n H (below (rounds v H) (rounds v (e ∷ H)) number (rounds-grow v H e) h)
  where
    below : (a b c : ℕ) → a ≤ b → b < c → a < c
    below a b c h k = omega arith
