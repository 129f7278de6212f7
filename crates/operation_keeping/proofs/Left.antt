-- With each answer an operation has one message less to send.
use Rattle.std.proofs.Common.{◌≡◌, ◌≢◌, ℕ, zero, suc, ◌+◌, ◌<◌, ◌≤◌, Bool, true, false, cond, not, ◌&&◌, ◌||◌, Option, Some, None, inl, inr, refl, sym, ap, ap₂, ◌∙◌, subst, arith, eqb, eq-eqb}
use Rattle.std.proofs.lemmas.Bool.{cases_order}
use Rattle.node_sets.specs.Members.{has_node}
use Rattle.messages.specs.declared.message.Message.{Message}
use Rattle.messages.specs.declared.reply.Reply.{Reply}
use Rattle.op_machine.specs.declared.plan.Plan.{Plan}
use Rattle.op_machine.specs.declared.tally.Tally.{Tally}
use Rattle.op_machine.specs.declared.machine.Standing.{Standing}
use Rattle.op_machine.specs.Nodes.{first_node, count_below, count_nodes}
use Rattle.op_machine.specs.Judging.{looks}
use Rattle.op_machine.specs.Outcomes.{Answers, answers_of, waits, reader, Asks}
use Rattle.op_machine.specs.Standings.{next_at, IsAnswered, IsAnsweredBy}
use Rattle.op_machine.specs.Telling.{IsWith, IsCounted, IsTold}
use Rattle.op_machine.proofs.NodeLaws.{IsLeast, first_node-least, count_nodes-most}
use Rattle.proof_basics.proofs.Numbers.{apart}
use Rattle.operation_keeping.specs.Left.{left_by, messages_left}
use Rattle.operation_keeping.proofs.Judged.{NextMessage, ARead, AStore, next-message}

-- ---- a set without one node

module _ (p q : ℕ → Bool) (node : ℕ) (here : p node ≡ true) (gone : q node ≡ false) (same : (j : ℕ) → j ≢ node → q j ≡ p j) where
  below-same : (k : ℕ) → k ≤ node → count_below q k ≡ count_below p k
  unfolding count_below
  below-same zero le = refl
  below-same (suc k) le = ap₂ (λ a b. a + cond b 1 0) (below-same k (omega arith)) (same k (λ e. omega arith))

  below-less : (k : ℕ) → node < k → count_below q k + 1 ≡ count_below p k
  unfolding count_below
  below-less zero less = absurd (omega arith)
  below-less (suc k) less = elim (cases_order node k) [
    | inl is ↦ (let e = below-same k (omega arith) in at_node (q k) (p k) (count_below q k) (count_below p k) (ap q (sym is) ∙ gone) (ap p (sym is) ∙ here) e)
    | inr other ↦ elim other [
      | inl before ↦ past (q k) (p k) (count_below q k) (count_below p k) (same k (λ e. omega arith)) (below-less k before)
      | inr after ↦ absurd (omega arith)
    ]
  ]
    where
      at_node : (s t : Bool) (x y : ℕ) → s ≡ false → t ≡ true → x ≡ y → (x + cond s 1 0) + 1 ≡ y + cond t 1 0
      at_node false true x y f g e = omega arith
      at_node true t x y f g e = cc
      at_node false false x y f g e = cc

      past : (s t : Bool) (x y : ℕ) → s ≡ t → x + 1 ≡ y → (x + cond s 1 0) + 1 ≡ y + cond t 1 0
      past true true x y f e = omega arith
      past false false x y f e = omega arith
      past true false x y f e = cc
      past false true x y f e = cc

  count-less : node < 32 → count_nodes q + 1 ≡ count_nodes p
  unfolding count_nodes
  count-less less = below-less 32 less

-- ---- one more was told

waits-less : (p : Plan) (old new : Tally) (node : ℕ) → waits p (answers_of old) node ≡ true → node < 32 → IsWith node true old.told new.told → count_nodes (waits p (answers_of new)) + 1 ≡ count_nodes (waits p (answers_of old))
waits-less p old new node here small told = count-less (waits p (answers_of old)) (waits p (answers_of new)) node here gone same small
  where
    last : (x y : Bool) → y ≡ true → (x && not y) ≡ false
    last true true e = refl
    last false true e = refl
    last x false e = cc

    or_true : (x y : Bool) → y ≡ true → (x || y) ≡ true
    or_true true y e = refl
    or_true false y e = e

    or_none : (x y : Bool) → y ≡ false → (x || y) ≡ x
    or_none true y e = refl
    or_none false y e = e

    gone : waits p (answers_of new) node ≡ false
    gone = last (has_node p.recipients node) (has_node new.told node) (told node ∙ or_true (has_node old.told node) (eqb node node) (eq-eqb node node refl))

    same : (j : ℕ) → j ≢ node → waits p (answers_of new) j ≡ waits p (answers_of old) j
    same j off = ap (λ x. has_node p.recipients j && not x) (told j ∙ or_none (has_node old.told j) (eqb j node) (apart j node off))

reader-least : (p : Plan) (a : Answers) (n : ℕ) → reader p a ≡ Some n → (looks p.operation ≡ true) × IsLeast (waits p a) 0 32 n
reader-least p a n h = by_looks (looks p.operation) refl h
  where
    by_looks : (x : Bool) → looks p.operation ≡ x → cond x (first_node (waits p a)) None ≡ Some n → (x ≡ true) × IsLeast (waits p a) 0 32 n
    by_looks true e h = (refl, first_node-least (waits p a) n h)
    by_looks false e h = absurd (cc)

pub one-less : (t u : Standing) (m : Message) (r : Option Reply) → next_at t ≡ Asks m → IsAnswered m.receiver r t u → messages_left u + 1 ≡ messages_left t
one-less t u m r next a = ap (λ (q : Plan). left_by q (answers_of u.reads) (answers_of u.stores) + 1) a.plan ∙ by_next (next-message t m next)
  where
    by_next : NextMessage t m → left_by t.plan (answers_of u.reads) (answers_of u.stores) + 1 ≡ left_by t.plan (answers_of t.reads) (answers_of t.stores)
    by_next (ARead n first is) =
        let told : IsTold t.plan.operation.id m.receiver r t.reads u.reads × (u.stores ≡ t.stores) = subst (λ (o : Option ℕ). IsAnsweredBy o m.receiver r t u) first a.told in
        let least = reader-least t.plan (answers_of t.reads) n first in
        let less = waits-less t.plan t.reads u.reads n (least.1).here (least.1).within (subst (λ (i : ℕ). IsWith i true t.reads.told u.reads.told) (ap (λ (x : Message). x.receiver) is) ((told.0).counted).told) in
        sum (looks t.plan.operation) (count_nodes (waits t.plan (answers_of u.reads))) (count_nodes (waits t.plan (answers_of t.reads))) (count_nodes (waits t.plan (answers_of u.stores))) (count_nodes (waits t.plan (answers_of t.stores)))
        least.0 less (ap (λ (x : Tally). count_nodes (waits t.plan (answers_of x))) told.1)
      where
        sum : (x : Bool) (a b c d : ℕ) → x ≡ true → a + 1 ≡ b → c ≡ d → (cond x a 0 + c) + 1 ≡ cond x b 0 + d
        sum true a b c d e f g = omega arith
        sum false a b c d e f g = cc
    by_next (AStore n e over v first is) =
        let told : (u.reads ≡ t.reads) × IsCounted m.receiver r t.stores u.stores = subst (λ (o : Option ℕ). IsAnsweredBy o m.receiver r t u) over a.told in
        let least = first_node-least (waits t.plan (answers_of t.stores)) n first in
        let less = waits-less t.plan t.stores u.stores n least.here least.within (subst (λ (i : ℕ). IsWith i true t.stores.told u.stores.told) (ap (λ (x : Message). x.receiver) is) (told.1).told) in
        let reads = ap (λ (x : Tally). cond (looks t.plan.operation) (count_nodes (waits t.plan (answers_of x))) 0) told.0 in
        omega (arith, less, reads)

one-below : (p : ℕ → Bool) (node k : ℕ) → p node ≡ true → node < k → 1 ≤ count_below p k
unfolding count_below
one-below p node zero here less = absurd (omega arith)
one-below p node (suc k) here less = elim (cases_order node k) [
  | inl is ↦ one (p k) (count_below p k) (ap p (sym is) ∙ here)
  | inr other ↦ elim other [
    | inl before ↦ (let le = one-below p node k here before in more (cond (p k) 1 0) (count_below p k) le)
    | inr after ↦ absurd (omega arith)
  ]
]
  where
    one : (x : Bool) (n : ℕ) → x ≡ true → 1 ≤ n + cond x 1 0
    one true n e = omega arith
    one false n e = cc

    more : (x n : ℕ) → 1 ≤ n → 1 ≤ n + x
    more x n le = omega arith

some-node : (p : ℕ → Bool) (n : ℕ) → IsLeast p 0 32 n → 1 ≤ count_nodes p
unfolding count_nodes
some-node p n l = one-below p n 32 l.here l.within

pub one-left : (t : Standing) (m : Message) → next_at t ≡ Asks m → 1 ≤ messages_left t
one-left t m next = by_next (next-message t m next)
  where
    reads : (x : Bool) (a b : ℕ) → x ≡ true → 1 ≤ a → 1 ≤ cond x a 0 + b
    reads true a b e le = omega arith
    reads false a b e le = cc

    by_next : NextMessage t m → 1 ≤ messages_left t
    by_next (ARead n first is) = let l = reader-least t.plan (answers_of t.reads) n first in
        reads (looks t.plan.operation) (count_nodes (waits t.plan (answers_of t.reads))) (count_nodes (waits t.plan (answers_of t.stores))) l.0 (some-node (waits t.plan (answers_of t.reads)) n l.1)
    by_next (AStore n e over v first is) = let le = some-node (waits t.plan (answers_of t.stores)) n (first_node-least (waits t.plan (answers_of t.stores)) n first) in omega (arith, le)

pub few-left : (t : Standing) → messages_left t ≤ 64
few-left t = by_looks (looks t.plan.operation) (count_nodes (waits t.plan (answers_of t.reads))) (count_nodes (waits t.plan (answers_of t.stores))) (count_nodes-most (waits t.plan (answers_of t.reads))) (count_nodes-most (waits t.plan (answers_of t.stores)))
  where
    by_looks : (x : Bool) (a b : ℕ) → a ≤ 32 → b ≤ 32 → cond x a 0 + b ≤ 64
    by_looks true a b f g = omega arith
    by_looks false a b f g = omega arith
