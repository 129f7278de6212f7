-- Sets of nodes that are counted: recipients that answered, and those that didn't.
use Rattle.std.proofs.Common.{◌≡◌, ℕ, zero, suc, ◌+◌, ◌<◌, ◌≤◌, Bool, true, false, cond, not, ◌&&◌, nat_le, nat_lt, Option, Some, None, inl, inr, refl, sym, ap, ◌∙◌, arith}
use mathlib.Core.Bool.{true≢false}
use Rattle.std.proofs.lemmas.Bool.{cases_lt, and_parts}
use Rattle.std.proofs.lemmas.Bool.Decides.{nat_tests}
use Rattle.node_sets.specs.Members.{has_node, size_of}
use Rattle.node_sets.proofs.Bits.{past_bits}
use Rattle.op_machine.specs.declared.plan.Plan.{Plan}
use Rattle.op_machine.specs.Nodes as tests
use Rattle.op_machine.specs.Nodes.{first_node, count_nodes}
use Rattle.op_machine.specs.Outcomes.{Answers, waits, counts, lacks, has_enough, node_or_zero, absent_of, has_active}
use Rattle.op_machine.specs.Plans.{IsPlan, IsMember}
use Rattle.op_machine.proofs.NodeLaws.{first_node-least, first_node-all, size_of-count}
use Rattle.lane_journals.specs.Sets as sets
use Rattle.lane_journals.specs.Sets.{count}
use Rattle.lane_journals.proofs.Counts.{some_member}
use Rattle.proof_basics.proofs.Tests.{not_answered}

-- ---- the two counts

below_same : (p : ℕ → Bool) (k : ℕ) → tests.count_below p k ≡ sets.count_below p k
unfolding tests.count_below sets.count_below
below_same p zero = refl
below_same p (suc k) = let ih = below_same p k in step (cond (p k) 1 0) _ _ ih
  where
    step : (a b c : ℕ) → b ≡ c → b + a ≡ a + c
    step a b c e = omega arith

pub count_nodes-is : (p : ℕ → Bool) → count_nodes p ≡ count p
unfolding count_nodes count
count_nodes-is p = below_same p 32

pub size_of-is : (set : ℕ) → size_of set ≡ count (λ n. has_node set n)
size_of-is set = size_of-count set (λ n. has_node set n) (λ n. refl) ∙ count_nodes-is (λ n. has_node set n)

pub size_of-by : (set : ℕ) (p : ℕ → Bool) → ((n : ℕ) → has_node set n ≡ p n) → size_of set ≡ count p
size_of-by set p same = size_of-count set p same ∙ count_nodes-is p

-- ---- members

less_by : (n : ℕ) → nat_lt n 32 ≡ true → n < 32
less_by n e = grind (arith, nat_tests)

pub small : (set n : ℕ) → has_node set n ≡ true → n < 32
small set n h = elim (cases_lt n 32) [ inl less ↦ less | inr more ↦ less_by n (past_bits set n more ∙ h) ]

le_by : (a b : ℕ) → nat_le a b ≡ true → a ≤ b
le_by a b e = grind (arith, nat_tests)

lt_by : (a b : ℕ) → nat_le a b ≡ false → b < a
lt_by a b e = grind (arith, nat_tests)

pub enough-count : (p : Plan) (a : Answers) → has_enough p a ≡ true → p.acks ≤ count (counts p a)
enough-count p a h = let e = count_nodes-is (counts p a) in let le = le_by p.acks (count_nodes (counts p a)) h in omega (arith, e, le)

pub few-count : (p : Plan) (a : Answers) → has_enough p a ≡ false → count_nodes (counts p a) < p.acks
few-count p a h = lt_by p.acks (count_nodes (counts p a)) h

all-count : (set : ℕ) (answered : ℕ → Bool) → ((j : ℕ) → j < 32 → (has_node set j && not (answered j)) ≡ false) → (n : ℕ) → has_node set n ≡ (has_node set n && answered n)
all-count set answered none n = by_test (has_node set n) refl
  where
    yes : (t : Bool) → not t ≡ false → true ≡ t
    yes true e = refl
    yes false e = cc

    by_test : (t : Bool) → has_node set n ≡ t → t ≡ (t && answered n)
    by_test false e = refl
    by_test true e = yes (answered n) (sym (ap (λ x. x && not (answered n)) e) ∙ none n (small set n e))

-- where too few answered, some recipient lacks
some-lacks : (p : Plan) (a : Answers) → IsPlan p → count_nodes (counts p a) < p.acks → lacks p a (node_or_zero (first_node (lacks p a))) ≡ true
some-lacks p a plan few = by_first (first_node (lacks p a)) refl
  where
    by_first : (o : Option ℕ) → first_node (lacks p a) ≡ o → lacks p a (node_or_zero o) ≡ true
    by_first (Some n) e = (first_node-least (lacks p a) n e).here
    by_first None e =
        let same = size_of-count p.recipients (counts p a) (all-count p.recipients a.answered (first_node-all (lacks p a) e)) in
        let enough = plan.enough in
        absurd (omega (arith, same, enough, few))

pub absent-lacks : (p : Plan) (a : Answers) → IsPlan p → count_nodes (counts p a) < p.acks → lacks p a (absent_of p.active (lacks p a)) ≡ true
absent-lacks p a plan few = by_active p.active
  where
    by_test : (n : ℕ) (t : Bool) → lacks p a n ≡ t → lacks p a (cond t n (node_or_zero (first_node (lacks p a)))) ≡ true
    by_test n true e = e
    by_test n false e = some-lacks p a plan few

    by_active : (o : Option ℕ) → lacks p a (absent_of o (lacks p a)) ≡ true
    by_active None = some-lacks p a plan few
    by_active (Some n) = by_test n (lacks p a n) refl

-- where enough answered but the active node didn't, it is the absent one
pub active-absent : (p : Plan) (a : Answers) (active : Option ℕ) → IsMember active p.recipients → has_active active a.answered ≡ false
    → (active ≡ Some (absent_of active (lacks p a))) × (lacks p a (absent_of active (lacks p a)) ≡ true)
active-absent p a None member h = cc
active-absent p a (Some n) member h =
    let here : lacks p a n ≡ true = ap (λ t. t && not (a.answered n)) member ∙ ap not h in
    (ap (λ t. Some (cond t n (node_or_zero (first_node (lacks p a))))) (sym here), ap (λ t. lacks p a (cond t n (node_or_zero (first_node (lacks p a))))) here ∙ here)

pub lacks-parts : (p : Plan) (a : Answers) (n : ℕ) → lacks p a n ≡ true → (has_node p.recipients n ≡ true) × (a.answered n ≡ false)
lacks-parts p a n h = let x = and_parts (has_node p.recipients n) (not (a.answered n)) h in (x.0, not_answered (a.answered n) x.1)

pub waits-parts : (p : Plan) (a : Answers) (n : ℕ) → waits p a n ≡ true → (has_node p.recipients n ≡ true) × (a.told n ≡ false)
waits-parts p a n h = let x = and_parts (has_node p.recipients n) (not (a.told n)) h in (x.0, not_answered (a.told n) x.1)

-- once no recipient waits, one was told
pub some-told : (p : Plan) (a : Answers) → IsPlan p → first_node (waits p a) ≡ None → (n : ℕ) × (a.told n ≡ true)
unfolding count
some-told p a plan none =
    let size = size_of-is p.recipients in
    let enough = plan.enough in
    let some = plan.some in
    let x = some_member (λ n. has_node p.recipients n) 32 (omega (arith, size, enough, some)) in
    (x.0, told x.0 (a.told x.0) refl x.2 (first_node-all (waits p a) none x.0 x.1))
  where
    told : (n : ℕ) (t : Bool) → a.told n ≡ t → has_node p.recipients n ≡ true → (has_node p.recipients n && not (a.told n)) ≡ false → a.told n ≡ true
    told n true e h w = e
    told n false e h w = absurd (true≢false (sym (ap (λ x. x && not (a.told n)) h ∙ ap not e) ∙ w))
