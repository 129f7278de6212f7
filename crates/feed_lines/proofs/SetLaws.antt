-- Sets of the numbers of a list.
use Rattle.std.proofs.Common.{◌≡◌, ◌≢◌, ◌==◌, ◌&&◌, ◌||◌, ℕ, ◌^◌, ◌<◌, Bool, true, false, List, [], ◌∷◌, nat_lt, inl, inr, refl, sym, ap, ◌∙◌, eq-eqb, arith}
use Rattle.std.specs.List.{list_any}
use Rattle.std.specs.Int.{bit_at}
use Rattle.std.proofs.lemmas.Bool.{cases_eq}
use Rattle.std.proofs.lemmas.Bool.Decides.{nat_tests}
use Rattle.std.proofs.lemmas.Nat.Bits.{bit_at-pow_same, bit_at-pow_other}
use Rattle.node_sets.specs.Members.{has_node}
use Rattle.node_sets.proofs.Bits.{has_or, has_none}
use Rattle.feed_lines.specs.Values.{set_with, set_onto, set_of}

-- the set of one number
has_power : (node n : ℕ) → n < 32 → has_node (2 ^ node) n ≡ (n == node)
unfolding has_node
has_power node n h =
    let within : nat_lt n 32 ≡ true = grind (arith, nat_tests) in
    ap (λ t. t && bit_at (2 ^ node) n == 1) within
    ∙ elim (cases_eq n node) [
      | inl same ↦ ap (λ i. bit_at (2 ^ node) i == 1) same ∙ ap (λ x. x == 1) (bit_at-pow_same node) ∙ sym (eq-eqb n node same)
      | inr other ↦ ap (λ x. x == 1) (bit_at-pow_other node n other) ∙ sym (apart n node other)
    ]
  where
    apart : (n node : ℕ) → n ≢ node → (n == node) ≡ false
    apart n node h = grind (arith, nat_tests)

turned : (a b c : Bool) → ((a || b) || c) ≡ (a || (b || c))
turned true b c = refl
turned false b c = refl

has_onto : (set : ℕ) (nodes : List ℕ) (n : ℕ) → n < 32 → has_node (set_onto set nodes) n ≡ (has_node set n || list_any (λ node. n == node) nodes)
has_onto set [] n h = none (has_node set n)
  where
    none : (b : Bool) → b ≡ (b || false)
    none true = refl
    none false = refl
has_onto set (node ∷ nodes) n h =
    has_onto (set_with set node) nodes n h
    ∙ ap (λ b. b || list_any (λ node. n == node) nodes) (has_or set (2 ^ node) n ∙ ap (λ b. has_node set n || b) (has_power node n h))
    ∙ turned (has_node set n) (n == node) (list_any (λ node. n == node) nodes)

pub has_set_of : (nodes : List ℕ) (n : ℕ) → n < 32 → has_node (set_of nodes) n ≡ list_any (λ node. n == node) nodes
has_set_of nodes n h = has_onto 0 nodes n h ∙ ap (λ b. b || list_any (λ node. n == node) nodes) (has_none n)
