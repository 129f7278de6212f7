-- The ideal order of a bucket as a list: its first complete member, and those that are to be ready.
use Rattle.std.proofs.Common.{◌≡◌, ◌∙◌, ◌==◌, ◌||◌, ◌≤◌, ℕ, zero, suc, Bool, true, false, cond, List, [], ◌∷◌, take, filter, Option, Some, None, eq-eqb, eqb-true, refl, sym, ap, subst, ◌⊎◌, inl, inr, arith, if◌then◌else◌}
use Rattle.std.specs.Prelude.{slice_index_or}
use mathlib.Core.Bool.{true≢false}
use Rattle.bucket_ids.specs.Buckets.{Low}
use Rattle.node_sets.specs.Members.{has_node}
use Rattle.cluster_states.specs.declared.cluster_state.ClusterState.{ClusterState}
use Rattle.cluster_states.specs.MarkTests.{is_up, counts}
use Rattle.cluster_states.specs.Publishing.{serves}
use Rattle.cluster_states.specs.declared.marks.Mark.{Mark}
use Rattle.cluster_states.specs.declared.marks.Mark.TheVariants.{Up, Down, Retired}
use Rattle.ideal_nodes.specs.Scores.{Has, IsRanked}
use Rattle.ideal_nodes.specs.Placement.{Precedes, IsIdeal}
use Rattle.ideal_nodes.proofs.Orders.{IsOrder, precedes_are_order}
use Rattle.ideal_nodes.proofs.StateMarks.{ideal_once}
use Rattle.distributor_part.specs.Targets.{IsAmongFirst, IsToBeActive, LacksComplete, AreToBeReady}
use Rattle.lane_journals.specs.Readers.{or_else}
use Rattle.lane_rest.specs.Targets.{is_member, is_active, is_target_in, first_targets}
use Rattle.pass_model.specs.Settling.{first_in}
use Rattle.proof_basics.proofs.Tests.{or_true, or_left, or_right, same-by}

-- ---- members of lists

member-has : (ns : List ℕ) (n : ℕ) → is_member ns n ≡ true → Has n ns
member-has [] n h = cc
member-has (m ∷ ns) n h = elim (or_true (m == n) (is_member ns n) h) [ inl here ↦ inl (sym (eqb-true m n here)) | inr later ↦ inr (member-has ns n later) ]

has-member : (ns : List ℕ) (n : ℕ) → Has n ns → is_member ns n ≡ true
has-member [] n h = absurd h
has-member (m ∷ ns) n (inl here) = or_left (m == n) (is_member ns n) (eq-eqb m n (sym here))
has-member (m ∷ ns) n (inr later) = or_right (m == n) (is_member ns n) (has-member ns n later)

-- ---- the first member in order

first-is : (before : ℕ → ℕ → Type 0) → IsOrder before → (p : ℕ → Bool) (n : ℕ) (ns : List ℕ) → IsRanked before ns → Has n ns → p n ≡ true → ((m : ℕ) → Has m ns → p m ≡ true → (m ≡ n) ⊎ before n m) → first_in ns p ≡ Some n
first-is before o p n [] r h e f = absurd h
first-is before o p n (m ∷ ms) r h e f = by_test (λ later. first-is before o p n ms r.1 later e (λ k i. f k (inr i))) (p m) refl
  where
    by_test : (Has n ms → first_in ms p ≡ Some n) → (t : Bool) → p m ≡ t → (if t then Some m else first_in ms p) ≡ Some n
    by_test rest true y = ap (λ (k : ℕ). Some k) (elim (f m (inl refl) y) [
      | inl same ↦ same
      | inr first ↦ elim h [ inl here ↦ sym here | inr later ↦ absurd (o.once n m first (r.0 n later)) ]
    ])
    by_test rest false y = elim h [
      | inl here ↦ absurd (true≢false (sym e ∙ (ap p here ∙ y)))
      | inr later ↦ rest later
    ]

first-none : (p : ℕ → Bool) (ns : List ℕ) → ((n : ℕ) → Has n ns → p n ≡ false) → first_in ns p ≡ None
first-none p [] h = refl
first-none p (m ∷ ms) h = ap (λ (t : Bool). if t then Some m else first_in ms p) (h m (inl refl)) ∙ first-none p ms (λ n i. h n (inr i))

-- and the other way round
first-back : (before : ℕ → ℕ → Type 0) (p : ℕ → Bool) (n : ℕ) (ns : List ℕ) → IsRanked before ns → first_in ns p ≡ Some n → Has n ns × (p n ≡ true) × ((m : ℕ) → Has m ns → p m ≡ true → (m ≡ n) ⊎ before n m)
first-back before p n [] r h = cc
first-back before p n (m ∷ ms) r h = by_test (λ e. first-back before p n ms r.1 e) (p m) refl h
  where
    by_test : (first_in ms p ≡ Some n → Has n ms × (p n ≡ true) × ((k : ℕ) → Has k ms → p k ≡ true → (k ≡ n) ⊎ before n k)) → (t : Bool) → p m ≡ t → (if t then Some m else first_in ms p) ≡ Some n
        → Has n (m ∷ ms) × (p n ≡ true) × ((k : ℕ) → Has k (m ∷ ms) → p k ≡ true → (k ≡ n) ⊎ before n k)
    by_test rest true y e =
        let same : m ≡ n = cc in
        (inl (sym same), ap p (sym same) ∙ y, λ k i t. elim i [ inl here ↦ inl (here ∙ same) | inr later ↦ inr (subst (λ (j : ℕ). before j k) same (r.0 k later)) ])
    by_test rest false y e =
        let x = rest e in
        (inr x.0, x.1, λ k i t. elim i [ inl here ↦ absurd (true≢false (sym t ∙ (ap p here ∙ y))) | inr later ↦ x.2 k later t ])

-- ---- the node to be active

module _ (b : Low) (state : ClusterState) (complete : ℕ) (ideal : List ℕ) (is_ideal : IsIdeal b state ideal) where
  pub to-be : (active : Option ℕ) (node : ℕ) → IsToBeActive state b complete active node → or_else active (first_in ideal (λ n. has_node complete n)) ≡ Some node
  to-be (Some a) node is = ap (λ (k : ℕ). Some k) is
  to-be None node is =
      let same : is.ideal ≡ ideal = ideal_once b state is.ideal ideal is.is_ideal is_ideal in
      let one = subst (λ (ns : List ℕ). Has node ns) same (is.is_first).listed in
      let firsts = subst (λ (ns : List ℕ). (m : ℕ) → Has m ns → has_node complete m ≡ true → (m ≡ node) ⊎ Precedes b state node m) same (is.is_first).first in
      first-is (Precedes b state) (precedes_are_order b state) (λ n. has_node complete n) node ideal is_ideal.ranked one (is.is_first).member firsts

  pub to-be-none : (active : Option ℕ) → active ≡ None → LacksComplete state b complete → or_else active (first_in ideal (λ n. has_node complete n)) ≡ None
  to-be-none active none lacks = ap (λ (a : Option ℕ). or_else a (first_in ideal (λ n. has_node complete n))) none ∙ first-none (λ n. has_node complete n) ideal (lacks ideal is_ideal)

  pub is-to-be : (active : Option ℕ) (node : ℕ) → or_else active (first_in ideal (λ n. has_node complete n)) ≡ Some node → IsToBeActive state b complete active node
  is-to-be (Some a) node h = let e : a ≡ node = cc in e
  is-to-be None node h =
      let x = first-back (Precedes b state) (λ n. has_node complete n) node ideal is_ideal.ranked h in
      record { ideal = ideal; is_ideal = is_ideal; is_first = record { listed = x.0; member = x.1; first = x.2 } }

-- ---- the nodes to be ready

active-is : (a : Option ℕ) (n : ℕ) → is_active a n ≡ true → a ≡ Some n
active-is None n h = cc
active-is (Some m) n h = ap (λ (k : ℕ). Some k) (eqb-true m n h)

is-active : (a : Option ℕ) (n : ℕ) → a ≡ Some n → is_active a n ≡ true
is-active a n h = ap (λ (o : Option ℕ). is_active o n) h ∙ eq-eqb n n refl

module _ (searchable : ℕ) (b : Low) (state : ClusterState) (complete set : ℕ) (active : Option ℕ) (ideal : List ℕ) (is_ideal : IsIdeal b state ideal) (are : AreToBeReady searchable state b complete active set) where
  abbrev be : Option ℕ
  be = or_else active (first_in ideal (λ n. has_node complete n))

  to-set : (n : ℕ) → (is_member (take searchable ideal) n || is_active be n) ≡ true → has_node set n ≡ true
  to-set n h = (are n).1 (elim (or_true (is_member (take searchable ideal) n) (is_active be n) h) [
    | inl among ↦ inl (record { ideal = ideal; is_ideal = is_ideal; among = member-has (take searchable ideal) n among })
    | inr act ↦ inr (is-to-be b state complete ideal is_ideal active n (active-is be n act))
  ])

  from-ready : (n : ℕ) → IsAmongFirst searchable state b n ⊎ IsToBeActive state b complete active n → (is_member (take searchable ideal) n || is_active be n) ≡ true
  from-ready n (inl x) = or_left (is_member (take searchable ideal) n) (is_active be n)
      (has-member (take searchable ideal) n (subst (λ (ns : List ℕ). Has n (take searchable ns)) (ideal_once b state x.ideal ideal x.is_ideal is_ideal) x.among))
  from-ready n (inr t) = or_right (is_member (take searchable ideal) n) (is_active be n) (is-active be n (to-be b state complete ideal is_ideal active n t))

  -- the part's set has just those that are listed
  pub ready-are : (n : ℕ) → has_node set n ≡ (is_member (take searchable ideal) n || is_active be n)
  ready-are n = same-by (has_node set n) (is_member (take searchable ideal) n || is_active be n) (λ h. from-ready n ((are n).0 h)) (to-set n)

-- ---- those that are asked serve

has-taken : (k : ℕ) (ns : List ℕ) (n : ℕ) → Has n (take k ns) → Has n ns
has-taken zero ns n h = absurd h
has-taken (suc k) [] n h = absurd h
has-taken (suc k) (m ∷ ns) n (inl here) = inl here
has-taken (suc k) (m ∷ ns) n (inr later) = inr (has-taken k ns n later)

has-more : (k l : ℕ) (ns : List ℕ) (n : ℕ) → k ≤ l → Has n (take k ns) → Has n (take l ns)
has-more zero l ns n h i = absurd i
has-more (suc k) zero ns n h i = let no : ⊥ = omega (arith, h) in absurd no
has-more (suc k) (suc l) [] n h i = absurd i
has-more (suc k) (suc l) (m ∷ ns) n h (inl here) = inl here
has-more (suc k) (suc l) (m ∷ ns) n h (inr later) = let less : k ≤ l = omega (arith, h) in inr (has-more k l ns n less later)

-- where a filter keeps the first, they are the first of what it keeps
take-filter : (p : ℕ → Bool) (k : ℕ) (ns : List ℕ) → ((n : ℕ) → Has n (take k ns) → p n ≡ true) → take k (filter p ns) ≡ take k ns
take-filter p zero ns h = refl
take-filter p (suc k) [] h = refl
take-filter p (suc k) (m ∷ ns) h =
    ap (λ (t : Bool). take (suc k) (cond t (m ∷ filter p ns) (filter p ns))) (h m (inl refl))
    ∙ ap (λ (ms : List ℕ). m ∷ ms) (take-filter p k ns (λ n i. h n (inr i)))

-- the first in ideal order are the first targets, where no more are asked for than there are to be copies
pub searched_are : (searchable redundancy : ℕ) → searchable ≤ redundancy → (ideal : List ℕ) (active : Option ℕ) → first_targets searchable redundancy ideal active ≡ take searchable ideal
searched_are searchable redundancy few ideal active = take-filter (is_target_in redundancy ideal active) searchable ideal
    (λ n i. or_left (is_member (take redundancy ideal) n) (is_active active n) (has-member (take redundancy ideal) n (has-more searchable redundancy ideal n few i)))

up-counts : (m : Mark) → is_up m ≡ true → counts true m ≡ true
up-counts Up h = refl
up-counts Down h = h
up-counts Retired h = refl

module _ (b : Low) (state : ClusterState) (ideal : List ℕ) (is_ideal : IsIdeal b state ideal) (complete : ℕ) (active : Option ℕ) (on : (n : ℕ) → active ≡ Some n → serves state n ≡ true) where
  ideal-serves : (n : ℕ) → Has n ideal → serves state n ≡ true
  ideal-serves n h = up-counts (slice_index_or state.nodes n Down) ((is_ideal.members n).1 h)

  first-serves : (a : Option ℕ) → active ≡ a → (n : ℕ) → or_else a (first_in ideal (λ m. has_node complete m)) ≡ Some n → serves state n ≡ true
  first-serves (Some m) e n h = let same : m ≡ n = cc in on n (e ∙ ap (λ (k : ℕ). Some k) same)
  first-serves None e n h = ideal-serves n (first-back (Precedes b state) (λ m. has_node complete m) n ideal is_ideal.ranked h).0

  -- the node that is to be active serves, and so does each that is asked
  pub be_serves : (n : ℕ) → or_else active (first_in ideal (λ m. has_node complete m)) ≡ Some n → serves state n ≡ true
  be_serves n h = first-serves active refl n h

  pub asked_serves : (searchable n : ℕ) → (is_member (take searchable ideal) n || is_active (or_else active (first_in ideal (λ m. has_node complete m))) n) ≡ true → serves state n ≡ true
  asked_serves searchable n h = elim (or_true (is_member (take searchable ideal) n) (is_active (or_else active (first_in ideal (λ m. has_node complete m))) n) h) [
    | inl first ↦ ideal-serves n (has-taken searchable ideal n (member-has (take searchable ideal) n first))
    | inr act ↦ be_serves n (active-is (or_else active (first_in ideal (λ m. has_node complete m))) n act)
  ]
