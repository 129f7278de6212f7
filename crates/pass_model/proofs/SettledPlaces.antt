-- What is left to do for a row while it is settled, node after node.
use Rattle.std.proofs.Common.{◌≡◌, ◌==◌, ◌&&◌, not, ◌<◌, ◌≤◌, ℕ, suc, Bool, true, false, cond, nat_lt, Option, Some, None, refl, sym, ap, ap₂, ◌∙◌, arith, eqb-true, if◌then◌else◌, ◌⊎◌, inl, inr}
use Rattle.std.proofs.lemmas.Bool.{cases_lt}
use Rattle.bucket_ids.specs.Buckets.{Low}
use Rattle.lane_journals.specs.Readers.{or_else}
use Rattle.lane_rest.specs.Sets.{any_below}
use Rattle.lane_rest.specs.Targets.{is_active}
use Rattle.pass_model.specs.Nodes.{Node, can_ready, ready_node}
use Rattle.pass_model.specs.Shapes.{Shape, Nothing, Same, Over, Inside, is_askew, is_same}
use Rattle.pass_model.specs.Rows.{Settings, Row, is_target}
use Rattle.pass_model.specs.Settling.{Place, needs_align, align, align_nodes, aligned, round_at, to_be_active, is_asked, if_ready, ready_at_row, activate_at, are_enough, does_delete, delete_shown, delete_at, settle}
use Rattle.pass_model.specs.Resting.{AreSettings}
use Rattle.proof_basics.proofs.Tests.{is_false}
use Rattle.proof_basics.proofs.Numbers.{same-nat, lt-to}
use Rattle.pass_model.proofs.Aligning.{any-at}
use Rattle.pass_model.specs.Turns.{align_one, ready_one, if_answered, decided, does_lose, unmarked}
use Rattle.pass_model.specs.Orders.{ActiveServes}
use Rattle.pass_model.proofs.Numbers.{lt-suc, lt-same, lt-zero}
use Rattle.pass_model.proofs.Walking.{from_node, tell_one, from-first, from-told, from-skipped, from-same, from-end}
use Rattle.pass_model.proofs.RoundedRows.{IsRounded, not-serving, target-serves, asked-target, chosen-target, unmarked-deletes}

module _ (s : Settings) where
  abbrev pub after_ready : Place → Place
  after_ready z = delete_at s (activate_at z)

  abbrev pub after_align : Place → Place
  after_align z = after_ready (ready_at_row s z)

  -- ---- align

  abbrev pub round_if : Bool → Place → Place
  round_if any z = if any then round_at s z else z

  abbrev pub align_told : ℕ → Place → Place
  align_told k x = record { nodes = from_node k (align_one s x.row) x.nodes; row = x.row }

  -- the nodes from a number on are still to be told
  abbrev pub align_from : ℕ → Place → Place
  align_from k x = round_if (any_below (needs_align s x.row) 32) (align_told k x)

  pub align-goes : (k : ℕ) (x : Place) → align_from k x ≡ align_from (suc k) (record { nodes = tell_one k (align_one s x.row) x.nodes; row = x.row })
  align-goes k x = ap (λ (ns : ℕ → Node). round_if (any_below (needs_align s x.row) 32) (record { nodes = ns; row = x.row })) (from-told k (align_one s x.row) x.nodes)

  align-none : (x : Place) (n : ℕ) → needs_align s x.row n ≡ false → (y : Node) → align_one s x.row n y ≡ y
  align-none x n h y = ap (λ t. cond t (aligned x.row.bucket (x.row.shown n) y) y) h

  -- ---- ready

  -- the node answered Ready, or will
  abbrev pub later_ready : Low → ℕ → Bool → (ℕ → Node) → Option ℕ → Option ℕ
  later_ready b k ready ns None = None
  later_ready b k ready ns (Some m) = if_answered (cond (nat_lt m k) ready (can_ready b (ns m))) (Some m)

  abbrev pub with_active : Option ℕ → Row → Row
  with_active o r = record {
    bucket = r.bucket;
    complete = r.complete;
    active = or_else r.active o;
    accepted = r.accepted;
    documents = r.documents;
    holders = r.holders;
    shown = r.shown;
  }

  abbrev pub ready_from : ℕ → Bool → Place → Place
  ready_from k ready x = record {
    nodes = from_node k (ready_one s x.row) x.nodes;
    row = with_active (later_ready x.row.bucket k ready x.nodes (to_be_active s x.row)) x.row;
  }

  pub ready-begins : (ready : Bool) (x : Place) → ready_at_row s x ≡ ready_from 0 ready x
  ready-begins ready x = ap₂ (λ (ns : ℕ → Node) (o : Option ℕ). record { nodes = ns; row = with_active o x.row }) (sym (from-first (ready_one s x.row) x.nodes)) (answers (to_be_active s x.row))
    where
      by_test : (t : Bool) (m : ℕ) → cond t (Some m) None ≡ if_answered t (Some m)
      by_test true m = refl
      by_test false m = refl

      answers : (o : Option ℕ) → if_ready x.row.bucket x.nodes o ≡ later_ready x.row.bucket 0 ready x.nodes o
      answers None = refl
      answers (Some m) = by_test (can_ready x.row.bucket (x.nodes m)) m ∙ sym (ap (λ t. if_answered (cond t ready (can_ready x.row.bucket (x.nodes m))) (Some m)) (lt-zero m))

  pub ready-goes : (k : ℕ) (ready : Bool) (x : Place) → ready_from k ready x
      ≡ ready_from (suc k) (cond (is_active (to_be_active s x.row) k) (can_ready x.row.bucket (x.nodes k)) ready) (record { nodes = tell_one k (ready_one s x.row) x.nodes; row = x.row })
  ready-goes k ready x = ap₂ (λ (ns : ℕ → Node) (o : Option ℕ). record { nodes = ns; row = with_active o x.row }) (from-told k (ready_one s x.row) x.nodes) (answers (to_be_active s x.row))
    where
      b : Low
      b = x.row.bucket

      by_tests : (m : ℕ) (y z : Node) (a c e : Bool) → c ≡ cond e true a → (e ≡ true → a ≡ false) → (e ≡ true → can_ready x.row.bucket (x.nodes k) ≡ can_ready x.row.bucket y)
          → cond a ready (can_ready x.row.bucket y) ≡ cond c (cond e (can_ready x.row.bucket (x.nodes k)) ready) (can_ready x.row.bucket (cond e z y))
      by_tests m y z true c true h o i = let bad : true ≡ false = o refl in cc
      by_tests m y z false c true h o i = sym (i refl) ∙ sym (ap (λ t. cond t (can_ready x.row.bucket (x.nodes k)) (can_ready x.row.bucket z)) h)
      by_tests m y z true c false h o i = sym (ap (λ t. cond t ready (can_ready x.row.bucket y)) h)
      by_tests m y z false c false h o i = sym (ap (λ t. cond t ready (can_ready x.row.bucket y)) h)

      answers : (o : Option ℕ) → later_ready x.row.bucket k ready x.nodes o ≡ later_ready x.row.bucket (suc k) (cond (is_active o k) (can_ready x.row.bucket (x.nodes k)) ready) (tell_one k (ready_one s x.row) x.nodes) o
      answers None = refl
      answers (Some m) = ap (λ t. if_answered t (Some m))
          (by_tests m (x.nodes m) (ready_one s x.row m (x.nodes m)) (nat_lt m k) (nat_lt m (suc k)) (m == k) (lt-suc m k) (lt-same m k) (λ e. ap (λ n. can_ready x.row.bucket (x.nodes n)) (sym (eqb-true m k e))))

  -- ---- delete

  abbrev pub delete_one : Row → ℕ → Node → Node
  delete_one r n x = cond (does_delete s r n) (delete_shown r.bucket (r.shown n) x) x

  abbrev pub marks_from : ℕ → Row → Row
  marks_from k r = record {
    bucket = r.bucket;
    complete = λ n. r.complete n && not (cond (nat_lt n k) false (does_lose s r n));
    active = r.active;
    accepted = r.accepted;
    documents = r.documents;
    holders = r.holders;
    shown = r.shown;
  }

  abbrev pub delete_from : ℕ → Place → Place
  delete_from k x = record { nodes = from_node k (delete_one x.row) x.nodes; row = marks_from k x.row }

  -- its mark fell, and the node is told next
  abbrev pub delete_next : ℕ → Place → Place
  delete_next k x = delete_from (suc k) (record { nodes = tell_one k (λ n. delete_shown x.row.bucket (x.row.shown n)) x.nodes; row = x.row })

  abbrev with_complete : (ℕ → Bool) → Row → Row
  with_complete complete r = record {
    bucket = r.bucket;
    complete = complete;
    active = r.active;
    accepted = r.accepted;
    documents = r.documents;
    holders = r.holders;
    shown = r.shown;
  }

  pub delete-begins : (x : Place) → delete_at s x ≡ delete_from 0 x
  delete-begins x = ap₂ (λ (ns : ℕ → Node) (complete : ℕ → Bool). record { nodes = ns; row = with_complete complete x.row }) (sym (from-first (delete_one x.row) x.nodes))
      (λ i n. x.row.complete n && not (sym (ap (λ t. cond t false (does_lose s x.row n)) (lt-zero n)) i))

  -- who loses the row isn't a target
  pub lost-other : (r : Row) (k : ℕ) → does_lose s r k ≡ true → (is_target s r k ≡ false) × (does_delete s r k ≡ true)
  lost-other r k h = by_tests (s.serving k) (is_target s r k) (are_enough s r k) (is_same (r.shown k)) h
    where
      by_tests : (a t e z : Bool) → ((a && not t && e) && z) ≡ true → (t ≡ false) × ((a && not t && e) ≡ true)
      by_tests true false true z h = (refl, refl)
      by_tests true true e z h = cc
      by_tests true false false z h = cc
      by_tests false t e z h = cc

  pub delete-loses : (k : ℕ) (x : Place) → IsRounded s x.row → does_lose s x.row k ≡ true → delete_from k x ≡ delete_next k (record { nodes = x.nodes; row = unmarked k x.row })
  delete-loses k x d h = ap₂ (λ (ns : ℕ → Node) (complete : ℕ → Bool). record { nodes = ns; row = with_complete complete x.row }) nodes (λ i n. marks n i)
    where
      r : Row
      r = x.row

      out : is_target s x.row k ≡ false
      out = (lost-other x.row k h).0

      same_deletes : (n : ℕ) → does_delete s (unmarked k x.row) n ≡ does_delete s x.row n
      same_deletes n = unmarked-deletes s k x.row d out n

      same_one : delete_one x.row ≡ delete_one (unmarked k x.row)
      same_one = λ i n y. cond (sym (same_deletes n) i) (delete_shown x.row.bucket (x.row.shown n) y) y

      by_test : (n : ℕ) (t : Bool) → (n == k) ≡ t → cond t (delete_one x.row n (x.nodes n)) (x.nodes n) ≡ cond t (delete_shown x.row.bucket (x.row.shown n) (x.nodes n)) (x.nodes n)
      by_test n true e = ap (λ t. cond t (delete_shown x.row.bucket (x.row.shown n) (x.nodes n)) (x.nodes n)) (ap (λ m. does_delete s x.row m) (eqb-true n k e) ∙ (lost-other x.row k h).1)
      by_test n false e = refl

      same_told : tell_one k (delete_one x.row) x.nodes ≡ tell_one k (λ n. delete_shown x.row.bucket (x.row.shown n)) x.nodes
      same_told = λ i n. by_test n (n == k) refl i

      nodes : from_node k (delete_one x.row) x.nodes ≡ from_node (suc k) (delete_one (unmarked k x.row)) (tell_one k (λ n. delete_shown x.row.bucket (x.row.shown n)) x.nodes)
      nodes = from-told k (delete_one x.row) x.nodes
          ∙ ap₂ (λ (f : ℕ → Node → Node) (ns : ℕ → Node). from_node (suc k) f ns) same_one same_told

      by_tests : (c l a e z : Bool) → z ≡ cond e true a → (e ≡ true → a ≡ false) → (e ≡ true → l ≡ true) → (c && not (cond a false l)) ≡ ((c && not e) && not (cond z false l))
      by_tests c l true true z f o i = let bad : true ≡ false = o refl in cc
      by_tests true l false true z f o i = ap (λ t. not t) (i refl)
      by_tests false l false true z f o i = refl
      by_tests true l a false z f o i = sym (ap (λ t. not (cond t false l)) f)
      by_tests false l a false z f o i = refl

      marks : (n : ℕ) → (x.row.complete n && not (cond (nat_lt n k) false (does_lose s x.row n))) ≡ ((x.row.complete n && not (n == k)) && not (cond (nat_lt n (suc k)) false (does_lose s (unmarked k x.row) n)))
      marks n = by_tests (x.row.complete n) (does_lose s x.row n) (nat_lt n k) (n == k) (nat_lt n (suc k)) (lt-suc n k) (lt-same n k) (λ e. ap (λ m. does_lose s x.row m) (eqb-true n k e) ∙ h)
          ∙ sym (ap (λ t. (x.row.complete n && not (n == k)) && not (cond (nat_lt n (suc k)) false (t && is_same (x.row.shown n)))) (same_deletes n))

  keeps : (b : Low) (z : Shape) (x : Node) → is_same z ≡ false → delete_shown b z x ≡ x
  keeps b Nothing x h = refl
  keeps b (Same k) x h = cc
  keeps b Over x h = refl
  keeps b Inside x h = refl

  pub delete-skips : (k : ℕ) (x : Place) → does_lose s x.row k ≡ false → delete_from k x ≡ delete_from (suc k) x
  delete-skips k x h = ap₂ (λ (ns : ℕ → Node) (complete : ℕ → Bool). record { nodes = ns; row = with_complete complete x.row }) (from-skipped k (delete_one x.row) x.nodes (λ y. by_test (does_delete s x.row k) y h)) (λ i n. marks n i)
    where
      by_test : (t : Bool) (y : Node) → (t && is_same (x.row.shown k)) ≡ false → cond t (delete_shown x.row.bucket (x.row.shown k) y) y ≡ y
      by_test true y e = keeps x.row.bucket (x.row.shown k) y e
      by_test false y e = refl

      by_tests : (c l a e z : Bool) → z ≡ cond e true a → (e ≡ true → l ≡ false) → (c && not (cond a false l)) ≡ (c && not (cond z false l))
      by_tests c l true true z f i = sym (ap (λ t. c && not (cond t false l)) f)
      by_tests c l false true z f i = ap (λ t. c && not t) (i refl) ∙ sym (ap (λ t. c && not (cond t false l)) f)
      by_tests c l a false z f i = sym (ap (λ t. c && not (cond t false l)) f)

      marks : (n : ℕ) → (x.row.complete n && not (cond (nat_lt n k) false (does_lose s x.row n))) ≡ (x.row.complete n && not (cond (nat_lt n (suc k)) false (does_lose s x.row n)))
      marks n = by_tests (x.row.complete n) (does_lose s x.row n) (nat_lt n k) (n == k) (nat_lt n (suc k)) (lt-suc n k) (λ e. ap (λ m. does_lose s x.row m) (eqb-true n k e) ∙ h)

-- ---- where all nodes are told

module _ (s : Settings) (sound : AreSettings s) where
  align-out : (x : Place) (n : ℕ) → 32 ≤ n → needs_align s x.row n ≡ false
  align-out x n le = ap (λ t. t && not (x.row.holders n) && is_askew (x.row.shown n)) (not-serving s sound n le)

  align-all : (x : Place) → align_told s 32 x ≡ x
  align-all x = ap (λ (ns : ℕ → Node). record { nodes = ns; row = x.row }) (from-end 32 (align_one s x.row) x.nodes (λ n le y. align-none s x n (align-out x n le) y))

  pub align-ends : (x : Place) → align_from s 32 x ≡ round_if s (any_below (needs_align s x.row) 32) x
  align-ends x = ap (λ (z : Place). round_if s (any_below (needs_align s x.row) 32) z) (align-all x)

  align-first : (x : Place) → align s x ≡ align_from s 0 x
  align-first x = by_test (any_below (needs_align s x.row) 32) refl
    where
      needs : any_below (needs_align s x.row) 32 ≡ false → (n : ℕ) → needs_align s x.row n ≡ false
      needs h n = elim (cases_lt n 32) [ inl less ↦ any-at (needs_align s x.row) 32 n less h | inr more ↦ align-out x n more ]

      by_test : (t : Bool) → any_below (needs_align s x.row) 32 ≡ t → cond t (round_at s (align_nodes s x)) x ≡ round_if s t (align_told s 0 x)
      by_test true e = ap (λ (ns : ℕ → Node). round_at s (record { nodes = ns; row = x.row })) (sym (from-first (align_one s x.row) x.nodes))
      by_test false e = ap (λ (ns : ℕ → Node). record { nodes = ns; row = x.row }) (sym (from-same 0 (align_one s x.row) x.nodes (λ n y. align-none s x n (needs e n) y)))

  pub settle-begins : (x : Place) → settle s x ≡ after_align s (align_from s 0 x)
  unfolding settle
  settle-begins x = ap (after_align s) (align-first x)

  pub ready-ends : (ready : Bool) (x : Place) → IsRounded s x.row → ActiveServes s x.row → ready_from s 32 ready x ≡ record { nodes = x.nodes; row = decided s ready x.row }
  ready-ends ready x d a = ap₂ (λ (ns : ℕ → Node) (o : Option ℕ). record { nodes = ns; row = with_active s o x.row })
      (from-end 32 (ready_one s x.row) x.nodes (λ n le y. ap (λ t. cond t (ready_node x.row.bucket y) y) (not_asked n le))) (answers (to_be_active s x.row) (λ n h. serving n (chosen-target s sound x.row d n h)))
    where
      serving : (n : ℕ) → is_target s x.row n ≡ true → n < 32
      serving n h = sound.few n (target-serves s sound x.row a n h)

      not_asked : (n : ℕ) → 32 ≤ n → is_asked s x.row n ≡ false
      not_asked n le = is_false (is_asked s x.row n) (λ h. let less = serving n (asked-target s sound x.row d n h) in absurd (omega (arith, le, less)))

      by_ready : (t : Bool) → None ≡ if_answered t None
      by_ready true = refl
      by_ready false = refl

      answers : (o : Option ℕ) → ((n : ℕ) → is_active o n ≡ true → n < 32) → later_ready s x.row.bucket 32 ready x.nodes o ≡ if_answered ready o
      answers None few = by_ready ready
      answers (Some m) few = ap (λ t. if_answered (cond t ready (can_ready x.row.bucket (x.nodes m))) (Some m)) (lt-to m 32 (few m (same-nat m)))

  pub delete-ends : (x : Place) → delete_from s 32 x ≡ x
  delete-ends x = ap₂ (λ (ns : ℕ → Node) (complete : ℕ → Bool). record { nodes = ns; row = with_complete s complete x.row })
      (from-end 32 (delete_one s x.row) x.nodes (λ n le y. ap (λ t. cond t (delete_shown x.row.bucket (x.row.shown n) y) y) (not_deleted n le))) (λ i n. marks n (cases_lt n 32) i)
    where
      not_deleted : (n : ℕ) → 32 ≤ n → does_delete s x.row n ≡ false
      not_deleted n le = ap (λ t. t && not (is_target s x.row n) && are_enough s x.row n) (not-serving s sound n le)

      by_mark : (c t : Bool) → (t ≡ false) → (c && not t) ≡ c
      by_mark true t e = ap (λ u. not u) e
      by_mark false t e = refl

      lost : (n : ℕ) → (n < 32) ⊎ (32 ≤ n) → cond (nat_lt n 32) false (does_lose s x.row n) ≡ false
      lost n (inl l) = ap (λ t. cond t false (does_lose s x.row n)) (lt-to n 32 l)
      lost n (inr m) = ap (λ t. cond (nat_lt n 32) false (t && is_same (x.row.shown n))) (not_deleted n m) ∙ same (nat_lt n 32)
        where
          same : (t : Bool) → cond t false false ≡ false
          same true = refl
          same false = refl

      marks : (n : ℕ) → (n < 32) ⊎ (32 ≤ n) → (x.row.complete n && not (cond (nat_lt n 32) false (does_lose s x.row n))) ≡ x.row.complete n
      marks n p = by_mark (x.row.complete n) (cond (nat_lt n 32) false (does_lose s x.row n)) (lost n p)
