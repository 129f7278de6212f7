-- Ready, the decision, Activate and the Deletes of a row.
use Rattle.std.proofs.Common.{◌≡◌, ◌==◌, ◌&&◌, ◌||◌, not, ℕ, zero, suc, ◌≤◌, Bool, true, false, cond, List, [], ◌∷◌, filter, refl, sym, ap, ◌∙◌, subst, arith, inl, inr, Option, Some, None, eqb-true, take}
use Rattle.std.specs.List.{list_any}
use Rattle.bucket_ids.specs.Buckets.{Low, IsBucket, has_key}
use Rattle.lane_journals.proofs.Counts.{count_below-subset}
use Rattle.lane_journals.specs.Sets.{count}
use Rattle.lane_rest.specs.Targets.{is_active, is_member}
use Rattle.pass_model.specs.Nodes.{Node, activate_node, can_activate, can_ready, ready_node}
use Rattle.pass_model.specs.Shapes.{Fits, IsActiveOn, IsExact, IsReadied, IsSound}
use Rattle.pass_model.specs.Rows.{Row, Settings, is_first, is_target}
use Rattle.pass_model.specs.Settling.{Place, activate_at, activate_nodes, activate_row, could_activate, decide_row, first_in, if_ready, is_asked, ready_at_row, ready_nodes, to_be_active}
use Rattle.pass_model.specs.Resting.{AreSettings, IsRow, IsUnion}
use Rattle.pass_model.proofs.Rounded.{Ready, Rounded, Straight}
use Rattle.lane_journals.specs.Readers.{or_else}
use Rattle.lane_journals.specs.Buckets.{Id}
use Rattle.lane_journals.specs.Events.{Content}
use Rattle.proof_basics.proofs.Numbers.{same-nat}
use Rattle.proof_basics.proofs.Tests.{or_true, or_left, or_right, and_true, is_false, clash, both}
use Rattle.pass_model.proofs.Doubling.{ready-fits, ready-held, activate-fits, activate-ready, good-ready, good-activate, ready-regions, activate-key, activate-exact, activate-held}
use Rattle.pass_model.proofs.Effects.{ready-exact, can-activate}
use Rattle.pass_model.proofs.Unions.{union-same}
use Rattle.pass_model.proofs.Rows.{AllGood, if-true, if-false, if-both, target-serves}
use Rattle.pass_model.proofs.Aligning.{Fine, Aligned}

-- ---- lists of nodes

take-first : (k x : ℕ) (xs : List ℕ) → 1 ≤ k → is_member (take k (x ∷ xs)) x ≡ true
take-first zero x xs h = absurd (omega arith)
take-first (suc k) x xs h = or_left (x == x) (is_member (take k xs) x) (same-nat x)

pub member-take : (k : ℕ) (xs : List ℕ) (n : ℕ) → is_member (take k xs) n ≡ true → is_member xs n ≡ true
member-take zero xs n h = cc
member-take (suc k) [] n h = cc
member-take (suc k) (x ∷ xs) n h = elim (or_true (x == n) (is_member (take k xs) n) h) [ inl here ↦ or_left (x == n) (is_member xs n) here | inr later ↦ or_right (x == n) (is_member xs n) (member-take k xs n later) ]

pub member-filter : (p : ℕ → Bool) (xs : List ℕ) (n : ℕ) → is_member (filter p xs) n ≡ true → p n ≡ true
member-filter p [] n h = cc
member-filter p (x ∷ xs) n h = by_test (p x) refl h (λ g. member-filter p xs n g)
  where
    by_test : (t : Bool) → p x ≡ t → is_member (cond t (x ∷ filter p xs) (filter p xs)) n ≡ true → (is_member (filter p xs) n ≡ true → p n ≡ true) → p n ≡ true
    by_test true e h ih = elim (or_true (x == n) (is_member (filter p xs) n) h) [ inl here ↦ subst (λ m. p m ≡ true) (eqb-true x n here) e | inr later ↦ ih later ]
    by_test false e h ih = ih h

pub count-more : (p q : ℕ → Bool) → ((n : ℕ) → p n ≡ true → q n ≡ true) → count p ≤ count q
unfolding count
count-more p q h = count_below-subset p q 32 h

-- ---- who is to be active

decided-by : (b : Low) (ns : ℕ → Node) (a f : Option ℕ) (node : ℕ) → or_else a f ≡ Some node → can_ready b (ns node) ≡ true → or_else a (if_ready b ns (or_else a f)) ≡ Some node
decided-by b ns (Some x) f node h c = h
decided-by b ns None f node h c = ap (λ o. if_ready b ns o) h ∙ ap (λ t. cond t (Some node) None) c

some-same : (x y : ℕ) → Some x ≡ Some y → x ≡ y
some-same x y e = cc

pub active-same : (o : Option ℕ) (node n : ℕ) → o ≡ Some node → is_active o n ≡ true → node ≡ n
active-same o node n e h = eqb-true node n (subst (λ a. is_active a n ≡ true) e h)

pub active-is : (o : Option ℕ) (node : ℕ) → o ≡ Some node → is_active o node ≡ true
active-is o node e = subst (λ a. is_active a node ≡ true) (sym e) (same-nat node)

target-same : (first : ℕ → Bool) (a f b : Option ℕ) (node n : ℕ) → or_else a f ≡ Some node → b ≡ Some node → (a ≡ None → first node ≡ true) → (first n || is_active b n) ≡ (first n || is_active a n)
target-same first (Some x) f b node n h e g = ap (λ o. first n || is_active o n) (e ∙ sym h)
target-same first None f b node n h e g = ap (λ o. first n || is_active o n) e ∙ by_test (node == n) refl
  where
    both_true : first n ≡ true → (first n || true) ≡ (first n || false)
    both_true k = ap (λ t. t || true) k ∙ sym (ap (λ t. t || false) k)

    by_test : (t : Bool) → (node == n) ≡ t → (first n || t) ≡ (first n || false)
    by_test true q = both_true (subst (λ m. first m ≡ true) (eqb-true node n q) (g refl))
    by_test false q = refl

module _ (s : Settings) (sound : AreSettings s) (U : Content) where
  pub best-is-first : (b : Low) → is_first s b (sound.best b) ≡ true
  best-is-first b = let e = sound.best_first b in subst (λ (l : List ℕ). is_member (take s.redundancy l) (sound.best b) ≡ true) (sym e.1) (take-first s.redundancy (sound.best b) e.0 sound.redundant)

  record Chosen (r : Row) : Type 0 where
    pub node : ℕ
    pub is : to_be_active s r ≡ Some node
    pub target : is_target s r node ≡ true
    pub first : r.active ≡ None → is_first s r.bucket node ≡ true

  first-found : (b : Low) (p : ℕ → Bool) → p (sound.best b) ≡ true → first_in (s.ideal b) p ≡ Some (sound.best b)
  first-found b p h = let e = sound.best_first b in subst (λ (l : List ℕ). first_in l p ≡ Some (sound.best b)) (sym e.1) (ap (λ t. cond t (Some (sound.best b)) (first_in e.0 p)) h)

  chosen : (ns : ℕ → Node) (r : Row) → Rounded s U ns r → Chosen r
  chosen ns r d = by_active r.active refl
    where
      by_active : (a : Option ℕ) → r.active ≡ a → Chosen r
      by_active (Some x) e = record {
        node = x;
        is = ap (λ o. or_else o (first_in (s.ideal r.bucket) r.complete)) e;
        target = or_right (is_first s r.bucket x) (is_active r.active x) (active-is r.active x e);
        first = λ n. let bad : Some x ≡ None = sym e ∙ n in absurd (cc);
      }
      by_active None e =
          let b = r.bucket in
          let t = or_left (is_first s b (sound.best b)) (is_active r.active (sound.best b)) (best-is-first b) in
          record {
            node = sound.best b;
            is = ap (λ o. or_else o (first_in (s.ideal b) r.complete)) e ∙ first-found b r.complete (d.complete (sound.best b) t);
            target = t;
            first = λ n. best-is-first b;
          }

  -- the row after the decision, with the nodes after Ready
  pub record Prepared (x : Place) : Type 0 where
    pub fine : Fine s U x.nodes x.row
    pub rounded : Rounded s U x.nodes x.row
    pub straight : Straight s x.row
    pub ready : Ready s x.nodes x.row

  pub ready-row : (x : Place) → Aligned s sound U x → Prepared (ready_at_row s x)
  ready-row x a = record {
    fine = record { good = good; union = union; row = row };
    rounded = rounded;
    straight = λ n h f. a.straight n h (sym (same n) ∙ f);
    ready = record {
      node = c.node;
      decided = decided;
      active_ready = asked-ready c.node (or_right (is_member firsts c.node) (is_active (to_be_active s r) c.node) (active-is (to_be_active s r) c.node c.is));
      first_ready = λ n h. asked-ready n (or_left (is_member firsts n) (is_active (to_be_active s r) n) (subst (λ (p : ℕ → Bool). is_member (take s.searchable (filter p (s.ideal b))) n ≡ true) (λ i m. same m i) h));
    };
  }
    where
      r : Row
      r = x.row

      b : Low
      b = x.row.bucket

      ns : ℕ → Node
      ns = x.nodes

      d : Rounded s U x.nodes x.row
      d = a.rounded

      c : Chosen x.row
      c = chosen x.nodes x.row a.rounded

      firsts : List ℕ
      firsts = take s.searchable (filter (is_target s x.row) (s.ideal x.row.bucket))

      ok : IsBucket x.row.bucket
      ok = a.fine.row.valid

      decided : (decide_row s x.row x.nodes).active ≡ Some c.node
      decided = decided-by x.row.bucket x.nodes x.row.active (first_in (s.ideal x.row.bucket) x.row.complete) c.node c.is (a.rounded.exact c.node c.target)

      same : (n : ℕ) → is_target s (decide_row s x.row x.nodes) n ≡ is_target s x.row n
      same n = target-same (is_first s x.row.bucket) x.row.active (first_in (s.ideal x.row.bucket) x.row.complete) (decide_row s x.row x.nodes).active c.node n c.is decided c.first

      asked-target : (n : ℕ) → is_asked s x.row n ≡ true → is_target s x.row n ≡ true
      asked-target n h = elim (or_true (is_member firsts n) (is_active (to_be_active s x.row) n) h) [
        | inl first ↦ member-filter (is_target s x.row) (s.ideal x.row.bucket) n (member-take s.searchable (filter (is_target s x.row) (s.ideal x.row.bucket)) n first)
        | inr act ↦ subst (λ m. is_target s x.row m ≡ true) (active-same (to_be_active s x.row) c.node n c.is act) c.target
      ]

      asked-ready : (n : ℕ) → is_asked s x.row n ≡ true → IsReadied x.row.bucket (ready_nodes s x.row x.nodes n)
      asked-ready n h = if-true (IsReadied x.row.bucket) (is_asked s x.row n) (ready_node x.row.bucket (x.nodes n)) (x.nodes n) h (ready-fits x.row.bucket ok (x.nodes n) (a.rounded.exact n (asked-target n h)))

      not-asked : (n : ℕ) → is_target s x.row n ≡ false → is_asked s x.row n ≡ false
      not-asked n f = is_false (is_asked s x.row n) (λ h. clash (asked-target n h) f)

      held : (n : ℕ) (id : Id) → (ready_nodes s x.row x.nodes n).store id ≡ (x.nodes n).store id
      held n id = if-both (λ (y : Node). y.store id ≡ (x.nodes n).store id) (is_asked s x.row n) (ready_node x.row.bucket (x.nodes n)) (x.nodes n) (λ e. ready-held x.row.bucket ok (x.nodes n) id) refl

      rounded : Rounded s U (ready_nodes s x.row x.nodes) (decide_row s x.row x.nodes)
      rounded = record {
        exact = λ n h. let t = sym (same n) ∙ h in if-both (IsExact x.row.bucket) (is_asked s x.row n) (ready_node x.row.bucket (x.nodes n)) (x.nodes n)
            (λ e. ready-exact x.row.bucket ok (ready_node x.row.bucket (x.nodes n)) (ready-fits x.row.bucket ok (x.nodes n) (d.exact n t))) (d.exact n t);
        holds = λ n h id k. held n id ∙ d.holds n (sym (same n) ∙ h) id k;
        complete = λ n h. d.complete n (sym (same n) ∙ h);
        fits = λ n h f. let t = sym (same n) ∙ f in if-false (Fits x.row.bucket (x.row.shown n)) (is_asked s x.row n) (ready_node x.row.bucket (x.nodes n)) (x.nodes n) (not-asked n t) (d.fits n h t);
        documents = d.documents;
        holders = λ n. d.holders n ∙ sym (same n);
      }

      good : AllGood (ready_nodes s x.row x.nodes)
      good n = if-both IsSound (is_asked s x.row n) (ready_node x.row.bucket (x.nodes n)) (x.nodes n) (λ e. good-ready x.row.bucket ok (x.nodes n) (a.fine.good n)) (a.fine.good n)

      union : IsUnion s U (ready_nodes s x.row x.nodes)
      union = union-same s U x.nodes (ready_nodes s x.row x.nodes) held a.fine.union

      regions : (n : ℕ) → (ready_nodes s x.row x.nodes n).regions ≡ (x.nodes n).regions
      regions n = if-both (λ (y : Node). y.regions ≡ (x.nodes n).regions) (is_asked s x.row n) (ready_node x.row.bucket (x.nodes n)) (x.nodes n) (λ e. ready-regions x.row.bucket ok (x.nodes n)) refl

      was-active : (o f : Option ℕ) (node n : ℕ) → (o ≡ None → x.row.accepted ≡ false) → x.row.accepted ≡ true → or_else o f ≡ Some node → node ≡ n → is_active o n ≡ true
      was-active (Some y) f node n u acc e q = subst (λ m. is_active (Some y) m ≡ true) q (subst (λ m. is_active (Some y) m ≡ true) (some-same y node e) (same-nat y))
      was-active None f node n u acc e q = clash acc (u refl)

      row : IsRow s (ready_nodes s x.row x.nodes) (decide_row s x.row x.nodes)
      row = record {
        valid = ok;
        serves = λ n h. target-serves s sound U x.nodes x.row a.fine.row n (subst (λ m. is_target s x.row m ≡ true) (active-same (decide_row s x.row x.nodes).active c.node n decided h) c.target);
        accepted = λ acc n h key k. subst (λ rs. list_any (λ q. has_key q key) rs ≡ true) (sym (regions n))
            (a.fine.row.accepted acc n (was-active x.row.active (first_in (s.ideal x.row.bucket) x.row.complete) c.node n a.fine.row.undecided acc c.is (active-same (decide_row s x.row x.nodes).active c.node n decided h)) key k);
        undecided = λ e. let bad : Some c.node ≡ None = sym decided ∙ e in absurd (cc);
      }

  -- who is asked to be ready is a target, and so serves
  pub asked-target : (ns : ℕ → Node) (r : Row) → Aligned s sound U (record { nodes = ns; row = r }) → (n : ℕ) → is_asked s r n ≡ true → s.serving n ≡ true
  asked-target ns r a n h =
      let c = chosen ns r a.rounded in
      let firsts = take s.searchable (filter (is_target s r) (s.ideal r.bucket)) in
      target-serves s sound U ns r a.fine.row n (elim (or_true (is_member firsts n) (is_active (to_be_active s r) n) h) [
        | inl first ↦ member-filter (is_target s r) (s.ideal r.bucket) n (member-take s.searchable (filter (is_target s r) (s.ideal r.bucket)) n first)
        | inr act ↦ subst (λ m. is_target s r m ≡ true) (active-same (to_be_active s r) c.node n c.is act) c.target
      ])

  -- ---- Activate

  pub record Lively (x : Place) : Type 0 where
    pub prepared : Prepared x
    pub accepted : IsActiveOn x.row.bucket (x.nodes prepared.ready.node)
    pub known : x.row.accepted ≡ true

  pub activate-place : (x : Place) → Prepared x → Lively (activate_at x)
  activate-place x p = record {
    prepared = record {
      fine = record { good = good; union = union; row = row };
      rounded = rounded;
      straight = p.straight;
      ready = record { node = p.ready.node; decided = p.ready.decided; active_ready = still p.ready.node p.ready.active_ready; first_ready = λ n h. still n (p.ready.first_ready n h) };
    };
    accepted = accepted;
    known = or_right x.row.accepted (could_activate x.row.bucket x.nodes x.row.active) could;
  }
    where
      ok : IsBucket x.row.bucket
      ok = p.fine.row.valid

      test : ℕ → Bool
      test n = not x.row.accepted && is_active x.row.active n

      can : can_activate x.row.bucket (x.nodes p.ready.node) ≡ true
      can = can-activate x.row.bucket ok (x.nodes p.ready.node) p.ready.active_ready

      could : could_activate x.row.bucket x.nodes x.row.active ≡ true
      could = subst (λ o. could_activate x.row.bucket x.nodes o ≡ true) (sym p.ready.decided) can

      keep : (Q : Node → Type 0) (n : ℕ) → (Q (x.nodes n) → Q (activate_node x.row.bucket (x.nodes n))) → Q (x.nodes n) → Q (activate_nodes x.row x.nodes n)
      keep Q n f h = if-both Q (not x.row.accepted && is_active x.row.active n) (activate_node x.row.bucket (x.nodes n)) (x.nodes n) (λ e. f h) h

      still : (n : ℕ) → IsReadied x.row.bucket (x.nodes n) → IsReadied x.row.bucket (activate_nodes x.row x.nodes n)
      still n h = keep (IsReadied x.row.bucket) n (λ g. activate-ready x.row.bucket ok (x.nodes n) g) h

      accepted : IsActiveOn x.row.bucket (activate_nodes x.row x.nodes p.ready.node)
      accepted = by_test x.row.accepted refl
        where
          by_test : (t : Bool) → x.row.accepted ≡ t → IsActiveOn x.row.bucket (activate_nodes x.row x.nodes p.ready.node)
          by_test true e key k = keep (λ (y : Node). list_any (λ q. has_key q key) y.regions ≡ true) p.ready.node (λ g. activate-key x.row.bucket ok (x.nodes p.ready.node) key g)
              (p.fine.row.accepted e p.ready.node (active-is x.row.active p.ready.node p.ready.decided) key k)
          by_test false e key k = if-true (IsActiveOn x.row.bucket) (not x.row.accepted && is_active x.row.active p.ready.node) (activate_node x.row.bucket (x.nodes p.ready.node)) (x.nodes p.ready.node)
              (and_true (not x.row.accepted) (is_active x.row.active p.ready.node) (ap (λ t. not t) e) (active-is x.row.active p.ready.node p.ready.decided))
              (activate-fits x.row.bucket ok (x.nodes p.ready.node) can) key k

      held : (n : ℕ) (id : Id) → (activate_nodes x.row x.nodes n).store id ≡ (x.nodes n).store id
      held n id = if-both (λ (y : Node). y.store id ≡ (x.nodes n).store id) (not x.row.accepted && is_active x.row.active n) (activate_node x.row.bucket (x.nodes n)) (x.nodes n) (λ e. activate-held x.row.bucket ok (x.nodes n) id) refl

      good : AllGood (activate_nodes x.row x.nodes)
      good n = keep IsSound n (λ g. good-activate x.row.bucket ok (x.nodes n) g) (p.fine.good n)

      union : IsUnion s U (activate_nodes x.row x.nodes)
      union = union-same s U x.nodes (activate_nodes x.row x.nodes) held p.fine.union

      not-active : (n : ℕ) → is_target s x.row n ≡ false → (not x.row.accepted && is_active x.row.active n) ≡ false
      not-active n f = is_false (not x.row.accepted && is_active x.row.active n) (λ h. clash (or_right (is_first s x.row.bucket n) (is_active x.row.active n) (both (not x.row.accepted) (is_active x.row.active n) h).1) f)

      rounded : Rounded s U (activate_nodes x.row x.nodes) (activate_row x.row x.nodes)
      rounded = record {
        exact = λ n h. keep (IsExact x.row.bucket) n (λ g. activate-exact x.row.bucket ok (x.nodes n) g) (p.rounded.exact n h);
        holds = λ n h id k. held n id ∙ p.rounded.holds n h id k;
        complete = p.rounded.complete;
        fits = λ n h f. if-false (Fits x.row.bucket (x.row.shown n)) (not x.row.accepted && is_active x.row.active n) (activate_node x.row.bucket (x.nodes n)) (x.nodes n) (not-active n f) (p.rounded.fits n h f);
        documents = p.rounded.documents;
        holders = p.rounded.holders;
      }

      row : IsRow s (activate_nodes x.row x.nodes) (activate_row x.row x.nodes)
      row = record {
        valid = ok;
        serves = p.fine.row.serves;
        accepted = λ acc n h. subst (λ m. IsActiveOn x.row.bucket (activate_nodes x.row x.nodes m)) (active-same x.row.active p.ready.node n p.ready.decided h) accepted;
        undecided = λ e. let bad : Some p.ready.node ≡ None = sym p.ready.decided ∙ e in absurd (cc);
      }
