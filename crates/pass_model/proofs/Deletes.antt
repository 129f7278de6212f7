-- The Deletes of a row, and the whole of its settling.
use Rattle.std.proofs.Common.{◌≡◌, ◌==◌, ◌&&◌, not, ℕ, ◌<◌, ◌≤◌, Bool, true, false, cond, filter, refl, sym, ap, ap₂, ◌∙◌, subst, arith, Option, eqb-true, take}
use Rattle.std.specs.List.{list_any}
use Rattle.bucket_ids.specs.Buckets.{Low, IsBucket, has_key}
use Rattle.lane_journals.specs.Sets.{count}
use Rattle.lane_rest.specs.Sets.{any_below}
use Rattle.lane_rest.specs.Targets.{is_active, is_member}
use Rattle.pass_model.specs.Nodes.{Node, activate_node, ready_node}
use Rattle.pass_model.specs.Shapes.{Fits, Inside, IsClear, IsExact, IsReadied, IsSound, Nothing, Over, Same, Shape, is_askew, is_same}
use Rattle.pass_model.specs.Rows.{Settings, is_first, is_target}
use Rattle.pass_model.specs.Settling.{Place, activate_at, align, align_nodes, are_enough, delete_at, delete_nodes, delete_row, delete_shown, does_delete, is_asked, needs_align, ready_at_row, round_at, settle}
use Rattle.pass_model.specs.Resting.{AreSettings, IsRow, IsSettled, IsUnion}
use Rattle.pass_model.proofs.Rounded.{Rounded}
use Rattle.lane_journals.specs.Stamps.{Stamp, Le}
use Rattle.pieces.specs.Pieces.{meets}
use Rattle.lane_journals.specs.Buckets.{Id, key_of}
use Rattle.lane_journals.specs.Events.{Content}
use Rattle.proof_basics.proofs.Tests.{or_left, or_right, and_true, is_false, clash}
use Rattle.pass_model.proofs.Frames.{Frame, frame-refl, frame-if}
use Rattle.pass_model.proofs.Doubling.{frame-make_ready, frame-activate, frame-drop, delete-clear, good-delete, delete-regions, delete-most, delete-other}
use Rattle.pass_model.proofs.Rows.{AllGood, Frames, frames-trans, if-true, if-false, if-both, target-serves}
use Rattle.pass_model.proofs.Aligning.{Fine, align-row, frames-align}
use Rattle.pass_model.proofs.Settling.{count-more, best-is-first, ready-row, Lively, activate-place, member-take, member-filter, active-is}
use Rattle.proof_basics.proofs.Numbers.{le-to}

module _ (s : Settings) (sound : AreSettings s) (U : Content) where
  pub record Done (x : Place) : Type 0 where
    pub fine : Fine s U x.nodes x.row
    pub settled : IsSettled s U x.nodes x.row
    pub documents : x.row.documents ≡ s.documents U x.row.bucket

  shown-regions : (b : Low) → IsBucket b → (shape : Shape) (x : Node) → (delete_shown b shape x).regions ≡ x.regions
  shown-regions b ok Nothing x = refl
  shown-regions b ok Over x = refl
  shown-regions b ok Inside x = refl
  shown-regions b ok (Same k) x = delete-regions b ok k x

  pub shown-good : (b : Low) → IsBucket b → (shape : Shape) (x : Node) → IsSound x → IsSound (delete_shown b shape x)
  shown-good b ok Nothing x g = g
  shown-good b ok Over x g = g
  shown-good b ok Inside x g = g
  shown-good b ok (Same k) x g = good-delete b ok k x g

  shown-clear : (b : Low) → IsBucket b → (shape : Shape) (x : Node) → IsSound x → is_askew shape ≡ false → Fits b shape x → IsClear b (delete_shown b shape x)
  shown-clear b ok Nothing x g e h = h
  shown-clear b ok Over x g e h = cc
  shown-clear b ok Inside x g e h = cc
  shown-clear b ok (Same k) x g e h = delete-clear b ok k x g h

  -- other documents stay, and none grows
  shown-most : (b : Low) → IsBucket b → (shape : Shape) (x : Node) (id : Id) (m : Option Stamp) → Le (x.store id) m → Le ((delete_shown b shape x).store id) m
  shown-most b ok Nothing x id m le = le
  shown-most b ok Over x id m le = le
  shown-most b ok Inside x id m le = le
  shown-most b ok (Same k) x id m le = delete-most b ok k x id m le

  shown-other : (b : Low) → IsBucket b → (shape : Shape) (x : Node) (id : Id) → has_key b (key_of id) ≡ false → (delete_shown b shape x).store id ≡ x.store id
  shown-other b ok Nothing x id h = refl
  shown-other b ok Over x id h = refl
  shown-other b ok Inside x id h = refl
  shown-other b ok (Same k) x id h = delete-other b ok k x id h

  and-false : (a b c : Bool) → b ≡ true → (a && not b && c) ≡ false
  and-false true true c h = refl
  and-false true false c h = cc
  and-false false b c h = refl

  and-of : (a b c : Bool) → a ≡ true → b ≡ false → c ≡ true → (a && not b && c) ≡ true
  and-of a b c p q h = ap₂ (λ x y. x && not y && c) p q ∙ h

  not-other : (m n : ℕ) (f : ℕ → Bool) → f m ≡ true → f n ≡ false → not (m == n) ≡ true
  not-other m n f p q = ap (λ t. not t) (is_false (m == n) (λ e. clash (subst (λ k. f k ≡ true) (eqb-true m n e) p) q))

  -- enough others took the union
  enough : (x : Place) → Rounded s U x.nodes x.row → (n : ℕ) → is_target s x.row n ≡ false → are_enough s x.row n ≡ true
  enough x d n f = le-to s.acks (count others) (le-chain s.acks (count (is_first s b)) (count others) (sound.enough b) (count-more (is_first s b) others inner))
    where
      b : Low
      b = x.row.bucket

      others : ℕ → Bool
      others m = x.row.complete m && x.row.holders m && not (m == n)

      le-chain : (i j k : ℕ) → i ≤ j → j ≤ k → i ≤ k
      le-chain i j k p q = omega arith

      inner : (m : ℕ) → is_first s x.row.bucket m ≡ true → (x.row.complete m && x.row.holders m && not (m == n)) ≡ true
      inner m h = let t = or_left (is_first s x.row.bucket m) (is_active x.row.active m) h in
          and_true (x.row.complete m && x.row.holders m) (not (m == n)) (and_true (x.row.complete m) (x.row.holders m) (d.complete m t) (d.holders m ∙ t)) (not-other m n (is_target s x.row) t f)

  pub delete-place : (x : Place) → Lively s sound U x → Done (delete_at s x)
  delete-place x l = record {
    fine = record { good = good; union = union; row = row };
    settled = record {
      targets = λ n h. at-target (IsExact x.row.bucket) n h (d.exact n h);
      others = others;
      complete = λ n h. and_true (x.row.complete n) (not (does_delete s x.row n && is_same (x.row.shown n))) (d.complete n h) (ap (λ t. not (t && is_same (x.row.shown n))) (kept n h));
      active = record {
        node = l.prepared.ready.node;
        decided = l.prepared.ready.decided;
        accepted = λ key k. regions-key l.prepared.ready.node key (l.accepted key k);
        ready = at-target (IsReadied x.row.bucket) l.prepared.ready.node active-target l.prepared.ready.active_ready;
      };
      ready = λ n h. at-target (IsReadied x.row.bucket) n (first-target n h) (l.prepared.ready.first_ready n h);
    };
    documents = d.documents;
  }
    where
      ok : IsBucket x.row.bucket
      ok = l.prepared.fine.row.valid

      d : Rounded s U x.nodes x.row
      d = l.prepared.rounded

      active-target : is_target s x.row l.prepared.ready.node ≡ true
      active-target = or_right (is_first s x.row.bucket l.prepared.ready.node) (is_active x.row.active l.prepared.ready.node) (active-is x.row.active l.prepared.ready.node l.prepared.ready.decided)

      first-target : (n : ℕ) → is_member (take s.searchable (filter (is_target s x.row) (s.ideal x.row.bucket))) n ≡ true → is_target s x.row n ≡ true
      first-target n h = member-filter (is_target s x.row) (s.ideal x.row.bucket) n (member-take s.searchable (filter (is_target s x.row) (s.ideal x.row.bucket)) n h)

      kept : (n : ℕ) → is_target s x.row n ≡ true → does_delete s x.row n ≡ false
      kept n h = and-false (s.serving n) (is_target s x.row n) (are_enough s x.row n) h

      at-target : (Q : Node → Type 0) (n : ℕ) → is_target s x.row n ≡ true → Q (x.nodes n) → Q (delete_nodes s x.row x.nodes n)
      at-target Q n h q = if-false Q (does_delete s x.row n) (delete_shown x.row.bucket (x.row.shown n) (x.nodes n)) (x.nodes n) (kept n h) q

      others : (n : ℕ) → s.serving n ≡ true → is_target s x.row n ≡ false → IsClear x.row.bucket (delete_nodes s x.row x.nodes n)
      others n h f = if-true (IsClear x.row.bucket) (does_delete s x.row n) (delete_shown x.row.bucket (x.row.shown n) (x.nodes n)) (x.nodes n)
          (and-of (s.serving n) (is_target s x.row n) (are_enough s x.row n) h f (enough x d n f))
          (shown-clear x.row.bucket ok (x.row.shown n) (x.nodes n) (l.prepared.fine.good n) (l.prepared.straight n h f) (d.fits n h f))

      good : AllGood (delete_nodes s x.row x.nodes)
      good n = if-both IsSound (does_delete s x.row n) (delete_shown x.row.bucket (x.row.shown n) (x.nodes n)) (x.nodes n) (λ e. shown-good x.row.bucket ok (x.row.shown n) (x.nodes n) (l.prepared.fine.good n)) (l.prepared.fine.good n)

      regions : (n : ℕ) → (delete_nodes s x.row x.nodes n).regions ≡ (x.nodes n).regions
      regions n = if-both (λ (y : Node). y.regions ≡ (x.nodes n).regions) (does_delete s x.row n) (delete_shown x.row.bucket (x.row.shown n) (x.nodes n)) (x.nodes n) (λ e. shown-regions x.row.bucket ok (x.row.shown n) (x.nodes n)) refl

      regions-key : (n key : ℕ) → list_any (λ q. has_key q key) (x.nodes n).regions ≡ true → list_any (λ q. has_key q key) (delete_nodes s x.row x.nodes n).regions ≡ true
      regions-key n key h = subst (λ rs. list_any (λ q. has_key q key) rs ≡ true) (sym (regions n)) h

      row : IsRow s (delete_nodes s x.row x.nodes) (delete_row s x.row)
      row = record {
        valid = ok;
        serves = l.prepared.fine.row.serves;
        accepted = λ a n h key k. regions-key n key (l.prepared.fine.row.accepted a n h key k);
        undecided = l.prepared.fine.row.undecided;
      }

      u : IsUnion s U x.nodes
      u = l.prepared.fine.union

      union : IsUnion s U (delete_nodes s x.row x.nodes)
      union = record {
        most = λ n h id. if-both (λ (y : Node). Le (y.store id) (U id)) (does_delete s x.row n) (delete_shown x.row.bucket (x.row.shown n) (x.nodes n)) (x.nodes n) (λ e. shown-most x.row.bucket ok (x.row.shown n) (x.nodes n) id (U id) (u.most n h id)) (u.most n h id);
        somewhere = λ id. by_key id (has_key x.row.bucket (key_of id)) refl;
      }
        where
          best : ℕ
          best = sound.best x.row.bucket

          best-target : is_target s x.row (sound.best x.row.bucket) ≡ true
          best-target = or_left (is_first s x.row.bucket (sound.best x.row.bucket)) (is_active x.row.active (sound.best x.row.bucket)) (best-is-first s sound U x.row.bucket)

          by_key : (id : Id) (t : Bool) → has_key x.row.bucket (key_of id) ≡ t → (n : ℕ) × (n < 32) × (s.serving n ≡ true) × ((delete_nodes s x.row x.nodes n).store id ≡ U id)
          by_key id true e = let serves = target-serves s sound U x.nodes x.row l.prepared.fine.row (sound.best x.row.bucket) best-target in
              (sound.best x.row.bucket, sound.few (sound.best x.row.bucket) serves, serves, at-target (λ (y : Node). y.store id ≡ U id) (sound.best x.row.bucket) best-target (d.holds (sound.best x.row.bucket) best-target id e))
          by_key id false e = let at = u.somewhere id in
              (at.0, at.1, at.2, if-both (λ (y : Node). y.store id ≡ U id) (does_delete s x.row at.0) (delete_shown x.row.bucket (x.row.shown at.0) (x.nodes at.0)) (x.nodes at.0) (λ f. shown-other x.row.bucket ok (x.row.shown at.0) (x.nodes at.0) id e ∙ at.3) at.3)

  -- ---- the whole

  pub settled-by : (x : Place) → Fine s U x.nodes x.row → Rounded s U x.nodes x.row → Done (settle s x)
  unfolding settle
  settled-by x fine d = delete-place (activate_at (ready_at_row s (align s x))) (activate-place s sound U (ready_at_row s (align s x)) (ready-row s sound U (align s x) (align-row s sound U x fine d)))

  -- it keeps the bucket
  align-bucket : (x : Place) → (align s x).row.bucket ≡ x.row.bucket
  align-bucket x = by_test (any_below (needs_align s x.row) 32)
    where
      by_test : (t : Bool) → (cond t (round_at s (align_nodes s x)) x).row.bucket ≡ x.row.bucket
      by_test true = refl
      by_test false = refl

  pub settle-bucket : (x : Place) → (settle s x).row.bucket ≡ x.row.bucket
  unfolding settle
  settle-bucket x = align-bucket x

  shown-frame : (b c : Low) → IsBucket b → IsBucket c → meets c b ≡ false → (shape : Shape) (x : Node) → Frame c x (delete_shown b shape x)
  shown-frame b c okb okc apart Nothing x = frame-refl c x
  shown-frame b c okb okc apart Over x = frame-refl c x
  shown-frame b c okb okc apart Inside x = frame-refl c x
  shown-frame b c okb okc apart (Same k) x = frame-drop c b okc okb apart k x

  -- and leaves the other rows as they are
  pub frames-settle : (x : Place) (c : Low) → IsBucket c → IsBucket x.row.bucket → meets c x.row.bucket ≡ false → AllGood x.nodes → Frames c x.nodes (settle s x).nodes
  unfolding settle
  frames-settle x c okc ok apart g =
      let y = align s x in
      let ok_y = subst IsBucket (sym (align-bucket x)) ok in
      let apart_y = subst (λ b. meets c b ≡ false) (sym (align-bucket x)) apart in
      frames-trans c x.nodes y.nodes (delete_nodes s z.row z.nodes) (frames-align s sound U x c okc ok apart g)
      (frames-trans c y.nodes (ready_at_row s y).nodes (delete_nodes s z.row z.nodes) (frames-ready y ok_y apart_y)
      (frames-trans c (ready_at_row s y).nodes z.nodes (delete_nodes s z.row z.nodes) (frames-act (ready_at_row s y) ok_y apart_y) (frames-del z ok_y apart_y)))
    where
      z : Place
      z = activate_at (ready_at_row s (align s x))

      frames-ready : (y : Place) → IsBucket y.row.bucket → meets c y.row.bucket ≡ false → Frames c y.nodes (ready_at_row s y).nodes
      frames-ready y ok apart = record { at = λ n. frame-if c (is_asked s y.row n) (y.nodes n) (ready_node y.row.bucket (y.nodes n)) (λ e. frame-make_ready c y.row.bucket okc ok apart (y.nodes n)) }

      frames-act : (y : Place) → IsBucket y.row.bucket → meets c y.row.bucket ≡ false → Frames c y.nodes (activate_at y).nodes
      frames-act y ok apart = record { at = λ n. frame-if c (not y.row.accepted && is_active y.row.active n) (y.nodes n) (activate_node y.row.bucket (y.nodes n)) (λ e. frame-activate c y.row.bucket okc ok apart (y.nodes n)) }

      frames-del : (y : Place) → IsBucket y.row.bucket → meets c y.row.bucket ≡ false → Frames c y.nodes (delete_at s y).nodes
      frames-del y ok apart = record { at = λ n. frame-if c (does_delete s y.row n) (y.nodes n) (delete_shown y.row.bucket (y.row.shown n) (y.nodes n)) (λ e. shown-frame y.row.bucket c ok okc apart (y.row.shown n) (y.nodes n)) }
