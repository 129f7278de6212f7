-- A row after its round, and after each part of its settling.
use Rattle.std.proofs.Common.{◌≡◌, ℕ, Bool, true, false, cond, refl, sym, ap, ◌∙◌, subst, ◌⊎◌, inl, inr}
use Rattle.std.specs.List.{list_any}
use Rattle.bucket_ids.specs.Buckets.{Low, IsBucket, has_key}
use Rattle.lane_rest.specs.Targets.{is_active}
use Rattle.pass_model.specs.Nodes.{Node, apply_node}
use Rattle.pass_model.specs.Shapes.{Fits, IsExact, IsSound, shape_of}
use Rattle.pass_model.specs.Rows.{Row, Settings, is_first, is_target, round_node, round_row, united}
use Rattle.pass_model.specs.Resting.{AreSettings, IsRow, IsSettled, IsUnion}
use Rattle.pass_model.proofs.Rounded.{Rounded}
use Rattle.pieces.specs.Pieces.{meets}
use Rattle.lane_journals.specs.Buckets.{Id, key_of}
use Rattle.lane_journals.specs.Events.{Content}
use Rattle.proof_basics.proofs.Tests.{or_true, or_left}
use Rattle.pass_model.proofs.Frames.{Frame, frame-refl, frame-trans, frame-if, frame-clear, frame-exact, frame-ready, frame-active, frame-fits}
use Rattle.pass_model.proofs.Doubling.{frame-apply, applied-exact, good-apply, apply-regions, apply-is, apply-step}
use Rattle.pass_model.proofs.Effects.{shape-fits}
use Rattle.pass_model.proofs.Unions.{united-is, union-step}

abbrev pub AllGood : (ℕ → Node) → Type 0
AllGood ns = (n : ℕ) → IsSound (ns n)

-- ---- frames for all nodes

pub record Frames (b : Low) (ns ms : ℕ → Node) : Type 0 where
  pub at : (n : ℕ) → Frame b (ns n) (ms n)

pub frames-refl : (b : Low) (ns : ℕ → Node) → Frames b ns ns
frames-refl b ns = record { at = λ n. frame-refl b (ns n) }

pub frames-trans : (b : Low) (ns ms ls : ℕ → Node) → Frames b ns ms → Frames b ms ls → Frames b ns ls
frames-trans b ns ms ls f g = record { at = λ n. frame-trans b (ns n) (ms n) (ls n) (f.at n) (g.at n) }

module _ (s : Settings) (U : Content) (ns ms : ℕ → Node) (r : Row) (ok : IsBucket r.bucket) (f : Frames r.bucket ns ms) where
  pub frames-rounded : Rounded s U ns r → Rounded s U ms r
  frames-rounded d = record {
    exact = λ n h. frame-exact r.bucket (ns n) (ms n) ok (f.at n) (d.exact n h);
    holds = λ n h id k. (f.at n).held id k ∙ d.holds n h id k;
    complete = d.complete;
    fits = λ n h g. frame-fits r.bucket (r.shown n) (ns n) (ms n) ok (f.at n) (d.fits n h g);
    documents = d.documents;
    holders = d.holders;
  }

  pub frames-row : IsRow s ns r → IsRow s ms r
  frames-row d = record { valid = d.valid; serves = d.serves; accepted = λ a n h. frame-active r.bucket (ns n) (ms n) (f.at n) (d.accepted a n h); undecided = d.undecided }

  pub frames-settled : IsSettled s U ns r → IsSettled s U ms r
  frames-settled d = record {
    targets = λ n h. frame-exact r.bucket (ns n) (ms n) ok (f.at n) (d.targets n h);
    others = λ n h g. frame-clear r.bucket (ns n) (ms n) (f.at n) (d.others n h g);
    complete = d.complete;
    active = record {
      node = d.active.node;
      decided = d.active.decided;
      accepted = frame-active r.bucket (ns d.active.node) (ms d.active.node) (f.at d.active.node) d.active.accepted;
      ready = frame-ready r.bucket (ns d.active.node) (ms d.active.node) ok (f.at d.active.node) d.active.ready;
    };
    ready = λ n h. frame-ready r.bucket (ns n) (ms n) ok (f.at n) (d.ready n h);
  }

-- ---- choices

pub if-true : {A : Type 0} (Q : A → Type 0) (t : Bool) (x y : A) → t ≡ true → Q x → Q (cond t x y)
if-true Q true x y e q = q
if-true Q false x y e q = cc

pub if-false : {A : Type 0} (Q : A → Type 0) (t : Bool) (x y : A) → t ≡ false → Q y → Q (cond t x y)
if-false Q true x y e q = cc
if-false Q false x y e q = q

pub if-both : {A : Type 0} (Q : A → Type 0) (t : Bool) (x y : A) → (t ≡ true → Q x) → Q y → Q (cond t x y)
if-both Q true x y f q = f refl
if-both Q false x y f q = q

-- ---- a round

module _ (s : Settings) (sound : AreSettings s) (U : Content) where
  pub target-serves : (ns : ℕ → Node) (r : Row) → IsRow s ns r → (n : ℕ) → is_target s r n ≡ true → s.serving n ≡ true
  target-serves ns r row n h = elim (or_true (is_first s r.bucket n) (is_active r.active n) h) [ inl first ↦ sound.serving r.bucket n first | inr active ↦ row.serves n active ]

  pub good-round : (ns : ℕ → Node) (r : Row) → IsBucket r.bucket → AllGood ns → AllGood (round_node s r ns)
  good-round ns r ok g n = if-both IsSound (is_target s r n) (apply_node r.bucket (united s ns) (ns n)) (ns n) (λ e. good-apply r.bucket ok (united s ns) (ns n) (g n)) (g n)

  pub union-round : (ns : ℕ → Node) (r : Row) → IsRow s ns r → IsUnion s U ns → IsUnion s U (round_node s r ns)
  union-round ns r row u = union-step s U ns (round_node s r ns) (λ n id. by_test n id (is_target s r n) refl) u
    where
      at : (n : ℕ) (id : Id) → s.serving n ≡ true → ((apply_node r.bucket (united s ns) (ns n)).store id ≡ (ns n).store id) ⊎ ((apply_node r.bucket (united s ns) (ns n)).store id ≡ U id)
      at n id h = subst (λ (v : Content). ((apply_node r.bucket v (ns n)).store id ≡ (ns n).store id) ⊎ ((apply_node r.bucket v (ns n)).store id ≡ U id)) (sym (united-is s U ns u)) (apply-step r.bucket U (ns n) id (u.most n h id))

      by_test : (n : ℕ) (id : Id) (t : Bool) → is_target s r n ≡ t → ((cond t (apply_node r.bucket (united s ns) (ns n)) (ns n)).store id ≡ (ns n).store id) ⊎ ((cond t (apply_node r.bucket (united s ns) (ns n)) (ns n)).store id ≡ U id)
      by_test n id true e = at n id (target-serves ns r row n e)
      by_test n id false e = inl refl

  -- a round makes the row rounded
  pub rounded-by : (ns : ℕ → Node) (r : Row) → IsRow s ns r → AllGood ns → IsUnion s U ns → Rounded s U (round_node s r ns) (round_row s r ns)
  rounded-by ns r row g u = record {
    exact = λ n h. if-true (IsExact r.bucket) (is_target s r n) (apply_node r.bucket (united s ns) (ns n)) (ns n) h (applied-exact r.bucket row.valid (united s ns) (ns n) (g n).apart);
    holds = λ n h id k. if-true (λ (x : Node). x.store id ≡ U id) (is_target s r n) (apply_node r.bucket (united s ns) (ns n)) (ns n) h (taken n id k (target-serves ns r row n h));
    complete = λ n h. or_left (is_target s r n) (r.complete n) h;
    fits = λ n h f. if-false (Fits r.bucket (shape_of r.bucket (ns n).pieces)) (is_target s r n) (apply_node r.bucket (united s ns) (ns n)) (ns n) f (shape-fits r.bucket (ns n) (g n));
    documents = ap (λ (v : Content). s.documents v r.bucket) (united-is s U ns u);
    holders = λ n. refl;
  }
    where
      taken : (n : ℕ) (id : Id) → has_key r.bucket (key_of id) ≡ true → s.serving n ≡ true → (apply_node r.bucket (united s ns) (ns n)).store id ≡ U id
      taken n id k h = subst (λ (v : Content). (apply_node r.bucket v (ns n)).store id ≡ U id) (sym (united-is s U ns u)) (apply-is r.bucket U (ns n) id (u.most n h id) k)

  -- it leaves the other rows as they are
  pub frames-round : (ns : ℕ → Node) (r : Row) (c : Low) → IsBucket c → IsBucket r.bucket → meets c r.bucket ≡ false → AllGood ns → Frames c ns (round_node s r ns)
  frames-round ns r c okc ok apart g = record { at = λ n. frame-if c (is_target s r n) (ns n) (apply_node r.bucket (united s ns) (ns n)) (λ e. frame-apply c r.bucket okc ok apart (united s ns) (ns n) (g n).apart) }

  pub row-round : (ns : ℕ → Node) (r : Row) → IsRow s ns r → IsRow s (round_node s r ns) (round_row s r ns)
  row-round ns r row = record {
    valid = row.valid;
    serves = row.serves;
    accepted = λ a n h key k. if-both (λ (x : Node). list_any (λ b. has_key b key) x.regions ≡ true) (is_target s r n) (apply_node r.bucket (united s ns) (ns n)) (ns n) (λ e. subst (λ rs. list_any (λ b. has_key b key) rs ≡ true) (sym (apply-regions r.bucket (united s ns) (ns n))) (row.accepted a n h key k)) (row.accepted a n h key k);
    undecided = row.undecided;
  }
