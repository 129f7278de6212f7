-- An undisturbed pass leaves the lane at rest.
use Rattle.std.proofs.Common.{◌≡◌, ◌||◌, ℕ, ◌+◌, ◌<◌, ◌≤◌, Bool, true, false, cond, refl, sym, ap, ap₂, ◌∙◌, subst, arith, Option, Some, None, ◌/◌}
use Rattle.bucket_ids.specs.Buckets.{Low, IsBucket}
use Rattle.lane_rest.specs.Sets.{any_below}
use Rattle.pass_model.specs.Nodes.{Node}
use Rattle.pass_model.specs.Rows.{Row, Settings}
use Rattle.pass_model.specs.Settling.{Place, align, align_nodes, if_ready, needs_align, round_at, settle, to_be_active}
use Rattle.pass_model.specs.Passes.{AllRows, Joins, MoreJoins, NoJoin, NoPair, NotFull, Passes, World, each_row, everywhere, join_nodes, nowhere, rounds, settle_all, settle_if}
use Rattle.pass_model.specs.Resting.{AreSettings, IsResting, IsSane, IsSettled}
use Rattle.pass_model.proofs.Rounded.{Rounded}
use Rattle.lane_journals.specs.Readers.{or_else}
use Rattle.pieces.specs.Pieces.{same_bucket}
use Rattle.lane_journals.specs.Events.{Content}
use Rattle.proof_basics.proofs.Tests.{or_right}
use Rattle.pass_model.proofs.Rows.{Frames, frames-refl, frames-rounded, frames-settled, if-both, good-round, union-round, rounded-by, frames-round, row-round}
use Rattle.pass_model.proofs.Aligning.{Fine}
use Rattle.pass_model.proofs.Deletes.{settled-by, settle-bucket, frames-settle}
use Rattle.pass_model.proofs.Lists.{all-mono, all-in, all-of}
use Rattle.pass_model.proofs.Pairs.{Stage, stage-frames, Under, under-joins}
use Rattle.pass_model.proofs.Each.{Stepper, went}
use Rattle.pass_model.proofs.Halves.{Always, under-splits}
use Rattle.std.specs.Prelude.{⊤}

half-most : (n d : ℕ) → d ≤ n / 2 → d ≤ n
half-most n d h = omega arith

module _ (s : Settings) (sound : AreSettings s) (U : Content) where
  abbrev pub IsDecided : Row → Type 0
  IsDecided r = (n : ℕ) × (r.active ≡ Some n)

  abbrev pub Kept : Row → Type 0
  Kept r = IsDecided r × NotFull s r

  abbrev pub Resting : (ℕ → Node) → Row → Type 0
  Resting ns r = IsSettled s U ns r × (r.documents ≡ s.documents U r.bucket)

  resting-frames : (ns ms : ℕ → Node) (r : Row) → IsBucket r.bucket → Frames r.bucket ns ms → Resting ns r → Resting ms r
  resting-frames ns ms r ok f h = (frames-settled s U ns ms r ok f h.0, h.1)

  -- ---- the rounds

  abbrev pub Anything : (ℕ → Node) → Row → Type 0
  Anything ns r = ⊤

  abbrev pub Unlike : Row → Row → Type 0
  Unlike r y = ⊤

  round-step : Stepper s U (round_at s) Anything (Rounded s U) Unlike
  round-step = record {
    bucket = λ x. refl;
    does = λ x fine pre. (
      record { good = good-round s sound U x.nodes x.row fine.row.valid fine.good; union = union-round s sound U x.nodes x.row fine.row fine.union; row = row-round s sound U x.nodes x.row fine.row },
      rounded-by s sound U x.nodes x.row fine.row fine.good fine.union,
      tt,
    );
    frames = λ x c okc ok apart good. frames-round s sound U x.nodes x.row c okc ok apart good;
    before = λ ns ms r ok f h. tt;
    after = λ ns ms r ok f h. frames-rounded s U ns ms r ok f h;
  }

  pub after-rounds : (w : World) → IsSane s U w → Under s sound U (Always s sound U) everywhere (rounds s w)
  after-rounds w sane =
      let g = went s U (round_at s) Anything (Rounded s U) Unlike round-step w.nodes w.rows sane.good sane.union sane.rows sane.apart (all-of (Anything w.nodes) w.rows (λ x i. tt)) in
      record {
        sane = record { good = g.good; union = g.union; rows = g.rows_are; apart = g.apart };
        stages = all-mono (Rounded s U (rounds s w).nodes) (Stage s sound U everywhere (rounds s w).nodes) (λ r d. record { new = λ e. d; old = λ e. cc; documents = d.documents }) (rounds s w).rows g.post;
        kept = all-of (Always s sound U) (rounds s w).rows (λ x i. tt);
      }

  -- ---- joins and splits

  pub joins-all : (w v : World) (left last : Low → Bool) → Joins s w left v last → ((c : Low) → left c ≡ true) → (c : Low) → last c ≡ true
  joins-all w v left last (NoJoin w' l) h c = h c
  joins-all w v left last (MoreJoins ns rows some rest after l p a b end z ma mb can new more) h c =
      joins-all (record { nodes = join_nodes s p a b ns; rows = after }) v (λ d. same_bucket d p || l d) last more (λ d. or_right (same_bucket d p) (l d) (h d)) c

  pub all-left : (last : Low → Bool) (w : World) → ((c : Low) → last c ≡ true) → Under s sound U (Always s sound U) last w → Under s sound U (Always s sound U) everywhere w
  all-left last w h u = record {
    sane = u.sane;
    stages = all-mono (Stage s sound U last w.nodes) (Stage s sound U everywhere w.nodes) (λ r g. record { new = λ e. g.new (h r.bucket); old = λ e. cc; documents = g.documents }) w.rows u.stages;
    kept = u.kept;
  }

  -- ---- each row is settled

  first-align-active : (x : Place) → (align s x).row.active ≡ x.row.active
  first-align-active x = by_test (any_below (needs_align s x.row) 32)
    where
      by_test : (t : Bool) → (cond t (round_at s (align_nodes s x)) x).row.active ≡ x.row.active
      by_test true = refl
      by_test false = refl

  -- a decided row keeps its active node
  settle-active : (x : Place) → IsDecided x.row → (settle s x).row.active ≡ x.row.active
  unfolding settle
  settle-active x d =
      let y = align s x in
      let e : y.row.active ≡ Some d.0 = first-align-active x ∙ d.1 in
      kept y.row.active (if_ready y.row.bucket y.nodes (to_be_active s y.row)) d.0 e ∙ first-align-active x
    where
      kept : (a f : Option ℕ) (n : ℕ) → a ≡ Some n → or_else a f ≡ a
      kept (Some m) f n e = refl
      kept None f n e = cc

  abbrev pub Decides : Row → Row → Type 0
  Decides r y = (y.bucket ≡ r.bucket) × (y.documents ≡ r.documents) × IsDecided y

  settle-step : Stepper s U (settle s) (Rounded s U) Resting Decides
  settle-step = record {
    bucket = λ x. settle-bucket s sound U x;
    does = λ x fine pre. let d = settled-by s sound U x fine pre in
        (d.fine, (d.settled, d.documents), (settle-bucket s sound U x, d.documents ∙ ap (λ b. s.documents U b) (settle-bucket s sound U x) ∙ sym pre.documents, (d.settled.active.node, d.settled.active.decided)));
    frames = λ x c okc ok apart good. frames-settle s sound U x c okc ok apart good;
    before = λ ns ms r ok f h. frames-rounded s U ns ms r ok f h;
    after = λ ns ms r ok f h. resting-frames ns ms r ok f h;
  }

  like-full : (r y : Row) → y.bucket ≡ r.bucket → y.documents ≡ r.documents → NotFull s r → NotFull s y
  like-full r y eb ed h few = subst (λ d. d ≤ s.split_at) (sym ed) (h (subst (λ (b : Low). b.bits < 58) eb few))

  pub after-settling : (w : World) → Under s sound U (Always s sound U) everywhere w → AllRows (NotFull s) w.rows → Under s sound U Kept nowhere (settle_all s w)
  after-settling w u full =
      let g = went s U (settle s) (Rounded s U) Resting Decides settle-step w.nodes w.rows u.sane.good u.sane.union u.sane.rows u.sane.apart
      (all-mono (Stage s sound U everywhere w.nodes) (Rounded s U w.nodes) (λ r h. h.new refl) w.rows u.stages) in
      record {
        sane = record { good = g.good; union = g.union; rows = g.rows_are; apart = g.apart };
        stages = all-mono (Resting (settle_all s w).nodes) (Stage s sound U nowhere (settle_all s w).nodes) (λ r h. record { new = λ e. cc; old = λ e. h.0; documents = h.1 }) (settle_all s w).rows g.post;
        kept = all-of Kept (settle_all s w).rows (λ y i. let o = g.from y i in (o.2.2, like-full o.0 y o.2.0 o.2.1 (all-in (NotFull s) o.0 w.rows full o.1)));
      }

  -- ---- the joins after that, and the rows that they leave

  pub new-kept : (r a : Row) → Kept a → r.active ≡ a.active → r.documents ≤ s.split_at / 2 → Kept r
  new-kept r a k e few = ((k.0.0, e ∙ k.0.1), λ h. half-most s.split_at r.documents few)

  pub new-always : (r a : Row) → Always s sound U a → r.active ≡ a.active → r.documents ≤ s.split_at / 2 → Always s sound U r
  new-always r a k e few = tt

  abbrev pub Like : Row → Row → Type 0
  Like r y = (y.bucket ≡ r.bucket) × (y.documents ≡ r.documents) × (y.active ≡ r.active)

  last-step : (left : Low → Bool) → Stepper s U (settle_if s left) (λ ns r. Stage s sound U left ns r × IsDecided r) Resting Like
  last-step left = record {
    bucket = λ x. if-both (λ (y : Place). y.row.bucket ≡ x.row.bucket) (left x.row.bucket) (settle s x) x (λ e. settle-bucket s sound U x) refl;
    does = λ x fine pre. by_test x fine pre (left x.row.bucket) refl;
    frames = λ x c okc ok apart good. if-both (λ (y : Place). Frames c x.nodes y.nodes) (left x.row.bucket) (settle s x) x (λ e. frames-settle s sound U x c okc ok apart good) (frames-refl c x.nodes);
    before = λ ns ms r ok f h. (stage-frames s sound U left ns ms r ok f h.0, h.1);
    after = λ ns ms r ok f h. resting-frames ns ms r ok f h;
  }
    where
      by_test : (x : Place) → Fine s U x.nodes x.row → Stage s sound U left x.nodes x.row × IsDecided x.row → (t : Bool) → left x.row.bucket ≡ t
          → Fine s U (cond t (settle s x) x).nodes (cond t (settle s x) x).row × Resting (cond t (settle s x) x).nodes (cond t (settle s x) x).row × Like x.row (cond t (settle s x) x).row
      by_test x fine pre true e = let d = settled-by s sound U x fine (pre.0.new e) in
          (d.fine, (d.settled, d.documents), (settle-bucket s sound U x, d.documents ∙ ap (λ b. s.documents U b) (settle-bucket s sound U x) ∙ sym pre.0.documents, settle-active x pre.1))
      by_test x fine pre false e = (fine, (pre.0.old e, pre.0.documents), (refl, refl, refl))

  at-end : (left : Low → Bool) (w : World) → Under s sound U Kept left w → NoPair s w.rows → IsResting s U (each_row (settle_if s left) w.nodes w.rows)
  at-end left w u never =
      let v : World = each_row (settle_if s left) w.nodes w.rows in
      let g = went s U (settle_if s left) (λ ns r. Stage s sound U left ns r × IsDecided r) Resting Like (last-step left) w.nodes w.rows u.sane.good u.sane.union u.sane.rows u.sane.apart
      (all-of (λ r. Stage s sound U left w.nodes r × IsDecided r) w.rows (λ x i. (all-in (Stage s sound U left w.nodes) x w.rows u.stages i, (all-in Kept x w.rows u.kept i).0))) in
      record {
        sane = record { good = g.good; union = g.union; rows = g.rows_are; apart = g.apart };
        settled = all-mono (Resting v.nodes) (IsSettled s U v.nodes) (λ r h. h.0) v.rows g.post;
        small = all-of (λ r. r.bucket.bits < 58 → s.documents U r.bucket ≤ s.split_at) v.rows (λ y i few. let o = g.from y i in
            subst (λ d. d ≤ s.split_at) (all-in (Resting v.nodes) y v.rows g.post i).1 (like-full o.0 y o.2.0 o.2.1 (all-in Kept o.0 w.rows u.kept o.1).1 few));
        no_pair = λ p a b ia ib one two within active docs.
            let oa = g.from a ia in let ob = g.from b ib in
            let da = (all-in (Resting v.nodes) a v.rows g.post ia).1 in let db = (all-in (Resting v.nodes) b v.rows g.post ib).1 in
            never p oa.0 ob.0 oa.1 ob.1 (record {
              first = sym oa.2.0 ∙ one;
              second = sym ob.2.0 ∙ two;
              within = within;
              active = sym oa.2.2 ∙ active ∙ ob.2.2;
              few = subst (λ d. d ≤ s.split_at / 2) (ap₂ (λ i j. i + j) (sym da ∙ oa.2.1) (sym db ∙ ob.2.1)) docs;
            });
      }

  -- a pass brings rest
  pub rests : (w v : World) → IsSane s U w → Passes s w v → IsResting s U v
  rests w v sane p =
      let one = after-rounds w sane in
      let two = under-joins s sound U (Always s sound U) new-always (rounds s w) p.joined everywhere p.made p.joins one in
      let three = all-left p.made p.joined (joins-all (rounds s w) p.joined everywhere p.made p.joins (λ c. refl)) two in
      let four = under-splits s sound U p.joined p.parted p.splits three p.no_pair in
      let five = after-settling p.parted four.0 p.not_full in
      let six = under-joins s sound U Kept new-kept (settle_all s p.parted) p.again nowhere p.left p.joins_again five in
      subst (λ (x : World). IsResting s U x) (sym p.is_last) (at-end p.left p.again six p.no_pair_again)
