-- A join of two rows, and joins one after the other.
use Rattle.std.proofs.Common.{◌≡◌, ◌&&◌, ◌||◌, ℕ, ◌+◌, ◌<◌, ◌≤◌, Bool, true, false, List, [], ◌∷◌, refl, sym, ap, ap₂, ◌∙◌, subst, arith, ◌⊎◌, inl, inr, ◌/◌}
use Rattle.std.specs.List.{list_any}
use Rattle.bucket_ids.specs.Buckets.{Low, IsBucket, has_key, first_child, second_child}
use Rattle.lane_rest.specs.Targets.{is_active}
use Rattle.pass_model.specs.Nodes.{Node, join_node, split_node}
use Rattle.pass_model.specs.Shapes.{IsSound}
use Rattle.pass_model.specs.Rows.{Row, Settings}
use Rattle.pass_model.specs.Passes.{AllRows, Among, CanJoin, Joins, MoreJoins, NoJoin, World, join_nodes, join_row, merged, to_all}
use Rattle.pass_model.specs.Resting.{AreApart, AreSettings, IsRow, IsSane, IsSettled, IsUnion}
use Rattle.pass_model.proofs.Rounded.{Rounded}
use Rattle.pieces.specs.Pieces.{same_bucket, meets}
use Rattle.lane_journals.specs.Buckets.{Id}
use Rattle.lane_journals.specs.Events.{Content}
use Rattle.proof_basics.proofs.Tests.{or_left, is_false, clash, both, or_false}
use Rattle.pass_model.proofs.Geometry.{child_key, children-of-apart}
use Rattle.pass_model.proofs.Frames.{frame-if}
use Rattle.pass_model.proofs.Doubling.{frame-split, frame-join, good-split, good-join, split-held, join-held, split-regions, join-regions}
use Rattle.pass_model.proofs.Unions.{union-same}
use Rattle.pass_model.proofs.Rows.{AllGood, Frames, frames-trans, frames-rounded, frames-row, frames-settled, if-both, good-round, union-round, rounded-by, frames-round, row-round}
use Rattle.pass_model.proofs.Lists.{all-among, among-all, none-among, apart-among, among-apart, all-frames}
use Rattle.pieces.proofs.PieceLaws.{bucket-same, meets-refl, same-refl}
use Rattle.proof_basics.proofs.Numbers.{twice}

sums : (d q a b x y m : ℕ) → d ≡ q → q ≡ x + y → a ≡ x → b ≡ y → a + b ≤ m → d ≤ m
sums d q a b x y m e f g h few = omega arith

-- what a message to all nodes that serve leaves
pub record Leaves (s : Settings) (U : Content) (ns ms : ℕ → Node) : Type 0 where
  pub good : AllGood ms
  pub union : IsUnion s U ms
  pub regions : (n : ℕ) → (ms n).regions ≡ (ns n).regions

module _ (s : Settings) (sound : AreSettings s) (U : Content) where
  all-leaves : (f : Node → Node) → ((x : Node) → IsSound x → IsSound (f x)) → ((x : Node) (id : Id) → ((f x).store id ≡ x.store id) × ((f x).regions ≡ x.regions)) → (ns : ℕ → Node) → AllGood ns → IsUnion s U ns → Leaves s U ns (to_all s f ns)
  all-leaves f g k ns good union = record {
    good = λ n. if-both IsSound (s.serving n) (f (ns n)) (ns n) (λ e. g (ns n) (good n)) (good n);
    union = union-same s U ns (to_all s f ns) (λ n id. if-both (λ (x : Node). x.store id ≡ (ns n).store id) (s.serving n) (f (ns n)) (ns n) (λ e. (k (ns n) id).0) refl) union;
    regions = λ n. if-both (λ (x : Node). x.regions ≡ (ns n).regions) (s.serving n) (f (ns n)) (ns n) (λ e. (k (ns n) []).1) refl;
  }

  pub join-leaves : (p : Low) → IsBucket p → (ns : ℕ → Node) → AllGood ns → IsUnion s U ns → Leaves s U ns (to_all s (join_node p) ns)
  join-leaves p ok ns good union = all-leaves (join_node p) (λ x g. good-join p ok x g) (λ x id. (join-held p x id, join-regions p x)) ns good union

  pub split-leaves : (p : Low) → IsBucket p → (ns : ℕ → Node) → AllGood ns → IsUnion s U ns → Leaves s U ns (to_all s (split_node p) ns)
  split-leaves p ok ns good union = all-leaves (split_node p) (λ x g. good-split p ok x g) (λ x id. (split-held p x id, split-regions p x)) ns good union

  pub join-all-frames : (p : Low) → IsBucket p → (ns : ℕ → Node) (c : Low) → IsBucket c → meets c p ≡ false → Frames c ns (to_all s (join_node p) ns)
  join-all-frames p ok ns c okc apart = record { at = λ n. frame-if c (s.serving n) (ns n) (join_node p (ns n)) (λ e. frame-join c p okc ok apart (ns n)) }

  pub split-all-frames : (p : Low) → IsBucket p → (ns : ℕ → Node) → AllGood ns → (c : Low) → IsBucket c → meets c p ≡ false → Frames c ns (to_all s (split_node p) ns)
  split-all-frames p ok ns good c okc apart = record { at = λ n. frame-if c (s.serving n) (ns n) (split_node p (ns n)) (λ e. frame-split c p okc ok apart (ns n) (good n).apart) }

  -- ---- the stage of a row: rounded, or settled already

  pub record Stage (left : Low → Bool) (ns : ℕ → Node) (r : Row) : Type 0 where
    pub new : left r.bucket ≡ true → Rounded s U ns r
    pub old : left r.bucket ≡ false → IsSettled s U ns r
    pub documents : r.documents ≡ s.documents U r.bucket

  pub stage-frames : (left : Low → Bool) (ns ms : ℕ → Node) (r : Row) → IsBucket r.bucket → Frames r.bucket ns ms → Stage left ns r → Stage left ms r
  stage-frames left ns ms r ok f h = record { new = λ e. frames-rounded s U ns ms r ok f (h.new e); old = λ e. frames-settled s U ns ms r ok f (h.old e); documents = h.documents }

  pub record Under (K : Row → Type 0) (left : Low → Bool) (w : World) : Type 0 where
    pub sane : IsSane s U w
    pub stages : AllRows (Stage left w.nodes) w.rows
    pub kept : AllRows K w.rows

  -- the parent is a bucket
  pub parent-fits : (p : Low) → s.lane_bits ≤ p.bits → IsBucket (first_child p) → IsBucket (second_child p) → IsBucket p
  parent-fits p within one two = record { some = (let b = sound.some_bits in omega arith); most = (let m = one.most in omega arith); fits = (let d = twice p.bits in let f = two.fits in omega arith) }

  merged-row : (p : Low) (a b : Row) (ns ms : ℕ → Node) → IsBucket p → CanJoin s p a b → IsRow s ns a → IsRow s ns b → ((n : ℕ) → (ms n).regions ≡ (ns n).regions) → IsRow s ms (merged p a b)
  merged-row p a b ns ms ok can ra rb same = record {
    valid = ok;
    serves = ra.serves;
    accepted = λ acc n h key k. subst (λ rs. list_any (λ q. has_key q key) rs ≡ true) (sym (same n)) (by_child n key (both a.accepted b.accepted acc) h (child_key p key k));
    undecided = λ e. ap (λ t. t && b.accepted) (ra.undecided e);
  }
    where
      by_child : (n key : ℕ) → (a.accepted ≡ true) × (b.accepted ≡ true) → is_active a.active n ≡ true → (has_key (first_child p) key ≡ true) ⊎ (has_key (second_child p) key ≡ true) → list_any (λ q. has_key q key) (ns n).regions ≡ true
      by_child n key acc h (inl one) = ra.accepted acc.0 n h key (subst (λ c. has_key c key ≡ true) (sym can.first) one)
      by_child n key acc h (inr two) = rb.accepted acc.1 n (subst (λ o. is_active o n ≡ true) can.active h) key (subst (λ c. has_key c key ≡ true) (sym can.second) two)

  still-left : (p c : Low) (left : Low → Bool) → IsBucket c → meets c p ≡ false → (same_bucket c p || left c) ≡ left c
  still-left p c left ok apart = ap (λ t. t || left c) (is_false (same_bucket c p) (λ e. clash (subst (λ d. meets c d ≡ true) (bucket-same c p e) (meets-refl c ok)) apart))

  stage-left : (p : Low) (left : Low → Bool) (ns : ℕ → Node) (rows : List Row) → list_any (λ q. meets q.bucket p) rows ≡ false → AreApart rows → AllRows (Stage left ns) rows → AllRows (Stage (λ c. same_bucket c p || left c) ns) rows
  stage-left p left ns [] none a h = tt
  stage-left p left ns (r ∷ rs) none a h =
      let o = or_false (meets r.bucket p) (list_any (λ q. meets q.bucket p) rs) none in
      let e = still-left p r.bucket left a.1 o.0 in
      (record { new = λ g. h.0.new (sym e ∙ g); old = λ g. h.0.old (sym e ∙ g); documents = h.0.documents }, stage-left p left ns rs o.1 a.2 h.1)

  -- who meets neither child doesn't meet the parent
  none-parent : (p : Low) (a b : Row) → IsBucket p → p.bits < 58 → a.bucket ≡ first_child p → b.bucket ≡ second_child p → (rows : List Row) → AreApart rows
      → list_any (λ q. meets q.bucket a.bucket) rows ≡ false → list_any (λ q. meets q.bucket b.bucket) rows ≡ false → list_any (λ q. meets q.bucket p) rows ≡ false
  none-parent p a b ok few ea eb [] ap_rows ha hb = refl
  none-parent p a b ok few ea eb (r ∷ rs) ap_rows ha hb =
      let oa = or_false (meets r.bucket a.bucket) (list_any (λ q. meets q.bucket a.bucket) rs) ha in
      let ob = or_false (meets r.bucket b.bucket) (list_any (λ q. meets q.bucket b.bucket) rs) hb in
      ap₂ (λ u v. u || v) (children-of-apart p r.bucket ok ap_rows.1 few (subst (λ c. meets r.bucket c ≡ false) ea oa.0) (subst (λ c. meets r.bucket c ≡ false) eb ob.0))
      (none-parent p a b ok few ea eb rs ap_rows.2 oa.1 ob.1)

  module _ (K : Row → Type 0) (K_new : (r a : Row) → K a → r.active ≡ a.active → r.documents ≤ s.split_at / 2 → K r) where
    -- one join
    pub under-join : (ns : ℕ → Node) (rows some rest after : List Row) (left : Low → Bool) (p : Low) (a b : Row) → Among a rows some → Among b some rest → CanJoin s p a b → Among (join_row s p a b ns) after rest
        → Under K left (record { nodes = ns; rows = rows }) → Under K (λ c. same_bucket c p || left c) (record { nodes = join_nodes s p a b ns; rows = after })
    under-join ns rows some rest after left p a b ma mb can new u =
        let xa = apart-among a rows some u.sane.apart ma in
        let xb = apart-among b some rest xa.2 mb in
        let oka = subst IsBucket can.first xa.1 in
        let okb = subst IsBucket can.second xb.1 in
        let ok = parent-fits p can.within oka okb in
        let few : p.bits < 58 = let m = oka.most in omega arith in
        let none = none-parent p a b ok few can.first can.second rest xb.2 (none-among (λ q. meets q.bucket a.bucket) b some rest xa.0 mb).1 xb.0 in
        let ra = all-among (IsRow s ns) a rows some u.sane.rows ma in
        let rb = all-among (IsRow s ns) b some rest ra.1 mb in
        let sa = all-among (Stage left ns) a rows some u.stages ma in
        let sb = all-among (Stage left ns) b some rest sa.1 mb in
        let ka = all-among K a rows some u.kept ma in
        let kb = all-among K b some rest ka.1 mb in
        let j = join-leaves p ok ns u.sane.good u.sane.union in
        let ms : ℕ → Node = to_all s (join_node p) ns in
        let row = merged-row p a b ns ms ok can ra.0 rb.0 j.regions in
        let fr : (c : Low) → IsBucket c → meets c p ≡ false → Frames c ns (join_nodes s p a b ns) = λ c okc apart. frames-trans c ns ms (join_nodes s p a b ns) (join-all-frames p ok ns c okc apart) (frames-round s sound U ms (merged p a b) c okc ok apart j.good) in
        let rounded = rounded-by s sound U ms (merged p a b) row j.good j.union in
        record {
          sane = record {
            good = good-round s sound U ms (merged p a b) ok j.good;
            union = union-round s sound U ms (merged p a b) row j.union;
            rows = among-all (IsRow s (join_nodes s p a b ns)) (join_row s p a b ns) after rest (row-round s sound U ms (merged p a b) row) (all-frames (IsRow s) p ns (join_nodes s p a b ns) (λ q okq g h. frames-row s U ns (join_nodes s p a b ns) q okq g h) fr rest none xb.2 rb.1) new;
            apart = among-apart (join_row s p a b ns) after rest none ok xb.2 new;
          };
          stages = among-all (Stage (λ c. same_bucket c p || left c) (join_nodes s p a b ns)) (join_row s p a b ns) after rest
              (record { new = λ e. rounded; old = λ e. clash (or_left (same_bucket p p) (left p) (same-refl p)) e; documents = rounded.documents })
              (stage-left p left (join_nodes s p a b ns) rest none xb.2 (all-frames (Stage left) p ns (join_nodes s p a b ns) (λ q okq g h. stage-frames left ns (join_nodes s p a b ns) q okq g h) fr rest none xb.2 sb.1)) new;
          kept = among-all K (join_row s p a b ns) after rest (K_new (join_row s p a b ns) a ka.0 refl (small p ok a b sa.0.documents sb.0.documents can rounded.documents)) kb.1 new;
        }
      where
        small : (p : Low) → IsBucket p → (a b : Row) → a.documents ≡ s.documents U a.bucket → b.documents ≡ s.documents U b.bucket → CanJoin s p a b → (join_row s p a b ns).documents ≡ s.documents U p → (join_row s p a b ns).documents ≤ s.split_at / 2
        small p ok a b da db can d =
            let h = sound.halves U p in
            let ea : a.documents ≡ s.documents U (first_child p) = da ∙ ap (λ c. s.documents U c) can.first in
            let eb : b.documents ≡ s.documents U (second_child p) = db ∙ ap (λ c. s.documents U c) can.second in
            let few = can.few in
            sums (join_row s p a b ns).documents (s.documents U p) a.documents b.documents (s.documents U (first_child p)) (s.documents U (second_child p)) (s.split_at / 2) d (h ok) ea eb few

    pub under-joins : (w v : World) (left last : Low → Bool) → Joins s w left v last → Under K left w → Under K last v
    under-joins w v left last (NoJoin w' left') u = u
    under-joins w v left last (MoreJoins ns rows some rest after l p a b end z ma mb can new more) u = under-joins (record { nodes = join_nodes s p a b ns; rows = after }) v (λ c. same_bucket c p || l c) last more (under-join ns rows some rest after l p a b ma mb can new u)
