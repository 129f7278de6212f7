-- A split of a row, and splits one after the other.
use Rattle.std.proofs.Common.{◌≡◌, ℕ, ◌+◌, ◌<◌, ◌≤◌, true, false, List, refl, sym, ap, ◌∙◌, subst, arith, ◌⊎◌, inl, inr, ◌/◌, ◌^◌}
use Rattle.std.specs.List.{list_any}
use Rattle.bucket_ids.specs.Buckets.{Low, IsBucket, has_key, covers, first_child, second_child}
use Rattle.pass_model.specs.Nodes.{Node, apply_node}
use Rattle.pass_model.specs.Rows.{Row, Settings, is_target, united}
use Rattle.pass_model.specs.Passes.{Among, In, MoreSplits, NoPair, NoSplit, Splits, World, child_row, everywhere, first_nodes, first_row, second_nodes, second_row, split_nodes}
use Rattle.pass_model.specs.Resting.{AreSettings, IsRow}
use Rattle.pieces.specs.Pieces.{meets}
use Rattle.lane_journals.specs.Events.{Content}
use Rattle.proof_basics.proofs.Tests.{clash}
use Rattle.proof_basics.proofs.Lists.{none-map}
use Rattle.pass_model.proofs.Geometry.{covers-key, meets-sym, meets-part, apart-part₂, covers-first, covers-second, first-fits, second-fits, children-apart, meets-covered}
use Rattle.pass_model.proofs.Doubling.{apply-regions}
use Rattle.pass_model.proofs.Rows.{Frames, frames-trans, frames-row, if-both, good-round, union-round, rounded-by, frames-round, row-round}
use Rattle.pass_model.proofs.Lists.{all-in, all-of, none-in, all-among, among-all, among-none, apart-among, among-apart, in-among, among-in, among-rest, all-frames}
use Rattle.pass_model.proofs.Pairs.{split-leaves, split-all-frames, Stage, stage-frames, Under}
use Rattle.proof_basics.proofs.Numbers.{twice}
use Rattle.std.specs.Prelude.{⊤}

first-one : (p q : Low) → first_child p ≡ first_child q → p ≡ q
first-one p q e = make (ap (λ (x : Low). x.bits) e) (ap (λ (x : Low). x.low) e)
  where
    make : p.bits + 1 ≡ q.bits + 1 → p.low ≡ q.low → p ≡ q
    make b l = let c : p.bits ≡ q.bits = omega arith in λ i. record { bits = c i; low = l i }

second-one : (p q : Low) → second_child p ≡ second_child q → p ≡ q
second-one p q e = make (ap (λ (x : Low). x.bits) e) (ap (λ (x : Low). x.low) e)
  where
    make : p.bits + 1 ≡ q.bits + 1 → p.low + 2 ^ p.bits ≡ q.low + 2 ^ q.bits → p ≡ q
    make b l =
        let c : p.bits ≡ q.bits = omega arith in
        let e : 2 ^ p.bits ≡ 2 ^ q.bits = ap (λ k. 2 ^ k) c in
        let d : p.low ≡ q.low = omega arith in λ i. record { bits = c i; low = d i }

-- a first child is no second child
first-second : (p q : Low) → IsBucket (second_child q) → IsBucket p → first_child p ≡ second_child q → ⊥
first-second p q okq okp e =
    let b : p.bits + 1 ≡ q.bits + 1 = ap (λ (x : Low). x.bits) e in
    let l : p.low ≡ q.low + 2 ^ q.bits = ap (λ (x : Low). x.low) e in
    let c : p.bits ≡ q.bits = omega arith in
    let d : 2 ^ p.bits ≡ 2 ^ q.bits = ap (λ k. 2 ^ k) c in
    let f = okp.fits in omega arith

second-first : (p q : Low) → IsBucket (second_child q) → second_child p ≡ first_child q → ⊥
second-first p q okq e =
    let b : p.bits + 1 ≡ q.bits + 1 = ap (λ (x : Low). x.bits) e in
    let l : p.low + 2 ^ p.bits ≡ q.low = ap (λ (x : Low). x.low) e in
    let c : p.bits ≡ q.bits = omega arith in
    let d : 2 ^ p.bits ≡ 2 ^ q.bits = ap (λ k. 2 ^ k) c in
    let t = twice q.bits in
    let f = okq.fits in omega arith

too-many : (m d x y a b : ℕ) → m < d → d ≡ x + y → a ≡ x → b ≡ y → a + b ≤ m / 2 → ⊥
too-many m d x y a b h e f g few = let half : m / 2 ≤ m = half-least m in omega arith
  where
    half-least : (n : ℕ) → n / 2 ≤ n
    half-least n = omega arith

module _ (s : Settings) (sound : AreSettings s) (U : Content) where
  abbrev pub Always : Row → Type 0
  Always r = ⊤

  child-row-is : (r : Row) (c : Low) (ns ms : ℕ → Node) → IsBucket c → covers r.bucket c ≡ true → IsRow s ns r → ((n : ℕ) → (ms n).regions ≡ (ns n).regions) → IsRow s ms (child_row c r)
  child-row-is r c ns ms ok over row same = record {
    valid = ok;
    serves = row.serves;
    accepted = λ acc n h key k. subst (λ rs. list_any (λ q. has_key q key) rs ≡ true) (sym (same n)) (row.accepted acc n h key (covers-key r.bucket c key over k));
    undecided = row.undecided;
  }

  -- a row and its halves
  under-split : (ns : ℕ → Node) (rows rest one two : List Row) (r : Row) → Among r rows rest → r.bucket.bits < 58 → Among (first_row s r ns) one rest → Among (second_row s r ns) two one
      → Under s sound U Always everywhere (record { nodes = ns; rows = rows }) → Under s sound U Always everywhere (record { nodes = second_nodes s r ns; rows = two })
  under-split ns rows rest one two r m few mone mtwo u =
      let b = r.bucket in
      let c = first_child b in
      let d = second_child b in
      let x = apart-among r rows rest u.sane.apart m in
      let ok = x.1 in
      let okc = first-fits b ok few in
      let okd = second-fits b ok few in
      let apart_cd = children-apart b ok few in
      let row = all-among (IsRow s ns) r rows rest u.sane.rows m in
      let stage = all-among (Stage s sound U everywhere ns) r rows rest u.stages m in
      let j = split-leaves s sound U c okc ns u.sane.good u.sane.union in
      let ms : ℕ → Node = split_nodes s r ns in
      let rowc = child-row-is r c ns ms okc (covers-first b ok) row.0 j.regions in
      let g1 = good-round s sound U ms (child_row c r) okc j.good in
      let u1 = union-round s sound U ms (child_row c r) rowc j.union in
      let same1 : (n : ℕ) → (first_nodes s r ns n).regions ≡ (ms n).regions = λ n. if-both (λ (y : Node). y.regions ≡ (ms n).regions) (is_target s (child_row c r) n) (apply_node c (united s ms) (ms n)) (ms n) (λ e. apply-regions c (united s ms) (ms n)) refl in
      let rowd = child-row-is r d ns (first_nodes s r ns) okd (covers-second b ok) row.0 (λ n. same1 n ∙ j.regions n) in
      let g2 = good-round s sound U (first_nodes s r ns) (child_row d r) okd g1 in
      let u2 = union-round s sound U (first_nodes s r ns) (child_row d r) rowd u1 in
      let roundc = rounded-by s sound U ms (child_row c r) rowc j.good j.union in
      let roundd = rounded-by s sound U (first_nodes s r ns) (child_row d r) rowd g1 u1 in
      let f2 : Frames c (first_nodes s r ns) (second_nodes s r ns) = frames-round s sound U (first_nodes s r ns) (child_row d r) c okc okd apart_cd g1 in
      let fr : (q : Low) → IsBucket q → meets q b ≡ false → Frames q ns (second_nodes s r ns) = λ q okq apart.
      let aq = apart-part₂ q b c (covers-first b ok) apart in
      let dq = apart-part₂ q b d (covers-second b ok) apart in
      frames-trans q ns ms (second_nodes s r ns) (split-all-frames s sound U c okc ns u.sane.good q okq aq)
      (frames-trans q ms (first_nodes s r ns) (second_nodes s r ns) (frames-round s sound U ms (child_row c r) q okq okc aq j.good) (frames-round s sound U (first_nodes s r ns) (child_row d r) q okq okd dq g1)) in
      let none_c = none-map (λ q. meets q.bucket b) (λ q. meets q.bucket c) rest (λ q e. meets-sym b q.bucket (meets-part b c q.bucket (covers-first b ok) (meets-sym q.bucket c e))) x.0 in
      let none_d = none-map (λ q. meets q.bucket b) (λ q. meets q.bucket d) rest (λ q e. meets-sym b q.bucket (meets-part b d q.bucket (covers-second b ok) (meets-sym q.bucket d e))) x.0 in
      let none_d1 = among-none (λ q. meets q.bucket d) (first_row s r ns) one rest apart_cd none_d mone in
      record {
        sane = record {
          good = g2;
          union = u2;
          rows = among-all (IsRow s (second_nodes s r ns)) (second_row s r ns) two one (row-round s sound U (first_nodes s r ns) (child_row d r) rowd)
              (among-all (IsRow s (second_nodes s r ns)) (first_row s r ns) one rest
              (frames-row s U (first_nodes s r ns) (second_nodes s r ns) (first_row s r ns) okc f2 (row-round s sound U ms (child_row c r) rowc))
              (all-frames (IsRow s) b ns (second_nodes s r ns) (λ q okq g h. frames-row s U ns (second_nodes s r ns) q okq g h) fr rest x.0 x.2 row.1) mone) mtwo;
          apart = among-apart (second_row s r ns) two one none_d1 okd (among-apart (first_row s r ns) one rest none_c okc x.2 mone) mtwo;
        };
        stages = among-all (Stage s sound U everywhere (second_nodes s r ns)) (second_row s r ns) two one
            (record { new = λ e. roundd; old = λ e. cc; documents = roundd.documents })
            (among-all (Stage s sound U everywhere (second_nodes s r ns)) (first_row s r ns) one rest
            (stage-frames s sound U everywhere (first_nodes s r ns) (second_nodes s r ns) (first_row s r ns) okc f2 (record { new = λ e. roundc; old = λ e. cc; documents = roundc.documents }))
            (all-frames (Stage s sound U everywhere) b ns (second_nodes s r ns) (λ q okq g h. stage-frames s sound U everywhere ns (second_nodes s r ns) q okq g h) fr rest x.0 x.2 stage.1) mone) mtwo;
        kept = all-of Always two (λ y i. tt);
      }

  -- a split leaves no pair to be joined
  split-no-pair : (ns : ℕ → Node) (rows rest one two : List Row) (r : Row) → Among r rows rest → r.bucket.bits < 58 → s.split_at < r.documents → Among (first_row s r ns) one rest → Among (second_row s r ns) two one
      → Under s sound U Always everywhere (record { nodes = ns; rows = rows }) → Under s sound U Always everywhere (record { nodes = second_nodes s r ns; rows = two }) → NoPair s rows → NoPair s two
  split-no-pair ns rows rest one two r m few full mone mtwo u v never p a b ia ib can =
      by_a (in-among a (second_row s r ns) two one mtwo ia) (in-among b (second_row s r ns) two one mtwo ib)
    where
      c : Low
      c = first_child r.bucket

      d : Low
      d = second_child r.bucket

      ok : IsBucket r.bucket
      ok = (apart-among r rows rest u.sane.apart m).1

      ok_b : IsBucket (second_child p)
      ok_b = subst IsBucket can.second (all-in (IsRow s (second_nodes s r ns)) b two v.sane.rows ib).valid

      old : (q : Row) → In q rest → In q rows
      old q i = among-rest q r rows rest m i

      apart_rest : (q : Row) → In q rest → meets q.bucket r.bucket ≡ false
      apart_rest q i = none-in (λ y. meets y.bucket r.bucket) q rest (apart-among r rows rest u.sane.apart m).0 i

      -- a row of the rest is no half
      no-first : (q : Row) → In q rest → q.bucket ≡ first_child r.bucket → ⊥
      no-first q i e = clash (subst (λ x. meets x r.bucket ≡ true) (sym e) (meets-covered (first_child r.bucket) r.bucket (covers-first r.bucket ok))) (apart_rest q i)

      no-second : (q : Row) → In q rest → q.bucket ≡ second_child r.bucket → ⊥
      no-second q i e = clash (subst (λ x. meets x r.bucket ≡ true) (sym e) (meets-covered (second_child r.bucket) r.bucket (covers-second r.bucket ok))) (apart_rest q i)

      -- which half it can be
      first_is : (q : Row) → q ≡ first_row s r ns → q.bucket ≡ first_child r.bucket
      first_is q e = ap (λ (y : Row). y.bucket) e

      second_is : (q : Row) → q ≡ second_row s r ns → q.bucket ≡ second_child r.bucket
      second_is q e = ap (λ (y : Row). y.bucket) e

      halves : a ≡ first_row s r ns → b ≡ second_row s r ns → ⊥
      halves ea eb =
          let da = (all-in (Stage s sound U everywhere (second_nodes s r ns)) a two v.stages ia).documents in
          let db = (all-in (Stage s sound U everywhere (second_nodes s r ns)) b two v.stages ib).documents in
          let dr = (all-in (Stage s sound U everywhere ns) r rows u.stages (among-in r rows rest m)).documents in
          too-many s.split_at r.documents (s.documents U (first_child r.bucket)) (s.documents U (second_child r.bucket)) a.documents b.documents full (dr ∙ sound.halves U r.bucket ok)
          (da ∙ ap (λ x. s.documents U x) (first_is a ea)) (db ∙ ap (λ x. s.documents U x) (second_is b eb)) can.few

      by_b : (a ≡ first_row s r ns) ⊎ In a rest → (b ≡ first_row s r ns) ⊎ In b rest → ⊥
      by_b (inl ea) (inl eb) = first-second r.bucket p ok_b ok (sym (first_is b eb) ∙ can.second)
      by_b (inl ea) (inr ib) = no-second b ib (can.second ∙ ap second_child (sym (first-one r.bucket p (sym (first_is a ea) ∙ can.first))))
      by_b (inr ia) (inl eb) = first-second r.bucket p ok_b ok (sym (first_is b eb) ∙ can.second)
      by_b (inr ia) (inr ib) = never p a b (old a ia) (old b ib) can

      by_a : (a ≡ second_row s r ns) ⊎ In a one → (b ≡ second_row s r ns) ⊎ In b one → ⊥
      by_a (inl ea) y = second-first r.bucket p ok_b (sym (second_is a ea) ∙ can.first)
      by_a (inr ja) (inl eb) = elim (in-among a (first_row s r ns) one rest mone ja) [
        | inl ea ↦ halves ea eb
        | inr ia ↦ no-first a ia (can.first ∙ ap first_child (sym (second-one r.bucket p (sym (second_is b eb) ∙ can.second))))
      ]
      by_a (inr ja) (inr jb) = by_b (in-among a (first_row s r ns) one rest mone ja) (in-among b (first_row s r ns) one rest mone jb)

  pub under-splits : (w v : World) → Splits s w v → Under s sound U Always everywhere w → NoPair s w.rows → Under s sound U Always everywhere v × NoPair s v.rows
  under-splits w v (NoSplit w') u never = (u, never)
  under-splits w v (MoreSplits ns rows rest one two r end m few full mone mtwo more) u never =
      let g = under-split ns rows rest one two r m few mone mtwo u in
      under-splits (record { nodes = second_nodes s r ns; rows = two }) v more g (split-no-pair ns rows rest one two r m few full mone mtwo u g never)
