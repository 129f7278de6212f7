-- Aligning, and the round after it.
use Rattle.std.proofs.Common.{◌≡◌, ◌==◌, ◌&&◌, not, ℕ, zero, suc, ◌<◌, Bool, true, false, cond, List, [], ◌∷◌, refl, sym, ap, ap₂, ◌∙◌, subst, arith, ◌⊎◌, inl, inr, Some, None}
use Rattle.std.specs.List.{list_any, find}
use Rattle.std.proofs.lemmas.Bool.{cases_lt}
use Rattle.bucket_ids.specs.Buckets.{Low, IsBucket, has_key}
use Rattle.lane_rest.specs.Sets.{any_below}
use Rattle.pass_model.specs.Nodes.{Node}
use Rattle.pass_model.specs.Shapes.{Fits, Inside, IsApart, IsClear, IsExact, IsSound, Nothing, Over, Same, Shape, is_askew, shape_beside, shape_by, shape_of}
use Rattle.pass_model.specs.Rows.{Row, Settings, is_target, round_node}
use Rattle.pass_model.specs.Settling.{Place, align, align_node, align_nodes, aligned, needs_align, round_at}
use Rattle.pass_model.specs.Resting.{AreSettings, IsRow, IsUnion}
use Rattle.pass_model.proofs.Rounded.{Rounded, Straight}
use Rattle.pieces.specs.declared.piece.Piece.{Piece}
use Rattle.pieces.specs.Pieces.{meets, does_meet, is_over, is_inside, is_exactly}
use Rattle.lane_journals.specs.Buckets.{Id}
use Rattle.lane_journals.specs.Events.{Content}
use Rattle.proof_basics.proofs.Tests.{both, or_false, or_true, clash}
use Rattle.pieces.proofs.PieceLaws.{bucket-same, meets-refl}
use Rattle.proof_basics.proofs.Lists.{none-map, any-map}
use Rattle.pass_model.proofs.Geometry.{meets-covered, meets-covers}
use Rattle.pass_model.proofs.Frames.{Frame, frame-refl, frame-if}
use Rattle.pass_model.proofs.Doubling.{frame-split, frame-join, split-fits, join-fits, good-split, good-join, split-held, join-held, split-regions, join-regions}
use Rattle.pass_model.proofs.Unions.{union-same}
use Rattle.pass_model.proofs.Rows.{AllGood, Frames, frames-refl, frames-trans, if-true, if-both, good-round, union-round, rounded-by, frames-round, row-round}

-- what holds of a row and the nodes at any time while the row is settled
pub record Fine (s : Settings) (U : Content) (ns : ℕ → Node) (r : Row) : Type 0 where
  pub good : AllGood ns
  pub union : IsUnion s U ns
  pub row : IsRow s ns r

find-some : (b : Low) (ps : List Piece) → list_any (is_exactly b) ps ≡ true → (p : Piece) × (find (is_exactly b) ps ≡ Some p)
find-some b [] h = cc
find-some b (p ∷ ps) h = by_test (is_exactly b p) refl (or_true (is_exactly b p) (list_any (is_exactly b) ps) h) (λ x. find-some b ps x)
  where
    by_test : (t : Bool) → is_exactly b p ≡ t → (is_exactly b p ≡ true) ⊎ (list_any (is_exactly b) ps ≡ true) → (list_any (is_exactly b) ps ≡ true → (q : Piece) × (find (is_exactly b) ps ≡ Some q)) → (q : Piece) × (cond t (Some p) (find (is_exactly b) ps) ≡ Some q)
    by_test true e o ih = (p, refl)
    by_test false e (inl x) ih = clash x e
    by_test false e (inr x) ih = ih x

find-none : (b : Low) (ps : List Piece) → list_any (is_exactly b) ps ≡ false → find (is_exactly b) ps ≡ None
find-none b [] h = refl
find-none b (p ∷ ps) h = let o = or_false (is_exactly b p) (list_any (is_exactly b) ps) h in ap (λ t. cond t (Some p) (find (is_exactly b) ps)) o.0 ∙ find-none b ps o.1

pub exact-straight : (b : Low) (x : Node) → IsExact b x → is_askew (shape_of b x.pieces) ≡ false
exact-straight b x h = let e = find-some b x.pieces h in ap (λ o. is_askew (shape_by o (list_any (is_over b) x.pieces) (list_any (is_inside b) x.pieces))) e.1

pub clear-straight : (b : Low) (x : Node) → IsBucket b → IsClear b x → is_askew (shape_of b x.pieces) ≡ false
clear-straight b x ok c =
    let no_over : list_any (is_over b) x.pieces ≡ false = none-map (does_meet b) (is_over b) x.pieces (λ p e. meets-covers p.bucket b e) c.pieces in
    let no_inside : list_any (is_inside b) x.pieces ≡ false = none-map (does_meet b) (is_inside b) x.pieces (λ p e. meets-covered p.bucket b e) c.pieces in
    let no_exact : list_any (is_exactly b) x.pieces ≡ false = none-map (does_meet b) (is_exactly b) x.pieces (λ p e. subst (λ c. meets c b ≡ true) (sym (bucket-same p.bucket b e)) (meets-refl b ok)) c.pieces in
    ap (λ o. is_askew (shape_by o (list_any (is_over b) x.pieces) (list_any (is_inside b) x.pieces))) (find-none b x.pieces no_exact)
    ∙ ap (λ t. is_askew (shape_beside t (list_any (is_inside b) x.pieces))) no_over
    ∙ ap (λ t. is_askew (shape_beside false t)) no_inside

pub any-at : (p : ℕ → Bool) (k n : ℕ) → n < k → any_below p k ≡ false → p n ≡ false
unfolding any_below
any-at p zero n h e = absurd (omega arith)
any-at p (suc k) n h e = let o = or_false (p k) (any_below p k) e in elim (cases_lt n k) [
  | inl less ↦ any-at p k n less o.1
  | inr more ↦ (let e : n ≡ k = omega arith in subst (λ m. p m ≡ false) (sym e) o.0)
]

pub and-three : (a b c : Bool) → a ≡ true → b ≡ false → (a && not b && c) ≡ false → c ≡ false
and-three a b c p q h = ap₂ (λ x y. x && not y && c) (sym p) (sym q) ∙ h

and-three-true : (a b c : Bool) → a ≡ true → b ≡ false → c ≡ true → (a && not b && c) ≡ true
and-three-true a b c p q h = ap₂ (λ x y. x && not y && c) p q ∙ h

module _ (s : Settings) (sound : AreSettings s) (U : Content) where
  aligned-good : (b : Low) → IsBucket b → (shape : Shape) (x : Node) → IsSound x → IsSound (aligned b shape x)
  aligned-good b ok Nothing x g = g
  aligned-good b ok (Same k) x g = g
  aligned-good b ok Over x g = good-split b ok x g
  aligned-good b ok Inside x g = good-join b ok x g

  pub good-align : (ns : ℕ → Node) (r : Row) → IsBucket r.bucket → AllGood ns → AllGood (align_node s r ns)
  good-align ns r ok g n = if-both IsSound (needs_align s r n) (aligned r.bucket (r.shown n) (ns n)) (ns n) (λ e. aligned-good r.bucket ok (r.shown n) (ns n) (g n)) (g n)

  aligned-held : (b : Low) (shape : Shape) (x : Node) (id : Id) → (aligned b shape x).store id ≡ x.store id
  aligned-held b Nothing x id = refl
  aligned-held b (Same k) x id = refl
  aligned-held b Over x id = split-held b x id
  aligned-held b Inside x id = join-held b x id

  pub union-align : (ns : ℕ → Node) (r : Row) → IsUnion s U ns → IsUnion s U (align_node s r ns)
  union-align ns r u = union-same s U ns (align_node s r ns) (λ n id. if-both (λ (x : Node). x.store id ≡ (ns n).store id) (needs_align s r n) (aligned r.bucket (r.shown n) (ns n)) (ns n) (λ e. aligned-held r.bucket (r.shown n) (ns n) id) refl) u

  aligned-regions : (b : Low) (shape : Shape) (x : Node) → (aligned b shape x).regions ≡ x.regions
  aligned-regions b Nothing x = refl
  aligned-regions b (Same k) x = refl
  aligned-regions b Over x = split-regions b x
  aligned-regions b Inside x = join-regions b x

  pub same-regions : (ns ms : ℕ → Node) (r : Row) → ((n : ℕ) → (ms n).regions ≡ (ns n).regions) → IsRow s ns r → IsRow s ms r
  same-regions ns ms r e row = record { valid = row.valid; serves = row.serves; accepted = λ a n h key k. subst (λ rs. list_any (λ b. has_key b key) rs ≡ true) (sym (e n)) (row.accepted a n h key k); undecided = row.undecided }

  pub row-align : (ns : ℕ → Node) (r : Row) → IsRow s ns r → IsRow s (align_node s r ns) r
  row-align ns r row = same-regions ns (align_node s r ns) r (λ n. if-both (λ (x : Node). x.regions ≡ (ns n).regions) (needs_align s r n) (aligned r.bucket (r.shown n) (ns n)) (ns n) (λ e. aligned-regions r.bucket (r.shown n) (ns n)) refl) row

  aligned-fits : (b : Low) (shape : Shape) (x : Node) → IsBucket b → IsApart x.pieces → Fits b shape x → (IsExact b (aligned b shape x)) ⊎ (IsClear b (aligned b shape x))
  aligned-fits b Nothing x ok a h = inr h
  aligned-fits b (Same k) x ok a h = inl (any-map (λ p. is_exactly b p && (p.serial == k)) (is_exactly b) x.pieces (λ p e. (both (is_exactly b p) (p.serial == k) e).0) h)
  aligned-fits b Over x ok a h = inl (split-fits b ok x a h)
  aligned-fits b Inside x ok a h = inl (join-fits b ok x h)

  keep-fits : (b : Low) (shape : Shape) (x : Node) → Fits b shape x → is_askew shape ≡ false → (IsExact b x) ⊎ (IsClear b x)
  keep-fits b Nothing x h e = inr h
  keep-fits b (Same k) x h e = inl (any-map (λ p. is_exactly b p && (p.serial == k)) (is_exactly b) x.pieces (λ p e. (both (is_exactly b p) (p.serial == k) e).0) h)
  keep-fits b Over x h e = cc
  keep-fits b Inside x h e = cc

  -- after Split and Join a node that isn't a target has the row or nothing
  pub after-align : (ns : ℕ → Node) (r : Row) → IsBucket r.bucket → AllGood ns → Rounded s U ns r → (n : ℕ) → s.serving n ≡ true → is_target s r n ≡ false → (IsExact r.bucket (align_node s r ns n)) ⊎ (IsClear r.bucket (align_node s r ns n))
  after-align ns r ok g d n h f =
      let no_holder : r.holders n ≡ false = d.holders n ∙ f in
      by_test (is_askew (r.shown n)) refl no_holder
    where
      Q : Node → Type 0
      Q x = (IsExact r.bucket x) ⊎ (IsClear r.bucket x)

      by_test : (t : Bool) → is_askew (r.shown n) ≡ t → r.holders n ≡ false → (IsExact r.bucket (align_node s r ns n)) ⊎ (IsClear r.bucket (align_node s r ns n))
      by_test true e no_holder = if-true (λ (x : Node). (IsExact r.bucket x) ⊎ (IsClear r.bucket x)) (needs_align s r n) (aligned r.bucket (r.shown n) (ns n)) (ns n)
          (and-three-true (s.serving n) (r.holders n) (is_askew (r.shown n)) h no_holder e) (aligned-fits r.bucket (r.shown n) (ns n) ok (g n).apart (d.fits n h f))
      by_test false e no_holder = if-both (λ (x : Node). (IsExact r.bucket x) ⊎ (IsClear r.bucket x)) (needs_align s r n) (aligned r.bucket (r.shown n) (ns n)) (ns n)
          (λ x. aligned-fits r.bucket (r.shown n) (ns n) ok (g n).apart (d.fits n h f)) (keep-fits r.bucket (r.shown n) (ns n) (d.fits n h f) e)

  pub straight-of : (b : Low) (x : Node) → IsBucket b → (IsExact b x) ⊎ (IsClear b x) → is_askew (shape_of b x.pieces) ≡ false
  straight-of b x ok (inl h) = exact-straight b x h
  straight-of b x ok (inr h) = clear-straight b x ok h

  -- what the alignment of a row comes to
  pub record Aligned (x : Place) : Type 0 where
    pub fine : Fine s U x.nodes x.row
    pub rounded : Rounded s U x.nodes x.row
    pub straight : Straight s x.row

  pub align-row : (x : Place) → Fine s U x.nodes x.row → Rounded s U x.nodes x.row → Aligned (align s x)
  align-row x fine d = by_test (any_below (needs_align s x.row) 32) refl
    where
      ms : ℕ → Node
      ms = align_node s x.row x.nodes

      fine-after : Fine s U (align_node s x.row x.nodes) x.row
      fine-after = record { good = good-align x.nodes x.row fine.row.valid fine.good; union = union-align x.nodes x.row fine.union; row = row-align x.nodes x.row fine.row }

      by_test : (t : Bool) → any_below (needs_align s x.row) 32 ≡ t → Aligned (cond t (round_at s (align_nodes s x)) x)
      by_test true e = record {
        fine = record {
          good = good-round s sound U (align_node s x.row x.nodes) x.row fine.row.valid fine-after.good;
          union = union-round s sound U (align_node s x.row x.nodes) x.row fine-after.row fine-after.union;
          row = row-round s sound U (align_node s x.row x.nodes) x.row fine-after.row;
        };
        rounded = rounded-by s sound U (align_node s x.row x.nodes) x.row fine-after.row fine-after.good fine-after.union;
        straight = λ n h f. straight-of x.row.bucket (align_node s x.row x.nodes n) fine.row.valid (after-align x.nodes x.row fine.row.valid fine.good d n h f);
      }
      by_test false e = record {
        fine = fine;
        rounded = d;
        straight = λ n h f. and-three (s.serving n) (x.row.holders n) (is_askew (x.row.shown n)) h (d.holders n ∙ f) (any-at (needs_align s x.row) 32 n (sound.few n h) e);
      }

  -- other rows are left as they are
  aligned-frame : (b c : Low) → IsBucket b → IsBucket c → meets c b ≡ false → (shape : Shape) (x : Node) → IsApart x.pieces → Frame c x (aligned b shape x)
  aligned-frame b c okb okc apart Nothing x a = frame-refl c x
  aligned-frame b c okb okc apart (Same k) x a = frame-refl c x
  aligned-frame b c okb okc apart Over x a = frame-split c b okc okb apart x a
  aligned-frame b c okb okc apart Inside x a = frame-join c b okc okb apart x

  pub frames-align : (x : Place) (c : Low) → IsBucket c → IsBucket x.row.bucket → meets c x.row.bucket ≡ false → AllGood x.nodes → Frames c x.nodes (align s x).nodes
  frames-align x c okc ok apart g = by_test (any_below (needs_align s x.row) 32)
    where
      first : Frames c x.nodes (align_node s x.row x.nodes)
      first = record { at = λ n. frame-if c (needs_align s x.row n) (x.nodes n) (aligned x.row.bucket (x.row.shown n) (x.nodes n)) (λ e. aligned-frame x.row.bucket c ok okc apart (x.row.shown n) (x.nodes n) (g n).apart) }

      by_test : (t : Bool) → Frames c x.nodes (cond t (round_at s (align_nodes s x)) x).nodes
      by_test true = frames-trans c x.nodes (align_node s x.row x.nodes) (round_node s x.row (align_node s x.row x.nodes)) first (frames-round s sound U (align_node s x.row x.nodes) x.row c okc ok apart (good-align x.nodes x.row ok g))
      by_test false = frames-refl c x.nodes
