-- The pieces that a Read of a row shows, those that meet it, tell the same shape as all of the node.
use Rattle.std.proofs.Common.{◌≡◌, ◌||◌, Bool, true, false, cond, List, [], ◌∷◌, filter, refl, sym, ap, ◌∙◌, subst, Some}
use Rattle.std.specs.List.{list_any, find}
use Rattle.bucket_ids.specs.Buckets.{Low, IsBucket}
use Rattle.pieces.specs.declared.piece.Piece.{Piece}
use Rattle.pieces.specs.Pieces.{meets, does_meet, is_over, is_inside, is_exactly}
use Rattle.pieces.proofs.PieceLaws.{bucket-same, meets-refl}
use Rattle.pass_model.specs.Shapes.{shape_by, shape_of}
use Rattle.proof_basics.proofs.Tests.{clash}
use Rattle.pass_model.proofs.Geometry.{meets-covered, meets-covers}

find-filter : (T keep : Piece → Bool) → ((p : Piece) → T p ≡ true → keep p ≡ true) → (ps : List Piece) → find T (filter keep ps) ≡ find T ps
find-filter T keep f [] = refl
find-filter T keep f (p ∷ ps) = by_keep (keep p) refl (T p) refl (find-filter T keep f ps)
  where
    by_keep : (t : Bool) → keep p ≡ t → (u : Bool) → T p ≡ u → find T (filter keep ps) ≡ find T ps → find T (cond t (p ∷ filter keep ps) (filter keep ps)) ≡ cond (T p) (Some p) (find T ps)
    by_keep true e u w ih = ap (λ o. cond (T p) (Some p) o) ih
    by_keep false e true w ih = clash (f p w) e
    by_keep false e false w ih = ih ∙ sym (ap (λ t. cond t (Some p) (find T ps)) w)

any-same : (T keep : Piece → Bool) → ((p : Piece) → T p ≡ true → keep p ≡ true) → (ps : List Piece) → list_any T (filter keep ps) ≡ list_any T ps
any-same T keep f [] = refl
any-same T keep f (p ∷ ps) = by_keep (keep p) refl (T p) refl (any-same T keep f ps)
  where
    by_keep : (t : Bool) → keep p ≡ t → (u : Bool) → T p ≡ u → list_any T (filter keep ps) ≡ list_any T ps → list_any T (cond t (p ∷ filter keep ps) (filter keep ps)) ≡ (T p || list_any T ps)
    by_keep true e u w ih = ap (λ o. T p || o) ih
    by_keep false e true w ih = clash (f p w) e
    by_keep false e false w ih = ih ∙ sym (ap (λ t. t || list_any T ps) w)

pub shape-shown : (b : Low) → IsBucket b → (ps : List Piece) → shape_of b (filter (does_meet b) ps) ≡ shape_of b ps
shape-shown b ok ps =
    ap (λ o. shape_by o (list_any (is_over b) (filter (does_meet b) ps)) (list_any (is_inside b) (filter (does_meet b) ps))) (find-filter (is_exactly b) (does_meet b) (λ p e. subst (λ c. meets c b ≡ true) (sym (bucket-same p.bucket b e)) (meets-refl b ok)) ps)
    ∙ ap (λ t. shape_by (find (is_exactly b) ps) t (list_any (is_inside b) (filter (does_meet b) ps))) (any-same (is_over b) (does_meet b) (λ p e. meets-covers p.bucket b e) ps)
    ∙ ap (λ t. shape_by (find (is_exactly b) ps) (list_any (is_over b) ps) t) (any-same (is_inside b) (does_meet b) (λ p e. meets-covered p.bucket b e) ps)
