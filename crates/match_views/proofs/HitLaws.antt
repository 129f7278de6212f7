-- Hits of node after node.
use Rattle.std.proofs.Common.{◌≡◌, ℕ, suc, ◌+◌, ◌++◌, ◌&&◌, true, false, cond, List, [], ◌∷◌, map, refl, sym, ap, ◌∙◌, arith}
use Rattle.view_changes.specs.Views.{View}
use Rattle.view_changes.specs.Serving.{serves_at, rows_of}
use Rattle.document_rows.specs.Reading.{places_where, is_of_type}
use Rattle.query_text.specs.Truth.{expr_holds}
use Rattle.query_text.specs.declared.query.Query.{Query}
use Rattle.match_views.specs.declared.hits.Hit.{Hit}
use Rattle.match_views.specs.Hits.{found_at, hits_below}

none_behind : (ys : List Hit) → ys ++ [] ≡ ys
none_behind [] = refl
none_behind (y ∷ ys) = ap (λ r. y ∷ r) (none_behind ys)

one_more : (q : Query) (w n : ℕ) (v : View) → hits_below q w (n + 1) v ≡ hits_below q w n v ++ cond (serves_at n w v.nodes) (found_at q n v) []
one_more q w n v = (let e : n + 1 ≡ suc n = omega arith in ap (λ k. hits_below q w k v) e)

-- a node that serves
pub hits_with : (q : Query) (w n : ℕ) (v : View) (before after : List Hit) (name locals : List ℕ) → before ≡ hits_below q w n v → serves_at n w v.nodes ≡ true → name ≡ q.type_name
    → locals ≡ places_where (λ d. is_of_type name d && expr_holds d q.expr) (rows_of n v) → after ≡ before ++ map (λ local. record { node = n; local = local }) locals
    → after ≡ hits_below q w (n + 1) v
hits_with q w n v before after name locals b s t l a =
    a ∙ ap (λ xs. before ++ map {B = Hit} (λ local. record { node = n; local = local }) xs) (l ∙ ap (λ k. places_where (λ d. is_of_type k d && expr_holds d q.expr) (rows_of n v)) t)
    ∙ ap (λ xs. xs ++ found_at q n v) b
    ∙ sym (one_more q w n v ∙ ap (λ t. hits_below q w n v ++ cond t (found_at q n v) []) s)

-- a node that doesn't
pub hits_past : (q : Query) (w n : ℕ) (v : View) (before after : List Hit) → before ≡ hits_below q w n v → serves_at n w v.nodes ≡ false → after ≡ before → after ≡ hits_below q w (n + 1) v
hits_past q w n v before after b s a =
    a ∙ b ∙ sym (one_more q w n v ∙ ap (λ t. hits_below q w n v ++ cond t (found_at q n v) []) s ∙ none_behind (hits_below q w n v))
