-- A sum with a view more.
use Rattle.std.proofs.Common.{◌≡◌, ℕ, ◌+◌, ◌++◌, List, [], ◌∷◌, length, sym, ap, ap₂, subst, ◌∙◌, arith, append-nil, append_assoc}
use Rattle.documents.specs.Fields.{Contents}
use Rattle.view_changes.specs.Views.{View}
use Rattle.view_changes.specs.Serving.{covered_at}
use Rattle.query_text.specs.Grammar.{said_of}
use Rattle.query_text.specs.declared.query.Query.{Query}
use Rattle.match_views.specs.declared.hits.Hit.{Hit}
use Rattle.match_views.specs.Hits.{hits_of}
use Rattle.group_counts.specs.Gathered.{Gathered, IsGathered, documents_at}
use Rattle.search_views.specs.Answers.{matched, all_matched, all_covered, capped}
use Rattle.search_views.proofs.MatchLaws.{documents-matched, hits-long}

long-append : {A : Type 0} (xs ys : List A) → length (xs ++ ys) ≡ length xs + length ys
long-append [] ys = omega arith
long-append (x ∷ xs) ys = let ih : length (xs ++ ys) ≡ length xs + length ys = long-append xs ys in omega (arith, ih)

matched-last : (q : Query) (w : ℕ) (vs : List View) (v : View) → all_matched (said_of q) w (vs ++ v ∷ []) ≡ all_matched (said_of q) w vs ++ matched (said_of q) w v.nodes
matched-last q w [] v = append-nil (matched (said_of q) w v.nodes)
matched-last q w (x ∷ vs) v = ap (λ l. matched (said_of q) w x.nodes ++ l) (matched-last q w vs v) ∙ sym (append_assoc (matched (said_of q) w x.nodes) (all_matched (said_of q) w vs) (matched (said_of q) w v.nodes))

covered-last : (w : ℕ) (vs : List View) (v : View) → all_covered w (vs ++ v ∷ []) ≡ all_covered w vs + covered_at w v
covered-last w [] v = omega arith
covered-last w (x ∷ vs) v = let ih : all_covered w (vs ++ v ∷ []) ≡ all_covered w vs + covered_at w v = covered-last w vs v in omega (arith, ih)

pub count-more : (q own : Query) (w at : ℕ) (vs : List View) (v : View) (hits : List Hit) (old : ℕ) → own ≡ q → at ≡ w → length v.nodes ≡ 32 → hits ≡ hits_of own at v → old ≡ length (all_matched (said_of q) w vs)
    → old + length hits ≡ length (all_matched (said_of q) w (vs ++ v ∷ []))
count-more q own w at vs v hits old e f many is was =
    ap₂ (λ a b. a + b) was (ap length (is ∙ ap₂ (λ x y. hits_of x y v) e f) ∙ hits-long q w v many)
    ∙ sym (long-append (all_matched (said_of q) w vs) (matched (said_of q) w v.nodes))
    ∙ ap length (sym (matched-last q w vs v))

pub covered-more : (w at : ℕ) (vs : List View) (v : View) (old measure new : ℕ) → at ≡ w → old ≡ capped (all_covered w vs) → measure ≡ covered_at at v → new ≡ capped (old + measure) → new ≡ capped (all_covered w (vs ++ v ∷ []))
covered-more w at vs v old measure new e was is more =
    more ∙ ap₂ (λ a b. capped (a + b)) was (is ∙ ap (λ x. covered_at x v) e)
    ∙ twice (all_covered w vs) (covered_at w v)
    ∙ ap capped (sym (covered-last w vs v))
  where
    twice : (a b : ℕ) → capped (capped a + b) ≡ capped (a + b)
    twice a b = omega arith

pub groups-more : (q own : Query) (w at : ℕ) (vs : List View) (v : View) (hits : List Hit) (old new : Gathered) → own ≡ q → at ≡ w → length v.nodes ≡ 32 → hits ≡ hits_of own at v
    → ((docs : List Contents) → IsGathered docs old → IsGathered (docs ++ documents_at v hits) new) → IsGathered (all_matched (said_of q) w vs) old → IsGathered (all_matched (said_of q) w (vs ++ v ∷ [])) new
groups-more q own w at vs v hits old new e f many is step h =
    subst (λ l. IsGathered l new) (ap (λ l. all_matched (said_of q) w vs ++ l) (ap (documents_at v) (is ∙ ap₂ (λ x y. hits_of x y v) e f) ∙ documents-matched q w v many) ∙ sym (matched-last q w vs v))
    (step (all_matched (said_of q) w vs) h)

pub views-more : (vs : List View) (v : View) (old : ℕ) → old ≡ length vs → old + 1 ≡ length (vs ++ v ∷ [])
views-more vs v old e = let l : length (vs ++ v ∷ []) ≡ length vs + 1 = long-append vs (v ∷ []) in omega (arith, l, e)
