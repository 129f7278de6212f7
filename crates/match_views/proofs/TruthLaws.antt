-- What an expression finds, by what its parts find.
use Rattle.std.proofs.Common.{◌≡◌, ℕ, zero, suc, ◌+◌, ◌<◌, ◌==◌, ◌&&◌, ◌||◌, Bool, true, false, not, List, [], ◌∷◌, map, length, take, get_or, Option, Some, None, refl, sym, ap, ap₂, ◌∙◌, arith}
use Rattle.std.specs.List.{list_all, list_any}
use Rattle.std.specs.Str.{bytes_eq}
use Rattle.std.specs.FinMap as fin
use Rattle.std.proofs.lemmas.List.Folds.{list_all_more}
use Rattle.doc_types.specs.declared.values.FieldValue.{FieldValue}
use Rattle.doc_types.specs.declared.values.FieldValue.TheVariants.{Int, Text, Ints, Texts}
use Rattle.documents.specs.Fields.{Contents}
use Rattle.word_index.specs.Tokens.{tokens_of}
use Rattle.document_rows.specs.Rows.{Rows}
use Rattle.document_rows.specs.Reading as reading
use Rattle.document_rows.specs.Reading.{places_where, is_of_type, has_token, value_has_token}
use Rattle.query_text.specs.declared.expr.Expr.{Expr}
use Rattle.query_text.specs.Truth as truth
use Rattle.query_text.specs.Truth.{expr_holds, contains}
use Rattle.proof_basics.proofs.Numbers.{apart}
use Rattle.proof_basics.proofs.Tests.{clash}
use Rattle.match_views.specs.Merging.{joined, cut, lacking}
use Rattle.match_views.proofs.PlaceLaws.{joined-places, cut-places, lacking-places, same-places, no-places}

-- the documents of a type of which an expression is true
abbrev pub found : List ℕ → Expr → Rows → List ℕ
found name e rows = places_where (λ d. is_of_type name d && expr_holds d e) rows

and_none : (t e : Bool) → e ≡ false → (t && e) ≡ false
and_none true e h = h
and_none false e h = refl

and_not : (t x e : Bool) → e ≡ not x → (t && not (t && x)) ≡ (t && e)
and_not true x e h = sym h
and_not false x e h = refl

and_both : (t x y e : Bool) → e ≡ (x && y) → ((t && x) && (t && y)) ≡ (t && e)
and_both true x y e h = sym h
and_both false x y e h = refl

and_either : (t x y e : Bool) → e ≡ (x || y) → ((t && x) || (t && y)) ≡ (t && e)
and_either true x y e h = sym h
and_either false x y e h = refl

pub found_none : (name : List ℕ) (test : Contents → Bool) (rows : Rows) (out : List ℕ) → ((d : Contents) → test d ≡ false) → out ≡ []
    → out ≡ places_where (λ d. is_of_type name d && test d) rows
found_none name test rows out f h = h ∙ sym (no-places (λ d. is_of_type name d && test d) (λ d. and_none (is_of_type name d) (test d) (f d)) 0 rows)

pub found_not : (name : List ℕ) (e x : Expr) (rows : Rows) (all some out : List ℕ) → ((d : Contents) → expr_holds d e ≡ not (expr_holds d x))
    → all ≡ places_where (is_of_type name) rows → some ≡ found name x rows → out ≡ lacking all some → out ≡ found name e rows
found_not name e x rows all some out f a s o =
    o ∙ ap₂ lacking a s ∙ lacking-places (is_of_type name) (λ d. is_of_type name d && expr_holds d x) 0 rows
    ∙ same-places _ _ (λ d. and_not (is_of_type name d) (expr_holds d x) (expr_holds d e) (f d)) 0 rows

pub found_both : (name : List ℕ) (e x y : Expr) (rows : Rows) (one two out : List ℕ) → ((d : Contents) → expr_holds d e ≡ (expr_holds d x && expr_holds d y))
    → one ≡ found name x rows → two ≡ found name y rows → out ≡ cut one two → out ≡ found name e rows
found_both name e x y rows one two out f a b o =
    o ∙ ap₂ cut a b ∙ cut-places (λ d. is_of_type name d && expr_holds d x) (λ d. is_of_type name d && expr_holds d y) 0 rows
    ∙ same-places _ _ (λ d. and_both (is_of_type name d) (expr_holds d x) (expr_holds d y) (expr_holds d e) (f d)) 0 rows

pub found_either : (name : List ℕ) (e x y : Expr) (rows : Rows) (one two out : List ℕ) → ((d : Contents) → expr_holds d e ≡ (expr_holds d x || expr_holds d y))
    → one ≡ found name x rows → two ≡ found name y rows → out ≡ joined one two → out ≡ found name e rows
found_either name e x y rows one two out f a b o =
    o ∙ ap₂ joined a b ∙ joined-places (λ d. is_of_type name d && expr_holds d x) (λ d. is_of_type name d && expr_holds d y) 0 rows
    ∙ same-places _ _ (λ d. and_either (is_of_type name d) (expr_holds d x) (expr_holds d y) (expr_holds d e) (f d)) 0 rows

-- a test that agrees with the expression
pub found_as : (name : List ℕ) (e : Expr) (test : Contents → Bool) (rows : Rows) (out : List ℕ) → ((d : Contents) → expr_holds d e ≡ test d)
    → out ≡ places_where (λ d. is_of_type name d && test d) rows → out ≡ found name e rows
found_as name e test rows out f o = o ∙ same-places _ _ (λ d. ap (λ t. is_of_type name d && t) (sym (f d))) 0 rows

-- ---- tokens

-- a document of the type has these tokens in a field, the first of which is there
abbrev pub has_all : List ℕ → List ℕ → List ℕ → List (List ℕ) → Contents → Bool
has_all name field first tokens d = has_token name field first d && list_all (λ w. value_has_token w (fin.get d.fields field)) tokens

texts_same : (v : Option FieldValue) → truth.texts_in v ≡ reading.texts_in v
texts_same None = refl
texts_same (Some (Int z)) = refl
texts_same (Some (Text t)) = refl
texts_same (Some (Ints zs)) = refl
texts_same (Some (Texts ts)) = refl

token_same : (v : Option FieldValue) (w : List ℕ) → truth.has_token v w ≡ value_has_token w v
token_same v w = ap (λ ts. list_any (λ tokens. list_any (bytes_eq w) tokens) (map tokens_of ts)) (texts_same v)

all_same : (v : Option FieldValue) (ws : List (List ℕ)) → list_all (truth.has_token v) ws ≡ list_all (λ w. value_has_token w v) ws
all_same v [] = refl
all_same v (w ∷ ws) = ap₂ (λ a b. a && b) (token_same v w) (all_same v ws)

and_true : (b : Bool) → (b && true) ≡ b
and_true true = refl
and_true false = refl

-- one token alone
pub all_first : (name field first : List ℕ) (rows : Rows) (out : List ℕ) → out ≡ places_where (has_token name field first) rows → out ≡ places_where (has_all name field first []) rows
all_first name field first rows out o = o ∙ same-places _ _ (λ d. sym (and_true (has_token name field first d))) 0 rows

one_more : (t f h w : Bool) → (((t && f) && h) && (t && w)) ≡ ((t && f) && (h && w))
one_more true true true w = refl
one_more true true false w = refl
one_more true false h w = refl
one_more false f h w = refl

-- and one more
pub all_more : (name field first : List ℕ) (tokens : List (List ℕ)) (at : ℕ) (token : List ℕ) (rows : Rows) (before with out : List ℕ) → at < length tokens → get_or tokens at [] ≡ token
    → before ≡ places_where (has_all name field first (take at tokens)) rows → with ≡ places_where (has_token name field token) rows → out ≡ cut before with
    → out ≡ places_where (has_all name field first (take (at + 1) tokens)) rows
all_more name field first tokens at token rows before with out l e b w o =
    o ∙ ap₂ cut b w ∙ cut-places (has_all name field first (take at tokens)) (has_token name field token) 0 rows ∙ same-places _ _ step 0 rows
  where
    step : (d : Contents) → (has_all name field first (take at tokens) d && has_token name field token d) ≡ has_all name field first (take (at + 1) tokens) d
    step d =
        let h : List ℕ → Bool = λ k. value_has_token k (fin.get d.fields field) in
        one_more (is_of_type name d) (h first) (list_all h (take at tokens)) (h token)
        ∙ ap (λ t. has_token name field first d && (list_all h (take at tokens) && h t)) (sym e)
        ∙ ap (λ t. has_token name field first d && t) (sym (list_all_more h tokens at [] l))

all_has : (h : List ℕ → Bool) (tokens : List (List ℕ)) (at : ℕ) → at < length tokens → (t : Bool) → ((t && h (get_or tokens at [])) && list_all h tokens) ≡ (t && list_all h tokens)
all_has h (w ∷ ws) zero l t = here t (h w) (list_all h ws)
  where
    here : (t a b : Bool) → ((t && a) && (a && b)) ≡ (t && (a && b))
    here true true b = refl
    here true false b = refl
    here false a b = refl
all_has h (w ∷ ws) (suc at) l t = there t (h w) (h (get_or ws at [])) (list_all h ws) (all_has h ws at (omega arith) t)
  where
    there : (t a b c : Bool) → ((t && b) && c) ≡ (t && c) → ((t && b) && (a && c)) ≡ (t && (a && c))
    there true true b c e = e
    there true false true c e = refl
    there true false false c e = refl
    there false a b c e = refl
all_has h [] at l t = absurd (omega arith)

not_none : (tokens : List (List ℕ)) (at : ℕ) → at < length tokens → not (length tokens == 0) ≡ true
not_none [] at l = absurd (omega arith)
not_none (w ∷ ws) at l = ap not (apart (length (w ∷ ws)) 0 (λ e. omega (arith, e)))

all_again : (h : List ℕ → Bool) (tokens : List (List ℕ)) (at : ℕ) (first : List ℕ) (t : Bool) → at < length tokens → get_or tokens at [] ≡ first
    → ((t && h first) && list_all h (take at tokens)) ≡ ((t && h first) && list_all h (take (at + 1) tokens))
all_again h tokens at first t l e =
    again (t && h first) t (h first) (list_all h (take at tokens)) refl
    ∙ ap (λ w. (t && h first) && (list_all h (take at tokens) && h w)) (sym e)
    ∙ ap (λ b. (t && h first) && b) (sym (list_all_more h tokens at [] l))
  where
    again : (b t f a : Bool) → b ≡ (t && f) → (b && a) ≡ (b && (a && f))
    again b true true true e = refl
    again b true true false e = refl
    again b true false a e = ap (λ c. c && a) e ∙ ap (λ c. c && (a && false)) (sym e)
    again b false f a e = ap (λ c. c && a) e ∙ ap (λ c. c && (a && f)) (sym e)

-- the first one again
pub all_still : (name field first : List ℕ) (tokens : List (List ℕ)) (at : ℕ) (rows : Rows) (out : List ℕ) → at < length tokens → get_or tokens at [] ≡ first
    → out ≡ places_where (has_all name field first (take at tokens)) rows → out ≡ places_where (has_all name field first (take (at + 1) tokens)) rows
all_still name field first tokens at rows out l e o =
    o ∙ same-places _ _ (λ d. all_again (λ w. value_has_token w (fin.get d.fields field)) tokens at first (is_of_type name d) l e) 0 rows

-- all of them
pub all_found : (name field first : List ℕ) (tokens : List (List ℕ)) (at : ℕ) (rows : Rows) (out : List ℕ) → at < length tokens → get_or tokens at [] ≡ first
    → out ≡ places_where (has_all name field first tokens) rows → out ≡ places_where (λ d. is_of_type name d && contains tokens (fin.get d.fields field)) rows
all_found name field first tokens at rows out l e o = o ∙ same-places _ _ step 0 rows
  where
    step : (d : Contents) → has_all name field first tokens d ≡ (is_of_type name d && contains tokens (fin.get d.fields field))
    step d =
        let v = fin.get d.fields field in
        let h : List ℕ → Bool = λ k. value_has_token k v in
        ap (λ w. (is_of_type name d && h w) && list_all h tokens) (sym e)
        ∙ all_has h tokens at l (is_of_type name d)
        ∙ ap (λ b. is_of_type name d && b) (sym (all_same v tokens))
        ∙ ap (λ b. is_of_type name d && (b && list_all (truth.has_token v) tokens)) (sym (not_none tokens at l))

pub contains_none : (tokens : List (List ℕ)) (v : Option FieldValue) → tokens ≡ [] → contains tokens v ≡ false
contains_none tokens v e = ap (λ ts. contains ts v) e

pub length_none : (tokens : List (List ℕ)) → (length tokens == 0) ≡ true → tokens ≡ []
length_none [] e = refl
length_none (w ∷ ws) e = clash e (apart (length (w ∷ ws)) 0 (λ h. omega (arith, h)))
