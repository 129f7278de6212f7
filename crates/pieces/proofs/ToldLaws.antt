-- What is told where a piece stands at a place, and where none does.
use Rattle.std.proofs.Common.{◌≡◌, ◌≢◌, ◌==◌, ◌&&◌, ◌||◌, ℕ, zero, suc, ◌<◌, Bool, true, false, cond, not, filter, List, [], ◌∷◌, take, drop, refl, sym, ap, ap₂, ◌∙◌, arith, get_or, length, Some, None, eqb, eqb-true, eq-eqb, Err}
use Rattle.std.specs.List.{list_any, find, remove}
use Rattle.bucket_ids.specs.Buckets.{Low, IsBucket, covers}
use Rattle.pieces.specs.declared.piece.Piece.{Piece}
use Rattle.pieces.specs.Pieces.{is_over, is_inside, is_exactly, is_piece, does_meet, without}
use Rattle.pieces.specs.Places.{IsFirstOver, IsPlaceOf, IsRunInside}
use Rattle.pieces.specs.Runs.{IsLaid, AreRuns}
use Rattle.pieces.specs.declared.fault.StoreFault.{StoreFault}
use Rattle.pieces.specs.Told.{Told, Accepted, NoBucket, Differs, IsSurelyTold, fault_of, where_some, split_told, unless_met, ready_told, delete_told, by_mark, activate_told}
use Rattle.proof_basics.proofs.Tests.{or_false}
use Rattle.pieces.proofs.PieceLaws.{any_found}
use Rattle.pieces.proofs.Finding.{none_sub, any-parts}
use Rattle.pieces.proofs.PlaceLaws.{exact_sub, over_sub, piece_sub, IsFirstMet-over, met-behind, exact_over}

pub told-over : (b : Low) (ps : List Piece) (k : ℕ) (d : Piece) → IsFirstOver b ps k → split_told b ps ≡ Accepted
told-over b ps k d o = ap where_some (any_found (is_over b) ps k d o.within (o.over d))

pub told-inside : (b : Low) (ps : List Piece) (i j : ℕ) (d : Piece) → IsRunInside b ps i j → list_any (is_inside b) ps ≡ true
told-inside b ps i j d r = any_found (is_inside b) ps i d (let l = r.rising in let w = r.within in omega (arith, l, w)) (r.inside i d (omega arith) r.rising)

pub told-exact : (b : Low) (ps : List Piece) (k : ℕ) (d : Piece) → IsPlaceOf b ps k → ready_told b ps ≡ Accepted
told-exact b ps k d o = ap (λ t. cond t Accepted (unless_met b ps)) (any_found (is_exactly b) ps k d o.within (o.exact d))

-- the answer of a refusal is what is told
pub refused : (t : Told) (b : Low) (ps : List Piece) (e : StoreFault) → e ≡ fault_of (unless_met b ps) → t ≡ unless_met b ps → IsSurelyTold {A = Unit {0}} t (Err e)
refused t b ps e is told = by_test (list_any (does_meet b) ps) refl
  where
    by_test : (x : Bool) → list_any (does_meet b) ps ≡ x → IsSurelyTold {A = Unit {0}} t (Err e)
    by_test true g = let u : unless_met b ps ≡ Differs = ap (λ t. cond t Differs NoBucket) g in rw (is ∙ ap fault_of u) (told ∙ u)
    by_test false g = let u : unless_met b ps ≡ NoBucket = ap (λ t. cond t Differs NoBucket) g in rw (is ∙ ap fault_of u) (told ∙ u)

pub ready-refused : (b : Low) (ps : List Piece) → list_any (is_exactly b) ps ≡ false → ready_told b ps ≡ unless_met b ps
ready-refused b ps h = ap (λ t. cond t Accepted (unless_met b ps)) h

pub delete-refused : (b : Low) (t : ℕ) (ps : List Piece) → list_any (is_exactly b) ps ≡ false → delete_told b t ps ≡ unless_met b ps
delete-refused b t ps h = ap (λ x. cond x Accepted (unless_met b ps)) (none_sub (is_piece b t) (is_exactly b) (piece_sub b t) ps h)

pub delete-accepted : (b : Low) (t : ℕ) (ps : List Piece) (k : ℕ) (x : Piece) → IsPlaceOf b ps k → x ≡ get_or ps k x → x.serial ≡ t → delete_told b t ps ≡ Accepted
delete-accepted b t ps k x o e is = ap (λ y. cond y Accepted (unless_met b ps)) (any_found (is_piece b t) ps k x o.within here)
  where
    here : is_piece b t (get_or ps k x) ≡ true
    here = ap₂ (λ y z. y && z) (o.exact x) (ap (λ (y : Piece). y.serial == t) (sym e) ∙ eq-eqb _ _ is)

or_right : (x y : Bool) → x ≡ true → x || y ≡ true
or_right true y h = refl
or_right false y h = cc

no_eq : (a c : ℕ) → a ≢ c → (a == c) ≡ false
no_eq a c n = by_test (eqb a c) refl
  where
    by_test : (t : Bool) → eqb a c ≡ t → t ≡ false
    by_test true f = absurd (n (eqb-true a c f))
    by_test false f = refl

-- a piece that is the bucket has another serial
pub delete-differs : AreRuns → (b : Low) → IsBucket b → (t : ℕ) (ps : List Piece) → IsLaid 0 ps → (k : ℕ) (x : Piece) → IsPlaceOf b ps k → x ≡ get_or ps k x → x.serial ≢ t → delete_told b t ps ≡ Differs
delete-differs laws b vb t ps laid k x o e other =
    let over = exact_over b vb (get_or ps k x) (o.exact x) in
    let first = none_sub (is_piece b t) (is_exactly b) (piece_sub b t) (take k ps) (none_sub (is_exactly b) (is_over b) (exact_sub b vb) (take k ps) (none_sub (is_over b) (does_meet b) (over_sub b) (take k ps) (IsFirstMet-over laws b vb 0 ps laid k x o.within over))) in
    let rest = none_sub (is_piece b t) (is_exactly b) (piece_sub b t) (drop (suc k) ps) (none_sub (is_exactly b) (is_over b) (exact_sub b vb) (drop (suc k) ps) (none_sub (is_over b) (does_meet b) (over_sub b) (drop (suc k) ps) (met-behind laws b vb ps laid k x o.within over))) in
    ap₂ (λ y z. cond y Accepted (cond z Differs NoBucket))
    (any-parts (is_piece b t) ps k x o.within first rest ∙ ap₂ (λ y z. y && z) (o.exact x) (ap (λ (y : Piece). y.serial == t) (sym e) ∙ no_eq x.serial t other))
    (any_found (does_meet b) ps k x o.within (or_right (covers (get_or ps k x).bucket b) (covers b (get_or ps k x).bucket) over))

find-at : (test : Piece → Bool) (ps : List Piece) (k : ℕ) (d : Piece) → k < length ps → list_any test (take k ps) ≡ false → test (get_or ps k d) ≡ true → find test ps ≡ Some (get_or ps k d)
find-at test [] k d lt h e = absurd (omega arith)
find-at test (p ∷ ps) zero d lt h e = ap (λ t. cond t (Some p) (find test ps)) e
find-at test (p ∷ ps) (suc k) d lt h e = let parts = or_false (test p) _ h in ap (λ t. cond t (Some p) (find test ps)) parts.0 ∙ find-at test ps k d (omega (arith, lt)) parts.1 e

find-none : (test : Piece → Bool) (ps : List Piece) → list_any test ps ≡ false → find test ps ≡ None
find-none test [] h = refl
find-none test (p ∷ ps) h = let parts = or_false (test p) _ h in ap (λ t. cond t (Some p) (find test ps)) parts.0 ∙ find-none test ps parts.1

pub activate-at : (b : Low) (ps : List Piece) (k : ℕ) (x : Piece) → IsFirstOver b ps k → x ≡ get_or ps k x → activate_told b ps ≡ by_mark (Some x)
activate-at b ps k x o e = ap by_mark (find-at (is_over b) ps k x o.within o.first (o.over x) ∙ ap (λ y. Some y) (sym e))

pub activate-none : (b : Low) (ps : List Piece) → list_any (is_over b) ps ≡ false → activate_told b ps ≡ NoBucket
activate-none b ps h = ap by_mark (find-none (is_over b) ps h)

-- ---- the piece that is a bucket goes

filter-whole : (test : Piece → Bool) (ps : List Piece) → list_any test ps ≡ false → filter (λ p. not (test p)) ps ≡ ps
filter-whole test [] h = refl
filter-whole test (p ∷ ps) h =
    let parts = or_false (test p) _ h in
    ap (λ t. cond (not t) (p ∷ filter (λ p. not (test p)) ps) (filter (λ p. not (test p)) ps)) parts.0 ∙ ap (λ xs. p ∷ xs) (filter-whole test ps parts.1)

filter-but : (test : Piece → Bool) (ps : List Piece) (k : ℕ) (d : Piece) → k < length ps → list_any test (take k ps) ≡ false → test (get_or ps k d) ≡ true → list_any test (drop (suc k) ps) ≡ false
    → filter (λ p. not (test p)) ps ≡ remove ps k
filter-but test [] k d lt before here after = absurd (omega arith)
filter-but test (p ∷ ps) zero d lt before here after =
    ap (λ t. cond (not t) (p ∷ filter (λ p. not (test p)) ps) (filter (λ p. not (test p)) ps)) here ∙ filter-whole test ps after
filter-but test (p ∷ ps) (suc k) d lt before here after =
    let parts = or_false (test p) _ before in
    ap (λ t. cond (not t) (p ∷ filter (λ p. not (test p)) ps) (filter (λ p. not (test p)) ps)) parts.0 ∙ ap (λ xs. p ∷ xs) (filter-but test ps k d (omega (arith, lt)) parts.1 here after)

pub without-at : AreRuns → (b : Low) → IsBucket b → (ps : List Piece) → IsLaid 0 ps → (k : ℕ) (d : Piece) → IsPlaceOf b ps k → without b ps ≡ remove ps k
without-at laws b vb ps laid k d o =
    let over = exact_over b vb (get_or ps k d) (o.exact d) in
    filter-but (is_exactly b) ps k d o.within
    (none_sub (is_exactly b) (is_over b) (exact_sub b vb) (take k ps) (none_sub (is_over b) (does_meet b) (over_sub b) (take k ps) (IsFirstMet-over laws b vb 0 ps laid k d o.within over)))
    (o.exact d)
    (none_sub (is_exactly b) (is_over b) (exact_sub b vb) (drop (suc k) ps) (none_sub (is_over b) (does_meet b) (over_sub b) (drop (suc k) ps) (met-behind laws b vb ps laid k d o.within over)))

pub first-exact : AreRuns → (b : Low) → IsBucket b → (ps : List Piece) → IsLaid 0 ps → (k : ℕ) (d : Piece) → IsPlaceOf b ps k → IsFirstOver b ps k
first-exact laws b vb ps laid k d o = record {
  within = o.within;
  over = λ x. exact_over b vb (get_or ps k x) (o.exact x);
  first = none_sub (is_over b) (does_meet b) (over_sub b) (take k ps) (IsFirstMet-over laws b vb 0 ps laid k d o.within (exact_over b vb (get_or ps k d) (o.exact d)));
}
