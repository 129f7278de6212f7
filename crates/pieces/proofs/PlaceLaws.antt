-- What stands at a piece's place, and what a change there makes of the pieces.
use Rattle.std.proofs.Common.{◌≡◌, ◌==◌, ◌&&◌, ◌||◌, not, ℕ, zero, suc, ◌+◌, ◌-◌, ◌<◌, ◌≤◌, ◌%◌, ◌^◌, Bool, true, false, cond, List, [], ◌∷◌, ◌++◌, map, filter, take, drop, refl, sym, ap, ap₂, ◌∙◌, subst, arith, get_or, set, length, nat_lt, inl, inr, slice_range}
use Rattle.std.specs.List.{list_any, AllWithin}
use Rattle.std.proofs.lemmas.Bool.Decides.{nat_tests}
use Rattle.bucket_ids.specs.Buckets.{Low, IsBucket, covers, has_key, first_child, second_child}
use Rattle.bucket_ids.specs.Paths.{first_path, last_path}
use Rattle.pieces.specs.declared.piece.Piece.{Piece}
use Rattle.pieces.specs.Pieces.{meets, does_meet, is_over, is_inside, is_exactly, is_piece, has_key_of, with_serial, renew, renewed, split_at, parts, join_at, ready_at, make_ready}
use Rattle.pieces.specs.Runs.{IsLaid, AreRuns}
use Rattle.std.proofs.lemmas.Bool.{cases_lt}
use Rattle.std.proofs.lemmas.List.{get_or-drop}
use Rattle.std.proofs.Math.Nat.{mod-eq_of_lt}
use Rattle.pieces.specs.Places.{IsRun, IsFirstMet, IsFirstOver, IsRunInside, is_behind, key_bucket}
use Rattle.proof_basics.proofs.Tests.{or_false}
use Rattle.pieces.proofs.PieceLaws.{bucket-same, meets-sym, covers-refl}
use Rattle.pieces.proofs.RunLaws.{covers-first, covers-last, covers-bits, covers-low, make-covers, apart-runs, meets-first, first-last, true-le}
use Rattle.pieces.proofs.Laid.{none_past}
use Rattle.pieces.proofs.Finding.{laid_bucket, laid_from, laid_drop, none_sub, none_take, any-parts, none-whole}

drop_drop : (n i : ℕ) (xs : List Piece) → drop n (drop i xs) ≡ drop (i + n) xs
drop_drop n zero xs = ap (λ m. drop m xs) (omega arith)
drop_drop n (suc i) [] = nothing n ∙ sym (ap (λ m. drop m []) (let e : suc i + n ≡ suc (i + n) = omega arith in e))
  where
    nothing : (m : ℕ) → drop {A = Piece} m [] ≡ []
    nothing zero = refl
    nothing (suc m) = refl
drop_drop n (suc i) (x ∷ xs) = drop_drop n i xs ∙ sym (ap (λ m. drop m (x ∷ xs)) (let e : suc i + n ≡ suc (i + n) = omega arith in e))

-- ---- tests that ask for more than meeting
pub over_sub : (b : Low) (p : Piece) → does_meet b p ≡ false → is_over b p ≡ false
over_sub b p h = (or_false (covers p.bucket b) (covers b p.bucket) h).0

pub inside_sub : (b : Low) (p : Piece) → does_meet b p ≡ false → is_inside b p ≡ false
inside_sub b p h = (or_false (covers p.bucket b) (covers b p.bucket) h).1

pub exact_sub : (b : Low) → IsBucket b → (p : Piece) → is_over b p ≡ false → is_exactly b p ≡ false
exact_sub b vb p h = by_test (is_exactly b p) refl
  where
    by_test : (t : Bool) → is_exactly b p ≡ t → t ≡ false
    by_test true e = cc (sym h ∙ ap (λ x. covers x b) (bucket-same p.bucket b e) ∙ covers-refl b vb)
    by_test false e = refl

pub piece_sub : (b : Low) (s : ℕ) (p : Piece) → is_exactly b p ≡ false → is_piece b s p ≡ false
piece_sub b s p h = ap (λ t. t && (p.serial == s)) h

-- ---- places
pub IsFirstMet-run : (b : Low) (ps : List Piece) (i j : ℕ) → IsRun b ps i j → i < j → IsFirstMet b ps i
IsFirstMet-run b ps i j run lt = record { within = (let w = run.within in omega (arith, lt, w)); met = λ d. run.inside i d (omega arith) lt; first = run.before }

pub none-run : (b : Low) (ps : List Piece) (i j : ℕ) → IsRun b ps i j → j ≤ i → list_any (does_meet b) ps ≡ false
none-run b ps i j run le = none-whole (does_meet b) ps i run.before (subst (λ n. list_any (does_meet b) (drop n ps) ≡ false) (let r = run.rising in omega (arith, r, le)) run.after)

pub IsFirstOver-met : (b : Low) (ps : List Piece) (k : ℕ) → IsFirstMet b ps k → ((d : Piece) → true ≡ is_over b (get_or ps k d)) → IsFirstOver b ps k
IsFirstOver-met b ps k m over = record { within = m.within; over = λ d. sym (over d); first = none_sub (is_over b) (does_meet b) (over_sub b) (take k ps) m.first }

pub laid_apart : (lo : ℕ) (ps : List Piece) (i j : ℕ) (d : Piece) → IsLaid lo ps → i < j → j < length ps → last_path (get_or ps i d).bucket < first_path (get_or ps j d).bucket
laid_apart lo [] i j d h lt l = absurd (omega arith)
laid_apart lo (p ∷ ps) i zero d h lt l = absurd (omega arith)
laid_apart lo (p ∷ ps) zero (suc j) d h lt l = let f = laid_from (last_path p.bucket + 1) ps j d h.2 (omega (arith, l)) in omega (arith, f)
laid_apart lo (p ∷ ps) (suc i) (suc j) d h lt l = laid_apart (last_path p.bucket + 1) ps i j d h.2 (omega (arith, lt)) (omega (arith, l))

-- ---- a key's bucket
pub IsBucket-key : (key : ℕ) → key < 2 ^ 58 → IsBucket (key_bucket key)
IsBucket-key key small = record { some = (omega arith); most = (omega arith); fits = small }

same_test : (x y : Bool) → (y ≡ true → x ≡ true) → x || y ≡ x
same_test true y f = refl
same_test false true f = sym (f refl)
same_test false false f = refl

-- a bucket meets a key's exactly where it covers it, and that is where it has the key
pub key_meets : (p : Low) (key : ℕ) → IsBucket p → key < 2 ^ 58 → (meets p (key_bucket key) ≡ has_key p key) × (covers p (key_bucket key) ≡ has_key p key)
key_meets p key v small = (same_test (covers p (key_bucket key)) (covers (key_bucket key) p) within ∙ here, here)
  where
    here : covers p (key_bucket key) ≡ has_key p key
    here = ap (λ t. t && has_key p key) (true-le p.bits 58 v.most)

    within : covers (key_bucket key) p ≡ true → covers p (key_bucket key) ≡ true
    within e =
        let bits = covers-bits (key_bucket key) p e in
        let same : p.bits ≡ 58 = (let m = v.most in omega (arith, bits, m)) in
        let low : p.low ≡ key = sym (mod-eq_of_lt v.fits) ∙ ap (λ n. p.low % 2 ^ n) same ∙ covers-low (key_bucket key) p e in
        make-covers p (key_bucket key) v.most (ap (λ n. key % 2 ^ n) same ∙ mod-eq_of_lt small ∙ sym low)

pub any-key : (key : ℕ) → key < 2 ^ 58 → (lo : ℕ) (ps : List Piece) → IsLaid lo ps → (list_any (does_meet (key_bucket key)) ps ≡ list_any (has_key_of key) ps) × (list_any (is_over (key_bucket key)) ps ≡ list_any (has_key_of key) ps)
any-key key small lo [] h = (refl, refl)
any-key key small lo (p ∷ ps) h =
    let here = key_meets p.bucket key h.1 small in
    let rest = any-key key small (last_path p.bucket + 1) ps h.2 in
    (ap₂ (λ x y. x || y) here.0 rest.0, ap₂ (λ x y. x || y) here.1 rest.1)

pub renewed-key : (key : ℕ) → key < 2 ^ 58 → (s lo : ℕ) (ps : List Piece) → IsLaid lo ps → renewed (does_meet (key_bucket key)) s ps ≡ renewed (has_key_of key) s ps
renewed-key key small s lo [] h = refl
renewed-key key small s lo (p ∷ ps) h = ap₂ (λ (x : Piece) xs. x ∷ xs) (ap (λ t. cond t (with_serial s p) p) (key_meets p.bucket key h.1 small).0) (renewed-key key small s (last_path p.bucket + 1) ps h.2)

-- ---- a change at one place
pub map-none : (f : Piece → Piece) (test : Piece → Bool) → ((p : Piece) → test p ≡ false → f p ≡ p) → (ps : List Piece) → list_any test ps ≡ false → map f ps ≡ ps
map-none f test same [] h = refl
map-none f test same (p ∷ ps) h = let parts = or_false (test p) _ h in ap₂ (λ (x : Piece) xs. x ∷ xs) (same p parts.0) (map-none f test same ps parts.1)

pub map-at : (f : Piece → Piece) (test : Piece → Bool) → ((p : Piece) → test p ≡ false → f p ≡ p) → (ps : List Piece) (k : ℕ) (d q : Piece) → k < length ps
    → list_any test (take k ps) ≡ false → list_any test (drop (suc k) ps) ≡ false → q ≡ f (get_or ps k d) → set ps k q ≡ map f ps
map-at f test same [] k d q lt h g e = absurd (omega arith)
map-at f test same (p ∷ ps) zero d q lt h g e = ap₂ (λ (x : Piece) xs. x ∷ xs) e (sym (map-none f test same ps g))
map-at f test same (p ∷ ps) (suc k) d q lt h g e = let parts = or_false (test p) _ h in ap₂ (λ (x : Piece) xs. x ∷ xs) (sym (same p parts.0)) (map-at f test same ps k d q (omega (arith, lt)) parts.1 g e)

renew_same : (test : Piece → Bool) (s : ℕ) (p : Piece) → test p ≡ false → renew test s p ≡ p
renew_same test s p h = ap (λ t. cond t (with_serial s p) p) h

ready_same : (b : Low) (s : ℕ) (p : Piece) → is_exactly b p ≡ false → make_ready b s p ≡ p
ready_same b s p h = ap (λ t. cond t (record { bucket = p.bucket; serial = s; ready = true }) p) h

pub renewed-none : (b : Low) (s : ℕ) (ps : List Piece) → list_any (does_meet b) ps ≡ false → ps ≡ renewed (does_meet b) s ps
renewed-none b s ps h = sym (map-none (renew (does_meet b) s) (does_meet b) (renew_same (does_meet b) s) ps h)

or_right : (x y : Bool) → x ≡ true → x || y ≡ true
or_right true y h = refl
or_right false y h = cc

pub ready-none : (b : Low) (s : ℕ) (ps : List Piece) → list_any (is_exactly b) ps ≡ false → ps ≡ ready_at b s ps
ready-none b s ps h = sym (map-none (make_ready b s) (is_exactly b) (ready_same b s) ps h)

pub exact_over : (b : Low) → IsBucket b → (p : Piece) → is_exactly b p ≡ true → is_over b p ≡ true
exact_over b vb p h = ap (λ x. covers x b) (bucket-same p.bucket b h) ∙ covers-refl b vb

-- ---- runs
filter-none : (test : Piece → Bool) (ps : List Piece) → list_any test ps ≡ false → filter test ps ≡ []
filter-none test [] h = refl
filter-none test (p ∷ ps) h = let parts = or_false (test p) _ h in ap (λ t. cond t (p ∷ filter test ps) (filter test ps)) parts.0 ∙ filter-none test ps parts.1

pub filter-run : (test : Piece → Bool) (ps : List Piece) (i n : ℕ) → i + n ≤ length ps → list_any test (take i ps) ≡ false → list_any test (drop n (drop i ps)) ≡ false
    → ((k : ℕ) (d : Piece) → k < n → test (get_or (drop i ps) k d) ≡ true) → take n (drop i ps) ≡ filter test ps
filter-run test [] zero zero le h g inside = refl
filter-run test [] zero (suc n) le h g inside = refl
filter-run test [] (suc i) n le h g inside = absurd (omega arith)
filter-run test (p ∷ ps) zero zero le h g inside = sym (filter-none test (p ∷ ps) g)
filter-run test (p ∷ ps) zero (suc n) le h g inside =
    ap (λ xs. p ∷ xs) (filter-run test ps 0 n (omega (arith, le)) refl g (λ k d l. inside (suc k) d (omega (arith, l))))
    ∙ sym (ap (λ t. cond t (p ∷ filter test ps) (filter test ps)) (inside 0 p (omega arith)))
filter-run test (p ∷ ps) (suc i) n le h g inside =
    let parts = or_false (test p) _ h in
    filter-run test ps i n (omega (arith, le)) parts.1 g inside ∙ sym (ap (λ t. cond t (p ∷ filter test ps) (filter test ps)) parts.0)

pub meeting-run : (b : Low) (ps : List Piece) (i j : ℕ) → IsRun b ps i j → slice_range ps i j ≡ filter (does_meet b) ps
meeting-run b ps i j run =
    let r = run.rising in
    let w = run.within in
    filter-run (does_meet b) ps i (j - i) (omega (arith, r, w)) run.before (subst (λ xs. list_any (does_meet b) xs ≡ false) (sym (drops (j - i) i ps (omega (arith, r)))) run.after)
    (λ k d l. subst (λ x. does_meet b x ≡ true) (sym (shifted ps i k d)) (run.inside (i + k) d (omega arith) (omega (arith, l, r))))
  where
    drops : (n i : ℕ) (xs : List Piece) → n + i ≡ j → drop n (drop i xs) ≡ drop j xs
    drops n i xs e = drop_drop n i xs ∙ ap (λ m. drop m xs) (omega (arith, e))

    shifted : (xs : List Piece) (i k : ℕ) (d : Piece) → get_or (drop i xs) k d ≡ get_or xs (i + k) d
    shifted xs i k d = get_or-drop i xs k d

pub none-behind_path : (path : ℕ) (ps : List Piece) (n : ℕ) → n ≤ length ps → AllWithin (λ p. first_path p.bucket ≤ path) ps 0 n → list_any (is_behind path) (take n ps) ≡ false
none-behind_path path ps n le h = none_take (is_behind path) ps n (λ k d l m. not_lt path (first_path (get_or ps k d).bucket) (h k d (omega arith) l))
  where
    not_lt : (x y : ℕ) → y ≤ x → nat_lt x y ≡ false
    not_lt x y le = grind (arith, nat_tests)

pub behind_path : (path : ℕ) (p : Piece) → path < first_path p.bucket → is_behind path p ≡ true
behind_path path p h = lt_test path (first_path p.bucket) h
  where
    lt_test : (x y : ℕ) → x < y → nat_lt x y ≡ true
    lt_test x y h = grind (arith, nat_tests)

-- ---- a join of a run
filter-out : (b : Low) (ps : List Piece) → list_any (is_inside b) ps ≡ false → filter (λ q. not (covers b q.bucket)) ps ≡ ps
filter-out b [] h = refl
filter-out b (p ∷ ps) h = let parts = or_false (covers b p.bucket) _ h in ap (λ t. cond (not t) (p ∷ filter (λ q. not (covers b q.bucket)) ps) (filter (λ q. not (covers b q.bucket)) ps)) parts.0 ∙ ap (λ xs. p ∷ xs) (filter-out b ps parts.1)

rest-run : (b : Low) (ps : List Piece) (n : ℕ) → n ≤ length ps → ((k : ℕ) (d : Piece) → k < n → is_inside b (get_or ps k d) ≡ true) → list_any (is_inside b) (drop n ps) ≡ false
    → (filter (λ q. not (covers b q.bucket)) ps ≡ drop n ps) × (list_any (λ q. covers b q.bucket && q.ready) ps ≡ list_any (λ q. q.ready) (take n ps))
rest-run b [] zero le inside after = (refl, refl)
rest-run b [] (suc n) le inside after = (refl, refl)
rest-run b (p ∷ ps) zero le inside after =
    (filter-out b (p ∷ ps) after, none_sub (λ q. covers b q.bucket && q.ready) (is_inside b) (λ q e. ap (λ t. t && q.ready) e) (p ∷ ps) after)
rest-run b (p ∷ ps) (suc n) le inside after =
    let here = inside 0 p (omega arith) in
    let rest = rest-run b ps n (omega (arith, le)) (λ k d l. inside (suc k) d (omega (arith, l))) after in (
      ap (λ t. cond (not t) (p ∷ filter (λ q. not (covers b q.bucket)) ps) (filter (λ q. not (covers b q.bucket)) ps)) here ∙ rest.0,
      ap₂ (λ x y. (x && p.ready) || y) here rest.1,
    )

pub join_at-run : (b : Low) (s : ℕ) (ps : List Piece) (i n : ℕ) → i + suc n ≤ length ps → list_any (is_inside b) (take i ps) ≡ false → ((k : ℕ) (d : Piece) → i ≤ k → k < i + suc n → is_inside b (get_or ps k d) ≡ true)
    → list_any (is_inside b) (drop (suc n) (drop i ps)) ≡ false → (q : Piece) → q ≡ record { bucket = b; serial = s; ready = list_any (λ p. p.ready) (take (suc n) (drop i ps)) }
    → take i ps ++ q ∷ drop (suc n) (drop i ps) ≡ join_at b s ps
join_at-run b s [] i n le before inside after q e = absurd (omega arith)
join_at-run b s (p ∷ ps) zero n le before inside after q e =
    let here = inside 0 p (omega arith) (omega arith) in
    let rest = rest-run b ps n (omega (arith, le)) (λ k d l. inside (suc k) d (omega arith) (omega (arith, l))) after in
    ap₂ (λ (x : Piece) xs. x ∷ xs) (e ∙ ap (λ t. record { bucket = b; serial = s; ready = p.ready || t }) (sym rest.1)) (sym rest.0)
    ∙ sym (ap (λ t. cond t (record { bucket = b; serial = s; ready = p.ready || list_any (λ q. covers b q.bucket && q.ready) ps } ∷ filter (λ q. not (covers b q.bucket)) ps) (p ∷ join_at b s ps)) here)
join_at-run b s (p ∷ ps) (suc i) n le before inside after q e =
    let parts = or_false (covers b p.bucket) _ before in
    ap (λ xs. p ∷ xs) (join_at-run b s ps i n (omega (arith, le)) parts.1 (λ k d l m. inside (suc k) d (omega (arith, l)) (omega (arith, m))) after q e)
    ∙ sym (ap (λ t. cond t (record { bucket = b; serial = s; ready = p.ready || list_any (λ q. covers b q.bucket && q.ready) ps } ∷ filter (λ q. not (covers b q.bucket)) ps) (p ∷ join_at b s ps)) parts.0)

pub joined-run : (b : Low) (s : ℕ) (ps : List Piece) (i j : ℕ) → IsRunInside b ps i j → (q : Piece) → q ≡ record { bucket = b; serial = s; ready = list_any (λ p. p.ready) (slice_range ps i j) }
    → take i ps ++ q ∷ drop j ps ≡ join_at b s ps
joined-run b s ps i j run q e =
    let r = run.rising in
    let w = run.within in
    let n : suc (j - suc i) ≡ j - i = omega (arith, r) in
    let all : drop (suc (j - suc i)) (drop i ps) ≡ drop j ps = drop_drop (suc (j - suc i)) i ps ∙ ap (λ m. drop m ps) (let m : i + suc (j - suc i) ≡ j = omega (arith, r) in m) in
    ap (λ xs. take i ps ++ q ∷ xs) (sym all)
    ∙ join_at-run b s ps i (j - suc i) (omega (arith, r, w)) run.before (λ k d l m. run.inside k d l (omega (arith, m, r)))
    (ap (list_any (is_inside b)) all ∙ run.after)
    q (e ∙ ap (λ m. record { bucket = b; serial = s; ready = list_any (λ p. p.ready) (take m (drop i ps)) }) (sym n))

-- ---- a split at a place
pub split_at-parts : (b : Low) (s : ℕ) (ps : List Piece) (k : ℕ) (d : Piece) → IsFirstOver b ps k
    → (take k ps ++ parts (b.bits - (get_or ps k d).bucket.bits) (get_or ps k d).bucket b s (get_or ps k d).ready) ++ drop (suc k) ps ≡ split_at b s ps
split_at-parts b s [] k d o = absurd (let w = o.within in omega (arith, w))
split_at-parts b s (p ∷ ps) zero d o = sym (ap (λ t. cond t (parts (b.bits - p.bucket.bits) p.bucket b s p.ready ++ ps) (p ∷ split_at b s ps)) (o.over d))
split_at-parts b s (p ∷ ps) (suc k) d o =
    let apart = or_false (covers p.bucket b) _ o.first in
    ap (λ xs. p ∷ xs) (split_at-parts b s ps k d (record { within = (let w = o.within in omega (arith, w)); over = o.over; first = apart.1 }))
    ∙ sym (ap (λ t. cond t (parts (b.bits - p.bucket.bits) p.bucket b s p.ready ++ ps) (p ∷ split_at b s ps)) apart.0)

pub parts-first : (from to : Low) (s : ℕ) (r : Bool) → from.bits < to.bits → covers (first_child from) to ≡ true
    → parts (to.bits - (first_child from).bits) (first_child from) to s r ++ record { bucket = second_child from; serial = s; ready = r } ∷ [] ≡ parts (to.bits - from.bits) from to s r
parts-first from to s r lt e =
    sym (ap (λ k. parts k from to s r) (let e : to.bits - from.bits ≡ suc (to.bits - (from.bits + 1)) = omega (arith, lt) in e)
    ∙ ap (λ t. cond t (parts (to.bits - (from.bits + 1)) (first_child from) to s r ++ record { bucket = second_child from; serial = s; ready = r } ∷ []) (record { bucket = first_child from; serial = s; ready = r } ∷ parts (to.bits - (from.bits + 1)) (second_child from) to s r)) e)

pub parts-second : (from to : Low) (s : ℕ) (r : Bool) → from.bits < to.bits → covers (first_child from) to ≡ false
    → record { bucket = first_child from; serial = s; ready = r } ∷ parts (to.bits - (second_child from).bits) (second_child from) to s r ≡ parts (to.bits - from.bits) from to s r
parts-second from to s r lt e =
    sym (ap (λ k. parts k from to s r) (let e : to.bits - from.bits ≡ suc (to.bits - (from.bits + 1)) = omega (arith, lt) in e)
    ∙ ap (λ t. cond t (parts (to.bits - (from.bits + 1)) (first_child from) to s r ++ record { bucket = second_child from; serial = s; ready = r } ∷ []) (record { bucket = first_child from; serial = s; ready = r } ∷ parts (to.bits - (from.bits + 1)) (second_child from) to s r)) e)

pub parts-none : (from to : Low) (s : ℕ) (r : Bool) → from.bits ≡ to.bits → record { bucket = from; serial = s; ready = r } ∷ [] ≡ parts (to.bits - from.bits) from to s r
parts-none from to s r e = sym (ap (λ k. parts k from to s r) (let z : to.bits - from.bits ≡ 0 = omega (arith, e) in z))

module _ (laws : AreRuns) where
  -- no piece that begins later covers a bucket
  pub none_over_past : (b : Low) → IsBucket b → (lo : ℕ) → first_path b < lo → (ps : List Piece) → IsLaid lo ps → list_any (is_over b) ps ≡ false
  none_over_past b vb lo lt [] h = refl
  none_over_past b vb lo lt (p ∷ ps) h = ap₂ (λ x y. x || y) (by_test (covers p.bucket b) refl) (none_over_past b vb (last_path p.bucket + 1) (let f = h.0 in let o = first-last p.bucket in omega (arith, f, o, lt)) ps h.2)
    where
      by_test : (t : Bool) → covers p.bucket b ≡ t → t ≡ false
      by_test true e = absurd (let w = covers-first laws p.bucket b h.1 vb e in let f = h.0 in omega (arith, f, lt, w.0))
      by_test false e = refl

  module _ (b : Low) (vb : IsBucket b) (ps : List Piece) (laid : IsLaid 0 ps) (k : ℕ) (d : Piece) where
    pub over-behind : IsFirstMet b ps k → list_any (is_over b) (drop (suc k) ps) ≡ false
    over-behind m =
        let end = meets-first laws b (get_or ps k d).bucket vb (laid_bucket 0 ps k d laid m.within) (meets-sym b (get_or ps k d).bucket ∙ m.met d) in
        none_over_past b vb (last_path (get_or ps k d).bucket + 1) (omega (arith, end)) (drop (suc k) ps) (laid_drop 0 ps k d laid m.within)

    pub any-over : IsFirstMet b ps k → list_any (is_over b) ps ≡ is_over b (get_or ps k d)
    any-over m = any-parts (is_over b) ps k d m.within (none_sub (is_over b) (does_meet b) (over_sub b) (take k ps) m.first) (over-behind m)

    pub any-exact : IsFirstMet b ps k → list_any (is_exactly b) ps ≡ is_exactly b (get_or ps k d)
    any-exact m = any-parts (is_exactly b) ps k d m.within
        (none_sub (is_exactly b) (is_over b) (exact_sub b vb) (take k ps) (none_sub (is_over b) (does_meet b) (over_sub b) (take k ps) m.first))
        (none_sub (is_exactly b) (is_over b) (exact_sub b vb) (drop (suc k) ps) (over-behind m))

    -- behind a piece over the bucket none meets it
    pub met-behind : k < length ps → is_over b (get_or ps k d) ≡ true → list_any (does_meet b) (drop (suc k) ps) ≡ false
    met-behind lt over =
        let end = covers-last laws (get_or ps k d).bucket b (laid_bucket 0 ps k d laid lt) vb over in
        none_past laws b vb (last_path (get_or ps k d).bucket + 1) (omega (arith, end)) (drop (suc k) ps) (laid_drop 0 ps k d laid lt)

  -- before a piece over the bucket none meets it
  pub IsFirstMet-over : (b : Low) → IsBucket b → (lo : ℕ) (ps : List Piece) → IsLaid lo ps → (k : ℕ) (d : Piece) → k < length ps → is_over b (get_or ps k d) ≡ true → list_any (does_meet b) (take k ps) ≡ false
  IsFirstMet-over b vb lo [] h k d lt over = absurd (omega arith)
  IsFirstMet-over b vb lo (p ∷ ps) h zero d lt over = refl
  IsFirstMet-over b vb lo (p ∷ ps) h (suc k) d lt over =
      let from = laid_from (last_path p.bucket + 1) ps k d h.2 (omega (arith, lt)) in
      let start = covers-first laws (get_or ps k d).bucket b (laid_bucket (last_path p.bucket + 1) ps k d h.2 (omega (arith, lt))) vb over in
      ap₂ (λ x y. x || y) (apart-runs laws p.bucket b h.1 vb (omega (arith, from, start.0))) (IsFirstMet-over b vb (last_path p.bucket + 1) ps h.2 k d (omega (arith, lt)) over)

  pub renewed-over : (b : Low) → IsBucket b → (s : ℕ) (ps : List Piece) → IsLaid 0 ps → (k : ℕ) (x : Piece) → IsFirstOver b ps k → x ≡ get_or ps k x → set ps k (with_serial s x) ≡ renewed (does_meet b) s ps
  renewed-over b vb s ps laid k x o e =
      map-at (renew (does_meet b) s) (does_meet b) (renew_same (does_meet b) s) ps k x (with_serial s x) o.within
      (IsFirstMet-over b vb 0 ps laid k x o.within (o.over x)) (met-behind b vb ps laid k x o.within (o.over x))
      (ap (with_serial s) e ∙ sym (ap (λ t. cond t (with_serial s (get_or ps k x)) (get_or ps k x)) (or_right (covers (get_or ps k x).bucket b) (covers b (get_or ps k x).bucket) (o.over x))))

  pub ready-at : (b : Low) → IsBucket b → (s : ℕ) (ps : List Piece) → IsLaid 0 ps → (k : ℕ) (x : Piece) → k < length ps → is_exactly b (get_or ps k x) ≡ true
      → set ps k (record { bucket = b; serial = s; ready = true }) ≡ ready_at b s ps
  ready-at b vb s ps laid k x lt here =
      let over = exact_over b vb (get_or ps k x) here in
      map-at (make_ready b s) (is_exactly b) (ready_same b s) ps k x (record { bucket = b; serial = s; ready = true }) lt
      (none_sub (is_exactly b) (is_over b) (exact_sub b vb) (take k ps) (none_sub (is_over b) (does_meet b) (over_sub b) (take k ps) (IsFirstMet-over b vb 0 ps laid k x lt over)))
      (none_sub (is_exactly b) (is_over b) (exact_sub b vb) (drop (suc k) ps) (none_sub (is_over b) (does_meet b) (over_sub b) (drop (suc k) ps) (met-behind b vb ps laid k x lt over)))
      (ap (λ (y : Low). record { bucket = y; serial = s; ready = true }) (sym (bucket-same (get_or ps k x).bucket b here)) ∙ sym (ap (λ t. cond t (record { bucket = (get_or ps k x).bucket; serial = s; ready = true }) (get_or ps k x)) here))

  -- a run of which the first lies inside lies inside
  pub IsRunInside-run : (b : Low) → IsBucket b → (ps : List Piece) → IsLaid 0 ps → (i j : ℕ) → IsRun b ps i j → i < j → ((d : Piece) → true ≡ is_inside b (get_or ps i d)) → IsRunInside b ps i j
  IsRunInside-run b vb ps laid i j run lt here = record {
    rising = lt;
    within = run.within;
    before = none_sub (is_inside b) (does_meet b) (inside_sub b) (take i ps) run.before;
    after = none_sub (is_inside b) (does_meet b) (inside_sub b) (drop j ps) run.after;
    inside = λ k d l m. by_first k d l m;
  }
    where
      w : j ≤ length ps
      w = run.within

      by_meet : (x y : Bool) → x || y ≡ true → x ≡ false → y ≡ true
      by_meet true y h n = cc
      by_meet false y h n = h

      not_over : (k : ℕ) (d : Piece) → i < k → k < j → covers (get_or ps k d).bucket b ≡ false
      not_over k d l m = by_test (covers (get_or ps k d).bucket b) refl
        where
          crossed : covers (get_or ps k d).bucket b ≡ true → ⊥
          crossed e =
              let one = covers-first laws (get_or ps k d).bucket b (laid_bucket 0 ps k d laid (omega (arith, m, w))) vb e in
              let two = covers-first laws b (get_or ps i d).bucket vb (laid_bucket 0 ps i d laid (omega (arith, lt, w))) (sym (here d)) in
              let order = first-last (get_or ps i d).bucket in
              let apart = laid_apart 0 ps i k d laid l (omega (arith, m, w)) in
              omega (arith, one.0, two.0, order, apart)

          by_test : (t : Bool) → covers (get_or ps k d).bucket b ≡ t → t ≡ false
          by_test true e = absurd (crossed e)
          by_test false e = refl

      by_first : (k : ℕ) (d : Piece) → i ≤ k → k < j → is_inside b (get_or ps k d) ≡ true
      by_first k d l m = elim (cases_lt i k) [ inl more ↦ by_meet (covers (get_or ps k d).bucket b) (covers b (get_or ps k d).bucket) (run.inside k d l m) (not_over k d more m) | inr less ↦ subst (λ n. is_inside b (get_or ps n d) ≡ true) (let e : i ≡ k = omega arith in e) (sym (here d)) ]

  pub none-inside : (b : Low) → IsBucket b → (ps : List Piece) → IsLaid 0 ps → (i j : ℕ) (d : Piece) → IsRun b ps i j → i < j → is_inside b (get_or ps i d) ≡ false → list_any (is_inside b) ps ≡ false
  none-inside b vb ps laid i j d run lt here =
      any-parts (is_inside b) ps i d (omega (arith, lt, w)) (none_sub (is_inside b) (does_meet b) (inside_sub b) (take i ps) run.before)
      (none_sub (is_inside b) (does_meet b) (inside_sub b) (drop (suc i) ps) (met-behind b vb ps laid i d (omega (arith, lt, w)) over))
      ∙ here
    where
      w : j ≤ length ps
      w = run.within

      by_meet : (x y : Bool) → x || y ≡ true → y ≡ false → x ≡ true
      by_meet true y h n = refl
      by_meet false y h n = cc

      over : is_over b (get_or ps i d) ≡ true
      over = by_meet (covers (get_or ps i d).bucket b) (covers b (get_or ps i d).bucket) (run.inside i d (omega arith) lt) here
