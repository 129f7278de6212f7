-- Each piece that an accepted change meets or makes has the new serial.
use Rattle.std.proofs.Common.{◌≡◌, ◌==◌, ◌&&◌, ◌||◌, not, ℕ, zero, suc, ◌+◌, ◌-◌, ◌<◌, ◌≤◌, Bool, true, false, cond, List, [], ◌∷◌, ◌++◌, map, filter, refl, ap, ap₂, ◌∙◌, subst, arith, eq-eqb, nat_lt}
use Rattle.std.specs.List.{list_any}
use Rattle.std.proofs.lemmas.List.Folds.{list_any-append}
use Rattle.bucket_ids.specs.Buckets.{Low, IsBucket, covers, first_child, second_child}
use Rattle.bucket_ids.specs.Paths.{first_path, last_path}
use Rattle.pieces.specs.declared.piece.Piece.{Piece}
use Rattle.pieces.specs.Pieces.{meets, is_over, is_inside, is_exactly, has_key_of, does_meet, with_serial, renewed, make_ready, ready_at, split_at, join_at, with_piece, apply_at, parts}
use Rattle.pieces.specs.Lives.{stale, stale_at}
use Rattle.pieces.specs.Runs.{IsLaid, AreRuns}
use Rattle.proof_basics.proofs.Tests.{or_false}
use Rattle.pieces.proofs.PieceLaws.{bucket-same, no_meeting}
use Rattle.pieces.proofs.RunLaws.{first-last, covers-first, covers-last, apart-runs}
use Rattle.pieces.proofs.Laid.{none_past, inside_past, ready_bucket}
use Rattle.pieces.proofs.Finding.{none_sub}

off : (x : Bool) → x && false ≡ false
off true = refl
off false = refl

fresh_new : (t : ℕ) (b : Low) (p : Piece) → p.serial ≡ t → stale t b p ≡ false
fresh_new t b p e = ap (λ x. does_meet b p && not x) (eq-eqb p.serial t e) ∙ off (does_meet b p)

none_met : (t : ℕ) (b : Low) (ps : List Piece) → list_any (does_meet b) ps ≡ false → list_any (stale t b) ps ≡ false
none_met t b ps h = none_sub (stale t b) (does_meet b) (λ p e. ap (λ x. x && not (p.serial == t)) e) ps h

pub fresh-renewed : (t : ℕ) (b : Low) (ps : List Piece) → list_any (stale t b) (renewed (does_meet b) t ps) ≡ false
fresh-renewed t b [] = refl
fresh-renewed t b (p ∷ ps) = ap₂ (λ x y. x || y) (by_test (does_meet b p) refl) (fresh-renewed t b ps)
  where
    by_test : (x : Bool) → does_meet b p ≡ x → stale t b (cond x (with_serial t p) p) ≡ false
    by_test true e = fresh_new t b (with_serial t p) refl
    by_test false e = ap (λ x. x && not (p.serial == t)) e

pub fresh-store : (t key : ℕ) (ps : List Piece) → list_any (stale_at t key) (renewed (has_key_of key) t ps) ≡ false
fresh-store t key [] = refl
fresh-store t key (p ∷ ps) = ap₂ (λ x y. x || y) (by_test (has_key_of key p) refl) (fresh-store t key ps)
  where
    by_test : (x : Bool) → has_key_of key p ≡ x → stale_at t key (cond x (with_serial t p) p) ≡ false
    by_test true e = ap (λ x. has_key_of key p && not x) (eq-eqb t t refl) ∙ off (has_key_of key p)
    by_test false e = ap (λ x. x && not (p.serial == t)) e

fresh-parts : (k : ℕ) (from to b : Low) (t : ℕ) (r : Bool) → list_any (stale t b) (parts k from to t r) ≡ false
fresh-parts zero from to b t r = ap (λ x. x || false) (fresh_new t b (record { bucket = from; serial = t; ready = r }) refl)
fresh-parts (suc k) from to b t r = by_test (covers (first_child from) to) (fresh-parts k (first_child from) to b t r) (fresh-parts k (second_child from) to b t r)
  where
    by_test : (x : Bool) → list_any (stale t b) (parts k (first_child from) to t r) ≡ false → list_any (stale t b) (parts k (second_child from) to t r) ≡ false
        → list_any (stale t b) (cond x (parts k (first_child from) to t r ++ record { bucket = second_child from; serial = t; ready = r } ∷ []) (record { bucket = first_child from; serial = t; ready = r } ∷ parts k (second_child from) to t r)) ≡ false
    by_test true x y =
        list_any-append (stale t b) (parts k (first_child from) to t r) (record { bucket = second_child from; serial = t; ready = r } ∷ [])
        ∙ ap₂ (λ x y. x || (y || false)) x (fresh_new t b (record { bucket = second_child from; serial = t; ready = r }) refl)
    by_test false x y = ap₂ (λ x y. x || y) (fresh_new t b (record { bucket = first_child from; serial = t; ready = r }) refl) y

fresh-with_piece : (t : ℕ) (b : Low) (q : Piece) → q.serial ≡ t → (ps : List Piece) → list_any (does_meet b) ps ≡ false → list_any (stale t b) (with_piece q ps) ≡ false
fresh-with_piece t b q new [] none = ap (λ x. x || false) (fresh_new t b q new)
fresh-with_piece t b q new (p ∷ ps) none = let apart = or_false (does_meet b p) _ none in by_test (nat_lt (first_path q.bucket) (first_path p.bucket)) apart.0 (fresh-with_piece t b q new ps apart.1)
  where
    by_test : (x : Bool) → does_meet b p ≡ false → list_any (stale t b) (with_piece q ps) ≡ false → list_any (stale t b) (cond x (q ∷ p ∷ ps) (p ∷ with_piece q ps)) ≡ false
    by_test true e ih = ap₂ (λ x y. x || y) (fresh_new t b q new) (none_met t b (p ∷ ps) none)
    by_test false e ih = ap₂ (λ x y. x || y) (ap (λ x. x && not (p.serial == t)) e) ih

any_meet-map : (f : Piece → Piece) → ((p : Piece) → (f p).bucket ≡ p.bucket) → (b : Low) (ps : List Piece) → list_any (does_meet b) (map f ps) ≡ list_any (does_meet b) ps
any_meet-map f keeps b [] = refl
any_meet-map f keeps b (p ∷ ps) = ap₂ (λ x t. meets x b || t) (keeps p) (any_meet-map f keeps b ps)

module _ (laws : AreRuns) (b : Low) (vb : IsBucket b) (t : ℕ) where
  over_from : (lo : ℕ) (ps : List Piece) → IsLaid lo ps → list_any (is_over b) ps ≡ true → lo ≤ first_path b
  over_from lo [] h there = cc
  over_from lo (p ∷ ps) h there = by_test (covers p.bucket b) refl there (over_from (last_path p.bucket + 1) ps h.2)
    where
      by_test : (x : Bool) → covers p.bucket b ≡ x → x || list_any (is_over b) ps ≡ true → (list_any (is_over b) ps ≡ true → last_path p.bucket + 1 ≤ first_path b) → lo ≤ first_path b
      by_test true e f ih = let w = covers-first laws p.bucket b h.1 vb e in let from = h.0 in omega (arith, w.0, from)
      by_test false e f ih = let low = ih f in let order = first-last p.bucket in let from = h.0 in omega (arith, low, order, from)

  -- a piece that ends before the bucket begins
  before : (p : Piece) → IsBucket p.bucket → last_path p.bucket + 1 ≤ first_path b → stale t b p ≡ false
  before p v lt = ap (λ x. x && not (p.serial == t)) (apart-runs laws p.bucket b v vb (omega (arith, lt)))

  pub fresh-split : (lo : ℕ) (ps : List Piece) → IsLaid lo ps → list_any (is_over b) ps ≡ true → list_any (stale t b) (split_at b t ps) ≡ false
  fresh-split lo [] h there = refl
  fresh-split lo (p ∷ ps) h there = by_test (covers p.bucket b) refl there (fresh-split (last_path p.bucket + 1) ps h.2)
    where
      by_test : (x : Bool) → covers p.bucket b ≡ x → x || list_any (is_over b) ps ≡ true → (list_any (is_over b) ps ≡ true → list_any (stale t b) (split_at b t ps) ≡ false)
          → list_any (stale t b) (cond x (parts (b.bits - p.bucket.bits) p.bucket b t p.ready ++ ps) (p ∷ split_at b t ps)) ≡ false
      by_test true e f ih =
          let end = covers-last laws p.bucket b h.1 vb e in
          list_any-append (stale t b) (parts (b.bits - p.bucket.bits) p.bucket b t p.ready) ps
          ∙ ap₂ (λ x y. x || y) (fresh-parts (b.bits - p.bucket.bits) p.bucket b b t p.ready) (none_met t b ps (none_past laws b vb (last_path p.bucket + 1) (omega (arith, end)) ps h.2))
      by_test false e f ih = ap₂ (λ x y. x || y) (before p h.1 (over_from (last_path p.bucket + 1) ps h.2 f)) (ih f)

  rest_apart : (lo : ℕ) → first_path b < lo → (ps : List Piece) → IsLaid lo ps → list_any (does_meet b) (filter (λ q. not (covers b q.bucket)) ps) ≡ false
  rest_apart lo lt [] h = refl
  rest_apart lo lt (p ∷ ps) h = by_tests (covers p.bucket b) (covers b p.bucket) refl refl (rest_apart (last_path p.bucket + 1) (let from = h.0 in let order = first-last p.bucket in omega (arith, lt, from, order)) ps h.2)
    where
      by_tests : (x y : Bool) → covers p.bucket b ≡ x → covers b p.bucket ≡ y → list_any (does_meet b) (filter (λ q. not (covers b q.bucket)) ps) ≡ false
          → list_any (does_meet b) (cond (not y) (p ∷ filter (λ q. not (covers b q.bucket)) ps) (filter (λ q. not (covers b q.bucket)) ps)) ≡ false
      by_tests x true e f ih = ih
      by_tests true false e f ih = absurd (let w = covers-first laws p.bucket b h.1 vb e in let from = h.0 in omega (arith, w.0, from, lt))
      by_tests false false e f ih = ap₂ (λ x y. x || y) (ap₂ (λ x y. x || y) e f) ih

  pub fresh-join : (lo : ℕ) (ps : List Piece) → IsLaid lo ps → list_any (is_inside b) ps ≡ true → list_any (stale t b) (join_at b t ps) ≡ false
  fresh-join lo [] h there = refl
  fresh-join lo (p ∷ ps) h there = by_test (covers b p.bucket) refl there (fresh-join (last_path p.bucket + 1) ps h.2)
    where
      apart : list_any (is_inside b) ps ≡ true → covers b p.bucket ≡ false → (x : Bool) → covers p.bucket b ≡ x → x || covers b p.bucket ≡ false
      apart f e true g = absurd (let end = covers-last laws p.bucket b h.1 vb g in let past = inside_past laws b vb (last_path p.bucket + 1) ps h.2 f in omega (arith, end, past))
      apart f e false g = e

      by_test : (x : Bool) → covers b p.bucket ≡ x → x || list_any (is_inside b) ps ≡ true → (list_any (is_inside b) ps ≡ true → list_any (stale t b) (join_at b t ps) ≡ false)
          → list_any (stale t b) (cond x (record { bucket = b; serial = t; ready = p.ready || list_any (λ q. covers b q.bucket && q.ready) ps } ∷ filter (λ q. not (covers b q.bucket)) ps) (p ∷ join_at b t ps)) ≡ false
      by_test true e f ih =
          let w = covers-first laws b p.bucket vb h.1 e in
          let order = first-last p.bucket in
          ap₂ (λ x y. x || y) (fresh_new t b (record { bucket = b; serial = t; ready = p.ready || list_any (λ q. covers b q.bucket && q.ready) ps }) refl)
          (none_met t b (filter (λ q. not (covers b q.bucket)) ps) (rest_apart (last_path p.bucket + 1) (omega (arith, w.0, order)) ps h.2))
      by_test false e f ih = ap₂ (λ x y. x || y) (ap (λ x. x && not (p.serial == t)) (apart f e (covers p.bucket b) refl)) (ih f)

  pub fresh-apply : (ps : List Piece) → IsLaid 0 ps → list_any (stale t b) (apply_at b t ps) ≡ false
  fresh-apply ps h = by_tests (list_any (is_over b) ps) (list_any (is_inside b) ps) refl refl
    where
      by_tests : (x y : Bool) → list_any (is_over b) ps ≡ x → list_any (is_inside b) ps ≡ y
          → list_any (stale t b) (cond x (split_at b t ps) (cond y (join_at b t ps) (with_piece (record { bucket = b; serial = t; ready = false }) ps))) ≡ false
      by_tests true y e f = fresh-split 0 ps h e
      by_tests false true e f = fresh-join 0 ps h f
      by_tests false false e f = fresh-with_piece t b (record { bucket = b; serial = t; ready = false }) refl ps (no_meeting b ps e f)

  exact_begins : (lo : ℕ) (ps : List Piece) → IsLaid lo ps → list_any (is_exactly b) ps ≡ true → lo ≤ first_path b
  exact_begins lo [] h there = cc
  exact_begins lo (p ∷ ps) h there = by_test (is_exactly b p) refl there (exact_begins (last_path p.bucket + 1) ps h.2)
    where
      by_test : (x : Bool) → is_exactly b p ≡ x → x || list_any (is_exactly b) ps ≡ true → (list_any (is_exactly b) ps ≡ true → last_path p.bucket + 1 ≤ first_path b) → lo ≤ first_path b
      by_test true e f ih = subst (λ x. lo ≤ first_path x) (bucket-same p.bucket b e) h.0
      by_test false e f ih = let low = ih f in let order = first-last p.bucket in let from = h.0 in omega (arith, low, order, from)

  pub fresh-ready : (lo : ℕ) (ps : List Piece) → IsLaid lo ps → list_any (is_exactly b) ps ≡ true → list_any (stale t b) (ready_at b t ps) ≡ false
  fresh-ready lo [] h there = refl
  fresh-ready lo (p ∷ ps) h there = by_test (is_exactly b p) refl there (fresh-ready (last_path p.bucket + 1) ps h.2)
    where
      end : is_exactly b p ≡ true → last_path b < last_path p.bucket + 1
      end e = subst (λ x. last_path x < last_path p.bucket + 1) (bucket-same p.bucket b e) (omega arith)

      by_test : (x : Bool) → is_exactly b p ≡ x → x || list_any (is_exactly b) ps ≡ true → (list_any (is_exactly b) ps ≡ true → list_any (stale t b) (ready_at b t ps) ≡ false)
          → stale t b (cond x (record { bucket = p.bucket; serial = t; ready = true }) p) || list_any (stale t b) (ready_at b t ps) ≡ false
      by_test true e f ih =
          ap₂ (λ x y. x || y) (fresh_new t b (record { bucket = p.bucket; serial = t; ready = true }) refl)
          (none_met t b (ready_at b t ps) (any_meet-map (make_ready b t) (ready_bucket b t) b ps ∙ none_past laws b vb (last_path p.bucket + 1) (end e) ps h.2))
      by_test false e f ih = ap₂ (λ x y. x || y) (before p h.1 (exact_begins (last_path p.bucket + 1) ps h.2 f)) (ih f)
