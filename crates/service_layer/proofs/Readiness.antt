-- Which keys are ready after each change of the pieces.
use Rattle.std.proofs.Common.{◌≡◌, ◌==◌, ◌&&◌, ◌||◌, not, ℕ, zero, suc, ◌+◌, ◌-◌, ◌<◌, ◌≤◌, ◌^◌, ◌%◌, Bool, true, false, cond, List, [], ◌∷◌, ◌++◌, map, filter, Option, None, Some, is_some, Result, Ok, Err, refl, sym, ap, ap₂, ◌∙◌, subst, arith, eqb-true, eq-eqb, nat_lt, nat_le}
use mathlib.Core.Bool.{true≢false}
use Rattle.std.specs.List.{list_any, find}
use Rattle.std.proofs.lemmas.List.Folds.{list_any-append}
use Rattle.std.proofs.lemmas.Bool.Decides.{nat_tests}
use Rattle.bucket_ids.specs.Buckets.{Low, IsBucket, IsIn, covers, has_key, first_child, second_child}
use Rattle.bucket_ids.specs.Paths.{path, first_path, last_path}
use Rattle.pieces.specs.declared.piece.Piece.{Piece}
use Rattle.pieces.specs.Pieces.{meets, is_over, is_inside, is_exactly, has_key_of, holds, with_serial, renew, renewed, make_ready, ready_at, split_at, join_at, with_piece, apply_at, without, parts}
use Rattle.pieces.specs.Told.{Accepted, NoBucket, Differs, IsSurelyTold, by_mark}
use Rattle.pieces.specs.declared.fault.StoreFault.{StoreFault}
use Rattle.pieces.specs.declared.fault.StoreFault.TheVariants as fault
use Rattle.pieces.specs.Places.{key_bucket}
use Rattle.pieces.specs.Runs.{IsLaid, AreRuns}
use Rattle.pieces.proofs.PieceLaws.{bucket-same, apply_at-new}
use Rattle.pieces.proofs.ApplyLaws.{apply-over, apply-inside}
use Rattle.pieces.proofs.KeyLaws.{sub_key, holds-split}
use Rattle.pieces.proofs.Laid.{renew_bucket}
use Rattle.view_changes.proofs.RegionLaws.{key-meets}
use Rattle.service_layer.specs.Placing.{has_ready, is_ready, mark_of, is_ready_over, is_ready_inside}

or_none : (x : Bool) → x || false ≡ x
or_none true = refl
or_none false = refl

or_right : (x y : Bool) → y ≡ true → x || y ≡ true
or_right true y e = refl
or_right false y e = e

neither : (x y : Bool) → x || y ≡ false → (x ≡ false) × (y ≡ false)
neither true y e = absurd (true≢false e)
neither false y e = (refl, e)

and_none : (x y : Bool) → y ≡ false → x && y ≡ false
and_none true y e = e
and_none false y e = refl

-- ---- marks that stay

renew_mark : (test : Piece → Bool) (s : ℕ) (p : Piece) → (renew test s p).ready ≡ p.ready
renew_mark test s p = by_test (test p)
  where
    by_test : (t : Bool) → (cond t (with_serial s p) p).ready ≡ p.ready
    by_test true = refl
    by_test false = refl

pub ready-renewed : (key : ℕ) (test : Piece → Bool) (s : ℕ) (ps : List Piece) → is_ready key (renewed test s ps) ≡ is_ready key ps
ready-renewed key test s [] = refl
ready-renewed key test s (p ∷ ps) =
    ap₂ (λ a b. a || b) (ap₂ (λ r b. r && has_key b key) (renew_mark test s p) (renew_bucket test s p)) (ready-renewed key test s ps)

-- ---- a piece that becomes ready

exact_key : (b : Low) (key : ℕ) (p : Piece) → is_exactly b p ≡ true → has_key p.bucket key ≡ has_key b key
exact_key b key p is = ap (λ x. has_key x key) (bucket-same p.bucket b is)

pub ready-outside : (b : Low) (key s : ℕ) → has_key b key ≡ false → (ps : List Piece) → is_ready key (ready_at b s ps) ≡ is_ready key ps
ready-outside b key s out [] = refl
ready-outside b key s out (p ∷ ps) = ap₂ (λ a c. a || c) (by_test (is_exactly b p) refl) (ready-outside b key s out ps)
  where
    by_test : (t : Bool) → is_exactly b p ≡ t → has_ready key (cond t (record { bucket = p.bucket; serial = s; ready = true }) p) ≡ has_ready key p
    by_test true is = exact_key b key p is ∙ out ∙ sym (and_none p.ready (has_key p.bucket key) (exact_key b key p is ∙ out))
    by_test false is = refl

pub ready-unmet : (b : Low) (key s : ℕ) (ps : List Piece) → list_any (is_exactly b) ps ≡ false → is_ready key (ready_at b s ps) ≡ is_ready key ps
ready-unmet b key s [] none = refl
ready-unmet b key s (p ∷ ps) none =
    let k = neither (is_exactly b p) (list_any (is_exactly b) ps) none in
    ap₂ (λ a c. a || c) (ap (λ t. has_ready key (cond t (record { bucket = p.bucket; serial = s; ready = true }) p)) k.0) (ready-unmet b key s ps k.1)

pub ready-made : (b : Low) (key s : ℕ) → has_key b key ≡ true → (ps : List Piece) → list_any (is_exactly b) ps ≡ true → is_ready key (ready_at b s ps) ≡ true
ready-made b key s inside [] some = absurd (true≢false (sym some))
ready-made b key s inside (p ∷ ps) some = by_test (is_exactly b p) refl some (ready-made b key s inside ps)
  where
    by_test : (t : Bool) → is_exactly b p ≡ t → t || list_any (is_exactly b) ps ≡ true → (list_any (is_exactly b) ps ≡ true → is_ready key (ready_at b s ps) ≡ true)
        → has_ready key (cond t (record { bucket = p.bucket; serial = s; ready = true }) p) || is_ready key (ready_at b s ps) ≡ true
    by_test true is k ih = ap (λ t. t || is_ready key (ready_at b s ps)) (exact_key b key p is ∙ inside)
    by_test false is k ih = or_right (has_ready key p) (is_ready key (ready_at b s ps)) (ih k)

-- ---- a piece more, a piece less

or_turn : (x y z : Bool) → x || (y || z) ≡ y || (x || z)
or_turn true true z = refl
or_turn true false z = refl
or_turn false y z = refl

ready-with_piece : (key : ℕ) (q : Piece) → q.ready ≡ false → (ps : List Piece) → is_ready key (with_piece q ps) ≡ is_ready key ps
ready-with_piece key q mark [] = ap (λ t. (t && has_key q.bucket key) || false) mark
ready-with_piece key q mark (p ∷ ps) = by_test (nat_lt (first_path q.bucket) (first_path p.bucket)) (ready-with_piece key q mark ps)
  where
    by_test : (t : Bool) → is_ready key (with_piece q ps) ≡ is_ready key ps → is_ready key (cond t (q ∷ p ∷ ps) (p ∷ with_piece q ps)) ≡ has_ready key p || is_ready key ps
    by_test true ih = ap (λ t. (t && has_key q.bucket key) || (has_ready key p || is_ready key ps)) mark
    by_test false ih = ap (λ t. has_ready key p || t) ih

pub ready-without : (b : Low) (key : ℕ) → has_key b key ≡ false → (ps : List Piece) → is_ready key (without b ps) ≡ is_ready key ps
ready-without b key out [] = refl
ready-without b key out (p ∷ ps) = by_test (is_exactly b p) refl (ready-without b key out ps)
  where
    by_test : (t : Bool) → is_exactly b p ≡ t → is_ready key (without b ps) ≡ is_ready key ps
        → is_ready key (cond (not t) (p ∷ without b ps) (without b ps)) ≡ has_ready key p || is_ready key ps
    by_test true is ih = ih ∙ sym (ap (λ t. t || is_ready key ps) (and_none p.ready (has_key p.bucket key) (exact_key b key p is ∙ out)))
    by_test false is ih = ap (λ t. has_ready key p || t) ih

-- ---- a split

abbrev AreMarked : Bool → List Piece → Type 0
AreMarked r [] = Unit {0}
AreMarked r (p ∷ ps) = (p.ready ≡ r) × AreMarked r ps

marked_both : (r : Bool) (xs ys : List Piece) → AreMarked r xs → AreMarked r ys → AreMarked r (xs ++ ys)
marked_both r [] ys h k = k
marked_both r (x ∷ xs) ys h k = (h.0, marked_both r xs ys h.1 k)

marked_parts : (k : ℕ) (from to : Low) (s : ℕ) (r : Bool) → AreMarked r (parts k from to s r)
marked_parts zero from to s r = (refl, tt)
marked_parts (suc k) from to s r = by_test (covers (first_child from) to) (marked_parts k (first_child from) to s r) (marked_parts k (second_child from) to s r)
  where
    by_test : (t : Bool) → AreMarked r (parts k (first_child from) to s r) → AreMarked r (parts k (second_child from) to s r)
        → AreMarked r (cond t (parts k (first_child from) to s r ++ record { bucket = second_child from; serial = s; ready = r } ∷ []) (record { bucket = first_child from; serial = s; ready = r } ∷ parts k (second_child from) to s r))
    by_test true a b = marked_both r (parts k (first_child from) to s r) (record { bucket = second_child from; serial = s; ready = r } ∷ []) a (refl, tt)
    by_test false a b = (refl, b)

marked_ready : (key : ℕ) (r : Bool) (xs : List Piece) → AreMarked r xs → is_ready key xs ≡ (r && holds key xs)
marked_ready key r [] h = sym (and_none r false refl)
marked_ready key r (x ∷ xs) h = ap₂ (λ a c. (a && has_key x.bucket key) || c) h.0 (marked_ready key r xs h.1) ∙ by_mark r
  where
    by_mark : (t : Bool) → (t && has_key x.bucket key) || (t && holds key xs) ≡ (t && (has_key x.bucket key || holds key xs))
    by_mark true = refl
    by_mark false = refl

module _ (laws : AreRuns) (key : ℕ) (small : key < 2 ^ 58) where
  is_in : (b : Low) → has_key b key ≡ true → IsIn b key
  is_in b h = (small, eqb-true _ _ h)

  holds-parts : (b : Low) → IsBucket b → (s lo : ℕ) (p : Piece) → lo ≤ first_path p.bucket → IsBucket p.bucket → covers p.bucket b ≡ true
      → holds key (parts (b.bits - p.bucket.bits) p.bucket b s p.ready) ≡ has_key p.bucket key
  holds-parts b vb s lo p low valid over =
      let xs = parts (b.bits - p.bucket.bits) p.bucket b s p.ready in
      sym (list_any-append (has_key_of key) xs [] ∙ or_none (holds key xs))
      ∙ (sym (ap (λ t. holds key (cond t (xs ++ []) (p ∷ split_at b s []))) over) ∙ (holds-split laws key small b vb s lo (p ∷ []) (low, valid, tt) ∙ or_none (has_key p.bucket key)))

  pub ready-split : (b : Low) → IsBucket b → (s lo : ℕ) (ps : List Piece) → IsLaid lo ps → is_ready key (split_at b s ps) ≡ is_ready key ps
  ready-split b vb s lo [] h = refl
  ready-split b vb s lo (p ∷ ps) h = by_test (covers p.bucket b) refl (ready-split b vb s (last_path p.bucket + 1) ps h.2)
    where
      by_test : (t : Bool) → covers p.bucket b ≡ t → is_ready key (split_at b s ps) ≡ is_ready key ps
          → is_ready key (cond t (parts (b.bits - p.bucket.bits) p.bucket b s p.ready ++ ps) (p ∷ split_at b s ps)) ≡ has_ready key p || is_ready key ps
      by_test true e ih =
          list_any-append (has_ready key) (parts (b.bits - p.bucket.bits) p.bucket b s p.ready) ps
          ∙ ap (λ t. t || is_ready key ps)
          (marked_ready key p.ready (parts (b.bits - p.bucket.bits) p.bucket b s p.ready) (marked_parts (b.bits - p.bucket.bits) p.bucket b s p.ready)
          ∙ ap (λ t. p.ready && t) (holds-parts b vb s lo p h.0 h.1 e))
      by_test false e ih = ap (λ t. has_ready key p || t) ih

  -- ---- a join

  inner_key : (b : Low) → IsBucket b → has_key b key ≡ false → (p : Piece) → IsBucket p.bucket → covers b p.bucket ≡ true → has_ready key p ≡ false
  inner_key b vb out p valid over = and_none p.ready (has_key p.bucket key) (by_key (has_key p.bucket key) refl)
    where
      by_key : (t : Bool) → has_key p.bucket key ≡ t → t ≡ false
      by_key true k = sym (sub_key laws key small b p.bucket vb valid over k) ∙ out
      by_key false k = refl

  outer_ready : (b : Low) → IsBucket b → has_key b key ≡ false → (lo : ℕ) (ps : List Piece) → IsLaid lo ps → is_ready key (filter (λ q. not (covers b q.bucket)) ps) ≡ is_ready key ps
  outer_ready b vb out lo [] h = refl
  outer_ready b vb out lo (p ∷ ps) h = by_test (covers b p.bucket) refl (outer_ready b vb out (last_path p.bucket + 1) ps h.2)
    where
      by_test : (t : Bool) → covers b p.bucket ≡ t → is_ready key (filter (λ q. not (covers b q.bucket)) ps) ≡ is_ready key ps
          → is_ready key (cond (not t) (p ∷ filter (λ q. not (covers b q.bucket)) ps) (filter (λ q. not (covers b q.bucket)) ps)) ≡ has_ready key p || is_ready key ps
      by_test true e ih = ih ∙ sym (ap (λ t. t || is_ready key ps) (inner_key b vb out p h.1 e))
      by_test false e ih = ap (λ t. has_ready key p || t) ih

  pub join-outside : (b : Low) → IsBucket b → has_key b key ≡ false → (s lo : ℕ) (ps : List Piece) → IsLaid lo ps → is_ready key (join_at b s ps) ≡ is_ready key ps
  join-outside b vb out s lo [] h = refl
  join-outside b vb out s lo (p ∷ ps) h = by_test (covers b p.bucket) refl (join-outside b vb out s (last_path p.bucket + 1) ps h.2)
    where
      by_test : (t : Bool) → covers b p.bucket ≡ t → is_ready key (join_at b s ps) ≡ is_ready key ps
          → is_ready key (cond t (record { bucket = b; serial = s; ready = p.ready || list_any (λ q. covers b q.bucket && q.ready) ps } ∷ filter (λ q. not (covers b q.bucket)) ps) (p ∷ join_at b s ps)) ≡ has_ready key p || is_ready key ps
      by_test true e ih =
          ap₂ (λ x y. x || y) (and_none (p.ready || list_any (λ q. covers b q.bucket && q.ready) ps) (has_key b key) out) (outer_ready b vb out (last_path p.bucket + 1) ps h.2)
          ∙ sym (ap (λ t. t || is_ready key ps) (inner_key b vb out p h.1 e))
      by_test false e ih = ap (λ t. has_ready key p || t) ih

  -- ---- a bucket that a piece covers

  -- no piece past a key has it
  past_none : (lo : ℕ) → path key < lo → (ps : List Piece) → IsLaid lo ps → is_ready key ps ≡ false
  past_none lo past [] h = refl
  past_none lo past (p ∷ ps) h =
      let low = h.0 in
      ap₂ (λ a c. a || c) (and_none p.ready (has_key p.bucket key) (by_key (has_key p.bucket key) refl)) (past_none (last_path p.bucket + 1) (omega (arith, past, low)) ps h.2)
    where
      by_key : (t : Bool) → has_key p.bucket key ≡ t → t ≡ false
      by_key true k =
          let low = h.0 in
          let here = (laws.run p.bucket key h.1 small).0 (is_in p.bucket k) in
          absurd (omega (arith, past, low, here.0))
      by_key false k = refl

  over_from : (b : Low) → IsBucket b → has_key b key ≡ true → (lo : ℕ) (ps : List Piece) → IsLaid lo ps → list_any (is_over b) ps ≡ true → lo ≤ path key
  over_from b vb k lo [] h some = absurd (true≢false (sym some))
  over_from b vb k lo (p ∷ ps) h some = by_test (covers p.bucket b) refl some (over_from b vb k (last_path p.bucket + 1) ps h.2)
    where
      by_test : (t : Bool) → covers p.bucket b ≡ t → t || list_any (is_over b) ps ≡ true → (list_any (is_over b) ps ≡ true → last_path p.bucket + 1 ≤ path key) → lo ≤ path key
      by_test true e g ih =
          let low = h.0 in
          let here = (laws.run p.bucket key h.1 small).0 (is_in p.bucket (sub_key laws key small p.bucket b h.1 vb e k)) in
          omega (arith, low, here.0)
      by_test false e g ih = let low = h.0 in let more = ih g in omega (arith, low, more)

  pub over-mark : (b : Low) → IsBucket b → has_key b key ≡ true → (lo : ℕ) (ps : List Piece) → IsLaid lo ps → list_any (is_over b) ps ≡ true → is_ready key ps ≡ is_ready_over b ps
  over-mark b vb k lo [] h some = absurd (true≢false (sym some))
  over-mark b vb k lo (p ∷ ps) h some = by_test (covers p.bucket b) refl some (over-mark b vb k (last_path p.bucket + 1) ps h.2)
    where
      and_all : (x : Bool) → x && true ≡ x
      and_all true = refl
      and_all false = refl

      before : list_any (is_over b) ps ≡ true → (t : Bool) → has_key p.bucket key ≡ t → t ≡ false
      before more true e =
          let here = (laws.run p.bucket key h.1 small).0 (is_in p.bucket e) in
          let from = over_from b vb k (last_path p.bucket + 1) ps h.2 more in
          absurd (omega (arith, here.1, from))
      before more false e = refl

      behind : covers p.bucket b ≡ true → path key < last_path p.bucket + 1
      behind e =
          let here = (laws.run p.bucket key h.1 small).0 (is_in p.bucket (sub_key laws key small p.bucket b h.1 vb e k)) in
          omega (arith, here.1)

      by_test : (t : Bool) → covers p.bucket b ≡ t → t || list_any (is_over b) ps ≡ true → (list_any (is_over b) ps ≡ true → is_ready key ps ≡ is_ready_over b ps)
          → has_ready key p || is_ready key ps ≡ mark_of (cond t (Some p) (find (is_over b) ps))
      by_test true e g ih =
          ap₂ (λ x y. x || y) (ap (λ t. p.ready && t) (sub_key laws key small p.bucket b h.1 vb e k) ∙ and_all p.ready) (past_none (last_path p.bucket + 1) (behind e) ps h.2)
          ∙ or_none p.ready
      by_test false e g ih = ap (λ t. t || is_ready key ps) (and_none p.ready (has_key p.bucket key) (before g (has_key p.bucket key) refl)) ∙ ih g

-- ---- joins, of pieces that are ready and of others

pub join-ready : (b : Low) (key s : ℕ) → has_key b key ≡ true → (ps : List Piece) → is_ready_inside b ps ≡ true → is_ready key (join_at b s ps) ≡ true
join-ready b key s inside [] some = absurd (true≢false (sym some))
join-ready b key s inside (p ∷ ps) some = by_test (covers b p.bucket) refl some (join-ready b key s inside ps)
  where
    by_test : (t : Bool) → covers b p.bucket ≡ t → (t && p.ready) || is_ready_inside b ps ≡ true → (is_ready_inside b ps ≡ true → is_ready key (join_at b s ps) ≡ true)
        → is_ready key (cond t (record { bucket = b; serial = s; ready = p.ready || list_any (λ q. covers b q.bucket && q.ready) ps } ∷ filter (λ q. not (covers b q.bucket)) ps) (p ∷ join_at b s ps)) ≡ true
    by_test true e k ih = ap₂ (λ x y. (x && y) || is_ready key (filter (λ q. not (covers b q.bucket)) ps)) k inside
    by_test false e k ih = or_right (has_ready key p) (is_ready key (join_at b s ps)) (ih k)

unready_rest : (b : Low) (key : ℕ) (ps : List Piece) → is_ready_inside b ps ≡ false → is_ready key (filter (λ q. not (covers b q.bucket)) ps) ≡ is_ready key ps
unready_rest b key [] none = refl
unready_rest b key (p ∷ ps) none = by_test (covers b p.bucket) refl none (unready_rest b key ps)
  where
    by_test : (t : Bool) → covers b p.bucket ≡ t → (t && p.ready) || is_ready_inside b ps ≡ false → (is_ready_inside b ps ≡ false → is_ready key (filter (λ q. not (covers b q.bucket)) ps) ≡ is_ready key ps)
        → is_ready key (cond (not t) (p ∷ filter (λ q. not (covers b q.bucket)) ps) (filter (λ q. not (covers b q.bucket)) ps)) ≡ has_ready key p || is_ready key ps
    by_test true e k ih =
        let both = neither p.ready (is_ready_inside b ps) k in
        ih both.1 ∙ sym (ap (λ t. (t && has_key p.bucket key) || is_ready key ps) both.0)
    by_test false e k ih = ap (λ t. has_ready key p || t) (ih k)

pub join-unready : (b : Low) (key s : ℕ) (ps : List Piece) → is_ready_inside b ps ≡ false → is_ready key (join_at b s ps) ≡ is_ready key ps
join-unready b key s [] none = refl
join-unready b key s (p ∷ ps) none = by_test (covers b p.bucket) refl none (join-unready b key s ps)
  where
    by_test : (t : Bool) → covers b p.bucket ≡ t → (t && p.ready) || is_ready_inside b ps ≡ false → (is_ready_inside b ps ≡ false → is_ready key (join_at b s ps) ≡ is_ready key ps)
        → is_ready key (cond t (record { bucket = b; serial = s; ready = p.ready || list_any (λ q. covers b q.bucket && q.ready) ps } ∷ filter (λ q. not (covers b q.bucket)) ps) (p ∷ join_at b s ps)) ≡ has_ready key p || is_ready key ps
    by_test true e k ih =
        let both = neither p.ready (is_ready_inside b ps) k in
        ap₂ (λ x y. (x && has_key b key) || y) k (unready_rest b key ps both.1) ∙ sym (ap (λ t. (t && has_key p.bucket key) || is_ready key ps) both.0)
    by_test false e k ih = ap (λ t. has_ready key p || t) (ih k)

pub inside_some : (b : Low) (ps : List Piece) → is_ready_inside b ps ≡ true → list_any (is_inside b) ps ≡ true
inside_some b [] some = some
inside_some b (p ∷ ps) some = by_test (covers b p.bucket) some (inside_some b ps)
  where
    by_test : (t : Bool) → (t && p.ready) || is_ready_inside b ps ≡ true → (is_ready_inside b ps ≡ true → list_any (is_inside b) ps ≡ true) → t || list_any (is_inside b) ps ≡ true
    by_test true k ih = refl
    by_test false k ih = ih k

-- no piece covers the bucket, and none inside is ready
unready_around : (b : Low) (key : ℕ) → has_key b key ≡ true → (ps : List Piece) → list_any (is_over b) ps ≡ false → is_ready_inside b ps ≡ false → is_ready key ps ≡ false
unready_around b key k [] over inside = refl
unready_around b key k (p ∷ ps) over inside =
    let o = neither (covers p.bucket b) (list_any (is_over b) ps) over in
    let i = neither (covers b p.bucket && p.ready) (is_ready_inside b ps) inside in
    ap₂ (λ x y. x || y) (by_tests p.ready (has_key p.bucket key) refl o.0 i.0) (unready_around b key k ps o.1 i.1)
  where
    by_tests : (r t : Bool) → has_key p.bucket key ≡ t → covers p.bucket b ≡ false → (covers b p.bucket && r) ≡ false → (r && t) ≡ false
    by_tests false t e o i = refl
    by_tests true false e o i = refl
    by_tests true true e o i = absurd (true≢false (sym (key-meets p.bucket b key e k) ∙ ap₂ (λ x y. x || y) o (sym (and_all (covers b p.bucket)) ∙ i)))
      where
        and_all : (x : Bool) → x && true ≡ x
        and_all true = refl
        and_all false = refl

-- ---- a bucket that is made a piece

-- how the keys of a bucket are marked that is made a piece, and whether that makes others ready
pub record IsMade (b : Low) (ps qs : List Piece) (ready readied : Bool) : Type 0 where
  pub inside : (key : ℕ) → key < 2 ^ 58 → has_key b key ≡ true → is_ready key qs ≡ ready
  pub stays : (key : ℕ) → key < 2 ^ 58 → (readied && has_key b key) ≡ false → is_ready key qs ≡ is_ready key ps
  pub mark : readied ≡ true → ready ≡ true

pub made-over : AreRuns → (b : Low) → IsBucket b → (s : ℕ) (ps : List Piece) → IsLaid 0 ps → list_any (is_over b) ps ≡ true → IsMade b ps (apply_at b s ps) (is_ready_over b ps) false
made-over laws b vb s ps h over =
    let same : (key : ℕ) → key < 2 ^ 58 → is_ready key (apply_at b s ps) ≡ is_ready key ps = λ key small. sym (ap (is_ready key) (apply-over b s ps over)) ∙ ready-split laws key small b vb s 0 ps h in
    record {
      inside = λ key small k. same key small ∙ over-mark laws key small b vb k 0 ps h over;
      stays = λ key small k. same key small;
      mark = λ k. absurd (true≢false (sym k));
    }

pub made-inside : AreRuns → (b : Low) → IsBucket b → (s : ℕ) (ps : List Piece) → IsLaid 0 ps → list_any (is_over b) ps ≡ false
    → IsMade b ps (apply_at b s ps) (is_ready_inside b ps) (is_ready_inside b ps)
made-inside laws b vb s ps h over = by_mark (is_ready_inside b ps) refl
  where
    out : (key : ℕ) → key < 2 ^ 58 → has_key b key ≡ false → is_ready key (apply_at b s ps) ≡ is_ready key ps
    out key small k = by_test (list_any (is_inside b) ps) refl
      where
        by_test : (t : Bool) → list_any (is_inside b) ps ≡ t → is_ready key (apply_at b s ps) ≡ is_ready key ps
        by_test true e = sym (ap (is_ready key) (apply-inside b s ps over e)) ∙ join-outside laws key small b vb k s 0 ps h
        by_test false e = ap (is_ready key) (apply_at-new b s ps over e) ∙ ready-with_piece key (record { bucket = b; serial = s; ready = false }) refl ps

    same : is_ready_inside b ps ≡ false → (key : ℕ) → is_ready key (apply_at b s ps) ≡ is_ready key ps
    same none key = by_test (list_any (is_inside b) ps) refl
      where
        by_test : (t : Bool) → list_any (is_inside b) ps ≡ t → is_ready key (apply_at b s ps) ≡ is_ready key ps
        by_test true e = sym (ap (is_ready key) (apply-inside b s ps over e)) ∙ join-unready b key s ps none
        by_test false e = ap (is_ready key) (apply_at-new b s ps over e) ∙ ready-with_piece key (record { bucket = b; serial = s; ready = false }) refl ps

    by_mark : (r : Bool) → is_ready_inside b ps ≡ r → IsMade b ps (apply_at b s ps) r r
    by_mark true is = record {
      inside = λ key small k. sym (ap (is_ready key) (apply-inside b s ps over (inside_some b ps is))) ∙ join-ready b key s k ps is;
      stays = λ key small k. out key small k;
      mark = λ k. k;
    }
    by_mark false is = record {
      inside = λ key small k. same is key ∙ unready_around b key k ps over is;
      stays = λ key small k. same is key;
      mark = λ k. k;
    }

-- ---- what the code asks of a bucket

pub over_found : (b : Low) (ps : List Piece) → list_any (is_over b) ps ≡ is_some (find (is_over b) ps)
over_found b [] = refl
over_found b (p ∷ ps) = by_test (covers p.bucket b) (over_found b ps)
  where
    by_test : (t : Bool) → list_any (is_over b) ps ≡ is_some (find (is_over b) ps) → t || list_any (is_over b) ps ≡ is_some (cond t (Some p) (find (is_over b) ps))
    by_test true ih = refl
    by_test false ih = ih

pub marked_over : (b : Low) (ps : List Piece) → is_ready_over b ps ≡ true → list_any (is_over b) ps ≡ true
marked_over b ps mark = over_found b ps ∙ by_piece (find (is_over b) ps) mark
  where
    by_piece : (o : Option Piece) → mark_of o ≡ true → is_some o ≡ true
    by_piece None k = k
    by_piece (Some p) k = refl

abbrev pub covers_of : Result (Unit {0}) StoreFault → Bool
covers_of (Err fault.NoBucket) = false
covers_of (Err fault.NoMemory) = false
covers_of _ = true

pub covered_by : (o : Option Piece) (r : Result (Unit {0}) StoreFault) → IsSurelyTold (by_mark o) r → is_some o ≡ covers_of r
covered_by None (Ok x) h = absurd (differ h)
  where
    differ : NoBucket ≡ Accepted → ⊥
    differ e = cc
covered_by None (Err fault.NoBucket) h = refl
covered_by None (Err fault.Differs) h = absurd (differ h)
  where
    differ : NoBucket ≡ Differs → ⊥
    differ e = cc
covered_by None (Err fault.NoMemory) h = absurd h
covered_by (Some p) (Ok x) h = refl
covered_by (Some p) (Err fault.NoBucket) h = absurd (by_ready p.ready h)
  where
    by_ready : (t : Bool) → cond t Accepted Differs ≡ NoBucket → ⊥
    by_ready true e = cc
    by_ready false e = cc
covered_by (Some p) (Err fault.Differs) h = refl
covered_by (Some p) (Err fault.NoMemory) h = absurd h

-- ---- a key's bucket

pub key_has : (key : ℕ) → key < 2 ^ 58 → has_key (key_bucket key) key ≡ true
key_has key small = eq-eqb _ _ (grind (arith, small))

pub key_is_bucket : (key : ℕ) → key < 2 ^ 58 → IsBucket (key_bucket key)
key_is_bucket key small = record { some = (omega arith); most = (omega arith); fits = small }

pub key_over : (key lo : ℕ) (ps : List Piece) → IsLaid lo ps → holds key ps ≡ true → list_any (is_over (key_bucket key)) ps ≡ true
key_over key lo [] h some = some
key_over key lo (p ∷ ps) h some = by_test (has_key p.bucket key) refl some (key_over key (last_path p.bucket + 1) ps h.2)
  where
    bits : nat_le p.bucket.bits 58 ≡ true
    bits = let m = h.1.most in grind (arith, nat_tests, m)

    by_test : (t : Bool) → has_key p.bucket key ≡ t → t || holds key ps ≡ true → (holds key ps ≡ true → list_any (is_over (key_bucket key)) ps ≡ true) → (nat_le p.bucket.bits 58 && has_key p.bucket key) || list_any (is_over (key_bucket key)) ps ≡ true
    by_test true e k ih = ap (λ t. t || list_any (is_over (key_bucket key)) ps) (ap₂ (λ x y. x && y) bits e)
    by_test false e k ih = or_right (nat_le p.bucket.bits 58 && has_key p.bucket key) (list_any (is_over (key_bucket key)) ps) (ih k)
