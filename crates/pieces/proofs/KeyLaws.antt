-- Which keys the pieces have after each change.
use Rattle.std.proofs.Common.{◌≡◌, ◌&&◌, ◌||◌, not, ℕ, zero, suc, ◌+◌, ◌-◌, ◌<◌, ◌≤◌, ◌^◌, Bool, true, false, cond, List, [], ◌∷◌, ◌++◌, map, filter, refl, sym, ap, ap₂, ◌∙◌, subst, arith, eqb-true, eq-eqb, nat_lt, ◌⊎◌, inl, inr}
use Rattle.std.specs.List.{list_any}
use Rattle.std.proofs.lemmas.List.Folds.{list_any-append}
use Rattle.bucket_ids.specs.Buckets.{Low, IsBucket, IsIn, covers, has_key, first_child, second_child}
use Rattle.bucket_ids.specs.Paths.{path, first_path, last_path}
use Rattle.pieces.specs.declared.piece.Piece.{Piece}
use Rattle.pieces.specs.Pieces.{meets, does_meet, is_over, is_inside, is_exactly, has_key_of, holds, renew, renewed, make_ready, ready_at, split_at, join_at, with_piece, apply_at, without, parts}
use Rattle.pieces.specs.Runs.{IsLaid, AreRuns}
use Rattle.pieces.proofs.PieceLaws.{bucket-same}
use Rattle.proof_basics.proofs.Tests.{or_false}
use Rattle.pieces.proofs.RunLaws.{first-last, first-bucket, second-bucket, covers-first, covers-last, covers-bits, next-child, overlap-meets}
use Rattle.pieces.proofs.Laid.{renew_bucket, ready_bucket, none_past}

or_none : (x : Bool) → x || false ≡ x
or_none true = refl
or_none false = refl

or_turn : (x y z : Bool) → x || (y || z) ≡ y || (x || z)
or_turn true true z = refl
or_turn true false z = refl
or_turn false y z = refl

or_left : (x y : Bool) → x ≡ true → x || y ≡ true
or_left true y h = refl
or_left false y h = cc

-- ---- changes that keep the buckets

holds-map : (key : ℕ) (f : Piece → Piece) → ((p : Piece) → (f p).bucket ≡ p.bucket) → (ps : List Piece) → holds key (map f ps) ≡ holds key ps
holds-map key f keeps [] = refl
holds-map key f keeps (p ∷ ps) = ap₂ (λ b t. has_key b key || t) (keeps p) (holds-map key f keeps ps)

pub holds-renewed : (key : ℕ) (test : Piece → Bool) (s : ℕ) (ps : List Piece) → holds key (renewed test s ps) ≡ holds key ps
holds-renewed key test s ps = holds-map key (renew test s) (renew_bucket test s) ps

pub holds-ready : (key : ℕ) (b : Low) (s : ℕ) (ps : List Piece) → holds key (ready_at b s ps) ≡ holds key ps
holds-ready key b s ps = holds-map key (make_ready b s) (ready_bucket b s) ps

-- ---- a piece more, a piece less

pub holds-with_piece : (key : ℕ) (q : Piece) (ps : List Piece) → holds key (with_piece q ps) ≡ has_key q.bucket key || holds key ps
holds-with_piece key q [] = refl
holds-with_piece key q (p ∷ ps) = by_test (nat_lt (first_path q.bucket) (first_path p.bucket)) (holds-with_piece key q ps)
  where
    by_test : (t : Bool) → holds key (with_piece q ps) ≡ has_key q.bucket key || holds key ps
        → holds key (cond t (q ∷ p ∷ ps) (p ∷ with_piece q ps)) ≡ has_key q.bucket key || (has_key p.bucket key || holds key ps)
    by_test true ih = refl
    by_test false ih = ap (λ t. has_key p.bucket key || t) ih ∙ or_turn (has_key p.bucket key) (has_key q.bucket key) (holds key ps)

-- a key outside the bucket that goes
pub holds-without : (key : ℕ) (b : Low) → has_key b key ≡ false → (ps : List Piece) → holds key (without b ps) ≡ holds key ps
holds-without key b out [] = refl
holds-without key b out (p ∷ ps) = by_test (is_exactly b p) refl (holds-without key b out ps)
  where
    by_test : (t : Bool) → is_exactly b p ≡ t → holds key (without b ps) ≡ holds key ps
        → holds key (cond (not t) (p ∷ without b ps) (without b ps)) ≡ has_key p.bucket key || holds key ps
    by_test true e ih = ih ∙ sym (ap (λ t. t || holds key ps) (ap (λ x. has_key x key) (bucket-same p.bucket b e) ∙ out))
    by_test false e ih = ap (λ t. has_key p.bucket key || t) ih

module _ (laws : AreRuns) (key : ℕ) (small : key < 2 ^ 58) where
  is_in : (b : Low) → has_key b key ≡ true → IsIn b key
  is_in b h = (small, eqb-true _ _ h)

  -- a bucket has the keys of those that it covers
  pub sub_key : (a b : Low) → IsBucket a → IsBucket b → covers a b ≡ true → has_key b key ≡ true → has_key a key ≡ true
  sub_key a b va vb over h =
      let place = (laws.run b key vb small).0 (is_in b h) in
      let low = covers-first laws a b va vb over in
      let high = covers-last laws a b va vb over in
      eq-eqb _ _ ((laws.run a key va small).1 (omega (arith, place.0, low.0), omega (arith, place.1, high))).1

  first_key : (a : Low) → IsBucket a → a.bits < 58 → has_key (first_child a) key ≡ true → has_key a key ≡ true
  first_key a va lt h =
      let place = (laws.run (first_child a) key (first-bucket a va lt) small).0 (is_in (first_child a) h) in
      let seam = laws.seam a va lt in
      let last = laws.last a va lt in
      let order = first-last (second_child a) in
      eq-eqb _ _ ((laws.run a key va small).1 (place.0, omega (arith, place.1, seam, last, order))).1

  second_key : (a : Low) → IsBucket a → a.bits < 58 → has_key (second_child a) key ≡ true → has_key a key ≡ true
  second_key a va lt h =
      let place = (laws.run (second_child a) key (second-bucket a va lt) small).0 (is_in (second_child a) h) in
      let seam = laws.seam a va lt in
      let last = laws.last a va lt in
      let order = first-last (first_child a) in
      let low : first_path a ≤ path key = omega (arith, place.0, seam, order) in
      eq-eqb _ _ ((laws.run a key va small).1 (low, omega (arith, place.1, last))).1

  -- a bucket has a key exactly where one of its children has it
  has_key-children : (a : Low) → IsBucket a → a.bits < 58 → has_key (first_child a) key || has_key (second_child a) key ≡ has_key a key
  has_key-children a va lt = by_tests (has_key (first_child a) key) (has_key (second_child a) key) (has_key a key) refl refl refl
    where
      neither : (t : Bool) → t ≡ true → IsIn (first_child a) key ⊎ IsIn (second_child a) key → has_key (first_child a) key ≡ false → has_key (second_child a) key ≡ false → false ≡ t
      neither t h (inl e) f g = cc (sym f ∙ eq-eqb _ _ e.1)
      neither t h (inr e) f g = cc (sym g ∙ eq-eqb _ _ e.1)

      by_tests : (x y z : Bool) → has_key (first_child a) key ≡ x → has_key (second_child a) key ≡ y → has_key a key ≡ z → x || y ≡ z
      by_tests true y z e f g = sym (first_key a va lt e) ∙ g
      by_tests false true z e f g = sym (second_key a va lt f) ∙ g
      by_tests false false true e f g = neither true refl (next-child laws a key va lt small (is_in a g)) e f
      by_tests false false false e f g = refl

  holds-parts : (k : ℕ) (from to : Low) (s : ℕ) (r : Bool) → IsBucket from → from.bits + k ≤ 58 → holds key (parts k from to s r) ≡ has_key from key
  holds-parts zero from to s r v le = or_none (has_key from key)
  holds-parts (suc k) from to s r v le = by_test (covers (first_child from) to)
      (holds-parts k (first_child from) to s r (first-bucket from v less) (omega (arith, le)))
      (holds-parts k (second_child from) to s r (second-bucket from v less) (omega (arith, le)))
    where
      less : from.bits < 58
      less = omega (arith, le)

      by_test : (t : Bool) → holds key (parts k (first_child from) to s r) ≡ has_key (first_child from) key → holds key (parts k (second_child from) to s r) ≡ has_key (second_child from) key
          → holds key (cond t (parts k (first_child from) to s r ++ record { bucket = second_child from; serial = s; ready = r } ∷ []) (record { bucket = first_child from; serial = s; ready = r } ∷ parts k (second_child from) to s r)) ≡ has_key from key
      by_test true a b =
          list_any-append (has_key_of key) (parts k (first_child from) to s r) (record { bucket = second_child from; serial = s; ready = r } ∷ [])
          ∙ ap₂ (λ x y. x || y) a (or_none (has_key (second_child from) key)) ∙ has_key-children from v less
      by_test false a b = ap (λ t. has_key (first_child from) key || t) b ∙ has_key-children from v less

  pub holds-split : (b : Low) → IsBucket b → (s lo : ℕ) (ps : List Piece) → IsLaid lo ps → holds key (split_at b s ps) ≡ holds key ps
  holds-split b vb s lo [] h = refl
  holds-split b vb s lo (p ∷ ps) h = by_test (covers p.bucket b) refl (holds-split b vb s (last_path p.bucket + 1) ps h.2)
    where
      by_test : (t : Bool) → covers p.bucket b ≡ t → holds key (split_at b s ps) ≡ holds key ps
          → holds key (cond t (parts (b.bits - p.bucket.bits) p.bucket b s p.ready ++ ps) (p ∷ split_at b s ps)) ≡ has_key p.bucket key || holds key ps
      by_test true e ih =
          list_any-append (has_key_of key) (parts (b.bits - p.bucket.bits) p.bucket b s p.ready) ps
          ∙ ap (λ t. t || holds key ps) (holds-parts (b.bits - p.bucket.bits) p.bucket b s p.ready h.1 (let m = vb.most in let l = covers-bits p.bucket b e in omega (arith, m, l)))
      by_test false e ih = ap (λ t. has_key p.bucket key || t) ih

  -- what is outside a bucket stays
  holds-outside : (b : Low) → IsBucket b → has_key b key ≡ false → (lo : ℕ) (ps : List Piece) → IsLaid lo ps → holds key (filter (λ q. not (covers b q.bucket)) ps) ≡ holds key ps
  holds-outside b vb out lo [] h = refl
  holds-outside b vb out lo (p ∷ ps) h = by_test (covers b p.bucket) refl (holds-outside b vb out (last_path p.bucket + 1) ps h.2)
    where
      no_key : covers b p.bucket ≡ true → (t : Bool) → has_key p.bucket key ≡ t → t ≡ false
      no_key over true f = cc (sym out ∙ sub_key b p.bucket vb h.1 over f)
      no_key over false f = refl

      by_test : (t : Bool) → covers b p.bucket ≡ t → holds key (filter (λ q. not (covers b q.bucket)) ps) ≡ holds key ps
          → holds key (cond (not t) (p ∷ filter (λ q. not (covers b q.bucket)) ps) (filter (λ q. not (covers b q.bucket)) ps)) ≡ has_key p.bucket key || holds key ps
      by_test true e ih = ih ∙ sym (ap (λ t. t || holds key ps) (no_key e (has_key p.bucket key) refl))
      by_test false e ih = ap (λ t. has_key p.bucket key || t) ih

  holds-rest : (b : Low) → IsBucket b → (lo : ℕ) (ps : List Piece) → IsLaid lo ps → has_key b key || holds key (filter (λ q. not (covers b q.bucket)) ps) ≡ has_key b key || holds key ps
  holds-rest b vb lo ps h = by_key (has_key b key) refl
    where
      by_key : (t : Bool) → has_key b key ≡ t → t || holds key (filter (λ q. not (covers b q.bucket)) ps) ≡ t || holds key ps
      by_key true e = refl
      by_key false e = holds-outside b vb e lo ps h

  pub holds-join : (b : Low) → IsBucket b → (s lo : ℕ) (ps : List Piece) → IsLaid lo ps → list_any (is_inside b) ps ≡ true → holds key (join_at b s ps) ≡ has_key b key || holds key ps
  holds-join b vb s lo [] h i = cc
  holds-join b vb s lo (p ∷ ps) h i = by_test (covers b p.bucket) refl i (holds-join b vb s (last_path p.bucket + 1) ps h.2)
    where
      rest : covers b p.bucket ≡ true → filter (λ q. not (covers b q.bucket)) (p ∷ ps) ≡ filter (λ q. not (covers b q.bucket)) ps
      rest e = ap (λ t. cond (not t) (p ∷ filter (λ q. not (covers b q.bucket)) ps) (filter (λ q. not (covers b q.bucket)) ps)) e

      by_test : (t : Bool) → covers b p.bucket ≡ t → t || list_any (is_inside b) ps ≡ true → (list_any (is_inside b) ps ≡ true → holds key (join_at b s ps) ≡ has_key b key || holds key ps)
          → holds key (cond t (record { bucket = b; serial = s; ready = p.ready || list_any (λ q. covers b q.bucket && q.ready) ps } ∷ filter (λ q. not (covers b q.bucket)) ps) (p ∷ join_at b s ps)) ≡ has_key b key || (has_key p.bucket key || holds key ps)
      by_test true e f ih = ap (λ xs. has_key b key || holds key xs) (sym (rest e)) ∙ holds-rest b vb lo (p ∷ ps) h
      by_test false e f ih = ap (λ t. has_key p.bucket key || t) (ih f) ∙ or_turn (has_key p.bucket key) (has_key b key) (holds key ps)

  over_holds : (b : Low) → IsBucket b → (lo : ℕ) (ps : List Piece) → IsLaid lo ps → list_any (is_over b) ps ≡ true → has_key b key ≡ true → holds key ps ≡ true
  over_holds b vb lo [] h o k = cc
  over_holds b vb lo (p ∷ ps) h o k = by_test (covers p.bucket b) refl o (over_holds b vb (last_path p.bucket + 1) ps h.2)
    where
      right : (x y : Bool) → y ≡ true → x || y ≡ true
      right true y e = refl
      right false y e = e

      by_test : (t : Bool) → covers p.bucket b ≡ t → t || list_any (is_over b) ps ≡ true → (list_any (is_over b) ps ≡ true → has_key b key ≡ true → holds key ps ≡ true) → has_key p.bucket key || holds key ps ≡ true
      by_test true e f ih = or_left (has_key p.bucket key) (holds key ps) (sub_key p.bucket b h.1 vb e k)
      by_test false e f ih = right (has_key p.bucket key) (holds key ps) (ih f k)

  pub holds-apply : (b : Low) → IsBucket b → (s : ℕ) (ps : List Piece) → IsLaid 0 ps → holds key (apply_at b s ps) ≡ has_key b key || holds key ps
  holds-apply b vb s ps h = by_tests (list_any (is_over b) ps) (list_any (is_inside b) ps) refl refl
    where
      absorbed : (x y : Bool) → (x ≡ true → y ≡ true) → y ≡ x || y
      absorbed true y f = f refl
      absorbed false y f = refl

      by_tests : (x y : Bool) → list_any (is_over b) ps ≡ x → list_any (is_inside b) ps ≡ y
          → holds key (cond x (split_at b s ps) (cond y (join_at b s ps) (with_piece (record { bucket = b; serial = s; ready = false }) ps))) ≡ has_key b key || holds key ps
      by_tests true y e f = holds-split b vb s 0 ps h ∙ absorbed (has_key b key) (holds key ps) (over_holds b vb 0 ps h e)
      by_tests false true e f = holds-join b vb s 0 ps h f
      by_tests false false e f = holds-with_piece key (record { bucket = b; serial = s; ready = false }) ps

  -- ---- a bucket that goes

  no_key : (b : Low) → IsBucket b → has_key b key ≡ true → (lo : ℕ) (ps : List Piece) → IsLaid lo ps → list_any (does_meet b) ps ≡ false → holds key ps ≡ false
  no_key b vb k lo [] h none = refl
  no_key b vb k lo (p ∷ ps) h none =
      let parts = or_false (meets p.bucket b) _ none in
      ap₂ (λ x y. x || y) (by_test (has_key p.bucket key) refl parts.0) (no_key b vb k (last_path p.bucket + 1) ps h.2 parts.1)
    where
      by_test : (t : Bool) → has_key p.bucket key ≡ t → meets p.bucket b ≡ false → t ≡ false
      by_test true e n =
          let here = (laws.run p.bucket key h.1 small).0 (is_in p.bucket e) in
          let there = (laws.run b key vb small).0 (is_in b k) in
          cc (sym n ∙ overlap-meets laws p.bucket b h.1 vb (omega (arith, here.0, there.1)) (omega (arith, here.1, there.0)))
      by_test false e n = refl

  holds-filter : (test : Piece → Bool) (ps : List Piece) → holds key ps ≡ false → holds key (filter test ps) ≡ false
  holds-filter test [] h = refl
  holds-filter test (p ∷ ps) h = let parts = or_false (has_key p.bucket key) _ h in by_test (test p) parts.0 (holds-filter test ps parts.1)
    where
      by_test : (t : Bool) → has_key p.bucket key ≡ false → holds key (filter test ps) ≡ false → holds key (cond t (p ∷ filter test ps) (filter test ps)) ≡ false
      by_test true e ih = ap₂ (λ x y. x || y) e ih
      by_test false e ih = ih

  exact_from : (b : Low) (lo : ℕ) (ps : List Piece) → IsLaid lo ps → list_any (is_exactly b) ps ≡ true → lo ≤ first_path b
  exact_from b lo [] h there = cc
  exact_from b lo (p ∷ ps) h there = by_test (is_exactly b p) refl there (exact_from b (last_path p.bucket + 1) ps h.2)
    where
      by_test : (t : Bool) → is_exactly b p ≡ t → t || list_any (is_exactly b) ps ≡ true → (list_any (is_exactly b) ps ≡ true → last_path p.bucket + 1 ≤ first_path b) → lo ≤ first_path b
      by_test true e f ih = subst (λ x. lo ≤ first_path x) (bucket-same p.bucket b e) h.0
      by_test false e f ih = let low = ih f in let order = first-last p.bucket in let from = h.0 in omega (arith, low, order, from)

  holds-gone : (b : Low) → IsBucket b → has_key b key ≡ true → (lo : ℕ) (ps : List Piece) → IsLaid lo ps → list_any (is_exactly b) ps ≡ true → holds key (without b ps) ≡ false
  holds-gone b vb k lo [] h there = cc
  holds-gone b vb k lo (p ∷ ps) h there = by_test (is_exactly b p) refl there (holds-gone b vb k (last_path p.bucket + 1) ps h.2)
    where
      last_is : is_exactly b p ≡ true → last_path b < last_path p.bucket + 1
      last_is e = subst (λ x. last_path x < last_path p.bucket + 1) (bucket-same p.bucket b e) (omega arith)

      before : (t : Bool) → has_key p.bucket key ≡ t → list_any (is_exactly b) ps ≡ true → t ≡ false
      before true e f =
          let here = (laws.run p.bucket key h.1 small).0 (is_in p.bucket e) in
          let later = (laws.run b key vb small).0 (is_in b k) in
          let from = exact_from b (last_path p.bucket + 1) ps h.2 f in
          absurd (omega (arith, here.1, later.0, from))
      before false e f = refl

      by_test : (t : Bool) → is_exactly b p ≡ t → t || list_any (is_exactly b) ps ≡ true → (list_any (is_exactly b) ps ≡ true → holds key (without b ps) ≡ false)
          → holds key (cond (not t) (p ∷ without b ps) (without b ps)) ≡ false
      by_test true e f ih = holds-filter (λ q. not (is_exactly b q)) ps (no_key b vb k (last_path p.bucket + 1) ps h.2 (none_past laws b vb (last_path p.bucket + 1) (last_is e) ps h.2))
      by_test false e f ih = ap₂ (λ x y. x || y) (before (has_key p.bucket key) refl f) (ih f)

  pub holds-delete : (b : Low) → IsBucket b → (lo : ℕ) (ps : List Piece) → IsLaid lo ps → list_any (is_exactly b) ps ≡ true → holds key (without b ps) ≡ (not (has_key b key) && holds key ps)
  holds-delete b vb lo ps h there = by_key (has_key b key) refl
    where
      by_key : (t : Bool) → has_key b key ≡ t → holds key (without b ps) ≡ (not t && holds key ps)
      by_key true e = holds-gone b vb e lo ps h there
      by_key false e = holds-without key b e ps
