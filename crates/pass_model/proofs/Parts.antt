-- The parts of a split piece.
use Rattle.std.proofs.Common.{◌≡◌, ◌||◌, ℕ, zero, suc, ◌+◌, ◌<◌, ◌≤◌, Bool, true, false, cond, List, [], ◌∷◌, ◌++◌, refl, sym, ap, ap₂, subst, arith, ◌⊎◌, inl, inr}
use Rattle.std.specs.List.{list_any}
use Rattle.std.proofs.lemmas.Bool.{cases_lt}
use Rattle.bucket_ids.specs.Buckets.{Low, IsBucket, has_key, covers, first_child, second_child}
use Rattle.pieces.specs.declared.piece.Piece.{Piece}
use Rattle.pieces.specs.Pieces.{same_bucket, meets, parts, does_meet, is_over, is_exactly, has_key_of}
use Rattle.pieces.proofs.PieceLaws.{bucket-same, covers-refl, same-refl}
use Rattle.pass_model.specs.Shapes.{IsApart}
use Rattle.proof_basics.proofs.Tests.{or_true, or_left, or_right, clash}
use Rattle.pass_model.proofs.Tests.{tell, any-left, any-right, none-append, any-append}
use Rattle.proof_basics.proofs.Lists.{none-map}
use Rattle.pass_model.proofs.Geometry.{covers-bits, covers-trans, meets-sym, apart-sym, meets-part, apart-part, covers-first, covers-second, first-fits, second-fits, child_key, child_over, covers-same, children-apart, meets-covers}

module _ (s : ℕ) (ready : Bool) where
  abbrev pub part : Low → Piece
  part b = record { bucket = b; serial = s; ready = ready }

  pub parts-none : (k : ℕ) (from to b : Low) → IsBucket from → from.bits + k ≤ 58 → meets from b ≡ false → list_any (does_meet b) (parts k from to s ready) ≡ false
  parts-none zero from to b ok room apart = ap (λ t. t || false) apart
  parts-none (suc k) from to b ok room apart =
      let one = apart-part from (first_child from) b (covers-first from ok) apart in
      let two = apart-part from (second_child from) b (covers-second from ok) apart in
      let okone = first-fits from ok (omega (arith, room)) in let oktwo = second-fits from ok (omega (arith, room)) in
      by_test (covers (first_child from) to) one two
      (parts-none k (first_child from) to b okone (omega (arith, room)) one)
      (parts-none k (second_child from) to b oktwo (omega (arith, room)) two)
    where
      by_test : (t : Bool) → meets (first_child from) b ≡ false → meets (second_child from) b ≡ false
          → list_any (does_meet b) (parts k (first_child from) to s ready) ≡ false → list_any (does_meet b) (parts k (second_child from) to s ready) ≡ false
          → list_any (does_meet b) (cond t (parts k (first_child from) to s ready ++ part (second_child from) ∷ []) (part (first_child from) ∷ parts k (second_child from) to s ready)) ≡ false
      by_test true one two x y = none-append (does_meet b) (parts k (first_child from) to s ready) (part (second_child from) ∷ []) x (ap (λ t. t || false) two)
      by_test false one two x y = ap₂ (λ a c. a || c) one y

  -- the bucket is a part
  pub parts-exact : (T : Piece → Bool) (k : ℕ) (from to : Low) → IsBucket from → IsBucket to → from.bits + k ≡ to.bits → covers from to ≡ true → T (part to) ≡ true
      → list_any T (parts k from to s ready) ≡ true
  parts-exact T zero from to ok okto e c h = let same = bucket-same from to (covers-same from to ok okto c (omega (arith, e))) in subst (λ b. list_any T (part b ∷ []) ≡ true) (sym same) (or_left (T (part to)) false h)
  parts-exact T (suc k) from to ok okto e c h =
      let room : from.bits < 58 = let m = okto.most in omega (arith, e) in
      by_test (covers (first_child from) to) refl (child_over from to c (omega (arith, e)))
      (λ x. parts-exact T k (first_child from) to (first-fits from ok room) okto (omega (arith, e)) x h)
      (λ x. parts-exact T k (second_child from) to (second-fits from ok room) okto (omega (arith, e)) x h)
    where
      by_test : (t : Bool) → covers (first_child from) to ≡ t → (covers (first_child from) to ≡ true) ⊎ (covers (second_child from) to ≡ true)
          → (covers (first_child from) to ≡ true → list_any T (parts k (first_child from) to s ready) ≡ true) → (covers (second_child from) to ≡ true → list_any T (parts k (second_child from) to s ready) ≡ true)
          → list_any T (cond t (parts k (first_child from) to s ready ++ part (second_child from) ∷ []) (part (first_child from) ∷ parts k (second_child from) to s ready)) ≡ true
      by_test true e over x y = any-left T (parts k (first_child from) to s ready) (part (second_child from) ∷ []) (x e)
      by_test false e over x y = elim over [ inl one ↦ clash one e | inr two ↦ or_right (T (part (first_child from))) (list_any T (parts k (second_child from) to s ready)) (y two) ]

  -- a part lies over each bucket that lies in the piece, apart from the bucket
  pub parts-over : (k : ℕ) (from to b : Low) → IsBucket from → IsBucket to → IsBucket b → from.bits + k ≡ to.bits → covers from to ≡ true → covers from b ≡ true → meets b to ≡ false
      → list_any (is_over b) (parts k from to s ready) ≡ true
  parts-over zero from to b ok okto okb e c over apart = or_left (covers from b) false over
  parts-over (suc k) from to b ok okto okb e c over apart =
      let room : from.bits < 58 = let m = okto.most in omega (arith, e) in
      let x = covers-bits from b over in
      elim (tell (covers b from)) [
        | inl back ↦ clash (meets-covers b to (covers-trans b from to back c)) apart
        | inr inner ↦ by_test (covers (first_child from) to) refl (child_over from to c (omega (arith, e)))
            (child_over from b over (strictly inner))
            (λ x y. parts-over k (first_child from) to b (first-fits from ok room) okto okb (omega (arith, e)) x y apart)
            (λ x y. parts-over k (second_child from) to b (second-fits from ok room) okto okb (omega (arith, e)) x y apart)
      ]
    where
      back_again : from ≡ b → covers b from ≡ true
      back_again e = subst (λ c. covers c from ≡ true) e (covers-refl from ok)

      strictly : covers b from ≡ false → from.bits < b.bits
      strictly h = elim (cases_lt from.bits b.bits) [ inl less ↦ less | inr more ↦ clash (back_again (bucket-same from b (covers-same from b ok okb over more))) h ]

      by_test : (t : Bool) → covers (first_child from) to ≡ t → (covers (first_child from) to ≡ true) ⊎ (covers (second_child from) to ≡ true)
          → (covers (first_child from) b ≡ true) ⊎ (covers (second_child from) b ≡ true)
          → (covers (first_child from) to ≡ true → covers (first_child from) b ≡ true → list_any (is_over b) (parts k (first_child from) to s ready) ≡ true)
          → (covers (second_child from) to ≡ true → covers (second_child from) b ≡ true → list_any (is_over b) (parts k (second_child from) to s ready) ≡ true)
          → list_any (is_over b) (cond t (parts k (first_child from) to s ready ++ part (second_child from) ∷ []) (part (first_child from) ∷ parts k (second_child from) to s ready)) ≡ true
      by_test true e where_to (inl one) x y = any-left (is_over b) (parts k (first_child from) to s ready) (part (second_child from) ∷ []) (x e one)
      by_test true e where_to (inr two) x y = any-right (is_over b) (parts k (first_child from) to s ready) (part (second_child from) ∷ []) (or_left (covers (second_child from) b) false two)
      by_test false e where_to (inl one) x y = or_left (covers (first_child from) b) (list_any (is_over b) (parts k (second_child from) to s ready)) one
      by_test false e (inl one_to) (inr two) x y = clash one_to e
      by_test false e (inr two_to) (inr two) x y = or_right (covers (first_child from) b) (list_any (is_over b) (parts k (second_child from) to s ready)) (y two_to two)

  pub parts-key : (key k : ℕ) (from to : Low) → has_key from key ≡ true → list_any (has_key_of key) (parts k from to s ready) ≡ true
  parts-key key zero from to h = or_left (has_key from key) false h
  parts-key key (suc k) from to h = by_test (covers (first_child from) to) (child_key from key h) (λ x. parts-key key k (first_child from) to x) (λ x. parts-key key k (second_child from) to x)
    where
      by_test : (t : Bool) → (has_key (first_child from) key ≡ true) ⊎ (has_key (second_child from) key ≡ true)
          → (has_key (first_child from) key ≡ true → list_any (has_key_of key) (parts k (first_child from) to s ready) ≡ true)
          → (has_key (second_child from) key ≡ true → list_any (has_key_of key) (parts k (second_child from) to s ready) ≡ true)
          → list_any (has_key_of key) (cond t (parts k (first_child from) to s ready ++ part (second_child from) ∷ []) (part (first_child from) ∷ parts k (second_child from) to s ready)) ≡ true
      by_test true (inl one) x y = any-left (has_key_of key) (parts k (first_child from) to s ready) (part (second_child from) ∷ []) (x one)
      by_test true (inr two) x y = any-right (has_key_of key) (parts k (first_child from) to s ready) (part (second_child from) ∷ []) (or_left (has_key (second_child from) key) false two)
      by_test false (inl one) x y = or_left (has_key (first_child from) key) (list_any (has_key_of key) (parts k (second_child from) to s ready)) one
      by_test false (inr two) x y = or_right (has_key (first_child from) key) (list_any (has_key_of key) (parts k (second_child from) to s ready)) (y two)

pub IsApart-append : (xs ys : List Piece) → IsApart xs → IsApart ys → (p : Low) → IsBucket p → ((b : Low) → list_any (is_exactly b) xs ≡ true → covers p b ≡ true) → list_any (does_meet p) ys ≡ false → IsApart (xs ++ ys)
IsApart-append [] ys a c p ok inside none = c
IsApart-append (x ∷ xs) ys a c p ok inside none =
    let own = inside x.bucket (or_left (is_exactly x.bucket x) (list_any (is_exactly x.bucket) xs) (same-refl x.bucket)) in (
      none-append (does_meet x.bucket) xs ys a.0 (none-map (does_meet p) (does_meet x.bucket) ys (λ q h. meets-sym p q.bucket (meets-part p x.bucket q.bucket own (meets-sym q.bucket x.bucket h))) none),
      a.1,
      IsApart-append xs ys a.2 c p ok (λ b h. inside b (or_right (is_exactly b x) (list_any (is_exactly b) xs) h)) none,
    )

-- each part lies in the piece
pub parts-inside : (s : ℕ) (ready : Bool) (k : ℕ) (from to b : Low) → IsBucket from → from.bits + k ≤ 58 → list_any (is_exactly b) (parts k from to s ready) ≡ true → covers from b ≡ true
parts-inside s ready zero from to b ok room h = elim (or_true (same_bucket from b) false h) [ inl same ↦ subst (λ c. covers from c ≡ true) (bucket-same from b same) (covers-refl from ok) | inr none ↦ cc ]
parts-inside s ready (suc k) from to b ok room h =
    by_test (covers (first_child from) to) h
    (λ x. covers-trans from (first_child from) b (covers-first from ok) (parts-inside s ready k (first_child from) to b (first-fits from ok (omega (arith, room))) (omega (arith, room)) x))
    (λ x. covers-trans from (second_child from) b (covers-second from ok) (parts-inside s ready k (second_child from) to b (second-fits from ok (omega (arith, room))) (omega (arith, room)) x))
  where
    child : (c : Low) → covers from c ≡ true → same_bucket c b ≡ true → covers from b ≡ true
    child c over same = subst (λ d. covers from d ≡ true) (bucket-same c b same) over

    by_test : (t : Bool) → list_any (is_exactly b) (cond t (parts k (first_child from) to s ready ++ part s ready (second_child from) ∷ []) (part s ready (first_child from) ∷ parts k (second_child from) to s ready)) ≡ true
        → (list_any (is_exactly b) (parts k (first_child from) to s ready) ≡ true → covers from b ≡ true) → (list_any (is_exactly b) (parts k (second_child from) to s ready) ≡ true → covers from b ≡ true) → covers from b ≡ true
    by_test true h x y = elim (any-append (is_exactly b) (parts k (first_child from) to s ready) (part s ready (second_child from) ∷ []) h) [
      | inl one ↦ x one
      | inr two ↦ elim (or_true (same_bucket (second_child from) b) false two) [ inl same ↦ child (second_child from) (covers-second from ok) same | inr none ↦ cc ]
    ]
    by_test false h x y = elim (or_true (same_bucket (first_child from) b) (list_any (is_exactly b) (parts k (second_child from) to s ready)) h) [ inl same ↦ child (first_child from) (covers-first from ok) same | inr two ↦ y two ]

pub parts-apart : (s : ℕ) (ready : Bool) (k : ℕ) (from to : Low) → IsBucket from → from.bits + k ≤ 58 → IsApart (parts k from to s ready)
parts-apart s ready zero from to ok room = (refl, ok, tt)
parts-apart s ready (suc k) from to ok room =
    let okone = first-fits from ok (omega (arith, room)) in let oktwo = second-fits from ok (omega (arith, room)) in
    let apart = children-apart from ok (omega (arith, room)) in
    by_test (covers (first_child from) to) okone oktwo apart
    (parts-apart s ready k (first_child from) to okone (omega (arith, room)))
    (parts-apart s ready k (second_child from) to oktwo (omega (arith, room)))
    (parts-none s ready k (second_child from) to (first_child from) oktwo (omega (arith, room)) (apart-sym (first_child from) (second_child from) apart))
    (λ b h. parts-inside s ready k (first_child from) to b okone (omega (arith, room)) h)
  where
    by_test : (t : Bool) → IsBucket (first_child from) → IsBucket (second_child from) → meets (first_child from) (second_child from) ≡ false
        → IsApart (parts k (first_child from) to s ready) → IsApart (parts k (second_child from) to s ready)
        → list_any (does_meet (first_child from)) (parts k (second_child from) to s ready) ≡ false
        → ((b : Low) → list_any (is_exactly b) (parts k (first_child from) to s ready) ≡ true → covers (first_child from) b ≡ true)
        → IsApart (cond t (parts k (first_child from) to s ready ++ part s ready (second_child from) ∷ []) (part s ready (first_child from) ∷ parts k (second_child from) to s ready))
    by_test true okone oktwo apart x y none inside = IsApart-append (parts k (first_child from) to s ready) (part s ready (second_child from) ∷ []) x (refl, oktwo, tt) (first_child from) okone inside (ap (λ t. t || false) (apart-sym (first_child from) (second_child from) apart))
    by_test false okone oktwo apart x y none inside = (none, okone, y)
