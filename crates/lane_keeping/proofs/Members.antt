-- The pieces of a node and those of a journal are the same, one by one.
use Rattle.std.proofs.Common.{◌≡◌, ◌&&◌, ◌||◌, inl, inr, not, ℕ, ◌+◌, Bool, true, false, cond, List, [], ◌∷◌, map, filter, refl, sym, ap, ap₂, ◌∙◌, subst, arith, Some}
use mathlib.Core.Bool.{true≢false}
use Rattle.std.specs.List.{list_any, find, Contains}
use Rattle.bucket_ids.specs.Buckets as ids
use Rattle.bucket_ids.specs.Buckets.{IsBucket}
use Rattle.bucket_ids.specs.Paths.{last_path}
use Rattle.pieces.specs.declared.piece.Piece.{Piece}
use Rattle.pieces.specs.Pieces as laid
use Rattle.pieces.specs.Pieces.{is_over, does_meet}
use Rattle.pieces.specs.Runs.{IsLaid, AreRuns}
use Rattle.pieces.specs.Told.{Told, Accepted, NoBucket, Differs, by_mark}
use Rattle.proof_basics.proofs.Tests.{or_false, both}
use Rattle.pieces.proofs.PieceLaws.{bucket-same, same-refl, meets-refl}
use Rattle.pieces.proofs.Laid.{none_past}
use Rattle.lane_journals.specs.Buckets.{Bucket, covers}
use Rattle.lane_journals.specs.Pieces.{NodePiece, IsPieceIn, any_covers, ready_covers}
use Rattle.lane_journals.specs.Naming.{ShowsPieces}
use Rattle.lane_keeping.specs.NodeKeeping.{shape, HaveShapes}
use Rattle.lane_keeping.proofs.Lists.{In, in-contains, contains-in, in-map, map-in, in-any, any-in}
use Rattle.lane_keeping.proofs.Shapes.{behind_over}

-- ---- one piece

abbrev same_mark : Bool → Bool → Bool
same_mark true b = b
same_mark false b = not b

mark-refl : (a : Bool) → same_mark a a ≡ true
mark-refl true = refl
mark-refl false = refl

mark-is : (a b : Bool) → same_mark a b ≡ true → a ≡ b
mark-is true true e = refl
mark-is true false e = absurd (true≢false (sym e))
mark-is false true e = absurd (true≢false (sym e))
mark-is false false e = refl

abbrev same_shape : NodePiece → NodePiece → Bool
same_shape a b = laid.same_bucket a.bucket b.bucket && same_mark a.ready b.ready

shape-refl : (a : NodePiece) → same_shape a a ≡ true
shape-refl a = ap₂ (λ x y. x && y) (same-refl a.bucket) (mark-refl a.ready)

shape-is : (a b : NodePiece) → same_shape a b ≡ true → a ≡ b
shape-is a b e = let h = both _ _ e in make (bucket-same a.bucket b.bucket h.0) (mark-is a.ready b.ready h.1)
  where
    make : a.bucket ≡ b.bucket → a.ready ≡ b.ready → a ≡ b
    make p q = λ i. record { bucket = p i; ready = q i }

in-piece : (q : NodePiece) (qs : List NodePiece) → In q qs → IsPieceIn q qs
in-piece q [] h = h
in-piece q (p ∷ qs) (inl e) = inl e
in-piece q (p ∷ qs) (inr h) = inr (in-piece q qs h)

piece-in : (q : NodePiece) (qs : List NodePiece) → IsPieceIn q qs → In q qs
piece-in q [] h = h
piece-in q (p ∷ qs) (inl e) = inl e
piece-in q (p ∷ qs) (inr h) = inr (piece-in q qs h)

filter-in : (test : Piece → Bool) (ps : List Piece) (p : Piece) → In p ps → test p ≡ true → In p (filter test ps)
filter-in test [] p h e = h
filter-in test (q ∷ ps) p (inl is) e = here (test q) (ap test is ∙ e)
  where
    here : (t : Bool) → t ≡ true → In p (cond t (q ∷ filter test ps) (filter test ps))
    here true f = inl is
    here false f = absurd (true≢false (sym f))
filter-in test (q ∷ ps) p (inr h) e = later (test q) (filter-in test ps p h e)
  where
    later : (t : Bool) → In p (filter test ps) → In p (cond t (q ∷ filter test ps) (filter test ps))
    later true i = inr i
    later false i = i

in-filter : (test : Piece → Bool) (ps : List Piece) (p : Piece) → In p (filter test ps) → In p ps × (test p ≡ true)
in-filter test [] p h = absurd h
in-filter test (q ∷ ps) p h = by_test (test q) refl h (in-filter test ps p)
  where
    by_test : (t : Bool) → test q ≡ t → In p (cond t (q ∷ filter test ps) (filter test ps)) → (In p (filter test ps) → In p ps × (test p ≡ true)) → In p (q ∷ ps) × (test p ≡ true)
    by_test true e (inl is) ih = (inl is, ap test (sym is) ∙ e)
    by_test true e (inr i) ih = let r = ih i in (inr r.0, r.1)
    by_test false e i ih = let r = ih i in (inr r.0, r.1)

module _ (ps : List Piece) (qs : List NodePiece) (h : HaveShapes ps qs) where
  in-shapes : (p : Piece) → In p ps → IsPieceIn (shape p) qs
  in-shapes p i =
      let found = any-in (same_shape (shape p)) qs (sym (h (same_shape (shape p))) ∙ in-any (same_shape (shape p)) (map shape ps) (shape p) (map-in shape ps p i) (shape-refl (shape p))) in
      subst (λ (q : NodePiece). IsPieceIn q qs) (sym (shape-is (shape p) found.0 found.2)) (in-piece found.0 qs found.1)

  shapes-in : (q : NodePiece) → IsPieceIn q qs → (p : Piece) × In p ps × (shape p ≡ q)
  shapes-in q i =
      let found = any-in (same_shape q) (map shape ps) (h (same_shape q) ∙ in-any (same_shape q) qs q (piece-in q qs i) (shape-refl q)) in
      let from = in-map shape ps found.0 found.1 in
      (from.0, from.1, from.2 ∙ sym (shape-is q found.0 found.2))

-- ---- no bucket is a piece twice

module _ (laws : AreRuns) where
  meets_none : (b : Bucket) → IsBucket b → (ps : List Piece) → list_any (does_meet b) ps ≡ false → (q : Piece) → In q ps → q.bucket ≡ b → ⊥
  meets_none b v ps none q i e = true≢false (sym (in-any (does_meet b) ps q i (ap (λ x. laid.meets x b) e ∙ meets-refl b v)) ∙ none)

  pub once-in : (lo : ℕ) (ps : List Piece) → IsLaid lo ps → (p q : Piece) → In p ps → In q ps → p.bucket ≡ q.bucket → p ≡ q
  once-in lo [] laid p q i j e = absurd i
  once-in lo (r ∷ ps) laid p q (inl x) (inl y) e = sym x ∙ y
  once-in lo (r ∷ ps) laid p q (inl x) (inr y) e = absurd (meets_none r.bucket laid.1 ps (none_past laws r.bucket laid.1 (last_path r.bucket + 1) (omega arith) ps laid.2) q y (sym e ∙ ap (λ (z : Piece). z.bucket) (sym x)))
  once-in lo (r ∷ ps) laid p q (inr x) (inl y) e = absurd (meets_none r.bucket laid.1 ps (none_past laws r.bucket laid.1 (last_path r.bucket + 1) (omega arith) ps laid.2) p x (e ∙ ap (λ (z : Piece). z.bucket) (sym y)))
  once-in lo (r ∷ ps) laid p q (inr x) (inr y) e = once-in (last_path r.bucket + 1) ps laid.2 p q x y e

  pub shows-all : (ps : List Piece) (qs : List NodePiece) → HaveShapes ps qs → IsLaid 0 ps → (asked : Bucket → Bool) (test : Piece → Bool) → ((p : Piece) → asked p.bucket ≡ test p) → ShowsPieces (filter test ps) qs asked
  shows-all ps qs h laid asked test same = record {
    each = λ p c. let i = in-filter test ps p (in-contains (filter test ps) p c) in (same p ∙ i.1, in-shapes ps qs h p i.0);
    all = λ q i a. let r = shapes-in ps qs h q i in (
      r.0.serial,
      subst (λ (x : NodePiece). Contains (filter test ps) (record { bucket = x.bucket; serial = r.0.serial; ready = x.ready })) r.2
          (contains-in (filter test ps) r.0 (filter-in test ps r.0 r.1 (sym (same r.0) ∙ ap (λ (x : NodePiece). asked x.bucket) r.2 ∙ a))),
    );
    once = λ p q c d e. once-in 0 ps laid p q (in-filter test ps p (in-contains (filter test ps) p c)).0 (in-filter test ps q (in-contains (filter test ps) q d)).0 e;
  }

filter-all : (ps : List Piece) → filter (λ p. true) ps ≡ ps
filter-all [] = refl
filter-all (p ∷ ps) = ap (λ xs. p ∷ xs) (filter-all ps)

pub shows-whole : AreRuns → (ps : List Piece) (qs : List NodePiece) → HaveShapes ps qs → IsLaid 0 ps → ShowsPieces ps qs (λ b. true)
shows-whole laws ps qs h laid = subst (λ xs. ShowsPieces xs qs (λ b. true)) (filter-all ps) (shows-all laws ps qs h laid (λ b. true) (λ p. true) (λ p. refl))

-- ---- the piece that covers a bucket, and its mark

-- the mark is another one
abbrev pub is_wrong : Bool → Bool → Bool
is_wrong true x = not x
is_wrong false x = x

abbrev pub mark_told : Bool → Told
mark_told true = Accepted
mark_told false = Differs

pub ready_covers-by : (b : Bucket) (r : Bool) (qs : List NodePiece) → any_covers b qs ≡ true → list_any (λ q. covers q.bucket b && is_wrong r q.ready) qs ≡ false → ready_covers b qs ≡ r
ready_covers-by b r [] h none = absurd (true≢false (sym h))
ready_covers-by b r (q ∷ qs) h none = let apart = or_false (covers q.bucket b && is_wrong r q.ready) _ none in by_test (covers q.bucket b) h apart.0 (λ g. ready_covers-by b r qs g apart.1)
  where
    right : (r x : Bool) → is_wrong r x ≡ false → x ≡ r
    right true true e = refl
    right true false e = absurd (true≢false e)
    right false true e = absurd (true≢false e)
    right false false e = refl

    by_test : (t : Bool) → cond t true (any_covers b qs) ≡ true → (t && is_wrong r q.ready) ≡ false → (any_covers b qs ≡ true → ready_covers b qs ≡ r) → cond t q.ready (ready_covers b qs) ≡ r
    by_test true h e ih = right r q.ready e
    by_test false h e ih = ih h

marked : (r x : Bool) → cond x Accepted Differs ≡ mark_told r → is_wrong r x ≡ false
marked true true e = refl
marked true false e = cc
marked false true e = cc
marked false false e = refl

unmarked : (r : Bool) → NoBucket ≡ mark_told r → ⊥
unmarked true e = cc
unmarked false e = cc

abbrev wrong_over : Bucket → Bool → Piece → Bool
wrong_over b r q = ids.covers q.bucket b && is_wrong r q.ready

none_wrong : (b : Bucket) (r : Bool) (ps : List Piece) → list_any (is_over b) ps ≡ false → list_any (wrong_over b r) ps ≡ false
none_wrong b r [] h = refl
none_wrong b r (p ∷ ps) h = let apart = or_false (ids.covers p.bucket b) _ h in ap₂ (λ x y. x || y) (ap (λ t. t && is_wrong r p.ready) apart.0) (none_wrong b r ps apart.1)

pub mark-over : AreRuns → (b : Bucket) (r : Bool) (lo : ℕ) (ps : List Piece) → IsLaid lo ps → by_mark (find (is_over b) ps) ≡ mark_told r → (list_any (is_over b) ps ≡ true) × (list_any (wrong_over b r) ps ≡ false)
mark-over laws b r lo [] laid e = absurd (unmarked r e)
mark-over laws b r lo (p ∷ ps) laid e = by_test (ids.covers p.bucket b) refl e (mark-over laws b r (last_path p.bucket + 1) ps laid.2)
  where
    by_test : (t : Bool) → ids.covers p.bucket b ≡ t → by_mark (cond t (Some p) (find (is_over b) ps)) ≡ mark_told r
        → (by_mark (find (is_over b) ps) ≡ mark_told r → (list_any (is_over b) ps ≡ true) × (list_any (wrong_over b r) ps ≡ false))
        → ((t || list_any (is_over b) ps) ≡ true) × (((t && is_wrong r p.ready) || list_any (wrong_over b r) ps) ≡ false)
    by_test true f e ih = (refl, ap₂ (λ x y. x || y) (marked r p.ready e) (none_wrong b r ps (behind_over laws b p ps laid.1 laid.2 f)))
    by_test false f e ih = ih e

pub unmarked-over : (b : Bucket) (ps : List Piece) → by_mark (find (is_over b) ps) ≡ NoBucket → list_any (is_over b) ps ≡ false
unmarked-over b [] e = refl
unmarked-over b (p ∷ ps) e = by_test (ids.covers p.bucket b) p.ready e (unmarked-over b ps)
  where
    some : (x : Bool) → cond x Accepted Differs ≡ NoBucket → ⊥
    some true e = cc
    some false e = cc

    by_test : (t x : Bool) → by_mark (cond t (Some (record { bucket = p.bucket; serial = p.serial; ready = x })) (find (is_over b) ps)) ≡ NoBucket
        → (by_mark (find (is_over b) ps) ≡ NoBucket → list_any (is_over b) ps ≡ false) → (t || list_any (is_over b) ps) ≡ false
    by_test true x e ih = absurd (some x e)
    by_test false x e ih = ih e
