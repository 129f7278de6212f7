-- A node has a piece over a key exactly where it holds the key.
use Rattle.std.proofs.Common.{◌≡◌, ℕ, zero, suc, ◌-◌, ◌^◌, ◌<◌, Bool, true, false, cond, List, [], ◌∷◌, Some, refl, sym, ap, ◌∙◌, subst, inl, inr}
use Rattle.lane_journals.specs.Buckets.{Bucket, contains, same_bucket, covers, first_child, second_child}
use Rattle.lane_journals.specs.Events.{Body, Apply, Delete, Split, Join, Ready}
use Rattle.lane_journals.specs.Readers.{Journal, Message, sent, has_piece, holds}
use Rattle.lane_journals.specs.Legal.{MayCarry, MaySend, Legal}
use Rattle.std.proofs.Common.{◌++◌}
use Rattle.lane_journals.specs.Pieces.{NodePiece, any_contains, any_covers, any_inside, is_piece, cut, split_to, drop_inside, unite, remove, mark, pieces_after, pieces, MayTake, IsPieceIn}
use Rattle.lane_journals.proofs.Basics.{sent-cases}
use Rattle.lane_journals.proofs.Rows.{running-row}
use Rattle.lane_journals.proofs.Serials.{effect}
use Rattle.lane_journals.proofs.BucketLaws.{same_bucket-true, child_of, first_in, second_in, children_apart, fits-of, one-covers, covers-contains, own-low}

not-true : (t : Bool) → (t ≡ true → ⊥) → t ≡ false
not-true true h = absurd (h refl)
not-true false h = refl

-- no two pieces have a common key
abbrev pub Apart : List NodePiece → Type 0
Apart [] = Unit {0}
Apart (p ∷ ps) = ((p.bucket).low < 2 ^ (p.bucket).bits) × ((key : ℕ) → contains p.bucket key ≡ true → any_contains key ps ≡ false) × Apart ps

-- ---- parts

half-any : (b : Bucket) (key : ℕ) → b.low < 2 ^ b.bits → cond (contains (second_child b) key) true (contains (first_child b) key) ≡ contains b key
half-any b key fits = by_case (contains b key) refl (contains (first_child b) key) (contains (second_child b) key) refl refl
  where
    by_case : (t : Bool) → contains b key ≡ t → (f s : Bool) → contains (first_child b) key ≡ f → contains (second_child b) key ≡ s → cond s true f ≡ t
    by_case true e f true g h = refl
    by_case true e true false g h = refl
    by_case true e false false g h = elim (child_of b key e) [ inl x ↦ (let z : true ≡ false = sym x ∙ g in absurd (let w : true ≡ false = z in cc)) | inr x ↦ (let z : true ≡ false = sym x ∙ h in absurd (let w : true ≡ false = z in cc)) ]
    by_case false e f true g h = let z = second_in b key fits h in cc
    by_case false e true false g h = let z = first_in b key fits g in cc
    by_case false e false false g h = refl

or-flip : (a b : Bool) → cond a true b ≡ cond b true a
or-flip true true = refl
or-flip true false = refl
or-flip false true = refl
or-flip false false = refl

flat : (t : Bool) → cond t true false ≡ t
flat true = refl
flat false = refl

cut-any : (k : ℕ) (b : Bucket) (p : NodePiece) → (p.bucket).low < 2 ^ (p.bucket).bits → (key : ℕ) → any_contains key (cut k b p) ≡ contains p.bucket key
cut-any zero b p fits key = flat (contains p.bucket key)
cut-any (suc k) b p fits key = let f = fits-of p.bucket fits in
    by_case (covers (first_child p.bucket) b)
    (cut-any k b (record { bucket = first_child p.bucket; ready = p.ready }) f.0 key) (cut-any k b (record { bucket = second_child p.bucket; ready = p.ready }) f.1 key)
  where
    one : NodePiece
    one = record { bucket = first_child p.bucket; ready = p.ready }

    by_case : (t : Bool) → any_contains key (cut k b (record { bucket = first_child p.bucket; ready = p.ready })) ≡ contains (first_child p.bucket) key → any_contains key (cut k b (record { bucket = second_child p.bucket; ready = p.ready })) ≡ contains (second_child p.bucket) key →
        any_contains key (cond t (record { bucket = second_child p.bucket; ready = p.ready } ∷ cut k b (record { bucket = first_child p.bucket; ready = p.ready })) (record { bucket = first_child p.bucket; ready = p.ready } ∷ cut k b (record { bucket = second_child p.bucket; ready = p.ready }))) ≡ contains p.bucket key
    by_case true x y = rw x (half-any p.bucket key fits)
    by_case false x y = rw y (or-flip (contains (first_child p.bucket) key) (contains (second_child p.bucket) key) ∙ half-any p.bucket key fits)

cut-apart : (k : ℕ) (b : Bucket) (p : NodePiece) → (p.bucket).low < 2 ^ (p.bucket).bits → Apart (cut k b p)
cut-apart zero b p fits = (fits, (λ key h. refl), tt)
cut-apart (suc k) b p fits = let f = fits-of p.bucket fits in
    by_case (covers (first_child p.bucket) b)
    (cut-apart k b (record { bucket = first_child p.bucket; ready = p.ready }) f.0) (cut-apart k b (record { bucket = second_child p.bucket; ready = p.ready }) f.1)
    (λ key h. cut-any k b (record { bucket = first_child p.bucket; ready = p.ready }) f.0 key ∙ not-true _ (λ z. children_apart p.bucket key z h))
    (λ key h. cut-any k b (record { bucket = second_child p.bucket; ready = p.ready }) f.1 key ∙ not-true _ (λ z. children_apart p.bucket key h z))
  where
    by_case : (t : Bool) → Apart (cut k b (record { bucket = first_child p.bucket; ready = p.ready })) → Apart (cut k b (record { bucket = second_child p.bucket; ready = p.ready })) →
        ((key : ℕ) → contains (second_child p.bucket) key ≡ true → any_contains key (cut k b (record { bucket = first_child p.bucket; ready = p.ready })) ≡ false) →
        ((key : ℕ) → contains (first_child p.bucket) key ≡ true → any_contains key (cut k b (record { bucket = second_child p.bucket; ready = p.ready })) ≡ false) →
        Apart (cond t (record { bucket = second_child p.bucket; ready = p.ready } ∷ cut k b (record { bucket = first_child p.bucket; ready = p.ready })) (record { bucket = first_child p.bucket; ready = p.ready } ∷ cut k b (record { bucket = second_child p.bucket; ready = p.ready })))
    by_case true x y f g = ((fits-of p.bucket fits).1, f, x)
    by_case false x y f g = ((fits-of p.bucket fits).0, g, y)

append-any : (key : ℕ) (xs ys : List NodePiece) → any_contains key (xs ++ ys) ≡ cond (any_contains key xs) true (any_contains key ys)
append-any key [] ys = refl
append-any key (x ∷ xs) ys = by_case (contains x.bucket key) (append-any key xs ys)
  where
    by_case : (t : Bool) → any_contains key (xs ++ ys) ≡ cond (any_contains key xs) true (any_contains key ys) → cond t true (any_contains key (xs ++ ys)) ≡ cond (cond t true (any_contains key xs)) true (any_contains key ys)
    by_case true ih = refl
    by_case false ih = ih

append-apart : (xs ys : List NodePiece) → Apart xs → Apart ys → ((key : ℕ) → any_contains key xs ≡ true → any_contains key ys ≡ false) → Apart (xs ++ ys)
append-apart [] ys p q f = q
append-apart (x ∷ xs) ys p q f = (
  p.0,
  (λ key h. append-any key xs ys ∙ both-false (any_contains key xs) (any_contains key ys) (p.1 key h) (f key (rw h refl))),
  append-apart xs ys p.2 q (λ key h. f key (or-true (contains x.bucket key) (any_contains key xs) h)),
)
  where
    both-false : (a b : Bool) → a ≡ false → b ≡ false → cond a true b ≡ false
    both-false a b h g = rw (h, g) refl

    or-true : (a b : Bool) → b ≡ true → cond a true b ≡ true
    or-true true b h = refl
    or-true false b h = h

split-any : (b : Bucket) (ps : List NodePiece) → Apart ps → (key : ℕ) → any_contains key (split_to b ps) ≡ any_contains key ps
split-any b [] p key = refl
split-any b (q ∷ ps) p key = by_case (covers q.bucket b) (split-any b ps p.2 key)
  where
    by_case : (t : Bool) → any_contains key (split_to b ps) ≡ any_contains key ps → any_contains key (cond t (cut (b.bits - (q.bucket).bits) b q ++ split_to b ps) (q ∷ split_to b ps)) ≡ any_contains key (q ∷ ps)
    by_case true ih = append-any key (cut (b.bits - (q.bucket).bits) b q) (split_to b ps) ∙ rw (cut-any (b.bits - (q.bucket).bits) b q p.0 key, ih) refl
    by_case false ih = rw ih refl

split-apart : (b : Bucket) (ps : List NodePiece) → Apart ps → Apart (split_to b ps)
split-apart b [] p = tt
split-apart b (q ∷ ps) p = by_case (covers q.bucket b) (split-apart b ps p.2)
  where
    by_case : (t : Bool) → Apart (split_to b ps) → Apart (cond t (cut (b.bits - (q.bucket).bits) b q ++ split_to b ps) (q ∷ split_to b ps))
    by_case true ih = append-apart (cut (b.bits - (q.bucket).bits) b q) (split_to b ps) (cut-apart (b.bits - (q.bucket).bits) b q p.0) ih
        (λ key h. split-any b ps p.2 key ∙ p.1 key (sym (cut-any (b.bits - (q.bucket).bits) b q p.0 key) ∙ h))
    by_case false ih = (p.0, (λ key h. split-any b ps p.2 key ∙ p.1 key h), ih)

-- ---- pieces that are united

left-false : (a b : Bool) → cond a true b ≡ false → (a ≡ false) × (b ≡ false)
left-false true b h = cc
left-false false b h = (refl, h)

drop-none : (b : Bucket) (key : ℕ) (ps : List NodePiece) → any_contains key ps ≡ false → any_contains key (drop_inside b ps) ≡ false
drop-none b key [] h = refl
drop-none b key (p ∷ ps) h = let n = left-false (contains p.bucket key) (any_contains key ps) h in by_case (covers b p.bucket) n.0 (drop-none b key ps n.1)
  where
    by_case : (t : Bool) → contains p.bucket key ≡ false → any_contains key (drop_inside b ps) ≡ false → any_contains key (cond t (drop_inside b ps) (p ∷ drop_inside b ps)) ≡ false
    by_case true o ih = ih
    by_case false o ih = rw o ih

drop-apart : (b : Bucket) (ps : List NodePiece) → Apart ps → Apart (drop_inside b ps)
drop-apart b [] p = tt
drop-apart b (q ∷ ps) p = by_case (covers b q.bucket) (drop-apart b ps p.2)
  where
    by_case : (t : Bool) → Apart (drop_inside b ps) → Apart (cond t (drop_inside b ps) (q ∷ drop_inside b ps))
    by_case true ih = ih
    by_case false ih = (p.0, (λ key h. drop-none b key ps (p.1 key h)), ih)

drop-other : (b : Bucket) (key : ℕ) → contains b key ≡ false → (ps : List NodePiece) → any_contains key (drop_inside b ps) ≡ any_contains key ps
drop-other b key out [] = refl
drop-other b key out (p ∷ ps) = by_case (covers b p.bucket) refl (drop-other b key out ps)
  where
    by_case : (t : Bool) → covers b p.bucket ≡ t → any_contains key (drop_inside b ps) ≡ any_contains key ps → any_contains key (cond t (drop_inside b ps) (p ∷ drop_inside b ps)) ≡ any_contains key (p ∷ ps)
    by_case true c ih = let z : contains p.bucket key ≡ false = not-true _ (λ h. let y = covers-contains b p.bucket key c h in cc) in rw z ih
    by_case false c ih = rw ih refl

-- each piece with a key of the bucket lies inside
abbrev Free : Bucket → List NodePiece → Type 0
Free b [] = Unit {0}
Free b (p ∷ ps) = ((key : ℕ) → contains p.bucket key ≡ true → contains b key ≡ true → covers b p.bucket ≡ true) × Free b ps

free-gone : (b : Bucket) (key : ℕ) → contains b key ≡ true → (ps : List NodePiece) → Free b ps → any_contains key (drop_inside b ps) ≡ false
free-gone b key i [] f = refl
free-gone b key i (p ∷ ps) f = by_case (covers b p.bucket) refl (free-gone b key i ps f.1)
  where
    by_case : (t : Bool) → covers b p.bucket ≡ t → any_contains key (drop_inside b ps) ≡ false → any_contains key (cond t (drop_inside b ps) (p ∷ drop_inside b ps)) ≡ false
    by_case true c ih = ih
    by_case false c ih = let z : contains p.bucket key ≡ false = not-true _ (λ h. let y = f.0 key h i in cc) in rw z ih

uncovered-free : (b : Bucket) (ps : List NodePiece) → any_covers b ps ≡ false → Free b ps
uncovered-free b [] h = tt
uncovered-free b (p ∷ ps) h = let n = left-false (covers p.bucket b) (any_covers b ps) h in ((λ key x y. elim (one-covers b p.bucket key y x) [ inl c ↦ c | inr c ↦ (let z : true ≡ false = sym c ∙ n.0 in absurd (let w : true ≡ false = z in cc)) ]), uncovered-free b ps n.1)

piece-any : (key : ℕ) (ps : List NodePiece) (p : NodePiece) → IsPieceIn p ps → contains p.bucket key ≡ true → any_contains key ps ≡ true
piece-any key [] p h i = absurd h
piece-any key (q ∷ ps) p (inl is) i = let z : contains q.bucket key ≡ true = subst (λ (x : NodePiece). contains x.bucket key ≡ true) (sym is) i in rw z refl
piece-any key (q ∷ ps) p (inr h) i = by_case (contains q.bucket key) (piece-any key ps p h i)
  where
    by_case : (t : Bool) → any_contains key ps ≡ true → cond t true (any_contains key ps) ≡ true
    by_case true x = refl
    by_case false x = x

one-piece : (ps : List NodePiece) → Apart ps → (p q : NodePiece) → IsPieceIn p ps → IsPieceIn q ps → (key : ℕ) → contains p.bucket key ≡ true → contains q.bucket key ≡ true → p ≡ q
one-piece [] a p q h g key i j = absurd h
one-piece (r ∷ ps) a p q (inl x) (inl y) key i j = sym x ∙ y
one-piece (r ∷ ps) a p q (inl x) (inr y) key i j = let z = a.1 key (subst (λ (w : NodePiece). contains w.bucket key ≡ true) (sym x) i) in let w = piece-any key ps q y j in cc
one-piece (r ∷ ps) a p q (inr x) (inl y) key i j = let z = a.1 key (subst (λ (w : NodePiece). contains w.bucket key ≡ true) (sym y) j) in let w = piece-any key ps p x i in cc
one-piece (r ∷ ps) a p q (inr x) (inr y) key i j = one-piece ps a.2 p q x y key i j

find-inside : (b : Bucket) (ps : List NodePiece) → any_inside b ps ≡ true → (q : NodePiece) × IsPieceIn q ps × (covers b q.bucket ≡ true)
find-inside b [] h = cc
find-inside b (p ∷ ps) h = by_case (covers b p.bucket) refl h (find-inside b ps)
  where
    by_case : (t : Bool) → covers b p.bucket ≡ t → cond t true (any_inside b ps) ≡ true → (any_inside b ps ≡ true → (q : NodePiece) × IsPieceIn q ps × (covers b q.bucket ≡ true)) → (q : NodePiece) × IsPieceIn q (p ∷ ps) × (covers b q.bucket ≡ true)
    by_case true e h ih = (p, inl refl, e)
    by_case false e h ih = let x = ih h in (x.0, inr x.1, x.2)

fits-in : (ps : List NodePiece) → Apart ps → (p : NodePiece) → IsPieceIn p ps → (p.bucket).low < 2 ^ (p.bucket).bits
fits-in [] a p h = absurd h
fits-in (q ∷ ps) a p (inl is) = subst (λ (x : NodePiece). (x.bucket).low < 2 ^ (x.bucket).bits) is a.0
fits-in (q ∷ ps) a p (inr h) = fits-in ps a.2 p h

free-by : (b : Bucket) (ps : List NodePiece) → ((p : NodePiece) → IsPieceIn p ps → (key : ℕ) → contains p.bucket key ≡ true → contains b key ≡ true → covers b p.bucket ≡ true) → Free b ps
free-by b [] f = tt
free-by b (p ∷ ps) f = (f p (inl refl), free-by b ps (λ q h. f q (inr h)))

inside-free : (b : Bucket) (ps : List NodePiece) → Apart ps → any_inside b ps ≡ true → Free b ps
inside-free b ps a h = let q = find-inside b ps h in free-by b ps (λ p x key i j. elim (one-covers b p.bucket key j i) [
  | inl c ↦ c
  | inr c ↦ (let own = own-low (q.0).bucket (fits-in ps a q.0 q.1) in
      let in_b = covers-contains b (q.0).bucket ((q.0).bucket).low q.2 own in
      let in_p = covers-contains p.bucket b ((q.0).bucket).low c in_b in
      let same = one-piece ps a q.0 p q.1 x ((q.0).bucket).low own in_p in
      subst (λ (y : NodePiece). covers b y.bucket ≡ true) same q.2)
])

unite-apart : (b : Bucket) → b.low < 2 ^ b.bits → (ps : List NodePiece) → Apart ps → Free b ps → Apart (unite b ps)
unite-apart b fits ps a f = (fits, (λ key h. free-gone b key h ps f), drop-apart b ps a)

-- ---- pieces that are removed

remove-none : (b : Bucket) (key : ℕ) (ps : List NodePiece) → any_contains key ps ≡ false → any_contains key (remove b ps) ≡ false
remove-none b key [] h = refl
remove-none b key (p ∷ ps) h = let n = left-false (contains p.bucket key) (any_contains key ps) h in by_case (same_bucket p.bucket b) n.0 (remove-none b key ps n.1)
  where
    by_case : (t : Bool) → contains p.bucket key ≡ false → any_contains key (remove b ps) ≡ false → any_contains key (cond t (remove b ps) (p ∷ remove b ps)) ≡ false
    by_case true o ih = ih
    by_case false o ih = rw o ih

remove-apart : (b : Bucket) (ps : List NodePiece) → Apart ps → Apart (remove b ps)
remove-apart b [] p = tt
remove-apart b (q ∷ ps) p = by_case (same_bucket q.bucket b) (remove-apart b ps p.2)
  where
    by_case : (t : Bool) → Apart (remove b ps) → Apart (cond t (remove b ps) (q ∷ remove b ps))
    by_case true ih = ih
    by_case false ih = (p.0, (λ key h. remove-none b key ps (p.1 key h)), ih)

remove-other : (b : Bucket) (key : ℕ) → contains b key ≡ false → (ps : List NodePiece) → any_contains key (remove b ps) ≡ any_contains key ps
remove-other b key out [] = refl
remove-other b key out (p ∷ ps) = by_case (same_bucket p.bucket b) refl (remove-other b key out ps)
  where
    by_case : (t : Bool) → same_bucket p.bucket b ≡ t → any_contains key (remove b ps) ≡ any_contains key ps → any_contains key (cond t (remove b ps) (p ∷ remove b ps)) ≡ any_contains key (p ∷ ps)
    by_case true e ih = let z : contains p.bucket key ≡ false = rw (same_bucket-true p.bucket b e) out in rw z ih
    by_case false e ih = rw ih refl

is-piece-any : (b : Bucket) (key : ℕ) → contains b key ≡ true → (ps : List NodePiece) → is_piece b ps ≡ true → any_contains key ps ≡ true
is-piece-any b key i [] h = cc
is-piece-any b key i (p ∷ ps) h = by_case (same_bucket p.bucket b) refl h (is-piece-any b key i ps)
  where
    by_case : (t : Bool) → same_bucket p.bucket b ≡ t → cond t true (is_piece b ps) ≡ true → (is_piece b ps ≡ true → any_contains key ps ≡ true) → cond (contains p.bucket key) true (any_contains key ps) ≡ true
    by_case true e h ih = let z : contains p.bucket key ≡ true = rw (same_bucket-true p.bucket b e) i in rw z refl
    by_case false e h ih = rw (ih h) (or-flip (contains p.bucket key) true)

remove-gone : (b : Bucket) (key : ℕ) → contains b key ≡ true → (ps : List NodePiece) → Apart ps → is_piece b ps ≡ true → any_contains key (remove b ps) ≡ false
remove-gone b key i [] a h = cc
remove-gone b key i (p ∷ ps) a h = by_case (same_bucket p.bucket b) refl h (remove-gone b key i ps a.2)
  where
    by_case : (t : Bool) → same_bucket p.bucket b ≡ t → cond t true (is_piece b ps) ≡ true → (is_piece b ps ≡ true → any_contains key (remove b ps) ≡ false) → any_contains key (cond t (remove b ps) (p ∷ remove b ps)) ≡ false
    by_case true e h ih = let z : contains p.bucket key ≡ true = rw (same_bucket-true p.bucket b e) i in remove-none b key ps (a.1 key z)
    by_case false e h ih = let y = is-piece-any b key i ps h in let z : contains p.bucket key ≡ false = not-true _ (λ x. let w = a.1 key x in cc) in rw z (ih h)

mark-any : (b : Bucket) (key : ℕ) (ps : List NodePiece) → any_contains key (mark b ps) ≡ any_contains key ps
mark-any b key [] = refl
mark-any b key (p ∷ ps) = by_case (same_bucket p.bucket b) (mark-any b key ps)
  where
    by_case : (t : Bool) → any_contains key (mark b ps) ≡ any_contains key ps → any_contains key (cond t (record { bucket = p.bucket; ready = true }) p ∷ mark b ps) ≡ any_contains key (p ∷ ps)
    by_case true ih = rw ih refl
    by_case false ih = rw ih refl

mark-apart : (b : Bucket) (ps : List NodePiece) → Apart ps → Apart (mark b ps)
mark-apart b [] p = tt
mark-apart b (q ∷ ps) p = by_case (same_bucket q.bucket b) (mark-apart b ps p.2)
  where
    by_case : (t : Bool) → Apart (mark b ps) → Apart (cond t (record { bucket = q.bucket; ready = true }) q ∷ mark b ps)
    by_case true ih = (p.0, (λ key h. mark-any b key ps ∙ p.1 key h), ih)
    by_case false ih = (p.0, (λ key h. mark-any b key ps ∙ p.1 key h), ih)

-- ---- an accepted message

-- the bucket that a message may make a piece of
abbrev pub Fits : Body → Type 0
Fits (Apply b u) = b.low < 2 ^ b.bits
Fits (Join b) = b.low < 2 ^ b.bits
Fits _ = Unit {0}

pub after-apart : (x : Body) (ps : List NodePiece) → Fits x → MayTake ps x → Apart ps → Apart (pieces_after x ps)
after-apart (Apply b u) ps fits t a = by_case (any_covers b ps) refl
  where
    by_case : (x : Bool) → any_covers b ps ≡ x → Apart (cond x (split_to b ps) (unite b ps))
    by_case true e = split-apart b ps a
    by_case false e = unite-apart b fits ps a (uncovered-free b ps e)
after-apart (Delete b s) ps fits t a = remove-apart b ps a
after-apart (Split b) ps fits t a = split-apart b ps a
after-apart (Join b) ps fits t a = unite-apart b fits ps a (inside-free b ps a t)
after-apart (Ready b) ps fits t a = mark-apart b ps a
after-apart _ ps fits t a = a

covers-any : (b : Bucket) (key : ℕ) → contains b key ≡ true → (ps : List NodePiece) → any_covers b ps ≡ true → any_contains key ps ≡ true
covers-any b key i [] h = cc
covers-any b key i (p ∷ ps) h = by_case (covers p.bucket b) refl h (covers-any b key i ps)
  where
    by_case : (t : Bool) → covers p.bucket b ≡ t → cond t true (any_covers b ps) ≡ true → (any_covers b ps ≡ true → any_contains key ps ≡ true) → cond (contains p.bucket key) true (any_contains key ps) ≡ true
    by_case true e h ih = rw (covers-contains p.bucket b key e i) refl
    by_case false e h ih = rw (ih h) (or-flip (contains p.bucket key) true)

unite-other : (b : Bucket) (key : ℕ) → contains b key ≡ false → (ps : List NodePiece) → any_contains key (unite b ps) ≡ any_contains key ps
unite-other b key out ps = rw out (drop-other b key out ps)

pub after-any : (x : Body) (ps : List NodePiece) → MayTake ps x → Apart ps → (key : ℕ) (had : Bool) → had ≡ any_contains key ps → has_piece key x had ≡ any_contains key (pieces_after x ps)
after-any (Apply b u) ps t a key had h = by_case (any_covers b ps) (contains b key) refl refl
  where
    by_case : (x y : Bool) → any_covers b ps ≡ x → contains b key ≡ y → cond y true had ≡ any_contains key (cond x (split_to b ps) (unite b ps))
    by_case true true e i = sym (split-any b ps a key ∙ covers-any b key i ps e)
    by_case true false e i = h ∙ sym (split-any b ps a key)
    by_case false true e i = rw i refl
    by_case false false e i = h ∙ sym (unite-other b key i ps)
after-any (Delete b s) ps t a key had h = by_case (contains b key) refl
  where
    by_case : (y : Bool) → contains b key ≡ y → cond y false had ≡ any_contains key (remove b ps)
    by_case true i = sym (remove-gone b key i ps a t)
    by_case false i = h ∙ sym (remove-other b key i ps)
after-any (Split b) ps t a key had h = h ∙ sym (split-any b ps a key)
after-any (Join b) ps t a key had h = by_case (contains b key) refl
  where
    by_case : (y : Bool) → contains b key ≡ y → cond y true had ≡ any_contains key (unite b ps)
    by_case true i = rw i refl
    by_case false i = h ∙ sym (unite-other b key i ps)
after-any (Ready b) ps t a key had h = h ∙ sym (mark-any b key ps)
after-any _ ps t a key had h = h

-- ---- journals

module _ (acks : ℕ) (P : ℕ → ℕ → Bool) where
  sent-fits : (J : Journal) → Legal acks P J → (k : ℕ) (m : Message) → sent k J ≡ Some m → Fits m.body
  sent-fits [] l k m h = cc
  sent-fits (e ∷ J) l k m h = elim (sent-cases k J e m h) [
    | inl old ↦ sent-fits J l.0 k m old
    | inr new ↦ (let p : MaySend P J k m.version new.sender m.receiver m.body = rw new.is at l.1 in fits m.body p.carries)
  ]
    where
      fits : (b : Body) → MayCarry P J m.version m.receiver b → Fits b
      fits (Apply b u) c = (running-row acks P J l.0 m.version b c.under_way).fits
      fits (Join b) c = c
      fits _ c = tt

  -- a node's pieces have no common keys, and are over the keys that it holds
  pub record Shaped (n : ℕ) (J : Journal) : Type 0 where
    pub apart : Apart (pieces n J)
    pub over : (key : ℕ) → holds n key J ≡ any_contains key (pieces n J)

  pub shaped : (J : Journal) → Legal acks P J → (n : ℕ) → Shaped n J
  shaped [] l n = record { apart = tt; over = λ key. refl }
  shaped (e ∷ J) l n = let i = shaped J l.0 n in elim (effect J e acks P l.1 n) [
    | inl leaves ↦ record { apart = subst Apart (sym leaves.shapes) i.apart; over = λ key. leaves.pieces key ∙ i.over key ∙ ap (λ (ps : List NodePiece). any_contains key ps) (sym leaves.shapes) }
    | inr a ↦ record {
      apart = subst Apart (sym a.shapes) (after-apart (a.message).body (pieces n J) (sent-fits J l.0 a.number a.message a.was_sent) a.takes i.apart);
      over = λ key. a.pieces key ∙ after-any (a.message).body (pieces n J) a.takes i.apart key (holds n key J) (i.over key) ∙ ap (λ (ps : List NodePiece). any_contains key ps) (sym a.shapes);
    }
  ]
