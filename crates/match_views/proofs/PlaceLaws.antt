-- Places of documents that pass tests, joined and cut.
use Rattle.std.proofs.Common.{◌≡◌, ℕ, suc, ◌<◌, ◌&&◌, ◌||◌, Bool, true, false, cond, not, nat_lt, List, [], ◌∷◌, None, Some, refl, ap, ap₂, ◌∙◌, arith}
use Rattle.std.proofs.lemmas.Bool.Decides.{nat_tests}
use Rattle.std.specs.List.{AllByRecursion}
use Rattle.documents.specs.Fields.{Contents}
use Rattle.document_rows.specs.Rows.{Rows}
use Rattle.document_rows.specs.Reading.{places_from}
use Rattle.match_views.specs.Merging.{joined, cut, lacking}

-- each number is above x
abbrev AreAbove : ℕ → List ℕ → Type 0
AreAbove x xs = AllByRecursion (λ y. x < y) xs

-- ---- a number below the other list, or at the head of both

joined-low : (x : ℕ) (xs ys : List ℕ) → AreAbove x ys → joined (x ∷ xs) ys ≡ x ∷ joined xs ys
unfolding joined
joined-low x [] [] h = refl
joined-low x (z ∷ xs) [] h = refl
joined-low x xs (y ∷ ys) h = let lt : nat_lt x y ≡ true = (let k = h.0 in grind (arith, nat_tests)) in rw lt refl

joined-high : (x : ℕ) (xs ys : List ℕ) → AreAbove x xs → joined xs (x ∷ ys) ≡ x ∷ joined xs ys
unfolding joined
joined-high x [] ys h = refl
joined-high x (z ∷ xs) ys h =
    let no_lt : nat_lt z x ≡ false = (let k = h.0 in grind (arith, nat_tests)) in
    let lt : nat_lt x z ≡ true = (let k = h.0 in grind (arith, nat_tests)) in
    rw (no_lt, lt) refl

joined-same : (x : ℕ) (xs ys : List ℕ) → joined (x ∷ xs) (x ∷ ys) ≡ x ∷ joined xs ys
unfolding joined
joined-same x xs ys = let no_lt : nat_lt x x ≡ false = grind (arith, nat_tests) in rw no_lt refl

cut-low : (x : ℕ) (xs ys : List ℕ) → AreAbove x ys → cut (x ∷ xs) ys ≡ cut xs ys
unfolding cut
cut-low x [] [] h = refl
cut-low x (z ∷ xs) [] h = refl
cut-low x xs (y ∷ ys) h = let lt : nat_lt x y ≡ true = (let k = h.0 in grind (arith, nat_tests)) in rw lt refl

cut-high : (x : ℕ) (xs ys : List ℕ) → AreAbove x xs → cut xs (x ∷ ys) ≡ cut xs ys
unfolding cut
cut-high x [] ys h = refl
cut-high x (z ∷ xs) ys h =
    let no_lt : nat_lt z x ≡ false = (let k = h.0 in grind (arith, nat_tests)) in
    let lt : nat_lt x z ≡ true = (let k = h.0 in grind (arith, nat_tests)) in
    rw (no_lt, lt) refl

cut-same : (x : ℕ) (xs ys : List ℕ) → cut (x ∷ xs) (x ∷ ys) ≡ x ∷ cut xs ys
unfolding cut
cut-same x xs ys = let no_lt : nat_lt x x ≡ false = grind (arith, nat_tests) in rw no_lt refl

lacking-low : (x : ℕ) (xs ys : List ℕ) → AreAbove x ys → lacking (x ∷ xs) ys ≡ x ∷ lacking xs ys
unfolding lacking
lacking-low x [] [] h = refl
lacking-low x (z ∷ xs) [] h = refl
lacking-low x xs (y ∷ ys) h = let lt : nat_lt x y ≡ true = (let k = h.0 in grind (arith, nat_tests)) in rw lt refl

lacking-high : (x : ℕ) (xs ys : List ℕ) → AreAbove x xs → lacking xs (x ∷ ys) ≡ lacking xs ys
unfolding lacking
lacking-high x [] ys h = refl
lacking-high x (z ∷ xs) ys h =
    let no_lt : nat_lt z x ≡ false = (let k = h.0 in grind (arith, nat_tests)) in
    let lt : nat_lt x z ≡ true = (let k = h.0 in grind (arith, nat_tests)) in
    rw (no_lt, lt) refl

lacking-same : (x : ℕ) (xs ys : List ℕ) → lacking (x ∷ xs) (x ∷ ys) ≡ lacking xs ys
unfolding lacking
lacking-same x xs ys = let no_lt : nat_lt x x ≡ false = grind (arith, nat_tests) in rw no_lt refl

-- ---- places

above_more : (m n : ℕ) (ys : List ℕ) (t : Bool) → m < n → AreAbove m ys → AreAbove m (cond t (n ∷ ys) ys)
above_more m n ys true h r = (h, r)
above_more m n ys false h r = r

pub above : (p : Contents → Bool) (m n : ℕ) (rows : Rows) → m < n → AreAbove m (places_from p n rows)
above p m n [] h = tt
above p m n (None ∷ rows) h = above p m (suc n) rows (omega (arith, h))
above p m n (Some d ∷ rows) h = above_more m n (places_from p (suc n) rows) (p d) h (above p m (suc n) rows (omega (arith, h)))

pub joined-places : (p q : Contents → Bool) (n : ℕ) (rows : Rows) → joined (places_from p n rows) (places_from q n rows) ≡ places_from (λ d. p d || q d) n rows
unfolding joined
joined-places p q n [] = refl
joined-places p q n (None ∷ rows) = joined-places p q (suc n) rows
joined-places p q n (Some d ∷ rows) = by_tests (p d) (q d) (joined-places p q (suc n) rows)
  where
    rest : (Contents → Bool) → List ℕ
    rest r = places_from r (suc n) rows

    high : (r : Contents → Bool) → AreAbove n (rest r)
    high r = above r n (suc n) rows (omega arith)

    by_tests : (s t : Bool) → joined (rest p) (rest q) ≡ rest (λ d. p d || q d)
        → joined (cond s (n ∷ rest p) (rest p)) (cond t (n ∷ rest q) (rest q)) ≡ cond (s || t) (n ∷ rest (λ d. p d || q d)) (rest (λ d. p d || q d))
    by_tests true true ih = joined-same n (rest p) (rest q) ∙ ap (λ ys. n ∷ ys) ih
    by_tests true false ih = joined-low n (rest p) (rest q) (high q) ∙ ap (λ ys. n ∷ ys) ih
    by_tests false true ih = joined-high n (rest p) (rest q) (high p) ∙ ap (λ ys. n ∷ ys) ih
    by_tests false false ih = ih

pub cut-places : (p q : Contents → Bool) (n : ℕ) (rows : Rows) → cut (places_from p n rows) (places_from q n rows) ≡ places_from (λ d. p d && q d) n rows
unfolding cut
cut-places p q n [] = refl
cut-places p q n (None ∷ rows) = cut-places p q (suc n) rows
cut-places p q n (Some d ∷ rows) = by_tests (p d) (q d) (cut-places p q (suc n) rows)
  where
    rest : (Contents → Bool) → List ℕ
    rest r = places_from r (suc n) rows

    high : (r : Contents → Bool) → AreAbove n (rest r)
    high r = above r n (suc n) rows (omega arith)

    by_tests : (s t : Bool) → cut (rest p) (rest q) ≡ rest (λ d. p d && q d)
        → cut (cond s (n ∷ rest p) (rest p)) (cond t (n ∷ rest q) (rest q)) ≡ cond (s && t) (n ∷ rest (λ d. p d && q d)) (rest (λ d. p d && q d))
    by_tests true true ih = cut-same n (rest p) (rest q) ∙ ap (λ ys. n ∷ ys) ih
    by_tests true false ih = cut-low n (rest p) (rest q) (high q) ∙ ih
    by_tests false true ih = cut-high n (rest p) (rest q) (high p) ∙ ih
    by_tests false false ih = ih

pub lacking-places : (p q : Contents → Bool) (n : ℕ) (rows : Rows) → lacking (places_from p n rows) (places_from q n rows) ≡ places_from (λ d. p d && not (q d)) n rows
unfolding lacking
lacking-places p q n [] = refl
lacking-places p q n (None ∷ rows) = lacking-places p q (suc n) rows
lacking-places p q n (Some d ∷ rows) = by_tests (p d) (q d) (lacking-places p q (suc n) rows)
  where
    rest : (Contents → Bool) → List ℕ
    rest r = places_from r (suc n) rows

    high : (r : Contents → Bool) → AreAbove n (rest r)
    high r = above r n (suc n) rows (omega arith)

    by_tests : (s t : Bool) → lacking (rest p) (rest q) ≡ rest (λ d. p d && not (q d))
        → lacking (cond s (n ∷ rest p) (rest p)) (cond t (n ∷ rest q) (rest q)) ≡ cond (s && not t) (n ∷ rest (λ d. p d && not (q d))) (rest (λ d. p d && not (q d)))
    by_tests true true ih = lacking-same n (rest p) (rest q) ∙ ih
    by_tests true false ih = lacking-low n (rest p) (rest q) (high q) ∙ ap (λ ys. n ∷ ys) ih
    by_tests false true ih = lacking-high n (rest p) (rest q) (high p) ∙ ih
    by_tests false false ih = ih

-- tests that agree pass the same documents
pub same-places : (p q : Contents → Bool) → ((d : Contents) → p d ≡ q d) → (n : ℕ) (rows : Rows) → places_from p n rows ≡ places_from q n rows
same-places p q f n [] = refl
same-places p q f n (None ∷ rows) = same-places p q f (suc n) rows
same-places p q f n (Some d ∷ rows) = ap₂ (λ t ys. cond t (n ∷ ys) ys) (f d) (same-places p q f (suc n) rows)

-- a test that no document passes has no places
pub no-places : (p : Contents → Bool) → ((d : Contents) → p d ≡ false) → (n : ℕ) (rows : Rows) → places_from p n rows ≡ []
no-places p f n [] = refl
no-places p f n (None ∷ rows) = no-places p f (suc n) rows
no-places p f n (Some d ∷ rows) = ap (λ t. cond t (n ∷ places_from p (suc n) rows) (places_from p (suc n) rows)) (f d) ∙ no-places p f (suc n) rows
