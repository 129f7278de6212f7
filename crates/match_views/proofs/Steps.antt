-- The steps of the loops.
use Rattle.std.proofs.Common.{◌≡◌, ℕ, suc, ◌+◌, ◌<◌, ◌≤◌, true, false, nat_lt, List, [], ◌∷◌, ◌++◌, length, get_or, take, drop, ◌-◌, length-drop, inl, inr, ◌⊎◌, zero, refl, sym, ap, ◌∙◌, arith, add-one, drop-cons}
use Rattle.std.proofs.lemmas.Bool.Decides.{nat_tests}
use Rattle.match_views.specs.Merging.{joined, cut, lacking}

pub heads : (xs : List ℕ) (i : ℕ) → i < length xs → drop i xs ≡ get_or xs i 0 ∷ drop (i + 1) xs
heads xs i h = rw (add-one, drop-cons xs i 0) refl

joined-less : (x y : ℕ) (xs ys : List ℕ) → x < y → joined (x ∷ xs) (y ∷ ys) ≡ x ∷ joined xs (y ∷ ys)
unfolding joined
joined-less x y xs ys h = let lt : nat_lt x y ≡ true = grind (arith, nat_tests) in rw lt refl

joined-greater : (x y : ℕ) (xs ys : List ℕ) → y < x → joined (x ∷ xs) (y ∷ ys) ≡ y ∷ joined (x ∷ xs) ys
unfolding joined
joined-greater x y xs ys h = let no_lt : nat_lt x y ≡ false = grind (arith, nat_tests) in let lt : nat_lt y x ≡ true = grind (arith, nat_tests) in rw (no_lt, lt) refl

joined-equal : (x y : ℕ) (xs ys : List ℕ) → y ≤ x → x ≤ y → joined (x ∷ xs) (y ∷ ys) ≡ x ∷ joined xs ys
unfolding joined
joined-equal x y xs ys h k = let no_lt : nat_lt x y ≡ false = grind (arith, nat_tests) in let less : nat_lt y x ≡ false = grind (arith, nat_tests) in rw (no_lt, less) refl

-- a step of the join, where the first head is lower
pub join-first : (xs ys : List ℕ) (i j : ℕ) → i < length xs → j < length ys → get_or xs i 0 < get_or ys j 0 → joined (drop i xs) (drop j ys) ≡ get_or xs i 0 ∷ joined (drop (i + 1) xs) (drop j ys)
join-first xs ys i j li lj h = ap (λ zs. joined zs (drop j ys)) (heads xs i li) ∙ (ap (joined (get_or xs i 0 ∷ drop (i + 1) xs)) (heads ys j lj) ∙ (joined-less (get_or xs i 0) (get_or ys j 0) (drop (i + 1) xs) (drop (j + 1) ys) h ∙ ap (λ zs. get_or xs i 0 ∷ joined (drop (i + 1) xs) zs) (sym (heads ys j lj))))

pub join-second : (xs ys : List ℕ) (i j : ℕ) → i < length xs → j < length ys → get_or ys j 0 < get_or xs i 0 → joined (drop i xs) (drop j ys) ≡ get_or ys j 0 ∷ joined (drop i xs) (drop (j + 1) ys)
join-second xs ys i j li lj h = ap (λ zs. joined zs (drop j ys)) (heads xs i li) ∙ (ap (joined (get_or xs i 0 ∷ drop (i + 1) xs)) (heads ys j lj) ∙ (joined-greater (get_or xs i 0) (get_or ys j 0) (drop (i + 1) xs) (drop (j + 1) ys) h ∙ ap (λ zs. get_or ys j 0 ∷ joined zs (drop (j + 1) ys)) (sym (heads xs i li))))

pub join-both : (xs ys : List ℕ) (i j : ℕ) → i < length xs → j < length ys → get_or ys j 0 ≤ get_or xs i 0 → get_or xs i 0 ≤ get_or ys j 0 → joined (drop i xs) (drop j ys) ≡ get_or xs i 0 ∷ joined (drop (i + 1) xs) (drop (j + 1) ys)
join-both xs ys i j li lj h k = ap (λ zs. joined zs (drop j ys)) (heads xs i li) ∙ (ap (joined (get_or xs i 0 ∷ drop (i + 1) xs)) (heads ys j lj) ∙ joined-equal (get_or xs i 0) (get_or ys j 0) (drop (i + 1) xs) (drop (j + 1) ys) h k)

cut-less : (x y : ℕ) (xs ys : List ℕ) → x < y → cut (x ∷ xs) (y ∷ ys) ≡ cut xs (y ∷ ys)
unfolding cut
cut-less x y xs ys h = let lt : nat_lt x y ≡ true = grind (arith, nat_tests) in rw lt refl

cut-greater : (x y : ℕ) (xs ys : List ℕ) → y < x → cut (x ∷ xs) (y ∷ ys) ≡ cut (x ∷ xs) ys
unfolding cut
cut-greater x y xs ys h = let no_lt : nat_lt x y ≡ false = grind (arith, nat_tests) in let lt : nat_lt y x ≡ true = grind (arith, nat_tests) in rw (no_lt, lt) refl

cut-equal : (x y : ℕ) (xs ys : List ℕ) → y ≤ x → x ≤ y → cut (x ∷ xs) (y ∷ ys) ≡ x ∷ cut xs ys
unfolding cut
cut-equal x y xs ys h k = let no_lt : nat_lt x y ≡ false = grind (arith, nat_tests) in let less : nat_lt y x ≡ false = grind (arith, nat_tests) in rw (no_lt, less) refl

pub cut-first : (xs ys : List ℕ) (i j : ℕ) → i < length xs → j < length ys → get_or xs i 0 < get_or ys j 0 → cut (drop i xs) (drop j ys) ≡ cut (drop (i + 1) xs) (drop j ys)
cut-first xs ys i j li lj h = ap (λ zs. cut zs (drop j ys)) (heads xs i li) ∙ (ap (cut (get_or xs i 0 ∷ drop (i + 1) xs)) (heads ys j lj) ∙ (cut-less (get_or xs i 0) (get_or ys j 0) (drop (i + 1) xs) (drop (j + 1) ys) h ∙ ap (cut (drop (i + 1) xs)) (sym (heads ys j lj))))

pub cut-second : (xs ys : List ℕ) (i j : ℕ) → i < length xs → j < length ys → get_or ys j 0 < get_or xs i 0 → cut (drop i xs) (drop j ys) ≡ cut (drop i xs) (drop (j + 1) ys)
cut-second xs ys i j li lj h = ap (λ zs. cut zs (drop j ys)) (heads xs i li) ∙ (ap (cut (get_or xs i 0 ∷ drop (i + 1) xs)) (heads ys j lj) ∙ (cut-greater (get_or xs i 0) (get_or ys j 0) (drop (i + 1) xs) (drop (j + 1) ys) h ∙ ap (λ zs. cut zs (drop (j + 1) ys)) (sym (heads xs i li))))

pub cut-both : (xs ys : List ℕ) (i j : ℕ) → i < length xs → j < length ys → get_or ys j 0 ≤ get_or xs i 0 → get_or xs i 0 ≤ get_or ys j 0 → cut (drop i xs) (drop j ys) ≡ get_or xs i 0 ∷ cut (drop (i + 1) xs) (drop (j + 1) ys)
cut-both xs ys i j li lj h k = ap (λ zs. cut zs (drop j ys)) (heads xs i li) ∙ (ap (cut (get_or xs i 0 ∷ drop (i + 1) xs)) (heads ys j lj) ∙ cut-equal (get_or xs i 0) (get_or ys j 0) (drop (i + 1) xs) (drop (j + 1) ys) h k)

lacking-less : (x y : ℕ) (xs ys : List ℕ) → x < y → lacking (x ∷ xs) (y ∷ ys) ≡ x ∷ lacking xs (y ∷ ys)
unfolding lacking
lacking-less x y xs ys h = let lt : nat_lt x y ≡ true = grind (arith, nat_tests) in rw lt refl

lacking-greater : (x y : ℕ) (xs ys : List ℕ) → y < x → lacking (x ∷ xs) (y ∷ ys) ≡ lacking (x ∷ xs) ys
unfolding lacking
lacking-greater x y xs ys h = let no_lt : nat_lt x y ≡ false = grind (arith, nat_tests) in let lt : nat_lt y x ≡ true = grind (arith, nat_tests) in rw (no_lt, lt) refl

lacking-equal : (x y : ℕ) (xs ys : List ℕ) → y ≤ x → x ≤ y → lacking (x ∷ xs) (y ∷ ys) ≡ lacking xs ys
unfolding lacking
lacking-equal x y xs ys h k = let no_lt : nat_lt x y ≡ false = grind (arith, nat_tests) in let less : nat_lt y x ≡ false = grind (arith, nat_tests) in rw (no_lt, less) refl

pub lack-first : (xs ys : List ℕ) (i j : ℕ) → i < length xs → j < length ys → get_or xs i 0 < get_or ys j 0 → lacking (drop i xs) (drop j ys) ≡ get_or xs i 0 ∷ lacking (drop (i + 1) xs) (drop j ys)
lack-first xs ys i j li lj h = ap (λ zs. lacking zs (drop j ys)) (heads xs i li) ∙ (ap (lacking (get_or xs i 0 ∷ drop (i + 1) xs)) (heads ys j lj) ∙ (lacking-less (get_or xs i 0) (get_or ys j 0) (drop (i + 1) xs) (drop (j + 1) ys) h ∙ ap (λ zs. get_or xs i 0 ∷ lacking (drop (i + 1) xs) zs) (sym (heads ys j lj))))

pub lack-second : (xs ys : List ℕ) (i j : ℕ) → i < length xs → j < length ys → get_or ys j 0 < get_or xs i 0 → lacking (drop i xs) (drop j ys) ≡ lacking (drop i xs) (drop (j + 1) ys)
lack-second xs ys i j li lj h = ap (λ zs. lacking zs (drop j ys)) (heads xs i li) ∙ (ap (lacking (get_or xs i 0 ∷ drop (i + 1) xs)) (heads ys j lj) ∙ (lacking-greater (get_or xs i 0) (get_or ys j 0) (drop (i + 1) xs) (drop (j + 1) ys) h ∙ ap (λ zs. lacking zs (drop (j + 1) ys)) (sym (heads xs i li))))

pub lack-both : (xs ys : List ℕ) (i j : ℕ) → i < length xs → j < length ys → get_or ys j 0 ≤ get_or xs i 0 → get_or xs i 0 ≤ get_or ys j 0 → lacking (drop i xs) (drop j ys) ≡ lacking (drop (i + 1) xs) (drop (j + 1) ys)
lack-both xs ys i j li lj h k = ap (λ zs. lacking zs (drop j ys)) (heads xs i li) ∙ (ap (lacking (get_or xs i 0 ∷ drop (i + 1) xs)) (heads ys j lj) ∙ lacking-equal (get_or xs i 0) (get_or ys j 0) (drop (i + 1) xs) (drop (j + 1) ys) h k)

-- ---- the ends

pub drop-past : (i : ℕ) (xs : List ℕ) → length xs ≤ i → drop i xs ≡ []
drop-past zero [] h = refl
drop-past (suc i) [] h = refl
drop-past zero (x ∷ xs) h = absurd (omega arith)
drop-past (suc i) (x ∷ xs) h = drop-past i xs (omega arith)

none-cut : (zs : List ℕ) → cut zs [] ≡ []
unfolding cut
none-cut [] = refl
none-cut (z ∷ zs) = refl

pub cut-end : (xs ys : List ℕ) (i j : ℕ) → (length xs ≤ i) ⊎ (length ys ≤ j) → cut (drop i xs) (drop j ys) ≡ []
unfolding cut
cut-end xs ys i j (inl h) = ap (λ zs. cut zs (drop j ys)) (drop-past i xs h)
cut-end xs ys i j (inr h) = ap (cut (drop i xs)) (drop-past j ys h) ∙ none-cut (drop i xs)

all-lacking : (zs : List ℕ) → lacking zs [] ≡ zs
unfolding lacking
all-lacking [] = refl
all-lacking (z ∷ zs) = refl

pub lack-end : (xs ys : List ℕ) (i j : ℕ) → (length xs ≤ i) ⊎ (length ys ≤ j) → lacking (drop i xs) (drop j ys) ≡ drop i xs
unfolding lacking
lack-end xs ys i j (inl h) = ap (λ zs. lacking zs (drop j ys)) (drop-past i xs h) ∙ sym (drop-past i xs h)
lack-end xs ys i j (inr h) = ap (lacking (drop i xs)) (drop-past j ys h) ∙ all-lacking (drop i xs)

all-joined : (zs : List ℕ) → joined zs [] ≡ zs ++ []
unfolding joined
all-joined [] = refl
all-joined (z ∷ zs) = ap (λ ys. z ∷ ys) (sym (nothing-more zs))
  where
    nothing-more : (ys : List ℕ) → ys ++ [] ≡ ys
    nothing-more [] = refl
    nothing-more (y ∷ ys) = ap (λ r. y ∷ r) (nothing-more ys)

pub join-end : (xs ys : List ℕ) (i j : ℕ) → (length xs ≤ i) ⊎ (length ys ≤ j) → joined (drop i xs) (drop j ys) ≡ drop i xs ++ drop j ys
unfolding joined
join-end xs ys i j (inl h) = ap (λ zs. joined zs (drop j ys)) (drop-past i xs h) ∙ ap (λ zs. zs ++ drop j ys) (sym (drop-past i xs h))
join-end xs ys i j (inr h) = ap (joined (drop i xs)) (drop-past j ys h) ∙ (all-joined (drop i xs) ∙ ap (λ zs. drop i xs ++ zs) (sym (drop-past j ys h)))

-- nothing is left to come
pub whole : (xs rest all : List ℕ) → rest ≡ [] → xs ++ rest ≡ all → xs ≡ all
whole xs rest all e h = sym (none-behind xs) ∙ (ap (λ zs. xs ++ zs) (sym e) ∙ h)
  where
    none-behind : (ys : List ℕ) → ys ++ [] ≡ ys
    none-behind [] = refl
    none-behind (y ∷ ys) = ap (λ r. y ∷ r) (none-behind ys)

take-whole : (n : ℕ) (xs : List ℕ) → length xs ≤ n → take n xs ≡ xs
take-whole zero [] h = refl
take-whole (suc n) [] h = refl
take-whole zero (x ∷ xs) h = absurd (omega arith)
take-whole (suc n) (x ∷ xs) h = ap (λ ys. x ∷ ys) (take-whole n xs (omega arith))

-- a slice from a place on is all that is left
pub tail : (i : ℕ) (xs : List ℕ) → take (length xs - i) (drop i xs) ≡ drop i xs
tail i xs = take-whole (length xs - i) (drop i xs) (omega (arith, length-drop i xs))
