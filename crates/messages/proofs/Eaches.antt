-- Facts of each late message of a list.
use Rattle.std.proofs.Common.{◌≡◌, ◌<◌, ℕ, zero, suc, List, [], ◌∷◌, ◌++◌, length, reverse, take, drop, get_or, sym, subst, arith}
use Rattle.std.specs.List.{AllWithin}
use Rattle.std.proofs.lemmas.List.{reverse-append}
use Rattle.messages.specs.Waiting.{Each}
use Rattle.messages.specs.declared.late.Late.{Late}

pub each-append : (P : Late → Type 0) (xs ys : List Late) → Each P xs → Each P ys → Each P (xs ++ ys)
each-append P [] ys h k = k
each-append P (x ∷ xs) ys h k = (h.0, each-append P xs ys h.1 k)

pub each-first : (P : Late → Type 0) (xs ys : List Late) → Each P (xs ++ ys) → Each P xs
each-first P [] ys h = tt
each-first P (x ∷ xs) ys h = (h.0, each-first P xs ys h.1)

pub each-second : (P : Late → Type 0) (xs ys : List Late) → Each P (xs ++ ys) → Each P ys
each-second P [] ys h = h
each-second P (x ∷ xs) ys h = each-second P xs ys h.1

pub reverse-cons : (x : Late) (xs : List Late) → reverse (x ∷ xs) ≡ reverse xs ++ x ∷ []
reverse-cons x xs = reverse-append (x ∷ []) xs

pub each-reverse : (P : Late → Type 0) (xs : List Late) → Each P xs → Each P (reverse xs)
each-reverse P [] h = tt
each-reverse P (x ∷ xs) h = subst (λ (l : List Late). Each P l) (sym (reverse-cons x xs)) (each-append P (reverse xs) (x ∷ []) (each-reverse P xs h.1) (h.0, tt))

pub each-unreverse : (P : Late → Type 0) (xs : List Late) → Each P (reverse xs) → Each P xs
each-unreverse P [] h = tt
each-unreverse P (x ∷ xs) h =
    let both : Each P (reverse xs ++ x ∷ []) = subst (λ (l : List Late). Each P l) (reverse-cons x xs) h in
    ((each-second P (reverse xs) (x ∷ []) both).0, each-unreverse P xs (each-first P (reverse xs) (x ∷ []) both))

pub each-at : (P : Late → Type 0) (xs : List Late) (k : ℕ) (d : Late) → Each P xs → k < length xs → P (get_or xs k d)
each-at P [] k d h lt = absurd (omega arith)
each-at P (x ∷ xs) zero d h lt = h.0
each-at P (x ∷ xs) (suc k) d h lt = each-at P xs k d h.1 (omega arith)

pub each-take : (P : Late → Type 0) (xs : List Late) (k : ℕ) → AllWithin P xs 0 k → Each P (take k xs)
each-take P [] zero h = tt
each-take P [] (suc k) h = tt
each-take P (x ∷ xs) zero h = tt
each-take P (x ∷ xs) (suc k) h = (h 0 x (omega arith) (omega arith), each-take P xs k (λ i d low high. h (suc i) d (omega arith) (omega arith)))

pub each-all : (P : Late → Type 0) (xs : List Late) → ((k : ℕ) (d : Late) → k < length xs → P (get_or xs k d)) → Each P xs
each-all P [] h = tt
each-all P (x ∷ xs) h = (h 0 x (omega arith), each-all P xs (λ i d high. h (suc i) d (omega arith)))

pub each-drop : (P : Late → Type 0) (xs : List Late) (k : ℕ) → AllWithin P xs k (length xs) → Each P (drop k xs)
each-drop P xs zero h = each-all P xs (λ i d high. h i d (omega arith) high)
each-drop P [] (suc k) h = tt
each-drop P (x ∷ xs) (suc k) h = each-drop P xs k (λ i d low high. h (suc i) d (omega arith) (omega arith))
