-- Lists of late messages that fall, and their reverse.
use Rattle.std.proofs.Common.{◌≡◌, ◌≤◌, ◌<◌, ℕ, zero, suc, List, [], ◌∷◌, ◌++◌, length, reverse, take, drop, nat_lt, get_or, inl, inr, refl, sym, ap, ◌∙◌, subst, append_assoc, arith}
use Rattle.std.specs.List.{AllWithin, insert}
use Rattle.std.specs.List.Sorted.{IsPartitionedBy}
use Rattle.std.proofs.lemmas.Bool.{cases_lt}
use Rattle.std.proofs.lemmas.Bool.Decides.{nat_tests}
use Rattle.std.proofs.lemmas.List.{take-append-drop, reverse-append}
use Rattle.messages.specs.Waiting.{Each, IsBefore, kept, AreSentBefore}
use Rattle.messages.specs.Kept.{IsFalling}
use Rattle.messages.specs.declared.late.Late.{Late}
use Rattle.messages.proofs.Eaches.{each-append, each-first, each-second, reverse-cons, each-reverse, each-unreverse, each-at, each-take, each-drop}

-- ---- where one is put

kept-behind : (l : Late) (first rest : List Late) → Each (λ m. m.due ≤ l.due) first → Each (λ m. l.due < m.due) rest
    → kept l (first ++ rest) ≡ first ++ l ∷ rest
kept-behind l [] [] h k = refl
kept-behind l [] (m ∷ rest) h k = let after = k.0 in grind (arith, nat_tests)
kept-behind l (m ∷ first) rest h k =
    let by = h.0 in let ih = kept-behind l first rest h.1 k in grind (arith, nat_tests)

reverse-insert : (l : Late) (xs ys : List Late) → reverse (xs ++ l ∷ ys) ≡ reverse ys ++ l ∷ reverse xs
reverse-insert l xs ys =
    reverse-append xs (l ∷ ys) ∙ ap (λ (h : List Late). h ++ reverse xs) (reverse-cons l ys) ∙ append_assoc (reverse ys) (l ∷ []) (reverse xs)

-- the list that is seen once one was put where those begin that are due no later
pub kept-inserted : (l : Late) (late : List Late) (k : ℕ) → AllWithin (λ m. l.due < m.due) late 0 k
    → AllWithin (λ m. m.due ≤ l.due) late k (length late) → reverse (insert late k l) ≡ kept l (reverse late)
kept-inserted l late k before from =
    let same : take k late ++ drop k late ≡ late = take-append-drop k late in
    let seen : reverse late ≡ reverse (drop k late) ++ reverse (take k late) = ap (λ (h : List Late). reverse h) (sym same) ∙ reverse-append (take k late) (drop k late) in
    reverse-insert l (take k late) (drop k late)
    ∙ sym (kept-behind l (reverse (drop k late)) (reverse (take k late))
    (each-reverse (λ m. m.due ≤ l.due) (drop k late) (each-drop (λ m. m.due ≤ l.due) late k from))
    (each-reverse (λ m. l.due < m.due) (take k late) (each-take (λ m. l.due < m.due) late k before)))
    ∙ ap (λ (h : List Late). kept l h) (sym seen)

-- ---- falling

falling-due : (late : List Late) → IsFalling late → (i j : ℕ) (d : Late) → i ≤ j → j < length late
    → (get_or late j d).due ≤ (get_or late i d).due
falling-due [] f i j d le lt = absurd (omega arith)
falling-due (l ∷ late) f zero zero d le lt = omega arith
falling-due (l ∷ late) f zero (suc j) d le lt = before-due (get_or late j d) l (each-at (λ m. IsBefore m l) late j d f.0 (omega arith))
  where
    before-due : (a b : Late) → IsBefore a b → a.due ≤ b.due
    before-due a b (inl h) = omega arith
    before-due a b (inr h) = let same = h.0 in omega arith
falling-due (l ∷ late) f (suc i) zero d le lt = absurd (omega arith)
falling-due (l ∷ late) f (suc i) (suc j) d le lt = falling-due late f.1 i j d (omega arith) (omega arith)

-- those that are due later come first
pub partitioned : (due : ℕ) (late : List Late) → IsFalling late → IsPartitionedBy (λ l. nat_lt due l.due) late
partitioned due late f i j d le lt h = let no_more = falling-due late f i j d le lt in grind (arith, nat_tests)

pub falling-first : (xs ys : List Late) → IsFalling (xs ++ ys) → IsFalling xs
falling-first [] ys f = tt
falling-first (x ∷ xs) ys f = (each-first (λ m. IsBefore m x) xs ys f.0, falling-first xs ys f.1)

falling-insert : (l : Late) (xs ys : List Late) → IsFalling (xs ++ ys) → Each (λ m. IsBefore l m) xs → Each (λ m. IsBefore m l) ys
    → IsFalling (xs ++ l ∷ ys)
falling-insert l [] ys f h k = (k, f)
falling-insert l (x ∷ xs) ys f h k = (
  each-append (λ m. IsBefore m x) xs (l ∷ ys) (each-first (λ m. IsBefore m x) xs ys f.0) (h.0, each-second (λ m. IsBefore m x) xs ys f.0),
  falling-insert l xs ys f.1 h.1 k,
)

each-later : (l : Late) (xs : List Late) → Each (λ m. l.due < m.due) xs → Each (λ m. IsBefore l m) xs
each-later l [] h = tt
each-later l (x ∷ xs) h = (inl h.0, each-later l xs h.1)

each-earlier : (l : Late) (xs : List Late) → Each (λ m. m.due ≤ l.due) xs → AreSentBefore l.number xs → Each (λ m. IsBefore m l) xs
each-earlier l [] h k = tt
each-earlier l (x ∷ xs) h k = (before x h.0 k.0, each-earlier l xs h.1 k.1)
  where
    before : (m : Late) → m.due ≤ l.due → m.number < l.number → IsBefore m l
    before m d n = elim (cases_lt m.due l.due) [
      | inl less ↦ inl less
      | inr more ↦ inr (omega (arith, d, more), n)
    ]

-- it still falls with one more
pub falling-inserted : (l : Late) (late : List Late) (k : ℕ) → IsFalling late → AreSentBefore l.number (reverse late)
    → AllWithin (λ m. l.due < m.due) late 0 k → AllWithin (λ m. m.due ≤ l.due) late k (length late)
    → IsFalling (insert late k l)
falling-inserted l late k f sent before from =
    let same : take k late ++ drop k late ≡ late = take-append-drop k late in
    let sent_all : AreSentBefore l.number late = each-unreverse (λ m. m.number < l.number) late sent in
    let sent_back : AreSentBefore l.number (drop k late) = each-second (λ m. m.number < l.number) (take k late) (drop k late) (subst (λ (xs : List Late). Each (λ m. m.number < l.number) xs) (sym same) sent_all) in
    falling-insert l (take k late) (drop k late) (subst IsFalling (sym same) f)
    (each-later l (take k late) (each-take (λ m. l.due < m.due) late k before))
    (each-earlier l (drop k late) (each-drop (λ m. m.due ≤ l.due) late k from) sent_back)
