-- The texts of marks.
use Rattle.std.proofs.Common.{◌≡◌, ◌≢◌, ◌⊎◌, ℕ, zero, suc, ◌+◌, ◌-◌, ◌<◌, ◌≤◌, List, [], ◌∷◌, ◌++◌, length, take, drop, set, replicate, codes, inl, inr, refl, sym, ap, subst, ◌∙◌, arith}
use Rattle.std.specs.Prelude.{⊤}
use Rattle.std.specs.Fmt.{decimal}
use Rattle.std.proofs.lemmas.List.{append_assoc, take-replicate, drop-replicate, drop-drop, length-set}
use Rattle.cluster_states.specs.declared.marks.Mark.{Mark}
use Rattle.cluster_states.specs.declared.marks.Mark.TheVariants.{Up, Down, Retired}
use Rattle.cluster_states.specs.declared.places.Role.{Role}
use Rattle.cluster_states.specs.StateTexts.{mark_text, marks_text}
use Rattle.cluster_states.specs.Scanning.{role_word, letter_of, AreUpFrom}

-- the first mark that isn't up, and what is behind it
pub record FirstMark (role : Role) (n : ℕ) (ms : List Mark) : Type 0 where
  pub skipped : ℕ
  pub mark : Mark
  pub rest : List Mark
  pub is : ms ≡ replicate skipped Up ++ mark ∷ rest
  pub marked : mark ≢ Up
  pub text : marks_text (role_word role) n ms ≡ role_word role ++ (decimal (n + skipped) ++ (codes ".s:" ++ letter_of mark ∷ marks_text (role_word role) (n + skipped + 1) rest))

-- none is marked
pub record NoMark (role : Role) (n : ℕ) (ms : List Mark) : Type 0 where
  pub is : ms ≡ replicate (length ms) Up
  pub text : marks_text (role_word role) n ms ≡ []

signed_text : (w : List ℕ) (n : ℕ) (letter : ℕ) (rest : List ℕ) → (w ++ (decimal n ++ (46 ∷ 115 ∷ 58 ∷ letter ∷ []))) ++ rest ≡ w ++ (decimal n ++ (46 ∷ 115 ∷ 58 ∷ letter ∷ rest))
signed_text w n letter rest = append_assoc w (decimal n ++ (46 ∷ 115 ∷ 58 ∷ letter ∷ [])) rest ∙ ap (λ l. w ++ l) (append_assoc (decimal n) (46 ∷ 115 ∷ 58 ∷ letter ∷ []) rest)

here : (role : Role) (n : ℕ) (m : Mark) (ms : List Mark) → m ≢ Up → mark_text (role_word role) n m ≡ role_word role ++ (decimal n ++ (codes ".s:" ++ letter_of m ∷ [])) → FirstMark role n (m ∷ ms)
here role n m ms marked e = record {
  skipped = 0;
  mark = m;
  rest = ms;
  is = refl;
  marked = marked;
  text = ap (λ l. l ++ marks_text (role_word role) (n + 1) ms) e ∙ signed_text (role_word role) n (letter_of m) (marks_text (role_word role) (n + 1) ms)
      ∙ ap (λ k. role_word role ++ (decimal k ++ (codes ".s:" ++ letter_of m ∷ marks_text (role_word role) (k + 1) ms))) (omega arith);
}

later : (role : Role) (n : ℕ) (ms : List Mark) → FirstMark role (n + 1) ms → FirstMark role n (Up ∷ ms)
later role n ms f = record {
  skipped = suc f.skipped;
  mark = f.mark;
  rest = f.rest;
  is = ap (λ l. Up ∷ l) f.is;
  marked = f.marked;
  text = f.text ∙ ap (λ k. role_word role ++ (decimal k ++ (codes ".s:" ++ letter_of f.mark ∷ marks_text (role_word role) (k + 1) f.rest))) (omega arith);
}

pub down_is_not_up : Down ≢ Up
down_is_not_up e = subst (λ m. is_down m) e tt
  where
    is_down : Mark → Type 0
    is_down Up = ⊥
    is_down Down = ⊤
    is_down Retired = ⊥

pub retired_is_not_up : Retired ≢ Up
retired_is_not_up e = subst (λ m. is_retired m) e tt
  where
    is_retired : Mark → Type 0
    is_retired Up = ⊥
    is_retired Down = ⊥
    is_retired Retired = ⊤

pub first_mark : (role : Role) (n : ℕ) (ms : List Mark) → NoMark role n ms ⊎ FirstMark role n ms
first_mark role n [] = inl (record { is = refl; text = refl })
first_mark role n (Up ∷ ms) = elim (first_mark role (n + 1) ms) [
  | inl none ↦ inl (record { is = ap (λ l. Up ∷ l) none.is; text = none.text })
  | inr found ↦ inr (later role n ms found)
]
first_mark role n (Down ∷ ms) = inr (here role n Down ms down_is_not_up refl)
first_mark role n (Retired ∷ ms) = inr (here role n Retired ms retired_is_not_up refl)

-- numbers that are up are skipped
pub skip_up : (role : Role) (n k : ℕ) (ms : List Mark) → marks_text (role_word role) n (replicate k Up ++ ms) ≡ marks_text (role_word role) (n + k) ms
skip_up role n zero ms = ap (λ j. marks_text (role_word role) j ms) (omega arith)
skip_up role n (suc k) ms = skip_up role (n + 1) k ms ∙ ap (λ j. marks_text (role_word role) j ms) (omega arith)

pub text_of_mark : (role : Role) (n : ℕ) (m : Mark) (ms : List Mark) → m ≢ Up → marks_text (role_word role) n (m ∷ ms) ≡ role_word role ++ (decimal n ++ (codes ".s:" ++ letter_of m ∷ marks_text (role_word role) (n + 1) ms))
text_of_mark role n Up ms marked = absurd (marked refl)
text_of_mark role n Down ms marked = signed_text (role_word role) n 100 (marks_text (role_word role) (n + 1) ms)
text_of_mark role n Retired ms marked = signed_text (role_word role) n 114 (marks_text (role_word role) (n + 1) ms)

-- where all from a number on are up, those below a later one are those below it and then some that are up
pub take_up : (least k : ℕ) (ms : List Mark) → AreUpFrom least ms → least + k ≤ length ms → take (least + k) ms ≡ take least ms ++ replicate k Up
take_up zero k ms up le = ap (λ j. take j ms) (omega arith) ∙ ap (take k) up ∙ take-replicate k (length ms - 0) Up (omega arith)
take_up (suc least) k [] up le = absurd (omega arith)
take_up (suc least) k (m ∷ ms) up le =
    let on : suc least + k ≡ suc (least + k) = omega arith in
    ap (λ j. take j (m ∷ ms)) on ∙ ap (λ l. m ∷ l) (take_up least k ms (up ∙ ap (λ j. replicate j Up) (omega arith)) (omega arith))

pub up_later : (least k : ℕ) (ms : List Mark) → AreUpFrom least ms → AreUpFrom (least + k) ms
up_later least k ms up =
    sym (drop-drop k least ms) ∙ ap (drop k) up ∙ drop-replicate k (length ms - least) Up ∙ ap (λ j. replicate j Up) (omega arith)

-- a mark more is known
pub take_marked : (n : ℕ) (ms : List Mark) (m : Mark) → n < length ms → take (suc n) (set ms n m) ≡ take n ms ++ m ∷ []
take_marked n [] m lt = absurd (omega arith)
take_marked zero (x ∷ ms) m lt = refl
take_marked (suc n) (x ∷ ms) m lt = ap (λ l. x ∷ l) (take_marked n ms m (omega arith))

pub up_marked : (n : ℕ) (ms : List Mark) (m : Mark) → AreUpFrom n ms → AreUpFrom (suc n) (set ms n m)
up_marked n ms m up =
    let on : suc n ≡ n + 1 = omega arith in
    drop-set-past n ms m ∙ ap (λ k. drop k ms) on ∙ sym (drop-drop 1 n ms) ∙ ap (drop 1) up ∙ drop-replicate 1 (length ms - n) Up
    ∙ ap (λ j. replicate j Up) (omega (arith, length-set ms n m))
  where
    drop-set-past : (n : ℕ) (ms : List Mark) (m : Mark) → drop (suc n) (set ms n m) ≡ drop (suc n) ms
    drop-set-past n [] m = refl
    drop-set-past zero (x ∷ ms) m = refl
    drop-set-past (suc n) (x ∷ ms) m = drop-set-past n ms m
