-- A text literal's body, byte after byte.
use Rattle.std.proofs.Common.{◌≡◌, ◌≢◌, ℕ, zero, suc, ◌+◌, ◌<◌, ◌≤◌, ◌==◌, Bool, true, false, cond, List, [], ◌∷◌, ◌++◌, length, get_or, drop, refl, sym, ap, ◌∙◌, arith, Option, Some, None, option_map, drop-cons}
use mathlib.Core.Bool.{true≢false}
use Rattle.std.proofs.lemmas.Bool.Decides.{nat_tests}
use Rattle.std.proofs.lemmas.List.{append_assoc}
use Rattle.doc_types.specs.Tokens.{body_at, is_escaped, with_byte}
use Rattle.doc_types.specs.Bodies.{content_at}

-- a content with what was read before
abbrev pub with_front : List ℕ → Option (List ℕ × List ℕ) → Option (List ℕ × List ℕ)
with_front front read = option_map (λ p. (front ++ p.0, p.1)) read

pub same_test : (a b : ℕ) → a ≡ b → (a == b) ≡ true
same_test a b e = grind (arith, nat_tests, e)

other_test : (a b : ℕ) → a ≢ b → (a == b) ≡ false
other_test a b other = by (a == b) refl
  where
    is : (a b : ℕ) → (a == b) ≡ true → a ≡ b
    is a b e = grind (arith, nat_tests, e)

    by : (t : Bool) → (a == b) ≡ t → (a == b) ≡ false
    by true e = absurd (other (is a b e))
    by false e = e

-- at the quote
pub ends : (q c : ℕ) (rest : List ℕ) → c ≡ q → body_at q (c ∷ rest) ≡ Some ([], rest)
ends q c [] e = ap (λ t. cond t (Some ([], [])) None) (same_test c q e)
ends q c (d ∷ rest) e = ap (λ t. cond t (Some ([], d ∷ rest)) (cond (c == 92) (cond (is_escaped d) (with_byte d (body_at q rest)) None) (with_byte c (body_at q (d ∷ rest))))) (same_test c q e)

-- at another byte
pub plain : (q c : ℕ) (rest : List ℕ) → c ≢ q → c ≢ 92 → body_at q (c ∷ rest) ≡ with_byte c (body_at q rest)
plain q c [] e n = ap (λ t. cond t (Some ([], [])) None) (other_test c q e)
plain q c (d ∷ rest) e n =
    ap (λ t. cond t (Some ([], d ∷ rest)) (cond (c == 92) (cond (is_escaped d) (with_byte d (body_at q rest)) None) (with_byte c (body_at q (d ∷ rest))))) (other_test c q e)
    ∙ ap (λ t. cond t (cond (is_escaped d) (with_byte d (body_at q rest)) None) (with_byte c (body_at q (d ∷ rest)))) (other_test c 92 n)

-- at a backslash
pub escape : (q c d : ℕ) (rest : List ℕ) → c ≢ q → c ≡ 92 → body_at q (c ∷ d ∷ rest) ≡ cond (is_escaped d) (with_byte d (body_at q rest)) None
escape q c d rest e n =
    ap (λ t. cond t (Some ([], d ∷ rest)) (cond (c == 92) (cond (is_escaped d) (with_byte d (body_at q rest)) None) (with_byte c (body_at q (d ∷ rest))))) (other_test c q e)
    ∙ ap (λ t. cond t (cond (is_escaped d) (with_byte d (body_at q rest)) None) (with_byte c (body_at q (d ∷ rest)))) (same_test c 92 n)

last_escape : (q c : ℕ) → c ≢ q → body_at q (c ∷ []) ≡ None
last_escape q c e = ap (λ t. cond t (Some ([], [])) None) (other_test c q e)

-- by places
here : (bs : List ℕ) (at : ℕ) → at < length bs → drop at bs ≡ get_or bs at 0 ∷ drop (suc at) bs
here bs at lt = drop-cons bs at 0 lt

pub body_ends : (bs : List ℕ) (at q : ℕ) → at < length bs → get_or bs at 0 ≡ q → body_at q (drop at bs) ≡ Some ([], drop (suc at) bs)
body_ends bs at q lt e = ap (body_at q) (here bs at lt) ∙ ends q (get_or bs at 0) (drop (suc at) bs) e

nothing_left : (bs : List ℕ) (at : ℕ) → length bs ≤ at → drop at bs ≡ []
nothing_left [] zero le = refl
nothing_left [] (suc at) le = refl
nothing_left (b ∷ bs) zero le = absurd (omega arith)
nothing_left (b ∷ bs) (suc at) le = nothing_left bs at (omega arith)

abbrev pub meant : ℕ → List ℕ → Option ℕ → Option (List ℕ × List ℕ)
meant q bs None = None
meant q bs (Some place) = with_byte (get_or bs place 0) (body_at q (drop (suc place) bs))

escaped_by : (bs : List ℕ) (at q : ℕ) (last esc : Bool) → at < length bs → get_or bs at 0 ≢ q → get_or bs at 0 ≡ 92 → (at + 1 == length bs) ≡ last → is_escaped (get_or bs (at + 1) 0) ≡ esc
    → body_at q (drop at bs) ≡ meant q bs (cond last None (cond esc (Some (at + 1)) None))
escaped_by bs at q true esc lt other e l s =
    let full : at + 1 ≡ length bs = grind (arith, nat_tests, l) in
    ap (body_at q) (here bs at lt ∙ ap (λ r. get_or bs at 0 ∷ r) (nothing_left bs (suc at) (omega (arith, full)))) ∙ last_escape q (get_or bs at 0) other
escaped_by bs at q false esc lt other e l s =
    let more : suc at < length bs = not_last bs at lt l in
    let on : suc at ≡ at + 1 = omega arith in
    ap (body_at q) (here bs at lt ∙ ap (λ r. get_or bs at 0 ∷ r) (here bs (suc at) more))
    ∙ escape q (get_or bs at 0) (get_or bs (suc at) 0) (drop (suc (suc at)) bs) other e
    ∙ ap (λ k. cond (is_escaped (get_or bs k 0)) (with_byte (get_or bs k 0) (body_at q (drop (suc k) bs))) None) on
    ∙ by_escape esc s
  where
    not_last : (bs : List ℕ) (at : ℕ) → at < length bs → (at + 1 == length bs) ≡ false → suc at < length bs
    not_last bs at lt l = grind (arith, nat_tests, l, lt)

    by_escape : (t : Bool) → is_escaped (get_or bs (at + 1) 0) ≡ t
        → cond (is_escaped (get_or bs (at + 1) 0)) (with_byte (get_or bs (at + 1) 0) (body_at q (drop (suc (at + 1)) bs))) None ≡ meant q bs (cond t (Some (at + 1)) None)
    by_escape true s = ap (λ t. cond t (with_byte (get_or bs (at + 1) 0) (body_at q (drop (suc (at + 1)) bs))) None) s
    by_escape false s = ap (λ t. cond t (with_byte (get_or bs (at + 1) 0) (body_at q (drop (suc (at + 1)) bs))) None) s

pub body_meant : (bs : List ℕ) (at q : ℕ) → at < length bs → get_or bs at 0 ≢ q → body_at q (drop at bs) ≡ meant q bs (content_at bs at)
body_meant bs at q lt other =
    elim (get_or bs at 0 == 92) as (λ t. (get_or bs at 0 == 92) ≡ t → body_at q (drop at bs)
    ≡ meant q bs (cond t (cond (at + 1 == length bs) None (cond (is_escaped (get_or bs (at + 1) 0)) (Some (at + 1)) None)) (Some at))) [
      | true ↦ (λ e. escaped_by bs at q _ _ lt other (is_backslash (get_or bs at 0) e) refl refl)
      | false ↦ (λ e. ap (body_at q) (here bs at lt) ∙ plain q (get_or bs at 0) (drop (suc at) bs) other (no_backslash (get_or bs at 0) e))
    ] refl
  where
    is_backslash : (c : ℕ) → (c == 92) ≡ true → c ≡ 92
    is_backslash c e = grind (arith, nat_tests, e)

    no_backslash : (c : ℕ) → (c == 92) ≡ false → c ≢ 92
    no_backslash c e is = true≢false (sym (same_test c 92 is) ∙ e)

-- a byte more is read
pub front_more : (front : List ℕ) (c : ℕ) (read : Option (List ℕ × List ℕ)) → with_front (front ++ c ∷ []) read ≡ with_front front (with_byte c read)
front_more front c None = refl
front_more front c (Some p) = ap (λ l. Some (l, p.1)) (append_assoc front (c ∷ []) p.0)

pub front_none : (read : Option (List ℕ × List ℕ)) → with_front [] read ≡ read
front_none None = refl
front_none (Some p) = refl
