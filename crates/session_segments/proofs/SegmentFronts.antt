-- The fronts that a segment's searches leave.
use Rattle.std.proofs.Common.{◌≡◌, ◌≢◌, ◌==◌, ◌≤◌, ◌+◌, ℕ, zero, suc, Bool, true, false, List, [], ◌∷◌, ◌++◌, None, Some, refl, sym, ap, ◌∙◌, arith, length, take, append_assoc, if◌then◌else◌}
use Rattle.std.proofs.lemmas.Bool.Decides.{nat_tests}
use Rattle.query_text.specs.Grammar.{Said}
use Rattle.session_cluster.specs.Searches.{fronts_of}
use Rattle.session_cluster.specs.declared.searching.LineFronts.{LineFronts}
use Rattle.session_cluster.specs.declared.asked.Asked.{Asked}
use Rattle.session_cluster.specs.declared.asked.Asked.TheVariants as command
use Rattle.session_segments.specs.Fed.{front_of, fronts_from}

same_number : (a b : ℕ) → a ≡ b → (a == b) ≡ true
same_number a b h = grind (arith, nat_tests)

other_number : (a b : ℕ) → a ≢ b → (a == b) ≡ false
other_number a b h = grind (arith, nat_tests)

-- behind fronts of other lines
pub fronts_behind : (line : ℕ) (fs gs : List LineFronts) → fronts_of line fs ≡ None → fronts_of line (fs ++ gs) ≡ fronts_of line gs
fronts_behind line [] gs none = refl
fronts_behind line (f ∷ fs) gs none = by_test (f.line == line) none (fronts_behind line fs gs)
  where
    by_test : (t : Bool) → (if t then Some f.fronts else fronts_of line fs) ≡ None → (fronts_of line fs ≡ None → fronts_of line (fs ++ gs) ≡ fronts_of line gs)
        → (if t then Some f.fronts else fronts_of line (fs ++ gs)) ≡ fronts_of line gs
    by_test true h rest = cc h
    by_test false h rest = rest h

-- a line that reads has fronts of its own number alone
front_other : (line other : ℕ) (c : Asked) (g : List ℕ) → other ≢ line → fronts_of other (front_of line c g) ≡ None
front_other line other (command.Search query) g apart = ap (λ t. if t then Some g else None) (other_number line other (λ e. apart (sym e)))
front_other line other command.Blank g apart = refl
front_other line other command.TooLong g apart = refl
front_other line other command.Barrier g apart = refl
front_other line other (command.Bad why) g apart = refl
front_other line other (command.Feed op via) g apart = refl
front_other line other (command.State state deaf) g apart = refl
front_other line other (command.BadState offset) g apart = refl
front_other line other (command.Stop node) g apart = refl
front_other line other (command.Start node) g apart = refl
front_other line other (command.Net at fates) g apart = refl
front_other line other command.Maintain g apart = refl
front_other line other (command.BadQuery offset) g apart = refl

-- a later line has none
pub fronts_later : (first line : ℕ) (cs : List Asked) (g : List ℕ) → first + length cs ≤ line → fronts_of line (fronts_from first cs g) ≡ None
fronts_later first line [] g late = refl
fronts_later first line (c ∷ cs) g late =
    fronts_behind line (front_of first c g) (fronts_from (suc first) cs g) (front_other first line c g (λ e. absurd (omega (arith, e, late))))
    ∙ fronts_later (suc first) line cs g (omega (arith, late))

-- lines, and others behind them
pub fronts_append : (first : ℕ) (cs ds : List Asked) (g : List ℕ) → fronts_from first (cs ++ ds) g ≡ fronts_from first cs g ++ fronts_from (first + length cs) ds g
fronts_append first [] ds g = ap (λ n. fronts_from n ds g) (omega arith)
fronts_append first (c ∷ cs) ds g =
    ap (λ fs. front_of first c g ++ fs) (fronts_append (suc first) cs ds g ∙ ap (λ n. fronts_from (suc first) cs g ++ fronts_from n ds g) (omega arith))
    ∙ sym (append_assoc (front_of first c g) (fronts_from (suc first) cs g) (fronts_from (first + length (c ∷ cs)) ds g))

-- a search among them has its own
pub fronts_own_line : (line : ℕ) (query : Said) (rest : List Asked) (g : List ℕ) → fronts_of line (fronts_from line (command.Search query ∷ rest) g) ≡ Some g
fronts_own_line line query rest g = ap (λ t. if t then Some g else fronts_of line (fronts_from (suc line) rest g)) (same_number line line refl)

-- among all of a segment, where no front was of its line before
pub fronts_found : (first line : ℕ) (done : List Asked) (query : Said) (rest : List Asked) (fs : List LineFronts) (g : List ℕ) → line ≡ first + length done → fronts_of line fs ≡ None
    → fronts_of line (fs ++ fronts_from first (done ++ command.Search query ∷ rest) g) ≡ Some g
fronts_found first line done query rest fs g is none =
    fronts_behind line fs (fronts_from first (done ++ command.Search query ∷ rest) g) none
    ∙ ap (fronts_of line) (fronts_append first done (command.Search query ∷ rest) g)
    ∙ fronts_behind line (fronts_from first done g) (fronts_from (first + length done) (command.Search query ∷ rest) g) (fronts_later first line done g (omega (arith, is)))
    ∙ ap (λ n. fronts_of line (fronts_from n (command.Search query ∷ rest) g)) (sym is)
    ∙ fronts_own_line line query rest g

pub take_short : {A : Type 0} (n : ℕ) (xs : List A) → length (take n xs) ≤ length xs
take_short zero [] = omega arith
take_short (suc n) [] = omega arith
take_short zero (x ∷ xs) = omega arith
take_short (suc n) (x ∷ xs) = let rest = take_short n xs in omega (arith, rest)

pub take_front : {A : Type 0} (xs ys : List A) → take (length xs) (xs ++ ys) ≡ xs
take_front [] [] = refl
take_front [] (y ∷ ys) = refl
take_front (x ∷ xs) ys = ap (λ (zs : List _). x ∷ zs) (take_front xs ys)
