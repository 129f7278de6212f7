-- Seats keep what they have seen.
use Rattle.std.proofs.Common.{ℕ, zero, suc, ◌<◌, List, [], ◌∷◌, ◌++◌, length, set, get_or, Option, None, Some, refl, sym, ◌∙◌, ap, arith, append_assoc}
use Rattle.std.proofs.lemmas.List.{append-nil}
use mathlib.Core.List.{IsPrefix}
use Rattle.view_changes.specs.declared.change.LaneChange.{LaneChange}
use Rattle.generation_guard.specs.Known.{Known}
use Rattle.search_seats.specs.Searches.{KeepsSeat, KeepSeats}

begins_on : (xs ys zs : List LaneChange) → IsPrefix xs ys → IsPrefix ys zs → IsPrefix xs zs
begins_on xs ys zs (r, p) (t, q) = (r ++ t, sym (append_assoc xs r t) ∙ (ap (λ (l : List LaneChange). l ++ t) p ∙ q))

keeps_itself : (s : Option Known) → KeepsSeat s s
keeps_itself None = tt
keeps_itself (Some s) = record { shelf = refl; seen = ([], append-nil s.seen) }

keeps_on : (a b c : Option Known) → KeepsSeat a b → KeepsSeat b c → KeepsSeat a c
keeps_on None None None h k = tt
keeps_on None None (Some c) h k = absurd k
keeps_on None (Some b) c h k = absurd h
keeps_on (Some a) None c h k = absurd h
keeps_on (Some a) (Some b) None h k = absurd k
keeps_on (Some a) (Some b) (Some c) h k = record { shelf = k.shelf ∙ h.shelf; seen = begins_on a.seen b.seen c.seen h.seen k.seen }

pub keep_all : (xs : List (Option Known)) → KeepSeats xs xs
keep_all [] = tt
keep_all (s ∷ xs) = (keeps_itself s, keep_all xs)

pub keep_on : (xs ys zs : List (Option Known)) → KeepSeats xs ys → KeepSeats ys zs → KeepSeats xs zs
keep_on [] [] [] h k = tt
keep_on [] [] (z ∷ zs) h k = absurd k
keep_on [] (y ∷ ys) zs h k = absurd h
keep_on (x ∷ xs) [] zs h k = absurd h
keep_on (x ∷ xs) (y ∷ ys) [] h k = absurd k
keep_on (x ∷ xs) (y ∷ ys) (z ∷ zs) h k = (keeps_on x y z h.0 k.0, keep_on xs ys zs h.1 k.1)

-- one seat sees on
pub keep_set : (xs : List (Option Known)) (k : ℕ) (s d : Option Known) → k < length xs → KeepsSeat (get_or xs k d) s → KeepSeats xs (set xs k s)
keep_set [] k s d less step = absurd (omega arith)
keep_set (x ∷ xs) zero s d less step = (step, keep_all xs)
keep_set (x ∷ xs) (suc k) s d less step = (keeps_itself x, keep_set xs k s d (omega arith) step)
