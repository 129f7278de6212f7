-- Maps from local ids, by place.
use Rattle.std.proofs.Common.{◌≡◌, ◌≢◌, ℕ, zero, suc, ◌+◌, ◌<◌, ◌≤◌, ◌==◌, Bool, true, false, cond, List, [], ◌∷◌, ◌++◌, length, get_or, set, take, refl, sym, ap, ◌∙◌, arith, Option, Some, None, slice_get, nat_lt}
use Rattle.std.specs.Ordering.{nat_cmp, eq_by_cmp}
use Rattle.std.specs.Cmp.{unsigned_tied}
use Rattle.std.specs.FinMap as fin
use Rattle.std.specs.FinMap.{get-empty, get-insert, get-remove, same_map, nat_cmp-IsAntisymmetric}
use Rattle.std.proofs.lemmas.Cmp.{nat_cmp_total}
use Rattle.std.proofs.lemmas.List.{get_or-set_same, get_or-set_other, get_or-take, length-take-le}
use Rattle.std.proofs.Math.ListN.{get_or-eq_default}
use Rattle.std.proofs.lemmas.Bool.Decides.{nat_tests}
use Rattle.proof_basics.proofs.Numbers.{same-nat, apart, lt-of, ge-of}
use Rattle.proof_basics.proofs.Options.{none_some}
use Rattle.local_ids.specs.Places.{map_from}

same_key : (q n : ℕ) → q ≡ n → eq_by_cmp nat_cmp q n ≡ true
same_key q n e = unsigned_tied q n ∙ ap (λ z. z == n) e ∙ same-nat n

other_key : (q n : ℕ) → q ≢ n → eq_by_cmp nat_cmp q n ≡ false
other_key q n f = unsigned_tied q n ∙ apart q n f

below_first : {X : Type 0} (n : ℕ) (ps : List (Option X)) (q : ℕ) → q < n → fin.get (map_from n ps) q ≡ None
below_first n [] q l = get-empty nat_cmp q
below_first n (None ∷ ps) q l = below_first (suc n) ps q (omega (arith, l))
below_first n (Some x ∷ ps) q l =
    get-insert nat_cmp_total (map_from (suc n) ps) n x q
    ∙ ap (λ b. cond b (Some x) (fin.get (map_from (suc n) ps) q)) (other_key q n (λ e. omega (arith, l, e)))
    ∙ below_first (suc n) ps q (omega (arith, l))

from_first : {X : Type 0} (n : ℕ) (ps : List (Option X)) (k : ℕ) → fin.get (map_from n ps) (n + k) ≡ get_or ps k None
from_first n [] k = get-empty nat_cmp (n + k)
from_first n (None ∷ ps) zero = below_first (suc n) ps (n + 0) (omega arith)
from_first n (None ∷ ps) (suc k) = (let e : n + suc k ≡ suc n + k = omega arith in ap (fin.get (map_from (suc n) ps)) e) ∙ from_first (suc n) ps k
from_first n (Some x ∷ ps) zero =
    get-insert nat_cmp_total (map_from (suc n) ps) n x (n + 0)
    ∙ ap (λ b. cond b (Some x) (fin.get (map_from (suc n) ps) (n + 0))) (same_key (n + 0) n (omega arith))
from_first n (Some x ∷ ps) (suc k) =
    get-insert nat_cmp_total (map_from (suc n) ps) n x (n + suc k)
    ∙ ap (λ b. cond b (Some x) (fin.get (map_from (suc n) ps) (n + suc k))) (other_key (n + suc k) n (λ e. omega (arith, e)))
    ∙ (let e : n + suc k ≡ suc n + k = omega arith in ap (fin.get (map_from (suc n) ps)) e) ∙ from_first (suc n) ps k

-- what an id has is what its place holds
pub get_is : {X : Type 0} (ps : List (Option X)) (q : ℕ) → fin.get (map_from 0 ps) q ≡ get_or ps q None
get_is ps q = (let e : q ≡ 0 + q = omega arith in ap (fin.get (map_from 0 ps)) e) ∙ from_first 0 ps q

pub held_out : {X : Type 0} (ps : List (Option X)) (at : ℕ) → slice_get ps at ≡ None → get_or ps at None ≡ None
held_out [] at e = refl
held_out (p ∷ ps) zero e = absurd (none_some p (sym e))
held_out (p ∷ ps) (suc at) e = held_out ps at e

pub set_is : {X : Type 0} (ps : List (Option X)) (at : ℕ) (v : X) → at < length ps → map_from 0 (set ps at (Some v)) ≡ fin.insert (map_from 0 ps) at v
set_is {X} ps at v l = same_map nat_cmp_total nat_cmp-IsAntisymmetric _ _ (λ q. get_is (set ps at (Some v)) q ∙ by_test q (q == at) refl ∙ sym (get-insert nat_cmp_total (map_from 0 ps) at v q))
  where
    by_test : (q : ℕ) (t : Bool) → (q == at) ≡ t → get_or (set ps at (Some v)) q None ≡ cond (eq_by_cmp nat_cmp q at) (Some v) (fin.get (map_from 0 ps) q)
    by_test q true e =
        (let same : q ≡ at = grind (arith, nat_tests) in ap (λ k. get_or (set ps at (Some v)) k None) same ∙ get_or-set_same ps at (Some v) None l ∙ ap (λ b. cond b (Some v) (fin.get (map_from 0 ps) q)) (sym (same_key q at same)))
    by_test q false e =
        (let other : q ≢ at = grind (arith, nat_tests) in get_or-set_other ps at q (Some v) None other ∙ sym (get_is ps q) ∙ ap (λ b. cond b (Some v) (fin.get (map_from 0 ps) q)) (sym (other_key q at other)))

pub clear_is : {X : Type 0} (ps : List (Option X)) (at : ℕ) → at < length ps → map_from 0 (set ps at None) ≡ fin.remove (map_from 0 ps) at
clear_is {X} ps at l = same_map nat_cmp_total nat_cmp-IsAntisymmetric _ _ (λ q. get_is (set ps at None) q ∙ by_test q (q == at) refl ∙ sym (get-remove nat_cmp_total (map_from 0 ps) at q))
  where
    by_test : (q : ℕ) (t : Bool) → (q == at) ≡ t → get_or (set ps at None) q None ≡ cond (eq_by_cmp nat_cmp q at) None (fin.get (map_from 0 ps) q)
    by_test q true e =
        (let same : q ≡ at = grind (arith, nat_tests) in ap (λ k. get_or (set ps at None) k None) same ∙ get_or-set_same ps at None None l ∙ ap (λ b. cond b None (fin.get (map_from 0 ps) q)) (sym (same_key q at same)))
    by_test q false e =
        (let other : q ≢ at = grind (arith, nat_tests) in get_or-set_other ps at q None None other ∙ sym (get_is ps q) ∙ ap (λ b. cond b None (fin.get (map_from 0 ps) q)) (sym (other_key q at other)))

pub clear_out : {X : Type 0} (ps : List (Option X)) (at : ℕ) → length ps ≤ at → map_from 0 ps ≡ fin.remove (map_from 0 ps) at
clear_out {X} ps at l = same_map nat_cmp_total nat_cmp-IsAntisymmetric _ _ (λ q. by_test q (q == at) refl ∙ sym (get-remove nat_cmp_total (map_from 0 ps) at q))
  where
    by_test : (q : ℕ) (t : Bool) → (q == at) ≡ t → fin.get (map_from 0 ps) q ≡ cond (eq_by_cmp nat_cmp q at) None (fin.get (map_from 0 ps) q)
    by_test q true e =
        (let same : q ≡ at = grind (arith, nat_tests) in ap (fin.get (map_from 0 ps)) same ∙ get_is ps at ∙ get_or-eq_default ps None l ∙ ap (λ b. cond b None (fin.get (map_from 0 ps) q)) (sym (same_key q at same)))
    by_test q false e =
        (let other : q ≢ at = grind (arith, nat_tests) in ap (λ b. cond b None (fin.get (map_from 0 ps) q)) (sym (other_key q at other)))

-- places that hold nothing, at the end
pub cut_is : {X : Type 0} (ps : List (Option X)) (k : ℕ) → k ≤ length ps → ((q : ℕ) → k ≤ q → get_or ps q None ≡ None) → map_from 0 (take k ps) ≡ map_from 0 ps
cut_is {X} ps k w free = same_map nat_cmp_total nat_cmp-IsAntisymmetric _ _ (λ q. get_is (take k ps) q ∙ by_test q (nat_lt q k) refl ∙ sym (get_is ps q))
  where
    by_test : (q : ℕ) (t : Bool) → nat_lt q k ≡ t → get_or (take k ps) q None ≡ get_or ps q None
    by_test q true e = get_or-take k ps q None (lt-of q k e)
    by_test q false e = (let many = length-take-le k ps w in get_or-eq_default (take k ps) None (let g = ge-of q k e in omega (arith, g, many))) ∙ sym (free q (ge-of q k e))

pub more_is : {X : Type 0} (n : ℕ) (ps : List (Option X)) → map_from n (ps ++ None ∷ []) ≡ map_from n ps
more_is n [] = refl
more_is n (None ∷ ps) = more_is (suc n) ps
more_is n (Some x ∷ ps) = ap (λ m. fin.insert m n x) (more_is (suc n) ps)
