-- What holds of the part of an atom that was read.
use Rattle.std.proofs.Common.{◌≡◌, Bool, true, false, ◌&&◌, List, [], ◌∷◌, ◌++◌, Option, Some, None, is_some, refl, sym, ap, subst, ◌∙◌, option_and_then, append_assoc, append-nil}
use Rattle.doc_types.specs.Tokens.{Token}
use Rattle.conditions.specs.Machines.{run}
use Rattle.conditions.specs.declared.kinds.Kind.{Kind}
use Rattle.conditions.specs.declared.kinds.Kind.TheVariants as kind
use Rattle.conditions.specs.declared.kinds.Negation.{Negation}
use Rattle.conditions.specs.Kinds.{kind_of, ends_operand}
use Rattle.conditions.specs.Machine.{Atoms}
use Rattle.conditions.specs.AtomLaws.{atom_run, atom_next, first_by, next_by}
use Rattle.proof_basics.proofs.Options.{some_same, none_some}

first_back : {S : Type 0} (k : Kind) (x : Option S) (s : S) → first_by k x ≡ Some s → (k ≡ kind.Other) × (x ≡ Some s)
first_back kind.Other x s e = (refl, e)
first_back kind.And x s e = absurd (none_some s e)
first_back kind.Or x s e = absurd (none_some s e)
first_back kind.Not x s e = absurd (none_some s e)
first_back kind.Open x s e = absurd (none_some s e)
first_back kind.Close x s e = absurd (none_some s e)
first_back kind.True x s e = absurd (none_some s e)
first_back kind.False x s e = absurd (none_some s e)

next_back : {S : Type 0} (b : Bool) (x : Option S) (s : S) → next_by b x ≡ Some s → x ≡ Some s
next_back true x s e = absurd (none_some s e)
next_back false x s e = e

and_false : (b : Bool) → (b && false) ≡ false
and_false true = refl
and_false false = refl

-- a part that says nothing yet goes on
pub part_goes_on : {A S : Type 0} (n : Negation) (m : Atoms A S) (s : S) (t : Token) (q : S) → m.says s ≡ None → m.next s t ≡ Some q → atom_next n m s t ≡ Some q
part_goes_on n m s t q none e =
    ap (λ o. next_by (ends_operand (kind_of n t) && is_some o) (m.next s t)) none ∙ ap (λ b. next_by b (m.next s t)) (and_false (ends_operand (kind_of n t))) ∙ e

run_reaches : {A S : Type 0} (n : Negation) (m : Atoms A S) (P : List Token → S → Type 0) → ((ts : List Token) (t : Token) (s q : S) → P ts s → m.next s t ≡ Some q → P (ts ++ t ∷ []) q)
    → (us ts : List Token) (s q : S) → P us s → run (atom_next n m) s ts ≡ Some q → P (us ++ ts) q
run_reaches n m P more us [] s q p e = subst (λ l. P l q) (sym (append-nil us)) (subst (P us) (some_same s q e) p)
run_reaches n m P more us (t ∷ ts) s q p e = elim (atom_next n m s t) as (λ o. atom_next n m s t ≡ o → option_and_then (λ w. run (atom_next n m) w ts) o ≡ Some q → P (us ++ t ∷ ts) q) [
  | None ↦ λ d f. absurd (none_some q f)
  | Some w ↦ λ d f. subst (λ l. P l q) (append_assoc us (t ∷ []) ts)
      (run_reaches n m P more (us ++ t ∷ []) ts w q (more us t s w p (next_back (ends_operand (kind_of n t) && is_some (m.says s)) (m.next s t) w d)) f)
] refl e

-- by its first token and each further one
pub atom_reaches : {A S : Type 0} (n : Negation) (m : Atoms A S) (P : List Token → S → Type 0) → ((t : Token) (s : S) → kind_of n t ≡ kind.Other → m.first t ≡ Some s → P (t ∷ []) s)
    → ((ts : List Token) (t : Token) (s q : S) → P ts s → m.next s t ≡ Some q → P (ts ++ t ∷ []) q)
    → (ts : List Token) (q : S) → atom_run n m ts ≡ Some q → P ts q
atom_reaches n m P begins more [] q e = absurd (none_some q e)
atom_reaches n m P begins more (t ∷ ts) q e = elim (first_by (kind_of n t) (m.first t)) as (λ o. first_by (kind_of n t) (m.first t) ≡ o → option_and_then (λ w. run (atom_next n m) w ts) o ≡ Some q → P (t ∷ ts) q) [
  | None ↦ λ d f. absurd (none_some q f)
  | Some s ↦ λ d f. let h = first_back (kind_of n t) (m.first t) s d in run_reaches n m P more (t ∷ []) ts s q (begins t s h.0 h.1) f
] refl e
