-- What is asked of a language's reader of atoms.
use Rattle.std.specs.Prelude.{◌≡◌, ◌&&◌, Bool, true, false, List, [], ◌∷◌, ◌++◌, Option, Some, None, is_some, option_and_then, if◌then◌else◌}
use Rattle.doc_types.specs.Tokens.{Token}
use Rattle.conditions.specs.Machines.{run}
use Rattle.conditions.specs.declared.kinds.Kind.{Kind}
use Rattle.conditions.specs.declared.kinds.Kind.TheVariants as kind
use Rattle.conditions.specs.declared.kinds.Negation.{Negation}
use Rattle.conditions.specs.Kinds.{kind_of, ends_operand}
use Rattle.conditions.specs.Machine.{Atoms}

-- an atom begins with no token of conditions
abbrev pub first_by : {S : Type 0} → Kind → Option S → Option S
first_by kind.Other s = s
first_by _ s = None

-- and is ended by `and`, `or` and `)` where it is whole
abbrev pub next_by : {S : Type 0} → Bool → Option S → Option S
next_by true s = None
next_by false s = s

abbrev pub atom_next : {A S : Type 0} → Negation → Atoms A S → S → Token → Option S
atom_next n m s t = next_by (ends_operand (kind_of n t) && is_some (m.says s)) (m.next s t)

-- the state within an atom after its first tokens
abbrev pub atom_run : {A S : Type 0} → Negation → Atoms A S → List Token → Option S
atom_run n m [] = None
atom_run n m (t ∷ ts) = option_and_then (λ s. run (atom_next n m) s ts) (first_by (kind_of n t) (m.first t))

-- the machine reads the atoms, and every beginning that it takes is one of an atom
pub record ReadsAtoms {A S : Type 0} (n : Negation) (m : Atoms A S) (L : List Token → A → Type 0) : Type 0 where
  pub accepts : (ts : List Token) (a : A) → L ts a → (s : S) × ((atom_run n m ts ≡ Some s) × (m.says s ≡ Some a))
  pub only : (ts : List Token) (s : S) (a : A) → atom_run n m ts ≡ Some s → m.says s ≡ Some a → L ts a
  pub begins : (ts : List Token) (s : S) → atom_run n m ts ≡ Some s → (more : List Token) × ((a : A) × L (ts ++ more) a)
