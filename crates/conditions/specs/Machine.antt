-- A machine that reads conditions token by token, with a stack of the brackets and negations that are open.
use Rattle.std.specs.Prelude.{◌≡◌, ◌&&◌, Bool, List, [], ◌∷◌, ◌++◌, length, Option, Some, None, is_some, nat_lt, option_map, option_and_then, if◌then◌else◌}
use Rattle.doc_types.specs.Tokens.{Token}
use Rattle.conditions.specs.declared.chains.Joint.TheVariants as joint
use Rattle.conditions.specs.declared.kinds.Kind.{Kind}
use Rattle.conditions.specs.declared.kinds.Kind.TheVariants as kind
use Rattle.conditions.specs.declared.kinds.Negation.{Negation}
use Rattle.conditions.specs.declared.kinds.Negation.TheVariants as negation
use Rattle.conditions.specs.declared.frames.Bracket.{Bracket}
use Rattle.conditions.specs.declared.frames.Bracket.TheVariants as bracket
use Rattle.conditions.specs.Formulas.{Formula, truth, falsity, claim, opposite}
use Rattle.conditions.specs.Chains.{Links, added, finished}
use Rattle.conditions.specs.Kinds.{kind_of, ends_operand, is_other}

-- what is open: a bracket (or the whole text) with the chains before the place, or a `not`
pub data Frame (A : Type 0) : Type 0 where
  level : Bracket → Links A → Links A → Frame A
  pending : Frame A

-- what the place wants: an operand, the bracket behind `!`, or nothing, behind an operand
pub data Gap (A : Type 0) : Type 0 where
  want : Gap A
  want_bracket : Gap A
  behind : Formula A → Gap A

abbrev pub Moved : Type 0 → Type 0
Moved A = List (Frame A) × Gap A

-- an operand with all `not`s that wait for it
abbrev pub settle : {A : Type 0} → Formula A → List (Frame A) → Formula A × List (Frame A)
settle x [] = (x, [])
settle x (pending ∷ fs) = settle (opposite x) fs
settle x (level b o a ∷ fs) = (x, level b o a ∷ fs)

-- the whole text and at most 64 constructs are open
abbrev pub has_room : {A : Type 0} → List (Frame A) → Bool
has_room fs = nat_lt (length fs) 65

abbrev pub open_frame : {A : Type 0} → Frame A → List (Frame A) → Option (Moved A)
open_frame f fs = if has_room fs then Some (f ∷ fs, want) else None

abbrev pub negate : {A : Type 0} → Negation → List (Frame A) → Option (Moved A)
negate negation.Word fs = open_frame pending fs
negate negation.Sign fs = if has_room fs then Some (fs, want_bracket) else None

abbrev pub want_step : {A : Type 0} → Negation → Kind → List (Frame A) → Option (Moved A)
want_step n kind.Not fs = negate n fs
want_step n kind.Open fs = open_frame (level bracket.Plain [] []) fs
want_step n kind.True fs = Some (fs, behind truth)
want_step n kind.False fs = Some (fs, behind falsity)
want_step n _ fs = None

abbrev pub bracket_step : {A : Type 0} → Kind → List (Frame A) → Option (Moved A)
bracket_step kind.Open fs = Some (level bracket.Negated [] [] ∷ fs, want)
bracket_step _ fs = None

abbrev pub and_step : {A : Type 0} → Formula A → List (Frame A) → Option (Moved A)
and_step x (level b o a ∷ fs) = Some (level b o (added joint.And x a) ∷ fs, want)
and_step x _ = None

abbrev pub or_step : {A : Type 0} → Formula A → List (Frame A) → Option (Moved A)
or_step x (level b o a ∷ fs) = Some (level b (added joint.Or (finished joint.And x a) o) [] ∷ fs, want)
or_step x _ = None

-- what a level says with its last operand
abbrev pub level_formula : {A : Type 0} → Formula A → Links A → Links A → Formula A
level_formula x o a = finished joint.Or (finished joint.And x a) o

abbrev pub bracket_formula : {A : Type 0} → Bracket → Formula A → List (Frame A) → Option (Moved A)
bracket_formula bracket.Outside x fs = None
bracket_formula bracket.Plain x fs = Some (fs, behind x)
bracket_formula bracket.Negated x fs = Some (fs, behind (opposite x))

abbrev pub close_step : {A : Type 0} → Formula A → List (Frame A) → Option (Moved A)
close_step x (level b o a ∷ fs) = bracket_formula b (level_formula x o a) fs
close_step x _ = None

-- behind an operand
abbrev pub behind_step : {A : Type 0} → Kind → Formula A × List (Frame A) → Option (Moved A)
behind_step kind.And p = and_step p.0 p.1
behind_step kind.Or p = or_step p.0 p.1
behind_step kind.Close p = close_step p.0 p.1
behind_step _ p = None

abbrev pub gap_step : {A : Type 0} → Negation → Kind → Gap A → List (Frame A) → Option (Moved A)
gap_step n k want fs = want_step n k fs
gap_step n k want_bracket fs = bracket_step k fs
gap_step n k (behind x) fs = behind_step k (settle x fs)

-- the formula of the whole text, where nothing is open
abbrev pub outside_formula : {A : Type 0} → Bracket → Formula A → Option (Formula A)
outside_formula bracket.Outside x = Some x
outside_formula _ x = None

abbrev pub whole_formula : {A : Type 0} → Formula A × List (Frame A) → Option (Formula A)
whole_formula (x, []) = None
whole_formula (x, pending ∷ fs) = None
whole_formula (x, level b o a ∷ fs) = outside_formula b (level_formula x o a)

-- how a language reads its atoms: from a first token, on by one token more, and what the tokens say
pub record Atoms (A S : Type 0) : Type 0 where
  pub first : Token → Option S
  pub next : S → Token → Option S
  pub says : S → Option A

-- a place within an atom, or outside of one
pub data Place (A S : Type 0) : Type 0 where
  outside : Gap A → Place A S
  within : S → Place A S

pub record State (A S : Type 0) : Type 0 where
  pub stack : List (Frame A)
  pub place : Place A S

abbrev pub in_gap : {A S : Type 0} → Moved A → State A S
in_gap m = record { stack = m.0; place = outside m.1 }

abbrev pub in_atom : {A S : Type 0} → List (Frame A) → S → State A S
in_atom fs s = record { stack = fs; place = within s }

-- a token that is none of conditions begins an atom where an operand is wanted
abbrev pub other_step : {A S : Type 0} → Atoms A S → Token → Gap A → List (Frame A) → Option (State A S)
other_step m t want fs = option_map (in_atom fs) (m.first t)
other_step m t _ fs = None

-- a token outside of atoms
abbrev pub outside_step : {A S : Type 0} → Negation → Atoms A S → Kind → Token → Gap A → List (Frame A) → Option (State A S)
outside_step n m k t g fs = if is_other k then other_step m t g fs else option_map in_gap (gap_step n k g fs)

-- a token behind the beginning of an atom; `and`, `or` and `)` end an atom that is whole
abbrev pub within_step : {A S : Type 0} → Atoms A S → Kind → Token → S → List (Frame A) → Option (State A S)
within_step m k t s fs = if ends_operand k && is_some (m.says s)
    then option_map in_gap (option_and_then (λ a. behind_step k (settle (claim a) fs)) (m.says s))
    else option_map (in_atom fs) (m.next s t)

abbrev pub place_step : {A S : Type 0} → Negation → Atoms A S → Kind → Token → Place A S → List (Frame A) → Option (State A S)
place_step n m k t (outside g) fs = outside_step n m k t g fs
place_step n m k t (within s) fs = within_step m k t s fs

abbrev pub step : {A S : Type 0} → Negation → Atoms A S → State A S → Token → Option (State A S)
step n m x t = place_step n m (kind_of n t) t x.place x.stack

-- the operand behind which a place stands
abbrev pub operand : {A S : Type 0} → Atoms A S → Place A S → Option (Formula A)
operand m (outside want) = None
operand m (outside want_bracket) = None
operand m (outside (behind x)) = Some x
operand m (within s) = option_map claim (m.says s)

-- the formula of the whole text, where the place is its end
abbrev pub whole : {A S : Type 0} → Atoms A S → State A S → Option (Formula A)
whole m x = option_and_then (λ o. whole_formula (settle o x.stack)) (operand m x.place)

abbrev pub start : {A S : Type 0} → State A S
start = record { stack = level bracket.Outside [] [] ∷ []; place = outside want }
