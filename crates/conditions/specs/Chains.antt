-- Chains of `and` or of `or` as balanced trees.
use Rattle.std.specs.Prelude.{ℕ, ◌+◌, ◌==◌, min, List, [], ◌∷◌, if◌then◌else◌}
use Rattle.conditions.specs.declared.chains.Joint.{Joint}
use Rattle.conditions.specs.declared.chains.Joint.TheVariants as joint
use Rattle.conditions.specs.Formulas.{Formula, both, either}

-- the formulas of a chain, newest first, each with its rank: it joins about 2 ^ rank terms
abbrev pub Links : Type 0 → Type 0
Links A = List (ℕ × Formula A)

abbrev pub joined : {A : Type 0} → Joint → Formula A → Formula A → Formula A
joined joint.And x y = both x y
joined joint.Or x y = either x y

-- a term of some rank joins the newest one as long as that has the same rank
abbrev pub carried : {A : Type 0} → Joint → ℕ → Formula A → Links A → Links A
carried j r x [] = (r, x) ∷ []
carried j r x (link ∷ links) = if r == link.0 then carried j (min (r + 1) 4294967295) (joined j link.1 x) links else (r, x) ∷ link ∷ links

-- a chain with one term more
abbrev pub added : {A : Type 0} → Joint → Formula A → Links A → Links A
added j x links = carried j 0 x links

-- the formula of a chain and its last term
abbrev pub finished : {A : Type 0} → Joint → Formula A → Links A → Formula A
finished j x [] = x
finished j x (link ∷ links) = finished j (joined j link.1 x) links
