-- Balanced trees mean what their chains mean.
use Rattle.std.proofs.Common.{◌≡◌, ℕ, ◌+◌, ◌==◌, min, Bool, true, false, not, cond, ◌&&◌, ◌||◌, [], ◌∷◌, refl, sym, ap, ap₂, ◌∙◌}
use Rattle.conditions.specs.declared.chains.Joint.TheVariants as joint
use Rattle.conditions.specs.Formulas.{Formula, both, either, holds}
use Rattle.conditions.specs.Chains.{Links, carried, finished}
use Rattle.conditions.specs.Grammar.{Condition, condition, Ors, no_ors, one_or, Terms, terms, Ands, no_ands, one_and, Factor, always, never, atom, brackets, negated, not_brackets, condition_formula, ors_links, terms_formula, ands_links, factor_formula}
use Rattle.conditions.specs.Meaning.{condition_holds, some_holds, terms_hold, all_hold, factor_holds}

or_assoc : (a b c : Bool) → ((a || b) || c) ≡ (a || (b || c))
or_assoc true b c = refl
or_assoc false b c = refl

and_assoc : (a b c : Bool) → ((a && b) && c) ≡ (a && (b && c))
and_assoc true b c = refl
and_assoc false b c = refl

-- the truth of the links of a chain
some_link : {A : Type 0} → (A → Bool) → Links A → Bool
some_link p [] = false
some_link p (link ∷ links) = some_link p links || holds p link.1

all_links : {A : Type 0} → (A → Bool) → Links A → Bool
all_links p [] = true
all_links p (link ∷ links) = all_links p links && holds p link.1

finished_or : {A : Type 0} (p : A → Bool) (x : Formula A) (links : Links A) → holds p (finished joint.Or x links) ≡ (some_link p links || holds p x)
unfolding some_link
finished_or p x [] = refl
finished_or p x (link ∷ links) = finished_or p (either link.1 x) links ∙ sym (or_assoc (some_link p links) (holds p link.1) (holds p x))

finished_and : {A : Type 0} (p : A → Bool) (x : Formula A) (links : Links A) → holds p (finished joint.And x links) ≡ (all_links p links && holds p x)
unfolding all_links
finished_and p x [] = refl
finished_and p x (link ∷ links) = finished_and p (both link.1 x) links ∙ sym (and_assoc (all_links p links) (holds p link.1) (holds p x))

carried_or : {A : Type 0} (p : A → Bool) (r : ℕ) (x : Formula A) (links : Links A) → some_link p (carried joint.Or r x links) ≡ (some_link p links || holds p x)
unfolding some_link
carried_or p r x [] = refl
carried_or {A = A} p r x (link ∷ links) = elim (r == link.0) as (λ b. some_link p (cond b (carried joint.Or (min (r + 1) 4294967295) (either link.1 x) links) ((r, x) ∷ link ∷ links)) ≡ ((some_link p links || holds p link.1) || holds p x)) [
  | true ↦ carried_or p (min (r + 1) 4294967295) (either link.1 x) links ∙ sym (or_assoc (some_link p links) (holds p link.1) (holds p x))
  | false ↦ refl
]

carried_and : {A : Type 0} (p : A → Bool) (r : ℕ) (x : Formula A) (links : Links A) → all_links p (carried joint.And r x links) ≡ (all_links p links && holds p x)
unfolding all_links
carried_and p r x [] = refl
carried_and {A = A} p r x (link ∷ links) = elim (r == link.0) as (λ b. all_links p (cond b (carried joint.And (min (r + 1) 4294967295) (both link.1 x) links) ((r, x) ∷ link ∷ links)) ≡ ((all_links p links && holds p link.1) && holds p x)) [
  | true ↦ carried_and p (min (r + 1) 4294967295) (both link.1 x) links ∙ sym (and_assoc (all_links p links) (holds p link.1) (holds p x))
  | false ↦ refl
]

mutual
  unfolding some_link all_links

  pub condition_means : {A : Type 0} (p : A → Bool) (c : Condition A) → holds p (condition_formula c) ≡ condition_holds p c
  condition_means p (condition o t) = finished_or p (terms_formula t) (ors_links o) ∙ ap₂ (λ a b. a || b) (ors_mean p o) (terms_mean p t)

  ors_mean : {A : Type 0} (p : A → Bool) (o : Ors A) → some_link p (ors_links o) ≡ some_holds p o
  ors_mean p no_ors = refl
  ors_mean p (one_or o t) = carried_or p 0 (terms_formula t) (ors_links o) ∙ ap₂ (λ a b. a || b) (ors_mean p o) (terms_mean p t)

  terms_mean : {A : Type 0} (p : A → Bool) (t : Terms A) → holds p (terms_formula t) ≡ terms_hold p t
  terms_mean p (terms a f) = finished_and p (factor_formula f) (ands_links a) ∙ ap₂ (λ a b. a && b) (ands_mean p a) (factor_means p f)

  ands_mean : {A : Type 0} (p : A → Bool) (a : Ands A) → all_links p (ands_links a) ≡ all_hold p a
  ands_mean p no_ands = refl
  ands_mean p (one_and a f) = carried_and p 0 (factor_formula f) (ands_links a) ∙ ap₂ (λ a b. a && b) (ands_mean p a) (factor_means p f)

  factor_means : {A : Type 0} (p : A → Bool) (f : Factor A) → holds p (factor_formula f) ≡ factor_holds p f
  factor_means p always = refl
  factor_means p never = refl
  factor_means p (atom ts a) = refl
  factor_means p (brackets c) = condition_means p c
  factor_means p (negated f) = ap not (factor_means p f)
  factor_means p (not_brackets c) = ap not (condition_means p c)
