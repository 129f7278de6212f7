-- The grammar of conditions over the atoms of a language: which lists of tokens are conditions, and what
-- each says.
--
--     condition = *( terms "or" ) terms
--     terms     = *( factor "and" ) factor
--     factor    = "true" / "false" / atom / "(" condition ")"
--               / "not" factor                                      where the word negates
--               / "!" "(" condition ")"                             where the sign does
use Rattle.std.specs.Prelude.{◌≡◌, ℕ, suc, ◌<◌, List, [], ◌∷◌, ◌++◌}
use Rattle.doc_types.specs.Tokens.{Token}
use Rattle.conditions.specs.declared.chains.Joint.TheVariants as joint
use Rattle.conditions.specs.declared.kinds.Negation.{Negation}
use Rattle.conditions.specs.declared.kinds.Negation.TheVariants as negation
use Rattle.conditions.specs.Formulas.{Formula, truth, falsity, claim, opposite}
use Rattle.conditions.specs.Chains.{Links, added, finished}
use Rattle.conditions.specs.Kinds.{and_word, or_word, true_word, false_word, not_word, not_sign, opens, closes}

mutual
  pub data Condition (A : Type 0) : Type 0 where
    condition : Ors A → Terms A → Condition A

  pub data Ors (A : Type 0) : Type 0 where
    no_ors : Ors A
    one_or : Ors A → Terms A → Ors A

  pub data Terms (A : Type 0) : Type 0 where
    terms : Ands A → Factor A → Terms A

  pub data Ands (A : Type 0) : Type 0 where
    no_ands : Ands A
    one_and : Ands A → Factor A → Ands A

  pub data Factor (A : Type 0) : Type 0 where
    always : Factor A
    never : Factor A
    atom : List Token → A → Factor A
    brackets : Condition A → Factor A
    negated : Factor A → Factor A
    not_brackets : Condition A → Factor A

-- how they are written
abbrev mutual
  pub condition_tokens : {A : Type 0} → Condition A → List Token
  condition_tokens (condition o t) = ors_tokens o ++ terms_tokens t

  pub ors_tokens : {A : Type 0} → Ors A → List Token
  ors_tokens no_ors = []
  ors_tokens (one_or o t) = ors_tokens o ++ (terms_tokens t ++ or_word ∷ [])

  pub terms_tokens : {A : Type 0} → Terms A → List Token
  terms_tokens (terms a f) = ands_tokens a ++ factor_tokens f

  pub ands_tokens : {A : Type 0} → Ands A → List Token
  ands_tokens no_ands = []
  ands_tokens (one_and a f) = ands_tokens a ++ (factor_tokens f ++ and_word ∷ [])

  pub factor_tokens : {A : Type 0} → Factor A → List Token
  factor_tokens always = true_word ∷ []
  factor_tokens never = false_word ∷ []
  factor_tokens (atom ts a) = ts
  factor_tokens (brackets c) = opens ∷ (condition_tokens c ++ closes ∷ [])
  factor_tokens (negated f) = not_word ∷ factor_tokens f
  factor_tokens (not_brackets c) = not_sign ∷ opens ∷ (condition_tokens c ++ closes ∷ [])

-- they fit where some constructs are open already: brackets and negations are nested at most 64 deep, and
-- `!` counts with its bracket
abbrev mutual
  pub ConditionFits : {A : Type 0} → Negation → (List Token → A → Type 0) → ℕ → Condition A → Type 0
  ConditionFits n L d (condition o t) = OrsFit n L d o × TermsFit n L d t

  pub OrsFit : {A : Type 0} → Negation → (List Token → A → Type 0) → ℕ → Ors A → Type 0
  OrsFit n L d no_ors = Unit {0}
  OrsFit n L d (one_or o t) = OrsFit n L d o × TermsFit n L d t

  pub TermsFit : {A : Type 0} → Negation → (List Token → A → Type 0) → ℕ → Terms A → Type 0
  TermsFit n L d (terms a f) = AndsFit n L d a × FactorFits n L d f

  pub AndsFit : {A : Type 0} → Negation → (List Token → A → Type 0) → ℕ → Ands A → Type 0
  AndsFit n L d no_ands = Unit {0}
  AndsFit n L d (one_and a f) = AndsFit n L d a × FactorFits n L d f

  pub FactorFits : {A : Type 0} → Negation → (List Token → A → Type 0) → ℕ → Factor A → Type 0
  FactorFits n L d always = Unit {0}
  FactorFits n L d never = Unit {0}
  FactorFits n L d (atom ts a) = L ts a
  FactorFits n L d (brackets c) = (d < 64) × ConditionFits n L (suc d) c
  FactorFits n L d (negated f) = (n ≡ negation.Word) × ((d < 64) × FactorFits n L (suc d) f)
  FactorFits n L d (not_brackets c) = (n ≡ negation.Sign) × ((d < 64) × ConditionFits n L (suc d) c)

-- what they say
abbrev mutual
  pub condition_formula : {A : Type 0} → Condition A → Formula A
  condition_formula (condition o t) = finished joint.Or (terms_formula t) (ors_links o)

  pub ors_links : {A : Type 0} → Ors A → Links A
  ors_links no_ors = []
  ors_links (one_or o t) = added joint.Or (terms_formula t) (ors_links o)

  pub terms_formula : {A : Type 0} → Terms A → Formula A
  terms_formula (terms a f) = finished joint.And (factor_formula f) (ands_links a)

  pub ands_links : {A : Type 0} → Ands A → Links A
  ands_links no_ands = []
  ands_links (one_and a f) = added joint.And (factor_formula f) (ands_links a)

  pub factor_formula : {A : Type 0} → Factor A → Formula A
  factor_formula always = truth
  factor_formula never = falsity
  factor_formula (atom ts a) = claim a
  factor_formula (brackets c) = condition_formula c
  factor_formula (negated f) = opposite (factor_formula f)
  factor_formula (not_brackets c) = opposite (condition_formula c)

-- the tokens are a condition that says a formula, where L ties the tokens of an atom to what it says
pub record IsCondition {A : Type 0} (n : Negation) (L : List Token → A → Type 0) (tokens : List Token) (formula : Formula A) : Type 0 where
  pub tree : Condition A
  pub written : tokens ≡ condition_tokens tree
  pub fits : ConditionFits n L 0 tree
  pub says : formula ≡ condition_formula tree
