-- Every state of the machine can be read on to a whole condition.
use Rattle.std.proofs.Common.{◌≡◌, ℕ, suc, ◌<◌, List, [], ◌∷◌, ◌++◌, length, sym, ap, ◌∙◌, append_assoc, append-nil, arith}
use Rattle.doc_types.specs.Tokens.{Token}
use Rattle.conditions.specs.declared.chains.Joint.TheVariants as joint
use Rattle.conditions.specs.declared.frames.Bracket.{Bracket}
use Rattle.conditions.specs.declared.frames.Bracket.TheVariants as bracket
use Rattle.conditions.specs.declared.kinds.Kind.{Kind}
use Rattle.conditions.specs.declared.kinds.Kind.TheVariants as kind
use Rattle.conditions.specs.declared.kinds.Negation.{Negation}
use Rattle.conditions.specs.declared.kinds.Negation.TheVariants as negation
use Rattle.conditions.specs.Kinds.{true_word, not_word, not_sign, opens, closes}
use Rattle.conditions.specs.Grammar.{Condition, condition, no_ors, terms, no_ands, Factor, always, atom, brackets, negated, not_brackets, condition_tokens, ors_tokens, ands_tokens, factor_tokens, ConditionFits, FactorFits}
use Rattle.conditions.specs.Machine.{Atoms, whole}
use Rattle.conditions.specs.AtomLaws.{ReadsAtoms}
use Rattle.conditions.proofs.Written.{Around, opened, waiting, Spot, wanted, wanted_bracket, read_factor, read_part, Written, stack_tokens, spot_tokens, tokens, depth, StackFits, SpotFits, Fits}

-- some tokens read on to a condition
pub record Closed {A : Type 0} (n : Negation) (L : List Token → A → Type 0) (ts : List Token) : Type 0 where
  pub more : List Token
  pub tree : Condition A
  pub whole : ts ++ more ≡ condition_tokens tree
  pub fits : ConditionFits n L 0 tree

fewer : (k : ℕ) → suc k < 65 → k < 64
fewer k h = omega arith

closed_by : {A : Type 0} (n : Negation) (L : List Token → A → Type 0) (ts us vs : List Token) → us ≡ ts ++ vs → Closed n L us → Closed n L ts
closed_by n L ts us vs e c = record { more = vs ++ c.more; tree = c.tree; whole = sym (append_assoc ts vs c.more) ∙ ap (λ l. l ++ c.more) (sym e) ∙ c.whole; fits = c.fits }

closed_same : {A : Type 0} (n : Negation) (L : List Token → A → Type 0) (ts us : List Token) → us ≡ ts → Closed n L us → Closed n L ts
closed_same n L ts us e c = record { more = c.more; tree = c.tree; whole = ap (λ l. l ++ c.more) (sym e) ∙ c.whole; fits = c.fits }

bracketed : (xs bs os ls fs : List Token) (u : Token) → xs ++ (bs ++ ((os ++ (ls ++ fs)) ++ u ∷ [])) ≡ ((xs ++ (bs ++ (os ++ ls))) ++ fs) ++ u ∷ []
bracketed xs bs os ls fs u = simp append_assoc

pub closes_from : {A : Type 0} (n : Negation) (L : List Token → A → Type 0) (gs : List (Around A)) (f : Factor A) → StackFits n L gs → FactorFits n L (depth gs) f → Closed n L (stack_tokens gs ++ factor_tokens f)
closes_from n L [] f s h = absurd s
closes_from n L (waiting ∷ []) f s h = absurd s.1.1
closes_from n L (waiting ∷ (g ∷ gs)) f s h =
    closed_same n L ((stack_tokens (g ∷ gs) ++ not_word ∷ []) ++ factor_tokens f) (stack_tokens (g ∷ gs) ++ (not_word ∷ factor_tokens f)) (sym (append_assoc (stack_tokens (g ∷ gs)) (not_word ∷ []) (factor_tokens f)))
    (closes_from n L (g ∷ gs) (negated f) s.1.1 (s.0, (fewer (length gs) s.1.0, h)))
closes_from n L (opened bracket.Outside o a ∷ []) f s h = record { more = []; tree = condition o (terms a f); whole = simp (append_assoc, append-nil); fits = (s.1.0, (s.1.1, h)) }
closes_from n L (opened bracket.Outside o a ∷ (g ∷ gs)) f s h = absurd (not_empty g gs s.0)
  where
    not_empty : {X : Type 0} (x : X) (xs : List X) → ◌≡◌ {A = List X} (x ∷ xs) [] → ⊥
    not_empty x xs e = cc
closes_from n L (opened bracket.Plain o a ∷ []) f s h = absurd s.0.1
closes_from n L (opened bracket.Plain o a ∷ (g ∷ gs)) f s h =
    closed_by n L ((stack_tokens (g ∷ gs) ++ ((opens ∷ []) ++ (ors_tokens o ++ ands_tokens a))) ++ factor_tokens f) (stack_tokens (g ∷ gs) ++ (opens ∷ ((ors_tokens o ++ (ands_tokens a ++ factor_tokens f)) ++ closes ∷ []))) (closes ∷ [])
    (bracketed (stack_tokens (g ∷ gs)) (opens ∷ []) (ors_tokens o) (ands_tokens a) (factor_tokens f) closes)
    (closes_from n L (g ∷ gs) (brackets (condition o (terms a f))) s.0.1 (fewer (length gs) s.0.0, (s.1.0, (s.1.1, h))))
closes_from n L (opened bracket.Negated o a ∷ []) f s h = absurd s.0.1.1
closes_from n L (opened bracket.Negated o a ∷ (g ∷ gs)) f s h =
    closed_by n L ((stack_tokens (g ∷ gs) ++ ((not_sign ∷ opens ∷ []) ++ (ors_tokens o ++ ands_tokens a))) ++ factor_tokens f) (stack_tokens (g ∷ gs) ++ (not_sign ∷ opens ∷ ((ors_tokens o ++ (ands_tokens a ++ factor_tokens f)) ++ closes ∷ []))) (closes ∷ [])
    (bracketed (stack_tokens (g ∷ gs)) (not_sign ∷ opens ∷ []) (ors_tokens o) (ands_tokens a) (factor_tokens f) closes)
    (closes_from n L (g ∷ gs) (not_brackets (condition o (terms a f))) s.0.1.1 (s.0.0, (fewer (length gs) s.0.1.0, (s.1.0, (s.1.1, h)))))

spot_closes : {A S : Type 0} (n : Negation) (m : Atoms A S) (L : List Token → A → Type 0) → ReadsAtoms n m L → (gs : List (Around A)) (spot : Spot A S) → StackFits n L gs → SpotFits n m L gs spot → Closed n L (stack_tokens gs ++ spot_tokens spot)
spot_closes n m L laws gs wanted s h = closed_by n L (stack_tokens gs ++ []) (stack_tokens gs ++ true_word ∷ []) (true_word ∷ []) (ap (λ l. l ++ true_word ∷ []) (sym (append-nil (stack_tokens gs)))) (closes_from n L gs always s tt)
spot_closes n m L laws [] wanted_bracket s h = absurd s
spot_closes n m L laws (g ∷ gs) wanted_bracket s h =
    closed_by n L (stack_tokens (g ∷ gs) ++ not_sign ∷ []) (stack_tokens (g ∷ gs) ++ (not_sign ∷ opens ∷ true_word ∷ closes ∷ [])) (opens ∷ true_word ∷ closes ∷ []) (sym (append_assoc (stack_tokens (g ∷ gs)) (not_sign ∷ []) (opens ∷ true_word ∷ closes ∷ [])))
    (closes_from n L (g ∷ gs) (not_brackets (condition no_ors (terms no_ands always))) s (h.0, (fewer (length gs) h.1, (tt, (tt, tt)))))
spot_closes n m L laws gs (read_factor f) s h = closes_from n L gs f s h
spot_closes n m L laws gs (read_part ts x) s h =
    let r = laws.begins ts x h in
    closed_by n L (stack_tokens gs ++ ts) (stack_tokens gs ++ (ts ++ r.0)) r.0 (sym (append_assoc (stack_tokens gs) ts r.0)) (closes_from n L gs (atom (ts ++ r.0) r.1.0) s r.1.1)

pub closes_on : {A S : Type 0} (n : Negation) (m : Atoms A S) (L : List Token → A → Type 0) → ReadsAtoms n m L → (w : Written A S) → Fits n m L w → Closed n L (tokens w)
closes_on n m L laws w fits = spot_closes n m L laws w.stack w.spot fits.0 fits.1
