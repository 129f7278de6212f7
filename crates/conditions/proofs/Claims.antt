-- The machine reads exactly the conditions.
use Rattle.std.proofs.Common.{◌≡◌, ◌<◌, List, [], ◌∷◌, ◌++◌, length, Some, None, refl, sym, ap, subst, ◌∙◌, option_and_then, option_map, append_assoc, append-nil}
use Rattle.doc_types.specs.Tokens.{Token}
use Rattle.conditions.specs.Readings.{Begins}
use Rattle.conditions.specs.Machines.{run, Reads}
use Rattle.conditions.specs.declared.chains.Joint.TheVariants as joint
use Rattle.conditions.specs.declared.frames.Bracket.{Bracket}
use Rattle.conditions.specs.declared.frames.Bracket.TheVariants as bracket
use Rattle.conditions.specs.declared.kinds.Kind.{Kind}
use Rattle.conditions.specs.declared.kinds.Kind.TheVariants as kind
use Rattle.conditions.specs.declared.kinds.Negation.{Negation}
use Rattle.conditions.specs.declared.kinds.Negation.TheVariants as negation
use Rattle.conditions.specs.Formulas.{Formula, claim}
use Rattle.conditions.specs.Grammar.{condition, Ors, no_ors, terms, Ands, no_ands, Factor, atom, condition_tokens, ors_tokens, ands_tokens, factor_tokens, FactorFits, condition_formula, ors_links, ands_links, factor_formula, IsCondition}
use Rattle.conditions.specs.Machine.{Frame, level, Atoms, State, settle, level_formula, outside_formula, whole_formula, step, operand, whole, start}
use Rattle.conditions.specs.AtomLaws.{ReadsAtoms}
use Rattle.conditions.proofs.Written.{Around, opened, Spot, wanted, wanted_bracket, read_factor, read_part, Written, stack_seen, spot_seen, seen, bracket_tokens, stack_tokens, spot_tokens, tokens, depth, StackFits, SpotFits, Fits, Settled, settled}
use Rattle.proof_basics.proofs.Options.{some_same, none_some}
use Rattle.conditions.proofs.Accepting.{Comes, stands, accept_condition, last_formula, last_ors, last_ands, last_is}
use Rattle.conditions.proofs.Stepping.{Stepped, stepped}
use Rattle.conditions.proofs.Closing.{Closed, closes_on}

not_empty : {X : Type 0} (x : X) (xs : List X) → ◌≡◌ {A = List X} (x ∷ xs) [] → ⊥
not_empty x xs e = cc

outside_whole : {A : Type 0} (n : Negation) (L : List Token → A → Type 0) (b : Bracket) (o : Ors A) (a : Ands A) (below : List (Around A)) (f : Factor A) (ts : List Token) (v : Formula A)
    → StackFits n L (opened b o a ∷ below) → FactorFits n L (length below) f → ts ≡ (stack_tokens below ++ (bracket_tokens b ++ (ors_tokens o ++ ands_tokens a))) ++ factor_tokens f
    → outside_formula b (level_formula (factor_formula f) (ors_links o) (ands_links a)) ≡ Some v → IsCondition n L ts v
outside_whole n L bracket.Outside o a [] f ts v s h same e = record { tree = condition o (terms a f); written = same ∙ append_assoc (ors_tokens o) (ands_tokens a) (factor_tokens f); fits = (s.1.0, (s.1.1, h)); says = sym (some_same _ v e) }
outside_whole n L bracket.Outside o a (g ∷ gs) f ts v s h same e = absurd (not_empty g gs s.0)
outside_whole n L bracket.Plain o a below f ts v s h same e = absurd (none_some v e)
outside_whole n L bracket.Negated o a below f ts v s h same e = absurd (none_some v e)

factor_whole : {A : Type 0} (n : Negation) (L : List Token → A → Type 0) (gs : List (Around A)) (f : Factor A) (v : Formula A) → StackFits n L gs → FactorFits n L (depth gs) f
    → whole_formula (settle (factor_formula f) (stack_seen gs)) ≡ Some v → IsCondition n L (stack_tokens gs ++ factor_tokens f) v
factor_whole n L gs f v s h e =
    let r : Settled n L gs f = settled n L gs f s h in
    outside_whole n L r.bracket r.ors r.ands r.below r.last (stack_tokens gs ++ factor_tokens f) v r.stack_fits r.fits r.same (subst (λ q. whole_formula q ≡ Some v) r.settles e)

spot_whole : {A S : Type 0} (n : Negation) (m : Atoms A S) (L : List Token → A → Type 0) → ReadsAtoms n m L → (gs : List (Around A)) (spot : Spot A S) (v : Formula A) → StackFits n L gs → SpotFits n m L gs spot
    → option_and_then (λ o. whole_formula (settle o (stack_seen gs))) (operand m (spot_seen spot)) ≡ Some v → IsCondition n L (stack_tokens gs ++ spot_tokens spot) v
spot_whole n m L laws gs wanted v s h e = absurd (none_some v e)
spot_whole n m L laws gs wanted_bracket v s h e = absurd (none_some v e)
spot_whole n m L laws gs (read_factor f) v s h e = factor_whole n L gs f v s h e
spot_whole n m L laws gs (read_part ts x) v s h e = elim (m.says x) as (λ o. m.says x ≡ o → option_and_then (λ q. whole_formula (settle q (stack_seen gs))) (option_map claim o) ≡ Some v → IsCondition n L (stack_tokens gs ++ ts) v) [
  | None ↦ λ r f. absurd (none_some v f)
  | Some a ↦ λ r f. factor_whole n L gs (atom ts a) v s (laws.only ts x a h r) f
] refl e

pub whole_read : {A S : Type 0} (n : Negation) (m : Atoms A S) (L : List Token → A → Type 0) → ReadsAtoms n m L → (w : Written A S) (v : Formula A) → Fits n m L w → whole m (seen w) ≡ Some v → IsCondition n L (tokens w) v
whole_read n m L laws w v fits e = spot_whole n m L laws w.stack w.spot v fits.0 fits.1 e

-- a state that is reached by reading some tokens
pub record Reached {A S : Type 0} (n : Negation) (m : Atoms A S) (L : List Token → A → Type 0) (ts : List Token) (y : State A S) : Type 0 where
  pub written : Written A S
  pub seen_so : seen written ≡ y
  pub read : tokens written ≡ ts
  pub fits : Fits n m L written

pub reached_step : {A S : Type 0} (n : Negation) (m : Atoms A S) (L : List Token → A → Type 0) → ReadsAtoms n m L → (ts : List Token) (x y : State A S) (t : Token) → Reached n m L ts x → step n m x t ≡ Some y → Reached n m L (ts ++ t ∷ []) y
reached_step n m L laws ts x y t r e =
    let s : Stepped n m L (tokens r.written) t y = stepped n m L laws r.written t r.fits y (subst (λ q. step n m q t ≡ Some y) (sym r.seen_so) e) in
    record { written = s.after; seen_so = s.seen_so; read = s.read ∙ ap (λ l. l ++ t ∷ []) r.read; fits = s.fits }

reached_from : {A S : Type 0} (n : Negation) (m : Atoms A S) (L : List Token → A → Type 0) → ReadsAtoms n m L → (us ts : List Token) (x y : State A S) → Reached n m L us x → run (step n m) x ts ≡ Some y → Reached n m L (us ++ ts) y
reached_from n m L laws us [] x y r e = record { written = r.written; seen_so = r.seen_so ∙ some_same x y e; read = r.read ∙ sym (append-nil us); fits = r.fits }
reached_from n m L laws us (t ∷ ts) x y r e = elim (step n m x t) as (λ o. step n m x t ≡ o → option_and_then (λ w. run (step n m) w ts) o ≡ Some y → Reached n m L (us ++ t ∷ ts) y) [
  | None ↦ λ d f. absurd (none_some y f)
  | Some z ↦ λ d f. subst (λ l. Reached n m L l y) (append_assoc us (t ∷ []) ts) (reached_from n m L laws (us ++ t ∷ []) ts z y (reached_step n m L laws us x z t r d) f)
] refl e

pub reached_start : {A S : Type 0} (n : Negation) (m : Atoms A S) (L : List Token → A → Type 0) → Reached n m L [] start
reached_start n m L = record { written = record { stack = opened bracket.Outside no_ors no_ands ∷ []; spot = wanted }; seen_so = refl; read = refl; fits = ((refl, (tt, tt)), tt) }

pub reached_by : {A S : Type 0} (n : Negation) (m : Atoms A S) (L : List Token → A → Type 0) → ReadsAtoms n m L → (ts : List Token) (y : State A S) → run (step n m) start ts ≡ Some y → Reached n m L ts y
reached_by n m L laws ts y e = reached_from n m L laws [] ts start y (reached_start n m L) e

pub reached_whole : {A S : Type 0} (n : Negation) (m : Atoms A S) (L : List Token → A → Type 0) → ReadsAtoms n m L → (ts : List Token) (x : State A S) (v : Formula A) → Reached n m L ts x → whole m x ≡ Some v → IsCondition n L ts v
reached_whole n m L laws ts x v r e = subst (λ l. IsCondition n L l v) r.read (whole_read n m L laws r.written v r.fits (subst (λ q. whole m q ≡ Some v) (sym r.seen_so) e))

pub reached_begins : {A S : Type 0} (n : Negation) (m : Atoms A S) (L : List Token → A → Type 0) → ReadsAtoms n m L → (ts : List Token) (x : State A S) → Reached n m L ts x → Begins (IsCondition n L) ts
reached_begins n m L laws ts x r =
    let c : Closed n L (tokens r.written) = closes_on n m L laws r.written r.fits in
    (c.more, (condition_formula c.tree, record { tree = c.tree; written = ap (λ l. l ++ c.more) (sym r.read) ∙ c.whole; fits = c.fits; says = refl }))

whole_at : {A S : Type 0} (m : Atoms A S) (y : State A S) (o : Formula A × List (Frame A)) → stands m y ≡ Some o → whole m y ≡ whole_formula o
whole_at m y o e = elim (operand m y.place) as (λ p. option_map (λ x. settle x y.stack) p ≡ Some o → option_and_then (λ x. whole_formula (settle x y.stack)) p ≡ whole_formula o) [
  | None ↦ λ f. absurd (none_some o f)
  | Some x ↦ λ f. ap whole_formula (some_same (settle x y.stack) o f)
] e

-- a condition leads to a state with its formula
pub record Accepted {A S : Type 0} (n : Negation) (m : Atoms A S) (ts : List Token) (v : Formula A) : Type 0 where
  pub state : State A S
  pub ran : run (step n m) start ts ≡ Some state
  pub says : whole m state ≡ Some v

pub accepted : {A S : Type 0} (n : Negation) (m : Atoms A S) (L : List Token → A → Type 0) → ReadsAtoms n m L → (ts : List Token) (v : Formula A) → IsCondition n L ts v → Accepted n m ts v
accepted {A = A} n m L laws ts v c =
    let o : Formula A × List (Frame A) = (last_formula c.tree, level bracket.Outside (last_ors c.tree) (last_ands c.tree) ∷ []) in
    let r : Comes n m start (condition_tokens c.tree) o = accept_condition n m L laws c.tree bracket.Outside [] c.fits in
    record {
      state = r.state;
      ran = subst (λ l. run (step n m) start l ≡ Some r.state) (sym c.written) r.ran;
      says = whole_at m r.state o r.at ∙ ap Some (last_is c.tree ∙ sym c.says);
    }

pub conditions_read : {A S : Type 0} (n : Negation) (m : Atoms A S) (L : List Token → A → Type 0) → ReadsAtoms n m L → Reads (step n m) (whole m) start (IsCondition n L)
conditions_read n m L laws = record {
  accepts = λ ts v c. let r = accepted n m L laws ts v c in (r.state, (r.ran, r.says));
  only = λ ts x v r w. reached_whole n m L laws ts x v (reached_by n m L laws ts x r) w;
  begins = λ ts x y t r s. reached_begins n m L laws (ts ++ t ∷ []) y (reached_step n m L laws ts x y t (reached_by n m L laws ts x r) s);
}
