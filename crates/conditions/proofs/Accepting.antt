-- The machine reads every condition.
use Rattle.std.proofs.Common.{◌≡◌, ◌<◌, true, false, cond, List, [], ◌∷◌, ◌++◌, length, Option, Some, None, refl, ap, ◌∙◌, option_and_then, option_map, ◌&&◌, is_some}
use Rattle.doc_types.specs.Tokens.{Token}
use Rattle.conditions.specs.Machines.{run}
use Rattle.conditions.specs.declared.chains.Joint.TheVariants as joint
use Rattle.conditions.specs.declared.frames.Bracket.{Bracket}
use Rattle.conditions.specs.declared.frames.Bracket.TheVariants as bracket
use Rattle.conditions.specs.declared.kinds.Kind.{Kind}
use Rattle.conditions.specs.declared.kinds.Kind.TheVariants as kind
use Rattle.conditions.specs.declared.kinds.Negation.{Negation}
use Rattle.conditions.specs.declared.kinds.Negation.TheVariants as negation
use Rattle.conditions.specs.Formulas.{Formula, truth, falsity, claim, opposite}
use Rattle.conditions.specs.Chains.{Links}
use Rattle.conditions.specs.Kinds.{kind_of, ends_operand, and_word, or_word, true_word, false_word, not_word, not_sign, opens, closes}
use Rattle.conditions.specs.Grammar.{Condition, condition, Ors, no_ors, one_or, terms, Ands, no_ands, one_and, Factor, always, never, atom, brackets, negated, not_brackets, condition_tokens, ors_tokens, ands_tokens, factor_tokens, ConditionFits, OrsFit, AndsFit, FactorFits, condition_formula, ors_links, ands_links, factor_formula}
use Rattle.conditions.specs.Machine.{Frame, level, pending, Gap, want, want_bracket, behind, Moved, Atoms, Place, outside, within, State, in_gap, in_atom, settle, level_formula, behind_step, within_step, outside_step, place_step, step, operand}
use Rattle.conditions.specs.AtomLaws.{ReadsAtoms, atom_run, atom_next, first_by, next_by}
use Rattle.proof_basics.proofs.Options.{some_same, none_some}
use Rattle.proof_basics.proofs.Tests.{false_true}
use Rattle.conditions.proofs.Basics.{run-one, run-cons, run-append, room, and_kind, or_kind, true_kind, false_kind, opens_kind, closes_kind, not_word_kind, not_sign_kind}

-- behind which operand a state stands, with the `not`s that wait for it
abbrev pub stands : {A S : Type 0} → Atoms A S → State A S → Option (Formula A × List (Frame A))
stands m y = option_map (λ x. settle x y.stack) (operand m y.place)

-- some tokens lead to a state behind an operand
pub record Comes {A S : Type 0} (n : Negation) (m : Atoms A S) (x : State A S) (ts : List Token) (o : Formula A × List (Frame A)) : Type 0 where
  pub state : State A S
  pub ran : run (step n m) x ts ≡ Some state
  pub at : stands m state ≡ Some o

abbrev gap_place : {A S : Type 0} → Gap A → Place A S
gap_place g = outside g

-- what ends an operand is a step behind it
behind_goes : {A S : Type 0} (n : Negation) (m : Atoms A S) (k : Kind) (t : Token) (p : Place A S) (fs : List (Frame A)) (o : Formula A × List (Frame A))
    → ends_operand k ≡ true → option_map (λ x. settle x fs) (operand m p) ≡ Some o → place_step n m k t p fs ≡ option_map in_gap (behind_step k o)
behind_goes n m k t (outside want) fs o e at = absurd (none_some o at)
behind_goes n m k t (outside want_bracket) fs o e at = absurd (none_some o at)
behind_goes {A = A} {S = S} n m k t (outside (behind x)) fs o e at = by k e (some_same (settle x fs) o at)
  where
    by : (j : Kind) → ends_operand j ≡ true → settle x fs ≡ o → place_step n m j t (gap_place {S = S} (behind x)) fs ≡ option_map in_gap (behind_step j o)
    by kind.And d s = ap (λ q. option_map in_gap (behind_step kind.And q)) s
    by kind.Or d s = ap (λ q. option_map in_gap (behind_step kind.Or q)) s
    by kind.Close d s = ap (λ q. option_map in_gap (behind_step kind.Close q)) s
    by kind.Not d s = absurd (false_true d)
    by kind.Open d s = absurd (false_true d)
    by kind.True d s = absurd (false_true d)
    by kind.False d s = absurd (false_true d)
    by kind.Other d s = absurd (false_true d)
behind_goes {A = A} {S = S} n m k t (within s) fs o e at = by k e
  where
    same : (j : Kind) (z : Option (State A S)) (a : Option A) → option_map (λ x. settle x fs) (option_map claim a) ≡ Some o
        → cond (is_some a) (option_map (in_gap {A = A} {S = S}) (option_and_then (λ b. behind_step j (settle (claim b) fs)) a)) z ≡ option_map in_gap (behind_step j o)
    same j z None h = absurd (none_some o h)
    same j z (Some a) h = ap (λ q. option_map in_gap (behind_step j q)) (some_same (settle (claim a) fs) o h)

    by : (j : Kind) → ends_operand j ≡ true → place_step n m j t (within s) fs ≡ option_map in_gap (behind_step j o)
    by kind.And d = same kind.And (option_map (in_atom fs) (m.next s t)) (m.says s) at
    by kind.Or d = same kind.Or (option_map (in_atom fs) (m.next s t)) (m.says s) at
    by kind.Close d = same kind.Close (option_map (in_atom fs) (m.next s t)) (m.says s) at
    by kind.Not d = absurd (false_true d)
    by kind.Open d = absurd (false_true d)
    by kind.True d = absurd (false_true d)
    by kind.False d = absurd (false_true d)
    by kind.Other d = absurd (false_true d)

pub ends_so : {A S : Type 0} (n : Negation) (m : Atoms A S) (k : Kind) (t : Token) (y : State A S) (o : Formula A × List (Frame A)) (z : Moved A)
    → kind_of n t ≡ k → ends_operand k ≡ true → stands m y ≡ Some o → behind_step k o ≡ Some z → step n m y t ≡ Some (in_gap z)
ends_so n m k t y o z e d at goes =
    ap (λ j. place_step n m j t y.place y.stack) e ∙ behind_goes n m k t y.place y.stack o d at ∙ ap (option_map in_gap) goes

-- a token outside of atoms
pub goes_so : {A S : Type 0} (n : Negation) (m : Atoms A S) (k : Kind) (t : Token) (x : State A S) (z : Option (State A S)) → kind_of n t ≡ k → place_step n m k t x.place x.stack ≡ z → step n m x t ≡ z
goes_so n m k t x z e goes = ap (λ j. place_step n m j t x.place x.stack) e ∙ goes

-- the tokens of an atom
atom_goes : {A S : Type 0} (n : Negation) (m : Atoms A S) (s r : S) (t : Token) (fs : List (Frame A)) (k : Kind) → next_by (ends_operand k && is_some (m.says s)) (m.next s t) ≡ Some r → within_step m k t s fs ≡ Some (in_atom fs r)
atom_goes {A = A} {S = S} n m s r t fs k e = elim (ends_operand k && is_some (m.says s)) as (λ b. next_by b (m.next s t) ≡ Some r → cond b (option_map (in_gap {A = A} {S = S}) (option_and_then (λ a. behind_step k (settle (claim a) fs)) (m.says s))) (option_map (in_atom fs) (m.next s t)) ≡ Some (in_atom fs r)) [
  | true ↦ λ d. absurd (none_some r d)
  | false ↦ λ d. ap (option_map (in_atom fs)) d
] e

atom_goes_on : {A S : Type 0} (n : Negation) (m : Atoms A S) (ts : List Token) (s r : S) (fs : List (Frame A)) → run (atom_next n m) s ts ≡ Some r → run (step n m) (in_atom fs s) ts ≡ Some (in_atom fs r)
atom_goes_on n m [] s r fs e = ap (λ q. Some (in_atom fs q)) (some_same s r e)
atom_goes_on n m (t ∷ ts) s r fs e = elim (atom_next n m s t) as (λ o. atom_next n m s t ≡ o → option_and_then (λ q. run (atom_next n m) q ts) o ≡ Some r → run (step n m) (in_atom fs s) (t ∷ ts) ≡ Some (in_atom fs r)) [
  | None ↦ λ d f. absurd (none_some r f)
  | Some q ↦ λ d f. run-cons (step n m) (in_atom fs s) t (in_atom fs q) ts (in_atom fs r) (atom_goes n m s q t fs (kind_of n t) d) (atom_goes_on n m ts q r fs f)
] refl e

atom_begins : {A S : Type 0} (n : Negation) (m : Atoms A S) (t : Token) (s : S) (fs : List (Frame A)) (k : Kind) → first_by k (m.first t) ≡ Some s → outside_step n m k t want fs ≡ Some (in_atom fs s)
atom_begins n m t s fs kind.Other e = ap (option_map (in_atom fs)) e
atom_begins n m t s fs kind.And e = absurd (none_some s e)
atom_begins n m t s fs kind.Or e = absurd (none_some s e)
atom_begins n m t s fs kind.Close e = absurd (none_some s e)
atom_begins n m t s fs kind.Not e = absurd (none_some s e)
atom_begins n m t s fs kind.Open e = absurd (none_some s e)
atom_begins n m t s fs kind.True e = absurd (none_some s e)
atom_begins n m t s fs kind.False e = absurd (none_some s e)

pub atom_runs : {A S : Type 0} (n : Negation) (m : Atoms A S) (ts : List Token) (s : S) (fs : List (Frame A)) → atom_run n m ts ≡ Some s → run (step n m) (in_gap (fs, want)) ts ≡ Some (in_atom fs s)
atom_runs n m [] s fs e = absurd (none_some s e)
atom_runs {A = A} {S = S} n m (t ∷ ts) s fs e = by (first_by (kind_of n t) (m.first t)) refl e
  where
    by : (o : Option S) → first_by (kind_of n t) (m.first t) ≡ o → option_and_then (λ q. run (atom_next n m) q ts) o ≡ Some s → run (step n m) (in_gap (fs, want)) (t ∷ ts) ≡ Some (in_atom fs s)
    by None d f = absurd (none_some s f)
    by (Some q) d f = run-cons (step n m) (in_gap (fs, want)) t (in_atom fs q) ts (in_atom fs s) (atom_begins n m t q fs (kind_of n t) d) (atom_goes_on n m ts q s fs f)

-- the last operand of a condition, and the chains before it
abbrev pub last_formula : {A : Type 0} → Condition A → Formula A
last_formula (condition o (terms a f)) = factor_formula f

abbrev pub last_ors : {A : Type 0} → Condition A → Links A
last_ors (condition o (terms a f)) = ors_links o

abbrev pub last_ands : {A : Type 0} → Condition A → Links A
last_ands (condition o (terms a f)) = ands_links a

pub last_is : {A : Type 0} (c : Condition A) → level_formula (last_formula c) (last_ors c) (last_ands c) ≡ condition_formula c
last_is (condition o (terms a f)) = refl

module _ {A S : Type 0} (n : Negation) (m : Atoms A S) (L : List Token → A → Type 0) (laws : ReadsAtoms n m L) where
  want_goes : (k : Kind) (t : Token) (fs : List (Frame A)) (z : Option (State A S)) → kind_of n t ≡ k → outside_step n m k t want fs ≡ z → step n m (in_gap (fs, want)) t ≡ z
  want_goes k t fs z e goes = goes_so n m k t (in_gap (fs, want)) z e goes

  open_goes : (g : Frame A) (fs : List (Frame A)) → length fs < 64 → step n m (in_gap (g ∷ fs, want)) opens ≡ Some (in_gap (level bracket.Plain [] [] ∷ g ∷ fs, want))
  open_goes g fs h = want_goes kind.Open opens (g ∷ fs) (Some (in_gap (level bracket.Plain [] [] ∷ g ∷ fs, want))) (opens_kind n) (rw (room (length fs) h) refl)

  not_goes : (g : Frame A) (fs : List (Frame A)) → n ≡ negation.Word → length fs < 64 → step n m (in_gap (g ∷ fs, want)) not_word ≡ Some (in_gap (pending ∷ g ∷ fs, want))
  not_goes g fs e h = want_goes kind.Not not_word (g ∷ fs) (Some (in_gap (pending ∷ g ∷ fs, want))) (not_word_kind n e) (rw (e, room (length fs) h) refl)

  sign_goes : (g : Frame A) (fs : List (Frame A)) → n ≡ negation.Sign → length fs < 64 → step n m (in_gap (g ∷ fs, want)) not_sign ≡ Some (in_gap (g ∷ fs, want_bracket))
  sign_goes g fs e h = want_goes kind.Not not_sign (g ∷ fs) (Some (in_gap (g ∷ fs, want_bracket))) (not_sign_kind n e) (rw (e, room (length fs) h) refl)

  bracket_goes : (fs : List (Frame A)) → step n m (in_gap (fs, want_bracket)) opens ≡ Some (in_gap (level bracket.Negated [] [] ∷ fs, want))
  bracket_goes fs = goes_so n m kind.Open opens (in_gap (fs, want_bracket)) (Some (in_gap (level bracket.Negated [] [] ∷ fs, want))) (opens_kind n) refl

  -- a bracket is closed
  closed_at : (b : Bracket) (c : Condition A) (x : State A S) (ts : List Token) (g : Frame A) (fs : List (Frame A)) (z : Formula A)
      → behind_step kind.Close (last_formula c, level b (last_ors c) (last_ands c) ∷ g ∷ fs) ≡ Some (g ∷ fs, behind z)
      → Comes n m x ts (last_formula c, level b (last_ors c) (last_ands c) ∷ g ∷ fs) → Comes n m x (ts ++ closes ∷ []) (settle z (g ∷ fs))
  closed_at b c x ts g fs z goes r = record {
    state = in_gap (g ∷ fs, behind z);
    ran = run-append (step n m) x ts r.state (closes ∷ []) (in_gap (g ∷ fs, behind z)) r.ran
        (run-one (step n m) r.state closes (in_gap (g ∷ fs, behind z)) (ends_so n m kind.Close closes r.state (last_formula c, level b (last_ors c) (last_ands c) ∷ g ∷ fs) (g ∷ fs, behind z) (closes_kind n) refl r.at goes));
    at = refl;
  }

  comes_first : (x y : State A S) (t : Token) (ts : List Token) (o : Formula A × List (Frame A)) → step n m x t ≡ Some y → Comes n m y ts o → Comes n m x (t ∷ ts) o
  comes_first x y t ts o e r = record { state = r.state; ran = run-cons (step n m) x t y ts r.state e r.ran; at = r.at }

  comes_after : (x y : State A S) (ts us : List Token) (o : Formula A × List (Frame A)) → run (step n m) x ts ≡ Some y → Comes n m y us o → Comes n m x (ts ++ us) o
  comes_after x y ts us o e r = record { state = r.state; ran = run-append (step n m) x ts y us r.state e r.ran; at = r.at }

  mutual
    pub accept_condition : (c : Condition A) (b : Bracket) (fs : List (Frame A)) → ConditionFits n L (length fs) c → Comes n m (in_gap (level b [] [] ∷ fs, want)) (condition_tokens c) (last_formula c, level b (last_ors c) (last_ands c) ∷ fs)
    accept_condition (condition o (terms a f)) b fs fits =
        comes_after (in_gap (level b [] [] ∷ fs, want)) (in_gap (level b (ors_links o) [] ∷ fs, want)) (ors_tokens o) (ands_tokens a ++ factor_tokens f) (factor_formula f, level b (ors_links o) (ands_links a) ∷ fs)
        (accept_ors o b fs fits.0)
        (comes_after (in_gap (level b (ors_links o) [] ∷ fs, want)) (in_gap (level b (ors_links o) (ands_links a) ∷ fs, want)) (ands_tokens a) (factor_tokens f) (factor_formula f, level b (ors_links o) (ands_links a) ∷ fs)
        (accept_ands a b (ors_links o) fs fits.1.0)
        (accept_factor f (level b (ors_links o) (ands_links a)) fs fits.1.1))

    accept_ors : (o : Ors A) (b : Bracket) (fs : List (Frame A)) → OrsFit n L (length fs) o → run (step n m) (in_gap (level b [] [] ∷ fs, want)) (ors_tokens o) ≡ Some (in_gap (level b (ors_links o) [] ∷ fs, want))
    accept_ors no_ors b fs fits = refl
    accept_ors (one_or o (terms a f)) b fs fits =
        let y : State A S = in_gap (level b (ors_links o) [] ∷ fs, want) in
        let z : State A S = in_gap (level b (ors_links (one_or o (terms a f))) [] ∷ fs, want) in
        let here : Formula A × List (Frame A) = (factor_formula f, level b (ors_links o) (ands_links a) ∷ fs) in
        let r : Comes n m y (ands_tokens a ++ factor_tokens f) here =
        comes_after y (in_gap (level b (ors_links o) (ands_links a) ∷ fs, want)) (ands_tokens a) (factor_tokens f) here (accept_ands a b (ors_links o) fs fits.1.0) (accept_factor f (level b (ors_links o) (ands_links a)) fs fits.1.1) in
        run-append (step n m) (in_gap (level b [] [] ∷ fs, want)) (ors_tokens o) y ((ands_tokens a ++ factor_tokens f) ++ or_word ∷ []) z (accept_ors o b fs fits.0)
        (run-append (step n m) y (ands_tokens a ++ factor_tokens f) r.state (or_word ∷ []) z r.ran
        (run-one (step n m) r.state or_word z (ends_so n m kind.Or or_word r.state here (level b (ors_links (one_or o (terms a f))) [] ∷ fs, want) (or_kind n) refl r.at refl)))

    accept_ands : (a : Ands A) (b : Bracket) (o : Links A) (fs : List (Frame A)) → AndsFit n L (length fs) a → run (step n m) (in_gap (level b o [] ∷ fs, want)) (ands_tokens a) ≡ Some (in_gap (level b o (ands_links a) ∷ fs, want))
    accept_ands no_ands b o fs fits = refl
    accept_ands (one_and a f) b o fs fits =
        let y : State A S = in_gap (level b o (ands_links a) ∷ fs, want) in
        let z : State A S = in_gap (level b o (ands_links (one_and a f)) ∷ fs, want) in
        let here : Formula A × List (Frame A) = (factor_formula f, level b o (ands_links a) ∷ fs) in
        let r : Comes n m y (factor_tokens f) here = accept_factor f (level b o (ands_links a)) fs fits.1 in
        run-append (step n m) (in_gap (level b o [] ∷ fs, want)) (ands_tokens a) y (factor_tokens f ++ and_word ∷ []) z (accept_ands a b o fs fits.0)
        (run-append (step n m) y (factor_tokens f) r.state (and_word ∷ []) z r.ran
        (run-one (step n m) r.state and_word z (ends_so n m kind.And and_word r.state here (level b o (ands_links (one_and a f)) ∷ fs, want) (and_kind n) refl r.at refl)))

    accept_factor : (f : Factor A) (g : Frame A) (fs : List (Frame A)) → FactorFits n L (length fs) f → Comes n m (in_gap (g ∷ fs, want)) (factor_tokens f) (settle (factor_formula f) (g ∷ fs))
    accept_factor always g fs fits = record {
      state = in_gap (g ∷ fs, behind truth);
      ran = run-one (step n m) (in_gap (g ∷ fs, want)) true_word (in_gap (g ∷ fs, behind truth)) (want_goes kind.True true_word (g ∷ fs) (Some (in_gap (g ∷ fs, behind truth))) (true_kind n) refl);
      at = refl;
    }
    accept_factor never g fs fits = record {
      state = in_gap (g ∷ fs, behind falsity);
      ran = run-one (step n m) (in_gap (g ∷ fs, want)) false_word (in_gap (g ∷ fs, behind falsity)) (want_goes kind.False false_word (g ∷ fs) (Some (in_gap (g ∷ fs, behind falsity))) (false_kind n) refl);
      at = refl;
    }
    accept_factor (atom ts a) g fs fits =
        let r = laws.accepts ts a fits in
        record {
          state = in_atom (g ∷ fs) r.0;
          ran = atom_runs n m ts r.0 (g ∷ fs) r.1.0;
          at = ap (λ o. option_map (λ x. settle x (g ∷ fs)) (option_map claim o)) r.1.1;
        }
    accept_factor (brackets c) g fs fits =
        comes_first (in_gap (g ∷ fs, want)) (in_gap (level bracket.Plain [] [] ∷ g ∷ fs, want)) opens (condition_tokens c ++ closes ∷ []) (settle (condition_formula c) (g ∷ fs)) (open_goes g fs fits.0)
        (closed_at bracket.Plain c (in_gap (level bracket.Plain [] [] ∷ g ∷ fs, want)) (condition_tokens c) g fs (condition_formula c) (ap (λ x. Some (g ∷ fs, behind x)) (last_is c)) (accept_condition c bracket.Plain (g ∷ fs) fits.1))
    accept_factor (negated f) g fs fits =
        comes_first (in_gap (g ∷ fs, want)) (in_gap (pending ∷ g ∷ fs, want)) not_word (factor_tokens f) (settle (opposite (factor_formula f)) (g ∷ fs)) (not_goes g fs fits.0 fits.1.0) (accept_factor f pending (g ∷ fs) fits.1.1)
    accept_factor (not_brackets c) g fs fits =
        comes_first (in_gap (g ∷ fs, want)) (in_gap (g ∷ fs, want_bracket)) not_sign (opens ∷ (condition_tokens c ++ closes ∷ [])) (settle (opposite (condition_formula c)) (g ∷ fs)) (sign_goes g fs fits.0 fits.1.0)
        (comes_first (in_gap (g ∷ fs, want_bracket)) (in_gap (level bracket.Negated [] [] ∷ g ∷ fs, want)) opens (condition_tokens c ++ closes ∷ []) (settle (opposite (condition_formula c)) (g ∷ fs)) (bracket_goes (g ∷ fs))
        (closed_at bracket.Negated c (in_gap (level bracket.Negated [] [] ∷ g ∷ fs, want)) (condition_tokens c) g fs (opposite (condition_formula c)) (ap (λ x. Some (g ∷ fs, behind (opposite x))) (last_is c)) (accept_condition c bracket.Negated (g ∷ fs) fits.1.1)))
