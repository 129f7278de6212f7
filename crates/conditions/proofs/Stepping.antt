-- Each step of the machine reads one token more.
use Rattle.std.proofs.Common.{◌≡◌, ℕ, suc, ◌<◌, true, false, cond, List, [], ◌∷◌, ◌++◌, length, Some, None, refl, sym, ap, subst, ◌∙◌, option_and_then, option_map, ◌&&◌, is_some, append_assoc, append-nil, arith}
use Rattle.doc_types.specs.Tokens.{Token}
use Rattle.conditions.specs.Machines.{run}
use Rattle.conditions.specs.declared.chains.Joint.TheVariants as joint
use Rattle.conditions.specs.declared.frames.Bracket.{Bracket}
use Rattle.conditions.specs.declared.frames.Bracket.TheVariants as bracket
use Rattle.conditions.specs.declared.kinds.Kind.{Kind}
use Rattle.conditions.specs.declared.kinds.Kind.TheVariants as kind
use Rattle.conditions.specs.declared.kinds.Negation.{Negation}
use Rattle.conditions.specs.declared.kinds.Negation.TheVariants as negation
use Rattle.conditions.specs.Formulas.{claim}
use Rattle.conditions.specs.Kinds.{kind_of, ends_operand, and_word, or_word, true_word, false_word, not_word, not_sign, opens, closes}
use Rattle.conditions.specs.Grammar.{condition, Ors, no_ors, one_or, terms, Ands, no_ands, one_and, Factor, always, never, atom, brackets, not_brackets, ors_tokens, ands_tokens, factor_tokens, FactorFits, ors_links, ands_links, factor_formula}
use Rattle.conditions.specs.Machine.{level, pending, want, want_bracket, behind, Atoms, within, State, in_gap, in_atom, settle, has_room, close_step, behind_step, negate, within_step, outside_step, place_step, step, operand}
use Rattle.conditions.specs.AtomLaws.{ReadsAtoms, atom_run, atom_next, first_by, next_by}
use Rattle.conditions.proofs.Written.{Around, opened, waiting, Spot, wanted, wanted_bracket, read_factor, read_part, Written, stack_seen, spot_seen, seen, seen_length, bracket_tokens, stack_tokens, spot_tokens, tokens, depth, StackFits, SpotFits, Fits, Settled, settled}
use Rattle.proof_basics.proofs.Options.{some_same, none_some}
use Rattle.conditions.proofs.Basics.{no_more_room, and_token, or_token, true_token, false_token, open_token, close_token, not_word_token, not_sign_token}

-- a state that read one token more than some tokens
pub record Stepped {A S : Type 0} (n : Negation) (m : Atoms A S) (L : List Token → A → Type 0) (ts : List Token) (t : Token) (y : State A S) : Type 0 where
  pub after : Written A S
  pub seen_so : seen after ≡ y
  pub read : tokens after ≡ ts ++ t ∷ []
  pub fits : Fits n m L after

-- equations of lists
opened_read : (xs : List Token) (t u : Token) → t ≡ u → (xs ++ u ∷ []) ++ [] ≡ (xs ++ []) ++ t ∷ []
opened_read xs t u e = append-nil (xs ++ u ∷ []) ∙ ap (λ v. xs ++ v ∷ []) (sym e) ∙ ap (λ l. l ++ t ∷ []) (sym (append-nil xs))

spot_read : (xs : List Token) (t u : Token) → t ≡ u → xs ++ u ∷ [] ≡ (xs ++ []) ++ t ∷ []
spot_read xs t u e = ap (λ v. xs ++ v ∷ []) (sym e) ∙ ap (λ l. l ++ t ∷ []) (sym (append-nil xs))

negated_read : (xs : List Token) (a t u : Token) → t ≡ u → (xs ++ (a ∷ u ∷ [])) ++ [] ≡ (xs ++ a ∷ []) ++ t ∷ []
negated_read xs a t u e = append-nil (xs ++ (a ∷ u ∷ [])) ∙ ap (λ v. xs ++ (a ∷ v ∷ [])) (sym e) ∙ sym (append_assoc xs (a ∷ []) (t ∷ []))

and_read : (ts xs bs os ls fs : List Token) (t u : Token) → t ≡ u → ts ≡ (xs ++ (bs ++ (os ++ ls))) ++ fs → (xs ++ (bs ++ (os ++ (ls ++ (fs ++ u ∷ []))))) ++ [] ≡ ts ++ t ∷ []
and_read ts xs bs os ls fs t u e same = rw (e, same) (simp (append_assoc, append-nil))

or_read : (ts xs bs os ls fs : List Token) (t u : Token) → t ≡ u → ts ≡ (xs ++ (bs ++ (os ++ ls))) ++ fs → (xs ++ (bs ++ ((os ++ ((ls ++ fs) ++ u ∷ [])) ++ []))) ++ [] ≡ ts ++ t ∷ []
or_read ts xs bs os ls fs t u e same = rw (e, same) (simp (append_assoc, append-nil))

close_read : (ts xs bs os ls fs : List Token) (t u : Token) → t ≡ u → ts ≡ (xs ++ (bs ++ (os ++ ls))) ++ fs → xs ++ (bs ++ ((os ++ (ls ++ fs)) ++ u ∷ [])) ≡ ts ++ t ∷ []
close_read ts xs bs os ls fs t u e same = rw (e, same) (simp append_assoc)

fewer : (k : ℕ) → suc k < 65 → k < 64
fewer k h = omega arith

roomy : {A : Type 0} (gs : List (Around A)) → has_room (stack_seen gs) ≡ true → length gs < 65
roomy gs r = subst (λ k. k < 65) (seen_length gs) (no_more_room (length (stack_seen gs)) r)

-- where an operand is wanted
not_stepped : {A S : Type 0} (n : Negation) (m : Atoms A S) (L : List Token → A → Type 0) (gs : List (Around A)) (t : Token) → kind_of n t ≡ kind.Not → StackFits n L gs → (y : State A S)
    → option_map (in_gap {A = A} {S = S}) (negate n (stack_seen gs)) ≡ Some y → Stepped n m L (stack_tokens gs ++ []) t y
not_stepped {A = A} {S = S} negation.Word m L gs t k s y e = elim (has_room (stack_seen gs)) as (λ b. has_room (stack_seen gs) ≡ b → option_map (in_gap {A = A} {S = S}) (cond b (Some (pending ∷ stack_seen gs, want)) None) ≡ Some y → Stepped negation.Word m L (stack_tokens gs ++ []) t y) [
  | true ↦ λ r f. record { after = record { stack = waiting ∷ gs; spot = wanted }; seen_so = some_same _ y f; read = opened_read (stack_tokens gs) t not_word (not_word_token t k); fits = ((refl, (roomy gs r, s)), tt) }
  | false ↦ λ r f. absurd (none_some y f)
] refl e
not_stepped {A = A} {S = S} negation.Sign m L gs t k s y e = elim (has_room (stack_seen gs)) as (λ b. has_room (stack_seen gs) ≡ b → option_map (in_gap {A = A} {S = S}) (cond b (Some (stack_seen gs, want_bracket)) None) ≡ Some y → Stepped negation.Sign m L (stack_tokens gs ++ []) t y) [
  | true ↦ λ r f. record { after = record { stack = gs; spot = wanted_bracket }; seen_so = some_same _ y f; read = spot_read (stack_tokens gs) t not_sign (not_sign_token t k); fits = (s, (refl, roomy gs r)) }
  | false ↦ λ r f. absurd (none_some y f)
] refl e

open_stepped : {A S : Type 0} (n : Negation) (m : Atoms A S) (L : List Token → A → Type 0) (gs : List (Around A)) (t : Token) → kind_of n t ≡ kind.Open → StackFits n L gs → (y : State A S)
    → option_map (in_gap {A = A} {S = S}) (cond (has_room (stack_seen gs)) (Some (level bracket.Plain [] [] ∷ stack_seen gs, want)) None) ≡ Some y → Stepped n m L (stack_tokens gs ++ []) t y
open_stepped {A = A} {S = S} n m L gs t k s y e = elim (has_room (stack_seen gs)) as (λ b. has_room (stack_seen gs) ≡ b → option_map (in_gap {A = A} {S = S}) (cond b (Some (level bracket.Plain [] [] ∷ stack_seen gs, want)) None) ≡ Some y → Stepped n m L (stack_tokens gs ++ []) t y) [
  | true ↦ λ r f. record { after = record { stack = opened bracket.Plain no_ors no_ands ∷ gs; spot = wanted }; seen_so = some_same _ y f; read = opened_read (stack_tokens gs) t opens (open_token n t k); fits = (((roomy gs r, s), (tt, tt)), tt) }
  | false ↦ λ r f. absurd (none_some y f)
] refl e

begun_stepped : {A S : Type 0} (n : Negation) (m : Atoms A S) (L : List Token → A → Type 0) (gs : List (Around A)) (t : Token) → kind_of n t ≡ kind.Other → StackFits n L gs → (y : State A S)
    → option_map (in_atom (stack_seen gs)) (m.first t) ≡ Some y → Stepped n m L (stack_tokens gs ++ []) t y
begun_stepped {A = A} {S = S} n m L gs t k s y e = elim (m.first t) as (λ o. m.first t ≡ o → option_map (in_atom (stack_seen gs)) o ≡ Some y → Stepped n m L (stack_tokens gs ++ []) t y) [
  | None ↦ λ r f. absurd (none_some y f)
  | Some x ↦ λ r f. record { after = record { stack = gs; spot = read_part (t ∷ []) x }; seen_so = some_same _ y f; read = spot_read (stack_tokens gs) t t refl; fits = (s, ap (λ j. option_and_then (λ z. run (atom_next n m) z []) (first_by j (m.first t))) k ∙ ap (option_and_then (λ z. run (atom_next n m) z [])) r) }
] refl e

want_stepped : {A S : Type 0} (n : Negation) (m : Atoms A S) (L : List Token → A → Type 0) (gs : List (Around A)) (t : Token) (k : Kind) → kind_of n t ≡ k → StackFits n L gs → (y : State A S)
    → outside_step n m k t want (stack_seen gs) ≡ Some y → Stepped n m L (stack_tokens gs ++ []) t y
want_stepped n m L gs t kind.Not k s y e = not_stepped n m L gs t k s y e
want_stepped n m L gs t kind.Open k s y e = open_stepped n m L gs t k s y e
want_stepped n m L gs t kind.Other k s y e = begun_stepped n m L gs t k s y e
want_stepped n m L gs t kind.True k s y e = record { after = record { stack = gs; spot = read_factor always }; seen_so = some_same _ y e; read = spot_read (stack_tokens gs) t true_word (true_token n t k); fits = (s, tt) }
want_stepped n m L gs t kind.False k s y e = record { after = record { stack = gs; spot = read_factor never }; seen_so = some_same _ y e; read = spot_read (stack_tokens gs) t false_word (false_token n t k); fits = (s, tt) }
want_stepped n m L gs t kind.And k s y e = absurd (none_some y e)
want_stepped n m L gs t kind.Or k s y e = absurd (none_some y e)
want_stepped n m L gs t kind.Close k s y e = absurd (none_some y e)

-- behind `!`
bracket_stepped : {A S : Type 0} (n : Negation) (m : Atoms A S) (L : List Token → A → Type 0) (gs : List (Around A)) (t : Token) (k : Kind) → kind_of n t ≡ k → StackFits n L gs → (n ≡ negation.Sign) × (length gs < 65) → (y : State A S)
    → outside_step n m k t want_bracket (stack_seen gs) ≡ Some y → Stepped n m L (stack_tokens gs ++ not_sign ∷ []) t y
bracket_stepped n m L gs t kind.Open k s h y e = record { after = record { stack = opened bracket.Negated no_ors no_ands ∷ gs; spot = wanted }; seen_so = some_same _ y e; read = negated_read (stack_tokens gs) not_sign t opens (open_token n t k); fits = (((h.0, (h.1, s)), (tt, tt)), tt) }
bracket_stepped n m L gs t kind.Not k s h y e = absurd (none_some y e)
bracket_stepped n m L gs t kind.Close k s h y e = absurd (none_some y e)
bracket_stepped n m L gs t kind.And k s h y e = absurd (none_some y e)
bracket_stepped n m L gs t kind.Or k s h y e = absurd (none_some y e)
bracket_stepped n m L gs t kind.True k s h y e = absurd (none_some y e)
bracket_stepped n m L gs t kind.False k s h y e = absurd (none_some y e)
bracket_stepped n m L gs t kind.Other k s h y e = absurd (none_some y e)

-- behind an operand
close_stepped : {A S : Type 0} (n : Negation) (m : Atoms A S) (L : List Token → A → Type 0) (b : Bracket) (o : Ors A) (a : Ands A) (below : List (Around A)) (f : Factor A) (ts : List Token) (t : Token)
    → StackFits n L (opened b o a ∷ below) → FactorFits n L (length below) f → ts ≡ (stack_tokens below ++ (bracket_tokens b ++ (ors_tokens o ++ ands_tokens a))) ++ factor_tokens f → t ≡ closes → (y : State A S)
    → option_map (in_gap {A = A} {S = S}) (close_step (factor_formula f) (level b (ors_links o) (ands_links a) ∷ stack_seen below)) ≡ Some y → Stepped n m L ts t y
close_stepped n m L bracket.Outside o a below f ts t s h same is y e = absurd (none_some y e)
close_stepped n m L bracket.Plain o a [] f ts t s h same is y e = absurd s.0.1
close_stepped n m L bracket.Plain o a (g ∷ gs) f ts t s h same is y e = record {
  after = record { stack = g ∷ gs; spot = read_factor (brackets (condition o (terms a f))) };
  seen_so = some_same _ y e;
  read = close_read ts (stack_tokens (g ∷ gs)) (opens ∷ []) (ors_tokens o) (ands_tokens a) (factor_tokens f) t closes is same;
  fits = (s.0.1, (fewer (length gs) s.0.0, (s.1.0, (s.1.1, h))));
}
close_stepped n m L bracket.Negated o a [] f ts t s h same is y e = absurd s.0.1.1
close_stepped n m L bracket.Negated o a (g ∷ gs) f ts t s h same is y e = record {
  after = record { stack = g ∷ gs; spot = read_factor (not_brackets (condition o (terms a f))) };
  seen_so = some_same _ y e;
  read = close_read ts (stack_tokens (g ∷ gs)) (not_sign ∷ opens ∷ []) (ors_tokens o) (ands_tokens a) (factor_tokens f) t closes is same;
  fits = (s.0.1.1, (s.0.0, (fewer (length gs) s.0.1.0, (s.1.0, (s.1.1, h)))));
}

behind_stepped : {A S : Type 0} (n : Negation) (m : Atoms A S) (L : List Token → A → Type 0) (gs : List (Around A)) (f : Factor A) (t : Token) (k : Kind) → kind_of n t ≡ k → StackFits n L gs → FactorFits n L (depth gs) f → (y : State A S)
    → option_map (in_gap {A = A} {S = S}) (behind_step k (settle (factor_formula f) (stack_seen gs))) ≡ Some y → Stepped n m L (stack_tokens gs ++ factor_tokens f) t y
behind_stepped {A = A} {S = S} n m L gs f t kind.And k s h y e =
    let r : Settled n L gs f = settled n L gs f s h in
    record {
      after = record { stack = opened r.bracket r.ors (one_and r.ands r.last) ∷ r.below; spot = wanted };
      seen_so = some_same _ y (subst (λ q. option_map (in_gap {A = A} {S = S}) (behind_step kind.And q) ≡ Some y) r.settles e);
      read = and_read (stack_tokens gs ++ factor_tokens f) (stack_tokens r.below) (bracket_tokens r.bracket) (ors_tokens r.ors) (ands_tokens r.ands) (factor_tokens r.last) t and_word (and_token n t k) r.same;
      fits = ((r.stack_fits.0, (r.stack_fits.1.0, (r.stack_fits.1.1, r.fits))), tt);
    }
behind_stepped {A = A} {S = S} n m L gs f t kind.Or k s h y e =
    let r : Settled n L gs f = settled n L gs f s h in
    record {
      after = record { stack = opened r.bracket (one_or r.ors (terms r.ands r.last)) no_ands ∷ r.below; spot = wanted };
      seen_so = some_same _ y (subst (λ q. option_map (in_gap {A = A} {S = S}) (behind_step kind.Or q) ≡ Some y) r.settles e);
      read = or_read (stack_tokens gs ++ factor_tokens f) (stack_tokens r.below) (bracket_tokens r.bracket) (ors_tokens r.ors) (ands_tokens r.ands) (factor_tokens r.last) t or_word (or_token n t k) r.same;
      fits = ((r.stack_fits.0, ((r.stack_fits.1.0, (r.stack_fits.1.1, r.fits)), tt)), tt);
    }
behind_stepped {A = A} {S = S} n m L gs f t kind.Close k s h y e =
    let r : Settled n L gs f = settled n L gs f s h in
    close_stepped n m L r.bracket r.ors r.ands r.below r.last (stack_tokens gs ++ factor_tokens f) t r.stack_fits r.fits r.same (close_token n t k) y
    (subst (λ q. option_map (in_gap {A = A} {S = S}) (behind_step kind.Close q) ≡ Some y) r.settles e)
behind_stepped n m L gs f t kind.Not k s h y e = absurd (none_some y e)
behind_stepped n m L gs f t kind.Open k s h y e = absurd (none_some y e)
behind_stepped n m L gs f t kind.True k s h y e = absurd (none_some y e)
behind_stepped n m L gs f t kind.False k s h y e = absurd (none_some y e)
behind_stepped n m L gs f t kind.Other k s h y e = absurd (none_some y e)

-- within an atom
atom_pushed : {A S : Type 0} (n : Negation) (m : Atoms A S) (ts : List Token) (s r : S) (t : Token) → run (atom_next n m) s ts ≡ Some r → (q : S) → atom_next n m r t ≡ Some q → run (atom_next n m) s (ts ++ t ∷ []) ≡ Some q
atom_pushed n m [] s r t e q f = let same : s ≡ r = some_same s r e in rw same (rw f refl)
atom_pushed n m (u ∷ us) s r t e q f = elim (atom_next n m s u) as (λ o. option_and_then (λ w. run (atom_next n m) w us) o ≡ Some r → option_and_then (λ w. run (atom_next n m) w (us ++ t ∷ [])) o ≡ Some q) [
  | None ↦ λ d. absurd (none_some r d)
  | Some w ↦ λ d. atom_pushed n m us w r t d q f
] e

pub atom_run-push : {A S : Type 0} (n : Negation) (m : Atoms A S) (ts : List Token) (s q : S) (t : Token) → atom_run n m ts ≡ Some s → atom_next n m s t ≡ Some q → atom_run n m (ts ++ t ∷ []) ≡ Some q
atom_run-push n m [] s q t e f = absurd (none_some s e)
atom_run-push n m (u ∷ us) s q t e f = elim (first_by (kind_of n u) (m.first u)) as (λ o. option_and_then (λ w. run (atom_next n m) w us) o ≡ Some s → option_and_then (λ w. run (atom_next n m) w (us ++ t ∷ [])) o ≡ Some q) [
  | None ↦ λ d. absurd (none_some s d)
  | Some w ↦ λ d. atom_pushed n m us w s t d q f
] e

part_goes : {A S : Type 0} (n : Negation) (m : Atoms A S) (L : List Token → A → Type 0) (gs : List (Around A)) (ts : List Token) (x : S) (t : Token) (k : Kind) → kind_of n t ≡ k → (ends_operand k && is_some (m.says x)) ≡ false → StackFits n L gs → atom_run n m ts ≡ Some x → (y : State A S)
    → option_map (in_atom (stack_seen gs)) (m.next x t) ≡ Some y → Stepped n m L (stack_tokens gs ++ ts) t y
part_goes n m L gs ts x t k is other s h y e = elim (m.next x t) as (λ o. m.next x t ≡ o → option_map (in_atom (stack_seen gs)) o ≡ Some y → Stepped n m L (stack_tokens gs ++ ts) t y) [
  | None ↦ λ r f. absurd (none_some y f)
  | Some q ↦ λ r f. record {
    after = record { stack = gs; spot = read_part (ts ++ t ∷ []) q };
    seen_so = some_same _ y f;
    read = sym (append_assoc (stack_tokens gs) ts (t ∷ []));
    fits = (s, atom_run-push n m ts x q t h (ap (λ j. next_by (ends_operand j && is_some (m.says x)) (m.next x t)) is ∙ ap (λ b. next_by b (m.next x t)) other ∙ r));
  }
] refl e

part_ends : {A S : Type 0} (n : Negation) (m : Atoms A S) (L : List Token → A → Type 0) → ReadsAtoms n m L → (gs : List (Around A)) (ts : List Token) (x : S) (t : Token) (k : Kind) → kind_of n t ≡ k → StackFits n L gs → atom_run n m ts ≡ Some x → (y : State A S)
    → option_map (in_gap {A = A} {S = S}) (option_and_then (λ a. behind_step k (settle (claim a) (stack_seen gs))) (m.says x)) ≡ Some y → Stepped n m L (stack_tokens gs ++ ts) t y
part_ends {A = A} {S = S} n m L laws gs ts x t k is s h y e = elim (m.says x) as (λ o. m.says x ≡ o → option_map (in_gap {A = A} {S = S}) (option_and_then (λ a. behind_step k (settle (claim a) (stack_seen gs))) o) ≡ Some y → Stepped n m L (stack_tokens gs ++ ts) t y) [
  | None ↦ λ r f. absurd (none_some y f)
  | Some a ↦ λ r f. behind_stepped n m L gs (atom ts a) t k is s (laws.only ts x a h r) y f
] refl e

part_stepped : {A S : Type 0} (n : Negation) (m : Atoms A S) (L : List Token → A → Type 0) → ReadsAtoms n m L → (gs : List (Around A)) (ts : List Token) (x : S) (t : Token) (k : Kind) → kind_of n t ≡ k → StackFits n L gs → atom_run n m ts ≡ Some x → (y : State A S)
    → within_step m k t x (stack_seen gs) ≡ Some y → Stepped n m L (stack_tokens gs ++ ts) t y
part_stepped {A = A} {S = S} n m L laws gs ts x t k is s h y e = elim (ends_operand k && is_some (m.says x)) as (λ b. (ends_operand k && is_some (m.says x)) ≡ b → cond b (option_map (in_gap {A = A} {S = S}) (option_and_then (λ a. behind_step k (settle (claim a) (stack_seen gs))) (m.says x))) (option_map (in_atom (stack_seen gs)) (m.next x t)) ≡ Some y → Stepped n m L (stack_tokens gs ++ ts) t y) [
  | true ↦ λ r f. part_ends n m L laws gs ts x t k is s h y f
  | false ↦ λ r f. part_goes n m L gs ts x t k is r s h y f
] refl e

factor_stepped : {A S : Type 0} (n : Negation) (m : Atoms A S) (L : List Token → A → Type 0) (gs : List (Around A)) (f : Factor A) (t : Token) (k : Kind) → kind_of n t ≡ k → StackFits n L gs → FactorFits n L (depth gs) f → (y : State A S)
    → outside_step n m k t (behind (factor_formula f)) (stack_seen gs) ≡ Some y → Stepped n m L (stack_tokens gs ++ factor_tokens f) t y
factor_stepped n m L gs f t kind.And is s h y e = behind_stepped n m L gs f t kind.And is s h y e
factor_stepped n m L gs f t kind.Or is s h y e = behind_stepped n m L gs f t kind.Or is s h y e
factor_stepped n m L gs f t kind.Close is s h y e = behind_stepped n m L gs f t kind.Close is s h y e
factor_stepped n m L gs f t kind.Not is s h y e = absurd (none_some y e)
factor_stepped n m L gs f t kind.Open is s h y e = absurd (none_some y e)
factor_stepped n m L gs f t kind.True is s h y e = absurd (none_some y e)
factor_stepped n m L gs f t kind.False is s h y e = absurd (none_some y e)
factor_stepped n m L gs f t kind.Other is s h y e = absurd (none_some y e)

spot_stepped : {A S : Type 0} (n : Negation) (m : Atoms A S) (L : List Token → A → Type 0) → ReadsAtoms n m L → (gs : List (Around A)) (spot : Spot A S) (t : Token) → StackFits n L gs → SpotFits n m L gs spot → (y : State A S)
    → place_step n m (kind_of n t) t (spot_seen spot) (stack_seen gs) ≡ Some y → Stepped n m L (stack_tokens gs ++ spot_tokens spot) t y
spot_stepped n m L laws gs wanted t s h y e = want_stepped n m L gs t (kind_of n t) refl s y e
spot_stepped n m L laws gs wanted_bracket t s h y e = bracket_stepped n m L gs t (kind_of n t) refl s h y e
spot_stepped n m L laws gs (read_factor f) t s h y e = factor_stepped n m L gs f t (kind_of n t) refl s h y e
spot_stepped n m L laws gs (read_part ts x) t s h y e = part_stepped n m L laws gs ts x t (kind_of n t) refl s h y e

pub stepped : {A S : Type 0} (n : Negation) (m : Atoms A S) (L : List Token → A → Type 0) → ReadsAtoms n m L → (w : Written A S) (t : Token) → Fits n m L w → (y : State A S) → step n m (seen w) t ≡ Some y → Stepped n m L (tokens w) t y
stepped n m L laws w t fits y e = spot_stepped n m L laws w.stack w.spot t fits.0 fits.1 y e
