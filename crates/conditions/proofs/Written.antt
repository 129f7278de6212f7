-- What the states of the machine have read, as trees of the grammar.
use Rattle.std.proofs.Common.{◌≡◌, ℕ, suc, ◌<◌, List, [], ◌∷◌, ◌++◌, length, Some, refl, ap, ◌∙◌, append_assoc, arith}
use Rattle.doc_types.specs.Tokens.{Token}
use Rattle.conditions.specs.declared.frames.Bracket.{Bracket}
use Rattle.conditions.specs.declared.frames.Bracket.TheVariants as bracket
use Rattle.conditions.specs.declared.kinds.Negation.{Negation}
use Rattle.conditions.specs.declared.kinds.Negation.TheVariants as negation
use Rattle.conditions.specs.Kinds.{not_word, not_sign, opens}
use Rattle.conditions.specs.Grammar.{Ors, Ands, Factor, negated, ors_tokens, ands_tokens, factor_tokens, OrsFit, AndsFit, FactorFits, ors_links, ands_links, factor_formula}
use Rattle.conditions.specs.Machine.{Frame, level, pending, want, want_bracket, behind, Atoms, Place, outside, within, State, settle}
use Rattle.conditions.specs.AtomLaws.{atom_run}

-- a frame, with what was read in it
pub data Around (A : Type 0) : Type 0 where
  opened : Bracket → Ors A → Ands A → Around A
  waiting : Around A

pub data Spot (A S : Type 0) : Type 0 where
  wanted : Spot A S
  wanted_bracket : Spot A S
  read_factor : Factor A → Spot A S
  read_part : List Token → S → Spot A S

pub record Written (A S : Type 0) : Type 0 where
  pub stack : List (Around A)
  pub spot : Spot A S

abbrev pub frame_seen : {A : Type 0} → Around A → Frame A
frame_seen (opened b o a) = level b (ors_links o) (ands_links a)
frame_seen waiting = pending

abbrev pub stack_seen : {A : Type 0} → List (Around A) → List (Frame A)
stack_seen [] = []
stack_seen (g ∷ gs) = frame_seen g ∷ stack_seen gs

abbrev pub spot_seen : {A S : Type 0} → Spot A S → Place A S
spot_seen wanted = outside want
spot_seen wanted_bracket = outside want_bracket
spot_seen (read_factor f) = outside (behind (factor_formula f))
spot_seen (read_part ts s) = within s

abbrev pub seen : {A S : Type 0} → Written A S → State A S
seen w = record { stack = stack_seen w.stack; place = spot_seen w.spot }

pub seen_length : {A : Type 0} (gs : List (Around A)) → length (stack_seen gs) ≡ length gs
seen_length [] = refl
seen_length (g ∷ gs) = ap suc (seen_length gs)

-- the tokens that were read
abbrev pub bracket_tokens : Bracket → List Token
bracket_tokens bracket.Outside = []
bracket_tokens bracket.Plain = opens ∷ []
bracket_tokens bracket.Negated = not_sign ∷ opens ∷ []

abbrev pub frame_tokens : {A : Type 0} → Around A → List Token
frame_tokens (opened b o a) = bracket_tokens b ++ (ors_tokens o ++ ands_tokens a)
frame_tokens waiting = not_word ∷ []

abbrev pub stack_tokens : {A : Type 0} → List (Around A) → List Token
stack_tokens [] = []
stack_tokens (g ∷ gs) = stack_tokens gs ++ frame_tokens g

abbrev pub spot_tokens : {A S : Type 0} → Spot A S → List Token
spot_tokens wanted = []
spot_tokens wanted_bracket = not_sign ∷ []
spot_tokens (read_factor f) = factor_tokens f
spot_tokens (read_part ts s) = ts

abbrev pub tokens : {A S : Type 0} → Written A S → List Token
tokens w = stack_tokens w.stack ++ spot_tokens w.spot

-- how many constructs are open at the top
abbrev pub depth : {A : Type 0} → List (Around A) → ℕ
depth [] = 0
depth (g ∷ gs) = length gs

abbrev pub OpenedFits : {A : Type 0} → Negation → Bracket → List (Around A) → Type 0 → Type 0
OpenedFits n bracket.Outside gs P = gs ≡ []
OpenedFits n bracket.Plain gs P = (length gs < 65) × P
OpenedFits n bracket.Negated gs P = (n ≡ negation.Sign) × ((length gs < 65) × P)

abbrev pub StackFits : {A : Type 0} → Negation → (List Token → A → Type 0) → List (Around A) → Type 0
StackFits n L [] = ⊥
StackFits n L (opened b o a ∷ gs) = OpenedFits n b gs (StackFits n L gs) × (OrsFit n L (length gs) o × AndsFit n L (length gs) a)
StackFits n L (waiting ∷ gs) = (n ≡ negation.Word) × ((length gs < 65) × StackFits n L gs)

abbrev pub SpotFits : {A S : Type 0} → Negation → Atoms A S → (List Token → A → Type 0) → List (Around A) → Spot A S → Type 0
SpotFits n m L gs wanted = Unit {0}
SpotFits n m L gs wanted_bracket = (n ≡ negation.Sign) × (length gs < 65)
SpotFits n m L gs (read_factor f) = FactorFits n L (depth gs) f
SpotFits n m L gs (read_part ts s) = atom_run n m ts ≡ Some s

abbrev pub Fits : {A S : Type 0} → Negation → Atoms A S → (List Token → A → Type 0) → Written A S → Type 0
Fits n m L w = StackFits n L w.stack × SpotFits n m L w.stack w.spot

-- a factor with all `not`s that wait for it
pub record Settled {A : Type 0} (n : Negation) (L : List Token → A → Type 0) (gs : List (Around A)) (f : Factor A) : Type 0 where
  pub last : Factor A
  pub bracket : Bracket
  pub ors : Ors A
  pub ands : Ands A
  pub below : List (Around A)
  pub settles : settle (factor_formula f) (stack_seen gs) ≡ (factor_formula last, level bracket (ors_links ors) (ands_links ands) ∷ stack_seen below)
  pub same : stack_tokens gs ++ factor_tokens f ≡ (stack_tokens below ++ (bracket_tokens bracket ++ (ors_tokens ors ++ ands_tokens ands))) ++ factor_tokens last
  pub stack_fits : StackFits n L (opened bracket ors ands ∷ below)
  pub fits : FactorFits n L (length below) last

pub settled : {A : Type 0} (n : Negation) (L : List Token → A → Type 0) (gs : List (Around A)) (f : Factor A) → StackFits n L gs → FactorFits n L (depth gs) f → Settled n L gs f
settled n L [] f s h = absurd s
settled n L (opened b o a ∷ gs) f s h = record { last = f; bracket = b; ors = o; ands = a; below = gs; settles = refl; same = refl; stack_fits = s; fits = h }
settled n L (waiting ∷ []) f s h = absurd s.1.1
settled n L (waiting ∷ (g ∷ gs)) f s h =
    let fewer : length gs < 64 = omega (arith, s.1.0) in
    let r : Settled n L (g ∷ gs) (negated f) = settled n L (g ∷ gs) (negated f) s.1.1 (s.0, (fewer, h)) in
    record {
      last = r.last;
      bracket = r.bracket;
      ors = r.ors;
      ands = r.ands;
      below = r.below;
      settles = r.settles;
      same = append_assoc (stack_tokens (g ∷ gs)) (not_word ∷ []) (factor_tokens f) ∙ r.same;
      stack_fits = r.stack_fits;
      fits = r.fits;
    }
