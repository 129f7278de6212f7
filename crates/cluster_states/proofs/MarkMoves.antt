-- How marks move a scan on.
use Rattle.std.proofs.Common.{◌≡◌, ◌≢◌, ℕ, suc, ◌+◌, ◌<◌, ◌≤◌, true, false, List, [], ◌∷◌, ◌++◌, length, take, drop, get_or, set, codes, nat_eq, refl, sym, ap, ap₂, subst, ◌∙◌, arith, Option, Some, None, cond, is_some}
use Rattle.std.specs.Option.{unwrap_or}
use mathlib.Core.Bool.{true≢false}
use Rattle.std.proofs.lemmas.Bool.Decides.{nat_tests}
use Rattle.std.proofs.lemmas.List.{append_assoc, length-append, length-set, drop_all}
use Rattle.std.proofs.lemmas.List.Elements.{All-set}
use Rattle.cluster_states.specs.ClusterStates.{State, IsState}
use Rattle.cluster_states.specs.declared.marks.Mark.{Mark}
use Rattle.cluster_states.specs.declared.marks.Mark.TheVariants.{Up, Down, Retired}
use Rattle.cluster_states.specs.declared.places.Role.{Role}
use Rattle.cluster_states.specs.declared.places.Role.TheVariants.{Distributor, Storage}
use Rattle.cluster_states.specs.declared.places.Place.TheVariants.{Sign, Gap}
use Rattle.cluster_states.specs.StateTexts.{marks_text}
use Rattle.cluster_states.specs.Scanning.{marks_of, role_word, tail_of, letter_of, mark_by, with_mark, Others, Signed, Follows, IsReady, Others_up, IsPlace, Moves}
use Rattle.cluster_states.proofs.Counting.{head_same, tail_same}
use Rattle.cluster_states.proofs.Moving.{scan_at}
use Rattle.cluster_states.proofs.MarkTexts.{take_marked, up_marked, down_is_not_up, retired_is_not_up}

-- the letter of a mark tells it
pub letter_tells : (m n : Mark) → m ≢ Up → n ≢ Up → letter_of m ≡ letter_of n → m ≡ n
letter_tells Up n a b e = absurd (a refl)
letter_tells m Up a b e = absurd (b refl)
letter_tells Down Down a b e = refl
letter_tells Retired Retired a b e = refl
letter_tells Down Retired a b e = absurd (omega (arith, e))
letter_tells Retired Down a b e = absurd (omega (arith, e))

pub down_is_not_retired : Down ≢ Retired
down_is_not_retired e = absurd (omega (arith, ap letter_of e))

storage_is_not_distributor : Storage ≢ Distributor
storage_is_not_distributor e = absurd (omega (arith, ap (λ r. get_or (role_word r) 1 0) e))

get_or_middle : (xs : List Mark) (m : Mark) (ys : List Mark) (d : Mark) → get_or (xs ++ m ∷ ys) (length xs) d ≡ m
get_or_middle [] m ys d = refl
get_or_middle (x ∷ xs) m ys d = get_or_middle xs m ys d

-- what a letter stands for
pub record Reads (role : Role) (l : ℕ) (m : Mark) : Type 0 where
  pub letter : l ≡ letter_of m
  pub marked : m ≢ Up
  pub plain : role ≡ Distributor → m ≢ Retired

some_same : (m n : Mark) → Some m ≡ Some n → m ≡ n
some_same m n e = ap (λ o. unwrap_or o m) e

not_none : (m : Mark) → ◌≡◌ {A = Option Mark} None (Some m) → ⊥
not_none m e = true≢false (sym (ap is_some e))

down_reads : (role : Role) (letter : ℕ) (m : Mark) → nat_eq letter 100 ≡ true → Down ≡ m → Reads role letter m
down_reads role letter m e same = subst (Reads role letter) same (record { letter = grind (arith, nat_tests, e); marked = down_is_not_up; plain = λ r. down_is_not_retired })

retired_reads : (letter : ℕ) (m : Mark) → nat_eq letter 114 ≡ true → Retired ≡ m → Reads Storage letter m
retired_reads letter m e same = subst (Reads Storage letter) same (record { letter = grind (arith, nat_tests, e); marked = retired_is_not_up; plain = λ r. absurd (storage_is_not_distributor r) })

pub reads : (role : Role) (letter : ℕ) (m : Mark) → mark_by role letter ≡ Some m → Reads role letter m
reads Distributor letter m =
    elim (nat_eq letter 100) as (λ b. nat_eq letter 100 ≡ b → cond b (Some Down) None ≡ Some m → Reads Distributor letter m) [
      | true ↦ (λ t e. down_reads Distributor letter m t (some_same Down m e))
      | false ↦ (λ t e. absurd (not_none m e))
    ] refl
reads Storage letter m =
    elim (nat_eq letter 100) as (λ b. nat_eq letter 100 ≡ b → cond b (Some Down) (cond (nat_eq letter 114) (Some Retired) None) ≡ Some m → Reads Storage letter m) [
      | true ↦ (λ t e. down_reads Storage letter m t (some_same Down m e))
      | false ↦ (λ t. elim (nat_eq letter 114) as (λ b. nat_eq letter 114 ≡ b → cond b (Some Retired) None ≡ Some m → Reads Storage letter m) [
        | true ↦ (λ u e. retired_reads letter m u (some_same Retired m e))
        | false ↦ (λ u e. absurd (not_none m e))
      ] refl)
    ] refl

-- each mark of a role has its letter
read_back : (role : Role) (m : Mark) → m ≢ Up → (role ≡ Distributor → m ≢ Retired) → mark_by role (letter_of m) ≡ Some m
read_back role Up marked plain = absurd (marked refl)
read_back Distributor Down marked plain = refl
read_back Storage Down marked plain = refl
read_back Distributor Retired marked plain = absurd (plain refl refl)
read_back Storage Retired marked plain = refl

-- a state with another mark
pub marks_with : (known : State) (role : Role) (n : ℕ) (m : Mark) → marks_of role (with_mark known role n m) ≡ set (marks_of role known) n m
marks_with known Distributor n m = refl
marks_with known Storage n m = refl

pub others_with : (known : State) (role : Role) (n : ℕ) (m : Mark) (s : State) → Others role known s → Others role (with_mark known role n m) s
others_with known Distributor n m s h = h
others_with known Storage n m s h = h

others_without : (known : State) (role : Role) (n : ℕ) (m : Mark) (s : State) → Others role (with_mark known role n m) s → Others role known s
others_without known Distributor n m s h = h
others_without known Storage n m s h = h

up_with : (known : State) (role : Role) (n : ℕ) (m : Mark) → Others_up role known → Others_up role (with_mark known role n m)
up_with known Distributor n m h = h
up_with known Storage n m h = h

pub state_with : (known : State) (role : Role) (n : ℕ) (m : Mark) → (role ≡ Distributor → m ≢ Retired) → IsState known → IsState (with_mark known role n m)
state_with known Distributor n m plain h = record {
  some_groups = h.some_groups;
  few_groups = h.few_groups;
  version = h.version;
  some_distributors = omega (arith, h.some_distributors, length-set known.distributors n m);
  few_distributors = omega (arith, h.few_distributors, length-set known.distributors n m);
  some_nodes = h.some_nodes;
  few_nodes = h.few_nodes;
  plain = All-set (λ x. x ≢ Retired) known.distributors n m (plain refl) h.plain;
}
state_with known Storage n m plain h = record {
  some_groups = h.some_groups;
  few_groups = h.few_groups;
  version = h.version;
  some_distributors = h.some_distributors;
  few_distributors = h.few_distributors;
  some_nodes = omega (arith, h.some_nodes, length-set known.nodes n m);
  few_nodes = omega (arith, h.few_nodes, length-set known.nodes n m);
  plain = h.plain;
}

ready_with : (known : State) (role : Role) (n : ℕ) (m : Mark) → (role ≡ Distributor → m ≢ Retired) → n < length (marks_of role known) → IsReady role n known → IsReady role (suc n) (with_mark known role n m)
ready_with known role n m plain lt r = record {
  state = state_with known role n m plain r.state;
  few = rw (marks_with known role n m) (omega (arith, lt, length-set (marks_of role known) n m));
  up = rw (marks_with known role n m) (up_marked n (marks_of role known) m r.up);
  others = up_with known role n m r.others;
}

take_with : (known : State) (role : Role) (n : ℕ) (m : Mark) (rest : List Mark) → n < length (marks_of role known)
    → take n (marks_of role known) ++ m ∷ rest ≡ take (suc n) (marks_of role (with_mark known role n m)) ++ rest
take_with known role n m rest lt =
    sym (append_assoc (take n (marks_of role known)) (m ∷ []) rest)
    ∙ ap (λ l. l ++ rest) (sym (take_marked n (marks_of role known) m lt) ∙ ap (take (suc n)) (sym (marks_with known role n m)))

-- the letter of a mark
signed_follows : (known : State) (role : Role) (n letter : ℕ) (m : Mark) (more : List ℕ) (s : State) → n < length (marks_of role known) → Reads role letter m
    → Signed role n known (letter ∷ more) s → Follows role (suc n) (with_mark known role n m) more s
signed_follows known role n letter m more s lt r g =
    let same : g.mark ≡ m = letter_tells g.mark m g.marked r.marked (sym (head_same letter (letter_of g.mark) more _ g.text) ∙ r.letter) in
    record {
      rest = g.rest;
      others = others_with known role n m s g.others;
      size = g.size ∙ sym (ap length (marks_with known role n m) ∙ length-set (marks_of role known) n m);
      marks = g.marks ∙ ap (λ x. take n (marks_of role known) ++ x ∷ g.rest) same ∙ take_with known role n m g.rest lt;
      text = tail_same letter (letter_of g.mark) more _ g.text ∙ ap (λ k. marks_text (role_word role) k g.rest ++ tail_of role s) (omega arith);
    }

follows_signed : (known : State) (role : Role) (n letter : ℕ) (m : Mark) (more : List ℕ) (s : State) → n < length (marks_of role known) → Reads role letter m
    → Follows role (suc n) (with_mark known role n m) more s → Signed role n known (letter ∷ more) s
follows_signed known role n letter m more s lt r f = record {
  mark = m;
  rest = f.rest;
  others = others_without known role n m s f.others;
  size = f.size ∙ ap length (marks_with known role n m) ∙ length-set (marks_of role known) n m;
  marks = f.marks ∙ sym (take_with known role n m f.rest lt);
  marked = r.marked;
  text = ap₂ (λ c l. c ∷ l) r.letter (f.text ∙ ap (λ k. marks_text (role_word role) k f.rest ++ tail_of role s) (omega arith));
}

sign_over : (at : ℕ) (rest more : List ℕ) → 3 ≤ at → more ≡ drop at (codes ".s:") ++ rest → more ≡ rest
sign_over at rest more le e = e ∙ ap (λ l. l ++ rest) (drop_all at (codes ".s:") le)

pub mark_moves : (known : State) (role : Role) (n at letter : ℕ) (m : Mark) → 3 ≤ at → mark_by role letter ≡ Some m → IsPlace (Sign role n at) known
    → Moves (scan_at (Sign role n at) known) letter (Some (scan_at (Gap role (n + 1)) (with_mark known role n m)))
mark_moves known role n at letter m le e k =
    let r = reads role letter m e in
    let on : suc n ≡ n + 1 = omega arith in
    subst (λ j. Moves (scan_at (Sign role n at) known) letter (Some (scan_at (Gap role j) (with_mark known role n m)))) on (
      ready_with known role n m r.plain k.0 k.1.0,
      λ more s. (
        (λ h. (h.0, signed_follows known role n letter m more s k.0 r (subst (λ l. Signed role n known l s) (sym (sign_over at h.1.0 (letter ∷ more) le h.1.1.0)) h.1.1.1))),
        (λ h. (h.0, (letter ∷ more, (sym (ap (λ l. l ++ letter ∷ more) (drop_all at (codes ".s:") le)), follows_signed known role n letter m more s k.0 r h.1)))),
      ),
    )

-- a distributor is never retired
signed_plain : (known : State) (role : Role) (n : ℕ) (more : List ℕ) (s : State) → IsState s → (g : Signed role n known more s) → role ≡ Distributor → g.mark ≢ Retired
signed_plain known Storage n more s state g e retired = absurd (storage_is_not_distributor e)
signed_plain known Distributor n more s state g e retired =
    let size = ap length g.marks ∙ length-append (take n known.distributors) (g.mark ∷ g.rest) in
    state.plain (length (take n known.distributors)) Up (omega (arith, size))
    (ap (λ l. get_or l (length (take n known.distributors)) Up) g.marks ∙ get_or_middle (take n known.distributors) g.mark g.rest Up ∙ retired)

pub mark_stops : (known : State) (role : Role) (n at letter : ℕ) → 3 ≤ at → mark_by role letter ≡ None → Moves (scan_at (Sign role n at) known) letter None
mark_stops known role n at letter le e = λ more s h.
    let g : Signed role n known (letter ∷ more) s = subst (λ l. Signed role n known l s) (sym (sign_over at h.1.0 (letter ∷ more) le h.1.1.0)) h.1.1.1 in
    let is : letter ≡ letter_of g.mark = head_same letter (letter_of g.mark) more _ g.text in
    not_none g.mark (sym (sym (read_back role g.mark g.marked (signed_plain known role n (letter ∷ more) s h.0 g)) ∙ ap (mark_by role) (sym is) ∙ e))
