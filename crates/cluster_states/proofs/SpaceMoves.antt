-- How a space and the letter behind it move a scan on, and where a text may end.
use Rattle.std.proofs.Common.{◌≡◌, ◌⊎◌, ℕ, ◌+◌, ◌-◌, ◌<◌, ◌≤◌, true, false, List, [], ◌∷◌, ◌++◌, length, take, drop, replicate, codes, nat_lt, nat_eq, inl, inr, refl, sym, ap, ap₂, subst, ◌∙◌, arith, Option, Some, None, cond}
use mathlib.Core.Bool.{true≢false}
use Rattle.std.specs.Prelude.{⊤}
use Rattle.std.specs.Fmt.{decimal}
use Rattle.std.proofs.lemmas.Bool.Decides.{nat_tests}
use Rattle.std.proofs.lemmas.List.{append_assoc, append-nil, length-append, length-take, length-replicate, take-append-drop, take_all}
use Rattle.cluster_states.specs.ClusterStates.{State}
use Rattle.cluster_states.specs.declared.marks.Mark.{Mark}
use Rattle.cluster_states.specs.declared.marks.Mark.TheVariants.{Up, Down, Retired}
use Rattle.cluster_states.specs.declared.places.Role.{Role}
use Rattle.cluster_states.specs.declared.places.Role.TheVariants.{Distributor, Storage}
use Rattle.cluster_states.specs.declared.places.Number.{Number}
use Rattle.cluster_states.specs.declared.places.Number.TheVariants.{Version, Distributors, Marked}
use Rattle.cluster_states.specs.declared.places.Place.TheVariants.{Word, Sign, Gap, Space}
use Rattle.cluster_states.specs.StateTexts.{marks_text, after_distributors}
use Rattle.cluster_states.specs.Scanning.{Scan, marks_of, role_word, word_of, tail_of, letter_of, number_by, has_room, Others, Follows, Numbered, AreUpFrom, IsReady, Others_up, IsKnown, IsPlace, IsWithin, IsBehind, Moves, Ends, At}
use Rattle.std.proofs.lemmas.Fmt.{decimal_nonempty}
use Rattle.cluster_states.proofs.Counting.{signed_within, takes_within, few_numbers, head_same, tail_same}
use Rattle.cluster_states.proofs.Moving.{scan_at}
use Rattle.cluster_states.proofs.MarkTexts.{NoMark, FirstMark, first_mark, skip_up, text_of_mark, take_up, up_later}

-- a text of marks begins with a space
abbrev pub Spaced : List ℕ → Type 0
Spaced [] = ⊤
Spaced (c ∷ cs) = c ≡ 32

pub marks_spaced : (role : Role) (n : ℕ) (ms : List Mark) (tail : List ℕ) → Spaced tail → Spaced (marks_text (role_word role) n ms ++ tail)
marks_spaced role n [] tail h = h
marks_spaced role n (Up ∷ ms) tail h = marks_spaced role (n + 1) ms tail h
marks_spaced Distributor n (Down ∷ ms) tail h = refl
marks_spaced Storage n (Down ∷ ms) tail h = refl
marks_spaced Distributor n (Retired ∷ ms) tail h = refl
marks_spaced Storage n (Retired ∷ ms) tail h = refl

pub tail_spaced : (role : Role) (s : State) → Spaced (tail_of role s)
tail_spaced Distributor s = subst Spaced (append-nil _) (marks_spaced Storage 0 s.nodes [] tt)
tail_spaced Storage s = tt

pub gap_letter : (role : Role) (least : ℕ) (known : State) (letter : ℕ) → (letter ≡ 32 → ⊥) → Moves (scan_at (Gap role least) known) letter None
gap_letter role least known letter other = λ more s h. other (subst Spaced (sym h.1.text) (marks_spaced role least h.1.rest (tail_of role s) (tail_spaced role s)))

-- there is nothing behind the last number
no_rest : (role : Role) (least : ℕ) (known : State) (more : List ℕ) (s : State) → length (marks_of role known) ≤ least → (f : Follows role least known more s) → f.rest ≡ []
no_rest role least known more s le f =
    empty f.rest (omega (arith, f.size, ap length f.marks, length-append (take least (marks_of role known)) f.rest, length-take least (marks_of role known), le))
  where
    empty : (ms : List Mark) → length ms ≡ 0 → ms ≡ []
    empty [] e = refl
    empty (m ∷ ms) e = absurd (omega (arith, e))

not_nothing : (c : ℕ) (cs : List ℕ) → c ∷ cs ≡ [] → ⊥
not_nothing c cs e = absurd (omega (arith, ap length e))

pub gap_room : (role : Role) (least : ℕ) (known : State) (letter : ℕ) → has_room role least known ≡ false → Moves (scan_at (Gap role least) known) letter None
gap_room Distributor least known letter e = absurd (true≢false e)
gap_room Storage least known letter e = λ more s h.
    let le : length known.nodes ≤ least = grind (arith, nat_tests, e) in
    not_nothing letter more (h.1.text ∙ ap (λ ms. marks_text (role_word Storage) least ms ++ []) (no_rest Storage least known (letter ∷ more) s le h.1))

-- the letters behind the space
abbrev pub role_letter : Role → ℕ
role_letter Distributor = 100
role_letter Storage = 115

pub word_is : (role : Role) (least : ℕ) (more : List ℕ) → role_word role ++ more ≡ 32 ∷ role_letter role ∷ (word_of (Marked role least) ++ more)
word_is Distributor least more = refl
word_is Storage least more = refl

inner : (w d : List ℕ) (l : ℕ) (m t : List ℕ) → (w ++ (d ++ (46 ∷ 115 ∷ 58 ∷ l ∷ m))) ++ t ≡ w ++ (d ++ (46 ∷ 115 ∷ 58 ∷ l ∷ (m ++ t)))
inner w d l m t = append_assoc w (d ++ (46 ∷ 115 ∷ 58 ∷ l ∷ m)) t ∙ ap (λ x. w ++ x) (append_assoc d (46 ∷ 115 ∷ 58 ∷ l ∷ m) t)

-- a mark that is found is the next number's
found_numbered : (role : Role) (least : ℕ) (known : State) (text : List ℕ) (s : State) → IsReady role least known → (f : Follows role least known text s) → FirstMark role least f.rest
    → (more : List ℕ) × ((text ≡ 32 ∷ role_letter role ∷ (word_of (Marked role least) ++ more)) × Numbered (Marked role least) known more s)
found_numbered role least known text s r f fm =
    let n : ℕ = least + fm.skipped in
    let behind : List ℕ = letter_of fm.mark ∷ (marks_text (role_word role) (n + 1) fm.rest ++ tail_of role s) in
    let size = ap length f.marks ∙ length-append (take least (marks_of role known)) f.rest in
    let size_rest = ap length fm.is ∙ length-append (replicate fm.skipped Up) (fm.mark ∷ fm.rest) in
    let few : least + fm.skipped ≤ length (marks_of role known) = omega (arith, f.size, size, size_rest, length-replicate fm.skipped Up, length-take least (marks_of role known), r.few) in (
      decimal n ++ (codes ".s:" ++ behind),
      (
        f.text ∙ ap (λ l. l ++ tail_of role s) fm.text ∙ inner (role_word role) (decimal n) (letter_of fm.mark) (marks_text (role_word role) (n + 1) fm.rest) (tail_of role s)
            ∙ word_is role least (decimal n ++ (codes ".s:" ++ behind)),
        record {
          value = n;
          after = codes ".s:" ++ behind;
          text = refl;
          takes = (
            omega arith,
            (
              behind,
              (
                refl,
                record {
                  mark = fm.mark;
                  rest = fm.rest;
                  others = f.others;
                  size = f.size;
                  marks = f.marks ∙ ap (λ l. take least (marks_of role known) ++ l) fm.is ∙ sym (append_assoc (take least (marks_of role known)) (replicate fm.skipped Up) (fm.mark ∷ fm.rest))
                      ∙ ap (λ l. l ++ fm.mark ∷ fm.rest) (sym (take_up least fm.skipped (marks_of role known) r.up few));
                  marked = fm.marked;
                  text = refl;
                },
              ),
            ),
          );
        },
      ),
    )

-- and the other way round
numbered_follows : (role : Role) (least : ℕ) (known : State) (more : List ℕ) (s : State) → IsReady role least known → Numbered (Marked role least) known more s
    → Follows role least known (32 ∷ role_letter role ∷ (word_of (Marked role least) ++ more)) s
numbered_follows role least known more s r h =
    let g = h.takes.1.1.1 in
    let k : ℕ = h.value - least in
    let at : least + k ≡ h.value = omega (arith, h.takes.0) in
    let size = ap length g.marks ∙ length-append (take h.value (marks_of role known)) (g.mark ∷ g.rest) in
    let few : least + k ≤ length (marks_of role known) = omega (arith, at, g.size, size, length-take h.value (marks_of role known)) in
    let taken : take h.value (marks_of role known) ≡ take least (marks_of role known) ++ replicate k Up = ap (λ j. take j (marks_of role known)) (sym at) ∙ take_up least k (marks_of role known) r.up few in
    let written : marks_text (role_word role) least (replicate k Up ++ g.mark ∷ g.rest) ≡ role_word role ++ (decimal h.value ++ (codes ".s:" ++ letter_of g.mark ∷ marks_text (role_word role) (h.value + 1) g.rest)) =
    skip_up role least k (g.mark ∷ g.rest) ∙ ap (λ j. marks_text (role_word role) j (g.mark ∷ g.rest)) at ∙ text_of_mark role h.value g.mark g.rest g.marked in
    record {
      rest = replicate k Up ++ g.mark ∷ g.rest;
      others = g.others;
      size = g.size;
      marks = g.marks ∙ ap (λ l. l ++ g.mark ∷ g.rest) taken ∙ append_assoc (take least (marks_of role known)) (replicate k Up) (g.mark ∷ g.rest);
      text = sym (ap (λ l. l ++ tail_of role s) written
          ∙ inner (role_word role) (decimal h.value) (letter_of g.mark) (marks_text (role_word role) (h.value + 1) g.rest) (tail_of role s)
          ∙ word_is role least (decimal h.value ++ (codes ".s:" ++ letter_of g.mark ∷ (marks_text (role_word role) (h.value + 1) g.rest ++ tail_of role s)))
          ∙ ap (λ l. 32 ∷ role_letter role ∷ (word_of (Marked role least) ++ l)) (sym (h.text ∙ ap (λ l. decimal h.value ++ l) (h.takes.1.1.0 ∙ ap (λ l. codes ".s:" ++ l) g.text))));
    }

-- what no mark leaves of the marks of a role
pub unmarked : (role : Role) (least : ℕ) (known : State) (text : List ℕ) (s : State) → IsReady role least known → (f : Follows role least known text s) → NoMark role least f.rest
    → marks_of role s ≡ marks_of role known
unmarked role least known text s r f none =
    let size = ap length f.marks ∙ length-append (take least (marks_of role known)) f.rest in
    let all : least + length f.rest ≡ length (marks_of role known) = omega (arith, f.size, size, length-take least (marks_of role known), r.few) in
    f.marks ∙ ap (λ l. take least (marks_of role known) ++ l) none.is
    ∙ sym (take_up least (length f.rest) (marks_of role known) r.up (omega (arith, all)))
    ∙ ap (λ j. take j (marks_of role known)) all ∙ take_all (length (marks_of role known)) (marks_of role known) (omega arith)

space_found : (role : Role) (least : ℕ) (known : State) (l : ℕ) (more : List ℕ) (s : State) → IsReady role least known → (f : Follows role least known (32 ∷ l ∷ more) s) → FirstMark role least f.rest
    → (l ≡ role_letter role) × At (Word (Marked role least) 0) known more s
space_found role least known l more s r f fm =
    let g = found_numbered role least known (32 ∷ l ∷ more) s r f fm in
    let behind = tail_same 32 32 (l ∷ more) (role_letter role ∷ (word_of (Marked role least) ++ g.0)) g.1.0 in (
      head_same l (role_letter role) more (word_of (Marked role least) ++ g.0) behind,
      (g.0, (tail_same l (role_letter role) more (word_of (Marked role least) ++ g.0) behind, g.1.1)),
    )

space_word : (role : Role) (least : ℕ) (known : State) (more : List ℕ) (s : State) → IsReady role least known → At (Word (Marked role least) 0) known more s
    → Follows role least known (32 ∷ role_letter role ∷ more) s
space_word role least known more s r h = subst (λ t. Follows role least known (32 ∷ role_letter role ∷ t) s) (sym h.1.0) (numbered_follows role least known h.0 s r h.1.1)

storage_space : (least : ℕ) (known : State) (l : ℕ) (more : List ℕ) (s : State) → IsReady Storage least known → Follows Storage least known (32 ∷ l ∷ more) s
    → (l ≡ 115) × At (Word (Marked Storage least) 0) known more s
storage_space least known l more s r f = elim (first_mark Storage least f.rest) [
  | inl none ↦ absurd (not_nothing 32 (l ∷ more) (f.text ∙ ap (λ t. t ++ []) none.text))
  | inr found ↦ space_found Storage least known l more s r f found
]

storage_ready : (least : ℕ) (known : State) → IsReady Distributor least known → IsReady Storage 0 known
storage_ready least known r = record { state = r.state; few = omega arith; up = r.others; others = tt }

nodes_follow : (least : ℕ) (known : State) (text : List ℕ) (s : State) → IsReady Distributor least known → (f : Follows Distributor least known text s) → NoMark Distributor least f.rest
    → Follows Storage 0 known text s
nodes_follow least known text s r f none = record {
  rest = s.nodes;
  others = (f.others.0, unmarked Distributor least known text s r f none);
  size = f.others.1;
  marks = refl;
  text = f.text ∙ ap (λ t. t ++ tail_of Distributor s) none.text ∙ sym (append-nil _);
}

follow_nodes : (least : ℕ) (known : State) (text : List ℕ) (s : State) → IsReady Distributor least known → Follows Storage 0 known text s → Follows Distributor least known text s
follow_nodes least known text s r f =
    let none : marks_text (role_word Distributor) least (drop least known.distributors) ≡ [] =
    ap (marks_text (role_word Distributor) least) (r.up ∙ sym (append-nil (replicate (length known.distributors - least) Up))) ∙ skip_up Distributor least (length known.distributors - least) [] in
    record {
      rest = drop least known.distributors;
      others = (f.others.0, f.size);
      size = ap length f.others.1;
      marks = f.others.1 ∙ sym (take-append-drop least known.distributors);
      text = f.text ∙ append-nil _ ∙ ap (marks_text (role_word Storage) 0) (sym f.marks) ∙ ap (λ t. t ++ tail_of Distributor s) (sym none);
    }

pub distributor_space : (least : ℕ) (known : State) (l : ℕ) (more : List ℕ) (s : State) → IsReady Distributor least known → Follows Distributor least known (32 ∷ l ∷ more) s
    → ((l ≡ 100) × At (Word (Marked Distributor least) 0) known more s) ⊎ ((l ≡ 115) × At (Word (Marked Storage 0) 0) known more s)
distributor_space least known l more s r f = elim (first_mark Distributor least f.rest) [
  | inl none ↦ inr (storage_space 0 known l more s (storage_ready least known r) (nodes_follow least known (32 ∷ l ∷ more) s r f none))
  | inr found ↦ inl (space_found Distributor least known l more s r f found)
]

-- what a letter behind the space leads to
to_distributor : (least : ℕ) (known : State) (l : ℕ) → l ≡ 100 → least < length known.distributors → IsReady Distributor least known
    → Moves (scan_at (Space Distributor least) known) l (Some (scan_at (Word (Marked Distributor least) 0) known))
to_distributor least known l e lt r = (
  ((lt, r), omega arith),
  λ more s. (
    (λ h. (h.0, elim (distributor_space least known l more s r h.1) [ inl g ↦ g.1 | inr g ↦ absurd (omega (arith, e, g.0)) ])),
    (λ h. (h.0, subst (λ c. Follows Distributor least known (32 ∷ c ∷ more) s) (sym e) (space_word Distributor least known more s r h.1))),
  ),
)

pub to_nodes : (least : ℕ) (known : State) (l : ℕ) → l ≡ 115 → IsReady Distributor least known
    → Moves (scan_at (Space Distributor least) known) l (Some (scan_at (Word (Marked Storage 0) 0) known))
to_nodes least known l e r = (
  ((omega (arith, r.state.some_nodes), storage_ready least known r), omega arith),
  λ more s. (
    (λ h. (h.0, elim (distributor_space least known l more s r h.1) [ inl g ↦ absurd (omega (arith, e, g.0)) | inr g ↦ g.1 ])),
    (λ h. (h.0, subst (λ c. Follows Distributor least known (32 ∷ c ∷ more) s) (sym e) (follow_nodes least known (32 ∷ 115 ∷ more) s r (space_word Storage 0 known more s (storage_ready least known r) h.1)))),
  ),
)

pub to_node : (least : ℕ) (known : State) (l : ℕ) → l ≡ 115 → least < length known.nodes → IsReady Storage least known
    → Moves (scan_at (Space Storage least) known) l (Some (scan_at (Word (Marked Storage least) 0) known))
to_node least known l e lt r = (
  ((lt, r), omega arith),
  λ more s. (
    (λ h. (h.0, (storage_space least known l more s r h.1).1)),
    (λ h. (h.0, subst (λ c. Follows Storage least known (32 ∷ c ∷ more) s) (sym e) (space_word Storage least known more s r h.1))),
  ),
)

no_distributor : (least : ℕ) (known : State) (l : ℕ) → ((l ≡ 100) → length known.distributors ≤ least) → (l ≡ 115 → ⊥) → IsReady Distributor least known → Moves (scan_at (Space Distributor least) known) l None
no_distributor least known l full other r = λ more s h. elim (distributor_space least known l more s r h.1) [
  | inl g ↦ (let n = signed_within Distributor _ known _ s g.1.1.1.takes.1.1.1 in absurd (omega (arith, n, g.1.1.1.takes.0, full g.0)))
  | inr g ↦ other g.0
]

no_node : (least : ℕ) (known : State) (l : ℕ) → (l ≡ 115 → ⊥) → IsReady Storage least known → Moves (scan_at (Space Storage least) known) l None
no_node least known l other r = λ more s h. other (storage_space least known l more s r h.1).0

abbrev led : State → Option Number → Option Scan
led known None = None
led known (Some number) = Some (scan_at (Word number 0) known)

is_letter : (l c : ℕ) → nat_eq l c ≡ true → l ≡ c
is_letter l c e = grind (arith, nat_tests, e)

no_letter : (l c : ℕ) → nat_eq l c ≡ false → l ≡ c → ⊥
no_letter l c e is = true≢false (sym (same l c is) ∙ e)
  where
    same : (l c : ℕ) → l ≡ c → nat_eq l c ≡ true
    same l c is = grind (arith, nat_tests, is)

pub space_leads : (role : Role) (least : ℕ) (known : State) (l : ℕ) → IsPlace (Space role least) known → Moves (scan_at (Space role least) known) l (led known (number_by role least known l))
space_leads Distributor least known l k =
    elim (nat_eq l 100) as (λ b. nat_eq l 100 ≡ b → Moves (scan_at (Space Distributor least) known) l (led known (cond b (cond (nat_lt least (length known.distributors)) (Some (Marked Distributor least)) None) (cond (nat_eq l 115) (Some (Marked Storage 0)) None)))) [
      | true ↦ (λ e. elim (nat_lt least (length known.distributors)) as (λ b. nat_lt least (length known.distributors) ≡ b → Moves (scan_at (Space Distributor least) known) l (led known (cond b (Some (Marked Distributor least)) None))) [
        | true ↦ (λ lt. to_distributor least known l (is_letter l 100 e) (grind (arith, nat_tests, lt)) k.0)
        | false ↦ (λ ge. no_distributor least known l (λ _. grind (arith, nat_tests, ge)) (λ x. omega (arith, is_letter l 100 e, x)) k.0)
      ] refl)
      | false ↦ (λ e. elim (nat_eq l 115) as (λ b. nat_eq l 115 ≡ b → Moves (scan_at (Space Distributor least) known) l (led known (cond b (Some (Marked Storage 0)) None))) [
        | true ↦ (λ x. to_nodes least known l (is_letter l 115 x) k.0)
        | false ↦ (λ x. no_distributor least known l (λ y. absurd (no_letter l 100 e y)) (no_letter l 115 x) k.0)
      ] refl)
    ] refl
space_leads Storage least known l k =
    elim (nat_eq l 115) as (λ b. nat_eq l 115 ≡ b → Moves (scan_at (Space Storage least) known) l (led known (cond b (Some (Marked Storage least)) None))) [
      | true ↦ (λ e. to_node least known l (is_letter l 115 e) k.1 k.0)
      | false ↦ (λ e. no_node least known l (no_letter l 115 e) k.0)
    ] refl

pub space_moves : (role : Role) (least : ℕ) (known : State) (l : ℕ) (number : Number) → Some number ≡ number_by role least known l → IsPlace (Space role least) known
    → Moves (scan_at (Space role least) known) l (Some (scan_at (Word number 0) known))
space_moves role least known l number e k = subst (λ o. Moves (scan_at (Space role least) known) l (led known o)) (sym e) (space_leads role least known l k)

pub space_stops : (role : Role) (least : ℕ) (known : State) (l : ℕ) → None ≡ number_by role least known l → IsPlace (Space role least) known → Moves (scan_at (Space role least) known) l None
space_stops role least known l e k = subst (λ o. Moves (scan_at (Space role least) known) l (led known o)) (sym e) (space_leads role least known l k)

-- where a text may end
pub gap_ends : (role : Role) (least : ℕ) (known : State) → IsPlace (Gap role least) known → Ends (scan_at (Gap role least) known) (Some known)
gap_ends role least known r =
    let none : marks_text (role_word role) least (drop least (marks_of role known)) ≡ [] =
    ap (marks_text (role_word role) least) (r.up ∙ sym (append-nil (replicate (length (marks_of role known) - least) Up))) ∙ skip_up role least (length (marks_of role known) - least) [] in (
      r.state,
      record {
        rest = drop least (marks_of role known);
        others = itself role known;
        size = refl;
        marks = sym (take-append-drop least (marks_of role known));
        text = sym (ap (λ t. t ++ tail_of role known) none ∙ no_tail role known r.others);
      },
    )
  where
    itself : (role : Role) (known : State) → Others role known known
    itself Distributor known = ((refl, refl), refl)
    itself Storage known = ((refl, refl), refl)

    no_tail : (role : Role) (known : State) → Others_up role known → tail_of role known ≡ []
    no_tail Distributor known up = ap (marks_text (role_word Storage) 0) (up ∙ sym (append-nil (replicate (length known.nodes - 0) Up))) ∙ skip_up Storage 0 (length known.nodes - 0) []
    no_tail Storage known up = refl

-- and where it can't
pub space_ends : (role : Role) (least : ℕ) (known : State) → IsPlace (Space role least) known → Ends (scan_at (Space role least) known) None
space_ends Distributor least known k = λ s h.
    elim (first_mark Distributor least h.1.rest) [
      | inl none ↦ no_node_text (nodes_follow least known (32 ∷ []) s k.0 h.1 none) (storage_ready least known k.0)
      | inr found ↦ (let g = found_numbered Distributor least known (32 ∷ []) s k.0 h.1 found in absurd (omega (arith, ap length g.1.0)))
    ]
  where
    no_node_text : {s : State} → Follows Storage 0 known (32 ∷ []) s → IsReady Storage 0 known → ⊥
    no_node_text {s} f r = elim (first_mark Storage 0 f.rest) [
      | inl none ↦ not_nothing 32 [] (f.text ∙ ap (λ t. t ++ []) none.text)
      | inr found ↦ (let g = found_numbered Storage 0 known (32 ∷ []) s r f found in absurd (omega (arith, ap length g.1.0)))
    ]
space_ends Storage least known k = λ s h.
    elim (first_mark Storage least h.1.rest) [
      | inl none ↦ not_nothing 32 [] (h.1.text ∙ ap (λ t. t ++ []) none.text)
      | inr found ↦ (let g = found_numbered Storage least known (32 ∷ []) s k.0 h.1 found in absurd (omega (arith, ap length g.1.0)))
    ]

pub sign_ends : (role : Role) (n at : ℕ) (known : State) → Ends (scan_at (Sign role n at) known) None
sign_ends role n at known = λ s h.
    let e : [] ≡ drop at (codes ".s:") ++ h.1.0 = h.1.1.0 in
    absurd (omega (arith, ap length e, length-append (drop at (codes ".s:")) h.1.0, ap length h.1.1.1.text))

pub word_ends : (number : Number) (at : ℕ) (known : State) → IsPlace (Word number at) known → Ends (scan_at (Word number at) known) None
word_ends number at known k = λ s h.
    let n = h.1.1.1 in
    let within = takes_within number known n.value n.after s h.0 n.takes in
    let some = decimal_nonempty n.value (omega (arith, within.1, few_numbers number known k.0)) in
    absurd (omega (arith, ap length h.1.1.0, length-append (drop at (word_of number)) h.1.0, ap length n.text, length-append (decimal n.value) n.after, some))

-- where a number ends
pub behind_version : (known : State) (value : ℕ) → IsKnown Version known → IsWithin Version known value
    → IsBehind Version known value (scan_at (Word Distributors 0) (record { version = value; distributors = known.distributors; nodes = known.nodes; groups = known.groups }))
behind_version known value k w = (
  tt,
  (
    ((w.1, k), omega arith),
    λ more s. (
      (λ h. (h.0, (decimal (length s.distributors) ++ after_distributors s, (h.1.1, record { value = length s.distributors; after = after_distributors s; text = refl; takes = (h.1.0, (refl, refl)) })))),
      (λ h. let n = h.1.1.1 in (h.0, (n.takes.0, h.1.1.0 ∙ ap (λ t. codes " distributor:" ++ t) (n.text ∙ ap₂ (λ a b. decimal a ++ b) (sym n.takes.1.0) n.takes.1.1)))),
    ),
  ),
)

ready_later : (role : Role) (least n : ℕ) (known : State) → least ≤ n → n ≤ length (marks_of role known) → IsReady role least known → IsReady role n known
ready_later role least n known le few r =
    let at : least + (n - least) ≡ n = omega arith in
    record { state = r.state; few = few; up = subst (λ j. AreUpFrom j (marks_of role known)) at (up_later least (n - least) (marks_of role known) r.up); others = r.others }

pub behind_marked : (role : Role) (least : ℕ) (known : State) (value : ℕ) → IsKnown (Marked role least) known → IsWithin (Marked role least) known value
    → IsBehind (Marked role least) known value (scan_at (Sign role value 0) known)
behind_marked role least known value k w = (
  tt,
  (
    (w.1, (ready_later role least value known w.0 (omega (arith, w.1)) k.1, omega arith)),
    λ more s. (
      (λ h. (h.0, h.1.1)),
      (λ h. (h.0, (w.0, h.1))),
    ),
  ),
)
