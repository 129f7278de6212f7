-- How the number of groups moves a scan on.
use Rattle.std.proofs.Common.{◌≡◌, ℕ, ◌≤◌, Bool, true, false, List, [], ◌∷◌, ◌++◌, length, drop, codes, nat_eq, inl, inr, refl, sym, ap, ap₂, subst, ◌∙◌, arith, Option, Some, None, cond}
use Rattle.std.specs.Fmt.{decimal}
use Rattle.std.proofs.lemmas.Bool.{cases_eq}
use Rattle.std.proofs.lemmas.Bool.Decides.{nat_tests}
use Rattle.std.proofs.lemmas.List.{append_assoc}
use Rattle.cluster_states.specs.ClusterStates.{State}
use Rattle.cluster_states.specs.declared.places.Role.TheVariants.{Distributor}
use Rattle.cluster_states.specs.declared.places.Number.TheVariants.{Groups}
use Rattle.cluster_states.specs.declared.places.Place.TheVariants.{Word, Counts, CountsSpace, Space}
use Rattle.cluster_states.specs.StateTexts.{marks_text, groups_text, after_counts, after_groups}
use Rattle.cluster_states.specs.Scanning.{Scan, role_word, tail_of, Follows, IsPlain, Moves, Ends, At}
use Rattle.cluster_states.proofs.Counting.{head_same, tail_same}
use Rattle.cluster_states.proofs.Moving.{scan_at}
use Rattle.cluster_states.proofs.SpaceMoves.{Spaced, marks_spaced, tail_spaced, distributor_space, gap_ends, space_ends}

-- one group isn't written
pub one_group : (s : State) → s.groups ≡ 1 → after_counts s ≡ after_groups s
one_group s e = ap (λ g. groups_text g ++ after_groups s) e

pub more_groups : (s : State) → (s.groups ≡ 1 → ⊥) → after_counts s ≡ codes " groups:" ++ (decimal s.groups ++ after_groups s)
more_groups s other =
    let not : nat_eq s.groups 1 ≡ false = grind (arith, nat_tests) in
    ap (λ b. cond b [] (codes " groups:" ++ decimal s.groups) ++ after_groups s) not ∙ append_assoc (codes " groups:") (decimal s.groups) (after_groups s)

-- with one group, the counts go on as what is behind the groups
counts_follow : (known : State) (more : List ℕ) (s : State) → IsPlain known → Follows Distributor 0 known more s → At Counts known more s
counts_follow known more s k f = (
  (f.others.0.0, (f.size, f.others.1)),
  f.text ∙ ap (λ ms. marks_text (role_word Distributor) 0 ms ++ tail_of Distributor s) (sym f.marks) ∙ sym (one_group s (f.others.0.1 ∙ k.1)),
)

follow_counts : (known : State) (more : List ℕ) (s : State) → IsPlain known → s.groups ≡ 1 → At Counts known more s → Follows Distributor 0 known more s
follow_counts known more s k one h =
    record { rest = s.distributors; others = ((h.0.0, one ∙ sym k.1), h.0.1.1); size = h.0.1.0; marks = refl; text = h.1 ∙ one_group s one }

-- another letter than that of the groups
no_groups : (l : ℕ) (more : List ℕ) (s : State) → (l ≡ 103 → ⊥) → 32 ∷ l ∷ more ≡ after_counts s → s.groups ≡ 1
no_groups l more s not e = elim (cases_eq s.groups 1) [
  | inl one ↦ one
  | inr other ↦ absurd (not (head_same l 103 more _ (tail_same 32 32 (l ∷ more) _ (e ∙ more_groups s other))))
]

pub to_groups_space : (known : State) → IsPlain known → Moves (scan_at Counts known) 32 (Some (scan_at CountsSpace known))
to_groups_space known k = (k, λ more s. ((λ h. h), (λ h. h)))

pub counts_letter : (known : State) (letter : ℕ) → (letter ≡ 32 → ⊥) → Moves (scan_at Counts known) letter None
counts_letter known letter other = λ more s h. other (subst Spaced (sym h.1.1)
    (spaced (nat_eq s.groups 1) s.groups (after_groups s) (marks_spaced Distributor 0 s.distributors (tail_of Distributor s) (tail_spaced Distributor s))))
  where
    spaced : (b : Bool) (groups : ℕ) (tail : List ℕ) → Spaced tail → Spaced (cond b [] (codes " groups:" ++ decimal groups) ++ tail)
    spaced true groups tail h = h
    spaced false groups tail h = refl

pub to_groups : (known : State) (l : ℕ) → l ≡ 103 → IsPlain known → Moves (scan_at CountsSpace known) l (Some (scan_at (Word Groups 0) known))
to_groups known l e k = ((k, omega arith), λ more s. ((λ h. (h.0, read more s h.0.some_groups h.1)), (λ h. (h.0, back more s h.1))))
  where
    read : (more : List ℕ) (s : State) → 1 ≤ s.groups → At CountsSpace known (l ∷ more) s → At (Word Groups 0) known more s
    read more s some h = elim (cases_eq s.groups 1) [
      | inl one ↦ absurd (elim (distributor_space 0 known l more s k.0 (follow_counts known (32 ∷ l ∷ more) s k one h)) [ inl g ↦ omega (arith, e, g.0) | inr g ↦ omega (arith, e, g.0) ])
      | inr other ↦ (
        decimal s.groups ++ after_groups s,
        (
          ap (drop 2) (h.1 ∙ more_groups s other),
          record { value = s.groups; after = after_groups s; text = refl; takes = (h.0, (omega (arith, some), (refl, refl))) },
        ),
      )
    ]

    back : (more : List ℕ) (s : State) → At (Word Groups 0) known more s → At CountsSpace known (l ∷ more) s
    back more s h =
        let n = h.1.1 in (
          n.takes.0,
          ap₂ (λ c t. 32 ∷ c ∷ t) e h.1.0 ∙ ap (λ t. codes " groups:" ++ t) (n.text ∙ ap₂ (λ a b. decimal a ++ b) (sym n.takes.1.1.0) n.takes.1.1.1)
              ∙ sym (more_groups s (λ one. omega (arith, one, n.takes.1.0, n.takes.1.1.0))),
        )

-- a letter of a role there
pub past_groups : (known : State) (l : ℕ) (r : Option Scan) → (l ≡ 103 → ⊥) → IsPlain known → Moves (scan_at (Space Distributor 0) known) l r → Moves (scan_at CountsSpace known) l r
past_groups known l (Some y) not k m = (
  m.0,
  λ more s. (
    (λ h. (m.1 more s).0 (h.0, follow_counts known (32 ∷ l ∷ more) s k (no_groups l more s not h.1.1) h.1)),
    (λ h. let g = (m.1 more s).1 h in (g.0, counts_follow known (32 ∷ l ∷ more) s k g.1)),
  ),
)
past_groups known l None not k m = λ more s h. m more s (h.0, follow_counts known (32 ∷ l ∷ more) s k (no_groups l more s not h.1.1) h.1)

-- where a text may end, and where it can't
pub counts_ends : (known : State) → IsPlain known → Ends (scan_at Counts known) (Some known)
counts_ends known k = let e = gap_ends Distributor 0 known k.0 in (e.0, counts_follow known [] known k e.1)

pub counts_space_ends : (known : State) → IsPlain known → Ends (scan_at CountsSpace known) None
counts_space_ends known k = λ s h. elim (cases_eq s.groups 1) [
  | inl one ↦ space_ends Distributor 0 known (k.0, tt) s (h.0, follow_counts known (32 ∷ []) s k one h.1)
  | inr other ↦ absurd (omega (arith, ap length (h.1.1 ∙ more_groups s other)))
]
