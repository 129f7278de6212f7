-- How long state texts are, and how they are written.
use Rattle.std.proofs.Common.{◌≡◌, ℕ, ◌+◌, ◌*◌, ◌^◌, ◌<◌, ◌≤◌, Bool, true, false, cond, nat_eq, List, [], ◌∷◌, ◌++◌, length, take, get_or, codes, sym, ap, ◌∙◌, arith}
use Rattle.std.specs.Fmt.{decimal}
use Rattle.std.proofs.lemmas.Fmt.{length-decimal-le}
use Rattle.std.proofs.lemmas.List.{append_assoc, append-nil, length-append, length-take, take_more}
use Rattle.text_scanners.specs.Refusals.{IsRefusedAt}
use Rattle.cluster_states.specs.ClusterStates.{State, IsState}
use Rattle.cluster_states.specs.declared.marks.Mark.{Mark}
use Rattle.cluster_states.specs.declared.marks.Mark.TheVariants.{Up, Down, Retired}
use Rattle.cluster_states.specs.StateTexts.{IsStateText, mark_text, marks_text, groups_text, after_counts, after_groups, after_distributors, after_version, state_text}

few_digits : (n : ℕ) → n < 100 → length (decimal n) ≤ 2
few_digits n lt = length-decimal-le 2 n (omega arith) (omega arith) (omega arith)

mark_short : (role : List ℕ) (n : ℕ) (m : Mark) → n < 100 → length role ≤ 20 → length (mark_text role n m) ≤ 30
mark_short role n Up lt le = omega arith
mark_short role n Down lt le = omega (arith, few_digits n lt, length-append role (decimal n ++ codes ".s:d"), length-append (decimal n) (codes ".s:d"))
mark_short role n Retired lt le = omega (arith, few_digits n lt, length-append role (decimal n ++ codes ".s:r"), length-append (decimal n) (codes ".s:r"))

marks_short : (role : List ℕ) (n : ℕ) (ms : List Mark) → n + length ms < 100 → length role ≤ 20 → length (marks_text role n ms) ≤ 30 * length ms
marks_short role n [] lt le = omega arith
marks_short role n (m ∷ ms) lt le =
    omega (arith, length-append (mark_text role n m) (marks_text role (n + 1) ms), mark_short role n m (omega arith) le, marks_short role (n + 1) ms (omega arith) le)

groups_short : (b : Bool) (n : ℕ) → n < 100 → length (cond b [] (codes " groups:" ++ decimal n)) ≤ 10
groups_short true n lt = omega arith
groups_short false n lt = omega (arith, few_digits n lt, length-append (codes " groups:") (decimal n))

text_short : (s : State) → IsState s → length (state_text s) < 4000
unfolding state_text
text_short s h =
    let a = length-append (codes "version:") (decimal s.version ++ after_version s) in
    let b = length-append (decimal s.version) (after_version s) in
    let c = length-append (codes " distributor:") (decimal (length s.distributors) ++ after_distributors s) in
    let d = length-append (decimal (length s.distributors)) (after_distributors s) in
    let e = length-append (codes " storage:") (decimal (length s.nodes) ++ after_counts s) in
    let f = length-append (decimal (length s.nodes)) (after_counts s) in
    let g = length-append (marks_text (codes " distributor.") 0 s.distributors) (marks_text (codes " storage.") 0 s.nodes) in
    let p = length-append (groups_text s.groups) (after_groups s) in
    let v = length-decimal-le 10 s.version (omega arith) (omega (arith, h.version)) (omega (arith, h.version)) in
    omega (
      arith,
      a,
      b,
      c,
      d,
      e,
      f,
      g,
      p,
      v,
      groups_short (nat_eq s.groups 1) s.groups (omega (arith, h.few_groups)),
      few_digits (length s.distributors) (omega (arith, h.few_distributors)),
      few_digits (length s.nodes) (omega (arith, h.few_nodes)),
      marks_short (codes " distributor.") 0 s.distributors (omega (arith, h.few_distributors)) (omega arith),
      marks_short (codes " storage.") 0 s.nodes (omega (arith, h.few_nodes)) (omega arith),
      h.few_distributors,
      h.few_nodes,
    )

pub offset_small : (text : List ℕ) (offset : ℕ) → IsRefusedAt IsStateText text offset → offset < 2 ^ 32
offset_small text offset r =
    let b = r.begins in
    let t = b.1.1 in
    omega (arith, r.within, length-take offset text, length-append (take offset text) b.0, ap length t.1, text_short b.1.0 t.0)

-- one mark more
pub marks_text-push : (role : List ℕ) (n : ℕ) (ms : List Mark) (m : Mark) → marks_text role n (ms ++ m ∷ []) ≡ marks_text role n ms ++ mark_text role (n + length ms) m
marks_text-push role n [] m = append-nil (mark_text role n m) ∙ ap (λ k. mark_text role k m) (omega arith)
marks_text-push role n (x ∷ ms) m =
    ap (λ l. mark_text role n x ++ l) (marks_text-push role (n + 1) ms m ∙ ap (λ k. marks_text role (n + 1) ms ++ mark_text role k m) (omega arith))
    ∙ sym (append_assoc (mark_text role n x) (marks_text role (n + 1) ms) (mark_text role (n + length (x ∷ ms)) m))

pub marks_text-more : (role : List ℕ) (ms : List Mark) (i : ℕ) (d : Mark) → i < length ms → marks_text role 0 (take (i + 1) ms) ≡ marks_text role 0 (take i ms) ++ mark_text role i (get_or ms i d)
marks_text-more role ms i d lt =
    ap (marks_text role 0) (take_more ms i d lt) ∙ marks_text-push role 0 (take i ms) (get_or ms i d)
    ∙ ap (λ k. marks_text role 0 (take i ms) ++ mark_text role k (get_or ms i d)) (omega (arith, length-take i ms))

behind : (v d n t : List ℕ) → (codes "version:" ++ (v ++ (codes " distributor:" ++ (d ++ (codes " storage:" ++ n))))) ++ t
    ≡ codes "version:" ++ (v ++ (codes " distributor:" ++ (d ++ (codes " storage:" ++ (n ++ t)))))
behind v d n t =
    ap (λ l. codes "version:" ++ l) (append_assoc v (codes " distributor:" ++ (d ++ (codes " storage:" ++ n))) t)
    ∙ ap (λ l. codes "version:" ++ (v ++ (codes " distributor:" ++ l))) (append_assoc d (codes " storage:" ++ n) t)

written : (s : State) (text grouped first second : List ℕ) → text ≡ codes "version:" ++ (decimal s.version ++ (codes " distributor:" ++ (decimal (length s.distributors) ++ (codes " storage:" ++ decimal (length s.nodes)))))
    → grouped ≡ text ++ groups_text s.groups → first ≡ grouped ++ marks_text (codes " distributor.") 0 s.distributors → second ≡ first ++ marks_text (codes " storage.") 0 s.nodes → second ≡ state_text s
unfolding state_text
written s text grouped first second a z b c =
    let g = groups_text s.groups in
    let base = codes "version:" ++ (decimal s.version ++ (codes " distributor:" ++ (decimal (length s.distributors) ++ (codes " storage:" ++ decimal (length s.nodes))))) in
    let d = marks_text (codes " distributor.") 0 s.distributors in
    let n = marks_text (codes " storage.") 0 s.nodes in
    c ∙ ap (λ l. l ++ n) (b ∙ ap (λ l. l ++ d) (z ∙ ap (λ l. l ++ g) a)) ∙ append_assoc (base ++ g) d n ∙ append_assoc base g (d ++ n)
    ∙ behind (decimal s.version) (decimal (length s.distributors)) (decimal (length s.nodes)) (g ++ (d ++ n))

-- the same where the parts were taken out of the state before
pub written_of : (s : State) (v d n g : ℕ) (ds ns : List Mark) (text grouped first second : List ℕ) → v ≡ s.version → ds ≡ s.distributors → ns ≡ s.nodes → d ≡ length ds → n ≡ length ns → g ≡ s.groups
    → text ≡ codes "version:" ++ (decimal v ++ (codes " distributor:" ++ (decimal d ++ (codes " storage:" ++ decimal n))))
    → grouped ≡ text ++ groups_text g → first ≡ grouped ++ marks_text (codes " distributor.") 0 ds → second ≡ first ++ marks_text (codes " storage.") 0 ns → second ≡ state_text s
written_of s v d n g ds ns text grouped first second vs dss nss dl nl gl a z b c =
    let d_is = dl ∙ ap length dss in
    let n_is = nl ∙ ap length nss in
    written s text grouped first second
    (a ∙ (λ i. codes "version:" ++ (decimal (vs i) ++ (codes " distributor:" ++ (decimal (d_is i) ++ (codes " storage:" ++ decimal (n_is i)))))))
    (z ∙ ap (λ k. text ++ groups_text k) gl)
    (b ∙ ap (λ l. grouped ++ marks_text (codes " distributor.") 0 l) dss)
    (c ∙ ap (λ l. first ++ marks_text (codes " storage.") 0 l) nss)
