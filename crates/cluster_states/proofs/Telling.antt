-- A state text says one state.
use Rattle.std.proofs.Common.{◌≡◌, ◌≢◌, ℕ, ◌+◌, ◌^◌, ◌<◌, List, [], ◌∷◌, ◌++◌, length, drop, get_or, replicate, codes, inl, inr, refl, sym, ap, ap₂, subst, ◌∙◌, arith}
use Rattle.std.specs.Prelude.{⊤}
use Rattle.std.specs.Fmt.{decimal}
use Rattle.std.proofs.lemmas.Fmt.{decimal_injective}
use Rattle.std.proofs.lemmas.List.{append_assoc, append-nil, length-append, length-replicate}
use Rattle.cluster_states.specs.ClusterStates.{State, IsState}
use Rattle.cluster_states.specs.declared.marks.Mark.{Mark}
use Rattle.cluster_states.specs.declared.marks.Mark.TheVariants.{Up, Down, Retired}
use Rattle.cluster_states.specs.declared.places.Role.{Role}
use Rattle.cluster_states.specs.declared.places.Role.TheVariants.{Distributor, Storage}
use Rattle.cluster_states.specs.StateTexts.{IsStateText, marks_text, after_counts, after_groups, after_distributors, after_version, state_text}
use Rattle.cluster_states.specs.Scanning.{AreDigits, role_word, letter_of}
use Rattle.cluster_states.proofs.Numerals.{starts}
use Rattle.cluster_states.proofs.Counting.{NoDigit, counts_no_digit, groups_no_digit, head_same, tail_same}
use Rattle.cluster_states.proofs.MarkTexts.{first_mark, text_of_mark, down_is_not_up, retired_is_not_up}
use Rattle.cluster_states.proofs.MarkMoves.{letter_tells}
use Rattle.cluster_states.proofs.SpaceMoves.{role_letter}
use Rattle.cluster_states.proofs.GroupMoves.{one_group, more_groups}
use Rattle.std.proofs.lemmas.Bool.{cases_eq}

-- digits and what is behind them are told apart
digits_cut : (ds es xs ys : List ℕ) → AreDigits ds → AreDigits es → NoDigit xs → NoDigit ys → ds ++ xs ≡ es ++ ys → (ds ≡ es) × (xs ≡ ys)
digits_cut [] [] xs ys a b p q e = (refl, e)
digits_cut [] (d ∷ es) [] ys a b p q e = absurd (omega (arith, ap length e))
digits_cut [] (d ∷ es) (x ∷ xs) ys a b p q e =
    let same = head_same x d xs (es ++ ys) e in
    elim p [ inl below ↦ absurd (omega (arith, same, below, b.0)) | inr past ↦ absurd (omega (arith, same, past, b.1.0)) ]
digits_cut (d ∷ ds) [] xs [] a b p q e = absurd (omega (arith, ap length e))
digits_cut (d ∷ ds) [] xs (y ∷ ys) a b p q e =
    let same = head_same d y (ds ++ xs) ys e in
    elim q [ inl below ↦ absurd (omega (arith, same, below, a.0)) | inr past ↦ absurd (omega (arith, same, past, a.1.0)) ]
digits_cut (d ∷ ds) (c ∷ es) xs ys a b p q e =
    let rest = digits_cut ds es xs ys a.1.1 b.1.1 p q (tail_same d c (ds ++ xs) (es ++ ys) e) in
    (ap₂ (λ x l. x ∷ l) (head_same d c (ds ++ xs) (es ++ ys) e) rest.0, rest.1)

decimal_digits : (n : ℕ) → n < 2 ^ 64 → AreDigits (decimal n)
decimal_digits n lt = let s = starts n lt in subst AreDigits (sym s.is) (s.low, (s.high, s.rest.digits))

numbers_cut : (m n : ℕ) (xs ys : List ℕ) → m < 2 ^ 64 → n < 2 ^ 64 → NoDigit xs → NoDigit ys → decimal m ++ xs ≡ decimal n ++ ys → (m ≡ n) × (xs ≡ ys)
numbers_cut m n xs ys a b p q e =
    let cut = digits_cut (decimal m) (decimal n) xs ys (decimal_digits m a) (decimal_digits n b) p q e in
    (decimal_injective m n a b cut.0, cut.1)

-- a text doesn't begin as the marks of a role do
abbrev pub Apart : Role → List ℕ → Type 0
Apart role [] = ⊤
Apart role (c ∷ []) = ⊤
Apart role (c ∷ d ∷ cs) = d ≢ role_letter role

not_apart : (role : Role) (text more : List ℕ) → Apart role text → text ≡ role_word role ++ more → ⊥
not_apart Distributor text more a e = (subst (Apart Distributor) e a) refl
not_apart Storage text more a e = (subst (Apart Storage) e a) refl

word_cut : (role : Role) (xs ys : List ℕ) → role_word role ++ xs ≡ role_word role ++ ys → xs ≡ ys
word_cut Distributor xs ys e = ap (drop 13) e
word_cut Storage xs ys e = ap (drop 9) e

sign_cut : (l k : ℕ) (xs ys : List ℕ) → codes ".s:" ++ l ∷ xs ≡ codes ".s:" ++ k ∷ ys → (l ≡ k) × (xs ≡ ys)
sign_cut l k xs ys e = (ap (λ t. get_or t 3 0) e, ap (drop 4) e)

-- what a mark that isn't up and what is behind it say
abbrev signed : Role → ℕ → Mark → List ℕ → List ℕ
signed role n m rest = role_word role ++ (decimal n ++ (codes ".s:" ++ letter_of m ∷ rest))

signed_cut : (role : Role) (j n : ℕ) (m k : Mark) (xs ys : List ℕ) → j < 2 ^ 64 → n < 2 ^ 64 → signed role j m xs ≡ signed role n k ys → (j ≡ n) × ((letter_of m ≡ letter_of k) × (xs ≡ ys))
signed_cut role j n m k xs ys a b e =
    let numbers = numbers_cut j n (codes ".s:" ++ letter_of m ∷ xs) (codes ".s:" ++ letter_of k ∷ ys) a b (inl (omega arith)) (inl (omega arith)) (word_cut role _ _ e) in
    (numbers.0, sign_cut (letter_of m) (letter_of k) xs ys numbers.1)

behind_signed : (role : Role) (n : ℕ) (m : Mark) (xs tail : List ℕ) → signed role n m xs ++ tail ≡ signed role n m (xs ++ tail)
behind_signed role n m xs tail = append_assoc (role_word role) (decimal n ++ (codes ".s:" ++ letter_of m ∷ xs)) tail ∙ ap (λ l. role_word role ++ l) (append_assoc (decimal n) (codes ".s:" ++ letter_of m ∷ xs) tail)

marked_text : (role : Role) (n : ℕ) (m : Mark) (ms : List Mark) (tail : List ℕ) → m ≢ Up → marks_text (role_word role) n (m ∷ ms) ++ tail ≡ signed role n m (marks_text (role_word role) (n + 1) ms ++ tail)
marked_text role n m ms tail marked = ap (λ l. l ++ tail) (text_of_mark role n m ms marked) ∙ behind_signed role n m (marks_text (role_word role) (n + 1) ms) tail

-- a number that is up is not one that is marked
up_or_marked : (role : Role) (n : ℕ) (m : Mark) (ms : List Mark) (tail text : List ℕ) → n + length ms + 1 < 2 ^ 64 → Apart role tail → marks_text (role_word role) (n + 1) ms ++ tail ≡ signed role n m text → ⊥
up_or_marked role n m ms tail text few apart e = elim (first_mark role (n + 1) ms) [
  | inl none ↦ not_apart role tail _ apart (sym (ap (λ l. l ++ tail) none.text) ∙ e)
  | inr found ↦ (
      let size = ap length found.is ∙ length-append (replicate found.skipped Up) (found.mark ∷ found.rest) in
      let same = sym (ap (λ l. l ++ tail) found.text ∙ behind_signed role (n + 1 + found.skipped) found.mark (marks_text (role_word role) (n + 1 + found.skipped + 1) found.rest) tail) ∙ e in
      let cut = signed_cut role (n + 1 + found.skipped) n found.mark m _ text (omega (arith, few, size, length-replicate found.skipped Up)) (omega (arith, few)) same in
      absurd (omega (arith, cut.0)))
]

both_marked : (role : Role) (n : ℕ) (m k : Mark) (ms ks : List Mark) (tail rest : List ℕ) → m ≢ Up → k ≢ Up → n < 2 ^ 64
    → marks_text (role_word role) n (m ∷ ms) ++ tail ≡ marks_text (role_word role) n (k ∷ ks) ++ rest
    → (m ≡ k) × (marks_text (role_word role) (n + 1) ms ++ tail ≡ marks_text (role_word role) (n + 1) ks ++ rest)
both_marked role n m k ms ks tail rest a b few e =
    let cut = signed_cut role n n m k _ _ few few (sym (marked_text role n m ms tail a) ∙ e ∙ marked_text role n k ks rest b) in
    (letter_tells m k a b cut.1.0, cut.1.1)

pub marks_cut : (role : Role) (n : ℕ) (ms ks : List Mark) (tail rest : List ℕ) → length ms ≡ length ks → n + length ms + 1 < 2 ^ 64 → Apart role tail → Apart role rest
    → marks_text (role_word role) n ms ++ tail ≡ marks_text (role_word role) n ks ++ rest → (ms ≡ ks) × (tail ≡ rest)
marks_cut role n [] [] tail rest size few p q e = (refl, e)
marks_cut role n [] (k ∷ ks) tail rest size few p q e = absurd (omega (arith, size))
marks_cut role n (m ∷ ms) [] tail rest size few p q e = absurd (omega (arith, size))
marks_cut role n (Up ∷ ms) (Up ∷ ks) tail rest size few p q e =
    let r = marks_cut role (n + 1) ms ks tail rest (omega (arith, size)) (omega (arith, few)) p q e in (ap (λ l. Up ∷ l) r.0, r.1)
marks_cut role n (Up ∷ ms) (Down ∷ ks) tail rest size few p q e = absurd (up_or_marked role n Down ms tail _ (omega (arith, few)) p (e ∙ marked_text role n Down ks rest down_is_not_up))
marks_cut role n (Up ∷ ms) (Retired ∷ ks) tail rest size few p q e = absurd (up_or_marked role n Retired ms tail _ (omega (arith, few)) p (e ∙ marked_text role n Retired ks rest retired_is_not_up))
marks_cut role n (Down ∷ ms) (Up ∷ ks) tail rest size few p q e = absurd (up_or_marked role n Down ks rest _ (omega (arith, few, size)) q (sym e ∙ marked_text role n Down ms tail down_is_not_up))
marks_cut role n (Retired ∷ ms) (Up ∷ ks) tail rest size few p q e = absurd (up_or_marked role n Retired ks rest _ (omega (arith, few, size)) q (sym e ∙ marked_text role n Retired ms tail retired_is_not_up))
marks_cut role n (Down ∷ ms) (Down ∷ ks) tail rest size few p q e =
    let b = both_marked role n Down Down ms ks tail rest down_is_not_up down_is_not_up (omega (arith, few)) e in
    let r = marks_cut role (n + 1) ms ks tail rest (omega (arith, size)) (omega (arith, few)) p q b.1 in (ap (λ l. Down ∷ l) r.0, r.1)
marks_cut role n (Retired ∷ ms) (Retired ∷ ks) tail rest size few p q e =
    let b = both_marked role n Retired Retired ms ks tail rest retired_is_not_up retired_is_not_up (omega (arith, few)) e in
    let r = marks_cut role (n + 1) ms ks tail rest (omega (arith, size)) (omega (arith, few)) p q b.1 in (ap (λ l. Retired ∷ l) r.0, r.1)
marks_cut role n (Down ∷ ms) (Retired ∷ ks) tail rest size few p q e =
    let b = both_marked role n Down Retired ms ks tail rest down_is_not_up retired_is_not_up (omega (arith, few)) e in absurd (omega (arith, ap letter_of b.0))
marks_cut role n (Retired ∷ ms) (Down ∷ ks) tail rest size few p q e =
    let b = both_marked role n Retired Down ms ks tail rest retired_is_not_up down_is_not_up (omega (arith, few)) e in absurd (omega (arith, ap letter_of b.0))

-- the marks of the nodes don't begin as those of distributors do
nodes_apart : (n : ℕ) (ms : List Mark) → Apart Distributor (marks_text (role_word Storage) n ms)
nodes_apart n [] = tt
nodes_apart n (Up ∷ ms) = nodes_apart (n + 1) ms
nodes_apart n (Down ∷ ms) = λ e. absurd (omega (arith, e))
nodes_apart n (Retired ∷ ms) = λ e. absurd (omega (arith, e))

-- marks don't begin as groups do
abbrev pub Away : List ℕ → Type 0
Away [] = ⊤
Away (c ∷ []) = ⊤
Away (c ∷ d ∷ cs) = d ≢ 103

marks_away : (role : Role) (n : ℕ) (ms : List Mark) (tail : List ℕ) → Away tail → Away (marks_text (role_word role) n ms ++ tail)
marks_away role n [] tail h = h
marks_away role n (Up ∷ ms) tail h = marks_away role (n + 1) ms tail h
marks_away Distributor n (Down ∷ ms) tail h = λ e. absurd (omega (arith, e))
marks_away Storage n (Down ∷ ms) tail h = λ e. absurd (omega (arith, e))
marks_away Distributor n (Retired ∷ ms) tail h = λ e. absurd (omega (arith, e))
marks_away Storage n (Retired ∷ ms) tail h = λ e. absurd (omega (arith, e))

not_groups : (s : State) (more : List ℕ) → after_groups s ≡ codes " groups:" ++ more → ⊥
not_groups s more e =
    (subst Away e (marks_away Distributor 0 s.distributors _ (subst Away (append-nil _) (marks_away Storage 0 s.nodes [] tt)))) refl

groups_cut : (s t : State) → IsState s → IsState t → after_counts s ≡ after_counts t → (s.groups ≡ t.groups) × (after_groups s ≡ after_groups t)
groups_cut s t a b e = elim (cases_eq s.groups 1) [
  | inl one ↦ elim (cases_eq t.groups 1) [
    | inl same ↦ (one ∙ sym same, sym (one_group s one) ∙ e ∙ one_group t same)
    | inr other ↦ absurd (not_groups s _ (sym (one_group s one) ∙ e ∙ more_groups t other))
  ]
  | inr some ↦ elim (cases_eq t.groups 1) [
    | inl one ↦ absurd (not_groups t _ (sym (one_group t one) ∙ sym e ∙ more_groups s some))
    | inr other ↦
        numbers_cut s.groups t.groups (after_groups s) (after_groups t) (omega (arith, a.few_groups)) (omega (arith, b.few_groups)) (groups_no_digit s) (groups_no_digit t)
        (ap (drop 8) (sym (more_groups s some) ∙ e ∙ more_groups t other))
  ]
]

pub same_text : (s t : State) → IsState s → IsState t → state_text s ≡ state_text t → s ≡ t
unfolding state_text
same_text s t a b e =
    let v = numbers_cut s.version t.version (after_version s) (after_version t) (omega (arith, a.version)) (omega (arith, b.version)) (inl (omega arith)) (inl (omega arith)) (ap (drop 8) e) in
    let d = numbers_cut (length s.distributors) (length t.distributors) (after_distributors s) (after_distributors t) (omega (arith, a.few_distributors)) (omega (arith, b.few_distributors)) (inl (omega arith)) (inl (omega arith)) (ap (drop 13) v.1) in
    let n = numbers_cut (length s.nodes) (length t.nodes) (after_counts s) (after_counts t) (omega (arith, a.few_nodes)) (omega (arith, b.few_nodes)) (counts_no_digit s) (counts_no_digit t) (ap (drop 9) d.1) in
    let g = groups_cut s t a b n.1 in
    let ds = marks_cut Distributor 0 s.distributors t.distributors _ _ d.0 (omega (arith, a.few_distributors)) (nodes_apart 0 s.nodes) (nodes_apart 0 t.nodes) g.1 in
    let ns = marks_cut Storage 0 s.nodes t.nodes [] [] n.0 (omega (arith, a.few_nodes)) tt tt (append-nil _ ∙ ds.1 ∙ sym (append-nil _)) in
    λ i. record { version = v.0 i; distributors = ds.0 i; nodes = ns.0 i; groups = g.0 i }

pub tells_one : (text : List ℕ) (s t : State) → IsStateText text s → IsStateText text t → s ≡ t
tells_one text s t a b = same_text s t a.0 b.0 (sym a.1 ∙ b.1)
