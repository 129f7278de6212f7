-- Sets of nodes, places of lists, and what holds of every part.
use Rattle.std.proofs.Common.{◌≡◌, ◌==◌, ◌||◌, ◌↔◌, ◌⊎◌, ℕ, zero, suc, ◌+◌, ◌<◌, ◌≤◌, Bool, true, false, List, [], ◌∷◌, ◌++◌, length, map, take, slice_get, get_or, slice_index_or, Option, Some, None, IfSome, IsSome, inl, inr, refl, sym, ap, ◌∙◌, subst, arith, eqb-true, eq-eqb}
use Rattle.std.specs.List.{AllByRecursion}
use Rattle.std.proofs.Math.Numerals.{add-one}
use Rattle.std.proofs.lemmas.Bool.{cases_lt}
use Rattle.std.proofs.lemmas.List.{take_more, flat_map_more}
use Rattle.std.proofs.lemmas.Option.{slice_get-get_or}
use Rattle.std.proofs.lemmas.Bool.Decides.{nat_tests}
use Rattle.bucket_ids.specs.Buckets.{Low}
use Rattle.node_sets.specs.Members.{has_node}
use Rattle.cluster_states.specs.ClusterStates.{IsState}
use Rattle.cluster_states.specs.MarkTests.{is_up}
use Rattle.cluster_states.specs.declared.marks.Mark.{Mark}
use Rattle.cluster_states.specs.declared.marks.Mark.TheVariants.{Down}
use Rattle.cluster_states.specs.declared.cluster_state.ClusterState.{ClusterState}
use Rattle.ideal_nodes.specs.Scores.{Has}
use Rattle.ideal_nodes.specs.Placement.{IsIdeal}
use Rattle.bucket_db.specs.Answers.{new_row}
use Rattle.bucket_db.specs.Changes.{at_row}
use Rattle.bucket_db.specs.Rows.{Rows}
use Rattle.bucket_db.specs.declared.row.Row.{Row}
use Rattle.distributor_part.specs.Parts.{AreOfLane, IsPart, StageFits}
use Rattle.distributor_part.specs.declared.stage.Stage.{Stage}
use Rattle.distributor_part.specs.declared.stage.Stage.TheVariants.{Before, Running, Over, Ended}
use Rattle.pieces.specs.declared.piece.Piece.{Piece}
use Rattle.distributor_part.specs.Steps.{with_marks, buckets_shown, all_shown}
use Rattle.distributor_part.specs.Targets.{AreSmall}

-- ---- sets of nodes

pub member_small : (set node : ℕ) → has_node set node ≡ true → node < 32
unfolding has_node
member_small set node h = grind (arith, nat_tests)

pub no_member_past : (set node : ℕ) → 32 ≤ node → has_node set node ≡ false
unfolding has_node
no_member_past set node h = grind (arith, nat_tests)

-- a set none of whose numbers below 32 is a member has none
pub no_members : (set end : ℕ) → 32 ≤ end → ((node : ℕ) → node < end → has_node set node ≡ false)
    → (node : ℕ) → has_node set node ≡ false
no_members set end past none node = elim (cases_lt node end) [
  | inl within ↦ none node within
  | inr behind ↦ no_member_past set node (omega arith)
]

-- ---- places of lists

-- one node more is taken
pub taken_more : (nodes : List ℕ) (place none node : ℕ) → place < length nodes → Has node (take (suc place) nodes)
    → Has node (take place nodes) ⊎ (node ≡ get_or nodes place none)
taken_more [] place none node h t = absurd (omega arith)
taken_more (n ∷ nodes) zero none node h t = elim t [ inl same ↦ inr same | inr rest ↦ absurd rest ]
taken_more (n ∷ nodes) (suc place) none node h t = elim t [
  | inl same ↦ inl (inl same)
  | inr rest ↦ elim (taken_more nodes place none node (omega arith) rest) [ inl before ↦ inl (inr before) | inr here ↦ inr here ]
]

pub taken_before : (nodes : List ℕ) (place node : ℕ) → Has node (take place nodes) → Has node (take (suc place) nodes)
taken_before [] zero node t = t
taken_before [] (suc place) node t = t
taken_before (n ∷ nodes) zero node t = absurd t
taken_before (n ∷ nodes) (suc place) node t = elim t [ inl same ↦ inl same | inr rest ↦ inr (taken_before nodes place node rest) ]

pub taken_here : (nodes : List ℕ) (place none : ℕ) → place < length nodes → Has (get_or nodes place none) (take (suc place) nodes)
taken_here [] place none h = absurd (omega arith)
taken_here (n ∷ nodes) zero none h = inl refl
taken_here (n ∷ nodes) (suc place) none h = inr (taken_here nodes place none (omega arith))

-- ---- states

up_within : (marks : List Mark) (node : ℕ) → is_up (slice_index_or marks node Down) ≡ true → node < length marks
up_within [] node h = let bad : false ≡ true = h in cc
up_within (m ∷ marks) zero h = omega arith
up_within (m ∷ marks) (suc node) h = let rest = up_within marks node h in omega arith

-- the nodes of an ideal order are numbers of nodes
pub ideal_small : (bucket : Low) (state : ClusterState) (nodes : List ℕ) → IsState state → IsIdeal bucket state nodes
    → AreSmall nodes
ideal_small bucket state nodes valid ideal node has =
    let within = up_within state.nodes node ((ideal.members node).1 has) in let few = valid.few_nodes in omega arith

-- ---- rows

pub length_at_row : (change : Row → Row) (at : ℕ) (rows : List Row) → length (at_row at change rows) ≡ length rows
length_at_row change at [] = refl
length_at_row change zero (r ∷ rows) = refl
length_at_row change (suc at) (r ∷ rows) = ap suc (length_at_row change at rows)

abbrev pub HasSmall : Row → Type 0
HasSmall r = IfSome r.active (λ n. n < 32)

small_at_row : (marks at : ℕ) (rows : List Row) → AllByRecursion HasSmall rows
    → AllByRecursion HasSmall (at_row at (λ r. record r { complete = marks }) rows)
small_at_row marks at [] s = tt
small_at_row marks zero (r ∷ rows) s = (s.0, s.1)
small_at_row marks (suc at) (r ∷ rows) s = (s.0, small_at_row marks at rows s.1)

pub small_new : (buckets : List Low) → AllByRecursion HasSmall (map new_row buckets)
small_new [] = tt
small_new (b ∷ buckets) = (tt, small_new buckets)

-- marks leave the rows of their lane
pub of_lane_marked : (lane : Low) (rows : Rows) (at marks : ℕ) → AreOfLane lane rows → AreOfLane lane (with_marks rows at marks)
of_lane_marked lane rows at marks of = record {
  same_lane = of.same_lane;
  small = small_at_row marks at rows.rows of.small;
}

pub small_at : (rows : List Row) (at : ℕ) (none : Row) → AllByRecursion HasSmall rows → at < length rows
    → HasSmall (get_or rows at none)
small_at [] at none s h = absurd (omega arith)
small_at (r ∷ rows) zero none s h = s.0
small_at (r ∷ rows) (suc at) none s h = small_at rows at none s.1 (omega arith)

-- the row of a place, as it is read
pub row_at : (rows slice : List Row) (at : ℕ) (row : Row) → at < length rows → slice ≡ rows → row ≡ get_or slice at row
    → slice_get rows at ≡ Some row
row_at rows slice at row within same read =
    slice_get-get_or rows at row within ∙ ap Some (sym (read ∙ ap (λ rs. get_or rs at row) same))

-- ---- what holds of every part

fits_marked : (d : Rows) (at marks : ℕ) (stage : Stage) → StageFits (Some d) stage → StageFits (Some (with_marks d at marks)) stage
fits_marked d at marks Before f = f
fits_marked d at marks (Running place receivers) f =
    let same = length_at_row (λ r. record r { complete = marks }) at d.rows in omega arith
fits_marked d at marks (Over place complete missing) f =
    let same = length_at_row (λ r. record r { complete = marks }) at d.rows in omega arith
fits_marked d at marks (Ended missing) f = f

-- marks leave a part one
pub part_marked : {place : Type 0} → (lane : Low) (awaited : Option ℕ) (rows : Option Rows) (d new : Rows) (at marks : ℕ) (stage : Stage)
    → rows ≡ Some d → IsPart place lane awaited rows stage → new ≡ with_marks d at marks → IsPart place lane awaited (Some new) stage
part_marked {place = place} lane awaited rows d new at marks stage e p m =
    let q = subst (λ r. IsPart place lane awaited r stage) e p in
    subst (λ n. IsPart place lane awaited (Some n) stage) (sym m) (record {
      few = q.few;
      node = q.node;
      there = q.there;
      of_lane = of_lane_marked lane d at marks q.of_lane;
      fits = fits_marked d at marks stage q.fits;
    })

-- so does the end of a round
pub part_ended : {place : Type 0} → (lane : Low) (awaited : Option ℕ) (rows : Option Rows) (stage : Stage) (missing : ℕ)
    → IsPart place lane awaited rows stage → IsSome rows → IsPart place lane awaited rows (Ended missing)
part_ended {place = place} lane awaited rows stage missing p opened =
    record { few = p.few; node = p.node; there = p.there; of_lane = p.of_lane; fits = opened }

-- and so do new rows
pub part_opened : {place other : Type 0} → (lane : Low) (awaited : Option ℕ) (rows : Option Rows) (d : Rows) (stage : Stage) (buckets : List Low)
    → IsPart place lane awaited rows stage → stage ≡ Before → awaited ≡ None → d.lane ≡ lane → d.rows ≡ map new_row buckets
    → IsPart other lane awaited (Some d) stage
part_opened {place = place} {other = other} lane awaited rows d stage buckets p before told same unmarked = record {
  few = p.few;
  node = p.node;
  there = subst (λ o. IfSome o (λ n. other)) (sym told) tt;
  of_lane = record { same_lane = same; small = subst (AllByRecursion HasSmall) (sym unmarked) (small_new buckets) };
  fits = subst (StageFits (Some d)) (sym before) tt;
}

-- a member of a set with one number more
pub in_either : (members here both : Bool) → both ≡ (members || here) → both ≡ true → (members ≡ true) ⊎ (here ≡ true)
in_either true here both e h = inl refl
in_either false here both e h = inr (sym e ∙ h)

or_true : (b : Bool) → (b || true) ≡ true
or_true true = refl
or_true false = refl

-- the first nodes of a list, one more than before
pub one_more : (nodes : List ℕ) (place node here : ℕ) (before both : Bool) → place < length nodes
    → here ≡ get_or nodes place 0 → both ≡ (before || node == here) → (before ≡ true) ↔ Has node (take place nodes)
    → (both ≡ true) ↔ Has node (take (place + 1) nodes)
one_more nodes place node here before both within at e known = (
  λ h. subst (λ k. Has node (take k nodes)) (sym (add-one place)) (elim (in_either before (node == here) both e h) [
    | inl old ↦ taken_before nodes place node (known.0 old)
    | inr new ↦ subst (λ n. Has n (take (suc place) nodes)) (sym (eqb-true node here new ∙ at)) (taken_here nodes place 0 within)
  ]),
  λ t. elim (taken_more nodes place 0 node within (subst (λ k. Has node (take k nodes)) (add-one place) t)) [
    | inl old ↦ e ∙ ap (λ b. b || node == here) (known.1 old)
    | inr new ↦ e ∙ ap (λ b. before || b) (eq-eqb node here (new ∙ sym at)) ∙ or_true before
  ],
)

-- ---- what was shown

-- one answer more
pub shown_more : (xs : List (List Piece)) (i : ℕ) (ps : List Piece) → i < length xs → ps ≡ get_or xs i ps → all_shown (take (i + 1) xs) ≡ all_shown (take i xs) ++ buckets_shown ps
shown_more xs i ps within is = ap all_shown (take_more xs i ps within) ∙ sym (flat_map_more buckets_shown [] (take i xs) (get_or xs i ps)) ∙ ap (λ qs. all_shown (take i xs) ++ buckets_shown qs) (sym is)
