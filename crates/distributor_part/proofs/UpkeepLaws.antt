-- Rows that upkeep changes, and that they leave a part one.
use Rattle.std.proofs.Common.{◌≡◌, ℕ, zero, suc, ◌<◌, Bool, true, false, cond, nat_lt, List, [], ◌∷◌, length, map, Option, Some, None, IfSome, slice_get, refl, sym, ap, ◌∙◌, subst, arith}
use Rattle.std.specs.List.{AllByRecursion, filter, remove}
use Rattle.std.proofs.lemmas.List.{length-map}
use Rattle.bucket_ids.specs.Buckets.{Low}
use Rattle.bucket_db.specs.Changes.{placed, with_halves, split_at, with_joined, IsJoinable, IsJoined, CanJoin, at_row, with_rows}
use Rattle.bucket_db.specs.Rows.{Rows}
use Rattle.bucket_db.specs.declared.row.Row.{Row}
use Rattle.bucket_db.proofs.RowLists.{some_with}
use Rattle.distributor_part.specs.Parts.{Part, IsPart, StageFits, rows_of}
use Rattle.distributor_part.specs.declared.stage.Stage.{Stage}
use Rattle.distributor_part.specs.declared.stage.Stage.TheVariants.{Before, Running, Over, Ended}
use Rattle.distributor_part.specs.Steps.{BeginsRound}
use Rattle.distributor_part.specs.Upkeep.{BeginsRoundAt, CanJoinAt, deleting_from}
use Rattle.distributor_part.proofs.PartLaws.{HasSmall, length_at_row}

-- ---- numbers of active nodes

pub small_changed : (change : Row → Row) (at : ℕ) (rows : List Row) → ((r : Row) → HasSmall r → HasSmall (change r)) → AllByRecursion HasSmall rows
    → AllByRecursion HasSmall (at_row at change rows)
small_changed change at [] keeps s = tt
small_changed change zero (r ∷ rows) keeps s = (keeps r s.0, s.1)
small_changed change (suc at) (r ∷ rows) keeps s = (s.0, small_changed change at rows keeps s.1)

pub small_mapped : (change : Row → Row) (rows : List Row) → ((r : Row) → HasSmall r → HasSmall (change r)) → AllByRecursion HasSmall rows
    → AllByRecursion HasSmall (map change rows)
small_mapped change [] keeps s = tt
small_mapped change (r ∷ rows) keeps s = (keeps r s.0, small_mapped change rows keeps s.1)

small_cond : (t : Bool) (xs ys : List Row) → AllByRecursion HasSmall xs → AllByRecursion HasSmall ys → AllByRecursion HasSmall (cond t xs ys)
small_cond true xs ys s r = s
small_cond false xs ys s r = r

small_placed : (number : Row → ℕ) (x : Row) (rows : List Row) → HasSmall x → AllByRecursion HasSmall rows → AllByRecursion HasSmall (placed number x rows)
small_placed number x [] s all = (s, tt)
small_placed number x (r ∷ rows) s all =
    let behind : AllByRecursion HasSmall (r ∷ placed number x rows) = (all.0, small_placed number x rows s all.1) in
    let here : AllByRecursion HasSmall (x ∷ r ∷ rows) = (s, all) in
    small_cond (nat_lt (number r) (number x)) (r ∷ placed number x rows) (x ∷ r ∷ rows) behind here

small_removed : (rows : List Row) (at : ℕ) → AllByRecursion HasSmall rows → AllByRecursion HasSmall (remove rows at)
small_removed [] zero s = tt
small_removed [] (suc at) s = tt
small_removed (r ∷ rows) zero s = s.1
small_removed (r ∷ rows) (suc at) s = (s.0, small_removed rows at s.1)

small_found : (rows : List Row) (at : ℕ) (row : Row) → AllByRecursion HasSmall rows → slice_get rows at ≡ Some row → HasSmall row
small_found [] at row s e = cc
small_found (r ∷ rows) zero row s e = subst (λ o. IfSome o HasSmall) e s.0
small_found (r ∷ rows) (suc at) row s e = small_found rows at row s.1 e

small_filtered : (p : Row → Bool) (rows : List Row) → AllByRecursion HasSmall rows → AllByRecursion HasSmall (filter p rows)
small_filtered p [] s = tt
small_filtered p (r ∷ rows) s =
    let kept : AllByRecursion HasSmall (r ∷ filter p rows) = (s.0, small_filtered p rows s.1) in
    small_cond (p r) (r ∷ filter p rows) (filter p rows) kept (small_filtered p rows s.1)

pub small_split : (rows : List Row) (at : ℕ) → AllByRecursion HasSmall rows → AllByRecursion HasSmall (split_at at rows)
small_split rows at s = by (slice_get rows at) refl
  where
    by : (o : Option Row) → slice_get rows at ≡ o → AllByRecursion HasSmall (with_halves o (remove rows at))
    by None e = small_removed rows at s
    by (Some r) e = let own = small_found rows at r s e in small_placed _ _ _ own (small_placed _ _ _ own (small_removed rows at s))

pub small_joined : (rows : List Row) (at : ℕ) (row other joined : Row) → AllByRecursion HasSmall rows → slice_get rows at ≡ Some row → IsJoined row other joined
    → AllByRecursion HasSmall (with_joined joined rows)
small_joined rows at row other joined s e j =
    small_placed _ _ _ (subst (λ o. IfSome o (λ n. n < 32)) (sym j.active) (small_found rows at row s e)) (small_filtered _ _ s)

-- ---- what holds of every part

pub part_with : {place : Type 0} → (lane : Low) (awaited : Option ℕ) (rows : Option Rows) (d new : Rows) (stage : Stage) → rows ≡ Some d → IsPart place lane awaited rows stage
    → new.lane ≡ d.lane → (AllByRecursion HasSmall d.rows → AllByRecursion HasSmall new.rows) → (StageFits (Some d) stage → StageFits (Some new) stage)
    → IsPart place lane awaited (Some new) stage
part_with {place = place} lane awaited rows d new stage e p same small fits =
    let q = subst (λ r. IsPart place lane awaited r stage) e p in
    record {
      few = q.few;
      node = q.node;
      there = q.there;
      of_lane = record { same_lane = same ∙ (q.of_lane).same_lane; small = small (q.of_lane).small };
      fits = fits q.fits;
    }

-- as many rows as before have the place of a round
pub fits_as_many : (d new : Rows) (stage : Stage) → length new.rows ≡ length d.rows → StageFits (Some d) stage → StageFits (Some new) stage
fits_as_many d new Before same f = f
fits_as_many d new (Running at receivers) same f = omega arith
fits_as_many d new (Over at complete missing) same f = omega arith
fits_as_many d new (Ended missing) same f = f

-- one row changes
pub part_changed : {place : Type 0} → (lane : Low) (awaited : Option ℕ) (rows : Option Rows) (d new : Rows) (stage : Stage) (change : Row → Row) (at : ℕ) → rows ≡ Some d
    → IsPart place lane awaited rows stage → new ≡ record d { rows = at_row at change d.rows } → ((r : Row) → HasSmall r → HasSmall (change r))
    → IsPart place lane awaited (Some new) stage
part_changed {place = place} lane awaited rows d new stage change at e p is keeps =
    let changed : Rows = record d { rows = at_row at change d.rows } in
    subst (λ n. IsPart place lane awaited (Some n) stage) (sym is) (part_with lane awaited rows d changed stage e p refl (small_changed change at d.rows keeps)
    (fits_as_many d changed stage (length_at_row change at d.rows)))

-- rows that come and go where no round is under way
pub part_without_round : {place : Type 0} → (lane : Low) (awaited : Option ℕ) (rows : Option Rows) (d new : Rows) (stage : Stage) → rows ≡ Some d → stage ≡ Before
    → IsPart place lane awaited rows stage → new.lane ≡ d.lane → (AllByRecursion HasSmall d.rows → AllByRecursion HasSmall new.rows)
    → IsPart place lane awaited (Some new) stage
part_without_round {place = place} lane awaited rows d new stage e before p same small =
    part_with lane awaited rows d new stage e p same small (λ f. subst (StageFits (Some new)) (sym before) tt)

-- two changes of one row are one
pub changed_twice : (first second : Row → Row) (at : ℕ) (rows : List Row) → at_row at second (at_row at first rows) ≡ at_row at (λ r. second (first r)) rows
changed_twice first second at [] = refl
changed_twice first second zero (r ∷ rows) = refl
changed_twice first second (suc at) (r ∷ rows) = ap (λ rs. r ∷ rs) (changed_twice first second at rows)

-- the place is one of the rows
pub place_inside : (before now : Part) (d : Rows) (at : ℕ) → before ≡ now → before.rows ≡ Some d → at < length (rows_of now.rows) → at < length d.rows
place_inside before now d at same e h = subst (λ o. at < length (rows_of o)) (sym (ap (λ p. p.rows) same) ∙ e) h

-- each row changes
pub part_mapped : {place : Type 0} → (lane : Low) (awaited : Option ℕ) (rows : Option Rows) (d new : Rows) (stage : Stage) (change : Row → Row) → rows ≡ Some d
    → IsPart place lane awaited rows stage → new ≡ record d { rows = map change d.rows } → ((r : Row) → HasSmall r → HasSmall (change r))
    → IsPart place lane awaited (Some new) stage
part_mapped {place = place} lane awaited rows d new stage change e p is keeps =
    let changed : Rows = record d { rows = map change d.rows } in
    subst (λ n. IsPart place lane awaited (Some n) stage) (sym is) (part_with lane awaited rows d changed stage e p refl (small_mapped change d.rows keeps)
    (fits_as_many d changed stage (length-map d.rows change)))

-- a row is split
pub part_split : {place : Type 0} → (lane : Low) (awaited : Option ℕ) (rows : Option Rows) (d new : Rows) (stage : Stage) (at : ℕ) → rows ≡ Some d → stage ≡ Before
    → IsPart place lane awaited rows stage → new ≡ record d { rows = split_at at d.rows } → IsPart place lane awaited (Some new) stage
part_split {place = place} lane awaited rows d new stage at e before p is =
    let changed : Rows = record d { rows = split_at at d.rows } in
    subst (λ n. IsPart place lane awaited (Some n) stage) (sym is) (part_without_round lane awaited rows d changed stage e before p refl (small_split d.rows at))

-- two rows are joined
pub part_joined : {place : Type 0} → (lane : Low) (awaited : Option ℕ) (rows : Option Rows) (d new : Rows) (stage : Stage) (at : ℕ) (row other joined : Row) → rows ≡ Some d → stage ≡ Before
    → IsPart place lane awaited rows stage → slice_get d.rows at ≡ Some row → IsJoined row other joined → new ≡ record d { rows = with_joined joined d.rows }
    → IsPart place lane awaited (Some new) stage
part_joined {place = place} lane awaited rows d new stage at row other joined e before p found j is =
    let changed : Rows = record d { rows = with_joined joined d.rows } in
    subst (λ n. IsPart place lane awaited (Some n) stage) (sym is) (part_without_round lane awaited rows d changed stage e before p refl
    (λ s. small_joined d.rows at row other joined s found j))

-- what the two rows that a place may be joined with are
pub record Pair (d : Rows) (at : ℕ) : Type 0 where
  pub row : Row
  pub other : Row
  pub found : slice_get d.rows at ≡ Some row
  pub joinable : IsJoinable d.lane d.rows row other

pub pair_inside : (before now : Part) (d : Rows) (at : ℕ) → before ≡ now → before.rows ≡ Some d → at < length d.rows → CanJoinAt now at → Pair d at
pair_inside before now d at same e within can =
    let one : Some can.rows ≡ Some d = sym can.opened ∙ sym (ap (λ p. p.rows) same) ∙ e in
    let is : can.rows ≡ d = cc in
    let row = some_with d.rows at (λ r. (other : Row) × IsJoinable d.lane d.rows r other) within (subst (λ x. CanJoin x at) is can.can) in
    record { row = row.0; other = row.1.1.0; found = row.1.0; joinable = row.1.1.1 }

-- a row loses a mark and has a Delete then
pub delete_begun : (d one two : Rows) (at : ℕ) (bucket : Low) (node serial marks : ℕ) → one ≡ with_rows d (at_row at (λ r. record r { complete = marks }) d.rows)
    → two ≡ with_rows one (at_row at (λ r. record r { deleting = Some (record { bucket = bucket; node = node; serial = serial }) }) one.rows)
    → two ≡ with_rows d (at_row at (deleting_from bucket node serial marks) d.rows)
delete_begun d one two at bucket node serial marks is then =
    then ∙ ap (λ (x : Rows). with_rows x (at_row at (λ r. record r { deleting = Some (record { bucket = bucket; node = node; serial = serial }) }) x.rows)) is
    ∙ ap (with_rows d) (changed_twice (λ r. record r { complete = marks }) (λ r. record r { deleting = Some (record { bucket = bucket; node = node; serial = serial }) }) at d.rows)

-- a round for a key begins in the row of a place
abbrev pub round_at : (p q : Part) (key : ℕ) (bucket : Low) (receivers : ℕ) (b : BeginsRound p q key bucket receivers) → BeginsRoundAt p q b.at bucket receivers
round_at p q key bucket receivers b = record {
  state = b.state;
  rows = b.rows;
  row = b.row;
  opened = b.opened;
  no_round = b.no_round;
  found = (b.is_row).found;
  same_bucket = b.same_bucket;
  targets = b.targets;
  after = b.after;
}
