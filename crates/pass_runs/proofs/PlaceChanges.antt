-- What a decision on the row of a place that is settled makes of the rows.
use Rattle.std.proofs.Common.{◌≡◌, ◌∙◌, ◌==◌, ◌&&◌, not, ℕ, zero, suc, true, false, List, [], ◌∷◌, map, Option, Some, None, refl, sym, ap, ap₂, subst, slice_get, slice_set}
use Rattle.bucket_ids.specs.Buckets.{Low}
use Rattle.node_sets.specs.Members.{has_node}
use Rattle.messages.specs.declared.decision.Decision.{Decision}
use Rattle.messages.specs.declared.decision.Decision.TheVariants.{ActiveOn, DeleteFrom, DeleteOver}
use Rattle.bucket_db.specs.Changes.{with_rows, at_row, after_delete, without_delete}
use Rattle.bucket_db.specs.Rows.{Rows}
use Rattle.bucket_db.specs.declared.row.Row.{Row}
use Rattle.bucket_db.specs.declared.row.Deleting.{Deleting}
use Rattle.distributor_part.specs.Parts.{Part, rows_of}
use Rattle.distributor_part.specs.Upkeep.{ActivatesAt, AcceptsAt, BeginsDelete, EndsDelete, deleting_from}
use Rattle.pass_machine.specs.Turns.{View}
use Rattle.pass_machine.specs.Abstract.{after_decision, AreMarks}
use Rattle.pass_runs.specs.Steps.{Changes, IsDecidedBy}
use Rattle.pass_runs.proofs.Rows.{same_some, set_at_row}

-- ---- lists

pub map_same : {X : Type 0} (f : X → X) (xs : List X) → ((k : ℕ) (x : X) → slice_get xs k ≡ Some x → f x ≡ x) → map f xs ≡ xs
map_same f [] same = refl
map_same f (x ∷ xs) same = ap₂ (λ y ys. y ∷ ys) (same 0 x refl) (map_same f xs (λ k z there. same (suc k) z there))

-- what leaves all others as they are changes one place
pub map_at : {X : Type 0} (f : X → X) (xs : List X) (at : ℕ) (x : X) → slice_get xs at ≡ Some x → ((k : ℕ) (y : X) → (k ≡ at → ⊥) → slice_get xs k ≡ Some y → f y ≡ y) → map f xs ≡ slice_set xs at (f x)
map_at f [] at x found same = cc
map_at f (y ∷ ys) zero x found same = ap₂ (λ z zs. z ∷ zs) (ap f (same_some (Some y) y x refl found)) (map_same f ys (λ k z there. same (suc k) z (λ (e : suc k ≡ 0). cc) there))
map_at f (y ∷ ys) (suc at) x found same = ap₂ (λ z zs. z ∷ zs) (same 0 y (λ (e : 0 ≡ suc at). cc) refl) (map_at f ys at x found (λ k z off there. same (suc k) z (λ (e : suc k ≡ suc at). off (cc)) there))

-- a row without a Delete stays
pub stays_without : (b : Low) (n : ℕ) (row : Row) → row.deleting ≡ None → without_delete b n row ≡ row
stays_without b n row idle = ap (λ (o : Option Deleting). record row { deleting = o }) (ap (λ (o : Option Deleting). after_delete b n o) idle ∙ sym idle)

-- ---- the rows of the part

pub opened_rows : (p : Part) (rows : Rows) (all : List Row) → p.rows ≡ Some rows → rows_of p.rows ≡ all → rows.rows ≡ all
opened_rows p rows all opened same = sym (ap (λ (o : Option Rows). rows_of o) opened) ∙ same

-- the row behind a decision stands at the place
abbrev pub Decided : View → ℕ → Row → View → Decision → Type 0
Decided v at row w x = (marks : ℕ) × AreMarks x row marks × (w ≡ record v { rows = slice_set v.rows at (after_decision marks x row) })

module _ (v : View) (at : ℕ) (row : Row) (found : slice_get v.rows at ≡ Some row) where
  abbrev having : List Row → View
  having rows = record v { rows = rows }

  -- the row of the place changed
  pub changed_at : (w : View) (p q : Part) (rows : Rows) (f : Row → Row) → rows_of p.rows ≡ v.rows → w ≡ record v { rows = rows_of q.rows } → p.rows ≡ Some rows → q ≡ record p { rows = Some (with_rows rows (at_row at f rows.rows)) }
      → w ≡ record v { rows = slice_set v.rows at (f row) }
  changed_at w p q rows f same view opened after =
      view ∙ ap (λ (all : List Row). having all) (ap (λ (x : Part). rows_of x.rows) after ∙ (ap (λ (all : List Row). at_row at f all) (opened_rows p rows v.rows opened same) ∙ set_at_row at f v.rows row found))

  pub active_changes : (b : Low) (n : ℕ) (w : View) → Changes v w (IsDecidedBy at (ActiveOn b n)) → Decided v at row w (ActiveOn b n)
  active_changes b n w c =
      let x : ActivatesAt c.before c.after at n = c.does in
      (0, tt, changed_at w c.before c.after x.rows (λ r. record r { active = Some n; accepted = false }) c.rows c.view x.opened x.after)

  pub delete_changes : (n k : ℕ) (w : View) → Changes v w (IsDecidedBy at (DeleteFrom row.bucket n k)) → Decided v at row w (DeleteFrom row.bucket n k)
  delete_changes n k w c =
      let x : BeginsDelete c.before c.after at n k = c.does in
      let all : (x.rows).rows ≡ v.rows = opened_rows c.before x.rows v.rows x.opened c.rows in
      let same : x.row ≡ row = same_some (slice_get v.rows at) x.row row (subst (λ (rows : List Row). slice_get rows at ≡ Some x.row) all x.found) found in (
        x.marks,
        subst (λ (r : Row). (m : ℕ) → has_node x.marks m ≡ (has_node r.complete m && not (m == n))) same x.kept,
        changed_at w c.before c.after x.rows (deleting_from (x.row).bucket n k x.marks) c.rows c.view x.opened x.after ∙ ap (λ (r : Row). having (slice_set v.rows at (deleting_from r.bucket n k x.marks row))) same,
      )

  -- just the row of the place has a Delete
  pub over_changes : ((k : ℕ) (r : Row) → (k ≡ at → ⊥) → slice_get v.rows k ≡ Some r → r.deleting ≡ None) → (b : Low) (n : ℕ) (w : View) → Changes v w (IsDecidedBy at (DeleteOver b n)) → Decided v at row w (DeleteOver b n)
  over_changes others b n w c =
      let x : EndsDelete c.before c.after b n = c.does in (
        0,
        tt,
        (c.view ∙ ap (λ (p : Part). having (rows_of p.rows)) x.after) ∙ ap (λ (all : List Row). having all) (ap (λ (all : List Row). map (without_delete b n) all) (opened_rows c.before x.rows v.rows x.opened c.rows)
            ∙ map_at (without_delete b n) v.rows at row found (λ k r off there. stays_without b n r (others k r off there))),
      )

  pub accept_changes : (w : View) → Changes v w (λ p q. AcceptsAt p q at) → w ≡ record v { rows = slice_set v.rows at (record row { accepted = true }) }
  accept_changes w c =
      let x : AcceptsAt c.before c.after at = c.does in
      changed_at w c.before c.after x.rows (λ r. record r { accepted = true }) c.rows c.view x.opened x.after
