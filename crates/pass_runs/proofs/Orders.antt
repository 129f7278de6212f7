-- The rows of a lane are in order, as a pass of the abstract asks it.
use Rattle.std.proofs.Common.{◌≡◌, ◌∙◌, ◌||◌, ℕ, suc, ◌^◌, ◌<◌, ◌≤◌, Bool, true, false, List, [], ◌∷◌, map, cond, Option, Some, None, slice_get, refl, sym, ap, subst, arith, eqb-true, ◌==◌}
use Rattle.std.specs.List.{count_by, list_any}
use Rattle.bucket_ids.specs.Buckets.{Low, IsBucket, has_key, covers}
use Rattle.bucket_ids.specs.Printed.{number_of}
use Rattle.bucket_db.specs.Order.{RisesFrom}
use Rattle.bucket_db.specs.Rows.{AreRows, AreBuckets, buckets_of}
use Rattle.bucket_db.specs.declared.row.Row.{Row}
use Rattle.proof_basics.proofs.Lists.{count_cons, of_image}
use Rattle.bucket_db.proofs.Inside.{has_low, low_below, covers_key}
use Rattle.bucket_db.proofs.RowLists.{bucket_at, valid_at, one_row, rises_of_rising}
use Rattle.pieces.specs.Pieces.{meets}
use Rattle.lane_rest.specs.Targets.{is_active}
use Rattle.pass_model.specs.Rows as rest
use Rattle.pass_model.specs.Rows.{Settings}
use Rattle.pass_model.specs.Passes.{AllRows}
use Rattle.pass_model.specs.Resting.{AreApart}
use Rattle.pass_model.specs.Sweeps.{Rises}
use Rattle.pass_model.specs.Orders.{ActiveServes, AreInOrder}

-- ---- rows with the same buckets rise in number, and no key lies in two

rises-map : (f : Row → rest.Row) → ((r : Row) → (f r).bucket ≡ r.bucket) → (least : ℕ) (rows : List Row) → RisesFrom least (buckets_of rows) → Rises least (map f rows)
rises-map f same least [] h = tt
rises-map f same least (r ∷ rs) h = (
  subst (λ (b : Low). least ≤ number_of b) (sym (same r)) h.0,
  subst (λ (b : Low). Rises (number_of b) (map f rs)) (sym (same r)) (rises-map f same (number_of r.bucket) rs h.1),
)

none-any : {X : Type 0} (p : X → Bool) (xs : List X) → ((k : ℕ) (x : X) → slice_get xs k ≡ Some x → p x ≡ true → ⊥) → list_any p xs ≡ false
none-any p [] none = refl
none-any p (x ∷ xs) none = by_test (p x) refl (none-any p xs (λ k y at. none (suc k) y at))
  where
    by_test : (t : Bool) → p x ≡ t → list_any p xs ≡ false → (t || list_any p xs) ≡ false
    by_test true e ih = absurd (none 0 x refl e)
    by_test false e ih = ih

-- two buckets that meet have the lowest key of one in common
meets-low : (a b : Low) → IsBucket a → IsBucket b → meets a b ≡ true → (key : ℕ) × (key < 2 ^ 58) × (has_key a key ≡ true) × (has_key b key ≡ true)
meets-low a b ok ok' h = by_test (covers a b) refl h
  where
    by_test : (t : Bool) → covers a b ≡ t → (t || covers b a) ≡ true → (key : ℕ) × (key < 2 ^ 58) × (has_key a key ≡ true) × (has_key b key ≡ true)
    by_test true e g = (b.low, low_below b ok', covers_key a b b.low e (has_low b ok'), has_low b ok')
    by_test false e g = (a.low, low_below a ok, has_low a ok, covers_key b a a.low g (has_low a ok))

abbrev FewHave : List Row → Type 0
FewHave rows = (key : ℕ) → key < 2 ^ 58 → count_by (λ b. has_key b key) (buckets_of rows) ≤ 1

apart-map : (f : Row → rest.Row) → ((r : Row) → (f r).bucket ≡ r.bucket) → (rows : List Row) → AreBuckets (buckets_of rows) → FewHave rows → AreApart (map f rows)
apart-map f same [] valid few = tt
apart-map f same (r ∷ rs) valid few = (
  none-any (λ q. meets q.bucket (f r).bucket) (map f rs) (λ k q at h.
      let x = of_image f rs k q at in
      let ok = valid_at (buckets_of rs) k x.0.bucket valid.1 (bucket_at rs k x.0 x.1) in
      let met : meets x.0.bucket r.bucket ≡ true = subst (λ (b : Low). meets x.0.bucket b ≡ true) (same r) (subst (λ (b : Low). meets b (f r).bucket ≡ true) (ap (λ (y : rest.Row). y.bucket) x.2 ∙ same x.0) h) in
      let z = meets-low x.0.bucket r.bucket ok valid.0 met in
      let e : suc k ≡ 0 = one_row (r ∷ rs) z.0 (suc k) 0 x.0 r (few z.0 z.1) x.1 refl z.2 z.3 in
      absurd (omega (arith, e))),
  subst IsBucket (sym (same r)) valid.0,
  apart-map f same rs valid.1 (λ key small. let all = few key small in omega (arith, count_cons (λ b. has_key b key) r.bucket (buckets_of rs), all)),
)

least-one : (t : Bool) → cond t 1 0 ≤ 1
least-one true = omega arith
least-one false = omega arith

-- no key lies in two rows of a lane
pub rows_apart : (lane : Low) (rows : List Row) → AreRows lane (buckets_of rows) → (f : Row → rest.Row) → ((r : Row) → (f r).bucket ≡ r.bucket) → AreApart (map f rows)
rows_apart lane rows h f same = apart-map f same rows h.valid (λ key small. subst (λ (n : ℕ). n ≤ 1) (sym (h.partition key small)) (least-one (has_key lane key)))

-- ---- active nodes serve

all-serve : (s : Settings) (f : Row → rest.Row) → ((r : Row) → (f r).active ≡ r.active) → (rows : List Row) → ((at : ℕ) (row : Row) (n : ℕ) → slice_get rows at ≡ Some row → row.active ≡ Some n → s.serving n ≡ true) → AllRows (ActiveServes s) (map f rows)
all-serve s f same [] serve = tt
all-serve s f same (row ∷ rows) serve = ((λ n is. by_active n row.active refl (same row) is), all-serve s f same rows (λ at r n found is. serve (suc at) r n found is))
  where
    by_active : (n : ℕ) (a : Option ℕ) → row.active ≡ a → (f row).active ≡ row.active → is_active (f row).active n ≡ true → s.serving n ≡ true
    by_active n None e same is = let off : false ≡ true = sym (ap (λ (o : Option ℕ). is_active o n) (same ∙ e)) ∙ is in cc
    by_active n (Some m) e same is =
        let on : (m == n) ≡ true = sym (ap (λ (o : Option ℕ). is_active o n) (same ∙ e)) ∙ is in
        serve 0 row n refl (e ∙ ap Some (eqb-true m n on))

-- ---- all of it

pub rows_in_order : (s : Settings) (f : Row → rest.Row) → ((r : Row) → (f r).bucket ≡ r.bucket) → ((r : Row) → (f r).active ≡ r.active) → (lane : Low) (rows : List Row) → AreRows lane (buckets_of rows)
    → ((at : ℕ) (row : Row) (n : ℕ) → slice_get rows at ≡ Some row → row.active ≡ Some n → s.serving n ≡ true) → AreInOrder s (map f rows)
rows_in_order s f same_bucket same_active lane rows h serve = record {
  apart = rows_apart lane rows h f same_bucket;
  rises = rises-map f same_bucket 0 rows (rises_of_rising (buckets_of rows) h.rising);
  serve = all-serve s f same_active rows serve;
}
