-- Rows stay in order where one changes, two become one, and one becomes two.
use Rattle.std.proofs.Common.{◌≡◌, ◌||◌, ◌+◌, ◌-◌, ◌%◌, ◌^◌, ◌<◌, ℕ, false, List, [], ◌∷◌, Some, slice_get, slice_set, refl, ap, ap₂, ◌∙◌, subst, arith, mod-eq_of_lt, pow_pos}
use Rattle.std.specs.List.{list_any, remove}
use Rattle.bucket_ids.specs.Buckets.{Low, IsBucket, first_child, second_child, parent_of}
use Rattle.bucket_ids.specs.Printed.{number_of}
use Rattle.pieces.specs.Pieces.{meets}
use Rattle.proof_basics.proofs.Tests.{or_false}
use Rattle.pass_model.specs.Rows.{Settings, Row}
use Rattle.pass_model.specs.Passes.{AllRows, CanJoin, merged, child_row}
use Rattle.pass_model.specs.Resting.{AreSettings, AreApart}
use Rattle.pass_model.specs.Sweeps.{with_row}
use Rattle.proof_basics.proofs.Lists.{none-map}
use Rattle.pass_model.proofs.Geometry.{meets-sym, meets-part, covers-first, covers-second, first-fits, second-fits, children-apart, children-of-apart}
use Rattle.proof_basics.proofs.Numbers.{twice}
use Rattle.pass_model.proofs.Lists.{all-among, among-all, none-among, among-none, apart-among, among-apart}
use Rattle.pass_model.proofs.Sweeping.{among-removed, among-placed}
use Rattle.pass_model.specs.Turns.{without_pair, with_children}
use Rattle.pass_model.specs.Orders.{ActiveServes, AreInOrder}
use Rattle.pass_model.proofs.RowLists.{all-set, rises-set, apart-set, rises-removed, rises-placed}

pub valid-rows : (rows : List Row) → AreApart rows → AllRows (λ r. IsBucket r.bucket) rows
valid-rows [] a = tt
valid-rows (r ∷ rs) a = (a.1, valid-rows rs a.2)

pub order-set : (s : Settings) (rows : List Row) (at : ℕ) (r q : Row) → slice_get rows at ≡ Some r → q.bucket ≡ r.bucket → ActiveServes s q → AreInOrder s rows → AreInOrder s (slice_set rows at q)
order-set s rows at r q found same serves o = record {
  apart = apart-set rows at r q found same o.apart;
  rises = rises-set 0 rows at r q found same o.rises;
  serve = all-set (ActiveServes s) rows at q serves o.serve;
}

-- ---- two halves

-- who meets neither half doesn't meet the whole
none-whole : (p : Low) → IsBucket p → p.bits < 58 → (rows : List Row) → AreApart rows → list_any (λ (q : Row). meets q.bucket (first_child p)) rows ≡ false → list_any (λ (q : Row). meets q.bucket (second_child p)) rows ≡ false
    → list_any (λ (q : Row). meets q.bucket p) rows ≡ false
none-whole p ok few [] parted one two = refl
none-whole p ok few (r ∷ rs) parted one two =
    let a = or_false (meets r.bucket (first_child p)) (list_any (λ (q : Row). meets q.bucket (first_child p)) rs) one in
    let b = or_false (meets r.bucket (second_child p)) (list_any (λ (q : Row). meets q.bucket (second_child p)) rs) two in
    ap₂ (λ t u. t || u) (children-of-apart p r.bucket ok parted.1 few a.0 b.0) (none-whole p ok few rs parted.2 a.1 b.1)

abbrev low_of : ℕ → ℕ → Low
low_of bits low = record { bits = bits; low = low }

module _ (s : Settings) (sound : AreSettings s) (p : Low) (a b : Row) (can : CanJoin s p a b) (valid : IsBucket b.bucket) where
  bits-second : b.bucket.bits ≡ p.bits + 1
  bits-second = ap (λ (c : Low). c.bits) can.second

  low-second : b.bucket.low ≡ p.low + 2 ^ p.bits
  low-second = ap (λ (c : Low). c.low) can.second

  parent-fits : p.low < 2 ^ p.bits
  parent-fits =
      let fits : b.bucket.low < 2 ^ (p.bits + 1) = subst (λ (k : ℕ). b.bucket.low < 2 ^ k) bits-second valid.fits in
      let low = low-second in
      let two = twice p.bits in
      omega (arith, fits, low, two)

  pub parent-few : p.bits < 58
  parent-few = let e = bits-second in let m = valid.most in omega (arith, e, m)

  pub parent-valid : IsBucket p
  parent-valid = record {
    some = (let w = can.within in let k = sound.some_bits in omega (arith, w, k));
    most = (let few = parent-few in omega (arith, few));
    fits = parent-fits;
  }

  pub parent-is : parent_of a.bucket ≡ p
  parent-is = ap (λ (c : Low). parent_of c) can.first ∙ make (p.bits + 1 - 1) (less p.bits)
    where
      less : (k : ℕ) → k + 1 - 1 ≡ k
      less k = omega arith

      make : (k : ℕ) → k ≡ p.bits → ◌≡◌ {A = Low} (record { bits = k; low = p.low % 2 ^ k }) p
      make k e = ap (λ (i : ℕ). low_of i (p.low % 2 ^ i)) e ∙ ap (λ (l : ℕ). low_of p.bits l) (mod-eq_of_lt parent-fits)

  -- the second half has the greater number
  pub second-above : number_of a.bucket < number_of b.bucket
  second-above =
      let first : number_of a.bucket ≡ number_of (first_child p) = ap number_of can.first in
      let second : number_of b.bucket ≡ number_of (second_child p) = ap number_of can.second in
      let more = pow_pos p.bits in
      omega (arith, first, second, more)

  pub order-joined : (rows : List Row) (at other : ℕ) → slice_get rows at ≡ Some a → slice_get (remove rows at) other ≡ Some b → AreInOrder s rows → AreInOrder s (with_row (merged p a b) (without_pair at other rows))
  order-joined rows at other found beside o =
      let m = merged p a b in
      let some = remove rows at in
      let rest = without_pair at other rows in
      let first = among-removed rows at a found in
      let second = among-removed some other b beside in
      let new = among-placed m rest in
      let x = apart-among a rows some o.apart first in
      let y = apart-among b some rest x.2 second in
      let none_a = (none-among (λ (q : Row). meets q.bucket a.bucket) b some rest x.0 second).1 in
      let none = none-whole p parent-valid parent-few rest y.2 (subst (λ (c : Low). list_any (λ (q : Row). meets q.bucket c) rest ≡ false) can.first none_a) (subst (λ (c : Low). list_any (λ (q : Row). meets q.bucket c) rest ≡ false) can.second y.0) in
      let serve = all-among (ActiveServes s) a rows some o.serve first in
      record {
        apart = among-apart m (with_row m rest) rest none parent-valid y.2 new;
        rises = rises-placed 0 m rest (omega arith) (rises-removed 0 other some (rises-removed 0 at rows o.rises));
        serve = among-all (ActiveServes s) m (with_row m rest) rest serve.0 (all-among (ActiveServes s) b some rest serve.1 second).1 new;
      }

-- ---- one that is split

pub first-below : (b : Low) → number_of (first_child b) < number_of (second_child b)
first-below b = let more = pow_pos b.bits in omega (arith, more)

pub order-split : (s : Settings) (rows : List Row) (at : ℕ) (r : Row) → slice_get rows at ≡ Some r → r.bucket.bits < 58 → AreInOrder s rows → AreInOrder s (with_children at r rows)
order-split s rows at r found few o =
    let c = first_child r.bucket in
    let d = second_child r.bucket in
    let one = child_row c r in
    let two = child_row d r in
    let rest = remove rows at in
    let m = among-removed rows at r found in
    let x = apart-among r rows rest o.apart m in
    let ok = x.1 in
    let none_c = none-map (λ (q : Row). meets q.bucket r.bucket) (λ (q : Row). meets q.bucket c) rest (λ q e. meets-sym r.bucket q.bucket (meets-part r.bucket c q.bucket (covers-first r.bucket ok) (meets-sym q.bucket c e))) x.0 in
    let none_d = none-map (λ (q : Row). meets q.bucket r.bucket) (λ (q : Row). meets q.bucket d) rest (λ q e. meets-sym r.bucket q.bucket (meets-part r.bucket d q.bucket (covers-second r.bucket ok) (meets-sym q.bucket d e))) x.0 in
    let m_one = among-placed one rest in
    let m_two = among-placed two (with_row one rest) in
    let none_two = among-none (λ (q : Row). meets q.bucket d) one (with_row one rest) rest (children-apart r.bucket ok few) none_d m_one in
    let serve = all-among (ActiveServes s) r rows rest o.serve m in
    record {
      apart = among-apart two (with_row two (with_row one rest)) (with_row one rest) none_two (second-fits r.bucket ok few) (among-apart one (with_row one rest) rest none_c (first-fits r.bucket ok few) x.2 m_one) m_two;
      rises = rises-placed 0 two (with_row one rest) (omega arith) (rises-placed 0 one rest (omega arith) (rises-removed 0 at rows o.rises));
      serve = among-all (ActiveServes s) two (with_row two (with_row one rest)) (with_row one rest) serve.0 (among-all (ActiveServes s) one (with_row one rest) rest serve.0 serve.1 m_one) m_two;
    }
