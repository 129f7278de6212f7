-- The newest of some stamps, and the union as it comes to what is held.
use Rattle.std.proofs.Common.{◌≡◌, ℕ, zero, suc, ◌<◌, Bool, true, false, cond, refl, sym, ap, ◌∙◌, subst, arith, inl, inr, Option, Some, None}
use Rattle.std.proofs.lemmas.Bool.{cases_lt}
use Rattle.bucket_ids.specs.Buckets.{Low, has_key}
use Rattle.lane_journals.specs.Stamps.{Stamp, StampLe, Le, newer}
use Rattle.lane_journals.specs.Buckets.{Id, key_of}
use Rattle.lane_journals.specs.Events.{Content}
use Rattle.lane_journals.proofs.Order.{Le_refl, Le_trans, Le_none, newer-left, newer-right, newer-least}
use Rattle.lane_rest.specs.Sets.{held_if, newest_below}
use Rattle.pass_model.specs.Nodes.{taken_in}

stamp-both : (a b : Stamp) → StampLe a b → StampLe b a → a ≡ b
unfolding StampLe
stamp-both a b p q = same (grind arith) (grind arith)
  where
    same : a.version ≡ b.version → a.count ≡ b.count → a ≡ b
    same v c = λ i. record { version = v i; count = c i }

-- of two that are not newer than each other
pub Le-both : (a b : Option Stamp) → Le a b → Le b a → a ≡ b
unfolding Le
Le-both None None p q = refl
Le-both None (Some b) p q = absurd q
Le-both (Some a) None p q = absurd p
Le-both (Some a) (Some b) p q = ap (λ x. Some x) (stamp-both a b p q)

pub newer-same : (a b : Option Stamp) → Le a b → newer b a ≡ b
newer-same a b p = Le-both (newer b a) b (newer-least b a b (Le_refl b) p) (newer-left b a)

pub newest-most : (f : ℕ → Option Stamp) (k : ℕ) (m : Option Stamp) → ((n : ℕ) → Le (f n) m) → Le (newest_below f k) m
unfolding newest_below
newest-most f zero m h = Le_none m
newest-most f (suc k) m h = newer-least (f k) (newest_below f k) m (h k) (newest-most f k m h)

pub newest-above : (f : ℕ → Option Stamp) (k n : ℕ) → n < k → Le (f n) (newest_below f k)
unfolding newest_below
newest-above f zero n h = absurd (omega arith)
newest-above f (suc k) n h = elim (cases_lt n k) [
  | inl less ↦ Le_trans _ _ _ (newest-above f k n less) (newer-right (f k) (newest_below f k))
  | inr more ↦ (let e : n ≡ k = omega arith in subst (λ m. Le (f m) (newer (f k) (newest_below f k))) (sym e) (newer-left (f k) (newest_below f k)))
]

pub held-most : (t : Bool) (store : Content) (id : Id) (m : Option Stamp) → (t ≡ true → Le (store id) m) → Le (held_if t store id) m
held-most true store id m h = h refl
held-most false store id m h = Le_none m

-- what a target takes in
pub taken-is : (U : Content) (b : Low) (held : Content) (id : Id) → Le (held id) (U id) → has_key b (key_of id) ≡ true → taken_in b U held id ≡ U id
taken-is U b held id le h = ap (λ t. cond t (newer (U id) (held id)) (held id)) h ∙ newer-same (held id) (U id) le
