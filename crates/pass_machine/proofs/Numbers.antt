-- Numbers of steps that are left.
use Rattle.std.proofs.Common.{◌≡◌, ◌<◌, ◌≤◌, ℕ, zero, suc, ◌+◌, ◌-◌, ◌*◌, arith, sym, subst}
use Rattle.std.proofs.Math.Nat.{suc-mul}

pub join_nearer : (x y at before many : ℕ) → at < before → many + 1 ≡ before → x + (y + ((many - at) * 40 + 35)) < x + (y + (before - at) * 40)
join_nearer x y at before many h e = omega (arith, h, e)

pub lower : (x y a b : ℕ) → a < b → x + (1 + (y + a)) < x + (1 + (y + b))
lower x y a b h = omega (arith, h)

pub further : (x many at a : ℕ) → at < many → x + (1 + ((many - (at + 1)) * 171 + 170)) < x + (1 + ((many - at) * 171 + a))
further x many at a h = omega (arith, h)

-- ---- joins

pub next_join : (x y many at : ℕ) → at < many → x + (y + (many - (at + 1)) * 40) < x + (y + (many - at) * 40)
next_join x y many at h = omega (arith, h)

-- those of one bit less
pub level_lower : (x unit many at to bits : ℕ) → many + 2 ≤ unit → 0 < bits → x + ((bits - 1) * (40 * unit) + (many - to) * 40) < x + (bits * (40 * unit) + (many - at) * 40)
level_lower x unit many at to zero e h = absurd (omega (arith, h))
level_lower x unit many at to (suc k) e h =
    let less : suc k - 1 ≡ k = omega arith in
    subst (λ (j : ℕ). x + (j * (40 * unit) + (many - to) * 40) < x + (suc k * (40 * unit) + (many - at) * 40)) (sym less)
    (subst (λ (z : ℕ). x + (k * (40 * unit) + (many - to) * 40) < x + (z + (many - at) * 40)) (sym (suc-mul k (40 * unit)))
    (by_unit (40 * unit) (k * (40 * unit)) (omega (arith, e))))
  where
    by_unit : (u y : ℕ) → 40 * (many + 2) ≤ u → x + (y + (many - to) * 40) < x + ((y + u) + (many - at) * 40)
    by_unit u y g = omega (arith, g)

pub join_lower : (x y many at a b : ℕ) → a < b → x + (y + ((many - at) * 40 + a)) < x + (y + ((many - at) * 40 + b))
join_lower x y many at a b h = omega (arith, h)

pub join_over : (x y many at to : ℕ) → at ≤ to → x + (y + (many - to) * 40) < x + (y + ((many - at) * 40 + 1))
join_over x y many at to h = omega (arith, h)

-- behind the joins comes the next part
pub joined_first : (unit most many y z : ℕ) → most + 2 ≡ unit → many ≤ most → 2704 * unit + ((most - many) * 100 + (many - 0) * 40) < 2846 * unit + (y + z)
joined_first unit most many y z e h = omega (arith, e, h)

pub joined_again : (unit many y z : ℕ) → many + 2 ≤ unit → 0 * unit + (1 + ((many - 0) * 171 + 170)) < 172 * unit + (y + z)
joined_again unit many y z e = omega (arith, e)

-- ---- the other parts

pub begins_again : (unit many at to z : ℕ) → many + 2 ≤ unit → 172 * unit + (58 * (40 * unit) + (many - to) * 40) < 2532 * unit + (1 + ((many - at) * 171 + z))
begins_again unit many at to z e = omega (arith, e)

pub begins_first : (unit many at to : ℕ) → many + 2 ≤ unit → 2846 * unit + (58 * (40 * unit) + (many - to) * 40) < 5206 * unit + (many - at)
begins_first unit many at to e = omega (arith, e)

pub begins_settling : (unit many x : ℕ) → many + 2 ≤ unit → 2532 * unit + (1 + ((many - 0) * 171 + 170)) < 2704 * unit + x
begins_settling unit many x e = omega (arith, e)

pub begins_rounds : (unit many x : ℕ) → many + 2 ≤ unit → 5206 * unit + (many - 0) < 5207 * unit + x
begins_rounds unit many x e = omega (arith, e)

pub begins_activates : (unit many x : ℕ) → many + 2 ≤ unit → 5207 * unit + (many - 0) * 3 < 5211 * unit + x
begins_activates unit many x e = omega (arith, e)

pub next_resend : (x many at : ℕ) → at < many → x + (many - (at + 1)) * 3 < x + (many - at) * 3
next_resend x many at h = omega (arith, h)

pub resend_over : (x many at : ℕ) → x + (many - (at + 1)) * 3 < x + ((many - (at + 1)) * 3 + 1)
resend_over x many at = omega arith

pub next_split : (x y many at : ℕ) → at < many → x + (y + (many - (at + 1)) * 40) < x + (y + (many - at) * 40)
next_split x y many at h = omega (arith, h)
