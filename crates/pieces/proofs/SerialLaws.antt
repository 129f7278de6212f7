-- A serial comes once.
use Rattle.std.proofs.Common.{◌≡◌, ◌==◌, ◌&&◌, ◌||◌, not, ℕ, zero, suc, ◌+◌, ◌-◌, ◌<◌, ◌≤◌, Bool, true, false, cond, List, [], ◌∷◌, ◌++◌, map, filter, refl, sym, ap, ap₂, ◌∙◌, arith, eqb, eqb-true, nat_lt, inl, inr}
use mathlib.Core.Bool.{true≢false}
use Rattle.std.specs.List.{list_any}
use Rattle.std.proofs.lemmas.Bool.{cases_lt}
use Rattle.std.proofs.lemmas.List.Folds.{list_any-append}
use Rattle.bucket_ids.specs.Buckets.{Low, covers, first_child, second_child}
use Rattle.bucket_ids.specs.Paths.{first_path}
use Rattle.pieces.specs.declared.piece.Piece.{Piece}
use Rattle.pieces.specs.Pieces.{same_bucket, is_piece, is_over, is_inside, is_exactly, has_key_of, does_meet, with_serial, renewed, ready_at, split_at, join_at, with_piece, apply_at, parts}
use Rattle.pieces.specs.Holdings.{Holding, AreUpTo}
use Rattle.pieces.specs.Lives.{Change, Store, Apply, Delete, Split, Join, Ready, Activate, after_change, life, names}
use Rattle.proof_basics.proofs.Tests.{or_false, both}
use Rattle.pieces.proofs.Serials.{AreUpTo-renewed, AreUpTo-ready, AreUpTo-split, AreUpTo-join, AreUpTo-filter}
use Rattle.pieces.proofs.ApplyLaws.{AreUpTo-apply}

not_eq : (x y : ℕ) → x < y → (y == x) ≡ false
not_eq x y lt = by_eq (eqb y x) refl
  where
    by_eq : (t : Bool) → eqb y x ≡ t → t ≡ false
    by_eq true e = let same = eqb-true y x e in absurd (omega (arith, same, lt))
    by_eq false e = refl

and_none : (x y : Bool) → y ≡ false → x && y ≡ false
and_none true y h = h
and_none false y h = refl

none-filter : (test keep : Piece → Bool) (ps : List Piece) → list_any test ps ≡ false → list_any test (filter keep ps) ≡ false
none-filter test keep [] h = refl
none-filter test keep (p ∷ ps) h = let parts = or_false (test p) _ h in by_test (keep p) parts.0 (none-filter test keep ps parts.1)
  where
    by_test : (t : Bool) → test p ≡ false → list_any test (filter keep ps) ≡ false → list_any test (cond t (p ∷ filter keep ps) (filter keep ps)) ≡ false
    by_test true e ih = ap₂ (λ x y. x || y) e ih
    by_test false e ih = ih

-- ---- nothing that is not there comes with an older serial than the new one

module _ (b : Low) (s t : ℕ) (older : s < t) where
  pub fresh : (p : Piece) → p.serial ≡ t → is_piece b s p ≡ false
  fresh p e = and_none (same_bucket p.bucket b) (p.serial == s) (ap (λ x. x == s) e ∙ not_eq s t older)

  none-map : (f : Piece → Piece) → ((p : Piece) → is_piece b s p ≡ false → is_piece b s (f p) ≡ false) → (ps : List Piece) → list_any (is_piece b s) ps ≡ false → list_any (is_piece b s) (map f ps) ≡ false
  none-map f keeps [] h = refl
  none-map f keeps (p ∷ ps) h = let parts = or_false (is_piece b s p) _ h in ap₂ (λ x y. x || y) (keeps p parts.0) (none-map f keeps ps parts.1)

  none-renewed : (test : Piece → Bool) (ps : List Piece) → list_any (is_piece b s) ps ≡ false → list_any (is_piece b s) (renewed test t ps) ≡ false
  none-renewed test ps h = none-map (λ p. cond (test p) (with_serial t p) p) keeps ps h
    where
      keeps : (p : Piece) → is_piece b s p ≡ false → is_piece b s (cond (test p) (with_serial t p) p) ≡ false
      keeps p e = by_test (test p)
        where
          by_test : (x : Bool) → is_piece b s (cond x (with_serial t p) p) ≡ false
          by_test true = fresh (with_serial t p) refl
          by_test false = e

  none-ready : (c : Low) (ps : List Piece) → list_any (is_piece b s) ps ≡ false → list_any (is_piece b s) (ready_at c t ps) ≡ false
  none-ready c ps h = none-map (λ p. cond (is_exactly c p) (record { bucket = p.bucket; serial = t; ready = true }) p) keeps ps h
    where
      keeps : (p : Piece) → is_piece b s p ≡ false → is_piece b s (cond (is_exactly c p) (record { bucket = p.bucket; serial = t; ready = true }) p) ≡ false
      keeps p e = by_test (is_exactly c p)
        where
          by_test : (x : Bool) → is_piece b s (cond x (record { bucket = p.bucket; serial = t; ready = true }) p) ≡ false
          by_test true = fresh (record { bucket = p.bucket; serial = t; ready = true }) refl
          by_test false = e

  pub none-parts : (k : ℕ) (from to : Low) (r : Bool) → list_any (is_piece b s) (parts k from to t r) ≡ false
  none-parts zero from to r = ap (λ x. x || false) (fresh (record { bucket = from; serial = t; ready = r }) refl)
  none-parts (suc k) from to r = by_test (covers (first_child from) to) (none-parts k (first_child from) to r) (none-parts k (second_child from) to r)
    where
      by_test : (x : Bool) → list_any (is_piece b s) (parts k (first_child from) to t r) ≡ false → list_any (is_piece b s) (parts k (second_child from) to t r) ≡ false
          → list_any (is_piece b s) (cond x (parts k (first_child from) to t r ++ record { bucket = second_child from; serial = t; ready = r } ∷ []) (record { bucket = first_child from; serial = t; ready = r } ∷ parts k (second_child from) to t r)) ≡ false
      by_test true x y =
          list_any-append (is_piece b s) (parts k (first_child from) to t r) (record { bucket = second_child from; serial = t; ready = r } ∷ [])
          ∙ ap₂ (λ x y. x || (y || false)) x (fresh (record { bucket = second_child from; serial = t; ready = r }) refl)
      by_test false x y = ap₂ (λ x y. x || y) (fresh (record { bucket = first_child from; serial = t; ready = r }) refl) y

  none-split : (c : Low) (ps : List Piece) → list_any (is_piece b s) ps ≡ false → list_any (is_piece b s) (split_at c t ps) ≡ false
  none-split c [] h = refl
  none-split c (p ∷ ps) h = let apart = or_false (is_piece b s p) _ h in by_test (covers p.bucket c) apart.0 apart.1 (none-split c ps apart.1)
    where
      by_test : (x : Bool) → is_piece b s p ≡ false → list_any (is_piece b s) ps ≡ false → list_any (is_piece b s) (split_at c t ps) ≡ false
          → list_any (is_piece b s) (cond x (parts (c.bits - p.bucket.bits) p.bucket c t p.ready ++ ps) (p ∷ split_at c t ps)) ≡ false
      by_test true e rest ih = list_any-append (is_piece b s) (parts (c.bits - p.bucket.bits) p.bucket c t p.ready) ps ∙ ap₂ (λ x y. x || y) (none-parts (c.bits - p.bucket.bits) p.bucket c p.ready) rest
      by_test false e rest ih = ap₂ (λ x y. x || y) e ih

  none-join : (c : Low) (ps : List Piece) → list_any (is_piece b s) ps ≡ false → list_any (is_piece b s) (join_at c t ps) ≡ false
  none-join c [] h = refl
  none-join c (p ∷ ps) h = let apart = or_false (is_piece b s p) _ h in by_test (covers c p.bucket) apart.0 apart.1 (none-join c ps apart.1)
    where
      by_test : (x : Bool) → is_piece b s p ≡ false → list_any (is_piece b s) ps ≡ false → list_any (is_piece b s) (join_at c t ps) ≡ false
          → list_any (is_piece b s) (cond x (record { bucket = c; serial = t; ready = p.ready || list_any (λ q. covers c q.bucket && q.ready) ps } ∷ filter (λ q. not (covers c q.bucket)) ps) (p ∷ join_at c t ps)) ≡ false
      by_test true e rest ih = ap₂ (λ x y. x || y) (fresh (record { bucket = c; serial = t; ready = p.ready || list_any (λ q. covers c q.bucket && q.ready) ps }) refl) (none-filter (is_piece b s) (λ q. not (covers c q.bucket)) ps rest)
      by_test false e rest ih = ap₂ (λ x y. x || y) e ih

  none-with_piece : (q : Piece) → q.serial ≡ t → (ps : List Piece) → list_any (is_piece b s) ps ≡ false → list_any (is_piece b s) (with_piece q ps) ≡ false
  none-with_piece q new [] h = ap (λ x. x || false) (fresh q new)
  none-with_piece q new (p ∷ ps) h = let apart = or_false (is_piece b s p) _ h in by_test (nat_lt (first_path q.bucket) (first_path p.bucket)) apart.0 (none-with_piece q new ps apart.1)
    where
      by_test : (x : Bool) → is_piece b s p ≡ false → list_any (is_piece b s) (with_piece q ps) ≡ false → list_any (is_piece b s) (cond x (q ∷ p ∷ ps) (p ∷ with_piece q ps)) ≡ false
      by_test true e ih = ap₂ (λ x y. x || y) (fresh q new) h
      by_test false e ih = ap₂ (λ x y. x || y) e ih

  none-apply : (c : Low) (ps : List Piece) → list_any (is_piece b s) ps ≡ false → list_any (is_piece b s) (apply_at c t ps) ≡ false
  none-apply c ps h = by_tests (list_any (is_over c) ps) (list_any (is_inside c) ps)
    where
      by_tests : (x y : Bool) → list_any (is_piece b s) (cond x (split_at c t ps) (cond y (join_at c t ps) (with_piece (record { bucket = c; serial = t; ready = false }) ps))) ≡ false
      by_tests true y = none-split c ps h
      by_tests false true = none-join c ps h
      by_tests false false = none-with_piece (record { bucket = c; serial = t; ready = false }) refl ps h

-- ---- over a life

-- a change takes the counter on by one at most
grows : (c : Change) (h : Holding) → h.serial ≤ (after_change c h).serial
grows (Store key) h = omega arith
grows (Apply b) h = omega arith
grows (Delete b) h = omega arith
grows (Split b) h = omega arith
grows (Join b) h = omega arith
grows (Ready b) h = omega arith
grows (Activate b) h = omega arith

grows_on : (later earlier : List Change) → (life earlier).serial ≤ (life (later ++ earlier)).serial
grows_on [] earlier = omega arith
grows_on (c ∷ later) earlier = let more = grows c (life (later ++ earlier)) in let low = grows_on later earlier in omega (arith, more, low)

step_up_to : (c : Change) (h : Holding) → AreUpTo h.serial h.pieces → AreUpTo (after_change c h).serial (after_change c h).pieces
step_up_to (Store key) h u = AreUpTo-renewed (has_key_of key) h.serial h.pieces u
step_up_to (Apply b) h u = AreUpTo-apply b h.serial h.pieces u
step_up_to (Delete b) h u = AreUpTo-filter (λ p. not (is_exactly b p)) h.serial h.pieces u
step_up_to (Split b) h u = AreUpTo-split b h.serial h.pieces u
step_up_to (Join b) h u = AreUpTo-join b h.serial h.pieces u
step_up_to (Ready b) h u = AreUpTo-ready b h.serial h.pieces u
step_up_to (Activate b) h u = AreUpTo-renewed (does_meet b) h.serial h.pieces u

all_up_to : (cs : List Change) → AreUpTo (life cs).serial (life cs).pieces
all_up_to [] = tt
all_up_to (c ∷ cs) = step_up_to c (life cs) (all_up_to cs)

found_low : (b : Low) (s top : ℕ) (ps : List Piece) → AreUpTo top ps → list_any (is_piece b s) ps ≡ true → s ≤ top
found_low b s top [] u h = cc
found_low b s top (p ∷ ps) u h = by_test (is_piece b s p) refl h (found_low b s top ps u.1)
  where
    by_test : (t : Bool) → is_piece b s p ≡ t → t || list_any (is_piece b s) ps ≡ true → (list_any (is_piece b s) ps ≡ true → s ≤ top) → s ≤ top
    by_test true e f ih = let same = eqb-true _ _ (both (same_bucket p.bucket b) _ e).1 in let low = u.0 in omega (arith, same, low)
    by_test false e f ih = ih f

pub named_low : (cs : List Change) (b : Low) (s : ℕ) → names b s (life cs) ≡ true → s ≤ (life cs).serial
named_low cs b s h = found_low b s (life cs).serial (life cs).pieces (all_up_to cs) h

stays_away : (c : Change) (h : Holding) (b : Low) (s : ℕ) → s ≤ h.serial → names b s h ≡ false → names b s (after_change c h) ≡ false
stays_away (Store key) h b s le n = none-renewed b s (h.serial + 1) (omega arith) (has_key_of key) h.pieces n
stays_away (Apply c) h b s le n = none-apply b s (h.serial + 1) (omega arith) c h.pieces n
stays_away (Delete c) h b s le n = none-filter (is_piece b s) (λ p. not (is_exactly c p)) h.pieces n
stays_away (Split c) h b s le n = none-split b s (h.serial + 1) (omega arith) c h.pieces n
stays_away (Join c) h b s le n = none-join b s (h.serial + 1) (omega arith) c h.pieces n
stays_away (Ready c) h b s le n = none-ready b s (h.serial + 1) (omega arith) c h.pieces n
stays_away (Activate c) h b s le n = none-renewed b s (h.serial + 1) (omega arith) (does_meet c) h.pieces n

away_on : (later earlier : List Change) (b : Low) (s : ℕ) → s ≤ (life earlier).serial → names b s (life earlier) ≡ false → names b s (life (later ++ earlier)) ≡ false
away_on [] earlier b s le n = n
away_on (c ∷ later) earlier b s le n = stays_away c (life (later ++ earlier)) b s (let g = grows_on later earlier in omega (arith, g, le)) (away_on later earlier b s le n)

-- what a bucket had and lost it never has again
pub serial_once : (later between earlier : List Change) (b : Low) (s : ℕ) → names b s (life earlier) ≡ true → names b s (life (between ++ earlier)) ≡ false → names b s (life (later ++ (between ++ earlier))) ≡ false
serial_once later between earlier b s had lost =
    away_on later (between ++ earlier) b s (let low = named_low earlier b s had in let g = grows_on between earlier in omega (arith, low, g)) lost

one_more : (c : Change) (h : Holding) → (after_change c h).serial ≤ h.serial + 1
one_more (Store key) h = omega arith
one_more (Apply b) h = omega arith
one_more (Delete b) h = omega arith
one_more (Split b) h = omega arith
one_more (Join b) h = omega arith
one_more (Ready b) h = omega arith
one_more (Activate b) h = omega arith

-- a change that gives a bucket a serial gives it the next one
pub given_next : (c : Change) (cs : List Change) (b : Low) (s : ℕ) → names b s (life cs) ≡ false → names b s (life (c ∷ cs)) ≡ true → s ≡ (life cs).serial + 1
given_next c cs b s before now = elim (cases_lt (life cs).serial s) [
  | inl more ↦ let low = named_low (c ∷ cs) b s now in let top = one_more c (life cs) in omega (arith, low, top, more)
  | inr less ↦ absurd (true≢false (sym now ∙ stays_away c (life cs) b s less before))
]
