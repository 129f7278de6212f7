-- No serial is above the last that was drawn.
use Rattle.std.proofs.Common.{◌&&◌, ◌||◌, not, ℕ, zero, suc, ◌+◌, ◌-◌, ◌≤◌, Bool, true, false, cond, List, [], ◌∷◌, ◌++◌, map, filter, arith, nat_lt}
use Rattle.std.specs.List.{list_any}
use Rattle.bucket_ids.specs.Buckets.{Low, covers, first_child, second_child}
use Rattle.bucket_ids.specs.Paths.{first_path}
use Rattle.pieces.specs.declared.piece.Piece.{Piece}
use Rattle.pieces.specs.Pieces.{is_exactly, with_serial, renew, renewed, split_at, with_piece, parts, join_at, ready_at, make_ready}
use Rattle.pieces.specs.Holdings.{AreUpTo}

-- ---- serials
pub AreUpTo-more : (s t : ℕ) → s ≤ t → (ps : List Piece) → AreUpTo s ps → AreUpTo t ps
AreUpTo-more s t le [] h = tt
AreUpTo-more s t le (p ∷ ps) h = ((let l = h.0 in omega (arith, l, le)), AreUpTo-more s t le ps h.1)

pub AreUpTo-map : (f : Piece → Piece) (s t : ℕ) → ((p : Piece) → p.serial ≤ s → (f p).serial ≤ t) → (ps : List Piece) → AreUpTo s ps → AreUpTo t (map f ps)
AreUpTo-map f s t low [] h = tt
AreUpTo-map f s t low (p ∷ ps) h = (low p h.0, AreUpTo-map f s t low ps h.1)

pub AreUpTo-renewed : (test : Piece → Bool) (s : ℕ) (ps : List Piece) → AreUpTo s ps → AreUpTo (s + 1) (renewed test (s + 1) ps)
AreUpTo-renewed test s ps h = AreUpTo-map (renew test (s + 1)) s (s + 1) low ps h
  where
    low : (p : Piece) → p.serial ≤ s → (renew test (s + 1) p).serial ≤ s + 1
    low p h = by_test (test p)
      where
        by_test : (t : Bool) → (cond t (with_serial (s + 1) p) p).serial ≤ s + 1
        by_test true = omega arith
        by_test false = omega (arith, h)

pub AreUpTo-ready : (b : Low) (s : ℕ) (ps : List Piece) → AreUpTo s ps → AreUpTo (s + 1) (ready_at b (s + 1) ps)
AreUpTo-ready b s ps h = AreUpTo-map (make_ready b (s + 1)) s (s + 1) low ps h
  where
    low : (p : Piece) → p.serial ≤ s → (make_ready b (s + 1) p).serial ≤ s + 1
    low p h = by_test (is_exactly b p)
      where
        by_test : (t : Bool) → (cond t (record { bucket = p.bucket; serial = s + 1; ready = true }) p).serial ≤ s + 1
        by_test true = omega arith
        by_test false = omega (arith, h)

pub AreUpTo-filter : (test : Piece → Bool) (s : ℕ) (ps : List Piece) → AreUpTo s ps → AreUpTo s (filter test ps)
AreUpTo-filter test s [] h = tt
AreUpTo-filter test s (p ∷ ps) h = by_test (test p) (AreUpTo-filter test s ps h.1)
  where
    by_test : (t : Bool) → AreUpTo s (filter test ps) → AreUpTo s (cond t (p ∷ filter test ps) (filter test ps))
    by_test true ih = (h.0, ih)
    by_test false ih = ih

AreUpTo-append : (s : ℕ) (xs ys : List Piece) → AreUpTo s xs → AreUpTo s ys → AreUpTo s (xs ++ ys)
AreUpTo-append s [] ys h k = k
AreUpTo-append s (x ∷ xs) ys h k = (h.0, AreUpTo-append s xs ys h.1 k)

AreUpTo-parts : (k : ℕ) (from to : Low) (s : ℕ) (r : Bool) → AreUpTo s (parts k from to s r)
AreUpTo-parts zero from to s r = ((omega arith), tt)
AreUpTo-parts (suc k) from to s r = by_test (covers (first_child from) to) (AreUpTo-parts k (first_child from) to s r) (AreUpTo-parts k (second_child from) to s r)
  where
    by_test : (t : Bool) → AreUpTo s (parts k (first_child from) to s r) → AreUpTo s (parts k (second_child from) to s r) → AreUpTo s (cond t (parts k (first_child from) to s r ++ record { bucket = second_child from; serial = s; ready = r } ∷ []) (record { bucket = first_child from; serial = s; ready = r } ∷ parts k (second_child from) to s r))
    by_test true a b = AreUpTo-append s (parts k (first_child from) to s r) (record { bucket = second_child from; serial = s; ready = r } ∷ []) a ((omega arith), tt)
    by_test false a b = ((omega arith), b)

pub AreUpTo-split : (b : Low) (s : ℕ) (ps : List Piece) → AreUpTo s ps → AreUpTo (s + 1) (split_at b (s + 1) ps)
AreUpTo-split b s [] h = tt
AreUpTo-split b s (p ∷ ps) h = by_test (covers p.bucket b) (AreUpTo-split b s ps h.1)
  where
    by_test : (t : Bool) → AreUpTo (s + 1) (split_at b (s + 1) ps) → AreUpTo (s + 1) (cond t (parts (b.bits - p.bucket.bits) p.bucket b (s + 1) p.ready ++ ps) (p ∷ split_at b (s + 1) ps))
    by_test true ih = AreUpTo-append (s + 1) (parts (b.bits - p.bucket.bits) p.bucket b (s + 1) p.ready) ps (AreUpTo-parts (b.bits - p.bucket.bits) p.bucket b (s + 1) p.ready) (AreUpTo-more s (s + 1) (omega arith) ps h.1)
    by_test false ih = ((let l = h.0 in omega (arith, l)), ih)

pub AreUpTo-join : (b : Low) (s : ℕ) (ps : List Piece) → AreUpTo s ps → AreUpTo (s + 1) (join_at b (s + 1) ps)
AreUpTo-join b s [] h = tt
AreUpTo-join b s (p ∷ ps) h = by_test (covers b p.bucket) (AreUpTo-join b s ps h.1)
  where
    by_test : (t : Bool) → AreUpTo (s + 1) (join_at b (s + 1) ps) → AreUpTo (s + 1) (cond t (record { bucket = b; serial = s + 1; ready = p.ready || list_any (λ q. covers b q.bucket && q.ready) ps } ∷ filter (λ q. not (covers b q.bucket)) ps) (p ∷ join_at b (s + 1) ps))
    by_test true ih = ((omega arith), AreUpTo-filter (λ q. not (covers b q.bucket)) (s + 1) ps (AreUpTo-more s (s + 1) (omega arith) ps h.1))
    by_test false ih = ((let l = h.0 in omega (arith, l)), ih)

pub AreUpTo-insert : (s t : ℕ) (q : Piece) → s ≤ t → q.serial ≤ t → (ps : List Piece) → AreUpTo s ps → AreUpTo t (with_piece q ps)
AreUpTo-insert s t q le low [] h = (low, tt)
AreUpTo-insert s t q le low (p ∷ ps) h = by_test (nat_lt (first_path q.bucket) (first_path p.bucket)) (AreUpTo-insert s t q le low ps h.1)
  where
    by_test : (x : Bool) → AreUpTo t (with_piece q ps) → AreUpTo t (cond x (q ∷ p ∷ ps) (p ∷ with_piece q ps))
    by_test true ih = (low, AreUpTo-more s t le (p ∷ ps) h)
    by_test false ih = ((let l = h.0 in omega (arith, l, le)), ih)
