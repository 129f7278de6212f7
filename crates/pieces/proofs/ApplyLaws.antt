-- A bucket that becomes a piece, by the three cases.
use Rattle.std.proofs.Common.{◌≡◌, ℕ, ◌+◌, Bool, true, false, cond, List, refl, sym, ap, ap₂, arith}
use Rattle.std.specs.List.{list_any}
use Rattle.bucket_ids.specs.Buckets.{Low, IsBucket}
use Rattle.pieces.specs.declared.piece.Piece.{Piece}
use Rattle.pieces.specs.Pieces.{is_over, is_inside, split_at, join_at, apply_at, with_piece}
use Rattle.pieces.specs.Runs.{IsLaid, AreRuns}
use Rattle.pieces.specs.Holdings.{AreUpTo}
use Rattle.pieces.proofs.PieceLaws.{no_meeting}
use Rattle.pieces.proofs.Laid.{IsLaid-split, IsLaid-join, IsLaid-insert}
use Rattle.pieces.proofs.Serials.{AreUpTo-split, AreUpTo-join, AreUpTo-insert}

pub apply-over : (b : Low) (s : ℕ) (ps : List Piece) → list_any (is_over b) ps ≡ true → split_at b s ps ≡ apply_at b s ps
apply-over b s ps h = sym (ap (λ t. cond t (split_at b s ps) (cond (list_any (is_inside b) ps) (join_at b s ps) (with_piece (record { bucket = b; serial = s; ready = false }) ps))) h)

pub apply-inside : (b : Low) (s : ℕ) (ps : List Piece) → list_any (is_over b) ps ≡ false → list_any (is_inside b) ps ≡ true → join_at b s ps ≡ apply_at b s ps
apply-inside b s ps h g = sym (ap₂ (λ t u. cond t (split_at b s ps) (cond u (join_at b s ps) (with_piece (record { bucket = b; serial = s; ready = false }) ps))) h g)

pub IsLaid-apply : AreRuns → (b : Low) → IsBucket b → (s : ℕ) (ps : List Piece) → IsLaid 0 ps → IsLaid 0 (apply_at b s ps)
IsLaid-apply laws b vb s ps h = by_tests (list_any (is_over b) ps) (list_any (is_inside b) ps) refl refl
  where
    by_tests : (x y : Bool) → list_any (is_over b) ps ≡ x → list_any (is_inside b) ps ≡ y → IsLaid 0 (cond x (split_at b s ps) (cond y (join_at b s ps) (with_piece (record { bucket = b; serial = s; ready = false }) ps)))
    by_tests true y e f = IsLaid-split laws b vb s 0 ps h
    by_tests false true e f = IsLaid-join laws b vb s 0 (omega arith) ps h
    by_tests false false e f = IsLaid-insert laws (record { bucket = b; serial = s; ready = false }) vb 0 (omega arith) ps (no_meeting b ps e f) h

pub AreUpTo-apply : (b : Low) (s : ℕ) (ps : List Piece) → AreUpTo s ps → AreUpTo (s + 1) (apply_at b (s + 1) ps)
AreUpTo-apply b s ps h = by_tests (list_any (is_over b) ps) (list_any (is_inside b) ps)
  where
    by_tests : (x y : Bool) → AreUpTo (s + 1) (cond x (split_at b (s + 1) ps) (cond y (join_at b (s + 1) ps) (with_piece (record { bucket = b; serial = s + 1; ready = false }) ps)))
    by_tests true y = AreUpTo-split b s ps h
    by_tests false true = AreUpTo-join b s ps h
    by_tests false false = AreUpTo-insert s (s + 1) (record { bucket = b; serial = s + 1; ready = false }) (omega arith) (omega arith) ps h
