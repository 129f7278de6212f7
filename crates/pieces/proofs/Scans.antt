-- What is found where all pieces are looked at.
use Rattle.std.proofs.Common.{◌≡◌, ◌||◌, ℕ, suc, ◌<◌, ◌≤◌, Bool, false, List, [], ◌∷◌, Option, None, Some, IfSome, IfNone, refl, sym, ap₂, arith, get_or, length}
use Rattle.std.specs.List.{list_any, position, position_or_len}
use Rattle.std.proofs.lemmas.Grind.{common_steps}
use Rattle.std.proofs.lemmas.List.Quantifiers.{position-Some}
use Rattle.std.proofs.lemmas.List.Sums.{fails_before_first}
use Rattle.bucket_ids.specs.Buckets.{Low}
use Rattle.pieces.specs.declared.piece.Piece.{Piece}
use Rattle.pieces.specs.Pieces.{is_over}
use Rattle.pieces.specs.Places.{IsFirstOver}
use Rattle.pieces.proofs.Finding.{none_take}

all_fail : (test : Piece → Bool) (ps : List Piece) → ((k : ℕ) (d : Piece) → k < length ps → test (get_or ps k d) ≡ false) → list_any test ps ≡ false
all_fail test [] h = refl
all_fail test (p ∷ ps) h = ap₂ (λ x y. x || y) (h 0 p (omega arith)) (all_fail test ps (λ k d l. h (suc k) d (omega (arith, l))))

none_at : (test : Piece → Bool) (ps : List Piece) → position test ps ≡ None → list_any test ps ≡ false
none_at test ps e =
    let far : length ps ≤ position_or_len test ps = grind (arith, common_steps) in
    all_fail test ps (λ k d l. fails_before_first test ps k d (omega (arith, far, l)))

first_at : (b : Low) (ps : List Piece) (at : ℕ) → position (is_over b) ps ≡ Some at → IsFirstOver b ps at
first_at b ps at e =
    let d : Piece = record { bucket = b; serial = 0; ready = false } in
    record {
      within = (position-Some (is_over b) ps at d e).0;
      over = λ x. (position-Some (is_over b) ps at x e).1;
      first = none_take (is_over b) ps at (λ k x l m. (position-Some (is_over b) ps at x e).2 k l);
    }

pub found_over : (b : Low) (ps : List Piece) (r : Option ℕ) → r ≡ position (is_over b) ps → IfSome r (IsFirstOver b ps)
found_over b ps (Some at) e = first_at b ps at (sym e)
found_over b ps None e = tt

pub missed_over : (b : Low) (ps : List Piece) (r : Option ℕ) → r ≡ position (is_over b) ps → IfNone r (list_any (is_over b) ps ≡ false)
missed_over b ps (Some at) e = tt
missed_over b ps None e = none_at (is_over b) ps (sym e)
