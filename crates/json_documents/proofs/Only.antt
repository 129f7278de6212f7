-- The one member of a list of one.
use Rattle.std.proofs.Common.{◌≡◌, ◌≢◌, List, [], ◌∷◌, length, get_or, None, Some, refl, arith}
use Rattle.line_values.specs.View.{view, members_view}
use Rattle.line_values.proofs.Members.{Entry}
use Rattle.json_documents.specs.Words.{only}

pub only_none : (xs : List Entry) → length xs ≢ 1 → only (members_view xs) ≡ None
only_none [] h = refl
only_none (x ∷ []) h = absurd (h refl)
only_none (x ∷ y ∷ xs) h = refl

pub only_one : (xs : List Entry) (d : Entry) → length xs ≡ 1 → only (members_view xs) ≡ Some ((get_or xs 0 d).0.now, view (get_or xs 0 d).1)
only_one [] d e = absurd (omega arith)
only_one (x ∷ []) d e = refl
only_one (x ∷ y ∷ xs) d e = absurd (omega arith)
