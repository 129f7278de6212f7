-- Where a name stands in a list in order; definitions of proofs.
use Rattle.std.specs.Prelude.{ℕ, suc, List, [], ◌∷◌, if◌then◌else◌}
use Rattle.std.specs.Ordering.{is_gt}
use Rattle.doc_types.specs.SchemaCodes.{name_cmp}

-- how many keys at the front are lesser
abbrev pub place : {V : Type 0} → List ℕ → List (List ℕ × V) → ℕ
place name [] = 0
place name (e ∷ es) = if is_gt (name_cmp name e.0) then suc (place name es) else 0
