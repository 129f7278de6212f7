-- What the reading of a text literal's body gives.
use Rattle.std.specs.Prelude.{◌≡◌, ◌==◌, ℕ, ◌+◌, ◌-◌, ◌≤◌, List, length, drop, slice_index_or, Option, Some, None, Vec, if◌then◌else◌}
use Rattle.doc_types.specs.Tokens.{body_at, is_escaped}

-- the content, and how many bytes it takes with its closing quote
abbrev pub BodyIs : {Y : Type 0} → ℕ → List ℕ → Option (Vec ℕ Y × ℕ) → Type 0
BodyIs quote bytes None = body_at quote bytes ≡ None
BodyIs quote bytes (Some p) = ((1 ≤ p.1) × ((p.1 ≤ length bytes) × (slice_index_or bytes (p.1 - 1) 0 ≡ quote))) × (body_at quote bytes ≡ Some (p.0.items, drop p.1 bytes))

-- where the byte stands that is meant at a place
abbrev pub content_at : List ℕ → ℕ → Option ℕ
content_at bytes at = if slice_index_or bytes at 0 == 92
    then (if at + 1 == length bytes then None else (if is_escaped (slice_index_or bytes (at + 1) 0) then Some (at + 1) else None))
    else Some at
