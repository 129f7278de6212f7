-- The targets of a row, by the ideal order of its bucket.
use Rattle.std.specs.Prelude.{◌==◌, ◌||◌, ℕ, Bool, false, List, take, filter, Option, None, Some}
use Rattle.std.specs.List.{list_any}

abbrev pub is_member : List ℕ → ℕ → Bool
is_member ns n = list_any (λ m. m == n) ns

abbrev pub is_active : Option ℕ → ℕ → Bool
is_active None n = false
is_active (Some m) n = m == n

-- one of the first nodes, as many as there are to be copies, or the active node
abbrev pub is_target_in : ℕ → List ℕ → Option ℕ → ℕ → Bool
is_target_in redundancy ideal active n = is_member (take redundancy ideal) n || is_active active n

-- the first targets in ideal order, which are to be ready
abbrev pub first_targets : ℕ → ℕ → List ℕ → Option ℕ → List ℕ
first_targets searchable redundancy ideal active = take searchable (filter (is_target_in redundancy ideal active) ideal)
