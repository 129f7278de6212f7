-- What a view is after nodes were told as they stand.
use Rattle.std.specs.Prelude.{ℕ, zero, suc, nat_lt, Bool, List, [], ◌∷◌, if◌then◌else◌}
use Rattle.std.specs.FinMap as fin
use Rattle.bucket_ids.specs.Buckets.{Low}
use Rattle.doc_types.specs.SchemaCodes.{Types}
use Rattle.entry_maps.specs.EntryCodes.{Entries}
use Rattle.entry_maps.specs.Entries.{in_bucket}
use Rattle.view_changes.specs.Views.{View, changed}
use Rattle.view_changes.specs.Opening.{opening}
use Rattle.view_changes.specs.Shown.{Keeping}
use Rattle.view_changes.specs.declared.change.LaneChange.TheVariants.{Adopt, Activate, Stop}

-- a node's version, if it took one
abbrev pub with_version : ℕ → ℕ → View → View
with_version n w v = if nat_lt 0 w then changed v (Adopt n w) else v

-- its regions with their entries; the first, which is the newest, comes last
abbrev pub with_regions : ℕ → Entries → List Low → View → View
with_regions n m [] v = v
with_regions n m (b ∷ bs) v = changed (with_regions n m bs v) (Activate n b (fin.retain_keys m (in_bucket b)))

-- what it keeps
abbrev pub with_kept : ℕ → Keeping → View → View
with_kept n k v = with_regions n k.entries k.regions (with_version n k.version v)

-- that it is stopped, if it is
abbrev pub with_stop : ℕ → Bool → View → View
with_stop n is_stopped v = if is_stopped then changed v (Stop n) else v

-- what the nodes below a number keep, and which of them are stopped
abbrev pub with_nodes : Types → (ℕ → Keeping) → (ℕ → Bool) → ℕ → View
with_nodes types kept stopped zero = opening types
with_nodes types kept stopped (suc n) = with_stop n (stopped n) (with_kept n (kept n) (with_nodes types kept stopped n))
