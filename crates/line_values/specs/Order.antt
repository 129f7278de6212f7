-- The order of an object's keys.
use Rattle.std.specs.Prelude.{◌≡◌, ℕ, List, Bool, true, false, Some}
use Rattle.std.specs.Cmp.Lexicographic.{slice_cmp}
use Rattle.std.specs.Ordering.{nat_cmp, match_ordering}
use Rattle.serde_json.specs.Data.{Data, null, boolean, number, string, array, object, Members, no_members, member}
use Rattle.serde_json.specs.Find.{get}

-- each key stands before those behind it, and each is there once
abbrev pub are_rising : Members → Bool
are_rising no_members = true
are_rising (member key d no_members) = true
are_rising (member key d (member next e ms)) = match_ordering (slice_cmp nat_cmp key next) (are_rising (member next e ms)) false false

-- if a value is an object, its keys rise
abbrev pub keys_rise : Data → Bool
keys_rise null = true
keys_rise (boolean b) = true
keys_rise (number n) = true
keys_rise (string s) = true
keys_rise (array ds) = true
keys_rise (object ms) = are_rising ms

-- so do the keys of what stands in a value under a key
abbrev pub HasRising : Data → Type 0
HasRising d = (key : List ℕ) (e : Data) → get key d ≡ Some e → keys_rise e ≡ true
