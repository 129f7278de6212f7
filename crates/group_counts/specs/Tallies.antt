-- How the code keeps groups: of each value that some document had a tally.
use Rattle.std.specs.Prelude.{◌≡◌, ◌≤◌, ◌+◌, ◌*◌, ◌+ℤ◌, ◌++◌, ℕ, nat_lt, ℤ, pos, Bool, List, [], ◌∷◌, map, filter, length, Option, None, Some, option_map, IfSome, IsSome, if◌then◌else◌}
use Rattle.std.specs.Int.Signed.{◌≤ℤ◌}
use Rattle.std.specs.List.{AllByRecursion}
use Rattle.std.specs.Int.{int_min, int_max}
use Rattle.std.specs.declared.cmp.Ordering.{Ordering}
use Rattle.doc_types.specs.declared.values.FieldValue.{FieldValue}
use Rattle.doc_types.specs.declared.outputs.OutputKind.{OutputKind}
use Rattle.doc_types.specs.declared.outputs.OutputKind.TheVariants as output
use Rattle.documents.specs.Fields.{Contents}
use Rattle.query_groups.specs.declared.answers.Group.{Group}
use Rattle.query_groups.specs.declared.answers.Output.{Output}
use Rattle.group_counts.specs.Numbers.{either}
use Rattle.group_counts.specs.Keyed.{number_in, output_over, with_key}

-- how many documents a group has so far, and what its outputs are so far
pub record Told : Type 0 where
  pub count : ℕ
  pub values : List (Option ℤ)

-- what is told of some documents
abbrev pub told_of : List OutputKind → List Contents → Told
told_of kinds docs = record { count = length docs; values = map (output_over docs) kinds }

-- of none there is no tally
abbrev pub tally_of : List OutputKind → List Contents → Option Told
tally_of kinds [] = None
tally_of kinds (d ∷ docs) = Some (told_of kinds (d ∷ docs))

-- at most so many times the least number of 64 bits, with either sign
abbrev pub IsSmall : ℕ → Option ℤ → Type 0
IsSmall n None = Unit {0}
IsSmall n (Some v) = (pos 0 ≤ℤ (v +ℤ pos (n * 9223372036854775808))) × (v ≤ℤ pos (n * 9223372036854775808))

-- a number of 64 bits with its sign
abbrev pub IsWide : ℤ → Type 0
IsWide z = (pos 0 ≤ℤ (z +ℤ pos 9223372036854775808)) × (z ≤ℤ pos 9223372036854775807)

abbrev pub AreSmall : ℕ → List (Option ℤ) → Type 0
AreSmall n vs = AllByRecursion (IsSmall n) vs

-- ---- a document more

abbrev pub plus : Option ℤ → ℤ → Option ℤ
plus v z = option_map (λ s. s +ℤ z) v

-- a number more, where there is one
abbrev pub with_number : (Option ℤ → ℤ → Option ℤ) → Option ℤ → Option ℤ → Option ℤ
with_number step v None = v
with_number step v (Some z) = step v z

abbrev pub next_value : OutputKind → Option ℤ → Contents → Option ℤ
next_value output.Count v d = plus v (pos 1)
next_value (output.Sum field) v d = with_number plus v (number_in field d)
next_value (output.Min field) v d = with_number (either int_min) v (number_in field d)
next_value (output.Max field) v d = with_number (either int_max) v (number_in field d)

abbrev pub next_values : List OutputKind → Contents → List (Option ℤ) → List (Option ℤ)
next_values [] d vs = vs
next_values (k ∷ ks) d [] = []
next_values (k ∷ ks) d (v ∷ vs) = next_value k v d ∷ next_values ks d vs

abbrev pub told_with : List OutputKind → Contents → Told → Told
told_with kinds d t = record { count = t.count + 1; values = next_values kinds d t.values }

-- the tally of a document's value with it
abbrev pub tally_with : List OutputKind → Contents → Option Told → Told
tally_with kinds d None = told_with kinds d (told_of kinds [])
tally_with kinds d (Some t) = told_with kinds d t

-- ---- all tallies

-- the tallies are those of some documents
abbrev pub AreTallies : {K : Type 0} → (K → K → Ordering) → List OutputKind → (Contents → Option K) → List Contents → (K → Option Told) → Type 0
AreTallies {K} R kinds key docs tallies = (k : K) → tallies k ≡ tally_of kinds (with_key R key k docs)

-- no tally counts more documents, and one of none is as at first
abbrev pub IsKept : List OutputKind → ℕ → Told → Type 0
IsKept kinds n t = (t.count ≤ n) × (t.count ≡ 0 → t ≡ told_of kinds [])

abbrev pub AreKept : {K : Type 0} → List OutputKind → ℕ → (K → Option Told) → Type 0
AreKept {K} kinds n tallies = (k : K) → IfSome (tallies k) (IsKept kinds n)

-- ---- places: a tally of no document keeps the place of a key, and counts for nothing

abbrev pub is_counted : Told → Bool
is_counted t = nat_lt 0 t.count

abbrev pub counted : Option Told → Option Told
counted None = None
counted (Some t) = if is_counted t then Some t else None

abbrev pub counted_of : {K : Type 0} → List (K × Told) → List (K × Told)
counted_of es = filter (λ e. is_counted e.1) es

-- the key, if there is one, has a place
abbrev pub HasPlace : {K : Type 0} → Option K → (K → Option Told) → Type 0
HasPlace key tallies = IfSome key (λ k. IsSome (tallies k))

-- the keys of some documents have places
abbrev pub ArePlaced : {K : Type 0} → (Contents → Option K) → List Contents → (K → Option Told) → Type 0
ArePlaced key docs tallies = AllByRecursion (λ d. HasPlace (key d) tallies) docs

-- there may be more places, and no tally that counts has changed
pub record ArePlacesMore {K Q : Type 0} (kinds : List OutputKind) (es fs : List (K × Told)) (old new : Q → Option Told) : Type 0 where
  pub counted : counted_of fs ≡ counted_of es
  pub kept : (n : ℕ) → AreKept kinds n old → AreKept kinds n new
  pub stay : (q : Q) → IsSome (old q) → IsSome (new q)

-- tallies with some documents more, which are at most so many
pub record AreTaken {K : Type 0} (R : K → K → Ordering) (kinds : List OutputKind) (key : Contents → Option K) (more : List Contents) (n : ℕ) (old new : K → Option Told) : Type 0 where
  pub tallies : (docs : List Contents) → AreTallies R kinds key docs (λ k. counted (old k)) → AreTallies R kinds key (docs ++ more) (λ k. counted (new k))
  pub kept : (m : ℕ) → AreKept kinds m old → AreKept kinds (m + n) new
  pub stay : (k : K) → IsSome (old k) → IsSome (new k)

-- ---- a group of a tally

abbrev pub told_outputs : List OutputKind → List (Option ℤ) → List Output
told_outputs [] vs = []
told_outputs (k ∷ ks) [] = []
told_outputs (k ∷ ks) (v ∷ vs) = record { kind = k; value = v } ∷ told_outputs ks vs

abbrev pub told_group : List OutputKind → FieldValue → Told → Group
told_group kinds v t = record { value = v; count = t.count; outputs = told_outputs kinds t.values }
