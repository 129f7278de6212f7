-- Buckets, keys and ids as the journal speaks of them: the landed words, shut, so that laws go by their laws.
use Rattle.std.specs.Prelude.{◌==◌, ℕ, Bool, true, false, nat_le, List, if◌then◌else◌}
use Rattle.std.specs.Str.{bytes_eq}
use Rattle.bucket_ids.specs.Buckets.{Low, has_key}
use Rattle.bucket_ids.specs.Buckets as ids
use Rattle.global_ids.specs.Keys as keys

abbrev pub Bucket : Type 0
Bucket = Low

-- the key lies in the bucket
unfoldable pub contains : Bucket → ℕ → Bool
contains b key = has_key b key

unfoldable pub same_bucket : Bucket → Bucket → Bool
same_bucket a b = if a.bits == b.bits then a.low == b.low else false

-- each key of the second lies in the first
unfoldable pub covers : Bucket → Bucket → Bool
covers a b = if nat_le a.bits b.bits then contains a b.low else false

-- some key lies in both
unfoldable pub meets : Bucket → Bucket → Bool
meets a b = if covers a b then true else covers b a

unfoldable pub first_child : Bucket → Bucket
first_child b = ids.first_child b

unfoldable pub second_child : Bucket → Bucket
second_child b = ids.second_child b

-- the least key of the other child of the parent
unfoldable pub across : Bucket → ℕ → ℕ
across p key = if contains (first_child p) key then (second_child p).low else p.low

-- the bytes of a document's id
abbrev pub Id : Type 0
Id = List ℕ

unfoldable pub same_id : Id → Id → Bool
same_id a b = bytes_eq a b

-- the key of a document; several documents may have one key
unfoldable pub key_of : Id → ℕ
key_of id = keys.key_of id
