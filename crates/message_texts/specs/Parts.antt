-- Buckets, ids and numbers in JSON.
use Rattle.std.specs.Prelude.{ℕ, ◌/◌, ◌%◌, ◌^◌, ◌&&◌, Bool, List, nat_lt, nat_le, codes, Option, Some, None, option_and_then, Result, Ok, Err, if◌then◌else◌}
use Rattle.std.specs.Str.{bytes_eq}
use Rattle.std.specs.Str.Parse.{digits_value}
use Rattle.serde_json.specs.Data.{Data, number, unsigned}
use Rattle.serde_json.specs.Find.{get, as_number, as_str, as_u64}
use Rattle.bucket_ids.specs.Buckets.{Low}
use Rattle.bucket_ids.specs.Printed.{printed}
use Rattle.document_ids.specs.Grammar.{Parts}
use Rattle.document_ids.specs.Parts.{parts_of}
use Rattle.document_ids.specs.declared.fault.IdFault.{IdFault}

-- the bucket whose number these hexadecimal digits are
abbrev pub bucket_by : List ℕ → Low
bucket_by text = record { bits = digits_value 16 text / 2 ^ 58; low = digits_value 16 text % 2 ^ 58 }

-- the two numbers name a bucket, and the text is its text
abbrev pub is_printed : List ℕ → Low → Bool
is_printed text b = (nat_le 1 b.bits && (nat_le b.bits 58 && nat_lt b.low (2 ^ b.bits))) && bytes_eq text (printed b)

-- the bucket of a text
unfoldable pub bucket_in : List ℕ → Option Low
bucket_in text = if is_printed text (bucket_by text) then Some (bucket_by text) else None

-- a text that is read is an id
abbrev pub id_by : List ℕ → Result Parts IdFault → Option (List ℕ)
id_by text (Ok parts) = Some text
id_by text (Err fault) = None

-- the id of a text
abbrev pub id_in : List ℕ → Option (List ℕ)
id_in text = id_by text (parts_of text)

-- a number of 64 bits
abbrev pub num : ℕ → Data
num n = number (unsigned n)

-- a number that is small enough
abbrev pub below : ℕ → ℕ → Option ℕ
below limit n = if nat_lt n limit then Some n else None

-- the number below a limit, the text and the bucket under a key
abbrev pub number_at : ℕ → List ℕ → Data → Option ℕ
number_at limit key d = option_and_then (below limit) (option_and_then as_u64 (option_and_then as_number (get key d)))

abbrev pub text_at : List ℕ → Data → Option (List ℕ)
text_at key d = option_and_then as_str (get key d)

abbrev pub bucket_at : Data → Option Low
bucket_at d = option_and_then bucket_in (text_at (codes "bucket") d)
