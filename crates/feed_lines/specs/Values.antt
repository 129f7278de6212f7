-- What values of lines say: numbers of nodes, sets of them, lanes and fates.
use Rattle.std.specs.Prelude.{◌==◌, ◌≤◌, ℕ, zero, suc, ◌^◌, ℤ, pos, negsuc, List, [], ◌∷◌, codes, Option, Some, None, option_map, option_and_then, nat_lt, nat_le, if◌then◌else◌}
use Rattle.std.specs.Int.Bits.{bit_or}
use Rattle.std.specs.Str.{bytes_eq}
use Rattle.serde_json.specs.Data.{Data, Items}
use Rattle.serde_json.specs.Events.{items_len, members_len}
use Rattle.serde_json.specs.Find.{get, as_array, as_object, as_str}
use Rattle.json_documents.specs.Schemas.{members_in}
use Rattle.json_documents.specs.Json.{whole, each}
use Rattle.carriers.specs.declared.fate.Fate.{Fate}
use Rattle.carriers.specs.declared.fate.Fate.TheVariants as fate

-- a whole number from 0 on, below an end
abbrev pub below : ℕ → Option ℤ → Option ℕ
below end None = None
below end (Some (pos n)) = if nat_lt n end then Some n else None
below end (Some (negsuc n)) = None

abbrev pub number_below : ℕ → Data → Option ℕ
number_below end d = below end (whole d)

-- the number of a node or a distributor
abbrev pub node_of : Data → Option ℕ
node_of d = number_below 32 d

-- 2^bits is the number of lanes; a lane's own number has 8 bits
abbrev pub lane_end : ℕ → ℕ
lane_end bits = if nat_lt bits 8 then 2 ^ bits else 256

abbrev pub lane_of : ℕ → Data → Option ℕ
lane_of bits d = number_below (lane_end bits) d

-- a set with one number more
abbrev pub set_with : ℕ → ℕ → ℕ
set_with set node = bit_or set (2 ^ node)

abbrev pub set_onto : ℕ → List ℕ → ℕ
set_onto set [] = set
set_onto set (node ∷ nodes) = set_onto (set_with set node) nodes

-- the set of the numbers of a list
abbrev pub set_of : List ℕ → ℕ
set_of nodes = set_onto 0 nodes

-- the numbers of a list of nodes or distributors
abbrev pub nodes_of : Data → Option (List ℕ)
nodes_of d = option_and_then (each node_of) (as_array d)

-- the set that a list says, which may be left out
abbrev pub set_said : Option Data → Option ℕ
set_said None = Some (set_of [])
set_said (Some d) = option_map set_of (nodes_of d)

-- the most fates of a line, and the most messages after which a late one is delivered
abbrev pub most_fates : ℕ
most_fates = 1000

-- a message is late by 1 to 1,000 messages
abbrev pub IsFate : Fate → Type 0
IsFate fate.Deliver = Unit {0}
IsFate fate.LoseRequest = Unit {0}
IsFate fate.LoseReply = Unit {0}
IsFate fate.Twice = Unit {0}
IsFate (fate.Late k) = (1 ≤ k) × (k ≤ most_fates)

-- the fate of a message that is late by so many others; by none it is no fate
abbrev pub late_by : Option ℕ → Option Fate
late_by None = None
late_by (Some zero) = None
late_by (Some (suc k)) = Some (fate.Late (suc k))

-- an object whose one member says by how many messages
abbrev pub late_of : Data → Option Fate
late_of d = if members_len (members_in (as_object d)) == 1 then late_by (option_and_then (number_below (suc most_fates)) (get (codes "late") d)) else None

unfoldable pub fate_named : List ℕ → Option Fate
fate_named word = if bytes_eq word (codes "deliver") then Some fate.Deliver else (if bytes_eq word (codes "lose_request") then Some fate.LoseRequest
    else (if bytes_eq word (codes "lose_reply") then Some fate.LoseReply else (if bytes_eq word (codes "twice") then Some fate.Twice else None)))

abbrev pub fate_by : Option (List ℕ) → Data → Option Fate
fate_by (Some word) d = fate_named word
fate_by None d = late_of d

-- the fate that a value says
abbrev pub fate_of : Data → Option Fate
fate_of d = fate_by (as_str d) d

-- a list of at most 1,000 fates
abbrev pub few_fates : Items → Option (List Fate)
few_fates ds = if nat_le (items_len ds) most_fates then each fate_of ds else None

abbrev pub fates_of : Data → Option (List Fate)
fates_of d = option_and_then few_fates (as_array d)
