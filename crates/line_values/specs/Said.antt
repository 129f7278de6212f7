-- What tokens say, as data, with the tokens that are left.
use Rattle.std.specs.Prelude.{ℕ, zero, suc, List, length, Option, None}
use Rattle.json.specs.Token.{Token}
use Rattle.json.specs.Json.{items, members, value}
use Rattle.serde_json.specs.Data.{Data, Items, Members, no_members}
use Rattle.serde_json.specs.Read.{of_json, of_items, of_members, converted}

-- a value in which at most so many arrays and objects nest
abbrev pub value_said : ℕ → List Token → Option (Data × List Token)
value_said depth ts = converted of_json (value depth ts)

-- the items of an array that was begun, at most so many
abbrev pub items_said : ℕ → ℕ → List Token → Option (Items × List Token)
items_said depth most ts = converted of_items (items (value depth) most ts)

-- the members of an object that was begun, at most so many, put to those that were found
abbrev pub members_said : ℕ → ℕ → Members → List Token → Option (Members × List Token)
members_said depth most found ts = converted (λ ms. of_members ms found) (members (value depth) most ts)

-- an array and an object that was begun, where so many may nest with it
unfoldable pub array_said : ℕ → List Token → Option (Items × List Token)
array_said zero ts = None
array_said (suc depth) ts = items_said depth (length ts) ts

unfoldable pub object_said : ℕ → List Token → Option (Members × List Token)
object_said zero ts = None
object_said (suc depth) ts = members_said depth (length ts) no_members ts
