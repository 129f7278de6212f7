-- The data that a value of a line stands for.
use Rattle.std.specs.Prelude.{ℕ, List, [], ◌∷◌, map}
use Rattle.std.specs.Borrow.{Bor}
use Rattle.serde_json.specs.Data.{Data, null, boolean, number, string, array, object, Items, Members, no_members, member}
use Rattle.serde_json.specs.View.{number_view, items_of}
use Rattle.line_values.specs.declared.line_value.LineValue.{LineValue, fold-LineValue}
use Rattle.line_values.specs.declared.line_value.LineValue.TheOpen.{LineValue-F}

abbrev pub members_of : List (Bor (List ℕ) × Data) → Members
members_of [] = no_members
members_of (m ∷ ms) = member m.0.now m.1 (members_of ms)

-- one level, with each value inside already seen as its data
abbrev pub view_step : LineValue-F Data → Data
view_step LineValue-F.Null = null
view_step (LineValue-F.Bool b) = boolean b
view_step (LineValue-F.Number x) = number (number_view x)
view_step (LineValue-F.Text s) = string s.now
view_step (LineValue-F.Array v) = array (items_of v.items)
view_step (LineValue-F.Object m) = object (members_of m.items)

abbrev pub view : LineValue → Data
view = fold-LineValue Data view_step

abbrev pub items_view : List LineValue → Items
items_view vs = items_of (map view vs)

abbrev pub members_view : List (Bor (List ℕ) × LineValue) → Members
members_view ms = members_of (map (λ m. (m.0, view m.1)) ms)
