-- How many items and members there are.
use Rattle.std.proofs.Common.{◌≡◌, suc, List, [], ◌∷◌, length, refl, ap}
use Rattle.serde_json.specs.Events.{items_len, members_len}
use Rattle.line_values.specs.View.{items_view, members_view}
use Rattle.line_values.specs.declared.line_value.LineValue.{LineValue}
use Rattle.line_values.proofs.Members.{Entry}

pub items_len-items_view : (vs : List LineValue) → items_len (items_view vs) ≡ length vs
items_len-items_view [] = refl
items_len-items_view (v ∷ vs) = ap suc (items_len-items_view vs)

pub members_len-members_view : (es : List Entry) → members_len (members_view es) ≡ length es
members_len-members_view [] = refl
members_len-members_view (e ∷ es) = ap suc (members_len-members_view es)
