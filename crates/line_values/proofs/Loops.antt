-- A loop over items or members: what is said of all tokens is what was found, and then what is said of those left.
use Rattle.std.proofs.Common.{◌≡◌, ℕ, ◌-◌, ◌<◌, ◌≤◌, List, [], ◌∷◌, ◌++◌, length, Option, Some, None, refl, ap, ◌∙◌, arith}
use Rattle.json.specs.Token.{Token}
use Rattle.json.specs.Json.{parse_map, after_end_array, read_key}
use Rattle.json.proofs.Grammar.{read_key-shorter}
use Rattle.serde_json.specs.Data.{Data, Items, no_items, item, Members, no_members, put}
use Rattle.line_values.specs.Said.{value_said, items_said, members_said}
use Rattle.line_values.specs.View.{view, items_view}
use Rattle.line_values.specs.declared.line_value.LineValue.{LineValue}
use Rattle.line_values.proofs.Steps.{Found, items_by, items_said-turn, members_by, members_said-turn, value_said-shorter}

-- items behind those of a list
abbrev pub behind_items : List LineValue → Items → Items
behind_items [] rest = rest
behind_items (v ∷ vs) rest = item (view v) (behind_items vs rest)

behind_all : (vs : List LineValue) → behind_items vs no_items ≡ items_view vs
behind_all [] = refl
behind_all (v ∷ vs) = ap (item (view v)) (behind_all vs)

behind_one_more : (vs : List LineValue) (v : LineValue) (rest : Items) → behind_items vs (item (view v) rest) ≡ behind_items (vs ++ v ∷ []) rest
behind_one_more [] v rest = refl
behind_one_more (w ∷ vs) v rest = ap (item (view w)) (behind_one_more vs v rest)

one_more : (vs : List LineValue) (v : LineValue) (o : Found Items) → parse_map (behind_items vs) (parse_map (item (view v)) o) ≡ parse_map (behind_items (vs ++ v ∷ [])) o
one_more vs v None = refl
one_more vs v (Some p) = ap (λ ds. Some (ds, p.1)) (behind_one_more vs v p.0)

-- of the items from a place on these were found, and the tokens now are left
pub record AreItems (depth : ℕ) (from now : List Token) (found : List LineValue) : Type 0 where
  pub most : ℕ
  pub enough : length now ≤ most
  pub same : items_said depth (length from) from ≡ parse_map (behind_items found) (items_said depth most now)

module _ (depth : ℕ) (from : List Token) where
  module _ (now : List Token) (found : List LineValue) (so : AreItems depth from now found) where
    turned : (end : Option (List Token)) → after_end_array now ≡ end → items_said depth (length from) from ≡ parse_map (behind_items found) (items_by depth (so.most - 1) now end)
    turned end e = so.same ∙ ap (parse_map (behind_items found)) (items_said-turn depth so.most now so.enough ∙ ap (items_by depth (so.most - 1) now) e)

    pub one_item_more : (v : LineValue) (r : List Token) (grown : List LineValue) → grown ≡ found ++ v ∷ [] → after_end_array now ≡ None → value_said depth now ≡ Some (view v, r) → AreItems depth from r grown
    one_item_more v r grown e going said = record {
      most = so.most - 1;
      enough = omega (arith, so.enough, value_said-shorter depth now r (view v) said);
      same = rw e (turned None going ∙ rw said (one_more found v (items_said depth (so.most - 1) r)));
    }

    pub a_bad_item : after_end_array now ≡ None → value_said depth now ≡ None → items_said depth (length from) from ≡ None
    a_bad_item going said = turned None going ∙ rw said

    pub all_items : (r : List Token) → after_end_array now ≡ Some r → items_said depth (length from) from ≡ Some (items_view found, r)
    all_items r over = turned (Some r) over ∙ ap (λ ds. Some (ds, r)) (behind_all found)

-- of the members from a place on these were found, and the tokens now are left
pub record AreMembers (depth : ℕ) (from now : List Token) (found : Members) : Type 0 where
  pub most : ℕ
  pub enough : length now ≤ most
  pub same : members_said depth (length from) no_members from ≡ members_said depth most found now

module _ (depth : ℕ) (from : List Token) where
  module _ (now : List Token) (found : Members) (so : AreMembers depth from now found) where
    keyed : (next : Found (Option (List ℕ))) → read_key now ≡ next → members_said depth (length from) no_members from ≡ members_by depth (so.most - 1) found next
    keyed next e = so.same ∙ members_said-turn depth so.most found now so.enough ∙ ap (members_by depth (so.most - 1) found) e

    pub no_key : read_key now ≡ None → members_said depth (length from) no_members from ≡ None
    no_key e = keyed None e

    pub all_members : (r : List Token) → read_key now ≡ Some (None, r) → members_said depth (length from) no_members from ≡ Some (found, r)
    all_members r e = keyed (Some (None, r)) e

    module _ (key : List ℕ) (at_value : List Token) (named : read_key now ≡ Some (Some key, at_value)) where
      pub a_bad_member : value_said depth at_value ≡ None → members_said depth (length from) no_members from ≡ None
      a_bad_member said = keyed (Some (Some key, at_value)) named ∙ rw said

      pub member_shorter : (d : Data) (r : List Token) → value_said depth at_value ≡ Some (d, r) → length r < length now
      member_shorter d r said = omega (arith, value_said-shorter depth at_value r d said, read_key-shorter now (Some key) at_value named)

      pub one_member_more : (d : Data) (r : List Token) (grown : Members) → grown ≡ put key d found → value_said depth at_value ≡ Some (d, r) → AreMembers depth from r grown
      one_member_more d r grown e said = record {
        most = so.most - 1;
        enough = omega (arith, so.enough, member_shorter d r said);
        same = rw e (keyed (Some (Some key, at_value)) named ∙ rw said);
      }
