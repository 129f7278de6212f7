-- What tokens say, one token or one turn at a time.
use Rattle.std.proofs.Common.{◌≡◌, ℕ, zero, suc, ◌-◌, ◌<◌, ◌≤◌, List, [], ◌∷◌, length, Bool, Option, Some, None, option_map, option_and_then, refl, ap, ◌∙◌, arith}
use Rattle.json.specs.Token.{Token}
use Rattle.json.specs.Json as json
use Rattle.json.specs.Json.{Parse, parse_map, after_end_array, read_key, value}
use Rattle.json.proofs.Grammar.{left, value_is, skip_value-shorter}
use Rattle.serde_json.specs.Data.{Data, null, boolean, number, string, array, object, Items, no_items, item, Members, no_members, put}
use Rattle.serde_json.specs.Read.{number_of, of_json, of_items, of_members, converted}
use Rattle.line_values.specs.Said.{value_said, items_said, members_said, array_said, object_said}

abbrev pub Found : Type 0 → Type 0
Found A = Option (A × List Token)

-- a map of what was found leaves the tokens that are left
within : {A B : Type 0} (f : A → B) (rest : List Token) (x : Option A) → option_map (λ b. (b, rest)) (option_map f x) ≡ parse_map f (option_map (λ a. (a, rest)) x)
within f rest None = refl
within f rest (Some a) = refl

-- ---- no token, and a value that is one

pub value_said-nothing : (depth : ℕ) → value_said depth [] ≡ None
value_said-nothing depth = rw (value_is depth []) refl

pub value_said-string : (depth : ℕ) (text : List ℕ) (ts : List Token) → value_said depth (Token.string text ∷ ts) ≡ Some (string text, ts)
value_said-string depth text ts = rw (value_is depth (Token.string text ∷ ts)) refl

pub value_said-number : (depth : ℕ) (text : List ℕ) (ts : List Token) → value_said depth (Token.number text ∷ ts) ≡ option_map (λ d. (d, ts)) (option_map number (number_of text))
value_said-number depth text ts = rw (value_is depth (Token.number text ∷ ts)) refl

pub value_said-boolean : (depth : ℕ) (b : Bool) (ts : List Token) → value_said depth (Token.boolean b ∷ ts) ≡ Some (boolean b, ts)
value_said-boolean depth b ts = rw (value_is depth (Token.boolean b ∷ ts)) refl

pub value_said-null : (depth : ℕ) (ts : List Token) → value_said depth (Token.null ∷ ts) ≡ Some (null, ts)
value_said-null depth ts = rw (value_is depth (Token.null ∷ ts)) refl

-- ---- a value that opens an array or an object

opened_array : (o : Found json.Items) → converted of_json (parse_map json.array o) ≡ parse_map array (converted of_items o)
opened_array None = refl
opened_array (Some p) = within array p.1 (of_items p.0)

opened_object : (o : Found json.Members) → converted of_json (parse_map json.object o) ≡ parse_map object (converted (λ ms. of_members ms no_members) o)
opened_object None = refl
opened_object (Some p) = within object p.1 (of_members p.0 no_members)

pub value_said-begin_array : (depth : ℕ) (ts : List Token) → value_said depth (Token.begin_array ∷ ts) ≡ parse_map array (array_said depth ts)
unfolding value array_said
value_said-begin_array zero ts = refl
value_said-begin_array (suc d) ts = opened_array (json.items (value d) (length ts) ts)

pub value_said-begin_object : (depth : ℕ) (ts : List Token) → value_said depth (Token.begin_object ∷ ts) ≡ parse_map object (object_said depth ts)
unfolding value object_said
value_said-begin_object zero ts = refl
value_said-begin_object (suc d) ts = opened_object (json.members (value d) (length ts) ts)

pub array_said-full : (depth : ℕ) (ts : List Token) → depth ≡ 0 → array_said depth ts ≡ None
unfolding array_said
array_said-full zero ts e = refl
array_said-full (suc d) ts e = absurd (omega arith)

pub object_said-full : (depth : ℕ) (ts : List Token) → depth ≡ 0 → object_said depth ts ≡ None
unfolding object_said
object_said-full zero ts e = refl
object_said-full (suc d) ts e = absurd (omega arith)

pub array_said-begun : (depth : ℕ) (ts : List Token) → (depth ≡ 0 → ⊥) → array_said depth ts ≡ items_said (depth - 1) (length ts) ts
unfolding array_said
array_said-begun zero ts some = absurd (some refl)
array_said-begun (suc d) ts some = let less : d ≡ suc d - 1 = omega arith in ap (λ n. items_said n (length ts) ts) less

pub object_said-begun : (depth : ℕ) (ts : List Token) → (depth ≡ 0 → ⊥) → object_said depth ts ≡ members_said (depth - 1) (length ts) no_members ts
unfolding object_said
object_said-begun zero ts some = absurd (some refl)
object_said-begun (suc d) ts some = let less : d ≡ suc d - 1 = omega arith in ap (λ n. members_said n (length ts) no_members ts) less

-- ---- one turn of the items

-- an item, and behind it what is said of the tokens that it leaves
abbrev pub with_item : (List Token → Found Items) → Found Data → Found Items
with_item behind found = option_and_then (λ p. parse_map (item p.0) (behind p.1)) found

one_item : (j : json.Json) (rest : List Token) (x : Option Data) (o : Found json.Items) → of_json j ≡ x
    → converted of_items (parse_map (json.item j) o) ≡ with_item (λ ts. converted of_items o) (option_map (λ d. (d, rest)) x)
one_item j rest None None e = refl
one_item j rest None (Some p) e = rw e
one_item j rest (Some d) None e = refl
one_item j rest (Some d) (Some p) e = rw e (within (item d) p.1 (of_items p.0))

-- what stands behind an item matters only where it ends
at_rest : (rest : List Token) (behind : List Token → Found Items) (x : Option Data)
    → with_item (λ ts. behind rest) (option_map (λ d. (d, rest)) x) ≡ with_item behind (option_map (λ d. (d, rest)) x)
at_rest rest behind None = refl
at_rest rest behind (Some d) = refl

item_converted : (behind : Parse json.Items) (found : Found json.Json)
    → converted of_items (option_and_then (λ q. parse_map (json.item q.0) (behind q.1)) found) ≡ with_item (λ ts. converted of_items (behind ts)) (converted of_json found)
item_converted behind None = refl
item_converted behind (Some p) = one_item p.0 p.1 (of_json p.0) (behind p.1) refl ∙ at_rest p.1 (λ ts. converted of_items (behind ts)) (of_json p.0)

-- what is said, by whether the array ends here
abbrev pub items_by : ℕ → ℕ → List Token → Option (List Token) → Found Items
items_by depth most ts (Some rest) = Some (no_items, rest)
items_by depth most ts None = with_item (items_said depth most) (value_said depth ts)

step_by : (depth most : ℕ) (ts : List Token) (end : Option (List Token)) → converted of_items (json.items_step (value depth) (json.items (value depth) most) ts end) ≡ items_by depth most ts end
step_by depth most ts (Some rest) = refl
step_by depth most ts None = item_converted (json.items (value depth) most) (value depth ts)

pub items_said-turn : (depth most : ℕ) (ts : List Token) → length ts ≤ most → items_said depth most ts ≡ items_by depth (most - 1) ts (after_end_array ts)
unfolding json.items
items_said-turn depth zero [] h = rw (value_is depth []) refl
items_said-turn depth zero (t ∷ ts) h = absurd (omega arith)
items_said-turn depth (suc most) ts h =
    let less : most ≡ suc most - 1 = omega arith in
    step_by depth most ts (after_end_array ts) ∙ ap (λ n. items_by depth n ts (after_end_array ts)) less

-- ---- one turn of the members

-- a member, put to those that were found, and behind it what is said of the tokens that it leaves
abbrev pub with_member : (Members → List Token → Found Members) → List ℕ → Members → Found Data → Found Members
with_member behind key old found = option_and_then (λ p. behind (put key p.0 old) p.1) found

one_member : (key : List ℕ) (old : Members) (j : json.Json) (rest : List Token) (x : Option Data) (o : Found json.Members) → of_json j ≡ x
    → converted (λ ms. of_members ms old) (parse_map (json.member key j) o) ≡ with_member (λ found ts. converted (λ ms. of_members ms found) o) key old (option_map (λ d. (d, rest)) x)
one_member key old j rest None None e = refl
one_member key old j rest None (Some p) e = rw e
one_member key old j rest (Some d) None e = refl
one_member key old j rest (Some d) (Some p) e = rw e

at_its_rest : (key : List ℕ) (old : Members) (rest : List Token) (behind : Members → List Token → Found Members) (x : Option Data)
    → with_member (λ found ts. behind found rest) key old (option_map (λ d. (d, rest)) x) ≡ with_member behind key old (option_map (λ d. (d, rest)) x)
at_its_rest key old rest behind None = refl
at_its_rest key old rest behind (Some d) = refl

member_converted : (key : List ℕ) (old : Members) (behind : Parse json.Members) (found : Found json.Json)
    → converted (λ ms. of_members ms old) (option_and_then (λ q. parse_map (json.member key q.0) (behind q.1)) found)
    ≡ with_member (λ found ts. converted (λ ms. of_members ms found) (behind ts)) key old (converted of_json found)
member_converted key old behind None = refl
member_converted key old behind (Some p) = one_member key old p.0 p.1 (of_json p.0) (behind p.1) refl ∙ at_its_rest key old p.1 (λ found ts. converted (λ ms. of_members ms found) (behind ts)) (of_json p.0)

-- what is said, by the key that stands here, or the end
abbrev pub members_by : ℕ → ℕ → Members → Found (Option (List ℕ)) → Found Members
members_by depth most old None = None
members_by depth most old (Some (None, rest)) = Some (old, rest)
members_by depth most old (Some (Some key, rest)) = with_member (members_said depth most) key old (value_said depth rest)

key_by : (depth most : ℕ) (old : Members) (next : Found (Option (List ℕ)))
    → converted (λ ms. of_members ms old) (option_and_then (λ p. json.members_step (value depth) (json.members (value depth) most) p.0 p.1) next) ≡ members_by depth most old next
key_by depth most old None = refl
key_by depth most old (Some (None, rest)) = refl
key_by depth most old (Some (Some key, rest)) = member_converted key old (json.members (value depth) most) (value depth rest)

pub members_said-turn : (depth most : ℕ) (old : Members) (ts : List Token) → length ts ≤ most → members_said depth most old ts ≡ members_by depth (most - 1) old (read_key ts)
unfolding json.members
members_said-turn depth zero old [] h = refl
members_said-turn depth zero old (t ∷ ts) h = absurd (omega arith)
members_said-turn depth (suc most) old ts h =
    let less : most ≡ suc most - 1 = omega arith in
    key_by depth most old (read_key ts) ∙ ap (λ n. members_by depth n old (read_key ts)) less

-- ---- a value takes a token at least

abbrev rest_or : {B : Type 0} → List Token → Found B → List Token
rest_or none None = none
rest_or none (Some p) = p.1

same_rest : {B : Type 0} (rest r : List Token) (x : Option B) (b : B) → option_map {U = B × List Token} (λ y. (y, rest)) x ≡ Some (b, r) → Some rest ≡ Some r
same_rest rest r None b e = absurd (cc)
same_rest rest r (Some y) b e = ap (λ o. Some (rest_or rest o)) e

left_converted : {A B : Type 0} (f : A → Option B) (o : Found A) (b : B) (r : List Token) → converted f o ≡ Some (b, r) → left o ≡ Some r
left_converted f None b r e = absurd (cc)
left_converted f (Some p) b r e = same_rest p.1 r (f p.0) b e

pub value_said-shorter : (depth : ℕ) (ts r : List Token) (d : Data) → value_said depth ts ≡ Some (d, r) → length r < length ts
value_said-shorter depth ts r d e = skip_value-shorter depth ts r (left_converted of_json (value depth ts) d r e)
