-- A loop over the items of a list: what they all say is what was found, and then what those left say.
use Rattle.std.proofs.Common.{◌≡◌, ℕ, suc, ◌+◌, ◌<◌, ◌≤◌, List, [], ◌∷◌, ◌++◌, map, length, get_or, take, drop, refl, sym, ap, ap₂, ◌∙◌, drop-cons, add-one, Option, Some, None, option_map}
use Rattle.std.proofs.Math.Seq.{take-suc}
use Rattle.std.proofs.lemmas.List.{append-nil, append_assoc, map-append, drop_all}
use Rattle.serde_json.specs.Data.{Data}
use Rattle.line_values.specs.View.{view, items_view}
use Rattle.line_values.specs.declared.line_value.LineValue.{LineValue}
use Rattle.json_documents.specs.Json.{onto, each}

module _ {X : Type 0} (read : Data → Option X) (all : List LineValue) where
  -- what was found before a place, and what the items from there on say
  abbrev pub from_place : List X → ℕ → Option (List X)
  from_place found i = option_map (λ rest. found ++ rest) (each read (items_view (drop i all)))

  behind : (found : List X) (x : X) (rest : Option (List X)) → option_map (λ xs. found ++ xs) (onto (Some x) rest) ≡ option_map (λ xs. (found ++ x ∷ []) ++ xs) rest
  behind found x None = refl
  behind found x (Some xs) = ap Some (sym (append_assoc found (x ∷ []) xs))

  turn : (found : List X) (i : ℕ) (v : LineValue) (o : Option X) → i < length all → read (view (get_or all i v)) ≡ o
      → from_place found i ≡ option_map (λ xs. found ++ xs) (onto o (each read (items_view (drop (suc i) all))))
  turn found i v o lt said =
      ap (λ l. option_map (λ xs. found ++ xs) (each read (items_view l))) (drop-cons all i v lt)
      ∙ ap (λ o. option_map (λ xs. found ++ xs) (onto o (each read (items_view (drop (suc i) all))))) said

  pub one_more : (found : List X) (i : ℕ) (v : LineValue) (x : X) → i < length all → read (view (get_or all i v)) ≡ Some x
      → from_place found i ≡ each read (items_view all) → from_place (found ++ x ∷ []) (i + 1) ≡ each read (items_view all)
  one_more found i v x lt said so =
      ap (from_place (found ++ x ∷ [])) (add-one i) ∙ sym (behind found x (each read (items_view (drop (suc i) all)))) ∙ sym (turn found i v (Some x) lt said) ∙ so

  pub a_bad_one : (found : List X) (i : ℕ) (v : LineValue) → i < length all → read (view (get_or all i v)) ≡ None
      → from_place found i ≡ each read (items_view all) → each read (items_view all) ≡ None
  a_bad_one found i v lt said so = sym so ∙ turn found i v None lt said

  pub all_found : (found : List X) (i : ℕ) → length all ≤ i → from_place found i ≡ each read (items_view all) → each read (items_view all) ≡ Some found
  all_found found i le so =
      sym so ∙ ap (λ l. option_map (λ xs. found ++ xs) (each read (items_view l))) (drop_all i all le) ∙ ap Some (append-nil found)

-- one item more was made
pub made_more : {A B C : Type 0} (f : A → C) (g : B → C) (made : List A) (from : List B) (i : ℕ) (d : B) (x : A) → i < length from → f x ≡ g (get_or from i d)
    → map f made ≡ map g (take i from) → map f (made ++ x ∷ []) ≡ map g (take (i + 1) from)
made_more f g made from i d x lt e so =
    map-append f made (x ∷ []) ∙ ap₂ (λ a b. a ++ b ∷ []) so e ∙ sym (map-append g (take i from) (get_or from i d ∷ []))
    ∙ ap (map g) (sym (take-suc from i d lt) ∙ ap (λ n. take n from) (sym (add-one i)))
