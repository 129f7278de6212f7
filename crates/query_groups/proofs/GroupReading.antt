-- The groups of queries are read as they are written.
use Rattle.std.proofs.Common.{◌≡◌, ℕ, true, false, cond, List, [], ◌∷◌, ◌++◌, Some, None, refl, sym, ap, subst, ◌∙◌, option_map, append_assoc, append-nil}
use Rattle.doc_types.specs.declared.outputs.OutputKind.{OutputKind}
use Rattle.doc_types.specs.declared.outputs.OutputKind.TheVariants as output
use Rattle.doc_types.specs.SchemaCodes.{Types}
use Rattle.doc_types.specs.Tokens.{Token, word, integer, quoted, signs}
use Rattle.conditions.specs.Kinds.{opens, closes}
use Rattle.proof_basics.proofs.Options.{some_same, none_some}
use Rattle.query_groups.specs.declared.cues.Cue.{Cue}
use Rattle.query_groups.specs.declared.cues.Cue.TheVariants as cue
use Rattle.query_groups.specs.declared.fields.Fold.{Fold}
use Rattle.query_groups.specs.declared.fields.Fold.TheVariants as fold
use Rattle.query_groups.specs.declared.grouping.Opening.{Opening}
use Rattle.query_groups.specs.declared.grouping.Opening.TheVariants as before
use Rattle.query_groups.specs.declared.grouping.Middle.{Middle}
use Rattle.query_groups.specs.declared.grouping.Middle.TheVariants as amid
use Rattle.query_groups.specs.declared.grouping.Listing.{Listing}
use Rattle.query_groups.specs.declared.grouping.Listing.TheVariants as at
use Rattle.query_groups.specs.declared.grouping.Closing.{Closing}
use Rattle.query_groups.specs.declared.grouping.Closing.TheVariants as after
use Rattle.query_groups.specs.Cues.{all_word, group_word, each_word, output_word, count_word, sum_word, min_word, max_word, bar, comma, cue_of}
use Rattle.query_groups.specs.Outputs.{field_kind, output_of, is_named, NamedOnce, OutputsFit, groups_by, is_free, some_free, some_left}
use Rattle.query_groups.specs.Groups.{output_tokens, followed}
use Rattle.query_groups.specs.Grouping.{Group, opening, middle, listing, closing, opening_next, field_step, opening_step, middle_step, fold_if, want_next, argument_next, output_end, behind_next, opened, listing_step, closing_step, group_next}
use Rattle.query_groups.proofs.CueTokens.{TokenIs, cue_token}
use Rattle.query_groups.proofs.Outputs.{IsNew, field_found, free_new, left_new, fit_push, once_push}

-- the tokens before each place
abbrev pub opening_tokens : Opening → List Token
opening_tokens before.Bar = bar ∷ []
opening_tokens before.All = bar ∷ all_word ∷ []
opening_tokens before.AllOpen = bar ∷ all_word ∷ opens ∷ []
opening_tokens before.Group = bar ∷ all_word ∷ opens ∷ group_word ∷ []
opening_tokens before.GroupOpen = bar ∷ all_word ∷ opens ∷ group_word ∷ opens ∷ []

abbrev pub field_tokens : List ℕ → List Token → List Token
field_tokens field ts = bar ∷ all_word ∷ opens ∷ group_word ∷ opens ∷ word field ∷ ts

abbrev pub middle_tokens : Middle → List Token
middle_tokens amid.Field = []
middle_tokens amid.Close = closes ∷ []
middle_tokens amid.Each = closes ∷ each_word ∷ []
middle_tokens amid.EachOpen = closes ∷ each_word ∷ opens ∷ []
middle_tokens amid.Output = closes ∷ each_word ∷ opens ∷ output_word ∷ []

abbrev pub listing_tokens : List ℕ → List Token → List Token
listing_tokens field ts = field_tokens field (closes ∷ each_word ∷ opens ∷ output_word ∷ opens ∷ ts)

abbrev pub fold_word : Fold → Token
fold_word fold.Sum = sum_word
fold_word fold.Min = min_word
fold_word fold.Max = max_word

-- an output without its last bracket
abbrev pub open_tokens : OutputKind → List Token
open_tokens output.Count = count_word ∷ opens ∷ []
open_tokens (output.Sum field) = sum_word ∷ opens ∷ word field ∷ []
open_tokens (output.Min field) = min_word ∷ opens ∷ word field ∷ []
open_tokens (output.Max field) = max_word ∷ opens ∷ word field ∷ []

abbrev pub place_tokens : Listing → List Token
place_tokens at.Want = []
place_tokens at.Count = count_word ∷ []
place_tokens (at.Fold o) = fold_word o ∷ []
place_tokens (at.Argument o) = fold_word o ∷ opens ∷ []
place_tokens (at.Closed x) = open_tokens x
place_tokens at.Behind = []

abbrev pub closing_tokens : Closing → List Token
closing_tokens after.Output = closes ∷ []
closing_tokens after.Each = closes ∷ closes ∷ []
closing_tokens after.All = closes ∷ closes ∷ closes ∷ []

-- an output under way can be read to its end
abbrev pub Spot : Types → List ℕ → List OutputKind → Listing → Type 0
Spot types name os at.Want = (x : OutputKind) × IsNew types name os x
Spot types name os at.Count = is_named output.Count os ≡ false
Spot types name os (at.Fold o) = (field : List ℕ) × (is_free o os field (field_kind types name field) ≡ true)
Spot types name os (at.Argument o) = (field : List ℕ) × (is_free o os field (field_kind types name field) ≡ true)
Spot types name os (at.Closed x) = IsNew types name os x
Spot types name os at.Behind = ⊥

-- outputs that may stand in a query
abbrev pub Listed : Types → List ℕ → List OutputKind → Type 0
Listed types name os = OutputsFit types name os × NamedOnce [] os

-- what was read at each place
pub data GroupRead (types : Types) (name : List ℕ) : List Token → Group → Type 0 where
  read_opening : (p : Opening) (field : List ℕ) → groups_by (field_kind types name field) ≡ true → GroupRead types name (opening_tokens p) (opening p)
  read_middle : (p : Middle) (field : List ℕ) → groups_by (field_kind types name field) ≡ true → GroupRead types name (field_tokens field (middle_tokens p)) (middle field p)
  read_listing : (p : Listing) (field : List ℕ) (os : List OutputKind) → groups_by (field_kind types name field) ≡ true → Listed types name os → Spot types name os p
      → GroupRead types name (listing_tokens field (followed os ++ place_tokens p)) (listing field os p)
  read_behind : (field : List ℕ) (os : List OutputKind) (x : OutputKind) → groups_by (field_kind types name field) ≡ true → Listed types name (os ++ x ∷ [])
      → GroupRead types name (listing_tokens field (followed os ++ output_tokens x)) (listing field (os ++ x ∷ []) at.Behind)
  read_closing : (p : Closing) (field : List ℕ) (os : List OutputKind) (x : OutputKind) → groups_by (field_kind types name field) ≡ true → Listed types name (os ++ x ∷ [])
      → GroupRead types name (listing_tokens field (followed os ++ (output_tokens x ++ closing_tokens p))) (closing (record { field = field; outputs = os ++ x ∷ [] }) p)

module _ (types : Types) (name : List ℕ) where
  pub listed_push : (os : List OutputKind) (x : OutputKind) → Listed types name os → IsNew types name os x → Listed types name (os ++ x ∷ [])
  listed_push os x l n = (fit_push types name os x l.0 n.0, once_push [] os x l.1 n.1)

  -- before the field
  opening_by : (p : Opening) (c : Cue) (t : Token) (q : Group) (field : List ℕ) → groups_by (field_kind types name field) ≡ true → TokenIs c t → option_map opening (opening_next p c) ≡ Some q → GroupRead types name (opening_tokens p ++ t ∷ []) q
  opening_by before.Bar cue.All t q field h is e = subst (λ u. GroupRead types name (bar ∷ u ∷ []) q) (sym is) (subst (GroupRead types name (bar ∷ all_word ∷ [])) (some_same _ q e) (read_opening before.All field h))
  opening_by before.All cue.Open t q field h is e = subst (λ u. GroupRead types name (bar ∷ all_word ∷ u ∷ []) q) (sym is) (subst (GroupRead types name (bar ∷ all_word ∷ opens ∷ [])) (some_same _ q e) (read_opening before.AllOpen field h))
  opening_by before.AllOpen cue.Group t q field h is e = subst (λ u. GroupRead types name (bar ∷ all_word ∷ opens ∷ u ∷ []) q) (sym is)
      (subst (GroupRead types name (bar ∷ all_word ∷ opens ∷ group_word ∷ [])) (some_same _ q e) (read_opening before.Group field h))
  opening_by before.Group cue.Open t q field h is e = subst (λ u. GroupRead types name (bar ∷ all_word ∷ opens ∷ group_word ∷ u ∷ []) q) (sym is)
      (subst (GroupRead types name (bar ∷ all_word ∷ opens ∷ group_word ∷ opens ∷ [])) (some_same _ q e) (read_opening before.GroupOpen field h))
  opening_by _ _ t q field h is e = absurd (none_some q e)

  field_by : (field : List ℕ) (q : Group) → cond (groups_by (field_kind types name field)) (Some (middle field amid.Field)) None ≡ Some q → GroupRead types name (field_tokens field []) q
  field_by field q e = elim (groups_by (field_kind types name field)) as (λ b. groups_by (field_kind types name field) ≡ b → cond b (Some (middle field amid.Field)) None ≡ Some q → GroupRead types name (field_tokens field []) q) [
    | true ↦ λ r f. subst (GroupRead types name (field_tokens field [])) (some_same _ q f) (read_middle amid.Field field r)
    | false ↦ λ r f. absurd (none_some q f)
  ] refl e

  field_goes : (t : Token) (q : Group) → field_step types name t ≡ Some q → GroupRead types name (opening_tokens before.GroupOpen ++ t ∷ []) q
  field_goes (word field) q e = field_by field q e
  field_goes (integer z) q e = absurd (none_some q e)
  field_goes (quoted text) q e = absurd (none_some q e)
  field_goes (signs s) q e = absurd (none_some q e)

  opening_goes : (p : Opening) (t : Token) (q : Group) (field : List ℕ) → groups_by (field_kind types name field) ≡ true → opening_step types name p t ≡ Some q → GroupRead types name (opening_tokens p ++ t ∷ []) q
  opening_goes before.GroupOpen t q field h e = field_goes t q e
  opening_goes before.Bar t q field h e = opening_by before.Bar (cue_of t) t q field h (cue_token t) e
  opening_goes before.All t q field h e = opening_by before.All (cue_of t) t q field h (cue_token t) e
  opening_goes before.AllOpen t q field h e = opening_by before.AllOpen (cue_of t) t q field h (cue_token t) e
  opening_goes before.Group t q field h e = opening_by before.Group (cue_of t) t q field h (cue_token t) e

  -- between the field and the outputs
  middle_goes : (p : Middle) (c : Cue) (t : Token) (q : Group) (field : List ℕ) → groups_by (field_kind types name field) ≡ true → TokenIs c t → middle_step field p c ≡ Some q → GroupRead types name (field_tokens field (middle_tokens p ++ t ∷ [])) q
  middle_goes amid.Field cue.Close t q field h is e = subst (λ u. GroupRead types name (field_tokens field (u ∷ [])) q) (sym is) (subst (GroupRead types name (field_tokens field (closes ∷ []))) (some_same _ q e) (read_middle amid.Close field h))
  middle_goes amid.Close cue.Each t q field h is e = subst (λ u. GroupRead types name (field_tokens field (closes ∷ u ∷ [])) q) (sym is)
      (subst (GroupRead types name (field_tokens field (closes ∷ each_word ∷ []))) (some_same _ q e) (read_middle amid.Each field h))
  middle_goes amid.Each cue.Open t q field h is e = subst (λ u. GroupRead types name (field_tokens field (closes ∷ each_word ∷ u ∷ [])) q) (sym is)
      (subst (GroupRead types name (field_tokens field (closes ∷ each_word ∷ opens ∷ []))) (some_same _ q e) (read_middle amid.EachOpen field h))
  middle_goes amid.EachOpen cue.Output t q field h is e = subst (λ u. GroupRead types name (field_tokens field (closes ∷ each_word ∷ opens ∷ u ∷ [])) q) (sym is)
      (subst (GroupRead types name (field_tokens field (closes ∷ each_word ∷ opens ∷ output_word ∷ []))) (some_same _ q e) (read_middle amid.Output field h))
  middle_goes amid.Output cue.Open t q field h is e = subst (λ u. GroupRead types name (field_tokens field (closes ∷ each_word ∷ opens ∷ output_word ∷ u ∷ [])) q) (sym is)
      (subst (GroupRead types name (listing_tokens field [])) (some_same _ q e) (read_listing at.Want field [] h (tt, tt) (output.Count, (tt, refl))))
  middle_goes _ _ t q field h is e = absurd (none_some q e)

  -- within an output
  want_if : (field : List ℕ) (os : List OutputKind) (o : Fold) (t : Token) (q : Group) → groups_by (field_kind types name field) ≡ true → Listed types name os → t ≡ fold_word o
      → option_map (listing field os) (fold_if types name os o) ≡ Some q → GroupRead types name (listing_tokens field (followed os ++ t ∷ [])) q
  want_if field os o t q h l is e = elim (some_free types name os o) as (λ b. some_free types name os o ≡ b → option_map (listing field os) (cond b (Some (at.Fold o)) None) ≡ Some q → GroupRead types name (listing_tokens field (followed os ++ t ∷ [])) q) [
    | true ↦ λ r f. subst (λ u. GroupRead types name (listing_tokens field (followed os ++ u ∷ [])) q) (sym is)
        (subst (GroupRead types name (listing_tokens field (followed os ++ fold_word o ∷ []))) (some_same _ q f) (read_listing (at.Fold o) field os h l (field_found types name (is_free o os) r)))
    | false ↦ λ r f. absurd (none_some q f)
  ] refl e

  want_goes : (field : List ℕ) (os : List OutputKind) (c : Cue) (t : Token) (q : Group) → groups_by (field_kind types name field) ≡ true → Listed types name os → TokenIs c t
      → option_map (listing field os) (want_next types name os c) ≡ Some q → GroupRead types name (listing_tokens field (followed os ++ t ∷ [])) q
  want_goes field os cue.Count t q h l is e = elim (is_named output.Count os) as (λ b. is_named output.Count os ≡ b → option_map (listing field os) (cond b None (Some at.Count)) ≡ Some q → GroupRead types name (listing_tokens field (followed os ++ t ∷ [])) q) [
    | true ↦ λ r f. absurd (none_some q f)
    | false ↦ λ r f. subst (λ u. GroupRead types name (listing_tokens field (followed os ++ u ∷ [])) q) (sym is)
        (subst (GroupRead types name (listing_tokens field (followed os ++ count_word ∷ []))) (some_same _ q f) (read_listing at.Count field os h l r))
  ] refl e
  want_goes field os cue.Sum t q h l is e = want_if field os fold.Sum t q h l is e
  want_goes field os cue.Min t q h l is e = want_if field os fold.Min t q h l is e
  want_goes field os cue.Max t q h l is e = want_if field os fold.Max t q h l is e
  want_goes field os _ t q h l is e = absurd (none_some q e)

  opened_goes : (field : List ℕ) (os : List OutputKind) (w : Token) (p : Listing) (c : Cue) (t : Token) (q : Group) → TokenIs c t → GroupRead types name (listing_tokens field (followed os ++ (w ∷ opens ∷ []))) (listing field os p)
      → option_map (listing field os) (opened c p) ≡ Some q → GroupRead types name (listing_tokens field (followed os ++ (w ∷ t ∷ []))) q
  opened_goes field os w p cue.Open t q is r e = subst (λ u. GroupRead types name (listing_tokens field (followed os ++ (w ∷ u ∷ []))) q) (sym is) (subst (GroupRead types name (listing_tokens field (followed os ++ (w ∷ opens ∷ [])))) (some_same _ q e) r)
  opened_goes field os w p _ t q is r e = absurd (none_some q e)

  open_fold : (o : Fold) (field : List ℕ) → open_tokens (output_of o field) ≡ fold_word o ∷ opens ∷ word field ∷ []
  open_fold fold.Sum field = refl
  open_fold fold.Min field = refl
  open_fold fold.Max field = refl

  argument_by : (field : List ℕ) (os : List OutputKind) (o : Fold) (g : List ℕ) (q : Group) → groups_by (field_kind types name field) ≡ true → Listed types name os
      → option_map (listing field os) (argument_next types name os o (word g)) ≡ Some q → GroupRead types name (listing_tokens field (followed os ++ (fold_word o ∷ opens ∷ word g ∷ []))) q
  argument_by field os o g q h l e = elim (is_free o os g (field_kind types name g)) as (λ b. is_free o os g (field_kind types name g) ≡ b → option_map (listing field os) (cond b (Some (at.Closed (output_of o g))) None) ≡ Some q
      → GroupRead types name (listing_tokens field (followed os ++ (fold_word o ∷ opens ∷ word g ∷ []))) q) [
        | true ↦ λ r f. subst (λ ts. GroupRead types name (listing_tokens field (followed os ++ ts)) q) (open_fold o g)
            (subst (GroupRead types name (listing_tokens field (followed os ++ open_tokens (output_of o g)))) (some_same _ q f) (read_listing (at.Closed (output_of o g)) field os h l (free_new types name os o g r)))
        | false ↦ λ r f. absurd (none_some q f)
      ] refl e

  argument_goes : (field : List ℕ) (os : List OutputKind) (o : Fold) (t : Token) (q : Group) → groups_by (field_kind types name field) ≡ true → Listed types name os
      → option_map (listing field os) (argument_next types name os o t) ≡ Some q → GroupRead types name (listing_tokens field (followed os ++ (fold_word o ∷ opens ∷ t ∷ []))) q
  argument_goes field os o (word g) q h l e = argument_by field os o g q h l e
  argument_goes field os o (integer z) q h l e = absurd (none_some q e)
  argument_goes field os o (quoted text) q h l e = absurd (none_some q e)
  argument_goes field os o (signs s) q h l e = absurd (none_some q e)

  pub closed_tokens : (x : OutputKind) → open_tokens x ++ closes ∷ [] ≡ output_tokens x
  closed_tokens output.Count = refl
  closed_tokens (output.Sum field) = refl
  closed_tokens (output.Min field) = refl
  closed_tokens (output.Max field) = refl

  closed_goes : (field : List ℕ) (os : List OutputKind) (x : OutputKind) (c : Cue) (t : Token) (q : Group) → groups_by (field_kind types name field) ≡ true → Listed types name os → IsNew types name os x → TokenIs c t
      → output_end field os x c ≡ Some q → GroupRead types name (listing_tokens field (followed os ++ (open_tokens x ++ t ∷ []))) q
  closed_goes field os x cue.Close t q h l n is e = subst (λ u. GroupRead types name (listing_tokens field (followed os ++ (open_tokens x ++ u ∷ []))) q) (sym is)
      (subst (λ ts. GroupRead types name (listing_tokens field (followed os ++ ts)) q) (sym (closed_tokens x))
      (subst (GroupRead types name (listing_tokens field (followed os ++ output_tokens x))) (some_same _ q e) (read_behind field os x h (listed_push os x l n))))
  closed_goes field os x _ t q h l n is e = absurd (none_some q e)

  spot_goes : (p : Listing) (field : List ℕ) (os : List OutputKind) (t : Token) (q : Group) → groups_by (field_kind types name field) ≡ true → Listed types name os → Spot types name os p
      → listing_step types name field os p t ≡ Some q → GroupRead types name (listing_tokens field (followed os ++ (place_tokens p ++ t ∷ []))) q
  spot_goes at.Want field os t q h l s e = want_goes field os (cue_of t) t q h l (cue_token t) e
  spot_goes at.Count field os t q h l s e = opened_goes field os count_word (at.Closed output.Count) (cue_of t) t q (cue_token t) (read_listing (at.Closed output.Count) field os h l (tt, s)) e
  spot_goes (at.Fold o) field os t q h l s e = opened_goes field os (fold_word o) (at.Argument o) (cue_of t) t q (cue_token t) (read_listing (at.Argument o) field os h l s) e
  spot_goes (at.Argument o) field os t q h l s e = argument_goes field os o t q h l e
  spot_goes (at.Closed x) field os t q h l s e = closed_goes field os x (cue_of t) t q h l s (cue_token t) e
  spot_goes at.Behind field os t q h l s e = absurd s

  -- behind an output
  pub followed_push : (os : List OutputKind) (x : OutputKind) → followed (os ++ x ∷ []) ≡ followed os ++ (output_tokens x ++ comma ∷ [])
  followed_push [] x = refl
  followed_push (o ∷ os) x = ap (λ l. output_tokens o ++ (comma ∷ l)) (followed_push os x) ∙ sym (append_assoc (output_tokens o) (comma ∷ followed os) (output_tokens x ++ comma ∷ []))

  comma_tokens : (os : List OutputKind) (x : OutputKind) → followed (os ++ x ∷ []) ++ [] ≡ followed os ++ (output_tokens x ++ comma ∷ [])
  comma_tokens os x = append-nil (followed (os ++ x ∷ [])) ∙ followed_push os x

  behind_goes : (field : List ℕ) (os : List OutputKind) (x : OutputKind) (c : Cue) (t : Token) (q : Group) → groups_by (field_kind types name field) ≡ true → Listed types name (os ++ x ∷ []) → TokenIs c t
      → behind_next types name field (os ++ x ∷ []) c ≡ Some q → GroupRead types name (listing_tokens field (followed os ++ (output_tokens x ++ t ∷ []))) q
  behind_goes field os x cue.Close t q h l is e = subst (λ u. GroupRead types name (listing_tokens field (followed os ++ (output_tokens x ++ u ∷ []))) q) (sym is)
      (subst (GroupRead types name (listing_tokens field (followed os ++ (output_tokens x ++ closes ∷ [])))) (some_same _ q e) (read_closing after.Output field os x h l))
  behind_goes field os x cue.Comma t q h l is e = elim (some_left types name (os ++ x ∷ [])) as (λ b. some_left types name (os ++ x ∷ []) ≡ b → cond b (Some (listing field (os ++ x ∷ []) at.Want)) None ≡ Some q
      → GroupRead types name (listing_tokens field (followed os ++ (output_tokens x ++ t ∷ []))) q) [
        | true ↦ λ r f. subst (λ u. GroupRead types name (listing_tokens field (followed os ++ (output_tokens x ++ u ∷ []))) q) (sym is)
            (subst (λ ts. GroupRead types name (listing_tokens field ts) q) (comma_tokens os x)
            (subst (GroupRead types name (listing_tokens field (followed (os ++ x ∷ []) ++ []))) (some_same _ q f) (read_listing at.Want field (os ++ x ∷ []) h l (left_new types name (os ++ x ∷ []) r))))
        | false ↦ λ r f. absurd (none_some q f)
      ] refl e
  behind_goes field os x _ t q h l is e = absurd (none_some q e)

  closing_goes : (p : Closing) (c : Cue) (field : List ℕ) (os : List OutputKind) (x : OutputKind) (t : Token) (q : Group) → groups_by (field_kind types name field) ≡ true → Listed types name (os ++ x ∷ []) → TokenIs c t
      → closing_step (record { field = field; outputs = os ++ x ∷ [] }) p c ≡ Some q → GroupRead types name (listing_tokens field (followed os ++ (output_tokens x ++ (closing_tokens p ++ t ∷ [])))) q
  closing_goes after.Output cue.Close field os x t q h l is e = subst (λ u. GroupRead types name (listing_tokens field (followed os ++ (output_tokens x ++ (closes ∷ u ∷ [])))) q) (sym is)
      (subst (GroupRead types name (listing_tokens field (followed os ++ (output_tokens x ++ (closes ∷ closes ∷ []))))) (some_same _ q e) (read_closing after.Each field os x h l))
  closing_goes after.Each cue.Close field os x t q h l is e = subst (λ u. GroupRead types name (listing_tokens field (followed os ++ (output_tokens x ++ (closes ∷ closes ∷ u ∷ [])))) q) (sym is)
      (subst (GroupRead types name (listing_tokens field (followed os ++ (output_tokens x ++ (closes ∷ closes ∷ closes ∷ []))))) (some_same _ q e) (read_closing after.All field os x h l))
  closing_goes _ _ field os x t q h l is e = absurd (none_some q e)

  behind_two : (xs ys : List Token) (t : Token) → xs ++ (ys ++ t ∷ []) ≡ (xs ++ ys) ++ t ∷ []
  behind_two xs ys t = sym (append_assoc xs ys (t ∷ []))

  behind_three : (xs ys zs : List Token) (t : Token) → xs ++ (ys ++ (zs ++ t ∷ [])) ≡ (xs ++ (ys ++ zs)) ++ t ∷ []
  behind_three xs ys zs t = simp append_assoc

  pub group_goes : (ts : List Token) (t : Token) (s q : Group) → GroupRead types name ts s → group_next types name s t ≡ Some q → GroupRead types name (ts ++ t ∷ []) q
  group_goes ts t s q (read_opening p field h) e = opening_goes p t q field h e
  group_goes ts t s q (read_middle p field h) e = middle_goes p (cue_of t) t q field h (cue_token t) e
  group_goes ts t s q (read_listing p field os h l spot) e = subst (λ us. GroupRead types name (listing_tokens field us) q) (behind_two (followed os) (place_tokens p) t) (spot_goes p field os t q h l spot e)
  group_goes ts t s q (read_behind field os x h l) e = subst (λ us. GroupRead types name (listing_tokens field us) q) (behind_two (followed os) (output_tokens x) t) (behind_goes field os x (cue_of t) t q h l (cue_token t) e)
  group_goes ts t s q (read_closing p field os x h l) e = subst (λ us. GroupRead types name (listing_tokens field us) q) (behind_three (followed os) (output_tokens x) (closing_tokens p) t)
      (closing_goes p (cue_of t) field os x t q h l (cue_token t) e)
