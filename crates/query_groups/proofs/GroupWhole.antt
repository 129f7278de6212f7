-- Groups that are whole, and how each part of one goes on to a whole.
use Rattle.std.proofs.Common.{◌≡◌, ℕ, true, List, [], ◌∷◌, ◌++◌, Some, refl, sym, subst, append_assoc}
use Rattle.doc_types.specs.declared.outputs.OutputKind.{OutputKind}
use Rattle.doc_types.specs.declared.outputs.OutputKind.TheVariants as output
use Rattle.doc_types.specs.SchemaCodes.{Types}
use Rattle.doc_types.specs.Tokens.{Token, word}
use Rattle.conditions.specs.Kinds.{opens, closes}
use Rattle.proof_basics.proofs.Options.{some_same, none_some}
use Rattle.query_groups.specs.declared.fields.Fold.{Fold}
use Rattle.query_groups.specs.declared.fields.Fold.TheVariants as fold
use Rattle.query_groups.specs.declared.grouping.Opening.{Opening}
use Rattle.query_groups.specs.declared.grouping.Opening.TheVariants as before
use Rattle.query_groups.specs.declared.grouping.Middle.{Middle}
use Rattle.query_groups.specs.declared.grouping.Middle.TheVariants as amid
use Rattle.query_groups.specs.declared.grouping.Listing.{Listing}
use Rattle.query_groups.specs.declared.grouping.Listing.TheVariants as at
use Rattle.query_groups.specs.declared.grouping.Closing.{Closing}
use Rattle.query_groups.specs.declared.grouping.Closing.TheVariants as after
use Rattle.query_groups.specs.declared.groups.GroupBy.{GroupBy}
use Rattle.query_groups.specs.Cues.{all_word, group_word, each_word, output_word}
use Rattle.query_groups.specs.Outputs.{field_kind, output_of, groups_by}
use Rattle.query_groups.specs.Groups.{output_tokens, followed, IsGroup}
use Rattle.query_groups.specs.Grouping.{Group, group_says}
use Rattle.query_groups.proofs.Outputs.{IsNew, free_new}
use Rattle.query_groups.proofs.GroupReading.{opening_tokens, field_tokens, middle_tokens, listing_tokens, fold_word, place_tokens, closing_tokens, Spot, Listed, GroupRead, read_opening, read_middle, read_listing, read_behind, read_closing, listed_push, closed_tokens}

abbrev three : List Token
three = closes ∷ closes ∷ closes ∷ []

module _ (types : Types) (name : List ℕ) where
  -- a group with these outputs
  whole_group : (field : List ℕ) (os : List OutputKind) (x : OutputKind) → groups_by (field_kind types name field) ≡ true → Listed types name (os ++ x ∷ [])
      → IsGroup types name (listing_tokens field (followed os ++ (output_tokens x ++ three))) (record { field = field; outputs = os ++ x ∷ [] })
  whole_group field os x h l = record { groups = h; before = os; last = x; outputs = refl; fit = l.0; once = l.1; written = refl }

  -- what says a group is one
  pub group_said : (ts : List Token) (s : Group) (g : GroupBy) → GroupRead types name ts s → group_says s ≡ Some g → IsGroup types name ts g
  group_said ts s g (read_opening p field h) e = absurd (none_some g e)
  group_said ts s g (read_middle p field h) e = absurd (none_some g e)
  group_said ts s g (read_listing p field os h l spot) e = absurd (none_some g e)
  group_said ts s g (read_behind field os x h l) e = absurd (none_some g e)
  group_said ts s g (read_closing after.Output field os x h l) e = absurd (none_some g e)
  group_said ts s g (read_closing after.Each field os x h l) e = absurd (none_some g e)
  group_said ts s g (read_closing after.All field os x h l) e = subst (IsGroup types name (listing_tokens field (followed os ++ (output_tokens x ++ three)))) (some_same _ g e) (whole_group field os x h l)

  -- a part that goes on to a whole group
  abbrev pub GoesOn : List Token → Type 0
  GoesOn ts = (more : List Token) × ((g : GroupBy) × IsGroup types name (ts ++ more) g)

  -- the group of one count
  counted : (field : List ℕ) → groups_by (field_kind types name field) ≡ true → IsGroup types name (listing_tokens field (output_tokens output.Count ++ three)) (record { field = field; outputs = output.Count ∷ [] })
  counted field h = whole_group field [] output.Count h ((tt, tt), (refl, tt))

  middle_goes_on : (p : Middle) (field : List ℕ) → groups_by (field_kind types name field) ≡ true → GoesOn (field_tokens field (middle_tokens p))
  middle_goes_on amid.Output field h = (opens ∷ (output_tokens output.Count ++ three), (record { field = field; outputs = output.Count ∷ [] }, counted field h))
  middle_goes_on amid.EachOpen field h = (output_word ∷ opens ∷ (output_tokens output.Count ++ three), (record { field = field; outputs = output.Count ∷ [] }, counted field h))
  middle_goes_on amid.Each field h = (opens ∷ output_word ∷ opens ∷ (output_tokens output.Count ++ three), (record { field = field; outputs = output.Count ∷ [] }, counted field h))
  middle_goes_on amid.Close field h = (each_word ∷ opens ∷ output_word ∷ opens ∷ (output_tokens output.Count ++ three), (record { field = field; outputs = output.Count ∷ [] }, counted field h))
  middle_goes_on amid.Field field h = (closes ∷ each_word ∷ opens ∷ output_word ∷ opens ∷ (output_tokens output.Count ++ three), (record { field = field; outputs = output.Count ∷ [] }, counted field h))

  behind_group : List ℕ → List Token
  behind_group field = word field ∷ closes ∷ each_word ∷ opens ∷ output_word ∷ opens ∷ (output_tokens output.Count ++ three)

  opening_goes_on : (p : Opening) (field : List ℕ) → groups_by (field_kind types name field) ≡ true → GoesOn (opening_tokens p)
  unfolding behind_group
  opening_goes_on before.GroupOpen field h = (behind_group field, (record { field = field; outputs = output.Count ∷ [] }, counted field h))
  opening_goes_on before.Group field h = (opens ∷ behind_group field, (record { field = field; outputs = output.Count ∷ [] }, counted field h))
  opening_goes_on before.AllOpen field h = (group_word ∷ opens ∷ behind_group field, (record { field = field; outputs = output.Count ∷ [] }, counted field h))
  opening_goes_on before.All field h = (opens ∷ group_word ∷ opens ∷ behind_group field, (record { field = field; outputs = output.Count ∷ [] }, counted field h))
  opening_goes_on before.Bar field h = (all_word ∷ opens ∷ group_word ∷ opens ∷ behind_group field, (record { field = field; outputs = output.Count ∷ [] }, counted field h))

  -- the rest of an output under way
  record Rest (os : List OutputKind) (p : Listing) : Type 0 where
    pub last : OutputKind
    pub rest : List Token
    pub is_new : IsNew types name os last
    pub whole : place_tokens p ++ rest ≡ output_tokens last

  fold_rest : (os : List OutputKind) (o : Fold) (field : List ℕ) → fold_word o ∷ opens ∷ word field ∷ closes ∷ [] ≡ output_tokens (output_of o field)
  fold_rest os fold.Sum field = refl
  fold_rest os fold.Min field = refl
  fold_rest os fold.Max field = refl

  spot_rest : (os : List OutputKind) (p : Listing) → Spot types name os p → Rest os p
  spot_rest os at.Want s = record { last = s.0; rest = output_tokens s.0; is_new = s.1; whole = refl }
  spot_rest os at.Count s = record { last = output.Count; rest = opens ∷ closes ∷ []; is_new = (tt, s); whole = refl }
  spot_rest os (at.Fold o) s = record { last = output_of o s.0; rest = opens ∷ word s.0 ∷ closes ∷ []; is_new = free_new types name os o s.0 s.1; whole = fold_rest os o s.0 }
  spot_rest os (at.Argument o) s = record { last = output_of o s.0; rest = word s.0 ∷ closes ∷ []; is_new = free_new types name os o s.0 s.1; whole = fold_rest os o s.0 }
  spot_rest os (at.Closed x) s = record { last = x; rest = closes ∷ []; is_new = s; whole = closed_tokens types name x }
  spot_rest os at.Behind s = absurd s

  spot_tokens : (xs ps rs os : List Token) → ps ++ rs ≡ os → xs ++ (os ++ three) ≡ (xs ++ ps) ++ (rs ++ three)
  spot_tokens xs ps rs os e = rw (← e) (simp append_assoc)

  listing_goes_on : (p : Listing) (field : List ℕ) (os : List OutputKind) → groups_by (field_kind types name field) ≡ true → Listed types name os → Spot types name os p → GoesOn (listing_tokens field (followed os ++ place_tokens p))
  listing_goes_on p field os h l spot =
      let r : Rest os p = spot_rest os p spot in (
        r.rest ++ three,
        (
          record { field = field; outputs = os ++ r.last ∷ [] },
          subst (λ ts. IsGroup types name (listing_tokens field ts) (record { field = field; outputs = os ++ r.last ∷ [] })) (spot_tokens (followed os) (place_tokens p) r.rest (output_tokens r.last) r.whole)
              (whole_group field os r.last h (listed_push types name os r.last l r.is_new)),
        ),
      )

  behind_goes_on : (field : List ℕ) (os : List OutputKind) (x : OutputKind) → groups_by (field_kind types name field) ≡ true → Listed types name (os ++ x ∷ []) → GoesOn (listing_tokens field (followed os ++ output_tokens x))
  behind_goes_on field os x h l = (
    three,
    (
      record { field = field; outputs = os ++ x ∷ [] },
      subst (λ ts. IsGroup types name (listing_tokens field ts) (record { field = field; outputs = os ++ x ∷ [] })) (sym (append_assoc (followed os) (output_tokens x) three)) (whole_group field os x h l),
    ),
  )

  closing_rest : (p : Closing) → (more : List Token) × (closing_tokens p ++ more ≡ three)
  closing_rest after.Output = (closes ∷ closes ∷ [], refl)
  closing_rest after.Each = (closes ∷ [], refl)
  closing_rest after.All = ([], refl)

  closing_whole : (xs ys zs more : List Token) → zs ++ more ≡ three → xs ++ (ys ++ three) ≡ (xs ++ (ys ++ zs)) ++ more
  closing_whole xs ys zs more e = rw (← e) (simp append_assoc)

  closing_goes_on : (p : Closing) (field : List ℕ) (os : List OutputKind) (x : OutputKind) → groups_by (field_kind types name field) ≡ true → Listed types name (os ++ x ∷ [])
      → GoesOn (listing_tokens field (followed os ++ (output_tokens x ++ closing_tokens p)))
  closing_goes_on p field os x h l =
      let r = closing_rest p in (
        r.0,
        (
          record { field = field; outputs = os ++ x ∷ [] },
          subst (λ ts. IsGroup types name (listing_tokens field ts) (record { field = field; outputs = os ++ x ∷ [] })) (closing_whole (followed os) (output_tokens x) (closing_tokens p) r.0 r.1) (whole_group field os x h l),
        ),
      )

  pub group_goes_on : (ts : List Token) (s : Group) → GroupRead types name ts s → GoesOn ts
  group_goes_on ts s (read_opening p field h) = opening_goes_on p field h
  group_goes_on ts s (read_middle p field h) = middle_goes_on p field h
  group_goes_on ts s (read_listing p field os h l spot) = listing_goes_on p field os h l spot
  group_goes_on ts s (read_behind field os x h l) = behind_goes_on field os x h l
  group_goes_on ts s (read_closing p field os x h l) = closing_goes_on p field os x h l
