-- How the groups of a query are read token by token.
use Rattle.std.specs.Prelude.{ℕ, List, [], ◌∷◌, ◌++◌, Option, Some, None, option_map, if◌then◌else◌}
use Rattle.doc_types.specs.declared.outputs.OutputKind.{OutputKind}
use Rattle.doc_types.specs.declared.outputs.OutputKind.TheVariants as output
use Rattle.doc_types.specs.SchemaCodes.{Types}
use Rattle.doc_types.specs.Tokens.{Token, word}
use Rattle.query_groups.specs.declared.cues.Cue.{Cue}
use Rattle.query_groups.specs.declared.cues.Cue.TheVariants as cue
use Rattle.query_groups.specs.declared.fields.Fold.{Fold}
use Rattle.query_groups.specs.declared.fields.Fold.TheVariants as fold
use Rattle.query_groups.specs.declared.grouping.Opening.{Opening}
use Rattle.query_groups.specs.declared.grouping.Opening.TheVariants as before
use Rattle.query_groups.specs.declared.grouping.Middle.{Middle}
use Rattle.query_groups.specs.declared.grouping.Middle.TheVariants as amid
use Rattle.query_groups.specs.declared.grouping.Listing.{Listing}
use Rattle.query_groups.specs.declared.grouping.Listing.TheVariants as at
use Rattle.query_groups.specs.declared.grouping.Closing.{Closing}
use Rattle.query_groups.specs.declared.grouping.Closing.TheVariants as after
use Rattle.query_groups.specs.declared.grouping.Grouping.{Grouping}
use Rattle.query_groups.specs.declared.grouping.Grouping.TheVariants as code
use Rattle.query_groups.specs.declared.groups.GroupBy.{GroupBy}
use Rattle.query_groups.specs.Cues.{cue_of}
use Rattle.query_groups.specs.Outputs.{field_kind}
use Rattle.query_groups.specs.Outputs.{output_of, is_named, groups_by, is_free, some_free, some_left}

pub data Group : Type 0 where
  opening : Opening → Group
  middle : List ℕ → Middle → Group
  listing : List ℕ → List OutputKind → Listing → Group
  closing : GroupBy → Closing → Group

abbrev pub opening_next : Opening → Cue → Option Opening
opening_next before.Bar cue.All = Some before.All
opening_next before.All cue.Open = Some before.AllOpen
opening_next before.AllOpen cue.Group = Some before.Group
opening_next before.Group cue.Open = Some before.GroupOpen
opening_next _ _ = None

abbrev pub field_step : Types → List ℕ → Token → Option Group
field_step types name (word field) = if groups_by (field_kind types name field) then Some (middle field amid.Field) else None
field_step types name _ = None

abbrev pub opening_step : Types → List ℕ → Opening → Token → Option Group
opening_step types name before.GroupOpen t = field_step types name t
opening_step types name before.Bar t = option_map opening (opening_next before.Bar (cue_of t))
opening_step types name before.All t = option_map opening (opening_next before.All (cue_of t))
opening_step types name before.AllOpen t = option_map opening (opening_next before.AllOpen (cue_of t))
opening_step types name before.Group t = option_map opening (opening_next before.Group (cue_of t))

abbrev pub middle_next : Middle → Cue → Option Middle
middle_next amid.Field cue.Close = Some amid.Close
middle_next amid.Close cue.Each = Some amid.Each
middle_next amid.Each cue.Open = Some amid.EachOpen
middle_next amid.EachOpen cue.Output = Some amid.Output
middle_next _ _ = None

abbrev pub middle_step : List ℕ → Middle → Cue → Option Group
middle_step field amid.Output cue.Open = Some (listing field [] at.Want)
middle_step field p c = option_map (middle field) (middle_next p c)

abbrev pub fold_if : Types → List ℕ → List OutputKind → Fold → Option Listing
fold_if types name outputs o = if some_free types name outputs o then Some (at.Fold o) else None

abbrev pub want_next : Types → List ℕ → List OutputKind → Cue → Option Listing
want_next types name outputs cue.Count = if is_named output.Count outputs then None else Some at.Count
want_next types name outputs cue.Sum = fold_if types name outputs fold.Sum
want_next types name outputs cue.Min = fold_if types name outputs fold.Min
want_next types name outputs cue.Max = fold_if types name outputs fold.Max
want_next types name outputs _ = None

abbrev pub argument_next : Types → List ℕ → List OutputKind → Fold → Token → Option Listing
argument_next types name outputs o (word field) = if is_free o outputs field (field_kind types name field) then Some (at.Closed (output_of o field)) else None
argument_next types name outputs o _ = None

abbrev pub output_end : List ℕ → List OutputKind → OutputKind → Cue → Option Group
output_end field outputs o cue.Close = Some (listing field (outputs ++ o ∷ []) at.Behind)
output_end field outputs o _ = None

abbrev pub behind_next : Types → List ℕ → List ℕ → List OutputKind → Cue → Option Group
behind_next types name field outputs cue.Close = Some (closing (record { field = field; outputs = outputs }) after.Output)
behind_next types name field outputs cue.Comma = if some_left types name outputs then Some (listing field outputs at.Want) else None
behind_next types name field outputs _ = None

abbrev pub opened : Cue → Listing → Option Listing
opened cue.Open p = Some p
opened _ p = None

abbrev pub listing_step : Types → List ℕ → List ℕ → List OutputKind → Listing → Token → Option Group
listing_step types name field outputs at.Want t = option_map (listing field outputs) (want_next types name outputs (cue_of t))
listing_step types name field outputs at.Count t = option_map (listing field outputs) (opened (cue_of t) (at.Closed output.Count))
listing_step types name field outputs (at.Fold o) t = option_map (listing field outputs) (opened (cue_of t) (at.Argument o))
listing_step types name field outputs (at.Argument o) t = option_map (listing field outputs) (argument_next types name outputs o t)
listing_step types name field outputs (at.Closed x) t = output_end field outputs x (cue_of t)
listing_step types name field outputs at.Behind t = behind_next types name field outputs (cue_of t)

abbrev pub closing_next : Closing → Cue → Option Closing
closing_next after.Output cue.Close = Some after.Each
closing_next after.Each cue.Close = Some after.All
closing_next _ _ = None

abbrev pub closing_step : GroupBy → Closing → Cue → Option Group
closing_step g p c = option_map (closing g) (closing_next p c)

abbrev pub group_next : Types → List ℕ → Group → Token → Option Group
group_next types name (opening p) t = opening_step types name p t
group_next types name (middle field p) t = middle_step field p (cue_of t)
group_next types name (listing field outputs p) t = listing_step types name field outputs p t
group_next types name (closing g p) t = closing_step g p (cue_of t)

abbrev pub closed_group : GroupBy → Closing → Option GroupBy
closed_group g after.All = Some g
closed_group g _ = None

abbrev pub group_says : Group → Option GroupBy
group_says (closing g p) = closed_group g p
group_says _ = None

abbrev pub group_of : Grouping → Group
group_of (code.Opening p) = opening p
group_of (code.Middle field p) = middle field p
group_of (code.Listing field outputs p) = listing field outputs.items p
group_of (code.Closing g p) = closing g p
