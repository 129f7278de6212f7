-- Splits: a row goes and its halves come, of which each node is told, and then each half has a round.
use Rattle.std.proofs.Common.{◌≡◌, ◌∙◌, ◌⊎◌, inl, inr, ◌<◌, ◌+◌, ◌≤◌, ◌-◌, ◌%◌, ◌^◌, ℕ, suc, Bool, true, false, List, [], ◌∷◌, map, Option, Some, None, refl, sym, ap, ap₂, subst, arith, nat_lt, slice_get, if◌then◌else◌}
use Rattle.std.specs.List.{remove}
use Rattle.std.specs.BTreeMap.{BTreeMap}
use Rattle.bucket_ids.specs.Buckets.{Low, IsBucket, first_child, second_child, parent_of}
use Rattle.bucket_ids.specs.Printed.{number_of}
use Rattle.bucket_db.specs.Changes.{with_row, first_half, second_half, split_at}
use Rattle.bucket_db.specs.Rows.{AreRows, buckets_of}
use Rattle.bucket_db.specs.declared.row.Row.{Row}
use Rattle.bucket_db.proofs.Inside.{covers_low, covers_first, covers_second, number_same, first_valid, second_valid}
use Rattle.bucket_db.proofs.RowLaws.{split_is}
use Rattle.proof_basics.proofs.Tests.{both}
use Rattle.cluster_states.specs.Publishing.{serves}
use Rattle.messages.specs.declared.body.Body.TheVariants as body
use Rattle.messages.specs.declared.decision.Decision.TheVariants.{RowSplit}
use Rattle.distributor_part.specs.Parts.{Part, rows_of}
use Rattle.distributor_part.specs.Upkeep.{SplitsRow}
use Rattle.pass_model.specs.Nodes.{Node}
use Rattle.pass_model.specs.Rows as rest
use Rattle.pass_model.specs.Rows.{Settings}
use Rattle.pass_model.specs.Passes.{World}
use Rattle.pass_model.specs.Scripts.{told_node}
use Rattle.pass_model.specs.Turns as turns
use Rattle.pass_model.specs.Turns.{Stand, stand, by_row, split_at_place, with_children, turn_at as turn_at_rest}
use Rattle.proof_basics.proofs.Numbers.{lt-of}
use Rattle.pass_machine.specs.declared.doing.Time.TheVariants.{First}
use Rattle.pass_machine.specs.declared.doing.Settle.TheVariants as settle
use Rattle.pass_machine.specs.declared.doing.Doing.TheVariants.{Splitting, SplitTold, SplitFirst, SplitSecond, Settling}
use Rattle.pass_machine.specs.declared.doing.UpkeepStep.TheVariants as step
use Rattle.pass_machine.specs.declared.doing.Turn.TheVariants.{Over, Says}
use Rattle.pass_machine.specs.declared.notes.RowNote.{RowNote}
use Rattle.pass_machine.specs.Notes.{note_for, documents_in}
use Rattle.pass_machine.specs.Places.{is_full_by, place_of}
use Rattle.pass_machine.specs.Turns.{View, splitting, round_or, turn_at}
use Rattle.pass_machine.specs.Going.{Forgets}
use Rattle.pass_machine.specs.Abstract.{AreMade, row_with, Tells}
use Rattle.pass_machine.proofs.AllTurns.{splits_told}
use Rattle.proof_basics.proofs.Lists.{left_at}
use Rattle.pass_machine.proofs.PlaceTurns.{rounds_bucket, split_row, row_stays}
use Rattle.pass_machine.proofs.WholeLists.{part_splits}
use Rattle.pass_machine.proofs.Pairs.{documents-noted}
use Rattle.pass_runs.specs.Worlds.{IsUnder, row_of, shown_at, world_of}
use Rattle.pass_runs.specs.Steps.{Changes, IsDecidedBy, IsRoundAt}
use Rattle.pass_runs.specs.Standing.{HasNote, NoneDeletes, AreNotedBut, IsRow, AreWhole, IsSplit, IsHalf, Leads, Stands}
use Rattle.pass_runs.proofs.Goings.{GoesOn}
use Rattle.pass_runs.proofs.Leading.{lead_one, lead_more}
use Rattle.pass_runs.proofs.Rows.{row_noted, world_buckets, world_none, world_row, note_in_view, note_kept, row_valid}
use Rattle.pass_runs.proofs.RoundRows.{round_is_row, round_noted_all, round_noted_but, round_quiet, round_world}
use Rattle.pass_runs.proofs.RowPlaces.{placed_own, placed_at, placed_keeps, row_there, bucket_there}
use Rattle.pass_runs.proofs.ForgottenNotes.{notes_stay, shown_of, world_with, world_forgotten}
use Rattle.pass_runs.proofs.StandsOn.{stands_on}

-- ---- halves

parent-of-first : (b : Low) → IsBucket b → parent_of (first_child b) ≡ b
parent-of-first b ok =
    let bits : (b.bits + 1) - 1 ≡ b.bits = omega arith in
    let low : (first_child b).low % 2 ^ ((b.bits + 1) - 1) ≡ b.low = ap (λ (k : ℕ). (first_child b).low % 2 ^ k) bits ∙ covers_low b (first_child b) (covers_first b ok) in
    λ i. record { bits = bits i; low = low i }

parent-of-second : (b : Low) → IsBucket b → parent_of (second_child b) ≡ b
parent-of-second b ok =
    let bits : (b.bits + 1) - 1 ≡ b.bits = omega arith in
    let low : (second_child b).low % 2 ^ ((b.bits + 1) - 1) ≡ b.low = ap (λ (k : ℕ). (second_child b).low % 2 ^ k) bits ∙ covers_low b (second_child b) (covers_second b ok) in
    λ i. record { bits = bits i; low = low i }

few-bits : (most bits documents : ℕ) → is_full_by most bits (Some documents) ≡ true → bits < 58
few-bits most bits documents h = lt-of bits 58 (both (nat_lt bits 58) (nat_lt most documents) h).0

module _ (s : Settings) (still : ℕ → Node) (first : World) (v : View) (made : BTreeMap ℕ (Unit {0})) (notes : BTreeMap ℕ RowNote) where
  -- ---- rows

  module _ (at : ℕ) (ns : ℕ → Node) (under : IsUnder s still v ns) (x : Stands s still first v made notes (Splitting at) ns) where
    abbrev here : World
    here = world_of still v notes ns

    abbrev start : Stand
    start = stand (turns.ResendingDelete x.sent) first

    knows : (x.list ≡ []) × AreWhole v notes
    knows = x.knows

    whole : AreWhole v notes
    whole = knows.1

    leads : Leads s start (stand (turns.Splitting at) here)
    leads = x.led

    -- ---- a row is split

    module _ (w : View) (after : BTreeMap ℕ RowNote) (b : Low) (few : b.bits < 58) (c : Changes v w (IsDecidedBy at (RowSplit b))) (forgets : Forgets (first_child b ∷ second_child b ∷ []) notes after) where
      abbrev d : SplitsRow c.before c.after at
      d = c.does.0

      bucket-is : d.row.bucket ≡ b
      bucket-is = c.does.1

      rows-are : v.rows ≡ d.rows.rows
      rows-are = sym c.rows ∙ ap rows_of d.opened

      found : slice_get v.rows at ≡ Some d.row
      found = ap (λ (l : List Row). slice_get l at) rows-are ∙ d.found

      valid : IsBucket b
      valid = subst IsBucket bucket-is (row_valid v.lane v.rows under.rows at d.row found)

      state-then : w.state ≡ v.state
      state-then = ap (λ (z : View). z.state) c.view

      abbrev rest-rows : List Row
      rest-rows = remove v.rows at

      abbrev one-half : List Row
      one-half = with_row (first_half d.row) rest-rows

      rows-then : w.rows ≡ with_row (second_half d.row) one-half
      rows-then = ap (λ (z : View). z.rows) c.view ∙ (ap (λ (part : Part). rows_of part.rows) d.after ∙ (ap (split_at at) (sym rows-are) ∙ split_is v.rows at d.row found))

      -- ---- its rows

      old-or-half : (k : ℕ) (row : Row) → slice_get w.rows k ≡ Some row → ((row ≡ first_half d.row) ⊎ (row ≡ second_half d.row)) ⊎ ((i : ℕ) × (slice_get v.rows i ≡ Some row))
      old-or-half k row there = by_second (placed_at (λ (r : Row). number_of r.bucket) (second_half d.row) one-half k row (ap (λ (l : List Row). slice_get l k) (sym rows-then) ∙ there))
        where
          by_left : (i : ℕ) → ((slice_get v.rows i ≡ Some row) × (i < at)) ⊎ ((slice_get v.rows (suc i) ≡ Some row) × (at ≤ i)) → (i : ℕ) × (slice_get v.rows i ≡ Some row)
          by_left i (inl e) = (i, e.0)
          by_left i (inr e) = (suc i, e.0)

          by_first : (row ≡ first_half d.row) ⊎ ((i : ℕ) × (slice_get rest-rows i ≡ Some row)) → ((row ≡ first_half d.row) ⊎ (row ≡ second_half d.row)) ⊎ ((i : ℕ) × (slice_get v.rows i ≡ Some row))
          by_first (inl same) = inl (inl same)
          by_first (inr (i, e)) = inr (by_left i (left_at v.rows at i row e))

          by_second : (row ≡ second_half d.row) ⊎ ((i : ℕ) × (slice_get one-half i ≡ Some row)) → ((row ≡ first_half d.row) ⊎ (row ≡ second_half d.row)) ⊎ ((i : ℕ) × (slice_get v.rows i ≡ Some row))
          by_second (inl same) = inl (inr same)
          by_second (inr (i, e)) = by_first (placed_at (λ (r : Row). number_of r.bucket) (first_half d.row) rest-rows i row e)

      first-bucket : (first_half d.row).bucket ≡ first_child b
      first-bucket = ap first_child bucket-is

      second-bucket : (second_half d.row).bucket ≡ second_child b
      second-bucket = ap second_child bucket-is

      noted-then : AreNotedBut (λ z. (z ≡ first_child b) ⊎ (z ≡ second_child b)) w after
      noted-then k row there off = by_row (old-or-half k row there)
        where
          by_row : ((row ≡ first_half d.row) ⊎ (row ≡ second_half d.row)) ⊎ ((i : ℕ) × (slice_get v.rows i ≡ Some row)) → HasNote w after row.bucket
          by_row (inl (inl same)) = absurd (off (inl (ap (λ (r : Row). r.bucket) same ∙ first-bucket)))
          by_row (inl (inr same)) = absurd (off (inr (ap (λ (r : Row). r.bucket) same ∙ second-bucket)))
          by_row (inr (i, e)) =
              let ok = row_valid v.lane v.rows under.rows i row e in
              note_in_view v w after row.bucket state-then
              (note_kept v notes after row.bucket
              (notes_stay (first_child b ∷ second_child b ∷ []) notes after forgets row.bucket
              ((λ same. off (inl (number_same row.bucket (first_child b) ok (first_valid b valid few) same))), ((λ same. off (inr (number_same row.bucket (second_child b) ok (second_valid b valid few) same))), tt)))
              (whole.noted i row e))

      quiet-then : NoneDeletes w.rows
      quiet-then k row there = by_row (old-or-half k row there)
        where
          by_row : ((row ≡ first_half d.row) ⊎ (row ≡ second_half d.row)) ⊎ ((i : ℕ) × (slice_get v.rows i ≡ Some row)) → row.deleting ≡ None
          by_row (inl (inl same)) = ap (λ (r : Row). r.deleting) same ∙ whole.deletes at d.row found
          by_row (inl (inr same)) = ap (λ (r : Row). r.deleting) same ∙ whole.deletes at d.row found
          by_row (inr (i, e)) = whole.deletes i row e

      first-then : IsRow (first_child b) w.rows
      first-then =
          let one = placed_own (λ (r : Row). number_of r.bucket) (first_half d.row) rest-rows in
          let kept = placed_keeps (λ (r : Row). number_of r.bucket) (second_half d.row) one-half one.0 (first_half d.row) one.1 in
          (kept.0, first_half d.row, ap (λ (l : List Row). slice_get l kept.0) rows-then ∙ kept.1, first-bucket)

      second-then : IsRow (second_child b) w.rows
      second-then =
          let two = placed_own (λ (r : Row). number_of r.bucket) (second_half d.row) one-half in
          (two.0, second_half d.row, ap (λ (l : List Row). slice_get l two.0) rows-then ∙ two.1, second-bucket)

      -- ---- the world

      before-rows : AreRows c.before.lane (buckets_of (rows_of c.before.rows))
      before-rows = subst (λ (l : Low). AreRows l (buckets_of (rows_of c.before.rows))) (sym c.lane) (subst (λ (rs : List Row). AreRows v.lane (buckets_of rs)) (sym c.rows) under.rows)

      abbrev split-rows : List rest.Row
      split-rows = with_children at (row_of v.state still notes d.row) here.rows

      world-then : world_of still w after ns ≡ world_with ns split-rows
      world-then = world_forgotten v w still (first_child b ∷ second_child b ∷ []) notes after ns (rows_of c.after.rows) state-then (ap (λ (z : View). z.rows) c.view) forgets
          ∙ (ap (world_with ns) (part_splits (shown_of v.state still notes) notes after c.before c.after at before-rows d (subst (λ (z : Low). Forgets (first_child z ∷ second_child z ∷ []) notes after) (sym bucket-is) forgets))
          ∙ ap (λ (rs : List Row). world_with ns (with_children at (row_of v.state still notes d.row) (map (row_of v.state still notes) rs))) c.rows)

      split-stands : turn_at_rest s (turns.Splitting at) here ≡ stand (turns.SplitTold at b 0) (world_with ns split-rows) → Stands s still first w made after (SplitTold at (first_child b) (second_child b) 0) ns
      split-stands turn = stands_on s still first v made notes (Splitting at) ns x (SplitTold at (first_child b) (second_child b) 0) w after ns (
        knows.0,
        record {
          noted = noted-then;
          deletes = quiet-then;
          first = ap first_child (parent-of-first b valid);
          second = ap second_child (parent-of-second b valid);
          halves = parent-of-second b valid ∙ sym (parent-of-first b valid);
          first_there = first-then;
          second_there = second-then;
        },
      )
          (lead_one s start (turns.Splitting at) here (stand (turns.SplitTold at (parent_of (first_child b)) 0) (world_of still w after ns)) leads
          (turn ∙ ap₂ (λ (z : Low) (u : World). stand (turns.SplitTold at z 0) u) (sym (parent-of-first b valid)) (sym world-then)))

    -- ---- by the row of the place

    module _ (row : Row) (found : slice_get v.rows at ≡ Some row) where
      has : HasNote v notes row.bucket
      has = whole.noted at row found

      seen : slice_get here.rows at ≡ Some (row_with (shown_at v.state still row.bucket has.note) (Some has.note) row)
      seen = world_row v.state still notes v.rows at row found ∙ ap (λ (r : rest.Row). Some r) (row_noted v.state still notes row has.note has.noted)

      documents-are : documents_in (note_for row.bucket notes) ≡ Some has.note.documents
      documents-are = documents-noted (note_for row.bucket notes) has.note has.noted

      by-full : (z : Bool) → is_full_by v.rules.split_at row.bucket.bits (documents_in (note_for row.bucket notes)) ≡ z
          → GoesOn s still first v made notes (Splitting at) ns (if z then Says (step.Decide at (RowSplit row.bucket)) else Over (Splitting (at + 1)))
      by-full true e = λ w after later c forgets. (
          let full : is_full_by v.rules.split_at row.bucket.bits (Some has.note.documents) ≡ true = sym (ap (is_full_by v.rules.split_at row.bucket.bits) documents-are) ∙ e in
          split-stands w after row.bucket (few-bits v.rules.split_at row.bucket.bits has.note.documents full) c forgets
          (split_row s v.rules.split_at under.split_at here at row has.note (shown_at v.state still row.bucket has.note) seen full ∙ same-children w after c))
        where
          same-children : (w : View) (after : BTreeMap ℕ RowNote) (c : Changes v w (IsDecidedBy at (RowSplit row.bucket)))
              → stand (turns.SplitTold at row.bucket 0) (record { nodes = ns; rows = with_children at (row_with (shown_at v.state still row.bucket has.note) (Some has.note) row) here.rows })
              ≡ stand (turns.SplitTold at row.bucket 0) (world_with ns (with_children at (row_of v.state still notes c.does.0.row) here.rows))
          same-children w after c =
              let d = c.does.0 in
              let there : slice_get v.rows at ≡ Some d.row = ap (λ (l : List Row). slice_get l at) (sym c.rows ∙ ap rows_of d.opened) ∙ d.found in
              let twice : Some row ≡ Some d.row = sym found ∙ there in
              let same : row ≡ d.row = cc in
              ap (λ (r : rest.Row). stand (turns.SplitTold at row.bucket 0) (world_with ns (with_children at r here.rows)))
              (sym (row_noted v.state still notes row has.note has.noted) ∙ ap (row_of v.state still notes) same)
      by-full false e =
          let few : is_full_by v.rules.split_at row.bucket.bits (Some has.note.documents) ≡ false = sym (ap (is_full_by v.rules.split_at row.bucket.bits) documents-are) ∙ e in
          stands_on s still first v made notes (Splitting at) ns x (Splitting (at + 1)) v notes ns knows
          (lead_one s start (turns.Splitting at) here (stand (turns.Splitting (at + 1)) here) leads
          (row_stays s v.rules.split_at under.split_at here at row has.note (shown_at v.state still row.bucket has.note) seen few))

    -- ---- behind the last row

    ends : slice_get v.rows at ≡ None → Stands s still first v made notes (Settling First 0 settle.Beginning) ns
    ends none = stands_on s still first v made notes (Splitting at) ns x (Settling First 0 settle.Beginning) v notes ns
        (knows.0, record { noted = whole.noted; others = λ k row off found. whole.deletes k row found; pends = λ row note found noted. whole.deletes 0 row found })
        (lead_one s start (turns.Splitting at) here (stand (turns.Settling turns.First 0) here) leads
        (ap (λ (o : Option rest.Row). by_row o (stand (turns.Settling turns.First 0) here) (split_at_place s at here)) (world_none v.state still notes v.rows at none)))

    pub splitting_goes : GoesOn s still first v made notes (Splitting at) ns (turn_at v made notes (Splitting at))
    splitting_goes = by_place (slice_get v.rows at) refl
      where
        by_place : (o : Option Row) → slice_get v.rows at ≡ o → GoesOn s still first v made notes (Splitting at) ns (splitting v notes at o)
        by_place None none = ends none
        by_place (Some row) found = by-full row found (is_full_by v.rules.split_at row.bucket.bits (documents_in (note_for row.bucket notes))) refl

  -- ---- each node is told of the first half

  module _ (at : ℕ) (b c : Low) (n : ℕ) (ns : ℕ → Node) (under : IsUnder s still v ns) (x : Stands s still first v made notes (SplitTold at b c n) ns) where
    abbrev told-world : World
    told-world = world_of still v notes ns

    abbrev told-start : Stand
    told-start = stand (turns.ResendingDelete x.sent) first

    told-knows : (x.list ≡ []) × IsSplit v notes b c
    told-knows = x.knows

    told-leads : Leads s told-start (stand (turns.SplitTold at (parent_of b) n) told-world)
    told-leads = x.led

    pub split_told_goes : GoesOn s still first v made notes (SplitTold at b c n) ns (turn_at v made notes (SplitTold at b c n))
    split_told_goes = by_node (nat_lt n 32) (splits_told v s under.agrees x.list told-world at b c n told-knows.1.first)
      where
        by_serves : (z : Bool) → Tells v s x.list told-world (SplitTold at b c n) (if z then Says (step.Tell n (body.Split b)) else Over (SplitTold at b c (n + 1)))
            → GoesOn s still first v made notes (SplitTold at b c n) ns (if z then Says (step.Tell n (body.Split b)) else Over (SplitTold at b c (n + 1)))
        by_serves true tells = λ named. stands_on s still first v made notes (SplitTold at b c n) ns x (SplitTold at b c (n + 1)) v notes (told_node n (body.Split b) ns) told-knows
            (lead_one s told-start (turns.SplitTold at (parent_of b) n) told-world (stand (turns.SplitTold at (parent_of b) (n + 1)) (world_of still v notes (told_node n (body.Split b) ns))) told-leads tells)
        by_serves false tells = stands_on s still first v made notes (SplitTold at b c n) ns x (SplitTold at b c (n + 1)) v notes ns told-knows
            (lead_more s told-start (turns.SplitTold at (parent_of b) n) told-world (stand (turns.SplitTold at (parent_of b) (n + 1)) told-world) told-leads tells)

        by_node : (z : Bool) → Tells v s x.list told-world (SplitTold at b c n) (if z then (if serves v.state n then Says (step.Tell n (body.Split b)) else Over (SplitTold at b c (n + 1))) else Over (SplitFirst at b c))
            → GoesOn s still first v made notes (SplitTold at b c n) ns (if z then (if serves v.state n then Says (step.Tell n (body.Split b)) else Over (SplitTold at b c (n + 1))) else Over (SplitFirst at b c))
        by_node true tells = by_serves (serves v.state n) tells
        by_node false tells = stands_on s still first v made notes (SplitTold at b c n) ns x (SplitFirst at b c) v notes ns told-knows
            (lead_more s told-start (turns.SplitTold at (parent_of b) n) told-world (stand (turns.SplitFirst at (parent_of b)) told-world) told-leads tells)

  -- ---- the first half has a round

  module _ (at : ℕ) (b c : Low) (ns : ℕ → Node) (under : IsUnder s still v ns) (x : Stands s still first v made notes (SplitFirst at b c) ns) where
    abbrev first-world : World
    first-world = world_of still v notes ns

    first-knows : (x.list ≡ []) × IsSplit v notes b c
    first-knows = x.knows

    is-split : IsSplit v notes b c
    is-split = first-knows.1

    first-leads : Leads s (stand (turns.ResendingDelete x.sent) first) (stand (turns.SplitFirst at (parent_of b)) first-world)
    first-leads = x.led

    module _ (w : View) (after : BTreeMap ℕ RowNote) (ms : ℕ → Node) (r : IsRoundAt s still v w notes after ns ms (place_of b v.rows)) where
      first-is : r.row.bucket ≡ b
      first-is = bucket_there b v.rows v.lane under.rows is-split.first_there r.row r.found

      first-turn : turn_at_rest s (turns.SplitFirst at (parent_of b)) first-world ≡ stand (turns.SplitSecond at (parent_of c)) (world_of still w after ms)
      first-turn =
          ap (λ (z : Low). turns.round_then s z (turns.SplitSecond at (parent_of b)) first-world) is-split.first
          ∙ (rounds_bucket s first-world (row_of v.state still notes r.row) b (turns.SplitSecond at (parent_of b)) v.rows (world_buckets v.state still notes v.rows) (world_row v.state still notes v.rows (place_of b v.rows) r.row r.found)
          ∙ ap₂ (λ (z : Low) (u : World). stand (turns.SplitSecond at z) u) (sym is-split.halves) (sym (round_world s still v w notes after ns ms (place_of b v.rows) under r)))

      half-noted : AreNotedBut (λ z. z ≡ c) w after
      half-noted = round_noted_but s still v w notes after ns ms (place_of b v.rows) under r (λ z. (z ≡ b) ⊎ (z ≡ c)) (λ z. z ≡ c)
          (λ z other differs either. elim either [ inl e ↦ differs (e ∙ sym first-is) | inr e ↦ other e ]) is-split.noted

      first-stands : (now : BTreeMap ℕ (Unit {0})) → now ≡ made → Stands s still first w now after (SplitSecond at c) ms
      first-stands now same = record {
        order = x.order;
        list = x.list;
        are_made = subst (λ (m : BTreeMap ℕ (Unit {0})). AreMade m x.list) (sym same) x.are_made;
        knows = (
          first-knows.0,
          record {
            noted = half-noted;
            deletes = round_quiet s still v w notes after ns ms (place_of b v.rows) under r is-split.deletes;
            second = is-split.second;
            second_there = round_is_row s still v w notes after ns ms (place_of b v.rows) under r c is-split.second_there;
          },
        );
        sent = x.sent;
        buckets = x.buckets;
        led = lead_one s (stand (turns.ResendingDelete x.sent) first) (turns.SplitFirst at (parent_of b)) first-world (stand (turns.SplitSecond at (parent_of c)) (world_of still w after ms)) first-leads first-turn;
      }

    pub split_first_goes : GoesOn s still first v made notes (SplitFirst at b c) ns (turn_at v made notes (SplitFirst at b c))
    split_first_goes = subst (λ (o : Option Row). GoesOn s still first v made notes (SplitFirst at b c) ns (round_or (place_of b v.rows) o (SplitSecond at c)))
        (sym (row_there b v.rows v.lane under.rows is-split.first_there)) (λ w now after ms later r makes. first-stands w after ms r now makes)

  -- ---- the second half has a round

  module _ (at : ℕ) (c : Low) (ns : ℕ → Node) (under : IsUnder s still v ns) (x : Stands s still first v made notes (SplitSecond at c) ns) where
    abbrev second-world : World
    second-world = world_of still v notes ns

    second-knows : (x.list ≡ []) × IsHalf v notes c
    second-knows = x.knows

    is-half : IsHalf v notes c
    is-half = second-knows.1

    second-leads : Leads s (stand (turns.ResendingDelete x.sent) first) (stand (turns.SplitSecond at (parent_of c)) second-world)
    second-leads = x.led

    module _ (w : View) (after : BTreeMap ℕ RowNote) (ms : ℕ → Node) (r : IsRoundAt s still v w notes after ns ms (place_of c v.rows)) where
      second-is : r.row.bucket ≡ c
      second-is = bucket_there c v.rows v.lane under.rows is-half.second_there r.row r.found

      second-turn : turn_at_rest s (turns.SplitSecond at (parent_of c)) second-world ≡ stand (turns.Splitting at) (world_of still w after ms)
      second-turn =
          ap (λ (z : Low). turns.round_then s z (turns.Splitting at) second-world) is-half.second
          ∙ (rounds_bucket s second-world (row_of v.state still notes r.row) c (turns.Splitting at) v.rows (world_buckets v.state still notes v.rows) (world_row v.state still notes v.rows (place_of c v.rows) r.row r.found)
          ∙ ap (λ (u : World). stand (turns.Splitting at) u) (sym (round_world s still v w notes after ns ms (place_of c v.rows) under r)))

      second-stands : (now : BTreeMap ℕ (Unit {0})) → now ≡ made → Stands s still first w now after (Splitting at) ms
      second-stands now same = record {
        order = x.order;
        list = x.list;
        are_made = subst (λ (m : BTreeMap ℕ (Unit {0})). AreMade m x.list) (sym same) x.are_made;
        knows = (
          second-knows.0,
          record {
            noted = round_noted_all s still v w notes after ns ms (place_of c v.rows) under r (subst (λ (q : Low). AreNotedBut (λ z. z ≡ q) v notes) (sym second-is) is-half.noted);
            deletes = round_quiet s still v w notes after ns ms (place_of c v.rows) under r is-half.deletes;
          },
        );
        sent = x.sent;
        buckets = x.buckets;
        led = lead_one s (stand (turns.ResendingDelete x.sent) first) (turns.SplitSecond at (parent_of c)) second-world (stand (turns.Splitting at) (world_of still w after ms)) second-leads second-turn;
      }

    pub split_second_goes : GoesOn s still first v made notes (SplitSecond at c) ns (turn_at v made notes (SplitSecond at c))
    split_second_goes = subst (λ (o : Option Row). GoesOn s still first v made notes (SplitSecond at c) ns (round_or (place_of c v.rows) o (Splitting at)))
        (sym (row_there c v.rows v.lane under.rows is-half.second_there)) (λ w now after ms later r makes. second-stands w after ms r now makes)
