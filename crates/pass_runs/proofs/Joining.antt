-- Joins: a pair goes and its parent comes, of which each node is told, and then it has a round.
use Rattle.std.proofs.Common.{◌≡◌, ◌∙◌, ◌||◌, ◌⊎◌, inl, inr, not, ◌<◌, ◌≤◌, ◌+◌, ◌-◌, ℕ, suc, Bool, true, false, List, [], ◌∷◌, length, map, Option, Some, None, refl, sym, ap, ap₂, subst, arith, nat_lt, nat_le, slice_get, pow_pos, if◌then◌else◌}
use Rattle.std.specs.Prelude.{is_some}
use Rattle.std.specs.Ordering.{nat_cmp}
use Rattle.std.specs.List.{list_any, remove, filter}
use Rattle.std.specs.BTreeMap.{BTreeMap, Updates, get}
use Rattle.std.proofs.lemmas.Bool.{cases_lt}
use Rattle.std.proofs.lemmas.List.{length-map}
use Rattle.std.proofs.lemmas.List.Edits.{length-remove}
use Rattle.std.proofs.lemmas.Option.{slice_get_within}
use Rattle.std.proofs.lemmas.Bool.Decides.{nat_tests}
use Rattle.bucket_ids.specs.Buckets.{Low, IsBucket, covers, first_child, second_child, parent_of}
use Rattle.bucket_ids.specs.Printed.{number_of}
use Rattle.bucket_db.specs.Changes.{with_joined, IsJoinable}
use Rattle.bucket_db.specs.Rows.{AreRows, buckets_of}
use Rattle.bucket_db.specs.declared.row.Row.{Row}
use Rattle.bucket_db.proofs.Inside.{number_same, parent_valid}
use Rattle.bucket_db.proofs.RowLaws.{pair_of}
use Rattle.bucket_db.proofs.RowLists.{some_at}
use Rattle.pieces.specs.Pieces.{same_bucket}
use Rattle.pieces.proofs.PieceLaws.{bucket-same, same-refl}
use Rattle.cluster_states.specs.Publishing.{serves}
use Rattle.messages.specs.declared.body.Body.TheVariants as body
use Rattle.messages.specs.declared.decision.Decision.TheVariants.{RowsJoined}
use Rattle.distributor_part.specs.Parts.{Part, rows_of}
use Rattle.distributor_part.specs.Upkeep.{JoinsRows}
use Rattle.pass_model.specs.Nodes.{Node}
use Rattle.pass_model.specs.Rows as rest
use Rattle.pass_model.specs.Rows.{Settings}
use Rattle.pass_model.specs.Passes.{World, merged}
use Rattle.pass_model.specs.Scripts.{told_node}
use Rattle.pass_model.specs.Sweeps as sweeps
use Rattle.proof_basics.proofs.Tests.{clash}
use Rattle.pass_model.specs.Turns as turns
use Rattle.pass_model.specs.Turns.{Stand, stand, without_pair, turn_at as turn_at_rest}
use Rattle.proof_basics.proofs.Numbers.{lt-to}
use Rattle.pass_machine.specs.declared.doing.Time.{Time}
use Rattle.pass_machine.specs.declared.doing.Time.TheVariants.{First, Again}
use Rattle.pass_machine.specs.declared.doing.Settle.TheVariants as settle
use Rattle.pass_machine.specs.declared.doing.Doing.{Doing}
use Rattle.pass_machine.specs.declared.doing.Doing.TheVariants.{Joining, JoinTold, JoinRound, Splitting, Settling}
use Rattle.pass_machine.specs.declared.doing.UpkeepStep.TheVariants as step
use Rattle.pass_machine.specs.declared.doing.Turn.TheVariants.{Over, Says}
use Rattle.pass_machine.specs.declared.notes.RowNote.{RowNote}
use Rattle.pass_machine.specs.Places.{first_with, next_place, place_of}
use Rattle.pass_machine.specs.Turns.{View, does_join, end_joins, fewer_bits, joining, round_or, turn_at}
use Rattle.pass_machine.specs.Going.{Forgets, Makes, made_by}
use Rattle.pass_machine.specs.Abstract.{AreMade, time_of, doing_of, rows_in, IsPairJoined, Pairs, Tells}
use Rattle.pass_machine.proofs.AllTurns.{joins_told}
use Rattle.proof_basics.proofs.Lists.{filter_at}
use Rattle.pass_machine.proofs.Pairs.{join_pairs, second_is}
use Rattle.pass_machine.proofs.PlaceTurns.{rounds_bucket}
use Rattle.pass_machine.proofs.WholeLists.{part_joins}
use Rattle.pass_runs.specs.Worlds.{IsUnder, row_of, world_of}
use Rattle.pass_runs.specs.Steps.{Changes, IsDecidedBy, IsRoundAt}
use Rattle.pass_runs.specs.Standing.{HasNote, NoneDeletes, AreNotedBut, IsRow, IsTime, AreWhole, IsJoined, Leads, Stands}
use Rattle.pass_runs.proofs.Goings.{GoesOn}
use Rattle.pass_runs.proofs.Leading.{lead_one, lead_more}
use Rattle.pass_runs.proofs.Rows.{row_of_bucket, world_buckets, world_row, world_noted, note_in_view, note_kept, row_valid, key_stays}
use Rattle.pass_runs.proofs.RoundRows.{round_length, round_noted_all, round_quiet, round_world}
use Rattle.pass_runs.proofs.RowPlaces.{placed_own, placed_at, placed_length, number_rises, row_there, bucket_there}
use Rattle.pass_runs.proofs.ForgottenNotes.{notes_stay, shown_of, world_with, world_forgotten}
use Rattle.pass_runs.proofs.StandsOn.{stands_on}

more-bits : (n : ℕ) → nat_le n 2 ≡ false → 2 < n
more-bits n h = grind (arith, nat_tests)

-- the row of a join is noted as made
made-more : (p : Low) (list : List Low) (made now : BTreeMap ℕ (Unit {0})) → IsBucket p → Updates nat_cmp made now (number_of p) (Some tt) → AreMade made list → AreMade now (p ∷ list)
made-more p list made now valid makes are b ok = by_same (same_bucket b p) refl
  where
    by_same : (z : Bool) → same_bucket b p ≡ z → (z || list_any (same_bucket b) list) ≡ is_some (get nat_cmp now (number_of b))
    by_same true e = sym (ap (λ (c : Low). is_some (get nat_cmp now (number_of c))) (bucket-same b p e) ∙ ap (λ (o : Option (Unit {0})). is_some o) makes.1)
    by_same false e = are b ok ∙ ap (λ (o : Option (Unit {0})). is_some o) (sym (key_stays made now (number_of p) (number_of b) (Some tt) makes (λ same. clash (subst (λ (c : Low). same_bucket b c ≡ true) (number_same b p ok valid same) (same-refl b)) e)))

module _ (s : Settings) (still : ℕ → Node) (first : World) (v : View) (made : BTreeMap ℕ (Unit {0})) (notes : BTreeMap ℕ RowNote) where
  -- ---- pairs

  module _ (t : Time) (bits at : ℕ) (ns : ℕ → Node) (under : IsUnder s still v ns) (x : Stands s still first v made notes (Joining t bits at) ns) where
    abbrev here : World
    here = world_of still v notes ns

    abbrev own : Doing
    own = Joining t bits at

    abbrev start : Stand
    start = stand (turns.ResendingDelete x.sent) first

    knows : IsTime t x.list × (1 < bits) × AreWhole v notes
    knows = x.knows

    whole : AreWhole v notes
    whole = knows.2

    leads : Leads s start (stand (doing_of x.list own) here)
    leads = x.led

    -- ---- a pair is joined

    module _ (w : View) (after : BTreeMap ℕ RowNote) (p : Low) (j : IsPairJoined s x.list here t bits at (RowsJoined p)) (c : Changes v w (IsDecidedBy at (RowsJoined p))) (forgets : Forgets (p ∷ []) notes after) where
      abbrev d : JoinsRows c.before c.after at
      d = c.does.0

      rows-are : v.rows ≡ d.rows.rows
      rows-are = sym c.rows ∙ ap rows_of d.opened

      found : slice_get v.rows at ≡ Some d.row
      found = ap (λ (l : List Row). slice_get l at) rows-are ∙ d.found

      valid : IsBucket d.row.bucket
      valid = row_valid v.lane v.rows under.rows at d.row found

      can : IsJoinable v.lane v.rows d.row d.other
      can = subst (λ (l : List Row). IsJoinable v.lane l d.row d.other) (sym rows-are) (subst (λ (l : Low). IsJoinable l d.rows.rows d.row d.other) (d.same_lane ∙ c.lane) d.joinable)

      more : 1 < d.row.bucket.bits
      more = let some = under.rows.bucket.some in let inside = can.inside in omega (arith, some, inside)

      parent-is : parent_of d.row.bucket ≡ p
      parent-is = sym d.is_joined.bucket ∙ c.does.1

      parent-ok : IsBucket p
      parent-ok = subst IsBucket parent-is (parent_valid d.row.bucket valid more)

      one-bucket : j.one.bucket ≡ d.row.bucket
      one-bucket =
          let twice : Some j.one ≡ Some (row_of v.state still notes d.row) = sym j.found ∙ world_row v.state still notes v.rows at d.row found in
          let same : j.one ≡ row_of v.state still notes d.row = cc in
          ap (λ (r : rest.Row). r.bucket) same ∙ row_of_bucket v.state still notes d.row

      first-half : d.row.bucket ≡ first_child (parent_of d.row.bucket)
      first-half = subst (λ (b : Low). b ≡ first_child (parent_of b)) one-bucket j.first

      state-then : w.state ≡ v.state
      state-then = ap (λ (z : View). z.state) c.view

      rows-then : w.rows ≡ with_joined d.joined v.rows
      rows-then = ap (λ (z : View). z.rows) c.view ∙ (ap (λ (part : Part). rows_of part.rows) d.after ∙ ap (with_joined d.joined) (sym rows-are))

      -- ---- its rows

      abbrev place : ℕ
      place = can.is_row.0

      other-found : slice_get v.rows place ≡ Some d.other
      other-found = (pair_of v.lane v.rows at d.row d.other found can).found

      abbrev left : List Row
      left = filter (λ (r : Row). not (covers d.joined.bucket r.bucket)) v.rows

      old-or-new : (k : ℕ) (row : Row) → slice_get w.rows k ≡ Some row → (row ≡ d.joined) ⊎ ((i : ℕ) × (slice_get v.rows i ≡ Some row))
      old-or-new k row there = by_left (placed_at (λ (r : Row). number_of r.bucket) d.joined left k row (ap (λ (l : List Row). slice_get l k) (sym rows-then) ∙ there))
        where
          by_left : (row ≡ d.joined) ⊎ ((i : ℕ) × (slice_get left i ≡ Some row)) → (row ≡ d.joined) ⊎ ((i : ℕ) × (slice_get v.rows i ≡ Some row))
          by_left (inl same) = inl same
          by_left (inr (i, e)) = let f = filter_at (λ (r : Row). not (covers d.joined.bucket r.bucket)) v.rows i row e in inr (f.0, f.1)

      noted-then : (k : ℕ) (row : Row) → slice_get w.rows k ≡ Some row → (row.bucket ≡ p → ⊥) → HasNote w after row.bucket
      noted-then k row there off = by_row (old-or-new k row there)
        where
          by_row : (row ≡ d.joined) ⊎ ((i : ℕ) × (slice_get v.rows i ≡ Some row)) → HasNote w after row.bucket
          by_row (inl same) = absurd (off (ap (λ (r : Row). r.bucket) same ∙ c.does.1))
          by_row (inr (i, e)) =
              note_in_view v w after row.bucket state-then
              (note_kept v notes after row.bucket
              (notes_stay (p ∷ []) notes after forgets row.bucket (λ same. off (number_same row.bucket p (row_valid v.lane v.rows under.rows i row e) parent-ok same), tt))
              (whole.noted i row e))

      quiet-then : NoneDeletes w.rows
      quiet-then k row there = by_row (old-or-new k row there)
        where
          by_row : (row ≡ d.joined) ⊎ ((i : ℕ) × (slice_get v.rows i ≡ Some row)) → row.deleting ≡ None
          by_row (inl same) = ap (λ (r : Row). r.deleting) same ∙ (d.is_joined.own_delete (whole.deletes place d.other other-found) ∙ whole.deletes at d.row found)
          by_row (inr (i, e)) = whole.deletes i row e

      there-then : IsRow p w.rows
      there-then =
          let own-place = placed_own (λ (r : Row). number_of r.bucket) d.joined left in
          (own-place.0, d.joined, ap (λ (l : List Row). slice_get l own-place.0) rows-then ∙ own-place.1, c.does.1)

      -- the second half stands behind the first
      behind : at < place
      behind = by_order (cases_lt at place)
        where
          by_order : (at < place) ⊎ (place ≤ at) → at < place
          by_order (inl less) = less
          by_order (inr le) =
              let up = number_rises v.lane v.rows under.rows place at d.other d.row other-found found le in
              let low : number_of d.row.bucket ≡ number_of (first_child (parent_of d.row.bucket)) = ap number_of first-half in
              let high : number_of d.other.bucket ≡ number_of (second_child (parent_of d.row.bucket)) = ap number_of (can.sibling ∙ sym (second_is d.row.bucket valid more first-half)) in
              let some = pow_pos (parent_of d.row.bucket).bits in
              absurd (omega (arith, up, low, high, some))

      -- ---- the world

      before-rows : AreRows c.before.lane (buckets_of (rows_of c.before.rows))
      before-rows = subst (λ (l : Low). AreRows l (buckets_of (rows_of c.before.rows))) (sym c.lane) (subst (λ (rs : List Row). AreRows v.lane (buckets_of rs)) (sym c.rows) under.rows)

      before-are : here.rows ≡ rows_in (shown_of v.state still notes) notes (rows_of c.before.rows)
      before-are = ap (rows_in (shown_of v.state still notes) notes) (sym c.rows)

      abbrev joined-rows : List rest.Row
      joined-rows = sweeps.with_row (merged (parent_of j.one.bucket) j.one j.two) (without_pair at j.other here.rows)

      world-then : world_of still w after ns ≡ world_with ns joined-rows
      world-then = world_forgotten v w still (p ∷ []) notes after ns (rows_of c.after.rows) state-then (ap (λ (z : View). z.rows) c.view) forgets
          ∙ ap (world_with ns) (part_joins (shown_of v.state still notes) notes after c.before c.after at before-rows d here before-are s x.list t bits (RowsJoined p) j forgets)

      -- one row fewer, and the place is still one
      within : at < length w.rows
      within =
          let then_long : length (map (row_of w.state still after) w.rows) ≡ length joined-rows = ap (λ (z : World). length z.rows) world-then in
          let then_same = length-map w.rows (row_of w.state still after) in
          let now_same = length-map v.rows (row_of v.state still notes) in
          let placed = placed_length (λ (r : rest.Row). number_of r.bucket) (merged (parent_of j.one.bucket) j.one j.two) (without_pair at j.other here.rows) in
          let second = length-remove (remove here.rows at) j.other (slice_get_within (remove here.rows at) j.other j.two j.beside) in
          let own-one = length-remove here.rows at (slice_get_within here.rows at j.one j.found) in
          let far = slice_get_within v.rows place d.other other-found in
          let after_at = behind in
          omega (arith, then_long, then_same, now_same, placed, second, own-one, far, after_at)

      joined-stands : Stands s still first w made after (JoinTold t bits at p 0) ns
      joined-stands = stands_on s still first v made notes own ns x (JoinTold t bits at p 0) w after ns (knows.0, knows.1, record { noted = noted-then; deletes = quiet-then; there = there-then; place = some_at w.rows at within })
          (lead_one s start (doing_of x.list own) here (stand (doing_of x.list (JoinTold t bits at p 0)) (world_of still w after ns)) leads
          (j.turn ∙ ap (λ (z : World). stand (doing_of x.list (JoinTold t bits at p 0)) z) (sym world-then)))

    -- ---- and else it goes over the place

    end-goes : (u : Time) → IsTime u x.list → turn_at_rest s (doing_of x.list own) here ≡ stand (doing_of x.list (end_joins u)) here → Stands s still first v made notes (end_joins u) ns
    end-goes First none e = stands_on s still first v made notes own ns x (Splitting 0) v notes ns (none, whole) (lead_one s start (doing_of x.list own) here (stand (doing_of x.list (Splitting 0)) here) leads e)
    end-goes Again none e = stands_on s still first v made notes own ns x (Settling Again 0 settle.Beginning) v notes ns
        (tt, record { noted = whole.noted; others = λ k row off found. whole.deletes k row found; pends = λ row note found noted. whole.deletes 0 row found })
        (lead_one s start (doing_of x.list own) here (stand (doing_of x.list (Settling Again 0 settle.Beginning)) here) leads e)

    fewer-goes : turn_at_rest s (doing_of x.list own) here ≡ stand (doing_of x.list (fewer_bits v t bits)) here → Stands s still first v made notes (fewer_bits v t bits) ns
    fewer-goes = by_bits (nat_le bits 2) refl
      where
        by_bits : (z : Bool) → nat_le bits 2 ≡ z → turn_at_rest s (doing_of x.list own) here ≡ stand (doing_of x.list (if z then end_joins t else Joining t (bits - 1) (first_with (bits - 1) v.rows))) here
            → Stands s still first v made notes (if z then end_joins t else Joining t (bits - 1) (first_with (bits - 1) v.rows)) ns
        by_bits true e g = end-goes t knows.0 g
        by_bits false e g =
            let some = more-bits bits e in
            let more : 1 < bits - 1 = omega (arith, some) in
            stands_on s still first v made notes own ns x (Joining t (bits - 1) (first_with (bits - 1) v.rows)) v notes ns (knows.0, more, whole)
            (lead_one s start (doing_of x.list own) here (stand (doing_of x.list (Joining t (bits - 1) (first_with (bits - 1) v.rows))) here) leads g)

    pub joining_goes : GoesOn s still first v made notes (Joining t bits at) ns (turn_at v made notes (Joining t bits at))
    joining_goes = by_place (slice_get v.rows at) (join_pairs v s x.list notes here under.split_at under.lane_bits under.rows (world_noted v still notes v.rows whole.noted whole.deletes) t bits at knows.1)
      where
        by_join : (row : Row) (z : Bool) → Pairs s x.list here t bits at (if z then Says (step.Decide at (RowsJoined (parent_of row.bucket))) else Over (Joining t bits (at + 1)))
            → GoesOn s still first v made notes own ns (if z then Says (step.Decide at (RowsJoined (parent_of row.bucket))) else Over (Joining t bits (at + 1)))
        by_join row true pairs = λ w after later c forgets. joined-stands w after (parent_of row.bucket) pairs.1 c forgets
        by_join row false pairs = stands_on s still first v made notes own ns x (Joining t bits (at + 1)) v notes ns knows (lead_one s start (doing_of x.list own) here (stand (doing_of x.list (Joining t bits (at + 1))) here) leads pairs)

        by_bits : (row : Row) (z : Bool) → Pairs s x.list here t bits at (if z then Over (fewer_bits v t bits) else (if does_join v notes bits row then Says (step.Decide at (RowsJoined (parent_of row.bucket))) else Over (Joining t bits (at + 1))))
            → GoesOn s still first v made notes own ns (if z then Over (fewer_bits v t bits) else (if does_join v notes bits row then Says (step.Decide at (RowsJoined (parent_of row.bucket))) else Over (Joining t bits (at + 1))))
        by_bits row true pairs = fewer-goes pairs
        by_bits row false pairs = by_join row (does_join v notes bits row) pairs

        by_place : (o : Option Row) → Pairs s x.list here t bits at (joining v notes t bits at o) → GoesOn s still first v made notes own ns (joining v notes t bits at o)
        by_place None pairs = fewer-goes pairs
        by_place (Some row) pairs = by_bits row (nat_lt bits row.bucket.bits) pairs

  -- ---- each node is told of the parent

  module _ (t : Time) (bits at : ℕ) (p : Low) (n : ℕ) (ns : ℕ → Node) (under : IsUnder s still v ns) (x : Stands s still first v made notes (JoinTold t bits at p n) ns) where
    abbrev told : Doing
    told = JoinTold t bits at p n

    abbrev told-world : World
    told-world = world_of still v notes ns

    told-knows : IsTime t x.list × (1 < bits) × IsJoined v notes at p
    told-knows = x.knows

    told-leads : Leads s (stand (turns.ResendingDelete x.sent) first) (stand (doing_of x.list told) told-world)
    told-leads = x.led

    pub join_told_goes : GoesOn s still first v made notes (JoinTold t bits at p n) ns (turn_at v made notes (JoinTold t bits at p n))
    join_told_goes = by_node (nat_lt n 32) (joins_told v s under.agrees x.list told-world t bits at p n)
      where
        by_serves : (z : Bool) → Tells v s x.list told-world told (if z then Says (step.Tell n (body.Join p)) else Over (JoinTold t bits at p (n + 1)))
            → GoesOn s still first v made notes told ns (if z then Says (step.Tell n (body.Join p)) else Over (JoinTold t bits at p (n + 1)))
        by_serves true tells = λ named. stands_on s still first v made notes told ns x (JoinTold t bits at p (n + 1)) v notes (told_node n (body.Join p) ns) told-knows
            (lead_one s (stand (turns.ResendingDelete x.sent) first) (doing_of x.list told) told-world (stand (doing_of x.list (JoinTold t bits at p (n + 1))) (world_of still v notes (told_node n (body.Join p) ns))) told-leads tells)
        by_serves false tells = stands_on s still first v made notes told ns x (JoinTold t bits at p (n + 1)) v notes ns told-knows
            (lead_more s (stand (turns.ResendingDelete x.sent) first) (doing_of x.list told) told-world (stand (doing_of x.list (JoinTold t bits at p (n + 1))) told-world) told-leads tells)

        by_node : (z : Bool) → Tells v s x.list told-world told (if z then (if serves v.state n then Says (step.Tell n (body.Join p)) else Over (JoinTold t bits at p (n + 1))) else Over (JoinRound t bits at p))
            → GoesOn s still first v made notes told ns (if z then (if serves v.state n then Says (step.Tell n (body.Join p)) else Over (JoinTold t bits at p (n + 1))) else Over (JoinRound t bits at p))
        by_node true tells = by_serves (serves v.state n) tells
        by_node false tells = stands_on s still first v made notes told ns x (JoinRound t bits at p) v notes ns told-knows
            (lead_more s (stand (turns.ResendingDelete x.sent) first) (doing_of x.list told) told-world (stand (doing_of x.list (JoinRound t bits at p)) told-world) told-leads tells)

  -- ---- the parent has a round

  module _ (t : Time) (bits at : ℕ) (p : Low) (ns : ℕ → Node) (under : IsUnder s still v ns) (x : Stands s still first v made notes (JoinRound t bits at p) ns) where
    abbrev joined-world : World
    joined-world = world_of still v notes ns

    joined-knows : IsTime t x.list × (1 < bits) × IsJoined v notes at p
    joined-knows = x.knows

    is-joined : IsJoined v notes at p
    is-joined = joined-knows.2

    joined-leads : Leads s (stand (turns.ResendingDelete x.sent) first) (stand (doing_of x.list (JoinRound t bits at p)) joined-world)
    joined-leads = x.led

    module _ (w : View) (after : BTreeMap ℕ RowNote) (ms : ℕ → Node) (r : IsRoundAt s still v w notes after ns ms (place_of p v.rows)) where
      next-place : next_place (length w.rows) at ≡ suc at
      next-place =
          let long = round_length s still v w notes after ns ms (place_of p v.rows) under r in
          let within = slice_get_within v.rows at is-joined.place.0 is-joined.place.1 in
          let less : at < length w.rows = omega (arith, long, within) in
          let one : at + 1 ≡ suc at = omega arith in
          ap (λ (z : Bool). if z then at + 1 else at) (lt-to at (length w.rows) less) ∙ one

      parent-is-row : r.row.bucket ≡ p
      parent-is-row = bucket_there p v.rows v.lane under.rows is-joined.there r.row r.found

      round-turn : (made-then : turns.Time) → made-then ≡ turns.with_made p (time_of x.list t) → turn_at_rest s (doing_of x.list (JoinRound t bits at p)) joined-world
          ≡ stand (turns.Joining made-then bits (next_place (length w.rows) at)) (world_of still w after ms)
      round-turn made-then same =
          rounds_bucket s joined-world (row_of v.state still notes r.row) p (turns.Joining (turns.with_made p (time_of x.list t)) bits (suc at)) v.rows (world_buckets v.state still notes v.rows)
          (world_row v.state still notes v.rows (place_of p v.rows) r.row r.found)
          ∙ (ap (λ (z : World). stand (turns.Joining (turns.with_made p (time_of x.list t)) bits (suc at)) z) (sym (round_world s still v w notes after ns ms (place_of p v.rows) under r))
          ∙ ap₂ (λ (u : turns.Time) (k : ℕ). stand (turns.Joining u bits k) (world_of still w after ms)) (sym same) (sym next-place))

      whole-then : AreWhole w after
      whole-then = record {
        noted = round_noted_all s still v w notes after ns ms (place_of p v.rows) under r (subst (λ (q : Low). AreNotedBut (λ b. b ≡ q) v notes) (sym parent-is-row) is-joined.noted);
        deletes = round_quiet s still v w notes after ns ms (place_of p v.rows) under r is-joined.deletes;
      }

      parent-valid-row : IsBucket p
      parent-valid-row = subst IsBucket parent-is-row (row_valid v.lane v.rows under.rows (place_of p v.rows) r.row r.found)

      -- the row counts the second time
      by-time : (u : Time) (now : BTreeMap ℕ (Unit {0})) → u ≡ t → IsTime u x.list → Makes (made_by u p) made now → (list : List Low) × AreMade now list × IsTime u list × (time_of list u ≡ turns.with_made p (time_of x.list u))
      by-time First now same none makes = (x.list, subst (λ (m : BTreeMap ℕ (Unit {0})). AreMade m x.list) (sym makes) x.are_made, none, refl)
      by-time Again now same none makes = (p ∷ x.list, made-more p x.list made now parent-valid-row makes x.are_made, tt, refl)

      round-stands : (now : BTreeMap ℕ (Unit {0})) → Makes (made_by t p) made now → Stands s still first w now after (Joining t bits (next_place (length w.rows) at)) ms
      round-stands now makes =
          let then_made = by-time t now refl joined-knows.0 makes in
          record {
            order = x.order;
            list = then_made.0;
            are_made = then_made.1;
            knows = (then_made.2, joined-knows.1, whole-then);
            sent = x.sent;
            buckets = x.buckets;
            led = lead_one s (stand (turns.ResendingDelete x.sent) first) (doing_of x.list (JoinRound t bits at p)) joined-world
                (stand (turns.Joining (time_of then_made.0 t) bits (next_place (length w.rows) at)) (world_of still w after ms)) joined-leads (round-turn (time_of then_made.0 t) then_made.3);
          }

    pub join_round_goes : GoesOn s still first v made notes (JoinRound t bits at p) ns (turn_at v made notes (JoinRound t bits at p))
    join_round_goes = subst (λ (o : Option Row). GoesOn s still first v made notes (JoinRound t bits at p) ns (round_or (place_of p v.rows) o (Joining t bits (next_place (length v.rows) at))))
        (sym (row_there p v.rows v.lane under.rows is-joined.there)) (λ w now after ms later r makes. round-stands w after ms r now makes)
