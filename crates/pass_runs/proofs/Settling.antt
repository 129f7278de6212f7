-- A row that is settled: the pass stands behind each turn of it.
use Rattle.std.proofs.Common.{◌≡◌, ◌∙◌, ◌+◌, ℕ, true, false, List, Option, Some, None, inl, inr, refl, sym, ap, subst, slice_get, slice_set}
use Rattle.std.specs.BTreeMap.{BTreeMap}
use Rattle.bucket_ids.specs.Buckets.{Low}
use Rattle.cluster_states.specs.Publishing.{serves}
use Rattle.bucket_db.specs.declared.row.Row.{Row}
use Rattle.pass_model.specs.Nodes.{Node}
use Rattle.pass_model.specs.Shapes.{Shape}
use Rattle.pass_model.specs.Rows as rest
use Rattle.pass_model.specs.Rows.{Settings}
use Rattle.pass_model.specs.Passes.{World}
use Rattle.pass_model.specs.Scripts.{told_node}
use Rattle.pass_model.specs.Turns as turns
use Rattle.pass_model.specs.Turns.{Stand, Unanswered, stand, with_place_row, round_of}
use Rattle.pass_model.specs.Orders as orders
use Rattle.pass_model.specs.Orders.{AreInOrder}
use Rattle.pass_machine.specs.declared.doing.Time.{Time}
use Rattle.pass_machine.specs.declared.doing.Settle.{Settle}
use Rattle.pass_machine.specs.declared.doing.Settle.TheVariants as settle
use Rattle.pass_machine.specs.declared.doing.Doing.{Doing}
use Rattle.pass_machine.specs.declared.doing.Doing.TheVariants.{Settling}
use Rattle.pass_machine.specs.declared.doing.UpkeepStep.TheVariants as step
use Rattle.pass_machine.specs.declared.doing.Turn.{Turn}
use Rattle.pass_machine.specs.declared.doing.Turn.TheVariants.{Over, Says}
use Rattle.pass_machine.specs.declared.notes.RowNote.{RowNote}
use Rattle.pass_machine.specs.Notes.{note_for, whole_in}
use Rattle.pass_machine.specs.Turns.{View, settle_turn, by_note, by_row, turn_at, answered_row, decided_row}
use Rattle.pass_machine.specs.Abstract.{AreMade, Pends, IsParted, IsPlace, Refines, time_of, settle_of, doing_of, row_with, answer_of, after_decision}
use Rattle.pass_machine.proofs.SettleTurns.{settle_refines}
use Rattle.pass_machine.proofs.Pending.{pends_told}
use Rattle.pass_runs.specs.Worlds.{IsUnder, shown_at, row_of, world_of}
use Rattle.pass_runs.specs.Standing.{HasNote, NoneDeletes, IsTime, IsSettled, Leads, Stands}
use Rattle.pass_runs.proofs.Goings.{GoesOn}
use Rattle.pass_runs.proofs.Leading.{lead_one, lead_then, lead_same}
use Rattle.pass_runs.proofs.Rows.{same_some, row_noted, row_valid, shown_shows, world_row}
use Rattle.pass_runs.proofs.RoundRows.{round_world, round_quiet, round_noted_all}
use Rattle.pass_runs.proofs.SettledRows.{none_settled, stays_settled, next_settled, set_settled, set_world}
use Rattle.pass_runs.proofs.PlaceChanges.{accept_changes}
use Rattle.pass_runs.proofs.SettlingEnds.{end_stands}
use Rattle.pass_runs.proofs.SettleFits.{Fits, begin_fits, align_fits, ready_fits, decide_fits, activate_fits, accept_fits, delete_fits, told_fits, over_fits}

-- ---- one row with its note

module _ (s : Settings) (still : ℕ → Node) (first : World) (v : View) (made : BTreeMap ℕ (Unit {0})) (notes : BTreeMap ℕ RowNote) (t : Time) (at : ℕ) (ns : ℕ → Node) (u : IsUnder s still v ns)
    (order : AreInOrder s first.rows) (list : List Low) (are_made : AreMade made list) (time : IsTime t list) (sent : List Unanswered) (of_buckets : orders.AreOfBuckets sent)
    (r : Row) (note : RowNote) (found : slice_get v.rows at ≡ Some r) (noted : whole_in (note_for r.bucket notes) ≡ Some note) (parted : IsParted (serves v.state) note) where
  abbrev w : World
  w = world_of still v notes ns

  abbrev from : Stand
  from = stand (turns.ResendingDelete sent) first

  abbrev shown : ℕ → Shape
  shown = shown_at v.state still r.bucket note

  abbrev one : rest.Row
  one = row_with shown (Some note) r

  abbrev Led-to : Settle → World → Type 0
  Led-to next x = Leads s from (stand (settle_of (time_of list t) at next) x)

  abbrev Does : Settle → Turn → Type 0
  Does next x = Refines v s list w r note shown (Settling t at next) x

  abbrev Goes : Settle → Turn → Type 0
  Goes next x = GoesOn s still first v made notes (Settling t at next) ns x

  -- where the pass stands with any row
  stands : (x : View) (after : BTreeMap ℕ RowNote) (place : ℕ) (next : Settle) (ms : ℕ → Node) → IsSettled still x after place next → Leads s from (stand (settle_of (time_of list t) place next) (world_of still x after ms))
      → Stands s still first x made after (Settling t place next) ms
  stands x after place next ms k led = record { order = order; list = list; are_made = are_made; knows = (time, k); sent = sent; buckets = of_buckets; led = led }

  module _ (next : Settle) (k : IsSettled still v notes at next) (led : Led-to next w) where
    place-of : IsPlace v s w at r note shown next
    place-of = record {
      agrees = u.agrees;
      found = found;
      valid = row_valid v.lane v.rows u.rows at r found;
      serving = λ n e. u.actives at r n found e;
      parted = parted;
      shows = shown_shows v.state still r.bucket note;
      seen = world_row v.state still notes v.rows at r found ∙ ap (λ (q : rest.Row). Some q) (row_noted v.state still notes r note noted);
      pends = k.pends r note found noted;
    }

    refines : Does next (settle_turn v made t at r note next)
    refines = settle_refines v s made list are_made w t at r note shown (u.ideal r.bucket) next place-of

    -- the row becomes another
    becomes : (x : View) (then : Row) → x ≡ record v { rows = slice_set v.rows at then } → then.bucket ≡ r.bucket → (after : Settle) → Pends (serves v.state) after shown then
        → turns.turn_at s (settle_of (time_of list t) at next) w ≡ stand (settle_of (time_of list t) at after) (with_place_row at (row_with shown (Some note) then) w)
        → Stands s still first x made notes (Settling t at after) ns
    becomes x then view same after h turn = subst (λ (y : View). Stands s still first y made notes (Settling t at after) ns) (sym view)
        (stands (record v { rows = slice_set v.rows at then }) notes at after ns (set_settled still v notes at next r note found noted k then same after h)
        (lead_same s from (settle_of (time_of list t) at after) (with_place_row at (row_with shown (Some note) then) w) (world_of still (record v { rows = slice_set v.rows at then }) notes ns) (set_world still v notes at next r note found noted k then same ns)
        (lead_one s from (settle_of (time_of list t) at next) w (stand (settle_of (time_of list t) at after) (with_place_row at (row_with shown (Some note) then) w)) led turn)))

    -- by what the turn leaves of the row
    by-turn : (x : Turn) → settle_turn v made t at r note next ≡ x → Fits v s made w t at r note shown next x → Does next x → Goes next x
    by-turn (Over e) h f g = elim f [
      | inl a ↦ subst (λ (y : Doing). Stands s still first v made notes y ns) (sym a.1)
          (stands v notes at a.0 ns (stays_settled still v notes at next r note found noted k a.0 a.2)
          (lead_then s from (stand (settle_of (time_of list t) at next) w) (stand (settle_of (time_of list t) at a.0) w) led (subst (λ (y : Doing). Leads s (stand (settle_of (time_of list t) at next) w) (stand (doing_of list y) w)) a.1 g)))
      | inr a ↦ subst (λ (y : Doing). Stands s still first v made notes y ns) (sym a.0)
          (stands v notes (at + 1) settle.Beginning ns (next_settled still v notes at next r note found noted k a.1)
          (lead_then s from (stand (settle_of (time_of list t) at next) w) (stand (settle_of (time_of list t) (at + 1) settle.Beginning) w) led (subst (λ (y : Doing). Leads s (stand (settle_of (time_of list t) at next) w) (stand (doing_of list y) w)) a.0 g)))
    ]
    by-turn (Says (step.Tell n b)) h f g = λ named.
        stands v notes at (answered_row v at (answer_of b (ns n)) next) (told_node n b ns)
        (stays_settled still v notes at next r note found noted k (answered_row v at (answer_of b (ns n)) next) (pends_told v s made w t at r note shown next place-of n b h (ns n)))
        (lead_one s from (settle_of (time_of list t) at next) w (stand (settle_of (time_of list t) at (answered_row v at (answer_of b (ns n)) next)) (world_of still v notes (told_node n b ns))) led g)
    by-turn (Says (step.Decide j x)) h f g = subst (λ (i : ℕ). Goes next (Says (step.Decide i x))) (sym f.0) (λ y after under c e.
        let z = f.1 y c in
        subst (λ (m : BTreeMap ℕ RowNote). Stands s still first y made m (Settling t at (decided_row next)) ns) (sym e)
        (becomes y (after_decision z.0 x r) z.2 (f.3 z.0) (decided_row next) (f.2 z.0) (subst (λ (i : ℕ). Does next (Says (step.Decide i x))) f.0 g z.0 z.1)))
    by-turn (Says (step.Accept j)) h f g = subst (λ (i : ℕ). Goes next (Says (step.Accept i))) (sym f.0) (λ y under c.
        becomes y (record r { accepted = true }) (accept_changes v at r found y c) refl (decided_row next) f.1 (subst (λ (i : ℕ). Does next (Says (step.Accept i))) f.0 g))
    by-turn (Says (step.Round j)) h f g = absurd f
    by-turn (Says step.Finished) h f g = tt

    goes-by : Fits v s made w t at r note shown next (settle_turn v made t at r note next) → Goes next (settle_turn v made t at r note next)
    goes-by f = by-turn (settle_turn v made t at r note next) refl f refines

  -- one more round of the row
  round-goes : IsSettled still v notes at settle.AlignRound → Led-to settle.AlignRound w → Goes settle.AlignRound (Says (step.Round at))
  round-goes k led = λ y now after ms under x e.
      let same : r ≡ x.row = same_some (slice_get v.rows at) r x.row found x.found in
      let quiet : NoneDeletes y.rows = round_quiet s still v y notes after ns ms at u x (none_settled still v notes at settle.AlignRound r note found noted k (k.pends r note found noted)) in
      let world : round_of s at one w ≡ world_of still y after ms =
      ap (λ (q : rest.Row). round_of s at q w) (sym (row_noted v.state still notes r note noted) ∙ ap (λ (q : Row). row_of v.state still notes q) same) ∙ sym (round_world s still v y notes after ns ms at u x) in
      subst (λ (m : BTreeMap ℕ (Unit {0})). Stands s still first y m after (Settling t at (settle.Readying 0 false)) ms) (sym e)
      (stands y after at (settle.Readying 0 false) ms
      (record {
        noted = round_noted_all s still v y notes after ns ms at u x (λ i q there off. k.noted i q there);
        others = λ i q off there. quiet i q there;
        pends = λ q n there is. quiet at q there;
      })
      (lead_same s from (settle_of (time_of list t) at (settle.Readying 0 false)) (round_of s at one w) (world_of still y after ms) world
      (lead_one s from (settle_of (time_of list t) at settle.AlignRound) w (stand (settle_of (time_of list t) at (settle.Readying 0 false)) (round_of s at one w)) led (refines settle.AlignRound k led))))

  row-goes : (next : Settle) (k : IsSettled still v notes at next) → Led-to next w → Goes next (settle_turn v made t at r note next)
  row-goes settle.Beginning k led = goes-by settle.Beginning k led (begin_fits v s made w t at r note shown (k.pends r note found noted))
  row-goes (settle.Aligning n any) k led = goes-by (settle.Aligning n any) k led (align_fits v s made w t at r note shown (k.pends r note found noted) n any)
  row-goes settle.AlignRound k led = round-goes k led
  row-goes (settle.Readying n ready) k led = goes-by (settle.Readying n ready) k led (ready_fits v s made w t at r note shown (k.pends r note found noted) n ready)
  row-goes (settle.Deciding ready) k led = goes-by (settle.Deciding ready) k led (decide_fits v s made w t at r note shown (k.pends r note found noted) ready found)
  row-goes settle.Activating k led = goes-by settle.Activating k led (activate_fits v s made w t at r note shown (k.pends r note found noted))
  row-goes (settle.Accepting accepted) k led = goes-by (settle.Accepting accepted) k led (accept_fits v s made w t at r note shown (k.pends r note found noted).0 accepted)
  row-goes (settle.Deleting n) k led = goes-by (settle.Deleting n) k led (delete_fits v s made w t at r note shown n (place-of (settle.Deleting n) k led))
  row-goes (settle.DeleteTold n) k led = goes-by (settle.DeleteTold n) k led (told_fits v s made w t at r note shown n (place-of (settle.DeleteTold n) k led))
  row-goes (settle.DeleteOver n) k led = goes-by (settle.DeleteOver n) k led (over_fits v s made w t at r note shown n (place-of (settle.DeleteOver n) k led) k.others)

-- ---- any row

pub settling_goes : (s : Settings) (still : ℕ → Node) (first : World) (v : View) (made : BTreeMap ℕ (Unit {0})) (notes : BTreeMap ℕ RowNote) (t : Time) (at : ℕ) (next : Settle) (ns : ℕ → Node)
    → IsUnder s still v ns → Stands s still first v made notes (Settling t at next) ns → GoesOn s still first v made notes (Settling t at next) ns (turn_at v made notes (Settling t at next))
settling_goes s still first v made notes t at next ns u x = by_found (slice_get v.rows at) refl
  where
    by_found : (o : Option Row) → slice_get v.rows at ≡ o → GoesOn s still first v made notes (Settling t at next) ns (by_row v made notes t at o next)
    by_found None none = end_stands s still first v made notes at next ns u x.order x.list x.are_made x.sent x.buckets (x.knows).1 none t (x.knows).0 x.led
    by_found (Some r) found =
        let h : HasNote v notes r.bucket = ((x.knows).1).noted at r found in
        subst (λ (o : Option RowNote). GoesOn s still first v made notes (Settling t at next) ns (by_note v made t at r o next)) (sym h.noted)
        (row-goes s still first v made notes t at ns u x.order x.list x.are_made (x.knows).0 x.sent x.buckets r h.note found h.noted h.parted next (x.knows).1 x.led)
