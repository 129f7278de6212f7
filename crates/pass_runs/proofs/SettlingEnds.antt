-- Behind the last row that is settled come the joins of the second time, or the pass is over.
use Rattle.std.proofs.Common.{◌≡◌, ◌∙◌, ℕ, suc, false, List, [], Option, Some, None, refl, sym, ap, subst, arith, slice_get}
use Rattle.std.specs.BTreeMap.{BTreeMap}
use Rattle.bucket_ids.specs.Buckets.{Low}
use Rattle.bucket_db.specs.declared.row.Row.{Row}
use Rattle.pass_model.specs.Nodes.{Node}
use Rattle.pass_model.specs.Rows as rest
use Rattle.pass_model.specs.Rows.{Settings}
use Rattle.pass_model.specs.Passes.{World}
use Rattle.pass_model.specs.Turns as turns
use Rattle.pass_model.specs.Turns.{Stand, Unanswered, stand, turn_at}
use Rattle.pass_model.specs.Orders as orders
use Rattle.pass_model.specs.Orders.{AreInOrder}
use Rattle.pass_machine.specs.declared.doing.Time.{Time}
use Rattle.pass_machine.specs.declared.doing.Time.TheVariants.{First, Again}
use Rattle.pass_machine.specs.declared.doing.Settle.{Settle}
use Rattle.pass_machine.specs.declared.doing.Settle.TheVariants as settle
use Rattle.pass_machine.specs.declared.notes.RowNote.{RowNote}
use Rattle.pass_machine.specs.Places.{first_with}
use Rattle.pass_machine.specs.Turns.{View, end_settling}
use Rattle.pass_machine.specs.Abstract.{AreMade, time_of, settle_of}
use Rattle.pass_machine.proofs.Levels.{levels_same}
use Rattle.pass_runs.specs.Worlds.{IsUnder, world_of}
use Rattle.pass_runs.specs.Standing.{IsTime, IsSettled, Leads, Stands}
use Rattle.pass_runs.proofs.Leading.{lead_none, lead_one, lead_then}
use Rattle.pass_runs.proofs.Rows.{world_buckets, world_none, none_next}

none-there : {X : Type 0} (o : Option X) (x : X) → o ≡ None → o ≡ Some x → ⊥
none-there o x e f = cc

-- ---- the turns where there is no row at the place

module _ (s : Settings) (time : turns.Time) (w : World) where
  place-ends : (at : ℕ) → slice_get w.rows at ≡ None → turn_at s (turns.Settling time at) w ≡ turns.end_settling time w
  place-ends at none = ap (λ (o : Option rest.Row). turns.by_row o (turns.end_settling time w) (turns.settle_next time at w)) none

  module _ (at : ℕ) (none : slice_get w.rows at ≡ None) where
    -- one turn to the next place, and one more
    passes-on : (d : turns.Doing) (f : rest.Row → Stand) → turn_at s d w ≡ turns.by_row (slice_get w.rows at) (stand (turns.Settling time (suc at)) w) f → Leads s (stand d w) (turns.end_settling time w)
    passes-on d f h =
        lead_one s (stand d w) (turns.Settling time (suc at)) w (turns.end_settling time w)
        (lead_one s (stand d w) d w (stand (turns.Settling time (suc at)) w) (lead_none s (stand d w)) (h ∙ ap (λ (o : Option rest.Row). turns.by_row o (stand (turns.Settling time (suc at)) w) f) none))
        (place-ends (suc at) (none_next w.rows at none))

    deletes-end : (n : ℕ) → Leads s (stand (turns.Deleting time at n) w) (turns.end_settling time w)
    deletes-end n = passes-on (turns.Deleting time at n) (turns.deleting s time at n w) refl

    pub place_ends : (next : Settle) → Leads s (stand (settle_of time at next) w) (turns.end_settling time w)
    place_ends settle.Beginning = lead_one s (stand (turns.Settling time at) w) (turns.Settling time at) w (turns.end_settling time w) (lead_none s (stand (turns.Settling time at) w)) (place-ends at none)
    place_ends (settle.Aligning n any) = passes-on (turns.Aligning time at n any) (turns.aligning s time at n any w) refl
    place_ends settle.AlignRound = passes-on (turns.AlignRound time at) (λ r. stand (turns.Readying time at 0 false) (turns.round_of s at r w)) refl
    place_ends (settle.Readying n ready) = passes-on (turns.Readying time at n ready) (turns.readying s time at n ready w) refl
    place_ends (settle.Deciding ready) = passes-on (turns.Deciding time at ready) (λ r. stand (turns.Activating time at) (turns.with_place_row at (turns.decided s ready r) w)) refl
    place_ends settle.Activating = passes-on (turns.Activating time at) (turns.activate_then (turns.Accepting time at) w) refl
    place_ends (settle.Accepting accepted) = passes-on (turns.Accepting time at accepted) (λ r. stand (turns.Deleting time at 0) (turns.with_place_row at (turns.accepted_if accepted r) w)) refl
    place_ends (settle.Deleting n) = deletes-end n
    place_ends (settle.DeleteTold n) = passes-on (turns.DeleteTold time at n) (turns.delete_told time at n w) refl
    place_ends (settle.DeleteOver n) = lead_then s (stand (turns.DeleteOver time at n) w) (stand (turns.Deleting time at (suc n)) w) (turns.end_settling time w)
        (lead_one s (stand (turns.DeleteOver time at n) w) (turns.DeleteOver time at n) w (stand (turns.Deleting time at (suc n)) w) (lead_none s (stand (turns.DeleteOver time at n) w)) refl) (deletes-end (suc n))

-- ---- where the pass stands then

module _ (s : Settings) (still : ℕ → Node) (first : World) (v : View) (made : BTreeMap ℕ (Unit {0})) (notes : BTreeMap ℕ RowNote) (at : ℕ) (next : Settle) (ns : ℕ → Node) (u : IsUnder s still v ns)
    (order : AreInOrder s first.rows) (list : List Low) (are_made : AreMade made list) (sent : List Unanswered) (of_buckets : orders.AreOfBuckets sent) (k : IsSettled still v notes at next) (none : slice_get v.rows at ≡ None) where
  abbrev w : World
  w = world_of still v notes ns

  abbrev from : Stand
  from = stand (turns.ResendingDelete sent) first

  no-row : slice_get w.rows at ≡ None
  no-row = world_none v.state still notes v.rows at none

  no-deletes : (i : ℕ) (row : Row) → slice_get v.rows i ≡ Some row → row.deleting ≡ None
  no-deletes i row there = k.others i row (λ e. none-there (slice_get v.rows at) row none (subst (λ (j : ℕ). slice_get v.rows j ≡ Some row) e there)) there

  pub end_stands : (t : Time) → IsTime t list → Leads s from (stand (settle_of (time_of list t) at next) w) → Stands s still first v made notes (end_settling v t) ns
  end_stands First time led = record {
    order = order;
    list = list;
    are_made = are_made;
    knows = (tt, omega arith, record { noted = k.noted; deletes = no-deletes });
    sent = sent;
    buckets = of_buckets;
    led = subst (λ (made_now : List Low). Leads s from (stand (turns.Joining (turns.Again made_now) 58 (first_with 58 v.rows)) w)) (sym time)
        (subst (λ (place : ℕ). Leads s from (stand (turns.Joining (turns.Again []) 58 place) w)) (sym (levels_same v.lane 58 v.rows w.rows u.rows (world_buckets v.state still notes v.rows)))
        (lead_then s from (stand (settle_of turns.First at next) w) (turns.end_settling turns.First w) led (place_ends s turns.First w at no-row next)));
  }
  end_stands Again time led = record {
    order = order;
    list = list;
    are_made = are_made;
    knows = tt;
    sent = sent;
    buckets = of_buckets;
    led = lead_then s from (stand (settle_of (turns.Again list) at next) w) (turns.end_settling (turns.Again list) w) led (place_ends s (turns.Again list) w at no-row next);
  }
