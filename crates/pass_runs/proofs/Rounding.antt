-- The round of each row, and where the joins begin behind them.
use Rattle.std.proofs.Common.{◌≡◌, ◌∙◌, ◌⊎◌, inl, inr, ◌<◌, ◌≤◌, ◌+◌, ℕ, suc, Option, Some, None, refl, sym, ap, subst, arith, slice_get}
use Rattle.std.specs.BTreeMap.{BTreeMap}
use Rattle.std.proofs.lemmas.Bool.{cases_lt}
use Rattle.bucket_ids.specs.Buckets.{Low}
use Rattle.bucket_db.specs.declared.row.Row.{Row}
use Rattle.pass_model.specs.Nodes.{Node}
use Rattle.pass_model.specs.Rows as rest
use Rattle.pass_model.specs.Rows.{Settings}
use Rattle.pass_model.specs.Passes.{World}
use Rattle.pass_model.specs.Turns as turns
use Rattle.pass_model.specs.Turns.{stand, by_row, round_of, turn_at as turn_at_rest}
use Rattle.pass_machine.specs.declared.doing.Time.TheVariants.{First}
use Rattle.pass_machine.specs.declared.doing.Doing.TheVariants.{Rounding}
use Rattle.pass_machine.specs.declared.notes.RowNote.{RowNote}
use Rattle.pass_machine.specs.Turns.{View, begin_joins, round_or, turn_at}
use Rattle.pass_machine.specs.Abstract.{AreMade, doing_of}
use Rattle.pass_machine.proofs.Levels.{levels_same}
use Rattle.pass_machine.proofs.PlaceTurns.{rounds_row}
use Rattle.pass_runs.specs.Worlds.{IsUnder, row_of, world_of}
use Rattle.pass_runs.specs.Steps.{IsRoundAt}
use Rattle.pass_runs.specs.Standing.{HasNote, NotedBelow, Stands}
use Rattle.pass_runs.proofs.Goings.{GoesOn}
use Rattle.pass_runs.proofs.StandsOn.{stands_on}
use Rattle.pass_runs.proofs.Leading.{lead_one}
use Rattle.pass_runs.proofs.Rows.{world_buckets, world_none, world_row, none_behind}
use Rattle.pass_runs.proofs.RoundRows.{round_rows_are, round_bucket, round_noted, round_noted_still, round_quiet, round_world}

below-next : (i at : ℕ) → (i ≡ at → ⊥) → i < at + 1 → i < at
below-next i at off less = by_order (cases_lt i at)
  where
    by_order : (i < at) ⊎ (at ≤ i) → i < at
    by_order (inl l) = l
    by_order (inr l) = let same : i ≡ at = omega (arith, l, less) in absurd (off same)

module _ (s : Settings) (still : ℕ → Node) (first : World) (v : View) (made : BTreeMap ℕ (Unit {0})) (notes : BTreeMap ℕ RowNote) (at : ℕ) (ns : ℕ → Node) (under : IsUnder s still v ns) (x : Stands s still first v made notes (Rounding at) ns) where
  abbrev here : World
  here = world_of still v notes ns

  -- behind the last row
  joins-begin : slice_get v.rows at ≡ None → Stands s still first v made notes (begin_joins v First) ns
  joins-begin none =
      stands_on s still first v made notes (Rounding at) ns x (begin_joins v First) v notes ns (x.knows.0, omega arith, record { noted = λ k row found. x.knows.1 k row (none_behind v.rows at k row none found) found; deletes = x.knows.2 })
      (lead_one s (stand (turns.ResendingDelete x.sent) first) (turns.Rounding at) here (stand (doing_of x.list (begin_joins v First)) here) x.led begins)
    where
      begins : turn_at_rest s (turns.Rounding at) here ≡ stand (doing_of x.list (begin_joins v First)) here
      begins = ap (λ (o : Option rest.Row). by_row o (turns.begin_joins turns.First here) (λ q. stand (turns.Rounding (suc at)) (round_of s at q here))) (world_none v.state still notes v.rows at none)
          ∙ ap (λ (k : ℕ). stand (turns.Joining turns.First 58 k) here) (sym (levels_same v.lane 58 v.rows here.rows under.rows (world_buckets v.state still notes v.rows)))

  -- behind a round
  round-more : (w : View) (now : BTreeMap ℕ (Unit {0})) (after : BTreeMap ℕ RowNote) (ms : ℕ → Node) → IsRoundAt s still v w notes after ns ms at → now ≡ made → Stands s still first w now after (Rounding (at + 1)) ms
  round-more w now after ms r same = record {
    order = x.order;
    list = x.list;
    are_made = subst (λ (m : BTreeMap ℕ (Unit {0})). AreMade m x.list) (sym same) x.are_made;
    knows = (x.knows.0, noted, round_quiet s still v w notes after ns ms at under r x.knows.2);
    sent = x.sent;
    buckets = x.buckets;
    led = lead_one s (stand (turns.ResendingDelete x.sent) first) (turns.Rounding at) here (stand (turns.Rounding (at + 1)) (world_of still w after ms)) x.led
        (rounds_row s here (row_of v.state still notes r.row) at (world_row v.state still notes v.rows at r.row r.found)
        ∙ ap (λ (z : World). stand (turns.Rounding (at + 1)) z) (sym (round_world s still v w notes after ns ms at under r)));
  }
    where
      noted : NotedBelow (at + 1) w after
      noted k row less found = elim (round_rows_are s still v w notes after ns ms at under r k row found) [
        | inl e ↦ subst (λ (b : Low). HasNote w after b) (sym (ap (λ (q : Row). q.bucket) e.1 ∙ round_bucket s still v w notes after ns ms at under r)) (round_noted s still v w notes after ns ms at under r)
        | inr e ↦ by_other e.0 e.1
      ]
        where
          by_other : (k ≡ at → ⊥) → slice_get v.rows k ≡ Some row → HasNote w after row.bucket
          by_other off there = round_noted_still s still v w notes after ns ms at under r k row off there (x.knows.1 k row (below-next k at off less) there)

  pub rounding_goes : GoesOn s still first v made notes (Rounding at) ns (turn_at v made notes (Rounding at))
  rounding_goes = by_row_of (slice_get v.rows at) refl
    where
      by_row_of : (o : Option Row) → slice_get v.rows at ≡ o → GoesOn s still first v made notes (Rounding at) ns (round_or at o (begin_joins v First))
      by_row_of None none = joins-begin none
      by_row_of (Some row) found = λ w now after ms later r makes. round-more w now after ms r makes
