-- Each turn keeps what holds where the machine stands, and so do turns to the end.
use Rattle.std.proofs.Common.{◌≡◌, ℕ, zero, suc, Some, None, slice_get, slice_set, refl, sym, ◌∙◌, subst}
use Rattle.pass_model.specs.Rows.{Settings, Row, round_row}
use Rattle.pass_model.specs.Settling.{round_at}
use Rattle.pass_model.specs.Passes.{World, nowhere, Joins, Passes}
use Rattle.pass_model.specs.Resting.{AreSettings}
use Rattle.pass_model.proofs.Sweeping.{before-next, before-all}
use Rattle.pass_model.specs.Turns.{Time, First, Again, Doing, ResendingDelete, ResentDelete, ResendingActivate, ResentActivate, Rounding, Joining, JoinTold, JoinRound, Splitting, SplitTold, SplitFirst, SplitSecond, Settling, Aligning, AlignRound, Readying, Deciding, Activating, Accepting, Deleting, DeleteTold, DeleteOver, Finished, Stand, stand, is_due, round_of, begin_joins, end_settling, settle_next, turn_at, turn, turns}
use Rattle.pass_model.specs.Orders.{ActiveServes, AreInOrder}
use Rattle.pass_model.proofs.Walking.{each-next, each-end}
use Rattle.pass_model.proofs.RowLists.{all-at, before-set, none-at, set-get}
use Rattle.pass_model.proofs.RoundedRows.{IsRounded, round-rounded}
use Rattle.pass_model.proofs.OrderedRows.{order-set}
use Rattle.pass_model.proofs.Reached.{Reached, Standing, IsSettling}
use Rattle.pass_model.proofs.Standings.{by-row}
use Rattle.pass_model.proofs.SettleTurns.{settled-all, next-row, aligns, aligns-round, readies, decides, activates, accepts, deletes, tells-delete}
use Rattle.pass_model.proofs.JoinTurns.{begins-first, begins-again, joins-next, tells-join, rounds-join}
use Rattle.pass_model.proofs.SplitTurns.{splits-next, tells-split, rounds-first, rounds-second}

module _ (s : Settings) (sound : AreSettings s) (b : World) where
  -- ---- the first rounds

  rounds-row : (at : ℕ) (w : World) → AreInOrder s w.rows → Reached s b (Rounding at) w → (r : Row) → slice_get w.rows at ≡ Some r → Standing s b (stand (Rounding (suc at)) (round_of s at r w))
  rounds-row at w order x r found =
      let q = round_row s r w.nodes in (
        order-set s w.rows at r q found refl (all-at (ActiveServes s) w.rows at r found order.serve) order,
        (
          sym (each-next (round_at s) at w.nodes w.rows r found) ∙ x.0,
          before-next (IsRounded s) at (slice_set w.rows at q) q (set-get w.rows at r q found) (round-rounded s r w.nodes) (before-set (IsRounded s) w.rows at q x.1),
        ),
      )

  rounds-end : (at : ℕ) (w : World) → AreInOrder s w.rows → Reached s b (Rounding at) w → slice_get w.rows at ≡ None → Standing s b (begin_joins First w)
  rounds-end at w order x none = begins-first s b w order (sym (each-end (round_at s) at w.nodes w.rows none) ∙ x.0) (before-all (IsRounded s) at w.rows (none-at w.rows at none) x.1)

  -- ---- all rows are settled

  settles-end : (t : Time) (at : ℕ) (w : World) → AreInOrder s w.rows → IsSettling s b t at w → slice_get w.rows at ≡ None → Standing s b (end_settling t w)
  settles-end First at w order x none = begins-again s b w order (record { parted = x.from; split = x.origin; settled = settled-all s b sound First at w order x none }) x.rounded
  settles-end (Again made) at w order x none =
      let a = x.origin in
      let p = a.settled.split in (
        order,
        record {
          joined = p.joined;
          made = p.first.made;
          joins = p.first.joins;
          no_pair = p.first.no_pair;
          parted = a.settled.parted;
          splits = p.splits;
          not_full = p.not_full;
          again = x.from;
          left = is_due (Again made);
          joins_again = subst (λ (v : World). Joins s v nowhere x.from (is_due (Again made))) a.settled.settled a.joins;
          no_pair_again = a.no_pair;
          is_last = settled-all s b sound (Again made) at w order x none;
        },
      )

  -- ---- one turn

  pub stands : (d : Doing) (w : World) → AreInOrder s w.rows → Reached s b d w → Standing s b (turn_at s d w)
  stands (ResendingDelete deletes) w order x = absurd x
  stands (ResentDelete deletes) w order x = absurd x
  stands (ResendingActivate at) w order x = absurd x
  stands (ResentActivate at answered) w order x = absurd x
  stands (Rounding at) w order x = by-row (Standing s b) (slice_get w.rows at) (begin_joins First w) (λ r. stand (Rounding (suc at)) (round_of s at r w)) (rounds-end at w order x) (rounds-row at w order x)
  stands (Joining t bits at) w order x = joins-next s b sound t bits at w order x
  stands (JoinTold t bits at p k) w order x = tells-join s b sound t bits at p w order x.0 x.1 k x.2
  stands (JoinRound t bits at p) w order x = rounds-join s b sound t bits at p w order x.0 x.1 x.2
  stands (Splitting at) w order x = splits-next s b at w order x
  stands (SplitTold at p k) w order x = tells-split s b sound at p w order x.0 x.1 k x.2
  stands (SplitFirst at p) w order x = rounds-first s b at p w order x.0 x.1 x.2
  stands (SplitSecond at p) w order x = rounds-second s b at p w order x.0 x.1 x.2
  stands (Settling t at) w order x = by-row (Standing s b) (slice_get w.rows at) (end_settling t w) (settle_next t at w) (settles-end t at w order x) (next-row s b sound t at w order x)
  stands (Aligning t at k any) w order x = aligns s b sound t at w order k any x.0 x.1 x.2
  stands (AlignRound t at) w order x = aligns-round s b sound t at w order x
  stands (Readying t at k ready) w order x = readies s b sound t at w order k ready x.0 x.1
  stands (Deciding t at ready) w order x = decides s b sound t at w order ready x
  stands (Activating t at) w order x = activates s b sound t at w order x
  stands (Accepting t at answered) w order x = accepts s b sound t at w order answered x
  stands (Deleting t at k) w order x = deletes s b sound t at w order k x.0 x.1
  stands (DeleteTold t at k) w order x = tells-delete s b sound t at w order k x.0 x.1
  stands (DeleteOver t at k) w order x = (order, x)
  stands Finished w order x = (order, x)

  -- ---- turns

  pub turns-stand : (many : ℕ) (x : Stand) → Standing s b x → Standing s b (turns s many x)
  unfolding turns turn
  turns-stand zero x h = h
  turns-stand (suc many) x h = turns-stand many (turn s x) (stands x.doing x.world h.0 h.1)

  pub turns-pass : (after : World) (many : ℕ) → AreInOrder s b.rows → turns s many (stand (Rounding 0) b) ≡ stand Finished after → Passes s b after
  turns-pass after many order e = (subst (λ (x : Stand). Standing s b x) e (turns-stand many (stand (Rounding 0) b) (order, (refl, tt)))).1
