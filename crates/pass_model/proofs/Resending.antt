-- Turns in which Deletes and Activates are sent again, and the pass behind them.
use Rattle.std.proofs.Common.{◌≡◌, ℕ, zero, suc, Bool, List, [], ◌∷◌, Option, Some, None, slice_get, slice_set, refl, sym, ap, ap₂, ◌∙◌, subst, ◌⊎◌, inl, inr}
use Rattle.std.specs.List.{remove}
use Rattle.pass_model.specs.Nodes.{Node}
use Rattle.pass_model.specs.Rows.{Settings, Row}
use Rattle.pass_model.specs.Settling.{activate_nodes, activate_row, could_activate}
use Rattle.pass_model.specs.Passes.{World, Among, Resends, NoResend, DeleteAgain, ActivateAgain, delete_again, Passes}
use Rattle.pass_model.specs.Resting.{AreSettings}
use Rattle.pass_model.proofs.Sweeping.{among-removed}
use Rattle.pass_model.specs.Turns.{Unanswered, Doing, ResendingDelete, ResentDelete, ResendingActivate, ResentActivate, Rounding, Finished, Stand, stand, with_place_row, activate_then, accepted_if, turn_at, turn, turns}
use Rattle.pass_model.specs.Orders.{ActiveServes, AreInOrder, AreOfBuckets}
use Rattle.pass_model.proofs.Walking.{same-row}
use Rattle.pass_model.proofs.RowLists.{all-at, set-get}
use Rattle.pass_model.proofs.OrderedRows.{order-set}
use Rattle.pass_model.proofs.Reached.{Standing}
use Rattle.pass_model.proofs.Standings.{by-row}
use Rattle.pass_model.proofs.Turning.{stands}

removed-set : (rows : List Row) (at : ℕ) (q : Row) → remove (slice_set rows at q) at ≡ remove rows at
removed-set [] zero q = refl
removed-set [] (suc at) q = refl
removed-set (x ∷ xs) zero q = refl
removed-set (x ∷ xs) (suc at) q = ap (λ ys. x ∷ ys) (removed-set xs at q)

among-set : (rows : List Row) (at : ℕ) (r q : Row) → slice_get rows at ≡ Some r → Among q (slice_set rows at q) (remove rows at)
among-set rows at r q found = subst (λ (rest : List Row). Among q (slice_set rows at q) rest) (removed-set rows at q) (among-removed (slice_set rows at q) at q (set-get rows at r q found))

module _ (s : Settings) (sound : AreSettings s) (b : World) where
  resends-then : (a c d : World) → Resends s a c → Resends s c d → Resends s a d
  resends-then a c d (NoResend w) more = more
  resends-then a c d (DeleteAgain ns rows n k bucket end valid first) more = DeleteAgain ns rows n k bucket d valid (resends-then (record { nodes = delete_again n bucket k ns; rows = rows }) c d first more)
  resends-then a c d (ActivateAgain ns rows rest after r end out into first) more = ActivateAgain ns rows rest after r d out into (resends-then (record { nodes = activate_nodes r ns; rows = after }) c d first more)

  -- the active node of a row was told so again
  record WasActivated (at : ℕ) (answered : Bool) (w : World) : Type 0 where
    pub before : World
    pub resends : Resends s b before
    pub row : Row
    pub found : slice_get before.rows at ≡ Some row
    pub rows : w.rows ≡ before.rows
    pub nodes : w.nodes ≡ activate_nodes row before.nodes
    pub is : answered ≡ could_activate row.bucket before.nodes row.active

  abbrev Resending : Doing → World → Type 0
  Resending (ResendingDelete deletes) w = AreOfBuckets deletes × Resends s b w
  Resending (ResentDelete deletes) w = AreOfBuckets deletes × Resends s b w
  Resending (ResendingActivate at) w = Resends s b w
  Resending (ResentActivate at answered) w = WasActivated at answered w
  Resending _ w = ⊥

  -- something is still to be sent again, or all was, and then a pass began
  abbrev Stood : Stand → Type 0
  Stood x = (AreInOrder s x.world.rows × Resending x.doing x.world) ⊎ ((resent : World) × Resends s b resent × Standing s resent x)

  module _ (at : ℕ) (answered : Bool) (w : World) (x : WasActivated at answered w) (r : Row) (found : slice_get w.rows at ≡ Some r) where
    abbrev next : Row
    next = activate_row x.row x.before.nodes

    abbrev after : World
    after = record { nodes = activate_nodes x.row x.before.nodes; rows = slice_set x.before.rows at next }

    again : Resends s x.before (record { nodes = activate_nodes x.row x.before.nodes; rows = slice_set x.before.rows at (activate_row x.row x.before.nodes) })
    again = ActivateAgain x.before.nodes x.before.rows (remove x.before.rows at) (slice_set x.before.rows at next) x.row after (among-removed x.before.rows at x.row x.found) (among-set x.before.rows at x.row next x.found) (NoResend after)

    same-one : r ≡ x.row
    same-one = same-row r x.row (sym found ∙ (ap (λ (rows : List Row). slice_get rows at) x.rows ∙ x.found))

    abbrev world_of : (ℕ → Node) → List Row → Row → Bool → World
    world_of ns rows q t = record { nodes = ns; rows = slice_set rows at (accepted_if t q) }

    same : with_place_row at (accepted_if answered r) w ≡ record { nodes = activate_nodes x.row x.before.nodes; rows = slice_set x.before.rows at (activate_row x.row x.before.nodes) }
    same = ap₂ (λ (ns : ℕ → Node) (rows : List Row). world_of ns rows r answered) x.nodes x.rows
        ∙ ap₂ (λ (q : Row) (t : Bool). world_of (activate_nodes x.row x.before.nodes) x.before.rows q t) same-one x.is

    accepts-again : AreInOrder s w.rows → Stood (stand (ResendingActivate (suc at)) (with_place_row at (accepted_if answered r) w))
    accepts-again order = inl (
      order-set s w.rows at r (accepted_if answered r) found refl (all-at (ActiveServes s) w.rows at r found order.serve) order,
      subst (λ (v : World). Resends s b v) (sym same) (resends-then b x.before after x.resends again),
    )

  none-there : (at : ℕ) (answered : Bool) (w : World) → WasActivated at answered w → slice_get w.rows at ≡ None → ⊥
  none-there at answered w x none = let bad : ◌≡◌ {A = Option Row} None (Some x.row) = sym none ∙ (ap (λ (rows : List Row). slice_get rows at) x.rows ∙ x.found) in cc

  resends-one : (d : Doing) (w : World) → AreInOrder s w.rows → Resending d w → Stood (turn_at s d w)
  resends-one (ResendingDelete []) w order x = inl (order, x.1)
  resends-one (ResendingDelete (d ∷ ds)) w order x =
      let after : World = record { nodes = delete_again d.node d.bucket d.serial w.nodes; rows = w.rows } in
      inl (order, (x.0.1, resends-then b w after x.1 (DeleteAgain w.nodes w.rows d.node d.serial d.bucket after x.0.0 (NoResend after))))
  resends-one (ResentDelete deletes) w order x = inl (order, x)
  resends-one (ResendingActivate at) w order x = by-row Stood (slice_get w.rows at) (stand (Rounding 0) w) (activate_then (ResentActivate at) w)
      (λ none. inr (w, x, (order, (refl, tt))))
      (λ r found. inl (order, record { before = w; resends = x; row = r; found = found; rows = refl; nodes = refl; is = refl }))
  resends-one (ResentActivate at answered) w order x = by-row Stood (slice_get w.rows at) (stand (ResendingActivate (suc at)) w) (λ r. stand (ResendingActivate (suc at)) (with_place_row at (accepted_if answered r) w))
      (λ none. absurd (none-there at answered w x none))
      (λ r found. accepts-again at answered w x r found order)
  resends-one _ w order x = absurd x

  stood : (x : Stand) → Stood x → Stood (turn_at s x.doing x.world)
  stood x (inl h) = resends-one x.doing x.world h.0 h.1
  stood x (inr h) = inr (h.0, h.1, stands s sound h.0 x.doing x.world h.2.0 h.2.1)

  turns-stood : (many : ℕ) (x : Stand) → Stood x → Stood (turns s many x)
  unfolding turns turn
  turns-stood zero x h = h
  turns-stood (suc many) x h = turns-stood many (turn s x) (stood x h)

  at-end : (after : World) → Stood (stand Finished after) → (resent : World) × Resends s b resent × Passes s resent after
  at-end v (inl h) = absurd h.1
  at-end v (inr h) = (h.0, h.1, h.2.1)

  pub turns-resent : (after : World) (deletes : List Unanswered) (many : ℕ) → AreInOrder s b.rows → AreOfBuckets deletes → turns s many (stand (ResendingDelete deletes) b) ≡ stand Finished after
      → (resent : World) × Resends s b resent × Passes s resent after
  turns-resent after deletes many order valid e = at-end after (subst Stood e (turns-stood many (stand (ResendingDelete deletes) b) (inl (order, (valid, NoResend b)))))
