-- Activates that are sent again, as in the abstract.
use Rattle.std.proofs.Common.{◌≡◌, ◌∙◌, ◌&&◌, ◌||◌, not, ◌+◌, ℕ, suc, Bool, true, false, List, Option, Some, None, refl, sym, ap, ap₂, slice_get, if◌then◌else◌}
use Rattle.std.specs.Prelude.{is_some}
use mathlib.Core.Bool.{true≢false}
use Rattle.node_sets.specs.Members.{has_node}
use Rattle.cluster_states.specs.Publishing.{serves}
use Rattle.bucket_db.specs.declared.row.Row.{Row}
use Rattle.messages.specs.declared.body.Body.TheVariants as body
use Rattle.pass_model.specs.Shapes.{Shape, Nothing}
use Rattle.pass_model.specs.Rows as rest
use Rattle.pass_model.specs.Rows.{Settings}
use Rattle.pass_model.specs.Passes.{World}
use Rattle.pass_model.specs.Settling.{activate_nodes, could_activate}
use Rattle.pass_model.specs.Scripts.{told_body, told_node}
use Rattle.lane_rest.specs.Targets.{is_active}
use Rattle.pass_model.specs.Turns as turns
use Rattle.pass_model.specs.Turns.{stand, turn_at, by_row, with_place_row, accepted_if, activate_then}
use Rattle.pass_model.proofs.RowLists.{set-same}
use Rattle.pass_machine.specs.declared.doing.Doing.TheVariants.{ResendingActivate, ResentActivate}
use Rattle.pass_machine.specs.declared.doing.UpkeepStep.TheVariants as step
use Rattle.pass_machine.specs.declared.doing.Turn.TheVariants.{Over, Says}
use Rattle.pass_machine.specs.Settling.{tell_active}
use Rattle.pass_machine.specs.Turns.{View}
use Rattle.pass_machine.specs.Abstract.{is_accepted, row_with, Activates}
use Rattle.pass_machine.proofs.SettleTurns.{one-turn, two-turns, next-one, eqb-sym, or-none}

module _ (v : View) (s : Settings) (w : World) (at : ℕ) (r : Row) (shown : ℕ → Shape) (seen : slice_get w.rows at ≡ Some (row_with shown None r)) where
  abbrev with_active : Bool → rest.Row
  with_active accepted = record { bucket = r.bucket; complete = λ n. has_node r.complete n; active = r.active; accepted = accepted; documents = 0; holders = λ n. false; shown = λ n. Nothing }

  abbrev one : rest.Row
  one = with_active (is_accepted r.active r.accepted)

  abbrev could : Bool
  could = could_activate r.bucket w.nodes r.active

  -- the row is put back as it was
  back : (u : Bool) → u ≡ is_accepted r.active r.accepted → stand (turns.ResendingActivate (suc at)) (with_place_row at (with_active u) w) ≡ stand (turns.ResendingActivate (at + 1)) w
  back u same =
      ap (λ (x : Bool). stand (turns.ResendingActivate (suc at)) (with_place_row at (with_active x) w)) same
      ∙ (ap (λ (rows : List rest.Row). stand (turns.ResendingActivate (suc at)) (record { nodes = w.nodes; rows = rows })) (set-same w.rows at one seen)
      ∙ ap (λ (k : ℕ). stand (turns.ResendingActivate k) w) (next-one at))

  sends-is : turn_at s (turns.ResendingActivate at) w ≡ stand (turns.ResentActivate at could) (record { nodes = activate_nodes one w.nodes; rows = w.rows })
  sends-is = ap (λ (o : Option rest.Row). by_row o (stand (turns.Rounding 0) w) (activate_then (turns.ResentActivate at) w)) seen

  notes-is : (answered : Bool) → turn_at s (turns.ResentActivate at answered) w ≡ stand (turns.ResendingActivate (suc at)) (with_place_row at (with_active (is_accepted r.active r.accepted || answered)) w)
  notes-is answered = ap (λ (o : Option rest.Row). by_row o (stand (turns.ResendingActivate (suc at)) w) (λ q. stand (turns.ResendingActivate (suc at)) (with_place_row at (accepted_if answered q) w))) seen

  skips : (not (is_accepted r.active r.accepted) && is_some r.active) ≡ false → Activates v s w r shown (ResendingActivate at) (Over (ResendingActivate (at + 1)))
  skips quiet = (
    2,
    two-turns s (turns.ResendingActivate at) (turns.ResentActivate at could) w (stand (turns.ResendingActivate (at + 1)) w)
        (sends-is ∙ (λ i. stand (turns.ResentActivate at could) (record { nodes = λ n. still n i; rows = w.rows })))
        (notes-is could ∙ back (is_accepted r.active r.accepted || could) (by_active r.active r.accepted quiet)),
  )
    where
      still : (n : ℕ) → activate_nodes one w.nodes n ≡ w.nodes n
      still n = by_active r.active r.accepted quiet
        where
          by_active : (a : Option ℕ) (accepted : Bool) → (not (is_accepted a accepted) && is_some a) ≡ false → (if not (is_accepted a accepted) && is_active a n then told_body (body.Activate r.bucket) (w.nodes n) else w.nodes n) ≡ w.nodes n
          by_active None accepted h = refl
          by_active (Some m) true h = refl
          by_active (Some m) false h = absurd (true≢false h)

      by_active : (a : Option ℕ) (accepted : Bool) → (not (is_accepted a accepted) && is_some a) ≡ false → (is_accepted a accepted || could_activate r.bucket w.nodes a) ≡ is_accepted a accepted
      by_active None accepted h = refl
      by_active (Some m) true h = refl
      by_active (Some m) false h = absurd (true≢false h)

  tells : (n : ℕ) → r.active ≡ Some n → r.accepted ≡ false → Activates v s w r shown (ResendingActivate at) (Says (step.Tell n (body.Activate r.bucket)))
  tells n is yet = sends-is ∙ (λ i. stand (turns.ResentActivate at (could_activate r.bucket w.nodes (is i))) (record { nodes = λ k. same k i; rows = w.rows }))
    where
      same : (k : ℕ) → activate_nodes one w.nodes k ≡ told_node n (body.Activate r.bucket) w.nodes k
      same k =
          ap₂ (λ (a : Option ℕ) (accepted : Bool). if not (is_accepted a accepted) && is_active a k then told_body (body.Activate r.bucket) (w.nodes k) else w.nodes k) is yet
          ∙ ap (λ (u : Bool). if u then told_body (body.Activate r.bucket) (w.nodes k) else w.nodes k) (eqb-sym n k)

  pub sends_active : ((n : ℕ) → r.active ≡ Some n → serves v.state n ≡ true) → Activates v s w r shown (ResendingActivate at) (tell_active r.bucket r.accepted r.active (serves v.state) (ResendingActivate (at + 1)))
  sends_active serving = by_node r.active refl
    where
      by_node : (a : Option ℕ) → r.active ≡ a → Activates v s w r shown (ResendingActivate at) (tell_active r.bucket r.accepted a (serves v.state) (ResendingActivate (at + 1)))
      by_node None e = skips (ap (λ (a : Option ℕ). not (is_accepted a r.accepted) && is_some a) e)
      by_node (Some n) e = by_test r.accepted (serves v.state n) refl (serving n e)
        where
          by_test : (x y : Bool) → r.accepted ≡ x → y ≡ true → Activates v s w r shown (ResendingActivate at) (if not x && y then Says (step.Tell n (body.Activate r.bucket)) else Over (ResendingActivate (at + 1)))
          by_test true y f g = skips (ap₂ (λ (a : Option ℕ) (accepted : Bool). not (is_accepted a accepted) && is_some a) e f)
          by_test false true f g = tells n e f
          by_test false false f g = absurd (true≢false (sym g))

  pub notes_active : (answered : Bool) → (answered ≡ true → is_some r.active ≡ true) → Activates v s w r shown (ResentActivate at answered) (if answered then Says (step.Accept at) else Over (ResendingActivate (at + 1)))
  notes_active true some = notes-is true ∙ (ap (λ (u : Bool). stand (turns.ResendingActivate (suc at)) (with_place_row at (with_active u) w)) (by_active r.active r.accepted (some refl))
      ∙ ap (λ (k : ℕ). stand (turns.ResendingActivate k) (with_place_row at (with_active (is_accepted r.active true)) w)) (next-one at))
    where
      by_active : (a : Option ℕ) (accepted : Bool) → is_some a ≡ true → (is_accepted a accepted || true) ≡ is_accepted a true
      by_active None accepted h = absurd (true≢false (sym h))
      by_active (Some n) true h = refl
      by_active (Some n) false h = refl
  notes_active false some = (1, one-turn s (turns.ResentActivate at false) w (stand (turns.ResendingActivate (at + 1)) w) (notes-is false ∙ back (is_accepted r.active r.accepted || false) (or-none (is_accepted r.active r.accepted))))
