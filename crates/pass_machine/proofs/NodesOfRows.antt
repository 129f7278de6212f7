-- What the owner's part says of the nodes of a row, by the ideal order.
use Rattle.std.proofs.Common.{◌≡◌, ◌∙◌, ◌||◌, ℕ, List, Option, Some, None, sym, ap, subst}
use Rattle.std.specs.Prelude.{IfSome, IfNone, take, slice_get}
use Rattle.node_sets.specs.Members.{has_node}
use Rattle.cluster_states.specs.declared.cluster_state.ClusterState.{ClusterState}
use Rattle.bucket_db.specs.Rows.{Rows}
use Rattle.bucket_db.specs.declared.row.Row.{Row}
use Rattle.distributor_part.specs.declared.rules.Rules.{Rules}
use Rattle.distributor_part.specs.Parts.{Part, rows_of}
use Rattle.distributor_part.specs.Steps.{IsOpened}
use Rattle.distributor_part.specs.Targets.{AreTargets, IsToBeActive, LacksComplete, AreToBeReady}
use Rattle.distributor_part.specs.Upkeep.{AreTargetsAt, IsToBeActiveAt, LacksCompleteAt, AreToBeReadyAt}
use Rattle.lane_rest.specs.Targets.{is_member, is_active}
use Rattle.pass_model.proofs.Targets.{targets-of-list}
use Rattle.pass_machine.specs.Turns.{View, Sees, to_be_active, is_target}
use Rattle.pass_machine.proofs.Ideals.{to-be, to-be-none, ready-are}

same-some : {A : Type 0} (x y : A) → Some x ≡ Some y → x ≡ y
same-some x y e = cc

module _ (p : Part) (v : View) (at : ℕ) (row : Row) (sees : Sees p v) (has : slice_get v.rows at ≡ Some row) where
  state-of : (s : ClusterState) (rows : Rows) → IsOpened p s rows → s ≡ v.state
  state-of s rows o = same-some s v.state (sym o.heard ∙ sees.heard)

  row-of : (s : ClusterState) (rows : Rows) (x : Row) → IsOpened p s rows → slice_get rows.rows at ≡ Some x → x ≡ row
  row-of s rows x o found = same-some x row (sym found ∙ (ap (λ (l : List Row). slice_get l at) (sym (ap rows_of o.opened) ∙ sees.rows) ∙ has))

  pub to_be_is : (active : Option ℕ) → IfSome active (IsToBeActiveAt p at) → IfNone active (LacksCompleteAt p at) → active ≡ to_be_active v row
  to_be_is (Some node) t u =
      let is : IsToBeActive v.state row.bucket row.complete row.active node =
      subst (λ (r : Row). IsToBeActive v.state r.bucket r.complete r.active node) (row-of t.state t.rows t.row t.opened t.found)
      (subst (λ (s : ClusterState). IsToBeActive s (t.row).bucket (t.row).complete (t.row).active node) (state-of t.state t.rows t.opened) t.is) in
      sym (to-be row.bucket v.state row.complete (v.ideal row.bucket) (sees.ideal row.bucket) row.active node is)
  to_be_is None t u =
      let same = row-of u.state u.rows u.row u.opened u.found in
      sym (to-be-none row.bucket v.state row.complete (v.ideal row.bucket) (sees.ideal row.bucket) row.active (subst (λ (r : Row). r.active ≡ None) same u.inactive)
      (subst (λ (r : Row). LacksComplete v.state r.bucket r.complete) same (subst (λ (s : ClusterState). LacksComplete s (u.row).bucket (u.row).complete) (state-of u.state u.rows u.opened) u.lacks)))

  pub asked_is : (set : ℕ) → AreToBeReadyAt p at set → (n : ℕ) → has_node set n ≡ (is_member (take (v.rules).searchable (v.ideal row.bucket)) n || is_active (to_be_active v row) n)
  asked_is set t n =
      let are : AreToBeReady (v.rules).searchable v.state row.bucket row.complete row.active set =
      subst (λ (k : Rules). AreToBeReady k.searchable v.state row.bucket row.complete row.active set) sees.rules
      (subst (λ (r : Row). AreToBeReady (p.rules).searchable v.state r.bucket r.complete r.active set) (row-of t.state t.rows t.row t.opened t.found)
      (subst (λ (s : ClusterState). AreToBeReady (p.rules).searchable s (t.row).bucket (t.row).complete (t.row).active set) (state-of t.state t.rows t.opened) t.are)) in
      ready-are (v.rules).searchable row.bucket v.state row.complete set row.active (v.ideal row.bucket) (sees.ideal row.bucket) are n

  pub target_is : (set : ℕ) → AreTargetsAt p at set → (n : ℕ) → has_node set n ≡ is_target v row n
  target_is set t n =
      let are : AreTargets (v.rules).redundancy v.state row.bucket row.active set =
      subst (λ (k : Rules). AreTargets k.redundancy v.state row.bucket row.active set) sees.rules
      (subst (λ (r : Row). AreTargets (p.rules).redundancy v.state r.bucket r.active set) (row-of t.state t.rows t.row t.opened t.found)
      (subst (λ (s : ClusterState). AreTargets (p.rules).redundancy s (t.row).bucket (t.row).active set) (state-of t.state t.rows t.opened) t.are)) in
      targets-of-list (v.rules).redundancy v.state row.bucket row.active set (v.ideal row.bucket) are (sees.ideal row.bucket) n
