-- A decision of a pass changes no node, and no version that a node knows.
use Rattle.std.proofs.Common.{◌≡◌, ℕ, ap, ap₂}
use Rattle.messages.specs.declared.decision.Decision.{Decision}
use Rattle.lane_journals.specs.Readers.{version}
use Rattle.lane_journals.specs.Meanings.{history}
use Rattle.lane_keeping.specs.LaneKeeping.{node_in}
use Rattle.lane_states.specs.declared.lane_state.LaneState.{LaneState}
use Rattle.pass_model.specs.Lanes.{seen_node}
use Rattle.pass_model.specs.Scripts.{Script, came}
use Rattle.lane_upkeep.specs.declared.owner.Owner.{Owner}
use Rattle.lane_upkeep.specs.Deciding.{Decides, DecidesNothing}
use Rattle.lane_upkeep.specs.Quiet.{nodes_in, VersionsStay}

module _ (c e : LaneState) (o : Owner) where
  pub decided-nodes : (x : Decision) → Decides c e o x → (d : Script) (n : ℕ) → nodes_in d e n ≡ nodes_in d c n
  decided-nodes x h d n = ap₂ (λ i y. seen_node (d n) i y) (ap (λ J. came n (history J)) h.grows) (ap (λ (z : LaneState). node_in z.nodes.items n) h.after)

  pub decided-versions : (x : Decision) → Decides c e o x → VersionsStay c e
  decided-versions x h n = ap (λ J. version n (history J)) h.grows

  pub undecided-nodes : DecidesNothing c e o → (d : Script) (n : ℕ) → nodes_in d e n ≡ nodes_in d c n
  undecided-nodes h d n = ap₂ (λ i y. seen_node (d n) i y) (ap (λ J. came n (history J)) h.journal) (ap (λ (z : LaneState). node_in z.nodes.items n) h.after)

  pub undecided-versions : DecidesNothing c e o → VersionsStay c e
  undecided-versions h n = ap (λ J. version n (history J)) h.journal
