-- Of which row the step is that comes where the machine stands.
use Rattle.std.proofs.Common.{◌≡◌, ◌<◌, ℕ, List, length, sym, subst}
use Rattle.std.proofs.lemmas.Option.{slice_get_within}
use Rattle.bucket_ids.specs.Buckets.{Low}
use Rattle.messages.specs.declared.body.Body.{Body}
use Rattle.messages.specs.declared.decision.Decision.{Decision}
use Rattle.ideal_nodes.proofs.Listing.{ideal_there}
use Rattle.lane_states.specs.declared.lane_state.LaneState.{LaneState}
use Rattle.pass_machine.specs.declared.pass.UpkeepPass.{UpkeepPass}
use Rattle.pass_machine.specs.declared.doing.UpkeepStep.{UpkeepStep}
use Rattle.pass_machine.specs.declared.doing.UpkeepStep.TheVariants.{Tell, Decide}
use Rattle.pass_machine.specs.declared.doing.Turn.TheVariants.{Says}
use Rattle.pass_machine.specs.Turns.{turn_at}
use Rattle.pass_machine.proofs.Allowing.{says_allowed}
use Rattle.lane_upkeep.specs.declared.owner.Owner.{Owner}
use Rattle.lane_upkeep.specs.Passing.{rows_in}
use Rattle.lane_upkeep.specs.UnderWay.{view_in, AreIdeal, IsUnderWay, IsNextStep, Comes}
use Rattle.lane_upkeep.proofs.UnderWay.{TellsOf, DecidesAt, turn_known}

-- an ideal order of each bucket
pub ideal_of : Owner → Low → List ℕ
ideal_of o b = (ideal_there b o.state).nodes

pub ideal_is : (o : Owner) → AreIdeal o (ideal_of o)
unfolding ideal_of
ideal_is o b = (ideal_there b o.state).is_ideal

module _ (c : LaneState) (o : Owner) (p : UpkeepPass) (under : IsUnderWay c o p) where
  pub message_of_row : (n : ℕ) (b : Body) → IsNextStep c o p (Tell n b) → TellsOf c o p.doing n b
  message_of_row n b next = turn_known (ideal_of o) c o p.made p.notes.by_number p.doing (Says (Tell n b)) under.doing (next (ideal_of o) (ideal_is o))

  pub decision_of_row : (at : ℕ) (x : Decision) → IsNextStep c o p (Decide at x) → (at < length (rows_in c o)) × DecidesAt p.doing at x
  decision_of_row at x next =
      let h = next (ideal_of o) (ideal_is o) in
      let a = says_allowed (view_in (ideal_of o) c o) p.notes.by_number p.made p.doing (Decide at x) h in
      (slice_get_within (rows_in c o) at a.0 a.1, turn_known (ideal_of o) c o p.made p.notes.by_number p.doing (Says (Decide at x)) under.doing h)

-- the step that comes is the next one where the machine stands then
pub comes_next : (c : LaneState) (o : Owner) (p q : UpkeepPass) (x : UpkeepStep) → Comes c o p q x → IsNextStep c o q x
comes_next c o p q x h ideal are = subst (λ (z : UpkeepPass). turn_at (view_in ideal c o) z.made z.notes.by_number q.doing ≡ Says x) (sym h.same) (h.says ideal are)
