-- Steps of a pass one after the other.
use Rattle.std.proofs.Common.{◌≡◌, true, false, List, sym, subst}
use Rattle.carriers.specs.declared.fate.Fate.{Fate}
use Rattle.lane_states.specs.declared.lane_state.LaneState.{LaneState}
use Rattle.pass_machine.specs.declared.doing.Doing.TheVariants as doing
use Rattle.pass_machine.specs.declared.doing.UpkeepStep.{UpkeepStep}
use Rattle.pass_machine.specs.declared.doing.UpkeepStep.TheVariants.{Finished}
use Rattle.pass_machine.specs.declared.pass.UpkeepPass.{UpkeepPass}
use Rattle.lane_upkeep.specs.declared.owner.Owner.{Owner}
use Rattle.lane_upkeep.specs.Taking.{GoesOneOn, NoStep, MoreSteps, IsNew, HasRun, IsPass}
use Rattle.lane_upkeep.specs.Passing.{AreWhole}
use Rattle.lane_upkeep.specs.UnderWay.{Comes}

pub run_none : (c : LaneState) (o : Owner) (p : UpkeepPass) (given : List Fate) → IsNew p → HasRun c c o p given given
run_none c o p given new = record { first = p; new = new; runs = NoStep c p given }

pub run_more : (c m e : LaneState) (o : Owner) (q r : UpkeepPass) (given mid now : List Fate) → HasRun c m o q given mid → GoesOneOn m e o q r mid now true → HasRun c e o r given now
run_more c m e o q r given mid now run step = record { first = run.first; new = run.new; runs = MoreSteps c m e run.first q r given mid now run.runs step }

pub run_over : (c m e : LaneState) (o : Owner) (q r : UpkeepPass) (given mid now : List Fate) → HasRun c m o q given mid → GoesOneOn m e o q r mid now false → r.doing ≡ doing.Finished → IsPass c e o given now
run_over c m e o q r given mid now run step finished =
    let d : (step.step ≡ Finished) × (e ≡ m) × (now ≡ mid) × (r ≡ step.next) = step.does in
    record {
      last = q;
      whole = subst (λ (z : LaneState). AreWhole z o) (sym d.1) step.whole;
      run = subst (λ (f : List Fate). HasRun c e o q given f) (sym d.2) (subst (λ (z : LaneState). HasRun c z o q given mid) (sym d.1) run);
      over = r;
      ends = subst (λ (y : UpkeepPass). Comes e o q y Finished) (sym d.3)
          (subst (λ (x : UpkeepStep). Comes e o q step.next x) d.0 (subst (λ (z : LaneState). Comes z o q step.next step.step) (sym d.1) step.comes));
      finished = finished;
    }
