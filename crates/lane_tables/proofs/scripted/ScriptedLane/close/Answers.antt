use Rattle.std.proofs.Common.{◌≡◌, Some, sym, subst, slice_get}
use Rattle.lane_tables.specs.declared.stages.LineStage.TheVariants as stage
use Rattle.lane_tables.specs.Scripted.{IsScripted}
use Rattle.lane_tables.proofs.Staged.{closed-scripted}
use Rattle.lane_tables.proofs.scripted.ScriptedLane.close.Goals as goal

pub end-outcome-requires : goal.end-outcome-requires
end-outcome-requires c =
    let x = c.self.inside in
    let at : slice_get x.stages.items c.args.line ≡ Some stage.Ending = rw c.deref.ensures.value at (c.is_ending.ensures c.if-not-is_ending.false) in
    (c.self.invariant).staged c.args.line stage.Ending at

pub invariant_of-self : goal.invariant_of-self
invariant_of-self c =
    let x = c.self.inside in
    let s = c.end-outcome in
    subst (IsScripted x.setting s.new.lane.lane) (sym c.note_close.ensures) (closed-scripted x.setting c.args.line s.result x.lane.lane s.new.lane.lane x.stages.items c.self.invariant s.ensures)
