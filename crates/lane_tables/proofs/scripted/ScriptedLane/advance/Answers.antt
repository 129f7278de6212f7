use Rattle.std.proofs.Common.{◌≡◌, Some, sym, subst, slice_get}
use Rattle.lane_tables.specs.declared.stages.LineStage.TheVariants as stage
use Rattle.lane_tables.specs.Scripted.{IsScripted}
use Rattle.lane_tables.proofs.Staged.{gone-scripted}
use Rattle.lane_tables.proofs.scripted.ScriptedLane.advance.Goals as goal

pub go_on-answer-requires : goal.go_on-answer-requires
go_on-answer-requires c =
    let x = c.self.inside in
    let at : slice_get x.stages.items c.args.line ≡ Some stage.Going = rw c.deref.ensures.value at (c.is_going.ensures c.if-not-is_going.false) in
    (c.self.invariant).staged c.args.line stage.Going at

pub invariant_of-self : goal.invariant_of-self
invariant_of-self c =
    let x = c.self.inside in
    let at : slice_get x.stages.items c.args.line ≡ Some stage.Going = rw c.deref.ensures.value at (c.is_going.ensures c.if-not-is_going.false) in
    let s = c.go_on-answer in
    subst (IsScripted x.setting s.new.lane.lane) (sym c.note_advance.ensures) (gone-scripted x.setting c.args.line x.lane.lane s.new.lane.lane x.stages.items s.result c.self.invariant at s.ensures)
