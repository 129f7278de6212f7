use Rattle.std.proofs.Common.{sym, ◌∙◌, subst, arith}
use Rattle.bucket_ids.specs.Buckets.{Low, IsIn}
use Rattle.lane_journals.specs.Buckets.{key_of}
use Rattle.lane_calls.specs.Lines.{FeedLine}
use Rattle.lane_tables.specs.Scripted.{IsScripted}
use Rattle.lane_tables.proofs.Staged.{key-lies, begun-scripted}
use Rattle.lane_tables.proofs.scripted.ScriptedLane.begin.Goals as goal

pub start-requires-clause-in_lane : goal.start-requires-clause-in_lane
start-requires-clause-in_lane c =
    let x = c.self.inside in
    let lane_is = sym c.lane_of.ensures.value ∙ omega (arith, c.if-lane_of-ne0.false) in
    subst (λ (b : Low). IsIn b (key_of c.args.operation.now.id)) (sym (c.self.invariant).lane_is) (key-lies x.setting.bits c.key_of-key.result c.args.operation.now.id c.key_of-key.ensures.value lane_is)

pub invariant_of-self-2 : goal.invariant_of-self-2
invariant_of-self-2 c =
    let x = c.self.inside in
    let line : FeedLine = record { number = c.args.line; operation = c.args.operation.now; via = c.args.via } in
    subst (IsScripted x.setting c.start.new.lane.lane) (sym c.note_begin.ensures)
    (begun-scripted x.setting line c.args.via x.lane.lane c.start.new.lane.lane x.stages.items c.in_ok-answer.answer c.self.invariant c.in_ok-answer.ensures.begins)
