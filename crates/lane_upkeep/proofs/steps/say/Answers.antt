use Rattle.std.proofs.Common.{◌≡◌, ◌∙◌, Bool, length, sym, ap, subst, rules, if◌then◌else◌}
use Rattle.distributor_part.specs.Parts.{Part}
use Rattle.lane_states.specs.LaneStates.{journal_of, part_of}
use Rattle.pass_machine.specs.declared.doing.Doing.{Doing}
use Rattle.pass_machine.specs.declared.pass.UpkeepPass.{UpkeepPass}
use Rattle.pass_machine.specs.Turns.{Sees, answered}
use Rattle.lane_upkeep.specs.CameBack.{is_taken, is_end}
use Rattle.lane_upkeep.specs.Noted.{AreNotes}
use Rattle.lane_upkeep.specs.Passing.{rows_in}
use Rattle.lane_upkeep.specs.Quiet.{IsToldQuietly, StandsOn}
use Rattle.lane_upkeep.specs.Sending.{Says}
use Rattle.lane_upkeep.specs.UnderWay.{view_in, KnowsDoing, is_taken_as}
use Rattle.lane_upkeep.proofs.Going.{notes_stay}
use Rattle.lane_upkeep.proofs.NextSteps.{ideal_of, ideal_is, message_of_row}
use Rattle.lane_upkeep.proofs.Permitted.{part_read, sees_view}
use Rattle.lane_upkeep.proofs.QuietSteps.{does_say, does_map_in}
use Rattle.lane_upkeep.proofs.Replies.{rows_same}
use Rattle.lane_upkeep.proofs.Standings.{stands_told}
use Rattle.lane_upkeep.proofs.Told.{told_known}
use Rattle.lane_upkeep.proofs.steps.say.Given.{Over}
use Rattle.lane_upkeep.proofs.steps.say.Goals.{then-delete, else-delete}
use Rattle.lane_upkeep.proofs.steps.say.Goals as goal

-- the machine is told what the reply says of the message
told-as : (g : Over) (c : goal.Joined-reply g) → c.if-delete.taken ≡ is_taken_as c.args.body c.in_ok-reply.reply
told-as g c =
    let reply = c.in_ok-reply.reply in
    elim c.if-delete.branch [
      | then-delete w ↦ w.taken-is ∙ (w.ends_delete-taken.ensures ∙ sym (c.is_delete-delete.ensures reply ∙ ap (λ (t : Bool). if t then is_end reply else is_taken reply) w.if-delete.true))
      | else-delete w ↦ w.taken-is ∙ (w.is_answer-taken.ensures ∙ sym (c.is_delete-delete.ensures reply ∙ ap (λ (t : Bool). if t then is_end reply else is_taken reply) w.if-delete.false))
    ]

-- by the owner's part
part-is : (g : Over) (c : goal.Joined-reply g) → c.index.result.now ≡ part_of c.tell_node.new.lane c.args.owner.now.distributor
part-is g c = part_read c.tell_node.new.lane c.args.owner.now c.from.result c.index.result.now c.from.ensures (search rules) c.index.ensures

pub returns-clause-under_way : goal.returns-clause-under_way
returns-clause-under_way g c =
    let x = c.args.lane.now in
    let e = c.tell_node.new.lane in
    let o = c.args.owner.now in
    let p = c.args.pass.now in
    let v = view_in (ideal_of o) e o in
    let sees : Sees c.index.result.now v = subst (λ (y : Part). Sees y v) (sym (part-is g c)) (sees_view e o (ideal_of o) (g.C.Carrier.given c.tell_node.new.carrier, c.tell_node.ensures.passing) (ideal_is o)) in
    record {
      notes = subst (λ (q : UpkeepPass). AreNotes (journal_of e) o.state q.notes.by_number) (sym c.answer.ensures.same) (notes_stay x e o p.notes.by_number c.tell_node.ensures.known c.requires.under_way.notes);
      doing = subst (λ (d : Doing). KnowsDoing e o d) (sym (c.answer.ensures.behind v sees))
          (told_known (ideal_of o) x e o (ideal_is o) c.tell_node.ensures.on (rows_same x e o c.tell_node.ensures.on c.tell_node.ensures.parts) c.args.node c.args.body c.in_ok-reply.reply c.in_ok-reply.ensures.came c.if-delete.taken
          (told-as g c) (length (rows_in x o)) p.doing c.requires.told c.requires.under_way.doing (message_of_row x o p c.requires.under_way c.args.node c.args.body c.requires.next));
    }

pub returns-clause-quiet : goal.returns-clause-quiet
returns-clause-quiet g c =
    let x = c.args.lane.now in
    let e = c.tell_node.new.lane in
    let o = c.args.owner.now in
    let told = c.in_ok-reply.ensures in
    let reply = c.in_ok-reply.reply in
    let given = g.C.Carrier.given c.args.carrier.now in
    let now = g.C.Carrier.given c.tell_node.new.carrier in
    let p = c.args.pass.now in
    let q = c.answer.new.self in
    let says : Says x e o c.args.node c.args.body given now reply = record { went = told.went; parts = told.parts; came = told.came; silent = told.silent; fates = c.tell_node.ensures.gives; quiet = told.quiet } in
    does_map_in given now x e o (λ d s. IsToldQuietly d x e c.args.node c.args.body reply) (λ d s. StandsOn d s x e o p q)
    (λ d s are current goes versions still t. stands_told c.passes_stand.ensures.told d s x e o given now p q c.args.node c.args.body reply c.if-delete.taken c.requires.passing told.passing told.on are c.rows_are_whole.ensures.whole
    c.requires.may.valid c.requires.next (rows_same x e o told.on told.parts) (told-as g c) (λ v sees. c.answer.ensures.behind v (subst (λ (y : Part). Sees y v) (sym (part-is g c)) sees)) c.answer.ensures.same still t)
    (does_say x e o c.args.node c.args.body given now reply c.requires.may.serving says)

pub returns-clause-does : goal.returns-clause-does
returns-clause-does g c =
    let e = c.tell_node.new.lane in
    let o = c.args.owner.now in
    let told = c.in_ok-reply.ensures in
    record {
      reply = c.in_ok-reply.reply;
      says = record { went = told.went; parts = told.parts; came = told.came; silent = told.silent; fates = c.tell_node.ensures.gives; quiet = told.quiet };
      behind = λ ideal are.
          let v = view_in ideal e o in
          c.answer.ensures.behind v (subst (λ (y : Part). Sees y v) (sym (part-is g c)) (sees_view e o ideal (g.C.Carrier.given c.tell_node.new.carrier, c.tell_node.ensures.passing) are))
          ∙ ap (λ (t : Bool). answered v t c.args.pass.now.doing) (told-as g c);
      same = c.answer.ensures.same;
    }
