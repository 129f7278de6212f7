use Rattle.std.proofs.Common.{◌≤◌, ◌+◌, length, ap, sym, subst, ◌∙◌}
use Rattle.cell_session.proofs.FedLoops.{answers_long}
use Rattle.cell_session.proofs.segment_answering.answer_segment.Goals as goal

pub report_lines-requires : goal.report_lines-requires
report_lines-requires g c = subst (λ n. c.args.first + n ≤ 50001) (sym (ap length (c.deref.ensures.value ∙ c.in-Ok.ensures.ok.1) ∙ answers_long c.args.setting.now c.args.session.now.cell.told c.args.first c.args.commands.items c.deal_together.new.session.cell)) c.requires.few
