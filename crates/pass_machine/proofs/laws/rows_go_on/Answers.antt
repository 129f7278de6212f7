use Rattle.pass_machine.proofs.Pending.{pends_told, pends_active, pends_deleted, pends_over}
use Rattle.pass_machine.proofs.laws.rows_go_on.Goals as goal

pub returns-clause-told : goal.returns-clause-told
returns-clause-told c = λ v s made w t at row note shown next p n b h x. pends_told v s made w t at row note shown next p n b h x

pub returns-clause-activated : goal.returns-clause-activated
returns-clause-activated c = λ v s made w t at row note shown ready p d h marks. pends_active v s made w t at row note shown ready p d h marks

pub returns-clause-deleted : goal.returns-clause-deleted
returns-clause-deleted c = λ v s made w t at row note shown n p d h marks. pends_deleted v s made w t at row note shown n p d h marks

pub returns-clause-over : goal.returns-clause-over
returns-clause-over c = λ v s made w t at row note shown n p marks. pends_over v s made w t at row note shown n p marks
