use Rattle.op_machine.specs.Outcomes.{answers_of}
use Rattle.op_machine.proofs.NextLaws.{asked_small}
use Rattle.op_machine.proofs.machine.OpMachine.take_reply.Goals as goal

pub take_read-requires : goal.take_read-requires
take_read-requires c =
    let s = c.args.self.now in
    asked_small s.plan (answers_of s.reads) (answers_of s.stores) c.args.node c.requires

pub take_store-requires : goal.take_store-requires
take_store-requires c =
    let s = c.args.self.now in
    asked_small s.plan (answers_of s.reads) (answers_of s.stores) c.args.node c.requires
