use Rattle.operation_keeping.proofs.Judged.{store-due}
use Rattle.operation_keeping.proofs.Sending.{writes-next}
use Rattle.operation_keeping.proofs.laws.operations_write.Goals as goal

pub returns : goal.returns
returns c = record {
  writes = λ lane rules J newest last nodes parts keep d s line row written t know e none due. writes-next lane rules J d s line row written t keep.legal know (λ k x step. c.entries_are_written.ensures.wrote _ J keep.legal k x step) e none due;
  due = store-due;
}
