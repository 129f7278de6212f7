use Rattle.std.proofs.Common.{◌+◌}
use Rattle.lane_keeping.specs.LaneKeeping.{setting_of}
use Rattle.operation_keeping.proofs.Sending.{asks-next}
use Rattle.operation_keeping.proofs.laws.operations_send.Goals as goal

pub returns : goal.returns
returns c = λ lane rules J newest last nodes parts keep d s line row written t know m acts next has. asks-next lane rules J d s line row written t keep.legal know last keep.numbered acts
    (λ x brings exact may owns placed. c.messages_fly.ensures.may_go (setting_of lane rules) J (last + 1) x brings exact may owns placed)
    (λ x step brings whole. c.messages_fly.ensures.sent (setting_of lane rules) J (last + 1) x step brings whole) m next has
