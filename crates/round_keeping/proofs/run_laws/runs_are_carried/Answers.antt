use Rattle.round_keeping.proofs.Runs.{runs-carried}
use Rattle.round_keeping.proofs.run_laws.runs_are_carried.Goals as goal

pub returns : goal.returns
returns c = runs-carried c.late_messages_wait.ensures.waiting c.late_messages_wait.ensures.taken
