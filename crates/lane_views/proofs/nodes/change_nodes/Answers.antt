use Rattle.std.proofs.lemmas.Result.{on_ok_weaker}
use Rattle.lane_views.proofs.StepLaws.{nodes-made, typed-made, nodes-unless, typed-unless}
use Rattle.lane_views.proofs.nodes.change_nodes.Goals as goal

pub returns-in-Adopt-clause-ok : goal.returns-in-Adopt-clause-ok
returns-in-Adopt-clause-ok c = rw c.in-Adopt.is (on_ok_weaker c.adopt_at.result (λ e. nodes-made c.args.schema.now _ _ _ _ c.requires.typed e) c.adopt_at.ensures.ok)

pub returns-in-Adopt-clause-typed : goal.returns-in-Adopt-clause-typed
returns-in-Adopt-clause-typed c = on_ok_weaker c.adopt_at.result (λ e. typed-made c.args.schema.now _ _ _ _ c.requires.typed e) c.adopt_at.ensures.ok

pub returns-in-Activate-clause-ok : goal.returns-in-Activate-clause-ok
returns-in-Activate-clause-ok c = rw c.in-Activate.is (on_ok_weaker c.activate_at.result (λ e. nodes-unless c.args.schema.now _ _ _ _ _ c.requires.typed e) c.activate_at.ensures.ok)

pub returns-in-Activate-clause-typed : goal.returns-in-Activate-clause-typed
returns-in-Activate-clause-typed c = on_ok_weaker c.activate_at.result (λ e. typed-unless c.args.schema.now _ _ _ _ _ c.requires.typed e) c.activate_at.ensures.ok

pub returns-in-Take-clause-ok : goal.returns-in-Take-clause-ok
returns-in-Take-clause-ok c = rw c.in-Take.is (on_ok_weaker c.take_at.result (λ e. nodes-made c.args.schema.now _ _ _ _ c.requires.typed e) c.take_at.ensures.ok)

pub returns-in-Take-clause-typed : goal.returns-in-Take-clause-typed
returns-in-Take-clause-typed c = on_ok_weaker c.take_at.result (λ e. typed-made c.args.schema.now _ _ _ _ c.requires.typed e) c.take_at.ensures.ok

pub returns-in-Stop-clause-ok : goal.returns-in-Stop-clause-ok
returns-in-Stop-clause-ok c = rw c.in-Stop.is (nodes-made c.args.schema.now _ _ _ _ c.requires.typed c.stop_at.ensures)

pub returns-in-Stop-clause-typed : goal.returns-in-Stop-clause-typed
returns-in-Stop-clause-typed c = typed-made c.args.schema.now _ _ _ _ c.requires.typed c.stop_at.ensures

pub returns-in-Start-clause-ok : goal.returns-in-Start-clause-ok
returns-in-Start-clause-ok c = rw c.in-Start.is (nodes-made c.args.schema.now _ _ _ _ c.requires.typed c.stop_at-in-Start.ensures)

pub returns-in-Start-clause-typed : goal.returns-in-Start-clause-typed
returns-in-Start-clause-typed c = typed-made c.args.schema.now _ _ _ _ c.requires.typed c.stop_at-in-Start.ensures
