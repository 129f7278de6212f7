use Rattle.std.proofs.Common.{◌∙◌, ℕ, suc, sym, ap}
use Rattle.bucket_ids.specs.Buckets.{Low, parent_of}
use Rattle.pass_model.specs.Turns as turns
use Rattle.pass_model.specs.Turns.{stand, with_made, round_of, round_then}
use Rattle.pass_machine.specs.Abstract.{time_of}
use Rattle.pass_machine.specs.Places.{place_of}
use Rattle.pass_machine.proofs.SettleTurns.{next-one}
use Rattle.pass_machine.proofs.PlaceTurns.{rounds_row, rounds_bucket}
use Rattle.pass_machine.proofs.laws.rounds_are_turns.Goals as goal

pub returns-clause-each : goal.returns-clause-each
returns-clause-each c = λ v s list w at r seen. rounds_row s w r at seen

pub returns-clause-joined : goal.returns-clause-joined
returns-clause-joined c = λ v s list w t bits at p r are seen.
    rounds_bucket s w r p (turns.Joining (with_made p (time_of list t)) bits (suc at)) v.rows are seen
    ∙ ap (λ (k : ℕ). stand (turns.Joining (with_made p (time_of list t)) bits k) (round_of s (place_of p v.rows) r w)) (next-one at)

pub returns-clause-first : goal.returns-clause-first
returns-clause-first c = λ v s list w at first second r are is_first same seen.
    ap (λ (b : Low). round_then s b (turns.SplitSecond at (parent_of first)) w) is_first
    ∙ (rounds_bucket s w r first (turns.SplitSecond at (parent_of first)) v.rows are seen
    ∙ ap (λ (b : Low). stand (turns.SplitSecond at b) (round_of s (place_of first v.rows) r w)) (sym same))

pub returns-clause-second : goal.returns-clause-second
returns-clause-second c = λ v s list w at second r are is_second seen.
    ap (λ (b : Low). round_then s b (turns.Splitting at) w) is_second ∙ rounds_bucket s w r second (turns.Splitting at) v.rows are seen
