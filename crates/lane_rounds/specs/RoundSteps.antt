-- What a round that is under way is told.
use Rattle.std.specs.Prelude.{◌≡◌, ℕ, Option, None, Some}
use Rattle.messages.specs.declared.reply.Reply.{Reply}
use Rattle.round_keeping.specs.RoundRuns.{IsAfterReply, IsRunToldBy}
use Rattle.round_keeping.specs.declared.round_run.RoundRun.{RoundRun}

-- the round is told the reply of a node, or that none comes
abbrev pub IsRunTold : RoundRun → RoundRun → ℕ → Option Reply → Type 0
IsRunTold x y node None = IsAfterReply x.round y.round node None × (y ≡ record x { round = y.round })
IsRunTold x y node (Some reply) = IsRunToldBy x y node reply
