-- Whether nodes have wanted memory for a round so far.
use Rattle.std.specs.Prelude.{◌≡◌, ◌||◌, Bool, false}
use Rattle.round_keeping.specs.declared.round_run.RoundRun.{RoundRun}

-- whether a node has wanted memory for the round so far
abbrev pub wants_memory : RoundRun → Bool
wants_memory x = x.unread || x.unapplied

-- none has
pub record HadMemory (x : RoundRun) : Type 0 where
  pub read : x.unread ≡ false
  pub applied : x.unapplied ≡ false
