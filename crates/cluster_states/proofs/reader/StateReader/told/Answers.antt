use Rattle.std.proofs.Common.{Some, None}
use Rattle.cluster_states.proofs.Moving.{ends_at, place_at}
use Rattle.cluster_states.proofs.SpaceMoves.{gap_ends, space_ends, sign_ends, word_ends}
use Rattle.cluster_states.proofs.GroupMoves.{counts_ends, counts_space_ends}
use Rattle.cluster_states.proofs.reader.StateReader.told.Goals as goal

pub returns-in-Word : goal.returns-in-Word
returns-in-Word c = rw (← c.self.view_is) (ends_at _ _ None c.in-Word.is (word_ends _ _ _ (place_at _ _ c.in-Word.is c.self.invariant)))

pub returns-in-Counts : goal.returns-in-Counts
returns-in-Counts c = rw (← c.self.view_is) (ends_at _ _ (Some c.self.inside.state) c.in-Counts.is (counts_ends _ (place_at _ _ c.in-Counts.is c.self.invariant)))

pub returns-in-CountsSpace : goal.returns-in-CountsSpace
returns-in-CountsSpace c = rw (← c.self.view_is) (ends_at _ _ None c.in-CountsSpace.is (counts_space_ends _ (place_at _ _ c.in-CountsSpace.is c.self.invariant)))

pub returns-in-Sign : goal.returns-in-Sign
returns-in-Sign c = rw (← c.self.view_is) (ends_at _ _ None c.in-Sign.is (sign_ends _ _ _ _))

pub returns-in-Gap : goal.returns-in-Gap
returns-in-Gap c = rw (← c.self.view_is) (ends_at _ _ (Some c.self.inside.state) c.in-Gap.is (gap_ends _ _ _ (place_at _ _ c.in-Gap.is c.self.invariant)))

pub returns-in-Space : goal.returns-in-Space
returns-in-Space c = rw (← c.self.view_is) (ends_at _ _ None c.in-Space.is (space_ends _ _ _ (place_at _ _ c.in-Space.is c.self.invariant)))
