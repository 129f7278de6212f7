-- What a mark says of a number.
use Rattle.std.specs.Prelude.{Bool, true, false}
use Rattle.cluster_states.specs.declared.marks.Mark.{Mark}
use Rattle.cluster_states.specs.declared.marks.Mark.TheVariants.{Up, Down, Retired}

-- it is up
abbrev pub is_up : Mark → Bool
is_up Up = true
is_up Down = false
is_up Retired = false

-- it is up, or retired where those count
abbrev pub counts : Bool → Mark → Bool
counts retired Up = true
counts retired Down = false
counts retired Retired = retired
