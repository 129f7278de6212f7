-- What a carrier gave in a call of an operation that is prepared.
use Rattle.std.proofs.Common.{◌≡◌, List, [], ◌∷◌, inl, inr}
use Rattle.carriers.specs.declared.fate.Fate.{Fate}
use Rattle.lane_states.specs.LaneStates.{GivesOn}
use Rattle.lane_states.proofs.Giving.{gives_same}
use Rattle.lane_lines.specs.Steps.{GivesFew}

pub gives_few : (given now : List Fate) → GivesFew given now → GivesOn given now
gives_few given now (inl same) = gives_same given now same
gives_few given now (inr one) = (one.0 ∷ [], one.1)
