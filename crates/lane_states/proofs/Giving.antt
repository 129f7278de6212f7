-- What a carrier gave, from one call to the next.
use Rattle.std.proofs.Common.{◌≡◌, List, [], ◌++◌, sym, ap, ◌∙◌, append_assoc, append-nil}
use Rattle.carriers.specs.declared.fate.Fate.{Fate}
use Rattle.lane_states.specs.LaneStates.{GivesOn}

pub gives_same : (given now : List Fate) → now ≡ given → GivesOn given now
gives_same given now same = ([], same ∙ sym (append-nil given))

pub gives_then : (a b c : List Fate) → GivesOn a b → GivesOn b c → GivesOn a c
gives_then a b c h k = (h.0 ++ k.0, k.1 ∙ ap (λ (l : List Fate). l ++ k.0) h.1 ∙ append_assoc a h.0 k.0)
