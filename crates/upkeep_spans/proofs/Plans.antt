-- What is planned of a carrier that takes no plans.
use Rattle.std.proofs.Common.{◌≡◌, Bool, true, false, List, [], Option, Some, None, refl, sym}
use Rattle.carriers.specs.declared.fate.Fate.{Fate}
use Rattle.upkeep_spans.specs.Watches.{takes_plans, planned_in, plans_of}

pub takes-plans_of : (takes : Bool) (planned : List Fate) → takes_plans (plans_of takes planned) ≡ takes
takes-plans_of true planned = refl
takes-plans_of false planned = refl

pub planned-plans_of : (takes : Bool) (planned : List Fate) → (takes ≡ false → planned ≡ []) → planned_in (plans_of takes planned) ≡ planned
planned-plans_of true planned h = refl
planned-plans_of false planned h = sym (h refl)
