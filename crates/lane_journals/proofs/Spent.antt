-- What is held as new or newer.
use Rattle.std.proofs.Common.{◌≡◌, Option, sym, subst, ◌∷◌, ◌⊎◌}
use Rattle.lane_journals.specs.Stamps.{Stamp, Le}
use Rattle.lane_journals.specs.Buckets.{Id}
use Rattle.lane_journals.specs.Events.{Event}
use Rattle.lane_journals.specs.Readers.{Journal, Within}
use Rattle.lane_journals.proofs.Order.{Le_refl, Le_trans, Le_cases}

pub within : (id : Id) (J : Journal) (x y : Option Stamp) → Le x y → Within id J x y
within id J x y h = h

pub within-refl : (id : Id) (J : Journal) (x : Option Stamp) → Within id J x x
within-refl id J x = Le_refl _

pub within-trans : (id : Id) (J : Journal) (x y z : Option Stamp) → Within id J x y → Within id J y z → Within id J x z
within-trans id J x y z h k = Le_trans _ _ _ h k

pub within-le : (id : Id) (J : Journal) (x y z : Option Stamp) → Le x y → Within id J y z → Within id J x z
within-le id J x y z h k = Le_trans _ _ _ h k

pub within-at : (id : Id) (J : Journal) (x y z : Option Stamp) → z ≡ y → Within id J x y → Within id J x z
within-at id J x y z e h = subst (λ (w : Option Stamp). Within id J x w) (sym e) h

pub within-from : (id : Id) (J : Journal) (x y z : Option Stamp) → x ≡ y → Within id J y z → Within id J x z
within-from id J x y z e h = subst (λ (w : Option Stamp). Within id J w z) (sym e) h

pub within-stays : (id : Id) (J : Journal) (e : Event) (x y : Option Stamp) → Within id J x y → Within id (e ∷ J) x y
within-stays id J e x y h = h

-- what was within y is within what y became
pub within-moves : (id : Id) (J : Journal) (e : Event) (x y z : Option Stamp) → Within id J x y → Within id (e ∷ J) y z → Within id (e ∷ J) x z
within-moves id J e x y z h k = Le_trans _ _ _ h k

pub within? : (id : Id) (J : Journal) (x y : Option Stamp) → Within id J x y ⊎ (Within id J x y → ⊥)
within? id J x y = Le_cases _ _
