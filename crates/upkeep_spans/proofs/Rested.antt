-- An upkeep rested where its span is undisturbed, and only there.
use Rattle.std.proofs.Common.{◌≡◌, ℕ, List, length, Option, Some, None, refl}
use Rattle.carriers.specs.declared.fate.Fate.{Fate}
use Rattle.lane_journals.specs.declared.event.LaneEvent.{LaneEvent}
use Rattle.upkeep_spans.specs.declared.answers.Upkeep.TheVariants.{Rested}
use Rattle.upkeep_spans.specs.Causes.{cause_of, IsCause, IsUndisturbed}

-- none is absent
pub all_back : (late absent : Option ℕ) → Rested ≡ cause_of late absent → absent ≡ None
all_back (Some n) absent e = Prim.cc
all_back None (Some n) e = Prim.cc
all_back None None e = refl

-- and no message was late
pub none_late : (late absent : Option ℕ) → Rested ≡ cause_of late absent → late ≡ None
none_late (Some n) absent e = Prim.cc
none_late None absent e = refl

rests : (late absent : Option ℕ) → late ≡ None → absent ≡ None → Rested ≡ cause_of late absent
rests (Some n) absent e f = Prim.cc
rests None (Some n) e f = Prim.cc
rests None None e f = refl

pub was_undisturbed : (given : List Fate) (J K : List LaneEvent) → IsCause given (length J) K Rested → IsUndisturbed given J K
was_undisturbed given J K c = record { unlate = none_late _ _ c; back = all_back _ _ c }

pub has_rested : (given : List Fate) (J K : List LaneEvent) → IsUndisturbed given J K → IsCause given (length J) K Rested
has_rested given J K u = rests _ _ u.unlate u.back
