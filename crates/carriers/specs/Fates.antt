-- The fates that carriers give and have planned.
use Rattle.std.specs.Prelude.{◌≡◌, ◌⊎◌, ℕ, zero, suc, ◌+◌, ◌<◌, List, [], ◌∷◌, ◌++◌, drop, Bool, true, false, Option, Some, MatchBool, if◌then◌else◌}
use Rattle.carriers.specs.declared.fate.Fate.{Fate}
use Rattle.carriers.specs.declared.fate.Fate.TheVariants.{Deliver, LoseRequest, LoseReply, Twice, Late}

-- whether a fate is another than that the message is delivered and answered, once
abbrev pub is_fault : Fate → Bool
is_fault Deliver = false
is_fault LoseRequest = true
is_fault LoseReply = true
is_fault Twice = true
is_fault (Late k) = true

-- a count of faults rises exactly at a fault; where it has a last value it may stand there
abbrev pub CountsFault : Option ℕ → ℕ → ℕ → Fate → Type 0
CountsFault last old new fate = MatchBool (is_fault fate) ((old < new) ⊎ ((last ≡ Some old) × (new ≡ old))) (new ≡ old)

-- the planned fates after a plan that was taken or not
abbrev pub planned_with : Bool → List Fate → List Fate → List Fate
planned_with taken planned fates = if taken then planned ++ fates else planned

-- so many messages were all delivered
abbrev pub delivered : ℕ → List Fate
delivered zero = []
delivered (suc count) = delivered count ++ Deliver ∷ []

-- a carrier with plans: the fates given, those planned, those of them that wait, and how many given ones were faults
pub record Plan : Type 0 where
  pub given : List Fate
  pub planned : List Fate
  pub waiting : List Fate
  pub faults : ℕ

-- the next fate, where these wait
abbrev pub first_of : List Fate → Fate
first_of [] = Deliver
first_of (fate ∷ waiting) = fate

-- after a fate was given
abbrev pub after_fate : Plan → Fate → Plan
after_fate p fate = record {
  given = p.given ++ fate ∷ [];
  planned = p.planned;
  waiting = drop 1 p.waiting;
  faults = p.faults + (if is_fault fate then 1 else 0);
}

-- after further fates were planned
abbrev pub after_plan : Plan → List Fate → Plan
after_plan p fates = record p { planned = p.planned ++ fates; waiting = p.waiting ++ fates }
