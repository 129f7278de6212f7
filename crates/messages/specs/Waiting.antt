-- The late messages that wait, in the order in which they fall due.
use Rattle.std.specs.Prelude.{◌≡◌, ◌⊎◌, ◌<◌, ◌≤◌, ℕ, Bool, List, [], ◌∷◌, Option, Some, None, nat_le, if◌then◌else◌, refl}
use Rattle.std.specs.Coded.{Coded, code_by, coded×, coded_bool, coded_list}
use Rattle.messages.specs.declared.late.Late.{Late}
use Rattle.messages.specs.contracts.late.Late as code_of_late

-- a fact of each message
abbrev pub Each : (Late → Type 0) → List Late → Type 0
Each P [] = Unit {0}
Each P (l ∷ late) = P l × Each P late

-- one falls due earlier than the other, or with the same message and was sent earlier
abbrev pub IsBefore : Late → Late → Type 0
IsBefore l m = (l.due < m.due) ⊎ ((l.due ≡ m.due) × (l.number < m.number))

-- each falls due before all behind it
abbrev pub AreRising : List Late → Type 0
AreRising [] = Unit {0}
AreRising (l ∷ late) = Each (IsBefore l) late × AreRising late

-- with one more, behind all that fall due no later
abbrev pub kept : Late → List Late → List Late
kept l [] = l ∷ []
kept l (m ∷ late) = if nat_le m.due l.due then m ∷ kept l late else l ∷ m ∷ late

-- all that were sent have smaller numbers
abbrev pub AreSentBefore : ℕ → List Late → Type 0
AreSentBefore number late = Each (λ l. l.number < number) late

-- nothing falls due until then
abbrev pub NoneIsDue : ℕ → List Late → Type 0
NoneIsDue now [] = Unit {0}
NoneIsDue now (l ∷ late) = now < l.due

-- the first is taken, if it is due
abbrev pub IsTaken : ℕ → List Late → Option Late → List Late → Type 0
IsTaken now late None rest = NoneIsDue now late × (rest ≡ late)
IsTaken now late (Some l) rest = (l.due ≤ now) × (late ≡ l ∷ rest)

-- the messages that wait, and whether there is a place for one more
pub record Waiting : Type 0 where
  pub late : List Late
  pub room : Bool

abbrev pub waiting_code : Coded Waiting
waiting_code = code_by (List Late × Bool) (coded× (coded_list code_of_late.the_row.coded) coded_bool) (λ w. (w.late, w.room)) (λ p. record { late = p.0; room = p.1 }) (λ _. refl)
