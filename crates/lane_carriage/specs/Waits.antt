-- Which late messages wait after the messages with these fates.
use Rattle.std.specs.Prelude.{◌≡◌, ◌==◌, ◌<◌, ◌≤◌, ℕ, ◌+◌, List, [], ◌∷◌, ◌++◌, length, map, if◌then◌else◌}
use Rattle.carriers.specs.declared.fate.Fate as carried
use Rattle.carriers.specs.declared.fate.Fate.TheVariants as fate
use Rattle.messages.specs.declared.message.Message.{Message}
use Rattle.messages.specs.Waiting.{Each, AreRising, kept}
use Rattle.messages.specs.declared.late.Late.{Late}
use Rattle.lane_carriage.specs.Carriage.{due}

abbrev pub numbers : List Late → List ℕ
numbers late = map (λ l. l.number) late

-- the numbers of those that are due with message n
abbrev pub due_at : ℕ → List Late → List ℕ
due_at n [] = []
due_at n (l ∷ late) = if l.due == n then l.number ∷ due_at n late else due_at n late

-- of the messages up to `last`, which have these fates, just those wait whose delivery is still to come
pub record IsWaiting (given : List carried.Fate) (last : ℕ) (late : List Late) : Type 0 where
  pub counted : last ≡ length given
  pub each : (n : ℕ) → last < n → due_at n late ≡ due given n
  pub later : Each (λ l. last < l.due) late
  pub rising : AreRising late

-- with the message of this number, if it is late
abbrev pub kept_by : carried.Fate → ℕ → Message → List Late → List Late
kept_by fate.Deliver n m late = late
kept_by fate.LoseRequest n m late = late
kept_by fate.LoseReply n m late = late
kept_by fate.Twice n m late = late
kept_by (fate.Late k) n m late = kept (record { due = n + k; number = n; message = m }) late

-- these were taken one by one, all that are due by now
pub record AreTaken (now : ℕ) (late taken rest : List Late) : Type 0 where
  pub all : late ≡ taken ++ rest
  pub due : Each (λ l. l.due ≤ now) taken
