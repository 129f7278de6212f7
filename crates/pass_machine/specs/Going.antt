-- How the machine goes over places, what it waits for, and how far it is from the end.
use Rattle.std.specs.Prelude.{◌≡◌, ◌<◌, ℕ, ◌+◌, ◌-◌, ◌*◌, List, [], ◌∷◌, Option, Some, None}
use Rattle.std.specs.Ordering.{nat_cmp}
use Rattle.std.specs.BTreeMap.{BTreeMap, Updates}
use Rattle.bucket_ids.specs.Buckets.{Low, first_child, second_child}
use Rattle.bucket_ids.specs.Printed.{number_of}
use Rattle.messages.specs.declared.decision.Decision.{Decision}
use Rattle.messages.specs.declared.decision.Decision.TheVariants.{RowSplit, RowsJoined}
use Rattle.pass_machine.specs.declared.doing.Time.{Time}
use Rattle.pass_machine.specs.declared.doing.Time.TheVariants.{First, Again}
use Rattle.pass_machine.specs.declared.doing.Settle.{Settle}
use Rattle.pass_machine.specs.declared.doing.Settle.TheVariants as settle
use Rattle.pass_machine.specs.declared.doing.Doing.{Doing}
use Rattle.pass_machine.specs.declared.doing.Doing.TheVariants.{ResendingDelete, ResentDelete, ResendingActivate, ResentActivate, Rounding, Joining, JoinTold, JoinRound, Splitting, SplitTold, SplitFirst, SplitSecond, Settling, Finished}
use Rattle.pass_machine.specs.declared.doing.UpkeepStep.{UpkeepStep}
use Rattle.pass_machine.specs.declared.doing.UpkeepStep.TheVariants as step
use Rattle.pass_machine.specs.declared.doing.Turn.TheVariants.{Over}
use Rattle.pass_machine.specs.declared.notes.RowNote.{RowNote}
use Rattle.pass_machine.specs.Turns.{View, turn_at}

-- at once, without anything that meets the lane
pub data GoesOver (v : View) (made : BTreeMap ℕ (Unit {0})) (notes : BTreeMap ℕ RowNote) : Doing → Doing → Type 0 where
  Stays : (d : Doing) → GoesOver v made notes d d
  Goes : (d e f : Doing) → turn_at v made notes d ≡ Over e → GoesOver v made notes e f → GoesOver v made notes d f

-- ---- what it waits for

-- that a node was told something of a row that is settled
abbrev pub IsRowTold : Settle → Type 0
IsRowTold (settle.Aligning n any) = n < 32
IsRowTold (settle.Readying n ready) = n < 32
IsRowTold settle.Activating = Unit {0}
IsRowTold (settle.DeleteTold n) = n < 32
IsRowTold _ = ⊥

-- that something of it was decided or noted
abbrev pub IsRowDecided : Settle → Type 0
IsRowDecided (settle.Deciding ready) = Unit {0}
IsRowDecided (settle.Accepting accepted) = Unit {0}
IsRowDecided (settle.Deleting n) = n < 32
IsRowDecided (settle.DeleteOver n) = n < 32
IsRowDecided _ = ⊥

-- the same of all that the machine does, where there are so many rows
abbrev pub IsTellingRow : ℕ → Doing → Type 0
IsTellingRow many (ResendingDelete at) = at < many
IsTellingRow many (ResendingActivate at) = at < many
IsTellingRow many (JoinTold t bits at p n) = n < 32
IsTellingRow many (SplitTold at b c n) = n < 32
IsTellingRow many (Settling t at next) = IsRowTold next
IsTellingRow many _ = ⊥

abbrev pub IsJoin : Decision → Type 0
IsJoin (RowsJoined p) = Unit {0}
IsJoin _ = ⊥

abbrev pub IsSplit : Decision → Type 0
IsSplit (RowSplit b) = b.bits < 58
IsSplit _ = ⊥

abbrev pub IsDecided : ℕ → Doing → Decision → Type 0
IsDecided many (ResentDelete at) x = at < many
IsDecided many (Joining t bits at) x = IsJoin x
IsDecided many (Splitting at) x = IsSplit x
IsDecided many (Settling t at next) x = IsRowDecided next
IsDecided many _ x = ⊥

-- that it was noted that an active node accepted
abbrev pub IsAccepted : ℕ → Doing → Type 0
IsAccepted many (ResentActivate at taken) = at < many
IsAccepted many (Settling t at (settle.Accepting accepted)) = Unit {0}
IsAccepted many _ = ⊥

-- that a round of a row was run
abbrev pub IsRounded : ℕ → Doing → Type 0
IsRounded many (Rounding at) = at < many
IsRounded many (JoinRound t bits at p) = Unit {0}
IsRounded many (SplitFirst at b c) = Unit {0}
IsRounded many (SplitSecond at c) = Unit {0}
IsRounded many (Settling t at settle.AlignRound) = Unit {0}
IsRounded many _ = ⊥

abbrev pub Awaits : ℕ → UpkeepStep → Doing → Type 0
Awaits many (step.Tell n b) d = IsTellingRow many d
Awaits many (step.Decide at x) d = IsDecided many d x
Awaits many (step.Accept at) d = IsAccepted many d
Awaits many (step.Round at) d = IsRounded many d
Awaits many step.Finished d = d ≡ Finished

-- ---- how far it is from the end

-- a row that is settled
abbrev pub steps_left : Settle → ℕ
steps_left settle.Beginning = 170
steps_left (settle.Aligning n any) = 135 + (32 - n)
steps_left settle.AlignRound = 134
steps_left (settle.Readying n ready) = 101 + (32 - n)
steps_left (settle.Deciding ready) = 100
steps_left settle.Activating = 99
steps_left (settle.Accepting answered) = 98
steps_left (settle.Deleting n) = 3 * (32 - n) + 1
steps_left (settle.DeleteTold n) = 3 * (32 - n)
steps_left (settle.DeleteOver n) = 3 * (32 - n) - 1

-- what comes behind the joins of a time, and behind its settling
abbrev pub behind_joins : Time → ℕ
behind_joins First = 2846
behind_joins Again = 172

abbrev pub behind_settling : Time → ℕ
behind_settling First = 2532
behind_settling Again = 0

-- the lane has so many rows, and may have at most as many as the first number; that many and two more are a unit
abbrev pub left_in : ℕ → ℕ → ℕ → Doing → ℕ
left_in unit most many (ResendingDelete at) = 5211 * unit + (many - at) * 3
left_in unit most many (ResentDelete at) = 5211 * unit + ((many - (at + 1)) * 3 + 1)
left_in unit most many (ResendingActivate at) = 5207 * unit + (many - at) * 3
left_in unit most many (ResentActivate at taken) = 5207 * unit + ((many - (at + 1)) * 3 + 1)
left_in unit most many (Rounding at) = 5206 * unit + (many - at)
left_in unit most many (Joining t bits at) = behind_joins t * unit + (bits * (40 * unit) + (many - at) * 40)
left_in unit most many (JoinTold t bits at p n) = behind_joins t * unit + (bits * (40 * unit) + ((many - at) * 40 + (3 + (32 - n))))
left_in unit most many (JoinRound t bits at p) = behind_joins t * unit + (bits * (40 * unit) + ((many - at) * 40 + 1))
left_in unit most many (Splitting at) = 2704 * unit + ((most - many) * 100 + (many - at) * 40)
left_in unit most many (SplitTold at b c n) = 2704 * unit + ((most - many) * 100 + ((many - at) * 40 + (4 + (32 - n))))
left_in unit most many (SplitFirst at b c) = 2704 * unit + ((most - many) * 100 + ((many - at) * 40 + 2))
left_in unit most many (SplitSecond at c) = 2704 * unit + ((most - many) * 100 + ((many - at) * 40 + 1))
left_in unit most many (Settling t at next) = behind_settling t * unit + (1 + ((many - at) * 171 + steps_left next))
left_in unit most many Finished = 0

abbrev pub left : ℕ → ℕ → Doing → ℕ
left most many d = left_in (most + 2) most many d

-- how many rows a decision leaves
abbrev pub AreLeft : ℕ → ℕ → Doing → Type 0
AreLeft many after (Joining t bits at) = (at < many) × (after + 1 ≡ many)
AreLeft many after (Splitting at) = after ≡ many + 1
AreLeft many after d = after ≡ many

-- ---- what joins made

-- the row that a join made the second time, behind its round
abbrev pub made_by : Time → Low → Option Low
made_by First p = None
made_by Again p = Some p

abbrev pub made_in : Doing → Option Low
made_in (JoinRound t bits at p) = made_by t p
made_in _ = None

-- it is noted as made
abbrev pub Makes : Option Low → BTreeMap ℕ (Unit {0}) → BTreeMap ℕ (Unit {0}) → Type 0
Makes None old new = new ≡ old
Makes (Some p) old new = Updates nat_cmp old new (number_of p) (Some tt)

-- ---- what a decision makes of the notes

-- the rows that a decision makes
abbrev pub join_makes : Decision → List Low
join_makes (RowsJoined p) = p ∷ []
join_makes _ = []

abbrev pub split_makes : Decision → List Low
split_makes (RowSplit b) = first_child b ∷ second_child b ∷ []
split_makes _ = []

abbrev pub rows_made : Doing → Decision → List Low
rows_made (Joining t bits at) x = join_makes x
rows_made (Splitting at) x = split_makes x
rows_made _ x = []

-- they have no note, and other rows have theirs
abbrev pub Forgets : List Low → BTreeMap ℕ RowNote → BTreeMap ℕ RowNote → Type 0
Forgets [] old new = new ≡ old
Forgets (b ∷ bs) old new = (between : BTreeMap ℕ RowNote) × Updates nat_cmp old between (number_of b) None × Forgets bs between new
