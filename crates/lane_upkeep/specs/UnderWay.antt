-- A pass that a machine makes: what the journal says of what the machine was told, what may come next, and what a step
-- decides.
use Rattle.std.specs.Prelude.{◌≡◌, ◌<◌, ◌≤◌, ℕ, Bool, true, List, length, IfSome, Option}
use Rattle.bucket_ids.specs.Buckets.{Low, IsBucket, parent_of}
use Rattle.ideal_nodes.specs.Placement.{IsIdeal}
use Rattle.messages.specs.declared.body.Body.{Body}
use Rattle.messages.specs.declared.body.Body.TheVariants as body
use Rattle.messages.specs.declared.reply.Reply.{Reply}
use Rattle.messages.specs.declared.decision.Decision.{Decision}
use Rattle.messages.specs.declared.decision.Decision.TheVariants.{RowSplit, RowsJoined, ActiveOn, DeleteFrom, DeleteOver}
use Rattle.bucket_db.specs.declared.row.Row.{Row}
use Rattle.distributor_part.specs.Targets.{IsToBeActive}
use Rattle.distributor_part.specs.Upkeep.{CanJoinAt}
use Rattle.lane_journals.specs.Facts.{AnsweredReady}
use Rattle.lane_journals.specs.Meanings.{history}
use Rattle.row_keeping.specs.Deciding.{MayActivate, MayDelete, IsDeleteOver}
use Rattle.lane_states.specs.declared.lane_state.LaneState.{LaneState}
use Rattle.lane_states.specs.Accepting.{HasAccepted}
use Rattle.lane_states.specs.LaneStates.{journal_of, part_of}
use Rattle.pass_machine.specs.declared.pass.UpkeepPass.{UpkeepPass}
use Rattle.pass_machine.specs.declared.doing.Doing.{Doing}
use Rattle.pass_machine.specs.declared.doing.Doing.TheVariants.{ResentDelete, ResentActivate, JoinTold, SplitTold, Settling}
use Rattle.pass_machine.specs.declared.doing.Settle.{Settle}
use Rattle.pass_machine.specs.declared.doing.Settle.TheVariants.{Readying, Deciding, Accepting, DeleteOver as DeleteIsOver}
use Rattle.pass_machine.specs.declared.doing.UpkeepStep.{UpkeepStep}
use Rattle.pass_machine.specs.declared.doing.UpkeepStep.TheVariants.{Tell, Decide, Accept, Round, Finished}
use Rattle.pass_machine.specs.declared.doing.Turn.TheVariants.{Says}
use Rattle.pass_machine.specs.Turns.{View, turn_at}
use Rattle.pass_machine.specs.Going.{GoesOver, left}
use Rattle.pass_runs.specs.Steps.{IsDecidedBy}
use Rattle.lane_upkeep.specs.declared.owner.Owner.{Owner}
use Rattle.lane_upkeep.specs.CameBack.{is_taken, is_end}
use Rattle.lane_upkeep.specs.Deciding.{Decides, HasEnded}
use Rattle.lane_upkeep.specs.Noted.{AreNotes}
use Rattle.lane_upkeep.specs.Passing.{rows_in, HasRow, MayTell}

-- ---- what the machine reads

-- the owner's state and rows and the lane's rules, with an ideal order of each bucket
abbrev pub view_in : (Low → List ℕ) → LaneState → Owner → View
view_in ideal c o = record { state = o.state; rules = c.rules; lane = c.lane; rows = rows_in c o; ideal = ideal }

abbrev pub AreIdeal : Owner → (Low → List ℕ) → Type 0
AreIdeal o ideal = (b : Low) → IsIdeal b o.state (ideal b)

-- ---- what it was told

-- the row of a place, if there is one
abbrev pub OfRow : LaneState → Owner → ℕ → (Row → Type 0) → Type 0
OfRow c o at P = (row : Row) → HasRow c o at row → P row

-- the unanswered Delete of the row came back with a reply that ends it
abbrev pub IsRowOver : LaneState → Owner → Row → Type 0
IsRowOver c o row = IfSome row.deleting (λ d. IsDeleteOver (history (journal_of c)) o.state d)

-- the node that is to be active answered a Ready of the row
abbrev pub IsReadied : LaneState → Owner → Row → Type 0
IsReadied c o row = (node : ℕ) → IsToBeActive o.state row.bucket row.complete row.active node → AnsweredReady (o.state).version node row.bucket (history (journal_of c))

-- the active node accepted
abbrev pub IsRowAccepted : LaneState → Owner → Row → Type 0
IsRowAccepted c o row = HasAccepted (o.state).version (history (journal_of c)) row

abbrev pub HasBucket : LaneState → Owner → Low → Type 0
HasBucket c o b = (at : ℕ) × (row : Row) × HasRow c o at row × (row.bucket ≡ b)

-- what it knows of a row that is settled, and else
abbrev pub KnowsRow : LaneState → Owner → ℕ → Settle → Type 0
KnowsRow c o at (Readying n ready) = ready ≡ true → OfRow c o at (IsReadied c o)
KnowsRow c o at (Deciding ready) = ready ≡ true → OfRow c o at (IsReadied c o)
KnowsRow c o at (Accepting answered) = answered ≡ true → OfRow c o at (IsRowAccepted c o)
KnowsRow c o at (DeleteIsOver n) = OfRow c o at (IsRowOver c o)
KnowsRow c o at _ = Unit {0}

abbrev pub KnowsDoing : LaneState → Owner → Doing → Type 0
KnowsDoing c o (ResentDelete at) = OfRow c o at (IsRowOver c o)
KnowsDoing c o (ResentActivate at answered) = answered ≡ true → OfRow c o at (IsRowAccepted c o)
KnowsDoing c o (JoinTold t bits at p n) = HasBucket c o p
KnowsDoing c o (SplitTold at first second n) = HasBucket c o first
KnowsDoing c o (Settling t at next) = KnowsRow c o at next
KnowsDoing c o _ = Unit {0}

-- between two steps: what it keeps of rounds is what the journal says, and so is what it was told
pub record IsUnderWay (c : LaneState) (o : Owner) (p : UpkeepPass) : Type 0 where
  pub notes : AreNotes (journal_of c) o.state p.notes.by_number
  pub doing : KnowsDoing c o p.doing

-- ---- what may come next

-- a decision on the row of a place that the legal relation of journals permits, by the laws of `row_keeping`
abbrev pub MayDecide : LaneState → Owner → ℕ → Decision → Type 0
MayDecide c o at (RowSplit b) = (row : Row) × HasRow c o at row × (row.bucket ≡ b) × (row.bucket.bits < 58)
MayDecide c o at (RowsJoined b) = (row : Row) × HasRow c o at row × (parent_of row.bucket ≡ b) × CanJoinAt (part_of c o.distributor) at
MayDecide c o at (ActiveOn b n) = (row : Row) × HasRow c o at row × (row.bucket ≡ b) × (n < 32) × MayActivate (history (journal_of c)) o.state row n
MayDecide c o at (DeleteFrom b n serial) = (row : Row) × HasRow c o at row × (row.bucket ≡ b) × (n < 32) × MayDelete c.rules (history (journal_of c)) o.state row n serial
MayDecide c o at (DeleteOver b n) = HasEnded c o b n
MayDecide c o at _ = ⊥

-- the bucket that a Delete names is one
abbrev pub NamesDeleted : Body → Type 0
NamesDeleted (body.Delete b serial) = IsBucket b
NamesDeleted _ = Unit {0}

-- this holds of the message, if the step is one
abbrev pub IfTold : UpkeepStep → (ℕ → Body → Type 0) → Type 0
IfTold (Tell n b) P = P n b
IfTold _ P = Unit {0}

-- a message of one of the owner's rows, such a decision, an acceptance that a reply showed, or a round of a row
abbrev pub MayComeNext : LaneState → Owner → UpkeepStep → Type 0
MayComeNext c o (Tell n b) = MayTell c o n b
MayComeNext c o (Decide at x) = MayDecide c o at x
MayComeNext c o (Accept at) = (at < length (rows_in c o)) × OfRow c o at (IsRowAccepted c o)
MayComeNext c o (Round at) = at < length (rows_in c o)
MayComeNext c o Finished = Unit {0}

-- the machine goes over places, and this step comes there, whatever ideal orders there are
pub record Comes (c : LaneState) (o : Owner) (p q : UpkeepPass) (x : UpkeepStep) : Type 0 where
  pub goes : (ideal : Low → List ℕ) → AreIdeal o ideal → GoesOver (view_in ideal c o) p.made p.notes.by_number p.doing q.doing
  pub says : (ideal : Low → List ℕ) → AreIdeal o ideal → turn_at (view_in ideal c o) p.made p.notes.by_number q.doing ≡ Says x
  pub same : q ≡ record p { doing = q.doing }

-- this step comes where the machine stands
abbrev pub IsNextStep : LaneState → Owner → UpkeepPass → UpkeepStep → Type 0
IsNextStep c o p x = (ideal : Low → List ℕ) → AreIdeal o ideal → turn_at (view_in ideal c o) p.made p.notes.by_number p.doing ≡ Says x

-- ---- what a step does

-- what the machine is told of a reply: that it ends the Delete, or that the node took what it was told
abbrev pub is_taken_as : Body → Option Reply → Bool
is_taken_as (body.Delete b serial) reply = is_end reply
is_taken_as b reply = is_taken reply

-- the owner decided this of the row of a place, and its part did it
pub record DidDecide (c e : LaneState) (o : Owner) (at : ℕ) (x : Decision) : Type 0 where
  pub does : IsDecidedBy at x (part_of c o.distributor) (part_of e o.distributor)
  pub decides : Decides c e o x

-- the pass is nearer to its end, whatever is the most that there may be of rows
abbrev pub IsNearer : LaneState → LaneState → Owner → UpkeepPass → UpkeepPass → Type 0
IsNearer c e o p q = (most : ℕ) → length (rows_in c o) ≤ most → length (rows_in e o) ≤ most → left most (length (rows_in e o)) q.doing < left most (length (rows_in c o)) p.doing
