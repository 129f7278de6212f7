-- What each step of a pass does, whatever becomes of its messages, and that a pass is one step of its machine after the
-- other.
use Rattle.std.specs.Prelude.{◌≡◌, ◌⊎◌, ℕ, Bool, true, List, Option, Some, None, MatchBool}
use Rattle.std.specs.Ordering.{nat_cmp}
use Rattle.std.specs.BTreeMap.{Updates, get}
use Rattle.bucket_ids.specs.Buckets.{Low}
use Rattle.bucket_ids.specs.Printed.{number_of}
use Rattle.carriers.specs.declared.fate.Fate.{Fate}
use Rattle.messages.specs.declared.body.Body.{Body}
use Rattle.messages.specs.declared.decision.Decision.{Decision}
use Rattle.messages.specs.declared.reply.Reply.{Reply}
use Rattle.lane_states.specs.declared.lane_state.LaneState.{LaneState}
use Rattle.pass_machine.specs.declared.doing.Doing.TheVariants as doing
use Rattle.pass_machine.specs.declared.doing.UpkeepStep.{UpkeepStep}
use Rattle.pass_machine.specs.declared.doing.UpkeepStep.TheVariants.{Tell, Decide, Accept, Round, Finished}
use Rattle.pass_machine.specs.declared.notes.RowNote.{RowNote}
use Rattle.pass_machine.specs.declared.pass.UpkeepPass.{UpkeepPass}
use Rattle.pass_machine.specs.Turns.{answered, decided, accepted, rounded}
use Rattle.pass_machine.specs.Going.{Forgets, Makes, made_in, rows_made}
use Rattle.lane_upkeep.specs.declared.owner.Owner.{Owner}
use Rattle.lane_upkeep.specs.Deciding.{DidAccept}
use Rattle.lane_upkeep.specs.Maintaining.{AreReturned}
use Rattle.lane_upkeep.specs.Passing.{IsPassing, PassesOn, AreWhole}
use Rattle.lane_upkeep.specs.RoundNotes.{NotesRun}
use Rattle.lane_upkeep.specs.Sending.{Says}
use Rattle.lane_upkeep.specs.UnderWay.{AreIdeal, view_in, is_taken_as, DidDecide, Comes, MayComeNext}

-- the message was sent and dealt with by its fate, and the machine is told what came back
pub record DoesTell (c e : LaneState) (o : Owner) (p q : UpkeepPass) (node : ℕ) (body : Body) (given now : List Fate) : Type 0 where
  pub reply : Option Reply
  pub says : Says c e o node body given now reply
  pub behind : (ideal : Low → List ℕ) → AreIdeal o ideal → q.doing ≡ answered (view_in ideal e o) (is_taken_as body reply) p.doing
  pub same : q ≡ record p { doing = q.doing }

-- this was decided, and the machine forgets the notes of the rows that it made
pub record DoesDecide (c e : LaneState) (o : Owner) (p q : UpkeepPass) (at : ℕ) (x : Decision) : Type 0 where
  pub did : DidDecide c e o at x
  pub behind : q.doing ≡ decided p.doing x
  pub made : q.made ≡ p.made
  pub forgets : Forgets (rows_made p.doing x) p.notes.by_number q.notes.by_number

-- it was noted that the active node accepted
pub record DoesAccept (c e : LaneState) (o : Owner) (p q : UpkeepPass) (at : ℕ) : Type 0 where
  pub did : DidAccept c e o at
  pub behind : q.doing ≡ accepted p.doing
  pub same : q ≡ record p { doing = q.doing }

-- a round of the row was run to its end, and the machine keeps what it told
pub record DoesRound (c e : LaneState) (o : Owner) (p q : UpkeepPass) (at : ℕ) (given now : List Fate) : Type 0 where
  pub note : RowNote
  pub ran : NotesRun c e o at given now note
  pub behind : (ideal : Low → List ℕ) → AreIdeal o ideal → q.doing ≡ rounded (view_in ideal e o) p.doing
  pub kept : Updates nat_cmp p.notes.by_number q.notes.by_number (number_of note.bucket) (Some note)
  pub makes : Makes (made_in p.doing) p.made q.made

-- a step was taken
abbrev pub TakesStep : UpkeepStep → LaneState → LaneState → Owner → UpkeepPass → UpkeepPass → List Fate → List Fate → Type 0
TakesStep (Tell n b) c e o p q given now = DoesTell c e o p q n b given now
TakesStep (Decide at x) c e o p q given now = (now ≡ given) × DoesDecide c e o p q at x
TakesStep (Accept at) c e o p q given now = (now ≡ given) × DoesAccept c e o p q at
TakesStep (Round at) c e o p q given now = DoesRound c e o p q at given now
TakesStep Finished c e o p q given now = ⊥

-- the next step of the machine was taken, which the lane permitted, over all rows of the lane; or there was none
pub record GoesOneOn (c e : LaneState) (o : Owner) (p q : UpkeepPass) (given now : List Fate) (more : Bool) : Type 0 where
  pub whole : AreWhole c o
  pub on : PassesOn c e o
  pub step : UpkeepStep
  pub next : UpkeepPass
  pub comes : Comes c o p next step
  pub may : MayComeNext c o step
  pub does : MatchBool more (TakesStep step c e o next q given now) ((step ≡ Finished) × (e ≡ c) × (now ≡ given) × (q ≡ next))

-- one step of the machine after the other
pub data Runs (o : Owner) : LaneState → UpkeepPass → List Fate → LaneState → UpkeepPass → List Fate → Type 0 where
  NoStep : (c : LaneState) (p : UpkeepPass) (given : List Fate) → Runs o c p given c p given
  MoreSteps : (c m e : LaneState) (p q r : UpkeepPass) (given mid now : List Fate) → Runs o c p given m q mid → GoesOneOn m e o q r mid now true → Runs o c p given e r now

-- a machine that begins
pub record IsNew (p : UpkeepPass) : Type 0 where
  pub begins : p.doing ≡ doing.ResendingDelete 0
  pub none_made : (number : ℕ) → get nat_cmp p.made number ≡ None
  pub no_notes : (number : ℕ) → get nat_cmp p.notes.by_number number ≡ None

-- steps of a machine led here from where it began
pub record HasRun (c e : LaneState) (o : Owner) (q : UpkeepPass) (given now : List Fate) : Type 0 where
  pub first : UpkeepPass
  pub new : IsNew first
  pub runs : Runs o c first given e q now

-- a pass is all steps of a machine, from where it begins until none comes
pub record IsPass (c e : LaneState) (o : Owner) (given now : List Fate) : Type 0 where
  pub last : UpkeepPass
  pub run : HasRun c e o last given now
  pub whole : AreWhole e o
  pub over : UpkeepPass
  pub ends : Comes e o last over Finished
  pub finished : over.doing ≡ doing.Finished

-- the owner opened its state, where it wasn't opened, and then made a pass; or not all nodes answered, and that was all
pub record OpensThenPasses (c e : LaneState) (o : Owner) (now : List Fate) : Type 0 where
  pub middle : LaneState
  pub fates : List Fate
  pub opening : PassesOn c middle o
  pub behind : (IsPassing middle o fates × IsPass middle e o fates now) ⊎ ((AreReturned c middle → ⊥) × (e ≡ middle) × (now ≡ fates))
