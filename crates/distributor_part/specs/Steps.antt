-- Which step comes next, what it leaves, and what the other calls make of the part.
use Rattle.std.specs.Prelude.{◌≡◌, ◌⊎◌, ◌==◌, ◌&&◌, ◌||◌, not, ℕ, ◌<◌, ◌≤◌, Bool, true, false, List, [], ◌++◌, map, flat_map, Option, Some, None, slice_get}
use Rattle.std.specs.List.{list_any}
use Rattle.bucket_ids.specs.Buckets.{Low, has_key}
use Rattle.node_sets.specs.Members.{has_node, size_of}
use Rattle.cluster_states.specs.declared.cluster_state.ClusterState.{ClusterState}
use Rattle.cluster_states.specs.Publishing.{serves}
use Rattle.pieces.specs.declared.piece.Piece.{Piece}
use Rattle.entry_maps.specs.EntryCodes.{Entries}
use Rattle.messages.specs.Noting.{message_of}
use Rattle.messages.specs.declared.message.Message.{Message}
use Rattle.messages.specs.declared.body.Body.TheVariants as body
use Rattle.messages.specs.declared.reply.Reply.{Reply}
use Rattle.messages.specs.declared.reply.Reply.TheVariants as reply
use Rattle.messages.specs.declared.decision.Decision.TheVariants.{RoundBegun, RoundEnded}
use Rattle.messages.specs.declared.step.NodePieces.{NodePieces}
use Rattle.messages.specs.declared.step.Step.{Step}
use Rattle.messages.specs.declared.step.Step.TheVariants.{Send, Open, Decide, Finished}
use Rattle.bucket_db.specs.Answers.{IsCoarsest, new_row}
use Rattle.bucket_db.specs.Changes.{with_rows, at_row}
use Rattle.bucket_db.specs.Rows.{Rows, AreRows}
use Rattle.bucket_db.specs.declared.row.Row.{Row}
use Rattle.distributor_part.specs.declared.stage.Stage.{Stage}
use Rattle.distributor_part.specs.declared.stage.Stage.TheVariants.{Before, Running, Over, Ended}
use Rattle.distributor_part.specs.Parts.{Part, origin_of}
use Rattle.distributor_part.specs.Targets.{AreTargets}

-- ---- what the part knows

-- the state that the part heard, not opened yet
pub record IsUnopened (p : Part) (state : ClusterState) : Type 0 where
  pub heard : p.state ≡ Some state
  pub unopened : p.rows ≡ None
  pub no_round : p.stage ≡ Before

-- and opened
pub record IsOpened (p : Part) (state : ClusterState) (rows : Rows) : Type 0 where
  pub heard : p.state ≡ Some state
  pub opened : p.rows ≡ Some rows

-- a serving node that has answered no Ask of the version and was asked none in this job
pub record IsToAsk (p : Part) (state : ClusterState) (node : ℕ) : Type 0 where
  pub serves : serves state node ≡ true
  pub unanswered : has_node p.answered node ≡ false
  pub unasked : has_node p.asked node ≡ false

-- each serving node has answered an Ask of the version
abbrev pub HaveAllAnswered : Part → ClusterState → Type 0
HaveAllAnswered p state = (node : ℕ) → serves state node ≡ true → has_node p.answered node ≡ true

-- the row of a place has the key
pub record IsRowOf (rows : Rows) (key at : ℕ) (row : Row) : Type 0 where
  pub found : slice_get rows.rows at ≡ Some row
  pub has : has_key row.bucket key ≡ true

-- the lowest member of a set
pub record IsLowest (nodes node : ℕ) : Type 0 where
  pub member : has_node nodes node ≡ true
  pub small : node < 32
  pub first : (other : ℕ) → has_node nodes other ≡ true → node ≤ other

-- ---- the next step, and the part after it

-- an Ask to the lowest node that is to be asked
pub record Asks (p q : Part) (m : Message) : Type 0 where
  pub state : ClusterState
  pub unopened : IsUnopened p state
  pub to_ask : IsToAsk p state m.receiver
  pub lowest : (node : ℕ) → IsToAsk p state node → m.receiver ≤ node
  pub message : m ≡ message_of (origin_of p state.version) m.receiver body.Ask
  pub marked : (node : ℕ) → has_node q.asked node ≡ (has_node p.asked node || node == m.receiver)
  pub after : q ≡ record p { asked = q.asked; awaited = Some m.receiver }

-- the rows are the coarsest partition that no bucket in an answer divides, none with a mark
pub record HasRows (p q : Part) (buckets : List Low) : Type 0 where
  pub coarsest : IsCoarsest p.lane p.shown buckets
  pub are_rows : AreRows p.lane buckets
  pub after : q ≡ record p { shown = []; rows = Some (record { lane = p.lane; rows = map new_row buckets }) }

-- they come once all have answered
pub record Opens (p q : Part) (buckets : List Low) : Type 0 where
  pub state : ClusterState
  pub unopened : IsUnopened p state
  pub all : HaveAllAnswered p state
  pub rows : HasRows p q buckets

abbrev pub IsOpening : Part → Part → Step → Type 0
IsOpening p q (Open buckets) = HasRows p q buckets
IsOpening p q _ = ⊥

-- the key's row has too few complete members, and its round goes to its targets
pub record BeginsRound (p q : Part) (key : ℕ) (bucket : Low) (receivers : ℕ) : Type 0 where
  pub state : ClusterState
  pub rows : Rows
  pub opened : IsOpened p state rows
  pub no_round : p.stage ≡ Before
  pub at : ℕ
  pub row : Row
  pub is_row : IsRowOf rows key at row
  pub few : size_of row.complete < (p.rules).acks
  pub same_bucket : bucket ≡ row.bucket
  pub targets : AreTargets (p.rules).redundancy state row.bucket row.active receivers
  pub after : q ≡ record p { stage = Running at receivers }

-- the rows with other complete members in the row of a place
abbrev pub with_marks : Rows → ℕ → ℕ → Rows
with_marks rows at marks = with_rows rows (at_row at (λ r. record r { complete = marks }) rows.rows)

-- a round is over, and its row has the marks that it gave
pub record EndsRound (p q : Part) (bucket : Low) (complete : ℕ) : Type 0 where
  pub rows : Rows
  pub opened : p.rows ≡ Some rows
  pub at : ℕ
  pub missing : ℕ
  pub over : p.stage ≡ Over at complete missing
  pub row : Row
  pub found : slice_get rows.rows at ≡ Some row
  pub same_bucket : bucket ≡ row.bucket
  pub marks : ℕ
  pub gained : (node : ℕ) → has_node marks node ≡ (has_node row.complete node || has_node complete node)
  pub after : q ≡ record p { rows = Some (with_marks rows at marks); stage = Ended missing }

-- nobody is left to ask, and these have not answered
pub record LacksAnswers (p : Part) (missing : ℕ) : Type 0 where
  pub state : ClusterState
  pub unopened : IsUnopened p state
  pub none_left : (node : ℕ) → IsToAsk p state node → ⊥
  pub some : HaveAllAnswered p state → ⊥
  pub are : (node : ℕ) → has_node missing node ≡ (serves state node && not (has_node p.answered node))

-- the key's row has enough complete members, without a round
pub record HasEnough (p : Part) (key missing : ℕ) : Type 0 where
  pub rows : Rows
  pub opened : p.rows ≡ Some rows
  pub no_round : p.stage ≡ Before
  pub at : ℕ
  pub row : Row
  pub is_row : IsRowOf rows key at row
  pub enough : (p.rules).acks ≤ size_of row.complete
  pub nobody : missing ≡ 0

-- the job is over: the state can't be opened yet, the row is fit as it is, or its round was run
pub record Finishes (p q : Part) (key missing : ℕ) : Type 0 where
  pub cause : LacksAnswers p missing ⊎ (HasEnough p key missing ⊎ (p.stage ≡ Ended missing))
  pub after : q ≡ record p { asked = 0; stage = Before }

abbrev pub IsStep : Part → ℕ → Step → Part → Type 0
IsStep p key (Send m) q = Asks p q m
IsStep p key (Open buckets) q = Opens p q buckets
IsStep p key (Decide (RoundBegun bucket receivers)) q = BeginsRound p q key bucket receivers
IsStep p key (Decide (RoundEnded bucket complete)) q = EndsRound p q bucket complete
IsStep p key (Decide _) q = ⊥
IsStep p key (Finished missing) q = Finishes p q key missing

-- ---- answers

-- the buckets of pieces
abbrev pub buckets_shown : List Piece → List Low
buckets_shown = map (λ p. p.bucket)

-- of all answers, in their order
abbrev pub all_shown : List (List Piece) → List Low
all_shown = flat_map buckets_shown

-- a node's answer to the Ask counts with the buckets that it shows
pub record TakesAnswer (p q : Part) (node : ℕ) (pieces : List Piece) : Type 0 where
  pub marked : (n : ℕ) → has_node q.answered n ≡ (has_node p.answered n || n == node)
  pub after : q ≡ record p { answered = q.answered; shown = p.shown ++ buckets_shown pieces; awaited = None }

-- any other reply, or none, counts for nothing
abbrev pub IsAfterAnswer : Part → Part → ℕ → Option Reply → Type 0
IsAfterAnswer p q node (Some (reply.Answer pieces entries)) = TakesAnswer p q node pieces
IsAfterAnswer p q node _ = q ≡ record p { awaited = None }

-- ---- rounds

-- the node's answer to the Read was shown
abbrev pub did_show : List NodePieces → ℕ → Bool
did_show shown node = list_any (λ s. s.node == node) shown

-- who was asked last and didn't answer: of the Applies where there is a union, else of the Reads
abbrev pub IsMissing : Part → ℕ → ℕ → Option Entries → List NodePieces → ℕ → Type 0
IsMissing p receivers complete (Some union) shown missing =
    (node : ℕ) → has_node missing node ≡ (has_node receivers node && not (has_node complete node))
IsMissing p receivers complete None shown missing =
    (state : ClusterState) → p.state ≡ Some state
    → (node : ℕ) → has_node missing node ≡ (serves state node && not (did_show shown node))

-- the round under way is over
pub record IsRoundOver (p q : Part) (complete : ℕ) (union : Option Entries) (shown : List NodePieces) : Type 0 where
  pub at : ℕ
  pub receivers : ℕ
  pub running : p.stage ≡ Running at receivers
  pub missing : ℕ
  pub is_missing : IsMissing p receivers complete union shown missing
  pub after : q ≡ record p { stage = Over at complete missing }

abbrev pub IsRunning : Stage → Type 0
IsRunning (Running at receivers) = Unit {0}
IsRunning _ = ⊥

-- ---- closes

-- an operation on the key was acknowledged: its row keeps the complete members that answered
pub record IsClosed (p q : Part) (key answered : ℕ) : Type 0 where
  pub rows : Rows
  pub opened : p.rows ≡ Some rows
  pub at : ℕ
  pub row : Row
  pub is_row : IsRowOf rows key at row
  pub marks : ℕ
  pub kept : (node : ℕ) → has_node marks node ≡ (has_node row.complete node && has_node answered node)
  pub after : q ≡ record p { rows = Some (with_marks rows at marks) }

-- ---- a job that is given up

abbrev pub without_end : Stage → Stage
without_end (Ended missing) = Before
without_end stage = stage
