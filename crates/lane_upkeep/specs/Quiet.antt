-- What a pass makes of nodes and rows in a span that nothing disturbs: what `lane_rest` says of a pass in the abstract.
-- Messages of the span may be taken twice; a script says which.
use Rattle.std.specs.Prelude.{◌≡◌, ℕ, ◌≤◌, true, false, List, Option, None, Some, slice_set}
use Rattle.std.specs.BTreeMap.{BTreeMap}
use Rattle.cluster_states.specs.Publishing.{serves}
use Rattle.carriers.specs.declared.fate.Fate.{Fate}
use Rattle.messages.specs.declared.body.Body.{Body}
use Rattle.messages.specs.declared.reply.Reply.{Reply}
use Rattle.bucket_db.specs.declared.row.Row.{Row}
use Rattle.lane_journals.specs.Readers.{version}
use Rattle.lane_journals.specs.Meanings.{history}
use Rattle.lane_keeping.specs.LaneKeeping.{node_in, setting_of}
use Rattle.lane_states.specs.declared.lane_state.LaneState.{LaneState}
use Rattle.lane_states.specs.LaneStates.{journal_of}
use Rattle.pass_model.specs.Nodes.{Node}
use Rattle.pass_model.specs.Shapes.{Nothing}
use Rattle.pass_model.specs.Rows.{Settings, round_node, round_row}
use Rattle.pass_model.specs.Passes.{World, Resends, Passes}
use Rattle.pass_model.specs.Resting.{AreSettings}
use Rattle.pass_model.specs.Worlds.{AreSettingsOf}
use Rattle.pass_model.specs.Lanes.{seen_node, is_taken, is_answer}
use Rattle.pass_model.specs.Scripts.{Script, came, told_node}
use Rattle.undisturbed_spans.specs.Undisturbed.{GoesUndisturbed, Extends}
use Rattle.pass_machine.specs.declared.notes.RowNote.{RowNote}
use Rattle.pass_machine.specs.declared.pass.UpkeepPass.{UpkeepPass}
use Rattle.pass_machine.specs.Abstract.{IsParted, row_with}
use Rattle.pass_runs.specs.Worlds.{row_by, world_of}
use Rattle.pass_runs.specs.Standing.{Stands}
use Rattle.lane_upkeep.specs.declared.owner.Owner.{Owner}
use Rattle.lane_upkeep.specs.CameBack.{is_end}
use Rattle.lane_upkeep.specs.Passing.{rows_in}
use Rattle.lane_upkeep.specs.UnderWay.{view_in}

-- ---- the span

-- the lane went on quietly, and the script says which messages were taken twice
abbrev pub Goes : Script → List Fate → LaneState → LaneState → Type 0
Goes d given c e = GoesUndisturbed d given (journal_of c) (journal_of e)

-- ---- the lane as a pass sees it

abbrev pub nodes_in : Script → LaneState → ℕ → Node
nodes_in d c n = seen_node (d n) (came n (history (journal_of c))) (node_in c.nodes.items n)

-- each node that serves knows the version
abbrev pub IsCurrent : LaneState → Owner → Type 0
IsCurrent c o = (n : ℕ) → serves o.state n ≡ true → version n (history (journal_of c)) ≡ (o.state).version

-- the settings of a pass are those of the lane; no more nodes are to be ready than there are to be copies
pub record AreSettingsIn (c : LaneState) (o : Owner) (s : Settings) : Type 0 where
  pub sound : AreSettings s
  pub searched : s.searchable ≤ s.redundancy
  pub lane : AreSettingsOf (setting_of c.lane c.rules) (c.rules).searchable (c.rules).split_at o.state (journal_of c) s

-- ---- what a function does in a quiet span, whatever the script

abbrev pub InQuiet : List Fate → LaneState → LaneState → Owner → (Script → Settings → Type 0) → Type 0
InQuiet given c e o L = (d : Script) (s : Settings) → AreSettingsIn c o s → IsCurrent c o → Goes d given c e → L d s

-- the nodes are what a function makes of them
abbrev pub NodesBecome : Script → LaneState → LaneState → ((ℕ → Node) → ℕ → Node) → Type 0
NodesBecome d c e f = (n : ℕ) → nodes_in d e n ≡ f (nodes_in d c) n

-- no node knows another version
abbrev pub VersionsStay : LaneState → LaneState → Type 0
VersionsStay c e = (n : ℕ) → version n (history (journal_of e)) ≡ version n (history (journal_of c))

-- a node that doesn't serve stays as it is
abbrev pub OthersStay : Script → LaneState → LaneState → Owner → Type 0
OthersStay d c e o = (n : ℕ) → serves o.state n ≡ false → nodes_in d e n ≡ nodes_in d c n

-- one step or several: the carrier gave fates for its messages, and in a quiet span it does this; no node comes to know
-- another version, and just those that serve change
pub record DoesQuietly (given now : List Fate) (c e : LaneState) (o : Owner) (L : Script → Settings → Type 0) : Type 0 where
  pub fates : Extends given now
  pub quiet : InQuiet now c e o L
  pub versions : InQuiet now c e o (λ d s. VersionsStay c e)
  pub still : InQuiet now c e o (λ d s. OthersStay d c e o)

-- one message: a reply comes, just where the node takes it an answer; its node is at no higher version and wants no memory,
-- so a Delete is over by it
pub record IsToldQuietly (d : Script) (c e : LaneState) (node : ℕ) (body : Body) (reply : Option Reply) : Type 0 where
  pub nodes : NodesBecome d c e (told_node node body)
  pub versions : VersionsStay c e
  pub given : Reply
  pub came_back : reply ≡ Some given
  pub answers : is_answer given ≡ is_taken body (nodes_in d c node)
  pub ends : is_end reply ≡ true

-- ---- a round

-- one round of the row of a place: it is whole, and only that row changes. What a node shows that doesn't serve is taken
-- as it was before the round, since it stays so
pub record IsRoundQuietly (d : Script) (s : Settings) (c e : LaneState) (o : Owner) (at : ℕ) (row : Row) (note : RowNote) : Type 0 where
  pub of_row : note.bucket ≡ row.bucket
  pub whole : note.whole ≡ true
  pub parted : IsParted (serves o.state) note
  pub nodes : NodesBecome d c e (round_node s (row_with (λ n. Nothing) None row))
  pub after : Row
  pub rows : rows_in e o ≡ slice_set (rows_in c o) at after
  pub becomes : row_by o.state (nodes_in d c) (Some note) after ≡ round_row s (row_with (λ n. Nothing) None row) (nodes_in d c)
  pub deleting : after.deleting ≡ row.deleting

-- ---- the pass

-- the nodes and rows of a lane, with what rounds showed; what nodes are that don't serve is given beside it
abbrev pub world_in : Script → Settings → (ℕ → Node) → LaneState → Owner → BTreeMap ℕ RowNote → World
world_in d s still c o notes = world_of still (view_in s.ideal c o) notes (nodes_in d c)

-- where the pass stands that began with this world; a node that doesn't serve is as it was then
pub record StandsIn (d : Script) (s : Settings) (still : ℕ → Node) (first : World) (c : LaneState) (o : Owner) (p : UpkeepPass) : Type 0 where
  pub others : (n : ℕ) → serves o.state n ≡ false → nodes_in d c n ≡ still n
  pub stands : Stands s still first (view_in s.ideal c o) p.made p.notes.by_number p.doing (nodes_in d c)

-- it stands behind a step or several where it stood before
abbrev pub StandsOn : Script → Settings → LaneState → LaneState → Owner → UpkeepPass → UpkeepPass → Type 0
StandsOn d s c e o p q = (still : ℕ → Node) (first : World) → StandsIn d s still first c o p → StandsIn d s still first e o q

-- what is sent again, and the pass
pub record PassesQuietly (d : Script) (s : Settings) (c e : LaneState) (o : Owner) : Type 0 where
  pub before : BTreeMap ℕ RowNote
  pub after : BTreeMap ℕ RowNote
  pub resent : World
  pub resends : Resends s (world_in d s (nodes_in d c) c o before) resent
  pub passes : Passes s resent (world_in d s (nodes_in d c) e o after)
