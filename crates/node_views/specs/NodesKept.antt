-- That the nodes of a lane are what its journal says.
use Rattle.std.specs.Prelude.{◌≡◌, ◌<◌, ◌≤◌, ℕ, List}
use Rattle.bucket_ids.specs.Buckets.{IsBucket}
use Rattle.node_sets.specs.Members.{has_node}
use Rattle.node_model.specs.Nodes.{Node}
use Rattle.lane_journals.specs.Readers.{stopped}
use Rattle.lane_journals.specs.Meanings.{history}
use Rattle.lane_journals.specs.Places.{Setting}
use Rattle.lane_journals.specs.KeptJournals.{IsLegal}
use Rattle.lane_journals.specs.declared.event.LaneEvent.{LaneEvent}
use Rattle.lane_keeping.specs.NodeKeeping.{NodeKeeps}
use Rattle.lane_keeping.specs.LaneKeeping.{node_in}
use Rattle.journal_views.specs.JournalViews.{FindRoom}

-- the journal is legal in a lane that is a bucket, and says what each node is and which ones are stopped; its entries
-- find local ids
pub record AreKeptNodes (S : Setting) (J : List LaneEvent) (nodes : List Node) (set : ℕ) : Type 0 where
  pub lane : IsBucket S.lane
  pub acks : 1 ≤ S.acks
  pub legal : IsLegal S J
  pub room : FindRoom J
  pub nodes_are : (n : ℕ) → n < 32 → NodeKeeps J n (node_in nodes n)
  pub stopped_are : (n : ℕ) → n < 32 → has_node set n ≡ stopped n (history J)

-- what is so under each setting and journal of which these nodes are
abbrev pub OfKeptNodes : List Node → ℕ → (Setting → List LaneEvent → Type 0) → Type 0
OfKeptNodes nodes set L = (S : Setting) (J : List LaneEvent) → AreKeptNodes S J nodes set → L S J
