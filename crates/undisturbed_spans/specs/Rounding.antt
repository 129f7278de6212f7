-- What a round has made of a lane's nodes so far, in a quiet span.
use Rattle.std.specs.Prelude.{◌≡◌, ◌≢◌, ◌⊎◌, ℕ, Bool, true, false, List, ◌∷◌, filter, Some, None, is_some, if◌then◌else◌}
use Rattle.std.specs.List.{list_any}
use Rattle.std.specs.FinMap as fin
use Rattle.bucket_ids.specs.Buckets.{Low, has_key}
use Rattle.entry_maps.specs.EntryCodes.{Entries}
use Rattle.pieces.specs.Pieces.{does_meet, is_piece}
use Rattle.messages.specs.declared.body.Body.TheVariants as body
use Rattle.messages.specs.declared.message.Message.{Message}
use Rattle.node_model.specs.Nodes as lane
use Rattle.lane_journals.specs.Buckets.{Bucket, Id, key_of}
use Rattle.lane_journals.specs.Events.{Content}
use Rattle.lane_journals.specs.Readers.{Given, sent, first_reply, returned, answer, is_read, round_of}
use Rattle.lane_journals.specs.Facts.{AnsweredApply}
use Rattle.lane_journals.specs.Meanings.{history}
use Rattle.lane_journals.specs.declared.event.LaneEvent.{LaneEvent}
use Rattle.lane_keeping.specs.NodeKeeping.{stamp_of}
use Rattle.lane_keeping.specs.Replaying.{sending}
use Rattle.pass_model.specs.Nodes.{Node, apply_node}
use Rattle.pass_model.specs.Scripts.{Script}
use Rattle.lane_keeping.specs.RoundKeeping.{was_sent, is_apply, is_of}
use Rattle.undisturbed_spans.specs.Undisturbed.{IsTakenOnce, IsTakenTwice}
use Rattle.undisturbed_spans.specs.Telling.{seen_nodes, held_in}

-- an answer has what the node has in the bucket, and names its pieces that meet it
pub record IsGiven (b : Low) (y : lane.Node) (g : Given) : Type 0 where
  pub held : (id : Id) → g.content id ≡ held_in b y.entries id
  pub names : (c : Bucket) (s : ℕ) → g.names c s ≡ list_any (is_piece c s) (filter (does_meet b) y.pieces)

-- whether the union of the round was sent to the node, and whether it was asked
abbrev pub was_told : ℕ → ℕ → ℕ → List LaneEvent → Bool
was_told v number n K = was_sent (is_of is_apply v number n) (history K)

abbrev pub was_asked : ℕ → ℕ → ℕ → List LaneEvent → Bool
was_asked v number n K = was_sent (is_of is_read v number n) (history K)

abbrev pub applied_if : Bool → Low → Content → Node → Node
applied_if t b U x = if t then apply_node b U x else x

-- from the first journal on: those that were told took the union, and nobody else changed; who was asked answered what it
-- had, and who was told accepted
pub record HasRounded (d : Script) (J K : List LaneEvent) (old now : ℕ → lane.Node) (v number : ℕ) (b : Low) (U : Content) : Type 0 where
  pub untold : (n : ℕ) → was_told v number n K ≡ false → now n ≡ old n
  pub seen : (n : ℕ) → seen_nodes d K now n ≡ applied_if (was_told v number n K) b U (seen_nodes d J old n)
  pub given : (n : ℕ) (g : Given) → answer v number n (history K) ≡ Some g → IsGiven b (old n) g
  pub answered : (n : ℕ) → was_asked v number n K ≡ true → is_some (answer v number n (history K)) ≡ true
  pub accepted : (n : ℕ) → was_told v number n K ≡ true → AnsweredApply v number n b (history K)

-- nothing was sent or answered in the round
pub record IsUnsent (K : List LaneEvent) (v number : ℕ) : Type 0 where
  pub told : (n : ℕ) → was_told v number n K ≡ false
  pub asked : (n : ℕ) → was_asked v number n K ≡ false
  pub answers : (n : ℕ) → answer v number n (history K) ≡ None

-- its next message was sent with a number that is new, to a node that wasn't told the union, and was taken once or twice
pub record IsNextOf (K L : List LaneEvent) (v number : ℕ) (b : Low) (k : ℕ) (m : Message) : Type 0 where
  pub unsent : sent k (history K) ≡ None
  pub silent : first_reply k (history K) ≡ None
  pub version_is : m.version ≡ v
  pub round_is : round_of v b (history K) ≡ number
  pub untold : was_told v number m.receiver K ≡ false
  pub takings : IsTakenOnce k (sending k m ∷ K) L ⊎ IsTakenTwice k (sending k m ∷ K) L

-- the entries are those of the union in the bucket
abbrev pub AreAlike : Low → Entries → Content → Type 0
AreAlike b u U = (id : Id) → has_key b (key_of id) ≡ true → stamp_of (fin.get u id) ≡ U id
