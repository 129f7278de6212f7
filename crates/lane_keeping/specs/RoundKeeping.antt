-- What is known of the round that is under way: what was sent and answered in it, as the journal says.
use Rattle.std.specs.Prelude.{◌≡◌, ◌↔◌, ◌==◌, ◌&&◌, ◌<◌, ◌≤◌, ℕ, Bool, true, false, nat_lt, List, [], ◌∷◌, Option, None, Some, is_some, if◌then◌else◌}
use Rattle.std.specs.List.{Contains}
use Rattle.bucket_ids.specs.Buckets.{Low, IsBucket}
use Rattle.node_sets.specs.Members.{has_node, size_of, size_below}
use Rattle.cluster_states.specs.declared.cluster_state.ClusterState.{ClusterState}
use Rattle.cluster_states.specs.Publishing.{serves}
use Rattle.pieces.specs.declared.piece.Piece.{Piece}
use Rattle.messages.specs.Noting.{message_of}
use Rattle.messages.specs.declared.message.Message.{Message as Letter}
use Rattle.messages.specs.declared.message.Origin.{Origin}
use Rattle.messages.specs.declared.body.Body.{Body as LetterBody}
use Rattle.messages.specs.declared.body.Body.TheVariants as body
use Rattle.messages.specs.declared.step.NodePieces.{NodePieces}
use Rattle.entry_maps.specs.EntryCodes.{Entries}
use Rattle.replica_store.specs.Replicas.{LieIn}
use Rattle.merge_rounds.specs.Rounds.{RoundState, did_show}
use Rattle.lane_journals.specs.Events.{Body, Apply, Sent}
use Rattle.lane_journals.specs.Readers.{Journal, Message, Given, sent, is_read, answer, round_in, round_of, running}
use Rattle.lane_journals.specs.Facts.{AnsweredApply}
use Rattle.lane_journals.specs.Meanings.{history, entry_at, names as names_of}
use Rattle.lane_journals.specs.Places.{receivers_of}
use Rattle.lane_journals.specs.declared.event.LaneEvent.{LaneEvent}
use Rattle.lane_keeping.specs.NodeKeeping.{AreWritten}
use Rattle.lane_keeping.specs.Unions.{IsUnion}
use Rattle.lane_keeping.specs.Asking.{IsJustSent}

-- ---- what was sent

-- a message that passes a test was sent
abbrev pub was_sent : (Message → Bool) → Journal → Bool
was_sent test [] = false
was_sent test (Sent k v d n x ∷ J) = if test (record { version = v; receiver = n; body = x; round = round_in v x J }) then true else was_sent test J
was_sent test (_ ∷ J) = was_sent test J

abbrev pub is_apply : Body → Bool
is_apply (Apply b u) = true
is_apply _ = false

-- a message of this kind belongs to the round of the version, and goes to the node
abbrev pub is_of : (Body → Bool) → ℕ → ℕ → ℕ → Message → Bool
is_of kind v number n m = kind m.body && m.version == v && m.round == number && m.receiver == n

-- of the members of a set just the first ones, in rising order
abbrev pub is_among_first : ℕ → ℕ → ℕ → Bool
is_among_first set many n = has_node set n && nat_lt (size_below set n) many

-- ---- who answered

-- the pieces are just those that the answer names
pub record IsNamed (replied : Option Given) (pieces : List Piece) : Type 0 where
  pub answer : Given
  pub given : replied ≡ Some answer
  pub names : (p : Piece) → Contains pieces p → answer.names p.bucket p.serial ≡ true
  pub names_are : answer.names ≡ names_of pieces

-- of the round with this number in the row each answer to a Read is one that was shown, and so are its entries and
-- the pieces that it names; whoever answered the Apply is a holder
pub record AreAnswers (number : ℕ) (J : List LaneEvent) (s : ClusterState) (row : Low) (readers receivers : ℕ) (shown : List NodePieces) (union : Entries) (holders : ℕ) : Type 0 where
  pub readers_are : (n : ℕ) → has_node readers n ≡ serves s n
  pub receivers_are : receivers_of s.version row J ≡ Some receivers
  pub shown_are : (n : ℕ) → did_show n shown ≡ is_some (answer s.version number n (history J))
  pub pieces_are : (x : NodePieces) → Contains shown x → IsNamed (answer s.version number x.node (history J)) x.pieces
  pub reading : (n : ℕ) → did_show n shown ≡ true → has_node readers n ≡ true
  pub union_is : IsUnion s.version number (history J) (λ n. did_show n shown) union
  pub written : AreWritten (λ t. entry_at t J) union
  pub lies : LieIn row union
  pub holders_are : (n : ℕ) → (has_node holders n ≡ true) ↔ AnsweredApply s.version number n row (history J)

-- those of a round with this number
abbrev pub KnowsAnswersOf : ℕ → List LaneEvent → ClusterState → RoundState → Type 0
KnowsAnswersOf number J s r = AreAnswers number J s r.row r.readers r.receivers r.shown r.union r.holders

-- those of the newest round of the row
abbrev pub KnowsAnswers : List LaneEvent → ClusterState → RoundState → Type 0
KnowsAnswers J s r = KnowsAnswersOf (round_of s.version r.row (history J)) J s r

-- ---- the round that is under way

-- what the owner puts into its messages
abbrev pub origin_in : Low → ℕ → ClusterState → Origin
origin_in lane d s = record { version = s.version; lane = lane.low; sender = d }

-- a reader that hasn't answered
pub record IsReading (r : RoundState) (n : ℕ) : Type 0 where
  pub reader : has_node r.readers n ≡ true
  pub unshown : did_show n r.shown ≡ false

-- the owner's round with this number
pub record KnowsRoundOf (number : ℕ) (lane : Low) (J : List LaneEvent) (d : ℕ) (s : ClusterState) (r : RoundState) : Type 0 where
  pub valid : IsBucket r.row
  pub origin_is : r.origin ≡ origin_in lane d s
  pub under_way : running s.version r.row (history J) ≡ true
  -- no other round of the version is
  pub only : (b : Low) → running s.version b (history J) ≡ true → b ≡ r.row
  pub reads_are : (n : ℕ) → was_sent (is_of is_read s.version number n) (history J) ≡ is_among_first r.readers r.reads n
  pub applies_are : (n : ℕ) → was_sent (is_of is_apply s.version number n) (history J) ≡ is_among_first r.receivers r.applies n
  -- no union is sent before all were asked
  pub order : 0 < r.applies → size_of r.readers ≤ r.reads
  -- until then the node that is waited for is one that is asked
  pub reading : (n : ℕ) → r.applies ≡ 0 → r.awaited ≡ Some n → IsReading r n
  pub receivers_serve : (n : ℕ) → has_node r.receivers n ≡ true → serves s n ≡ true
  pub answers : KnowsAnswersOf number J s r

-- the newest round of its row
abbrev pub KnowsRound : Low → List LaneEvent → ℕ → ClusterState → RoundState → Type 0
KnowsRound lane J d s r = KnowsRoundOf (round_of s.version r.row (history J)) lane J d s r

-- no round of the version is under way in the lane
abbrev pub NoRound : List LaneEvent → ClusterState → Type 0
NoRound J s = (b : Low) → running s.version b (history J) ≡ false

-- ---- the message that is waited for

-- a Read of the whole row, and once a union was sent that
abbrev pub body_of : RoundState → LetterBody
body_of r = if r.applies == 0 then body.Read r.row None else body.Apply r.row r.union

-- the round's message was sent, and nothing happened to it yet
pub record IsAwaited (J : List LaneEvent) (r : RoundState) (number : ℕ) (m : Letter) : Type 0 where
  pub awaited : r.awaited ≡ Some m.receiver
  pub is : m ≡ message_of r.origin m.receiver (body_of r)
  pub just : IsJustSent J number m
  pub of_round : (x : Message) → sent number (history J) ≡ Some x → x.round ≡ round_of m.version r.row (history J)
