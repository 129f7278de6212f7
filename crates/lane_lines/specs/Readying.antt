-- What an operation that isn't prepared comes to: its row has enough complete members, or too few answered.
use Rattle.std.specs.Prelude.{◌≡◌, ◌≤◌, ℕ, true, List, Option, None, Some, IsSome}
use Rattle.bucket_ids.specs.Buckets.{Low}
use Rattle.node_sets.specs.Members.{size_of}
use Rattle.stamps.specs.declared.stamp.Stamp.{Stamp}
use Rattle.cluster_states.specs.declared.cluster_state.ClusterState.{ClusterState}
use Rattle.messages.specs.declared.operation.Operation.{Operation}
use Rattle.messages.specs.declared.outcome.Outcome.{Outcome}
use Rattle.messages.specs.declared.outcome.Outcome.TheVariants as outcome
use Rattle.bucket_db.specs.Rows.{Rows}
use Rattle.bucket_db.specs.declared.row.Row.{Row}
use Rattle.distributor_part.specs.Steps.{IsRowOf}
use Rattle.lane_journals.specs.Buckets.{contains, key_of}
use Rattle.lane_journals.specs.Facts.{Idle}
use Rattle.lane_journals.specs.Readers.{Journal, Message, sent, opened}
use Rattle.lane_journals.specs.Meanings.{history}
use Rattle.lane_journals.specs.KeptJournals.{IsLegalStep}
use Rattle.lane_journals.specs.declared.event.LaneEvent.{LaneEvent}
use Rattle.lane_journals.specs.declared.event.LaneEvent.TheVariants.{Closed}
use Rattle.lane_keeping.specs.LaneKeeping.{setting_of}
use Rattle.lane_keeping.specs.Acting.{IsActing, IsKnownRow}
use Rattle.operation_keeping.specs.OperationKeeping.{KnowsPreparing}
use Rattle.operation_keeping.specs.Wants.{NoRoundSince, IsRunSince, IsCutRunSince, IsEndSince}
use Rattle.lane_states.specs.declared.lane_state.LaneState.{LaneState}
use Rattle.lane_lines.specs.declared.readying.Shortage.{Shortage}
use Rattle.lane_lines.specs.declared.readying.Shortage.TheVariants as shortage
use Rattle.lane_states.specs.LaneStates.{journal_of, part_of}

-- the outcome of an operation that ends so
abbrev pub outcome_of : Shortage → Outcome
outcome_of shortage.NoMemory = outcome.NoMemory
outcome_of (shortage.TooFew answered needed absent) = outcome.TooFew answered needed absent

-- ---- the line

-- the line was begun at the owner, which holds the state, and isn't prepared
pub record IsToPrepare (lane : Low) (J : List LaneEvent) (line : ℕ) (o : Operation) (d : ℕ) (s : ClusterState) (stamp : Option Stamp) : Type 0 where
  pub acting : IsActing lane J d s
  pub knows : KnowsPreparing lane (history J) d s line o stamp

-- what was sent by an earlier journal stays sent
abbrev pub HasSent : Journal → List LaneEvent → Type 0
HasSent from J = (k : ℕ) (m : Message) → sent k from ≡ Some m → sent k (history J) ≡ Some m

-- and no round of the version was begun since
abbrev pub BeganNoRound : List LaneEvent → Journal → ℕ → Type 0
BeganNoRound J from v = (b : Low) → NoRoundSince J from v b

-- some line is to be prepared there, for a document with the key
pub record IsForLine (c : LaneState) (d key : ℕ) : Type 0 where
  pub line : ℕ
  pub operation : Operation
  pub state : ClusterState
  pub stamp : Option Stamp
  pub waits : IsToPrepare c.lane (journal_of c) line operation d state stamp
  pub key_is : key ≡ key_of operation.id

-- a law of each such line
abbrev pub OfUnprepared : LaneState → ℕ → ℕ → (ℕ → Operation → ClusterState → Option Stamp → Type 0) → Type 0
OfUnprepared c d key L = (line : ℕ) (o : Operation) (s : ClusterState) (stamp : Option Stamp)
    → IsToPrepare c.lane (journal_of c) line o d s stamp → key ≡ key_of o.id → L line o s stamp

-- and of each search for its row that began with an earlier journal and has begun no round
abbrev pub OfSearches : LaneState → ℕ → ℕ → (Journal → ℕ → Operation → ClusterState → Option Stamp → Type 0) → Type 0
OfSearches c d key L = OfUnprepared c d key (λ line o s stamp. (from : Journal) → HasSent from (journal_of c) → BeganNoRound (journal_of c) from s.version → L from line o s stamp)

-- the search begins now
abbrev pub search_from : LaneState → Journal
search_from c = history (journal_of c)

-- ---- what it comes to

-- the line went on by what it wanted, and still is to be prepared
pub record GoesOnWith (from : Journal) (c e : LaneState) (line : ℕ) (o : Operation) (d : ℕ) (s : ClusterState) (stamp : Option Stamp) : Type 0 where
  pub run : IsRunSince c.lane c.rules line o from (journal_of c) (journal_of e)
  pub still : IsToPrepare c.lane (journal_of e) line o d s stamp

-- the same of a line that was cut off for want of memory
pub record IsCutOffWith (from : Journal) (c e : LaneState) (line : ℕ) (o : Operation) (d : ℕ) (s : ClusterState) (stamp : Option Stamp) : Type 0 where
  pub run : IsCutRunSince c.lane c.rules line o from (journal_of c) (journal_of e)
  pub still : IsToPrepare c.lane (journal_of e) line o d s stamp

-- the line wants to end so, and may
pub record EndsShort (from : Journal) (c : LaneState) (line : ℕ) (o : Operation) (x : Shortage) : Type 0 where
  pub wanted : IsEndSince c.lane c.rules line o from (journal_of c) (outcome_of x)
  pub legal : IsLegalStep (setting_of c.lane c.rules) (journal_of c) (Closed line (outcome_of x))

-- the state is opened, and no operation is prepared under it
pub record IsOpenedFor (from : Journal) (c : LaneState) (d : ℕ) (s : ClusterState) : Type 0 where
  pub opened_is : opened s.version (history (journal_of c)) ≡ true
  pub rows : IsSome (part_of c d).rows
  pub no_round : BeganNoRound (journal_of c) from s.version
  pub sent_stays : HasSent from (journal_of c)
  pub idle : (b : Low) → Idle s.version b (history (journal_of c))

-- the row of the key has enough complete members
pub record HasRowFor (c : LaneState) (v key : ℕ) : Type 0 where
  pub opened_is : opened v (history (journal_of c)) ≡ true
  pub enough : (row : Row) → IsKnownRow v (history (journal_of c)) row → contains row.bucket key ≡ true → c.rules.acks ≤ size_of row.complete

-- the row is one of these and has the key
abbrev pub HasRowWith : Option Rows → ℕ → Row → Type 0
HasRowWith None key row = ⊥
HasRowWith (Some d) key row = (at : ℕ) × IsRowOf d key at row

-- what the opening came to, and what the search for a row
abbrev pub OpensOr : Journal → LaneState → ℕ → ℕ → Operation → ClusterState → Option Shortage → Type 0
OpensOr from e d line o s None = IsOpenedFor from e d s
OpensOr from e d line o s (Some x) = EndsShort from e line o x

abbrev pub FindsOr : Journal → LaneState → ℕ → Operation → ClusterState → Option Shortage → Type 0
FindsOr from e line o s None = HasRowFor e s.version (key_of o.id)
FindsOr from e line o s (Some x) = EndsShort from e line o x
