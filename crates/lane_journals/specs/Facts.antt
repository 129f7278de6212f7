-- Messages that were sent, taken and answered.
use Rattle.std.specs.Prelude.{◌≡◌, ℕ, ◌^◌, ◌<◌, Bool, true, false, Option, Some, None}
use Rattle.lane_journals.specs.Stamps.{Stamp, Le}
use Rattle.lane_journals.specs.Buckets.{Id, Bucket, contains}
use Rattle.lane_journals.specs.Events.{Content, Ask, Read, ReadDoc, Store, Apply, Ready, Activate, Answer}
use Rattle.lane_journals.specs.Readers.{Journal, Beginning, Preparing, began, prepared, closed, before_line, opened, row_at, complete, Message, sent, first_reply, returned, Accepted, Given}

-- a Read of the round was answered by the node, be it returned or not
pub record Shown (v r n : ℕ) (b : Bucket) (g : Given) (J : Journal) : Type 0 where
  pub number : ℕ
  pub message : Message
  pub was_sent : sent number J ≡ Some message
  pub receiver : message.receiver ≡ n
  pub version : message.version ≡ v
  pub round : message.round ≡ r
  pub body : message.body ≡ Read b
  pub reply : first_reply number J ≡ Some (Answer g.content g.names)

-- the node took the union of the round
pub record Took (v r n : ℕ) (b : Bucket) (u : Content) (J : Journal) : Type 0 where
  pub number : ℕ
  pub message : Message
  pub was_sent : sent number J ≡ Some message
  pub receiver : message.receiver ≡ n
  pub version : message.version ≡ v
  pub round : message.round ≡ r
  pub body : message.body ≡ Apply b u
  pub accepted : Accepted number J

-- an Apply of the round was sent
pub record Applied (v r n : ℕ) (b : Bucket) (u : Content) (J : Journal) : Type 0 where
  pub number : ℕ
  pub message : Message
  pub was_sent : sent number J ≡ Some message
  pub receiver : message.receiver ≡ n
  pub version : message.version ≡ v
  pub round : message.round ≡ r
  pub body : message.body ≡ Apply b u

-- an Apply of the round brings x to the node
abbrev pub Gives : ℕ → ℕ → ℕ → Bucket → Content → Id → Option Stamp → Journal → Type 0
Gives v r n b u id x J = Le x (u id)

-- the node answered an Apply of the bucket's newest round, and the answer was returned
pub record AnsweredApply (v r n : ℕ) (b : Bucket) (J : Journal) : Type 0 where
  pub number : ℕ
  pub message : Message
  pub union : Content
  pub content : Content
  pub names : Bucket → ℕ → Bool
  pub was_sent : sent number J ≡ Some message
  pub receiver : message.receiver ≡ n
  pub version : message.version ≡ v
  pub round : message.round ≡ r
  pub body : message.body ≡ Apply b union
  pub reply : first_reply number J ≡ Some (Answer content names)
  pub back : returned number J ≡ true

-- the node answered an Ask of v
pub record AnsweredAsk (v n : ℕ) (J : Journal) : Type 0 where
  pub number : ℕ
  pub message : Message
  pub content : Content
  pub names : Bucket → ℕ → Bool
  pub was_sent : sent number J ≡ Some message
  pub receiver : message.receiver ≡ n
  pub version : message.version ≡ v
  pub body : message.body ≡ Ask
  pub reply : first_reply number J ≡ Some (Answer content names)
  pub back : returned number J ≡ true

-- the node answered a Ready of the bucket
pub record AnsweredReady (v n : ℕ) (b : Bucket) (J : Journal) : Type 0 where
  pub number : ℕ
  pub message : Message
  pub content : Content
  pub names : Bucket → ℕ → Bool
  pub was_sent : sent number J ≡ Some message
  pub receiver : message.receiver ≡ n
  pub version : message.version ≡ v
  pub body : message.body ≡ Ready b
  pub reply : first_reply number J ≡ Some (Answer content names)
  pub back : returned number J ≡ true

-- a Store of the entry was accepted at the node
pub record TookStore (id : Id) (s : Stamp) (n : ℕ) (J : Journal) : Type 0 where
  pub number : ℕ
  pub message : Message
  pub was_sent : sent number J ≡ Some message
  pub receiver : message.receiver ≡ n
  pub body : message.body ≡ Store id s
  pub accepted : Accepted number J

pub record IsRow (v : ℕ) (b : Bucket) (J : Journal) : Type 0 where
  pub fits : b.low < 2 ^ b.bits
  pub opened : opened v J ≡ true
  pub row : (key : ℕ) → contains b key ≡ true → row_at v key J ≡ Some b

-- the node is a complete member of the row
abbrev pub IsMember : ℕ → ℕ → Bucket → Journal → Type 0
IsMember v n b J = (key : ℕ) → contains b key ≡ true → complete v n key J ≡ true

-- an operation of v that is prepared and not closed
pub record IsOpen (v line : ℕ) (b : Beginning) (p : Preparing) (J : Journal) : Type 0 where
  pub began : began line J ≡ Some b
  pub version : b.version ≡ v
  pub prepared : prepared line J ≡ Some p
  pub unclosed : closed line J ≡ false

-- no operation is prepared and not closed in the row
abbrev pub Idle : ℕ → Bucket → Journal → Type 0
Idle v b J = (line : ℕ) (begin : Beginning) (p : Preparing) → IsOpen v line begin p J → p.row ≡ b → ⊥

-- the key lies in the region of version v at the node
pub record InRegion (v n key : ℕ) (J : Journal) : Type 0 where
  pub number : ℕ
  pub message : Message
  pub bucket : Bucket
  pub was_sent : sent number J ≡ Some message
  pub receiver : message.receiver ≡ n
  pub version : message.version ≡ v
  pub body : message.body ≡ Activate bucket
  pub accepted : Accepted number J
  pub inside : contains bucket key ≡ true

-- a Read of the line's document, sent after the line began, was answered by the node
pub record ReadAt (n line : ℕ) (begin : Beginning) (content : Content) (J : Journal) : Type 0 where
  pub number : ℕ
  pub message : Message
  pub names : Bucket → ℕ → Bool
  pub was_sent : sent number J ≡ Some message
  pub later : sent number (before_line line J) ≡ None
  pub receiver : message.receiver ≡ n
  pub version : message.version ≡ begin.version
  pub body : message.body ≡ ReadDoc begin.id
  pub reply : first_reply number J ≡ Some (Answer content names)

-- a Read of the line's document was sent after the line began
pub record WasAsked (line : ℕ) (begin : Beginning) (J : Journal) : Type 0 where
  pub number : ℕ
  pub message : Message
  pub was_sent : sent number J ≡ Some message
  pub later : sent number (before_line line J) ≡ None
  pub version : message.version ≡ begin.version
  pub body : message.body ≡ ReadDoc begin.id

-- the node's answer to such a Read came back
pub record ReadBack (n line : ℕ) (begin : Beginning) (content : Content) (J : Journal) : Type 0 where
  pub read : ReadAt n line begin content J
  pub back : returned read.number J ≡ true

-- each line that was begun is closed
abbrev pub AllClosed : Journal → Type 0
AllClosed H = (line : ℕ) (begin : Beginning) → began line H ≡ Some begin → closed line H ≡ true
