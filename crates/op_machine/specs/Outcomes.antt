-- What comes next in an operation: a message to one more recipient, or the outcome. It depends on nothing but the plan
-- and what was answered; whatever keeps the answers, a machine or a journal, gives them as tests.
use Rattle.std.specs.Prelude.{ℕ, Bool, true, not, ◌&&◌, nat_le, List, Option, None, Some, if◌then◌else◌}
use Rattle.global_ids.specs.Keys.{key_of}
use Rattle.node_sets.specs.Members.{has_node}
use Rattle.stamps.specs.declared.stamp.Stamp.{Stamp}
use Rattle.documents.specs.declared.entry.Entry.{Entry}
use Rattle.messages.specs.Noting.{message_of}
use Rattle.messages.specs.declared.message.Message.{Message}
use Rattle.messages.specs.declared.body.Body.{Body}
use Rattle.messages.specs.declared.body.Body.TheVariants.{Read, Store}
use Rattle.messages.specs.declared.outcome.Outcome.{Outcome}
use Rattle.messages.specs.declared.outcome.Outcome.TheVariants.{Acked, TooFew, NoMemory}
use Rattle.op_machine.specs.declared.plan.Plan.{Plan}
use Rattle.op_machine.specs.declared.tally.Tally.{Tally}
use Rattle.op_machine.specs.declared.tally.Heard.{Heard}
use Rattle.op_machine.specs.declared.verdict.Verdict.{Verdict}
use Rattle.op_machine.specs.declared.verdict.Verdict.TheVariants.{Ends, Writes}
use Rattle.op_machine.specs.Nodes.{first_node, count_nodes}
use Rattle.op_machine.specs.Judging.{looks, judged}

-- what was answered to the messages of one phase: of which nodes something was told, which of them took the message,
-- whether one wanted memory, and the newest entry that was shown
pub record Answers : Type 0 where
  pub told : ℕ → Bool
  pub answered : ℕ → Bool
  pub short : Bool
  pub seen : Option Entry

abbrev pub answers_of : Tally → Answers
answers_of t = record { told = λ n. has_node t.told n; answered = λ n. has_node t.answered n; short = t.short; seen = t.seen }

-- what was heard, with the entry that was seen
abbrev pub tally_of : Heard → Option Entry → Tally
tally_of h seen = record { told = h.told; answered = h.answered; short = h.short; seen = seen }

abbrev pub heard_of : Heard → Answers
heard_of h = answers_of (tally_of h None)

-- ---- recipients

-- those of which nothing was told
abbrev pub waits : Plan → Answers → ℕ → Bool
waits p a n = has_node p.recipients n && not (a.told n)

-- those that answered, and those that didn't
abbrev pub counts : Plan → Answers → ℕ → Bool
counts p a n = has_node p.recipients n && a.answered n

abbrev pub lacks : Plan → Answers → ℕ → Bool
lacks p a n = has_node p.recipients n && not (a.answered n)

abbrev pub has_enough : Plan → Answers → Bool
has_enough p a = nat_le p.acks (count_nodes (counts p a))

abbrev pub node_or_zero : Option ℕ → ℕ
node_or_zero None = 0
node_or_zero (Some n) = n

-- the active node where it lacks, else the least that does
abbrev pub absent_of : Option ℕ → (ℕ → Bool) → ℕ
absent_of None missing = node_or_zero (first_node missing)
absent_of (Some a) missing = if missing a then a else node_or_zero (first_node missing)

abbrev pub has_active : Option ℕ → (ℕ → Bool) → Bool
has_active None answered = true
has_active (Some a) answered = answered a

-- ---- outcomes

-- a node that wants memory is told in place of the count
abbrev pub too_few : Plan → Answers → Outcome
too_few p a = if a.short then NoMemory else TooFew (count_nodes (counts p a)) p.acks (absent_of p.active (lacks p a))

-- acknowledged exactly where enough recipients answered the Store, the active node among them if there is one
abbrev pub stored : Plan → Answers → Stamp → Outcome
stored p a s = if has_enough p a && has_active p.active a.answered then Acked s else too_few p a

-- the outcome by the Stores, once no recipient waits
abbrev pub stored_outcome : Option ℕ → Plan → Answers → Stamp → Option Outcome
stored_outcome (Some n) p a s = None
stored_outcome None p a s = Some (stored p a s)

-- what an operation that looks comes to once its Reads are over: too few answers come first
abbrev pub read_verdict : Plan → Answers → Verdict
read_verdict p a = if has_enough p a then judged p.operation p.stamp a.seen else Ends (too_few p a)

abbrev pub verdict : Plan → Answers → Verdict
verdict p reads = if looks p.operation then read_verdict p reads else judged p.operation p.stamp None

-- the outcome that follows, if all was told
abbrev pub verdict_outcome : Verdict → Plan → Answers → Option Outcome
verdict_outcome (Ends x) p stores = Some x
verdict_outcome (Writes e) p stores = stored_outcome (first_node (waits p stores)) p stores e.stamp

-- ---- what comes next

pub data Next : Type 0 where
  Asks : Message → Next
  Finishes : Outcome → Next

-- the Read of one document names its key's bucket
abbrev pub read_body : List ℕ → Body
read_body id = Read (record { bits = 58; low = key_of id }) (Some id)

-- the recipient that is to be read next
abbrev pub reader : Plan → Answers → Option ℕ
reader p reads = if looks p.operation then first_node (waits p reads) else None

abbrev pub store_next : Option ℕ → Plan → Answers → Entry → Next
store_next (Some n) p stores e = Asks (message_of p.origin n (Store e))
store_next None p stores e = Finishes (stored p stores e.stamp)

-- the entry goes to each recipient, in rising order
abbrev pub verdict_next : Verdict → Plan → Answers → Next
verdict_next (Ends x) p stores = Finishes x
verdict_next (Writes e) p stores = store_next (first_node (waits p stores)) p stores e

abbrev pub read_next : Option ℕ → Plan → Answers → Answers → Next
read_next (Some n) p reads stores = Asks (message_of p.origin n (read_body p.operation.id))
read_next None p reads stores = verdict_next (verdict p reads) p stores

-- first the Reads, to each recipient in rising order, where the operation looks; then what they come to
abbrev pub next_of : Plan → Answers → Answers → Next
next_of p reads stores = read_next (reader p reads) p reads stores

abbrev pub message_in : Next → Option Message
message_in (Asks m) = Some m
message_in (Finishes x) = None

abbrev pub outcome_in : Next → Option Outcome
outcome_in (Asks m) = None
outcome_in (Finishes x) = Some x

-- the Store that comes next, if there is an entry
abbrev pub store_to : Option ℕ → Plan → Entry → Option Message
store_to None p e = None
store_to (Some n) p e = Some (message_of p.origin n (Store e))

abbrev pub store_message : Plan → Answers → Option Entry → Option Message
store_message p stores None = None
store_message p stores (Some e) = store_to (first_node (waits p stores)) p e
